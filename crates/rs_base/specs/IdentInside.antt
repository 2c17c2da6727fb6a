-- An identifier in its array: its bytes, and zeros after them.
use Rattle.std.specs.Prelude.{◌≡◌, ℕ, ◌-◌, ◌≤◌, List, ◌++◌, length, take, drop, replicate, IsTrue}
use Rattle.std.proofs.Common.{◌∙◌, ap, arith}
use Rattle.std.proofs.lemmas.List.{length-take, take-append-drop}
use Rattle.rs_base.specs.declared.ident.Ident.TheInside.{Inside}
use Rattle.rs_base.specs.Ident.{is_ident}

abbrev pub name_of : Inside → List ℕ
name_of a = take a.len a.bytes

pub record IsPadded (a : Inside) : Type 0 where
  pub whole : length a.bytes ≡ 24
  pub within : a.len ≤ 24
  pub zeros : drop a.len a.bytes ≡ replicate (24 - a.len) 0
  pub ident : IsTrue (is_ident (take a.len a.bytes))

abbrev pub inside_of : List ℕ → Inside
inside_of bytes = record { bytes = bytes ++ replicate (24 - length bytes) 0; len = length bytes }

length_is : (a : Inside) → IsPadded a → length (name_of a) ≡ a.len
length_is a h = omega (arith, length-take a.len a.bytes, h.whole, h.within)

bytes_are : (a : Inside) → IsPadded a → name_of a ++ replicate (24 - length (name_of a)) 0 ≡ a.bytes
bytes_are a h = rw (length_is a h, ← h.zeros) (take-append-drop a.len a.bytes)

pub inside_of-name_of : (a : Inside) → IsPadded a → inside_of (name_of a) ≡ a
inside_of-name_of a h = ap (λ (bytes : List ℕ). record { bytes = bytes; len = length (name_of a) }) (bytes_are a h) ∙ ap (λ (n : ℕ). record { bytes = a.bytes; len = n }) (length_is a h)
