-- Forms: how the values of a type are encoded. The form of a composite value is made of the forms of its parts.
use Rattle.std.specs.Prelude.{◌≡◌, ℕ, zero, suc, ◌^◌, ◌==◌, nat_lt, Bool, true, ◌&&◌, List, [], ◌∷◌, ◌++◌, flat_map, length, Option, Some, None, IsTrue, if◌then◌else◌}
use Rattle.std.specs.List.{list_all}
use Rattle.rs_base.specs.Reading.{◌>>=◌}
use Rattle.rs_codec.specs.Reader.{byte_at, count_at}
use Rattle.rs_codec.specs.Written.{count_bytes}

-- fits x      the value has an encoding
-- bytes x     its encoding
-- at bytes    the value whose encoding begins the bytes, with the bytes after it; None if there is none
pub record Form (T : Type 0) : Type 0 where
  pub fits : T → Bool
  pub bytes : T → List ℕ
  pub at : List ℕ → Option (T × List ℕ)

-- What is encoded is read again, whatever follows it, and nothing else is read. So a value has one encoding, no
-- encoding begins another one, and reading gives None exactly if no encoding begins the bytes.
pub record IsForm {T : Type 0} (form : Form T) : Type 0 where
  pub again : (x : T) (rest : List ℕ) → IsTrue (form.fits x) → form.at (form.bytes x ++ rest) ≡ Some (x, rest)
  pub only : (bytes rest : List ℕ) (x : T) → form.at bytes ≡ Some (x, rest) → IsTrue (form.fits x) × (bytes ≡ form.bytes x ++ rest)

module _ {T : Type 0} where
  -- those values that satisfy a test
  abbrev pub if_ok : (T → Bool) → T × List ℕ → Option (T × List ℕ)
  if_ok test read = if test read.0 then Some read else None

  abbrev pub tested : (T → Bool) → Form T → Form T
  tested test form = record { fits = λ x. test x && form.fits x; bytes = form.bytes; at = λ bytes. form.at bytes >>= if_ok test }

module _ {A B : Type 0} where
  -- one value, and then another one
  abbrev pub both : Form A → Form B → Form (A × B)
  both first second = record {
    fits = λ x. first.fits x.0 && second.fits x.1;
    bytes = λ x. first.bytes x.0 ++ second.bytes x.1;
    at = λ bytes. first.at bytes >>= λ a. second.at a.1 >>= λ b. Some ((a.0, b.0), b.1);
  }

  -- a value by its parts: `of` makes it of them, and `parts` gives them
  abbrev pub via : (A → B) → (B → A) → Form A → Form B
  via of parts form = record {
    fits = λ x. form.fits (parts x);
    bytes = λ x. form.bytes (parts x);
    at = λ bytes. form.at bytes >>= λ a. Some (of a.0, a.1);
  }

-- nothing at all
abbrev pub bare : Form (Unit {0})
bare = record { fits = λ x. true; bytes = λ x. []; at = λ bytes. Some (tt, bytes) }

module _ {T : Type 0} (form : Form T) where
  abbrev pub option_fits : Option T → Bool
  option_fits None = true
  option_fits (Some x) = form.fits x

  abbrev pub option_bytes : Option T → List ℕ
  option_bytes None = 0 ∷ []
  option_bytes (Some x) = 1 ∷ form.bytes x

  abbrev pub some_at : List ℕ → Option (Option T × List ℕ)
  some_at bytes = form.at bytes >>= λ x. Some (Some x.0, x.1)

  abbrev pub option_at : ℕ × List ℕ → Option (Option T × List ℕ)
  option_at kind = if kind.0 == 0 then Some (None, kind.1) else (if kind.0 == 1 then some_at kind.1 else None)

  -- the byte 0, or the byte 1 and the value
  unfoldable pub option : Form (Option T)
  option = record { fits = option_fits; bytes = option_bytes; at = λ bytes. byte_at bytes >>= option_at }

  abbrev pub items_bytes : List T → List ℕ
  items_bytes xs = flat_map form.bytes xs

  -- as many values
  abbrev pub items_at : ℕ → List ℕ → Option (List T × List ℕ)
  items_at zero bytes = Some ([], bytes)
  items_at (suc n) bytes = form.at bytes >>= λ x. items_at n x.1 >>= λ xs. Some (x.0 ∷ xs.0, xs.1)

  -- the number of the values, and then the values
  unfoldable pub list : Form (List T)
  list = record {
    fits = λ xs. nat_lt (length xs) (2 ^ 64) && list_all form.fits xs;
    bytes = λ xs. count_bytes (length xs) ++ items_bytes xs;
    at = λ bytes. count_at bytes >>= λ n. items_at n.0 n.1;
  }
