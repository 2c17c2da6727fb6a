-- Readers of fields: a value is read exactly if its encoding begins the bytes, whatever follows it.
use Rattle.std.proofs.Common.{◌≡◌, ℕ, zero, suc, ◌+◌, ◌-◌, ◌*◌, ◌%◌, ◌^◌, ◌<◌, ℤ, pos, negsuc, Bool, cond, true, false, leb, ltb, eqb, List, [], ◌∷◌, ◌++◌, length, take, drop, Option, Some, None, refl, sym, ap, subst, ◌∙◌, arith, ◌⊎◌, inl, inr, length-append}
use Rattle.std.specs.Prelude.{bytes_eq}
use Rattle.std.specs.Int.{w32, w64, to_be_bytes, from_be_bytes}
use Rattle.std.proofs.lemmas.Bool.{lt-ltb, le-ltb, ltb-true, leb-true, le-leb, ltb-false, eq-eqb, ne_eqb}
use Rattle.std.proofs.lemmas.Bool.Decides.{eqb_tells}
use Rattle.std.proofs.lemmas.List.{take_at, drop_at, take-append-drop}
use Rattle.std.proofs.lemmas.Nat.{from_be_bytes-to_be_bytes_4, from_be_bytes-to_be_bytes_8}
use Rattle.std.proofs.lemmas.Option.{cond_some, same_Some}
use Rattle.std.proofs.lemmas.Slice.Eq.{bytes_eq-Decides}
use Rattle.rs_base.proofs.Steps.{bind_some, held}
use Rattle.rs_base.specs.Reading.{◌>>=◌}
use Rattle.rs_codec.specs.Encoding.{IsByte, IsU32, IsU64, IsGroups, IsCount, count_of, IsInt, IsText, Takes, NoneBegins}
use Rattle.rs_codec.specs.Laws.{IsReadBy}
use Rattle.rs_codec.specs.Reader.{byte_at, if_encoded, u32_at, u64_at, above_group, groups_at, count_at, int_of, int_at, text_at}
use Rattle.rs_codec.proofs.Groups.{takes_last, takes_more}
use Rattle.rs_codec.proofs.Encodings.{suffix_count, takes_text}

-- ---- steps

-- a step that gave a value, and the value's continuation
pub bind_at : {A B : Type 0} (read : Option A) (f : A → Option B) (x : A) → read ≡ Some x → (read >>= f) ≡ f x
bind_at read f x e = ap (λ (o : Option _). o >>= f) e

-- a test that had to fail, since a value was given
pub passed : {A : Type 0} (test : Bool) (read : Option A) (y : A) → cond test None read ≡ Some y → (test ≡ false) × (read ≡ Some y)
passed true read y e = absurd cc
passed false read y e = (refl, e)

pub first_of_pair : {A B : Type 0} (x y : A × B) → ◌≡◌ {A = Option (A × B)} (Some x) (Some y) → x.0 ≡ y.0
first_of_pair x y e = ap (λ p. p.0) (same_Some x y e)

pub second_of_pair : {A B : Type 0} (x y : A × B) → ◌≡◌ {A = Option (A × B)} (Some x) (Some y) → x.1 ≡ y.1
second_of_pair x y e = ap (λ p. p.1) (same_Some x y e)

-- one of two
pub either : {A : Type 0} (test : Bool) (x y : Option A) (z : A) → cond test x y ≡ Some z → ((test ≡ true) × (x ≡ Some z)) ⊎ ((test ≡ false) × (y ≡ Some z))
either true x y z e = inl (refl, e)
either false x y z e = inr (refl, e)

none_from : {A : Type 0} (read : Option A) → ((x : A) → read ≡ Some x → ⊥) → read ≡ None
none_from None h = refl
none_from (Some x) h = absurd (h x refl)

-- ---- any field

module _ {X : Type 0} (IsX : List ℕ → X → Type 0) (x_at : List ℕ → Option (X × List ℕ)) where
  pub read_by : ((encoding rest : List ℕ) (x : X) → IsX encoding x → x_at (encoding ++ rest) ≡ Some (x, rest)) → ((bytes rest : List ℕ) (x : X) → x_at bytes ≡ Some (x, rest) → Takes IsX bytes rest x) → IsReadBy IsX x_at
  read_by forth back bytes rest x = (λ t. ap x_at t.parts ∙ forth t.encoding rest x t.encoded, λ e. back bytes rest x e)

  -- if no encoding begins the bytes, none is read
  pub ends_there : IsReadBy IsX x_at → (bytes : List ℕ) → NoneBegins IsX bytes → x_at bytes ≡ None
  ends_there reads bytes none = none_from (x_at bytes) (λ x e. let t = (reads bytes x.1 x.0).1 e in none x.0 t.encoding x.1 t.encoded t.parts)

  -- an encoding is read, whatever follows it
  pub read_again : IsReadBy IsX x_at → (encoding rest : List ℕ) (x : X) → IsX encoding x → x_at (encoding ++ rest) ≡ Some (x, rest)
  read_again reads encoding rest x is = (reads (encoding ++ rest) rest x).0 (record { encoding = encoding; encoded = is; parts = refl })

-- ---- numbers of one, four and eight bytes

byte_back : (bytes rest : List ℕ) (x : ℕ) → byte_at bytes ≡ Some (x, rest) → Takes IsByte bytes rest x
byte_back [] rest x e = absurd cc
byte_back (b ∷ bytes) rest x e =
    let c = cond_some (ltb b 256) (b, bytes) (x, rest) e in
    subst (λ (p : ℕ × List ℕ). Takes IsByte (b ∷ bytes) p.1 p.0) c.1 (record { encoding = b ∷ []; encoded = (ltb-true b 256 c.0, refl); parts = refl })

byte_forth : (encoding rest : List ℕ) (x : ℕ) → IsByte encoding x → byte_at (encoding ++ rest) ≡ Some (x, rest)
byte_forth encoding rest x is = ap (λ (bs : List ℕ). byte_at (bs ++ rest)) is.1 ∙ rw (lt-ltb x 256 is.0) refl

pub byte_read : IsReadBy IsByte byte_at
byte_read = read_by IsByte byte_at byte_forth byte_back

encoded_back : (bytes prefix tail encoding rest : List ℕ) (n x : ℕ) → bytes ≡ prefix ++ tail → if_encoded prefix encoding n tail ≡ Some (x, rest) → (x ≡ n) × (bytes ≡ encoding ++ rest)
encoded_back bytes prefix tail encoding rest n x parts e =
    let c = cond_some (bytes_eq prefix encoding) (n, tail) (x, rest) e in
    let same : prefix ≡ encoding = (bytes_eq-Decides prefix encoding).0 c.0 in
    (sym (ap (λ (p : ℕ × List ℕ). p.0) c.1), parts ∙ ap (λ (bs : List ℕ). bs ++ tail) same ∙ ap (λ (p : ℕ × List ℕ). encoding ++ p.1) c.1)

encoded_self : (bytes rest : List ℕ) (n : ℕ) → if_encoded bytes bytes n rest ≡ Some (n, rest)
encoded_self bytes rest n = rw ((bytes_eq-Decides bytes bytes).1 refl) refl

u32_back : (bytes rest : List ℕ) (x : ℕ) → u32_at bytes ≡ Some (x, rest) → Takes IsU32 bytes rest x
unfolding u32_at
u32_back bytes rest x e =
    let n = from_be_bytes w32 (take 4 bytes) % 2 ^ 32 in
    let s = encoded_back bytes (take 4 bytes) (drop 4 bytes) (to_be_bytes w32 n) rest n x (sym (take-append-drop 4 bytes)) e in
    record { encoding = to_be_bytes w32 x; encoded = (omega (arith, s.0), refl); parts = s.1 ∙ ap (λ (m : ℕ). to_be_bytes w32 m ++ rest) (sym s.0) }

u32_forth : (rest : List ℕ) (x : ℕ) → x < 2 ^ 32 → u32_at (to_be_bytes w32 x ++ rest) ≡ Some (x, rest)
unfolding u32_at
u32_forth rest x below =
    let n : from_be_bytes w32 (to_be_bytes w32 x) % 2 ^ 32 ≡ x = ap (λ (m : ℕ). m % 2 ^ 32) (from_be_bytes-to_be_bytes_4 x below) ∙ omega (arith, below) in
    ap (λ (m : ℕ). if_encoded (to_be_bytes w32 x) (to_be_bytes w32 m) m rest) n ∙ encoded_self (to_be_bytes w32 x) rest x

pub u32_read : IsReadBy IsU32 u32_at
u32_read = read_by IsU32 u32_at (λ s rest x is. ap (λ (bs : List ℕ). u32_at (bs ++ rest)) is.1 ∙ u32_forth rest x is.0) u32_back

u64_back : (bytes rest : List ℕ) (x : ℕ) → u64_at bytes ≡ Some (x, rest) → Takes IsU64 bytes rest x
unfolding u64_at
u64_back bytes rest x e =
    let n = from_be_bytes w64 (take 8 bytes) % 2 ^ 64 in
    let s = encoded_back bytes (take 8 bytes) (drop 8 bytes) (to_be_bytes w64 n) rest n x (sym (take-append-drop 8 bytes)) e in
    record { encoding = to_be_bytes w64 x; encoded = (omega (arith, s.0), refl); parts = s.1 ∙ ap (λ (m : ℕ). to_be_bytes w64 m ++ rest) (sym s.0) }

u64_forth : (rest : List ℕ) (x : ℕ) → x < 2 ^ 64 → u64_at (to_be_bytes w64 x ++ rest) ≡ Some (x, rest)
unfolding u64_at
u64_forth rest x below =
    let n : from_be_bytes w64 (to_be_bytes w64 x) % 2 ^ 64 ≡ x = ap (λ (m : ℕ). m % 2 ^ 64) (from_be_bytes-to_be_bytes_8 x below) ∙ omega (arith, below) in
    ap (λ (m : ℕ). if_encoded (to_be_bytes w64 x) (to_be_bytes w64 m) m rest) n ∙ encoded_self (to_be_bytes w64 x) rest x

pub u64_read : IsReadBy IsU64 u64_at
u64_read = read_by IsU64 u64_at (λ s rest x is. ap (λ (bs : List ℕ). u64_at (bs ++ rest)) is.1 ∙ u64_forth rest x is.0) u64_back

-- ---- counts

groups_back : (bytes rest : List ℕ) (n : ℕ) → groups_at bytes ≡ Some (n, rest) → Takes IsGroups bytes rest n
groups_back [] rest n e = absurd cc
groups_back (b ∷ bytes) rest n e =
    elim (either (ltb b 128) (Some (b, bytes)) (cond (ltb b 256) (groups_at bytes >>= above_group b) None) (n, rest) e) [
      | inl h ↦ subst (λ (p : ℕ × List ℕ). Takes IsGroups (b ∷ bytes) p.1 p.0) (same_Some (b, bytes) (n, rest) h.1) (takes_last (b ∷ bytes) bytes b refl (ltb-true b 128 h.0))
      | inr h ↦
          let k = held (ltb b 256) (groups_at bytes >>= above_group b) (n, rest) h.1 in
          let s = bind_some (groups_at bytes) (above_group b) (n, rest) k.1 in
          let z = passed (eqb s.0.0 0) (Some (b - 128 + 128 * s.0.0, s.0.1)) (n, rest) s.2 in
          let positive : 0 < s.0.0 = positive_from s.0.0 z.0 in
          let t = groups_back bytes s.0.1 s.0.0 s.1 in
          subst (λ (p : ℕ × List ℕ). Takes IsGroups (b ∷ bytes) p.1 p.0) (same_Some (b - 128 + 128 * s.0.0, s.0.1) (n, rest) z.1)
          (takes_more (b ∷ bytes) bytes s.0.1 b s.0.0 refl (ltb-false b 128 h.0) (ltb-true b 256 k.0) positive t)
    ]
  where
    positive_from : (n : ℕ) → eqb n 0 ≡ false → 0 < n
    positive_from zero e = absurd cc
    positive_from (suc n) e = omega arith

above_forth : (b high : ℕ) (rest : List ℕ) → 0 < high → above_group b (high, rest) ≡ Some (b - 128 + 128 * high, rest)
above_forth b high rest h = rw (ne_eqb high 0 (omega (arith, h))) refl

groups_forth : (encoding rest : List ℕ) (n : ℕ) → IsGroups encoding n → groups_at (encoding ++ rest) ≡ Some (n, rest)
groups_forth [] rest n g = absurd g
groups_forth (b ∷ []) rest n g = rw (lt-ltb b 128 g.0) (ap (λ (m : ℕ). Some (m, rest)) (sym g.1))
groups_forth (b ∷ c ∷ bs) rest n g =
    let step : (groups_at (c ∷ (bs ++ rest)) >>= above_group b) ≡ above_group b (g.2, rest) = bind_at (groups_at (c ∷ (bs ++ rest))) (above_group b) (g.2, rest) (groups_forth (c ∷ bs) rest g.2 g.5) in
    let value : b - 128 + 128 * g.2 ≡ n = omega (arith, g.0, g.4) in
    rw (le-ltb b 128 g.0, lt-ltb b 256 g.1) (step ∙ above_forth b g.2 rest g.3 ∙ ap (λ (m : ℕ). Some (m, rest)) value)

count_back : (bytes rest : List ℕ) (n : ℕ) → count_at bytes ≡ Some (n, rest) → Takes IsCount bytes rest n
unfolding count_at
count_back bytes rest n e =
    let s = bind_some (groups_at bytes) _ (n, rest) e in
    let k = held (ltb s.0.0 (2 ^ 64)) (Some s.0) (n, rest) s.2 in
    let t = groups_back bytes s.0.1 s.0.0 s.1 in
    subst (λ (p : ℕ × List ℕ). Takes IsCount bytes p.1 p.0) (same_Some s.0 (n, rest) k.1)
    (record { encoding = t.encoding; encoded = record { groups = t.encoded; below = ltb-true s.0.0 (2 ^ 64) k.0 }; parts = t.parts })

count_forth : (encoding rest : List ℕ) (n : ℕ) → IsCount encoding n → count_at (encoding ++ rest) ≡ Some (n, rest)
unfolding count_at
count_forth encoding rest n is = bind_at (groups_at (encoding ++ rest)) _ (n, rest) (groups_forth encoding rest n is.groups) ∙ rw (lt-ltb n (2 ^ 64) is.below) refl

pub count_read : IsReadBy IsCount count_at
count_read = read_by IsCount count_at count_forth count_back

-- ---- integers

int_again : (z : ℤ) → int_of (count_of z) ≡ z
int_again (pos n) =
    let even : eqb (2 * n % 2) 0 ≡ true = eq-eqb (2 * n % 2) 0 (omega arith) in
    rw even (ap pos (omega arith))
int_again (negsuc n) =
    let odd : eqb ((2 * n + 1) % 2) 0 ≡ false = ne_eqb ((2 * n + 1) % 2) 0 (omega arith) in
    rw odd (ap negsuc (omega arith))

count_again : (n : ℕ) → count_of (int_of n) ≡ n
count_again n = elim (eqb_tells (n % 2) 0) [ inl h ↦ rw h.0 (omega (arith, h.1)) | inr h ↦ rw h.0 (omega (arith, h.1)) ]

int_back : (bytes rest : List ℕ) (z : ℤ) → int_at bytes ≡ Some (z, rest) → Takes IsInt bytes rest z
int_back bytes rest z e =
    let s = bind_some (count_at bytes) _ (z, rest) e in
    let t = count_back bytes s.0.1 s.0.0 s.1 in
    subst (λ (p : ℤ × List ℕ). Takes IsInt bytes p.1 p.0) (same_Some (int_of s.0.0, s.0.1) (z, rest) s.2)
    (record { encoding = t.encoding; encoded = subst (λ (n : ℕ). IsCount t.encoding n) (sym (count_again s.0.0)) t.encoded; parts = t.parts })

int_forth : (encoding rest : List ℕ) (z : ℤ) → IsInt encoding z → int_at (encoding ++ rest) ≡ Some (z, rest)
int_forth encoding rest z is = bind_at (count_at (encoding ++ rest)) _ (count_of z, rest) (count_forth encoding rest (count_of z) is) ∙ ap (λ (y : ℤ). Some (y, rest)) (int_again z)

pub int_read : IsReadBy IsInt int_at
int_read = read_by IsInt int_at int_forth int_back

-- ---- texts

text_back : (bytes rest text : List ℕ) → text_at bytes ≡ Some (text, rest) → Takes IsText bytes rest text
unfolding text_at
text_back bytes rest text e =
    let s = bind_some (count_at bytes) _ (text, rest) e in
    let found : List ℕ × List ℕ = (take s.0.0 s.0.1, drop s.0.0 s.0.1) in
    let k = held (leb s.0.0 (length s.0.1)) (Some found) (text, rest) s.2 in
    let t = count_back bytes s.0.1 s.0.0 s.1 in
    subst (λ (p : List ℕ × List ℕ). Takes IsText bytes p.1 p.0) (same_Some found (text, rest) k.1)
    (takes_text bytes s.0.1 (take s.0.0 s.0.1) (drop s.0.0 s.0.1) s.0.0 t (leb-true s.0.0 (length s.0.1) k.0) refl refl)

text_forth : (encoding rest text : List ℕ) → IsText encoding text → text_at (encoding ++ rest) ≡ Some (text, rest)
unfolding text_at
text_forth encoding rest text is =
    let count : count_at (encoding ++ rest) ≡ Some (length text, text ++ rest) = ap count_at (suffix_count encoding rest text is) ∙ count_forth is.count (text ++ rest) (length text) is.counted in
    let within : leb (length text) (length (text ++ rest)) ≡ true = le-leb (length text) (length (text ++ rest)) (omega (arith, length-append text rest)) in
    bind_at (count_at (encoding ++ rest)) _ (length text, text ++ rest) count ∙ rw (within, take_at text rest (length text) refl, drop_at text rest (length text) refl) refl

pub text_read : IsReadBy IsText text_at
text_read = read_by IsText text_at text_forth text_back

-- ---- what code finds

pub short_u32 : (bytes : List ℕ) → length bytes < 4 → u32_at bytes ≡ None
short_u32 bytes short = ends_there IsU32 u32_at u32_read bytes (λ x s rest is e. absurd (omega (arith, short, ap length e, length-append s rest, ap length is.1)))

pub short_u64 : (bytes : List ℕ) → length bytes < 8 → u64_at bytes ≡ None
short_u64 bytes short = ends_there IsU64 u64_at u64_read bytes (λ x s rest is e. absurd (omega (arith, short, ap length e, length-append s rest, ap length is.1)))

pub found_u32 : (bytes rest : List ℕ) (n : ℕ) → n < 2 ^ 32 → bytes ≡ to_be_bytes w32 n ++ rest → u32_at bytes ≡ Some (n, rest)
found_u32 bytes rest n below parts = ap u32_at parts ∙ u32_forth rest n below

pub found_u64 : (bytes rest : List ℕ) (n : ℕ) → n < 2 ^ 64 → bytes ≡ to_be_bytes w64 n ++ rest → u64_at bytes ≡ Some (n, rest)
found_u64 bytes rest n below parts = ap u64_at parts ∙ u64_forth rest n below
