-- Bytes in hexadecimal: reading and printing are inverse.
use Rattle.std.proofs.Common.{◌≡◌, ℕ, ◌+◌, ◌-◌, ◌*◌, ◌/◌, ◌%◌, ◌<◌, ◌≤◌, Bool, true, false, cond, ◌&&◌, ◌⊎◌, not, eqb, leb, ltb, IsTrue, codes, List, [], ◌∷◌, ◌++◌, length, get_or, take, drop, Option, Some, None, refl, sym, ap, ◌∙◌, subst, append_assoc, inl, inr, arith}
use Rattle.std.proofs.lemmas.List.{take_all, take-append-drop}
use Rattle.rs_base.proofs.Steps.{bind_some}
use Rattle.rs_base.specs.Reading.{◌>>=◌}
use Rattle.std.specs.Prelude.{flat_map, bytes_eq}
use Rattle.std.specs.List.{list_all}
use Rattle.std.proofs.lemmas.Bool.{and_parts, and_from, leb-true, le-leb, ltb-true, lt-ltb}
use Rattle.std.proofs.lemmas.Bool.Decides.{eqb_tells}
use Rattle.std.proofs.lemmas.Slice.Eq.{bytes_eq-Decides}
use Rattle.rs_sched.specs.Numbers.{hex_value, hex_pair, bytes_of_hex, noise_of, with_bytes}
use Rattle.rs_sched.specs.Encoding.{hex_digit, hex_byte, hex_of, is_byte}
use Rattle.rs_sched.specs.Reader.{is_field_byte, field_len, space_at, noise_bytes_at}
use Rattle.rs_sched.proofs.NumberLaws.{some_is}
use Rattle.rs_sched.proofs.FieldLaws.{space_is, stops, field_taken, field_left}

with_bytes-push : (found : List ℕ) (byte : ℕ) (read : Option (List ℕ)) → with_bytes (found ++ byte ∷ []) read ≡ with_bytes found (read >>= λ bytes. Some (byte ∷ bytes))
with_bytes-push found byte None = refl
with_bytes-push found byte (Some bytes) = ap (λ (bs : List ℕ). Some bs) (append_assoc found (byte ∷ []) bytes)

pub hex_more : (found left : List ℕ) (byte : ℕ) (total : Option (List ℕ)) → 2 ≤ length left → hex_pair (get_or left 0 0) (get_or left 1 0) ≡ Some byte
    → with_bytes found (bytes_of_hex left) ≡ total → with_bytes (found ++ byte ∷ []) (bytes_of_hex (take (length left - 2) (drop 2 left))) ≡ total
hex_more found [] byte total h pair so_far = absurd (omega arith)
hex_more found (a ∷ []) byte total h pair so_far = absurd (omega arith)
hex_more found (a ∷ b ∷ left) byte total h pair so_far =
    let n : length (a ∷ b ∷ left) - 2 ≡ length left = omega arith in
    let rest : take (length (a ∷ b ∷ left) - 2) left ≡ left = ap (λ (n : ℕ). take n left) n ∙ take_all (length left) left (omega arith) in
    let one : bytes_of_hex (a ∷ b ∷ left) ≡ (bytes_of_hex left >>= λ bytes. Some (byte ∷ bytes)) = rw pair refl in
    ap (λ (r : List ℕ). with_bytes (found ++ byte ∷ []) (bytes_of_hex r)) rest ∙ with_bytes-push found byte (bytes_of_hex left) ∙ sym (ap (with_bytes found) one) ∙ so_far

-- ---- digits

cases_of : {A : Type 0} (test : Bool) (x y z : A) → cond test x y ≡ z → ((test ≡ true) × (x ≡ z)) ⊎ ((test ≡ false) × (y ≡ z))
cases_of true x y z e = inl (refl, e)
cases_of false x y z e = inr (refl, e)

not_lt : (a b : ℕ) → b ≤ a → ltb a b ≡ false
not_lt a b h = by_test (ltb a b) refl
  where
    by_test : (test : Bool) → ltb a b ≡ test → ltb a b ≡ false
    by_test false e = e
    by_test true e = absurd (omega (arith, ltb-true a b e))

not_le : (a b : ℕ) → b < a → leb a b ≡ false
not_le a b h = by_test (leb a b) refl
  where
    by_test : (test : Bool) → leb a b ≡ test → leb a b ≡ false
    by_test false e = e
    by_test true e = absurd (omega (arith, leb-true a b e))

IsDigitOf : ℕ → ℕ → Type 0
IsDigitOf b n = (n < 16) × (b ≡ hex_digit n)

pub hex_value_is : (b n : ℕ) → hex_value b ≡ Some n → (n < 16) × (b ≡ hex_digit n)
hex_value_is b n e =
    elim (cases_of (leb 48 b && leb b 57) (Some (b - 48)) (cond (leb 97 b && leb b 102) (Some (b - 87)) None) (Some n) e) [
      | inl h ↦ low h.0 (some_is _ _ h.1)
      | inr h ↦ elim (cases_of (leb 97 b && leb b 102) (Some (b - 87)) None (Some n) h.1) [
        | inl k ↦ high k.0 (some_is _ _ k.1)
        | inr k ↦ absurd (none k.1)
      ]
    ]
  where
    low : (leb 48 b && leb b 57) ≡ true → b - 48 ≡ n → (n < 16) × (b ≡ hex_digit n)
    low t is =
        let both = and_parts (leb 48 b) (leb b 57) t in
        let above = leb-true 48 b both.0 in
        let below = leb-true b 57 both.1 in
        let lt : n < 10 = omega arith in
        (omega arith, rw (lt-ltb n 10 lt) (omega arith))

    high : (leb 97 b && leb b 102) ≡ true → b - 87 ≡ n → (n < 16) × (b ≡ hex_digit n)
    high t is =
        let both = and_parts (leb 97 b) (leb b 102) t in
        let above = leb-true 97 b both.0 in
        let below = leb-true b 102 both.1 in
        let ge : 10 ≤ n = omega arith in
        (omega arith, rw (not_lt n 10 ge) (omega arith))

    none : None ≡ Some n → ⊥
    none e = cc

pub hex_value_again : (n : ℕ) → n < 16 → hex_value (hex_digit n) ≡ Some n
hex_value_again n h = by_test (ltb n 10) refl
  where
    by_test : (test : Bool) → ltb n 10 ≡ test → hex_value (hex_digit n) ≡ Some n
    by_test true e =
        let lt = ltb-true n 10 e in
        let above : leb 48 (48 + n) ≡ true = le-leb _ _ (omega arith) in
        let below : leb (48 + n) 57 ≡ true = le-leb _ _ (omega arith) in
        let same : (48 + n) - 48 ≡ n = omega arith in
        rw (e, above, below, same) refl
    by_test false e =
        let ge : 10 ≤ n = grind (arith, lt-ltb n 10) in
        let over : leb (87 + n) 57 ≡ false = not_le _ _ (omega arith) in
        let some : leb 48 (87 + n) ≡ true = le-leb _ _ (omega arith) in
        let above : leb 97 (87 + n) ≡ true = le-leb _ _ (omega arith) in
        let below : leb (87 + n) 102 ≡ true = le-leb _ _ (omega arith) in
        let same : (87 + n) - 87 ≡ n = omega arith in
        rw (e, over, some, above, below, same) refl

-- ---- bytes

pub hex_pair_is : (a b byte : ℕ) → hex_pair a b ≡ Some byte → (is_byte byte ≡ true) × (a ∷ b ∷ [] ≡ hex_byte byte)
hex_pair_is a b byte e =
    let high = bind_some (hex_value a) _ byte e in
    let low = bind_some (hex_value b) _ byte high.2 in
    let h = hex_value_is a high.0 high.1 in
    let l = hex_value_is b low.0 low.1 in
    let is : 16 * high.0 + low.0 ≡ byte = some_is _ _ low.2 in
    let upper : byte / 16 ≡ high.0 = omega (arith, h.0, l.0) in
    let lower : byte % 16 ≡ low.0 = omega (arith, h.0, l.0) in
    (lt-ltb _ _ (omega (arith, h.0, l.0)), rw (upper, lower, ← h.1, ← l.1) refl)

pub hex_pair_again : (byte : ℕ) → is_byte byte ≡ true → hex_pair (hex_digit (byte / 16)) (hex_digit (byte % 16)) ≡ Some byte
hex_pair_again byte h =
    let small = ltb-true byte 256 h in
    let high : byte / 16 < 16 = omega arith in
    let low : byte % 16 < 16 = omega arith in
    let is : 16 * (byte / 16) + byte % 16 ≡ byte = omega arith in
    rw (hex_value_again (byte / 16) high, hex_value_again (byte % 16) low, is) refl

pub bytes_of_hex_is : (digits bytes : List ℕ) → bytes_of_hex digits ≡ Some bytes → (list_all is_byte bytes ≡ true) × (digits ≡ flat_map hex_byte bytes)
bytes_of_hex_is [] bytes e = let P : List ℕ → Type 0 = λ bs. (list_all is_byte bs ≡ true) × ([] ≡ flat_map hex_byte bs) in subst P (some_is [] bytes e) (refl, refl)
bytes_of_hex_is (a ∷ []) bytes e = absurd cc
bytes_of_hex_is (a ∷ b ∷ digits) bytes e =
    let first = bind_some (hex_pair a b) _ bytes e in
    let others = bind_some (bytes_of_hex digits) _ bytes first.2 in
    let one = hex_pair_is a b first.0 first.1 in
    let more = bytes_of_hex_is digits others.0 others.1 in
    let P : List ℕ → Type 0 = λ bs. (list_all is_byte bs ≡ true) × (a ∷ b ∷ digits ≡ flat_map hex_byte bs) in
    let joined : a ∷ b ∷ digits ≡ hex_byte first.0 ++ flat_map hex_byte others.0 = ap (λ (r : List ℕ). a ∷ b ∷ r) more.1 ∙ ap (λ (prefix : List ℕ). prefix ++ flat_map hex_byte others.0) one.1 in
    subst P (some_is (first.0 ∷ others.0) bytes others.2) (and_from _ _ one.0 more.0, joined)

pub bytes_of_hex_again : (bytes : List ℕ) → list_all is_byte bytes ≡ true → bytes_of_hex (flat_map hex_byte bytes) ≡ Some bytes
bytes_of_hex_again [] all = refl
bytes_of_hex_again (b ∷ bytes) all =
    let both = and_parts (is_byte b) (list_all is_byte bytes) all in
    rw (hex_pair_again b both.0, bytes_of_hex_again bytes both.1) refl

-- ---- the bytes of a noise

none_are : (b : ℕ) (digits : List ℕ) → bytes_of_hex (b ∷ digits) ≡ Some [] → ⊥
none_are b digits e = let h = (bytes_of_hex_is (b ∷ digits) [] e).1 in cc

noise_by : (b : ℕ) (digits bytes : List ℕ) (test : Bool) → (test ≡ true → b ∷ digits ≡ codes "-") → cond test (Some []) (bytes_of_hex (b ∷ digits)) ≡ Some bytes → (list_all is_byte bytes ≡ true) × (b ∷ digits ≡ hex_of bytes)
noise_by b digits bytes true same e =
    let P : List ℕ → Type 0 = λ bs. (list_all is_byte bs ≡ true) × (b ∷ digits ≡ hex_of bs) in
    subst P (some_is [] bytes e) (refl, same refl)
noise_by b digits [] false same e = absurd (none_are b digits e)
noise_by b digits (c ∷ bytes) false same e = bytes_of_hex_is (b ∷ digits) (c ∷ bytes) e

pub noise_of_is : (digits bytes : List ℕ) → noise_of digits ≡ Some bytes → (list_all is_byte bytes ≡ true) × (digits ≡ hex_of bytes)
unfolding noise_of
noise_of_is [] bytes e = absurd cc
noise_of_is (b ∷ digits) bytes e = noise_by b digits bytes (bytes_eq (b ∷ digits) (codes "-")) (bytes_eq-Decides (b ∷ digits) (codes "-")).0 e

false_and : (a : Bool) → (a && false) ≡ false
false_and true = refl
false_and false = refl

pub noise_of_again : (bytes : List ℕ) → list_all is_byte bytes ≡ true → noise_of (hex_of bytes) ≡ Some bytes
unfolding noise_of
noise_of_again [] all = refl
noise_of_again (b ∷ bytes) all = rw (false_and (eqb (hex_digit (b / 16)) 45)) (bytes_of_hex_again (b ∷ bytes) all)

digit_field : (n : ℕ) → is_field_byte (hex_digit n) ≡ true
digit_field n = by_test (ltb n 10) refl
  where
    by_test : (test : Bool) → ltb n 10 ≡ test → is_field_byte (hex_digit n) ≡ true
    by_test true e = rw e (ap not (differs (48 + n) (omega arith)))
      where
        differs : (m : ℕ) → 32 < m → eqb m 32 ≡ false
        differs m h = elim (eqb_tells m 32) [ inl same ↦ absurd (omega (arith, same.1)) | inr other ↦ other.0 ]
    by_test false e = rw e (ap not (differs (87 + n) (omega arith)))
      where
        differs : (m : ℕ) → 32 < m → eqb m 32 ≡ false
        differs m h = elim (eqb_tells m 32) [ inl same ↦ absurd (omega (arith, same.1)) | inr other ↦ other.0 ]

hex_fields : (bytes : List ℕ) → list_all is_field_byte (flat_map hex_byte bytes) ≡ true
hex_fields [] = refl
hex_fields (b ∷ bytes) = rw (digit_field (b / 16), digit_field (b % 16)) (hex_fields bytes)

pub hex_field : (bytes : List ℕ) → list_all is_field_byte (hex_of bytes) ≡ true
hex_field [] = refl
hex_field (b ∷ bytes) = hex_fields (b ∷ bytes)

pub noise_bytes_is : (bytes : List ℕ) (x : List ℕ × List ℕ) → noise_bytes_at bytes ≡ Some x → (list_all is_byte x.0 ≡ true) × (bytes ≡ 32 ∷ (hex_of x.0 ++ x.1))
unfolding noise_bytes_at
noise_bytes_is bytes x e =
    let space = bind_some (space_at bytes) _ x e in
    let field = space.0 in
    let len = field_len field in
    let noise = bind_some (noise_of (take len field)) _ x space.2 in
    let is = noise_of_is (take len field) noise.0 noise.1 in
    let found : List ℕ × List ℕ = (noise.0, drop len field) in
    let parts : field ≡ hex_of noise.0 ++ drop len field = sym (take-append-drop len field) ∙ ap (λ (f : List ℕ). f ++ drop len field) is.1 in
    subst (λ (y : List ℕ × List ℕ). (list_all is_byte y.0 ≡ true) × (bytes ≡ 32 ∷ (hex_of y.0 ++ y.1))) (some_is found x noise.2)
    (is.0, space_is bytes field space.1 ∙ ap (λ (f : List ℕ). 32 ∷ f) parts)

pub noise_bytes_again : (bytes rest : List ℕ) → list_all is_byte bytes ≡ true → IsTrue (stops rest) → noise_bytes_at (32 ∷ (hex_of bytes ++ rest)) ≡ Some (bytes, rest)
unfolding noise_bytes_at
noise_bytes_again bytes rest all end =
    let field = hex_field bytes in
    rw (field_taken (hex_of bytes) rest field end, field_left (hex_of bytes) rest field end, noise_of_again bytes all) refl
