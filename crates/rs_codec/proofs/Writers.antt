-- Encodings as functions: they give an encoding of each value in range, and a value has no other.
use Rattle.std.proofs.Common.{◌≡◌, ℕ, zero, suc, ◌+◌, ◌*◌, ◌/◌, ◌%◌, ◌^◌, ◌<◌, ◌≤◌, List, [], ◌∷◌, ◌++◌, length, refl, sym, ap, subst, ◌∙◌, arith, inl, inr}
use Rattle.std.specs.Prelude.{FitsSigned}
use Rattle.std.specs.Int.{w64}
use Rattle.std.proofs.lemmas.Bool.{cases_lt, lt-ltb, le-ltb}
use Rattle.std.proofs.Math.Nat.{pow-suc}
use Rattle.rs_codec.specs.Encoding.{IsGroups, IsCount, count_of, IsInt, IsText, Puts}
use Rattle.rs_codec.specs.Written.{groups_bytes, count_bytes, int_bytes, text_bytes}
use Rattle.rs_codec.specs.Laws.{IsWrittenBy, IsEncodedOnce}
use Rattle.rs_codec.proofs.Groups.{longer, same_prefix}
use Rattle.rs_codec.proofs.Encodings.{count_below}

-- ---- uniqueness

same_groups : (a b : List ℕ) (n : ℕ) → IsGroups a n → IsGroups b n → a ≡ b
same_groups [] b n p q = absurd p
same_groups (x ∷ a) [] n p q = absurd q
same_groups (x ∷ []) (y ∷ []) n p q = ap (λ (z : ℕ). z ∷ []) (sym p.1 ∙ q.1)
same_groups (x ∷ []) (y ∷ d ∷ b) n p q = absurd (omega (arith, p.0, p.1, q.0, q.3, q.4))
same_groups (x ∷ c ∷ a) (y ∷ []) n p q = absurd (omega (arith, q.0, q.1, p.0, p.3, p.4))
same_groups (x ∷ c ∷ a) (y ∷ d ∷ b) n p q =
    let first : x ≡ y = omega (arith, p.0, p.1, p.4, q.0, q.1, q.4) in
    let high : p.2 ≡ q.2 = omega (arith, first, p.4, q.4) in
    same_prefix x y (c ∷ a) (d ∷ b) first (same_groups (c ∷ a) (d ∷ b) q.2 (subst (λ (h : ℕ). IsGroups (c ∷ a) h) high p.5) q.5)

pub once_count : IsEncodedOnce IsCount
once_count a b n p q = same_groups a b n p.groups q.groups

pub once_int : IsEncodedOnce IsInt
once_int a b z p q = once_count a b (count_of z) p q

pub once_text : IsEncodedOnce IsText
once_text a b text p q = p.parts ∙ ap (λ (count : List ℕ). count ++ text) (once_count p.count q.count (length text) p.counted q.counted) ∙ sym q.parts

-- ---- the functions give encodings

groups_are : (more n : ℕ) → n < 128 * 128 ^ more → IsGroups (groups_bytes more n) n
groups_are zero n below = (omega (arith, below), refl)
groups_are (suc more) n below =
    elim (cases_lt n 128) [
      | inl lt ↦ rw (lt-ltb n 128 lt) (lt, refl)
      | inr le ↦
          let above : n / 128 < 128 * 128 ^ more = omega (arith, below, pow-suc 128 more) in
          rw (le-ltb n 128 le) (longer (128 + n % 128) n (n / 128) (groups_bytes more (n / 128)) (omega arith) (omega arith) (omega arith) (omega arith) (groups_are more (n / 128) above))
    ]

pub written_count : IsWrittenBy IsCount (λ n. n < 2 ^ 64) count_bytes
unfolding count_bytes
written_count n below = record { groups = groups_are 9 n (omega (arith, below)); below = below }

pub written_int : IsWrittenBy IsInt (λ z. FitsSigned w64 z) int_bytes
written_int z fits = written_count (count_of z) (count_below z fits)

pub written_text : IsWrittenBy IsText (λ text. length text < 2 ^ 64) text_bytes
written_text text below = record { count = count_bytes (length text); counted = written_count (length text) below; parts = refl }

-- ---- lengths

length_groups : (more n : ℕ) → length (groups_bytes more n) ≤ more + 1
length_groups zero n = omega arith
length_groups (suc more) n =
    elim (cases_lt n 128) [
      | inl lt ↦ rw (lt-ltb n 128 lt) (omega arith)
      | inr le ↦ rw (le-ltb n 128 le) (omega (arith, length_groups more (n / 128)))
    ]

pub length_count : (n : ℕ) → length (count_bytes n) ≤ 10
unfolding count_bytes
length_count n = length_groups 9 n

-- ---- what is appended

pub puts_written : {X : Type 0} (IsX : List ℕ → X → Type 0) (old new written : List ℕ) (x : X) → IsEncodedOnce IsX → IsX written x → Puts IsX old new x → new ≡ old ++ written
puts_written IsX old new written x once is p = p.parts ∙ ap (λ (s : List ℕ). old ++ s) (once p.encoding written x p.encoded is)
