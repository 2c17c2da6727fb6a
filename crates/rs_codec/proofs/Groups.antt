-- Numbers in groups of seven bits: their encoding exists, is unique and prefix-free, and is what code writes and reads.
use Rattle.std.proofs.Common.{◌≡◌, ℕ, zero, suc, ◌+◌, ◌-◌, ◌*◌, ◌/◌, ◌%◌, ◌^◌, ◌<◌, ◌≤◌, List, [], ◌∷◌, ◌++◌, length, set, take, refl, sym, ap, subst, ◌∙◌, arith, inl, inr, append_assoc}
use Rattle.std.specs.List.{All}
use Rattle.std.proofs.lemmas.Bool.{cases_lt}
use Rattle.std.proofs.Math.Nat.{pow-suc}
use Rattle.std.proofs.lemmas.List.{take_more_set}
use Rattle.std.proofs.lemmas.List.Elements.{All-nil, All-cons}
use Rattle.rs_base.specs.Sizes.{groups_within}
use Rattle.rs_base.proofs.SizeLaws.{groups_last, groups_more}
use Rattle.rs_codec.specs.Encoding.{IsGroups, Takes}

-- a low group added to the groups of the higher bits
pub longer : (b n high : ℕ) (bytes : List ℕ) → 128 ≤ b → b < 256 → 0 < high → n + 128 ≡ b + 128 * high → IsGroups bytes high → IsGroups (b ∷ bytes) n
longer b n high [] from below more parts g = absurd g
longer b n high (c ∷ bs) from below more parts g = (from, below, high, more, parts, g)

pub same_prefix : (b c : ℕ) (bs cs : List ℕ) → b ≡ c → bs ≡ cs → b ∷ bs ≡ c ∷ cs
same_prefix b c bs cs e f = ap (λ (x : ℕ). x ∷ bs) e ∙ ap (λ (xs : List ℕ). c ∷ xs) f

first_is : (b c : ℕ) (bs cs : List ℕ) → b ∷ bs ≡ c ∷ cs → b ≡ c
first_is b c bs cs e = cc

others_are : (b c : ℕ) (bs cs : List ℕ) → b ∷ bs ≡ c ∷ cs → bs ≡ cs
others_are b c bs cs e = cc

pub one_groups : (a b r s : List ℕ) (m n : ℕ) → IsGroups a m → IsGroups b n → a ++ r ≡ b ++ s → (a ≡ b) × (m ≡ n)
one_groups [] b r s m n p q e = absurd p
one_groups (x ∷ a) [] r s m n p q e = absurd q
one_groups (x ∷ []) (y ∷ []) r s m n p q e =
    let first = first_is x y r s e in
    (ap (λ (z : ℕ). z ∷ []) first, p.1 ∙ first ∙ sym q.1)
one_groups (x ∷ []) (y ∷ d ∷ b) r s m n p q e = absurd (omega (arith, p.0, q.0, first_is x y r (d ∷ (b ++ s)) e))
one_groups (x ∷ c ∷ a) (y ∷ []) r s m n p q e = absurd (omega (arith, p.0, q.0, first_is x y (c ∷ (a ++ r)) s e))
one_groups (x ∷ c ∷ a) (y ∷ d ∷ b) r s m n p q e =
    let first = first_is x y (c ∷ (a ++ r)) (d ∷ (b ++ s)) e in
    let others = one_groups (c ∷ a) (d ∷ b) r s p.2 q.2 p.5 q.5 (others_are x y (c ∷ (a ++ r)) (d ∷ (b ++ s)) e) in
    (same_prefix x y (c ∷ a) (d ∷ b) first others.0, omega (arith, first, others.1, p.4, q.4))

each_groups_up_to : (k n : ℕ) → n ≤ k → (bytes : List ℕ) × IsGroups bytes n
each_groups_up_to zero n h = (n ∷ [], (omega arith, refl))
each_groups_up_to (suc k) n h =
    elim (cases_lt n 128) [
      | inl lt ↦ (n ∷ [], (lt, refl))
      | inr le ↦
          let above = each_groups_up_to k (n / 128) (omega arith) in
          let low = 128 + n % 128 in
          (low ∷ above.0, longer low n (n / 128) above.0 (omega arith) (omega arith) (omega arith) (omega arith) above.1)
    ]

pub each_groups : (n : ℕ) → (bytes : List ℕ) × IsGroups bytes n
each_groups n = each_groups_up_to n n (omega arith)

pub bytes_of_groups : (bytes : List ℕ) (n : ℕ) → IsGroups bytes n → All (λ b. b < 256) bytes
bytes_of_groups [] n g = absurd g
bytes_of_groups (b ∷ []) n g = All-cons (λ b. b < 256) b [] (omega (arith, g.0)) (All-nil (λ b. b < 256))
bytes_of_groups (b ∷ c ∷ bs) n g = All-cons (λ b. b < 256) b (c ∷ bs) g.1 (bytes_of_groups (c ∷ bs) g.2 g.5)

-- ---- writing

-- any encoding of the rest completes the number's
abbrev pub Completes : List ℕ → ℕ → ℕ → Type 0
Completes prefix rest n = (tail : List ℕ) → IsGroups tail rest → IsGroups (prefix ++ tail) n

pub writes_more : (bytes : List ℕ) (at rest n : ℕ) → at < length bytes → 128 ≤ rest → Completes (take at bytes) rest n → Completes (take (at + 1) (set bytes at (128 + rest % 128))) (rest / 128) n
writes_more bytes at rest n within more so_far tail g =
    let low = 128 + rest % 128 in
    let all = so_far (low ∷ tail) (longer low rest (rest / 128) tail (omega arith) (omega arith) (omega arith) (omega arith) g) in
    let regrouped : take (at + 1) (set bytes at low) ++ tail ≡ take at bytes ++ (low ∷ tail) = ap (λ (xs : List ℕ). xs ++ tail) (take_more_set bytes at low within) ∙ append_assoc (take at bytes) (low ∷ []) tail in
    subst (λ (xs : List ℕ). IsGroups xs n) (sym regrouped) all

pub writes_last : (bytes : List ℕ) (at rest n : ℕ) → at < length bytes → rest < 128 → Completes (take at bytes) rest n → IsGroups (take (at + 1) (set bytes at rest)) n
writes_last bytes at rest n within last so_far = subst (λ (xs : List ℕ). IsGroups xs n) (sym (take_more_set bytes at rest within)) (so_far (rest ∷ []) (last, refl))

-- ---- reading

-- no encoding of a number up to the limit begins the bytes
abbrev pub NoneUpTo : ℕ → List ℕ → Type 0
NoneUpTo limit bytes = (n : ℕ) (encoding rest : List ℕ) → n ≤ limit → IsGroups encoding n → bytes ≡ encoding ++ rest → ⊥

-- a number is no less than its first byte
pub none_below_first : (bytes others : List ℕ) (first limit : ℕ) → bytes ≡ first ∷ others → limit < first → NoneUpTo limit bytes
none_below_first bytes others first limit e large n [] rest h g f = absurd g
none_below_first bytes others first limit e large n (b ∷ []) rest h g f = omega (arith, first_is first b others rest (sym e ∙ f), g.1)
none_below_first bytes others first limit e large n (b ∷ c ∷ bs) rest h g f = omega (arith, first_is first b others (c ∷ (bs ++ rest)) (sym e ∙ f), g.3, g.4)

-- the groups above the first one
above : (bytes others : List ℕ) (first n : ℕ) (encoding rest : List ℕ) → bytes ≡ first ∷ others → 128 ≤ first → IsGroups encoding n → bytes ≡ encoding ++ rest
    → (high : ℕ) × (0 < high) × (n + 128 ≡ first + 128 * high) × (tail : List ℕ) × IsGroups tail high × (others ≡ tail ++ rest)
above bytes others first n [] rest e large g f = absurd g
above bytes others first n (b ∷ []) rest e large g f = absurd (omega (arith, first_is first b others rest (sym e ∙ f), g.0))
above bytes others first n (b ∷ c ∷ bs) rest e large g f =
    let same = sym e ∙ f in
    (g.2, g.3, omega (arith, first_is first b others (c ∷ (bs ++ rest)) same, g.4), c ∷ bs, g.5, others_are first b others (c ∷ (bs ++ rest)) same)

pub none_above : (bytes others : List ℕ) (first limit : ℕ) → bytes ≡ first ∷ others → 128 ≤ first → first ≤ limit → NoneUpTo ((limit - (first - 128)) / 128) others → NoneUpTo limit bytes
none_above bytes others first limit e large within none n encoding rest h g f =
    let a = above bytes others first n encoding rest e large g f in
    none a.0 a.3 rest (omega (arith, a.2)) a.4 a.5

pub none_above_zero : (bytes others suffix : List ℕ) (first limit high : ℕ) → bytes ≡ first ∷ others → 128 ≤ first → Takes IsGroups others suffix high → high ≡ 0 → NoneUpTo limit bytes
none_above_zero bytes others suffix first limit high e large t is_zero n encoding rest h g f =
    let a = above bytes others first n encoding rest e large g f in
    let same = one_groups t.encoding a.3 suffix rest high a.0 t.encoded a.4 (sym t.parts ∙ a.5) in
    omega (arith, same.1, a.1)

pub takes_last : (bytes others : List ℕ) (first : ℕ) → bytes ≡ first ∷ others → first < 128 → Takes IsGroups bytes others first
takes_last bytes others first e last = record { encoding = first ∷ []; encoded = (last, refl); parts = e }

pub takes_more : (bytes others suffix : List ℕ) (first high : ℕ) → bytes ≡ first ∷ others → 128 ≤ first → first < 256 → 0 < high → Takes IsGroups others suffix high → Takes IsGroups bytes suffix (first - 128 + 128 * high)
takes_more bytes others suffix first high e large below more t = record {
  encoding = first ∷ t.encoding;
  encoded = longer first (first - 128 + 128 * high) high t.encoding large below more (omega arith) t.encoded;
  parts = e ∙ ap (λ (xs : List ℕ). first ∷ xs) t.parts;
}

-- ---- ten bytes suffice

pub room_left : (at rest : ℕ) → at < 9 → rest < 2 * 128 ^ (9 - at) → rest / 128 < 2 * 128 ^ (9 - (at + 1))
room_left at rest within below =
    let k : 9 - at ≡ suc (9 - (at + 1)) = omega arith in
    let one = pow-suc 128 (9 - (at + 1)) in
    let wide : rest < 2 * 128 ^ suc (9 - (at + 1)) = subst (λ (i : ℕ). rest < 2 * 128 ^ i) k below in
    omega (arith, one, wide)

-- what is left after nine bytes fits the tenth
pub writes_tenth : (bytes : List ℕ) (at rest n : ℕ) → length bytes ≡ 10 → at ≡ 9 → rest < 2 * 128 ^ (9 - at) → Completes (take at bytes) rest n → IsGroups (take 10 (set bytes 9 rest)) n
writes_tenth bytes at rest n len is_ninth below so_far =
    let last : rest < 2 * 128 ^ (9 - 9) = subst (λ (i : ℕ). rest < 2 * 128 ^ (9 - i)) is_ninth below in
    let at_ninth : Completes (take 9 bytes) rest n = subst (λ (i : ℕ). Completes (take i bytes) rest n) is_ninth so_far in
    writes_last bytes 9 rest n (omega (arith, len)) (omega (arith, last)) at_ninth

-- ---- how many groups there are

-- a number below 128 ^ (more + 1) has at most `more` groups after the first
pub length_of_groups : (bytes : List ℕ) (more n : ℕ) → IsGroups bytes n → n < 128 ^ suc more → length bytes ≡ groups_within more n
length_of_groups [] more n g below = absurd g
length_of_groups (b ∷ []) more n g below = sym (groups_last more n (omega (arith, g.0, g.1)))
length_of_groups (b ∷ c ∷ bs) zero n g below = absurd (omega (arith, below, g.0, g.3, g.4))
length_of_groups (b ∷ c ∷ bs) (suc more) n g below =
    let high = g.2 in
    let is : n / 128 ≡ high = omega (arith, g.0, g.1, g.4) in
    let wide : high < 128 ^ suc more = omega (arith, below, pow-suc 128 (suc more), g.0, g.4) in
    let above : length (c ∷ bs) ≡ groups_within more (n / 128) = length_of_groups (c ∷ bs) more high g.5 wide ∙ ap (groups_within more) (sym is) in
    omega (arith, above, groups_more more n (omega (arith, g.0, g.3, g.4)))
