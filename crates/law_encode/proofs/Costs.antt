-- What a token pays for: a number of bytes that is at most twice that of its text.
use Rattle.std.proofs.Common.{◌≡◌, ℕ, zero, suc, ◌+◌, ◌*◌, ◌/◌, ◌^◌, ◌<◌, ◌≤◌, List, [], ◌∷◌, ◌++◌, length, arith, inl, inr}
use Rattle.std.proofs.Math.Nat.{pow-suc}
use Rattle.std.proofs.lemmas.Bool.{cases_lt, lt-ltb, le-ltb}
use Rattle.std.proofs.lemmas.List.{length-append}
use Rattle.rs_codec.specs.Written.{groups_bytes, count_bytes, text_bytes}
use Rattle.rs_token.specs.declared.token.Token.{Token}
use Rattle.rs_token.specs.declared.token.Token.TheVariants as tokens

-- ---- the sizes of counts

groups_short : (most more n : ℕ) → n < 128 * 128 ^ more → length (groups_bytes most n) ≤ more + 1
groups_short zero more n below = omega arith
groups_short (suc most) zero n below =
    let lt : n < 128 = omega (arith, below) in
    rw (lt-ltb n 128 lt) (omega arith)
groups_short (suc most) (suc more) n below =
    elim (cases_lt n 128) [
      | inl lt ↦ rw (lt-ltb n 128 lt) (omega arith)
      | inr le ↦
          let high : n / 128 < 128 * 128 ^ more = omega (arith, below, pow-suc 128 more) in
          rw (le-ltb n 128 le) (omega (arith, groups_short most more (n / 128) high))
    ]

groups_some : (most n : ℕ) → 1 ≤ length (groups_bytes most n)
groups_some zero n = omega arith
groups_some (suc most) n =
    elim (cases_lt n 128) [
      | inl lt ↦ rw (lt-ltb n 128 lt) (omega arith)
      | inr le ↦ rw (le-ltb n 128 le) (omega arith)
    ]

groups_grow : (most m n : ℕ) → m ≤ n → length (groups_bytes most m) ≤ length (groups_bytes most n)
groups_grow zero m n within = omega arith
groups_grow (suc most) m n within =
    elim (cases_lt m 128) [
      | inl lt ↦ rw (lt-ltb m 128 lt) (omega (arith, groups_some (suc most) n))
      | inr le ↦
          let above : 128 ≤ n = omega (arith, le, within) in
          let high : m / 128 ≤ n / 128 = omega (arith, within) in
          rw (le-ltb m 128 le, le-ltb n 128 above) (omega (arith, groups_grow most (m / 128) (n / 128) high))
    ]

pub count_short : (more n : ℕ) → n < 128 * 128 ^ more → length (count_bytes n) ≤ more + 1
unfolding count_bytes
count_short more n below = groups_short 9 more n below

pub count_some : (n : ℕ) → 1 ≤ length (count_bytes n)
unfolding count_bytes
count_some n = groups_some 9 n

pub count_grows : (m n : ℕ) → m ≤ n → length (count_bytes m) ≤ length (count_bytes n)
unfolding count_bytes
count_grows m n within = groups_grow 9 m n within

items_below : (n : ℕ) → suc n < 128 * 128 ^ n
items_below zero = omega arith
items_below (suc n) = omega (arith, items_below n, pow-suc 128 n)

-- the number of the items of a list takes at most a byte for each item
pub count_of_items : (n : ℕ) → length (count_bytes (suc n)) ≤ suc n
count_of_items n = omega (arith, count_short n (suc n) (items_below n))

-- ---- costs

-- a word pays for its encoding, a number and a text for those as values, and a symbol for two bytes
abbrev pub cost : Token → ℕ
cost (tokens.Word word) = length (text_bytes word)
cost (tokens.Number n) = 1 + length (count_bytes (2 * n))
cost (tokens.Text text) = 1 + length (text_bytes text)
cost (tokens.Symbol symbol) = 2

abbrev pub costs : List Token → ℕ
costs [] = 0
costs (t ∷ ts) = cost t + costs ts

pub costs_append : (prefix suffix : List Token) → costs (prefix ++ suffix) ≡ costs prefix + costs suffix
costs_append [] suffix = omega arith
costs_append (t ∷ prefix) suffix = omega (arith, costs_append prefix suffix)

-- a word costs more than its letters
pub word_cost : (word : List ℕ) → 1 + length word ≤ cost (tokens.Word word)
word_cost word = omega (arith, count_some (length word), length-append (count_bytes (length word)) word)
