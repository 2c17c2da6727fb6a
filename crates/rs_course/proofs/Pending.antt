-- The lowest pending datagram of a world in which all up to a number are gone.
use Rattle.std.proofs.Common.{◌≡◌, ℕ, zero, suc, ◌+◌, ◌-◌, ◌<◌, ◌≤◌, ◌==◌, ◌||◌, Bool, true, false, not, cond, List, [], ◌∷◌, length, Option, Some, None, refl, sym, ap, ◌∙◌, inl, inr, arith, nat_cmp, Greater, Ordering}
use Rattle.std.proofs.lemmas.Bool.{cases_lt, cases_order}
use Rattle.std.proofs.lemmas.Bool.Decides.{nat_tests}
use Rattle.std.specs.BTreeSet.{insert_key}
use Rattle.std.specs.List.{slice_get, range_with_len, find, list_any}
use Rattle.std.specs.Ordering.{match_ordering}
use Rattle.rs_base.specs.Reading.{◌>>=◌}
use Rattle.rs_course.specs.declared.input.Input.{Input}
use Rattle.rs_course.specs.declared.datagram.Datagram.{Datagram}
use Rattle.rs_course.specs.Course.{GiveNext, datagram_at, delivery_at, delivery_of, gives, lowest_pending, stepped_by, without, act}
use Rattle.rs_course.specs.Rules.{Rules}
use Rattle.rs_course.specs.World.{World}

-- the position of an element is below the length
pub get_below : {X : Type 0} (xs : List X) (i : ℕ) (x : X) → slice_get xs i ≡ Some x → i < length xs
get_below [] i x e = absurd cc
get_below (y ∷ ys) zero x e = omega arith
get_below (y ∷ ys) (suc i) x e = omega (arith, get_below ys i x e)

-- a position without an element isn't below the length
pub get_past : {X : Type 0} (xs : List X) (i : ℕ) → slice_get xs i ≡ None → length xs ≤ i
get_past [] i e = omega arith
get_past (y ∷ ys) zero e = absurd cc
get_past (y ∷ ys) (suc i) e = omega (arith, get_past ys i e)

-- ---- numbers from one on

abbrev is_among : ℕ → List ℕ → Bool
is_among k numbers = list_any (λ other. k == other) numbers

is_in : (a n k : ℕ) → a ≤ k → k < a + n → is_among k (range_with_len a n) ≡ true
is_in a zero k le lt = absurd (omega (arith, le, lt))
is_in a (suc n) k le lt =
    elim (cases_order k a) [
      | inl e ↦ ap (λ (b : Bool). b || is_among k (range_with_len (a + 1) n)) (let same : (k == a) ≡ true = grind (arith, nat_tests, e) in same)
      | inr (inl below) ↦ absurd (omega (arith, le, below))
      | inr (inr above) ↦ ap (λ (b : Bool). b || is_among k (range_with_len (a + 1) n)) (let other : (k == a) ≡ false = grind (arith, nat_tests, above) in other)
          ∙ is_in (a + 1) n k (omega (arith, above)) (omega (arith, lt))
    ]

is_past : (a n k : ℕ) → a + n ≤ k → is_among k (range_with_len a n) ≡ false
is_past a zero k le = refl
is_past a (suc n) k le =
    ap (λ (b : Bool). b || is_among k (range_with_len (a + 1) n)) (let other : (k == a) ≡ false = grind (arith, nat_tests, le) in other) ∙ is_past (a + 1) n k (omega (arith, le))

-- the first number that isn't among these
abbrev first_other : List ℕ → List ℕ → Option ℕ
first_other numbers gone = find (λ k. not (is_among k gone)) numbers

other_found : (a n d : ℕ) → a ≤ d + 1 → d + 1 < a + n → 1 ≤ a → first_other (range_with_len a n) (range_with_len 1 d) ≡ Some (d + 1)
other_found a zero d le lt some = absurd (omega (arith, le, lt))
other_found a (suc n) d le lt some =
    elim (cases_lt d a) [
      | inl past ↦
          let same : a ≡ d + 1 = omega (arith, le, past) in
          ap (λ (b : Bool). cond (not b) (Some a) (first_other (range_with_len (a + 1) n) (range_with_len 1 d))) (is_past 1 d a (omega (arith, past))) ∙ ap (λ (k : ℕ). Some k) same
      | inr within ↦
          ap (λ (b : Bool). cond (not b) (Some a) (first_other (range_with_len (a + 1) n) (range_with_len 1 d))) (is_in 1 d a some (omega (arith, within)))
          ∙ other_found (a + 1) n d (omega (arith, within)) (omega (arith, lt)) (omega arith)
    ]

none_found : (a n d : ℕ) → a + n ≤ d + 1 → 1 ≤ a → first_other (range_with_len a n) (range_with_len 1 d) ≡ None
none_found a zero d le some = refl
none_found a (suc n) d le some =
    ap (λ (b : Bool). cond (not b) (Some a) (first_other (range_with_len (a + 1) n) (range_with_len 1 d))) (is_in 1 d a some (omega (arith, le)))
    ∙ none_found (a + 1) n d (omega (arith, le)) (omega arith)

-- the next number comes to the end
pub insert_next : (a n k : ℕ) → k ≡ a + n → insert_key nat_cmp (range_with_len a n) k ≡ range_with_len a (n + 1)
insert_next a zero k is = ap (λ (x : ℕ). x ∷ []) (omega (arith, is))
insert_next a (suc n) k is =
    let above : nat_cmp k a ≡ Greater = grind (arith, is) in
    let longer : suc n + 1 ≡ suc (n + 1) = omega arith in
    ap (λ (o : Ordering). match_ordering o (k ∷ a ∷ range_with_len (a + 1) n) (a ∷ range_with_len (a + 1) n) (a ∷ insert_key nat_cmp (range_with_len (a + 1) n) k)) above
    ∙ ap (λ (xs : List ℕ). a ∷ xs) (insert_next (a + 1) n k (omega (arith, is)))
    ∙ ap (λ (m : ℕ). range_with_len a m) (sym longer)

-- ---- worlds

-- the datagrams up to this number are gone, and no others
abbrev pub AreGoneTo : {Site : Type 0} → World Site → ℕ → Type 0
AreGoneTo world d = world.gone ≡ range_with_len 1 d

lowest_is : {Site : Type 0} (world : World Site) (d : ℕ) → AreGoneTo world d → lowest_pending world ≡ first_other (range_with_len 1 (length world.sent)) (range_with_len 1 d)
lowest_is world d gone = ap (λ (numbers : List ℕ). first_other (range_with_len 1 (length world.sent)) numbers) gone

module _ {Site : Type 0} (world : World Site) (d : ℕ) (gone : AreGoneTo world d) where
  pub none_pending : length world.sent ≤ d → lowest_pending world ≡ None
  none_pending le = lowest_is world d gone ∙ none_found 1 (length world.sent) d (omega (arith, le)) (omega arith)

  pub one_pending : d < length world.sent → lowest_pending world ≡ Some (d + 1)
  one_pending lt = lowest_is world d gone ∙ other_found 1 (length world.sent) d (omega arith) (omega (arith, lt)) (omega arith)

  there : (datagram : Datagram) → slice_get world.sent d ≡ Some datagram → datagram_at world (d + 1) ≡ Some datagram
  there datagram at =
      let not_none : ((d + 1) == 0) ≡ false = grind (arith, nat_tests) in
      let same : (d + 1) - 1 ≡ d = omega arith in
      ap (λ (b : Bool). cond b None (slice_get world.sent ((d + 1) - 1))) not_none ∙ ap (λ (i : ℕ). slice_get world.sent i) same ∙ at

  -- the datagram after those that are gone is given to its site
  pub next_gives : (datagram : Datagram) → slice_get world.sent d ≡ Some datagram → gives world GiveNext ≡ Some (delivery_of datagram)
  next_gives datagram at =
      ap (delivery_at world) (one_pending (get_below world.sent d datagram at)) ∙ ap (λ (found : Option Datagram). found >>= λ other. Some (delivery_of other)) (there datagram at)

  -- the datagram that is given is that
  pub gives_next : (to : ℕ) (input : Input) → gives world GiveNext ≡ Some (to, input) → (datagram : Datagram) × (slice_get world.sent d ≡ Some datagram) × (delivery_of datagram ≡ (to, input))
  gives_next to input given = by (slice_get world.sent d) refl
    where
      by : (found : Option Datagram) → slice_get world.sent d ≡ found → (datagram : Datagram) × (slice_get world.sent d ≡ Some datagram) × (delivery_of datagram ≡ (to, input))
      by None e = absurd (let both : None ≡ Some (to, input) = sym (ap (delivery_at world) (none_pending (get_past world.sent d e))) ∙ given in cc)
      by (Some datagram) e = let both : Some (delivery_of datagram) ≡ Some (to, input) = sym (next_gives datagram e) ∙ given in (datagram, e, let same : delivery_of datagram ≡ (to, input) = cc in same)

-- ---- by the rules of the sites

module _ {Site : Type 0} (rules : Rules Site) where
  -- if none is pending, no datagram is delivered
  pub none_delivered : (world : World Site) → lowest_pending world ≡ None → act rules world GiveNext ≡ world
  none_delivered world none = ap (λ (number : Option ℕ). stepped_by rules (without number world) (delivery_at world number)) none

  abbrev pub next_given : World Site → ℕ → Option Datagram → World Site
  next_given world d None = world
  next_given world d (Some datagram) = stepped_by rules (record world { gone = range_with_len 1 (d + 1) }) (Some (delivery_of datagram))

  abbrev by_number : World Site → Option ℕ → World Site
  by_number world number = stepped_by rules (without number world) (delivery_at world number)

  pub none_next : (world : World Site) (d : ℕ) → AreGoneTo world d → length world.sent ≤ d → act rules world GiveNext ≡ world
  none_next world d gone le = ap (by_number world) (none_pending world d gone le)

  pub one_next : (world : World Site) (d : ℕ) → AreGoneTo world d → d < length world.sent → (datagram : Datagram) → slice_get world.sent d ≡ Some datagram
      → act rules world GiveNext ≡ next_given world d (Some datagram)
  one_next world d gone lt datagram at =
      ap (by_number world) (one_pending world d gone lt)
      ∙ ap (λ (found : Option Datagram). stepped_by rules (without (Some (d + 1)) world) (found >>= λ datagram. Some (delivery_of datagram))) (there world d gone datagram at)
      ∙ ap (λ (numbers : List ℕ). stepped_by rules (record world { gone = numbers }) (Some (delivery_of datagram))) left
    where
      left : insert_key nat_cmp world.gone (d + 1) ≡ range_with_len 1 (d + 1)
      left = ap (λ (numbers : List ℕ). insert_key nat_cmp numbers (d + 1)) gone ∙ insert_next 1 d (d + 1) (omega arith)
