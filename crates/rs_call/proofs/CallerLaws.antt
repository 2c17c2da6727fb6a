-- The laws of a caller.
use Rattle.std.proofs.Common.{◌≡◌, ℕ, zero, suc, ◌+◌, ◌-◌, ◌<◌, ◌≤◌, Bool, true, false, ◌&&◌, ◌==◌, cond, List, [], ◌∷◌, ◌++◌, map, Some, None, refl, sym, ap, ◌∙◌, arith, inl, inr}
use Rattle.std.proofs.lemmas.Bool.{and_parts, and_right, eqb-true}
use Rattle.std.proofs.lemmas.List.{map-append}
use Rattle.std.specs.Prelude.{slice_get}
use Rattle.std.specs.List.{range_with_len}
use Rattle.rs_call.specs.declared.caller.Caller.{Caller}
use Rattle.rs_call.specs.Caller.{has_next, next_number, after_next, awaits, after_reply}
use Rattle.rs_call.specs.Course.{Doing, Calls, Hears, caller_after, message_of, sent, IsIn, times_fresh}
use Rattle.rs_call.specs.Laws.{called, NumbersCountUp, AnsweredOnce}

-- one number more
range_more : (a n : ℕ) → range_with_len a n ++ (a + n) ∷ [] ≡ range_with_len a (n + 1)
range_more a zero = let e : a + zero ≡ a = omega arith in ap (λ m. m ∷ []) e
range_more a (suc n) =
    let e : a + suc n ≡ a + 1 + n = omega arith in
    let m : suc n + 1 ≡ suc (n + 1) = omega arith in
    ap (λ k. a ∷ (range_with_len (a + 1) n ++ k ∷ [])) e ∙ ap (λ xs. a ∷ xs) (range_more (a + 1) n) ∙ ap (range_with_len a) (sym m)

same_last : (number : ℕ) (caller : Caller) → (after_reply number caller).last ≡ caller.last
same_last number caller = by_test (awaits number caller)
  where
    by_test : (b : Bool) → (cond b (record caller { waits = false }) caller).last ≡ caller.last
    by_test true = refl
    by_test false = refl

numbers_more : {Ask : Type 0} (caller : Caller) (ask : Ask) → range_with_len 1 caller.last ++ map (λ (message : ℕ × Ask). message.0) (message_of (next_number caller) ask) ≡ range_with_len 1 (after_next caller).last
numbers_more {Ask} caller ask = by_test (has_next caller)
  where
    flip : caller.last + 1 ≡ 1 + caller.last
    flip = omega arith

    by_test : (b : Bool) → range_with_len 1 caller.last ++ map (λ (message : ℕ × Ask). message.0) (message_of (cond b (Some (caller.last + 1)) None) ask) ≡ range_with_len 1 (cond b (record { last = caller.last + 1; waits = true }) caller).last
    by_test true = ap (λ k. range_with_len 1 caller.last ++ k ∷ []) flip ∙ range_more 1 caller.last
    by_test false = none (range_with_len 1 caller.last)
      where
        none : (xs : List ℕ) → xs ++ [] ≡ xs
        none [] = refl
        none (x ∷ xs) = ap (λ ys. x ∷ ys) (none xs)

pub numbers_count_up : (Ask : Type 0) → NumbersCountUp Ask
numbers_count_up Ask [] = refl
numbers_count_up Ask (Calls ask ∷ older) =
    map-append (λ (message : ℕ × Ask). message.0) (sent older) (message_of (next_number (caller_after older)) ask)
    ∙ ap (λ (xs : List ℕ). xs ++ map (λ (message : ℕ × Ask). message.0) (message_of (next_number (caller_after older)) ask)) (numbers_count_up Ask older)
    ∙ numbers_more (caller_after older) ask
numbers_count_up Ask (Hears number ∷ older) = numbers_count_up Ask older ∙ ap (range_with_len 1) (sym (same_last number (caller_after older)))

-- Of messages whose numbers count up, each is found by its number.
found_by_number : {Ask : Type 0} (first many : ℕ) (messages : List (ℕ × Ask)) (number : ℕ) (ask : Ask) → map (λ (message : ℕ × Ask). message.0) messages ≡ range_with_len first many → IsIn (number, ask) messages
    → (first ≤ number) × (slice_get (map (λ (message : ℕ × Ask). message.1) messages) (number - first) ≡ Some ask)
found_by_number first many [] number ask e this = absurd this
found_by_number first zero (m ∷ ms) number ask e this = absurd cc
found_by_number {Ask} first (suc many) (m ∷ ms) number ask e (inl same) =
    let at : number ≡ first = ap (λ (message : ℕ × Ask). message.0) same ∙ heads m.0 first (map (λ (message : ℕ × Ask). message.0) ms) (range_with_len (first + 1) many) e in
    let none : number - first ≡ 0 = omega (arith, at) in
    (omega (arith, at), ap (slice_get (m.1 ∷ map (λ (message : ℕ × Ask). message.1) ms)) none ∙ ap (λ (message : ℕ × Ask). Some message.1) (sym same))
  where
    heads : (x y : ℕ) (xs ys : List ℕ) → x ∷ xs ≡ y ∷ ys → x ≡ y
    heads x y xs ys same = cc
found_by_number {Ask} first (suc many) (m ∷ ms) number ask e (inr later) =
    let rest = found_by_number (first + 1) many ms number ask (tails m.0 first (map (λ (message : ℕ × Ask). message.0) ms) (range_with_len (first + 1) many) e) later in
    let one : number - first ≡ suc (number - (first + 1)) = omega (arith, rest.0) in
    (omega (arith, rest.0), ap (slice_get (m.1 ∷ map (λ (message : ℕ × Ask). message.1) ms)) one ∙ rest.1)
  where
    tails : (x y : ℕ) (xs ys : List ℕ) → x ∷ xs ≡ y ∷ ys → xs ≡ ys
    tails x y xs ys same = cc

-- a message that was sent is the call of its number
pub sent_as_called : {Ask : Type 0} (doings : List (Doing Ask)) (number : ℕ) (ask : Ask) → IsIn (number, ask) (sent doings) → slice_get (called doings) (number - 1) ≡ Some ask
sent_as_called {Ask} doings number ask this = (found_by_number 1 (caller_after doings).last (sent doings) number ask (numbers_count_up Ask doings) this).1

-- how often a reply was fresh, against the caller
record Fresh (number : ℕ) (times : ℕ) (caller : Caller) : Type 0 where
  at_most : times ≤ 1
  later : caller.last < number → times ≡ 0
  waiting : caller.last ≡ number → caller.waits ≡ true → times ≡ 0

fresh_next : (number times : ℕ) (caller : Caller) → Fresh number times caller → Fresh number times (after_next caller)
fresh_next number times caller f = by_test (has_next caller)
  where
    by_test : (b : Bool) → Fresh number times (cond b (record { last = caller.last + 1; waits = true }) caller)
    by_test true = record {
      at_most = f.at_most;
      later = λ low. f.later (omega arith);
      waiting = λ last waits. f.later (omega arith);
    }
    by_test false = f

fresh_reply : (number n times : ℕ) (caller : Caller) → Fresh number times caller → Fresh number (times + cond ((number == n) && awaits n caller) 1 0) (after_reply n caller)
fresh_reply number n times caller f = by_test (awaits n caller) refl
  where
    still : (b : Bool) → b ≡ false → Fresh number (times + cond b 1 0) caller
    still true e = absurd cc
    still false e = record {
      at_most = omega (arith, f.at_most);
      later = λ low. omega (arith, f.later low);
      waiting = λ last waits. omega (arith, f.waiting last waits);
    }

    answered : (b : Bool) → (number == n) ≡ b → (caller.waits && n == caller.last) ≡ true → Fresh number (times + cond (b && true) 1 0) (record caller { waits = false })
    answered true same e =
        let number_is = eqb-true number n same in
        let both = and_parts caller.waits (n == caller.last) e in
        let n_is = eqb-true n caller.last both.1 in
        let none : times ≡ 0 = f.waiting (sym n_is ∙ sym number_is) both.0 in
        record {
          at_most = omega (arith, none);
          later = λ low. absurd (omega (arith, low, number_is, n_is));
          waiting = λ last waits. absurd cc;
        }
    answered false same e = record {
      at_most = omega (arith, f.at_most);
      later = λ low. omega (arith, f.later low);
      waiting = λ last waits. absurd cc;
    }

    by_test : (b : Bool) → awaits n caller ≡ b → Fresh number (times + cond ((number == n) && b) 1 0) (cond b (record caller { waits = false }) caller)
    by_test true e = answered (number == n) refl e
    by_test false e = still ((number == n) && false) (and_right (number == n) false refl)

fresh_of : {Ask : Type 0} (number : ℕ) (doings : List (Doing Ask)) → Fresh number (times_fresh number doings) (caller_after doings)
fresh_of number [] = record {
  at_most = omega arith;
  later = λ low. refl;
  waiting = λ last waits. refl;
}
fresh_of number (Calls ask ∷ older) = fresh_next number (times_fresh number older) (caller_after older) (fresh_of number older)
fresh_of number (Hears n ∷ older) = fresh_reply number n (times_fresh number older) (caller_after older) (fresh_of number older)

pub answered_once : (Ask : Type 0) → AnsweredOnce Ask
answered_once Ask number doings = (fresh_of number doings).at_most
