-- The laws of a callee, over every list of deliveries.
use Rattle.std.proofs.Common.{◌≡◌, ℕ, zero, suc, ◌+◌, ◌-◌, ◌<◌, Bool, true, false, not, ◌&&◌, ◌||◌, ◌==◌, cond, List, [], ◌∷◌, ◌++◌, take, Option, Some, None, refl, sym, ap, ◌∙◌, arith}
use Rattle.std.proofs.lemmas.Bool.{and_parts, or_parts, eqb-true, eqb-false, ne_eqb, eq-eqb}
use Rattle.std.proofs.lemmas.Option.{slice_get_within}
use Rattle.std.specs.Prelude.{slice_get, is_some, is_none, nat_lt}
use Rattle.std.specs.Option.{option_or}
use Rattle.rs_call.specs.declared.body.Step.{Step}
use Rattle.rs_call.specs.declared.body.Step.TheVariants as steps
use Rattle.rs_call.specs.declared.callee.Callee.{Callee}
use Rattle.rs_call.specs.declared.callee.Took.{Took}
use Rattle.rs_call.specs.declared.callee.Took.TheVariants as tooks
use Rattle.rs_call.specs.Callee.{unrun, is_parked, last_step, took_by, answered, TakesBy}
use Rattle.rs_call.specs.Course.{Event, Delivered, Replied, callee_after, IsCourse, ran, reply_to}
use Rattle.rs_call.proofs.CallerLaws.{sent_as_called}
use Rattle.rs_call.specs.Laws.{called, IsPrefix, RunsEachOnceInOrder, RepeatGetsKeptReply}

-- ---- which calls run

abbrev answer_by : Bool → Bool → Bool → Bool → Option Took
answer_by old same is_there next =
    cond old (Some tooks.Old) (cond same (Some (cond is_there tooks.Repeat tooks.Parked)) (cond next None (Some tooks.Ahead)))

next_runs : (old same is_there next : Bool) → answer_by old same is_there next ≡ None → (old ≡ false) × (same ≡ false) × (next ≡ true)
next_runs true same is_there next e = absurd cc
next_runs false true is_there next e = absurd cc
next_runs false false is_there true e = (refl, refl, refl)
next_runs false false is_there false e = absurd cc

repeats : (old same is_there next : Bool) → answer_by old same is_there next ≡ Some tooks.Repeat → (old ≡ false) × (same ≡ true) × (is_there ≡ true)
repeats true same is_there next e = absurd cc
repeats false true true next e = (refl, refl, refl)
repeats false true false next e = absurd cc
repeats false false is_there true e = absurd cc
repeats false false is_there false e = absurd cc

-- only the call after the last runs
runs_next : {T : Type 0} (number : ℕ) (callee : Callee T) → unrun number callee ≡ None → number ≡ callee.last + 1
runs_next number callee e =
    let all = next_runs (number == 0 || nat_lt number callee.last) (number == callee.last) (is_some callee.reply) (number - 1 == callee.last && not (is_parked callee)) e in
    let not_old = or_parts (number == 0) (nat_lt number callee.last) all.0 in
    let positive = eqb-false number 0 not_old.0 in
    let before = eqb-true (number - 1) callee.last (and_parts (number - 1 == callee.last) (not (is_parked callee)) all.2).0 in
    omega (arith, positive, before)

-- a repeat is of the last call, whose reply is kept
repeat_is_last : {T : Type 0} (number : ℕ) (callee : Callee T) → unrun number callee ≡ Some tooks.Repeat → (number ≡ callee.last) × (is_some callee.reply ≡ true) × (0 < number)
repeat_is_last number callee e =
    let all = repeats (number == 0 || nat_lt number callee.last) (number == callee.last) (is_some callee.reply) (number - 1 == callee.last && not (is_parked callee)) e in
    let positive = eqb-false number 0 (or_parts (number == 0) (nat_lt number callee.last) all.0).0 in
    (eqb-true number callee.last all.1, all.2, omega (arith, positive))

-- ---- what ran

take_one_more : {A : Type 0} (xs : List A) (k : ℕ) (x : A) → slice_get xs k ≡ Some x → take k xs ++ x ∷ [] ≡ take (k + 1) xs
take_one_more [] k x e = absurd cc
take_one_more (y ∷ ys) zero x e = let same : Some x ≡ Some y = sym e in cc
take_one_more (y ∷ ys) (suc k) x e =
    let m : suc k + 1 ≡ suc (k + 1) = omega arith in
    ap (λ zs. y ∷ zs) (take_one_more ys k x e) ∙ ap (λ n. take n (y ∷ ys)) (sym m)

module _ {Ask T B : Type 0} (runs : B → Ask → B → Step T → Type 0) where
  prefix_more : (asked : List Ask) (number : ℕ) (ask : Ask) (took : Took) (old left : Callee T) (before after : B) (so_far : List Ask)
      → IsPrefix so_far asked old.last → slice_get asked (number - 1) ≡ Some ask → (answer : Option Took) → unrun number old ≡ answer → TakesBy runs answer number ask old before left after took
      → IsPrefix (cond (is_none answer) (so_far ++ ask ∷ []) so_far) asked left.last
  prefix_more asked number ask took old left before after so_far p this None e takes =
      let next = runs_next number old e in
      let at : number - 1 ≡ old.last = omega (arith, next) in
      let there : slice_get asked old.last ≡ Some ask = ap (slice_get asked) (sym at) ∙ this in
      let low = slice_get_within asked old.last ask there in
      let last : left.last ≡ old.last + 1 = ap (λ (c : Callee T). c.last) takes.1 ∙ next in
      record {
        were_called = omega (arith, low, last);
        in_order = ap (λ xs. xs ++ ask ∷ []) p.in_order ∙ take_one_more asked old.last ask there ∙ ap (λ n. take n asked) (sym last);
      }
  prefix_more asked number ask took old left before after so_far p this (Some answer) e takes =
      let last : left.last ≡ old.last = ap (λ (c : Callee T). c.last) takes.1 in
      record {
        were_called = omega (arith, p.were_called, last);
        in_order = p.in_order ∙ ap (λ n. take n asked) (sym last);
      }

  pub runs_each_once_in_order : RunsEachOnceInOrder runs
  runs_each_once_in_order doings [] course of = record { were_called = omega arith; in_order = refl }
  runs_each_once_in_order doings (Delivered number ask took left before after ∷ older) course of =
      prefix_more (called doings) number ask took (callee_after older) left before after (ran older) (runs_each_once_in_order doings older course.1 of.1)
      (sent_as_called doings number ask of.0) (unrun number (callee_after older)) refl course.0
  runs_each_once_in_order doings (Replied reply ∷ older) course of = runs_each_once_in_order doings older course.1 of

  -- ---- what is kept

  record Keeps (number : ℕ) (reply : Option T) (callee : Callee T) : Type 0 where
    of_last : number ≡ callee.last → 0 < number → callee.reply ≡ reply
    of_later : callee.last < number → reply ≡ None

  or_nothing : (x : Option T) → option_or x None ≡ x
  or_nothing None = refl
  or_nothing (Some x) = refl

  keeps_more : (number n : ℕ) (ask : Ask) (took : Took) (old left : Callee T) (before after : B) (reply : Option T)
      → Keeps number reply old → (answer : Option Took) → unrun n old ≡ answer → TakesBy runs answer n ask old before left after took
      → Keeps number (option_or reply (cond (number == n && is_none answer) left.reply None)) left
  keeps_more number n ask took old left before after reply k None e takes =
      let next = runs_next n old e in
      let last : left.last ≡ n = ap (λ (c : Callee T). c.last) takes.1 in
      record {
        of_last = λ is positive.
            let none : reply ≡ None = k.of_later (omega (arith, is, last, next)) in
            let same : (number == n) ≡ true = eq-eqb number n (is ∙ last) in
            rw (none, same) refl;
        of_later = λ low.
            let none : reply ≡ None = k.of_later (omega (arith, low, last, next)) in
            let other : (number == n) ≡ false = ne_eqb number n (λ same. absurd (omega (arith, same, low, last))) in
            rw (none, other) refl;
      }
  keeps_more number n ask took old left before after reply k (Some answer) e takes =
      let same : option_or reply (cond (number == n && false) left.reply None) ≡ reply = ap (λ b. option_or reply (cond b left.reply None)) (never (number == n)) ∙ or_nothing reply in
      let last : left.last ≡ old.last = ap (λ (c : Callee T). c.last) takes.1 in
      record {
        of_last = λ is positive. ap (λ (c : Callee T). c.reply) takes.1 ∙ k.of_last (is ∙ last) positive ∙ sym same;
        of_later = λ low. same ∙ k.of_later (omega (arith, low, last));
      }
    where
      never : (b : Bool) → (b && false) ≡ false
      never true = refl
      never false = refl

  keeps_reply : (number : ℕ) (told : T) (old : Callee T) (reply : Option T) → Keeps number reply old → is_parked old ≡ true
      → Keeps number (option_or reply (cond (number == old.last) (Some told) None)) (answered told old)
  keeps_reply number told old reply k parked = record {
    of_last = λ is positive.
        let none : reply ≡ None = sym (k.of_last is positive) ∙ nothing old.reply (and_parts (not (old.last == 0)) (is_none old.reply) parked).1 in
        let same : (number == old.last) ≡ true = eq-eqb number old.last is in
        rw (none, same) refl;
    of_later = λ low.
        let none : reply ≡ None = k.of_later low in
        let other : (number == old.last) ≡ false = ne_eqb number old.last (λ same. absurd (omega (arith, same, low))) in
        rw (none, other) refl;
  }
    where
      nothing : (x : Option T) → is_none x ≡ true → x ≡ None
      nothing None e = refl
      nothing (Some x) e = absurd cc

  keeps_of : (number : ℕ) (events : List (Event Ask T B)) → IsCourse runs events → Keeps number (reply_to number events) (callee_after events)
  keeps_of number [] course = record { of_last = λ is positive. refl; of_later = λ low. refl }
  keeps_of number (Delivered n ask took left before after ∷ older) course =
      keeps_more number n ask took (callee_after older) left before after (reply_to number older) (keeps_of number older course.1) (unrun n (callee_after older)) refl course.0
  keeps_of number (Replied reply ∷ older) course = keeps_reply number reply (callee_after older) (reply_to number older) (keeps_of number older course.1) course.0

  -- a delivery that was answered as a repeat
  answered_repeat : (number : ℕ) (ask : Ask) (old left : Callee T) (before after : B) (answer : Option Took) → unrun number old ≡ answer → TakesBy runs answer number ask old before left after tooks.Repeat
      → (unrun number old ≡ Some tooks.Repeat) × (left ≡ old)
  answered_repeat number ask old left before after (Some answer) e takes = (e ∙ ap Some (sym takes.0), takes.1)
  answered_repeat number ask old left before after None e takes = absurd (ran_or_parked (last_step left) takes.2)
    where
      ran_or_parked : (step : Step T) → tooks.Repeat ≡ took_by step → ⊥
      ran_or_parked (steps.Told reply) same = cc
      ran_or_parked steps.Waits same = cc

  pub repeat_gets_kept_reply : RepeatGetsKeptReply runs
  repeat_gets_kept_reply number ask left before after older course =
      let this = answered_repeat number ask (callee_after older) left before after (unrun number (callee_after older)) refl course.0 in
      let last = repeat_is_last number (callee_after older) this.0 in
      let found = there (callee_after older).reply last.1 in
      let first : (callee_after older).reply ≡ reply_to number older = (keeps_of number older course.1).of_last last.0 last.2 in
      (found.0, sym first ∙ found.1, record { was_kept = found.1; stays_kept = ap (λ (c : Callee T). c.reply) this.1 ∙ found.1 })
    where
      there : (x : Option T) → is_some x ≡ true → (reply : T) × (x ≡ Some reply)
      there None e = absurd cc
      there (Some reply) e = (reply, refl)
