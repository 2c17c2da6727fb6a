-- What the queue of a resource keeps: upgrades stand first, each enlistment once, and each waits for another's claim.
use Rattle.std.proofs.Common.{◌≡◌, ◌⊎◌, ℕ, zero, suc, ◌+◌, Bool, true, false, not, ◌&&◌, ◌||◌, cond, List, [], ◌∷◌, ◌++◌, length, filter, Option, Some, None, refl, sym, ap, ◌∙◌, inl, inr, arith}
use Rattle.std.specs.Prelude.{find, ◌==◌}
use Rattle.std.specs.List.{insert, list_all, list_any, position_or_len}
use Rattle.std.specs.Option.{option_map}
use Rattle.std.specs.Ordering.{is_eq}
use Rattle.std.specs.declared.cmp.Ordering.{Ordering}
use Rattle.std.specs.declared.cmp.Ordering.TheVariants.{Less, Equal, Greater}
use Rattle.std.proofs.lemmas.Bool.{and_parts, and_from, and_cases, or_cases, or_parts, or_from, or_left, or_right, not_from_false, not-true, not-false, eqb-true, true≢false, false≢true}
use Rattle.std.proofs.lemmas.List.{nil_from_length}
use Rattle.std.proofs.lemmas.List.Folds.{list_any-append}
use Rattle.rs_base.specs.Txn.{enlist_cmp}
use Rattle.rs_base.specs.declared.txn.Enlist.{Enlist}
use Rattle.rs_lock.specs.declared.claim.Claim.{Claim}
use Rattle.rs_lock.specs.declared.verdict.Verdict.TheVariants as verdicts
use Rattle.rs_lock.specs.Claims.{same, is_by, has, other_than, without, conflicts, is_refused, is_covered}
use Rattle.rs_lock.specs.Laws.{upgrades_by, upgrades_first, each_once, has_other}
use Rattle.rs_lock.specs.Lock.{Lock, verdict, granted, upgrades, place, enqueued, settled, released, dequeued, has_to_wait, is_behind, blocked_by}
use Rattle.rs_lock.specs.Locks.{taken_in}
use Rattle.rs_lock.proofs.Fitting.{all_filter}
use Rattle.rs_lock.proofs.Orders.{enlist_exact}
use Rattle.rs_lock.proofs.Verdicts.{same_self, none_of, refused_by_other, free_means}

-- ---- enlistments

pub is_tie : (r : Ordering) → is_eq r ≡ true → r ≡ Equal
is_tie Less e = absurd (false≢true e)
is_tie Equal e = refl
is_tie Greater e = absurd (false≢true e)

pub same_is : (one other : Enlist) → same one other ≡ true → one ≡ other
same_is one other e = enlist_exact one other (is_tie (enlist_cmp one other) e)

pub apart_back : (one other : Enlist) → same one other ≡ false → same other one ≡ false
apart_back one other apart = by_test (same other one) refl
  where
    by_test : (b : Bool) → same other one ≡ b → same other one ≡ false
    by_test true e = absurd (true≢false (sym (same_self one) ∙ ap (same one) (sym (same_is other one e)) ∙ apart))
    by_test false e = e

-- ---- tests of lists

pub any_filter : {X : Type 0} (p test : X → Bool) (xs : List X) → list_any p xs ≡ false → list_any p (filter test xs) ≡ false
any_filter p test [] none = refl
any_filter p test (x ∷ xs) none =
    let parts = or_parts (p x) (list_any p xs) none in
    elim (test x) as (λ b. list_any p (cond b (x ∷ filter test xs) (filter test xs)) ≡ false) [
      | true ↦ or_from (p x) (list_any p (filter test xs)) parts.0 (any_filter p test xs parts.1)
      | false ↦ any_filter p test xs parts.1
    ]

any_insert : {X : Type 0} (p : X → Bool) (x : X) (k : ℕ) (xs : List X) → list_any p xs ≡ false → p x ≡ false → list_any p (insert xs k x) ≡ false
any_insert p x zero xs none here = or_from (p x) (list_any p xs) here none
any_insert p x (suc k) [] none here = or_from (p x) false here refl
any_insert p x (suc k) (y ∷ ys) none here =
    let parts = or_parts (p y) (list_any p ys) none in
    or_from (p y) (list_any p (insert ys k x)) parts.0 (any_insert p x k ys parts.1 here)

all_insert : {X : Type 0} (p : X → Bool) (x : X) (k : ℕ) (xs : List X) → list_all p xs ≡ true → p x ≡ true → list_all p (insert xs k x) ≡ true
all_insert p x zero xs all here = and_from (p x) (list_all p xs) here all
all_insert p x (suc k) [] all here = and_from (p x) true here refl
all_insert p x (suc k) (y ∷ ys) all here =
    let parts = and_parts (p y) (list_all p ys) all in
    and_from (p y) (list_all p (insert ys k x)) parts.0 (all_insert p x k ys parts.1 here)

pub all_weaker : {X : Type 0} (p q : X → Bool) → ((x : X) → p x ≡ true → q x ≡ true) → (xs : List X) → list_all p xs ≡ true → list_all q xs ≡ true
all_weaker p q says [] all = refl
all_weaker p q says (x ∷ xs) all =
    let parts = and_parts (p x) (list_all p xs) all in
    and_from (q x) (list_all q xs) (says x parts.0) (all_weaker p q says xs parts.1)

-- ---- each once

pub once_filter : (test : Claim → Bool) (queue : List Claim) → each_once queue ≡ true → each_once (filter test queue) ≡ true
once_filter test [] once = refl
once_filter test (c ∷ queue) once =
    let parts = and_parts (not (has c.who queue)) (each_once queue) once in
    elim (test c) as (λ b. each_once (cond b (c ∷ filter test queue) (filter test queue)) ≡ true) [
      | true ↦ and_from (not (has c.who (filter test queue))) (each_once (filter test queue))
          (not_from_false (has c.who (filter test queue)) (any_filter (is_by c.who) test queue (not-true (has c.who queue) parts.0))) (once_filter test queue parts.1)
      | false ↦ once_filter test queue parts.1
    ]

once_insert : (claim : Claim) (k : ℕ) (queue : List Claim) → each_once queue ≡ true → has claim.who queue ≡ false → each_once (insert queue k claim) ≡ true
once_insert claim zero queue once none = and_from (not (has claim.who queue)) (each_once queue) (not_from_false (has claim.who queue) none) once
once_insert claim (suc k) [] once none = refl
once_insert claim (suc k) (c ∷ queue) once none =
    let parts = and_parts (not (has c.who queue)) (each_once queue) once in
    let away = or_parts (is_by claim.who c) (has claim.who queue) none in
    and_from (not (has c.who (insert queue k claim))) (each_once (insert queue k claim))
    (not_from_false (has c.who (insert queue k claim)) (any_insert (is_by c.who) claim k queue (not-true (has c.who queue) parts.0) (apart_back claim.who c.who away.0)))
    (once_insert claim k queue parts.1 away.1)

-- ---- who holds once a claim is granted or gone

pub has_without_other : (who q : Enlist) → same who q ≡ false → (claims : List Claim) → has q (without who claims) ≡ has q claims
has_without_other who q apart [] = refl
has_without_other who q apart (c ∷ cs) =
    elim (is_by who c) as (λ b. is_by who c ≡ b → has q (cond (not b) (c ∷ without who cs) (without who cs)) ≡ (is_by q c || has q cs)) [
      | true ↦ λ h.
          let other : is_by q c ≡ false = ap (same q) (sym (same_is who c.who h)) ∙ apart_back who q apart in
          has_without_other who q apart cs ∙ sym (ap (λ b. b || has q cs) other)
      | false ↦ λ h. ap (λ b. is_by q c || b) (has_without_other who q apart cs)
    ] refl

or_false : (b : Bool) → (b || false) ≡ b
or_false true = refl
or_false false = refl

pub has_granted : (claim : Claim) (holders : List Claim) (q : Enlist) → same claim.who q ≡ false → has q (granted claim holders) ≡ has q holders
has_granted claim holders q apart =
    list_any-append (is_by q) (without claim.who holders) (claim ∷ [])
    ∙ ap (λ b. has q (without claim.who holders) || (b || false)) (apart_back claim.who q apart)
    ∙ or_false (has q (without claim.who holders))
    ∙ has_without_other claim.who q apart holders

pub has_granted_self : (claim : Claim) (holders : List Claim) → has claim.who (granted claim holders) ≡ true
has_granted_self claim holders =
    list_any-append (is_by claim.who) (without claim.who holders) (claim ∷ [])
    ∙ or_right (has claim.who (without claim.who holders)) (is_by claim.who claim || false) (or_left (is_by claim.who claim) false (same_self claim.who))

-- an upgrade's grant changes no holder
has_upgraded : (claim : Claim) (holders : List Claim) → has claim.who holders ≡ true → (q : Enlist) → has q (granted claim holders) ≡ has q holders
has_upgraded claim holders own q = by_test (same claim.who q) refl
  where
    by_test : (b : Bool) → same claim.who q ≡ b → has q (granted claim holders) ≡ has q holders
    by_test true e =
        let is : claim.who ≡ q = same_is claim.who q e in
        ap (λ w. has w (granted claim holders)) (sym is) ∙ has_granted_self claim holders ∙ sym own ∙ ap (λ w. has w holders) is
    by_test false e = has_granted claim holders q e

-- ---- whom a claim waits for

-- another's claim is left where one's own is gone
other_without : (who : Enlist) (claims : List Claim) → has_other who (without who claims) ≡ has_other who claims
other_without who [] = refl
other_without who (c ∷ cs) =
    elim (is_by who c) as (λ b. is_by who c ≡ b → has_other who (cond (not b) (c ∷ without who cs) (without who cs)) ≡ (not b || has_other who cs)) [
      | true ↦ λ h. other_without who cs
      | false ↦ λ h. ap (λ b. not b || has_other who (without who cs)) h
    ] refl

other_granted : (claim : Claim) (holders : List Claim) (q : Enlist) → has_other q holders ≡ true → has_other q (granted claim holders) ≡ true
other_granted claim holders q other = by_test (same q claim.who) refl
  where
    split : has_other q (granted claim holders) ≡ (has_other q (without claim.who holders) || (not (is_by q claim) || false))
    split = list_any-append (λ c. not (is_by q c)) (without claim.who holders) (claim ∷ [])

    by_test : (b : Bool) → same q claim.who ≡ b → has_other q (granted claim holders) ≡ true
    by_test true e =
        let left : has_other q (without claim.who holders) ≡ true
        = ap (λ w. has_other q (without w holders)) (sym (same_is q claim.who e)) ∙ other_without q holders ∙ other in
        split ∙ or_left (has_other q (without claim.who holders)) (not (is_by q claim) || false) left
    by_test false e =
        split ∙ or_right (has_other q (without claim.who holders)) (not (is_by q claim) || false) (or_left (not (is_by q claim)) false (not_from_false (is_by q claim) e))

-- a holder is another for each who holds nothing
other_of_none : (q x : Enlist) (holders : List Claim) → has q holders ≡ false → has_other x holders ≡ true → has_other q holders ≡ true
other_of_none q x [] none other = other
other_of_none q x (c ∷ cs) none other =
    or_left (not (is_by q c)) (has_other q cs) (not_from_false (is_by q c) (or_parts (is_by q c) (has q cs) none).0)

-- a holder is another for each other
other_of_holder : (q x : Enlist) (holders : List Claim) → has x holders ≡ true → same q x ≡ false → has_other q holders ≡ true
other_of_holder q x [] own apart = absurd (false≢true own)
other_of_holder q x (c ∷ cs) own apart =
    elim (is_by x c) as (λ b. is_by x c ≡ b → (b || has x cs) ≡ true → (not (is_by q c) || has_other q cs) ≡ true) [
      | true ↦ λ h e. or_left (not (is_by q c)) (has_other q cs) (not_from_false (is_by q c) (ap (same q) (sym (same_is x c.who h)) ∙ apart))
      | false ↦ λ h e. or_right (not (is_by q c)) (has_other q cs) (other_of_holder q x cs e apart)
    ] refl own

other_of_refused : (claim : Claim) (holders : List Claim) → is_refused claim holders ≡ true → has_other claim.who holders ≡ true
other_of_refused claim [] refused = refused
other_of_refused claim (c ∷ cs) refused =
    elim (is_by claim.who c) as (λ b. ((not b && conflicts claim.mode c.mode) || is_refused claim cs) ≡ true → (not b || has_other claim.who cs) ≡ true)
    [ true ↦ λ h. other_of_refused claim cs h | false ↦ λ h. refl ] refused

other_of_found : (who : Enlist) (holders : List Claim) (other : Enlist) → other_than who holders ≡ Some other → has_other who holders ≡ true
other_of_found who [] other e = cc
other_of_found who (c ∷ cs) other e =
    elim (is_by who c) as (λ b. option_map (λ (claim : Claim). claim.who) (cond (not b) (Some c) (find (λ claim. not (is_by who claim)) cs)) ≡ Some other → (not b || has_other who cs) ≡ true)
    [ true ↦ λ h. other_of_found who cs other h | false ↦ λ h. refl ] e

-- ---- upgrades first

all_none : (holds : Enlist → Bool) (queue : List Claim) → list_all (λ later. not (holds later.who)) queue ≡ true → upgrades_by holds queue ≡ true
all_none holds [] all = refl
all_none holds (c ∷ queue) all =
    let parts = and_parts (not (holds c.who)) (list_all (λ later. not (holds later.who)) queue) all in
    ap (λ b. cond b (upgrades_by holds queue) (list_all (λ later. not (holds later.who)) queue)) (not-true (holds c.who) parts.0) ∙ parts.1

upgrades_tail : (holds : Enlist → Bool) (c : Claim) (queue : List Claim) → upgrades_by holds (c ∷ queue) ≡ true → upgrades_by holds queue ≡ true
upgrades_tail holds c queue first =
    elim (holds c.who) as (λ b. cond b (upgrades_by holds queue) (list_all (λ later. not (holds later.who)) queue) ≡ true → upgrades_by holds queue ≡ true)
    [ true ↦ λ h. h | false ↦ λ h. all_none holds queue h ] first

upgrades_filter : (test : Claim → Bool) (holds : Enlist → Bool) (queue : List Claim) → upgrades_by holds queue ≡ true → upgrades_by holds (filter test queue) ≡ true
upgrades_filter test holds [] first = refl
upgrades_filter test holds (c ∷ queue) first =
    let rest : upgrades_by holds (filter test queue) ≡ true = upgrades_filter test holds queue (upgrades_tail holds c queue first) in
    elim (test c) as (λ b. upgrades_by holds (cond b (c ∷ filter test queue) (filter test queue)) ≡ true) [
      | true ↦ elim (holds c.who) as (λ b. cond b (upgrades_by holds queue) (list_all (λ later. not (holds later.who)) queue) ≡ true
          → cond b (upgrades_by holds (filter test queue)) (list_all (λ later. not (holds later.who)) (filter test queue)) ≡ true)
          [ true ↦ λ h. rest | false ↦ λ h. all_filter (λ later. not (holds later.who)) test queue h ] first
      | false ↦ rest
    ]

insert_upgrade : (holds : Enlist → Bool) (claim : Claim) → holds claim.who ≡ true → (queue : List Claim) → upgrades_by holds queue ≡ true
    → upgrades_by holds (insert queue (position_or_len (λ queued. not (holds queued.who)) queue) claim) ≡ true
insert_upgrade holds claim own [] first = ap (λ b. cond b true true) own
insert_upgrade holds claim own (c ∷ queue) first =
    let k : ℕ = position_or_len (λ queued. not (holds queued.who)) queue in
    elim (holds c.who) as (λ b. holds c.who ≡ b → cond b (upgrades_by holds queue) (list_all (λ later. not (holds later.who)) queue) ≡ true
    → upgrades_by holds (insert (c ∷ queue) (cond (not (not b)) (1 + k) 0) claim) ≡ true) [
      | true ↦ λ h e.
          let more : 1 + k ≡ suc k = omega arith in
          ap (λ n. upgrades_by holds (insert (c ∷ queue) n claim)) more
          ∙ ap (λ b. cond b (upgrades_by holds (insert queue k claim)) (list_all (λ later. not (holds later.who)) (insert queue k claim))) h
          ∙ insert_upgrade holds claim own queue e
      | false ↦ λ h e.
          ap (λ b. cond b (upgrades_by holds (c ∷ queue)) (list_all (λ later. not (holds later.who)) (c ∷ queue))) own ∙ first
    ] refl first

insert_last : (holds : Enlist → Bool) (claim : Claim) → holds claim.who ≡ false → (queue : List Claim) → upgrades_by holds queue ≡ true → upgrades_by holds (insert queue (length queue) claim) ≡ true
insert_last holds claim none [] first = ap (λ b. cond b true true) none
insert_last holds claim none (c ∷ queue) first =
    elim (holds c.who) as (λ b. cond b (upgrades_by holds queue) (list_all (λ later. not (holds later.who)) queue) ≡ true
    → cond b (upgrades_by holds (insert queue (length queue) claim)) (list_all (λ later. not (holds later.who)) (insert queue (length queue) claim)) ≡ true) [
      | true ↦ λ e. insert_last holds claim none queue e
      | false ↦ λ e. all_insert (λ later. not (holds later.who)) claim (length queue) queue e (not_from_false (holds claim.who) none)
    ] first

-- ---- one lock

pub record IsSound (lock : Lock) : Type 0 where
  pub once : each_once lock.queue ≡ true
  pub first : upgrades_first lock ≡ true
  pub blocked : list_all (λ queued. has_other queued.who lock.holders) lock.queue ≡ true

-- ---- a release

-- the first is an upgrade, and the others wait for it
blocked_by_upgrade : (c : Claim) (holders queue : List Claim) → has c.who holders ≡ true → has c.who queue ≡ false → list_all (λ queued. has_other queued.who holders) queue ≡ true
blocked_by_upgrade c holders [] own none = refl
blocked_by_upgrade c holders (d ∷ queue) own none =
    let parts = or_parts (is_by c.who d) (has c.who queue) none in
    and_from (has_other d.who holders) (list_all (λ queued. has_other queued.who holders) queue)
    (other_of_holder d.who c.who holders own (apart_back c.who d.who parts.0)) (blocked_by_upgrade c holders queue own parts.1)

settled_sound : (holders queue : List Claim) (before : List Enlist) → each_once queue ≡ true → upgrades_by (λ who. has who holders) queue ≡ true → IsSound (settled holders queue before).0
settled_sound holders [] before once first = record { once = refl; first = refl; blocked = refl }
settled_sound holders (c ∷ queue) before once first =
    let parts = and_parts (not (has c.who queue)) (each_once queue) once in
    let none : has c.who queue ≡ false = not-true (has c.who queue) parts.0 in
    let none_holds : Claim → Bool = λ later. not (has later.who holders) in
    elim (is_refused c holders) as (λ b. is_refused c holders ≡ b
    → IsSound (cond b (record { holders = holders; queue = c ∷ queue }, before) (settled (granted c holders) queue (before ++ c.who ∷ []))).0) [
      | true ↦ λ h.
          let other : has_other c.who holders ≡ true = other_of_refused c holders h in
          let others : list_all (λ queued. has_other queued.who holders) queue ≡ true =
          elim (has c.who holders) as (λ b. has c.who holders ≡ b → cond b (upgrades_by (λ who. has who holders) queue) (list_all none_holds queue) ≡ true
          → list_all (λ queued. has_other queued.who holders) queue ≡ true) [
            | true ↦ λ own e. blocked_by_upgrade c holders queue own none
            | false ↦ λ own e. all_weaker none_holds (λ queued. has_other queued.who holders)
                (λ d says. other_of_none d.who c.who holders (not-true (has d.who holders) says) other) queue e
          ] refl first in
          record { once = once; first = first; blocked = and_from (has_other c.who holders) (list_all (λ queued. has_other queued.who holders) queue) other others }
      | false ↦ λ h. settled_sound (granted c holders) queue (before ++ c.who ∷ []) parts.1 (next_first none)
    ] refl
  where
    holds : Enlist → Bool
    holds who = has who holders

    still_none : (ds : List Claim) → has c.who ds ≡ false → list_all (λ later. not (has later.who holders)) ds ≡ true → list_all (λ later. not (has later.who (granted c holders))) ds ≡ true
    still_none [] apart all = refl
    still_none (d ∷ ds) apart all =
        let away = or_parts (is_by c.who d) (has c.who ds) apart in
        let all_parts = and_parts (not (has d.who holders)) (list_all (λ later. not (has later.who holders)) ds) all in
        and_from (not (has d.who (granted c holders))) (list_all (λ later. not (has later.who (granted c holders))) ds)
        (ap not (has_granted c holders d.who away.0) ∙ all_parts.0) (still_none ds away.1 all_parts.1)

    next_first : has c.who queue ≡ false → upgrades_by (λ who. has who (granted c holders)) queue ≡ true
    next_first none =
        elim (has c.who holders) as (λ b. has c.who holders ≡ b → cond b (upgrades_by (λ who. has who holders) queue) (list_all (λ later. not (has later.who holders)) queue) ≡ true
        → upgrades_by (λ who. has who (granted c holders)) queue ≡ true) [
          | true ↦ λ own e. ap (λ (f : Enlist → Bool). upgrades_by f queue) (λ i who. has_upgraded c holders own who i) ∙ e
          | false ↦ λ own e. all_none (λ who. has who (granted c holders)) queue (still_none queue none e)
        ] refl first

-- the queue's order stays where an enlistment leaves
left_first : (who : Enlist) (holders queue : List Claim) → upgrades_by (λ q. has q holders) queue ≡ true → upgrades_by (λ q. has q (without who holders)) (without who queue) ≡ true
left_first who holders [] first = refl
left_first who holders (c ∷ queue) first =
    let rest : upgrades_by (λ q. has q (without who holders)) (without who queue) ≡ true = left_first who holders queue (upgrades_tail (λ q. has q holders) c queue first) in
    elim (is_by who c) as (λ b. is_by who c ≡ b → upgrades_by (λ q. has q (without who holders)) (cond (not b) (c ∷ without who queue) (without who queue)) ≡ true) [
      | true ↦ λ h. rest
      | false ↦ λ h.
          let here : has c.who (without who holders) ≡ has c.who holders = has_without_other who c.who h holders in
          ap (λ b. cond b (upgrades_by (λ q. has q (without who holders)) (without who queue)) (list_all (λ later. not (has later.who (without who holders))) (without who queue))) here
          ∙ elim (has c.who holders) as (λ b. cond b (upgrades_by (λ q. has q holders) queue) (list_all (λ later. not (has later.who holders)) queue) ≡ true
          → cond b (upgrades_by (λ q. has q (without who holders)) (without who queue)) (list_all (λ later. not (has later.who (without who holders))) (without who queue)) ≡ true)
          [ true ↦ λ e. rest | false ↦ λ e. still_none queue e ] first
    ] refl
  where
    still_none : (ds : List Claim) → list_all (λ later. not (has later.who holders)) ds ≡ true → list_all (λ later. not (has later.who (without who holders))) (without who ds) ≡ true
    still_none [] all = refl
    still_none (d ∷ ds) all =
        let parts = and_parts (not (has d.who holders)) (list_all (λ later. not (has later.who holders)) ds) all in
        elim (is_by who d) as (λ b. is_by who d ≡ b → list_all (λ later. not (has later.who (without who holders))) (cond (not b) (d ∷ without who ds) (without who ds)) ≡ true) [
          | true ↦ λ h. still_none ds parts.1
          | false ↦ λ h.
              and_from (not (has d.who (without who holders))) (list_all (λ later. not (has later.who (without who holders))) (without who ds))
              (ap not (has_without_other who d.who h holders) ∙ parts.0) (still_none ds parts.1)
        ] refl

pub released_sound : (who : Enlist) (lock : Lock) → IsSound lock → IsSound (released who lock []).0
released_sound who lock sound =
    settled_sound (without who lock.holders) (without who lock.queue) [] (once_filter (λ claim. not (is_by who claim)) lock.queue sound.once) (left_first who lock.holders lock.queue sound.first)

pub dequeued_sound : (who : Enlist) (lock : Lock) → IsSound lock → IsSound (dequeued who lock)
dequeued_sound who lock sound = record {
  once = once_filter (λ claim. not (is_by who claim)) lock.queue sound.once;
  first = upgrades_filter (λ claim. not (is_by who claim)) (λ q. has q lock.holders) lock.queue sound.first;
  blocked = all_filter (λ queued. has_other queued.who lock.holders) (λ claim. not (is_by who claim)) lock.queue sound.blocked;
}

-- ---- an ask

-- one that has to wait has a holder to wait for
no_other : (who q : Enlist) (holders : List Claim) → has who holders ≡ false → has_other q holders ≡ true → other_than who holders ≡ None → ⊥
no_other who q [] none other e = false≢true other
no_other who q (c ∷ cs) none other e =
    let here : is_by who c ≡ false = (or_parts (is_by who c) (has who cs) none).0 in
    some_not (sym (ap (λ b. option_map (λ (claim : Claim). claim.who) (cond (not b) (Some c) (find (λ claim. not (is_by who claim)) cs))) here) ∙ e)
  where
    some_not : Some c.who ≡ None → ⊥
    some_not e = cc

pub waits_for_holder : (claim : Claim) (holders queue : List Claim) → list_all (λ queued. has_other queued.who holders) queue ≡ true
    → has_to_wait claim (record { holders = holders; queue = queue }) ≡ true → other_than claim.who holders ≡ None → ⊥
waits_for_holder claim holders [] blocked waits none = by_parts (or_cases (is_refused claim holders) (is_behind claim (record { holders = holders; queue = [] })) waits)
  where
    by_parts : (is_refused claim holders ≡ true) ⊎ (is_behind claim (record { holders = holders; queue = [] }) ≡ true) → ⊥
    by_parts (inl refused) = refused_by_other claim holders refused (none_of (λ (c : Claim). c.who) (find (λ holder. not (is_by claim.who holder)) holders) none)
    by_parts (inr behind) = false≢true (and_parts (not (has claim.who holders)) false behind).1
waits_for_holder claim holders (c ∷ queue) blocked waits none = by_parts (or_cases (is_refused claim holders) (is_behind claim (record { holders = holders; queue = c ∷ queue })) waits)
  where
    by_parts : (is_refused claim holders ≡ true) ⊎ (is_behind claim (record { holders = holders; queue = c ∷ queue }) ≡ true) → ⊥
    by_parts (inl refused) = refused_by_other claim holders refused (none_of (λ (c : Claim). c.who) (find (λ holder. not (is_by claim.who holder)) holders) none)
    by_parts (inr behind) =
        no_other claim.who c.who holders (not-true (has claim.who holders) (and_parts (not (has claim.who holders)) (not (length (c ∷ queue) == 0)) behind).0)
        (and_parts (has_other c.who holders) (list_all (λ queued. has_other queued.who holders) queue) blocked).0 none

-- a claim that is free doesn't have to wait
free_waits : (claim : Claim) (lock : Lock) → IsSound lock → verdict claim lock ≡ verdicts.Free → has_to_wait claim lock ≡ false
free_waits claim lock sound free = by_case (free_means (is_covered claim lock.holders) (has_to_wait claim lock) (other_than claim.who lock.holders) free)
  where
    by_test : (b : Bool) → has_to_wait claim lock ≡ b → other_than claim.who lock.holders ≡ None → has_to_wait claim lock ≡ false
    by_test true waits none = absurd (waits_for_holder claim lock.holders lock.queue sound.blocked waits none)
    by_test false waits none = waits

    by_case : (has_to_wait claim lock ≡ false) ⊎ (other_than claim.who lock.holders ≡ None) → has_to_wait claim lock ≡ false
    by_case (inl waits) = waits
    by_case (inr none) = by_test (has_to_wait claim lock) refl none

pub taken_empty : (claim : Claim) (lock : Lock) → lock.queue ≡ [] → IsSound (taken_in claim lock)
taken_empty claim lock empty = record {
  once = ap each_once empty;
  first = ap (λ queue. upgrades_by (λ q. has q (granted claim lock.holders)) queue) empty;
  blocked = ap (λ queue. list_all (λ queued. has_other queued.who (granted claim lock.holders)) queue) empty;
}

taken_upgrade : (claim : Claim) (lock : Lock) → IsSound lock → has claim.who lock.holders ≡ true → IsSound (taken_in claim lock)
taken_upgrade claim lock sound own = record {
  once = sound.once;
  first = ap (λ (f : Enlist → Bool). upgrades_by f lock.queue) (λ i who. has_upgraded claim lock.holders own who i) ∙ sound.first;
  blocked = all_weaker (λ queued. has_other queued.who lock.holders) (λ queued. has_other queued.who (granted claim lock.holders))
      (λ queued says. other_granted claim lock.holders queued.who says) lock.queue sound.blocked;
}

pub taken_sound : (claim : Claim) (lock : Lock) → verdict claim lock ≡ verdicts.Free → IsSound lock → IsSound (taken_in claim lock)
taken_sound claim lock free sound =
    by_parts (and_cases (not (has claim.who lock.holders)) (not (length lock.queue == 0)) (or_parts (is_refused claim lock.holders) (is_behind claim lock) (free_waits claim lock sound free)).1)
  where
    by_parts : (not (has claim.who lock.holders) ≡ false) ⊎ (not (length lock.queue == 0) ≡ false) → IsSound (taken_in claim lock)
    by_parts (inl own) = taken_upgrade claim lock sound (not-false (has claim.who lock.holders) own)
    by_parts (inr empty) = taken_empty claim lock (nil_from_length lock.queue (eqb-true (length lock.queue) 0 (not-false (length lock.queue == 0) empty)))

blocked_means : (covered waits : Bool) (other : Option Enlist) (holder : Enlist) → cond covered verdicts.Covered (cond waits (blocked_by other) verdicts.Free) ≡ verdicts.Blocked holder → other ≡ Some holder
blocked_means true waits other holder e = cc
blocked_means false true None holder e = cc
blocked_means false true (Some first) holder e = cc
blocked_means false false other holder e = cc

pub enqueued_sound : (claim : Claim) (lock : Lock) (holder : Enlist) → verdict claim lock ≡ verdicts.Blocked holder → has claim.who lock.queue ≡ false → IsSound lock → IsSound (enqueued claim lock)
enqueued_sound claim lock holder blocked none sound =
    let found : other_than claim.who lock.holders ≡ Some holder = blocked_means (is_covered claim lock.holders) (has_to_wait claim lock) (other_than claim.who lock.holders) holder blocked in
    let holds : Enlist → Bool = λ q. has q lock.holders in
    record {
      once = once_insert claim (place claim lock) lock.queue sound.once none;
      first =
          elim (has claim.who lock.holders) as (λ b. has claim.who lock.holders ≡ b → upgrades_by holds (insert lock.queue (cond b (upgrades lock) (length lock.queue)) claim) ≡ true) [
            | true ↦ λ own. insert_upgrade holds claim own lock.queue sound.first
            | false ↦ λ own. insert_last holds claim own lock.queue sound.first
          ] refl;
      blocked = all_insert (λ queued. has_other queued.who lock.holders) claim (place claim lock) lock.queue sound.blocked (other_of_found claim.who lock.holders holder found);
    }
