-- All holders read, or there is one alone: each change of a lock keeps that.
use Rattle.std.proofs.Common.{◌≡◌, Bool, true, false, not, ◌&&◌, ◌||◌, cond, List, [], ◌∷◌, ◌++◌, length, filter, refl, ap, inl, inr, arith}
use Rattle.std.specs.List.{list_all}
use Rattle.std.proofs.lemmas.Bool.{and_parts, and_from, or_parts, not_from_false, true≢false}
use Rattle.rs_base.specs.declared.lock.Mode.{Mode}
use Rattle.rs_base.specs.declared.lock.Mode.TheVariants as modes
use Rattle.rs_base.specs.declared.txn.Enlist.{Enlist}
use Rattle.rs_lock.specs.declared.claim.Claim.{Claim}
use Rattle.rs_lock.specs.Claims.{is_write, is_by, without, is_refused}
use Rattle.rs_lock.specs.Lock.{granted, settled}
use Rattle.rs_lock.specs.Laws.{is_reader, IsOneOrReaders}

pub all_push : {X : Type 0} (p : X → Bool) (xs : List X) (x : X) → list_all p xs ≡ true → p x ≡ true → list_all p (xs ++ x ∷ []) ≡ true
all_push p [] x all here = and_from (p x) true here refl
all_push p (y ∷ ys) x all here =
    let parts = and_parts (p y) (list_all p ys) all in
    and_from (p y) (list_all p (ys ++ x ∷ [])) parts.0 (all_push p ys x parts.1 here)

pub all_filter : {X : Type 0} (p q : X → Bool) (xs : List X) → list_all p xs ≡ true → list_all p (filter q xs) ≡ true
all_filter p q [] all = refl
all_filter p q (x ∷ xs) all =
    let parts = and_parts (p x) (list_all p xs) all in
    elim (q x) as (λ b. list_all p (cond b (x ∷ filter q xs) (filter q xs)) ≡ true) [
      | true ↦ and_from (p x) (list_all p (filter q xs)) parts.0 (all_filter p q xs parts.1)
      | false ↦ all_filter p q xs parts.1
    ]

abbrev claim_of : Enlist → Mode → Claim
claim_of who mode = record { who = who; mode = mode }

-- a reader's claim that isn't refused stands beside readers
readers_left : (who : Enlist) (holders : List Claim) → is_refused (claim_of who modes.Read) holders ≡ false → list_all is_reader (without who holders) ≡ true
readers_left who [] free = refl
readers_left who (c ∷ cs) free =
    elim (is_by who c) as (λ b. ((not b && is_write c.mode) || is_refused (claim_of who modes.Read) cs) ≡ false → list_all is_reader (cond (not b) (c ∷ without who cs) (without who cs)) ≡ true) [
      | true ↦ λ h. readers_left who cs h
      | false ↦ λ h.
          let parts = or_parts (is_write c.mode) (is_refused (claim_of who modes.Read) cs) h in
          and_from (not (is_write c.mode)) (list_all is_reader (without who cs)) (not_from_false (is_write c.mode) parts.0) (readers_left who cs parts.1)
    ] free

-- a writer's claim that isn't refused stands beside none
nobody_left : (who : Enlist) (holders : List Claim) → is_refused (claim_of who modes.Write) holders ≡ false → without who holders ≡ []
nobody_left who [] free = refl
nobody_left who (c ∷ cs) free =
    elim (is_by who c) as (λ b. ((not b && true) || is_refused (claim_of who modes.Write) cs) ≡ false → cond (not b) (c ∷ without who cs) (without who cs) ≡ []) [
      | true ↦ λ h. nobody_left who cs h
      | false ↦ λ h. absurd (true≢false h)
    ] free

granted_by : (who : Enlist) (mode : Mode) (holders : List Claim) → is_refused (claim_of who mode) holders ≡ false → IsOneOrReaders (granted (claim_of who mode) holders)
granted_by who modes.Read holders free = inl (all_push is_reader (without who holders) (claim_of who modes.Read) (readers_left who holders free) refl)
granted_by who modes.Write holders free = inr (ap (λ left. length (left ++ claim_of who modes.Write ∷ [])) (nobody_left who holders free))

pub granted_fits : (claim : Claim) (holders : List Claim) → is_refused claim holders ≡ false → IsOneOrReaders (granted claim holders)
granted_fits claim holders free = granted_by claim.who claim.mode holders free

one_left : (test : Claim → Bool) (holders : List Claim) → length holders ≡ 1 → IsOneOrReaders (filter test holders)
one_left test [] one = inl refl
one_left test (c ∷ []) one = elim (test c) as (λ b. IsOneOrReaders (cond b (c ∷ []) [])) [ true ↦ inr refl | false ↦ inl refl ]
one_left test (c ∷ d ∷ ds) one = absurd (omega arith)

pub left_fits : (who : Enlist) (holders : List Claim) → IsOneOrReaders holders → IsOneOrReaders (without who holders)
left_fits who holders (inl all) = inl (all_filter is_reader (λ claim. not (is_by who claim)) holders all)
left_fits who holders (inr one) = one_left (λ claim. not (is_by who claim)) holders one

pub settled_fits : (holders queue : List Claim) (before : List Enlist) → IsOneOrReaders holders → IsOneOrReaders (settled holders queue before).0.holders
settled_fits holders [] before fits = fits
settled_fits holders (c ∷ queue) before fits =
    elim (is_refused c holders) as (λ b. is_refused c holders ≡ b
    → IsOneOrReaders (cond b (record { holders = holders; queue = c ∷ queue }, before) (settled (granted c holders) queue (before ++ c.who ∷ []))).0.holders) [
      | true ↦ λ h. fits
      | false ↦ λ h. settled_fits (granted c holders) queue (before ++ c.who ∷ []) (granted_fits c holders h)
    ] refl
