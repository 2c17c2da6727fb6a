-- No enlistment holds a resource twice: each change of a lock keeps that.
use Rattle.std.proofs.Common.{◌≡◌, true, false, not, ◌||◌, cond, List, [], ◌∷◌, ◌++◌, refl, ◌∙◌}
use Rattle.std.proofs.lemmas.Bool.{and_parts, and_from, or_parts, or_from, not_from_false, not-true}
use Rattle.std.proofs.lemmas.List.Folds.{list_any-append}
use Rattle.rs_base.specs.declared.txn.Enlist.{Enlist}
use Rattle.rs_lock.specs.declared.claim.Claim.{Claim}
use Rattle.rs_lock.specs.Claims.{is_by, has, without, is_refused}
use Rattle.rs_lock.specs.Laws.{each_once, HeldOnce}
use Rattle.rs_lock.specs.Lock.{granted, settled}
use Rattle.rs_lock.proofs.Covering.{has_without_self}
use Rattle.rs_lock.proofs.Kept.{Keeps, kept}
use Rattle.rs_lock.proofs.Queues.{apart_back, once_filter}

once_push : (claims : List Claim) (c : Claim) → each_once claims ≡ true → has c.who claims ≡ false → each_once (claims ++ c ∷ []) ≡ true
once_push [] c once none = refl
once_push (d ∷ ds) c once none =
    let parts = and_parts (not (has d.who ds)) (each_once ds) once in
    let away = or_parts (is_by c.who d) (has c.who ds) none in
    let later : has d.who (ds ++ c ∷ []) ≡ false =
    list_any-append (is_by d.who) ds (c ∷ [])
    ∙ or_from (has d.who ds) (is_by d.who c || false) (not-true (has d.who ds) parts.0) (or_from (is_by d.who c) false (apart_back c.who d.who away.0) refl) in
    and_from (not (has d.who (ds ++ c ∷ []))) (each_once (ds ++ c ∷ [])) (not_from_false (has d.who (ds ++ c ∷ [])) later) (once_push ds c parts.1 away.1)

granted_once : (c : Claim) (holders : List Claim) → each_once holders ≡ true → each_once (granted c holders) ≡ true
granted_once c holders once = once_push (without c.who holders) c (once_filter (λ claim. not (is_by c.who claim)) holders once) (has_without_self c.who holders)

settled_once : (holders queue : List Claim) (before : List Enlist) → each_once holders ≡ true → each_once (settled holders queue before).0.holders ≡ true
settled_once holders [] before once = once
settled_once holders (c ∷ queue) before once =
    elim (is_refused c holders) as (λ b.
    each_once (cond b (record { holders = holders; queue = c ∷ queue }, before) (settled (granted c holders) queue (before ++ c.who ∷ []))).0.holders ≡ true)
    [ true ↦ once | false ↦ settled_once (granted c holders) queue (before ++ c.who ∷ []) (granted_once c holders once) ]

holding : Keeps (λ lock. each_once lock.holders ≡ true)
holding = record {
  base = refl;
  on_take = λ claim lock free once. granted_once claim lock.holders once;
  on_hold = λ claim lock free empty once. granted_once claim lock.holders once;
  on_wait = λ claim lock holder blocked none once. once;
  on_release = λ who lock once. settled_once (without who lock.holders) (without who lock.queue) [] (once_filter (λ claim. not (is_by who claim)) lock.holders once);
  on_end = λ who lock once. once;
}

pub held_once : HeldOnce
held_once calls what = kept holding calls what
