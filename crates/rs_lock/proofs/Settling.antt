-- What is left of a queue once its first claims are granted.
use Rattle.std.proofs.Common.{◌≡◌, Bool, true, false, cond, List, [], ◌∷◌, ◌++◌, Some, None, refl, ap}
use Rattle.rs_base.specs.declared.txn.Enlist.{Enlist}
use Rattle.rs_lock.specs.declared.claim.Claim.{Claim}
use Rattle.rs_lock.specs.Claims.{is_refused, without}
use Rattle.rs_lock.specs.Lock.{Lock, granted, settled, next_grant}
use Rattle.rs_lock.specs.Laws.{GrantsWhileItCan}

pub settled_stops : (holders queue : List Claim) (before : List Enlist) → next_grant (settled holders queue before).0.holders (settled holders queue before).0.queue ≡ None
settled_stops holders [] before = refl
settled_stops holders (c ∷ queue) before =
    let out : Bool → Lock × List Enlist = λ b. cond b (record { holders = holders; queue = c ∷ queue }, before) (settled (granted c holders) queue (before ++ c.who ∷ [])) in
    elim (is_refused c holders) as (λ b. is_refused c holders ≡ b → next_grant (out b).0.holders (out b).0.queue ≡ None) [
      | true ↦ λ h. ap (λ b. cond b None (Some c)) h
      | false ↦ λ h. settled_stops (granted c holders) queue (before ++ c.who ∷ [])
    ] refl

pub grants_while_it_can : GrantsWhileItCan
grants_while_it_can who lock before = settled_stops (without who lock.holders) (without who lock.queue) before
