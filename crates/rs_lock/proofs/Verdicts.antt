-- What a verdict says.
use Rattle.std.proofs.Common.{◌≡◌, ◌⊎◌, Bool, true, false, not, ◌&&◌, ◌||◌, cond, List, [], ◌∷◌, Option, Some, None, refl, sym, ap, ◌∙◌, inl, inr}
use Rattle.std.specs.Prelude.{find}
use Rattle.std.proofs.lemmas.Bool.{or_parts, or_right, false≢true}
use Rattle.std.proofs.lemmas.Cmp.{tied_itself}
use Rattle.std.specs.Option.{option_map}
use Rattle.std.specs.Ordering.{is_eq}
use Rattle.rs_base.specs.declared.txn.Enlist.{Enlist}
use Rattle.rs_lock.specs.declared.claim.Claim.{Claim}
use Rattle.rs_lock.specs.declared.verdict.Verdict.TheVariants as verdicts
use Rattle.rs_lock.specs.Claims.{same, is_by, has, other_than, conflicts, is_refused, is_covered}
use Rattle.rs_lock.specs.Lock.{Lock, verdict, blocked_by, has_to_wait, is_behind}
use Rattle.rs_lock.proofs.Orders.{enlist_total}

pub same_self : (who : Enlist) → same who who ≡ true
same_self who = ap is_eq (tied_itself enlist_total who)

pub none_of : {A B : Type 0} (f : A → B) (o : Option A) → option_map f o ≡ None → o ≡ None
none_of f None e = refl
none_of f (Some x) e = cc

-- the first claim of another is a claim, and of another
pub found_other : (who : Enlist) (claims : List Claim) (other : Enlist) → other_than who claims ≡ Some other → (has other claims ≡ true) × (same who other ≡ false)
found_other who [] other e = cc
found_other who (c ∷ cs) other e =
    elim (is_by who c) as (λ b. is_by who c ≡ b → option_map (λ (claim : Claim). claim.who) (cond (not b) (Some c) (find (λ claim. not (is_by who claim)) cs)) ≡ Some other
    → (has other (c ∷ cs) ≡ true) × (same who other ≡ false)) [
      | true ↦ λ h e. let later = found_other who cs other e in (or_right (is_by other c) (has other cs) later.0, later.1)
      | false ↦ λ h e.
          let is : c.who ≡ other = some_is e in
          (ap (λ b. b || has other cs) (ap (λ w. same other w) is ∙ same_self other), ap (same who) (sym is) ∙ h)
    ] refl e
  where
    some_is : {A : Type 0} {x y : A} → Some x ≡ Some y → x ≡ y
    some_is e = cc

-- a claim that is refused is refused by another's
pub refused_by_other : (claim : Claim) (holders : List Claim) → is_refused claim holders ≡ true → find (λ holder. not (is_by claim.who holder)) holders ≡ None → ⊥
refused_by_other claim [] refused none = false≢true refused
refused_by_other claim (c ∷ cs) refused none =
    elim (is_by claim.who c) as (λ b. ((not b && conflicts claim.mode c.mode) || is_refused claim cs) ≡ true → cond (not b) (Some c) (find (λ holder. not (is_by claim.who holder)) cs) ≡ None → ⊥) [
      | true ↦ λ h n. refused_by_other claim cs h n
      | false ↦ λ h n. absurd (not_none n)
    ] refused none
  where
    not_none : {A : Type 0} {x : A} → Some x ≡ None → ⊥
    not_none e = cc

pub free_means : (covered waits : Bool) (other : Option Enlist) → cond covered verdicts.Covered (cond waits (blocked_by other) verdicts.Free) ≡ verdicts.Free → (waits ≡ false) ⊎ (other ≡ None)
free_means true waits other e = absurd (covered_not e)
  where
    covered_not : verdicts.Covered ≡ verdicts.Free → ⊥
    covered_not e = cc
free_means false true None e = inr refl
free_means false true (Some holder) e = absurd (blocked_not e)
  where
    blocked_not : verdicts.Blocked holder ≡ verdicts.Free → ⊥
    blocked_not e = cc
free_means false false other e = inl refl

-- a claim is free only if no other holder conflicts
pub free_unrefused : (claim : Claim) (lock : Lock) → verdict claim lock ≡ verdicts.Free → is_refused claim lock.holders ≡ false
free_unrefused claim lock e = by_case (free_means (is_covered claim lock.holders) (has_to_wait claim lock) (other_than claim.who lock.holders) e)
  where
    by_test : (b : Bool) → is_refused claim lock.holders ≡ b → other_than claim.who lock.holders ≡ None → is_refused claim lock.holders ≡ false
    by_test true refused none = absurd (refused_by_other claim lock.holders refused (none_of (λ (c : Claim). c.who) (find (λ holder. not (is_by claim.who holder)) lock.holders) none))
    by_test false refused none = refused

    by_case : (has_to_wait claim lock ≡ false) ⊎ (other_than claim.who lock.holders ≡ None) → is_refused claim lock.holders ≡ false
    by_case (inl waits) = (or_parts (is_refused claim lock.holders) (is_behind claim lock) waits).0
    by_case (inr none) = by_test (is_refused claim lock.holders) refl none
