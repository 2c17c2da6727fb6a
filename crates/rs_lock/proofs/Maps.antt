-- An entry of a map changed in place, or added.
use Rattle.std.proofs.Common.{◌≡◌, Bool, List, Some, Result, Ok, Err, Ordering, sym, ap, ◌∙◌}
use Rattle.std.specs.Prelude.{unwrap_or, OnOk, OnErr}
use Rattle.std.specs.BTreeMap.{insert_entry, is_at}
use Rattle.std.specs.Cmp.{IsTotalOrder}
use Rattle.std.specs.List.Sorted.{IsStrictlySortedBy}
use Rattle.std.specs.Map.{lookup, set_value, keys_of}
use Rattle.std.proofs.lemmas.Map.Steps.{set_value_same}
use Rattle.law_map.proofs.Entries.{set_value_is_insert_entry}

module _ {K X : Type 0} {R : K → K → Ordering} (o : IsTotalOrder R) (k : K) (es : List (K × X)) (default : X) (change : X → X) where
  -- the value that is there, changed, or the default value changed
  pub changed_in_place : (v w : X) (fs : List (K × X)) → IsStrictlySortedBy R (keys_of es) → lookup (is_at (R k)) es ≡ Some v → fs ≡ set_value (is_at (R k)) es w → w ≡ change v
      → fs ≡ insert_entry R es k (change (unwrap_or (lookup (is_at (R k)) es) default))
  changed_in_place v w fs up found put is =
      put ∙ set_value_is_insert_entry o k es v w up found
      ∙ ap (λ x. insert_entry R es k x) (is ∙ ap (λ there. change (unwrap_or there default)) (sym found))

  pub changed_on_ok : {V E : Type 0} (result : Result V E) (v w : X) (fs : List (K × X)) → IsStrictlySortedBy R (keys_of es) → lookup (is_at (R k)) es ≡ Some v
      → fs ≡ set_value (is_at (R k)) es w → OnOk result (w ≡ change v) → OnOk result (fs ≡ insert_entry R es k (change (unwrap_or (lookup (is_at (R k)) es) default)))
  changed_on_ok (Ok _) v w fs up found put is = changed_in_place v w fs up found put is
  changed_on_ok (Err _) v w fs up found put is = tt

-- the value that is there, unchanged
pub unchanged_on_err : {K X V E : Type 0} (test : K → Bool) (es : List (K × X)) (result : Result V E) (v w : X) (fs : List (K × X)) → lookup test es ≡ Some v → fs ≡ set_value test es w
    → OnErr result (w ≡ v) → OnErr result (fs ≡ es)
unchanged_on_err test es (Ok _) v w fs found put same = tt
unchanged_on_err test es (Err _) v w fs found put same = put ∙ set_value_same test es w (found ∙ ap (λ x. Some x) (sym same))
