-- Distinct resources in the order in which they came.
use Rattle.std.specs.Prelude.{Bool, List, [], ◌∷◌, ◌++◌, if◌then◌else◌}
use Rattle.std.specs.List.{list_any}
use Rattle.std.specs.Ordering.{is_eq}
use Rattle.rs_base.specs.declared.lock.Resource.{Resource}
use Rattle.rs_base.specs.Orders.{resource_cmp}

-- the resource is one of these
abbrev pub has : Resource → List Resource → Bool
has what resources = list_any (λ other. is_eq (resource_cmp other what)) resources

-- the list with this resource at its end, unless it is there already
abbrev pub noted : Resource → List Resource → List Resource
noted what resources = if has what resources then resources else resources ++ what ∷ []
