-- What an access path gives.
use Rattle.std.specs.Prelude.{◌≡◌, ℕ, List, [], ◌∷◌, Option, MatchOption, flat_map, fold}
use Rattle.std.specs.BTreeSet.{insert_key}
use Rattle.std.specs.Ordering.{nat_cmp}
use Rattle.rs_base.specs.declared.value.Value.{Value}
use Rattle.rs_ast.specs.declared.clause.Op.TheVariants as ops
use Rattle.rs_index.specs.Pairs.{range_of}

-- the answer is the first of the numbers to come, and the others are left; nothing exactly if none is to come
abbrev pub GivesFirst : List ℕ → Option ℕ → List ℕ → Type 0
GivesFirst old answer new = MatchOption answer ((old ≡ []) × (new ≡ [])) (λ number. old ≡ number ∷ new)

-- the numbers that are put at their places in the order, each once
abbrev pub put_all : List ℕ → List ℕ → List ℕ
put_all found more = fold (λ numbers number. insert_key nat_cmp numbers number) found more

-- rising and each once, the numbers whose value is one of these
abbrev pub listed : List Value → List (Value × ℕ) → List ℕ
listed values pairs = put_all [] (flat_map (λ value. range_of ops.Eq value pairs) values)
