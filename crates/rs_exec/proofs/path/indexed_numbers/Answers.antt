use Rattle.std.proofs.Common.{◌≡◌, ℕ, inl, inr, length, List, subst, ◌∙◌, arith}
use Rattle.rs_index.specs.Pairs.{range_of}
use Rattle.rs_exec.specs.Paths.{IsRisingOf}
use Rattle.rs_exec.proofs.PathLaws.{clause_indexed, clause_unindexed, no_place}
use Rattle.rs_exec.proofs.path.indexed_numbers.Goals as goal

pub returns-in_ok-range_numbers-in-Lit : goal.returns-in_ok-range_numbers-in-Lit
returns-in_ok-range_numbers-in-Lit c = λ rows ordered index.
    let one : length c.args.clause.now ≡ 1 = omega arith in
    let range : IsRisingOf (range_of c.cmp-item.result.op c.in-Lit.value c.args.index.now.pairs) c.rising.result
    = subst (λ (ns : List ℕ). IsRisingOf ns c.rising.result) c.in_ok-range_numbers-in-Lit.ensures c.rising.ensures in
    clause_indexed c.args.index.now c.args.clause.now c.cmp-item.result rows c.in-Lit.value c.rising.result one c.cmp-item.is c.requires c.in-Lit.is ordered index range

pub returns-in-Place : goal.returns-in-Place
returns-in-Place c = λ rows ordered index.
    let one : length c.args.clause.now ≡ 1 = omega arith in
    elim c.in-Place.is [
      | inl place ↦ absurd (no_place c.args.index.now c.args.clause.now c.cmp-item.result rows place.0 one c.cmp-item.is c.requires place.1)
      | inr param ↦ c.new-in-Place.ensures ∙ clause_unindexed c.args.index.now c.args.clause.now c.cmp-item.result rows param.0 one c.cmp-item.is param.1
    ]
