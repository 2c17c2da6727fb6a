-- What is bound without a denial is over its entries.
use Rattle.std.proofs.Common.{◌≡◌, ◌≤◌, ℕ, List, length, All, Option, Result, Ok, Err, Some}
use Rattle.std.specs.Prelude.{IfOk}
use Rattle.rs_base.specs.declared.fault.NoMemory.{NoMemory}
use Rattle.rs_base.specs.declared.reply.Denial.{Denial}
use Rattle.rs_base.specs.declared.value.Value.{Value}
use Rattle.rs_ast.specs.Limits.{DmlKeepsLimits}
use Rattle.rs_ast.specs.declared.entry.Entry.{Entry}
use Rattle.rs_ast.specs.declared.stmt.Dml.{Dml}
use Rattle.rs_plan.specs.declared.bound.Bound.{Bound}
use Rattle.rs_plan.specs.Over.{IsNarrow, IsOver}
use Rattle.rs_plan.specs.Params.{HasParamsBelow}
use Rattle.rs_bind.specs.Binding.{bound_of}
use Rattle.rs_bind.specs.Entries.{headings_of, params_of, kinds_given, table_count, AreValuesOf}
use Rattle.rs_bind.proofs.Over.{bound_is_over}

pub outcome_is_over : (stmt : Dml) (entries : List Entry) (names : List (List ℕ)) (given : Option (List Value)) (result : Result (Result Bound Denial) NoMemory)
    → DmlKeepsLimits stmt → All IsNarrow entries → length entries ≡ table_count stmt → length names ≤ 16 → AreValuesOf names given
    → IfOk result (λ outcome. bound_of stmt (headings_of entries) (params_of names given) ≡ Some outcome)
    → IfOk result (λ outcome. IfOk outcome (λ bound. IsOver bound entries (kinds_given given) × HasParamsBelow (length names) bound))
outcome_is_over stmt entries names given (Ok (Ok bound)) limits narrow long few are bound_to = bound_is_over stmt entries names given bound limits narrow long few are bound_to
outcome_is_over stmt entries names given (Ok (Err cause)) limits narrow long few are bound_to = tt
outcome_is_over stmt entries names given (Err fault) limits narrow long few are bound_to = tt

pub both_of_bound : (P Q : Bound → Type 0) (result : Result (Result Bound Denial) NoMemory) → IfOk result (λ outcome. IfOk outcome (λ bound. P bound × Q bound))
    → IfOk result (λ outcome. IfOk outcome P) × IfOk result (λ outcome. IfOk outcome Q)
both_of_bound P Q (Ok (Ok bound)) both = both
both_of_bound P Q (Ok (Err cause)) both = (tt, tt)
both_of_bound P Q (Err fault) both = (tt, tt)
