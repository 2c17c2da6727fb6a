-- The forms of stored programs and their plans.
use Rattle.rs_ast.specs.declared.column.ColDef.{ColDef}
use Rattle.rs_ast.specs.declared.stmt.Dml.{Dml}
use Rattle.rs_base.specs.declared.name.Swn.{Swn}
use Rattle.rs_base.specs.declared.txn.Txn.{Txn}
use Rattle.rs_encode.specs.Form.{Form, bare, both, list, via}
use Rattle.rs_encode.specs.Values.{count_below, eight_bytes, ident, site, swn, txn}
use Rattle.rs_encode.specs.Variants.{enum, last, variant}
use Rattle.rs_encode_ast.specs.Entries.{col_def}
use Rattle.rs_encode_ast.specs.Statements.{dml}
use Rattle.rs_plan.specs.declared.plan.Part.{Part}
use Rattle.rs_plan.specs.declared.plan.PartKind.{PartKind}
use Rattle.rs_plan.specs.declared.plan.PartKind.TheVariants as part_kinds
use Rattle.rs_plan.specs.declared.plan.Plan.{Plan}
use Rattle.rs_plan.specs.declared.program.Body.{Body}
use Rattle.rs_plan.specs.declared.program.BodyTable.{BodyTable}
use Rattle.rs_plan.specs.declared.program.Head.{Head}
use Rattle.std.specs.Prelude.{List, ℕ, ◌⊎◌}
use mathlib.Core.Logic.{inl, inr}

abbrev pub part_kind_of : (Unit {0}) ⊎ (ℕ × (ℕ × (ℕ × ℕ))) → PartKind
part_kind_of (inl f) = part_kinds.Scan
part_kind_of (inr f) = part_kinds.Fetch f.0 f.1.0 f.1.1.0 f.1.1.1

abbrev pub part_kind_parts : PartKind → (Unit {0}) ⊎ (ℕ × (ℕ × (ℕ × ℕ)))
part_kind_parts part_kinds.Scan = inl tt
part_kind_parts (part_kinds.Fetch column from_table from_column clause) = inr (column, (from_table, (from_column, clause)))

-- how a part reaches its rows
unfoldable pub part_kind : Form PartKind
part_kind = enum part_kind_of part_kind_parts
    (variant 1 bare
    (last 2 (both (count_below 256) (both (count_below 256) (both (count_below 256) (count_below 65536))))))

abbrev pub part_of : ℕ × (ℕ × PartKind) → Part
part_of f = record { table = f.0; place = f.1.0; kind = f.1.1 }

abbrev pub part_parts : Part → ℕ × (ℕ × PartKind)
part_parts x = (x.table, (x.place, x.kind))

-- a part of a plan
unfoldable pub part : Form Part
part = via part_of part_parts (both (count_below 256) (both site part_kind))

abbrev pub plan_of : (List Part) × ℕ → Plan
plan_of f = record { parts = f.0; cost = f.1 }

abbrev pub plan_parts : Plan → (List Part) × ℕ
plan_parts x = (x.parts, x.cost)

-- a plan
unfoldable pub plan : Form Plan
plan = via plan_of plan_parts (both (list part) eight_bytes)

abbrev pub head_of : ℕ × (Txn × ((List (List ℕ)) × ℕ)) → Head
head_of f = record { generation = f.0; made = f.1.0; params = f.1.1.0; statements = f.1.1.1 }

abbrev pub head_parts : Head → ℕ × (Txn × ((List (List ℕ)) × ℕ))
head_parts x = (x.generation, (x.made, (x.params, x.statements)))

-- what is stored of a whole program
unfoldable pub head : Form Head
head = via head_of head_parts (both eight_bytes (both txn (both (list ident) (count_below 256))))

abbrev pub body_table_of : Swn × (List ColDef) → BodyTable
body_table_of f = record { name = f.0; columns = f.1 }

abbrev pub body_table_parts : BodyTable → Swn × (List ColDef)
body_table_parts x = (x.name, x.columns)

-- a table of a program's statement
unfoldable pub body_table : Form BodyTable
body_table = via body_table_of body_table_parts (both swn (list col_def))

abbrev pub body_of : Dml × ((List BodyTable) × Plan) → Body
body_of f = record { statement = f.0; tables = f.1.0; plan = f.1.1 }

abbrev pub body_parts : Body → Dml × ((List BodyTable) × Plan)
body_parts x = (x.statement, (x.tables, x.plan))

-- a statement of a program
unfoldable pub body : Form Body
body = via body_of body_parts (both dml (both (list body_table) plan))
