-- The forms of sections, their ids and their paths.
use Rattle.rs_ast.specs.declared.bound.BoundCmp.{BoundCmp}
use Rattle.rs_ast.specs.declared.bound.BoundSet.{BoundSet}
use Rattle.rs_ast.specs.declared.bound.BoundTerm.{BoundTerm}
use Rattle.rs_base.specs.declared.name.Swn.{Swn}
use Rattle.rs_base.specs.declared.txn.Txn.{Txn}
use Rattle.rs_encode.specs.Form.{Form, bare, both, list, via}
use Rattle.rs_encode.specs.Values.{count_below, eight_bytes, ident, site, swn, txn}
use Rattle.rs_encode.specs.Variants.{enum, last, variant}
use Rattle.rs_encode_ast.specs.BoundParts.{bound_cmp, bound_set, bound_term}
use Rattle.rs_plan.specs.declared.path.Path.{Path}
use Rattle.rs_plan.specs.declared.path.Path.TheVariants as paths
use Rattle.rs_plan.specs.declared.section.Section.{Section}
use Rattle.rs_plan.specs.declared.section.SectionKind.{SectionKind}
use Rattle.rs_plan.specs.declared.section.SectionKind.TheVariants as sections
use Rattle.rs_plan.specs.declared.section_id.SectionId.{SectionId}
use Rattle.std.specs.Prelude.{List, ℕ, ◌⊎◌}
use mathlib.Core.Logic.{inl, inr}

abbrev pub section_kind_of :
    ((List (List BoundCmp)) × (List ℕ)) ⊎ (((List (List BoundCmp)) × ((List ℕ) × ℕ)) ⊎ ((List (List BoundTerm)) ⊎ ((List
    (List BoundCmp)) ⊎ ((List BoundSet) × (List (List BoundCmp)))))) → SectionKind
section_kind_of (inl f) = sections.Scan f.0 f.1
section_kind_of (inr (inl f)) = sections.Fetch f.0 f.1.0 f.1.1
section_kind_of (inr (inr (inl f))) = sections.Insert f
section_kind_of (inr (inr (inr (inl f)))) = sections.Delete f
section_kind_of (inr (inr (inr (inr f)))) = sections.Update f.0 f.1

abbrev pub section_kind_parts : SectionKind →
    ((List (List BoundCmp)) × (List ℕ)) ⊎ (((List (List BoundCmp)) × ((List ℕ) × ℕ)) ⊎ ((List (List BoundTerm)) ⊎ ((List
    (List BoundCmp)) ⊎ ((List BoundSet) × (List (List BoundCmp))))))
section_kind_parts (sections.Scan clauses columns) = inl (clauses, columns)
section_kind_parts (sections.Fetch clauses columns by) = inr (inl (clauses, (columns, by)))
section_kind_parts (sections.Insert rows) = inr (inr (inl rows))
section_kind_parts (sections.Delete clauses) = inr (inr (inr (inl clauses)))
section_kind_parts (sections.Update sets clauses) = inr (inr (inr (inr (sets, clauses))))

-- what a section does
unfoldable pub section_kind : Form SectionKind
section_kind = enum section_kind_of section_kind_parts
    (variant 1 (both (list (list bound_cmp)) (list (count_below 65536)))
    (variant 2 (both (list (list bound_cmp)) (both (list (count_below 65536)) (count_below 256)))
    (variant 3 (list (list bound_term))
    (variant 4 (list (list bound_cmp))
    (last 5 (both (list bound_set) (list (list bound_cmp))))))))

abbrev pub section_of : Swn × (Txn × SectionKind) → Section
section_of f = record { name = f.0; made = f.1.0; kind = f.1.1 }

abbrev pub section_parts : Section → Swn × (Txn × SectionKind)
section_parts x = (x.name, (x.made, x.kind))

-- a section
unfoldable pub section : Form Section
section = via section_of section_parts (both swn (both txn section_kind))

abbrev pub section_id_of : ℕ × ((List ℕ) × ((List ℕ) × (ℕ × (Txn × (ℕ × ℕ))))) → SectionId
section_id_of f =
    record {
      owner = f.0;
      user = f.1.0;
      program = f.1.1.0;
      generation = f.1.1.1.0;
      made = f.1.1.1.1.0;
      statement =
          f.1.1.1.1.1.0;
      part = f.1.1.1.1.1.1;
    }

abbrev pub section_id_parts : SectionId → ℕ × ((List ℕ) × ((List ℕ) × (ℕ × (Txn × (ℕ × ℕ)))))
section_id_parts x = (x.owner, (x.user, (x.program, (x.generation, (x.made, (x.statement, x.part))))))

-- the id of a stored section
unfoldable pub section_id : Form SectionId
section_id =
    via section_id_of section_id_parts (both site (both ident (both ident (both eight_bytes (both txn (both (count_below 256)
    (count_below 256)))))))

abbrev pub path_of : (Unit {0}) ⊎ ((List ℕ) × Txn) → Path
path_of (inl f) = paths.Scan
path_of (inr f) = paths.Index f.0 f.1

abbrev pub path_parts : Path → (Unit {0}) ⊎ ((List ℕ) × Txn)
path_parts paths.Scan = inl tt
path_parts (paths.Index name made) = inr (name, made)

-- a path
unfoldable pub path : Form Path
path = enum path_of path_parts
    (variant 1 bare
    (last 2 (both ident txn)))
