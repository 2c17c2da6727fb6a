-- The path by which a section reaches its rows.
use Rattle.std.specs.Prelude.{List, find}
use Rattle.std.specs.Option.{option_or, option_map_or}
use Rattle.rs_ast.specs.declared.entry.IndexOf.{IndexOf}
use Rattle.rs_plan.specs.declared.path.Path.{Path}
use Rattle.rs_plan.specs.declared.path.Path.TheVariants as paths
use Rattle.rs_plan.specs.declared.section.SectionKind.{SectionKind}
use Rattle.rs_plan.specs.Section.{has_equality, has_range}

abbrev pub path_by : IndexOf → Path
path_by index = paths.Index index.name index.made

-- the first index whose column has an equality; else the first whose column has a range; else a scan
abbrev pub chosen : SectionKind → List IndexOf → Path
chosen kind indexes =
    let equal = find (λ index. has_equality kind index.column) indexes in
    let ranged = find (λ index. has_range kind index.column) indexes in
    option_map_or path_by (option_or equal ranged) paths.Scan
