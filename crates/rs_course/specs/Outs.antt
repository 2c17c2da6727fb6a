-- The output of a step.
use Rattle.std.specs.Prelude.{[], ◌++◌}
use Rattle.rs_course.specs.declared.outs.Outs.{Outs}

abbrev pub no_outs : Outs
no_outs = record { sends = []; replies = []; decided = []; runs = [] }

-- what the one sends, replies, commits and runs, and then what the other does
abbrev pub with_outs : Outs → Outs → Outs
with_outs one other = record {
  sends = one.sends ++ other.sends;
  replies = one.replies ++ other.replies;
  decided = one.decided ++ other.decided;
  runs = one.runs ++ other.runs;
}
