use Rattle.std.proofs.Common.{◌≡◌, false, None, length}
use Rattle.rs_run.specs.SourceReader.{lines_of, source_at, with_events}
use Rattle.rs_run.proofs.source.read_lines.Given as goal

abbrev pub invariant-loop-events : goal.invariant-loop-events
invariant-loop-events l = with_events l.events (source_at l.unsettled l.lines.sites l.lines.before l.lines.lines) ≡ source_at false None 0 (lines_of l.bytes)

abbrev pub decreases-loop-events : goal.decreases-loop-events
decreases-loop-events l = length l.lines.lines
