-- A step as a plan: what a site appends to its log, what it is after that, and what it sends.
use Rattle.std.specs.Prelude.{◌≡◌, Bool, true, false, ◌||◌, List, [], ◌++◌, Option, Some, None, if◌then◌else◌}
use Rattle.rs_course.specs.declared.outs.Decided.{Decided}
use Rattle.rs_course.specs.declared.outs.Outs.{Outs}
use Rattle.rs_course.specs.Outs.{no_outs, with_outs}
use Rattle.rs_site.specs.State.{SiteState}

-- what a site appends to its log: so far, that an execution is committed
pub data LogItem : Type 0 where
  Committed : Decided → LogItem

-- A planned step: the items that it appends to the log, whether the log is forced then, the state after it, and its output.
pub record Planned : Type 0 where
  pub items : List LogItem
  pub forces : Bool
  pub after : SiteState
  pub outs : Outs

-- What comes of a plan, by the log's answer. If the log has the items, the site is as planned, and the output goes out.
-- Else the site stops, and nothing goes out.
abbrev pub done : Planned → Bool → Option SiteState × Outs
done planned true = (Some planned.after, planned.outs)
done planned false = (None, no_outs)

-- the step is done as planned, and leaves this state and this output
abbrev pub IsDone : Planned → SiteState → Outs → Type 0
IsDone planned new outs = done planned true ≡ (Some new, outs)

-- the site is this, and this goes out
abbrev pub sending : SiteState → Outs → Planned
sending site outs = record { items = []; forces = false; after = site; outs = outs }

-- the site stays, and nothing goes out
abbrev pub idle : SiteState → Planned
idle site = sending site no_outs

-- One plan, and then another from the state that the first leaves: the items of both, forced if one forces, and the output of
-- both.
abbrev pub and_then : Planned → (SiteState → Planned) → Planned
and_then first next = let second = next first.after in record {
  items = first.items ++ second.items;
  forces = first.forces || second.forces;
  after = second.after;
  outs = with_outs first.outs second.outs;
}

-- One of two plans, by a test. It is opaque: proofs go by the lemmas of `proofs/Planning.antt`.
unfoldable pub when : Bool → Planned → Planned → Planned
when test new old = if test then new else old
