use Rattle.std.proofs.Common.{◌≡◌, [], subst, sym, ◌∙◌}
use Rattle.rs_commit.specs.Decisions.{decisions_after}
use Rattle.rs_commit.proofs.LawLemmas.{none_differ, commit_is_voted_for}
use Rattle.rs_commit.proofs.Played.{IsPlayed, played_first, played_next, decisions_read}
use Rattle.rs_commit.proofs.play.agree.Goals as goal

pub loop-event-init : goal.loop-event-init
loop-event-init c = subst (IsPlayed c.args.parts []) (sym c.in_ok-play.ensures) (played_first c.args.parts)

pub loop-event-preserved : goal.loop-event-preserved
loop-event-preserved c =
    played_next c.args.parts c.loop-event.event-index c.args.events.now _ c.loop-event.play c.step.new.self c.loop-event-test.true c.loop-event.invariant c.step.ensures

pub returns : goal.returns
returns c =
    let is : c.in_ok-decided.decided ≡ decisions_after c.args.parts c.args.events.now =
    c.in_ok-decided.ensures ∙ decisions_read c.args.parts c.loop-event.event-index c.args.events.now c.loop-event.play c.loop-event-test.false c.loop-event.invariant in
    record {
      decided = is;
      agreed = none_differ c.args.parts c.args.events.now c.in_ok-decided.decided is;
      voted = commit_is_voted_for c.args.parts c.args.events.now c.in_ok-decided.decided is;
    }
