use Rattle.std.proofs.Common.{◌≡◌, ◌+◌, ◌≤◌, List, length, Some, OnOk, refl, sym, ap, subst, ◌∙◌, arith}
use Rattle.std.proofs.lemmas.Bool.Decides.{nat_tests}
use Rattle.std.specs.List.{slice_get}
use Rattle.rs_course.specs.declared.input.Input.{Input}
use Rattle.rs_course.specs.declared.datagram.Datagram.{Datagram}
use Rattle.rs_course.specs.Course.{GiveNext}
use Rattle.rs_site.specs.Course.{act, moved, stepped_by}
use Rattle.rs_site.specs.World.{World}
use Rattle.rs_site.proofs.Pending.{none_next}
use Rattle.rs_world.specs.Inside.{world_of}
use Rattle.rs_world.proofs.Deliveries.{get_of, gives_next}
use Rattle.rs_world.proofs.world.World.deliver_next.Goals as goal

pub returns-in_default : goal.returns-in_default
returns-in_default c =
    let a = c.self.inside in
    let many : length c.as_slice.result.now ≡ length a.sent = ap (λ (ds : List Datagram). length ds) c.as_slice.ensures in
    let past : length a.sent ≤ a.delivered = grind (arith, nat_tests, c.in_default.ensures.lookup.0, many) in
    subst (λ (w : World). w ≡ moved w GiveNext) c.self.view_is (sym (none_next (world_of a) a.delivered refl past))

pub returns : goal.returns
returns c =
    let a = c.self.inside in
    let look = c.in-Some.ensures.lookup in
    let there : slice_get c.as_slice.result.now a.delivered ≡ Some c.in-Some.datagram.now = get_of c.as_slice.result.now a.delivered c.in-Some.datagram.now look.3.0 look.1 in
    let sent : slice_get a.sent a.delivered ≡ Some c.in-Some.datagram.now = subst (λ (ds : List Datagram). slice_get ds a.delivered ≡ Some c.in-Some.datagram.now) c.as_slice.ensures there in
    subst (λ (w : World). OnOk c.take_input.result (c.take_input.new.self ≡ w))
    (ap (λ (input : Input). stepped_by (world_of (record a { delivered = a.delivered + 1 })) (Some (c.in-Some.datagram.now.to, input))) c.in_ok-input.ensures
    ∙ sym (gives_next a (Some c.in-Some.datagram.now) sent)
    ∙ ap (λ (w : World). act w GiveNext) c.self.view_is)
    c.take_input.ensures
