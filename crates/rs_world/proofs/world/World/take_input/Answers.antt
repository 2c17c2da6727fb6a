use Rattle.std.proofs.Common.{◌≡◌, ◌-◌, OnOk, List, refl, sym, ap, subst, ◌∙◌}
use Rattle.std.specs.List.{slice_get}
use Rattle.rs_site.specs.State.{SiteState}
use Rattle.rs_course.specs.Course.{after_outs}
use Rattle.rs_site.specs.Course.{stepped}
use Rattle.rs_course.specs.World.{site_at}
use Rattle.rs_site.specs.World.{World}
use Rattle.rs_world.specs.Inside.{world_of}
use Rattle.rs_world.proofs.SitePlaces.{step_taken, no_step}
use Rattle.rs_world.proofs.world.World.take_input.Goals as goal

pub returns-in-Some : goal.returns-in-Some
returns-in-Some c =
    let a = c.self.inside in
    let taken = step_taken a c.args.site c.args.input.now (slice_get a.sites (c.args.site - 1)) refl c.in-Some.outs (sym c.in_ok-outs.ensures.outs ∙ c.in-Some.is) in
    subst (λ (w : World). OnOk c.take_outs.result (c.take_outs.new.self ≡ w))
    (ap (λ (sites : List SiteState). after_outs (world_of (record a { sites = sites })) c.args.site c.in-Some.outs) c.in_ok-outs.ensures.sites
    ∙ taken
    ∙ ap (λ (w : World). stepped w c.args.site c.args.input.now (site_at w c.args.site)) c.self.view_is)
    c.take_outs.ensures

pub returns-in-None : goal.returns-in-None
returns-in-None c =
    let a = c.self.inside in
    ap (λ (sites : List SiteState). world_of (record a { sites = sites })) c.in_ok-outs.ensures.sites
    ∙ no_step a c.args.site c.args.input.now (slice_get a.sites (c.args.site - 1)) refl (sym c.in_ok-outs.ensures.outs ∙ c.in-None.is)
    ∙ ap (λ (w : World). stepped w c.args.site c.args.input.now (site_at w c.args.site)) c.self.view_is
