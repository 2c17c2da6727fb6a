use Rattle.std.proofs.Common.{[], ◌∷◌, arith, length-append}
use Rattle.rs_world.proofs.Views.{views_more}
use Rattle.rs_world.proofs.sites.Sites.into_views.Goals as goal

pub loop-site-preserved : goal.loop-site-preserved
loop-site-preserved c =
    let many = c.loop-site.invariant.0 in (
      omega (arith, many, length-append c.loop-site.yielded (c.in-Some.site ∷ [])),
      views_more c.loop-site.yielded c.in-Some.site c.in-Some-new.number c.loop-site.views c.push.new.self c.in_ok-site_view.field-0 c.loop-site.invariant.1
          (omega (arith, many, c.in-Some-new.ensures)) c.in_ok-site_view.ensures c.in_ok-push.ensures.ok,
    )
