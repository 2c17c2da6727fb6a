use Rattle.std.proofs.Common.{◌≡◌, Some, None, ap, ◌∙◌}
use Rattle.std.specs.Cmp.Lexicographic.{nat_list_cmp_total}
use Rattle.law_map.proofs.Entries.{lookup_put}
use Rattle.rs_session.specs.Sessions.{kept_of}
use Rattle.rs_session.proofs.Books.{taken_out, written_back}
use Rattle.rs_session.proofs.session.Sessions.put_back.Goals as goal

pub returns-in-Some : goal.returns-in-Some
returns-in-Some c = λ book session up put before.
    let there : kept_of c.args.user.now c.args.self.now ≡ Some session = ap (λ b. kept_of c.args.user.now b) put ∙ lookup_put nat_list_cmp_total c.args.user.now session book in
    let found : Some c.in-Some.session ≡ kept_of c.args.user.now book = cc in
    written_back c.args.user.now book c.args.self.now c.put_in_place.new.self session c.in-Some.session up put found (c.put_in_place.ensures session there)

pub returns-in-None : goal.returns-in-None
returns-in-None c = λ book session up put before.
    let none : None ≡ kept_of c.args.user.now book = cc in
    taken_out c.args.user.now book c.args.self.now c.forget.new.self session put none c.forget.ensures
