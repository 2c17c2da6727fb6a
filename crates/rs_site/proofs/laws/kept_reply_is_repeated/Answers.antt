use Rattle.rs_site.proofs.Acceptance.{kept_reply_is_repeated}
use Rattle.rs_site.proofs.laws.kept_reply_is_repeated.Goals as goal

pub returns : goal.returns
returns c = kept_reply_is_repeated
