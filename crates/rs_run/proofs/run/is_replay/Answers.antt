use Rattle.std.proofs.Common.{ℕ, List, codes, ap, ◌∙◌, arith}
use Rattle.std.specs.Prelude.{bytes_eq}
use Rattle.rs_run.proofs.ReplayWord.{is_replay-one}
use Rattle.rs_run.proofs.run.is_replay.Goals as goal

pub returns-in-len1 : goal.returns-in-len1
returns-in-len1 c = is_replay-one c.args.words.now c.word-item.result _ (omega arith) (omega arith) c.word-item.is (c.eq.ensures ∙ ap (λ (bs : List ℕ). bytes_eq bs (codes "replay")) c.as_str.ensures.value)
