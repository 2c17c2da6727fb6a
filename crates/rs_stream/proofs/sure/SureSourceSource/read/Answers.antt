use Rattle.std.proofs.Common.{◌≡◌, ℕ, ◌+◌, List, ◌++◌, length, min, take, drop, sym, ap, ◌∙◌, arith}
use Rattle.std.proofs.lemmas.List.{drop-drop}
use Rattle.std.proofs.lemmas.Grind.{common_steps}
use Rattle.rs_stream.proofs.Streams.{copied_prefix, nothing_left}
use Rattle.rs_stream.proofs.sure.SureSourceSource.read.Goals as goal

pub returns-clause-bytes : goal.returns-clause-bytes
returns-clause-bytes c =
    let n = c.min-n.result in
    let into = c.args.into.now in
    let left = drop c.self.inside.at c.self.inside.bytes in
    let piece = c.copy_from_slice.new.self ++ drop n into in
    let rest : drop (c.self.inside.at + n) c.self.inside.bytes ≡ drop n left = sym (drop-drop n c.self.inside.at c.self.inside.bytes) in
    let count : n ≡ min (length left) (length into) = grind (arith, common_steps) in
    let copied : piece ≡ take n left ++ drop n into = grind (arith, common_steps) in (
      sym c.self.view_is ∙ copied_prefix left into piece n count copied ∙ ap (λ (bs : List ℕ). take n piece ++ bs) (sym rest),
      λ none room. rest ∙ nothing_left left into piece n count copied none room,
    )
