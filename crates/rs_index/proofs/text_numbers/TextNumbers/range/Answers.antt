use Rattle.std.proofs.Common.{sym, ap, ◌∙◌}
use Rattle.std.specs.Prelude.{filter}
use Rattle.std.specs.BTreeMap.Range.{range_contains}
use Rattle.std.specs.Range.Bound.{bound_map}
use Rattle.rs_ast.specs.Allows.{allows}
use Rattle.rs_index.specs.TextPairs.{text_cmp, numbers_of}
use Rattle.rs_index.proofs.Ranges.{forward, text_forward, first_bound, last_bound, texts_between}
use Rattle.rs_index.proofs.TextLaws.{range_of_texts}
use Rattle.rs_index.proofs.text_numbers.TextNumbers.range.Goals as goal

pub range-requires : goal.range-requires
range-requires c =
    rw (c.bounds_of.ensures, first_bound (λ x. x.now) c.args.text c.args.text c.args.op, last_bound (λ x. x.now) c.args.text c.args.text c.args.op)
    (forward text_cmp c.args.text.now c.args.text.now c.args.op (text_forward c.args.text.now))

pub returns : goal.returns
returns c =
    rw (← c.self.view_is)
    (c.new.ensures
    ∙ ap numbers_of (c.range.ensures.between tt
    ∙ ap (λ b. filter (λ e. range_contains text_cmp (bound_map (λ x. x.now) b.0) (bound_map (λ x. x.now) b.1) e.0) c.self.inside.sets.entries) c.bounds_of.ensures
    ∙ texts_between (λ x. x.now) c.args.text c.args.op c.requires c.self.inside.sets.entries)
    ∙ sym (range_of_texts (λ q. allows c.args.op (text_cmp q c.args.text.now)) c.self.inside.sets.entries))
