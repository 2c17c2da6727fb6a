use Rattle.rs_index.proofs.TextLaws.{added_text}
use Rattle.rs_index.proofs.text_numbers.add_text.Goals as goal

pub returns-clause-ok : goal.returns-clause-ok
returns-clause-ok c =
    rw (c.in_ok-insert.ensures.entries, c.in_ok-copy.ensures)
    (added_text c.args.text.now c.args.number c.in_ok-set.set c.args.sets.now.entries c.insert.ensures.was_ordered c.requires c.in_ok-set.ensures)
