use Rattle.std.proofs.Common.{[], sym, ap, ◌∙◌}
use Rattle.rs_mean.specs.Database.{Database, changing}
use Rattle.rs_mean.specs.declared.table.Table.{Table}
use Rattle.rs_mean.proofs.Written.{written}
use Rattle.rs_mean.proofs.database.Database.set_rows.Goals as goal

pub returns : goal.returns
returns c =
    let change : Table → Table = λ table. record table { rows = c.args.rows } in
    let before : Database = record { sites = c.self.inside.sites; tables = c.self.inside.tables.entries; synonyms = c.self.inside.synonyms.entries; programs = [] } in
    written c.args.name.now before c.in-Some.table.now c.get_mut.ensures.ordered (sym c.in-Some.ensures.value) change _ (c.get_mut.follows.holds (change c.in-Some.table.now)).0
    ∙ ap (changing c.args.name.now change) c.self.view_is
