use Rattle.std.proofs.Common.{[], ap, ◌∙◌}
use Rattle.rs_mean.specs.Database.{Database, with_table}
use Rattle.rs_mean.proofs.database.Database.put_table.Goals as goal

pub returns-clause-ok : goal.returns-clause-ok
returns-clause-ok c =
    let before : Database = record { sites = c.self.inside.sites; tables = c.self.inside.tables.entries; synonyms = c.self.inside.synonyms.entries; programs = [] } in
    ap (λ tables. record before { tables = tables }) c.in_ok-insert.ensures.entries ∙ ap (with_table c.args.name c.args.table) c.self.view_is
