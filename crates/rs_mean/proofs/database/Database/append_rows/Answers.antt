use Rattle.std.proofs.Common.{[], ◌≡◌, sym, subst, OnOk, OnErr}
use Rattle.rs_mean.specs.Changes.{with_rows}
use Rattle.rs_mean.specs.Database.{Database, changing}
use Rattle.rs_mean.specs.declared.table.Table.{Table}
use Rattle.rs_mean.proofs.Written.{written_on_ok, same_on_err}
use Rattle.rs_mean.proofs.database.Database.append_rows.Goals as goal

pub returns-clause-ok : goal.returns-clause-ok
returns-clause-ok c =
    let w : Table = c.append.new.self in
    let before : Database = record { sites = c.self.inside.sites; tables = c.self.inside.tables.entries; synonyms = c.self.inside.synonyms.entries; programs = [] } in
    let after : Database = record before { tables = (c.get_mut.follows.lender w).entries } in
    subst {A = Database} (λ db. OnOk c.append.result (after ≡ changing c.args.name.now (with_rows c.args.rows) db)) c.self.view_is
    (written_on_ok c.args.name.now before c.in-Some.table.now c.get_mut.ensures.ordered (sym c.in-Some.ensures.value) c.append.result (with_rows c.args.rows) w _ (c.get_mut.follows.holds w).0
    c.append.ensures.ok)

pub returns-clause-err : goal.returns-clause-err
returns-clause-err c =
    let w : Table = c.append.new.self in
    let before : Database = record { sites = c.self.inside.sites; tables = c.self.inside.tables.entries; synonyms = c.self.inside.synonyms.entries; programs = [] } in
    let after : Database = record before { tables = (c.get_mut.follows.lender w).entries } in
    subst {A = Database} (λ db. OnErr c.append.result (after ≡ db)) c.self.view_is
    (same_on_err c.args.name.now before c.in-Some.table.now c.get_mut.ensures.ordered (sym c.in-Some.ensures.value) c.append.result w _ (c.get_mut.follows.holds w).0 c.append.ensures.err)
