-- The text of a report.
use Rattle.std.specs.Prelude.{ℕ, List, ◌++◌, flat_map, length, decimal, codes, Option, Some, None}
use Rattle.std.specs.List.{enumerate_from}
use Rattle.rs_base.specs.Printing.{printed_swn}
use Rattle.rs_print.specs.Replies.{printed_row, printed_txn, printed_origin, printed_reply}
use Rattle.rs_course.specs.declared.outs.Decided.{Decided}
use Rattle.rs_course.specs.declared.outs.RunOf.{RunOf}
use Rattle.rs_course.specs.declared.report.ReportedReply.{ReportedReply}
use Rattle.rs_course.specs.declared.report.SiteView.{SiteView}
use Rattle.rs_course.specs.declared.report.Report.{Report}
use Rattle.rs_course.specs.declared.report.TableView.{TableView}

abbrev pub printed_reported : ReportedReply → List ℕ
printed_reported given = printed_reply given.origin given.reply

-- its position in the history, from 1, its transaction, its request and the request's text
abbrev pub printed_entry : ℕ × Decided → List ℕ
printed_entry (i, entry) = decimal i ++ codes " " ++ printed_txn entry.txn ++ codes " " ++ printed_origin entry.origin
    ++ codes " " ++ entry.text ++ codes "\n"

-- a line with its name, the transaction that created it and the number of its rows
unfoldable pub printed_table_line : TableView → List ℕ
printed_table_line table = codes "table " ++ printed_swn table.name ++ codes " made " ++ printed_txn table.made
    ++ codes " rows " ++ decimal (length table.rows) ++ codes "\n"

-- that line, and a line for each row
abbrev pub printed_table : TableView → List ℕ
printed_table table = printed_table_line table ++ flat_map printed_row table.rows

-- whether the site is up, and in which epoch
abbrev pub printed_state : Option ℕ → List ℕ
printed_state (Some epoch) = codes " up " ++ decimal epoch ++ codes "\n"
printed_state None = codes " down\n"

abbrev pub printed_site : SiteView → List ℕ
printed_site view = codes "site " ++ decimal view.site ++ printed_state view.up ++ flat_map printed_table view.tables

-- the number of entries, and a line for each
abbrev pub printed_history : List Decided → List ℕ
printed_history history = codes "history " ++ decimal (length history) ++ codes "\n"
    ++ flat_map printed_entry (enumerate_from 1 history)

-- their number
abbrev pub printed_runs : List RunOf → List ℕ
printed_runs runs = codes "runs " ++ decimal (length runs) ++ codes "\n"

abbrev pub printed_report : Report → List ℕ
printed_report report = flat_map printed_reported report.replies ++ printed_history report.history ++ printed_runs report.runs
    ++ flat_map printed_site report.sites
