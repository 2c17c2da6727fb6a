-- That the forms of column definitions and catalog entries are forms.
use Rattle.rs_encode.proofs.Forms.{both_is, via_is}
use Rattle.rs_encode.proofs.Lists.{list_is}
use Rattle.rs_encode.proofs.Numbers.{count_below_is, eight_bytes_is, ident_is}
use Rattle.rs_encode.proofs.Values.{kind_is, site_is, swn_is, txn_is}
use Rattle.rs_encode.specs.Form.{IsForm}
use Rattle.rs_encode_ast.specs.Entries.{col_def, col_def_of, col_def_parts, column, column_of, column_parts, entry, entry_of, entry_parts, index_of, index_of_of, index_of_parts}
use Rattle.std.proofs.Common.{refl}

pub col_def_is : IsForm col_def
unfolding col_def
col_def_is = via_is col_def_of col_def_parts (both_is ident_is kind_is) (λ x. refl) (λ f. refl)

pub column_is : IsForm column
unfolding column
column_is = via_is column_of column_parts (both_is ident_is (both_is kind_is eight_bytes_is)) (λ x. refl) (λ f. refl)

pub index_of_is : IsForm index_of
unfolding index_of
index_of_is =
    via_is index_of_of index_of_parts (both_is ident_is (both_is (count_below_is 256) txn_is)) (λ x. refl) (λ f. refl)

pub entry_is : IsForm entry
unfolding entry
entry_is =
    via_is entry_of entry_parts (both_is swn_is (both_is txn_is (both_is site_is (both_is (list_is column_is) (both_is
    (list_is index_of_is) eight_bytes_is))))) (λ x. refl) (λ f. refl)
