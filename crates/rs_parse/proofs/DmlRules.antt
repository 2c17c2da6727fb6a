-- The readers of statements on rows read the phrases of the grammar.
use Rattle.std.proofs.Common.{◌≡◌, Bool, true, false, ◌||◌, List, [], ◌∷◌, ◌++◌, codes, refl, subst, arith, inl, inr}
use Rattle.rs_base.specs.declared.name.NameText.{NameText}
use Rattle.rs_ast.specs.declared.change.Set.{Set}
use Rattle.rs_ast.specs.declared.change.Term.{Term}
use Rattle.rs_ast.specs.declared.clause.Clause.{Clause}
use Rattle.rs_ast.specs.declared.stmt.Dml.{Dml}
use Rattle.rs_ast.specs.declared.stmt.Dml.TheVariants as dmls
use Rattle.rs_token.specs.declared.token.Symbol.TheVariants as symbols
use Rattle.rs_token.specs.declared.token.Token.{Token}
use Rattle.rs_token.specs.declared.token.Token.TheVariants as tokens
use Rattle.rs_token.specs.Token.{is_symbol, is_word, same_symbol}
use Rattle.rs_token.proofs.TokenLaws.{is_symbol_self, is_symbol_is}
use Rattle.rs_parse.specs.Phrases.{Phrase, IsSeries, AtMost}
use Rattle.rs_parse.specs.Read.{begins, all_at}
use Rattle.rs_parse.specs.Grammar.{IsName, IsTuple, IsSet, IsWhere, IsSelect, IsCommaList, IsDml, IsDmlEnded, IsBody}
use Rattle.rs_parse.specs.Reader.{tuple_at, insert_at, update_at, delete_at, dml_at, begins_dml, dml_ended_at, body_at}
use Rattle.rs_parse.proofs.Readers.{IsReader, Then, Made, Either, IsToken, Begins, never, or_left, or_right, then_reads, suffix_reads, made_reads, either_reads, as_reads, before_reads, token_begins, end_begins, begins_fewer, begins_made, begins_either, suffix_begins}
use Rattle.rs_parse.proofs.Series.{reads_more}
use Rattle.rs_parse.proofs.Lists.{reads_all}
use Rattle.rs_parse.proofs.NameRules.{symbol_reads, word_reads, on_name, name_reads}
use Rattle.rs_parse.proofs.TermRules.{on_expr, set_reads, on_list, list_reads, tuple_reads}
use Rattle.rs_parse.proofs.ClauseRules.{on_where, where_reads, where_begins}
use Rattle.rs_parse.proofs.SelectRules.{on_select, select_reads}

-- ---- INSERT

name_no_values : on_name (tokens.Word (codes "values")) ≡ false
name_no_values = refl

tuples_reads : IsReader (IsCommaList IsTuple) (on_list never) (λ ts. all_at (is_symbol symbols.Comma) tuple_at ts)
tuples_reads = reads_all IsTuple (tokens.Symbol symbols.Comma) (is_symbol symbols.Comma) never tuple_at (is_symbol_self symbols.Comma) (is_symbol_is symbols.Comma) tuple_reads refl

abbrev insert_of : NameText → List (List Term) → Dml
insert_of name rows = dmls.Insert name rows

abbrev ValuesEnd : NameText → Phrase Dml
ValuesEnd name = Then (IsToken (tokens.Word (codes "values"))) (λ word. Made (insert_of name) (IsCommaList IsTuple))

abbrev InsertChain : Phrase Dml
InsertChain = Then (IsToken (tokens.Word (codes "insert"))) (λ insert. Then (IsToken (tokens.Word (codes "into"))) (λ into. Then IsName ValuesEnd))

insert_reads : IsReader InsertChain (on_list never) insert_at
unfolding insert_at
insert_reads = suffix_reads (word_reads (codes "insert")) (λ insert. suffix_reads (word_reads (codes "into")) (λ into.
    then_reads name_reads (λ name. suffix_reads (word_reads (codes "values")) (λ word. made_reads (insert_of name) tuples_reads))
    (λ name dml suffix rest q ends. token_begins on_name (tokens.Word (codes "values")) false name_no_values q.1 q.2 suffix rest q.3 q.5)))

-- ---- UPDATE

name_no_set : on_name (tokens.Word (codes "set")) ≡ false
name_no_set = refl

comma_ends_set : on_expr (tokens.Symbol symbols.Comma) ≡ false
comma_ends_set = refl

abbrev on_sets : Token → Bool
on_sets t = on_list on_expr t

sets_no_where : on_sets (tokens.Word (codes "where")) ≡ false
sets_no_where = refl

abbrev on_update : Token → Bool
on_update t = on_where t || on_sets t

abbrev update_of : NameText → List Set → List Clause → Dml
update_of name sets clauses = dmls.Update name sets clauses

abbrev SetEnd : NameText → Phrase Dml
SetEnd name = Then (IsToken (tokens.Word (codes "set"))) (λ word. Then (AtMost 16 (IsCommaList IsSet)) (λ sets. Made (update_of name sets) IsWhere))

abbrev UpdateChain : Phrase Dml
UpdateChain = Then (IsToken (tokens.Word (codes "update"))) (λ update. Then IsName SetEnd)

sets_follow : (name : NameText) (sets : List Set) (dml : Dml) (suffix rest : List Token) → Made (update_of name sets) IsWhere dml suffix → begins on_update rest ≡ false → begins on_sets (suffix ++ rest) ≡ false
sets_follow name sets dml suffix rest (clauses, is, e) ends = where_begins on_sets sets_no_where clauses suffix rest is (begins_fewer on_sets on_update (λ t e. or_right (on_where t) (on_sets t) e) rest ends)

update_reads : IsReader UpdateChain on_update update_at
unfolding update_at
update_reads = suffix_reads (word_reads (codes "update")) (λ update.
    then_reads name_reads (λ name. suffix_reads (word_reads (codes "set")) (λ word.
    then_reads (list_reads 15 set_reads comma_ends_set) (λ sets. before_reads on_update (λ t e. or_left (on_where t) (on_sets t) e) (made_reads (update_of name sets) where_reads)) (sets_follow name)))
    (λ name dml suffix rest q ends. token_begins on_name (tokens.Word (codes "set")) false name_no_set q.1 q.2 suffix rest q.3 q.5))

-- ---- DELETE

name_no_where : on_name (tokens.Word (codes "where")) ≡ false
name_no_where = refl

abbrev on_delete : Token → Bool
on_delete t = on_where t || on_name t

abbrev delete_of : NameText → List Clause → Dml
delete_of name clauses = dmls.Delete name clauses

abbrev DeleteChain : Phrase Dml
DeleteChain = Then (IsToken (tokens.Word (codes "delete"))) (λ delete. Then (IsToken (tokens.Word (codes "from"))) (λ from. Then IsName (λ name. Made (delete_of name) IsWhere)))

delete_follows : (name : NameText) (dml : Dml) (suffix rest : List Token) → Made (delete_of name) IsWhere dml suffix → begins on_delete rest ≡ false → begins on_name (suffix ++ rest) ≡ false
delete_follows name dml suffix rest (clauses, is, e) ends = where_begins on_name name_no_where clauses suffix rest is (begins_fewer on_name on_delete (λ t e. or_right (on_where t) (on_name t) e) rest ends)

delete_reads : IsReader DeleteChain on_delete delete_at
unfolding delete_at
delete_reads = suffix_reads (word_reads (codes "delete")) (λ delete. suffix_reads (word_reads (codes "from")) (λ from.
    then_reads name_reads (λ name. before_reads on_delete (λ t e. or_left (on_where t) (on_name t) e) (made_reads (delete_of name) where_reads)) delete_follows))

-- ---- statements on rows

-- the tokens that continue the last part of a statement on rows
abbrev pub on_dml : Token → Bool
on_dml t = on_select t || (on_list never t || (on_update t || on_delete t))

pub dml_select : (t : Token) → on_dml t ≡ false → on_select t ≡ false
dml_select t e = or_left (on_select t) (on_list never t || (on_update t || on_delete t)) e

dml_others : (t : Token) → on_dml t ≡ false → (on_list never t || (on_update t || on_delete t)) ≡ false
dml_others t e = or_right (on_select t) (on_list never t || (on_update t || on_delete t)) e

dml_insert : (t : Token) → on_dml t ≡ false → on_list never t ≡ false
dml_insert t e = or_left (on_list never t) (on_update t || on_delete t) (dml_others t e)

dml_update : (t : Token) → on_dml t ≡ false → on_update t ≡ false
dml_update t e = or_left (on_update t) (on_delete t) (or_right (on_list never t) (on_update t || on_delete t) (dml_others t e))

dml_delete : (t : Token) → on_dml t ≡ false → on_delete t ≡ false
dml_delete t e = or_right (on_update t) (on_delete t) (or_right (on_list never t) (on_update t || on_delete t) (dml_others t e))

abbrev UpdatePart : Phrase Dml
UpdatePart = Either UpdateChain DeleteChain

abbrev InsertPart : Phrase Dml
InsertPart = Either InsertChain UpdatePart

abbrev DmlChain : Phrase Dml
DmlChain = Either (Made dmls.Select IsSelect) InsertPart

delete_begins : (is : Token → Bool) (c : Bool) → is (tokens.Word (codes "delete")) ≡ c → Begins is c DeleteChain
delete_begins is c e dml prefix rest p = token_begins is (tokens.Word (codes "delete")) c e p.1 p.2 prefix rest p.3 p.5

update_begins : (is : Token → Bool) (c : Bool) → is (tokens.Word (codes "update")) ≡ c → Begins is c UpdateChain
update_begins is c e dml prefix rest p = token_begins is (tokens.Word (codes "update")) c e p.1 p.2 prefix rest p.3 p.5

insert_begins : (is : Token → Bool) (c : Bool) → is (tokens.Word (codes "insert")) ≡ c → Begins is c InsertChain
insert_begins is c e dml prefix rest p = token_begins is (tokens.Word (codes "insert")) c e p.1 p.2 prefix rest p.3 p.5

pub select_begins : (is : Token → Bool) (c : Bool) → is (tokens.Word (codes "select")) ≡ c → Begins is c IsSelect
select_begins is c e select prefix rest p = token_begins is (tokens.Word (codes "select")) c e p.0 p.1 prefix rest p.2 p.4

update_part_begins : (is : Token → Bool) (c : Bool) → is (tokens.Word (codes "update")) ≡ c → is (tokens.Word (codes "delete")) ≡ c → Begins is c UpdatePart
update_part_begins is c e e' = begins_either UpdateChain DeleteChain is c (update_begins is c e) (delete_begins is c e')

insert_part_begins : (is : Token → Bool) (c : Bool) → is (tokens.Word (codes "insert")) ≡ c → is (tokens.Word (codes "update")) ≡ c → is (tokens.Word (codes "delete")) ≡ c → Begins is c InsertPart
insert_part_begins is c e e' e'' = begins_either InsertChain UpdatePart is c (insert_begins is c e) (update_part_begins is c e' e'')

dml_to : (dml : Dml) (ts : List Token) → DmlChain dml ts → IsDml dml ts
dml_to dml ts (inl (select, is, e)) = subst (λ (x : Dml). IsDml x ts) e is
dml_to dml ts (inr (inl (insert, f, b, is, (into, f1, b1, is_into, (name, f2, b2, is_name, (word, f3, b3, is_word, (rows, are_rows, e), p3), p2), p1), p))) = subst (λ (x : Dml). IsDml x ts) e (f, b, is, (f1, b1, is_into, (f2, b2, is_name, (f3, b3, is_word, are_rows, p3), p2), p1), p)
dml_to dml ts (inr (inr (inl (update, f, b, is, (name, f1, b1, is_name, (word, f2, b2, is_word, (sets, f3, b3, are_sets, (clauses, are_clauses, e), p3), p2), p1), p)))) = subst (λ (x : Dml). IsDml x ts) e (f, b, is, (f1, b1, is_name, (f2, b2, is_word, (f3, b3, are_sets, are_clauses, p3), p2), p1), p)
dml_to dml ts (inr (inr (inr (delete, f, b, is, (from, f1, b1, is_from, (name, f2, b2, is_name, (clauses, are_clauses, e), p2), p1), p)))) = subst (λ (x : Dml). IsDml x ts) e (f, b, is, (f1, b1, is_from, (f2, b2, is_name, are_clauses, p2), p1), p)

dml_from : (dml : Dml) (ts : List Token) → IsDml dml ts → DmlChain dml ts
dml_from (dmls.Select select) ts is = inl (select, is, refl)
dml_from (dmls.Insert name rows) ts (f, b, is, (f1, b1, is_into, (f2, b2, is_name, (f3, b3, is_word, are_rows, p3), p2), p1), p) = inr (inl (tt, f, b, is, (tt, f1, b1, is_into, (name, f2, b2, is_name, (tt, f3, b3, is_word, (rows, are_rows, refl), p3), p2), p1), p))
dml_from (dmls.Update name sets clauses) ts (f, b, is, (f1, b1, is_name, (f2, b2, is_word, (f3, b3, are_sets, are_clauses, p3), p2), p1), p) = inr (inr (inl (tt, f, b, is, (name, f1, b1, is_name, (tt, f2, b2, is_word, (sets, f3, b3, are_sets, (clauses, are_clauses, refl), p3), p2), p1), p)))
dml_from (dmls.Delete name clauses) ts (f, b, is, (f1, b1, is_from, (f2, b2, is_name, are_clauses, p2), p1), p) = inr (inr (inr (tt, f, b, is, (tt, f1, b1, is_from, (name, f2, b2, is_name, (clauses, are_clauses, refl), p2), p1), p)))

pub dml_reads : IsReader IsDml on_dml dml_at
unfolding dml_at
dml_reads = as_reads IsDml
    (either_reads (is_word (codes "select")) (before_reads on_dml dml_select (made_reads dmls.Select select_reads))
    (either_reads (is_word (codes "insert")) (before_reads on_dml dml_insert insert_reads)
    (either_reads (is_word (codes "update")) (before_reads on_dml dml_update update_reads) (before_reads on_dml dml_delete delete_reads)
    (update_begins (is_word (codes "update")) true refl)
    (λ dml prefix rest p ends. delete_begins (is_word (codes "update")) false refl dml prefix rest p))
    (insert_begins (is_word (codes "insert")) true refl)
    (λ dml prefix rest p ends. update_part_begins (is_word (codes "insert")) false refl refl dml prefix rest p))
    (begins_made IsSelect dmls.Select (is_word (codes "select")) true (select_begins (is_word (codes "select")) true refl))
    (λ dml prefix rest p ends. insert_part_begins (is_word (codes "select")) false refl refl refl dml prefix rest p))
    dml_to dml_from

-- a test that is the same for the four words that begin a statement on rows
pub dml_begins : (is : Token → Bool) (c : Bool) → is (tokens.Word (codes "select")) ≡ c → is (tokens.Word (codes "insert")) ≡ c → is (tokens.Word (codes "update")) ≡ c → is (tokens.Word (codes "delete")) ≡ c → Begins is c IsDml
dml_begins is c e e' e'' e''' dml prefix rest p =
    begins_either (Made dmls.Select IsSelect) InsertPart is c (begins_made IsSelect dmls.Select is c (select_begins is c e)) (insert_part_begins is c e' e'' e''') dml prefix rest (dml_from dml prefix p)

-- ---- the statements of a program

dml_no_semicolon : on_dml (tokens.Symbol symbols.Semicolon) ≡ false
unfolding same_symbol
dml_no_semicolon = refl

abbrev ended_dml : Dml → Unit {0} → Dml
ended_dml dml semicolon = dml

dml_ended_reads : IsReader IsDmlEnded never dml_ended_at
unfolding dml_ended_at
dml_ended_reads = as_reads IsDmlEnded
    (then_reads dml_reads (λ dml. made_reads (ended_dml dml) (symbol_reads symbols.Semicolon)) (λ dml made suffix rest q ends. end_begins on_dml (tokens.Symbol symbols.Semicolon) false dml_no_semicolon suffix rest q.1))
    (λ dml ts (found, f, b, is, (semicolon, is_semicolon, e), p). subst (λ (x : Dml). IsDmlEnded x ts) e (f, b, is, is_semicolon, p))
    (λ dml ts (f, b, is, is_semicolon, p). (dml, f, b, is, (tt, is_semicolon, refl), p))

dml_ended_begins : Begins begins_dml true IsDmlEnded
dml_ended_begins dml prefix rest (f, b, is, is_semicolon, p) = suffix_begins begins_dml prefix f b rest true p (dml_begins begins_dml true refl refl refl refl dml f (b ++ rest) is)

abbrev pub on_body : Token → Bool
on_body t = begins_dml t || never t

abbrev BodyChain : Phrase (List Dml)
BodyChain = Then IsDmlEnded (λ dml. Made (λ dmls. dml ∷ dmls) (AtMost 7 (IsSeries IsDmlEnded)))

body_to : (body : List Dml) (ts : List Token) → BodyChain body ts → IsBody body ts
body_to body ts (dml, f, b, is, (dmls, others, e), p) = subst (λ (x : List Dml). IsBody x ts) e (omega (arith, others.0), (f, b, is, others.1, p))

body_from : (body : List Dml) (ts : List Token) → IsBody body ts → BodyChain body ts
body_from [] ts is = absurd is
body_from (dml ∷ dmls) ts (le, (f, b, is, others, p)) = (dml, f, b, is, (dmls, (omega (arith, le), others), refl), p)

pub body_reads : IsReader IsBody on_body body_at
unfolding body_at
body_reads = as_reads IsBody (reads_more IsDmlEnded IsDmlEnded begins_dml never dml_ended_at dml_ended_at dml_ended_reads dml_ended_reads dml_ended_begins (λ t e. refl) 7) body_to body_from
