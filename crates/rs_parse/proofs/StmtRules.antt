-- The readers of statements and requests read the phrases of the grammar.
use Rattle.std.proofs.Common.{◌≡◌, ℕ, suc, ◌^◌, pos, Bool, true, false, cond, ◌||◌, Some, None, List, [], ◌∷◌, ◌++◌, codes, refl, ap, subst, arith, inl, inr}
use Rattle.std.specs.Prelude.{is_some}
use Rattle.std.proofs.lemmas.Bool.{lt-ltb}
use Rattle.rs_base.specs.declared.value.Value.{Value}
use Rattle.rs_base.specs.declared.value.Value.TheVariants as values
use Rattle.rs_base.specs.declared.name.NameText.{NameText}
use Rattle.rs_ast.specs.declared.column.ColDef.{ColDef}
use Rattle.rs_ast.specs.declared.stmt.Dml.{Dml}
use Rattle.rs_ast.specs.declared.stmt.Stmt.{Stmt}
use Rattle.rs_ast.specs.declared.stmt.Stmt.TheVariants as stmts
use Rattle.rs_token.specs.declared.token.Symbol.TheVariants as symbols
use Rattle.rs_token.specs.declared.token.Token.{Token}
use Rattle.rs_token.specs.declared.token.Token.TheVariants as tokens
use Rattle.rs_token.specs.Token.{is_symbol, is_word, same_symbol}
use Rattle.rs_token.proofs.TokenLaws.{is_symbol_self}
use Rattle.rs_parse.specs.Phrases.{Phrase, AtMost}
use Rattle.rs_parse.specs.Read.{Read, Got, ◌>>=◌, begins, either_at}
use Rattle.rs_parse.specs.Grammar.{IsIdent, IsSite, IsName, IsColumn, IsLiteral, IsCommaList, IsCommaListOrNone, IsSelect, IsDml, IsBody, IsStmt, IsRequest}
use Rattle.rs_parse.specs.Reader.{ident_at, is_ident_token, begins_literal, literal_at, list_or_none_at, dml_at, create_table_at, create_index_at, create_synonym_at, create_at, drop_table_at, drop_index_at, drop_synonym_at, drop_program_at, drop_at, migrate_at, compile_at, execute_at, explain_at, show_at, stmt_at, end_at, request_at}
use Rattle.rs_parse.proofs.Readers.{IsReader, Then, Made, Either, Empty, IsToken, Begins, never, or_left, or_right, gives_before, then_reads, suffix_reads, made_reads, either_reads, as_reads, before_reads, token_begins, end_begins, empty_begins, begins_either}
use Rattle.rs_parse.proofs.NameRules.{symbol_reads, word_reads, ident_reads, site_reads, on_name, name_reads, column_reads}
use Rattle.rs_parse.proofs.TermRules.{literal_reads, ident_begins, on_list, list_reads}
use Rattle.rs_parse.proofs.SelectRules.{on_select, select_reads, list_begins}
use Rattle.rs_parse.proofs.DmlRules.{on_dml, dml_select, dml_reads, dml_begins, on_body, body_reads}

-- ---- lists that may be empty

module _ {A : Type 0} (P : Phrase A) (begins_item : Token → Bool) (item : List Token → Read A) (n : ℕ) (r : IsReader P never item) (begins_so : Begins begins_item true P) where
  abbrev pub on_list_or_none : Token → Bool
  on_list_or_none t = begins_item t || on_list never t

  abbrev SeparatedList : Phrase (List A)
  SeparatedList = AtMost (suc n) (IsCommaList P)

  or_none_to : (xs : List A) (ts : List Token) → Either SeparatedList (Empty []) xs ts → AtMost (suc n) (IsCommaListOrNone P) xs ts
  or_none_to [] ts (inl p) = absurd p.1
  or_none_to (x ∷ xs) ts (inl p) = p
  or_none_to xs ts (inr (e, nothing)) = subst (λ (ys : List A). AtMost (suc n) (IsCommaListOrNone P) ys ts) e (omega arith, nothing)

  or_none_from : (xs : List A) (ts : List Token) → AtMost (suc n) (IsCommaListOrNone P) xs ts → Either SeparatedList (Empty []) xs ts
  or_none_from [] ts (le, nothing) = inr (refl, nothing)
  or_none_from (x ∷ xs) ts p = inl p

  list_or_none_reads : IsReader (AtMost (suc n) (IsCommaListOrNone P)) on_list_or_none (list_or_none_at begins_item item n)
  list_or_none_reads = as_reads (AtMost (suc n) (IsCommaListOrNone P))
      (either_reads begins_item (before_reads on_list_or_none (λ t e. or_right (begins_item t) (on_list never t) e) (list_reads n r refl)) (gives_before [] on_list_or_none)
      (list_begins P (suc n) begins_item true begins_so)
      (λ xs prefix rest p ends. empty_begins begins_item on_list_or_none (λ t e. or_left (begins_item t) (on_list never t) e) prefix rest p.1 ends))
      or_none_to or_none_from

-- ---- tables, indexes and synonyms

open_ends_name : on_name (tokens.Symbol symbols.Open) ≡ false
unfolding same_symbol
open_ends_name = refl

close_ends_list : on_list never (tokens.Symbol symbols.Close) ≡ false
unfolding same_symbol
close_ends_list = refl

abbrev table_made : NameText → List ColDef → Unit {0} → Stmt
table_made name columns close = stmts.CreateTable name columns

abbrev Columns : NameText → Phrase Stmt
Columns name = Then (IsToken (tokens.Symbol symbols.Open)) (λ opened. Then (AtMost 16 (IsCommaList IsColumn)) (λ columns. Made (table_made name columns) (IsToken (tokens.Symbol symbols.Close))))

abbrev TablePart : Phrase Stmt
TablePart = Then (IsToken (tokens.Word (codes "table"))) (λ table. Then IsName Columns)

create_table_reads : IsReader TablePart never create_table_at
unfolding create_table_at
create_table_reads = suffix_reads (word_reads (codes "table")) (λ table.
    then_reads name_reads (λ name. suffix_reads (symbol_reads symbols.Open) (λ opened.
    then_reads (list_reads 15 column_reads refl) (λ columns. made_reads (table_made name columns) (symbol_reads symbols.Close))
    (λ columns stmt suffix rest q ends. end_begins (on_list never) (tokens.Symbol symbols.Close) false close_ends_list suffix rest q.1)))
    (λ name stmt suffix rest q ends. token_begins on_name (tokens.Symbol symbols.Open) false open_ends_name q.1 q.2 suffix rest q.3 q.5))

abbrev index_made : List ℕ → NameText → List ℕ → Unit {0} → Stmt
index_made index name column close = stmts.CreateIndex index name column

abbrev IndexedColumn : List ℕ → NameText → Phrase Stmt
IndexedColumn index name = Then (IsToken (tokens.Symbol symbols.Open)) (λ opened. Then IsIdent (λ column. Made (index_made index name column) (IsToken (tokens.Symbol symbols.Close))))

abbrev IndexPart : Phrase Stmt
IndexPart = Then (IsToken (tokens.Word (codes "index"))) (λ word. Then IsIdent (λ index. Then (IsToken (tokens.Word (codes "on"))) (λ on. Then IsName (IndexedColumn index))))

create_index_reads : IsReader IndexPart never create_index_at
unfolding create_index_at
create_index_reads = suffix_reads (word_reads (codes "index")) (λ word. suffix_reads ident_reads (λ index. suffix_reads (word_reads (codes "on")) (λ on.
    then_reads name_reads (λ name. suffix_reads (symbol_reads symbols.Open) (λ opened. suffix_reads ident_reads (λ column. made_reads (index_made index name column) (symbol_reads symbols.Close))))
    (λ name stmt suffix rest q ends. token_begins on_name (tokens.Symbol symbols.Open) false open_ends_name q.1 q.2 suffix rest q.3 q.5))))

abbrev synonym_made : List ℕ → NameText → Stmt
synonym_made synonym name = stmts.CreateSynonym synonym name

abbrev SynonymPart : Phrase Stmt
SynonymPart = Then (IsToken (tokens.Word (codes "synonym"))) (λ word. Then IsIdent (λ synonym. Then (IsToken (tokens.Word (codes "for"))) (λ for. Made (synonym_made synonym) IsName)))

create_synonym_reads : IsReader SynonymPart on_name create_synonym_at
unfolding create_synonym_at
create_synonym_reads = suffix_reads (word_reads (codes "synonym")) (λ word. suffix_reads ident_reads (λ synonym. suffix_reads (word_reads (codes "for")) (λ for. made_reads (synonym_made synonym) name_reads)))

abbrev IndexOrSynonym : Phrase Stmt
IndexOrSynonym = Either IndexPart SynonymPart

abbrev CreateChain : Phrase Stmt
CreateChain = Then (IsToken (tokens.Word (codes "create"))) (λ create. Either TablePart IndexOrSynonym)

-- a phrase that begins with a word
begins_word : (Q : Unit {0} → Phrase Stmt) (word : List ℕ) (is : Token → Bool) (c : Bool) → is (tokens.Word word) ≡ c → Begins is c (Then (IsToken (tokens.Word word)) Q)
begins_word Q word is c e stmt prefix rest p = token_begins is (tokens.Word word) c e p.1 p.2 prefix rest p.3 p.5

create_reads : IsReader CreateChain on_name create_at
unfolding create_at
create_reads = suffix_reads (word_reads (codes "create")) (λ create.
    either_reads (is_word (codes "table")) (before_reads on_name (λ t e. refl) create_table_reads)
    (either_reads (is_word (codes "index")) (before_reads on_name (λ t e. refl) create_index_reads) create_synonym_reads
    (λ stmt prefix rest p. token_begins (is_word (codes "index")) (tokens.Word (codes "index")) true refl p.1 p.2 prefix rest p.3 p.5)
    (λ stmt prefix rest p ends. token_begins (is_word (codes "index")) (tokens.Word (codes "synonym")) false refl p.1 p.2 prefix rest p.3 p.5))
    (λ stmt prefix rest p. token_begins (is_word (codes "table")) (tokens.Word (codes "table")) true refl p.1 p.2 prefix rest p.3 p.5)
    (λ stmt prefix rest p ends. begins_either IndexPart SynonymPart (is_word (codes "table")) false
    (λ x f r q. token_begins (is_word (codes "table")) (tokens.Word (codes "index")) false refl q.1 q.2 f r q.3 q.5)
    (λ x f r q. token_begins (is_word (codes "table")) (tokens.Word (codes "synonym")) false refl q.1 q.2 f r q.3 q.5) stmt prefix rest p))

abbrev index_dropped : List ℕ → NameText → Stmt
index_dropped index name = stmts.DropIndex index name

abbrev DropTablePart : Phrase Stmt
DropTablePart = Then (IsToken (tokens.Word (codes "table"))) (λ table. Made stmts.DropTable IsName)

abbrev DropIndexPart : Phrase Stmt
DropIndexPart = Then (IsToken (tokens.Word (codes "index"))) (λ word. Then IsIdent (λ index. Then (IsToken (tokens.Word (codes "on"))) (λ on. Made (index_dropped index) IsName)))

abbrev DropSynonymPart : Phrase Stmt
DropSynonymPart = Then (IsToken (tokens.Word (codes "synonym"))) (λ word. Made stmts.DropSynonym IsIdent)

abbrev DropProgramPart : Phrase Stmt
DropProgramPart = Then (IsToken (tokens.Word (codes "program"))) (λ word. Made stmts.DropProgram IsIdent)

abbrev SynonymOrProgram : Phrase Stmt
SynonymOrProgram = Either DropSynonymPart DropProgramPart

abbrev IndexOrOther : Phrase Stmt
IndexOrOther = Either DropIndexPart SynonymOrProgram

abbrev DropChain : Phrase Stmt
DropChain = Then (IsToken (tokens.Word (codes "drop"))) (λ drop. Either DropTablePart IndexOrOther)

drop_table_reads : IsReader DropTablePart on_name drop_table_at
unfolding drop_table_at
drop_table_reads = suffix_reads (word_reads (codes "table")) (λ table. made_reads stmts.DropTable name_reads)

drop_index_reads : IsReader DropIndexPart on_name drop_index_at
unfolding drop_index_at
drop_index_reads = suffix_reads (word_reads (codes "index")) (λ word. suffix_reads ident_reads (λ index. suffix_reads (word_reads (codes "on")) (λ on. made_reads (index_dropped index) name_reads)))

drop_synonym_reads : IsReader DropSynonymPart never drop_synonym_at
unfolding drop_synonym_at
drop_synonym_reads = suffix_reads (word_reads (codes "synonym")) (λ word. made_reads stmts.DropSynonym ident_reads)

drop_program_reads : IsReader DropProgramPart never drop_program_at
unfolding drop_program_at
drop_program_reads = suffix_reads (word_reads (codes "program")) (λ word. made_reads stmts.DropProgram ident_reads)

synonym_or_program_begins : (is : Token → Bool) (c : Bool) → is (tokens.Word (codes "synonym")) ≡ c → is (tokens.Word (codes "program")) ≡ c → Begins is c SynonymOrProgram
synonym_or_program_begins is c e e' = begins_either DropSynonymPart DropProgramPart is c
    (λ x f r q. token_begins is (tokens.Word (codes "synonym")) c e q.1 q.2 f r q.3 q.5)
    (λ x f r q. token_begins is (tokens.Word (codes "program")) c e' q.1 q.2 f r q.3 q.5)

index_or_other_begins : (is : Token → Bool) (c : Bool) → is (tokens.Word (codes "index")) ≡ c → is (tokens.Word (codes "synonym")) ≡ c → is (tokens.Word (codes "program")) ≡ c → Begins is c IndexOrOther
index_or_other_begins is c e e' e'' = begins_either DropIndexPart SynonymOrProgram is c
    (λ x f r q. token_begins is (tokens.Word (codes "index")) c e q.1 q.2 f r q.3 q.5)
    (synonym_or_program_begins is c e' e'')

drop_reads : IsReader DropChain on_name drop_at
unfolding drop_at
drop_reads = suffix_reads (word_reads (codes "drop")) (λ drop.
    either_reads (is_word (codes "table")) drop_table_reads
    (either_reads (is_word (codes "index")) drop_index_reads
    (before_reads on_name (λ t e. refl) (either_reads (is_word (codes "synonym")) drop_synonym_reads drop_program_reads
    (λ stmt prefix rest p. token_begins (is_word (codes "synonym")) (tokens.Word (codes "synonym")) true refl p.1 p.2 prefix rest p.3 p.5)
    (λ stmt prefix rest p ends. token_begins (is_word (codes "synonym")) (tokens.Word (codes "program")) false refl p.1 p.2 prefix rest p.3 p.5)))
    (λ stmt prefix rest p. token_begins (is_word (codes "index")) (tokens.Word (codes "index")) true refl p.1 p.2 prefix rest p.3 p.5)
    (λ stmt prefix rest p ends. synonym_or_program_begins (is_word (codes "index")) false refl refl stmt prefix rest p))
    (λ stmt prefix rest p. token_begins (is_word (codes "table")) (tokens.Word (codes "table")) true refl p.1 p.2 prefix rest p.3 p.5)
    (λ stmt prefix rest p ends. index_or_other_begins (is_word (codes "table")) false refl refl refl stmt prefix rest p))

abbrev migrated : NameText → ℕ → Stmt
migrated name site = stmts.Migrate name site

abbrev MigrateChain : Phrase Stmt
MigrateChain = Then (IsToken (tokens.Word (codes "migrate"))) (λ migrate. Then (IsToken (tokens.Word (codes "table"))) (λ table. Then IsName (λ name. Then (IsToken (tokens.Word (codes "to"))) (λ to. Made (migrated name) IsSite))))

migrate_reads : IsReader MigrateChain never migrate_at
unfolding migrate_at
migrate_reads = suffix_reads (word_reads (codes "migrate")) (λ migrate. suffix_reads (word_reads (codes "table")) (λ table.
    then_reads name_reads (λ name. suffix_reads (word_reads (codes "to")) (λ to. made_reads (migrated name) site_reads))
    (λ name stmt suffix rest q ends. token_begins on_name (tokens.Word (codes "to")) false refl q.1 q.2 suffix rest q.3 q.5)))

-- ---- programs

abbrev on_params : Token → Bool
on_params t = is_ident_token t || on_list never t

abbrev on_values : Token → Bool
on_values t = begins_literal t || on_list never t

close_ends_params : on_params (tokens.Symbol symbols.Close) ≡ false
unfolding same_symbol
close_ends_params = refl

close_ends_values : on_values (tokens.Symbol symbols.Close) ≡ false
unfolding same_symbol
close_ends_values = refl

end_ends_body : on_body (tokens.Word (codes "end")) ≡ false
end_ends_body = refl

abbrev compiled : List ℕ → List (List ℕ) → List Dml → Unit {0} → Stmt
compiled program params body end = stmts.Compile program params body

abbrev BodyEnd : List ℕ → List (List ℕ) → Phrase Stmt
BodyEnd program params = Then (IsToken (tokens.Symbol symbols.Close)) (λ close. Then (IsToken (tokens.Word (codes "as"))) (λ word. Then IsBody (λ body. Made (compiled program params body) (IsToken (tokens.Word (codes "end"))))))

abbrev CompileChain : Phrase Stmt
CompileChain = Then (IsToken (tokens.Word (codes "compile"))) (λ compile. Then IsIdent (λ program. Then (IsToken (tokens.Symbol symbols.Open)) (λ opened. Then (AtMost 16 (IsCommaListOrNone IsIdent)) (BodyEnd program))))

compile_reads : IsReader CompileChain never compile_at
unfolding compile_at
compile_reads = suffix_reads (word_reads (codes "compile")) (λ compile. suffix_reads ident_reads (λ program. suffix_reads (symbol_reads symbols.Open) (λ opened.
    then_reads (list_or_none_reads IsIdent is_ident_token ident_at 15 ident_reads ident_begins)
    (λ params. suffix_reads (symbol_reads symbols.Close) (λ close. suffix_reads (word_reads (codes "as")) (λ word.
    then_reads body_reads (λ body. made_reads (compiled program params body) (word_reads (codes "end")))
    (λ body stmt suffix rest q ends. end_begins on_body (tokens.Word (codes "end")) false end_ends_body suffix rest q.1))))
    (λ params stmt suffix rest q ends. token_begins on_params (tokens.Symbol symbols.Close) false close_ends_params q.1 q.2 suffix rest q.3 q.5))))

abbrev executed : List ℕ → List Value → Unit {0} → Stmt
executed program given close = stmts.Execute program given

abbrev ExecuteChain : Phrase Stmt
ExecuteChain = Then (IsToken (tokens.Word (codes "execute"))) (λ execute. Then IsIdent (λ program. Then (IsToken (tokens.Symbol symbols.Open)) (λ opened. Then (AtMost 16 (IsCommaListOrNone IsLiteral)) (λ given. Made (executed program given) (IsToken (tokens.Symbol symbols.Close))))))

minus_begins_literal : begins_literal (tokens.Symbol symbols.Minus) ≡ true
unfolding same_symbol
minus_begins_literal = refl

literal_begins_so : Begins begins_literal true IsLiteral
literal_begins_so (values.Int z) prefix rest (n, lt, inl (e, at)) =
    end_begins begins_literal (tokens.Number n) true (ap (λ (test : Bool). is_some (cond test (Some (values.Int (pos n))) None)) (lt-ltb n (2 ^ 63) lt)) prefix rest at
literal_begins_so (values.Int z) prefix rest (n, lt, inr (e, (f, b, at, number, p))) = token_begins begins_literal (tokens.Symbol symbols.Minus) true minus_begins_literal f b prefix rest at p
literal_begins_so (values.Text text) prefix rest at = end_begins begins_literal (tokens.Text text) true refl prefix rest at

execute_reads : IsReader ExecuteChain never execute_at
unfolding execute_at
execute_reads = suffix_reads (word_reads (codes "execute")) (λ execute. suffix_reads ident_reads (λ program. suffix_reads (symbol_reads symbols.Open) (λ opened.
    then_reads (list_or_none_reads IsLiteral begins_literal literal_at 15 literal_reads literal_begins_so)
    (λ given. made_reads (executed program given) (symbol_reads symbols.Close))
    (λ given stmt suffix rest q ends. end_begins on_values (tokens.Symbol symbols.Close) false close_ends_values suffix rest q.1))))

abbrev ExplainChain : Phrase Stmt
ExplainChain = Then (IsToken (tokens.Word (codes "explain"))) (λ explain. Made stmts.Explain IsSelect)

explain_reads : IsReader ExplainChain on_select explain_at
unfolding explain_at
explain_reads = suffix_reads (word_reads (codes "explain")) (λ explain. made_reads stmts.Explain select_reads)

abbrev sections_shown : Unit {0} → Stmt
sections_shown word = stmts.ShowSections

abbrev cache_shown : Unit {0} → Stmt
cache_shown word = stmts.ShowCache

abbrev Shown : Phrase Stmt
Shown = Either (Made sections_shown (IsToken (tokens.Word (codes "sections")))) (Made cache_shown (IsToken (tokens.Word (codes "cache"))))

abbrev ShowChain : Phrase Stmt
ShowChain = Then (IsToken (tokens.Word (codes "show"))) (λ show. Shown)

show_reads : IsReader ShowChain never show_at
unfolding show_at
show_reads = suffix_reads (word_reads (codes "show")) (λ show.
    either_reads (is_word (codes "sections")) (made_reads sections_shown (word_reads (codes "sections"))) (made_reads cache_shown (word_reads (codes "cache")))
    (λ stmt prefix rest p. end_begins (is_word (codes "sections")) (tokens.Word (codes "sections")) true refl prefix rest p.1)
    (λ stmt prefix rest p ends. end_begins (is_word (codes "sections")) (tokens.Word (codes "cache")) false refl prefix rest p.1))

-- ---- statements

-- the tokens that continue the last part of a statement
abbrev pub on_stmt : Token → Bool
on_stmt t = on_name t || on_dml t

stmt_name : (t : Token) → on_stmt t ≡ false → on_name t ≡ false
stmt_name t e = or_left (on_name t) (on_dml t) e

stmt_dml : (t : Token) → on_stmt t ≡ false → on_dml t ≡ false
stmt_dml t e = or_right (on_name t) (on_dml t) e

stmt_none : (t : Token) → on_stmt t ≡ false → never t ≡ false
stmt_none t e = refl

abbrev DmlPart : Phrase Stmt
DmlPart = Made stmts.Dml IsDml

abbrev ShowPart : Phrase Stmt
ShowPart = Either ShowChain DmlPart

abbrev ExplainPart : Phrase Stmt
ExplainPart = Either ExplainChain ShowPart

abbrev ExecutePart : Phrase Stmt
ExecutePart = Either ExecuteChain ExplainPart

abbrev CompilePart : Phrase Stmt
CompilePart = Either CompileChain ExecutePart

abbrev MigratePart : Phrase Stmt
MigratePart = Either MigrateChain CompilePart

abbrev DropPart : Phrase Stmt
DropPart = Either DropChain MigratePart

abbrev StmtChain : Phrase Stmt
StmtChain = Either CreateChain DropPart

-- a test that some words fail

dml_part_not : (is : Token → Bool) → is (tokens.Word (codes "select")) ≡ false → is (tokens.Word (codes "insert")) ≡ false → is (tokens.Word (codes "update")) ≡ false → is (tokens.Word (codes "delete")) ≡ false → Begins is false DmlPart
dml_part_not is a b c d stmt prefix rest p = dml_begins is false a b c d p.0 prefix rest p.1

abbrev IsNot : (Token → Bool) → List ℕ → Type 0
IsNot is word = is (tokens.Word word) ≡ false

part_not : (Q : Unit {0} → Phrase Stmt) (word : List ℕ) (Part : Phrase Stmt) (is : Token → Bool) → IsNot is word → Begins is false Part → Begins is false (Either (Then (IsToken (tokens.Word word)) Q) Part)
part_not Q word Part is e d = begins_either (Then (IsToken (tokens.Word word)) Q) Part is false (begins_word Q word is false e) d

stmt_to : (stmt : Stmt) (ts : List Token) → StmtChain stmt ts → IsStmt stmt ts
stmt_to stmt ts (inl (create, f, b, is, inl (table, f1, b1, is1, (name, f2, b2, is2, (opened, f3, b3, is3, (columns, f4, b4, is4, (close, is5, e), p4), p3), p2), p1), p)) = subst (λ (x : Stmt). IsStmt x ts) e (f, b, is, (f1, b1, is1, (f2, b2, is2, (f3, b3, is3, (f4, b4, is4, is5, p4), p3), p2), p1), p)
stmt_to stmt ts (inl (create, f, b, is, inr (inl (word, f1, b1, is1, (index, f2, b2, is2, (on, f3, b3, is3, (name, f4, b4, is4, (opened, f5, b5, is5, (column, f6, b6, is6, (close, is7, e), p6), p5), p4), p3), p2), p1)), p)) = subst (λ (x : Stmt). IsStmt x ts) e (f, b, is, (f1, b1, is1, (f2, b2, is2, (f3, b3, is3, (f4, b4, is4, (f5, b5, is5, (f6, b6, is6, is7, p6), p5), p4), p3), p2), p1), p)
stmt_to stmt ts (inl (create, f, b, is, inr (inr (word, f1, b1, is1, (synonym, f2, b2, is2, (for, f3, b3, is3, (name, is4, e), p3), p2), p1)), p)) = subst (λ (x : Stmt). IsStmt x ts) e (f, b, is, (f1, b1, is1, (f2, b2, is2, (f3, b3, is3, is4, p3), p2), p1), p)
stmt_to stmt ts (inr (inl (drop, f, b, is, inl (table, f1, b1, is1, (name, is2, e), p1), p))) = subst (λ (x : Stmt). IsStmt x ts) e (f, b, is, (f1, b1, is1, is2, p1), p)
stmt_to stmt ts (inr (inl (drop, f, b, is, inr (inl (word, f1, b1, is1, (index, f2, b2, is2, (on, f3, b3, is3, (name, is4, e), p3), p2), p1)), p))) = subst (λ (x : Stmt). IsStmt x ts) e (f, b, is, (f1, b1, is1, (f2, b2, is2, (f3, b3, is3, is4, p3), p2), p1), p)
stmt_to stmt ts (inr (inl (drop, f, b, is, inr (inr (inl (word, f1, b1, is1, (synonym, is2, e), p1))), p))) = subst (λ (x : Stmt). IsStmt x ts) e (f, b, is, (f1, b1, is1, is2, p1), p)
stmt_to stmt ts (inr (inl (drop, f, b, is, inr (inr (inr (word, f1, b1, is1, (program, is2, e), p1))), p))) = subst (λ (x : Stmt). IsStmt x ts) e (f, b, is, (f1, b1, is1, is2, p1), p)
stmt_to stmt ts (inr (inr (inl (migrate, f, b, is, (table, f1, b1, is1, (name, f2, b2, is2, (to, f3, b3, is3, (site, is4, e), p3), p2), p1), p)))) = subst (λ (x : Stmt). IsStmt x ts) e (f, b, is, (f1, b1, is1, (f2, b2, is2, (f3, b3, is3, is4, p3), p2), p1), p)
stmt_to stmt ts (inr (inr (inr (inl (compile, f, b, is, (program, f1, b1, is1, (opened, f2, b2, is2, (params, f3, b3, is3, (close, f4, b4, is4, (word, f5, b5, is5, (body, f6, b6, is6, (end, is7, e), p6), p5), p4), p3), p2), p1), p))))) = subst (λ (x : Stmt). IsStmt x ts) e (f, b, is, (f1, b1, is1, (f2, b2, is2, (f3, b3, is3, (f4, b4, is4, (f5, b5, is5, (f6, b6, is6, is7, p6), p5), p4), p3), p2), p1), p)
stmt_to stmt ts (inr (inr (inr (inr (inl (execute, f, b, is, (program, f1, b1, is1, (opened, f2, b2, is2, (given, f3, b3, is3, (close, is4, e), p3), p2), p1), p)))))) = subst (λ (x : Stmt). IsStmt x ts) e (f, b, is, (f1, b1, is1, (f2, b2, is2, (f3, b3, is3, is4, p3), p2), p1), p)
stmt_to stmt ts (inr (inr (inr (inr (inr (inl (explain, f, b, is, (select, is1, e), p))))))) = subst (λ (x : Stmt). IsStmt x ts) e (f, b, is, is1, p)
stmt_to stmt ts (inr (inr (inr (inr (inr (inr (inl (show, f, b, is, inl (word, is1, e), p)))))))) = subst (λ (x : Stmt). IsStmt x ts) e (f, b, is, is1, p)
stmt_to stmt ts (inr (inr (inr (inr (inr (inr (inl (show, f, b, is, inr (word, is1, e), p)))))))) = subst (λ (x : Stmt). IsStmt x ts) e (f, b, is, is1, p)
stmt_to stmt ts (inr (inr (inr (inr (inr (inr (inr (dml, is, e)))))))) = subst (λ (x : Stmt). IsStmt x ts) e is

stmt_from : (stmt : Stmt) (ts : List Token) → IsStmt stmt ts → StmtChain stmt ts
stmt_from (stmts.CreateTable name columns) ts (f, b, is, (f1, b1, is1, (f2, b2, is2, (f3, b3, is3, (f4, b4, is4, is5, p4), p3), p2), p1), p) = inl (tt, f, b, is, inl (tt, f1, b1, is1, (name, f2, b2, is2, (tt, f3, b3, is3, (columns, f4, b4, is4, (tt, is5, refl), p4), p3), p2), p1), p)
stmt_from (stmts.DropTable name) ts (f, b, is, (f1, b1, is1, is2, p1), p) = inr (inl (tt, f, b, is, inl (tt, f1, b1, is1, (name, is2, refl), p1), p))
stmt_from (stmts.CreateIndex index name column) ts (f, b, is, (f1, b1, is1, (f2, b2, is2, (f3, b3, is3, (f4, b4, is4, (f5, b5, is5, (f6, b6, is6, is7, p6), p5), p4), p3), p2), p1), p) = inl (tt, f, b, is, inr (inl (tt, f1, b1, is1, (index, f2, b2, is2, (tt, f3, b3, is3, (name, f4, b4, is4, (tt, f5, b5, is5, (column, f6, b6, is6, (tt, is7, refl), p6), p5), p4), p3), p2), p1)), p)
stmt_from (stmts.DropIndex index name) ts (f, b, is, (f1, b1, is1, (f2, b2, is2, (f3, b3, is3, is4, p3), p2), p1), p) = inr (inl (tt, f, b, is, inr (inl (tt, f1, b1, is1, (index, f2, b2, is2, (tt, f3, b3, is3, (name, is4, refl), p3), p2), p1)), p))
stmt_from (stmts.CreateSynonym synonym name) ts (f, b, is, (f1, b1, is1, (f2, b2, is2, (f3, b3, is3, is4, p3), p2), p1), p) = inl (tt, f, b, is, inr (inr (tt, f1, b1, is1, (synonym, f2, b2, is2, (tt, f3, b3, is3, (name, is4, refl), p3), p2), p1)), p)
stmt_from (stmts.DropSynonym synonym) ts (f, b, is, (f1, b1, is1, is2, p1), p) = inr (inl (tt, f, b, is, inr (inr (inl (tt, f1, b1, is1, (synonym, is2, refl), p1))), p))
stmt_from (stmts.Migrate name to) ts (f, b, is, (f1, b1, is1, (f2, b2, is2, (f3, b3, is3, is4, p3), p2), p1), p) = inr (inr (inl (tt, f, b, is, (tt, f1, b1, is1, (name, f2, b2, is2, (tt, f3, b3, is3, (to, is4, refl), p3), p2), p1), p)))
stmt_from (stmts.Compile program params body) ts (f, b, is, (f1, b1, is1, (f2, b2, is2, (f3, b3, is3, (f4, b4, is4, (f5, b5, is5, (f6, b6, is6, is7, p6), p5), p4), p3), p2), p1), p) = inr (inr (inr (inl (tt, f, b, is, (program, f1, b1, is1, (tt, f2, b2, is2, (params, f3, b3, is3, (tt, f4, b4, is4, (tt, f5, b5, is5, (body, f6, b6, is6, (tt, is7, refl), p6), p5), p4), p3), p2), p1), p))))
stmt_from (stmts.DropProgram program) ts (f, b, is, (f1, b1, is1, is2, p1), p) = inr (inl (tt, f, b, is, inr (inr (inr (tt, f1, b1, is1, (program, is2, refl), p1))), p))
stmt_from (stmts.Execute program given) ts (f, b, is, (f1, b1, is1, (f2, b2, is2, (f3, b3, is3, is4, p3), p2), p1), p) = inr (inr (inr (inr (inl (tt, f, b, is, (program, f1, b1, is1, (tt, f2, b2, is2, (given, f3, b3, is3, (tt, is4, refl), p3), p2), p1), p)))))
stmt_from (stmts.Explain select) ts (f, b, is, is1, p) = inr (inr (inr (inr (inr (inl (tt, f, b, is, (select, is1, refl), p))))))
stmt_from stmts.ShowSections ts (f, b, is, is1, p) = inr (inr (inr (inr (inr (inr (inl (tt, f, b, is, inl (tt, is1, refl), p)))))))
stmt_from stmts.ShowCache ts (f, b, is, is1, p) = inr (inr (inr (inr (inr (inr (inl (tt, f, b, is, inr (tt, is1, refl), p)))))))
stmt_from (stmts.Dml dml) ts is = inr (inr (inr (inr (inr (inr (inr (dml, is, refl)))))))

abbrev is_show : Token → Bool
is_show = is_word (codes "show")

abbrev OnShow : (Token → Bool) → Type 0
OnShow is = Begins is false ShowPart

abbrev Executes : Unit {0} → Phrase Stmt
Executes execute = Then IsIdent (λ program. Then (IsToken (tokens.Symbol symbols.Open)) (λ opened. Then (AtMost 16 (IsCommaListOrNone IsLiteral)) (λ given. Made (executed program given) (IsToken (tokens.Symbol symbols.Close)))))

abbrev Compiles : Unit {0} → Phrase Stmt
Compiles compile = Then IsIdent (λ program. Then (IsToken (tokens.Symbol symbols.Open)) (λ opened. Then (AtMost 16 (IsCommaListOrNone IsIdent)) (BodyEnd program)))

abbrev Migrates : Unit {0} → Phrase Stmt
Migrates migrate = Then (IsToken (tokens.Word (codes "table"))) (λ table. Then IsName (λ name. Then (IsToken (tokens.Word (codes "to"))) (λ to. Made (migrated name) IsSite)))

abbrev Drops : Unit {0} → Phrase Stmt
Drops drop = Either DropTablePart IndexOrOther

abbrev Explains : Unit {0} → Phrase Stmt
Explains explain = Made stmts.Explain IsSelect

abbrev Shows : Unit {0} → Phrase Stmt
Shows show = Shown

-- the alternatives after the first word
show_not : (word : List ℕ) → IsNot (is_word word) (codes "show") → Begins (is_word word) false DmlPart → Begins (is_word word) false ShowPart
show_not word e d = part_not Shows (codes "show") DmlPart (is_word word) e d

explain_not : (word : List ℕ) → IsNot (is_word word) (codes "explain") → Begins (is_word word) false ShowPart → Begins (is_word word) false ExplainPart
explain_not word e d = part_not Explains (codes "explain") ShowPart (is_word word) e d

execute_not : (word : List ℕ) → IsNot (is_word word) (codes "execute") → Begins (is_word word) false ExplainPart → Begins (is_word word) false ExecutePart
execute_not word e d = part_not Executes (codes "execute") ExplainPart (is_word word) e d

compile_not : (word : List ℕ) → IsNot (is_word word) (codes "compile") → Begins (is_word word) false ExecutePart → Begins (is_word word) false CompilePart
compile_not word e d = part_not Compiles (codes "compile") ExecutePart (is_word word) e d

migrate_not : (word : List ℕ) → IsNot (is_word word) (codes "migrate") → Begins (is_word word) false CompilePart → Begins (is_word word) false MigratePart
migrate_not word e d = part_not Migrates (codes "migrate") CompilePart (is_word word) e d

drop_not : (word : List ℕ) → IsNot (is_word word) (codes "drop") → Begins (is_word word) false MigratePart → Begins (is_word word) false DropPart
drop_not word e d = part_not Drops (codes "drop") MigratePart (is_word word) e d

no_dml : (word : List ℕ) → IsNot (is_word word) (codes "select") → IsNot (is_word word) (codes "insert") → IsNot (is_word word) (codes "update") → IsNot (is_word word) (codes "delete") → Begins (is_word word) false DmlPart
no_dml word a b c d = dml_part_not (is_word word) a b c d

show_part_reads : IsReader ShowPart on_stmt (either_at (is_word (codes "show")) show_at (λ ts. dml_at ts >>= λ dml. Got (stmts.Dml dml.0) dml.1))
show_part_reads = either_reads (is_word (codes "show")) (before_reads on_stmt stmt_none show_reads) (before_reads on_stmt stmt_dml (made_reads stmts.Dml dml_reads))
    (begins_word Shows (codes "show") (is_word (codes "show")) true refl)
    (λ stmt prefix rest p ends. no_dml (codes "show") refl refl refl refl stmt prefix rest p)

explain_part_reads : IsReader ExplainPart on_stmt (either_at (is_word (codes "explain")) explain_at (either_at (is_word (codes "show")) show_at (λ ts. dml_at ts >>= λ dml. Got (stmts.Dml dml.0) dml.1)))
explain_part_reads = either_reads (is_word (codes "explain")) (before_reads on_stmt (λ t e. dml_select t (stmt_dml t e)) explain_reads) show_part_reads
    (begins_word Explains (codes "explain") (is_word (codes "explain")) true refl)
    (λ stmt prefix rest p ends. show_not (codes "explain") refl (no_dml (codes "explain") refl refl refl refl) stmt prefix rest p)

execute_part_reads : IsReader ExecutePart on_stmt (either_at (is_word (codes "execute")) execute_at (either_at (is_word (codes "explain")) explain_at (either_at (is_word (codes "show")) show_at (λ ts. dml_at ts >>= λ dml. Got (stmts.Dml dml.0) dml.1))))
execute_part_reads = either_reads (is_word (codes "execute")) (before_reads on_stmt stmt_none execute_reads) explain_part_reads
    (begins_word Executes (codes "execute") (is_word (codes "execute")) true refl)
    (λ stmt prefix rest p ends. explain_not (codes "execute") refl (show_not (codes "execute") refl (no_dml (codes "execute") refl refl refl refl)) stmt prefix rest p)

compile_part_reads : IsReader CompilePart on_stmt (either_at (is_word (codes "compile")) compile_at (either_at (is_word (codes "execute")) execute_at (either_at (is_word (codes "explain")) explain_at (either_at (is_word (codes "show")) show_at (λ ts. dml_at ts >>= λ dml. Got (stmts.Dml dml.0) dml.1)))))
compile_part_reads = either_reads (is_word (codes "compile")) (before_reads on_stmt stmt_none compile_reads) execute_part_reads
    (begins_word Compiles (codes "compile") (is_word (codes "compile")) true refl)
    (λ stmt prefix rest p ends. execute_not (codes "compile") refl (explain_not (codes "compile") refl (show_not (codes "compile") refl (no_dml (codes "compile") refl refl refl refl))) stmt prefix rest p)

migrate_part_reads : IsReader MigratePart on_stmt (either_at (is_word (codes "migrate")) migrate_at (either_at (is_word (codes "compile")) compile_at (either_at (is_word (codes "execute")) execute_at (either_at (is_word (codes "explain")) explain_at (either_at (is_word (codes "show")) show_at (λ ts. dml_at ts >>= λ dml. Got (stmts.Dml dml.0) dml.1))))))
migrate_part_reads = either_reads (is_word (codes "migrate")) (before_reads on_stmt stmt_none migrate_reads) compile_part_reads
    (begins_word Migrates (codes "migrate") (is_word (codes "migrate")) true refl)
    (λ stmt prefix rest p ends. compile_not (codes "migrate") refl (execute_not (codes "migrate") refl (explain_not (codes "migrate") refl (show_not (codes "migrate") refl (no_dml (codes "migrate") refl refl refl refl)))) stmt prefix rest p)

drop_part_reads : IsReader DropPart on_stmt (either_at (is_word (codes "drop")) drop_at (either_at (is_word (codes "migrate")) migrate_at (either_at (is_word (codes "compile")) compile_at (either_at (is_word (codes "execute")) execute_at (either_at (is_word (codes "explain")) explain_at (either_at (is_word (codes "show")) show_at (λ ts. dml_at ts >>= λ dml. Got (stmts.Dml dml.0) dml.1)))))))
drop_part_reads = either_reads (is_word (codes "drop")) (before_reads on_stmt stmt_name drop_reads) migrate_part_reads
    (begins_word Drops (codes "drop") (is_word (codes "drop")) true refl)
    (λ stmt prefix rest p ends. migrate_not (codes "drop") refl (compile_not (codes "drop") refl (execute_not (codes "drop") refl (explain_not (codes "drop") refl (show_not (codes "drop") refl (no_dml (codes "drop") refl refl refl refl))))) stmt prefix rest p)

pub stmt_reads : IsReader IsStmt on_stmt stmt_at
unfolding stmt_at
stmt_reads = as_reads IsStmt
    (either_reads (is_word (codes "create")) (before_reads on_stmt stmt_name create_reads) drop_part_reads
    (begins_word (λ create. Either TablePart IndexOrSynonym) (codes "create") (is_word (codes "create")) true refl)
    (λ stmt prefix rest p ends. drop_not (codes "create") refl (migrate_not (codes "create") refl (compile_not (codes "create") refl (execute_not (codes "create") refl (explain_not (codes "create") refl (show_not (codes "create") refl (no_dml (codes "create") refl refl refl refl)))))) stmt prefix rest p))
    stmt_to stmt_from

-- ---- requests

semicolon_ends_stmt : on_stmt (tokens.Symbol symbols.Semicolon) ≡ false
unfolding same_symbol
semicolon_ends_stmt = refl

abbrev is_semicolon : Token → Bool
is_semicolon t = is_symbol symbols.Semicolon t

abbrev EndChain : Phrase (Unit {0})
EndChain = Either (IsToken (tokens.Symbol symbols.Semicolon)) (Empty tt)

end_reads : IsReader EndChain is_semicolon end_at
unfolding end_at
end_reads = either_reads (is_symbol symbols.Semicolon) (before_reads is_semicolon (λ t e. refl) (symbol_reads symbols.Semicolon)) (gives_before tt is_semicolon)
    (λ end prefix rest p. end_begins (is_symbol symbols.Semicolon) (tokens.Symbol symbols.Semicolon) true (is_symbol_self symbols.Semicolon) prefix rest p)
    (λ end prefix rest p ends. empty_begins (is_symbol symbols.Semicolon) is_semicolon (λ t e. e) prefix rest p.1 ends)

-- the tokens that continue a request
abbrev pub on_request : Token → Bool
on_request t = is_semicolon t || on_stmt t

abbrev requested : Stmt → Unit {0} → Stmt
requested stmt end = stmt

end_follows : (stmt made : Stmt) (suffix rest : List Token) → Made (requested stmt) EndChain made suffix → begins on_request rest ≡ false → begins on_stmt (suffix ++ rest) ≡ false
end_follows stmt made suffix rest (end, inl at, e) ends = end_begins on_stmt (tokens.Symbol symbols.Semicolon) false semicolon_ends_stmt suffix rest at
end_follows stmt made suffix rest (end, inr empty, e) ends = empty_begins on_stmt on_request (λ t n. or_right (is_semicolon t) (on_stmt t) n) suffix rest empty.1 ends

request_to : (stmt : Stmt) (ts : List Token) → Then IsStmt (λ found. Made (requested found) EndChain) stmt ts → IsRequest stmt ts
request_to stmt ts (found, f, b, is, (end, inl at, e), p) = subst (λ (x : Stmt). IsRequest x ts) e (f, b, is, inr at, p)
request_to stmt ts (found, f, b, is, (end, inr empty, e), p) = subst (λ (x : Stmt). IsRequest x ts) e (f, b, is, inl empty.1, p)

request_from : (stmt : Stmt) (ts : List Token) → IsRequest stmt ts → Then IsStmt (λ found. Made (requested found) EndChain) stmt ts
request_from stmt ts (f, b, is, inl nothing, p) = (stmt, f, b, is, (tt, inr (refl, nothing), refl), p)
request_from stmt ts (f, b, is, inr at, p) = (stmt, f, b, is, (tt, inl at, refl), p)

pub request_reads : IsReader IsRequest on_request request_at
unfolding request_at
request_reads = as_reads IsRequest
    (then_reads stmt_reads (λ stmt. before_reads on_request (λ t e. or_left (is_semicolon t) (on_stmt t) e) (made_reads (requested stmt) end_reads)) end_follows)
    request_to request_from
