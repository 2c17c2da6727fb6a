-- The readers of single tokens, names and columns read the phrases of the grammar.
use Rattle.std.proofs.Common.{◌≡◌, ℕ, ◌≤◌, Bool, true, false, cond, leb, ◌||◌, ◌&&◌, List, [], ◌∷◌, ◌++◌, Option, Some, None, codes, refl, sym, ap, subst, ◌∙◌, inl, inr}
use Rattle.std.specs.Prelude.{bytes_eq}
use Rattle.std.proofs.lemmas.Bool.{false≢true, leb-true, le-leb, and_from}
use Rattle.std.proofs.lemmas.Option.{cond_some, none-some, same_Some}
use Rattle.std.proofs.lemmas.Slice.Eq.{bytes_eq-Decides}
use Rattle.rs_base.specs.declared.value.Kind.{Kind}
use Rattle.rs_base.specs.declared.value.Kind.TheVariants as kinds
use Rattle.rs_base.specs.declared.name.NameText.{NameText}
use Rattle.rs_ast.specs.declared.column.ColDef.{ColDef}
use Rattle.rs_ast.specs.declared.column.ColRef.{ColRef}
use Rattle.rs_token.specs.declared.token.Symbol.{Symbol}
use Rattle.rs_token.specs.declared.token.Symbol.TheVariants as symbols
use Rattle.rs_token.specs.declared.token.Token.{Token}
use Rattle.rs_token.specs.declared.token.Token.TheVariants as tokens
use Rattle.rs_token.specs.Reserved.{is_reserved}
use Rattle.rs_token.specs.Token.{is_symbol, is_word, same_symbol}
use Rattle.rs_token.proofs.TokenLaws.{is_symbol_self, is_symbol_is, is_word_self, is_word_is}
use Rattle.rs_parse.specs.Phrases.{Phrase, Optional}
use Rattle.rs_parse.specs.Read.{Got, begins, either_at}
use Rattle.rs_parse.specs.Grammar.{IsIdent, IsSite, IsKind, IsAtSite, IsName, IsNameOf, IsColRef, IsColRefOf, IsColumn}
use Rattle.rs_parse.specs.Reader.{word_at, symbol_at, ident_of, ident_at, site_of, site_at, kind_of, kind_at, at_site_at, optional_site_at, created_at, unqualified_name, name_at, column_of_at, unqualified_column, col_ref_at, column_at}
use Rattle.std.proofs.lemmas.List.{append-nil}
use Rattle.rs_token.proofs.Options.{barred}
use Rattle.rs_parse.proofs.Readers.{IsReader, One, Then, Made, Either, Empty, IsToken, never, or_left, or_right, gives_before, reads_one, reads_token, reads_optional, then_reads, suffix_reads, made_reads, either_reads, as_reads, before_reads, token_begins, empty_begins, prefix_is_all}

-- ---- single tokens

pub symbol_reads : (symbol : Symbol) → IsReader (IsToken (tokens.Symbol symbol)) never (symbol_at symbol)
symbol_reads symbol = reads_token (tokens.Symbol symbol) (is_symbol symbol) (is_symbol_self symbol) (is_symbol_is symbol)

pub word_reads : (word : List ℕ) → IsReader (IsToken (tokens.Word word)) never (word_at word)
word_reads word = reads_token (tokens.Word word) (is_word word) (is_word_self word) (is_word_is word)

ident_is : (t : Token) (name : List ℕ) → ident_of t ≡ Some name → (is_reserved name ≡ false) × (t ≡ tokens.Word name)
ident_is (tokens.Word w) name e =
    let g = barred (is_reserved w) w name e in
    subst (λ (x : List ℕ). (is_reserved x ≡ false) × (tokens.Word w ≡ tokens.Word x)) g.1 (g.0, refl)
ident_is (tokens.Number n) name e = absurd (none-some name e)
ident_is (tokens.Text text) name e = absurd (none-some name e)
ident_is (tokens.Symbol symbol) name e = absurd (none-some name e)

pub ident_of_free : (name : List ℕ) → is_reserved name ≡ false → ident_of (tokens.Word name) ≡ Some name
ident_of_free name free = ap (λ (test : Bool). cond test None (Some name)) free

a_is_free : is_reserved (codes "a") ≡ false
unfolding is_reserved
a_is_free = refl

pub ident_reads : IsReader IsIdent never ident_at
unfolding ident_at
ident_reads = as_reads IsIdent (reads_one ident_of (tokens.Word (codes "a")) (codes "a") (ident_of_free (codes "a") a_is_free))
    (λ name ts is. let g = ident_is is.0 name is.1 in (g.0, is.2 ∙ ap (λ (t : Token). t ∷ []) g.1))
    (λ name ts is. (tokens.Word name, ident_of_free name is.0, is.1))

-- ---- sites and names

and_left : (a b : Bool) → (a && b) ≡ true → a ≡ true
and_left true b e = refl
and_left false b e = absurd (false≢true e)

and_right : (a b : Bool) → (a && b) ≡ true → b ≡ true
and_right true b e = e
and_right false b e = absurd (false≢true e)

site_is : (t : Token) (site : ℕ) → site_of t ≡ Some site → (1 ≤ site) × (site ≤ 16) × (t ≡ tokens.Number site)
site_is (tokens.Word w) site e = absurd (none-some site e)
site_is (tokens.Number n) site e =
    let g = cond_some (leb 1 n && leb n 16) n site e in
    let low : 1 ≤ n = leb-true 1 n (and_left (leb 1 n) (leb n 16) g.0) in
    let high : n ≤ 16 = leb-true n 16 (and_right (leb 1 n) (leb n 16) g.0) in
    subst (λ (m : ℕ). (1 ≤ m) × (m ≤ 16) × (tokens.Number n ≡ tokens.Number m)) g.1 (low, high, refl)
site_is (tokens.Text text) site e = absurd (none-some site e)
site_is (tokens.Symbol symbol) site e = absurd (none-some site e)

site_of_within : (site : ℕ) → 1 ≤ site → site ≤ 16 → site_of (tokens.Number site) ≡ Some site
site_of_within site low high = ap (λ (test : Bool). cond test (Some site) None) (and_from (leb 1 site) (leb site 16) (le-leb 1 site low) (le-leb site 16 high))

pub site_reads : IsReader IsSite never site_at
unfolding site_at
site_reads = as_reads IsSite (reads_one site_of (tokens.Number 1) 1 refl)
    (λ site ts is. let g = site_is is.0 site is.1 in (g.0, g.1, is.2 ∙ ap (λ (t : Token). t ∷ []) g.2))
    (λ site ts is. (tokens.Number site, site_of_within site is.0 is.1, is.2))

pub at_site_reads : IsReader IsAtSite never at_site_at
unfolding at_site_at
at_site_reads = as_reads IsAtSite (suffix_reads (symbol_reads symbols.At) (λ at. site_reads))
    (λ site ts (at, one, two, is, p, e). (one, two, is, p, e))
    (λ site ts (one, two, is, p, e). (tt, one, two, is, p, e))

-- a site's `@` continues
abbrev pub on_at : Token → Bool
on_at t = is_symbol symbols.At t || never t

pub optional_site_reads : IsReader (Optional IsAtSite) on_at optional_site_at
unfolding optional_site_at
optional_site_reads = reads_optional IsAtSite (is_symbol symbols.At) never at_site_at at_site_reads
    (λ site prefix rest p. token_begins (is_symbol symbols.At) (tokens.Symbol symbols.At) true (is_symbol_self symbols.At) p.0 p.1 prefix rest p.2 p.4)

abbrev created : List ℕ → Option ℕ → List ℕ → Option ℕ → NameText
created creator creator_site object birth = record { creator = Some creator; creator_site = creator_site; object = object; birth = birth }

abbrev Created : List ℕ → Option ℕ → Phrase NameText
Created creator creator_site = Then (IsToken (tokens.Symbol symbols.Dot)) (λ dot. Then IsIdent (λ object. Made (created creator creator_site object) (Optional IsAtSite)))

created_reads : (creator : List ℕ) (creator_site : Option ℕ) → IsReader (Created creator creator_site) on_at (created_at creator creator_site)
unfolding created_at
created_reads creator creator_site = suffix_reads (symbol_reads symbols.Dot) (λ dot. suffix_reads ident_reads (λ object. made_reads (created creator creator_site object) optional_site_reads))

-- a dot or a site's `@` continues
abbrev pub on_name : Token → Bool
on_name t = is_symbol symbols.Dot t || on_at t

on_name_at : (t : Token) → on_name t ≡ false → on_at t ≡ false
on_name_at t e = or_right (is_symbol symbols.Dot t) (on_at t) e

on_name_dot : (t : Token) → on_name t ≡ false → is_symbol symbols.Dot t ≡ false
on_name_dot t e = or_left (is_symbol symbols.Dot t) (on_at t) e

abbrev Ended : List ℕ → Option ℕ → Phrase NameText
Ended first site = Either (Created first site) (Empty (unqualified_name first site))

ended_reads : (first : List ℕ) (site : Option ℕ) → IsReader (Ended first site) on_name (either_at (is_symbol symbols.Dot) (created_at first site) (λ us. Got (unqualified_name first site) us))
ended_reads first site = either_reads (is_symbol symbols.Dot) (before_reads on_name on_name_at (created_reads first site)) (gives_before (unqualified_name first site) on_name)
    (λ name prefix rest p. token_begins (is_symbol symbols.Dot) (tokens.Symbol symbols.Dot) true (is_symbol_self symbols.Dot) p.1 p.2 prefix rest p.3 p.5)
    (λ name prefix rest p ends. empty_begins (is_symbol symbols.Dot) on_name on_name_dot prefix rest p.1 ends)

dot_ends_site : on_at (tokens.Symbol symbols.Dot) ≡ false
unfolding same_symbol
dot_ends_site = refl

ended_follows : (first : List ℕ) (site : Option ℕ) (name : NameText) (suffix rest : List Token) → Ended first site name suffix → begins on_name rest ≡ false → begins on_at (suffix ++ rest) ≡ false
ended_follows first site name suffix rest (inl p) ends = token_begins on_at (tokens.Symbol symbols.Dot) false dot_ends_site p.1 p.2 suffix rest p.3 p.5
ended_follows first site name suffix rest (inr p) ends = empty_begins on_at on_name on_name_at suffix rest p.1 ends

abbrev NameChain : Phrase NameText
NameChain = Then IsIdent (λ first. Then (Optional IsAtSite) (Ended first))

name_to : (name : NameText) (ts : List Token) → NameChain name ts → IsName name ts
name_to name ts (first, f1, b1, free, (site, f2, b2, at, inl (dot, f3, b3, is, (object, f4, b4, ident, (birth, birth_at, e), p4), p3), p2), p1) =
    subst (λ (n : NameText). IsName n ts) e (f1, b1, free, (f2, b2, at, (f3, b3, is, (f4, b4, ident, birth_at, p4), p3), p2), p1)
name_to name ts (first, f1, b1, free, (site, f2, b2, at, inr (e, nothing), p2), p1) =
    subst (λ (n : NameText). IsName n ts) e (refl, (f1, b1, free, subst (Optional IsAtSite site) (prefix_is_all b1 f2 b2 p2 nothing) at, p1))

name_from_creator : (name : NameText) (ts : List Token) (creator : Option (List ℕ)) → creator ≡ name.creator → IsNameOf creator name ts → NameChain name ts
name_from_creator name ts None e (no_site, (f1, b1, free, at, p1)) =
    let alone : unqualified_name name.object name.birth ≡ name = ap (λ (site : Option ℕ). record (unqualified_name name.object name.birth) { creator_site = site }) (sym no_site) ∙ ap (λ (creator : Option (List ℕ)). record name { creator = creator }) e in
    (name.object, f1, b1, free, (name.birth, b1, [], at, inr (alone, refl), sym (append-nil b1)), p1)
name_from_creator name ts (Some creator) e (f1, b1, free, (f2, b2, at, (f3, b3, is, (f4, b4, ident, birth_at, p4), p3), p2), p1) =
    (creator, f1, b1, free, (name.creator_site, f2, b2, at, inl (tt, f3, b3, is, (name.object, f4, b4, ident, (name.birth, birth_at, ap (λ (creator : Option (List ℕ)). record name { creator = creator }) e), p4), p3), p2), p1)

pub name_reads : IsReader IsName on_name name_at
unfolding name_at
name_reads = as_reads IsName (suffix_reads ident_reads (λ first. then_reads optional_site_reads (ended_reads first) (ended_follows first)))
    name_to
    (λ name ts is. name_from_creator name ts name.creator refl is)

-- ---- columns

abbrev column_of : List ℕ → List ℕ → ColRef
column_of table column = record { table = Some table; column = column }

abbrev ColumnOf : List ℕ → Phrase ColRef
ColumnOf table = Then (IsToken (tokens.Symbol symbols.Dot)) (λ dot. Made (column_of table) IsIdent)

-- a dot continues
abbrev pub on_column : Token → Bool
on_column t = is_symbol symbols.Dot t

abbrev ColumnEnded : List ℕ → Phrase ColRef
ColumnEnded first = Either (ColumnOf first) (Empty (unqualified_column first))

column_of_reads : (table : List ℕ) → IsReader (ColumnOf table) never (column_of_at table)
unfolding column_of_at
column_of_reads table = suffix_reads (symbol_reads symbols.Dot) (λ dot. made_reads (column_of table) ident_reads)

column_ended_reads : (first : List ℕ) → IsReader (ColumnEnded first) on_column (either_at (is_symbol symbols.Dot) (column_of_at first) (λ us. Got (unqualified_column first) us))
column_ended_reads first = either_reads (is_symbol symbols.Dot) (before_reads on_column (λ t e. refl) (column_of_reads first)) (gives_before (unqualified_column first) on_column)
    (λ column prefix rest p. token_begins (is_symbol symbols.Dot) (tokens.Symbol symbols.Dot) true (is_symbol_self symbols.Dot) p.1 p.2 prefix rest p.3 p.5)
    (λ column prefix rest p ends. empty_begins (is_symbol symbols.Dot) on_column (λ t e. e) prefix rest p.1 ends)

abbrev ColRefChain : Phrase ColRef
ColRefChain = Then IsIdent ColumnEnded

col_ref_to : (c : ColRef) (ts : List Token) → ColRefChain c ts → IsColRef c ts
col_ref_to c ts (first, f1, b1, free, inl (dot, f2, b2, is, (column, ident, e), p2), p1) = subst (λ (z : ColRef). IsColRef z ts) e (f1, b1, free, (f2, b2, is, ident, p2), p1)
col_ref_to c ts (first, f1, b1, free, inr (e, nothing), p1) = subst (λ (z : ColRef). IsColRef z ts) e (subst (IsIdent first) (prefix_is_all ts f1 b1 p1 nothing) free)

col_ref_from_table : (c : ColRef) (ts : List Token) (table : Option (List ℕ)) → table ≡ c.table → IsColRefOf table c.column ts → ColRefChain c ts
col_ref_from_table c ts None e free = (c.column, ts, [], free, inr (ap (λ (table : Option (List ℕ)). record c { table = table }) e, refl), sym (append-nil ts))
col_ref_from_table c ts (Some table) e (f1, b1, free, (f2, b2, is, ident, p2), p1) =
    (table, f1, b1, free, inl (tt, f2, b2, is, (c.column, ident, ap (λ (table : Option (List ℕ)). record c { table = table }) e), p2), p1)

pub col_ref_reads : IsReader IsColRef on_column col_ref_at
unfolding col_ref_at
col_ref_reads = as_reads IsColRef (suffix_reads ident_reads column_ended_reads) col_ref_to (λ c ts is. col_ref_from_table c ts c.table refl is)

kind_cases : (int integer text : Bool) (word : List ℕ) (kind : Kind) → (int ≡ true → word ≡ codes "int") → (integer ≡ true → word ≡ codes "integer") → (text ≡ true → word ≡ codes "text")
    → cond (int || integer) (Some kinds.Int) (cond text (Some kinds.Text) None) ≡ Some kind → IsKind kind (tokens.Word word ∷ [])
kind_cases true integer text word kind p q r e = subst (λ (k : Kind). IsKind k (tokens.Word word ∷ [])) (same_Some kinds.Int kind e) (inl (ap (λ (w : List ℕ). tokens.Word w ∷ []) (p refl)))
kind_cases false true text word kind p q r e = subst (λ (k : Kind). IsKind k (tokens.Word word ∷ [])) (same_Some kinds.Int kind e) (inr (ap (λ (w : List ℕ). tokens.Word w ∷ []) (q refl)))
kind_cases false false true word kind p q r e = subst (λ (k : Kind). IsKind k (tokens.Word word ∷ [])) (same_Some kinds.Text kind e) (ap (λ (w : List ℕ). tokens.Word w ∷ []) (r refl))
kind_cases false false false word kind p q r e = absurd (none-some kind e)

kind_is : (t : Token) (kind : Kind) → kind_of t ≡ Some kind → IsKind kind (t ∷ [])
kind_is (tokens.Word word) kind e = kind_cases (bytes_eq word (codes "int")) (bytes_eq word (codes "integer")) (bytes_eq word (codes "text")) word kind
    (bytes_eq-Decides word (codes "int")).0 (bytes_eq-Decides word (codes "integer")).0 (bytes_eq-Decides word (codes "text")).0 e
kind_is (tokens.Number n) kind e = absurd (none-some kind e)
kind_is (tokens.Text text) kind e = absurd (none-some kind e)
kind_is (tokens.Symbol symbol) kind e = absurd (none-some kind e)

kind_from : (kind : Kind) (ts : List Token) → IsKind kind ts → One kind_of kind ts
kind_from kinds.Int ts (inl e) = (tokens.Word (codes "int"), refl, e)
kind_from kinds.Int ts (inr e) = (tokens.Word (codes "integer"), refl, e)
kind_from kinds.Text ts e = (tokens.Word (codes "text"), refl, e)

pub kind_reads : IsReader IsKind never kind_at
unfolding kind_at
kind_reads = as_reads IsKind (reads_one kind_of (tokens.Word (codes "text")) kinds.Text refl)
    (λ kind ts is. subst (IsKind kind) (sym is.2) (kind_is is.0 kind is.1))
    kind_from

abbrev column_def : List ℕ → Kind → ColDef
column_def name kind = record { name = name; kind = kind }

pub column_reads : IsReader IsColumn never column_at
unfolding column_at
column_reads = as_reads IsColumn (suffix_reads ident_reads (λ name. made_reads (column_def name) kind_reads))
    (λ column ts (name, f1, b1, free, (kind, is, e), p1). subst (λ (c : ColDef). IsColumn c ts) e (f1, b1, free, is, p1))
    (λ column ts (f1, b1, free, is, p1). (column.name, f1, b1, free, (column.kind, is, refl), p1))
