-- A text is that of one statement or has its fault at one byte offset, and never both.
use Rattle.std.proofs.Common.{◌≡◌, ℕ, ◌<◌, List, [], ◌∷◌, ◌++◌, length, Some, refl, sym, ap, subst, ◌∙◌, append_assoc, arith, ◌⊎◌, inl, inr}
use Rattle.std.specs.List.{slice_get}
use Rattle.std.proofs.lemmas.Bool.{false≢true}
use Rattle.std.proofs.lemmas.List.{append-nil}
use Rattle.std.proofs.lemmas.Option.{same_Some}
use Rattle.rs_ast.specs.declared.stmt.Stmt.{Stmt}
use Rattle.rs_token.specs.declared.token.Token.{Token}
use Rattle.rs_token.specs.Tokens.{split_of}
use Rattle.rs_parse.specs.Grammar.{IsRequest}
use Rattle.rs_parse.specs.Parsing.{Spells, SomeBegins, IsOffending, IsFault, AtToken, NoToken, AtEnd, Parsed, Statement, FaultAt, parsed_of}
use Rattle.rs_parse.proofs.ParseLaws.{parsed_spelled, unparsed_parsed, fault_offset}

-- ---- statements

same_statement : (one other : Stmt) → Statement one ≡ Statement other → one ≡ other
same_statement one other e = cc

-- A text is that of at most one statement.
pub statement_once : (text : List ℕ) (one other : Stmt) → Spells text one → Spells text other → one ≡ other
statement_once text one other first second = same_statement one other (sym (unparsed_parsed text one first) ∙ unparsed_parsed text other second)

-- Each text is that of a statement, or has a fault.
pub spelled_or_faulty : (text : List ℕ) → ((stmt : Stmt) × Spells text stmt) ⊎ ((offset : ℕ) × IsFault text offset)
spelled_or_faulty text = go (parsed_of text) refl
  where
    go : (parsed : Parsed) → parsed_of text ≡ parsed → ((stmt : Stmt) × Spells text stmt) ⊎ ((offset : ℕ) × IsFault text offset)
    go (Statement stmt) e = inl (stmt, parsed_spelled text stmt e)
    go (FaultAt offset) e = inr (offset, fault_offset text offset e)

-- ---- tokens with which some request begins

-- the tokens of a request
request_begins : (stmt : Stmt) (ts : List Token) → IsRequest stmt ts → SomeBegins ts
request_begins stmt ts is = (stmt, [], subst (IsRequest stmt) (sym (append-nil ts)) is)

-- a prefix of such tokens
prefix_begins : (prefix more : List Token) → SomeBegins (prefix ++ more) → SomeBegins prefix
prefix_begins prefix more (stmt, suffix, is) = (stmt, more ++ suffix, subst (IsRequest stmt) (append_assoc prefix more suffix) is)

-- A longer prefix of the same tokens is the shorter one, the token after it, and more.
longer_prefix : (before : List Token) (token : Token) (suffix other us : List Token) → before ++ token ∷ suffix ≡ other ++ us → length before < length other
    → (more : List Token) × (other ≡ (before ++ token ∷ []) ++ more)
longer_prefix [] token suffix [] us e longer = absurd (omega arith)
longer_prefix [] token suffix (t ∷ other) us e longer = (other, cc)
longer_prefix (b ∷ before) token suffix [] us e longer = absurd (omega arith)
longer_prefix (b ∷ before) token suffix (t ∷ other) us e longer =
    let shorter : before ++ token ∷ suffix ≡ other ++ us = cc in
    let found = longer_prefix before token suffix other us shorter (omega arith) in
    (found.0, cc)

-- no request begins with a prefix that has the offending token
not_beyond : (ts : List Token) (number : ℕ) → IsOffending ts number → (prefix us : List Token) → ts ≡ prefix ++ us → number < length prefix → SomeBegins prefix → ⊥
not_beyond ts number f prefix us separated longer begun =
    let found = longer_prefix f.before f.token f.suffix prefix us (sym f.separated ∙ separated) (omega (arith, f.counted, longer)) in
    f.barred (prefix_begins (f.before ++ f.token ∷ []) found.0 (subst SomeBegins found.1 begun))

-- no request begins with all tokens
not_all : (ts : List Token) (number : ℕ) → IsOffending ts number → SomeBegins ts → ⊥
not_all ts number f begun = f.barred (prefix_begins (f.before ++ f.token ∷ []) f.suffix (subst SomeBegins (f.separated ∙ sym (append_assoc f.before (f.token ∷ []) f.suffix)) begun))

-- ---- faults

ordered : (m n : ℕ) → (m < n) ⊎ ((n < m) ⊎ (m ≡ n))
ordered m n = grind arith

-- tokens have one offending token
offending_once : (ts : List Token) (one other : ℕ) → IsOffending ts one → IsOffending ts other → one ≡ other
offending_once ts one other first second =
    elim (ordered one other) [
      | inl less ↦ absurd (not_beyond ts one first second.before (second.token ∷ second.suffix) second.separated (omega (arith, second.counted, less)) second.begun)
      | inr (inl more) ↦ absurd (not_beyond ts other second first.before (first.token ∷ first.suffix) first.separated (omega (arith, first.counted, more)) first.begun)
      | inr (inr same) ↦ same
    ]

-- a token begins at one offset
offset_once : (starts : List ℕ) (m n one other : ℕ) → m ≡ n → slice_get starts m ≡ Some one → slice_get starts n ≡ Some other → one ≡ other
offset_once starts m n one other same at there = same_Some one other (sym at ∙ ap (slice_get starts) same ∙ there)

-- A text has its fault at one byte offset.
pub fault_once : (text : List ℕ) (one other : ℕ) → IsFault text one → IsFault text other → one ≡ other
fault_once text one other (AtToken number first at) (AtToken further second there) =
    offset_once (split_of text).starts number further one other (offending_once (split_of text).tokens number further first second) at there
fault_once text one other (AtToken number first at) (NoToken cut begun there) = absurd (not_all (split_of text).tokens number first begun)
fault_once text one other (AtToken number first at) (AtEnd whole begun none there) = absurd (not_all (split_of text).tokens number first begun)
fault_once text one other (NoToken cut begun at) (AtToken number second there) = absurd (not_all (split_of text).tokens number second begun)
fault_once text one other (NoToken cut begun at) (NoToken again others there) = at ∙ sym there
fault_once text one other (NoToken cut begun at) (AtEnd whole others none there) = absurd (false≢true (sym cut ∙ whole))
fault_once text one other (AtEnd whole begun none at) (AtToken number second there) = absurd (not_all (split_of text).tokens number second begun)
fault_once text one other (AtEnd whole begun none at) (NoToken cut others there) = absurd (false≢true (sym cut ∙ whole))
fault_once text one other (AtEnd whole begun none at) (AtEnd again others never there) = at ∙ sym there

-- The text of a statement has no fault.
pub spelled_no_fault : (text : List ℕ) (stmt : Stmt) (offset : ℕ) → Spells text stmt → IsFault text offset → ⊥
spelled_no_fault text stmt offset (whole, is) (AtToken number offending at) = not_all (split_of text).tokens number offending (request_begins stmt (split_of text).tokens is)
spelled_no_fault text stmt offset (whole, is) (NoToken cut begun at) = false≢true (sym cut ∙ whole)
spelled_no_fault text stmt offset (whole, is) (AtEnd again begun none at) = none stmt is
