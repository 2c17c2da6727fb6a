-- A text is parsed as a statement exactly if it is the text of one, and a fault is at the offset that is reported.
use Rattle.std.proofs.Common.{◌≡◌, ℕ, ◌-◌, ◌+◌, ◌<◌, ◌≤◌, Bool, true, false, cond, List, [], ◌∷◌, ◌++◌, length, Option, Some, None, Result, Ok, Err, refl, sym, ap, subst, ◌∙◌, append_assoc, arith, ◌⊎◌, inl, inr}
use Rattle.std.specs.Prelude.{IfOk, unwrap_or}
use Rattle.std.proofs.Common.{get_or}
use Rattle.std.specs.List.{slice_get}
use Rattle.std.proofs.lemmas.Bool.{false≢true}
use Rattle.std.proofs.lemmas.List.{append-nil, length-append}
use Rattle.std.proofs.lemmas.Option.{slice_get_cases}
use Rattle.rs_ast.specs.declared.stmt.Stmt.{Stmt}
use Rattle.rs_ast.specs.Limits.{KeepsLimits}
use Rattle.rs_token.specs.declared.token.Token.{Token}
use Rattle.rs_parse.specs.declared.parser.ParseFault.{ParseFault}
use Rattle.rs_parse.specs.declared.parser.ParseFault.TheVariants as faults
use Rattle.rs_token.specs.declared.token_split.Split.{Split}
use Rattle.rs_token.specs.Tokens.{split_of}
use Rattle.rs_parse.specs.Grammar.{IsRequest}
use Rattle.rs_parse.specs.Read.{Read, Got, Fault, ◌>>=◌}
use Rattle.rs_parse.specs.Reader.{request_at, at_end, request_of}
use Rattle.rs_parse.specs.Parsing.{Spells, SomeBegins, IsOffending, IsFault, AtToken, NoToken, AtEnd, Parsed, Statement, FaultAt, offset_of, judged, parsed_of, ParseGives, text_limit}
use Rattle.rs_parse.proofs.Readers.{Finds, got_value, got_rest, fault_rest, got-fault, fault-got, got_both, fault_of_both, nil-cons, prefix_is_all}
use Rattle.rs_parse.proofs.StmtRules.{request_reads}
use Rattle.rs_parse.proofs.StmtLimits.{request_keeps}
use Rattle.rs_token.proofs.Splits.{length-starts, end_of_whole, end_within, start_within}

-- ---- tokens

abbrev alone : Stmt × List Token → Read Stmt
alone stmt = at_end stmt.0 stmt.1

end_got : (value : Stmt) (mid : List Token) (stmt : Stmt) (rest : List Token) → at_end value mid ≡ Got stmt rest → (mid ≡ []) × (value ≡ stmt)
end_got value [] stmt rest e = (refl, got_value value stmt [] rest e)
end_got value (t ∷ us) stmt rest e = absurd (fault-got stmt (t ∷ us) rest e)

-- what is read is a request
pub whole_found : (ts : List Token) (stmt : Stmt) (rest : List Token) → request_of ts ≡ Got stmt rest → IsRequest stmt ts
unfolding request_of
whole_found ts stmt rest e =
    let a = got_both (request_at ts) alone stmt rest e in
    let g = end_got a.value a.mid stmt rest a.second in
    let f = request_reads.finds ts a.value a.mid a.first in
    subst (λ (s : Stmt). IsRequest s ts) g.1 (subst (IsRequest a.value) (prefix_is_all ts f.prefix a.mid f.separated g.0) f.phrase)

request_again : (stmt : Stmt) (ts : List Token) → IsRequest stmt ts → request_at ts ≡ Got stmt []
request_again stmt ts is = ap request_at (sym (append-nil ts)) ∙ request_reads.again stmt ts [] is refl

-- a request is read
pub whole_again : (stmt : Stmt) (ts : List Token) → IsRequest stmt ts → request_of ts ≡ Got stmt []
unfolding request_of
whole_again stmt ts is = ap (λ (got : Read Stmt). got >>= alone) (request_again stmt ts is)

-- no request begins with tokens whose last one is refused, whatever follows it
barred_by : (prefix : List Token) (t : Token) → ((more : List Token) (stmt : Stmt) → request_at (prefix ++ t ∷ more) ≡ Got stmt [] → ⊥) → SomeBegins (prefix ++ t ∷ []) → ⊥
barred_by prefix t never_got (stmt, more, is) = never_got more stmt (ap request_at (sym (append_assoc prefix (t ∷ []) more)) ∙ request_again stmt ((prefix ++ t ∷ []) ++ more) is)

-- the claims of a fault in reading all tokens
pub record FaultOf (ts rest : List Token) : Type 0 where
  pub prefix : List Token
  pub separated : ts ≡ prefix ++ rest
  pub begun : SomeBegins prefix
  pub barred : (t : Token) (us : List Token) → rest ≡ t ∷ us → SomeBegins (prefix ++ t ∷ []) → ⊥
  pub none : (stmt : Stmt) → IsRequest stmt ts → ⊥

fault_after : (ts rest : List Token) (value : Stmt) (mid : List Token) → request_of ts ≡ Fault rest → Finds IsRequest request_at ts value mid → at_end value mid ≡ Fault rest → FaultOf ts rest
fault_after ts rest value [] e f s = absurd (got-fault value [] rest s)
fault_after ts rest value (u ∷ us) e f s =
    let left = fault_rest Stmt (u ∷ us) rest s in
    record {
      prefix = f.prefix;
      separated = f.separated ∙ ap (λ (vs : List Token). f.prefix ++ vs) left;
      begun = (value, [], subst (IsRequest value) (sym (append-nil f.prefix)) f.phrase);
      barred = λ t ws at. barred_by f.prefix t (λ more stmt again. nil-cons t more (got_rest stmt value [] (t ∷ more) (sym again ∙ f.steady t ws more (left ∙ at))));
      none = λ stmt is. got-fault stmt [] rest (sym (whole_again stmt ts is) ∙ e);
    }

pub fault_found : (ts rest : List Token) → request_of ts ≡ Fault rest → FaultOf ts rest
unfolding request_of
fault_found ts rest e = elim (fault_of_both (request_at ts) alone rest e) [
  | inl h ↦
      let b = request_reads.breaks ts rest h in
      record {
        prefix = b.prefix;
        separated = b.separated;
        begun = (b.value, b.suffix, b.phrase);
        barred = λ t us at. barred_by b.prefix t (λ more stmt again. got-fault stmt [] (t ∷ more) (sym again ∙ b.steady t us more at));
        none = λ stmt is. got-fault stmt [] rest (sym (whole_again stmt ts is) ∙ e);
      }
  | inr a ↦ fault_after ts rest a.value a.mid e (request_reads.finds ts a.value a.mid a.first) a.second
]

-- ---- texts

abbrev stmt_or : Stmt → Parsed → Stmt
stmt_or other (Statement stmt) = stmt
stmt_or other (FaultAt offset) = other

abbrev is_statement : Parsed → Bool
is_statement (Statement stmt) = true
is_statement (FaultAt offset) = false

abbrev offset_or : ℕ → Parsed → ℕ
offset_or other (Statement stmt) = other
offset_or other (FaultAt offset) = offset

if_whole : (whole : Bool) (stmt found : Stmt) (offset : ℕ) → cond whole (Statement found) (FaultAt offset) ≡ Statement stmt → (whole ≡ true) × (found ≡ stmt)
if_whole true stmt found offset e = (refl, ap (λ (p : Parsed). stmt_or found p) e)
if_whole false stmt found offset e = absurd (false≢true (ap is_statement e))

pub parsed_spelled : (text : List ℕ) (stmt : Stmt) → parsed_of text ≡ Statement stmt → Spells text stmt
unfolding parsed_of
parsed_spelled text stmt e = go (request_of (split_of text).tokens) refl e
  where
    go : (read : Read Stmt) → request_of (split_of text).tokens ≡ read → judged (split_of text) read ≡ Statement stmt → Spells text stmt
    go (Got found rest) r e =
        let g = if_whole (split_of text).whole stmt found (split_of text).end e in
        (g.0, subst (λ (s : Stmt). IsRequest s (split_of text).tokens) g.1 (whole_found (split_of text).tokens found rest r))
    go (Fault rest) r e = absurd (false≢true (ap is_statement e))

pub unparsed_parsed : (text : List ℕ) (stmt : Stmt) → Spells text stmt → parsed_of text ≡ Statement stmt
unfolding parsed_of
unparsed_parsed text stmt (whole, is) =
    ap (judged (split_of text)) (whole_again stmt (split_of text).tokens is) ∙ ap (λ (w : Bool). cond w (Statement stmt) (FaultAt (split_of text).end)) whole

offset_at : (text : List ℕ) (offset : ℕ) (f : FaultOf (split_of text).tokens []) → (split_of text).end ≡ offset → IsFault text offset
offset_at text offset f e = go (split_of text).whole refl
  where
    all : SomeBegins (split_of text).tokens
    all = subst SomeBegins (prefix_is_all (split_of text).tokens f.prefix [] f.separated refl) f.begun

    go : (whole : Bool) → (split_of text).whole ≡ whole → IsFault text offset
    go true w = AtEnd w all f.none (sym e ∙ end_of_whole text w)
    go false w = NoToken w all (sym e)

if_fault : (whole : Bool) (found : Stmt) (end offset : ℕ) → cond whole (Statement found) (FaultAt end) ≡ FaultAt offset → (whole ≡ false) × (end ≡ offset)
if_fault true found end offset e = absurd (false≢true (sym (ap is_statement e)))
if_fault false found end offset e = (refl, ap (offset_or end) e)

-- the offset after the last token
offset_after : (text : List ℕ) → offset_of (split_of text) 0 ≡ (split_of text).end
offset_after text = go (slice_get_cases (split_of text).starts (length (split_of text).tokens - 0)).1
  where
    go : ((x : ℕ) × (length (split_of text).tokens - 0 < length (split_of text).starts) × (slice_get (split_of text).starts (length (split_of text).tokens - 0) ≡ Some x) × (get_or (split_of text).starts (length (split_of text).tokens - 0) x ≡ x))
        ⊎ ((length (split_of text).starts ≤ length (split_of text).tokens - 0) × (slice_get (split_of text).starts (length (split_of text).tokens - 0) ≡ None))
        → offset_of (split_of text) 0 ≡ (split_of text).end
    go (inl h) = absurd (omega (arith, h.1, length-starts text))
    go (inr h) = ap (λ (found : Option ℕ). unwrap_or found (split_of text).end) h.1

-- the offset of a token
offset_of_token : (text : List ℕ) (n left : ℕ) → length (split_of text).tokens ≡ n + left → 0 < left → slice_get (split_of text).starts n ≡ Some (offset_of (split_of text) left)
offset_of_token text n left counted more = go (slice_get_cases (split_of text).starts n).1
  where
    same : length (split_of text).tokens - left ≡ n
    same = omega (arith, counted)

    go : ((x : ℕ) × (n < length (split_of text).starts) × (slice_get (split_of text).starts n ≡ Some x) × (get_or (split_of text).starts n x ≡ x)) ⊎ ((length (split_of text).starts ≤ n) × (slice_get (split_of text).starts n ≡ None))
        → slice_get (split_of text).starts n ≡ Some (offset_of (split_of text) left)
    go (inl h) = h.2 ∙ ap Some (sym (ap (λ (m : ℕ). unwrap_or (slice_get (split_of text).starts m) (split_of text).end) same ∙ ap (λ (found : Option ℕ). unwrap_or found (split_of text).end) h.2))
    go (inr h) = absurd (omega (arith, h.0, counted, more, length-starts text))

-- an offset is in the text or at its end
pub offset_within : (text : List ℕ) (left : ℕ) → offset_of (split_of text) left ≤ length text
offset_within text left = go (slice_get (split_of text).starts (length (split_of text).tokens - left)) refl
  where
    go : (found : Option ℕ) → slice_get (split_of text).starts (length (split_of text).tokens - left) ≡ found → unwrap_or found (split_of text).end ≤ length text
    go None e = end_within text
    go (Some start) e = let within = start_within text (length (split_of text).tokens - left) start e in omega arith

pub end_short : (text : List ℕ) (split : Split) → length text ≤ text_limit → split ≡ split_of text → split.end ≤ text_limit
end_short text split short e =
    let within = end_within text in
    let same : split.end ≡ (split_of text).end = ap (λ (s : Split). s.end) e in
    omega (arith, within, same, short)

pub offset_short : (text : List ℕ) (split : Split) (left offset : ℕ) → length text ≤ text_limit → split ≡ split_of text → offset ≡ offset_of split left → offset ≤ text_limit
offset_short text split left offset short e is =
    let within = offset_within text left in
    let same : offset ≡ offset_of (split_of text) left = is ∙ ap (λ (s : Split). offset_of s left) e in
    omega (arith, within, same, short)

fault_at : (text : List ℕ) (offset : ℕ) (rest : List Token) → FaultOf (split_of text).tokens rest → offset_of (split_of text) (length rest) ≡ offset → IsFault text offset
fault_at text offset [] f e = offset_at text offset f (sym (offset_after text) ∙ e)
fault_at text offset (t ∷ us) f e =
    let counted : length (split_of text).tokens ≡ length f.prefix + length (t ∷ us) = omega (arith, ap length f.separated, length-append f.prefix (t ∷ us)) in
    let offending : IsOffending (split_of text).tokens (length f.prefix) = record { before = f.prefix; token = t; suffix = us; separated = f.separated; counted = refl; begun = f.begun; barred = f.barred t us refl } in
    AtToken (length f.prefix) offending (offset_of_token text (length f.prefix) (length (t ∷ us)) counted (omega arith) ∙ ap Some e)

pub fault_offset : (text : List ℕ) (offset : ℕ) → parsed_of text ≡ FaultAt offset → IsFault text offset
unfolding parsed_of
fault_offset text offset e = go (request_of (split_of text).tokens) refl e
  where
    go : (read : Read Stmt) → request_of (split_of text).tokens ≡ read → judged (split_of text) read ≡ FaultAt offset → IsFault text offset
    go (Got found rest) r e =
        let g = if_fault (split_of text).whole found (split_of text).end offset e in
        let all : SomeBegins (split_of text).tokens = (found, [], subst (IsRequest found) (sym (append-nil (split_of text).tokens)) (whole_found (split_of text).tokens found rest r)) in
        NoToken g.0 all (sym g.1)
    go (Fault rest) r e = fault_at text offset rest (fault_found (split_of text).tokens rest r) (ap (offset_or offset) e)

pub spelled_keeps_limits : (text : List ℕ) (stmt : Stmt) → Spells text stmt → KeepsLimits stmt
spelled_keeps_limits text stmt (whole, is) = request_keeps stmt (split_of text).tokens is

-- ---- calls

pub parse_found : (text : List ℕ) (result : Result Stmt ParseFault) → ParseGives result (parsed_of text) → IfOk result (λ stmt. Spells text stmt)
parse_found text (Ok stmt) exact = parsed_spelled text stmt exact
parse_found text (Err fault) exact = tt

pub parse_only : (text : List ℕ) (result : Result Stmt ParseFault) → ParseGives result (parsed_of text) → (stmt : Stmt) → Spells text stmt → ParseGives result (Statement stmt)
parse_only text result exact stmt is = subst (ParseGives result) (unparsed_parsed text stmt is) exact

pub parse_fault : (text : List ℕ) (result : Result Stmt ParseFault) → ParseGives result (parsed_of text) → (offset : ℕ) → result ≡ Err (faults.Syntax offset) → IsFault text offset
parse_fault text result exact offset e = fault_offset text offset (subst (λ (r : Result Stmt ParseFault). ParseGives r (parsed_of text)) e exact)

pub parse_keeps : (text : List ℕ) (result : Result Stmt ParseFault) → ParseGives result (parsed_of text) → IfOk result (λ stmt. KeepsLimits stmt)
parse_keeps text (Ok stmt) exact = spelled_keeps_limits text stmt (parsed_spelled text stmt exact)
parse_keeps text (Err fault) exact = tt
