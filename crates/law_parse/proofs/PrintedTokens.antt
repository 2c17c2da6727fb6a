-- The tokens of a printed text are those that were printed, and each token of a text is formed.
use Rattle.std.proofs.Common.{◌≡◌, ℕ, zero, suc, ◌+◌, ◌-◌, ◌<◌, Bool, true, false, cond, ◌&&◌, ◌||◌, eqb, leb, List, [], ◌∷◌, ◌++◌, map, length, take, drop, Option, Some, None, refl, sym, ap, subst, ◌∙◌, arith, inl, inr}
use Rattle.std.specs.List.{prefix_len}
use Rattle.std.specs.Char.{to_ascii_lowercase}
use Rattle.std.proofs.lemmas.Bool.{true≢false, and_parts, or_parts, or_from, leb-true, ne_eqb}
use Rattle.std.proofs.lemmas.Option.{cond_some, none-some, same_Some}
use Rattle.rs_base.specs.Ident.{is_name_byte, is_ident, is_letter as is_small_letter}
use Rattle.rs_base.specs.Txt.{is_txt}
use Rattle.rs_base.specs.Reading.{◌>>=◌}
use Rattle.rs_base.proofs.Steps.{bind_some, chosen}
use Rattle.rs_token.specs.declared.token.Symbol.{Symbol}
use Rattle.rs_token.specs.declared.token.Symbol.TheVariants as symbols
use Rattle.rs_token.specs.declared.token.Token.{Token}
use Rattle.rs_token.specs.declared.token.Token.TheVariants as tokens
use Rattle.rs_unparse.specs.declared.ending.Ending.{Ending}
use Rattle.rs_unparse.specs.declared.ending.Ending.TheVariants as endings
use Rattle.rs_unparse.specs.Printed.{printed_token, ending_after, touches, printed_next, printed_after, printed_tokens}
use Rattle.rs_unparse.proofs.Touching.{begins, goes_on, goes_on_symbol, touching_apart, is_word_byte as is_run_byte}
use Rattle.rs_token.specs.declared.token_split.Split.{Split}
use Rattle.rs_token.specs.Tokens.{is_blank, is_letter, is_digit, is_word_byte, word_at, number_at, quoted_at, text_at, symbol_at, digits_value, token_at, put_first, taken_at, split_suffix, split_of}
use Rattle.rs_token.specs.Scanning.{token_here}
use Rattle.law_parse.proofs.TokenForms.{IsFormed, AreFormed}
use Rattle.rs_token.proofs.Scans.{symbol_token, same_suffix}
use Rattle.law_parse.proofs.PrintedWords.{word_again}
use Rattle.law_parse.proofs.PrintedNumbers.{number_again}
use Rattle.law_parse.proofs.PrintedTexts.{text_again}
use Rattle.law_parse.proofs.PrintedSymbols.{symbol_again}

-- ---- one token is read again

no_word_byte : (b : ℕ) → is_run_byte b ≡ false → is_word_byte b ≡ false
no_word_byte b h =
    let capital = or_parts (is_name_byte b) (leb 65 b && leb b 90) h in
    let named = or_parts (is_small_letter b || leb 48 b && leb b 57) (eqb b 95) capital.0 in
    let small = or_parts (is_small_letter b) (leb 48 b && leb b 57) named.0 in
    or_from (is_letter b || is_digit b) (eqb b 95) (or_from (is_letter b) (is_digit b) (or_from (is_small_letter b) (leb 65 b && leb b 90) small.0 capital.1) small.1) named.1

no_digit : (b : ℕ) → is_run_byte b ≡ false → is_digit b ≡ false
no_digit b h = (or_parts (is_letter b) (is_digit b) (or_parts (is_letter b || is_digit b) (eqb b 95) (no_word_byte b h)).0).1

begins_neither : (p q : ℕ → Bool) → ((b : ℕ) → p b ≡ false → q b ≡ false) → (rest : List ℕ) → begins p rest ≡ false → begins q rest ≡ false
begins_neither p q each [] apart = refl
begins_neither p q each (b ∷ rest) apart = each b apart

pub token_again : (t : Token) (rest : List ℕ) → IsFormed t → begins (goes_on t) rest ≡ false → token_here (printed_token t ++ rest) ≡ Some (t, rest)
unfolding printed_token
token_again (tokens.Word word) rest formed apart = word_again word rest formed (begins_neither is_run_byte is_word_byte no_word_byte rest apart)
token_again (tokens.Number n) rest formed apart = number_again n rest formed (begins_neither is_run_byte is_digit no_digit rest apart)
token_again (tokens.Text text) rest formed apart = text_again text rest formed apart
token_again (tokens.Symbol symbol) rest formed apart = symbol_again symbol rest apart

-- ---- the bytes after a token don't continue it

space_after_symbol : (symbol : Symbol) → goes_on_symbol symbol 32 ≡ false
space_after_symbol symbols.Less = refl
space_after_symbol symbols.Greater = refl
space_after_symbol symbol = refl

space_after : (t : Token) → goes_on t 32 ≡ false
space_after (tokens.Word word) = refl
space_after (tokens.Number n) = refl
space_after (tokens.Text text) = refl
space_after (tokens.Symbol symbol) = space_after_symbol symbol

has_first : (text : List ℕ) (t : Token) → token_here (text ++ []) ≡ Some (t, []) → 0 < length text
unfolding token_here
has_first [] t e = absurd (none-some (t, []) e)
has_first (b ∷ bytes) t e = omega arith

begins_prefix : (p : ℕ → Bool) (prefix rest : List ℕ) → 0 < length prefix → begins p prefix ≡ false → begins p (prefix ++ rest) ≡ false
begins_prefix p [] rest some apart = absurd (omega arith)
begins_prefix p (b ∷ prefix) rest some apart = apart

next_apart : (touching : Bool) (t u : Token) (rest : List ℕ) → IsFormed u → (touching ≡ true → begins (goes_on t) (printed_token u) ≡ false)
    → begins (goes_on t) (cond touching (printed_token u) (32 ∷ printed_token u) ++ rest) ≡ false
next_apart true t u rest formed apart = begins_prefix (goes_on t) (printed_token u) rest (has_first (printed_token u) u (token_again u [] formed refl)) (apart refl)
next_apart false t u rest formed apart = space_after t

suffix_apart : (before : Ending) (t : Token) (ts : List Token) → AreFormed ts → begins (goes_on t) (printed_after (ending_after before t) ts) ≡ false
unfolding printed_next
suffix_apart before t [] formed = refl
suffix_apart before t (u ∷ ts) formed =
    let ending = ending_after before t in
    next_apart (touches ending u) t u (printed_after (ending_after ending u) ts) formed.0 (touching_apart before t u)

-- ---- the tokens of a printed text

other_byte : (b c : ℕ) (bytes : List ℕ) (token : Token × List ℕ) → token_at c bytes ≡ None → token_at b bytes ≡ Some token → eqb b c ≡ false
other_byte b c bytes token empty e = ne_eqb b c (λ (same : b ≡ c). none-some token (sym empty ∙ ap (λ (n : ℕ). token_at n bytes) (sym same) ∙ e))

-- no token begins with a blank
no_blank : (b : ℕ) (bytes : List ℕ) (token : Token × List ℕ) → token_at b bytes ≡ Some token → is_blank b ≡ false
unfolding token_at symbol_at
no_blank b bytes token e =
    let space = other_byte b 32 bytes token refl e in
    let tab = other_byte b 9 bytes token refl e in
    let feed = other_byte b 10 bytes token refl e in
    let back = other_byte b 13 bytes token refl e in
    or_from (eqb b 32 || eqb b 9 || eqb b 10) (eqb b 13) (or_from (eqb b 32 || eqb b 9) (eqb b 10) (or_from (eqb b 32) (eqb b 9) space tab) feed) back

abbrev IsSplit : List Token → Split → Type 0
IsSplit ts split = (split.tokens ≡ ts) × (split.whole ≡ true)

split_first : (blank : Bool) (at b : ℕ) (bytes : List ℕ) (t : Token) (rest : List ℕ) (ts : List Token) → blank ≡ false → token_at b bytes ≡ Some (t, rest)
    → ((offset : ℕ) → IsSplit ts (split_suffix offset 0 rest))
    → IsSplit (t ∷ ts) (cond blank (split_suffix (at + 1) 0 bytes) (taken_at at (token_at b bytes) (λ token. split_suffix (at + 1) (length bytes - length token.1) bytes)))
split_first true at b bytes t rest ts h e suffix = absurd (true≢false h)
split_first false at b bytes t rest ts h e suffix =
    let step = λ (token : Token × List ℕ). split_suffix (at + 1) (length bytes - length token.1) bytes in
    let offset = at + (length (b ∷ bytes) - length rest) in
    let others : IsSplit ts (split_suffix offset 0 rest) = suffix offset in
    let first : taken_at at (token_at b bytes) step ≡ put_first at t (split_suffix offset 0 rest) =
    ap (λ (read : Option (Token × List ℕ)). taken_at at read step) e ∙ same_suffix at b bytes (Some (t, rest)) e in
    (ap (λ (split : Split). split.tokens) first ∙ ap (λ (more : List Token). t ∷ more) others.0, ap (λ (split : Split). split.whole) first ∙ others.1)

split_at : (at : ℕ) (text : List ℕ) (t : Token) (rest : List ℕ) (ts : List Token) → token_here text ≡ Some (t, rest)
    → ((offset : ℕ) → IsSplit ts (split_suffix offset 0 rest)) → IsSplit (t ∷ ts) (split_suffix at 0 text)
unfolding token_here
split_at at [] t rest ts e suffix = absurd (none-some (t, rest) e)
split_at at (b ∷ bytes) t rest ts e suffix = split_first (is_blank b) at b bytes t rest ts (no_blank b bytes (t, rest) e) e suffix

split_next : (touching : Bool) (at : ℕ) (t : Token) (rest : List ℕ) (ts : List Token) → token_here (printed_token t ++ rest) ≡ Some (t, rest)
    → ((offset : ℕ) → IsSplit ts (split_suffix offset 0 rest)) → IsSplit (t ∷ ts) (split_suffix at 0 (cond touching (printed_token t) (32 ∷ printed_token t) ++ rest))
split_next true at t rest ts e suffix = split_at at (printed_token t ++ rest) t rest ts e suffix
split_next false at t rest ts e suffix = split_at (at + 1) (printed_token t ++ rest) t rest ts e suffix

split_printed : (at : ℕ) (before : Ending) (ts : List Token) → AreFormed ts → IsSplit ts (split_suffix at 0 (printed_after before ts))
unfolding printed_next
split_printed at before [] formed = (refl, refl)
split_printed at before (t ∷ ts) formed =
    let rest = printed_after (ending_after before t) ts in
    split_next (touches before t) at t rest ts (token_again t rest formed.0 (suffix_apart before t ts formed.1)) (λ offset. split_printed offset (ending_after before t) ts formed.1)

pub split_of_printed : (ts : List Token) → AreFormed ts → ((split_of (printed_tokens ts)).tokens ≡ ts) × ((split_of (printed_tokens ts)).whole ≡ true)
split_of_printed ts formed = split_printed 0 endings.Start ts formed

-- ---- the tokens of a text are formed

word_formed : (bytes : List ℕ) (token : Token × List ℕ) → word_at bytes ≡ Some token → IsFormed token.0
unfolding word_at
word_formed bytes token e =
    let n = prefix_len is_word_byte bytes in
    let word = map to_ascii_lowercase (take n bytes) in
    let read = cond_some (is_ident word) (tokens.Word word, drop n bytes) token e in
    subst (λ (t : Token × List ℕ). IsFormed t.0) read.1 read.0

number_formed : (bytes : List ℕ) (token : Token × List ℕ) → number_at bytes ≡ Some token → IsFormed token.0
unfolding number_at
number_formed bytes token e =
    let n = prefix_len is_digit bytes in
    let value = digits_value (take n bytes) in
    let read = cond_some (leb n 19 && leb value 9223372036854775807) (tokens.Number value, drop n bytes) token e in
    let within = leb-true value 9223372036854775807 (and_parts (leb n 19) (leb value 9223372036854775807) read.0).1 in
    subst (λ (t : Token × List ℕ). IsFormed t.0) read.1 within

text_formed : (bytes : List ℕ) (token : Token × List ℕ) → text_at bytes ≡ Some token → IsFormed token.0
unfolding text_at
text_formed bytes token e =
    let step = bind_some (quoted_at bytes) (λ quoted. cond (is_txt quoted.0) (Some (tokens.Text quoted.0, quoted.1)) None) token e in
    let read = cond_some (is_txt step.0.0) (tokens.Text step.0.0, step.0.1) token step.2 in
    subst (λ (t : Token × List ℕ). IsFormed t.0) read.1 read.0

symbol_formed : (b : ℕ) (bytes : List ℕ) (token : Token × List ℕ) → (symbol_at b bytes >>= symbol_token) ≡ Some token → IsFormed token.0
symbol_formed b bytes token e =
    let step = bind_some (symbol_at b bytes) symbol_token token e in
    let same = same_Some (tokens.Symbol step.0.0, step.0.1) token step.2 in
    subst (λ (t : Token × List ℕ). IsFormed t.0) same tt

token_formed : (b : ℕ) (bytes : List ℕ) (token : Token × List ℕ) → token_at b bytes ≡ Some token → IsFormed token.0
unfolding token_at
token_formed b bytes token e =
    let with_symbol : Option (Token × List ℕ) = symbol_at b bytes >>= symbol_token in
    elim (chosen (is_letter b) (word_at (b ∷ bytes)) (cond (is_digit b) (number_at (b ∷ bytes)) (cond (eqb b 39) (text_at bytes) with_symbol)) token e) [
      | inl w ↦ word_formed (b ∷ bytes) token w.1
      | inr w ↦ elim (chosen (is_digit b) (number_at (b ∷ bytes)) (cond (eqb b 39) (text_at bytes) with_symbol) token w.1) [
        | inl n ↦ number_formed (b ∷ bytes) token n.1
        | inr n ↦ elim (chosen (eqb b 39) (text_at bytes) with_symbol token n.1) [
          | inl q ↦ text_formed bytes token q.1
          | inr q ↦ symbol_formed b bytes token q.1
        ]
      ]
    ]

either_formed : (blank : Bool) (x y : Split) → AreFormed x.tokens → AreFormed y.tokens → AreFormed (cond blank x y).tokens
either_formed true x y p q = p
either_formed false x y p q = q

taken_formed : (at : ℕ) (read : Option (Token × List ℕ)) (others : Token × List ℕ → Split) → ((token : Token × List ℕ) → read ≡ Some token → IsFormed token.0)
    → ((token : Token × List ℕ) → AreFormed (others token).tokens) → AreFormed (taken_at at read others).tokens
taken_formed at None others first suffix = tt
taken_formed at (Some token) others first suffix = (first token refl, suffix token)

suffix_formed : (at inside : ℕ) (bytes : List ℕ) → AreFormed (split_suffix at inside bytes).tokens
suffix_formed at inside [] = tt
suffix_formed at (suc inside) (b ∷ bytes) = suffix_formed (at + 1) inside bytes
suffix_formed at zero (b ∷ bytes) =
    let step = λ (token : Token × List ℕ). split_suffix (at + 1) (length bytes - length token.1) bytes in
    either_formed (is_blank b) (split_suffix (at + 1) 0 bytes) (taken_at at (token_at b bytes) step)
    (suffix_formed (at + 1) 0 bytes)
    (taken_formed at (token_at b bytes) step (token_formed b bytes) (λ token. suffix_formed (at + 1) (length bytes - length token.1) bytes))

pub tokens_formed : (text : List ℕ) → AreFormed (split_of text).tokens
tokens_formed text = suffix_formed 0 0 text
