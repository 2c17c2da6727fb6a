-- The tokens of a text lie apart in it, and each costs at most two for each of its bytes: so they cost at most two for each
-- byte of the text.
use Rattle.std.proofs.Common.{◌≡◌, ℕ, zero, suc, ◌+◌, ◌-◌, ◌*◌, ◌^◌, ◌<◌, ◌≤◌, Bool, true, false, cond, eqb, leb, ◌&&◌, List, [], ◌∷◌, map, length, take, drop, Option, Some, None, refl, ap, subst, ◌∙◌, arith, inl, inr}
use Rattle.std.proofs.Math.Nat.{pow-suc}
use Rattle.std.specs.Char.{to_ascii_lowercase}
use Rattle.std.specs.List.{fold, list_all, prefix_len}
use Rattle.std.proofs.lemmas.Bool.{and_parts, and_from, leb-true, false≢true}
use Rattle.std.proofs.lemmas.List.{length-append, length-drop, length-map, length-take-le}
use Rattle.std.proofs.lemmas.List.Sums.{prefix_len-le-length}
use Rattle.std.proofs.lemmas.Option.{cond_some, same_Some}
use Rattle.rs_base.specs.Ident.{is_ident, are_name_bytes, begins_with_letter}
use Rattle.rs_base.specs.Txt.{is_txt, is_utf8, are_text_bytes}
use Rattle.rs_base.specs.Reading.{◌>>=◌, push_first}
use Rattle.rs_base.proofs.Steps.{bind_some, chosen}
use Rattle.rs_codec.specs.Written.{count_bytes}
use Rattle.rs_token.specs.declared.token.Token.{Token}
use Rattle.rs_token.specs.declared.token.Token.TheVariants as tokens
use Rattle.rs_token.specs.Tokens.{is_blank, is_letter, is_digit, is_word_byte, word_at, number_at, digits_value, quoted_at, text_at, symbol_at, token_at, taken_at, split_suffix, split_of}
use Rattle.rs_token.specs.Scanning.{token_here}
use Rattle.rs_token.proofs.Options.{push_some}
use Rattle.rs_token.proofs.Scans.{symbol_token, token_shortens}
use Rattle.law_encode.proofs.Costs.{cost, costs, count_short}

-- the token that begins the bytes costs at most two for each of its bytes
abbrev Counts : List ℕ → Token × List ℕ → Type 0
Counts bytes read = cost read.0 + 2 * length read.1 ≤ 2 * length bytes

-- ---- words

letter_some : (word : List ℕ) → begins_with_letter word ≡ true → 1 ≤ length word
letter_some [] h = absurd (false≢true h)
letter_some (b ∷ word) h = omega arith

pub ident_size : (word : List ℕ) → is_ident word ≡ true → (1 ≤ length word) × (length word ≤ 24) × (cost (tokens.Word word) ≤ 1 + length word)
ident_size word is =
    let both = and_parts (leb (length word) 24 && begins_with_letter word) (are_name_bytes word) is in
    let first = and_parts (leb (length word) 24) (begins_with_letter word) both.0 in
    let few : length word ≤ 24 = leb-true (length word) 24 first.0 in
    let small : length word < 128 * 128 ^ 0 = omega (arith, few) in
    (letter_some word first.1, few, omega (arith, count_short 0 (length word) small, length-append (count_bytes (length word)) word))

word_counts : (bytes : List ℕ) (t : Token) (rest : List ℕ) → word_at bytes ≡ Some (t, rest) → Counts bytes (t, rest)
unfolding word_at
word_counts bytes t rest e =
    let n = prefix_len is_word_byte bytes in
    let word = map to_ascii_lowercase (take n bytes) in
    let g = cond_some (is_ident word) (tokens.Word word, drop n bytes) (t, rest) e in
    let size = ident_size word g.0 in
    let fits : n ≤ length bytes = prefix_len-le-length is_word_byte bytes in
    let len : length word ≡ n = length-map (take n bytes) to_ascii_lowercase ∙ length-take-le n bytes fits in
    let counts : Counts bytes (tokens.Word word, drop n bytes) = omega (arith, size.0, size.2, len, fits, length-drop n bytes) in
    subst (λ (read : Token × List ℕ). Counts bytes read) g.1 counts

-- ---- numbers

abbrev folded : ℕ → List ℕ → ℕ
folded n digits = fold (λ n digit. 10 * n + (digit - 48)) n digits

abbrev raised : ℕ → List ℕ → ℕ
raised more [] = more
raised more (digit ∷ digits) = raised (suc more) digits

raised_by : (more : ℕ) (digits : List ℕ) → raised more digits ≡ more + length digits
raised_by more [] = omega arith
raised_by more (digit ∷ digits) = omega (arith, raised_by (suc more) digits)

digit_below : (digit : ℕ) → is_digit digit ≡ true → digit - 48 ≤ 9
digit_below digit is =
    let last : digit ≤ 57 = leb-true digit 57 (and_parts (leb 48 digit) (leb digit 57) is).1 in
    omega (arith, last)

-- each digit makes a number at most 128 times as large
digits_below : (n more : ℕ) (digits : List ℕ) → list_all is_digit digits ≡ true → 2 * n + 2 ≤ 128 * 128 ^ more
    → 2 * folded n digits + 2 ≤ 128 * 128 ^ raised more digits
digits_below n more [] all within = within
digits_below n more (digit ∷ digits) all within =
    let parts = and_parts (is_digit digit) (list_all is_digit digits) all in
    let last = digit_below digit parts.0 in
    let next : 2 * (10 * n + (digit - 48)) + 2 ≤ 128 * 128 ^ suc more = omega (arith, within, last, pow-suc 128 more) in
    digits_below (10 * n + (digit - 48)) (suc more) digits parts.1 next

one_more : (n : ℕ) → 1 + n ≡ suc n
one_more n = omega arith

taken_step : (p : ℕ → Bool) (x : ℕ) (xs : List ℕ) (test : Bool) → p x ≡ test → list_all p (take (prefix_len p xs) xs) ≡ true
    → list_all p (take (cond test (1 + prefix_len p xs) 0) (x ∷ xs)) ≡ true
taken_step p x xs true e rest =
    ap (λ (n : ℕ). list_all p (take n (x ∷ xs))) (one_more (prefix_len p xs)) ∙ and_from (p x) (list_all p (take (prefix_len p xs) xs)) e rest
taken_step p x xs false e rest = refl

all_taken : (p : ℕ → Bool) (xs : List ℕ) → list_all p (take (prefix_len p xs) xs) ≡ true
all_taken p [] = refl
all_taken p (x ∷ xs) = taken_step p x xs (p x) refl (all_taken p xs)

-- the digits of a number, the first of which is given
value_short : (b : ℕ) (digits : List ℕ) → is_digit b ≡ true → list_all is_digit digits ≡ true
    → length (count_bytes (2 * digits_value (b ∷ digits))) ≤ length digits + 1
value_short b digits is all =
    let first = digit_below b is in
    let one : 2 * (10 * 0 + (b - 48)) + 2 ≤ 128 * 128 ^ 0 = omega (arith, first) in
    let below = digits_below (10 * 0 + (b - 48)) 0 digits all one in
    let value : 2 * digits_value (b ∷ digits) < 128 * 128 ^ raised 0 digits = omega (arith, below) in
    omega (arith, count_short (raised 0 digits) (2 * digits_value (b ∷ digits)) value, raised_by 0 digits)

number_counts : (b : ℕ) (bytes : List ℕ) (t : Token) (rest : List ℕ) → is_digit b ≡ true → number_at (b ∷ bytes) ≡ Some (t, rest) → Counts (b ∷ bytes) (t, rest)
unfolding number_at
number_counts b bytes t rest is e =
    let n = prefix_len is_digit (b ∷ bytes) in
    let k = prefix_len is_digit bytes in
    let value = digits_value (take n (b ∷ bytes)) in
    let g = cond_some (leb n 19 && leb value 9223372036854775807) (tokens.Number value, drop n (b ∷ bytes)) (t, rest) e in
    let len : n ≡ suc k = rw is (one_more k) in
    let digits = take k bytes in
    let same : value ≡ digits_value (b ∷ digits) = ap (λ (m : ℕ). digits_value (take m (b ∷ bytes))) len in
    let short = value_short b digits is (all_taken is_digit bytes) in
    let fits : k ≤ length bytes = prefix_len-le-length is_digit bytes in
    let taken : length digits ≡ k = length-take-le k bytes fits in
    let size : length (count_bytes (2 * value)) ≤ suc k = omega (arith, short, taken, ap (λ (m : ℕ). length (count_bytes (2 * m))) same) in
    let counts : Counts (b ∷ bytes) (tokens.Number value, drop n (b ∷ bytes)) = omega (arith, size, len, fits, length-drop n (b ∷ bytes)) in
    subst (λ (read : Token × List ℕ). Counts (b ∷ bytes) read) g.1 counts

-- ---- texts

quoted_two : (quote doubled : Bool) (b c : ℕ) (bytes q rest : List ℕ)
    → ((r left : List ℕ) → quoted_at bytes ≡ Some (r, left) → length r + length left < length bytes)
    → ((r left : List ℕ) → quoted_at (c ∷ bytes) ≡ Some (r, left) → length r + length left < length (c ∷ bytes))
    → cond quote (cond doubled (push_first 39 (quoted_at bytes)) (Some ([], c ∷ bytes))) (push_first b (quoted_at (c ∷ bytes))) ≡ Some (q, rest)
    → length q + length rest < length (b ∷ c ∷ bytes)
quoted_two true true b c bytes q rest two one e =
    let p = push_some 39 (quoted_at bytes) q rest e in
    omega (arith, two p.0 rest p.1, ap length p.2)
quoted_two true false b c bytes q rest two one e =
    let same = same_Some ([], c ∷ bytes) (q, rest) e in
    omega (arith, ap (λ (x : List ℕ × List ℕ). length x.0) same, ap (λ (x : List ℕ × List ℕ). length x.1) same)
quoted_two false doubled b c bytes q rest two one e =
    let p = push_some b (quoted_at (c ∷ bytes)) q rest e in
    omega (arith, one p.0 rest p.1, ap length p.2)

quoted_size : (bytes q rest : List ℕ) → quoted_at bytes ≡ Some (q, rest) → length q + length rest < length bytes
quoted_size [] q rest e = absurd cc
quoted_size (b ∷ []) q rest e =
    let same = (cond_some (eqb b 39) ([], []) (q, rest) e).1 in
    omega (arith, ap (λ (x : List ℕ × List ℕ). length x.0) same, ap (λ (x : List ℕ × List ℕ). length x.1) same)
quoted_size (b ∷ c ∷ bytes) q rest e =
    quoted_two (eqb b 39) (eqb c 39) b c bytes q rest (λ r left. quoted_size bytes r left) (λ r left. quoted_size (c ∷ bytes) r left) e

txt_size : (text : List ℕ) → is_txt text ≡ true → cost (tokens.Text text) ≤ 3 + length text
txt_size text is =
    let both = and_parts (leb (length text) 255 && is_utf8 text) (are_text_bytes text) is in
    let few : length text ≤ 255 = leb-true (length text) 255 (and_parts (leb (length text) 255) (is_utf8 text) both.0).0 in
    let small : length text < 128 * 128 ^ 1 = omega (arith, few) in
    omega (arith, count_short 1 (length text) small, length-append (count_bytes (length text)) text)

text_counts : (b : ℕ) (bytes : List ℕ) (t : Token) (rest : List ℕ) → text_at bytes ≡ Some (t, rest) → Counts (b ∷ bytes) (t, rest)
unfolding text_at
text_counts b bytes t rest e =
    let s = bind_some (quoted_at bytes) (λ quoted. cond (is_txt quoted.0) (Some (tokens.Text quoted.0, quoted.1)) None) (t, rest) e in
    let g = cond_some (is_txt s.0.0) (tokens.Text s.0.0, s.0.1) (t, rest) s.2 in
    let size = quoted_size bytes s.0.0 s.0.1 s.1 in
    let counts : Counts (b ∷ bytes) (tokens.Text s.0.0, s.0.1) = omega (arith, size, txt_size s.0.0 g.0) in
    subst (λ (read : Token × List ℕ). Counts (b ∷ bytes) read) g.1 counts

-- ---- symbols

symbol_counts : (b : ℕ) (bytes : List ℕ) (t : Token) (rest : List ℕ) → length rest < length (b ∷ bytes) → (symbol_at b bytes >>= symbol_token) ≡ Some (t, rest) → Counts (b ∷ bytes) (t, rest)
symbol_counts b bytes t rest shorter e =
    let s = bind_some (symbol_at b bytes) symbol_token (t, rest) e in
    let same : tokens.Symbol s.0.0 ≡ t = ap (λ (x : Token × List ℕ). x.0) (same_Some (tokens.Symbol s.0.0, s.0.1) (t, rest) s.2) in
    let counts : Counts (b ∷ bytes) (tokens.Symbol s.0.0, rest) = omega (arith, shorter) in
    subst (λ (token : Token). Counts (b ∷ bytes) (token, rest)) same counts

-- ---- tokens

token_counts : (b : ℕ) (bytes : List ℕ) (t : Token) (rest : List ℕ) → token_at b bytes ≡ Some (t, rest) → Counts (b ∷ bytes) (t, rest)
unfolding token_at token_here
token_counts b bytes t rest e =
    let shorter : length rest < length (b ∷ bytes) = token_shortens (b ∷ bytes) t rest e in
    let with_symbol : Option (Token × List ℕ) = symbol_at b bytes >>= symbol_token in
    elim (chosen (is_letter b) (word_at (b ∷ bytes)) (cond (is_digit b) (number_at (b ∷ bytes)) (cond (eqb b 39) (text_at bytes) with_symbol)) (t, rest) e) [
      | inl w ↦ word_counts (b ∷ bytes) t rest w.1
      | inr w ↦ elim (chosen (is_digit b) (number_at (b ∷ bytes)) (cond (eqb b 39) (text_at bytes) with_symbol) (t, rest) w.1) [
        | inl n ↦ number_counts b bytes t rest n.0 n.1
        | inr n ↦ elim (chosen (eqb b 39) (text_at bytes) with_symbol (t, rest) n.1) [
          | inl q ↦ text_counts b bytes t rest q.1
          | inr q ↦ symbol_counts b bytes t rest shorter q.1
        ]
      ]
    ]

-- ---- texts of tokens

-- the tokens of the bytes at any offset, of which some belong to the token before
abbrev Suffixes : ℕ → List ℕ → Type 0
Suffixes at bytes = (inside : ℕ) → costs (split_suffix at inside bytes).tokens ≤ 2 * (length bytes - inside)

taken_counts : (at b : ℕ) (bytes : List ℕ) (read : Option (Token × List ℕ)) → token_at b bytes ≡ read → Suffixes (at + 1) bytes
    → costs (taken_at at read (λ token. split_suffix (at + 1) (length bytes - length token.1) bytes)).tokens ≤ 2 * length (b ∷ bytes)
taken_counts at b bytes None e rest = omega arith
taken_counts at b bytes (Some token) e rest =
    omega (arith, token_counts b bytes token.0 token.1 e, rest (length bytes - length token.1))

first_counts : (at b : ℕ) (bytes : List ℕ) (blank : Bool) → Suffixes (at + 1) bytes
    → costs (cond blank (split_suffix (at + 1) 0 bytes) (taken_at at (token_at b bytes) (λ token. split_suffix (at + 1) (length bytes - length token.1) bytes))).tokens
    ≤ 2 * length (b ∷ bytes)
first_counts at b bytes true rest = omega (arith, rest 0)
first_counts at b bytes false rest = taken_counts at b bytes (token_at b bytes) refl rest

split_counts : (at inside : ℕ) (bytes : List ℕ) → costs (split_suffix at inside bytes).tokens ≤ 2 * (length bytes - inside)
split_counts at inside [] = omega arith
split_counts at (suc inside) (b ∷ bytes) = omega (arith, split_counts (at + 1) inside bytes)
split_counts at zero (b ∷ bytes) = omega (arith, first_counts at b bytes (is_blank b) (λ inside. split_counts (at + 1) inside bytes))

-- the tokens of a text cost at most two for each of its bytes
pub counts : (text : List ℕ) → costs (split_of text).tokens ≤ 2 * length text
counts text = omega (arith, split_counts 0 0 text)
