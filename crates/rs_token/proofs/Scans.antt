-- The tokenizer: each token leaves a suffix of the bytes, and the loop prepends the tokens found so far to those of the
-- bytes that are left.
use Rattle.std.proofs.Common.{◌≡◌, ℕ, zero, suc, ◌+◌, ◌-◌, ◌<◌, ◌≤◌, min, Bool, true, false, cond, eqb, leb, ◌&&◌, List, [], ◌∷◌, ◌++◌, map, length, take, drop, Option, Some, None, refl, sym, ap, ◌∙◌, arith, inl, inr}
use Rattle.std.specs.List.{prefix_len}
use Rattle.std.specs.Char.{to_ascii_lowercase}
use Rattle.std.proofs.lemmas.Bool.{eq-eqb}
use Rattle.std.proofs.lemmas.Bool.Decides.{nat_tests}
use Rattle.std.proofs.lemmas.List.{append-nil, append_assoc, length-drop, drop_min}
use Rattle.std.proofs.lemmas.List.Sums.{prefix_len-le-length}
use Rattle.std.proofs.lemmas.Option.{cond_some, none-some, same_Some}
use Rattle.rs_base.specs.Ident.{is_ident}
use Rattle.rs_base.specs.Txt.{is_txt}
use Rattle.rs_base.specs.Reading.{◌>>=◌, push_first}
use Rattle.rs_token.specs.declared.token.Symbol.{Symbol}
use Rattle.rs_token.specs.declared.token_split.Split.{Split}
use Rattle.rs_token.specs.declared.token.Token.{Token}
use Rattle.rs_token.specs.declared.token.Token.TheVariants as tokens
use Rattle.rs_token.specs.Tokens.{is_blank, is_letter, is_digit, is_word_byte, word_at, number_at, quoted_at, text_at, symbol_at, digits_value, token_at, ends_at, put_first, taken_at, split_suffix}
use Rattle.rs_token.specs.Scanning.{token_here}
use Rattle.rs_base.proofs.Steps.{bind_some, chosen}
use Rattle.rs_token.proofs.Options.{push_some}

-- ---- a token leaves a suffix of the bytes

abbrev Leaves : List ℕ → List ℕ → Type 0
Leaves bytes rest = (m : ℕ) × (rest ≡ drop m bytes)

Leaves-drop : (bytes rest : List ℕ) → Leaves bytes rest → drop (length bytes - length rest) bytes ≡ rest
Leaves-drop bytes rest (m, is_end) =
    let len : length rest ≡ length bytes - m = rw is_end (length-drop m bytes) in
    let k : length bytes - length rest ≡ min m (length bytes) = omega (arith, len) in
    ap (λ (n : ℕ). drop n bytes) k ∙ drop_min m bytes ∙ sym is_end

Leaves-length : (bytes rest : List ℕ) → Leaves bytes rest → length rest ≤ length bytes
Leaves-length bytes rest (m, is_end) = omega (arith, ap length is_end, length-drop m bytes)

one_more : (n : ℕ) → 1 + n ≡ suc n
one_more n = omega arith

prefix_leaves : (p : ℕ → Bool) (b : ℕ) (bytes rest : List ℕ) → p b ≡ true → rest ≡ drop (prefix_len p (b ∷ bytes)) (b ∷ bytes) → Leaves bytes rest
prefix_leaves p b bytes rest passes is_end =
    let len : prefix_len p (b ∷ bytes) ≡ suc (prefix_len p bytes) = rw passes (one_more (prefix_len p bytes)) in
    (prefix_len p bytes, is_end ∙ ap (λ (n : ℕ). drop n (b ∷ bytes)) len)

letter_passes : (b : ℕ) → is_letter b ≡ true → is_word_byte b ≡ true
letter_passes b h = rw h refl

word_leaves : (b : ℕ) (bytes : List ℕ) (t : Token) (rest : List ℕ) → is_letter b ≡ true → word_at (b ∷ bytes) ≡ Some (t, rest) → Leaves bytes rest
unfolding word_at
word_leaves b bytes t rest h e =
    let n = prefix_len is_word_byte (b ∷ bytes) in
    let word = map to_ascii_lowercase (take n (b ∷ bytes)) in
    let g = cond_some (is_ident word) (tokens.Word word, drop n (b ∷ bytes)) (t, rest) e in
    prefix_leaves is_word_byte b bytes rest (letter_passes b h) (sym (ap (λ (x : Token × List ℕ). x.1) g.1))

number_leaves : (b : ℕ) (bytes : List ℕ) (t : Token) (rest : List ℕ) → is_digit b ≡ true → number_at (b ∷ bytes) ≡ Some (t, rest) → Leaves bytes rest
unfolding number_at
number_leaves b bytes t rest h e =
    let n = prefix_len is_digit (b ∷ bytes) in
    let value = digits_value (take n (b ∷ bytes)) in
    let g = cond_some (leb n 19 && leb value 9223372036854775807) (tokens.Number value, drop n (b ∷ bytes)) (t, rest) e in
    prefix_leaves is_digit b bytes rest h (sym (ap (λ (x : Token × List ℕ). x.1) g.1))

quoted_two : (quote doubled : Bool) (b c : ℕ) (bytes q rest : List ℕ)
    → ((r : List ℕ) (left : List ℕ) → quoted_at bytes ≡ Some (r, left) → Leaves bytes left)
    → ((r : List ℕ) (left : List ℕ) → quoted_at (c ∷ bytes) ≡ Some (r, left) → Leaves (c ∷ bytes) left)
    → cond quote (cond doubled (push_first 39 (quoted_at bytes)) (Some ([], c ∷ bytes))) (push_first b (quoted_at (c ∷ bytes))) ≡ Some (q, rest) → Leaves (b ∷ c ∷ bytes) rest
quoted_two true true b c bytes q rest two one e =
    let p = push_some 39 (quoted_at bytes) q rest e in
    let l = two p.0 rest p.1 in
    (suc (suc l.0), l.1)
quoted_two true false b c bytes q rest two one e = (1, sym (ap (λ (x : List ℕ × List ℕ). x.1) (same_Some ([], c ∷ bytes) (q, rest) e)))
quoted_two false doubled b c bytes q rest two one e =
    let p = push_some b (quoted_at (c ∷ bytes)) q rest e in
    let l = one p.0 rest p.1 in
    (suc l.0, l.1)

quoted_leaves : (bytes q rest : List ℕ) → quoted_at bytes ≡ Some (q, rest) → Leaves bytes rest
quoted_leaves [] q rest e = absurd cc
quoted_leaves (b ∷ []) q rest e = (1, sym (ap (λ (x : List ℕ × List ℕ). x.1) (cond_some (eqb b 39) ([], []) (q, rest) e).1))
quoted_leaves (b ∷ c ∷ bytes) q rest e = quoted_two (eqb b 39) (eqb c 39) b c bytes q rest (λ r left. quoted_leaves bytes r left) (λ r left. quoted_leaves (c ∷ bytes) r left) e

text_leaves : (bytes : List ℕ) (t : Token) (rest : List ℕ) → text_at bytes ≡ Some (t, rest) → Leaves bytes rest
unfolding text_at
text_leaves bytes t rest e =
    let b = bind_some (quoted_at bytes) (λ quoted. cond (is_txt quoted.0) (Some (tokens.Text quoted.0, quoted.1)) None) (t, rest) e in
    let g = cond_some (is_txt b.0.0) (tokens.Text b.0.0, b.0.1) (t, rest) b.2 in
    let l = quoted_leaves bytes b.0.0 b.0.1 b.1 in
    (l.0, sym (ap (λ (x : Token × List ℕ). x.1) g.1) ∙ l.1)

-- what is read, if it is, leaves a suffix
Left : List ℕ → Option (Symbol × List ℕ) → Type 0
Left bytes read = (symbol : Symbol) (rest : List ℕ) → read ≡ Some (symbol, rest) → Leaves bytes rest

either : (bytes : List ℕ) (test : Bool) (x y : Option (Symbol × List ℕ)) → Left bytes x → Left bytes y → Left bytes (cond test x y)
either bytes true x y p q = p
either bytes false x y p q = q

here : (bytes : List ℕ) (symbol : Symbol) → Left bytes (Some (symbol, bytes))
unfolding Left
here bytes symbol m rest e = (0, sym (ap (λ (x : Symbol × List ℕ). x.1) (same_Some (symbol, bytes) (m, rest) e)))

next : (bytes : List ℕ) (symbol : Symbol) → Left bytes (Some (symbol, drop 1 bytes))
unfolding Left
next bytes symbol m rest e = (1, sym (ap (λ (x : Symbol × List ℕ). x.1) (same_Some (symbol, drop 1 bytes) (m, rest) e)))

nothing : (bytes : List ℕ) → Left bytes None
unfolding Left
nothing bytes m rest e = absurd (none-some (m, rest) e)

symbol_left : (b : ℕ) (bytes : List ℕ) → Left bytes (symbol_at b bytes)
unfolding symbol_at
symbol_left b bytes = search (either, here, next, nothing) depth 20

abbrev pub symbol_token : Symbol × List ℕ → Option (Token × List ℕ)
symbol_token symbol = Some (tokens.Symbol symbol.0, symbol.1)

symbol_leaves : (b : ℕ) (bytes : List ℕ) (t : Token) (rest : List ℕ) → (symbol_at b bytes >>= symbol_token) ≡ Some (t, rest) → Leaves bytes rest
unfolding Left
symbol_leaves b bytes t rest e =
    let m = bind_some (symbol_at b bytes) symbol_token (t, rest) e in
    let l = symbol_left b bytes m.0.0 m.0.1 m.1 in
    (l.0, sym (ap (λ (x : Token × List ℕ). x.1) (same_Some (tokens.Symbol m.0.0, m.0.1) (t, rest) m.2)) ∙ l.1)

token_leaves : (b : ℕ) (bytes : List ℕ) (t : Token) (rest : List ℕ) → token_at b bytes ≡ Some (t, rest) → Leaves bytes rest
unfolding token_at
token_leaves b bytes t rest e =
    let with_symbol : Option (Token × List ℕ) = symbol_at b bytes >>= symbol_token in
    elim (chosen (is_letter b) (word_at (b ∷ bytes)) (cond (is_digit b) (number_at (b ∷ bytes)) (cond (eqb b 39) (text_at bytes) with_symbol)) (t, rest) e) [
      | inl w ↦ word_leaves b bytes t rest w.0 w.1
      | inr w ↦ elim (chosen (is_digit b) (number_at (b ∷ bytes)) (cond (eqb b 39) (text_at bytes) with_symbol) (t, rest) w.1) [
        | inl n ↦ number_leaves b bytes t rest n.0 n.1
        | inr n ↦ elim (chosen (eqb b 39) (text_at bytes) with_symbol (t, rest) n.1) [
          | inl q ↦ text_leaves bytes t rest q.1
          | inr q ↦ symbol_leaves b bytes t rest q.1
        ]
      ]
    ]

-- ---- splitting after the bytes of a token

suffix_drop : (at inside : ℕ) (bytes : List ℕ) → inside ≤ length bytes → split_suffix at inside bytes ≡ split_suffix (at + inside) 0 (drop inside bytes)
suffix_drop at zero bytes h = ap (λ (n : ℕ). split_suffix n 0 bytes) (omega arith)
suffix_drop at (suc inside) [] h = absurd (omega arith)
suffix_drop at (suc inside) (b ∷ bytes) h =
    let offset : at + 1 + inside ≡ at + suc inside = omega arith in
    suffix_drop (at + 1) inside bytes (omega arith) ∙ ap (λ (n : ℕ). split_suffix n 0 (drop inside bytes)) offset

-- the split of bytes that begin with no blank
abbrev pub split_here : ℕ → List ℕ → Split
split_here at [] = ends_at at true
split_here at (b ∷ bytes) = taken_at at (token_here (b ∷ bytes)) (λ token. split_suffix (at + (length (b ∷ bytes) - length token.1)) 0 token.1)

pub same_suffix : (at b : ℕ) (bytes : List ℕ) (read : Option (Token × List ℕ)) → token_at b bytes ≡ read
    → taken_at at read (λ token. split_suffix (at + 1) (length bytes - length token.1) bytes)
    ≡ taken_at at read (λ token. split_suffix (at + (length (b ∷ bytes) - length token.1)) 0 token.1)
same_suffix at b bytes None e = refl
same_suffix at b bytes (Some token) e =
    let l = token_leaves b bytes token.0 token.1 e in
    let shorter = Leaves-length bytes token.1 l in
    let taken = length bytes - length token.1 in
    let offset : at + 1 + taken ≡ at + (suc (length bytes) - length token.1) = omega (arith, shorter) in
    let suffix : split_suffix (at + 1) taken bytes ≡ split_suffix (at + 1 + taken) 0 (drop taken bytes) = suffix_drop (at + 1) taken bytes (omega arith) in
    let same : split_suffix (at + 1) taken bytes ≡ split_suffix (at + (suc (length bytes) - length token.1)) 0 token.1 =
    suffix ∙ ap (split_suffix (at + 1 + taken) 0) (Leaves-drop bytes token.1 l) ∙ ap (λ (n : ℕ). split_suffix n 0 token.1) offset in
    ap (put_first at token.0) same

skip_step : (blank : Bool) (at b : ℕ) (bytes : List ℕ)
    → split_suffix (at + 1) 0 bytes ≡ split_here (at + 1 + prefix_len is_blank bytes) (drop (prefix_len is_blank bytes) bytes)
    → cond blank (split_suffix (at + 1) 0 bytes) (taken_at at (token_at b bytes) (λ token. split_suffix (at + 1) (length bytes - length token.1) bytes))
    ≡ split_here (at + cond blank (1 + prefix_len is_blank bytes) 0) (drop (cond blank (1 + prefix_len is_blank bytes) 0) (b ∷ bytes))
unfolding token_here
skip_step true at b bytes so_far =
    let n = prefix_len is_blank bytes in
    let offset : at + 1 + n ≡ at + (1 + n) = omega arith in
    so_far ∙ ap (λ (k : ℕ). split_here k (drop n bytes)) offset ∙ ap (λ (k : ℕ). split_here (at + (1 + n)) (drop k (b ∷ bytes))) (sym (one_more n))
skip_step false at b bytes so_far =
    let offset : at ≡ at + 0 = omega arith in
    same_suffix at b bytes (token_at b bytes) refl ∙ ap (λ (k : ℕ). split_here k (b ∷ bytes)) offset

skipped : (at : ℕ) (bytes : List ℕ) → split_suffix at 0 bytes ≡ split_here (at + prefix_len is_blank bytes) (drop (prefix_len is_blank bytes) bytes)
skipped at [] = ap (λ (n : ℕ). ends_at n true) (omega arith)
skipped at (b ∷ bytes) = skip_step (is_blank b) at b bytes (skipped (at + 1) bytes)

-- ---- the loop

-- the tokens found so far, prepended to the split of the bytes that are left
abbrev pub with_found : List Token → List ℕ → Split → Split
with_found tokens starts split = record { tokens = tokens ++ split.tokens; starts = starts ++ split.starts; end = split.end; whole = split.whole }

-- the number of the bytes that are left determines the offset in a text of n bytes
blanks_skipped : (n : ℕ) (old left : List ℕ) → left ≡ drop (prefix_len is_blank old) old → length old ≤ n
    → split_suffix (n - length old) 0 old ≡ split_here (n - length left) left
blanks_skipped n old left skip within =
    let k = prefix_len is_blank old in
    let fits = prefix_len-le-length is_blank old in
    let len : length left ≡ length old - k = ap length skip ∙ length-drop k old in
    let offset : n - length old + k ≡ n - length left = omega (arith, len, fits) in
    skipped (n - length old) old ∙ ap (split_here (n - length old + k)) (sym skip) ∙ ap (λ (p : ℕ). split_here p left) offset

pub token_shortens : (left : List ℕ) (t : Token) (new : List ℕ) → token_here left ≡ Some (t, new) → length new < length left
unfolding token_here
token_shortens [] t new e = absurd (none-some (t, new) e)
token_shortens (b ∷ bytes) t new e = let shorter = Leaves-length bytes new (token_leaves b bytes t new e) in omega (arith, shorter)

token_first : (n : ℕ) (left : List ℕ) (t : Token) (new : List ℕ) → length left ≤ n → token_here left ≡ Some (t, new)
    → split_here (n - length left) left ≡ put_first (n - length left) t (split_suffix (n - length new) 0 new)
unfolding token_here
token_first n [] t new within e = absurd (none-some (t, new) e)
token_first n (b ∷ bytes) t new within e =
    let shorter = token_shortens (b ∷ bytes) t new e in
    let at = n - length (b ∷ bytes) in
    let offset : at + (length (b ∷ bytes) - length new) ≡ n - length new = omega (arith, shorter) in
    let step = λ (token : Token × List ℕ). split_suffix (at + (length (b ∷ bytes) - length token.1)) 0 token.1 in
    let found : taken_at at (token_at b bytes) step ≡ taken_at at (Some (t, new)) step = ap (λ (read : Option (Token × List ℕ)). taken_at at read step) e in
    found ∙ ap (λ (p : ℕ). put_first at t (split_suffix p 0 new)) offset

one_further : (tokens : List Token) (starts : List ℕ) (t : Token) (start : ℕ) (split : Split)
    → with_found (tokens ++ t ∷ []) (starts ++ start ∷ []) split ≡ with_found tokens starts (put_first start t split)
one_further tokens starts t start split = simp append_assoc

pub left_within : (n : ℕ) (old left : List ℕ) → left ≡ drop (prefix_len is_blank old) old → length old ≤ n → length left ≤ n
left_within n old left skip within =
    let len : length left ≡ length old - prefix_len is_blank old = ap length skip ∙ length-drop (prefix_len is_blank old) old in
    omega (arith, len)

pub split_goes_on : (n : ℕ) (tokens : List Token) (starts : List ℕ) (old left : List ℕ) (t : Token) (new : List ℕ)
    → left ≡ drop (prefix_len is_blank old) old → length old ≤ n → token_here left ≡ Some (t, new)
    → with_found (tokens ++ t ∷ []) (starts ++ (n - length left) ∷ []) (split_suffix (n - length new) 0 new)
    ≡ with_found tokens starts (split_suffix (n - length old) 0 old)
split_goes_on n tokens starts old left t new skip within e =
    let first = token_first n left t new (left_within n old left skip within) e in
    let here = blanks_skipped n old left skip within in
    one_further tokens starts t (n - length left) (split_suffix (n - length new) 0 new) ∙ ap (with_found tokens starts) (sym (here ∙ first))

stops_here : (n : ℕ) (left : List ℕ) → length left ≤ n → token_here left ≡ None → split_here (n - length left) left ≡ ends_at (n - length left) (eqb (n - length left) n)
unfolding token_here
stops_here n [] within e =
    let all : n ≡ n - 0 = omega arith in
    ap (ends_at (n - 0)) (sym (eq-eqb (n - 0) n (sym all)))
stops_here n (b ∷ bytes) within e =
    let at = n - length (b ∷ bytes) in
    let step = λ (token : Token × List ℕ). split_suffix (at + (length (b ∷ bytes) - length token.1)) 0 token.1 in
    let found : taken_at at (token_at b bytes) step ≡ taken_at at None step = ap (λ (read : Option (Token × List ℕ)). taken_at at read step) e in
    let other : eqb at n ≡ false = grind (arith, nat_tests) in
    found ∙ ap (ends_at at) (sym other)

nothing_further : (tokens : List Token) (starts : List ℕ) (offset : ℕ) (whole : Bool)
    → with_found tokens starts (ends_at offset whole) ≡ record { tokens = tokens; starts = starts; end = offset; whole = whole }
nothing_further tokens starts offset whole = simp append-nil

pub split_stops : (n : ℕ) (tokens : List Token) (starts : List ℕ) (old left : List ℕ)
    → left ≡ drop (prefix_len is_blank old) old → length old ≤ n → token_here left ≡ None
    → record { tokens = tokens; starts = starts; end = n - length left; whole = eqb (n - length left) n }
    ≡ with_found tokens starts (split_suffix (n - length old) 0 old)
split_stops n tokens starts old left skip within e =
    let stops = stops_here n left (left_within n old left skip within) e in
    let here = blanks_skipped n old left skip within in
    sym (ap (with_found tokens starts) (here ∙ stops) ∙ nothing_further tokens starts (n - length left) (eqb (n - length left) n))
