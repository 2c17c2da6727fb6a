-- A printed text literal is read again, if no quote follows.
use Rattle.std.proofs.Common.{◌≡◌, ℕ, Bool, true, false, cond, eqb, List, [], ◌∷◌, ◌++◌, flat_map, Option, Some, None, refl, sym, ap, ◌∙◌, append_assoc}
use Rattle.std.proofs.lemmas.Bool.{eqb-true, cond-true}
use Rattle.rs_base.specs.Printing.{quoted_byte, printed_text}
use Rattle.rs_base.specs.Reading.{◌>>=◌, push_first}
use Rattle.rs_base.specs.Txt.{is_txt}
use Rattle.rs_token.specs.declared.token.Token.{Token}
use Rattle.rs_token.specs.declared.token.Token.TheVariants as tokens
use Rattle.rs_unparse.proofs.Touching.{begins}
use Rattle.rs_token.specs.Tokens.{quoted_at, text_at, token_at}
use Rattle.rs_token.specs.Scanning.{token_here}

abbrev pub is_quote : ℕ → Bool
is_quote b = eqb b 39

quote_ends : (rest : List ℕ) → begins is_quote rest ≡ false → quoted_at (39 ∷ rest) ≡ Some ([], rest)
quote_ends [] apart = refl
quote_ends (c ∷ rest) apart = let other : eqb c 39 ≡ false = apart in rw other refl

quoted_on : (b : ℕ) (rest : List ℕ) → eqb b 39 ≡ false → quoted_at (b ∷ rest) ≡ push_first b (quoted_at rest)
quoted_on b [] other = rw other refl
quoted_on b (c ∷ rest) other = rw other refl

quoted_first : (quote : Bool) (b : ℕ) (text rest : List ℕ) → eqb b 39 ≡ quote → quoted_at (flat_map quoted_byte text ++ 39 ∷ rest) ≡ Some (text, rest)
    → quoted_at ((cond quote (39 ∷ 39 ∷ []) (b ∷ []) ++ flat_map quoted_byte text) ++ 39 ∷ rest) ≡ Some (b ∷ text, rest)
quoted_first true b text rest is further =
    ap (λ (read : Option (List ℕ × List ℕ)). push_first 39 read) further ∙ ap (λ (c : ℕ). push_first c (Some (text, rest))) (sym (eqb-true b 39 is))
quoted_first false b text rest is further =
    quoted_on b (flat_map quoted_byte text ++ 39 ∷ rest) is ∙ ap (λ (read : Option (List ℕ × List ℕ)). push_first b read) further

quoted_again : (text rest : List ℕ) → begins is_quote rest ≡ false → quoted_at (flat_map quoted_byte text ++ 39 ∷ rest) ≡ Some (text, rest)
quoted_again [] rest apart = quote_ends rest apart
quoted_again (b ∷ text) rest apart = quoted_first (eqb b 39) b text rest refl (quoted_again text rest apart)

abbrev as_text : List ℕ × List ℕ → Option (Token × List ℕ)
as_text quoted = cond (is_txt quoted.0) (Some (tokens.Text quoted.0, quoted.1)) None

pub text_again : (text rest : List ℕ) → is_txt text ≡ true → begins is_quote rest ≡ false → token_here (printed_text text ++ rest) ≡ Some (tokens.Text text, rest)
unfolding token_here token_at text_at
text_again text rest formed apart =
    let inside = flat_map quoted_byte text in
    let read : quoted_at ((inside ++ 39 ∷ []) ++ rest) ≡ Some (text, rest) = ap quoted_at (append_assoc inside (39 ∷ []) rest) ∙ quoted_again text rest apart in
    ap (λ (quoted : Option (List ℕ × List ℕ)). quoted >>= as_text) read ∙ cond-true {A = Option (Token × List ℕ)} (is_txt text) (Some (tokens.Text text, rest)) None formed
