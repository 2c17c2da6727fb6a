-- Properties of every split: a start for each token, ascending starts before its end, and an end within the text, which
-- is the text's end exactly if the split is whole.
use Rattle.std.proofs.Common.{◌≡◌, ℕ, zero, suc, ◌+◌, ◌-◌, ◌<◌, ◌≤◌, Bool, true, false, cond, List, [], ◌∷◌, length, get_or, Option, Some, None, refl, ap, arith, subst}
use Rattle.std.specs.List.{slice_get, All, AllPairs}
use Rattle.std.proofs.lemmas.List.Elements.{All-nil, All-cons, All-weaker}
use Rattle.std.proofs.lemmas.List.Kept.{AllPairs-cons}
use Rattle.std.proofs.lemmas.Option.{get_or_from_slice_get, slice_get_within}
use Rattle.rs_token.specs.declared.token_split.Split.{Split}
use Rattle.rs_token.specs.declared.token.Token.{Token}
use Rattle.rs_token.specs.Tokens.{is_blank, token_at, ends_at, put_first, taken_at, split_suffix, split_of}

-- a split of bytes that begin at one offset and end at another
record IsSplitBetween (at stop : ℕ) (split : Split) : Type 0 where
  one_each : length split.starts ≡ length split.tokens
  from_start : at ≤ split.end
  within : split.end ≤ stop
  whole : split.whole ≡ true → split.end ≡ stop
  cut : split.whole ≡ false → split.end < stop
  from : All (λ (start : ℕ). at ≤ start) split.starts
  below : All (λ (start : ℕ). start < split.end) split.starts
  rise : AllPairs (λ (one later : ℕ). one < later) split.starts

no_pairs : (R : ℕ → ℕ → Type 0) → AllPairs R []
no_pairs R = λ i j d before within. absurd (omega arith)

over : (at stop : ℕ) → stop ≡ at + 0 → IsSplitBetween at stop (ends_at at true)
over at stop e = record {
  one_each = refl;
  from_start = omega arith;
  within = omega arith;
  whole = λ w. omega arith;
  cut = λ c. absurd cc;
  from = All-nil (λ (start : ℕ). at ≤ start);
  below = All-nil (λ (start : ℕ). start < at);
  rise = no_pairs (λ (one later : ℕ). one < later);
}

stopped : (at stop : ℕ) → at < stop → IsSplitBetween at stop (ends_at at false)
stopped at stop before = record {
  one_each = refl;
  from_start = omega arith;
  within = omega arith;
  whole = λ w. absurd cc;
  cut = λ c. before;
  from = All-nil (λ (start : ℕ). at ≤ start);
  below = All-nil (λ (start : ℕ). start < at);
  rise = no_pairs (λ (one later : ℕ). one < later);
}

earlier : (at stop : ℕ) (split : Split) → IsSplitBetween (at + 1) stop split → IsSplitBetween at stop split
earlier at stop split p = record {
  one_each = p.one_each;
  from_start = omega arith;
  within = p.within;
  whole = p.whole;
  cut = p.cut;
  from = All-weaker (λ (start : ℕ). at + 1 ≤ start) (λ (start : ℕ). at ≤ start) (λ start h. omega arith) split.starts p.from;
  below = p.below;
  rise = p.rise;
}

one_first : (at stop : ℕ) (token : Token) (split : Split) → IsSplitBetween (at + 1) stop split → IsSplitBetween at stop (put_first at token split)
one_first at stop token split p =
    let q = earlier at stop split p in
    let before : at < split.end = omega (arith, p.from_start) in
    let later : All (λ (start : ℕ). at < start) split.starts = All-weaker (λ (start : ℕ). at + 1 ≤ start) (λ (start : ℕ). at < start) (λ start h. omega arith) split.starts p.from in
    record {
      one_each = ap suc p.one_each;
      from_start = q.from_start;
      within = p.within;
      whole = p.whole;
      cut = p.cut;
      from = All-cons (λ (start : ℕ). at ≤ start) at split.starts (omega arith) q.from;
      below = All-cons (λ (start : ℕ). start < split.end) at split.starts before p.below;
      rise = AllPairs-cons (λ (one later : ℕ). one < later) at split.starts later p.rise;
    }

taken : (at stop : ℕ) (read : Option (Token × List ℕ)) (others : Token × List ℕ → Split)
    → at < stop → ((token : Token × List ℕ) → IsSplitBetween (at + 1) stop (others token)) → IsSplitBetween at stop (taken_at at read others)
taken at stop None others before suffix = stopped at stop before
taken at stop (Some token) others before suffix = one_first at stop token.0 (others token) (suffix token)

either : (blank : Bool) (at stop : ℕ) (x y : Split) → IsSplitBetween at stop x → IsSplitBetween at stop y → IsSplitBetween at stop (cond blank x y)
either true at stop x y p q = p
either false at stop x y p q = q

placed : (at inside stop : ℕ) (bytes : List ℕ) → stop ≡ at + length bytes → IsSplitBetween at stop (split_suffix at inside bytes)
placed at inside stop [] e = over at stop e
placed at (suc inside) stop (b ∷ bytes) e = earlier at stop (split_suffix (at + 1) inside bytes) (placed (at + 1) inside stop bytes (omega arith))
placed at zero stop (b ∷ bytes) e =
    let step = λ (token : Token × List ℕ). split_suffix (at + 1) (length bytes - length token.1) bytes in
    either (is_blank b) at stop (split_suffix (at + 1) 0 bytes) (taken_at at (token_at b bytes) step)
    (earlier at stop (split_suffix (at + 1) 0 bytes) (placed (at + 1) 0 stop bytes (omega arith)))
    (taken at stop (token_at b bytes) step (omega arith) (λ token. placed (at + 1) (length bytes - length token.1) stop bytes (omega arith)))

-- ---- of a text

placed_in : (text : List ℕ) → IsSplitBetween 0 (length text) (split_of text)
placed_in text = placed 0 0 (length text) text (omega arith)

pub length-starts : (text : List ℕ) → length (split_of text).starts ≡ length (split_of text).tokens
length-starts text = (placed_in text).one_each

pub end_of_whole : (text : List ℕ) → (split_of text).whole ≡ true → (split_of text).end ≡ length text
end_of_whole text = (placed_in text).whole

pub end_within : (text : List ℕ) → (split_of text).end ≤ length text
end_within text = (placed_in text).within

pub end_before : (text : List ℕ) → (split_of text).whole ≡ false → (split_of text).end < length text
end_before text = (placed_in text).cut

pub starts_below : (text : List ℕ) → All (λ start. start < (split_of text).end) (split_of text).starts
starts_below text = (placed_in text).below

pub starts_rise : (text : List ℕ) → AllPairs (λ one later. one < later) (split_of text).starts
starts_rise text = (placed_in text).rise

pub start_below : (text : List ℕ) (i start : ℕ) → slice_get (split_of text).starts i ≡ Some start → start < (split_of text).end
start_below text i start e =
    let within = slice_get_within (split_of text).starts i start e in
    let read = get_or_from_slice_get (split_of text).starts i start 0 e in
    subst (λ (s : ℕ). s < (split_of text).end) read (starts_below text i 0 within)

pub start_within : (text : List ℕ) (i start : ℕ) → slice_get (split_of text).starts i ≡ Some start → start < length text
start_within text i start e = omega (arith, start_below text i start e, end_within text)

pub start_rises : (text : List ℕ) (i j one later : ℕ) → i < j → slice_get (split_of text).starts i ≡ Some one → slice_get (split_of text).starts j ≡ Some later → one < later
start_rises text i j one later before e f =
    let within = slice_get_within (split_of text).starts j later f in
    let first = get_or_from_slice_get (split_of text).starts i one 0 e in
    let second = get_or_from_slice_get (split_of text).starts j later 0 f in
    let rise = starts_rise text i j 0 before within in
    subst (λ (s : ℕ). one < s) second (subst (λ (s : ℕ). s < get_or (split_of text).starts j 0) first rise)
