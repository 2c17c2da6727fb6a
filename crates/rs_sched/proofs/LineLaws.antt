-- Lines, one at a time, and their ends.
use Rattle.std.proofs.Common.{◌≡◌, ℕ, suc, ◌+◌, ◌-◌, ◌≤◌, Bool, true, false, cond, ◌&&◌, eqb, ◌≢◌, List, [], ◌∷◌, ◌++◌, length, get_or, take, drop, refl, sym, ap, ◌∙◌, inl, inr, arith}
use Rattle.std.specs.List.{list_all, prefix_len}
use Rattle.std.proofs.lemmas.List.{take_more, take_all}
use Rattle.std.proofs.lemmas.Bool.Decides.{eqb_tells}
use Rattle.std.proofs.lemmas.Bool.{and_parts, and_from}
use Rattle.rs_sched.specs.Encoding.{IsLine}
use Rattle.rs_sched.specs.Lines.{onto_first, lines_of, is_return, without_returns, is_before_feed}

-- ---- carriage returns

all_with_return : (prefix : List ℕ) → list_all is_return (prefix ++ 13 ∷ []) ≡ list_all is_return prefix
all_with_return [] = refl
all_with_return (b ∷ prefix) = ap (λ (t : Bool). is_return b && t) (all_with_return prefix)

and_false : (a : Bool) → (a && false) ≡ false
and_false true = refl
and_false false = refl

all_without : (prefix : List ℕ) (x : ℕ) → is_return x ≡ false → list_all is_return (prefix ++ x ∷ []) ≡ false
all_without [] x h = rw h refl
all_without (b ∷ prefix) x h = ap (λ (t : Bool). is_return b && t) (all_without prefix x h) ∙ and_false (is_return b)

-- a carriage return at the end is removed
returns_go : (prefix : List ℕ) → without_returns (prefix ++ 13 ∷ []) ≡ without_returns prefix
returns_go [] = refl
returns_go (b ∷ prefix) = rw (all_with_return prefix, returns_go prefix) refl

-- a last byte other than a carriage return is kept, with the bytes before it
returns_stay : (prefix : List ℕ) (x : ℕ) → is_return x ≡ false → without_returns (prefix ++ x ∷ []) ≡ prefix ++ x ∷ []
returns_stay [] x h = rw h refl
returns_stay (b ∷ prefix) x h = rw (all_without (b ∷ prefix) x h, returns_stay prefix x h) refl

prefix_last : (line : List ℕ) → 1 ≤ length line → take (length line - 1) line ++ get_or line (length line - 1) 0 ∷ [] ≡ line
prefix_last line h =
    let more = take_more line (length line - 1) 0 (omega arith) in
    let all : (length line - 1) + 1 ≡ length line = omega arith in
    sym more ∙ ap (λ (n : ℕ). take n line) all ∙ take_all (length line) line (omega arith)

-- a line with a carriage return at its end, and one with none
pub returns-one : (line : List ℕ) → 1 ≤ length line → get_or line (length line - 1) 0 ≡ 13 → without_returns (take (length line - 1) line) ≡ without_returns line
returns-one line h is =
    let last = ap (λ (x : ℕ). take (length line - 1) line ++ x ∷ []) (sym is) ∙ prefix_last line h in
    sym (returns_go (take (length line - 1) line)) ∙ ap without_returns last

neq_eqb : (a b : ℕ) → a ≢ b → eqb a b ≡ false
neq_eqb a b h = elim (eqb_tells a b) [ inl same ↦ absurd (h same.1) | inr other ↦ other.0 ]

pub returns-none : (line : List ℕ) → 1 ≤ length line → get_or line (length line - 1) 0 ≢ 13 → without_returns line ≡ line
returns-none line h is =
    ap without_returns (sym (prefix_last line h)) ∙ returns_stay (take (length line - 1) line) (get_or line (length line - 1) 0) (neq_eqb _ _ is) ∙ prefix_last line h

-- ---- the next line

suc_of : (n : ℕ) → 1 + n ≡ suc n
suc_of n = omega arith

by_feed : (b : ℕ) (bytes : List ℕ) → onto_first b (lines_of bytes) ≡ take (suc (prefix_len is_before_feed bytes)) (b ∷ bytes) ∷ lines_of (drop 1 (drop (suc (prefix_len is_before_feed bytes)) (b ∷ bytes)))
    → (test : Bool) → eqb b 10 ≡ test → let n = prefix_len is_before_feed (b ∷ bytes) in lines_of (b ∷ bytes) ≡ take n (b ∷ bytes) ∷ lines_of (drop 1 (drop n (b ∷ bytes)))
by_feed b bytes h true e = rw e refl
by_feed b bytes h false e = rw (e, suc_of (prefix_len is_before_feed bytes)) h

lines_next_of : (b : ℕ) (bytes : List ℕ) → let n = prefix_len is_before_feed (b ∷ bytes) in lines_of (b ∷ bytes) ≡ take n (b ∷ bytes) ∷ lines_of (drop 1 (drop n (b ∷ bytes)))
lines_next_of b [] = by_feed b [] refl (eqb b 10) refl
lines_next_of b (c ∷ bytes) = by_feed b (c ∷ bytes) (ap (onto_first b) (lines_next_of c bytes)) (eqb b 10) refl

-- the first line, and the lines after its line feed
pub lines_next : (bytes : List ℕ) → 1 ≤ length bytes → let n = prefix_len is_before_feed bytes in lines_of bytes ≡ take n bytes ∷ lines_of (drop 1 (drop n bytes))
lines_next [] h = absurd (omega arith)
lines_next (b ∷ bytes) h = lines_next_of b bytes

-- ---- parts of a line

all_after : (p : ℕ → Bool) (prefix rest : List ℕ) → list_all p (prefix ++ rest) ≡ true → list_all p rest ≡ true
all_after p [] rest all = all
all_after p (b ∷ prefix) rest all = all_after p prefix rest (and_parts (p b) (list_all p (prefix ++ rest)) all).1

returns_after : (prefix rest : List ℕ) → without_returns (prefix ++ rest) ≡ prefix ++ rest → without_returns rest ≡ rest
returns_after [] rest h = h
returns_after (b ∷ prefix) rest h = by_all (list_all is_return (b ∷ (prefix ++ rest))) h (returns_after prefix rest)
  where
    by_all : (all : Bool) → cond all [] (b ∷ without_returns (prefix ++ rest)) ≡ b ∷ (prefix ++ rest) → (without_returns (prefix ++ rest) ≡ prefix ++ rest → without_returns rest ≡ rest) → without_returns rest ≡ rest
    by_all true e others = absurd cc
    by_all false e others = others cc

-- a suffix of a line is a line
pub suffix_line : (prefix rest : List ℕ) → IsLine (prefix ++ rest) → IsLine rest
suffix_line prefix rest h = (all_after is_before_feed prefix rest h.0, returns_after prefix rest h.1)

none_all : (line : List ℕ) → list_all is_return line ≡ false → list_all is_return (without_returns line) ≡ false
none_all [] e = e
none_all (b ∷ line) e = by_first (is_return b) refl (none_all line)
  where
    by_first : (first : Bool) → is_return b ≡ first → (list_all is_return line ≡ false → list_all is_return (without_returns line) ≡ false) → list_all is_return (without_returns (b ∷ line)) ≡ false
    by_first false f others = rw (e, f) refl
    by_first true f others = let left : list_all is_return line ≡ false = rw f at e in rw (e, f) (others left)

-- the carriage returns at the end are removed at once
pub returns_once : (line : List ℕ) → without_returns (without_returns line) ≡ without_returns line
returns_once [] = refl
returns_once (b ∷ line) = by_all (list_all is_return (b ∷ line)) refl (returns_once line)
  where
    by_all : (all : Bool) → list_all is_return (b ∷ line) ≡ all → without_returns (without_returns line) ≡ without_returns line → without_returns (without_returns (b ∷ line)) ≡ without_returns (b ∷ line)
    by_all true e others = rw e refl
    by_all false e others = let left : list_all is_return (b ∷ without_returns line) ≡ false = rw e at (none_all (b ∷ line) e) in rw (e, left, others) refl

pub feedless : (line : List ℕ) → list_all is_before_feed line ≡ true → list_all is_before_feed (without_returns line) ≡ true
feedless [] all = refl
feedless (b ∷ line) all = by_all (list_all is_return (b ∷ line)) refl (feedless line)
  where
    by_all : (test : Bool) → list_all is_return (b ∷ line) ≡ test → (list_all is_before_feed line ≡ true → list_all is_before_feed (without_returns line) ≡ true) → list_all is_before_feed (without_returns (b ∷ line)) ≡ true
    by_all true e others = rw e refl
    by_all false e others = let both = and_parts (is_before_feed b) (list_all is_before_feed line) all in rw e (and_from _ _ both.0 (others both.1))

pub line_of_part : (line : List ℕ) → list_all is_before_feed line ≡ true → IsLine (without_returns line)
line_of_part line all = (feedless line all, returns_once line)
