-- The printed lines of a valid list are a schedule of it.
use Rattle.std.proofs.Common.{◌≡◌, ℕ, ◌+◌, ◌^◌, ◌/◌, ◌%◌, ◌<◌, ◌≤◌, Bool, true, false, ◌&&◌, ◌||◌, ◌⊎◌, not, eqb, leb, ltb, List, [], ◌∷◌, ◌++◌, length, Some, None, codes, decimal, refl, ap, ◌∙◌, subst, inl, inr, arith, append_assoc}
use Rattle.std.specs.Prelude.{flat_map}
use Rattle.std.specs.List.{list_all}
use Rattle.std.proofs.lemmas.Bool.{and_parts, and_from, leb-true, le-leb, eqb-true}
use Rattle.std.proofs.lemmas.Bool.Decides.{eqb_tells}
use Rattle.std.proofs.lemmas.List.{append-nil}
use Rattle.rs_base.specs.Ident.{is_ident, is_letter, is_name_byte, begins_with_letter, are_name_bytes}
use Rattle.rs_sched.specs.declared.event.Event.{Event}
use Rattle.rs_sched.specs.declared.event.Event.TheVariants as events
use Rattle.rs_sched.specs.Numbers.{is_digit}
use Rattle.rs_sched.specs.Lines.{lines_of, is_return, is_before_feed}
use Rattle.rs_sched.specs.Encoding.{hex_digit, hex_byte, hex_of, number_field, line_of, IsLine, IsSiteNo, HasFields, HasText}
use Rattle.rs_sched.specs.Schedule.{AreLater, AreLines, IsValid, IsSchedule, text_of}
use Rattle.rs_sched.proofs.NumberLaws.{decimal_digits}

-- ---- bytes that are no controls

abbrev is_seen : ℕ → Bool
is_seen b = leb 32 b

abbrev Seen : List ℕ → Type 0
Seen bytes = list_all is_seen bytes ≡ true

seen_append : (xs ys : List ℕ) → Seen xs → Seen ys → Seen (xs ++ ys)
seen_append [] ys h k = k
seen_append (b ∷ xs) ys h k =
    let both = and_parts (is_seen b) (list_all is_seen xs) h in
    and_from _ _ both.0 (seen_append xs ys both.1 k)

seen_all : (p : ℕ → Bool) → ((b : ℕ) → p b ≡ true → 32 ≤ b) → (bytes : List ℕ) → list_all p bytes ≡ true → Seen bytes
seen_all p each [] all = refl
seen_all p each (b ∷ bytes) all =
    let both = and_parts (p b) (list_all p bytes) all in
    and_from _ _ (le-leb 32 b (each b both.0)) (seen_all p each bytes both.1)

digit_seen : (b : ℕ) → is_digit b ≡ true → 32 ≤ b
digit_seen b h = omega (arith, leb-true 48 b (and_parts (leb 48 b) (leb b 57) h).0)

or_cases : (a b : Bool) → (a || b) ≡ true → (a ≡ true) ⊎ (b ≡ true)
or_cases true b h = inl refl
or_cases false b h = inr h

name_seen : (b : ℕ) → is_name_byte b ≡ true → 32 ≤ b
name_seen b h =
    elim (or_cases (is_letter b || (leb 48 b && leb b 57)) (eqb b 95) h) [
      | inl first ↦ elim (or_cases (is_letter b) (leb 48 b && leb b 57) first) [
        | inl letter ↦ omega (arith, leb-true 97 b (and_parts (leb 97 b) (leb b 122) letter).0)
        | inr digit ↦ digit_seen b digit
      ]
      | inr line ↦ omega (arith, eqb-true b 95 line)
    ]

seen_number : (n : ℕ) → n < 2 ^ 64 → Seen (number_field n)
seen_number n h = seen_all is_digit digit_seen (decimal n) (decimal_digits n h)

seen_user : (user : List ℕ) → is_ident user ≡ true → Seen user
seen_user user ident = seen_all is_name_byte name_seen user (and_parts (leb (length user) 24 && begins_with_letter user) (are_name_bytes user) ident).1

seen_hex_digit : (n : ℕ) → is_seen (hex_digit n) ≡ true
seen_hex_digit n = by_test (ltb n 10) refl
  where
    by_test : (test : Bool) → ltb n 10 ≡ test → is_seen (hex_digit n) ≡ true
    by_test true e = rw e (le-leb 32 (48 + n) (omega arith))
    by_test false e = rw e (le-leb 32 (87 + n) (omega arith))

seen_hex_bytes : (bytes : List ℕ) → Seen (flat_map hex_byte bytes)
seen_hex_bytes [] = refl
seen_hex_bytes (b ∷ bytes) = rw (seen_hex_digit (b / 16), seen_hex_digit (b % 16)) (seen_hex_bytes bytes)

seen_hex : (bytes : List ℕ) → Seen (hex_of bytes)
seen_hex [] = refl
seen_hex (b ∷ bytes) = seen_hex_bytes (b ∷ bytes)

-- ---- lines

not_this : (b c : ℕ) → 32 ≤ b → c < 32 → eqb b c ≡ false
not_this b c h k = elim (eqb_tells b c) [ inl same ↦ absurd (omega (arith, same.1)) | inr other ↦ other.0 ]

seen_prefix : (prefix text : List ℕ) → Seen prefix → IsLine text → IsLine (prefix ++ text)
seen_prefix [] text seen h = h
seen_prefix (b ∷ prefix) text seen h =
    let both = and_parts (is_seen b) (list_all is_seen prefix) seen in
    let above = leb-true 32 b both.0 in
    let others = seen_prefix prefix text both.1 h in
    let no_return : is_return b ≡ false = not_this b 13 above (omega arith) in
    (and_from _ _ (ap not (not_this b 10 above (omega arith))) others.0, rw (no_return, others.1) refl)

seen_line : (line : List ℕ) → Seen line → IsLine line
seen_line line seen = subst IsLine (append-nil line) (seen_prefix line [] seen (refl, refl))

small : (n : ℕ) → n ≤ 1000 → n < 2 ^ 64
small n h = omega arith

site_seen : (n : ℕ) → IsSiteNo n → Seen (number_field n)
site_seen n h = seen_number n (omega (arith, h.1))

-- the same as a record, so that the bytes can be inferred from its type
record IsSeen (bytes : List ℕ) : Type 0 where
  all : Seen bytes

then : {xs ys : List ℕ} → IsSeen xs → IsSeen ys → IsSeen (xs ++ ys)
then {xs} {ys} h k = record { all = seen_append xs ys h.all k.all }

word : (bytes : List ℕ) → Seen bytes → IsSeen bytes
word bytes h = record { all = h }

number : (n : ℕ) → n < 2 ^ 64 → IsSeen (number_field n)
number n h = record { all = seen_number n h }

site_field : (n : ℕ) → IsSiteNo n → IsSeen (number_field n)
site_field n h = record { all = site_seen n h }

line : {bytes : List ℕ} → IsSeen bytes → IsLine bytes
line {bytes} h = seen_line bytes h.all

line_then : {bytes : List ℕ} (text : List ℕ) → IsSeen bytes → IsLine text → IsLine (bytes ++ text)
line_then {bytes} text h right = seen_prefix bytes text h.all right

epoch_small : (n : ℕ) → n < 2 ^ 32 → n < 2 ^ 64
epoch_small n h = omega arith

line_is : (event : Event) → HasFields event → HasText event → IsLine (line_of event)
line_is (events.Sites n) h text = line (then (word (codes "sites") refl) (site_field n h))
line_is (events.Ask origin text) h right =
    let user : IsSeen origin.user = record { all = seen_user origin.user h.user } in
    let named = then (then (then (word (codes "ask") refl) (site_field origin.site h.site)) (word (codes " ") refl)) user in
    line_then text (then (then (then named (number origin.epoch (epoch_small origin.epoch h.epoch))) (number origin.number h.number)) (word (codes " ") refl)) right.line
line_is (events.Deliver k) h text = line (then (word (codes "deliver") refl) (number k h))
line_is (events.Lose k) h text = line (then (word (codes "lose") refl) (number k h))
line_is (events.Tick site n) h text = line (then (then (word (codes "tick") refl) (site_field site h.0)) (number n (small n h.2)))
line_is (events.Stop site k j) h text = line (then (then (then (word (codes "stop") refl) (site_field site h.0)) (number k h.1)) (number j h.2))
line_is (events.Arm site c k j) h text = line (then (then (then (then (word (codes "arm") refl) (site_field site h.0)) (number c h.2)) (number k h.3)) (number j h.4))
line_is (events.Restart site) h text = line (then (word (codes "restart") refl) (site_field site h))
line_is (events.Settle None) h text = line (word (codes "settle") refl)
line_is (events.Settle (Some n)) h text = line (then (word (codes "settle") refl) (number n h))
line_is (events.Noise site bytes) h text =
    let hex : IsSeen (hex_of bytes) = record { all = seen_hex bytes } in
    line (then (then (then (word (codes "noise") refl) (site_field site h.0)) (word (codes " ") refl)) hex)

-- a line with its line feed, then other lines
line_prefix : (line rest : List ℕ) → list_all is_before_feed line ≡ true → lines_of (line ++ 10 ∷ rest) ≡ line ∷ lines_of rest
line_prefix [] rest all = refl
line_prefix (b ∷ line) rest all =
    let both = and_parts (is_before_feed b) (list_all is_before_feed line) all in
    let feed : eqb b 10 ≡ false = elim (eqb_tells b 10) [ inl same ↦ absurd (let w : is_before_feed b ≡ false = ap not same.0 in cc) | inr other ↦ other.0 ] in
    rw (feed, line_prefix line rest both.1) refl

prefix_lines : (event : Event) (given : List Event) → IsLine (line_of event) → AreLines (lines_of (text_of given)) given → AreLines (lines_of (text_of (event ∷ given))) (event ∷ given)
prefix_lines event given line others =
    let parts : lines_of (text_of (event ∷ given)) ≡ line_of event ∷ lines_of (text_of given) = ap lines_of (append_assoc (line_of event) (codes "\n") (text_of given)) ∙ line_prefix (line_of event) (text_of given) line.0 in
    rw parts (inr (line.1, others))

later_lines : (sites : ℕ) (given : List Event) → AreLater sites given → AreLines (lines_of (text_of given)) given
later_lines sites [] h = tt
later_lines sites (event ∷ given) h = prefix_lines event given (line_is event h.0.fits.fields h.0.text) (later_lines sites given h.1)

all_lines : (given : List Event) → IsValid given → AreLines (lines_of (text_of given)) given
all_lines [] h = tt
all_lines (events.Sites n ∷ given) h = prefix_lines (events.Sites n) given (line_is (events.Sites n) h.0 tt) (later_lines n given h.1)
all_lines (events.Ask origin text ∷ given) h = absurd h
all_lines (events.Deliver k ∷ given) h = absurd h
all_lines (events.Lose k ∷ given) h = absurd h
all_lines (events.Tick site n ∷ given) h = absurd h
all_lines (events.Stop site k j ∷ given) h = absurd h
all_lines (events.Arm site c k j ∷ given) h = absurd h
all_lines (events.Restart site ∷ given) h = absurd h
all_lines (events.Settle count ∷ given) h = absurd h
all_lines (events.Noise site bytes ∷ given) h = absurd h

pub printed_is_schedule : (given : List Event) → IsValid given → length (text_of given) ≤ 16777216 → IsSchedule (text_of given) given
printed_is_schedule given valid short = record { short = short; lines = all_lines given valid; valid = valid }
