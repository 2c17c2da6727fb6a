-- What an opening finds of a file that was written.
use Rattle.std.proofs.Common.{◌≡◌, ◌≢◌, ◌⊎◌, le-leb, ℕ, zero, suc, ◌+◌, ◌-◌, ◌^◌, ◌<◌, ◌≤◌, Bool, true, false, if◌then◌else◌, ◌==◌, nat_le, nat_lt, List, [], ◌∷◌, ◌++◌, length, Some, inl, inr, refl, sym, ap, ap₂, ◌∙◌, arith, lt-ltb, leb-true, append_assoc, append-nil, length-append}
use Rattle.std.specs.Int.{w64, to_be_bytes}
use Rattle.std.proofs.lemmas.List.{take_at, drop_at}
use Rattle.std.proofs.lemmas.Bool.Decides.{nat_tests}
use Rattle.rs_codec.specs.Encoding.{IsGroups, IsText}
use Rattle.rs_codec.specs.Reader.{u64_at, text_at}
use Rattle.rs_codec.specs.Written.{count_bytes, text_bytes}
use Rattle.rs_codec.proofs.Readers.{bind_at, read_again, text_read, found_u64}
use Rattle.rs_codec.proofs.Writers.{written_text}
use Rattle.rs_log.specs.Format.{Item, Found, header, items_bytes, batch_bytes, items_in, items_of, batch_at, with_items, after_batch, scan, first_wrong, scan_after, found}
use Rattle.rs_log.specs.Format.Found.{NotALog, Log}
use Rattle.rs_log.specs.Laws.{batches_bytes, all_items, front, at_rest, Fits, AllFit}

-- ---- items

text_again : (item rest : List ℕ) → length item < 2 ^ 64 → text_at (text_bytes item ++ rest) ≡ Some (item, rest)
text_again item rest fits = read_again IsText text_at text_read (text_bytes item) rest item (written_text item fits)

groups_some : (bytes : List ℕ) (n : ℕ) → IsGroups bytes n → 1 ≤ length bytes
groups_some [] n is = absurd is
groups_some (b ∷ bytes) n is = omega arith

pub text_some : (item : Item) → length item < 2 ^ 64 → 1 + length item ≤ length (text_bytes item)
text_some item fits =
    let is = written_text item fits in
    omega (arith, ap length is.parts, length-append is.count item, groups_some is.count (length item) is.counted.groups)

items_step : (most : ℕ) (bytes rest : List ℕ) (item : Item) (items : List Item) → length bytes ≤ most → length rest < length bytes → text_at bytes ≡ Some (item, rest)
    → ((m : ℕ) → length rest ≤ m → items_in m rest ≡ Some items) → items_in most bytes ≡ Some (item ∷ items)
items_step most [] rest item items le less read more = absurd (omega (arith, less))
items_step zero (b ∷ bytes) rest item items le less read more = absurd (omega (arith, le))
items_step (suc most) (b ∷ bytes) rest item items le less read more =
    bind_at (text_at (b ∷ bytes)) _ (item, rest) read ∙ bind_at (items_in most rest) _ items (more most (omega (arith, le, less)))

items_again : (items : List Item) (most : ℕ) → length (items_bytes items) ≤ most → length (items_bytes items) < 2 ^ 64 → items_in most (items_bytes items) ≡ Some items
items_again [] zero le fits = refl
items_again [] (suc most) le fits = refl
items_again (item ∷ items) most le fits =
    let both = length-append (text_bytes item) (items_bytes items) in
    let size : length item ≤ length (text_bytes item) = omega (arith, length-append (count_bytes (length item)) item) in
    let some = text_some item (omega (arith, size, both, fits)) in
    items_step most (text_bytes item ++ items_bytes items) (items_bytes items) item items le (omega (arith, both, some)) (text_again item (items_bytes items) (omega (arith, size, both, fits)))
    (λ m within. items_again items m within (omega (arith, both, fits)))

-- ---- batches

pub batch_again : (batch : List Item) (rest : List ℕ) → Fits batch → 1 ≤ length rest → batch_at (batch_bytes batch ++ rest) ≡ Some (batch, rest)
unfolding batch_at items_of
batch_again batch rest fits some =
    let items = items_bytes batch in
    let n = length items in
    let size = found_u64 (batch_bytes batch ++ rest) (items ++ rest) n (omega (arith, fits.1)) (append_assoc (to_be_bytes w64 n) items rest) in
    let not_none : (n == 0) ≡ false = grind (arith, nat_tests, fits.0) in
    let whole : nat_lt n (length (items ++ rest)) ≡ true = lt-ltb n (length (items ++ rest)) (omega (arith, length-append items rest, some)) in
    let read : items_in (length items) items ≡ Some batch = items_again batch (length items) (omega arith) (omega (arith, fits.1)) in
    bind_at (u64_at (batch_bytes batch ++ rest)) _ (n, items ++ rest) size ∙ rw (not_none, whole, take_at items rest n refl, drop_at items rest n refl, read) refl

with_nil : (f : Found) → with_items [] f ≡ f
with_nil (NotALog at) = refl
with_nil (Log items gate) = refl

with_both : (some more : List Item) (f : Found) → with_items some (with_items more f) ≡ with_items (some ++ more) f
with_both some more (NotALog at) = refl
with_both some more (Log items gate) = ap (λ (all : List Item). Log all gate) (sym (append_assoc some more items))

scan_step : (most at : ℕ) (bytes rest : List ℕ) (batch : List Item) → batch_at bytes ≡ Some (batch, rest) → 1 ≤ length bytes
    → scan (suc most) at (1 ∷ bytes) ≡ with_items batch (scan most (at + 1 + (length bytes - length rest)) rest)
scan_step most at [] rest batch read some = absurd (omega (arith, some))
scan_step most at (b ∷ bytes) rest batch read some = ap (after_batch at (λ (batch : List Item × List ℕ). scan most (at + 1 + (length (b ∷ bytes) - length batch.1)) batch.1)) read

scan_batches : (batches : List (List Item)) (most k at : ℕ) (rest : List ℕ) → most ≡ length batches + k → AllFit batches → 1 ≤ length rest
    → scan most at (batches_bytes batches ++ rest) ≡ with_items (all_items batches) (scan k (at + length (batches_bytes batches)) rest)
scan_batches [] most k at rest is fits some =
    let same : most ≡ k = omega (arith, is) in
    let here : at ≡ at + length (batches_bytes []) = omega arith in
    ap₂ (λ (n p : ℕ). scan n p rest) same here ∙ sym (with_nil (scan k (at + length (batches_bytes [])) rest))
scan_batches (batch ∷ batches) zero k at rest is fits some = absurd (omega (arith, is))
scan_batches (batch ∷ batches) (suc most) k at rest is fits some =
    let later = batches_bytes batches ++ rest in
    let long : 1 ≤ length later = omega (arith, length-append (batches_bytes batches) rest, some) in
    let bytes = batch_bytes batch ++ later in
    let size = length-append (batch_bytes batch) later in
    let next = at + 1 + (length bytes - length later) in
    let place : next + length (batches_bytes batches) ≡ at + length (batches_bytes (batch ∷ batches)) = omega (arith, size, length-append (batch_bytes batch) (batches_bytes batches)) in
    ap (λ (more : List ℕ). scan (suc most) at (1 ∷ more)) (append_assoc (batch_bytes batch) (batches_bytes batches) rest)
    ∙ scan_step most at bytes later batch (batch_again batch later fits.0 long) (omega (arith, size, long))
    ∙ ap (with_items batch) (scan_batches batches most k next rest (omega (arith, is)) fits.1 some)
    ∙ with_both batch (all_items batches) (scan k (next + length (batches_bytes batches)) rest)
    ∙ ap (λ (p : ℕ). with_items (batch ++ all_items batches) (scan k p rest)) place

scan_ends : (k at gate : ℕ) (rest : List ℕ) → (gate ≢ 1) ⊎ (rest ≡ []) → scan k at (gate ∷ rest) ≡ Log [] at
scan_ends zero at gate rest ends = refl
scan_ends (suc k) at gate [] ends = refl
scan_ends (suc k) at gate (b ∷ rest) (inl shut) = grind (arith, nat_tests)
scan_ends (suc k) at gate (b ∷ rest) (inr none) = absurd (omega (arith, ap length none))

number_of : (batches : List (List Item)) → length batches ≤ length (batches_bytes batches)
number_of [] = omega arith
number_of (batch ∷ batches) = omega (arith, number_of batches, length-append (batch_bytes batch) (batches_bytes batches))

-- ---- files

-- a file of batches with a gate that isn't open, or is the last byte
pub found_ends : (batches : List (List Item)) (gate : ℕ) (rest : List ℕ) → AllFit batches → (gate ≢ 1) ⊎ (rest ≡ []) → found (front batches ++ gate ∷ rest) ≡ Log (all_items batches) (length (front batches))
unfolding found
found_ends batches gate rest fits ends = by (nat_le (length bytes) 9) refl
  where
    bytes : List ℕ
    bytes = front batches ++ gate ∷ rest

    size : length bytes ≡ 8 + length (batches_bytes batches) + 1 + length rest
    size = omega (arith, length-append (batches_bytes batches) (gate ∷ rest))

    scanned : scan (length bytes) 8 (batches_bytes batches ++ gate ∷ rest) ≡ Log (all_items batches) (length (front batches))
    scanned =
        let k = length bytes - length batches in
        let place : 8 + length (batches_bytes batches) ≡ length (front batches) = omega arith in
        scan_batches batches (length bytes) k 8 (gate ∷ rest) (omega (arith, size, number_of batches)) fits (omega arith)
        ∙ ap (with_items (all_items batches)) (scan_ends k (8 + length (batches_bytes batches)) gate rest ends)
        ∙ ap₂ (λ (items : List Item) (at : ℕ). Log items at) (append-nil (all_items batches)) place

    short : (batches : List (List Item)) → length (batches_bytes batches) ≤ 0 → Log [] 8 ≡ Log (all_items batches) (length (front batches))
    short [] le = refl
    short (batch ∷ more) le = absurd (omega (arith, le))

    by : (test : Bool) → nat_le (length bytes) 9 ≡ test → (if test then Log [] 8 else scan_after bytes (first_wrong 0 header bytes)) ≡ Log (all_items batches) (length (front batches))
    by true is = short batches (omega (arith, leb-true (length bytes) 9 is, size))
    by false is = scanned

pub found_closed : (batches : List (List Item)) (gate : ℕ) (rest : List ℕ) → AllFit batches → gate ≢ 1 → found (front batches ++ gate ∷ rest) ≡ Log (all_items batches) (length (front batches))
found_closed batches gate rest fits shut = found_ends batches gate rest fits (inl shut)

-- a file of at most 9 bytes
pub found_new : (bytes : List ℕ) → length bytes ≤ 9 → found bytes ≡ Log [] 8
unfolding found
found_new bytes short = rw (le-leb (length bytes) 9 short) refl

batches_push : (batches : List (List Item)) (batch : List Item) → batches_bytes (batches ++ batch ∷ []) ≡ batches_bytes batches ++ 1 ∷ batch_bytes batch
batches_push [] batch = ap (λ (bytes : List ℕ). 1 ∷ bytes) (append-nil (batch_bytes batch))
batches_push (one ∷ batches) batch =
    ap (λ (bytes : List ℕ). 1 ∷ batch_bytes one ++ bytes) (batches_push batches batch)
    ∙ ap (λ (bytes : List ℕ). 1 ∷ bytes) (sym (append_assoc (batch_bytes one) (batches_bytes batches) (1 ∷ batch_bytes batch)))

pub items_push : (batches : List (List Item)) (batch : List Item) → all_items (batches ++ batch ∷ []) ≡ all_items batches ++ batch
items_push [] batch = append-nil batch
items_push (one ∷ batches) batch = ap (λ (items : List Item). one ++ items) (items_push batches batch) ∙ sym (append_assoc one (all_items batches) batch)

pub fit_push : (batches : List (List Item)) (batch : List Item) → AllFit batches → Fits batch → AllFit (batches ++ batch ∷ [])
fit_push [] batch fits fit = (fit, tt)
fit_push (one ∷ batches) batch fits fit = (fits.0, fit_push batches batch fits.1 fit)

-- a file of batches with one more after an open gate
pub one_more : (batches : List (List Item)) (tail : List Item) → at_rest (batches ++ tail ∷ []) ≡ front batches ++ 1 ∷ (batch_bytes tail ++ 0 ∷ [])
one_more batches tail =
    ap (λ (bytes : List ℕ). (header ++ bytes) ++ 0 ∷ []) (batches_push batches tail)
    ∙ ap (λ (bytes : List ℕ). header ++ bytes) (append_assoc (batches_bytes batches) (1 ∷ batch_bytes tail) (0 ∷ []))

pub found_open : (batches : List (List Item)) (tail : List Item) → AllFit batches → Fits tail
    → found (front batches ++ 1 ∷ (batch_bytes tail ++ 0 ∷ [])) ≡ Log (all_items batches ++ tail) (length (front (batches ++ tail ∷ [])))
found_open batches tail fits fit =
    let all = fit_push batches tail fits fit in
    ap found (sym (one_more batches tail))
    ∙ found_closed (batches ++ tail ∷ []) 0 [] all (omega arith)
    ∙ ap (λ (items : List Item). Log items (length (front (batches ++ tail ∷ [])))) (items_push batches tail)
