-- A file in which an opening finds items is written as they are, up to its last gate.
use Rattle.std.proofs.Common.{◌≡◌, ◌≢◌, ◌⊎◌, ℕ, zero, suc, ◌+◌, ◌-◌, ◌^◌, ◌<◌, ◌≤◌, Bool, true, false, if◌then◌else◌, ◌==◌, nat_le, nat_lt, List, [], ◌∷◌, ◌++◌, length, take, drop, Option, Some, None, is_some, inl, inr, true≢false, refl, sym, ap, ap₂, ◌∙◌, arith, ltb-true, append_assoc, length-append, length-take, length-drop, take-append-drop, leb-true}
use Rattle.std.specs.Int.{w64, to_be_bytes}
use Rattle.std.proofs.lemmas.Bool.Decides.{nat_tests}
use Rattle.std.proofs.lemmas.Option.{same_Some}
use Rattle.rs_base.proofs.Steps.{bind_some, held}
use Rattle.rs_codec.specs.Reader.{u64_at, text_at}
use Rattle.rs_codec.specs.Written.{text_bytes}
use Rattle.rs_codec.proofs.Readers.{passed, text_read, u64_read}
use Rattle.rs_codec.proofs.Writers.{once_text, written_text}
use Rattle.rs_log.specs.Format.{Item, Found, header, items_bytes, batch_bytes, items_in, items_of, batch_at, with_items, after_batch, scan, first_wrong, scan_after, found}
use Rattle.rs_log.specs.Format.Found.{NotALog, Log}
use Rattle.rs_log.specs.Laws.{batches_bytes, all_items, front, Fits, AllFit}

none_is_some : {A : Type 0} (x : A) → ◌≡◌ {A = Option A} None (Some x) → ⊥
none_is_some x e = true≢false (sym (ap is_some e))

items_back : (most : ℕ) (bytes : List ℕ) (items : List Item) → items_in most bytes ≡ Some items → bytes ≡ items_bytes items
items_back zero [] items e = ap items_bytes (same_Some [] items e)
items_back (suc most) [] items e = ap items_bytes (same_Some [] items e)
items_back zero (b ∷ bytes) items e = absurd (none_is_some items e)
items_back (suc most) (b ∷ bytes) items e =
    let s = bind_some (text_at (b ∷ bytes)) _ items e in
    let t = bind_some (items_in most s.0.1) _ items s.2 in
    let r = (text_read (b ∷ bytes) s.0.1 s.0.0).1 s.1 in
    let encoded : r.encoding ≡ text_bytes s.0.0 = once_text r.encoding (text_bytes s.0.0) s.0.0 r.encoded (written_text s.0.0 r.encoded.counted.below) in
    r.parts ∙ ap₂ (λ (one more : List ℕ). one ++ more) encoded (items_back most s.0.1 t.0 t.1) ∙ ap items_bytes (same_Some (s.0.0 ∷ t.0) items t.2)

-- the batch that begins these bytes
record IsBatch (bytes : List ℕ) (batch : List Item) (rest : List ℕ) : Type 0 where
  pub parts : bytes ≡ batch_bytes batch ++ rest
  pub fits : Fits batch
  pub more : 1 ≤ length rest

batch_back : (bytes : List ℕ) (batch : List Item) (rest : List ℕ) → length bytes < 2 ^ 63 → batch_at bytes ≡ Some (batch, rest) → IsBatch bytes batch rest
unfolding batch_at items_of
batch_back bytes batch rest short e =
    let s = bind_some (u64_at bytes) _ (batch, rest) e in
    let n = s.0.0 in
    let after = s.0.1 in
    let t = (u64_read bytes after n).1 s.1 in
    let p = passed (n == 0) _ (batch, rest) s.2 in
    let k = held (nat_lt n (length after)) _ (batch, rest) p.1 in
    let w = bind_some (items_in (length (take n after)) (take n after)) _ (batch, rest) k.1 in
    let both = same_Some (w.0, drop n after) (batch, rest) w.2 in
    let within : n < length after = ltb-true n (length after) k.0 in
    let items : take n after ≡ items_bytes batch = items_back (length (take n after)) (take n after) w.0 w.1 ∙ ap (λ (pair : List Item × List ℕ). items_bytes pair.0) both in
    let left : drop n after ≡ rest = ap (λ (pair : List Item × List ℕ). pair.1) both in
    let whole : after ≡ items_bytes batch ++ rest = sym (take-append-drop n after) ∙ ap₂ (λ (one more : List ℕ). one ++ more) items left in
    let size : length (items_bytes batch) ≡ n = sym (ap length items) ∙ (omega (arith, length-take n after, within)) in
    let some : n ≢ 0 = grind (arith, nat_tests, p.0) in
    record {
      parts = t.parts ∙ ap₂ (λ (one more : List ℕ). one ++ more) (t.encoded.1 ∙ ap (to_be_bytes w64) (sym size)) whole ∙ sym (append_assoc (to_be_bytes w64 (length (items_bytes batch))) (items_bytes batch) rest);
      fits = (omega (arith, size, some), omega (arith, size, within, short, ap length t.parts, length-append t.encoding after));
      more = omega (arith, ap length whole, length-append (items_bytes batch) rest, size, within);
    }

-- these bytes from a gate at this offset on are batches up to the last gate
pub record Parsed (at : ℕ) (bytes : List ℕ) (items : List Item) (gate : ℕ) : Type 0 where
  pub batches : List (List Item)
  pub last : ℕ
  pub rest : List ℕ
  pub parts : bytes ≡ batches_bytes batches ++ last ∷ rest
  pub fit : AllFit batches
  pub same_items : all_items batches ≡ items
  pub same_gate : at + length (batches_bytes batches) ≡ gate
  pub ends : (last ≢ 1) ⊎ (rest ≡ [])

is_log : Found → Bool
is_log (NotALog at) = false
is_log (Log items gate) = true

items_in_log : Found → List Item
items_in_log (NotALog at) = []
items_in_log (Log items gate) = items

gate_in_log : Found → ℕ
gate_in_log (NotALog at) = 0
gate_in_log (Log items gate) = gate

no_log : (at gate : ℕ) (items : List Item) → NotALog at ≡ Log items gate → ⊥
unfolding is_log
no_log at gate items e = true≢false (sym (ap is_log e))

pub log_items : (some items : List Item) (at gate : ℕ) → Log some at ≡ Log items gate → some ≡ items
unfolding items_in_log
log_items some items at gate e = ap items_in_log e

log_gate : (some items : List Item) (at gate : ℕ) → Log some at ≡ Log items gate → at ≡ gate
unfolding gate_in_log
log_gate some items at gate e = ap gate_in_log e

split_items : (batch : List Item) (f : Found) (items : List Item) (gate : ℕ) → with_items batch f ≡ Log items gate → (more : List Item) × (f ≡ Log more gate) × (batch ++ more ≡ items)
split_items batch (NotALog at) items gate e = absurd (no_log at gate items e)
split_items batch (Log more at) items gate e = (more, ap (λ (g : ℕ). Log more g) (log_gate (batch ++ more) items at gate e), log_items (batch ++ more) items at gate e)

ends_here : (at last : ℕ) (rest : List ℕ) (items : List Item) (gate : ℕ) → (last ≢ 1) ⊎ (rest ≡ []) → Log [] at ≡ Log items gate → Parsed at (last ∷ rest) items gate
ends_here at last rest items gate ends e = record {
  batches = [];
  last = last;
  rest = rest;
  parts = refl;
  fit = tt;
  same_items = log_items [] items at gate e;
  same_gate = omega (arith, log_gate [] items at gate e);
  ends = ends;
}

one_more : (at next gate : ℕ) (last : ℕ) (bytes rest : List ℕ) (batch more items : List Item) → last ≡ 1 → IsBatch bytes batch rest → batch ++ more ≡ items → next ≡ at + 1 + (length bytes - length rest) → Parsed next rest more gate → Parsed at (last ∷ bytes) items gate
one_more at next gate last bytes rest batch more items is_open is together place p = record {
  batches = batch ∷ p.batches;
  last = p.last;
  rest = p.rest;
  parts = ap₂ (λ (x : ℕ) (xs : List ℕ). x ∷ xs) is_open (is.parts ∙ ap (λ (xs : List ℕ). batch_bytes batch ++ xs) p.parts ∙ sym (append_assoc (batch_bytes batch) (batches_bytes p.batches) (p.last ∷ p.rest)));
  fit = (is.fits, p.fit);
  same_items = ap (λ (xs : List Item). batch ++ xs) p.same_items ∙ together;
  same_gate = omega (arith, p.same_gate, place, ap length is.parts, length-append (batch_bytes batch) rest, length-append (batch_bytes batch) (batches_bytes p.batches));
  ends = p.ends;
}

scan_back : (most at : ℕ) (bytes : List ℕ) (items : List Item) (gate : ℕ) → 1 ≤ length bytes → length bytes ≤ most → length bytes < 2 ^ 63 → scan most at bytes ≡ Log items gate → Parsed at bytes items gate
scan_back most at [] items gate some le short e = absurd (omega (arith, some))
scan_back zero at (g ∷ bytes) items gate some le short e = absurd (omega (arith, le))
scan_back (suc most) at (g ∷ []) items gate some le short e = ends_here at g [] items gate (inr refl) e
scan_back (suc most) at (g ∷ b ∷ bytes) items gate some le short e =
    by (g == 1) refl e (λ (place : ℕ) (rest : List ℕ) (more : List Item) (some : 1 ≤ length rest) (le : length rest ≤ most) (short : length rest < 2 ^ 63) (e : scan most place rest ≡ Log more gate). scan_back most place rest more gate some le short e)
  where
    from : (batch : Option (List Item × List ℕ)) → batch_at (b ∷ bytes) ≡ batch → g ≡ 1 → after_batch at (λ (batch : List Item × List ℕ). scan most (at + 1 + (length (b ∷ bytes) - length batch.1)) batch.1) batch ≡ Log items gate
        → ((place : ℕ) (rest : List ℕ) (more : List Item) → 1 ≤ length rest → length rest ≤ most → length rest < 2 ^ 63 → scan most place rest ≡ Log more gate → Parsed place rest more gate) → Parsed at (g ∷ b ∷ bytes) items gate
    from None is is_open e again = absurd (no_log at gate items e)
    from (Some batch) is is_open e again =
        let read = batch_back (b ∷ bytes) batch.0 batch.1 (omega (arith, short)) is in
        let place = at + 1 + (length (b ∷ bytes) - length batch.1) in
        let split = split_items batch.0 (scan most place batch.1) items gate e in
        let size = ap length read.parts ∙ length-append (batch_bytes batch.0) batch.1 in
        let later = again place batch.1 split.0 read.more (omega (arith, le, size)) (omega (arith, short, size)) split.1 in
        one_more at place gate g (b ∷ bytes) batch.1 batch.0 split.0 items is_open read split.2 refl later

    by : (test : Bool) → (g == 1) ≡ test → (if test then after_batch at (λ (batch : List Item × List ℕ). scan most (at + 1 + (length (b ∷ bytes) - length batch.1)) batch.1) (batch_at (b ∷ bytes)) else Log [] at) ≡ Log items gate
        → ((place : ℕ) (rest : List ℕ) (more : List Item) → 1 ≤ length rest → length rest ≤ most → length rest < 2 ^ 63 → scan most place rest ≡ Log more gate → Parsed place rest more gate) → Parsed at (g ∷ b ∷ bytes) items gate
    by true is e again = from (batch_at (b ∷ bytes)) refl (grind (arith, nat_tests)) e again
    by false is e again = ends_here at g (b ∷ bytes) items gate (inl (grind (arith, nat_tests))) e

header_back : (at : ℕ) (wanted bytes : List ℕ) → first_wrong at wanted bytes ≡ None → bytes ≡ wanted ++ drop (length wanted) bytes
header_back at [] bytes e = refl
header_back at (x ∷ wanted) [] e = absurd (none_is_some at (sym e))
header_back at (x ∷ wanted) (b ∷ bytes) e = by (b == x) refl e (λ (is : first_wrong (at + 1) wanted bytes ≡ None). header_back (at + 1) wanted bytes is)
  where
    by : (test : Bool) → (b == x) ≡ test → (if test then first_wrong (at + 1) wanted bytes else Some at) ≡ None → (first_wrong (at + 1) wanted bytes ≡ None → bytes ≡ wanted ++ drop (length wanted) bytes) → b ∷ bytes ≡ (x ∷ wanted) ++ drop (length (x ∷ wanted)) (b ∷ bytes)
    by true is e again = ap₂ (λ (y : ℕ) (ys : List ℕ). y ∷ ys) (let same : b ≡ x = grind (arith, nat_tests) in same) (again e)
    by false is e again = absurd (none_is_some at (sym e))

pub found_back : (bytes : List ℕ) (items : List Item) (gate : ℕ) → 9 < length bytes → length bytes < 2 ^ 63 → found bytes ≡ Log items gate → (p : Parsed 8 (drop 8 bytes) items gate) × (bytes ≡ front p.batches ++ p.last ∷ p.rest)
unfolding found
found_back bytes items gate long short e = by (nat_le (length bytes) 9) refl e
  where
    whole : first_wrong 0 header bytes ≡ None → Parsed 8 (drop 8 bytes) items gate → (p : Parsed 8 (drop 8 bytes) items gate) × (bytes ≡ front p.batches ++ p.last ∷ p.rest)
    whole is p = (p, header_back 0 header bytes is ∙ ap (λ (more : List ℕ). header ++ more) p.parts)

    from : (wrong : Option ℕ) → first_wrong 0 header bytes ≡ wrong → scan_after bytes wrong ≡ Log items gate → (p : Parsed 8 (drop 8 bytes) items gate) × (bytes ≡ front p.batches ++ p.last ∷ p.rest)
    from (Some at) is e = absurd (no_log at gate items e)
    from None is e =
        let size = length-drop 8 bytes in
        whole is (scan_back (length bytes) 8 (drop 8 bytes) items gate (omega (arith, size, long)) (omega (arith, size)) (omega (arith, size, short)) e)

    by : (test : Bool) → nat_le (length bytes) 9 ≡ test → (if test then Log [] 8 else scan_after bytes (first_wrong 0 header bytes)) ≡ Log items gate → (p : Parsed 8 (drop 8 bytes) items gate) × (bytes ≡ front p.batches ++ p.last ∷ p.rest)
    by true is e = absurd (omega (arith, leb-true (length bytes) 9 is, long))
    by false is e = from (first_wrong 0 header bytes) refl e
