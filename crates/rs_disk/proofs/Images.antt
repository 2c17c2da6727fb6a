-- What writes, cuts and syncs do to images.
use Rattle.std.proofs.Common.{◌≡◌, ℕ, zero, suc, ◌+◌, ◌≤◌, max, List, [], ◌∷◌, ◌++◌, length, map, take, drop, Option, Some, IsTrue, leb-true, refl, sym, ap, ap₂, ◌∙◌, subst, arith, length-append, length-drop, length-take}
use Rattle.std.proofs.lemmas.List.{drop_all}
use Rattle.rs_disk.specs.declared.call.Call.{Call}
use Rattle.rs_disk.specs.declared.call.Call.TheVariants as calls
use Rattle.rs_disk.specs.declared.call.State.{State}
use Rattle.rs_disk.specs.Disk.{put, all_applied, content, in_range, settled, changed}
use Rattle.rs_disk.specs.Images.{forget, sure, longest, Agrees, IsImage, AreInRange, IsInRange}
use Rattle.rs_disk.specs.MemDisk.{kept, crashed}

pub agrees_settled : (bytes image : List ℕ) → Agrees (map Some bytes) image → length image ≤ length bytes → image ≡ bytes
agrees_settled [] [] agrees le = refl
agrees_settled [] (b ∷ image) agrees le = absurd (omega (arith, le))
agrees_settled (byte ∷ bytes) [] agrees le = absurd agrees
agrees_settled (byte ∷ bytes) (b ∷ image) agrees le = ap₂ (λ (x : ℕ) (xs : List ℕ). x ∷ xs) agrees.0 (agrees_settled bytes image agrees.1 (omega (arith, le)))

agrees_same : (bytes : List ℕ) → Agrees (map Some bytes) bytes
agrees_same [] = tt
agrees_same (byte ∷ bytes) = (refl, agrees_same bytes)

-- a synced disk has one image
pub one_image : (bytes image : List ℕ) → IsImage (settled bytes) image → image ≡ bytes
one_image bytes image is = agrees_settled bytes image is.agrees is.no_longer

-- ---- fewer bytes that are sure

forgets : (at n : ℕ) (bytes : List (Option ℕ)) (image : List ℕ) → Agrees bytes image → Agrees (forget at n bytes) image
forgets at n [] image agrees = tt
forgets at n (byte ∷ bytes) [] agrees = absurd agrees
forgets zero zero (byte ∷ bytes) (b ∷ image) agrees = agrees
forgets zero (suc n) (byte ∷ bytes) (b ∷ image) agrees = (tt, forgets zero n bytes image agrees.1)
forgets (suc at) n (byte ∷ bytes) (b ∷ image) agrees = (agrees.0, forgets at n bytes image agrees.1)

cuts : (n : ℕ) (bytes : List (Option ℕ)) (image : List ℕ) → Agrees bytes image → Agrees (take n bytes) image
cuts zero bytes image agrees = tt
cuts (suc n) [] image agrees = tt
cuts (suc n) (byte ∷ bytes) [] agrees = absurd agrees
cuts (suc n) (byte ∷ bytes) (b ∷ image) agrees = (agrees.0, cuts n bytes image agrees.1)

-- ---- writes and cuts that are made

cut_both : (n : ℕ) (bytes : List (Option ℕ)) (image : List ℕ) → Agrees bytes image → Agrees (take n bytes) (take n image)
cut_both zero bytes image agrees = tt
cut_both (suc n) [] image agrees = tt
cut_both (suc n) (byte ∷ bytes) [] agrees = absurd agrees
cut_both (suc n) (byte ∷ bytes) (b ∷ image) agrees = (agrees.0, cut_both n bytes image agrees.1)

over_start : (n m : ℕ) (bytes : List (Option ℕ)) (written image : List ℕ) → m ≡ length written → length written ≤ n → Agrees bytes image → Agrees (forget zero n bytes) (written ++ drop m image)
over_start n m [] written image is le agrees = tt
over_start zero zero (byte ∷ bytes) [] image is le agrees = agrees
over_start zero (suc m) (byte ∷ bytes) [] image is le agrees = absurd (omega (arith, is))
over_start zero m (byte ∷ bytes) (w ∷ written) image is le agrees = absurd (omega (arith, le))
over_start (suc n) m (byte ∷ bytes) written [] is le agrees = absurd agrees
over_start (suc n) zero (byte ∷ bytes) [] (b ∷ image) is le agrees = (tt, forgets zero n bytes image agrees.1)
over_start (suc n) (suc m) (byte ∷ bytes) [] (b ∷ image) is le agrees = absurd (omega (arith, is))
over_start (suc n) zero (byte ∷ bytes) (w ∷ written) (b ∷ image) is le agrees = absurd (omega (arith, is))
over_start (suc n) (suc m) (byte ∷ bytes) (w ∷ written) (b ∷ image) is le agrees = (tt, over_start n m bytes written image (omega (arith, is)) (omega (arith, le)) agrees.1)

over : (at n m : ℕ) (bytes : List (Option ℕ)) (written image : List ℕ) → m ≡ at + length written → length written ≤ n → at ≤ length image → Agrees bytes image → Agrees (forget at n bytes) (take at image ++ written ++ drop m image)
over at n m [] written image is le within agrees = tt
over zero n m (byte ∷ bytes) written image is le within agrees = over_start n m (byte ∷ bytes) written image (omega (arith, is)) le agrees
over (suc at) n m (byte ∷ bytes) written [] is le within agrees = absurd agrees
over (suc at) n zero (byte ∷ bytes) written (b ∷ image) is le within agrees = absurd (omega (arith, is))
over (suc at) n (suc m) (byte ∷ bytes) written (b ∷ image) is le within agrees = (agrees.0, over at n m bytes written image (omega (arith, is)) le (omega (arith, within)) agrees.1)

pub length_put : (at : ℕ) (written image : List ℕ) → at ≤ length image → length (put at written image) ≡ max (length image) (at + length written)
length_put at written image within =
    omega (arith, length-append (take at image ++ written) (drop (at + length written) image), length-append (take at image) written, length-take at image, length-drop (at + length written) image, within)

-- ---- images

-- the bytes agree, and are no more than this
abbrev pub Fits : List Call → List (Option ℕ) → ℕ → List ℕ → Type 0
Fits changes bytes most image = Agrees (sure changes bytes) image × (length image ≤ longest changes most)

-- changes may be lost
stays : (changes : List Call) (bytes : List (Option ℕ)) (most : ℕ) (image : List ℕ) → Agrees bytes image → length image ≤ most → Fits changes bytes most image
stays [] bytes most image agrees le = (agrees, le)
stays (calls.Size ∷ changes) bytes most image agrees le = stays changes bytes most image agrees le
stays (calls.Read at len ∷ changes) bytes most image agrees le = stays changes bytes most image agrees le
stays (calls.Write at written ∷ changes) bytes most image agrees le =
    stays changes (forget at (length written) bytes) (max most (at + length written)) image (forgets at (length written) bytes image agrees) (omega (arith, le))
stays (calls.Cut len ∷ changes) bytes most image agrees le = stays changes (take len bytes) most image (cuts len bytes image agrees) le
stays (calls.Sync ∷ changes) bytes most image agrees le = stays changes bytes most image agrees le

-- a write is made in part
write_in_part : (at j : ℕ) (written : List ℕ) (bytes : List (Option ℕ)) (most : ℕ) (image : List ℕ) → IsTrue (in_range (calls.Write at written) image) → Agrees bytes image → length image ≤ most
    → Agrees (forget at (length written) bytes) (put at (take j written) image) × (length (put at (take j written) image) ≤ max most (at + length written))
write_in_part at j written bytes most image within agrees le =
    let at_most : at ≤ length image = leb-true at (length image) within in
    let less : length (take j written) ≤ length written = omega (arith, length-take j written) in (
      over at (length written) (at + length (take j written)) bytes (take j written) image refl less at_most agrees,
      omega (arith, length_put at (take j written) image at_most, le, less),
    )

write_in_whole : (at : ℕ) (written : List ℕ) (bytes : List (Option ℕ)) (most : ℕ) (image : List ℕ) → IsTrue (in_range (calls.Write at written) image) → Agrees bytes image → length image ≤ most
    → Agrees (forget at (length written) bytes) (put at written image) × (length (put at written image) ≤ max most (at + length written))
write_in_whole at written bytes most image within agrees le =
    let at_most : at ≤ length image = leb-true at (length image) within in (
      over at (length written) (at + length written) bytes written image refl (omega arith) at_most agrees,
      omega (arith, length_put at written image at_most, le),
    )

-- the first changes are made, and the next in part
some_made : (writes j : ℕ) (changes : List Call) (bytes : List (Option ℕ)) (most : ℕ) (image : List ℕ) → AreInRange changes image → Agrees bytes image → length image ≤ most
    → Fits changes bytes most (all_applied (kept writes j changes) image)
some_made writes j [] bytes most image within agrees le = (agrees, le)
some_made zero j (calls.Size ∷ changes) bytes most image within agrees le = stays changes bytes most image agrees le
some_made zero j (calls.Read at len ∷ changes) bytes most image within agrees le = stays changes bytes most image agrees le
some_made zero j (calls.Write at written ∷ changes) bytes most image within agrees le =
    let made = write_in_part at j written bytes most image within.0 agrees le in
    stays changes (forget at (length written) bytes) (max most (at + length written)) (put at (take j written) image) made.0 made.1
some_made zero j (calls.Cut len ∷ changes) bytes most image within agrees le = stays changes (take len bytes) most image (cuts len bytes image agrees) le
some_made zero j (calls.Sync ∷ changes) bytes most image within agrees le = stays changes bytes most image agrees le
some_made (suc writes) j (calls.Size ∷ changes) bytes most image within agrees le = some_made writes j changes bytes most image within.1 agrees le
some_made (suc writes) j (calls.Read at len ∷ changes) bytes most image within agrees le = some_made writes j changes bytes most image within.1 agrees le
some_made (suc writes) j (calls.Write at written ∷ changes) bytes most image within agrees le =
    let made = write_in_whole at written bytes most image within.0 agrees le in
    some_made writes j changes (forget at (length written) bytes) (max most (at + length written)) (put at written image) within.1 made.0 made.1
some_made (suc writes) j (calls.Cut len ∷ changes) bytes most image within agrees le =
    some_made writes j changes (take len bytes) most (take len image) within.1 (cut_both len bytes image agrees) (omega (arith, length-take len image, le))
some_made (suc writes) j (calls.Sync ∷ changes) bytes most image within agrees le = some_made writes j changes bytes most image within.1 agrees le

all_kept : (j : ℕ) (changes : List Call) → kept (length changes) j changes ≡ changes
all_kept j [] = refl
all_kept j (change ∷ changes) = ap (λ (more : List Call). change ∷ more) (all_kept j changes)

-- a crash leaves an image
pub crash_leaves : (s : State) (writes bytes : ℕ) → IsInRange s → IsImage s (crashed writes bytes s)
crash_leaves s writes bytes within =
    let fits = some_made writes bytes s.changes (map Some s.base) (length s.base) s.base within (agrees_same s.base) (omega arith) in
    record { agrees = fits.0; no_longer = fits.1 }

-- what a read gives is an image
pub content_leaves : (s : State) → IsInRange s → IsImage s (content s)
content_leaves s within = subst (λ (changes : List Call). IsImage s (all_applied changes s.base)) (all_kept zero s.changes) (crash_leaves s (length s.changes) zero within)

-- ---- one change since a sync

-- after a write: any bytes in the range and past the old end, the same elsewhere
pub record Torn (at n : ℕ) (old new : List ℕ) : Type 0 where
  pub before : take at new ≡ take at old
  pub after : drop (at + n) new ≡ drop (at + n) old
  pub no_shorter : length old ≤ length new
  pub no_longer : length new ≤ max (length old) (at + n)

tail_stays : (n : ℕ) (bytes image : List ℕ) → Agrees (forget zero n (map Some bytes)) image → length image ≤ max (length bytes) n → drop n image ≡ drop n bytes
tail_stays zero [] [] agrees le = refl
tail_stays zero [] (b ∷ image) agrees le = absurd (omega (arith, le))
tail_stays zero (byte ∷ bytes) image agrees le = agrees_settled (byte ∷ bytes) image agrees (omega (arith, le))
tail_stays (suc n) [] [] agrees le = refl
tail_stays (suc n) [] (b ∷ image) agrees le = tail_stays n [] image tt (omega (arith, le)) ∙ drop_all n [] (omega arith)
tail_stays (suc n) (byte ∷ bytes) [] agrees le = absurd agrees
tail_stays (suc n) (byte ∷ bytes) (b ∷ image) agrees le = tail_stays n bytes image agrees.1 (omega (arith, le))

front_stays : (at n : ℕ) (bytes image : List ℕ) → at ≤ length bytes → Agrees (forget at n (map Some bytes)) image → take at image ≡ take at bytes
front_stays zero n bytes image within agrees = refl
front_stays (suc at) n [] image within agrees = absurd (omega (arith, within))
front_stays (suc at) n (byte ∷ bytes) [] within agrees = absurd agrees
front_stays (suc at) n (byte ∷ bytes) (b ∷ image) within agrees = ap₂ (λ (x : ℕ) (xs : List ℕ). x ∷ xs) agrees.0 (front_stays at n bytes image (omega (arith, within)) agrees.1)

after_stays : (at n m : ℕ) (bytes image : List ℕ) → m ≡ at + n → at ≤ length bytes → Agrees (forget at n (map Some bytes)) image → length image ≤ max (length bytes) m → drop m image ≡ drop m bytes
after_stays zero n m bytes image is within agrees le =
    let same : m ≡ n = omega (arith, is) in
    subst (λ (k : ℕ). drop k image ≡ drop k bytes) (sym same) (tail_stays n bytes image agrees (omega (arith, le, is)))
after_stays (suc at) n m [] image is within agrees le = absurd (omega (arith, within))
after_stays (suc at) n m (byte ∷ bytes) [] is within agrees le = absurd agrees
after_stays (suc at) n zero (byte ∷ bytes) (b ∷ image) is within agrees le = absurd (omega (arith, is))
after_stays (suc at) n (suc m) (byte ∷ bytes) (b ∷ image) is within agrees le = after_stays at n m bytes image (omega (arith, is)) (omega (arith, within)) agrees.1 (omega (arith, le))

no_shorter : (bytes : List (Option ℕ)) (image : List ℕ) → Agrees bytes image → length bytes ≤ length image
no_shorter [] image agrees = omega arith
no_shorter (byte ∷ bytes) [] agrees = absurd agrees
no_shorter (byte ∷ bytes) (b ∷ image) agrees = let le = no_shorter bytes image agrees.1 in omega (arith, le)

length_some : (bytes : List ℕ) → length (map Some bytes) ≡ length bytes
length_some [] = refl
length_some (byte ∷ bytes) = omega (arith, length_some bytes)

length_forget : (at n : ℕ) (bytes : List ℕ) → length (forget at n (map Some bytes)) ≡ length bytes
length_forget at n [] = refl
length_forget zero zero (byte ∷ bytes) = length_some (byte ∷ bytes)
length_forget zero (suc n) (byte ∷ bytes) = omega (arith, length_forget zero n bytes)
length_forget (suc at) n (byte ∷ bytes) = omega (arith, length_forget at n bytes)

pub torn_by_a_write : (at : ℕ) (written bytes image : List ℕ) → at ≤ length bytes → IsImage (changed (calls.Write at written) (settled bytes)) image → Torn at (length written) bytes image
torn_by_a_write at written bytes image within is = record {
  before = front_stays at (length written) bytes image within is.agrees;
  after = after_stays at (length written) (at + length written) bytes image refl within is.agrees is.no_longer;
  no_shorter = omega (arith, no_shorter (forget at (length written) (map Some bytes)) image is.agrees, length_forget at (length written) bytes);
  no_longer = is.no_longer;
}

-- after a cut: the bytes that the cut keeps, and any more up to the old length
pub record IsCut (len : ℕ) (old new : List ℕ) : Type 0 where
  pub front : take len new ≡ take len old
  pub no_shorter : len ≤ length new
  pub no_longer : length new ≤ length old

cut_front : (len : ℕ) (bytes image : List ℕ) → len ≤ length bytes → Agrees (take len (map Some bytes)) image → take len image ≡ take len bytes
cut_front zero bytes image within agrees = refl
cut_front (suc len) [] image within agrees = absurd (omega (arith, within))
cut_front (suc len) (byte ∷ bytes) [] within agrees = absurd agrees
cut_front (suc len) (byte ∷ bytes) (b ∷ image) within agrees = ap₂ (λ (x : ℕ) (xs : List ℕ). x ∷ xs) agrees.0 (cut_front len bytes image (omega (arith, within)) agrees.1)

pub cut_short : (len : ℕ) (bytes image : List ℕ) → len ≤ length bytes → IsImage (changed (calls.Cut len) (settled bytes)) image → IsCut len bytes image
cut_short len bytes image within is = record {
  front = cut_front len bytes image within is.agrees;
  no_shorter = omega (arith, no_shorter (take len (map Some bytes)) image is.agrees, length-take len (map Some bytes), length_some bytes, within);
  no_longer = is.no_longer;
}
