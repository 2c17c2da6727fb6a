-- A stop in an opening leaves the same items.
use Rattle.std.proofs.Common.{◌≡◌, ◌⊎◌, ◌≢◌, inl, inr, ℕ, ◌+◌, ◌^◌, ◌<◌, ◌≤◌, Bool, true, false, if◌then◌else◌, ◌==◌, nat_le, List, [], ◌∷◌, ◌++◌, length, get_or, take, drop, refl, sym, ap, ◌∙◌, subst, arith, leb-true, leb-false, append_assoc, append-nil, length-append, length-drop, take-append-drop}
use Rattle.std.proofs.lemmas.List.{take_at, drop_more, drop_all}
use Rattle.rs_disk.specs.declared.call.Call.TheVariants as calls
use Rattle.rs_disk.specs.declared.call.State.{State}
use Rattle.rs_disk.specs.Disk.{put, content, settled, changed}
use Rattle.rs_disk.proofs.Images.{one_image, torn_by_a_write, cut_short}
use Rattle.rs_log.specs.Format.{Item, Found, header, found}
use Rattle.rs_log.specs.Format.Found.{Log}
use Rattle.rs_log.specs.Calls.{trims, opening_calls}
use Rattle.rs_log.specs.Laws.{AllFit, all_items, front}
use Rattle.rs_log.proofs.Back.{found_back, log_items}
use Rattle.rs_log.proofs.Scans.{found_ends, found_new}
use Rattle.rs_log.proofs.Stops.{Good, AllGood}

abbrev pub Same : List Item → List ℕ → Type 0
Same items image = (last : ℕ) × (found image ≡ Log items last)

-- ---- a log that is trimmed

module _ (batches : List (List Item)) (last : ℕ) (rest : List ℕ) (fit : AllFit batches) (ends : (last ≢ 1) ⊎ (rest ≡ [])) where
  abbrev F : List ℕ
  F = front batches

  abbrev file : List ℕ
  file = F ++ last ∷ rest

  abbrev items : List Item
  items = all_items batches

  abbrev cut_state : State
  cut_state = changed (calls.Cut (length F + 1)) (settled file)

  abbrev closing : State
  closing = changed (calls.Write (length F) (0 ∷ [])) (settled (content cut_state))

  same : (image : List ℕ) (gate : ℕ) (more : List ℕ) → image ≡ F ++ gate ∷ more → (gate ≢ 1) ⊎ (more ≡ []) → Same items image
  same image gate more is ends = (length F, ap found is ∙ found_ends batches gate more fit ends)

  file_split : file ≡ (F ++ last ∷ []) ++ rest
  file_split = sym (append_assoc F (last ∷ []) rest)

  size : length (F ++ last ∷ []) ≡ length F + 1
  size = length-append F (last ∷ [])

  file_size : length file ≡ length F + 1 + length rest
  file_size = omega (arith, length-append F (last ∷ rest))

  cut_is : content cut_state ≡ F ++ last ∷ []
  cut_is = ap (λ (bytes : List ℕ). take (length F + 1) bytes) file_split ∙ take_at (F ++ last ∷ []) rest (length F + 1) size

  good_file : Good (Same items) (settled file)
  good_file image is = same image last rest (one_image file image is) ends

  good_cut : Good (Same items) cut_state
  good_cut image is =
      let cut = cut_short (length F + 1) file image (omega (arith, file_size)) is in
      let more = drop (length F + 1) image in
      let whole : image ≡ F ++ last ∷ more =
      sym (take-append-drop (length F + 1) image) ∙ ap (λ (bytes : List ℕ). bytes ++ more) (cut.front ∙ cut_is) ∙ append_assoc F (last ∷ []) more in
      same image last more whole (elim ends [
        | inl shut ↦ inl shut
        | inr none ↦ inr (drop_all (length F + 1) image (omega (arith, cut.no_longer, file_size, ap length none)))
      ])

  good_synced : Good (Same items) (settled (content cut_state))
  good_synced image is = same image last [] (one_image (content cut_state) image is ∙ cut_is) (inr refl)

  good_closing : Good (Same items) closing
  good_closing image is =
      let long : length (content cut_state) ≡ length F + 1 = ap length cut_is ∙ size in
      let torn = torn_by_a_write (length F) (0 ∷ []) (content cut_state) image (omega (arith, long)) is in
      let gate = get_or image (length F) 0 in
      let none : drop (length F + 1) image ≡ [] = torn.after ∙ drop_all (length F + 1) (content cut_state) (omega (arith, long)) in
      let tail : drop (length F) image ≡ gate ∷ [] = drop_more image (length F) 0 (omega (arith, torn.no_shorter, long)) ∙ ap (λ (bytes : List ℕ). gate ∷ bytes) none in
      let front_is : take (length F) (content cut_state) ≡ F = ap (λ (bytes : List ℕ). take (length F) bytes) cut_is ∙ take_at F (last ∷ []) (length F) refl in
      let whole : image ≡ F ++ gate ∷ [] = sym (take-append-drop (length F) image) ∙ ap (λ (bytes : List ℕ). bytes ++ drop (length F) image) (torn.before ∙ front_is) ∙ ap (λ (bytes : List ℕ). F ++ bytes) tail in
      same image gate [] whole (inr refl)

  closed_is : content closing ≡ F ++ 0 ∷ []
  closed_is =
      let long : length (content cut_state) ≡ length F + 1 = ap length cut_is ∙ size in
      ap (λ (bytes : List ℕ). (bytes ++ 0 ∷ []) ++ drop (length F + 1) (content cut_state)) (ap (λ (bytes : List ℕ). take (length F) bytes) cut_is ∙ take_at F (last ∷ []) (length F) refl)
      ∙ ap (λ (bytes : List ℕ). (F ++ 0 ∷ []) ++ bytes) (drop_all (length F + 1) (content cut_state) (omega (arith, long)))
      ∙ append-nil (F ++ 0 ∷ [])

  good_closed : Good (Same items) (settled (content closing))
  good_closed image is = same image 0 [] (one_image (content closing) image is ∙ closed_is) (inr refl)

  trims_by : (test : Bool) → AllGood (Same items) (settled (content cut_state)) (if test then [] else calls.Write (length F) (0 ∷ []) ∷ calls.Sync ∷ [])
  trims_by true = good_synced
  trims_by false = (good_synced, (good_closing, good_closed))

  pub trims_good : AllGood (Same items) (settled file) (trims file (Log items (length F)))
  trims_good = (good_file, (good_cut, trims_by (get_or file (length F) 0 == 0)))

-- ---- a new log

new_good : (bytes : List ℕ) → length bytes ≤ 9 → AllGood (Same []) (settled bytes) (calls.Write 0 (header ++ 0 ∷ []) ∷ calls.Sync ∷ [])
new_good bytes short = (
  λ image is. (8, found_new image (omega (arith, ap length (one_image bytes image is), short))),
  (
    λ image is. (8, found_new image (let torn = torn_by_a_write 0 (header ++ 0 ∷ []) bytes image (omega arith) is in omega (arith, torn.no_longer, short))),
    λ image is. (8, found_new image (omega (arith, ap length (one_image (put 0 (header ++ 0 ∷ []) bytes) image is), length-append (header ++ 0 ∷ []) (drop 9 bytes), length-drop 9 bytes, short))),
  ),
)

-- ---- an opening

pub opening_good : (bytes : List ℕ) (items : List Item) (gate : ℕ) → length bytes < 2 ^ 63 → found bytes ≡ Log items gate → AllGood (Same items) (settled bytes) (opening_calls bytes)
opening_good bytes items gate short e = by (nat_le (length bytes) 9) refl
  where
    trimmed : 9 < length bytes → AllGood (Same items) (settled bytes) (trims bytes (Log items gate))
    trimmed long =
        let back = found_back bytes items gate long short e in
        let p = back.0 in
        let gate_is : length (front p.batches) ≡ gate = omega (arith, p.same_gate) in
        subst (λ (file : List ℕ). AllGood (Same items) (settled file) (trims file (Log items gate))) (sym back.1)
        (subst (λ (g : ℕ). AllGood (Same items) (settled (front p.batches ++ p.last ∷ p.rest)) (trims (front p.batches ++ p.last ∷ p.rest) (Log items g))) gate_is
        (subst (λ (all : List Item). AllGood (Same all) (settled (front p.batches ++ p.last ∷ p.rest)) (trims (front p.batches ++ p.last ∷ p.rest) (Log all (length (front p.batches))))) p.same_items
        (trims_good p.batches p.last p.rest p.fit p.ends)))

    by : (test : Bool) → nat_le (length bytes) 9 ≡ test → AllGood (Same items) (settled bytes) (if test then calls.Write 0 (header ++ 0 ∷ []) ∷ calls.Sync ∷ [] else trims bytes (found bytes))
    by true is =
        let none = log_items [] items 8 gate (sym (found_new bytes (leb-true (length bytes) 9 is)) ∙ e) in
        subst (λ (all : List Item). AllGood (Same all) (settled bytes) (calls.Write 0 (header ++ 0 ∷ []) ∷ calls.Sync ∷ [])) none (new_good bytes (leb-true (length bytes) 9 is))
    by false is = subst (λ (f : Found). AllGood (Same items) (settled bytes) (trims bytes f)) (sym e) (trimmed (leb-false (length bytes) 9 is))
