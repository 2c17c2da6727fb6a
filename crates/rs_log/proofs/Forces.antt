-- A stop in a force leaves the stable items, with the tail or without it.
use Rattle.std.proofs.Common.{◌≡◌, ◌⊎◌, ◌≢◌, inl, inr, ℕ, ◌+◌, List, [], ◌∷◌, ◌++◌, length, get_or, take, drop, refl, sym, ap, ◌∙◌, arith, append_assoc, append-nil, length-append, take-append-drop}
use Rattle.std.proofs.lemmas.Bool.{cases_eq}
use Rattle.std.proofs.lemmas.List.{take_at, drop_at, drop_more, take_all, drop_all}
use Rattle.rs_disk.specs.declared.call.Call.TheVariants as calls
use Rattle.rs_disk.specs.declared.call.State.{State}
use Rattle.rs_disk.specs.Disk.{content, settled, changed}
use Rattle.rs_disk.proofs.Images.{one_image, torn_by_a_write}
use Rattle.rs_log.specs.Format.{Item, batch_bytes, found}
use Rattle.rs_log.specs.Format.Found.{Log}
use Rattle.rs_log.specs.Calls.{force_calls}
use Rattle.rs_log.specs.Laws.{all_items, front, at_rest, Fits, AllFit}
use Rattle.rs_log.proofs.Scans.{found_closed, found_open}
use Rattle.rs_log.proofs.Stops.{Good, AllGood}

module _ (batches : List (List Item)) (item : Item) (items : List Item) (fits : AllFit batches) (fit : Fits (item ∷ items)) where
  abbrev F : List ℕ
  F = front batches

  abbrev tail : List Item
  tail = item ∷ items

  -- what is written after the closed gate
  abbrev batch : List ℕ
  batch = batch_bytes tail ++ 0 ∷ []

  abbrev before : State
  before = settled (at_rest batches)

  abbrev staged : State
  staged = changed (calls.Write (length F + 1) batch) before

  abbrev opened : State
  opened = changed (calls.Write (length F) (1 ∷ [])) (settled (content staged))

  abbrev pub Kept : List ℕ → Type 0
  Kept image = (gate : ℕ) × ((found image ≡ Log (all_items batches) gate) ⊎ (found image ≡ Log (all_items batches ++ tail) gate))

  closed : (image : List ℕ) (gate : ℕ) (rest : List ℕ) → image ≡ F ++ gate ∷ rest → gate ≢ 1 → Kept image
  closed image gate rest is shut = (length F, inl (ap found is ∙ found_closed batches gate rest fits shut))

  with_tail : (image : List ℕ) → image ≡ F ++ 1 ∷ batch → Kept image
  with_tail image is = (_, inr (ap found is ∙ found_open batches tail fits fit))

  size : length (at_rest batches) ≡ length F + 1
  size = omega (arith, length-append F (0 ∷ []))

  staged_is : content staged ≡ F ++ 0 ∷ batch
  staged_is =
      let rest = drop (length F + 1 + length batch) (at_rest batches) in
      ap (λ (bytes : List ℕ). (bytes ++ batch) ++ rest) (take_all (length F + 1) (at_rest batches) (omega (arith, size)))
      ∙ ap (λ (bytes : List ℕ). (at_rest batches ++ batch) ++ bytes) (drop_all (length F + 1 + length batch) (at_rest batches) (omega (arith, size)))
      ∙ append-nil (at_rest batches ++ batch)
      ∙ append_assoc F (0 ∷ []) batch

  front_is : take (length F) (content staged) ≡ F
  front_is = ap (λ (bytes : List ℕ). take (length F) bytes) staged_is ∙ take_at F (0 ∷ batch) (length F) refl

  back_is : drop (length F + 1) (content staged) ≡ batch
  back_is =
      ap (λ (bytes : List ℕ). drop (length F + 1) bytes) (staged_is ∙ sym (append_assoc F (0 ∷ []) batch)) ∙ drop_at (at_rest batches) batch (length F + 1) size

  pub opened_is : content opened ≡ F ++ 1 ∷ batch
  opened_is =
      ap (λ (bytes : List ℕ). (bytes ++ 1 ∷ []) ++ drop (length F + 1) (content staged)) front_is
      ∙ ap (λ (bytes : List ℕ). (F ++ 1 ∷ []) ++ bytes) back_is
      ∙ append_assoc F (1 ∷ []) batch

  good_before : Good Kept before
  good_before image is = closed image 0 [] (one_image (at_rest batches) image is) (omega arith)

  good_staged : Good Kept staged
  good_staged image is =
      let torn = torn_by_a_write (length F + 1) batch (at_rest batches) image (omega (arith, size)) is in
      let rest = drop (length F + 1) image in
      let same : image ≡ at_rest batches ++ rest =
      sym (take-append-drop (length F + 1) image) ∙ ap (λ (bytes : List ℕ). bytes ++ rest) (torn.before ∙ take_all (length F + 1) (at_rest batches) (omega (arith, size))) in
      closed image 0 rest (same ∙ append_assoc F (0 ∷ []) rest) (omega arith)

  good_synced : Good Kept (settled (content staged))
  good_synced image is = closed image 0 batch (one_image (content staged) image is ∙ staged_is) (omega arith)

  good_opened : Good Kept opened
  good_opened image is =
      let long : length (content staged) ≡ length F + 1 + length batch = omega (arith, ap length staged_is, length-append F (0 ∷ batch)) in
      let torn = torn_by_a_write (length F) (1 ∷ []) (content staged) image (omega (arith, long)) is in
      let gate = get_or image (length F) 0 in
      let rest : drop (length F) image ≡ gate ∷ batch =
      drop_more image (length F) 0 (omega (arith, torn.no_shorter, long)) ∙ ap (λ (bytes : List ℕ). gate ∷ bytes) (torn.after ∙ back_is) in
      let whole : image ≡ F ++ gate ∷ batch =
      sym (take-append-drop (length F) image) ∙ ap (λ (bytes : List ℕ). bytes ++ drop (length F) image) (torn.before ∙ front_is) ∙ ap (λ (bytes : List ℕ). F ++ bytes) rest in
      elim (cases_eq gate 1) [
        | inl is_open ↦ with_tail image (whole ∙ ap (λ (g : ℕ). F ++ g ∷ batch) is_open)
        | inr shut ↦ closed image gate batch whole shut
      ]

  good_after : Good Kept (settled (content opened))
  good_after image is = with_tail image (one_image (content opened) image is ∙ opened_is)

  pub force_good : AllGood Kept before (force_calls (length F) tail)
  force_good = (good_before, (good_staged, (good_synced, (good_opened, good_after))))
