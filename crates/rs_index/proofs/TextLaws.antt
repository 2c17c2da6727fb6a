-- The pairs of texts after a change, and the numbers in a range of texts.
use Rattle.std.proofs.Common.{◌≡◌, ℕ, Bool, true, false, cond, ◌||◌, List, [], ◌∷◌, ◌++◌, map, Some, None, refl, sym, ap, ◌∙◌}
use Rattle.std.specs.Prelude.{filter}
use Rattle.std.specs.List.{AllByRecursion, list_any}
use Rattle.std.specs.List.Sorted.{IsStrictlySortedBy}
use Rattle.std.specs.Ordering.{nat_cmp, is_eq, ordering_then, match_ordering}
use Rattle.std.specs.declared.cmp.Ordering.{Ordering}
use Rattle.std.specs.declared.cmp.Ordering.TheVariants.{Less, Equal, Greater}
use Rattle.std.specs.BTreeMap.{is_at, insert_entry}
use Rattle.std.specs.BTreeSet.{BTreeSet, insert_key}
use Rattle.std.specs.Map.{lookup, keys_of, set_value, remove_entry}
use Rattle.std.specs.Set.{remove_key}
use Rattle.std.proofs.lemmas.Cmp.{nat_list_cmp_total, tied_itself}
use Rattle.std.proofs.lemmas.List.{map-append}
use Rattle.std.proofs.lemmas.List.Elements.{filter-append}
use Rattle.std.proofs.lemmas.Map.{lookup-none, none_passes_from_lookup}
use Rattle.std.proofs.lemmas.Map.Entries.{none_below_head}
use Rattle.std.proofs.lemmas.Map.Keys.{sorted_head, sorted_tail}
use Rattle.std.proofs.lemmas.Map.Lookups.{exact_bytes}
use Rattle.rs_index.specs.TextPairs.{text_cmp, text_pair_cmp, pairs_of_entry, text_pairs, numbers_of}

-- ---- lists in order

all_of_both : {A : Type 0} (P : A → Type 0) (xs ys : List A) → AllByRecursion P xs → AllByRecursion P ys → AllByRecursion P (xs ++ ys)
all_of_both P [] ys one other = other
all_of_both P (x ∷ xs) ys one other = (one.0, all_of_both P xs ys one.1 other)

-- a key goes past the keys below it
past : {K : Type 0} (cmp : K → K → Ordering) (k : K) (xs ys : List K) → AllByRecursion (λ x. cmp k x ≡ Greater) xs → insert_key cmp (xs ++ ys) k ≡ xs ++ insert_key cmp ys k
past cmp k [] ys below = refl
past {K} cmp k (x ∷ xs) ys below = rw below.0 (ap (λ (l : List K). x ∷ l) (past cmp k xs ys below.1))

-- a key stays before the keys above it
before : {K : Type 0} (cmp : K → K → Ordering) (k : K) (ys : List K) → AllByRecursion (λ y. cmp k y ≡ Less) ys → insert_key cmp ys k ≡ k ∷ ys
before cmp k [] above = refl
before cmp k (y ∷ ys) above = rw above.0 refl

-- a test goes past the keys that fail it
removed_past : {K : Type 0} (test : K → Bool) (xs ys : List K) → AllByRecursion (λ x. test x ≡ false) xs → remove_key test (xs ++ ys) ≡ xs ++ remove_key test ys
removed_past test [] ys fail = refl
removed_past {K} test (x ∷ xs) ys fail = rw fail.0 (ap (λ (l : List K). x ∷ l) (removed_past test xs ys fail.1))

any_past : {K : Type 0} (test : K → Bool) (xs ys : List K) → AllByRecursion (λ x. test x ≡ false) xs → list_any test (xs ++ ys) ≡ list_any test ys
any_past test [] ys fail = refl
any_past test (x ∷ xs) ys fail = rw fail.0 (any_past test xs ys fail.1)

removed_none : {K : Type 0} (test : K → Bool) (xs : List K) → AllByRecursion (λ x. test x ≡ false) xs → remove_key test xs ≡ xs
removed_none test [] fail = refl
removed_none {K} test (x ∷ xs) fail = rw fail.0 (ap (λ (l : List K). x ∷ l) (removed_none test xs fail.1))

any_none : {K : Type 0} (test : K → Bool) (xs : List K) → AllByRecursion (λ x. test x ≡ false) xs → list_any test xs ≡ false
any_none test [] fail = refl
any_none test (x ∷ xs) fail = rw fail.0 (any_none test xs fail.1)

-- ---- the pairs of one text

-- another text's pairs are all on the side of that text
pairs_below : (t s : List ℕ) (n : ℕ) (ks : List ℕ) → text_cmp t s ≡ Greater → AllByRecursion (λ p. text_pair_cmp (t, n) p ≡ Greater) (map (λ k. (s, k)) ks)
pairs_below t s n [] side = tt
pairs_below t s n (k ∷ ks) side = (rw side refl, pairs_below t s n ks side)

pairs_above : (t s : List ℕ) (n : ℕ) (ks : List ℕ) → text_cmp t s ≡ Less → AllByRecursion (λ p. text_pair_cmp (t, n) p ≡ Less) (map (λ k. (s, k)) ks)
pairs_above t s n [] side = tt
pairs_above t s n (k ∷ ks) side = (rw side refl, pairs_above t s n ks side)

then_apart : (o p : Ordering) → is_eq o ≡ false → is_eq (ordering_then o p) ≡ false
then_apart Less p apart = refl
then_apart Equal p apart = absurd (cc)
then_apart Greater p apart = refl

pairs_apart : (t s : List ℕ) (n : ℕ) (ks : List ℕ) → is_eq (text_cmp t s) ≡ false → AllByRecursion (λ p. is_at (text_pair_cmp (t, n)) p ≡ false) (map (λ k. (s, k)) ks)
pairs_apart t s n [] apart = tt
pairs_apart t s n (k ∷ ks) apart = (then_apart (text_cmp t s) (nat_cmp n k) apart, pairs_apart t s n ks apart)

-- the pairs of texts that are all above
entries_above : (t : List ℕ) (n : ℕ) (es : List (List ℕ × BTreeSet ℕ)) → AllByRecursion (λ s. text_cmp t s ≡ Less) (keys_of es) → AllByRecursion (λ p. text_pair_cmp (t, n) p ≡ Less) (text_pairs es)
entries_above t n [] above = tt
entries_above t n (e ∷ es) above = all_of_both _ (pairs_of_entry e) (text_pairs es) (pairs_above t e.0 n e.1.keys above.0) (entries_above t n es above.1)

entries_apart : (t : List ℕ) (n : ℕ) (es : List (List ℕ × BTreeSet ℕ)) → AllByRecursion (λ e. is_at (text_cmp t) e.0 ≡ false) es → AllByRecursion (λ p. is_at (text_pair_cmp (t, n)) p ≡ false) (text_pairs es)
entries_apart t n [] apart = tt
entries_apart t n (e ∷ es) apart = all_of_both _ (pairs_of_entry e) (text_pairs es) (pairs_apart t e.0 n e.1.keys apart.0) (entries_apart t n es apart.1)

-- above a text that is above this one, or equal to it
above_from_less : (t s : List ℕ) (ks : List (List ℕ)) → text_cmp t s ≡ Less → AllByRecursion (λ k. text_cmp s k ≡ Less) ks → AllByRecursion (λ k. text_cmp t k ≡ Less) ks
above_from_less t s [] less above = tt
above_from_less t s (k ∷ ks) less above = (nat_list_cmp_total.trans t s k less above.0, above_from_less t s ks less above.1)

above_from_equal : (t s : List ℕ) (ks : List (List ℕ)) → text_cmp t s ≡ Equal → AllByRecursion (λ k. text_cmp s k ≡ Less) ks → AllByRecursion (λ k. text_cmp t k ≡ Less) ks
above_from_equal t s [] equal above = tt
above_from_equal t s (k ∷ ks) equal above = (nat_list_cmp_total.congr t s k equal ∙ above.0, above_from_equal t s ks equal above.1)

-- ---- one number more

-- among the pairs of its text
added_to_own : (t : List ℕ) (n : ℕ) (ks : List ℕ) (ys : List (List ℕ × ℕ)) → AllByRecursion (λ p. text_pair_cmp (t, n) p ≡ Less) ys → insert_key text_pair_cmp (map (λ k. (t, k)) ks ++ ys) (t, n) ≡ map (λ k. (t, k)) (insert_key nat_cmp ks n) ++ ys
added_to_own t n [] ys above = before text_pair_cmp (t, n) ys above
added_to_own t n (k ∷ ks) ys above =
    rw (tied_itself nat_list_cmp_total t)
    (elim (nat_cmp n k) as (λ o. match_ordering o ((t, n) ∷ (t, k) ∷ (map (λ i. (t, i)) ks ++ ys)) ((t, k) ∷ (map (λ i. (t, i)) ks ++ ys)) ((t, k) ∷ insert_key text_pair_cmp (map (λ i. (t, i)) ks ++ ys) (t, n)) ≡ map (λ i. (t, i)) (match_ordering o (n ∷ k ∷ ks) (k ∷ ks) (k ∷ insert_key nat_cmp ks n)) ++ ys)
    [ Less ↦ refl | Equal ↦ refl | Greater ↦ ap (λ (l : List (List ℕ × ℕ)). (t, k) ∷ l) (added_to_own t n ks ys above) ])

-- of a text that isn't there
pub added_text : (t : List ℕ) (n : ℕ) (set : BTreeSet ℕ) (es : List (List ℕ × BTreeSet ℕ)) → IsStrictlySortedBy text_cmp (keys_of es) → lookup (is_at (text_cmp t)) es ≡ None → set.keys ≡ n ∷ [] → text_pairs (insert_entry text_cmp es t set) ≡ insert_key text_pair_cmp (text_pairs es) (t, n)
added_text t n set [] sorted absent one = rw one refl
added_text t n set (e ∷ es) sorted absent one = by (text_cmp t e.0) refl (λ rest. added_text t n set es (sorted_tail text_cmp e.0 (keys_of es) sorted) rest one)
  where
    by : (o : Ordering) → text_cmp t e.0 ≡ o → (lookup (is_at (text_cmp t)) es ≡ None → text_pairs (insert_entry text_cmp es t set) ≡ insert_key text_pair_cmp (text_pairs es) (t, n)) → text_pairs (insert_entry text_cmp (e ∷ es) t set) ≡ insert_key text_pair_cmp (text_pairs (e ∷ es)) (t, n)
    by Less h later =
        let above : AllByRecursion (λ p. text_pair_cmp (t, n) p ≡ Less) (text_pairs (e ∷ es)) = entries_above t n (e ∷ es) (h, above_from_less t e.0 (keys_of es) h (sorted_head text_cmp e.0 (keys_of es) sorted)) in
        rw (h, one) (sym (before text_pair_cmp (t, n) (text_pairs (e ∷ es)) above))
    by Equal h later = let found : Some e.1 ≡ None = rw h at absent in cc
    by Greater h later =
        let rest : lookup (is_at (text_cmp t)) es ≡ None = rw h at absent in
        rw (h, past text_pair_cmp (t, n) (pairs_of_entry e) (text_pairs es) (pairs_below t e.0 n e.1.keys h))
        (ap (λ (l : List (List ℕ × ℕ)). pairs_of_entry e ++ l) (later rest))

-- of a text that is there
pub added_number : (t : List ℕ) (n : ℕ) (old new : BTreeSet ℕ) (es : List (List ℕ × BTreeSet ℕ)) → IsStrictlySortedBy text_cmp (keys_of es) → lookup (is_at (text_cmp t)) es ≡ Some old → new.keys ≡ insert_key nat_cmp old.keys n → text_pairs (set_value (is_at (text_cmp t)) es new) ≡ insert_key text_pair_cmp (text_pairs es) (t, n)
added_number t n old new [] sorted found is = cc
added_number t n old new (e ∷ es) sorted found is = by (text_cmp t e.0) refl (λ rest. added_number t n old new es (sorted_tail text_cmp e.0 (keys_of es) sorted) rest is)
  where
    by : (o : Ordering) → text_cmp t e.0 ≡ o → (lookup (is_at (text_cmp t)) es ≡ Some old → text_pairs (set_value (is_at (text_cmp t)) es new) ≡ insert_key text_pair_cmp (text_pairs es) (t, n)) → text_pairs (set_value (is_at (text_cmp t)) (e ∷ es) new) ≡ insert_key text_pair_cmp (text_pairs (e ∷ es)) (t, n)
    by Less h later =
        let none : lookup (is_at (text_cmp t)) (e ∷ es) ≡ None = lookup-none _ (e ∷ es) (none_below_head nat_list_cmp_total t e es sorted h) in
        cc
    by Equal h later =
        let own : Some e.1 ≡ Some old = rw h at found in
        let same : e.1 ≡ old = cc in
        let text : t ≡ e.0 = exact_bytes t e.0 h in
        let above : AllByRecursion (λ p. text_pair_cmp (t, n) p ≡ Less) (text_pairs es) = entries_above t n es (above_from_equal t e.0 (keys_of es) h (sorted_head text_cmp e.0 (keys_of es) sorted)) in
        rw (h, is, ← same, ← text) (sym (added_to_own t n e.1.keys (text_pairs es) above))
    by Greater h later =
        let rest : lookup (is_at (text_cmp t)) es ≡ Some old = rw h at found in
        rw (h, past text_pair_cmp (t, n) (pairs_of_entry e) (text_pairs es) (pairs_below t e.0 n e.1.keys h))
        (ap (λ (l : List (List ℕ × ℕ)). pairs_of_entry e ++ l) (later rest))

-- ---- one number less

dropped_from_own : (t : List ℕ) (n : ℕ) (ks : List ℕ) (ys : List (List ℕ × ℕ)) → AllByRecursion (λ p. is_at (text_pair_cmp (t, n)) p ≡ false) ys → remove_key (is_at (text_pair_cmp (t, n))) (map (λ k. (t, k)) ks ++ ys) ≡ map (λ k. (t, k)) (remove_key (is_at (nat_cmp n)) ks) ++ ys
dropped_from_own t n [] ys apart = removed_none _ ys apart
dropped_from_own t n (k ∷ ks) ys apart =
    rw (tied_itself nat_list_cmp_total t)
    (elim (is_eq (nat_cmp n k)) as (λ b. cond b (map (λ i. (t, i)) ks ++ ys) ((t, k) ∷ remove_key (is_at (text_pair_cmp (t, n))) (map (λ i. (t, i)) ks ++ ys)) ≡ map (λ i. (t, i)) (cond b ks (k ∷ remove_key (is_at (nat_cmp n)) ks)) ++ ys)
    [ true ↦ refl | false ↦ ap (λ (l : List (List ℕ × ℕ)). (t, k) ∷ l) (dropped_from_own t n ks ys apart) ])

any_of_own : (t : List ℕ) (n : ℕ) (ks : List ℕ) (ys : List (List ℕ × ℕ)) → AllByRecursion (λ p. is_at (text_pair_cmp (t, n)) p ≡ false) ys → list_any (is_at (text_pair_cmp (t, n))) (map (λ k. (t, k)) ks ++ ys) ≡ list_any (is_at (nat_cmp n)) ks
any_of_own t n [] ys apart = any_none _ ys apart
any_of_own t n (k ∷ ks) ys apart =
    rw (tied_itself nat_list_cmp_total t) (ap (λ b. is_eq (nat_cmp n k) || b) (any_of_own t n ks ys apart))

-- later texts are other texts
later_apart : (t : List ℕ) (n : ℕ) (e : List ℕ × BTreeSet ℕ) (es : List (List ℕ × BTreeSet ℕ)) → IsStrictlySortedBy text_cmp (keys_of (e ∷ es)) → text_cmp t e.0 ≡ Equal → AllByRecursion (λ p. is_at (text_pair_cmp (t, n)) p ≡ false) (text_pairs es)
later_apart t n e es sorted h = apart_from_above t n (text_pairs es) (entries_above t n es (above_from_equal t e.0 (keys_of es) h (sorted_head text_cmp e.0 (keys_of es) sorted)))
  where
    apart_from_above : (t : List ℕ) (n : ℕ) (ps : List (List ℕ × ℕ)) → AllByRecursion (λ p. text_pair_cmp (t, n) p ≡ Less) ps → AllByRecursion (λ p. is_at (text_pair_cmp (t, n)) p ≡ false) ps
    apart_from_above t n [] above = tt
    apart_from_above t n (p ∷ ps) above = (ap is_eq above.0, apart_from_above t n ps above.1)

equal_from : (o : Ordering) → is_eq o ≡ true → o ≡ Equal
equal_from Less h = cc
equal_from Equal h = refl
equal_from Greater h = cc

-- What a number of a text that is there is among the pairs, and the pairs without it.
pub record DropsNumber (t : List ℕ) (n : ℕ) (es : List (List ℕ × BTreeSet ℕ)) (old new : BTreeSet ℕ) : Type 0 where
  pub test : list_any (is_at (nat_cmp n)) old.keys ≡ list_any (is_at (text_pair_cmp (t, n))) (text_pairs es)
  pub pairs : text_pairs (set_value (is_at (text_cmp t)) es new) ≡ remove_key (is_at (text_pair_cmp (t, n))) (text_pairs es)

pub dropped_number : (t : List ℕ) (n : ℕ) (old new : BTreeSet ℕ) (es : List (List ℕ × BTreeSet ℕ)) → IsStrictlySortedBy text_cmp (keys_of es) → lookup (is_at (text_cmp t)) es ≡ Some old → new.keys ≡ remove_key (is_at (nat_cmp n)) old.keys → DropsNumber t n es old new
dropped_number t n old new [] sorted found is = absurd (cc)
dropped_number t n old new (e ∷ es) sorted found is = by (is_eq (text_cmp t e.0)) refl (λ rest. dropped_number t n old new es (sorted_tail text_cmp e.0 (keys_of es) sorted) rest is)
  where
    by : (b : Bool) → is_eq (text_cmp t e.0) ≡ b → (lookup (is_at (text_cmp t)) es ≡ Some old → DropsNumber t n es old new) → DropsNumber t n (e ∷ es) old new
    by true h later =
        let own : Some e.1 ≡ Some old = rw h at found in
        let same : e.1 ≡ old = cc in
        let equal : text_cmp t e.0 ≡ Equal = equal_from (text_cmp t e.0) h in
        let text : t ≡ e.0 = exact_bytes t e.0 equal in
        let apart : AllByRecursion (λ p. is_at (text_pair_cmp (t, n)) p ≡ false) (text_pairs es) = later_apart t n e es sorted equal in
        record {
          test = rw (← same, ← text) (sym (any_of_own t n e.1.keys (text_pairs es) apart));
          pairs = rw (h, is, ← same, ← text) (sym (dropped_from_own t n e.1.keys (text_pairs es) apart));
        }
    by false h later =
        let rest : lookup (is_at (text_cmp t)) es ≡ Some old = rw h at found in
        let more : DropsNumber t n es old new = later rest in
        let apart : AllByRecursion (λ p. is_at (text_pair_cmp (t, n)) p ≡ false) (pairs_of_entry e) = pairs_apart t e.0 n e.1.keys h in
        record {
          test = more.test ∙ sym (any_past (is_at (text_pair_cmp (t, n))) (pairs_of_entry e) (text_pairs es) apart);
          pairs = rw (h, removed_past (is_at (text_pair_cmp (t, n))) (pairs_of_entry e) (text_pairs es) apart) (ap (λ (l : List (List ℕ × ℕ)). pairs_of_entry e ++ l) more.pairs);
        }

-- a text that isn't there has no pair
pub no_pair : (t : List ℕ) (n : ℕ) (es : List (List ℕ × BTreeSet ℕ)) → lookup (is_at (text_cmp t)) es ≡ None → (list_any (is_at (text_pair_cmp (t, n))) (text_pairs es) ≡ false) × (remove_key (is_at (text_pair_cmp (t, n))) (text_pairs es) ≡ text_pairs es)
no_pair t n es absent =
    let apart : AllByRecursion (λ p. is_at (text_pair_cmp (t, n)) p ≡ false) (text_pairs es) = entries_apart t n es (none_passes_from_lookup _ es absent) in
    (any_none _ (text_pairs es) apart, removed_none _ (text_pairs es) apart)

-- what was set is found
pub found_set : (test : List ℕ → Bool) (old new : BTreeSet ℕ) (es : List (List ℕ × BTreeSet ℕ)) → lookup test es ≡ Some old → lookup test (set_value test es new) ≡ Some new
found_set test old new [] found = cc
found_set test old new (e ∷ es) found = by (test e.0) refl (found_set test old new es)
  where
    by : (b : Bool) → test e.0 ≡ b → (lookup test es ≡ Some old → lookup test (set_value test es new) ≡ Some new) → lookup test (set_value test (e ∷ es) new) ≡ Some new
    by true h later = simp h
    by false h later = let rest : lookup test es ≡ Some old = rw h at found in simp h (later rest)

-- a text without numbers has no pair
pub without_empty : (test : List ℕ → Bool) (set : BTreeSet ℕ) (es : List (List ℕ × BTreeSet ℕ)) → lookup test es ≡ Some set → set.keys ≡ [] → text_pairs (remove_entry test es) ≡ text_pairs es
without_empty test set [] found empty = refl
without_empty test set (e ∷ es) found empty = by (test e.0) refl (λ rest. without_empty test set es rest empty)
  where
    by : (b : Bool) → test e.0 ≡ b → (lookup test es ≡ Some set → text_pairs (remove_entry test es) ≡ text_pairs es) → text_pairs (remove_entry test (e ∷ es)) ≡ text_pairs (e ∷ es)
    by true h later =
        let own : Some e.1 ≡ Some set = rw h at found in
        let same : e.1 ≡ set = cc in
        rw (h, same, empty) refl
    by false h later =
        let rest : lookup test es ≡ Some set = rw h at found in
        rw h (ap (λ (l : List (List ℕ × ℕ)). pairs_of_entry e ++ l) (later rest))

-- ---- ranges

-- all of a text's numbers, or none
own_range : (b : List ℕ → Bool) (s : List ℕ) (ks : List ℕ) → map (λ (p : List ℕ × ℕ). p.1) (filter (λ (p : List ℕ × ℕ). b p.0) (map (λ k. (s, k)) ks)) ≡ cond (b s) ks []
own_range b s [] = elim (b s) as (λ c. ◌≡◌ {A = List ℕ} [] (cond c [] [])) [ true ↦ refl | false ↦ refl ]
own_range b s (k ∷ ks) = by (b s) refl (own_range b s ks)
  where
    by : (c : Bool) → b s ≡ c → map (λ (p : List ℕ × ℕ). p.1) (filter (λ (p : List ℕ × ℕ). b p.0) (map (λ i. (s, i)) ks)) ≡ cond (b s) ks [] → map (λ (p : List ℕ × ℕ). p.1) (filter (λ (p : List ℕ × ℕ). b p.0) (map (λ k. (s, k)) (k ∷ ks))) ≡ cond (b s) (k ∷ ks) []
    by true h later = rw h (ap (λ (l : List ℕ). k ∷ l) (later ∙ ap (λ c. cond c ks []) h))
    by false h later = rw h (later ∙ ap (λ c. cond c ks []) h)

-- the numbers of the texts that pass a test
pub range_of_texts : (b : List ℕ → Bool) (es : List (List ℕ × BTreeSet ℕ)) → map (λ (p : List ℕ × ℕ). p.1) (filter (λ (p : List ℕ × ℕ). b p.0) (text_pairs es)) ≡ numbers_of (filter (λ (e : List ℕ × BTreeSet ℕ). b e.0) es)
range_of_texts b [] = refl
range_of_texts b (e ∷ es) =
    rw (filter-append (λ (p : List ℕ × ℕ). b p.0) (pairs_of_entry e) (text_pairs es), map-append (λ (p : List ℕ × ℕ). p.1) (filter (λ (p : List ℕ × ℕ). b p.0) (pairs_of_entry e)) (filter (λ (p : List ℕ × ℕ). b p.0) (text_pairs es)), own_range b e.0 e.1.keys, range_of_texts b es)
    (elim (b e.0) as (λ c. cond c e.1.keys [] ++ numbers_of (filter (λ (e : List ℕ × BTreeSet ℕ). b e.0) es) ≡ numbers_of (cond c (e ∷ filter (λ (e : List ℕ × BTreeSet ℕ). b e.0) es) (filter (λ (e : List ℕ × BTreeSet ℕ). b e.0) es))) [ true ↦ refl | false ↦ refl ])

-- the numbers of all texts
pub all_numbers : (es : List (List ℕ × BTreeSet ℕ)) → map (λ (p : List ℕ × ℕ). p.1) (text_pairs es) ≡ numbers_of es
all_numbers [] = refl
all_numbers (e ∷ es) = map-append (λ (p : List ℕ × ℕ). p.1) (pairs_of_entry e) (text_pairs es) ∙ own e.1.keys (all_numbers es)
  where
    own : (ks : List ℕ) → map (λ (p : List ℕ × ℕ). p.1) (text_pairs es) ≡ numbers_of es → map (λ (p : List ℕ × ℕ). p.1) (map (λ k. (e.0, k)) ks) ++ map (λ (p : List ℕ × ℕ). p.1) (text_pairs es) ≡ ks ++ numbers_of es
    own [] later = later
    own (k ∷ ks) later = ap (λ (l : List ℕ). k ∷ l) (own ks later)
