-- The two parts of an index, integers and texts, after a change of one of them.
use Rattle.std.proofs.Common.{◌≡◌, ℕ, ℤ, true, false, cond, ◌||◌, List, [], ◌∷◌, ◌++◌, map, refl, ap}
use Rattle.std.specs.List.{list_any}
use Rattle.std.specs.Ordering.{match_ordering}
use Rattle.std.specs.declared.cmp.Ordering.TheVariants.{Less, Equal, Greater}
use Rattle.std.specs.BTreeMap.{is_at}
use Rattle.std.specs.BTreeSet.{insert_key}
use Rattle.std.specs.Set.{remove_key}
use Rattle.rs_base.specs.declared.value.Value.{Value}
use Rattle.rs_base.specs.declared.value.Value.TheVariants.{Int, Text}
use Rattle.rs_index.specs.IndexInside.{int_pair, text_pair}
use Rattle.rs_index.specs.Pairs.{added, dropped, has}
use Rattle.rs_index.specs.TextPairs.{text_pair_cmp}
use Rattle.rs_index.specs.IntPairs.{int_pair_cmp}

-- ---- an integer

-- it is before all texts
pub int_added : (z : ℤ) (n : ℕ) (ks : List (ℤ × ℕ)) (ts : List (List ℕ × ℕ)) → added (Int z, n) (map int_pair ks ++ map text_pair ts) ≡ map int_pair (insert_key int_pair_cmp ks (z, n)) ++ map text_pair ts
int_added z n [] [] = refl
int_added z n [] (t ∷ ts) = refl
int_added z n (k ∷ ks) ts =
    elim (int_pair_cmp (z, n) k) as (λ o. match_ordering o ((Int z, n) ∷ int_pair k ∷ (map int_pair ks ++ map text_pair ts)) (int_pair k ∷ (map int_pair ks ++ map text_pair ts)) (int_pair k ∷ added (Int z, n) (map int_pair ks ++ map text_pair ts)) ≡ map int_pair (match_ordering o ((z, n) ∷ k ∷ ks) (k ∷ ks) (k ∷ insert_key int_pair_cmp ks (z, n))) ++ map text_pair ts)
    [ Less ↦ refl | Equal ↦ refl | Greater ↦ ap (λ (l : List (Value × ℕ)). int_pair k ∷ l) (int_added z n ks ts) ]

no_int_among_texts : (z : ℤ) (n : ℕ) (ts : List (List ℕ × ℕ)) → (has (Int z, n) (map text_pair ts) ≡ false) × (dropped (Int z, n) (map text_pair ts) ≡ map text_pair ts)
no_int_among_texts z n [] = (refl, refl)
no_int_among_texts z n (t ∷ ts) = let rest = no_int_among_texts z n ts in (rest.0, ap (λ (l : List (Value × ℕ)). text_pair t ∷ l) rest.1)

pub int_has : (z : ℤ) (n : ℕ) (ks : List (ℤ × ℕ)) (ts : List (List ℕ × ℕ)) → has (Int z, n) (map int_pair ks ++ map text_pair ts) ≡ list_any (is_at (int_pair_cmp (z, n))) ks
int_has z n [] ts = (no_int_among_texts z n ts).0
int_has z n (k ∷ ks) ts = ap (λ b. is_at (int_pair_cmp (z, n)) k || b) (int_has z n ks ts)

pub int_dropped : (z : ℤ) (n : ℕ) (ks : List (ℤ × ℕ)) (ts : List (List ℕ × ℕ)) → dropped (Int z, n) (map int_pair ks ++ map text_pair ts) ≡ map int_pair (remove_key (is_at (int_pair_cmp (z, n))) ks) ++ map text_pair ts
int_dropped z n [] ts = (no_int_among_texts z n ts).1
int_dropped z n (k ∷ ks) ts =
    elim (is_at (int_pair_cmp (z, n)) k) as (λ b. cond b (map int_pair ks ++ map text_pair ts) (int_pair k ∷ dropped (Int z, n) (map int_pair ks ++ map text_pair ts)) ≡ map int_pair (cond b ks (k ∷ remove_key (is_at (int_pair_cmp (z, n))) ks)) ++ map text_pair ts)
    [ true ↦ refl | false ↦ ap (λ (l : List (Value × ℕ)). int_pair k ∷ l) (int_dropped z n ks ts) ]

-- ---- a text

texts_added : (t : List ℕ) (n : ℕ) (ts : List (List ℕ × ℕ)) → added (Text t, n) (map text_pair ts) ≡ map text_pair (insert_key text_pair_cmp ts (t, n))
texts_added t n [] = refl
texts_added t n (p ∷ ts) =
    elim (text_pair_cmp (t, n) p) as (λ o. match_ordering o ((Text t, n) ∷ text_pair p ∷ map text_pair ts) (text_pair p ∷ map text_pair ts) (text_pair p ∷ added (Text t, n) (map text_pair ts)) ≡ map text_pair (match_ordering o ((t, n) ∷ p ∷ ts) (p ∷ ts) (p ∷ insert_key text_pair_cmp ts (t, n))))
    [ Less ↦ refl | Equal ↦ refl | Greater ↦ ap (λ (l : List (Value × ℕ)). text_pair p ∷ l) (texts_added t n ts) ]

texts_dropped : (t : List ℕ) (n : ℕ) (ts : List (List ℕ × ℕ)) → dropped (Text t, n) (map text_pair ts) ≡ map text_pair (remove_key (is_at (text_pair_cmp (t, n))) ts)
texts_dropped t n [] = refl
texts_dropped t n (p ∷ ts) =
    elim (is_at (text_pair_cmp (t, n)) p) as (λ b. cond b (map text_pair ts) (text_pair p ∷ dropped (Text t, n) (map text_pair ts)) ≡ map text_pair (cond b ts (p ∷ remove_key (is_at (text_pair_cmp (t, n))) ts)))
    [ true ↦ refl | false ↦ ap (λ (l : List (Value × ℕ)). text_pair p ∷ l) (texts_dropped t n ts) ]

texts_have : (t : List ℕ) (n : ℕ) (ts : List (List ℕ × ℕ)) → has (Text t, n) (map text_pair ts) ≡ list_any (is_at (text_pair_cmp (t, n))) ts
texts_have t n [] = refl
texts_have t n (p ∷ ts) = ap (λ b. is_at (text_pair_cmp (t, n)) p || b) (texts_have t n ts)

-- it is after all integers
pub text_added : (t : List ℕ) (n : ℕ) (ks : List (ℤ × ℕ)) (ts : List (List ℕ × ℕ)) → added (Text t, n) (map int_pair ks ++ map text_pair ts) ≡ map int_pair ks ++ map text_pair (insert_key text_pair_cmp ts (t, n))
text_added t n [] ts = texts_added t n ts
text_added t n (k ∷ ks) ts = ap (λ (l : List (Value × ℕ)). int_pair k ∷ l) (text_added t n ks ts)

pub text_has : (t : List ℕ) (n : ℕ) (ks : List (ℤ × ℕ)) (ts : List (List ℕ × ℕ)) → has (Text t, n) (map int_pair ks ++ map text_pair ts) ≡ list_any (is_at (text_pair_cmp (t, n))) ts
text_has t n [] ts = texts_have t n ts
text_has t n (k ∷ ks) ts = text_has t n ks ts

pub text_dropped : (t : List ℕ) (n : ℕ) (ks : List (ℤ × ℕ)) (ts : List (List ℕ × ℕ)) → dropped (Text t, n) (map int_pair ks ++ map text_pair ts) ≡ map int_pair ks ++ map text_pair (remove_key (is_at (text_pair_cmp (t, n))) ts)
text_dropped t n [] ts = texts_dropped t n ts
text_dropped t n (k ∷ ks) ts = ap (λ (l : List (Value × ℕ)). int_pair k ∷ l) (text_dropped t n ks ts)
