-- Rows sorted by their group's values: each run of equal ones is a group.
use Rattle.std.proofs.Common.{◌≡◌, ℕ, ◌+◌, ◌<◌, List, [], ◌∷◌, ◌++◌, Bool, true, false, not, length, take, drop, get_or, map, Option, zero, suc, take-append-drop, Ordering, refl, sym, ap, ◌∙◌, subst, arith, append-nil}
use Rattle.std.specs.List.{filter, prefix_len, AllByRecursion}
use Rattle.std.proofs.lemmas.Bool.{cond_both, cond-true, cond-false}
use Rattle.std.proofs.lemmas.List.Elements.{filter-append}
use Rattle.rs_base.specs.declared.value.Value.{Value}
use Rattle.rs_answer.specs.Groups.{once, group_values, group_cmp, same_group, members_of, grouped_by}
use Rattle.rs_answer.proofs.Arranged.{Rising, NoneBelow}
use Rattle.rs_answer.proofs.Counted.{Decides, ties_decide, all_once, test_turns, others_after}
use Rattle.rs_answer.proofs.Orders.{group_total, group_exact}

-- ---- filters

pub filter_all : {X : Type 0} (p : X → Bool) (xs : List X) → AllByRecursion (λ x. p x ≡ true) xs → filter p xs ≡ xs
filter_all p [] all = refl
filter_all p (x ∷ xs) all = cond-true (p x) _ _ all.0 ∙ ap (λ ys. x ∷ ys) (filter_all p xs all.1)

pub filter_none : {X : Type 0} (p : X → Bool) (xs : List X) → AllByRecursion (λ x. p x ≡ false) xs → filter p xs ≡ []
filter_none p [] all = refl
filter_none p (x ∷ xs) all = cond-false (p x) _ _ all.0 ∙ filter_none p xs all.1

passes : {X : Type 0} (p : X → Bool) (xs : List X) → AllByRecursion (λ x. p x ≡ true) (filter p xs)
passes p [] = tt
passes p (x ∷ xs) =
    cond_both (p x) (x ∷ filter p xs) (filter p xs) (λ ys. AllByRecursion (λ y. p y ≡ true) ys)
    (λ (e : p x ≡ true). (e, passes p xs)) (λ (e : p x ≡ false). passes p xs)

-- ---- what holds of each element

pub all_map : {X Y : Type 0} (P : Y → Type 0) (f : X → Y) (xs : List X) → AllByRecursion (λ x. P (f x)) xs → AllByRecursion P (map f xs)
all_map P f [] all = tt
all_map P f (x ∷ xs) all = (all.0, all_map P f xs all.1)

pub all_weaker : {X : Type 0} (P Q : X → Type 0) → ((x : X) → P x → Q x) → (xs : List X) → AllByRecursion P xs → AllByRecursion Q xs
all_weaker P Q f [] all = tt
all_weaker P Q f (x ∷ xs) all = (f x all.0, all_weaker P Q f xs all.1)

pub map_agree : {X Y : Type 0} (f g : X → Y) (xs : List X) → AllByRecursion (λ x. f x ≡ g x) xs → map f xs ≡ map g xs
map_agree f g [] all = refl
map_agree f g (x ∷ xs) all = let here = all.0 in let rest = map_agree f g xs all.1 in cc

pub group_decides : Decides same_group
group_decides = ties_decide group_total group_exact

pub rising_drop : {X : Type 0} (R : X → X → Ordering) (n : ℕ) (xs : List X) → Rising R xs → Rising R (drop n xs)
rising_drop R zero xs up = up
rising_drop R (suc n) [] up = tt
rising_drop R (suc n) (x ∷ xs) up = rising_drop R n xs up.1

one_more : (n : ℕ) → suc n ≡ 1 + n
one_more n = omega arith

module _ (column_indexes : List ℕ) where
  -- the row is of the group of these values, or isn't
  abbrev IsOf : List (Option Value) → Bool → List Value → Type 0
  IsOf values is row = same_group values (group_values column_indexes row) ≡ is

  ---- a run and what follows it

  keys_after : (k : List (Option Value)) (run others : List (List Value)) → AllByRecursion (IsOf k true) run → AllByRecursion (IsOf k false) others
      → filter (λ other. not (same_group k other)) (once same_group (map (group_values column_indexes) (run ++ others))) ≡ once same_group (map (group_values column_indexes) others)
  keys_after k [] others all none =
      filter_all (λ other. not (same_group k other)) (once same_group (map (group_values column_indexes) others))
      (all_once same_group (λ v. not (same_group k v) ≡ true) (map (group_values column_indexes) others)
      (all_map (λ v. not (same_group k v) ≡ true) (group_values column_indexes) others
      (all_weaker (IsOf k false) (λ row. not (same_group k (group_values column_indexes row)) ≡ true) (λ row e. ap not e) others none)))
  keys_after k (row ∷ run) others all none =
      let values = once same_group (map (group_values column_indexes) (run ++ others)) in
      let alike : k ≡ group_values column_indexes row = group_decides.exact k (group_values column_indexes row) all.0 in
      let dropped : not (same_group k (group_values column_indexes row)) ≡ false = ap not all.0 in
      cond-false (not (same_group k (group_values column_indexes row))) _ _ dropped
      ∙ ap (λ v. filter (λ other. not (same_group k other)) (filter (λ other. not (same_group v other)) values)) (sym alike)
      ∙ filter_all (λ other. not (same_group k other)) (filter (λ other. not (same_group k other)) values) (passes (λ other. not (same_group k other)) values)
      ∙ keys_after k run others all.1 none

  members_after : (k v : List (Option Value)) (run others : List (List Value)) → AllByRecursion (IsOf k true) run → same_group k v ≡ false
      → members_of column_indexes (run ++ others) v ≡ members_of column_indexes others v
  members_after k v run others all differs =
      let none : AllByRecursion (IsOf v false) run
      = all_weaker (IsOf k true) (IsOf v false)
      (λ row e. ap (same_group v) (sym (group_decides.exact k (group_values column_indexes row) e)) ∙ test_turns same_group group_decides v k ∙ differs) run all in
      filter-append (λ row. same_group v (group_values column_indexes row)) run others
      ∙ ap (λ rows. rows ++ members_of column_indexes others v) (filter_none (λ row. same_group v (group_values column_indexes row)) run none)

  members_ahead : (k : List (Option Value)) (run others : List (List Value)) → AllByRecursion (IsOf k true) run → AllByRecursion (IsOf k false) others
      → members_of column_indexes (run ++ others) k ≡ run
  members_ahead k run others all none =
      let alike : List Value → Bool = λ row. same_group k (group_values column_indexes row) in
      filter-append alike run others
      ∙ ap (λ rows. rows ++ filter alike others) (filter_all alike run all)
      ∙ ap (λ rows. run ++ rows) (filter_none alike others none)
      ∙ append-nil run

  run_ahead : (first : List Value) (run others : List (List Value)) → AllByRecursion (IsOf (group_values column_indexes first) true) run → AllByRecursion (IsOf (group_values column_indexes first) false) others
      → grouped_by column_indexes (first ∷ (run ++ others)) ≡ (first ∷ run) ∷ grouped_by column_indexes others
  run_ahead first run others all none =
      let k = group_values column_indexes first in
      let whole : AllByRecursion (IsOf k true) (first ∷ run) = (group_decides.itself k, all) in
      let here : members_of column_indexes (first ∷ (run ++ others)) k ≡ first ∷ run = members_ahead k (first ∷ run) others whole none in
      let suffix = keys_after k run others all none in
      let values = once same_group (map (group_values column_indexes) others) in
      let agree : map (members_of column_indexes (first ∷ (run ++ others))) values ≡ map (members_of column_indexes others) values
      = map_agree (members_of column_indexes (first ∷ (run ++ others))) (members_of column_indexes others) values
      (all_once same_group _ (map (group_values column_indexes) others)
      (all_map (λ v. members_of column_indexes (first ∷ (run ++ others)) v ≡ members_of column_indexes others v) (group_values column_indexes) others
      (all_weaker (IsOf k false) (λ row. members_of column_indexes (first ∷ (run ++ others)) (group_values column_indexes row) ≡ members_of column_indexes others (group_values column_indexes row))
      (λ row e. members_after k (group_values column_indexes row) (first ∷ run) others whole e) others none))) in
      ap (λ groups. members_of column_indexes (first ∷ (run ++ others)) k ∷ groups) (ap (map (members_of column_indexes (first ∷ (run ++ others)))) suffix ∙ agree)
      ∙ ap (λ group. group ∷ grouped_by column_indexes others) here

  ---- the first run

  abbrev pub by_group : List Value → List Value → Ordering
  by_group one other = group_cmp (group_values column_indexes one) (group_values column_indexes other)

  abbrev pub alike_to : List Value → List Value → Bool
  alike_to first row = same_group (group_values column_indexes first) (group_values column_indexes row)

  prefix_passes : (p : List Value → Bool) (rows : List (List Value)) → AllByRecursion (λ row. p row ≡ true) (take (prefix_len p rows) rows)
  prefix_passes p [] = tt
  prefix_passes p (row ∷ rows) =
      cond_both (p row) (1 + prefix_len p rows) 0 (λ n. AllByRecursion (λ row. p row ≡ true) (take n (row ∷ rows)))
      (λ (e : p row ≡ true). subst (λ n. AllByRecursion (λ row. p row ≡ true) (take n (row ∷ rows))) (one_more (prefix_len p rows)) (e, prefix_passes p rows))
      (λ (e : p row ≡ false). tt)

  suffix_differs : (first : List Value) (rows : List (List Value)) → NoneBelow by_group first rows → Rising by_group rows
      → AllByRecursion (IsOf (group_values column_indexes first) false) (drop (prefix_len (alike_to first) rows) rows)
  suffix_differs first [] low up = tt
  suffix_differs first (row ∷ rows) low up =
      cond_both (alike_to first row) (1 + prefix_len (alike_to first) rows) 0 (λ n. AllByRecursion (IsOf (group_values column_indexes first) false) (drop n (row ∷ rows)))
      (λ (e : alike_to first row ≡ true).
      subst (λ n. AllByRecursion (IsOf (group_values column_indexes first) false) (drop n (row ∷ rows))) (one_more (prefix_len (alike_to first) rows)) (suffix_differs first rows low.1 up.1))
      (λ (e : alike_to first row ≡ false).
      (e, others_after group_total group_exact same_group group_decides (group_values column_indexes) (group_values column_indexes first) (group_values column_indexes row) rows low.0 e up.0))

  cut : (first : List Value) (rows : List (List Value)) (n m : ℕ) → n ≡ suc m → m ≡ prefix_len (alike_to first) rows → Rising by_group (first ∷ rows)
      → grouped_by column_indexes (first ∷ rows) ≡ take n (first ∷ rows) ∷ grouped_by column_indexes (drop n (first ∷ rows))
  cut first rows n m more is up =
      let run = take (prefix_len (alike_to first) rows) rows in
      let others = drop (prefix_len (alike_to first) rows) rows in
      let whole : run ++ others ≡ rows = take-append-drop (prefix_len (alike_to first) rows) rows in
      let at : grouped_by column_indexes (first ∷ rows) ≡ (first ∷ run) ∷ grouped_by column_indexes others
      = ap (λ rows. grouped_by column_indexes (first ∷ rows)) (sym whole) ∙ run_ahead first run others (prefix_passes (alike_to first) rows) (suffix_differs first rows up.0 up.1) in
      at ∙ ap (λ n. take n (first ∷ rows) ∷ grouped_by column_indexes (drop n (first ∷ rows))) (ap (λ (k : ℕ). suc k) (sym is) ∙ sym more)

  prefix_length : (first : List Value) (rows : List (List Value)) → prefix_len (alike_to first) (first ∷ rows) ≡ suc (prefix_len (alike_to first) rows)
  prefix_length first rows = cond-true (alike_to first first) _ _ (group_decides.itself (group_values column_indexes first)) ∙ sym (one_more (prefix_len (alike_to first) rows))

  -- what a loop finds first in what is left
  pub run_cut : (first : List Value) (rest : List (List Value)) (n : ℕ) → 0 < length rest → first ≡ get_or rest 0 first → n ≡ prefix_len (alike_to first) rest → Rising by_group rest
      → grouped_by column_indexes rest ≡ take n rest ∷ grouped_by column_indexes (drop n rest)
  run_cut first [] n some is e up = absurd (omega (arith, some))
  run_cut first (row ∷ rows) n some is e up =
      let at : n ≡ prefix_len (alike_to row) (row ∷ rows) = e ∙ ap (λ r. prefix_len (alike_to r) (row ∷ rows)) is in
      cut row rows n (prefix_len (alike_to row) rows) (at ∙ prefix_length row rows) refl up

  pub run_some : (first : List Value) (rest : List (List Value)) (n : ℕ) → 0 < length rest → first ≡ get_or rest 0 first → n ≡ prefix_len (alike_to first) rest → 0 < n
  run_some first [] n some is e = absurd (omega (arith, some))
  run_some first (row ∷ rows) n some is e =
      let at : n ≡ prefix_len (alike_to row) (row ∷ rows) = e ∙ ap (λ r. prefix_len (alike_to r) (row ∷ rows)) is in
      omega (arith, at ∙ prefix_length row rows)
