-- What a coordinator counts.
use Rattle.std.proofs.Common.{◌≡◌, Bool, true, false, not, ◌&&◌, ◌||◌, cond, List, [], ◌∷◌, map, Option, Some, None, refl, sym, ap, ◌∙◌}
use Rattle.std.specs.Prelude.{find, is_none, option_map}
use Rattle.std.specs.List.{list_all, list_any}
use Rattle.rs_base.specs.declared.txn.Enlist.{Enlist}
use Rattle.rs_commit.specs.declared.coordinator.PartState.{PartState}
use Rattle.rs_commit.specs.Coordinator.{is_same, silent_part, with_vote, with_ack, have_all_voted, first_silent}
use Rattle.rs_commit.specs.Laws.{CoordinatorCounts, Counted, Vote, Ack, counts, coordinator_after, is_vote_of, is_ack_of, known}
use Rattle.rs_commit.proofs.Tests.{or_swap}

-- one function after another, over a list
pub map_over : {A B C : Type 0} (f : B → C) (g : A → B) (h : A → C) → ((x : A) → f (g x) ≡ h x) → (xs : List A) → map f (map g xs) ≡ map h xs
map_over f g h each [] = refl
map_over f g h each (x ∷ xs) = λ i. each x i ∷ map_over f g h each xs i

one_more : (latest : Counted) (before : List Counted) (part : Enlist) → counts latest (known before part) ≡ known (latest ∷ before) part
one_more (Vote from) before part = λ i. record {
  enlist = part;
  voted = or_swap (list_any (is_vote_of part) before) (is_same part from) i;
  acked = list_any (is_ack_of part) before;
}
one_more (Ack from) before part = λ i. record {
  enlist = part;
  voted = list_any (is_vote_of part) before;
  acked = or_swap (list_any (is_ack_of part) before) (is_same part from) i;
}

pub coordinator_counts : CoordinatorCounts
coordinator_counts [] parts = refl
coordinator_counts (latest ∷ before) parts =
    ap (map (counts latest)) (coordinator_counts before parts) ∙ map_over (counts latest) (known before) (known (latest ∷ before)) (one_more latest before) parts

-- no part is silent exactly if all have voted
pub none_silent : (parts : List PartState) → is_none (first_silent parts) ≡ have_all_voted parts
none_silent [] = refl
none_silent (part ∷ parts) = by_vote (none_silent parts) part.voted
  where
    by_vote : is_none (first_silent parts) ≡ have_all_voted parts → (voted : Bool)
        → is_none (option_map (λ (p : PartState). p.enlist) (cond (not voted) (Some part) (find (λ (p : PartState). not p.voted) parts))) ≡ (voted && have_all_voted parts)
    by_vote rest true = rest
    by_vote rest false = refl
