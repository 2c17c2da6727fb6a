-- Deliveries one after the other, and those of no datagram.
use Rattle.std.proofs.Common.{◌≡◌, ℕ, zero, suc, ◌+◌, ◌-◌, ◌<◌, ◌≤◌, List, [], ◌∷◌, length, replicate, fold, Option, Some, None, IsTrue, refl, sym, ap, ◌∙◌, inl, inr, arith}
use Rattle.std.specs.List.{slice_get, slice_index_or}
use Rattle.std.specs.Prelude.{nat_le}
use Rattle.std.proofs.lemmas.Bool.{cases_lt}
use Rattle.std.proofs.lemmas.Bool.Decides.{nat_tests}
use Rattle.rs_course.specs.declared.datagram.Datagram.{Datagram}
use Rattle.rs_course.specs.Course.{GiveNext, lowest_pending}
use Rattle.rs_site.specs.Course.{act}
use Rattle.rs_site.specs.World.{World}
use Rattle.rs_course.proofs.Pending.{get_below, get_past, none_pending, one_pending}
use Rattle.rs_site.proofs.Pending.{next_given, none_delivered, none_next, one_next}
use Rattle.rs_world.specs.Inside.{world_of}
use Rattle.rs_world.specs.declared.world.World.TheInside.{Inside}

pub get_of : {X : Type 0} (xs : List X) (i : ℕ) (x : X) → i < length xs → x ≡ slice_index_or xs i x → slice_get xs i ≡ Some x
get_of [] i x lt is = absurd (omega (arith, lt))
get_of {X} (y ∷ ys) zero x lt is = ap (λ (z : X). Some z) (sym is)
get_of (y ∷ ys) (suc i) x lt is = get_of ys i x (omega (arith, lt)) is

-- a delivery gives the datagram after those that were delivered, if there is one
pub gives_next : (a : Inside) (next : Option Datagram) → slice_get a.sent a.delivered ≡ next → act (world_of a) GiveNext ≡ next_given (world_of a) a.delivered next
gives_next a None e = none_next (world_of a) a.delivered refl (get_past a.sent a.delivered e)
gives_next a (Some datagram) e = one_next (world_of a) a.delivered refl (get_below a.sent a.delivered datagram e) datagram e

-- none is pending exactly if all were delivered
pub none_if_all : (a : Inside) → length a.sent ≤ a.delivered → lowest_pending (world_of a) ≡ None
none_if_all a le = none_pending (world_of a) a.delivered refl le

pub all_if_none : (a : Inside) → lowest_pending (world_of a) ≡ None → length a.sent ≤ a.delivered
all_if_none a none =
    elim (cases_lt a.delivered (length a.sent)) [
      | inl some ↦ absurd (let both : Some (a.delivered + 1) ≡ None = sym (one_pending (world_of a) a.delivered refl some) ∙ none in cc)
      | inr le ↦ le
    ]

-- if none is pending, deliveries do nothing
pub none_left : (n : ℕ) (world : World) → lowest_pending world ≡ None → fold act world (replicate n GiveNext) ≡ world
none_left zero world none = refl
none_left (suc n) world none = ap (λ (w : World). fold act w (replicate n GiveNext)) (none_delivered world none) ∙ none_left n world none

-- one of those that are still to come
pub one_of : (most turn : ℕ) (world : World) → turn < most → fold act world (replicate (most - turn) GiveNext) ≡ fold act (act world GiveNext) (replicate (most - (turn + 1)) GiveNext)
one_of most turn world lt =
    let parts : most - turn ≡ suc (most - (turn + 1)) = omega arith in
    ap (λ (n : ℕ). fold act world (replicate n GiveNext)) parts

-- the test of that
pub settled_if : (a : Inside) (n : ℕ) → n ≡ length a.sent → (IsTrue (nat_le n a.delivered) → lowest_pending (world_of a) ≡ None) × (lowest_pending (world_of a) ≡ None → IsTrue (nat_le n a.delivered))
settled_if a n is = (λ all. none_if_all a (let le : length a.sent ≤ a.delivered = grind (arith, nat_tests, is, all) in le), λ none. let le = all_if_none a none in grind (arith, nat_tests, is, le))
