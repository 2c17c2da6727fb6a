-- Claims of enlistments to one resource: the claims that hold it, or those that wait for it.
use Rattle.std.specs.Prelude.{Bool, true, false, ◌&&◌, not, List, Option, find, filter}
use Rattle.std.specs.List.{list_any}
use Rattle.std.specs.Option.{option_map}
use Rattle.std.specs.Ordering.{is_eq}
use Rattle.rs_base.specs.declared.lock.Mode.{Mode}
use Rattle.rs_base.specs.declared.lock.Mode.TheVariants as modes
use Rattle.rs_base.specs.declared.txn.Enlist.{Enlist}
use Rattle.rs_base.specs.Txn.{enlist_cmp}
use Rattle.rs_lock.specs.declared.claim.Claim.{Claim}

-- ---- modes

abbrev pub is_write : Mode → Bool
is_write modes.Read = false
is_write modes.Write = true

-- two modes conflict unless both are for reading
abbrev pub conflicts : Mode → Mode → Bool
conflicts modes.Read other = is_write other
conflicts modes.Write other = true

-- a lock for writing covers reading
abbrev pub covers : Mode → Mode → Bool
covers modes.Read asked = not (is_write asked)
covers modes.Write asked = true

-- ---- claims

abbrev pub same : Enlist → Enlist → Bool
same one other = is_eq (enlist_cmp one other)

-- the claim is by this enlistment
abbrev pub is_by : Enlist → Claim → Bool
is_by who claim = same who claim.who

-- one of the claims is by this enlistment
abbrev pub has : Enlist → List Claim → Bool
has who claims = list_any (is_by who) claims

-- the mode of its first claim, if it has one
abbrev pub mode_of : Enlist → List Claim → Option Mode
mode_of who claims = option_map (λ claim. claim.mode) (find (is_by who) claims)

-- whose the first claim of another enlistment is, if there is one
abbrev pub other_than : Enlist → List Claim → Option Enlist
other_than who claims = option_map (λ claim. claim.who) (find (λ claim. not (is_by who claim)) claims)

-- the claims of all others
abbrev pub without : Enlist → List Claim → List Claim
without who claims = filter (λ claim. not (is_by who claim)) claims

-- the claim of this holder is another enlistment's, and conflicts
abbrev pub stands_against : Claim → Claim → Bool
stands_against claim holder = not (is_by claim.who holder) && conflicts claim.mode holder.mode

-- another holder conflicts
abbrev pub is_refused : Claim → List Claim → Bool
is_refused claim holders = list_any (stands_against claim) holders

-- the claim of this holder is the enlistment's own, and its mode covers the one that is asked for
abbrev pub covers_claim : Claim → Claim → Bool
covers_claim claim holder = is_by claim.who holder && covers holder.mode claim.mode

-- the enlistment holds the resource in a mode that covers the one that is asked for
abbrev pub is_covered : Claim → List Claim → Bool
is_covered claim holders = list_any (covers_claim claim) holders
