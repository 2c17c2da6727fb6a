-- Entries of transactions that a history doesn't have yet.
use Rattle.std.proofs.Common.{◌≡◌, ℕ, suc, ◌+◌, ◌<◌, ◌≤◌, ◌||◌, Bool, true, false, cond, inl, inr, List, [], ◌∷◌, ◌++◌, Some, refl, sym, ap, subst, ◌∙◌, append_assoc, arith, nat_cmp, is_eq, Ordering, Less, Equal, Greater}
use Rattle.std.specs.BTreeMap.{is_at}
use Rattle.std.specs.List.{slice_get}
use Rattle.std.specs.Ordering.{ordering_then}
use Rattle.std.proofs.lemmas.List.{append-nil}
use Rattle.rs_base.specs.declared.peer.Peer.{Peer}
use Rattle.rs_base.specs.declared.txn.Origin.{Origin}
use Rattle.rs_base.specs.declared.txn.Txn.{Txn}
use Rattle.rs_base.specs.Txn.{txn_cmp}
use Rattle.rs_site.specs.Planned.{Planned}
use Rattle.rs_site.specs.State.{SiteState, next_txn}
use Rattle.rs_course.specs.declared.outs.Decided.{Decided}
use Rattle.rs_site.proofs.Asked.{Asked, Refused, RepliedAgain, Silent, NoRequest, Spent, Executed}
use Rattle.rs_course.specs.History.{has_txn, entered, with_entries}
use Rattle.law_world.proofs.Gets.{get_push}

-- ---- a history only grows

-- what a history has become, if it has only grown
abbrev pub Longer : List Decided → List Decided → Type 0
Longer history longer = (more : List Decided) × (longer ≡ history ++ more)

grows_by_one : (b : Bool) (history : List Decided) (entry : Decided) → Longer history (cond b history (history ++ entry ∷ []))
grows_by_one true history entry = ([], sym (append-nil history))
grows_by_one false history entry = (entry ∷ [], refl)

longer_still : (history longer longest : List Decided) → Longer history longer → Longer longer longest → Longer history longest
longer_still history longer longest one two = (one.0 ++ two.0, two.1 ∙ ap (λ (all : List Decided). all ++ two.0) one.1 ∙ append_assoc history one.0 two.0)

-- whatever comes to a history comes to its end
pub grows_entries : (history entries : List Decided) → Longer history (with_entries history entries)
grows_entries history [] = ([], sym (append-nil history))
grows_entries history (entry ∷ entries) =
    longer_still history (entered history entry) (with_entries (entered history entry) entries) (grows_by_one (has_txn entry.txn history) history entry) (grows_entries (entered history entry) entries)

-- ---- transactions that are above all of a history

-- the transactions of the entries have numbers that the site has begun
abbrev pub AreBelow : SiteState → List Decided → Type 0
AreBelow site history = (i : ℕ) (entry : Decided) → slice_get history i ≡ Some entry → entry.txn.number ≤ site.desk.begun

differs : (a b : Txn) → a.number < b.number → is_at (txn_cmp a) b ≡ false
differs a b lt = by (nat_cmp a.site b.site) (nat_cmp a.epoch b.epoch) (nat_cmp a.number b.number) (let less : nat_cmp a.number b.number ≡ Less = grind (arith, lt) in less)
  where
    by : (x y z : Ordering) → z ≡ Less → is_eq (ordering_then x (ordering_then y z)) ≡ false
    by Less y z e = refl
    by Greater y z e = refl
    by Equal Less z e = refl
    by Equal Greater z e = refl
    by Equal Equal z e = ap is_eq e

no_txn : (txn : Txn) (history : List Decided) → ((i : ℕ) (entry : Decided) → slice_get history i ≡ Some entry → entry.txn.number < txn.number) → has_txn txn history ≡ false
no_txn txn [] below = refl
no_txn txn (entry ∷ entries) below =
    ap (λ (b : Bool). b || has_txn txn entries) (differs entry.txn txn (below 0 entry refl)) ∙ no_txn txn entries (λ i e at. below (suc i) e at)

-- ---- an ask is received

module _ (site : SiteState) (from : Peer) (origin : Origin) (text : List ℕ) (history : List Decided) (below : AreBelow site history) where
  abbrev Comes : Planned → Type 0
  Comes came = with_entries history came.outs.decided ≡ history ++ came.outs.decided

  abbrev entry : Decided
  entry = record { txn = next_txn site.who site.desk; origin = origin; text = text }

  -- the entry that comes is of a new transaction
  pub fresh_received : (came : Planned) → Asked site from origin text came → Comes came
  fresh_received came (Refused reply refusal is e) = subst Comes (sym e) (sym (append-nil history))
  fresh_received came (RepliedAgain reply last kept e) = subst Comes (sym e) (sym (append-nil history))
  fresh_received came (Silent last kept e) = subst Comes (sym e) (sym (append-nil history))
  fresh_received came (NoRequest next none e) = subst Comes (sym e) (sym (append-nil history))
  fresh_received came (Spent next stmt reads spent e) = subst Comes (sym e) (sym (append-nil history))
  fresh_received came (Executed next stmt reads room e) = subst Comes (sym e)
      (ap (λ (b : Bool). cond b history (history ++ entry ∷ [])) (no_txn entry.txn history (λ i e at. let le = below i e at in omega (arith, le))))

  abbrev Stays : Planned → Type 0
  Stays came = AreBelow came.after (history ++ came.outs.decided)

  same_below : AreBelow site (history ++ [])
  same_below = subst (AreBelow site) (sym (append-nil history)) below

  next_below : (i : ℕ) (e : Decided) → slice_get (history ++ entry ∷ []) i ≡ Some e → e.txn.number ≤ site.desk.begun + 1
  next_below i e at =
      elim (get_push history entry e i at) [
        | inl p ↦ let le = below i e p.1 in omega (arith, le)
        | inr p ↦ subst (λ (x : Decided). x.txn.number ≤ site.desk.begun + 1) p.1 (let le : site.desk.begun + 1 ≤ site.desk.begun + 1 = omega arith in le)
      ]

  pub below_received : (came : Planned) → Asked site from origin text came → Stays came
  below_received came (Refused reply refusal is e) = subst Stays (sym e) same_below
  below_received came (RepliedAgain reply last kept e) = subst Stays (sym e) same_below
  below_received came (Silent last kept e) = subst Stays (sym e) same_below
  below_received came (NoRequest next none e) = subst Stays (sym e) same_below
  below_received came (Spent next stmt reads spent e) = subst Stays (sym e) same_below
  below_received came (Executed next stmt reads room e) = subst Stays (sym e) next_below
