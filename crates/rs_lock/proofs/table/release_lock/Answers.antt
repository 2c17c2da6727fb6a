use Rattle.std.proofs.Common.{List, sym, ap, ◌∙◌}
use Rattle.std.specs.BTreeMap.{BTreeMap, is_at}
use Rattle.std.specs.Option.{option_copied_mut}
use Rattle.rs_base.specs.declared.lock.Resource.{Resource}
use Rattle.std.specs.Map.{remove_entry}
use Rattle.rs_base.specs.declared.txn.Enlist.{Enlist}
use Rattle.rs_lock.specs.Lock.{Lock, released}
use Rattle.rs_lock.specs.Locks.{Table}
use Rattle.rs_lock.proofs.Orders.{derived_cmp}
use Rattle.rs_lock.proofs.Tables.{released_none, released_kept, released_free}
use Rattle.rs_lock.proofs.table.release_lock.Goals as goal

pub returns-in_default : goal.returns-in_default
returns-in_default c =
    let granted : List Enlist = c.args.granted.now in
    ap (λ (table : BTreeMap Resource Lock). (table.entries, granted)) c.get_mut.follows.holds-at-none
    ∙ ap (λ (es : List Enlist). (c.args.table.now.entries, es)) c.requires
    ∙ released_none c.args.what.now c.args.table.now.entries c.args.who.now (sym c.get_mut.ensures.value ∙ ap option_copied_mut c.in_default.is)

pub returns-then-is_free : goal.returns-then-is_free
returns-then-is_free c =
    released_free c.args.what.now c.args.table.now.entries c.args.who.now c.in-Some.lock.now c.release.new.self c.release.new.granted _ (sym c.in-Some.ensures.value)
    (c.remove-free.ensures.entries ∙ ap (λ (table : Table). remove_entry (is_at (derived_cmp c.args.what.now)) table) (c.get_mut.follows.holds c.release.new.self).0)
    (c.in_ok-release.ensures ∙ ap (released c.args.who.now c.in-Some.lock.now) c.requires) (sym c.is_free.ensures ∙ c.if-is_free.true)

pub returns-else-is_free : goal.returns-else-is_free
returns-else-is_free c =
    released_kept c.args.what.now c.args.table.now.entries c.args.who.now c.in-Some.lock.now c.release.new.self c.release.new.granted _ c.get_mut.ensures.ordered (sym c.in-Some.ensures.value)
    (c.get_mut.follows.holds c.release.new.self).0 (c.in_ok-release.ensures ∙ ap (released c.args.who.now c.in-Some.lock.now) c.requires) (sym c.is_free.ensures ∙ c.if-is_free.false)
