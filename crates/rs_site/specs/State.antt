-- The state of a site.
use Rattle.std.specs.Prelude.{ℕ, ◌+◌}
use Rattle.rs_base.specs.declared.txn.Txn.{Txn}
use Rattle.rs_mean.specs.Database.{empty}
use Rattle.rs_session.specs.Sessions.{all_fresh}
use Rattle.rs_site.specs.declared.who.Who.{Who}
use Rattle.rs_site.specs.declared.desk.Desk.{Desk}
use Rattle.rs_site.specs.declared.held.Held.{Held}

-- which site it is, what it has of its users, and what it stores
pub record SiteState : Type 0 where
  pub who : Who
  pub desk : Desk
  pub held : Held

-- no user's request was accepted, and no transaction begun
abbrev pub new_desk : Desk
new_desk = record { sessions = all_fresh; begun = 0 }

-- a site as it is opened
abbrev pub opened : ℕ → ℕ → SiteState
opened me sites = record {
  who = record { me = me; sites = sites; epoch = 1 };
  desk = new_desk;
  held = record { database = empty sites };
}

-- the next transaction of a site
abbrev pub next_txn : Who → Desk → Txn
next_txn who desk = record { site = who.me; epoch = who.epoch; number = desk.begun + 1 }
