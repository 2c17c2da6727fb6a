-- The text of a system-wide name: the printed form of a name whose parts are two identifiers and two sites.
use Rattle.std.specs.Prelude.{◌≡◌, ℕ, ◌≤◌, List, IsTrue}
use Rattle.rs_base.specs.Ident.{is_ident}
use Rattle.rs_base.specs.Printing.{printed_swn}
use Rattle.rs_base.specs.declared.name.Swn.{Swn}

abbrev pub IsSite : ℕ → Type 0
IsSite n = (1 ≤ n) × (n ≤ 16)

pub record IsName (name : Swn) : Type 0 where
  pub creator : IsTrue (is_ident name.creator)
  pub creator_site : IsSite name.creator_site
  pub object : IsTrue (is_ident name.object)
  pub birth : IsSite name.birth

-- creator@site.object@birth site
pub record IsSwnText (bytes : List ℕ) (name : Swn) : Type 0 where
  pub within : IsName name
  pub printed : bytes ≡ printed_swn name
