-- The name that a written name resolves to, where the user may have a synonym.
use Rattle.std.specs.Prelude.{◌≡◌, ℕ, Bool, ◌&&◌, List, Option, Some, None, IfSome, if◌then◌else◌}
use Rattle.std.specs.Option.{is_none}
use Rattle.rs_base.specs.Name.{resolve}
use Rattle.rs_base.specs.declared.name.NameText.{NameText}
use Rattle.rs_base.specs.declared.name.Swn.{Swn}

-- a name of one identifier
abbrev pub is_plain : NameText → Bool
is_plain text = is_none text.creator && is_none text.creator_site && is_none text.birth

-- A plain name is the user's synonym at the site that was asked, if there is one. Any other name, and a plain one
-- without a synonym, is resolved without synonyms.
abbrev pub resolved : NameText → List ℕ → ℕ → Option Swn → Swn
resolved text user asked None = resolve text user asked
resolved text user asked (Some synonym) = if is_plain text then synonym else resolve text user asked

-- ---- terms of the laws

-- a name with its four parts written
abbrev pub whole : Swn → NameText
whole name = record { creator = Some name.creator; creator_site = Some name.creator_site; object = name.object; birth = Some name.birth }

-- a user's object that was born at the user's site
abbrev pub own : List ℕ → List ℕ → ℕ → Swn
own object user site = record { creator = user; creator_site = site; object = object; birth = site }

-- The parts that are written are the name's. Without a creator, a site of the creator is ignored.
pub record KeepsWritten (text : NameText) (name : Swn) : Type 0 where
  pub creator : IfSome text.creator (λ creator. name.creator ≡ creator)
  pub creator_site : IfSome text.creator (λ creator. IfSome text.creator_site (λ site. name.creator_site ≡ site))
  pub object : name.object ≡ text.object
  pub birth : IfSome text.birth (λ birth. name.birth ≡ birth)
