-- Names as written, the system-wide names they resolve to, and their order.
use Rattle.std.specs.Prelude.{ℕ, List, Option, Some, None, unwrap_or}
use Rattle.std.specs.Ordering.{nat_cmp, ordering_then}
use Rattle.std.specs.Cmp.Lexicographic.{slice_cmp}
use Rattle.std.specs.declared.cmp.Ordering.{Ordering}
use Rattle.rs_base.specs.declared.name.NameText.{NameText}
use Rattle.rs_base.specs.declared.name.Swn.{Swn}

-- a name of one identifier
abbrev pub plain : List ℕ → NameText
plain object = record { creator = None; creator_site = None; object = object; birth = None }

-- A missing creator is the user, at the site that was asked; a creator without a site is of that site.
abbrev pub creator_of : NameText → List ℕ → List ℕ
creator_of text user = unwrap_or text.creator user

abbrev pub site_of_creator : Option (List ℕ) → Option ℕ → ℕ → ℕ
site_of_creator None written asked = asked
site_of_creator (Some creator) written asked = unwrap_or written asked

-- The system-wide name that a written name resolves to, without regard to synonyms. A missing birth site is the site that
-- was asked.
abbrev pub resolve : NameText → List ℕ → ℕ → Swn
resolve text user asked = record {
  creator = creator_of text user;
  creator_site = site_of_creator text.creator text.creator_site asked;
  object = text.object;
  birth = unwrap_or text.birth asked;
}

-- names by their fields in order: identifiers by bytes, sites by number
abbrev pub name_cmp : Swn → Swn → Ordering
name_cmp a b = ordering_then (slice_cmp nat_cmp a.creator b.creator)
    (ordering_then (nat_cmp a.creator_site b.creator_site)
    (ordering_then (slice_cmp nat_cmp a.object b.object) (nat_cmp a.birth b.birth)))
