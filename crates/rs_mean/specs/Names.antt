-- What the names in a statement refer to, and when one can't be used.
use Rattle.std.specs.Prelude.{ℕ, Bool, ◌||◌, nat_lt, is_none, List, [], ◌∷◌}
use Rattle.rs_base.specs.declared.name.NameText.{NameText}
use Rattle.rs_base.specs.declared.name.Swn.{Swn}
use Rattle.rs_base.specs.declared.reply.Denial.TheVariants as denials
use Rattle.rs_name.specs.Resolving.{resolved}
use Rattle.rs_scope.specs.Denials.{Test, test}
use Rattle.rs_mean.specs.declared.execution.Execution.{Execution}
use Rattle.rs_mean.specs.declared.synonym.Synonym.{Synonym}
use Rattle.rs_mean.specs.Database.{Database, table_named, target_of}

-- the user's synonym of this name at the asked site
abbrev pub own_synonym : Execution → List ℕ → Synonym
own_synonym execution name = record { site = execution.site; user = execution.user; name = name }

-- A name of one identifier refers to the user's synonym at the asked site, if there is one; any other name is resolved
-- from its parts, the missing ones of the user and the asked site.
abbrev pub name_of : Database → Execution → NameText → Swn
name_of db execution written =
    resolved written execution.user execution.site (target_of (own_synonym execution written.object) db)

-- the creator's site, or the birth site, doesn't exist
abbrev pub names_no_site : Database → Swn → Bool
names_no_site db name = nat_lt db.sites name.creator_site || nat_lt db.sites name.birth

abbrev pub site_test : Database → Swn → Test
site_test db name = test (names_no_site db name) denials.NoSite

-- a name of a table that has to be there
abbrev pub table_tests : Database → Swn → List Test
table_tests db name = site_test db name ∷ test (is_none (table_named name db)) denials.NoTable ∷ []
