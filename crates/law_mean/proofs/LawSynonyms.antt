-- What changes leave of synonyms.
use Rattle.std.proofs.Common.{◌≡◌, ◌≢◌, false, Option, Some, is_eq, sym, ap, ◌∙◌, subst}
use Rattle.std.specs.BTreeMap.{is_at}
use Rattle.std.specs.List.Sorted.{IsStrictlySortedBy}
use Rattle.std.specs.Map.{lookup, keys_of}
use Rattle.rs_mean.specs.declared.change.Change.{Change}
use Rattle.rs_mean.specs.declared.change.Change.TheVariants as changes
use Rattle.rs_mean.specs.declared.synonym.Synonym.{Synonym}
use Rattle.rs_mean.specs.Changes.{changed}
use Rattle.rs_mean.specs.Database.{Database, synonym_cmp, target_of, AreSynonymsInOrder}
use Rattle.law_map.proofs.Entries.{apart, lookup_beside, lookup_left, left_in_order, keys_stay_sorted}
use Rattle.law_mean.proofs.LawTables.{IsOfTables, synonyms_stay_at}
use Rattle.rs_mean.proofs.Orders.{synonym_total, synonym_exact}

-- the change is of no synonym, or of this one
abbrev pub TouchesSynonym : Option Synonym → Change → Type 0
TouchesSynonym target changes.Nothing = Unit {0}
TouchesSynonym target (changes.PutTable name table) = Unit {0}
TouchesSynonym target (changes.DropTable name) = Unit {0}
TouchesSynonym target (changes.SetIndexes name indexes) = Unit {0}
TouchesSynonym target (changes.AppendRows name rows) = Unit {0}
TouchesSynonym target (changes.SetRows name rows) = Unit {0}
TouchesSynonym target (changes.PutSynonym synonym name) = target ≡ Some synonym
TouchesSynonym target (changes.DropSynonym synonym) = target ≡ Some synonym

-- the synonyms differ if one is the target and the other isn't
beside : (target : Option Synonym) (synonym own : Synonym) → target ≡ Some own → target ≢ Some synonym → is_eq (synonym_cmp synonym own) ≡ false
beside target synonym own is other = apart synonym_exact synonym own (λ (same : synonym ≡ own). other (is ∙ sym (ap (λ n. Some n) same)))

module _ (db : Database) where
  -- a change of tables leaves what each synonym refers to
  target_stays : (synonym : Synonym) (change : Change) → IsOfTables change → target_of synonym (changed change db) ≡ target_of synonym db
  target_stays synonym change is = ap (λ all. lookup (is_at (synonym_cmp synonym)) all) (synonyms_stay_at change db is)

  -- a change leaves what each other synonym refers to
  pub other_synonyms_at : (target : Option Synonym) (synonym : Synonym) (change : Change) → target ≢ Some synonym → TouchesSynonym target change
      → target_of synonym (changed change db) ≡ target_of synonym db
  other_synonyms_at target synonym changes.Nothing other only = target_stays synonym changes.Nothing tt
  other_synonyms_at target synonym (changes.PutTable name table) other only = target_stays synonym (changes.PutTable name table) tt
  other_synonyms_at target synonym (changes.DropTable name) other only = target_stays synonym (changes.DropTable name) tt
  other_synonyms_at target synonym (changes.SetIndexes name indexes) other only = target_stays synonym (changes.SetIndexes name indexes) tt
  other_synonyms_at target synonym (changes.AppendRows name rows) other only = target_stays synonym (changes.AppendRows name rows) tt
  other_synonyms_at target synonym (changes.SetRows name rows) other only = target_stays synonym (changes.SetRows name rows) tt
  other_synonyms_at target synonym (changes.PutSynonym own name) other only = lookup_beside synonym_total own name synonym (beside target synonym own only other) db.synonyms
  other_synonyms_at target synonym (changes.DropSynonym own) other only = lookup_left synonym_total synonym own (beside target synonym own only other) db.synonyms

  -- a change of tables leaves synonyms sorted
  order_stays : AreSynonymsInOrder db → (change : Change) → IsOfTables change → AreSynonymsInOrder (changed change db)
  order_stays up change is = subst (λ all. IsStrictlySortedBy synonym_cmp (keys_of all)) (sym (synonyms_stay_at change db is)) up

  -- synonyms stay sorted
  pub synonyms_in_order : AreSynonymsInOrder db → (change : Change) → AreSynonymsInOrder (changed change db)
  synonyms_in_order up changes.Nothing = up
  synonyms_in_order up (changes.PutTable name table) = order_stays up (changes.PutTable name table) tt
  synonyms_in_order up (changes.DropTable name) = order_stays up (changes.DropTable name) tt
  synonyms_in_order up (changes.SetIndexes name indexes) = order_stays up (changes.SetIndexes name indexes) tt
  synonyms_in_order up (changes.AppendRows name rows) = order_stays up (changes.AppendRows name rows) tt
  synonyms_in_order up (changes.SetRows name rows) = order_stays up (changes.SetRows name rows) tt
  synonyms_in_order up (changes.PutSynonym own name) = keys_stay_sorted synonym_total own name db.synonyms up
  synonyms_in_order up (changes.DropSynonym own) = left_in_order synonym_cmp (is_at (synonym_cmp own)) db.synonyms up
