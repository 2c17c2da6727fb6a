-- What a section gives, by its kind.
use Rattle.std.proofs.Common.{◌≡◌, ℕ, List, Option, sym, ap, ◌∙◌}
use Rattle.rs_base.specs.declared.value.Value.{Value}
use Rattle.rs_plan.specs.declared.section.Section.{Section}
use Rattle.rs_plan.specs.declared.section.SectionKind.{SectionKind}
use Rattle.rs_rows.specs.TableRows.{RowsByNumber}
use Rattle.rs_exec.specs.Running.{matching, others, predicate_of, ran, ran_over}

module _ (section : Section) (kind : SectionKind) (values : List Value) (fetch : Option Value) (rows : RowsByNumber) where
  -- what a section of this kind gives, by the rows that match
  pub ran_is : (from : ℕ) (found : RowsByNumber) → section.kind ≡ kind → found ≡ matching (predicate_of section.kind values fetch) rows
      → ran_over section.name kind values from rows found (others (predicate_of kind values fetch) rows) ≡ ran section values fetch from rows
  unfolding ran
  ran_is from found is same =
      ap (λ (match : RowsByNumber). ran_over section.name kind values from rows match (others (predicate_of kind values fetch) rows)) same
      ∙ ap (λ (own : SectionKind). ran_over section.name own values from rows (matching (predicate_of section.kind values fetch) rows) (others (predicate_of own values fetch) rows)) (sym is)

  -- these rows match
  pub matching_is : (found : RowsByNumber) → section.kind ≡ kind → found ≡ matching (predicate_of section.kind values fetch) rows → found ≡ matching (predicate_of kind values fetch) rows
  matching_is found is same = same ∙ ap (λ (own : SectionKind). matching (predicate_of own values fetch) rows) is
