-- Rows that are updated one by one.
use Rattle.std.proofs.Common.{◌≡◌, List, [], ◌∷◌, ◌++◌, Result, Ok, Err, refl, sym, ap, ◌∙◌, append_assoc}
use Rattle.rs_base.specs.declared.reply.Denial.{Denial}
use Rattle.rs_base.specs.declared.value.Value.{Value}
use Rattle.rs_eval.specs.RowChanges.{and_others}
use Rattle.rs_eval.specs.Updating.{Puts}

-- the items that were made, and those that are made of the rest
abbrev pub suffix : {A : Type 0} → List A → Result (List A) Denial → Result (List A) Denial
suffix prefix (Ok rest) = Ok (prefix ++ rest)
suffix prefix (Err cause) = Err cause

module _ (T : Type 0) (old new : List (List Value)) where
  -- if no row comes, the reason is returned
  pub answered : (cause : Denial) (row : Result (List Value) Denial) → Puts {T = T} (Err cause) old new row → row ≡ Err cause
  answered cause (Ok row) puts = absurd puts
  answered cause (Err why) puts = ap Err (sym puts)

  -- an appended row comes before those that are made of the rest
  pub put : (done : T) (row : Result (List Value) Denial) (others : Result (List (List Value)) Denial) → Puts (Ok done) old new row → suffix old (and_others row others) ≡ suffix new others
  put done (Ok row) (Ok rest) puts = ap Ok (sym (append_assoc old (row ∷ []) rest) ∙ ap (λ rows. rows ++ rest) (sym puts))
  put done (Ok row) (Err cause) puts = refl
  put done (Err why) others puts = absurd puts
