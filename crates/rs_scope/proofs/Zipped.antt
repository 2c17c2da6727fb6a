-- What is made of two slices in step, after a loop over both.
use Rattle.std.proofs.Common.{◌≡◌, List, [], ◌∷◌, map, Bor, refl, ap, sym, ◌∙◌}
use Rattle.std.specs.Prelude.{flat_map}
use Rattle.std.proofs.lemmas.List.Folds.{flat_map-map}

module _ {A B : Type 0} where
  abbrev suffix : Bor A × Bor B → A × B
  suffix both = (both.0.now, both.1.now)

  fused : {C : Type 0} (h : A × B → C) (pairs : List (Bor A × Bor B)) → map (λ (both : Bor A × Bor B). h (suffix both)) pairs ≡ map h (map suffix pairs)
  fused h [] = refl
  fused h (both ∷ pairs) = ap (λ (rest : List _). h (suffix both) ∷ rest) (fused h pairs)

  -- one for each pair
  pub mapped_in_step : {C : Type 0} (h : A × B → C) (pairs : List (Bor A × Bor B)) (whole : List (A × B)) → map (λ (both : Bor A × Bor B). (both.0.now, both.1.now)) pairs ≡ whole
      → map (λ (both : Bor A × Bor B). h (both.0.now, both.1.now)) pairs ≡ map h whole
  mapped_in_step h pairs whole all = fused h pairs ∙ ap (map h) all

  -- a list for each pair
  pub joined_in_step : {C : Type 0} (h : A × B → List C) (pairs : List (Bor A × Bor B)) (whole : List (A × B)) → map (λ (both : Bor A × Bor B). (both.0.now, both.1.now)) pairs ≡ whole
      → flat_map (λ (both : Bor A × Bor B). h (both.0.now, both.1.now)) pairs ≡ flat_map h whole
  joined_in_step h pairs whole all = sym (flat_map-map h suffix pairs) ∙ ap (flat_map h) all
