-- The forms made of others are forms.
use Rattle.std.proofs.Common.{◌≡◌, ℕ, Bool, ◌&&◌, List, ◌++◌, Option, Some, refl, sym, ap, subst, ◌∙◌, append_assoc}
use Rattle.std.specs.Prelude.{IsTrue}
use Rattle.std.proofs.lemmas.Bool.{and_parts, and_from}
use Rattle.std.proofs.lemmas.Option.{same_Some, cond_some}
use Rattle.rs_base.specs.Reading.{◌>>=◌}
use Rattle.rs_base.proofs.Steps.{bind_some}
use Rattle.rs_codec.proofs.Readers.{bind_at}
use Rattle.rs_encode.specs.Form.{Form, IsForm, if_ok, tested, both, via, bare}

module _ {T : Type 0} {form : Form T} (test : T → Bool) (is : IsForm form) where
  tested_only : (bytes rest : List ℕ) (x : T) → (tested test form).at bytes ≡ Some (x, rest) → IsTrue (test x && form.fits x) × (bytes ≡ form.bytes x ++ rest)
  tested_only bytes rest x e =
      let s = bind_some (form.at bytes) (if_ok test) (x, rest) e in
      let c = cond_some (test s.0.0) s.0 (x, rest) s.2 in
      let o = is.only bytes s.0.1 s.0.0 s.1 in
      subst (λ (p : T × List ℕ). IsTrue (test p.0 && form.fits p.0) × (bytes ≡ form.bytes p.0 ++ p.1)) c.1 (and_from (test s.0.0) (form.fits s.0.0) c.0 o.0, o.1)

  tested_again : (x : T) (rest : List ℕ) → IsTrue (test x && form.fits x) → (tested test form).at (form.bytes x ++ rest) ≡ Some (x, rest)
  tested_again x rest fits =
      let p = and_parts (test x) (form.fits x) fits in
      bind_at (form.at (form.bytes x ++ rest)) (if_ok test) (x, rest) (is.again x rest p.1) ∙ rw p.0 refl

  pub tested_is : IsForm (tested test form)
  tested_is = record { again = tested_again; only = tested_only }

module _ {A B : Type 0} {first : Form A} {second : Form B} (is_first : IsForm first) (is_second : IsForm second) where
  abbrev then_second : A × List ℕ → Option ((A × B) × List ℕ)
  then_second a = second.at a.1 >>= λ b. Some ((a.0, b.0), b.1)

  both_only : (bytes rest : List ℕ) (x : A × B) → (both first second).at bytes ≡ Some (x, rest)
      → IsTrue (first.fits x.0 && second.fits x.1) × (bytes ≡ (first.bytes x.0 ++ second.bytes x.1) ++ rest)
  both_only bytes rest x e =
      let s = bind_some (first.at bytes) then_second (x, rest) e in
      let t = bind_some (second.at s.0.1) (λ b. Some ((s.0.0, b.0), b.1)) (x, rest) s.2 in
      let a = is_first.only bytes s.0.1 s.0.0 s.1 in
      let b = is_second.only s.0.1 t.0.1 t.0.0 t.1 in
      let same = same_Some {A = (A × B) × List ℕ} ((s.0.0, t.0.0), t.0.1) (x, rest) t.2 in
      subst (λ (p : (A × B) × List ℕ). IsTrue (first.fits p.0.0 && second.fits p.0.1) × (bytes ≡ (first.bytes p.0.0 ++ second.bytes p.0.1) ++ p.1)) same (
        and_from (first.fits s.0.0) (second.fits t.0.0) a.0 b.0,
        a.1 ∙ ap (λ (bs : List ℕ). first.bytes s.0.0 ++ bs) b.1 ∙ sym (append_assoc (first.bytes s.0.0) (second.bytes t.0.0) t.0.1),
      )

  both_again : (x : A × B) (rest : List ℕ) → IsTrue (first.fits x.0 && second.fits x.1)
      → (both first second).at ((first.bytes x.0 ++ second.bytes x.1) ++ rest) ≡ Some (x, rest)
  both_again x rest fits =
      let p = and_parts (first.fits x.0) (second.fits x.1) fits in
      let tail = second.bytes x.1 ++ rest in
      ap (λ (bs : List ℕ). (both first second).at bs) (append_assoc (first.bytes x.0) (second.bytes x.1) rest)
      ∙ bind_at (first.at (first.bytes x.0 ++ tail)) then_second (x.0, tail) (is_first.again x.0 tail p.0)
      ∙ bind_at (second.at tail) (λ b. Some ((x.0, b.0), b.1)) (x.1, rest) (is_second.again x.1 rest p.1)

  pub both_is : IsForm (both first second)
  both_is = record { again = both_again; only = both_only }

module _ {A B : Type 0} {form : Form A} (of : A → B) (parts : B → A) (is : IsForm form) (made : (b : B) → of (parts b) ≡ b) (kept : (a : A) → parts (of a) ≡ a) where
  via_only : (bytes rest : List ℕ) (x : B) → (via of parts form).at bytes ≡ Some (x, rest) → IsTrue (form.fits (parts x)) × (bytes ≡ form.bytes (parts x) ++ rest)
  via_only bytes rest x e =
      let s = bind_some (form.at bytes) (λ a. Some (of a.0, a.1)) (x, rest) e in
      let same = same_Some {A = B × List ℕ} (of s.0.0, s.0.1) (x, rest) s.2 in
      let o = is.only bytes s.0.1 s.0.0 s.1 in
      subst (λ (p : B × List ℕ). IsTrue (form.fits (parts p.0)) × (bytes ≡ form.bytes (parts p.0) ++ p.1)) same
      (subst (λ (a : A). IsTrue (form.fits a) × (bytes ≡ form.bytes a ++ s.0.1)) (sym (kept s.0.0)) o)

  via_again : (x : B) (rest : List ℕ) → IsTrue (form.fits (parts x)) → (via of parts form).at (form.bytes (parts x) ++ rest) ≡ Some (x, rest)
  via_again x rest fits = bind_at (form.at (form.bytes (parts x) ++ rest)) (λ a. Some (of a.0, a.1)) (parts x, rest) (is.again (parts x) rest fits)
      ∙ ap (λ (b : B). Some (b, rest)) (made x)

  pub via_is : IsForm (via of parts form)
  via_is = record { again = via_again; only = via_only }

pub bare_is : IsForm bare
bare_is = record { again = λ x rest fits. refl; only = λ bytes rest x e. (refl, ap (λ p. p.1) (same_Some {A = Unit {0} × List ℕ} (tt, bytes) (x, rest) e)) }
