-- The forms of the values that all crates share are forms.
use Rattle.rs_base.specs.declared.lock.Mode.{Mode}
use Rattle.rs_base.specs.declared.lock.Mode.TheVariants as modes
use Rattle.rs_base.specs.declared.lock.Resource.{Resource}
use Rattle.rs_base.specs.declared.lock.Resource.TheVariants as resources
use Rattle.rs_base.specs.declared.name.Swn.{Swn}
use Rattle.rs_base.specs.declared.reply.Denial.{Denial}
use Rattle.rs_base.specs.declared.reply.Denial.TheVariants as denials
use Rattle.rs_base.specs.declared.value.Kind.{Kind}
use Rattle.rs_base.specs.declared.value.Kind.TheVariants as kinds
use Rattle.rs_base.specs.declared.value.Value.{Value}
use Rattle.rs_base.specs.declared.value.Value.TheVariants as values
use Rattle.rs_encode.proofs.Cases.{enum_is, first_is, last_is}
use Rattle.rs_encode.proofs.Forms.{bare_is, both_is, tested_is, via_is}
use Rattle.rs_encode.proofs.Lists.{option_is}
use Rattle.rs_encode.proofs.Numbers.{byte_is, eight_bytes_is, four_bytes_is, ident_is, int_is, txt_is}
use Rattle.rs_encode.specs.Form.{IsForm}
use Rattle.rs_encode.specs.Values.{bool, bool_of, bool_parts, denial, denial_of, denial_parts, enlist, enlist_of, enlist_parts, is_site, kind, kind_of, kind_parts, mode, mode_of, mode_parts, name_text, name_text_of, name_text_parts, resource, resource_of, resource_parts, site, swn, swn_of, swn_parts, txn, txn_of, txn_parts, value, value_of, value_parts}
use Rattle.std.proofs.Common.{Bool, List, arith, false, inl, inr, refl, true, ℕ, ℤ, ◌≡◌, ◌⊎◌}

pub site_is : IsForm site
unfolding site
site_is = tested_is is_site byte_is

bool_made : (x : Bool) → bool_of (bool_parts x) ≡ x
bool_made false = refl
bool_made true = refl

bool_kept : (f : Unit {0} ⊎ Unit {0}) → bool_parts (bool_of f) ≡ f
bool_kept (inl f) = refl
bool_kept (inr f) = refl

pub bool_is : IsForm bool
unfolding bool
bool_is = enum_is bool_of bool_parts bool_made bool_kept
    (first_is 0 bare_is (omega arith)
    (last_is 1 bare_is (omega arith)))

pub name_text_is : IsForm name_text
unfolding name_text
name_text_is =
    via_is name_text_of name_text_parts (both_is (option_is ident_is) (both_is (option_is site_is) (both_is ident_is
    (option_is site_is)))) (λ x. refl) (λ f. refl)

pub swn_is : IsForm swn
unfolding swn
swn_is = via_is swn_of swn_parts (both_is ident_is (both_is site_is (both_is ident_is site_is))) (λ x. refl) (λ f. refl)

pub txn_is : IsForm txn
unfolding txn
txn_is = via_is txn_of txn_parts (both_is site_is (both_is four_bytes_is eight_bytes_is)) (λ x. refl) (λ f. refl)

pub enlist_is : IsForm enlist
unfolding enlist
enlist_is = via_is enlist_of enlist_parts (both_is site_is (both_is four_bytes_is eight_bytes_is)) (λ x. refl) (λ f. refl)

mode_made : (x : Mode) → mode_of (mode_parts x) ≡ x
mode_made modes.Read = refl
mode_made modes.Write = refl

mode_kept : (f : (Unit {0}) ⊎ (Unit {0})) → mode_parts (mode_of f) ≡ f
mode_kept (inl f) = refl
mode_kept (inr f) = refl

pub mode_is : IsForm mode
unfolding mode
mode_is = enum_is mode_of mode_parts mode_made mode_kept
    (first_is 1 bare_is (omega arith)
    (last_is 2 bare_is (omega arith)))

resource_made : (x : Resource) → resource_of (resource_parts x) ≡ x
resource_made (resources.Table field) = refl
resource_made (resources.Birth field) = refl
resource_made (resources.Program first second) = refl
resource_made (resources.Synonyms field) = refl

resource_kept : (f : Swn ⊎ (Swn ⊎ (((List ℕ) × (List ℕ)) ⊎ (List ℕ)))) → resource_parts (resource_of f) ≡ f
resource_kept (inl f) = refl
resource_kept (inr (inl f)) = refl
resource_kept (inr (inr (inl f))) = refl
resource_kept (inr (inr (inr f))) = refl

pub resource_is : IsForm resource
unfolding resource
resource_is = enum_is resource_of resource_parts resource_made resource_kept
    (first_is 1 swn_is (omega arith)
    (first_is 2 swn_is (omega arith)
    (first_is 3 (both_is ident_is ident_is) (omega arith)
    (last_is 4 ident_is (omega arith)))))

kind_made : (x : Kind) → kind_of (kind_parts x) ≡ x
kind_made kinds.Int = refl
kind_made kinds.Text = refl

kind_kept : (f : (Unit {0}) ⊎ (Unit {0})) → kind_parts (kind_of f) ≡ f
kind_kept (inl f) = refl
kind_kept (inr f) = refl

pub kind_is : IsForm kind
unfolding kind
kind_is = enum_is kind_of kind_parts kind_made kind_kept
    (first_is 1 bare_is (omega arith)
    (last_is 2 bare_is (omega arith)))

value_made : (x : Value) → value_of (value_parts x) ≡ x
value_made (values.Int field) = refl
value_made (values.Text field) = refl

value_kept : (f : ℤ ⊎ (List ℕ)) → value_parts (value_of f) ≡ f
value_kept (inl f) = refl
value_kept (inr f) = refl

pub value_is : IsForm value
unfolding value
value_is = enum_is value_of value_parts value_made value_kept
    (first_is 1 int_is (omega arith)
    (last_is 2 txt_is (omega arith)))

denial_made : (x : Denial) → denial_of (denial_parts x) ≡ x
denial_made denials.NoTable = refl
denial_made denials.NoColumn = refl
denial_made denials.TwoColumns = refl
denial_made denials.WrongType = refl
denial_made denials.TableExists = refl
denial_made denials.NoIndex = refl
denial_made denials.IndexExists = refl
denial_made denials.NoProgram = refl
denial_made denials.ProgramExists = refl
denial_made denials.WrongParams = refl
denial_made denials.SynonymExists = refl
denial_made denials.NoSynonym = refl
denial_made denials.NoSite = refl
denial_made denials.Overflow = refl
denial_made denials.TooManyRows = refl
denial_made denials.TableFull = refl

denial_kept : (f : (Unit {0}) ⊎ ((Unit {0}) ⊎ ((Unit {0}) ⊎ ((Unit {0}) ⊎ ((Unit {0}) ⊎ ((Unit {0}) ⊎ ((Unit {0}) ⊎ ((Unit {0})
    ⊎ ((Unit {0}) ⊎ ((Unit {0}) ⊎ ((Unit {0}) ⊎ ((Unit {0}) ⊎ ((Unit {0}) ⊎ ((Unit {0}) ⊎ ((Unit {0}) ⊎
    (Unit {0}))))))))))))))))
    → denial_parts (denial_of f) ≡ f
denial_kept (inl f) = refl
denial_kept (inr (inl f)) = refl
denial_kept (inr (inr (inl f))) = refl
denial_kept (inr (inr (inr (inl f)))) = refl
denial_kept (inr (inr (inr (inr (inl f))))) = refl
denial_kept (inr (inr (inr (inr (inr (inl f)))))) = refl
denial_kept (inr (inr (inr (inr (inr (inr (inl f))))))) = refl
denial_kept (inr (inr (inr (inr (inr (inr (inr (inl f)))))))) = refl
denial_kept (inr (inr (inr (inr (inr (inr (inr (inr (inl f))))))))) = refl
denial_kept (inr (inr (inr (inr (inr (inr (inr (inr (inr (inl f)))))))))) = refl
denial_kept (inr (inr (inr (inr (inr (inr (inr (inr (inr (inr (inl f))))))))))) = refl
denial_kept (inr (inr (inr (inr (inr (inr (inr (inr (inr (inr (inr (inl f)))))))))))) = refl
denial_kept (inr (inr (inr (inr (inr (inr (inr (inr (inr (inr (inr (inr (inl f))))))))))))) = refl
denial_kept (inr (inr (inr (inr (inr (inr (inr (inr (inr (inr (inr (inr (inr (inl f)))))))))))))) = refl
denial_kept (inr (inr (inr (inr (inr (inr (inr (inr (inr (inr (inr (inr (inr (inr (inl f))))))))))))))) = refl
denial_kept (inr (inr (inr (inr (inr (inr (inr (inr (inr (inr (inr (inr (inr (inr (inr f))))))))))))))) = refl

pub denial_is : IsForm denial
unfolding denial
denial_is = enum_is denial_of denial_parts denial_made denial_kept
    (first_is 1 bare_is (omega arith)
    (first_is 2 bare_is (omega arith)
    (first_is 3 bare_is (omega arith)
    (first_is 4 bare_is (omega arith)
    (first_is 5 bare_is (omega arith)
    (first_is 6 bare_is (omega arith)
    (first_is 7 bare_is (omega arith)
    (first_is 8 bare_is (omega arith)
    (first_is 9 bare_is (omega arith)
    (first_is 10 bare_is (omega arith)
    (first_is 11 bare_is (omega arith)
    (first_is 12 bare_is (omega arith)
    (first_is 13 bare_is (omega arith)
    (first_is 14 bare_is (omega arith)
    (first_is 15 bare_is (omega arith)
    (last_is 16 bare_is (omega arith)))))))))))))))))
