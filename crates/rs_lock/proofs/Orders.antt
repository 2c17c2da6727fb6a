-- The orders of enlistments and resources are total, and only equal ones tie.
use Rattle.std.proofs.Common.{◌≡◌, ℕ, List, [], Ordering, Less, Equal, Greater, refl, ap, subst, nat_cmp}
use Rattle.std.specs.Cmp.{IsTotalOrder}
use Rattle.std.specs.Cmp.Lexicographic.{slice_cmp}
use Rattle.std.specs.Ordering.{ordering_then}
use Rattle.std.proofs.lemmas.Cmp.{nat_list_cmp_total, nat_cmp_total, on_total, then_total}
use Rattle.std.proofs.lemmas.Map.Lookups.{CmpEqualImpliesEq, exact_bytes, exact_unsigned}
use Rattle.rs_base.specs.contracts.lock.ResourceOrd.TheImpl as derived
use Rattle.rs_base.specs.declared.lock.Resource.{Resource}
use Rattle.rs_base.specs.declared.lock.Resource.TheVariants as resources
use Rattle.rs_base.specs.declared.name.Swn.{Swn}
use Rattle.rs_base.specs.declared.txn.Enlist.{Enlist}
use Rattle.rs_base.specs.Name.{name_cmp}
use Rattle.rs_base.specs.Orders.{resource_cmp}
use Rattle.rs_base.specs.Txn.{enlist_cmp}

-- a chain of two answers is a tie exactly if both are
both_tie : (o p : Ordering) → ordering_then o p ≡ Equal → (o ≡ Equal) × (p ≡ Equal)
both_tie Less p h = cc
both_tie Equal p h = (refl, h)
both_tie Greater p h = cc

-- ---- enlistments

pub enlist_total : IsTotalOrder enlist_cmp
enlist_total = then_total (on_total (λ (e : Enlist). e.site) nat_cmp_total) (then_total (on_total (λ (e : Enlist). e.epoch) nat_cmp_total) (on_total (λ (e : Enlist). e.number) nat_cmp_total))

pub enlist_exact : CmpEqualImpliesEq enlist_cmp
enlist_exact a b e =
    let first = both_tie (nat_cmp a.site b.site) _ e in
    let second = both_tie (nat_cmp a.epoch b.epoch) _ first.1 in
    let site : a.site ≡ b.site = exact_unsigned a.site b.site first.0 in
    let epoch : a.epoch ≡ b.epoch = exact_unsigned a.epoch b.epoch second.0 in
    let number : a.number ≡ b.number = exact_unsigned a.number b.number second.1 in
    λ i. record { site = site i; epoch = epoch i; number = number i }

-- ---- names

name_total : IsTotalOrder name_cmp
name_total =
    then_total (on_total (λ (n : Swn). n.creator) nat_list_cmp_total)
    (then_total (on_total (λ (n : Swn). n.creator_site) nat_cmp_total)
    (then_total (on_total (λ (n : Swn). n.object) nat_list_cmp_total) (on_total (λ (n : Swn). n.birth) nat_cmp_total)))

name_exact : CmpEqualImpliesEq name_cmp
name_exact a b e =
    let first = both_tie (slice_cmp nat_cmp a.creator b.creator) _ e in
    let second = both_tie (nat_cmp a.creator_site b.creator_site) _ first.1 in
    let third = both_tie (slice_cmp nat_cmp a.object b.object) _ second.1 in
    let creator : a.creator ≡ b.creator = exact_bytes a.creator b.creator first.0 in
    let creator_site : a.creator_site ≡ b.creator_site = exact_unsigned a.creator_site b.creator_site second.0 in
    let object : a.object ≡ b.object = exact_bytes a.object b.object third.0 in
    let birth : a.birth ≡ b.birth = exact_unsigned a.birth b.birth third.1 in
    λ i. record { creator = creator i; creator_site = creator_site i; object = object i; birth = birth i }

-- ---- resources: by kind, name, user and program

kind : Resource → ℕ
kind (resources.Table name) = 0
kind (resources.Birth name) = 1
kind (resources.Program user program) = 2
kind (resources.Synonyms user) = 3

blank : Swn
blank = record { creator = []; creator_site = 0; object = []; birth = 0 }

name_of : Resource → Swn
name_of (resources.Table name) = name
name_of (resources.Birth name) = name
name_of (resources.Program user program) = blank
name_of (resources.Synonyms user) = blank

user_of : Resource → List ℕ
user_of (resources.Table name) = []
user_of (resources.Birth name) = []
user_of (resources.Program user program) = user
user_of (resources.Synonyms user) = user

program_of : Resource → List ℕ
program_of (resources.Table name) = []
program_of (resources.Birth name) = []
program_of (resources.Program user program) = program
program_of (resources.Synonyms user) = []

by_parts : Resource → Resource → Ordering
by_parts a b = ordering_then (nat_cmp (kind a) (kind b))
    (ordering_then (name_cmp (name_of a) (name_of b))
    (ordering_then (slice_cmp nat_cmp (user_of a) (user_of b)) (slice_cmp nat_cmp (program_of a) (program_of b))))

by_parts_total : IsTotalOrder by_parts
unfolding by_parts
by_parts_total =
    then_total (on_total kind nat_cmp_total)
    (then_total (on_total name_of name_total)
    (then_total (on_total user_of nat_list_cmp_total) (on_total program_of nat_list_cmp_total)))

then_equal : (o : Ordering) → ordering_then o Equal ≡ o
then_equal Less = refl
then_equal Equal = refl
then_equal Greater = refl

by_parts_is : (a b : Resource) → by_parts a b ≡ resource_cmp a b
unfolding by_parts kind name_of user_of program_of blank
by_parts_is (resources.Table name) (resources.Table other) = then_equal (name_cmp name other)
by_parts_is (resources.Table name) (resources.Birth other) = refl
by_parts_is (resources.Table name) (resources.Program user program) = refl
by_parts_is (resources.Table name) (resources.Synonyms user) = refl
by_parts_is (resources.Birth name) (resources.Table other) = refl
by_parts_is (resources.Birth name) (resources.Birth other) = then_equal (name_cmp name other)
by_parts_is (resources.Birth name) (resources.Program user program) = refl
by_parts_is (resources.Birth name) (resources.Synonyms user) = refl
by_parts_is (resources.Program user program) (resources.Table name) = refl
by_parts_is (resources.Program user program) (resources.Birth name) = refl
by_parts_is (resources.Program user program) (resources.Program other_user other) = refl
by_parts_is (resources.Program user program) (resources.Synonyms other) = refl
by_parts_is (resources.Synonyms user) (resources.Table name) = refl
by_parts_is (resources.Synonyms user) (resources.Birth name) = refl
by_parts_is (resources.Synonyms user) (resources.Program other program) = refl
by_parts_is (resources.Synonyms user) (resources.Synonyms other) = then_equal (slice_cmp nat_cmp user other)

pub resource_total : IsTotalOrder resource_cmp
resource_total = subst {A = Resource → Resource → Ordering} IsTotalOrder (λ i a b. by_parts_is a b i) by_parts_total

pub resource_exact : CmpEqualImpliesEq resource_cmp
resource_exact (resources.Table name) (resources.Table other) e = ap resources.Table (name_exact name other e)
resource_exact (resources.Table name) (resources.Birth other) e = cc
resource_exact (resources.Table name) (resources.Program user program) e = cc
resource_exact (resources.Table name) (resources.Synonyms user) e = cc
resource_exact (resources.Birth name) (resources.Table other) e = cc
resource_exact (resources.Birth name) (resources.Birth other) e = ap resources.Birth (name_exact name other e)
resource_exact (resources.Birth name) (resources.Program user program) e = cc
resource_exact (resources.Birth name) (resources.Synonyms user) e = cc
resource_exact (resources.Program user program) (resources.Table name) e = cc
resource_exact (resources.Program user program) (resources.Birth name) e = cc
resource_exact (resources.Program user program) (resources.Program other_user other) e =
    let parts = both_tie (slice_cmp nat_cmp user other_user) (slice_cmp nat_cmp program other) e in
    let users : user ≡ other_user = exact_bytes user other_user parts.0 in
    let programs : program ≡ other = exact_bytes program other parts.1 in
    λ i. resources.Program (users i) (programs i)
resource_exact (resources.Program user program) (resources.Synonyms other) e = cc
resource_exact (resources.Synonyms user) (resources.Table name) e = cc
resource_exact (resources.Synonyms user) (resources.Birth name) e = cc
resource_exact (resources.Synonyms user) (resources.Program other program) e = cc
resource_exact (resources.Synonyms user) (resources.Synonyms other) e = ap resources.Synonyms (exact_bytes user other e)

-- ---- the derived order of resources is this one

abbrev pub derived_cmp : Resource → Resource → Ordering
derived_cmp = (derived.cmp-value).it

derived_at : (a b : Resource) → derived_cmp a b ≡ resource_cmp a b
derived_at (resources.Table name) (resources.Table other_name) = refl
derived_at (resources.Table name) (resources.Birth other_name) = refl
derived_at (resources.Table name) (resources.Program other_user other_program) = refl
derived_at (resources.Table name) (resources.Synonyms other_user) = refl
derived_at (resources.Birth name) (resources.Table other_name) = refl
derived_at (resources.Birth name) (resources.Birth other_name) = refl
derived_at (resources.Birth name) (resources.Program other_user other_program) = refl
derived_at (resources.Birth name) (resources.Synonyms other_user) = refl
derived_at (resources.Program user program) (resources.Table other_name) = refl
derived_at (resources.Program user program) (resources.Birth other_name) = refl
derived_at (resources.Program user program) (resources.Program other_user other_program) = refl
derived_at (resources.Program user program) (resources.Synonyms other_user) = refl
derived_at (resources.Synonyms user) (resources.Table other_name) = refl
derived_at (resources.Synonyms user) (resources.Birth other_name) = refl
derived_at (resources.Synonyms user) (resources.Program other_user other_program) = refl
derived_at (resources.Synonyms user) (resources.Synonyms other_user) = refl

pub derived_is : derived_cmp ≡ resource_cmp
derived_is = λ i a b. derived_at a b i
