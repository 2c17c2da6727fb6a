-- Fields: what is read is what was written, and what is written is read if a space or the end follows it.
use Rattle.std.proofs.Common.{◌≡◌, ℕ, ◌^◌, ◌<◌, ◌≤◌, Bool, true, false, ◌&&◌, ◌⊎◌, not, eqb, leb, List, [], ◌∷◌, ◌++◌, length, take, drop, Some, IsTrue, decimal, refl, sym, ap, ◌∙◌, subst, inl, inr, arith}
use Rattle.std.specs.List.{list_all, prefix_len}
use Rattle.std.proofs.lemmas.Bool.{and_parts, and_from, eqb-true, leb-true, le-leb}
use Rattle.std.proofs.lemmas.Bool.Decides.{eqb_tells}
use Rattle.std.proofs.lemmas.List.{take_at, drop_at, take-append-drop}
use Rattle.rs_base.proofs.Steps.{bind_some, held}
use Rattle.rs_base.specs.Ident.{is_ident, is_name_byte, begins_with_letter, are_name_bytes}
use Rattle.rs_sched.specs.declared.event.Event.{Event}
use Rattle.rs_sched.specs.Numbers.{is_digit, number_of}
use Rattle.rs_sched.specs.Encoding.{number_field}
use Rattle.rs_sched.specs.Reader.{is_field_byte, field_len, space_at, end_at, number_at, user_at, numbers_at}
use Rattle.rs_sched.proofs.NumberLaws.{some_is, number_is, decimal_digits, number_again}

-- a space, or the end
abbrev pub stops : List ℕ → Bool
stops [] = true
stops (b ∷ rest) = eqb b 32

pub space_is : (bytes rest : List ℕ) → space_at bytes ≡ Some rest → bytes ≡ 32 ∷ rest
space_is [] rest e = absurd cc
space_is (b ∷ bytes) rest e =
    let right = held (eqb b 32) (Some bytes) rest e in
    let first : b ≡ 32 = eqb-true b 32 right.0 in
    let others : bytes ≡ rest = some_is bytes rest right.1 in
    cc

pub end_is : (bytes rest : List ℕ) → end_at bytes ≡ Some rest → bytes ≡ []
end_is [] rest e = refl
end_is (b ∷ bytes) rest e = absurd cc

-- a field ends at a space or at the end
pub field_ends : (field rest : List ℕ) → list_all is_field_byte field ≡ true → IsTrue (stops rest) → field_len (field ++ rest) ≡ length field
field_ends [] [] all end = refl
field_ends [] (b ∷ rest) all end = rw end refl
field_ends (b ∷ field) rest all end =
    let both = and_parts (is_field_byte b) (list_all is_field_byte field) all in
    let others : prefix_len is_field_byte (field ++ rest) ≡ length field = field_ends field rest both.1 end in
    rw both.0 (omega (arith, others))

-- a field that was split off, and the bytes after it
pub field_taken : (field rest : List ℕ) → list_all is_field_byte field ≡ true → IsTrue (stops rest) → take (field_len (field ++ rest)) (field ++ rest) ≡ field
field_taken field rest all end = rw (field_ends field rest all end) (take_at field rest (length field) refl)

pub field_left : (field rest : List ℕ) → list_all is_field_byte field ≡ true → IsTrue (stops rest) → drop (field_len (field ++ rest)) (field ++ rest) ≡ rest
field_left field rest all end = rw (field_ends field rest all end) (drop_at field rest (length field) refl)

-- bytes that are not the space
pub all_field_bytes : (p : ℕ → Bool) → p 32 ≡ false → (field : List ℕ) → list_all p field ≡ true → list_all is_field_byte field ≡ true
all_field_bytes p h [] all = refl
all_field_bytes p h (b ∷ field) all =
    let both = and_parts (p b) (list_all p field) all in
    and_from (is_field_byte b) (list_all is_field_byte field) (no_space (eqb_tells b 32) both.0) (all_field_bytes p h field both.1)
  where
    no_space : ((eqb b 32 ≡ true) × (b ≡ 32)) ⊎ ((eqb b 32 ≡ false) × (b ≡ 32 → ⊥)) → p b ≡ true → is_field_byte b ≡ true
    no_space (inl same) q = let w : p b ≡ p 32 = ap p same.1 in absurd cc
    no_space (inr other) q = ap not other.0

pub decimal_field : (n : ℕ) → n < 2 ^ 64 → list_all is_field_byte (decimal n) ≡ true
decimal_field n h = all_field_bytes is_digit refl (decimal n) (decimal_digits n h)

-- ---- a number

pub record IsNumber (low high n : ℕ) : Type 0 where
  pub above : low ≤ n
  pub below : n ≤ high
  pub small : n < 2 ^ 64

pub number_at_is : (low high : ℕ) (bytes : List ℕ) (x : ℕ × List ℕ) → number_at low high bytes ≡ Some x → IsNumber low high x.0 × (bytes ≡ number_field x.0 ++ x.1)
unfolding number_at
number_at_is low high bytes x e =
    let space = bind_some (space_at bytes) _ x e in
    let field = space.0 in
    let len = field_len field in
    let number = bind_some (number_of (take len field)) _ x space.2 in
    let n = number.0 in
    let found : ℕ × List ℕ = (n, drop len field) in
    let right = held (leb low n && leb n high) (Some found) x number.2 in
    let both = and_parts (leb low n) (leb n high) right.0 in
    let is = number_is (take len field) n number.1 in
    let parts : field ≡ decimal n ++ drop len field = sym (take-append-drop len field) ∙ ap (λ (f : List ℕ). f ++ drop len field) is.1 in
    subst (λ (y : ℕ × List ℕ). IsNumber low high y.0 × (bytes ≡ number_field y.0 ++ y.1)) (some_is found x right.1)
    (record { above = leb-true _ _ both.0; below = leb-true _ _ both.1; small = is.0 }, space_is bytes field space.1 ∙ ap (λ (f : List ℕ). 32 ∷ f) parts)

pub number_at_again : (low high n : ℕ) (rest : List ℕ) → IsNumber low high n → IsTrue (stops rest) → number_at low high (number_field n ++ rest) ≡ Some (n, rest)
unfolding number_at
number_at_again low high n rest h end =
    let all = decimal_field n h.small in
    rw (field_taken (decimal n) rest all end, field_left (decimal n) rest all end, number_again n h.small, le-leb _ _ h.above, le-leb _ _ h.below) refl

-- ---- a user

pub user_at_is : (bytes : List ℕ) (x : List ℕ × List ℕ) → user_at bytes ≡ Some x → IsTrue (is_ident x.0) × (bytes ≡ 32 ∷ (x.0 ++ x.1))
unfolding user_at
user_at_is bytes x e =
    let space = bind_some (space_at bytes) _ x e in
    let field = space.0 in
    let len = field_len field in
    let found : List ℕ × List ℕ = (take len field, drop len field) in
    let right = held (is_ident (take len field)) (Some found) x space.2 in
    subst (λ (y : List ℕ × List ℕ). IsTrue (is_ident y.0) × (bytes ≡ 32 ∷ (y.0 ++ y.1))) (some_is found x right.1)
    (right.0, space_is bytes field space.1 ∙ ap (λ (f : List ℕ). 32 ∷ f) (sym (take-append-drop len field)))

pub user_field : (user : List ℕ) → is_ident user ≡ true → list_all is_field_byte user ≡ true
user_field user ident = all_field_bytes is_name_byte refl user (and_parts (leb (length user) 24 && begins_with_letter user) (are_name_bytes user) ident).1

pub user_at_again : (user rest : List ℕ) → IsTrue (is_ident user) → IsTrue (stops rest) → user_at (32 ∷ (user ++ rest)) ≡ Some (user, rest)
unfolding user_at
user_at_again user rest ident end =
    let all = user_field user ident in
    rw (field_taken user rest all end, field_left user rest all end, ident) refl

-- ---- some numbers

abbrev pub AreWithin : List (ℕ × ℕ) → List ℕ → Type 0
AreWithin [] [] = Unit {0}
AreWithin [] (n ∷ ns) = ⊥
AreWithin (limit ∷ limits) [] = ⊥
AreWithin (limit ∷ limits) (n ∷ ns) = IsNumber limit.0 limit.1 n × AreWithin limits ns

abbrev pub fields_of : List ℕ → List ℕ
fields_of [] = []
fields_of (n ∷ ns) = number_field n ++ fields_of ns

pub record Numbers (limits : List (ℕ × ℕ)) (make : List ℕ → Event) (bytes : List ℕ) (event : Event) : Type 0 where
  pub numbers : List ℕ
  pub within : AreWithin limits numbers
  pub written : bytes ≡ fields_of numbers
  pub made : make numbers ≡ event

pub numbers_are : (limits : List (ℕ × ℕ)) (make : List ℕ → Event) (bytes : List ℕ) (event : Event) → numbers_at limits make bytes ≡ Some event → Numbers limits make bytes event
numbers_are [] make bytes event e =
    let end = bind_some (end_at bytes) (λ end. Some (make [])) event e in
    record { numbers = []; within = tt; written = end_is bytes end.0 end.1; made = some_is (make []) event end.2 }
numbers_are (limit ∷ limits) make bytes event e =
    let first = bind_some (number_at limit.0 limit.1 bytes) (λ x. numbers_at limits (λ others. make (x.0 ∷ others)) x.1) event e in
    let is = number_at_is limit.0 limit.1 bytes first.0 first.1 in
    let others = numbers_are limits (λ others. make (first.0.0 ∷ others)) first.0.1 event first.2 in
    record {
      numbers = first.0.0 ∷ others.numbers;
      within = (is.0, others.within);
      written = is.1 ∙ ap (λ (r : List ℕ). number_field first.0.0 ++ r) others.written;
      made = others.made;
    }

fields_stop : (ns : List ℕ) → IsTrue (stops (fields_of ns))
fields_stop [] = refl
fields_stop (n ∷ ns) = refl

pub numbers_again : (limits : List (ℕ × ℕ)) (make : List ℕ → Event) (ns : List ℕ) → AreWithin limits ns → numbers_at limits make (fields_of ns) ≡ Some (make ns)
numbers_again [] make [] h = refl
numbers_again [] make (n ∷ ns) h = absurd h
numbers_again (limit ∷ limits) make [] h = absurd h
numbers_again (limit ∷ limits) make (n ∷ ns) h =
    rw (number_at_again limit.0 limit.1 n (fields_of ns) h.0 (fields_stop ns)) (numbers_again limits (λ others. make (n ∷ others)) ns h.1)
