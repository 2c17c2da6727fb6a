-- Readers of phrases: what they claim, and how they are combined.
use Rattle.std.proofs.Common.{◌≡◌, Bool, true, false, if◌then◌else◌, ◌||◌, List, [], ◌∷◌, ◌++◌, Option, Some, None, refl, sym, ap, subst, ◌∙◌, append_assoc, ◌⊎◌, inl, inr}
use Rattle.std.proofs.lemmas.List.{append-nil}
use Rattle.std.proofs.lemmas.Bool.{false≢true}
use Rattle.rs_token.specs.declared.token.Token.{Token}
use Rattle.rs_parse.specs.Phrases.{Phrase, Is, Optional}
use Rattle.rs_parse.specs.Read.{Read, Got, Fault, ◌>>=◌, got_one, one_at, begins, either_at, where_so, passed, pass_at, optional_at}

-- The tokens before the rest are a phrase of the value read, and only one token after them was looked at.
pub record Finds {A : Type 0} (P : Phrase A) (read : List Token → Read A) (ts : List Token) (x : A) (rest : List Token) : Type 0 where
  pub prefix : List Token
  pub phrase : P x prefix
  pub separated : ts ≡ prefix ++ rest
  pub steady : (t : Token) (us vs : List Token) → rest ≡ t ∷ us → read (prefix ++ t ∷ vs) ≡ Got x (t ∷ vs)

-- The tokens before the fault are a prefix of a phrase, and no token after that of the fault was looked at.
pub record Breaks {A : Type 0} (P : Phrase A) (read : List Token → Read A) (ts rest : List Token) : Type 0 where
  pub prefix : List Token
  pub suffix : List Token
  pub value : A
  pub phrase : P value (prefix ++ suffix)
  pub separated : ts ≡ prefix ++ rest
  pub steady : (t : Token) (us vs : List Token) → rest ≡ t ∷ us → read (prefix ++ t ∷ vs) ≡ Fault (t ∷ vs)

-- a value that has a phrase
pub record Spelled {A : Type 0} (P : Phrase A) : Type 0 where
  pub value : A
  pub tokens : List Token
  pub phrase : P value tokens

-- A reader of these phrases. A phrase is read again if no token follows that would continue it.
pub record IsReader {A : Type 0} (P : Phrase A) (goes_on : Token → Bool) (read : List Token → Read A) : Type 0 where
  pub finds : (ts : List Token) (x : A) (rest : List Token) → read ts ≡ Got x rest → Finds P read ts x rest
  pub breaks : (ts rest : List Token) → read ts ≡ Fault rest → Breaks P read ts rest
  pub again : (x : A) (prefix rest : List Token) → P x prefix → begins goes_on rest ≡ false → read (prefix ++ rest) ≡ Got x rest
  pub some : Spelled P

-- ---- what was read

abbrev rest_of : {A : Type 0} → Read A → List Token
rest_of (Got x rest) = rest
rest_of (Fault rest) = rest

abbrev value_or : {A : Type 0} → A → Read A → A
value_or other (Got x rest) = x
value_or other (Fault rest) = other

abbrev is_got : {A : Type 0} → Read A → Bool
is_got (Got x rest) = true
is_got (Fault rest) = false

pub got_rest : {A : Type 0} (x y : A) (us vs : List Token) → Got x us ≡ Got y vs → us ≡ vs
got_rest x y us vs e = ap rest_of e

pub got_value : {A : Type 0} (x y : A) (us vs : List Token) → Got x us ≡ Got y vs → x ≡ y
got_value x y us vs e = ap (value_or x) e

abbrev fault : (A : Type 0) → List Token → Read A
fault A ts = Fault ts

pub fault_rest : (A : Type 0) (us vs : List Token) → fault A us ≡ fault A vs → us ≡ vs
fault_rest A us vs e = ap rest_of e

pub got-fault : {A : Type 0} (x : A) (us vs : List Token) → Got x us ≡ Fault vs → ⊥
got-fault x us vs e = false≢true (sym (ap is_got e))

pub fault-got : {A : Type 0} (x : A) (us vs : List Token) → Fault us ≡ Got x vs → ⊥
fault-got x us vs e = false≢true (ap is_got e)

abbrev first_or : Token → List Token → Token
first_or other [] = other
first_or other (t ∷ ts) = t

pub nil-cons : (t : Token) (ts : List Token) → [] ≡ t ∷ ts → ⊥
nil-cons t ts e = false≢true (ap (begins (λ u. true)) e)

pub or_left : (a b : Bool) → (a || b) ≡ false → a ≡ false
or_left true b e = e
or_left false b e = refl

pub or_right : (a b : Bool) → (a || b) ≡ false → b ≡ false
or_right true b e = absurd (false≢true (sym e))
or_right false b e = e

-- ---- one read after another

pub record GotBoth {A B : Type 0} (read : Read A) (next : A × List Token → Read B) (y : B) (rest : List Token) : Type 0 where
  pub value : A
  pub mid : List Token
  pub first : read ≡ Got value mid
  pub second : next (value, mid) ≡ Got y rest

pub got_both : {A B : Type 0} (read : Read A) (next : A × List Token → Read B) (y : B) (rest : List Token) → (read >>= next) ≡ Got y rest → GotBoth read next y rest
got_both (Got x mid) next y rest e = record { value = x; mid = mid; first = refl; second = e }
got_both (Fault mid) next y rest e = absurd (fault-got y mid rest e)

pub record FaultAfter {A B : Type 0} (read : Read A) (next : A × List Token → Read B) (rest : List Token) : Type 0 where
  pub value : A
  pub mid : List Token
  pub first : read ≡ Got value mid
  pub second : next (value, mid) ≡ Fault rest

pub fault_of_both : {A B : Type 0} (read : Read A) (next : A × List Token → Read B) (rest : List Token) → (read >>= next) ≡ Fault rest → (read ≡ Fault rest) ⊎ FaultAfter read next rest
fault_of_both {A} {B} (Got x mid) next rest e = inr (record { value = x; mid = mid; first = refl; second = e })
fault_of_both {A} {B} (Fault mid) next rest e = inl (ap (λ (us : List Token). fault A us) (fault_rest B mid rest e))

-- ---- readers that read nothing

abbrev pub never : Token → Bool
never t = false

pub begins_never : (ts : List Token) → begins never ts ≡ false
begins_never [] = refl
begins_never (t ∷ ts) = refl

abbrev pub Empty : {A : Type 0} → A → Phrase A
Empty x y ts = (x ≡ y) × (ts ≡ [])

abbrev pub give : {A : Type 0} → A → List Token → Read A
give x ts = Got x ts

pub gives : {A : Type 0} (x : A) → IsReader (Empty x) never (give x)
gives {A} x = record {
  finds = λ ts y rest e. record {
    prefix = [];
    phrase = (got_value x y ts rest e, refl);
    separated = got_rest x y ts rest e;
    steady = λ t us vs h. ap (λ (z : A). Got z (t ∷ vs)) (got_value x y ts rest e);
  };
  breaks = λ ts rest e. absurd (got-fault x ts rest e);
  again = λ y prefix rest is ends. ap (λ (us : List Token). Got x (us ++ rest)) is.1 ∙ ap (λ (z : A). Got z rest) is.0;
  some = record { value = x; tokens = []; phrase = (refl, refl) };
}

-- ---- one token

abbrev pub One : {A : Type 0} → (Token → Option A) → Phrase A
One meant x ts = (t : Token) × (meant t ≡ Some x) × (ts ≡ t ∷ [])

module _ {A : Type 0} (meant : Token → Option A) where
  one_finds : (t : Token) (ts : List Token) (x : A) (rest : List Token) (what : Option A) → meant t ≡ what → got_one what t ts ≡ Got x rest → Finds (One meant) (one_at meant) (t ∷ ts) x rest
  one_finds t ts x rest (Some y) m e = record {
    prefix = t ∷ [];
    phrase = (t, m ∙ ap Some (got_value y x ts rest e), refl);
    separated = ap (λ (us : List Token). t ∷ us) (got_rest y x ts rest e);
    steady = λ u us vs h. ap (λ (found : Option A). got_one found t (u ∷ vs)) (m ∙ ap Some (got_value y x ts rest e));
  }
  one_finds t ts x rest None m e = absurd (fault-got x (t ∷ ts) rest e)

  one_breaks : Spelled (One meant) → (t : Token) (ts : List Token) (rest : List Token) (what : Option A) → meant t ≡ what → got_one what t ts ≡ Fault rest → Breaks (One meant) (one_at meant) (t ∷ ts) rest
  one_breaks some t ts rest (Some y) m e = absurd (got-fault y ts rest e)
  one_breaks some t ts rest None m e = record {
    prefix = [];
    suffix = some.tokens;
    value = some.value;
    phrase = some.phrase;
    separated = fault_rest A (t ∷ ts) rest e;
    steady = λ u us vs h. subst (λ (z : Token). got_one (meant z) z vs ≡ Fault (z ∷ vs)) (ap (first_or t) (fault_rest A (t ∷ ts) rest e ∙ h)) (ap (λ (found : Option A). got_one found t vs) m);
  }

  one_finds_in : (ts : List Token) (x : A) (rest : List Token) → one_at meant ts ≡ Got x rest → Finds (One meant) (one_at meant) ts x rest
  one_finds_in [] x rest e = absurd (fault-got x [] rest e)
  one_finds_in (t ∷ ts) x rest e = one_finds t ts x rest (meant t) refl e

  one_breaks_in : Spelled (One meant) → (ts rest : List Token) → one_at meant ts ≡ Fault rest → Breaks (One meant) (one_at meant) ts rest
  one_breaks_in some [] rest e = record {
    prefix = [];
    suffix = some.tokens;
    value = some.value;
    phrase = some.phrase;
    separated = fault_rest A [] rest e;
    steady = λ t us vs h. absurd (nil-cons t us (fault_rest A [] rest e ∙ h));
  }
  one_breaks_in some (t ∷ ts) rest e = one_breaks some t ts rest (meant t) refl e

  -- a reader of one token reads the value it means
  pub reads_one : (t : Token) (x : A) → meant t ≡ Some x → IsReader (One meant) never (one_at meant)
  reads_one t x m =
      let some : Spelled (One meant) = record { value = x; tokens = t ∷ []; phrase = (t, m, refl) } in
      record {
        finds = one_finds_in;
        breaks = one_breaks_in some;
        again = λ y prefix rest is ends. ap (λ (us : List Token). one_at meant (us ++ rest)) is.2 ∙ ap (λ (found : Option A). got_one found is.0 rest) is.1;
        some = some;
      }

-- ---- one reader after another

abbrev pub Then : {A B : Type 0} → Phrase A → (A → Phrase B) → Phrase B
Then {A} P Q y ts = (x : A) × (prefix suffix : List Token) × P x prefix × Q x y suffix × (ts ≡ prefix ++ suffix)

module _ {A B : Type 0} (P : Phrase A) (Q : A → Phrase B) (read : List Token → Read A) (next : A → List Token → Read B) where
  abbrev chain : List Token → Read B
  chain ts = read ts >>= λ x. next x.0 x.1

  -- the first reader reads the same, whatever follows the token that the second leaves
  steady_before : (ts : List Token) (x : A) (mid : List Token) (a : Finds P read ts x mid) (prefix : List Token) (t : Token) (us vs : List Token) → mid ≡ prefix ++ t ∷ us → read (a.prefix ++ (prefix ++ t ∷ vs)) ≡ Got x (prefix ++ t ∷ vs)
  steady_before ts x mid a [] t us vs h = a.steady t us vs h
  steady_before ts x mid a (u ∷ prefix) t us vs h = a.steady u (prefix ++ t ∷ us) (prefix ++ t ∷ vs) h

  chain_finds : ((x : A) (ts : List Token) (y : B) (rest : List Token) → next x ts ≡ Got y rest → Finds (Q x) (next x) ts y rest)
      → (ts : List Token) (y : B) (rest : List Token) (x : A) (mid : List Token) → Finds P read ts x mid → next x mid ≡ Got y rest → Finds (Then P Q) chain ts y rest
  chain_finds second ts y rest x mid a e =
      let b = second x mid y rest e in
      record {
        prefix = a.prefix ++ b.prefix;
        phrase = (x, a.prefix, b.prefix, a.phrase, b.phrase, refl);
        separated = a.separated ∙ ap (λ (us : List Token). a.prefix ++ us) b.separated ∙ sym (append_assoc a.prefix b.prefix rest);
        steady = λ t us vs h.
            let first = steady_before ts x mid a b.prefix t us vs (b.separated ∙ ap (λ (ws : List Token). b.prefix ++ ws) h) in
            ap chain (append_assoc a.prefix b.prefix (t ∷ vs)) ∙ ap (λ (got : Read A). got >>= λ z. next z.0 z.1) first ∙ b.steady t us vs h;
      }

  chain_breaks : ((x : A) (ts : List Token) (rest : List Token) → next x ts ≡ Fault rest → Breaks (Q x) (next x) ts rest)
      → (ts rest : List Token) (x : A) (mid : List Token) → Finds P read ts x mid → next x mid ≡ Fault rest → Breaks (Then P Q) chain ts rest
  chain_breaks second ts rest x mid a e =
      let b = second x mid rest e in
      record {
        prefix = a.prefix ++ b.prefix;
        suffix = b.suffix;
        value = b.value;
        phrase = (x, a.prefix, b.prefix ++ b.suffix, a.phrase, b.phrase, append_assoc a.prefix b.prefix b.suffix);
        separated = a.separated ∙ ap (λ (us : List Token). a.prefix ++ us) b.separated ∙ sym (append_assoc a.prefix b.prefix rest);
        steady = λ t us vs h.
            let first = steady_before ts x mid a b.prefix t us vs (b.separated ∙ ap (λ (ws : List Token). b.prefix ++ ws) h) in
            ap chain (append_assoc a.prefix b.prefix (t ∷ vs)) ∙ ap (λ (got : Read A). got >>= λ z. next z.0 z.1) first ∙ b.steady t us vs h;
      }

  first_breaks : ((x : A) → Spelled (Q x)) → (ts mid rest : List Token) → Breaks P read ts mid → fault B mid ≡ fault B rest → Breaks (Then P Q) chain ts rest
  first_breaks some ts mid rest a e =
      let b = some a.value in
      let same = fault_rest B mid rest e in
      record {
        prefix = a.prefix;
        suffix = a.suffix ++ b.tokens;
        value = b.value;
        phrase = (a.value, a.prefix ++ a.suffix, b.tokens, a.phrase, b.phrase, sym (append_assoc a.prefix a.suffix b.tokens));
        separated = a.separated ∙ ap (λ (us : List Token). a.prefix ++ us) same;
        steady = λ t us vs h. ap (λ (got : Read A). got >>= λ z. next z.0 z.1) (a.steady t us vs (same ∙ h));
      }

  module _ (first_on second_on : Token → Bool) (first : IsReader P first_on read) (second : (x : A) → IsReader (Q x) second_on (next x)) where
    then_finds : (ts : List Token) (y : B) (rest : List Token) (got : Read A) → read ts ≡ got → (got >>= λ x. next x.0 x.1) ≡ Got y rest → Finds (Then P Q) chain ts y rest
    then_finds ts y rest (Got x mid) g e = chain_finds (λ z. (second z).finds) ts y rest x mid (first.finds ts x mid g) e
    then_finds ts y rest (Fault mid) g e = absurd (fault-got y mid rest e)

    then_breaks : (ts rest : List Token) (got : Read A) → read ts ≡ got → (got >>= λ x. next x.0 x.1) ≡ Fault rest → Breaks (Then P Q) chain ts rest
    then_breaks ts rest (Got x mid) g e = chain_breaks (λ z. (second z).breaks) ts rest x mid (first.finds ts x mid g) e
    then_breaks ts rest (Fault mid) g e = first_breaks (λ z. (second z).some) ts mid rest (first.breaks ts mid g) e

    abbrev Follows : Type 0
    Follows = (x : A) (y : B) (suffix rest : List Token) → Q x y suffix → begins second_on rest ≡ false → begins first_on (suffix ++ rest) ≡ false

    then_again : Follows → (y : B) (prefix rest : List Token) → Then P Q y prefix → begins second_on rest ≡ false → chain (prefix ++ rest) ≡ Got y rest
    then_again follows y prefix rest (x, one, two, p, q, spelled) ends =
        ap (λ (us : List Token). chain (us ++ rest)) spelled ∙ ap chain (append_assoc one two rest)
        ∙ ap (λ (got : Read A). got >>= λ z. next z.0 z.1) (first.again x one (two ++ rest) p (follows x y two rest q ends))
        ∙ (second x).again y two rest q ends

    then_some : Spelled (Then P Q)
    then_some =
        let a = first.some in
        let b = (second a.value).some in
        record { value = b.value; tokens = a.tokens ++ b.tokens; phrase = (a.value, a.tokens, b.tokens, a.phrase, b.phrase, refl) }

    -- one reader after another reads one phrase after the other
    pub reads_then : Follows → IsReader (Then P Q) second_on (λ ts. read ts >>= λ x. next x.0 x.1)
    reads_then follows = record {
      finds = λ ts y rest e. then_finds ts y rest (read ts) refl e;
      breaks = λ ts rest e. then_breaks ts rest (read ts) refl e;
      again = then_again follows;
      some = then_some;
    }

-- ---- what was read, made into another value

abbrev pub Made : {A B : Type 0} → (A → B) → Phrase A → Phrase B
Made {A} make P y ts = (x : A) × P x ts × (make x ≡ y)

module _ {A B : Type 0} (P : Phrase A) (goes_on : Token → Bool) (read : List Token → Read A) (make : A → B) (r : IsReader P goes_on read) where
  abbrev made : List Token → Read B
  made ts = read ts >>= λ x. Got (make x.0) x.1

  made_finds : (ts : List Token) (y : B) (rest : List Token) (got : Read A) → read ts ≡ got → (got >>= λ x. Got (make x.0) x.1) ≡ Got y rest → Finds (Made make P) made ts y rest
  made_finds ts y rest (Got x mid) g e =
      let a = r.finds ts x mid g in
      let same = got_value (make x) y mid rest e in
      let left = got_rest (make x) y mid rest e in
      record {
        prefix = a.prefix;
        phrase = (x, a.phrase, same);
        separated = a.separated ∙ ap (λ (us : List Token). a.prefix ++ us) left;
        steady = λ t us vs h. ap (λ (got : Read A). got >>= λ z. Got (make z.0) z.1) (a.steady t us vs (left ∙ h)) ∙ ap (λ (z : B). Got z (t ∷ vs)) same;
      }
  made_finds ts y rest (Fault mid) g e = absurd (fault-got y mid rest e)

  made_breaks : (ts rest : List Token) (got : Read A) → read ts ≡ got → (got >>= λ x. Got (make x.0) x.1) ≡ Fault rest → Breaks (Made make P) made ts rest
  made_breaks ts rest (Got x mid) g e = absurd (got-fault (make x) mid rest e)
  made_breaks ts rest (Fault mid) g e =
      let a = r.breaks ts mid g in
      let same = fault_rest B mid rest e in
      record {
        prefix = a.prefix;
        suffix = a.suffix;
        value = make a.value;
        phrase = (a.value, a.phrase, refl);
        separated = a.separated ∙ ap (λ (us : List Token). a.prefix ++ us) same;
        steady = λ t us vs h. ap (λ (got : Read A). got >>= λ z. Got (make z.0) z.1) (a.steady t us vs (same ∙ h));
      }

  -- a value made of what was read
  pub reads_made : IsReader (Made make P) goes_on (λ ts. read ts >>= λ x. Got (make x.0) x.1)
  reads_made = record {
    finds = λ ts y rest e. made_finds ts y rest (read ts) refl e;
    breaks = λ ts rest e. made_breaks ts rest (read ts) refl e;
    again = λ y prefix rest is ends. ap (λ (got : Read A). got >>= λ z. Got (make z.0) z.1) (r.again is.0 prefix rest is.1 ends) ∙ ap (λ (z : B). Got z rest) is.2;
    some = record { value = make r.some.value; tokens = r.some.tokens; phrase = (r.some.value, r.some.phrase, refl) };
  }

-- ---- one of two readers

abbrev pub Either : {A : Type 0} → Phrase A → Phrase A → Phrase A
Either P Q x ts = P x ts ⊎ Q x ts

module _ {A : Type 0} (P Q : Phrase A) (goes_on is : Token → Bool) (one other : List Token → Read A) (first : IsReader P goes_on one) (second : IsReader Q goes_on other) where
  abbrev choice : List Token → Read A
  choice = either_at is one other

  begins_same : (prefix : List Token) (t : Token) (us vs : List Token) → begins is (prefix ++ t ∷ us) ≡ begins is (prefix ++ t ∷ vs)
  begins_same [] t us vs = refl
  begins_same (u ∷ prefix) t us vs = refl

  abbrev chosen_at : Bool → List Token → Read A
  chosen_at test ts = if test then one ts else other ts

  stays : (ts prefix rest : List Token) (test : Bool) → begins is ts ≡ test → ts ≡ prefix ++ rest → (t : Token) (us vs : List Token) → rest ≡ t ∷ us → begins is (prefix ++ t ∷ vs) ≡ test
  stays ts prefix rest test b separated t us vs h =
      begins_same prefix t vs us ∙ ap (λ (ws : List Token). begins is (prefix ++ ws)) (sym h) ∙ ap (begins is) (sym separated) ∙ b

  either_finds : (ts : List Token) (x : A) (rest : List Token) (test : Bool) → begins is ts ≡ test → chosen_at test ts ≡ Got x rest → Finds (Either P Q) choice ts x rest
  either_finds ts x rest true b e =
      let a = first.finds ts x rest e in
      record {
        prefix = a.prefix;
        phrase = inl a.phrase;
        separated = a.separated;
        steady = λ t us vs h. ap (λ (test : Bool). chosen_at test (a.prefix ++ t ∷ vs)) (stays ts a.prefix rest true b a.separated t us vs h) ∙ a.steady t us vs h;
      }
  either_finds ts x rest false b e =
      let a = second.finds ts x rest e in
      record {
        prefix = a.prefix;
        phrase = inr a.phrase;
        separated = a.separated;
        steady = λ t us vs h. ap (λ (test : Bool). chosen_at test (a.prefix ++ t ∷ vs)) (stays ts a.prefix rest false b a.separated t us vs h) ∙ a.steady t us vs h;
      }

  either_breaks : (ts rest : List Token) (test : Bool) → begins is ts ≡ test → chosen_at test ts ≡ Fault rest → Breaks (Either P Q) choice ts rest
  either_breaks ts rest true b e =
      let a = first.breaks ts rest e in
      record {
        prefix = a.prefix;
        suffix = a.suffix;
        value = a.value;
        phrase = inl a.phrase;
        separated = a.separated;
        steady = λ t us vs h. ap (λ (test : Bool). chosen_at test (a.prefix ++ t ∷ vs)) (stays ts a.prefix rest true b a.separated t us vs h) ∙ a.steady t us vs h;
      }
  either_breaks ts rest false b e =
      let a = second.breaks ts rest e in
      record {
        prefix = a.prefix;
        suffix = a.suffix;
        value = a.value;
        phrase = inr a.phrase;
        separated = a.separated;
        steady = λ t us vs h. ap (λ (test : Bool). chosen_at test (a.prefix ++ t ∷ vs)) (stays ts a.prefix rest false b a.separated t us vs h) ∙ a.steady t us vs h;
      }

  abbrev pub BeginsSo : Type 0
  BeginsSo = (x : A) (prefix rest : List Token) → P x prefix → begins is (prefix ++ rest) ≡ true

  abbrev pub BeginsOtherwise : Type 0
  BeginsOtherwise = (x : A) (prefix rest : List Token) → Q x prefix → begins goes_on rest ≡ false → begins is (prefix ++ rest) ≡ false

  either_again : BeginsSo → BeginsOtherwise → (x : A) (prefix rest : List Token) → Either P Q x prefix → begins goes_on rest ≡ false → choice (prefix ++ rest) ≡ Got x rest
  either_again so otherwise x prefix rest (inl p) ends = ap (λ (test : Bool). chosen_at test (prefix ++ rest)) (so x prefix rest p) ∙ first.again x prefix rest p ends
  either_again so otherwise x prefix rest (inr q) ends = ap (λ (test : Bool). chosen_at test (prefix ++ rest)) (otherwise x prefix rest q ends) ∙ second.again x prefix rest q ends

  -- The first token decides which of two readers reads.
  pub reads_either : BeginsSo → BeginsOtherwise → IsReader (Either P Q) goes_on (either_at is one other)
  reads_either so otherwise = record {
    finds = λ ts x rest e. either_finds ts x rest (begins is ts) refl e;
    breaks = λ ts rest e. either_breaks ts rest (begins is ts) refl e;
    again = either_again so otherwise;
    some = record { value = second.some.value; tokens = second.some.tokens; phrase = inr second.some.phrase };
  }

-- ---- the same reader, stated otherwise

module _ {A : Type 0} (P P' : Phrase A) (goes_on : Token → Bool) (read : List Token → Read A) where
  -- the same phrases by another definition
  pub reads_as : IsReader P goes_on read → ((x : A) (ts : List Token) → P x ts → P' x ts) → ((x : A) (ts : List Token) → P' x ts → P x ts) → IsReader P' goes_on read
  reads_as r to from = record {
    finds = λ ts x rest e.
        let a = r.finds ts x rest e in
        record { prefix = a.prefix; phrase = to x a.prefix a.phrase; separated = a.separated; steady = a.steady };
    breaks = λ ts rest e.
        let a = r.breaks ts rest e in
        record { prefix = a.prefix; suffix = a.suffix; value = a.value; phrase = to a.value (a.prefix ++ a.suffix) a.phrase; separated = a.separated; steady = a.steady };
    again = λ x prefix rest is ends. r.again x prefix rest (from x prefix is) ends;
    some = record { value = r.some.value; tokens = r.some.tokens; phrase = to r.some.value r.some.tokens r.some.phrase };
  }

pub begins_fewer : (fewer more : Token → Bool) → ((t : Token) → more t ≡ false → fewer t ≡ false) → (rest : List Token) → begins more rest ≡ false → begins fewer rest ≡ false
begins_fewer fewer more le [] e = refl
begins_fewer fewer more le (t ∷ ts) e = le t e

-- with more tokens that continue
pub reads_before : {A : Type 0} (P : Phrase A) (fewer more : Token → Bool) (read : List Token → Read A) → ((t : Token) → more t ≡ false → fewer t ≡ false) → IsReader P fewer read → IsReader P more read
reads_before P fewer more read le r = record {
  finds = r.finds;
  breaks = r.breaks;
  again = λ x prefix rest is ends. r.again x prefix rest is (begins_fewer fewer more le rest ends);
  some = r.some;
}

-- another function that gives the same
pub reads_same : {A : Type 0} (P : Phrase A) (goes_on : Token → Bool) (read read' : List Token → Read A) → ((ts : List Token) → read ts ≡ read' ts) → IsReader P goes_on read → IsReader P goes_on read'
reads_same P goes_on read read' same r = record {
  finds = λ ts x rest e.
      let a = r.finds ts x rest (same ts ∙ e) in
      record { prefix = a.prefix; phrase = a.phrase; separated = a.separated; steady = λ t us vs h. sym (same (a.prefix ++ t ∷ vs)) ∙ a.steady t us vs h };
  breaks = λ ts rest e.
      let a = r.breaks ts rest (same ts ∙ e) in
      record { prefix = a.prefix; suffix = a.suffix; value = a.value; phrase = a.phrase; separated = a.separated; steady = λ t us vs h. sym (same (a.prefix ++ t ∷ vs)) ∙ a.steady t us vs h };
  again = λ x prefix rest is ends. sym (same (prefix ++ rest)) ∙ r.again x prefix rest is ends;
  some = r.some;
}

-- a value of no token, whatever follows
pub gives_before : {A : Type 0} (x : A) (goes_on : Token → Bool) → IsReader (Empty x) goes_on (give x)
gives_before x goes_on = reads_before (Empty x) never goes_on (give x) (λ t e. refl) (gives x)

-- ---- a token that means itself

passes : (is : Token → Bool) (t : Token) → is t ≡ true → passed is t ≡ Some tt
passes is t e = ap where_so e

passes_only : (is : Token → Bool) (t : Token) (test : Bool) (x : Unit {0}) → is t ≡ test → where_so test ≡ Some x → is t ≡ true
passes_only is t true x b e = b
passes_only is t false x b e = absurd cc

abbrev pub IsToken : Token → Phrase (Unit {0})
IsToken t x ts = Is t ts

module _ (t : Token) (is : Token → Bool) (self : is t ≡ true) (only : (u : Token) → is u ≡ true → u ≡ t) where
  token_to : (x : Unit {0}) (ts : List Token) → One (passed is) x ts → IsToken t x ts
  token_to x ts (u, m, e) = e ∙ ap (λ (v : Token). v ∷ []) (only u (passes_only is u (is u) x refl m))

  token_from : (x : Unit {0}) (ts : List Token) → IsToken t x ts → One (passed is) x ts
  token_from x ts e = (t, passes is t self, e)

  -- the reader of one token
  pub reads_token : IsReader (IsToken t) never (pass_at is)
  reads_token = reads_as (One (passed is)) (IsToken t) never (pass_at is) (reads_one (passed is) t tt (passes is t self)) token_to token_from

-- ---- optional phrases

module _ {A : Type 0} (P : Phrase A) (is goes_on : Token → Bool) (read : List Token → Read A) (r : IsReader P goes_on read) (begins_so : (x : A) (prefix rest : List Token) → P x prefix → begins is (prefix ++ rest) ≡ true) where
  -- the phrase may begin, or continue
  abbrev pub may : Token → Bool
  may t = is t || goes_on t

  may_is : (t : Token) → may t ≡ false → is t ≡ false
  may_is t e = or_left (is t) (goes_on t) e

  may_on : (t : Token) → may t ≡ false → goes_on t ≡ false
  may_on t e = or_right (is t) (goes_on t) e

  abbrev Present : Phrase (Option A)
  Present = Made Some P

  abbrev present_at : List Token → Read (Option A)
  present_at ts = read ts >>= λ x. Got (Some x.0) x.1

  reads_present : IsReader Present may present_at
  reads_present = reads_before Present goes_on may present_at may_on (reads_made P goes_on read Some r)

  optional_to : (x : Option A) (ts : List Token) → Either Present (Empty None) x ts → Optional P x ts
  optional_to x ts (inl (y, p, e)) = subst (λ (z : Option A). Optional P z ts) e p
  optional_to x ts (inr (e, nothing)) = subst (λ (z : Option A). Optional P z ts) e nothing

  optional_from : (x : Option A) (ts : List Token) → Optional P x ts → Either Present (Empty None) x ts
  optional_from None ts nothing = inr (refl, nothing)
  optional_from (Some x) ts p = inl (x, p, refl)

  -- a phrase or nothing
  pub reads_optional : IsReader (Optional P) may (optional_at is read)
  reads_optional = reads_as (Either Present (Empty None)) (Optional P) may (optional_at is read)
      (reads_either Present (Empty None) may is present_at (give None) reads_present (gives_before None may)
      (λ x prefix rest p. begins_so p.0 prefix rest p.1)
      (λ x prefix rest p ends. ap (λ (us : List Token). begins is (us ++ rest)) p.1 ∙ begins_fewer is may may_is rest ends))
      optional_to optional_from

-- ---- the same, with what can be inferred from the readers left out

pub then_reads : {A B : Type 0} {P : Phrase A} {Q : A → Phrase B} {read : List Token → Read A} {next : A → List Token → Read B} {first_on second_on : Token → Bool}
    → IsReader P first_on read → ((x : A) → IsReader (Q x) second_on (next x))
    → ((x : A) (y : B) (suffix rest : List Token) → Q x y suffix → begins second_on rest ≡ false → begins first_on (suffix ++ rest) ≡ false)
    → IsReader (Then P Q) second_on (λ ts. read ts >>= λ x. next x.0 x.1)
then_reads {P = P} {Q = Q} {read = read} {next = next} {first_on = first_on} {second_on = second_on} first second follows = reads_then P Q read next first_on second_on first second follows

-- after a reader whose phrases no token continues
pub suffix_reads : {A B : Type 0} {P : Phrase A} {Q : A → Phrase B} {read : List Token → Read A} {next : A → List Token → Read B} {second_on : Token → Bool}
    → IsReader P never read → ((x : A) → IsReader (Q x) second_on (next x)) → IsReader (Then P Q) second_on (λ ts. read ts >>= λ x. next x.0 x.1)
suffix_reads first second = then_reads first second (λ x y suffix rest q ends. begins_never (suffix ++ rest))

pub made_reads : {A B : Type 0} {P : Phrase A} {goes_on : Token → Bool} {read : List Token → Read A} (make : A → B) → IsReader P goes_on read → IsReader (Made make P) goes_on (λ ts. read ts >>= λ x. Got (make x.0) x.1)
made_reads {P = P} {goes_on = goes_on} {read = read} make r = reads_made P goes_on read make r

pub either_reads : {A : Type 0} {P Q : Phrase A} {goes_on : Token → Bool} {one other : List Token → Read A} (is : Token → Bool) → IsReader P goes_on one → IsReader Q goes_on other
    → ((x : A) (prefix rest : List Token) → P x prefix → begins is (prefix ++ rest) ≡ true)
    → ((x : A) (prefix rest : List Token) → Q x prefix → begins goes_on rest ≡ false → begins is (prefix ++ rest) ≡ false)
    → IsReader (Either P Q) goes_on (either_at is one other)
either_reads {P = P} {Q = Q} {goes_on = goes_on} {one = one} {other = other} is first second so otherwise = reads_either P Q goes_on is one other first second so otherwise

pub as_reads : {A : Type 0} {P : Phrase A} {goes_on : Token → Bool} {read : List Token → Read A} (P' : Phrase A) → IsReader P goes_on read
    → ((x : A) (ts : List Token) → P x ts → P' x ts) → ((x : A) (ts : List Token) → P' x ts → P x ts) → IsReader P' goes_on read
as_reads {P = P} {goes_on = goes_on} {read = read} P' r to from = reads_as P P' goes_on read r to from

pub before_reads : {A : Type 0} {P : Phrase A} {fewer : Token → Bool} {read : List Token → Read A} (more : Token → Bool) → ((t : Token) → more t ≡ false → fewer t ≡ false) → IsReader P fewer read → IsReader P more read
before_reads {P = P} {fewer = fewer} {read = read} more le r = reads_before P fewer more read le r

-- a phrase that begins with a token
pub token_begins : (is : Token → Bool) (t : Token) (value : Bool) → is t ≡ value → (prefix two suffix rest : List Token) → prefix ≡ t ∷ [] → suffix ≡ prefix ++ two → begins is (suffix ++ rest) ≡ value
token_begins is t value e prefix two suffix rest at separated = ap (λ (us : List Token). begins is (us ++ rest)) (separated ∙ ap (λ (us : List Token). us ++ two) at) ∙ e

pub end_begins : (is : Token → Bool) (t : Token) (value : Bool) → is t ≡ value → (prefix rest : List Token) → prefix ≡ t ∷ [] → begins is (prefix ++ rest) ≡ value
end_begins is t value e prefix rest at = ap (λ (us : List Token). begins is (us ++ rest)) at ∙ e

-- an empty phrase, if the token after it fails the test
pub empty_begins : (is more : Token → Bool) → ((t : Token) → more t ≡ false → is t ≡ false) → (prefix rest : List Token) → prefix ≡ [] → begins more rest ≡ false → begins is (prefix ++ rest) ≡ false
empty_begins is more le prefix rest nothing ends = ap (λ (us : List Token). begins is (us ++ rest)) nothing ∙ begins_fewer is more le rest ends

-- a suffix that is empty
pub prefix_is_all : (ts prefix suffix : List Token) → ts ≡ prefix ++ suffix → suffix ≡ [] → prefix ≡ ts
prefix_is_all ts prefix suffix separated nothing = sym (separated ∙ ap (λ (us : List Token). prefix ++ us) nothing ∙ append-nil prefix)

-- ---- how phrases begin

-- each phrase has a first token, for which the test has this value
abbrev pub Begins : {A : Type 0} → (Token → Bool) → Bool → Phrase A → Type 0
Begins {A} is c P = (x : A) (prefix rest : List Token) → P x prefix → begins is (prefix ++ rest) ≡ c

pub begins_token : {A : Type 0} (Q : Unit {0} → Phrase A) (is : Token → Bool) (t : Token) (c : Bool) → is t ≡ c → Begins is c (Then (IsToken t) Q)
begins_token Q is t c e x prefix rest p = token_begins is t c e p.1 p.2 prefix rest p.3 p.5

pub begins_end : (is : Token → Bool) (t : Token) (c : Bool) → is t ≡ c → Begins is c (IsToken t)
begins_end is t c e x prefix rest p = end_begins is t c e prefix rest p

pub begins_made : {A B : Type 0} (P : Phrase A) (make : A → B) (is : Token → Bool) (c : Bool) → Begins is c P → Begins is c (Made make P)
begins_made P make is c b x prefix rest p = b p.0 prefix rest p.1

pub begins_either : {A : Type 0} (P Q : Phrase A) (is : Token → Bool) (c : Bool) → Begins is c P → Begins is c Q → Begins is c (Either P Q)
begins_either P Q is c b d x prefix rest (inl p) = b x prefix rest p
begins_either P Q is c b d x prefix rest (inr q) = d x prefix rest q

pub begins_longer : (is : Token → Bool) (one two rest : List Token) (c : Bool) → begins is (one ++ (two ++ rest)) ≡ c → begins is ((one ++ two) ++ rest) ≡ c
begins_longer is one two rest c e = ap (begins is) (append_assoc one two rest) ∙ e

pub begins_first : {A B : Type 0} (P : Phrase A) (Q : A → Phrase B) (is : Token → Bool) (c : Bool) → Begins is c P → Begins is c (Then P Q)
begins_first P Q is c b y prefix rest (x, one, two, p, q, e) = ap (λ (us : List Token). begins is (us ++ rest)) e ∙ begins_longer is one two rest c (b x one (two ++ rest) p)

-- a phrase in two parts begins as its first part
pub suffix_begins : (is : Token → Bool) (suffix one two rest : List Token) (c : Bool) → suffix ≡ one ++ two → begins is (one ++ (two ++ rest)) ≡ c → begins is (suffix ++ rest) ≡ c
suffix_begins is suffix one two rest c separated e = ap (λ (us : List Token). begins is (us ++ rest)) separated ∙ begins_longer is one two rest c e
