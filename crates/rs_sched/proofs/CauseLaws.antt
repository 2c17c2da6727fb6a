-- A whole line: it is read exactly if it is valid, and the cause that is found is the first that fits.
use Rattle.std.proofs.Common.{◌≡◌, ℕ, suc, ◌+◌, ◌<◌, ◌≤◌, Bool, true, false, cond, eqb, leb, List, [], ◌∷◌, ◌++◌, length, take, drop, Option, Some, None, Result, Ok, Err, IsTrue, codes, refl, sym, ap, ◌∙◌, subst, inl, inr, arith, append_assoc}
use Rattle.std.specs.Prelude.{bytes_eq}
use Rattle.std.specs.List.{list_all}
use Rattle.std.specs.Str.{is_utf8}
use Rattle.std.proofs.lemmas.Bool.{leb-true, le-leb, leb-false, eqb-true}
use Rattle.std.proofs.lemmas.List.{take-append-drop, append-nil}
use Rattle.std.proofs.lemmas.Slice.Eq.{bytes_eq-Decides}
use Rattle.rs_base.specs.declared.txn.Origin.{Origin}
use Rattle.rs_sched.specs.declared.event.Event.{Event}
use Rattle.rs_sched.specs.declared.event.Event.TheVariants as events
use Rattle.rs_sched.specs.declared.fault.Why.{Why}
use Rattle.rs_sched.specs.declared.fault.Why.TheVariants as whys
use Rattle.rs_sched.specs.declared.word.Word.{Word}
use Rattle.rs_sched.specs.declared.word.Word.TheVariants as words
use Rattle.rs_sched.specs.Encoding.{encoding, number_field, line_of, IsSiteNo, IsLine, HasText}
use Rattle.rs_sched.specs.Schedule.{FieldsFit, IsLater}
use Rattle.rs_sched.specs.Faults.{BeginsWith, IsRightLine, HasRightFields, IsAskOf, Fits, rank, IsCause}
use Rattle.rs_sched.specs.Reader.{is_field_byte, field_len, word_of, later_word_of, of_fields, of_text, of_sites, event_of, later_line, first_line, sites_at, origin_at, deliver_at, lose_at, tick_at, stop_at, arm_at, restart_at, settle_at, noise_at}
use Rattle.rs_sched.proofs.FieldLaws.{stops, field_taken}
use Rattle.rs_sched.proofs.LineLaws.{suffix_line}
use Rattle.rs_sched.proofs.EventLaws.{IsOf, IsAsk, deliver_is, deliver_again, lose_is, lose_again, tick_is, tick_again, stop_is, stop_again, arm_is, arm_again, restart_is, restart_again, settle_is, settle_again, settle_none_again, noise_is, noise_again, origin_is, origin_again, sites_is, sites_again}

-- a test that isn't true is false
false_from_not : (b : Bool) → ((b ≡ true) → ⊥) → b ≡ false
false_from_not true h = absurd (h refl)
false_from_not false h = refl

-- ---- words

try_word : (w : List ℕ) (x y : Word) (others : Option Word) → (others ≡ Some y → w ≡ encoding y) → cond (bytes_eq w (encoding x)) (Some x) others ≡ Some y → w ≡ encoding y
try_word w x y others h = by_test (bytes_eq w (encoding x)) (bytes_eq-Decides w (encoding x)).0
  where
    by_test : (test : Bool) → (test ≡ true → w ≡ encoding x) → cond test (Some x) others ≡ Some y → w ≡ encoding y
    by_test true same e = let is : x ≡ y = cc in same refl ∙ ap encoding is
    by_test false same e = h e

no_word : (w : List ℕ) (y : Word) → None ≡ Some y → w ≡ encoding y
no_word w y e = absurd cc

later_word_is : (w : List ℕ) (y : Word) → later_word_of w ≡ Some y → w ≡ encoding y
later_word_is w y = try_word w words.Stop y _ (try_word w words.Arm y _ (try_word w words.Restart y _ (try_word w words.Settle y _ (try_word w words.Noise y _ (no_word w y)))))

pub word_is : (w : List ℕ) (y : Word) → word_of w ≡ Some y → w ≡ encoding y
word_is w y = try_word w words.Sites y _ (try_word w words.Ask y _ (try_word w words.Deliver y _ (try_word w words.Lose y _ (try_word w words.Tick y _ (later_word_is w y)))))

pub word_again : (y : Word) → word_of (encoding y) ≡ Some y
word_again words.Sites = refl
word_again words.Ask = refl
word_again words.Deliver = refl
word_again words.Lose = refl
word_again words.Tick = refl
word_again words.Stop = refl
word_again words.Arm = refl
word_again words.Restart = refl
word_again words.Settle = refl
word_again words.Noise = refl

word_field : (y : Word) → list_all is_field_byte (encoding y) ≡ true
word_field words.Sites = refl
word_field words.Ask = refl
word_field words.Deliver = refl
word_field words.Lose = refl
word_field words.Tick = refl
word_field words.Stop = refl
word_field words.Arm = refl
word_field words.Restart = refl
word_field words.Settle = refl
word_field words.Noise = refl

abbrev pub field : List ℕ → List ℕ
field line = take (field_len line) line

abbrev pub suffix : List ℕ → List ℕ
suffix line = drop (field_len line) line

-- a line that begins with a word has it as its first field
pub first_field : (y : Word) (line : List ℕ) → BeginsWith y line → field line ≡ encoding y
first_field y line (inl e) = ap field (e ∙ sym (append-nil (encoding y))) ∙ field_taken (encoding y) [] (word_field y) refl
first_field y line (inr e) = ap field (e.1 ∙ append_assoc (encoding y) (codes " ") e.0) ∙ field_taken (encoding y) (32 ∷ e.0) (word_field y) refl

pub first_word : (y : Word) (line : List ℕ) → BeginsWith y line → word_of (field line) ≡ Some y
first_word y line h = ap word_of (first_field y line h) ∙ word_again y

begins_at : (y : Word) (line prefix rest : List ℕ) → prefix ++ rest ≡ line → prefix ≡ encoding y → IsTrue (stops rest) → BeginsWith y line
begins_at y line prefix [] parts is stop = inl (sym parts ∙ append-nil prefix ∙ is)
begins_at y line prefix (b ∷ rest) parts is stop =
    let space : b ≡ 32 = eqb-true b 32 stop in
    inr (rest, sym parts ∙ ap (λ (f : List ℕ). f ++ (b ∷ rest)) is ∙ ap (λ (c : ℕ). encoding y ++ (c ∷ rest)) space ∙ sym (append_assoc (encoding y) (codes " ") rest))

suffix_stops : (line : List ℕ) → IsTrue (stops (suffix line))
suffix_stops [] = refl
suffix_stops (b ∷ line) = by_space (eqb b 32) refl (suffix_stops line)
  where
    by_space : (test : Bool) → eqb b 32 ≡ test → IsTrue (stops (suffix line)) → IsTrue (stops (suffix (b ∷ line)))
    by_space true e others = rw e e
    by_space false e others = let n : 1 + field_len line ≡ suc (field_len line) = omega arith in rw (e, n) others

pub begins_with : (y : Word) (line : List ℕ) → field line ≡ encoding y → BeginsWith y line
begins_with y line is = begins_at y line (field line) (suffix line) (take-append-drop (field_len line) line) is (suffix_stops line)

-- ---- what is read is valid

-- an event that was read from a line: valid except for the form of an ask's text
pub record IsRead (sites : ℕ) (line : List ℕ) (event : Event) : Type 0 where
  pub fits : FieldsFit sites event
  pub written : line ≡ line_of event
  pub text_right : IsLine line → HasText event

read_numbers : (sites : ℕ) (y : Word) (rest : List ℕ) (read : Option Event) (event : Event) → ((e : Event) → read ≡ Some e → IsOf sites (encoding y) rest e) → of_fields read ≡ Ok event → IsRead sites (encoding y ++ rest) event
read_numbers sites y rest None event is e = absurd cc
read_numbers sites y rest (Some given) event is e =
    let same : given ≡ event = cc in
    let of = is event (ap (λ (x : Event). Some x) same) in
    record { fits = of.fits; written = of.written; text_right = λ line. of.text }

line_text : (text : List ℕ) (site user epoch number : List ℕ) → IsLine (((((((codes "ask" ++ site) ++ codes " ") ++ user) ++ epoch) ++ number) ++ codes " ") ++ text) → IsLine text
line_text text site user epoch number h = suffix_line ((((((codes "ask" ++ site) ++ codes " ") ++ user) ++ epoch) ++ number) ++ codes " ") text h

read_text : (sites : ℕ) (rest : List ℕ) (read : Option (Origin × List ℕ)) (event : Event) → ((x : Origin × List ℕ) → read ≡ Some x → IsAsk sites rest x.0 x.1) → of_text read ≡ Ok event → IsRead sites (codes "ask" ++ rest) event
read_text sites rest None event is e = absurd cc
read_text sites rest (Some x) event is e = by_tests (is_utf8 x.1) (leb (length x.1) 8192) refl refl e
  where
    by_tests : (utf8 short : Bool) → is_utf8 x.1 ≡ utf8 → leb (length x.1) 8192 ≡ short → cond utf8 (cond short (Ok (events.Ask x.0 x.1)) (Err whys.TooLong)) (Err whys.NotUtf8) ≡ Ok event → IsRead sites (codes "ask" ++ rest) event
    by_tests false short u s e = absurd cc
    by_tests true false u s e = absurd cc
    by_tests true true u s e =
        let same : events.Ask x.0 x.1 ≡ event = cc in
        let of = is x refl in
        let text : IsLine (codes "ask" ++ rest) → HasText (events.Ask x.0 x.1) = λ line. record {
          short = leb-true _ _ s;
          utf8 = u;
          line = line_text x.1 (number_field x.0.site) x.0.user (number_field x.0.epoch) (number_field x.0.number) (subst IsLine of.written line);
        } in
        subst (IsRead sites (codes "ask" ++ rest)) same (record { fits = of.fits; written = of.written; text_right = text })

read_word : (sites : ℕ) (y : Word) (rest : List ℕ) (event : Event) → sites ≤ 16 → event_of sites (Some y) rest ≡ Ok event → IsRead sites (encoding y ++ rest) event
read_word sites words.Sites rest event le e = absurd cc
read_word sites words.Ask rest event le e = read_text sites rest (origin_at sites rest) event (λ x. origin_is sites rest x le) e
read_word sites words.Deliver rest event le e = read_numbers sites words.Deliver rest (deliver_at rest) event (deliver_is sites rest) e
read_word sites words.Lose rest event le e = read_numbers sites words.Lose rest (lose_at rest) event (lose_is sites rest) e
read_word sites words.Tick rest event le e = read_numbers sites words.Tick rest (tick_at sites rest) event (λ x. tick_is sites rest x le) e
read_word sites words.Stop rest event le e = read_numbers sites words.Stop rest (stop_at sites rest) event (λ x. stop_is sites rest x le) e
read_word sites words.Arm rest event le e = read_numbers sites words.Arm rest (arm_at sites rest) event (λ x. arm_is sites rest x le) e
read_word sites words.Restart rest event le e = read_numbers sites words.Restart rest (restart_at sites rest) event (λ x. restart_is sites rest x le) e
read_word sites words.Settle rest event le e = read_numbers sites words.Settle rest (settle_at rest) event (settle_is sites rest) e
read_word sites words.Noise rest event le e = read_numbers sites words.Noise rest (noise_at sites rest) event (λ x. noise_is sites rest x le) e

-- what is read of a line after the sites line
pub later_is : (sites : ℕ) (line : List ℕ) (event : Event) → sites ≤ 16 → later_line sites line ≡ Ok event → IsRead sites line event
unfolding later_line
later_is sites line event le e = by_word (word_of (field line)) refl e
  where
    by_word : (word : Option Word) → word_of (field line) ≡ word → event_of sites word (suffix line) ≡ Ok event → IsRead sites line event
    by_word None w e = absurd cc
    by_word (Some y) w e =
        let parts : encoding y ++ suffix line ≡ line = ap (λ (f : List ℕ). f ++ suffix line) (sym (word_is (field line) y w)) ∙ take-append-drop (field_len line) line in
        subst (λ (l : List ℕ). IsRead sites l event) parts (read_word sites y (suffix line) event le e)

-- ---- what is valid is read

-- what is read of the line of an event
abbrev pub read_of : Event → Result Event Why
read_of (events.Ask origin text) = of_text (Some (origin, text))
read_of (events.Sites n) = Ok (events.Sites n)
read_of (events.Deliver k) = Ok (events.Deliver k)
read_of (events.Lose k) = Ok (events.Lose k)
read_of (events.Tick site n) = Ok (events.Tick site n)
read_of (events.Stop site k j) = Ok (events.Stop site k j)
read_of (events.Arm site c k j) = Ok (events.Arm site c k j)
read_of (events.Restart site) = Ok (events.Restart site)
read_of (events.Settle count) = Ok (events.Settle count)
read_of (events.Noise site bytes) = Ok (events.Noise site bytes)

pub later_again : (sites : ℕ) (event : Event) → FieldsFit sites event → later_line sites (line_of event) ≡ read_of event
unfolding later_line
later_again sites (events.Sites n) h = absurd (h.sites_once tt)
later_again sites (events.Ask origin text) h = ap of_text (origin_again sites origin text h)
later_again sites (events.Deliver k) h = ap of_fields (deliver_again sites k h)
later_again sites (events.Lose k) h = ap of_fields (lose_again sites k h)
later_again sites (events.Tick site n) h = ap of_fields (tick_again sites site n h)
later_again sites (events.Stop site k j) h = ap of_fields (stop_again sites site k j h)
later_again sites (events.Arm site c k j) h = ap of_fields (arm_again sites site c k j h)
later_again sites (events.Restart site) h = ap of_fields (restart_again sites site h)
later_again sites (events.Settle None) h = ap of_fields settle_none_again
later_again sites (events.Settle (Some n)) h = ap of_fields (settle_again sites n h)
later_again sites (events.Noise site bytes) h = ap of_fields (noise_again sites site bytes h)

read_right : (event : Event) → HasText event → read_of event ≡ Ok event
read_right (events.Ask origin text) h = rw (h.utf8, le-leb _ _ h.short) refl
read_right (events.Sites n) h = refl
read_right (events.Deliver k) h = refl
read_right (events.Lose k) h = refl
read_right (events.Tick site n) h = refl
read_right (events.Stop site k j) h = refl
read_right (events.Arm site c k j) h = refl
read_right (events.Restart site) h = refl
read_right (events.Settle count) h = refl
read_right (events.Noise site bytes) h = refl

pub later_right : (sites : ℕ) (event : Event) → IsLater sites event → later_line sites (line_of event) ≡ Ok event
later_right sites event h = later_again sites event h.fits ∙ read_right event h.text

-- ---- which cause it is

-- why the fields after a keyword are refused
data Refused (sites : ℕ) (y : Word) (rest : List ℕ) (why : Why) : Type 0 where
  again : y ≡ words.Sites → why ≡ whys.SitesAgain → Refused sites y rest why
  fields : (y ≡ words.Sites → ⊥) → why ≡ whys.BadFields → Refused sites y rest why
  utf8 : (x : Origin × List ℕ) → y ≡ words.Ask → IsAsk sites rest x.0 x.1 → is_utf8 x.1 ≡ false → why ≡ whys.NotUtf8 → Refused sites y rest why
  long : (x : Origin × List ℕ) → y ≡ words.Ask → IsAsk sites rest x.0 x.1 → 8192 < length x.1 → why ≡ whys.TooLong → Refused sites y rest why

refused_fields : (sites : ℕ) (y : Word) (rest : List ℕ) (why : Why) (read : Option Event) → (y ≡ words.Sites → ⊥) → of_fields read ≡ Err why → Refused sites y rest why
refused_fields sites y rest why None other e = fields other cc
refused_fields sites y rest why (Some event) other e = absurd cc

refused_text : (sites : ℕ) (rest : List ℕ) (why : Why) (read : Option (Origin × List ℕ)) → ((x : Origin × List ℕ) → read ≡ Some x → IsAsk sites rest x.0 x.1) → of_text read ≡ Err why → Refused sites words.Ask rest why
refused_text sites rest why None is e = fields (λ same. absurd cc) cc
refused_text sites rest why (Some x) is e = by_tests (is_utf8 x.1) (leb (length x.1) 8192) refl refl e
  where
    by_tests : (right short : Bool) → is_utf8 x.1 ≡ right → leb (length x.1) 8192 ≡ short → cond right (cond short (Ok (events.Ask x.0 x.1)) (Err whys.TooLong)) (Err whys.NotUtf8) ≡ Err why → Refused sites words.Ask rest why
    by_tests false short u s e = utf8 x refl (is x refl) u cc
    by_tests true false u s e = long x refl (is x refl) (leb-false (length x.1) 8192 s) cc
    by_tests true true u s e = absurd cc

refused_word : (sites : ℕ) (y : Word) (rest : List ℕ) (why : Why) → sites ≤ 16 → event_of sites (Some y) rest ≡ Err why → Refused sites y rest why
refused_word sites words.Sites rest why le e = again refl cc
refused_word sites words.Ask rest why le e = refused_text sites rest why (origin_at sites rest) (λ x. origin_is sites rest x le) e
refused_word sites words.Deliver rest why le e = refused_fields sites words.Deliver rest why (deliver_at rest) (λ same. absurd cc) e
refused_word sites words.Lose rest why le e = refused_fields sites words.Lose rest why (lose_at rest) (λ same. absurd cc) e
refused_word sites words.Tick rest why le e = refused_fields sites words.Tick rest why (tick_at sites rest) (λ same. absurd cc) e
refused_word sites words.Stop rest why le e = refused_fields sites words.Stop rest why (stop_at sites rest) (λ same. absurd cc) e
refused_word sites words.Arm rest why le e = refused_fields sites words.Arm rest why (arm_at sites rest) (λ same. absurd cc) e
refused_word sites words.Restart rest why le e = refused_fields sites words.Restart rest why (restart_at sites rest) (λ same. absurd cc) e
refused_word sites words.Settle rest why le e = refused_fields sites words.Settle rest why (settle_at rest) (λ same. absurd cc) e
refused_word sites words.Noise rest why le e = refused_fields sites words.Noise rest why (noise_at sites rest) (λ same. absurd cc) e

-- an event with valid fields is not refused for them
text_not_fields : (utf8 short : Bool) (event : Event) → cond utf8 (cond short (Ok event) (Err whys.TooLong)) (Err whys.NotUtf8) ≡ Err whys.BadFields → ⊥
text_not_fields false short event e = cc
text_not_fields true false event e = cc
text_not_fields true true event e = cc

not_fields : (event : Event) → read_of event ≡ Err whys.BadFields → ⊥
not_fields (events.Ask origin text) e = text_not_fields (is_utf8 text) (leb (length text) 8192) (events.Ask origin text) e
not_fields (events.Sites n) e = cc
not_fields (events.Deliver k) e = cc
not_fields (events.Lose k) e = cc
not_fields (events.Tick site n) e = cc
not_fields (events.Stop site k j) e = cc
not_fields (events.Arm site c k j) e = cc
not_fields (events.Restart site) e = cc
not_fields (events.Settle count) e = cc
not_fields (events.Noise site bytes) e = cc

module _ (sites : ℕ) (line : List ℕ) (y : Word) (w : word_of (field line) ≡ Some y) where
  -- the causes before that of the fields
  below_fields : (y ≡ words.Sites → ⊥) → (other : Why) → rank other < 3 → ¬ Fits (Some sites) line other
  below_fields apart whys.NoSites lt = λ fits. fits
  below_fields apart whys.SitesAgain lt = λ fits. let e = first_word words.Sites line fits in apart cc
  below_fields apart whys.UnknownWord lt = λ fits. fits y (begins_with y line (word_is (field line) y w))
  below_fields apart whys.BadFields lt = absurd (omega arith)
  below_fields apart whys.NotUtf8 lt = absurd (omega arith)
  below_fields apart whys.TooLong lt = absurd (omega arith)

  below_text : (y ≡ words.Sites → ⊥) → HasRightFields sites line → (other : Why) → rank other < 4 → ¬ Fits (Some sites) line other
  below_text apart right whys.NoSites lt = below_fields apart whys.NoSites (omega arith)
  below_text apart right whys.SitesAgain lt = below_fields apart whys.SitesAgain (omega arith)
  below_text apart right whys.UnknownWord lt = below_fields apart whys.UnknownWord (omega arith)
  below_text apart right whys.BadFields lt = λ fits. fits right
  below_text apart right whys.NotUtf8 lt = absurd (omega arith)
  below_text apart right whys.TooLong lt = absurd (omega arith)

  below_long : (y ≡ words.Sites → ⊥) → HasRightFields sites line → ¬ Fits (Some sites) line whys.NotUtf8 → (other : Why) → rank other < 5 → ¬ Fits (Some sites) line other
  below_long apart right right8 whys.NoSites lt = below_fields apart whys.NoSites (omega arith)
  below_long apart right right8 whys.SitesAgain lt = below_fields apart whys.SitesAgain (omega arith)
  below_long apart right right8 whys.UnknownWord lt = below_fields apart whys.UnknownWord (omega arith)
  below_long apart right right8 whys.BadFields lt = λ fits. fits right
  below_long apart right right8 whys.NotUtf8 lt = right8
  below_long apart right right8 whys.TooLong lt = absurd (omega arith)

below_again : (sites : ℕ) (line : List ℕ) (other : Why) → rank other < 1 → ¬ Fits (Some sites) line other
below_again sites line whys.NoSites lt = λ fits. fits
below_again sites line whys.SitesAgain lt = absurd (omega arith)
below_again sites line whys.UnknownWord lt = absurd (omega arith)
below_again sites line whys.BadFields lt = absurd (omega arith)
below_again sites line whys.NotUtf8 lt = absurd (omega arith)
below_again sites line whys.TooLong lt = absurd (omega arith)

no_word_again : (sites : ℕ) (line : List ℕ) → ((y : Word) → ¬ BeginsWith y line) → (other : Why) → rank other < 2 → ¬ Fits (Some sites) line other
no_word_again sites line none whys.NoSites lt = λ fits. fits
no_word_again sites line none whys.SitesAgain lt = none words.Sites
no_word_again sites line none whys.UnknownWord lt = absurd (omega arith)
no_word_again sites line none whys.BadFields lt = absurd (omega arith)
no_word_again sites line none whys.NotUtf8 lt = absurd (omega arith)
no_word_again sites line none whys.TooLong lt = absurd (omega arith)

unknown_cause : (sites : ℕ) (line : List ℕ) (why : Why) → word_of (field line) ≡ None → why ≡ whys.UnknownWord → IsCause (Some sites) line why
unknown_cause sites line why w is =
    let none : (y : Word) → ¬ BeginsWith y line = λ y h. let e = first_word y line h in absurd cc in
    let cause : IsCause (Some sites) line whys.UnknownWord = record { fits = none; first = no_word_again sites line none } in
    subst (IsCause (Some sites) line) (sym is) cause

not_utf8 : (sites : ℕ) (line text : List ℕ) → IsAskOf sites line text → is_utf8 text ≡ false → later_line sites line ≡ Err whys.NotUtf8
not_utf8 sites line text ask u = ap (later_line sites) ask.written ∙ later_again sites (events.Ask ask.origin text) ask.fits ∙ rw u refl

module _ (sites : ℕ) (line : List ℕ) (y : Word) (w : word_of (field line) ≡ Some y) (why : Why) (e : later_line sites line ≡ Err why) where
  parts : encoding y ++ suffix line ≡ line
  parts = ap (λ (f : List ℕ). f ++ suffix line) (sym (word_is (field line) y w)) ∙ take-append-drop (field_len line) line

  abbrev ask_line_is : (x : Origin × List ℕ) → y ≡ words.Ask → IsAsk sites (suffix line) x.0 x.1 → IsAskOf sites line x.1
  ask_line_is x is ask = record { origin = x.0; fits = ask.fits; written = sym parts ∙ ap (λ (z : Word). encoding z ++ suffix line) is ∙ ask.written }

  cause_of : Refused sites y (suffix line) why → IsCause (Some sites) line why
  cause_of (again is cause) =
      let fits : BeginsWith words.Sites line = subst (λ (z : Word). BeginsWith z line) is (begins_with y line (word_is (field line) y w)) in
      let made : IsCause (Some sites) line whys.SitesAgain = record { fits = fits; first = below_again sites line } in
      subst (IsCause (Some sites) line) (sym cause) made
  cause_of (fields apart cause) =
      let fits : ¬ HasRightFields sites line = λ h. not_fields h.0 (sym (later_again sites h.0 h.1) ∙ sym (ap (later_line sites) h.2) ∙ e ∙ ap (λ (c : Why). Err c) cause) in
      let made : IsCause (Some sites) line whys.BadFields = record { fits = fits; first = below_fields sites line y w apart } in
      subst (IsCause (Some sites) line) (sym cause) made
  cause_of (utf8 x is ask u cause) =
      let found = ask_line_is x is ask in
      let apart : y ≡ words.Sites → ⊥ = λ same. absurd cc in
      let made : IsCause (Some sites) line whys.NotUtf8 = record {
        fits = (x.1, found, λ t. absurd cc);
        first = below_text sites line y w apart (events.Ask x.0 x.1, ask.fits, found.written);
      } in
      subst (IsCause (Some sites) line) (sym cause) made
  cause_of (long x is ask l cause) =
      let found = ask_line_is x is ask in
      let apart : y ≡ words.Sites → ⊥ = λ same. absurd cc in
      let all : ¬ Fits (Some sites) line whys.NotUtf8 = λ h. let k = not_utf8 sites line h.0 h.1 (false_from_not (is_utf8 h.0) h.2) in absurd cc in
      let made : IsCause (Some sites) line whys.TooLong = record {
        fits = (x.1, found, l);
        first = below_long sites line y w apart (events.Ask x.0 x.1, ask.fits, found.written) all;
      } in
      subst (IsCause (Some sites) line) (sym cause) made

-- The cause that is found of a line after the sites line is the first that fits.
pub later_cause : (sites : ℕ) (line : List ℕ) (why : Why) → sites ≤ 16 → later_line sites line ≡ Err why → IsCause (Some sites) line why
unfolding later_line
later_cause sites line why le e = by_word (word_of (field line)) refl e
  where
    by_word : (word : Option Word) → word_of (field line) ≡ word → event_of sites word (suffix line) ≡ Err why → IsCause (Some sites) line why
    by_word None w e' = unknown_cause sites line why w cc
    by_word (Some y) w e' = cause_of sites line y w why e (refused_word sites y (suffix line) why le e')

-- such a line is not valid
pub later_wrong : (sites : ℕ) (line : List ℕ) (why : Why) → later_line sites line ≡ Err why → ¬ IsRightLine (Some sites) line
later_wrong sites line why e = λ h. let right = ap (later_line sites) h.2 ∙ later_right sites h.0 h.1 in absurd cc

-- ---- the sites line

pub first_right : (n : ℕ) → IsSiteNo n → first_line (line_of (events.Sites n)) ≡ Ok (events.Sites n)
unfolding first_line
first_right n h = ap of_sites (sites_again n h)

pub record IsFirst (line : List ℕ) (event : Event) : Type 0 where
  pub number : ℕ
  pub number_right : IsSiteNo number
  pub is : event ≡ events.Sites number
  pub written : line ≡ line_of (events.Sites number)

pub first_is : (line : List ℕ) (event : Event) → first_line line ≡ Ok event → IsFirst line event
unfolding first_line
first_is line event e = by_word (bytes_eq (field line) (codes "sites")) (bytes_eq-Decides (field line) (codes "sites")).0 e
  where
    by_read : (read : Option Event) → field line ≡ codes "sites" → sites_at (suffix line) ≡ read → of_sites read ≡ Ok event → IsFirst line event
    by_read None w r e = absurd cc
    by_read (Some given) w r e =
        let same : given ≡ event = cc in
        let is = sites_is (suffix line) given r in
        let parts : line ≡ codes "sites" ++ suffix line = sym (take-append-drop (field_len line) line) ∙ ap (λ (f : List ℕ). f ++ suffix line) w in
        record { number = is.0; number_right = is.1; is = sym same ∙ is.2; written = parts ∙ is.3 }

    by_word : (test : Bool) → (test ≡ true → field line ≡ codes "sites") → cond test (of_sites (sites_at (suffix line))) (Err whys.NoSites) ≡ Ok event → IsFirst line event
    by_word false w e = absurd cc
    by_word true w e = by_read (sites_at (suffix line)) (w refl) refl e

first_err : (read : Option Event) (why : Why) → of_sites read ≡ Err why → why ≡ whys.NoSites
first_err None why e = cc
first_err (Some event) why e = absurd cc

pub first_why : (line : List ℕ) (why : Why) → first_line line ≡ Err why → why ≡ whys.NoSites
unfolding first_line
first_why line why e = by_word (bytes_eq (field line) (codes "sites")) e
  where
    by_word : (test : Bool) → cond test (of_sites (sites_at (suffix line))) (Err whys.NoSites) ≡ Err why → why ≡ whys.NoSites
    by_word false e = cc
    by_word true e = first_err (sites_at (suffix line)) why e

pub first_wrong : (line : List ℕ) (why : Why) → first_line line ≡ Err why → ¬ IsRightLine None line
first_wrong line why e = λ h. let right = ap first_line h.2 ∙ first_right h.0 h.1 in absurd cc

none_below : (line : List ℕ) (other : Why) → rank other < 0 → ¬ Fits None line other
none_below line other lt = absurd (omega arith)

pub first_cause : (line : List ℕ) (why : Why) → first_line line ≡ Err why → IsCause None line why
first_cause line why e =
    let made : IsCause None line whys.NoSites = record { fits = first_wrong line why e; first = none_below line } in
    subst (IsCause None line) (sym (first_why line why e)) made
