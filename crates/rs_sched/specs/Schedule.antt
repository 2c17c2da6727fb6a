-- The bytes that are a schedule, and its events.
use Rattle.std.specs.Prelude.{◌≡◌, ℕ, ◌≤◌, List, [], ◌∷◌, ◌++◌, length, flat_map, codes, Option, Some, None, IsTrue, ◌⊎◌}
use Rattle.rs_sched.specs.declared.event.Event.{Event}
use Rattle.rs_sched.specs.declared.event.Event.TheVariants as events
use Rattle.rs_sched.specs.Lines.{lines_of, without_returns, is_comment}
use Rattle.rs_sched.specs.Encoding.{line_of, IsSiteNo, HasFields, HasText}

-- the site that an event names
abbrev pub site_of : Event → Option ℕ
site_of (events.Sites n) = Some n
site_of (events.Ask origin text) = Some origin.site
site_of (events.Deliver k) = None
site_of (events.Lose k) = None
site_of (events.Tick site n) = Some site
site_of (events.Stop site k j) = Some site
site_of (events.Arm site c k j) = Some site
site_of (events.Restart site) = Some site
site_of (events.Settle count) = None
site_of (events.Noise site bytes) = Some site

-- the event names no site above `sites`
abbrev pub IsWithin : ℕ → Option ℕ → Type 0
IsWithin sites None = Unit {0}
IsWithin sites (Some site) = site ≤ sites

abbrev pub IsSites : Event → Type 0
IsSites (events.Sites n) = Unit {0}
IsSites (events.Ask origin text) = ⊥
IsSites (events.Deliver k) = ⊥
IsSites (events.Lose k) = ⊥
IsSites (events.Tick site n) = ⊥
IsSites (events.Stop site k j) = ⊥
IsSites (events.Arm site c k j) = ⊥
IsSites (events.Restart site) = ⊥
IsSites (events.Settle count) = ⊥
IsSites (events.Noise site bytes) = ⊥

-- an event after the sites event, except that the text of an ask may be any
pub record FieldsFit (sites : ℕ) (event : Event) : Type 0 where
  pub fields : HasFields event
  pub sites_once : IsSites event → ⊥
  pub site_right : IsWithin sites (site_of event)

-- an event after the sites event
pub record IsLater (sites : ℕ) (event : Event) : Type 0 where
  pub fits : FieldsFit sites event
  pub text : HasText event

abbrev pub AreLater : ℕ → List Event → Type 0
AreLater sites [] = Unit {0}
AreLater sites (event ∷ others) = IsLater sites event × AreLater sites others

-- A valid list begins with its only sites event, and names no site above that.
abbrev pub IsValid : List Event → Type 0
IsValid [] = ⊥
IsValid (events.Sites n ∷ others) = IsSiteNo n × AreLater n others
IsValid (_ ∷ others) = ⊥

-- the lines of these events in order; comments between them and carriage returns at line ends are ignored
abbrev pub AreLines : List (List ℕ) → List Event → Type 0
AreLines [] [] = Unit {0}
AreLines [] (event ∷ others) = ⊥
AreLines (line ∷ lines) [] = IsTrue (is_comment (without_returns line)) × AreLines lines []
AreLines (line ∷ lines) (event ∷ others) =
    (IsTrue (is_comment (without_returns line)) × AreLines lines (event ∷ others)) ⊎ ((without_returns line ≡ line_of event) × AreLines lines others)

-- The bytes are a schedule of these events: at most 2 ^ 24 bytes, with the lines of a valid list.
pub record IsSchedule (bytes : List ℕ) (given : List Event) : Type 0 where
  pub short : length bytes ≤ 16777216
  pub lines : AreLines (lines_of bytes) given
  pub valid : IsValid given

-- the events as lines, each with its line feed
abbrev pub text_of : List Event → List ℕ
text_of given = flat_map (λ event. line_of event ++ codes "\n") given
