-- The fault of bytes that aren't a schedule: the first bad line, and the first cause that fits it.
use Rattle.std.specs.Prelude.{◌≡◌, ℕ, ◌+◌, ◌<◌, ◌≤◌, List, [], ◌∷◌, ◌++◌, length, Option, Some, None, IsTrue, codes, ◌⊎◌}
use Rattle.rs_base.specs.Txt.{is_utf8}
use Rattle.rs_base.specs.declared.txn.Origin.{Origin}
use Rattle.rs_sched.specs.declared.event.Event.{Event}
use Rattle.rs_sched.specs.declared.event.Event.TheVariants as events
use Rattle.rs_sched.specs.declared.fault.Why.{Why}
use Rattle.rs_sched.specs.declared.fault.Why.TheVariants as whys
use Rattle.rs_sched.specs.declared.word.Word.{Word}
use Rattle.rs_sched.specs.declared.word.Word.TheVariants as words
use Rattle.rs_sched.specs.Lines.{lines_of, without_returns, is_comment}
use Rattle.rs_sched.specs.Encoding.{encoding, line_of, IsSiteNo}
use Rattle.rs_sched.specs.Schedule.{FieldsFit, IsLater, AreLines, IsValid}

abbrev pub text_of : Why → List ℕ
text_of whys.NoSites = codes "no sites line"
text_of whys.SitesAgain = codes "sites again"
text_of whys.UnknownWord = codes "unknown word"
text_of whys.BadFields = codes "bad fields"
text_of whys.NotUtf8 = codes "not UTF-8"
text_of whys.TooLong = codes "too long"

-- ---- a line

-- the line's first field, up to the first space, is this keyword
abbrev pub BeginsWith : Word → List ℕ → Type 0
BeginsWith word line = (line ≡ encoding word) ⊎ ((rest : List ℕ) × (line ≡ encoding word ++ codes " " ++ rest))

-- a valid sites line
abbrev pub IsSitesLine : List ℕ → Type 0
IsSitesLine line = (n : ℕ) × IsSiteNo n × (line ≡ line_of (events.Sites n))

-- the line is valid after a sites line of this number of sites, or as the first event's line
abbrev pub IsRightLine : Option ℕ → List ℕ → Type 0
IsRightLine None line = IsSitesLine line
IsRightLine (Some sites) line = (event : Event) × IsLater sites event × (line ≡ line_of event)

-- the line has valid fields for its keyword, except the text of an ask, which may be any
abbrev pub HasRightFields : ℕ → List ℕ → Type 0
HasRightFields sites line = (event : Event) × FieldsFit sites event × (line ≡ line_of event)

-- the line is an ask with this text, whose other fields are valid
pub record IsAskOf (sites : ℕ) (line text : List ℕ) : Type 0 where
  pub origin : Origin
  pub fits : FieldsFit sites (events.Ask origin text)
  pub written : line ≡ line_of (events.Ask origin text)

-- the causes that fit a line
abbrev pub Fits : Option ℕ → List ℕ → Why → Type 0
Fits None line whys.NoSites = ¬ IsSitesLine line
Fits None line whys.SitesAgain = ⊥
Fits None line whys.UnknownWord = ⊥
Fits None line whys.BadFields = ⊥
Fits None line whys.NotUtf8 = ⊥
Fits None line whys.TooLong = ⊥
Fits (Some sites) line whys.NoSites = ⊥
Fits (Some sites) line whys.SitesAgain = BeginsWith words.Sites line
Fits (Some sites) line whys.UnknownWord = (word : Word) → ¬ BeginsWith word line
Fits (Some sites) line whys.BadFields = ¬ HasRightFields sites line
Fits (Some sites) line whys.NotUtf8 = (text : List ℕ) × IsAskOf sites line text × (¬ IsTrue (is_utf8 text))
Fits (Some sites) line whys.TooLong = (text : List ℕ) × IsAskOf sites line text × (8192 < length text)

-- the order of the causes
abbrev pub rank : Why → ℕ
rank whys.NoSites = 0
rank whys.SitesAgain = 1
rank whys.UnknownWord = 2
rank whys.BadFields = 3
rank whys.NotUtf8 = 4
rank whys.TooLong = 5

-- the first cause that fits
pub record IsCause (sites : Option ℕ) (line : List ℕ) (why : Why) : Type 0 where
  pub fits : Fits sites line why
  pub first : (other : Why) → rank other < rank why → ¬ Fits sites line other

-- ---- the bytes

-- the number of sites, if the events begin with a sites event
abbrev pub sites_of : List Event → Option ℕ
sites_of (events.Sites n ∷ others) = Some n
sites_of _ = None

-- the events are a prefix of a valid list
abbrev pub IsBegun : List Event → Type 0
IsBegun [] = Unit {0}
IsBegun (event ∷ others) = IsValid (event ∷ others)

-- The first bad line: the lines before it are those of some events, and it is no comment and isn't valid after them.
pub record IsBadLine (bytes : List ℕ) (at : ℕ) (why : Why) : Type 0 where
  pub short : length bytes ≤ 16777216
  pub before : List (List ℕ)
  pub line : List ℕ
  pub suffix : List (List ℕ)
  pub separated : lines_of bytes ≡ before ++ line ∷ suffix
  pub numbered : at ≡ length before + 1
  pub given : List Event
  pub begun : IsBegun given
  pub given_right : AreLines before given
  pub no_comment : ¬ IsTrue (is_comment (without_returns line))
  pub not_right : ¬ IsRightLine (sites_of given) (without_returns line)
  pub cause : IsCause (sites_of given) (without_returns line) why

-- All lines are comments.
pub record HasNoLine (bytes : List ℕ) (at : ℕ) (why : Why) : Type 0 where
  pub short : length bytes ≤ 16777216
  pub comments : AreLines (lines_of bytes) []
  pub numbered : at ≡ length (lines_of bytes) + 1
  pub cause : why ≡ whys.NoSites

-- There are too many bytes.
pub record HasTooMany (bytes : List ℕ) (at : ℕ) (why : Why) : Type 0 where
  pub long : 16777216 < length bytes
  pub numbered : at ≡ 0
  pub cause : why ≡ whys.TooLong

-- the fault of the bytes is at this line, for this cause
abbrev pub IsFault : List ℕ → ℕ → Why → Type 0
IsFault bytes at why = HasTooMany bytes at why ⊎ IsBadLine bytes at why ⊎ HasNoLine bytes at why
