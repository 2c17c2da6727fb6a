-- The line of an event. Fields are separated by one space; numbers are decimal, without sign or leading zero; bytes are
-- in lower-case hexadecimal, or `-` if there are none.
use Rattle.std.specs.Prelude.{◌≡◌, ℕ, ◌+◌, ◌/◌, ◌%◌, ◌^◌, ◌<◌, ◌≤◌, Bool, List, [], ◌∷◌, ◌++◌, flat_map, length, decimal, codes, Option, Some, None, IsTrue, nat_lt, not, ◌==◌, if◌then◌else◌}
use Rattle.std.specs.List.{list_all}
use Rattle.rs_base.specs.Ident.{is_ident}
use Rattle.rs_base.specs.Txt.{is_utf8}
use Rattle.rs_base.specs.declared.txn.Origin.{Origin}
use Rattle.rs_sched.specs.declared.event.Event.{Event}
use Rattle.rs_sched.specs.declared.event.Event.TheVariants as events
use Rattle.rs_sched.specs.declared.word.Word.{Word}
use Rattle.rs_sched.specs.declared.word.Word.TheVariants as words
use Rattle.rs_sched.specs.Lines.{without_returns}

-- the text of a keyword
abbrev pub encoding : Word → List ℕ
encoding words.Sites = codes "sites"
encoding words.Ask = codes "ask"
encoding words.Deliver = codes "deliver"
encoding words.Lose = codes "lose"
encoding words.Tick = codes "tick"
encoding words.Stop = codes "stop"
encoding words.Arm = codes "arm"
encoding words.Restart = codes "restart"
encoding words.Settle = codes "settle"
encoding words.Noise = codes "noise"

abbrev pub hex_digit : ℕ → ℕ
hex_digit n = if nat_lt n 10 then 48 + n else 87 + n

abbrev pub hex_byte : ℕ → List ℕ
hex_byte b = hex_digit (b / 16) ∷ hex_digit (b % 16) ∷ []

abbrev pub hex_of : List ℕ → List ℕ
hex_of [] = codes "-"
hex_of (b ∷ bytes) = flat_map hex_byte (b ∷ bytes)

-- a space and a number
abbrev pub number_field : ℕ → List ℕ
number_field n = codes " " ++ decimal n

abbrev pub ask_line : Origin → List ℕ → List ℕ
ask_line origin text = codes "ask" ++ number_field origin.site ++ codes " " ++ origin.user ++ number_field origin.epoch ++ number_field origin.number ++ codes " " ++ text

abbrev pub arm_line : ℕ → ℕ → ℕ → ℕ → List ℕ
arm_line site c k j = codes "arm" ++ number_field site ++ number_field c ++ number_field k ++ number_field j

abbrev pub settle_line : Option ℕ → List ℕ
settle_line None = codes "settle"
settle_line (Some n) = codes "settle" ++ number_field n

abbrev pub line_of : Event → List ℕ
line_of (events.Sites n) = codes "sites" ++ number_field n
line_of (events.Ask origin text) = ask_line origin text
line_of (events.Deliver k) = codes "deliver" ++ number_field k
line_of (events.Lose k) = codes "lose" ++ number_field k
line_of (events.Tick site n) = codes "tick" ++ number_field site ++ number_field n
line_of (events.Stop site k j) = codes "stop" ++ number_field site ++ number_field k ++ number_field j
line_of (events.Arm site c k j) = arm_line site c k j
line_of (events.Restart site) = codes "restart" ++ number_field site
line_of (events.Settle count) = settle_line count
line_of (events.Noise site bytes) = codes "noise" ++ number_field site ++ codes " " ++ hex_of bytes

-- the bytes have no line feed, and no carriage return at the end
abbrev pub IsLine : List ℕ → Type 0
IsLine line = IsTrue (list_all (λ b. not (b == 10)) line) × (without_returns line ≡ line)

-- the text of an ask: one line of UTF-8 of at most 8,192 bytes
pub record IsAskText (text : List ℕ) : Type 0 where
  pub short : length text ≤ 8192
  pub utf8 : IsTrue (is_utf8 text)
  pub line : IsLine text

-- from 1 to 16
abbrev pub IsSiteNo : ℕ → Type 0
IsSiteNo n = (1 ≤ n) × (n ≤ 16)

pub record IsOrigin (origin : Origin) : Type 0 where
  pub site : IsSiteNo origin.site
  pub user : IsTrue (is_ident origin.user)
  pub epoch : origin.epoch < 2 ^ 32
  pub number : origin.number < 2 ^ 64

abbrev pub is_byte : ℕ → Bool
is_byte b = nat_lt b 256

-- each field is in range, except the text of an ask, which may be any
abbrev pub HasFields : Event → Type 0
HasFields (events.Sites n) = IsSiteNo n
HasFields (events.Ask origin text) = IsOrigin origin
HasFields (events.Deliver k) = k < 2 ^ 64
HasFields (events.Lose k) = k < 2 ^ 64
HasFields (events.Tick site n) = IsSiteNo site × (1 ≤ n) × (n ≤ 1000)
HasFields (events.Stop site k j) = IsSiteNo site × (k < 2 ^ 64) × (j < 2 ^ 64)
HasFields (events.Arm site c k j) = IsSiteNo site × (1 ≤ c) × (c < 2 ^ 64) × (k < 2 ^ 64) × (j < 2 ^ 64)
HasFields (events.Restart site) = IsSiteNo site
HasFields (events.Settle None) = Unit {0}
HasFields (events.Settle (Some n)) = n < 2 ^ 64
HasFields (events.Noise site bytes) = IsSiteNo site × IsTrue (list_all is_byte bytes)

abbrev pub HasText : Event → Type 0
HasText (events.Ask origin text) = IsAskText text
HasText (events.Sites n) = Unit {0}
HasText (events.Deliver k) = Unit {0}
HasText (events.Lose k) = Unit {0}
HasText (events.Tick site n) = Unit {0}
HasText (events.Stop site k j) = Unit {0}
HasText (events.Arm site c k j) = Unit {0}
HasText (events.Restart site) = Unit {0}
HasText (events.Settle count) = Unit {0}
HasText (events.Noise site bytes) = Unit {0}
