-- The sessions of a site's users.
use Rattle.std.specs.Prelude.{ℕ, Bool, true, false, ◌||◌, ◌==◌, List, [], Option, Some, None}
use Rattle.std.specs.BTreeMap.{insert_entry, is_at}
use Rattle.std.specs.Cmp.Lexicographic.{slice_cmp}
use Rattle.std.specs.List.Sorted.{IsStrictlySortedBy}
use Rattle.std.specs.Map.{keys_of, lookup}
use Rattle.std.specs.Ordering.{nat_cmp}
use Rattle.rs_base.specs.declared.reply.Reply.{Reply}
use Rattle.rs_session.specs.declared.session.Session.{Session}

-- the sessions of the users whose requests were accepted, sorted by user
abbrev pub Book : Type 0
Book = List (List ℕ × Session)

-- no user's request was accepted yet
abbrev pub all_fresh : Book
all_fresh = []

-- of a user whose requests were never accepted
abbrev pub fresh : Session
fresh = record { last = 0; reply = None }

abbrev pub or_fresh : Option Session → Session
or_fresh None = fresh
or_fresh (Some session) = session

-- the stored session of this user, if there is one
abbrev pub kept_of : List ℕ → Book → Option Session
kept_of user book = lookup (is_at (slice_cmp nat_cmp user)) book

-- the session of this user: a fresh one if none is stored
abbrev pub session_of : List ℕ → Book → Session
session_of user book = or_fresh (kept_of user book)

-- the book with this session for this user, and all others as they were
abbrev pub with_session : List ℕ → Session → Book → Book
with_session user session book = insert_entry (slice_cmp nat_cmp) book user session

-- the users are distinct and rise
abbrev pub IsInOrder : Book → Type 0
IsInOrder book = IsStrictlySortedBy (slice_cmp nat_cmp) (keys_of book)

abbrev pub is_there : Option Reply → Bool
is_there None = false
is_there (Some reply) = true

-- the last request is answered, or there was none: the next one may come
abbrev pub last_is_answered : Session → Bool
last_is_answered session = session.last == 0 || is_there session.reply
