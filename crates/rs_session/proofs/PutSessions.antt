-- Whose session changes once a session is stored in a book.
use Rattle.std.proofs.Common.{◌≡◌, ◌≢◌, ◌⊎◌, inl, inr, ℕ, Bool, true, false, List, refl}
use Rattle.std.specs.Prelude.{bytes_eq}
use Rattle.std.proofs.lemmas.Cmp.{nat_list_cmp_total}
use Rattle.std.proofs.lemmas.Map.Lookups.{exact_bytes}
use Rattle.std.proofs.lemmas.Slice.Eq.{bytes_eq-Decides}
use Rattle.law_map.proofs.Entries.{apart, lookup_put, lookup_beside}
use Rattle.rs_session.specs.declared.session.Session.{Session}
use Rattle.rs_session.specs.Sessions.{Book, session_of, with_session}

-- the user has the stored session
pub session_put : (user : List ℕ) (session : Session) (book : Book) → session_of user (with_session user session book) ≡ session
session_put user session book = rw (lookup_put nat_list_cmp_total user session book) refl

-- each other user keeps its session
pub session_beside : (user : List ℕ) (session : Session) (book : Book) (other : List ℕ) → other ≢ user → session_of other (with_session user session book) ≡ session_of other book
session_beside user session book other differ = rw (lookup_beside nat_list_cmp_total user session other (apart exact_bytes other user differ) book) refl

-- users are the same or not
pub user_is : (a b : List ℕ) → (a ≡ b) ⊎ (a ≢ b)
user_is a b = by_test (bytes_eq a b) refl
  where
    by_test : (t : Bool) → bytes_eq a b ≡ t → (a ≡ b) ⊎ (a ≢ b)
    by_test true e = inl ((bytes_eq-Decides a b).0 e)
    by_test false e = inr (λ same. absurd (differ ((bytes_eq-Decides a b).1 same) e))
      where
        differ : bytes_eq a b ≡ true → bytes_eq a b ≡ false → ⊥
        differ x y = cc
