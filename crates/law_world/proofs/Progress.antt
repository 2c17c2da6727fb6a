-- In each state the replies answer the asks that were delivered, and the rest of what was posted waits.
use Rattle.std.proofs.Common.{◌≡◌, ◌<◌, ◌≤◌, ℕ, zero, suc, ◌+◌, Bool, true, false, cond, ◌||◌, inl, inr, List, [], ◌∷◌, ◌++◌, map, length, take, Some, None, refl, sym, ap, subst, ◌∙◌, arith, length-append}
use Rattle.std.specs.Prelude.{◌==◌}
use Rattle.std.specs.List.{slice_get, range_with_len}
use Rattle.std.proofs.lemmas.List.FromFn.{length-range_with_len}
use Rattle.std.proofs.lemmas.Bool.Decides.{nat_tests}
use Rattle.std.proofs.lemmas.List.{append-nil, length-map, take-append-le, map-append}
use Rattle.std.proofs.lemmas.List.Concat.{flat_map-append}
use Rattle.std.proofs.lemmas.List.Sums.{fold_push}
use Rattle.rs_base.specs.declared.peer.Peer.TheVariants as peers
use Rattle.rs_base.specs.declared.txn.Origin.{Origin}
use Rattle.rs_base.specs.declared.reply.Reply.{Reply}
use Rattle.rs_sched.specs.declared.event.Event.{Event}
use Rattle.rs_session.specs.declared.session.Session.{Session}
use Rattle.rs_course.specs.declared.outs.Decided.{Decided}
use Rattle.rs_site.specs.Asking.{last_number, on_first, remembering, with_reply}
use Rattle.rs_session.specs.Sessions.{Book, session_of, is_there, last_is_answered}
use Rattle.rs_site.specs.Planned.{Planned}
use Rattle.rs_site.specs.State.{SiteState}
use Rattle.rs_site.proofs.Asked.{Asked, Refused, RepliedAgain, Silent, NoRequest, Spent, Executed, asked}
use Rattle.rs_session.proofs.PutSessions.{session_put, session_beside, user_is}
use Rattle.rs_course.specs.declared.report.ReportedReply.{ReportedReply}
use Rattle.rs_course.specs.declared.datagram.Datagram.{Datagram}
use Rattle.rs_site.specs.World.{World}
use Rattle.law_world.specs.Answered.{numbered, requests_answered}
use Rattle.rs_course.specs.Course.{Action, Open, Post, Give, GiveNext, Lose, Tick, Stop, Arm, Restart, Noise, reported_reply, ask_datagram}
use Rattle.rs_site.specs.Course.{act}
use Rattle.rs_site.proofs.Pending.{none_next}
use Rattle.law_world.proofs.AtEach.{IsLaw, StateAt, at_each}
use Rattle.law_world.proofs.Entered.{Entered}
use Rattle.law_world.proofs.Entering.{entered_law}
use Rattle.law_world.proofs.Gets.{get_push, get_at, take-get}
use Rattle.law_world.proofs.Received.{gone_count, noise_stays}
use Rattle.law_world.proofs.Played.{IsPost, IsPlayed, Playable}
use Rattle.law_world.proofs.Posts.{posts_in, posts_of, posts_push, numbered_of, waits, waiting}
use Rattle.law_world.proofs.Turns.{onward, turns_received}
use Rattle.law_world.proofs.Walk.{after, after_push, walk}

-- ---- the last request of each user is answered

abbrev pub GoOn : SiteState → Type 0
GoOn site = (user : List ℕ) → last_is_answered (session_of user site.desk.sessions) ≡ true

or_true : (b : Bool) → (b || true) ≡ true
or_true true = refl
or_true false = refl

go_on_remembering : (site : SiteState) (origin : Origin) (reply : Reply) → GoOn site → GoOn (with_reply origin reply site)
go_on_remembering site origin reply go user =
    elim (user_is user origin.user) [
      | inl e ↦
          let is : session_of user book ≡ session = ap (λ (u : List ℕ). session_of u book) e ∙ session_put origin.user session site.desk.sessions in
          ap last_is_answered is ∙ or_true (origin.number == 0)
      | inr differ ↦ ap last_is_answered (session_beside origin.user session site.desk.sessions user differ) ∙ go user
    ]
  where
    session : Session
    session = record { last = origin.number; reply = Some reply }

    book : Book
    book = (remembering site.desk origin reply).sessions

go_on_received : (site : SiteState) (origin : Origin) (text : List ℕ) (came : Planned) → Asked site (peers.Client 0) origin text came → GoOn site → GoOn came.after
go_on_received site origin text came (Refused reply refusal is e) go = subst (λ (p : Planned). GoOn p.after) (sym e) go
go_on_received site origin text came (RepliedAgain reply last kept e) go = subst (λ (p : Planned). GoOn p.after) (sym e) go
go_on_received site origin text came (Silent last kept e) go = subst (λ (p : Planned). GoOn p.after) (sym e) go
go_on_received site origin text came (NoRequest next none e) go = subst (λ (p : Planned). GoOn p.after) (sym e) (go_on_remembering site origin _ go)
go_on_received site origin text came (Spent next stmt reads spent e) go = subst (λ (p : Planned). GoOn p.after) (sym e) go
go_on_received site origin text came (Executed next stmt reads room e) go = subst (λ (p : Planned). GoOn p.after) (sym e) (go_on_remembering site origin _ go)

abbrev pub Works : List Event → List Action → SiteState → List ReportedReply → List Decided → Type 0
Works given before site givens history = GoOn site × Entered given site givens history

pub works_law : (given : List Event) → IsLaw given (Works given)
works_law given = record {
  first = (λ user. refl, (entered_law given).first);
  later = λ before action site givens history holds. holds;
  received = λ before site origin text came receiving delivers cases holds. (go_on_received site origin text came cases holds.0, (entered_law given).received before site origin text came receiving delivers cases holds.1);
}

---- the output of a received ask

-- if no reply is stored, no request was accepted
pub none_kept : (session : Session) → session.reply ≡ None → last_is_answered session ≡ true → session.last ≡ 0
none_kept session kept go =
    let none : is_there session.reply ≡ false = ap is_there kept in
    let first : (session.last == 0) ≡ true = by_none (session.last == 0) (is_there session.reply) none go in
    grind (arith, nat_tests, first)
  where
    by_none : (a b : Bool) → b ≡ false → (a || b) ≡ true → a ≡ true
    by_none true b e h = refl
    by_none false b e h = absurd cc

not_numbered : (origin : Origin) → origin.number ≡ 0 → numbered origin ≡ []
not_numbered origin none = ap (λ (n : ℕ). cond (n == 0) [] (origin ∷ [])) none

module _ (site : SiteState) (origin : Origin) (text : List ℕ) (go : GoOn site) (room : site.desk.begun < last_number) where
  abbrev IsReplied : Planned → Type 0
  IsReplied came = (requests_answered (map reported_reply came.outs.replies) ≡ numbered origin) × (length came.outs.decided ≤ 1)

  pub reported_once : (came : Planned) → Asked site (peers.Client 0) origin text came → IsReplied came
  reported_once came (Refused reply refusal is e) = subst IsReplied (sym e) (append-nil (numbered origin), omega arith)
  reported_once came (RepliedAgain reply last kept e) = subst IsReplied (sym e) (append-nil (numbered origin), omega arith)
  reported_once came (Silent last kept e) = subst IsReplied (sym e) (sym (not_numbered origin (last.number ∙ none_kept (session_of origin.user site.desk.sessions) kept (go origin.user))), omega arith)
  reported_once came (NoRequest next none e) = subst IsReplied (sym e) (append-nil (numbered origin), omega arith)
  reported_once came (Spent next stmt reads spent e) = absurd (omega (arith, spent, room))
  reported_once came (Executed next stmt reads is e) = subst IsReplied (sym e) (append-nil (numbered origin), omega arith)

---- the facts of each state

abbrev pub Posting : Type 0
Posting = Origin × List ℕ

abbrev pub datagram_of : Posting → Datagram
datagram_of post = ask_datagram post.0 post.1

pub record Progress (done : List Action) (world : World) : Type 0 where
  pub sent : world.sent ≡ map datagram_of (posts_of done)
  pub posts : (i : ℕ) (post : Posting) → slice_get (posts_of done) i ≡ Some post → IsPost post.0 post.1
  pub waits_for : length world.sent ≡ gone_count world + waiting done
  pub answered : requests_answered world.replies ≡ numbered_of (take (gone_count world) (posts_of done))
  pub entries : length world.history ≤ gone_count world

get_map : {X Y : Type 0} (f : X → Y) (xs : List X) (i : ℕ) (x : X) → slice_get xs i ≡ Some x → slice_get (map f xs) i ≡ Some (f x)
get_map f [] i x e = absurd cc
get_map {X} f (y ∷ ys) zero x e = let same : y ≡ x = cc in ap (λ (z : X). Some (f z)) same
get_map f (y ∷ ys) (suc i) x e = get_map f ys i x e

nothing_at : {X : Type 0} (i : ℕ) (x : X) → slice_get [] i ≡ Some x → ⊥
nothing_at i x e = cc

progress_first : Progress [] (after [])
progress_first = record { sent = refl; posts = λ i post at. absurd (nothing_at i post at); waits_for = refl; answered = refl; entries = omega arith }

waiting_push : (done : List Action) (action : Action) → waiting (done ++ action ∷ []) ≡ waits (waiting done) action
waiting_push done action = fold_push waits 0 done action

module _ (done : List Action) (world : World) (now : Progress done world) where
  as_many : length (posts_of done) ≡ length world.sent
  as_many = sym (ap (λ (ds : List Datagram). length ds) now.sent ∙ length-map (posts_of done) datagram_of)

  -- nothing is posted, and there is no output
  on_nothing : (action : Action) → posts_in action ≡ [] → waits (waiting done) action ≡ waiting done → Progress (done ++ action ∷ []) world
  on_nothing action none same = record {
    sent = now.sent ∙ ap (λ (ps : List Posting). map datagram_of ps) (sym posts_same);
    posts = λ i post at. now.posts i post (ap (λ (ps : List Posting). slice_get ps i) (sym posts_same) ∙ at);
    waits_for = now.waits_for ∙ ap (λ (n : ℕ). gone_count world + n) (sym (waiting_push done action ∙ same));
    answered = now.answered ∙ ap (λ (ps : List Posting). numbered_of (take (gone_count world) ps)) (sym posts_same);
    entries = now.entries;
  }
    where
      posts_same : posts_of (done ++ action ∷ []) ≡ posts_of done
      posts_same = posts_push done action ∙ ap (λ (ps : List Posting). posts_of done ++ ps) none ∙ append-nil (posts_of done)

  on_post : (origin : Origin) (text : List ℕ) → IsPost origin text → Progress (done ++ Post origin text ∷ []) (record world { sent = world.sent ++ ask_datagram origin text ∷ [] })
  on_post origin text is = record {
    sent = ap (λ (ds : List Datagram). ds ++ ask_datagram origin text ∷ []) now.sent ∙ sym (map-append datagram_of (posts_of done) ((origin, text) ∷ [])) ∙ ap (λ (ps : List Posting). map datagram_of ps) (sym longer);
    posts = posts_next;
    waits_for = omega (arith, length-append world.sent (ask_datagram origin text ∷ []), now.waits_for, waiting_push done (Post origin text));
    answered = now.answered ∙ ap numbered_of (sym (take-append-le (gone_count world) (posts_of done) ((origin, text) ∷ []) (omega (arith, as_many, now.waits_for))))
        ∙ ap (λ (ps : List Posting). numbered_of (take (gone_count world) ps)) (sym longer);
    entries = now.entries;
  }
    where
      longer : posts_of (done ++ Post origin text ∷ []) ≡ posts_of done ++ (origin, text) ∷ []
      longer = posts_push done (Post origin text)

      posts_next : (i : ℕ) (post : Posting) → slice_get (posts_of (done ++ Post origin text ∷ [])) i ≡ Some post → IsPost post.0 post.1
      posts_next i post at =
          elim (get_push (posts_of done) (origin, text) post i (ap (λ (ps : List Posting). slice_get ps i) (sym longer) ∙ at)) [
            | inl p ↦ now.posts i post p.1
            | inr p ↦ subst (λ (p : Posting). IsPost p.0 p.1) p.1 is
          ]

  -- an ask that waited is received
  on_received : (site : SiteState) (post : Posting) → slice_get (posts_of done) (gone_count world) ≡ Some post → (came : Planned)
      → requests_answered (map reported_reply came.outs.replies) ≡ numbered post.0 → length came.outs.decided ≤ 1 → (w : ℕ) → waiting done ≡ suc w
      → Progress (done ++ GiveNext ∷ []) (onward world came.after (map reported_reply came.outs.replies) came.outs.decided)
  on_received site post at came reported few w some = record {
    sent = now.sent ∙ ap (λ (ps : List Posting). map datagram_of ps) (sym posts_same);
    posts = λ i other there. now.posts i other (ap (λ (ps : List Posting). slice_get ps i) (sym posts_same) ∙ there);
    waits_for = omega (arith, now.waits_for, some, waiting_push done GiveNext, one_more);
    answered =
        flat_map-append (λ (given : ReportedReply). numbered given.origin) world.replies (map reported_reply came.outs.replies)
        ∙ ap (λ (os : List Origin). os ++ requests_answered (map reported_reply came.outs.replies)) now.answered
        ∙ ap (λ (os : List Origin). numbered_of (take (gone_count world) (posts_of done)) ++ os) (reported ∙ sym (append-nil (numbered post.0)))
        ∙ sym (flat_map-append (λ (p : Posting). numbered p.0) (take (gone_count world) (posts_of done)) (post ∷ []))
        ∙ ap numbered_of (sym (take-get (posts_of done) (gone_count world) post at))
        ∙ ap (λ (ps : List Posting). numbered_of (take (gone_count world + 1) ps)) (sym posts_same)
        ∙ ap (λ (n : ℕ). numbered_of (take n (posts_of (done ++ GiveNext ∷ [])))) (sym one_more);
    entries = omega (arith, length-append world.history came.outs.decided, now.entries, few, one_more);
  }
    where
      one_more : length (range_with_len 1 (gone_count world + 1)) ≡ gone_count world + 1
      one_more = length-range_with_len 1 (gone_count world + 1)

      posts_same : posts_of (done ++ GiveNext ∷ []) ≡ posts_of done
      posts_same = posts_push done GiveNext ∙ append-nil (posts_of done)

---- each state

module _ (given : List Event) (can : Playable given) (few : length (posts_of can.others) < last_number) where
  state_at : (done suffix : List Action) → can.others ≡ done ++ suffix → StateAt (Works given) (Open 1 ∷ done) (after done)
  state_at done suffix separated = at_each given can (Works given) (works_law given) done suffix separated

  few_now : (done suffix : List Action) → can.others ≡ done ++ suffix → length (posts_of done) < last_number
  few_now done suffix separated =
      let parts : posts_of can.others ≡ posts_of done ++ posts_of suffix = ap posts_of separated ∙ flat_map-append posts_in done suffix in
      omega (arith, few, ap (λ (ps : List Posting). length ps) parts, length-append (posts_of done) (posts_of suffix))

  pub room_now : (done suffix : List Action) → can.others ≡ done ++ suffix → Progress done (after done) → (site : SiteState) → site.desk.begun ≡ length (after done).history → site.desk.begun < last_number
  room_now done suffix separated now site begun = omega (arith, begun, now.entries, now.waits_for, as_many done (after done) now, few_now done suffix separated)

  by_waiting : (done suffix : List Action) → can.others ≡ done ++ GiveNext ∷ suffix → Progress done (after done) → (n : ℕ) → waiting done ≡ n → Progress (done ++ GiveNext ∷ []) (act (after done) GiveNext)
  by_waiting done suffix separated now zero none =
      let m = state_at done (GiveNext ∷ suffix) separated in
      let left : act (after done) GiveNext ≡ after done = none_next (after done) (gone_count (after done)) m.stands.one.gone (omega (arith, now.waits_for, none)) in
      subst (Progress (done ++ GiveNext ∷ [])) (sym left) (on_nothing done (after done) now GiveNext refl (omega (arith, none)))
  by_waiting done suffix separated now (suc w) some =
      let world = after done in
      let found = get_at (posts_of done) (gone_count world) (omega (arith, now.waits_for, some, as_many done world now)) in
      let post = found.0 in
      let is = now.posts (gone_count world) post found.1 in
      let m = state_at done (GiveNext ∷ suffix) separated in
      let there : slice_get world.sent (gone_count world) ≡ Some (datagram_of post) = ap (λ (ds : List Datagram). slice_get ds (gone_count world)) now.sent ∙ get_map datagram_of (posts_of done) (gone_count world) post found.1 in
      let came : Planned = on_first m.site (peers.Client 0) post.0 post.1 in
      let reported = reported_once m.site post.0 post.1 m.holds.0 (room_now done (GiveNext ∷ suffix) separated now m.site m.holds.1.begun) came (asked m.site (peers.Client 0) post.0 post.1) in
      subst (Progress (done ++ GiveNext ∷ [])) (sym (turns_received (Open 1 ∷ done) world m.site m.stands.one m.stands.below post.0 post.1 is there)) (on_received done world now m.site post found.1 came reported.0 reported.1 w some)

  on_action : (done : List Action) (action : Action) (suffix : List Action) → can.others ≡ done ++ action ∷ suffix → IsPlayed action → Progress done (after done)
      → Progress (done ++ action ∷ []) (act (after done) action)
  on_action done (Open last) suffix separated is now = absurd is
  on_action done (Post origin text) suffix separated is now = on_post done (after done) now origin text is
  on_action done (Give number) suffix separated is now = absurd is
  on_action done (Lose number) suffix separated is now = absurd is
  on_action done (Tick number) suffix separated is now = absurd is
  on_action done (Stop number) suffix separated is now = absurd is
  on_action done (Arm number) suffix separated is now = absurd is
  on_action done (Restart number) suffix separated is now = absurd is
  on_action done GiveNext suffix separated is now = by_waiting done suffix separated now (waiting done) refl
  on_action done (Noise number bytes) suffix separated is now =
      let m = state_at done (Noise number bytes ∷ suffix) separated in
      subst (Progress (done ++ Noise number bytes ∷ [])) (sym (noise_stays (Open 1 ∷ done) (after done) m.site m.stands.one number bytes is)) (on_nothing done (after done) now (Noise number bytes) refl refl)

  abbrev At : List Action → Type 0
  At done = Progress done (after done)

  at_step : (done : List Action) (action : Action) (suffix : List Action) → can.others ≡ done ++ action ∷ suffix → IsPlayed action → At done → At (done ++ action ∷ [])
  at_step done action suffix separated is now = subst (Progress (done ++ action ∷ [])) (sym (after_push done action)) (on_action done action suffix separated is now)

  pub progress : (done suffix : List Action) → can.others ≡ done ++ suffix → Progress done (after done)
  progress done suffix separated = walk At can.others can.are at_step progress_first done suffix separated
