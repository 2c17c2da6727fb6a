-- Each ask is answered, by the course of each valid and accepted list of few events.
use Rattle.std.proofs.Common.{◌≡◌, ◌<◌, ℕ, zero, suc, ◌-◌, false, List, [], ◌∷◌, ◌++◌, map, length, Option, Some, None, IsTrue, refl, sym, ap, subst, ◌∙◌, arith, append_assoc, length-append}
use Rattle.std.specs.List.{slice_get, range_with_len, Contains}
use Rattle.std.proofs.lemmas.List.{append-nil, length-map, length-replicate, take_all}
use Rattle.std.proofs.lemmas.List.Concat.{flat_map-append}
use Rattle.std.proofs.lemmas.List.Elements.{Contains-append_left, Contains-push}
use Rattle.rs_base.specs.declared.peer.Peer.TheVariants as peers
use Rattle.rs_base.specs.declared.txn.Origin.{Origin}
use Rattle.rs_base.specs.declared.reply.Reply.{Reply}
use Rattle.rs_base.specs.declared.reply.Reply.TheVariants as replies
use Rattle.rs_ast.specs.declared.stmt.Stmt.{Stmt}
use Rattle.rs_msg.specs.declared.message.Message.{Message}
use Rattle.rs_msg.specs.declared.message.Message.TheVariants as messages
use Rattle.rs_msg.specs.Reader.{message_of}
use Rattle.rs_sched.specs.declared.event.Event.{Event}
use Rattle.rs_sched.specs.declared.event.Event.TheVariants as events
use Rattle.rs_sched.specs.Schedule.{IsValid, IsLater, AreLater}
use Rattle.rs_site.specs.Asking.{last_number, on_first}
use Rattle.rs_site.specs.Planned.{Planned}
use Rattle.rs_site.specs.State.{SiteState, next_txn}
use Rattle.rs_site.specs.Statement.{statement_of, offset_replied}
use Rattle.rs_course.specs.declared.input.Input.{Input}
use Rattle.rs_course.specs.declared.input.Input.TheVariants as inputs
use Rattle.rs_course.specs.declared.outs.Decided.{Decided}
use Rattle.rs_site.proofs.Acceptance.{Acceptance, NotRead, Read, accepted}
use Rattle.rs_site.proofs.Asked.{Asked, asked}
use Rattle.rs_course.specs.declared.datagram.Datagram.{Datagram}
use Rattle.rs_course.specs.declared.report.ReportedReply.{ReportedReply}
use Rattle.rs_course.specs.Course.{Action, Open, Post, Give, GiveNext, Lose, Tick, Stop, Arm, Restart, Noise, actions_of, ask_datagram, deliveries, delivery_of, reported_reply, gives, noise_of}
use Rattle.rs_site.specs.Course.{course}
use Rattle.rs_site.specs.History.{database_of}
use Rattle.rs_course.specs.Moments.{actions, ask_input}
use Rattle.rs_site.specs.Moments.{world_after, Receives, Accepts}
use Rattle.rs_course.specs.Played.{are_accepted}
use Rattle.rs_site.specs.Report.{report_of}
use Rattle.rs_site.specs.Tables.{tables_at}
use Rattle.rs_site.specs.World.{World}
use Rattle.rs_course.proofs.Pending.{gives_next}
use Rattle.law_world.specs.Answered.{asked_by, requests_asked, requests_answered, IsEntered, EachAskIsAnswered, HaveTransactions}
use Rattle.law_world.proofs.AtEach.{StateAt, at_each}
use Rattle.law_world.proofs.Growing.{grows}
use Rattle.law_world.proofs.HistoryFields.{the_one, sites_are}
use Rattle.law_world.proofs.Kept.{get_prefix}
use Rattle.law_world.proofs.Messages.{ask_is_read}
use Rattle.law_world.proofs.Played.{IsPost, IsPlayed, ArePlayed, Playable, deliveries_are, ask_of, played_first, playable, is_post, one_site, sites_one, course_is}
use Rattle.law_world.proofs.Posts.{posts_of, numbered_of, waiting, posts_are_asked, few_posts, none_left_waiting, none_waits_settled}
use Rattle.law_world.proofs.Progress.{GoOn, Works, Posting, datagram_of, works_law, progress, room_now}
use Rattle.law_world.proofs.Received.{gone_count}
use Rattle.law_world.proofs.Replied.{entries_replied}
use Rattle.law_world.proofs.Reports.{get_last}
use Rattle.law_world.proofs.Turns.{onward, turns_received}
use Rattle.law_world.proofs.Walk.{after, after_push, played_after}

-- the bytes that a site is given
abbrev bytes_of : Input → List ℕ
bytes_of (inputs.Datagram from bytes) = bytes
bytes_of inputs.Tick = []

abbrev bytes_given : Option (ℕ × Input) → List ℕ
bytes_given None = []
bytes_given (Some (number, input)) = bytes_of input

---- what is asked is asked within its limits

later_at : (n : ℕ) (given : List Event) (event : Event) → AreLater n given → Contains given event → IsLater n event
later_at n [] event later (k, lt, is) = absurd (omega (arith, lt))
later_at n (first ∷ others) event later (zero, lt, is) = subst (IsLater n) is later.0
later_at n (first ∷ others) event later (suc k, lt, is) = later_at n others event later.1 (k, omega (arith, lt), is)

-- ---- the course

module _ (given : List Event) (valid : IsValid given) (are : IsTrue (are_accepted false given)) (few : HaveTransactions given) where
  can : Playable given
  can = playable given valid are

  posts_same : posts_of can.others ≡ posts_of (actions given)
  posts_same = sym (ap posts_of can.separated)

  few_posted : length (posts_of can.others) < last_number
  few_posted = omega (arith, few, few_posts given, ap (λ (ps : List Posting). length ps) posts_same)

  -- the replies after some of the events, if none waits then
  answered_then : (first : List Event) (done suffix : List Action) → actions first ≡ Open 1 ∷ done → can.others ≡ done ++ suffix → waiting done ≡ 0
      → requests_answered (course first).replies ≡ requests_asked first
  answered_then first done suffix are_first separated settled =
      let world = after done in
      let now = progress given can few_posted done suffix separated in
      let many : length (posts_of done) ≡ length world.sent = sym (ap (λ (ds : List Datagram). length ds) now.sent ∙ length-map (posts_of done) datagram_of) in
      ap (λ (w : World). requests_answered w.replies) (course_is first ∙ ap world_after are_first)
      ∙ now.answered
      ∙ ap numbered_of (take_all (gone_count world) (posts_of done) (omega (arith, many, now.waits_for, settled)))
      ∙ ap (λ (hs : List Action). numbered_of (posts_of hs)) (sym are_first)
      ∙ posts_are_asked first

  in_order : requests_answered (course given).replies ≡ requests_asked given
  in_order = answered_then given can.others [] can.separated (sym (append-nil can.others)) (sym (ap waiting can.separated) ∙ none_left_waiting given are)

  -- so it is after each settle
  settled : (before suffix : List Event) → given ≡ before ++ events.Settle None ∷ suffix → requests_answered (course (before ++ events.Settle None ∷ [])).replies ≡ requests_asked before
  settled before suffix is = by_first (actions first) refl
    where
      first : List Event
      first = before ++ events.Settle None ∷ []

      whole : given ≡ first ++ suffix
      whole = is ∙ sym (append_assoc before (events.Settle None ∷ []) suffix)

      split : actions given ≡ actions first ++ actions suffix
      split = ap actions whole ∙ flat_map-append actions_of first suffix

      none : waiting (actions first) ≡ 0
      none = none_waits_settled before suffix (subst (λ (all : List Event). IsTrue (are_accepted false all)) is are)

      asked_same : requests_asked first ≡ requests_asked before
      asked_same = flat_map-append asked_by before (events.Settle None ∷ []) ∙ append-nil (requests_asked before)

      no_actions : actions first ≡ [] → ⊥
      no_actions e = omega (
        arith,
        ap (λ (hs : List Action). length hs) e,
        ap (λ (hs : List Action). length hs) (flat_map-append actions_of before (events.Settle None ∷ [])),
        length-append (actions before) (deliveries ++ []),
        length-append deliveries [],
        ap (λ (hs : List Action). length hs) deliveries_are.2,
        length-replicate deliveries_are.0 GiveNext,
        deliveries_are.1,
      )

      by_first : (hs : List Action) → actions first ≡ hs → requests_answered (course first).replies ≡ requests_asked before
      by_first [] e = absurd (no_actions e)
      by_first (h ∷ done) e =
          let heads : Open 1 ∷ can.others ≡ h ∷ (done ++ actions suffix) = sym can.separated ∙ split ∙ ap (λ (hs : List Action). hs ++ actions suffix) e in
          let opens : h ≡ Open 1 = cc in
          let rest : can.others ≡ done ++ actions suffix = cc in
          let is_first : actions first ≡ Open 1 ∷ done = e ∙ ap (λ (x : Action). x ∷ done) opens in
          answered_then first done (actions suffix) is_first rest (sym (ap waiting is_first) ∙ none) ∙ asked_same

  module _ (origin : Origin) (text : List ℕ) (is : IsPost origin text) where
    -- the result of the delivery by which the ask is received
    pub record Comes (before : List Action) (site : SiteState) : Type 0 where
      pub came : Planned
      pub cases : Asked site (peers.Client 0) origin text came
      pub go : GoOn site
      pub room : site.desk.begun < last_number
      pub reported_after : List ReportedReply
      pub replies_are : (course given).replies ≡ ((world_after before).replies ++ map reported_reply came.outs.replies) ++ reported_after
      pub more : List Decided
      pub history_is : (course given).history ≡ ((world_after before).history ++ came.outs.decided) ++ more

    comes_now : (done suffix : List Action) → can.others ≡ done ++ GiveNext ∷ suffix → slice_get (after done).sent (gone_count (after done)) ≡ Some (ask_datagram origin text)
        → (m : StateAt (Works given) (Open 1 ∷ done) (after done)) → Comes (Open 1 ∷ done) m.site
    comes_now done suffix separated waits m =
        let world = after done in
        let came : Planned = on_first m.site (peers.Client 0) origin text in
        let next : world_after ((Open 1 ∷ done) ++ GiveNext ∷ []) ≡ onward world came.after (map reported_reply came.outs.replies) came.outs.decided
        = after_push done GiveNext ∙ turns_received (Open 1 ∷ done) world m.site m.stands.one m.stands.below origin text is waits in
        let on = grows ((Open 1 ∷ done) ++ GiveNext ∷ []) suffix in
        let whole : course given ≡ world_after (((Open 1 ∷ done) ++ GiveNext ∷ []) ++ suffix)
        = course_is given ∙ ap world_after (can.separated ∙ ap (λ (hs : List Action). Open 1 ∷ hs) separated ∙ sym (append_assoc (Open 1 ∷ done) (GiveNext ∷ []) suffix)) in
        record {
          came = came;
          cases = asked m.site (peers.Client 0) origin text;
          go = m.holds.0;
          room = room_now given can few_posted done (GiveNext ∷ suffix) separated (progress given can few_posted done (GiveNext ∷ suffix) separated) m.site m.holds.1.begun;
          reported_after = on.givens;
          replies_are = ap (λ (w : World). w.replies) whole ∙ on.replies ∙ ap (λ (w : World). w.replies ++ on.givens) next;
          more = on.entries;
          history_is = ap (λ (w : World). w.history) whole ∙ on.history ∙ ap (λ (w : World). w.history ++ on.entries) next;
        }

    -- the delivered datagram is the ask
    is_ask : (datagram : Datagram) (number : ℕ) → delivery_of datagram ≡ (number, ask_input origin text) → number ≡ origin.site → datagram ≡ ask_datagram origin text
    is_ask datagram number same home =
        let to : datagram.to ≡ number = ap (λ (p : ℕ × Input). p.0) same in
        let input : inputs.Datagram datagram.from datagram.bytes ≡ ask_input origin text = ap (λ (p : ℕ × Input). p.1) same in
        let from : datagram.from ≡ peers.Client 0 = cc in
        let bytes : datagram.bytes ≡ (ask_datagram origin text).bytes = cc in
        λ i. record { from = from i; to = (to ∙ home) i; bytes = bytes i }

    -- no noise is an ask
    not_noise : (site number : ℕ) (bytes : List ℕ) (read : Option Message) → message_of bytes ≡ read → noise_of site bytes read ≡ Some (number, ask_input origin text) → ⊥
    not_noise site number bytes (Some message) reads e = cc
    not_noise site number bytes None reads e =
        let same : bytes ≡ (ask_datagram origin text).bytes = ap bytes_given e in
        let both : None ≡ Some (messages.Ask (ask_of origin text)) = sym reads ∙ ap message_of same ∙ ask_is_read (ask_of origin text) is.within in
        cc

    -- the action by which the ask is received is a delivery
    received_by : (done : List Action) (m : StateAt (Works given) (Open 1 ∷ done) (after done)) (action : Action) (number : ℕ) → IsPlayed action
        → gives (after done) action ≡ Some (number, ask_input origin text) → number ≡ origin.site → (action ≡ GiveNext) × (slice_get (after done).sent (gone_count (after done)) ≡ Some (ask_datagram origin text))
    received_by done m (Open last) number played e home = absurd played
    received_by done m (Post other said) number played e home = absurd cc
    received_by done m (Give k) number played e home = absurd played
    received_by done m GiveNext number played e home =
        let found = gives_next (after done) (gone_count (after done)) m.stands.one.gone number (ask_input origin text) e in
        (refl, found.1 ∙ ap (λ (d : Datagram). Some d) (is_ask found.0 number found.2 home))
    received_by done m (Lose k) number played e home = absurd played
    received_by done m (Tick site) number played e home = absurd played
    received_by done m (Stop site) number played e home = absurd played
    received_by done m (Arm site) number played e home = absurd played
    received_by done m (Restart site) number played e home = absurd played
    received_by done m (Noise site bytes) number played e home = absurd (not_noise site number bytes (message_of bytes) refl e)

    comes_at : (done suffix : List Action) (action : Action) (site : SiteState) → can.others ≡ done ++ action ∷ suffix → Receives given (Open 1 ∷ done) action site origin text → Comes (Open 1 ∷ done) site
    comes_at done suffix action site separated receives =
        let m = at_each given can (Works given) (works_law given) done (action ∷ suffix) separated in
        let played = (played_first action suffix (played_after done (action ∷ suffix) (subst ArePlayed separated can.are))).0 in
        let by = received_by done m action receives.step.number played receives.step.gives receives.home in
        let same : site ≡ m.site = the_one (after done).sites m.site site (receives.step.number - 1) m.stands.one.sites receives.step.at in
        subst (Comes (Open 1 ∷ done)) (sym same) (comes_now done suffix (separated ∙ ap (λ (h : Action). done ++ h ∷ suffix) by.0) by.1 m)

    comes : (before : List Action) (action : Action) (site : SiteState) → Receives given before action site origin text → Comes before site
    comes [] action site receives =
        let both : Open 1 ∷ can.others ≡ action ∷ receives.step.suffix = sym can.separated ∙ receives.step.separated in
        let opens : action ≡ Open 1 = cc in
        let none : gives (world_after []) (Open 1) ≡ Some (receives.step.number, ask_input origin text) = subst (λ (h : Action). gives (world_after []) h ≡ Some (receives.step.number, ask_input origin text)) opens receives.step.gives in
        absurd cc
    comes (first ∷ done) action site receives =
        let both : Open 1 ∷ can.others ≡ first ∷ (done ++ action ∷ receives.step.suffix) = sym can.separated ∙ receives.step.separated in
        let is_first : first ≡ Open 1 = cc in
        let others : can.others ≡ done ++ action ∷ receives.step.suffix = cc in
        subst (λ (h : Action). Comes (h ∷ done) site) (sym is_first) (comes_at done receives.step.suffix action site others (subst (λ (h : Action). Receives given (h ∷ done) action site origin text) is_first receives))

    accepted_then : (accepts : Accepts given origin text) (c : Comes accepts.before accepts.site) → Acceptance accepts.site (peers.Client 0) origin text c.came
    accepted_then accepts c = accepted accepts.site (peers.Client 0) origin text accepts.epoch accepts.number (c.go origin.user) c.room c.came c.cases

    entered : (stmt : Stmt) → Accepts given origin text → statement_of text ≡ Some stmt → IsEntered (course given).history origin text
    entered stmt accepts reads = by_accepted (comes accepts.before accepts.action accepts.site accepts.receives) (accepted_then accepts (comes accepts.before accepts.action accepts.site accepts.receives))
      where
        by_accepted : (c : Comes accepts.before accepts.site) → Acceptance accepts.site (peers.Client 0) origin text c.came → IsEntered (course given).history origin text
        by_accepted c (NotRead none e) = absurd (let both : None ≡ Some stmt = sym none ∙ reads in cc)
        by_accepted c (Read s read e) =
            let prefix : List Decided = (world_after accepts.before).history in
            let entry : Decided = record { txn = next_txn accepts.site.who accepts.site.desk; origin = origin; text = text } in
            let whole : (course given).history ≡ (prefix ++ entry ∷ []) ++ c.more = c.history_is ∙ ap (λ (p : Planned). (prefix ++ p.outs.decided) ++ c.more) e in
            record {
              position = length prefix;
              entry = entry;
              there = ap (λ (es : List Decided). slice_get es (length prefix)) whole ∙ get_prefix (prefix ++ entry ∷ []) c.more entry (length prefix) (get_last prefix entry);
              origin_is = refl;
              text_is = refl;
            }

    abbrev replied_as : Reply → ReportedReply
    replied_as reply = record { origin = origin; reply = reply }

    no_request_replied : Accepts given origin text → statement_of text ≡ None → Contains (course given).replies (replied_as (replies.Syntax (offset_replied text)))
    no_request_replied accepts none = by_accepted (comes accepts.before accepts.action accepts.site accepts.receives) (accepted_then accepts (comes accepts.before accepts.action accepts.site accepts.receives))
      where
        by_accepted : (c : Comes accepts.before accepts.site) → Acceptance accepts.site (peers.Client 0) origin text c.came → Contains (course given).replies (replied_as (replies.Syntax (offset_replied text)))
        by_accepted c (Read s read e) = absurd (let both : None ≡ Some s = sym none ∙ read in cc)
        by_accepted c (NotRead not_read e) =
            let prefix : List ReportedReply = (world_after accepts.before).replies in
            let syntax : ReportedReply = replied_as (replies.Syntax (offset_replied text)) in
            let whole : (course given).replies ≡ (prefix ++ syntax ∷ []) ++ c.reported_after = c.replies_are ∙ ap (λ (p : Planned). (prefix ++ map reported_reply p.outs.replies) ++ c.reported_after) e in
            subst (λ (gs : List ReportedReply). Contains gs syntax) (sym whole) (Contains-append_left (prefix ++ syntax ∷ []) c.reported_after syntax (Contains-push prefix syntax))

asked_is_post : (given : List Event) → IsValid given → IsTrue (are_accepted false given) → (origin : Origin) (text : List ℕ) → Contains given (events.Ask origin text) → IsPost origin text
asked_is_post [] valid are origin text at = absurd valid
asked_is_post (events.Sites last ∷ others) valid are origin text (zero, lt, is) = absurd cc
asked_is_post (events.Sites last ∷ others) valid are origin text (suc k, lt, is) =
    is_post origin text (later_at 1 others (events.Ask origin text) (subst (λ (n : ℕ). AreLater n others) (one_site last others are) valid.1) (k, omega (arith, lt), is))
asked_is_post (events.Ask first said ∷ others) valid are origin text at = absurd valid
asked_is_post (events.Deliver k ∷ others) valid are origin text at = absurd valid
asked_is_post (events.Lose k ∷ others) valid are origin text at = absurd valid
asked_is_post (events.Tick site n ∷ others) valid are origin text at = absurd valid
asked_is_post (events.Stop site k j ∷ others) valid are origin text at = absurd valid
asked_is_post (events.Arm site c k j ∷ others) valid are origin text at = absurd valid
asked_is_post (events.Restart site ∷ others) valid are origin text at = absurd valid
asked_is_post (events.Settle count ∷ others) valid are origin text at = absurd valid
asked_is_post (events.Noise site bytes ∷ others) valid are origin text at = absurd valid

-- the report of the course answers each ask
pub answers : (given : List Event) → IsValid given → IsTrue (are_accepted false given) → HaveTransactions given → EachAskIsAnswered given (report_of (course given))
answers given valid are few =
    let can = playable given valid are in
    record {
      in_order = in_order given valid are few;
      settled = settled given valid are few;
      entries_replied = entries_replied given can;
      entered = λ origin text stmt at accepts reads. entered given valid are few origin text (asked_is_post given valid are origin text at) stmt accepts reads;
      no_request_replied = λ origin text at accepts none. no_request_replied given valid are few origin text (asked_is_post given valid are origin text at) accepts none;
      sites_are_up = subst (AreUp given) (sym (sites_one given valid are)) (sites_are given can);
    }
  where
    AreUp : List Event → ℕ → Type 0
    AreUp events n = (report_of (course events)).sites ≡ map (λ number. record { site = number; up = Some 1; tables = tables_at number (database_of n (course events).history) }) (range_with_len 1 n)
