-- What is posted and what waits, by the actions alone.
use Rattle.std.proofs.Common.{◌≡◌, ◌≤◌, ℕ, zero, suc, ◌+◌, ◌-◌, Bool, true, false, not, List, [], ◌∷◌, ◌++◌, length, Some, None, IsTrue, refl, sym, ap, subst, ◌∙◌, append_assoc, arith, length-append}
use Rattle.std.specs.Prelude.{fold, flat_map, replicate}
use Rattle.std.proofs.lemmas.List.{append-nil}
use Rattle.std.proofs.lemmas.List.Concat.{flat_map-append}
use Rattle.std.proofs.lemmas.List.Sums.{fold-append, fold_push}
use Rattle.rs_base.specs.declared.txn.Origin.{Origin}
use Rattle.rs_sched.specs.declared.event.Event.{Event}
use Rattle.rs_sched.specs.declared.event.Event.TheVariants as events
use Rattle.rs_course.specs.Played.{may_come, is_open_after, are_accepted}
use Rattle.law_world.specs.Answered.{numbered, asked_by, requests_asked}
use Rattle.rs_course.specs.Course.{Action, Open, Post, Give, GiveNext, Lose, Tick, Stop, Arm, Restart, Noise, deliveries, actions_of}
use Rattle.rs_course.specs.Moments.{actions}
use Rattle.law_world.proofs.Played.{deliveries_are, both_true}

-- ---- what is posted

abbrev pub posts_in : Action → List (Origin × List ℕ)
posts_in (Open last) = []
posts_in (Post origin text) = (origin, text) ∷ []
posts_in (Give number) = []
posts_in GiveNext = []
posts_in (Lose number) = []
posts_in (Tick site) = []
posts_in (Stop site) = []
posts_in (Arm site) = []
posts_in (Restart site) = []
posts_in (Noise site bytes) = []

abbrev pub posts_of : List Action → List (Origin × List ℕ)
posts_of hs = flat_map posts_in hs

pub posts_push : (hs : List Action) (h : Action) → posts_of (hs ++ h ∷ []) ≡ posts_of hs ++ posts_in h
posts_push hs h = flat_map-append posts_in hs (h ∷ []) ∙ ap (λ (ps : List (Origin × List ℕ)). posts_of hs ++ ps) (append-nil (posts_in h))

abbrev pub numbered_of : List (Origin × List ℕ) → List Origin
numbered_of posts = flat_map (λ (post : Origin × List ℕ). numbered post.0) posts

posts_again : (n : ℕ) → posts_of (replicate n GiveNext) ≡ []
posts_again zero = refl
posts_again (suc n) = posts_again n

posts_deliveries : posts_of deliveries ≡ []
posts_deliveries = ap posts_of deliveries_are.2 ∙ posts_again deliveries_are.0

posts_event : (event : Event) → numbered_of (posts_of (actions_of event)) ≡ asked_by event
posts_event (events.Sites last) = refl
posts_event (events.Ask origin text) = append-nil (numbered origin)
posts_event (events.Settle None) = ap numbered_of posts_deliveries
posts_event (events.Settle (Some n)) = refl
posts_event (events.Noise site bytes) = refl
posts_event (events.Deliver k) = refl
posts_event (events.Lose k) = refl
posts_event (events.Tick site n) = refl
posts_event (events.Stop site k j) = refl
posts_event (events.Arm site c k j) = refl
posts_event (events.Restart site) = refl

-- what is posted is what is asked
pub posts_are_asked : (given : List Event) → numbered_of (posts_of (actions given)) ≡ requests_asked given
posts_are_asked [] = refl
posts_are_asked (event ∷ others) =
    ap numbered_of (flat_map-append posts_in (actions_of event) (actions others))
    ∙ flat_map-append (λ (post : Origin × List ℕ). numbered post.0) (posts_of (actions_of event)) (posts_of (actions others))
    ∙ ap (λ (os : List Origin). os ++ numbered_of (posts_of (actions others))) (posts_event event)
    ∙ ap (λ (os : List Origin). asked_by event ++ os) (posts_are_asked others)

one_post : (event : Event) → length (posts_of (actions_of event)) ≤ 1
one_post (events.Sites last) = omega arith
one_post (events.Ask origin text) = omega arith
one_post (events.Settle None) = omega (arith, ap (λ (ps : List (Origin × List ℕ)). length ps) posts_deliveries)
one_post (events.Settle (Some n)) = omega arith
one_post (events.Noise site bytes) = omega arith
one_post (events.Deliver k) = omega arith
one_post (events.Lose k) = omega arith
one_post (events.Tick site n) = omega arith
one_post (events.Stop site k j) = omega arith
one_post (events.Arm site c k j) = omega arith
one_post (events.Restart site) = omega arith

-- no more is posted than there are events
pub few_posts : (given : List Event) → length (posts_of (actions given)) ≤ length given
few_posts [] = omega arith
few_posts (event ∷ others) = omega (
  arith,
  ap (λ (ps : List (Origin × List ℕ)). length ps) (flat_map-append posts_in (actions_of event) (actions others)),
  length-append (posts_of (actions_of event)) (posts_of (actions others)),
  one_post event,
  few_posts others,
)

-- ---- what waits

-- the number of asks that wait after an action
abbrev pub waits : ℕ → Action → ℕ
waits n (Open last) = n
waits n (Post origin text) = n + 1
waits n (Give number) = n
waits n GiveNext = n - 1
waits n (Lose number) = n
waits n (Tick site) = n
waits n (Stop site) = n
waits n (Arm site) = n
waits n (Restart site) = n
waits n (Noise site bytes) = n

-- the number that wait after these actions
abbrev pub waiting : List Action → ℕ
waiting hs = fold waits 0 hs

-- at most one waits if an ask is unsettled, and none if none is
abbrev pub IsCalm : Bool → ℕ → Type 0
IsCalm true n = n ≤ 1
IsCalm false n = n ≡ 0

none_waits : (n : ℕ) → fold waits 0 (replicate n GiveNext) ≡ 0
none_waits zero = refl
none_waits (suc n) = none_waits n

none_waits_then : (w n : ℕ) → w ≤ 1 → 1 ≤ n → fold waits w (replicate n GiveNext) ≡ 0
none_waits_then w zero le some = absurd (omega (arith, some))
none_waits_then w (suc n) le some =
    let gone : w - 1 ≡ 0 = omega (arith, le) in
    ap (λ (k : ℕ). fold waits k (replicate n GiveNext)) gone ∙ none_waits n

calm_is_few : (unsettled : Bool) (w : ℕ) → IsCalm unsettled w → w ≤ 1
calm_is_few true w calm = calm
calm_is_few false w calm = omega (arith, calm)

after_settle : (w : ℕ) → w ≤ 1 → fold waits w deliveries ≡ 0
after_settle w le = ap (λ (hs : List Action). fold waits w hs) deliveries_are.2 ∙ none_waits_then w deliveries_are.0 le deliveries_are.1

calm_event : (unsettled : Bool) (event : Event) (w : ℕ) → may_come unsettled event ≡ true → IsCalm unsettled w → IsCalm (is_open_after unsettled event) (fold waits w (actions_of event))
calm_event unsettled (events.Sites last) w may calm = calm
calm_event true (events.Ask origin text) w may calm = absurd cc
calm_event false (events.Ask origin text) w may calm = omega (arith, calm)
calm_event unsettled (events.Settle None) w may calm = after_settle w (calm_is_few unsettled w calm)
calm_event unsettled (events.Settle (Some n)) w may calm = absurd cc
calm_event unsettled (events.Noise site bytes) w may calm = calm
calm_event unsettled (events.Deliver k) w may calm = absurd cc
calm_event unsettled (events.Lose k) w may calm = absurd cc
calm_event unsettled (events.Tick site n) w may calm = absurd cc
calm_event unsettled (events.Stop site k j) w may calm = absurd cc
calm_event unsettled (events.Arm site c k j) w may calm = absurd cc
calm_event unsettled (events.Restart site) w may calm = absurd cc

calm_end : (unsettled : Bool) (w : ℕ) → not unsettled ≡ true → IsCalm unsettled w → w ≡ 0
calm_end true w e calm = absurd cc
calm_end false w e calm = calm

calm_from : (unsettled : Bool) (given : List Event) (w : ℕ) → are_accepted unsettled given ≡ true → IsCalm unsettled w → fold waits w (actions given) ≡ 0
calm_from unsettled [] w are calm = calm_end unsettled w are calm
calm_from unsettled (event ∷ others) w are calm =
    let parts = both_true (may_come unsettled event) (are_accepted (is_open_after unsettled event) others) are in
    fold-append waits w (actions_of event) (actions others)
    ∙ calm_from (is_open_after unsettled event) others (fold waits w (actions_of event)) parts.1 (calm_event unsettled event w parts.0 calm)

-- the same after the first of the events
calm_prefix : (unsettled : Bool) (before suffix : List Event) (w : ℕ) → are_accepted unsettled (before ++ suffix) ≡ true → IsCalm unsettled w → IsCalm (fold is_open_after unsettled before) (fold waits w (actions before))
calm_prefix unsettled [] suffix w are calm = calm
calm_prefix unsettled (event ∷ others) suffix w are calm =
    let parts = both_true (may_come unsettled event) (are_accepted (is_open_after unsettled event) (others ++ suffix)) are in
    subst (IsCalm (fold is_open_after (is_open_after unsettled event) others)) (sym (fold-append waits w (actions_of event) (actions others)))
    (calm_prefix (is_open_after unsettled event) others suffix (fold waits w (actions_of event)) parts.1 (calm_event unsettled event w parts.0 calm))

-- after a settle none waits
pub none_waits_settled : (before suffix : List Event) → IsTrue (are_accepted false (before ++ events.Settle None ∷ suffix)) → waiting (actions (before ++ events.Settle None ∷ [])) ≡ 0
none_waits_settled before suffix are =
    let whole : (before ++ events.Settle None ∷ []) ++ suffix ≡ before ++ events.Settle None ∷ suffix = append_assoc before (events.Settle None ∷ []) suffix in
    let now = calm_prefix false (before ++ events.Settle None ∷ []) suffix 0 (subst (λ (all : List Event). are_accepted false all ≡ true) (sym whole) are) refl in
    subst (λ (b : Bool). IsCalm b (waiting (actions (before ++ events.Settle None ∷ [])))) (fold_push is_open_after false before (events.Settle None)) now

-- at the end none waits
pub none_left_waiting : (given : List Event) → IsTrue (are_accepted false given) → waiting (actions given) ≡ 0
none_left_waiting given are = calm_from false given 0 are refl
