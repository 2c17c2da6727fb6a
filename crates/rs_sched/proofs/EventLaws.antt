-- The fields after a keyword: reading and printing are inverse.
use Rattle.std.proofs.Common.{◌≡◌, ℕ, ◌^◌, ◌<◌, ◌≤◌, List, [], ◌∷◌, ◌++◌, Some, None, codes, refl, sym, ap, ◌∙◌, subst, arith, append_assoc}
use Rattle.std.proofs.lemmas.List.{append-nil}
use Rattle.rs_base.proofs.Steps.{bind_some}
use Rattle.rs_base.specs.declared.txn.Origin.{Origin}
use Rattle.rs_sched.specs.declared.event.Event.{Event}
use Rattle.rs_sched.specs.declared.event.Event.TheVariants as events
use Rattle.rs_sched.specs.Encoding.{number_field, line_of, ask_line, hex_of, IsOrigin, IsSiteNo, HasText}
use Rattle.rs_sched.specs.Schedule.{FieldsFit}
use Rattle.rs_sched.specs.Reader.{space_at, end_at, number_at, user_at, noise_bytes_at, numbers_at, nth, most, sites_at, deliver_at, lose_at, tick_at, stop_at, arm_at, restart_at, settle_at, noise_at, origin_at}
use Rattle.rs_sched.proofs.NumberLaws.{some_is}
use Rattle.rs_sched.proofs.FieldLaws.{space_is, end_is, IsNumber, number_at_is, number_at_again, user_at_is, user_at_again, AreWithin, fields_of, numbers_are, numbers_again}
use Rattle.rs_sched.proofs.HexLaws.{noise_bytes_is, noise_bytes_again}

-- the keyword and the rest of the line are the event's line
pub record IsOf (sites : ℕ) (word rest : List ℕ) (event : Event) : Type 0 where
  pub fits : FieldsFit sites event
  pub text : HasText event
  pub written : word ++ rest ≡ line_of event

by_numbers : (sites : ℕ) (word : List ℕ) (limits : List (ℕ × ℕ)) (make : List ℕ → Event) (rest : List ℕ) (event : Event)
    → ((ns : List ℕ) → AreWithin limits ns → IsOf sites word (fields_of ns) (make ns)) → numbers_at limits make rest ≡ Some event → IsOf sites word rest event
by_numbers sites word limits make rest event each e =
    let n = numbers_are limits make rest event e in
    let one : IsOf sites word rest (make n.numbers) = subst (λ (r : List ℕ). IsOf sites word r (make n.numbers)) (sym n.written) (each n.numbers n.within) in
    subst (IsOf sites word rest) n.made one

one : (w f : List ℕ) → w ++ (f ++ []) ≡ w ++ f
one w f = simp append-nil

two : (w f g : List ℕ) → w ++ (f ++ (g ++ [])) ≡ (w ++ f) ++ g
two w f g = simp (append_assoc, append-nil)

three : (w f g h : List ℕ) → w ++ (f ++ (g ++ (h ++ []))) ≡ ((w ++ f) ++ g) ++ h
three w f g h = simp (append_assoc, append-nil)

four : (w f g h i : List ℕ) → w ++ (f ++ (g ++ (h ++ (i ++ [])))) ≡ (((w ++ f) ++ g) ++ h) ++ i
four w f g h i = simp (append_assoc, append-nil)

any : (n : ℕ) → n < 2 ^ 64 → IsNumber 0 most n
any n h = record { above = omega arith; below = omega arith; small = h }

a_site : (sites n : ℕ) → sites ≤ 16 → IsNumber 1 sites n → IsSiteNo n
a_site sites n le h = (h.above, omega (arith, h.below))

site_number : (sites n : ℕ) → IsSiteNo n → n ≤ sites → IsNumber 1 sites n
site_number sites n h le = record { above = h.0; below = le; small = omega (arith, h.1) }

-- ---- deliver, lose

deliver_of : (sites : ℕ) (ns : List ℕ) → AreWithin ((0, most) ∷ []) ns → IsOf sites (codes "deliver") (fields_of ns) (events.Deliver (nth 0 ns))
deliver_of sites [] h = absurd h
deliver_of sites (a ∷ []) h = record { fits = record { fields = h.0.small; sites_once = λ s. s; site_right = tt }; text = tt; written = one (codes "deliver") (number_field a) }
deliver_of sites (a ∷ b ∷ ns) h = absurd h.1

pub deliver_is : (sites : ℕ) (rest : List ℕ) (event : Event) → deliver_at rest ≡ Some event → IsOf sites (codes "deliver") rest event
unfolding deliver_at
deliver_is sites rest event e = by_numbers sites (codes "deliver") ((0, most) ∷ []) (λ ns. events.Deliver (nth 0 ns)) rest event (deliver_of sites) e

pub deliver_again : (sites k : ℕ) → FieldsFit sites (events.Deliver k) → deliver_at (number_field k) ≡ Some (events.Deliver k)
unfolding deliver_at
deliver_again sites k h = ap deliver_at (sym (append-nil (number_field k))) ∙ numbers_again ((0, most) ∷ []) (λ ns. events.Deliver (nth 0 ns)) (k ∷ []) (any k h.fields, tt)

lose_of : (sites : ℕ) (ns : List ℕ) → AreWithin ((0, most) ∷ []) ns → IsOf sites (codes "lose") (fields_of ns) (events.Lose (nth 0 ns))
lose_of sites [] h = absurd h
lose_of sites (a ∷ []) h = record { fits = record { fields = h.0.small; sites_once = λ s. s; site_right = tt }; text = tt; written = one (codes "lose") (number_field a) }
lose_of sites (a ∷ b ∷ ns) h = absurd h.1

pub lose_is : (sites : ℕ) (rest : List ℕ) (event : Event) → lose_at rest ≡ Some event → IsOf sites (codes "lose") rest event
unfolding lose_at
lose_is sites rest event e = by_numbers sites (codes "lose") ((0, most) ∷ []) (λ ns. events.Lose (nth 0 ns)) rest event (lose_of sites) e

pub lose_again : (sites k : ℕ) → FieldsFit sites (events.Lose k) → lose_at (number_field k) ≡ Some (events.Lose k)
unfolding lose_at
lose_again sites k h = ap lose_at (sym (append-nil (number_field k))) ∙ numbers_again ((0, most) ∷ []) (λ ns. events.Lose (nth 0 ns)) (k ∷ []) (any k h.fields, tt)

-- ---- tick, stop, arm, restart

tick_of : (sites : ℕ) → sites ≤ 16 → (ns : List ℕ) → AreWithin ((1, sites) ∷ (1, 1000) ∷ []) ns → IsOf sites (codes "tick") (fields_of ns) (events.Tick (nth 0 ns) (nth 1 ns))
tick_of sites le [] h = absurd h
tick_of sites le (a ∷ []) h = absurd h.1
tick_of sites le (a ∷ b ∷ []) h = record {
  fits = record { fields = (a_site sites a le h.0, h.1.0.above, h.1.0.below); sites_once = λ s. s; site_right = h.0.below };
  text = tt;
  written = two (codes "tick") (number_field a) (number_field b);
}
tick_of sites le (a ∷ b ∷ c ∷ ns) h = absurd h.1.1

pub tick_is : (sites : ℕ) (rest : List ℕ) (event : Event) → sites ≤ 16 → tick_at sites rest ≡ Some event → IsOf sites (codes "tick") rest event
unfolding tick_at
tick_is sites rest event le e = by_numbers sites (codes "tick") ((1, sites) ∷ (1, 1000) ∷ []) (λ ns. events.Tick (nth 0 ns) (nth 1 ns)) rest event (tick_of sites le) e

pub tick_again : (sites a b : ℕ) → FieldsFit sites (events.Tick a b) → tick_at sites (number_field a ++ number_field b) ≡ Some (events.Tick a b)
unfolding tick_at
tick_again sites a b h =
    let count : IsNumber 1 1000 b = record { above = h.fields.1; below = h.fields.2; small = omega (arith, h.fields.2) } in
    ap (λ (f : List ℕ). tick_at sites (number_field a ++ f)) (sym (append-nil (number_field b)))
    ∙ numbers_again ((1, sites) ∷ (1, 1000) ∷ []) (λ ns. events.Tick (nth 0 ns) (nth 1 ns)) (a ∷ b ∷ []) (site_number sites a h.fields.0 h.site_right, (count, tt))

stop_of : (sites : ℕ) → sites ≤ 16 → (ns : List ℕ) → AreWithin ((1, sites) ∷ (0, most) ∷ (0, most) ∷ []) ns → IsOf sites (codes "stop") (fields_of ns) (events.Stop (nth 0 ns) (nth 1 ns) (nth 2 ns))
stop_of sites le [] h = absurd h
stop_of sites le (a ∷ []) h = absurd h.1
stop_of sites le (a ∷ b ∷ []) h = absurd h.1.1
stop_of sites le (a ∷ b ∷ c ∷ []) h = record {
  fits = record { fields = (a_site sites a le h.0, h.1.0.small, h.1.1.0.small); sites_once = λ s. s; site_right = h.0.below };
  text = tt;
  written = three (codes "stop") (number_field a) (number_field b) (number_field c);
}
stop_of sites le (a ∷ b ∷ c ∷ d ∷ ns) h = absurd h.1.1.1

pub stop_is : (sites : ℕ) (rest : List ℕ) (event : Event) → sites ≤ 16 → stop_at sites rest ≡ Some event → IsOf sites (codes "stop") rest event
unfolding stop_at
stop_is sites rest event le e = by_numbers sites (codes "stop") ((1, sites) ∷ (0, most) ∷ (0, most) ∷ []) (λ ns. events.Stop (nth 0 ns) (nth 1 ns) (nth 2 ns)) rest event (stop_of sites le) e

pub stop_again : (sites a b c : ℕ) → FieldsFit sites (events.Stop a b c) → stop_at sites ((number_field a ++ number_field b) ++ number_field c) ≡ Some (events.Stop a b c)
unfolding stop_at
stop_again sites a b c h =
    ap (stop_at sites) (sym (two (number_field a) (number_field b) (number_field c)))
    ∙ numbers_again ((1, sites) ∷ (0, most) ∷ (0, most) ∷ []) (λ ns. events.Stop (nth 0 ns) (nth 1 ns) (nth 2 ns)) (a ∷ b ∷ c ∷ []) (site_number sites a h.fields.0 h.site_right, (any b h.fields.1, (any c h.fields.2, tt)))

arm_of : (sites : ℕ) → sites ≤ 16 → (ns : List ℕ) → AreWithin ((1, sites) ∷ (1, most) ∷ (0, most) ∷ (0, most) ∷ []) ns
    → IsOf sites (codes "arm") (fields_of ns) (events.Arm (nth 0 ns) (nth 1 ns) (nth 2 ns) (nth 3 ns))
arm_of sites le [] h = absurd h
arm_of sites le (a ∷ []) h = absurd h.1
arm_of sites le (a ∷ b ∷ []) h = absurd h.1.1
arm_of sites le (a ∷ b ∷ c ∷ []) h = absurd h.1.1.1
arm_of sites le (a ∷ b ∷ c ∷ d ∷ []) h = record {
  fits = record { fields = (a_site sites a le h.0, h.1.0.above, h.1.0.small, h.1.1.0.small, h.1.1.1.0.small); sites_once = λ s. s; site_right = h.0.below };
  text = tt;
  written = four (codes "arm") (number_field a) (number_field b) (number_field c) (number_field d);
}
arm_of sites le (a ∷ b ∷ c ∷ d ∷ f ∷ ns) h = absurd h.1.1.1.1

pub arm_is : (sites : ℕ) (rest : List ℕ) (event : Event) → sites ≤ 16 → arm_at sites rest ≡ Some event → IsOf sites (codes "arm") rest event
unfolding arm_at
arm_is sites rest event le e =
    by_numbers sites (codes "arm") ((1, sites) ∷ (1, most) ∷ (0, most) ∷ (0, most) ∷ []) (λ ns. events.Arm (nth 0 ns) (nth 1 ns) (nth 2 ns) (nth 3 ns)) rest event (arm_of sites le) e

pub arm_again : (sites a b c d : ℕ) → FieldsFit sites (events.Arm a b c d) → arm_at sites (((number_field a ++ number_field b) ++ number_field c) ++ number_field d) ≡ Some (events.Arm a b c d)
unfolding arm_at
arm_again sites a b c d h =
    let call : IsNumber 1 most b = record { above = h.fields.1; below = omega (arith, h.fields.2); small = h.fields.2 } in
    ap (arm_at sites) (sym (three (number_field a) (number_field b) (number_field c) (number_field d)))
    ∙ numbers_again ((1, sites) ∷ (1, most) ∷ (0, most) ∷ (0, most) ∷ []) (λ ns. events.Arm (nth 0 ns) (nth 1 ns) (nth 2 ns) (nth 3 ns)) (a ∷ b ∷ c ∷ d ∷ [])
    (site_number sites a h.fields.0 h.site_right, (call, (any c h.fields.3, (any d h.fields.4, tt))))

restart_of : (sites : ℕ) → sites ≤ 16 → (ns : List ℕ) → AreWithin ((1, sites) ∷ []) ns → IsOf sites (codes "restart") (fields_of ns) (events.Restart (nth 0 ns))
restart_of sites le [] h = absurd h
restart_of sites le (a ∷ []) h = record { fits = record { fields = a_site sites a le h.0; sites_once = λ s. s; site_right = h.0.below }; text = tt; written = one (codes "restart") (number_field a) }
restart_of sites le (a ∷ b ∷ ns) h = absurd h.1

pub restart_is : (sites : ℕ) (rest : List ℕ) (event : Event) → sites ≤ 16 → restart_at sites rest ≡ Some event → IsOf sites (codes "restart") rest event
unfolding restart_at
restart_is sites rest event le e = by_numbers sites (codes "restart") ((1, sites) ∷ []) (λ ns. events.Restart (nth 0 ns)) rest event (restart_of sites le) e

pub restart_again : (sites a : ℕ) → FieldsFit sites (events.Restart a) → restart_at sites (number_field a) ≡ Some (events.Restart a)
unfolding restart_at
restart_again sites a h =
    ap (restart_at sites) (sym (append-nil (number_field a))) ∙ numbers_again ((1, sites) ∷ []) (λ ns. events.Restart (nth 0 ns)) (a ∷ []) (site_number sites a h.fields h.site_right, tt)

-- ---- settle

settle_of : (sites : ℕ) (ns : List ℕ) → AreWithin ((0, most) ∷ []) ns → IsOf sites (codes "settle") (fields_of ns) (events.Settle (Some (nth 0 ns)))
settle_of sites [] h = absurd h
settle_of sites (a ∷ []) h = record { fits = record { fields = h.0.small; sites_once = λ s. s; site_right = tt }; text = tt; written = one (codes "settle") (number_field a) }
settle_of sites (a ∷ b ∷ ns) h = absurd h.1

pub settle_is : (sites : ℕ) (rest : List ℕ) (event : Event) → settle_at rest ≡ Some event → IsOf sites (codes "settle") rest event
unfolding settle_at
settle_is sites [] event e =
    let none : IsOf sites (codes "settle") [] (events.Settle None) = record { fits = record { fields = tt; sites_once = λ s. s; site_right = tt }; text = tt; written = refl } in
    subst (IsOf sites (codes "settle") []) (some_is (events.Settle None) event e) none
settle_is sites (b ∷ rest) event e = by_numbers sites (codes "settle") ((0, most) ∷ []) (λ ns. events.Settle (Some (nth 0 ns))) (b ∷ rest) event (settle_of sites) e

pub settle_none_again : settle_at [] ≡ Some (events.Settle None)
unfolding settle_at
settle_none_again = refl

pub settle_again : (sites k : ℕ) → FieldsFit sites (events.Settle (Some k)) → settle_at (number_field k) ≡ Some (events.Settle (Some k))
unfolding settle_at
settle_again sites k h = ap settle_at (sym (append-nil (number_field k))) ∙ numbers_again ((0, most) ∷ []) (λ ns. events.Settle (Some (nth 0 ns))) (k ∷ []) (any k h.fields, tt)

-- ---- noise

noise_joined : (w f s h rest noise end : List ℕ) → rest ≡ f ++ noise → noise ≡ 32 ∷ (h ++ end) → end ≡ [] → w ++ rest ≡ ((w ++ f) ++ codes " ") ++ h
noise_joined w f s h rest noise end a b c =
    let all : rest ≡ f ++ (32 ∷ (h ++ [])) = cc in
    ap (λ (r : List ℕ). w ++ r) all ∙ regroup
  where
    regroup : w ++ (f ++ (32 ∷ (h ++ []))) ≡ ((w ++ f) ++ codes " ") ++ h
    regroup = simp (append_assoc, append-nil)

pub noise_is : (sites : ℕ) (rest : List ℕ) (event : Event) → sites ≤ 16 → noise_at sites rest ≡ Some event → IsOf sites (codes "noise") rest event
unfolding noise_at
noise_is sites rest event le e =
    let site = bind_some (number_at 1 sites rest) _ event e in
    let noise = bind_some (noise_bytes_at site.0.1) _ event site.2 in
    let end = bind_some (end_at noise.0.1) _ event noise.2 in
    let s = number_at_is 1 sites rest site.0 site.1 in
    let n = noise_bytes_is site.0.1 noise.0 noise.1 in
    let made : IsOf sites (codes "noise") rest (events.Noise site.0.0 noise.0.0) = record {
      fits = record { fields = (a_site sites site.0.0 le s.0, n.0); sites_once = λ s. s; site_right = s.0.below };
      text = tt;
      written = noise_joined (codes "noise") (number_field site.0.0) [] (hex_of noise.0.0) rest site.0.1 noise.0.1 s.1 n.1 (end_is noise.0.1 end.0 end.1);
    } in
    subst (IsOf sites (codes "noise") rest) (some_is (events.Noise site.0.0 noise.0.0) event end.2) made

pub noise_again : (sites site : ℕ) (bytes : List ℕ) → FieldsFit sites (events.Noise site bytes) → noise_at sites ((number_field site ++ codes " ") ++ hex_of bytes) ≡ Some (events.Noise site bytes)
unfolding noise_at
noise_again sites site bytes h =
    let group : (number_field site ++ codes " ") ++ hex_of bytes ≡ number_field site ++ (32 ∷ (hex_of bytes ++ [])) = simp (append_assoc, append-nil) in
    ap (noise_at sites) group
    ∙ rw (number_at_again 1 sites site (32 ∷ (hex_of bytes ++ [])) (site_number sites site h.fields.0 h.site_right) refl, noise_bytes_again bytes [] h.fields.1 refl) refl

-- ---- an ask up to its text

ask_joined : (w s u e n t rest r1 r2 r3 r4 : List ℕ) → rest ≡ s ++ r1 → r1 ≡ 32 ∷ (u ++ r2) → r2 ≡ e ++ r3 → r3 ≡ n ++ r4 → r4 ≡ 32 ∷ t
    → w ++ rest ≡ ((((((w ++ s) ++ codes " ") ++ u) ++ e) ++ n) ++ codes " ") ++ t
ask_joined w s u e n t rest r1 r2 r3 r4 a b c d f =
    let all : rest ≡ s ++ (32 ∷ (u ++ (e ++ (n ++ (32 ∷ t))))) = cc in
    ap (λ (r : List ℕ). w ++ r) all ∙ regroup
  where
    regroup : w ++ (s ++ (32 ∷ (u ++ (e ++ (n ++ (32 ∷ t)))))) ≡ ((((((w ++ s) ++ codes " ") ++ u) ++ e) ++ n) ++ codes " ") ++ t
    regroup = simp append_assoc

pub record IsAsk (sites : ℕ) (rest : List ℕ) (origin : Origin) (text : List ℕ) : Type 0 where
  pub fits : FieldsFit sites (events.Ask origin text)
  pub written : codes "ask" ++ rest ≡ ask_line origin text

pub origin_is : (sites : ℕ) (rest : List ℕ) (x : Origin × List ℕ) → sites ≤ 16 → origin_at sites rest ≡ Some x → IsAsk sites rest x.0 x.1
unfolding origin_at
origin_is sites rest x le e =
    let site = bind_some (number_at 1 sites rest) _ x e in
    let user = bind_some (user_at site.0.1) _ x site.2 in
    let epoch = bind_some (number_at 0 4294967295 user.0.1) _ x user.2 in
    let number = bind_some (number_at 0 most epoch.0.1) _ x epoch.2 in
    let text = bind_some (space_at number.0.1) _ x number.2 in
    let s = number_at_is 1 sites rest site.0 site.1 in
    let u = user_at_is site.0.1 user.0 user.1 in
    let p = number_at_is 0 4294967295 user.0.1 epoch.0 epoch.1 in
    let n = number_at_is 0 most epoch.0.1 number.0 number.1 in
    let t = space_is number.0.1 text.0 text.1 in
    let origin : Origin = record { site = site.0.0; user = user.0.0; epoch = epoch.0.0; number = number.0.0 } in
    let found : Origin × List ℕ = (origin, text.0) in
    let right : IsOrigin origin = record { site = a_site sites site.0.0 le s.0; user = u.0; epoch = omega (arith, p.0.below); number = n.0.small } in
    let made : IsAsk sites rest origin text.0 = record {
      fits = record { fields = right; sites_once = λ s. s; site_right = s.0.below };
      written = ask_joined (codes "ask") (number_field site.0.0) user.0.0 (number_field epoch.0.0) (number_field number.0.0) text.0 rest site.0.1 user.0.1 epoch.0.1 number.0.1 s.1 u.1 p.1 n.1 t;
    } in
    subst (λ (y : Origin × List ℕ). IsAsk sites rest y.0 y.1) {x = found} {y = x} (some_is found x text.2) made

ask_separated : (s u e n t : List ℕ) → (((((s ++ codes " ") ++ u) ++ e) ++ n) ++ codes " ") ++ t ≡ s ++ (32 ∷ (u ++ (e ++ (n ++ (32 ∷ t)))))
ask_separated s u e n t = simp append_assoc

pub origin_again : (sites : ℕ) (origin : Origin) (text : List ℕ) → FieldsFit sites (events.Ask origin text)
    → origin_at sites ((((((number_field origin.site ++ codes " ") ++ origin.user) ++ number_field origin.epoch) ++ number_field origin.number) ++ codes " ") ++ text) ≡ Some (origin, text)
unfolding origin_at
origin_again sites origin text h =
    let site = number_field origin.site in
    let epoch = number_field origin.epoch in
    let number = number_field origin.number in
    let group : (((((site ++ codes " ") ++ origin.user) ++ epoch) ++ number) ++ codes " ") ++ text ≡ site ++ (32 ∷ (origin.user ++ (epoch ++ (number ++ (32 ∷ text))))) = ask_separated site origin.user epoch number text in
    let small : IsNumber 0 4294967295 origin.epoch = record { above = omega arith; below = omega (arith, h.fields.epoch); small = omega (arith, h.fields.epoch) } in
    ap (origin_at sites) group
    ∙ rw (number_at_again 1 sites origin.site (32 ∷ (origin.user ++ (epoch ++ (number ++ (32 ∷ text))))) (site_number sites origin.site h.fields.site h.site_right) refl, user_at_again origin.user (epoch ++ (number ++ (32 ∷ text))) h.fields.user refl, number_at_again 0 4294967295 origin.epoch (number ++ (32 ∷ text)) small refl, number_at_again 0 most origin.number (32 ∷ text) (any origin.number h.fields.number) refl) refl

-- ---- the sites line

pub sites_is : (rest : List ℕ) (event : Event) → sites_at rest ≡ Some event → (n : ℕ) × IsSiteNo n × (event ≡ events.Sites n) × (codes "sites" ++ rest ≡ line_of (events.Sites n))
unfolding sites_at
sites_is rest event e =
    let n = numbers_are ((1, 16) ∷ []) (λ ns. events.Sites (nth 0 ns)) rest event e in
    of n.numbers n.within n.written n.made
  where
    of : (ns : List ℕ) → AreWithin ((1, 16) ∷ []) ns → rest ≡ fields_of ns → events.Sites (nth 0 ns) ≡ event → (n : ℕ) × IsSiteNo n × (event ≡ events.Sites n) × (codes "sites" ++ rest ≡ line_of (events.Sites n))
    of [] h w m = absurd h
    of (a ∷ []) h w m = (a, (h.0.above, h.0.below), sym m, ap (λ (r : List ℕ). codes "sites" ++ r) w ∙ one (codes "sites") (number_field a))
    of (a ∷ b ∷ ns) h w m = absurd h.1

pub sites_again : (n : ℕ) → IsSiteNo n → sites_at (number_field n) ≡ Some (events.Sites n)
unfolding sites_at
sites_again n h = ap sites_at (sym (append-nil (number_field n))) ∙ numbers_again ((1, 16) ∷ []) (λ ns. events.Sites (nth 0 ns)) (n ∷ []) (site_number 16 n h h.1, tt)
