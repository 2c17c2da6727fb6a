use Rattle.std.proofs.Common.{rules, arith, ◌∷◌, ◌≡◌}
use Rattle.rs_codec.proofs.Groups.{none_below_first, none_above, none_above_zero, takes_last, takes_more}
use Rattle.rs_codec.proofs.fields.+groups.Goals as goal

pub returns-then-limit-first-clause-none : goal.returns-then-limit-first-clause-none
returns-then-limit-first-clause-none t c =
    let e : c.args.bytes.now ≡ c.from-first.result ∷ c.in_ok-first.rest.now = search rules in
    none_below_first c.args.bytes.now c.in_ok-first.rest.now c.from-first.result c.args.limit e c.if-limit-first.true

pub returns-then-first-lt128-clause-found : goal.returns-then-first-lt128-clause-found
returns-then-first-lt128-clause-found t c =
    let e : c.args.bytes.now ≡ c.from-first.result ∷ c.in_ok-first.rest.now = search rules in
    takes_last c.args.bytes.now c.in_ok-first.rest.now c.from-first.result e c.if-first-lt128.true

pub returns-in_err-high-clause-none : goal.returns-in_err-high-clause-none
returns-in_err-high-clause-none t c =
    let e : c.args.bytes.now ≡ c.from-first.result ∷ c.in_ok-first.rest.now = search rules in
    rw c.from_residual-in_err-high.ensures (none_above c.args.bytes.now c.in_ok-first.rest.now c.from-first.result c.args.limit e c.if-first-lt128.false c.if-limit-first.false c.in_err-high.ensures.none)

pub returns-then-high-eq0-clause-none : goal.returns-then-high-eq0-clause-none
returns-then-high-eq0-clause-none t c =
    let e : c.args.bytes.now ≡ c.from-first.result ∷ c.in_ok-first.rest.now = search rules in
    none_above_zero c.args.bytes.now c.in_ok-first.rest.now c.in_ok-high.rest.now c.from-first.result c.args.limit c.in_ok-high.high e c.if-first-lt128.false c.in_ok-high.ensures.found c.if-high-eq0.true

pub returns-clause-found : goal.returns-clause-found
returns-clause-found t c =
    let e : c.args.bytes.now ≡ c.from-first.result ∷ c.in_ok-first.rest.now = search rules in
    takes_more c.args.bytes.now c.in_ok-first.rest.now c.in_ok-high.rest.now c.from-first.result c.in_ok-high.high e c.if-first-lt128.false (omega arith) (omega (arith, c.if-high-eq0.false)) c.in_ok-high.ensures.found
