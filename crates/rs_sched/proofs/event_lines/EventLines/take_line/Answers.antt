use Rattle.std.proofs.Common.{◌+◌, ◌≤◌, ℕ, List, length, ap, ◌∙◌, arith}
use Rattle.rs_sched.specs.Lines.{without_returns}
use Rattle.rs_sched.specs.Next.{Left, is_none}
use Rattle.rs_sched.proofs.NextLaws.{some_left, first_left, rest_left, rest_smaller}
use Rattle.rs_sched.proofs.event_lines.EventLines.take_line.Goals as goal

pub invariant_of-self : goal.invariant_of-self
invariant_of-self c =
    let left = c.self.inside.left in
    let some : 1 ≤ length left = some_left left (ap (λ (l : Left). is_none l.lines) c.self.view_is ∙ c.requires) in
    let less = rest_smaller left c.next.new.self some c.next.ensures.rest in
    omega (arith, c.self.invariant)

pub returns-clause-line : goal.returns-clause-line
returns-clause-line c =
    let left = c.self.inside.left in
    let some : 1 ≤ length left = some_left left (ap (λ (l : Left). is_none l.lines) c.self.view_is ∙ c.requires) in
    rw (← c.self.view_is, c.without_returns-line.ensures, c.next.ensures.line) (ap without_returns (first_left left some))

pub returns-clause-rest : goal.returns-clause-rest
returns-clause-rest c =
    let left = c.self.inside.left in
    let some : 1 ≤ length left = some_left left (ap (λ (l : Left). is_none l.lines) c.self.view_is ∙ c.requires) in
    rw (← c.self.view_is, c.next.ensures.rest) (ap (λ (lines : List (List ℕ)). record { sites = c.self.inside.sites; before = c.self.inside.line + 1; lines = lines }) (rest_left left some))
