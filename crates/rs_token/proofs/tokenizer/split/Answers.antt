use Rattle.std.proofs.Common.{length, arith, ◌∙◌}
use Rattle.rs_token.proofs.Scans.{split_goes_on, split_stops, token_shortens, left_within}
use Rattle.rs_token.proofs.tokenizer.split.Goals as goal

pub returns-in_default : goal.returns-in_default
returns-in_default c =
    let nothing = rw c.in_default.is at c.in_ok-token.ensures in
    rw c.len.ensures (split_stops (length c.args.text.now) c.loop-starts.tokens c.loop-starts.starts c.loop-starts.scanner c.skip_blanks.new.self c.skip_blanks.ensures c.loop-starts.invariant.0 nothing ∙ c.loop-starts.invariant.1)

pub loop-starts-smaller : goal.loop-starts-smaller
loop-starts-smaller c =
    let found = rw c.in-Some.is at c.in_ok-token.ensures in
    let shorter = token_shortens c.skip_blanks.new.self c.in-Some.token c.next.new.self found in
    let within = left_within (length c.loop-starts.scanner) c.loop-starts.scanner c.skip_blanks.new.self c.skip_blanks.ensures (omega arith) in
    omega (arith, shorter, within)

pub loop-starts-preserved : goal.loop-starts-preserved
loop-starts-preserved c =
    let found = rw c.in-Some.is at c.in_ok-token.ensures in
    let shorter = token_shortens c.skip_blanks.new.self c.in-Some.token c.next.new.self found in
    let within = left_within (length c.args.text.now) c.loop-starts.scanner c.skip_blanks.new.self c.skip_blanks.ensures c.loop-starts.invariant.0 in
    let goes_on = split_goes_on (length c.args.text.now) c.loop-starts.tokens c.loop-starts.starts c.loop-starts.scanner c.skip_blanks.new.self c.in-Some.token c.next.new.self c.skip_blanks.ensures c.loop-starts.invariant.0 found in
    (omega (arith, shorter, within), rw (c.in_ok-push.ensures.ok, c.in_ok-push-2.ensures.ok, c.len.ensures) (goes_on ∙ c.loop-starts.invariant.1))
