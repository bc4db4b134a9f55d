use Rattle.std.proofs.Common.{◌≡◌, ap, ◌∙◌, arith}
use Rattle.wire_codec.specs.States.{judge_state, state_scan_of}
use Rattle.wire_codec.proofs.StateFronts.{state_says, state_only}
use Rattle.wire_codec.proofs.states.scan_state.Goals as goal

answer : (c : goal.After-scanned) → c.scanned.result ≡ state_scan_of (judge_state c.args.bytes.now)
answer c = c.scanned.ensures ∙ ap state_scan_of c.judge.ensures

pub returns-clause-says : goal.returns-clause-says
returns-clause-says c = rw (answer c) (state_says c.args.bytes.now (λ i. omega (arith, c.type_inv.bytes i)))

pub returns-clause-only : goal.returns-clause-only
returns-clause-only c = λ s rest is e. answer c ∙ ap state_scan_of (state_only c.args.bytes.now s rest is e)
