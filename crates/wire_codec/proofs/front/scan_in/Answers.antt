use Rattle.std.proofs.Common.{◌≡◌, ap, ◌∙◌, arith}
use Rattle.wire_codec.specs.Judging.{judge}
use Rattle.wire_codec.specs.Answers.{scan_of}
use Rattle.wire_codec.proofs.Fronts.{scan_says, judged_only}
use Rattle.wire_codec.proofs.front.scan_in.Goals as goal

answer : (c : goal.After-scanned) → c.scanned.result ≡ scan_of (judge c.args.version c.args.bytes.now)
answer c = c.scanned.ensures ∙ ap scan_of c.judge.ensures.exact

pub returns-clause-says : goal.returns-clause-says
returns-clause-says c = rw (answer c) (scan_says c.args.version c.args.bytes.now (λ i. omega (arith, c.type_inv.bytes i)))

pub returns-clause-only : goal.returns-clause-only
returns-clause-only c = λ o rest well fits e. answer c ∙ ap scan_of (judged_only c.args.version c.args.bytes.now o rest well fits e)
