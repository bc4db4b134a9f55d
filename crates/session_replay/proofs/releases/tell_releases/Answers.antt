use Rattle.std.proofs.Common.{◌∙◌, ◌++◌, ◌<◌, ℕ, List, ap, sym, append-nil, append_assoc, take, length, rules}
use Rattle.session_replay.specs.Code.Doing.{free_line, free_lines}
use Rattle.session_replay.proofs.Releasing.{free_lines_more}
use Rattle.session_replay.proofs.releases.tell_releases.Goals as goal

pub loop-release-init : goal.loop-release-init
loop-release-init c = sym (append-nil _)

pub loop-release-preserved : goal.loop-release-preserved
loop-release-preserved c =
    let rs = c.args.released.now in
    let i = c.loop-release.release-index in
    let r = c.release-item.result in
    let within : i < length rs = search rules in
    c.in_ok-verdict_line.ensures.ok ∙ (ap (λ (t : List ℕ). t ++ free_line c.args.number r) c.loop-release.invariant
    ∙ (append_assoc c.args.out.now.items (free_lines c.args.number (take i rs)) (free_line c.args.number r)
    ∙ ap (λ (t : List ℕ). c.args.out.now.items ++ t) (sym (free_lines_more c.args.number i rs r within c.release-item.is))))
