use Rattle.std.proofs.Common.{◌≡◌, drop}
use Rattle.session_log.specs.Loadings.{first_refusal}
use Rattle.session_log.proofs.loading.first_refusal.Given as goal

-- none that was gone over is a refusal
abbrev pub invariant-loop-release : goal.invariant-loop-release
invariant-loop-release l = first_refusal (drop l.release-index l.released) ≡ first_refusal l.released
