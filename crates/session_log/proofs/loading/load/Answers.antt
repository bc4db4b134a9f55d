use Rattle.std.proofs.Common.{ap, subst}
use Rattle.session_log.specs.Loadings.{IsUnloaded}
use Rattle.op_name.proofs.CallerLemmas.{handed_on}
use Rattle.session_log.proofs.loading.load.Goals as goal

pub returns-in_err-deliver_all-clause-refused : goal.returns-in_err-deliver_all-clause-refused
returns-in_err-deliver_all-clause-refused c =
    let why = c.in_err-deliver_all.field-0.0 in
    let same = ap (λ s. s.number) c.in_ok-loaded.ensures in
    handed_on (IsUnloaded c.args.site c.args.bytes.now) c.from_residual-in_err-deliver_all.result why
    c.from_residual-in_err-deliver_all.ensures.1
    (subst (λ n. IsUnloaded n c.args.bytes.now why) same c.in_err-deliver_all.ensures.refused)
