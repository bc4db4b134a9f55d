use Rattle.std.proofs.Common.{◌≡◌, ap, []}
use Rattle.std.specs.Prelude.{Some, None, ◌⊎◌}
use Rattle.std.proofs.lemmas.Result.{IfOk-weaker, IfErr-weaker}
use Rattle.cot_site.specs.Sites.{SiteData, state_of}
use Rattle.session_log.specs.Loadings.{IsLoaded, IsUnloaded}
use Rattle.session_log.specs.Readers.{IsLoadedOn, IsUnloadedOn}
use Rattle.session_log.proofs.Endings.{finish_ok, finish_err}
use Rattle.session_log.proofs.On.{loaded_here, refused_here}
use Rattle.session_log.proofs.reader.LogReader.finish.Goals as goal

pub returns-clause-loaded : goal.returns-clause-loaded
returns-clause-loaded c = λ all k.
    let r = c.self.inside in
    let v = r.frames.version in
    let left = r.frames.stream.left in
    IfOk-weaker c.finish.result (λ s. (c.fault_at_end.result ≡ None) × (r.intake.refused ≡ None) × (s ≡ r.intake.site))
    (λ s. IsLoaded c.args.self.site all (state_of s))
    (λ s p. finish_ok r.number v r.fed c.rest.result left (state_of r.intake.site) (state_of s) r.intake.refused r.fault r.spent
    c.args.self c.fault_at_end.result
    c.self.view_is c.fault_at_end.ensures c.rest.ensures p.0 p.1 (ap (λ (x : SiteData). state_of x) p.2) all k)
    c.finish.ensures.accepted

pub returns-clause-refused : goal.returns-clause-refused
returns-clause-refused c = λ all k.
    let r = c.self.inside in
    let v = r.frames.version in
    let left = r.frames.stream.left in
    IfErr-weaker c.finish.result (λ why. (c.fault_at_end.result ≡ Some why)
    ⊎ ((c.fault_at_end.result ≡ None) × (r.intake.refused ≡ Some why))) (IsUnloaded c.args.self.site all)
    (λ why p. finish_err r.number v r.fed c.rest.result left (state_of r.intake.site) r.intake.refused r.fault r.spent c.args.self
    c.fault_at_end.result why
    c.self.view_is c.fault_at_end.ensures c.rest.ensures p all k)
    c.finish.ensures.refused

pub returns-clause-loaded_on : goal.returns-clause-loaded_on
returns-clause-loaded_on c = λ some.
    let r = c.self.inside in
    let v = r.frames.version in
    let left = r.frames.stream.left in
    IfOk-weaker c.finish.result (λ s. (c.fault_at_end.result ≡ None) × (r.intake.refused ≡ None) × (s ≡ r.intake.site))
    (λ s. IsLoadedOn c.args.self [] (state_of s))
    (λ s p. loaded_here c.args.self (state_of s)
    (λ all k. finish_ok r.number v r.fed c.rest.result left (state_of r.intake.site) (state_of s) r.intake.refused r.fault
    r.spent c.args.self c.fault_at_end.result
    c.self.view_is c.fault_at_end.ensures c.rest.ensures p.0 p.1 (ap (λ (x : SiteData). state_of x) p.2) all k) some)
    c.finish.ensures.accepted

pub returns-clause-refused_on : goal.returns-clause-refused_on
returns-clause-refused_on c = λ some.
    let r = c.self.inside in
    let v = r.frames.version in
    let left = r.frames.stream.left in
    IfErr-weaker c.finish.result (λ why. (c.fault_at_end.result ≡ Some why)
    ⊎ ((c.fault_at_end.result ≡ None) × (r.intake.refused ≡ Some why))) (IsUnloadedOn c.args.self [])
    (λ why p. refused_here c.args.self why
    (λ all k. finish_err r.number v r.fed c.rest.result left (state_of r.intake.site) r.intake.refused r.fault r.spent
    c.args.self c.fault_at_end.result why
    c.self.view_is c.fault_at_end.ensures c.rest.ensures p all k) some)
    c.finish.ensures.refused
