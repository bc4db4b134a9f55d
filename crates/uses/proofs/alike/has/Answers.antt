use Rattle.std.proofs.Common.{refl, sym, ◌∙◌}
use Rattle.context_diff.specs.Ops.{data_of}
use Rattle.site_answers.specs.declared.verdict.Verdict.TheVariants.{Repeat}
use Rattle.cot_site.proofs.CallerLemmas.{verdicts_exact}
use Rattle.uses.proofs.alike.has.Goals as goal

pub returns-in-Repeat : goal.returns-in-Repeat
returns-in-Repeat c =
    let exact =
    verdicts_exact c.args.site.now.history c.args.site.now.waiting (data_of c.args.op.now) Repeat c.known.ensures.history c.requires in
    (λ yes. exact.1 (sym c.in-Repeat.is ∙ c.check.ensures), λ repeat. refl)

pub returns-in_default : goal.returns-in_default
returns-in_default c =
    let exact =
    verdicts_exact c.args.site.now.history c.args.site.now.waiting (data_of c.args.op.now) Repeat c.known.ensures.history c.requires in
    (λ yes. cc, λ repeat. absurd (c.in_default.not-Repeat (c.check.ensures ∙ sym (exact.0 repeat))))
