use Rattle.std.proofs.Common.{◌∙◌, sym, subst, Result, Err}
use Rattle.context_diff.specs.Operations.{OpData, deleting}
use Rattle.context_diff.specs.Histories.{context_of_all}
use Rattle.site_answers.specs.declared.local.Local.{Local}
use Rattle.cot_site.specs.Commands.{next_name, IsAnswer}
use Rattle.cot_site.specs.Sites.{state_of}
use Rattle.cot_site.proofs.LocalOps.{delete_ready}
use Rattle.cot_site.proofs.Made.{delete_at, numbered_refused, delete_made, make_answer, handed_on}
use Rattle.cot_site.proofs.site.Site.delete.Goals as goal

pub returns-in_err-context-clause-answer : goal.returns-in_err-context-clause-answer
returns-in_err-context-clause-answer c =
    let s = state_of c.args.self.now in
    let e = c.in_err-context.field-0.0 in
    let at = sym c.place_of_shown.ensures ∙ c.in-Some.is in
    let refused =
    numbered_refused s (deleting (next_name s) c.in-Some.place (context_of_all s.history)) e c.in_ok-name.ensures.1
    c.in_err-context.ensures in
    handed_on _ c.from_residual-in_err-context.result e c.from_residual-in_err-context.ensures.1
    (subst (λ (r : Result OpData Local). IsAnswer r (Err e)) (sym (delete_at s c.args.v c.in-Some.place at)) refused)

pub make-requires-clause-own : goal.make-requires-clause-own
make-requires-clause-own c = c.in_ok-context.ensures.0

pub make-requires-clause-next : goal.make-requires-clause-next
make-requires-clause-next c =
    let s = state_of c.args.self.now in
    let at = sym c.place_of_shown.ensures ∙ c.in-Some.is in
    delete_ready s c.known.ensures.history c.known.ensures.number c.in_ok-name.name c.in-Some.place c.args.v c.in_ok-context.context.set
    c.in_ok-name.ensures.0 c.in_ok-name.ensures.1 c.in_ok-context.ensures.0 c.in_ok-context.ensures.1 at

pub returns-clause-answer : goal.returns-clause-answer
returns-clause-answer c =
    let s = state_of c.args.self.now in
    let at = sym c.place_of_shown.ensures ∙ c.in-Some.is in
    let made =
    delete_made s c.args.v c.in-Some.place c.in_ok-name.name c.in_ok-context.context.set at c.in_ok-name.ensures.0
    c.in_ok-name.ensures.1 c.in_ok-context.ensures.0 c.in_ok-context.ensures.1 in
    make_answer _ _ c.make.result made c.make.ensures.op c.make.ensures.memory
