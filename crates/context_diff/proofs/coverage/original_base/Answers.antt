use Rattle.std.proofs.Common.{◌≡◌, true, refl, ap, sym, subst, ◌∙◌}
use Rattle.std.specs.Prelude.{IfOk}
use Rattle.op_name.specs.NameData.{NameData}
use Rattle.op_name.specs.declared.member.Member.TheVariants.{Original}
use Rattle.context_vector.specs.Contexts.{ContextData}
use Rattle.context_diff.specs.Histories.{is_known}
use Rattle.context_diff.specs.Bases.{original_context}
use Rattle.context_diff.specs.Ops.{data_of}
use Rattle.context_diff.proofs.Known.{known_member, context_none}
use Rattle.context_diff.proofs.Complete.{complete}
use Rattle.context_diff.proofs.Histories.{context_is}
use Rattle.context_diff.proofs.coverage.original_base.Goals as goal

pub returns-in-Some : goal.returns-in-Some
returns-in-Some c =
    let h = c.args.book.now.ops in
    let o = data_of c.in-Some.op.now in
    let n : NameData = c.args.name.now in
    let known : is_known h (Original n) ≡ true =
    ap (is_known h) (sym (c.in-Some.ensures).named) ∙ known_member h o (c.in-Some.ensures).there in
    let is = context_is h (complete h c.known.ensures.valid) o n (c.in-Some.ensures).there (c.in-Some.ensures).named known in
    let same : c.context.result.now.set ≡ original_context h n = c.context.ensures ∙ sym is in
    subst (λ (d : ContextData). IfOk c.try_clone.result (λ v. v.set ≡ d)) same c.try_clone.ensures

pub returns-in-None : goal.returns-in-None
returns-in-None c = c.new.ensures ∙ sym (context_none c.args.book.now.ops c.args.name.now (c.in-None.ensures.none.0 refl))
