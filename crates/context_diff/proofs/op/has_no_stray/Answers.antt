use Rattle.std.proofs.Common.{◌≡◌, ℕ, ◌+◌, true, false, sym, refl, ◌∙◌, arith}
use Rattle.std.proofs.lemmas.Bool.{false≢true}
use Rattle.op_name.specs.NameData.{NameData}
use Rattle.op_name.specs.declared.member.Member.TheVariants.{Original}
use Rattle.context_vector.specs.Contexts.{has}
use Rattle.context_vector.proofs.CallerLemmas.{read_all, read_first, read_more}
use Rattle.context_diff.proofs.Listings.{each_more, stray_kept, stray_broken}
use Rattle.context_diff.proofs.op.has_no_stray.Goals as goal

pub returns-then-not-contains : goal.returns-then-not-contains
returns-then-not-contains c =
    let v = c.args.context.now.set in
    let i = c.loop-undone.invariant.0 in
    let at = read_first v.entries c.loop-undone.left i c.in-Some.undone c.loop-undone.invariant.1 c.in-Some.ensures.first in
    let lacks : has v (Original c.in-Some.undone.0) ≡ false = sym c.contains.ensures ∙ c.if-not-contains.true in
    (λ no. absurd (false≢true no), λ keeps. absurd (stray_broken v c.known.ensures.entries i c.in-Some.undone at lacks keeps))

pub loop-undone-preserved : goal.loop-undone-preserved
loop-undone-preserved c =
    let v = c.args.context.now.set in
    let i = c.loop-undone.invariant.0 in
    let at = read_first v.entries c.loop-undone.left i c.in-Some.undone c.loop-undone.invariant.1 c.in-Some.ensures.first in
    let there : has v (Original c.in-Some.undone.0) ≡ true = sym c.contains.ensures ∙ c.if-not-contains.false in
    let each = each_more (λ (e : NameData × ℕ). has v (Original e.0) ≡ true)
    v.entries i c.in-Some.undone at there c.loop-undone.invariant.2 in
    (i + 1, read_more v.entries c.loop-undone.left c.next.new.self i c.loop-undone.invariant.1 c.next.ensures.rest, each)

pub returns : goal.returns
returns c =
    let v = c.args.context.now.set in
    let past = read_all v.entries c.loop-undone.left c.loop-undone.invariant.0 c.loop-undone.invariant.1 c.in_default.ensures.first in
    (λ yes. stray_kept v (λ j e within at. c.loop-undone.invariant.2 j e (omega (arith, past)) at), λ keeps. refl)
