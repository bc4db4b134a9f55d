use Rattle.std.proofs.Common.{◌≢◌, ◌∙◌, sym, ap, subst, List}
use Rattle.context_diff.specs.Operations.{OpData}
use Rattle.context_diff.specs.Ops.{data_of}
use Rattle.causal_gate.specs.Waiting.{NamesAgree}
use Rattle.cot_site.specs.States.{State, with_held}
use Rattle.cot_site.specs.Sites.{SiteData, AllFormed, state_of}
use Rattle.cot_site.proofs.Changes.{held_longer, refused}
use Rattle.cot_site.proofs.Waiting.{held_all, held_new}
use Rattle.cot_site.proofs.site.Site.hold.Goals as goal

pub hold-requires : goal.hold-requires
hold-requires c = subst (λ (s : SiteData). NamesAgree s.waiting (data_of c.args.op.now)) (sym c.self.view_is) c.requires.names

pub invariant_of-self : goal.invariant_of-self
invariant_of-self c = (c.self.invariant.0, subst AllFormed (sym c.in_err-hold.ensures.err) c.self.invariant.1)

pub invariant_of-self-2 : goal.invariant_of-self-2
invariant_of-self-2 c = (
  c.self.invariant.0,
  held_all c.self.inside.pool (data_of c.args.op.now) c.in_ok-hold.field-0 c.hold.new.self c.self.invariant.1
      c.requires.formed c.in_ok-hold.ensures.ops,
)

pub returns-clause-state : goal.returns-clause-state
returns-clause-state c =
    let o = data_of c.args.op.now in
    let held_list = c.in_ok-hold.ensures.ops ∙ held_new c.self.inside.pool o c.in_ok-hold.field-0 c.in_ok-hold.ensures.new in
    let state : List OpData → State = λ w. record { number = c.self.inside.number; history = c.self.inside.replica.history; waiting = w } in
    ap state held_list ∙ ap (λ (s : SiteData). with_held (state_of s) o) c.self.view_is

pub returns-in_err-hold-clause-needed : goal.returns-in_err-hold-clause-needed
returns-in_err-hold-clause-needed c =
    let o = data_of c.args.op.now in
    let s : State = record { number = c.self.inside.number; history = c.self.inside.replica.history; waiting = c.self.inside.pool } in
    refused _ (subst (λ (t : SiteData). with_held (state_of t) o ≢ state_of t) c.self.view_is
    (held_longer s o c.in_err-hold.ensures.memory))
