use Rattle.std.proofs.Common.{◌≡◌, ◌∙◌, length, sym, subst, arith}
use Rattle.session_replay.specs.declared.session.StepBad.TheVariants.{Memory}
use Rattle.session_replay.specs.Answers.{HasStep}
use Rattle.session_replay.specs.LineSteps.{line_steps}
use Rattle.session_replay.specs.Sessions.{Running}
use Rattle.session_replay.proofs.Lines.{line_sound, line_settled, uncut_memory, line_front, front_cut}
use Rattle.session_replay.proofs.session.Session.step.Goals as goal

pub invariant_of-self : goal.invariant_of-self
invariant_of-self c =
    let e = c.do_line.ensures in (
      line_sound c.args.line.now c.do_line.result c.self.inside.sites c.do_line.new.self _ _ e.values c.self.invariant.0 e.done,
      λ uncut. line_settled c.args.line.now c.do_line.result c.self.inside.sites c.do_line.new.self _ _ e.values c.self.invariant.0
          (c.self.invariant.1 uncut) (λ m. let both = sym c.in-Ok.is ∙ m in absurd cc) e.done,
    )

pub invariant_of-self-in-Err : goal.invariant_of-self-in-Err
invariant_of-self-in-Err c =
    let e = c.do_line.ensures in (
      line_sound c.args.line.now c.do_line.result c.self.inside.sites c.do_line.new.self _ _ e.values c.self.invariant.0 e.done,
      λ uncut.
          let u = uncut_memory c.self.inside.cut c.in-Err.why (sym c.cut_after-self-inside.ensures ∙ uncut) in
          line_settled c.args.line.now c.do_line.result c.self.inside.sites c.do_line.new.self _ _ e.values c.self.invariant.0
          (c.self.invariant.1 u.0)
          (λ m. let both = sym c.in-Err.is ∙ m in let same : c.in-Err.why ≡ Memory = cc in u.1 same) e.done,
    )

pub returns-in-Err-clause-err : goal.returns-in-Err-clause-err
returns-in-Err-clause-err c =
    let front =
    line_front c.args.line.now c.do_line.result c.in-Err.why c.self.inside.sites c.do_line.new.self c.args.out.now.items
    c.do_line.new.out.items c.in-Err.is c.do_line.ensures.done in
    let start : c.len-start.result ≡ length c.args.out.now.items = omega (arith, c.len-start.ensures, c.args.out.now.ok.0) in
    c.truncate.ensures.items ∙ front_cut c.args.out.now.items c.do_line.new.out.items c.len-start.result front start

pub returns-in-Err-clause-needed : goal.returns-in-Err-clause-needed
returns-in-Err-clause-needed c =
    λ memory. subst (λ (r : Running). HasStep (line_steps c.args.line.now r.session)) c.self.view_is
    (c.do_line.ensures.needed (c.in-Err.is ∙ memory))
