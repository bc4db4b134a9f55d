use Rattle.std.proofs.Common.{◌≡◌, ◌∙◌, Bool, ap, sym}
use Rattle.std.specs.Prelude.{if◌then◌else◌}
use Rattle.context_diff.specs.Histories.{in_force}
use Rattle.cot_site.specs.Commands.{local_undo, local_redo}
use Rattle.cot_site.specs.Sites.{state_of}
use Rattle.session_replay.proofs.sites.drawing.turned.Goals as goal

pub returns-then-in_force : goal.returns-then-in_force
returns-then-in_force c =
    let s = state_of c.args.site.now in
    let is : in_force s.history c.args.name ≡ c.in_force.result =
    sym (c.in_force.ensures.history s.history c.known.ensures.history c.vector.ensures) in
    sym (ap (λ (b : Bool). if b then local_undo s c.args.name else local_redo s c.args.name) (is ∙ c.if-in_force.true))

pub returns-else-in_force : goal.returns-else-in_force
returns-else-in_force c =
    let s = state_of c.args.site.now in
    let is : in_force s.history c.args.name ≡ c.in_force.result =
    sym (c.in_force.ensures.history s.history c.known.ensures.history c.vector.ensures) in
    sym (ap (λ (b : Bool). if b then local_undo s c.args.name else local_redo s c.args.name) (is ∙ c.if-in_force.false))
