use Rattle.std.proofs.Common.{◌≡◌, ◌∙◌, ◌++◌, List, sym, ap, subst, append_assoc, length, length-append, arith}
use Rattle.form_rows.specs.Code.Blocks.{joined, AreCounted}
use Rattle.form_rows.proofs.Turns.{counted-append}
use Rattle.form_rows.proofs.blocks.Blocks.append.Goals as goal

pub invariant_of-self-2 : goal.invariant_of-self-2
invariant_of-self-2 g c =
    let old = joined c.self.inside.blocks.items ++ c.self.inside.rest.items in
    let whole : joined c.settle.new.blocks.items ++ c.settle.new.rest.items ≡ old ++ c.args.more.now =
    c.settle.ensures
    ∙ (ap (λ (l : List g.row.F.Denot). joined c.self.inside.blocks.items ++ l) c.in_ok-add_all.ensures.ok
    ∙ sym (append_assoc (joined c.self.inside.blocks.items) c.self.inside.rest.items c.args.more.now)) in (
      omega (arith, c.in-Some.ensures, c.self.invariant.0, ap length whole, length-append old c.args.more.now),
      subst (AreCounted g.F.Include.extent c.saturating_add-self-inside.result) (sym whole)
          (counted-append g.F.Include.extent old c.args.more.now c.self.inside.cells c.cells_of.result c.saturating_add-self-inside.result
          c.self.invariant.1 c.cells_of.ensures c.saturating_add-self-inside.ensures),
    )
