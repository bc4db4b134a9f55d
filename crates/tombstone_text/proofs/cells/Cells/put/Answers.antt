use Rattle.std.proofs.Common.{sym, subst}
use Rattle.ttf_form.specs.Names.{LacksName}
use Rattle.ttf_form.specs.Cells.{cells_of}
use Rattle.tombstone_text.specs.Code.Inserts.{AreInserts}
use Rattle.tombstone_text.proofs.Inserts.{inserts_added}
use Rattle.tombstone_text.proofs.cells.Cells.put.Goals as goal

pub invariant_of-self : goal.invariant_of-self
invariant_of-self c =
    let xs = c.self.inside.chunks.cells in
    let lacks : LacksName (cells_of xs) c.args.ins.now.name =
    subst (λ v. LacksName (cells_of v.cells) c.args.ins.now.name) (sym c.self.view_is) c.requires.new in (
      rw c.take.ensures.after tt,
      subst AreInserts (sym c.put.ensures.cells) (inserts_added c.args.ins.now c.in-Some.ready.place xs c.self.invariant.1 lacks),
    )
