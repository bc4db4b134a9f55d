use Rattle.std.proofs.Common.{◌≡◌, false, List, subst}
use Rattle.ttf_form.specs.Families.{IsIn}
use Rattle.form_rows.specs.Names.{had_by}
use Rattle.form_rows.specs.Code.Blocks.{joined}
use Rattle.form_rows.proofs.Turns.{both_parts}
use Rattle.form_rows.proofs.blocks.Blocks.has_none.Goals as goal

pub returns-then-none_in : goal.returns-then-none_in
returns-then-none_in g c = λ t.
    subst (λ (l : List g.row.F.Denot). (f : g.row.F.Denot) → IsIn f l → had_by g.F.Named.named c.args.context.now.set f ≡ false)
    c.self.view_is
    (both_parts (λ (f : g.row.F.Denot). had_by g.F.Named.named c.args.context.now.set f ≡ false) (joined c.self.inside.blocks.items)
    c.self.inside.rest.items
    (subst (λ (bs : List (List g.row.F.Denot)). (f : g.row.F.Denot) → IsIn f (joined bs)
    → had_by g.F.Named.named c.args.context.now.set f ≡ false) c.as_slice.ensures.value (c.none_in.ensures c.if-none_in.true))
    (subst (λ (l : List g.row.F.Denot). (f : g.row.F.Denot) → IsIn f l → had_by g.F.Named.named c.args.context.now.set f ≡ false)
    c.as_slice-then-none_in.ensures.value (c.has_none.ensures t)))
