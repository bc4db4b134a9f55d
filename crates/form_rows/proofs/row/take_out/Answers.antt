use Rattle.std.proofs.Common.{◌∙◌, List, [], sym, subst}
use Rattle.form_rows.specs.Names.{had_by}
use Rattle.form_rows.specs.RowSets.{TakingFits}
use Rattle.form_rows.proofs.Takes.{taken_none}
use Rattle.form_rows.proofs.row.take_out.Goals as goal

pub left_of-requires : goal.left_of-requires
left_of-requires g c =
    subst (λ (l : List g.row.F.Denot).
    TakingFits g.F.Include.over g.F.Exclude.back g.F.Include.place g.F.Include.extent (had_by g.F.Named.named c.args.context.now.set) []
    l) (sym (c.as_slice.ensures.value ∙ c.in_ok-all.ensures)) c.requires.fits

pub returns-then-has_none-clause-ok : goal.returns-then-has_none-clause-ok
returns-then-has_none-clause-ok g c =
    sym (taken_none g.F.Include.over g.F.Exclude.back (had_by g.F.Named.named c.args.context.now.set) [] c.args.row.now
    (c.has_none.ensures c.if-has_none.true))
