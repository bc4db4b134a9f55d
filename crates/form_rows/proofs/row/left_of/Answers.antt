use Rattle.std.proofs.Common.{◌≡◌, ◌∙◌, true, false, List, [], sym, ap, subst}
use Rattle.form_rows.specs.Names.{had_by}
use Rattle.form_rows.specs.RowSets.{taken_out, TakingFits}
use Rattle.form_rows.proofs.Takes.{taking_moved, taking_kept, taken_moved, taken_kept}
use Rattle.form_rows.proofs.row.left_of.Goals.{then-is_had, else-is_had+in_ok-append}
use Rattle.form_rows.proofs.row.left_of.Goals as goal

pub loop-i-init : goal.loop-i-init
loop-i-init g c = record {
  fits = subst (λ (l : List g.row.F.Denot).
      TakingFits g.F.Include.over g.F.Exclude.back g.F.Include.place g.F.Include.extent (had_by g.F.Named.named c.args.context.now.set) l
      c.args.row.now) (sym c.new-left.ensures.items) c.requires;
  made = ap (λ (l : List g.row.F.Denot).
      taken_out g.F.Include.over g.F.Exclude.back (had_by g.F.Named.named c.args.context.now.set) l c.args.row.now)
      c.new-left.ensures.items;
}

pub loop-i-preserved : goal.loop-i-preserved
loop-i-preserved g c =
    let f = c.index-row-i.result in
    let end = taken_out g.F.Include.over g.F.Exclude.back (had_by g.F.Named.named c.args.context.now.set) [] c.args.row.now in
    elim c.if-is_had.branch [
      | then-is_had w ↦ let h : had_by g.F.Named.named c.args.context.now.set f ≡ true = sym c.is_had.ensures ∙ w.if-is_had.true in
          record {
            fits = rw w.left-is (taking_moved g.F.Include.over g.F.Exclude.back g.F.Include.place g.F.Include.extent
                (had_by g.F.Named.named c.args.context.now.set) c.args.row.now c.loop-i.i f c.loop-i.left.items
                w.move_to_front.new.row.items c.loop-i-test.true c.index-row-i.is h w.move_to_front.ensures c.loop-i.invariant.fits);
            made = rw w.left-is (taken_moved g.F.Include.over g.F.Exclude.back g.F.Include.place g.F.Include.extent
                (had_by g.F.Named.named c.args.context.now.set) c.args.row.now c.loop-i.i f c.loop-i.left.items
                w.move_to_front.new.row.items c.loop-i-test.true c.index-row-i.is end h w.move_to_front.ensures c.loop-i.invariant.made);
          }
      | else-is_had+in_ok-append w ↦ let h : had_by g.F.Named.named c.args.context.now.set f ≡ false =
          sym c.is_had.ensures ∙ w.if-is_had.false in
          record {
            fits = rw w.left-is (taking_kept g.F.Include.over g.F.Exclude.back g.F.Include.place g.F.Include.extent
                (had_by g.F.Named.named c.args.context.now.set) c.args.row.now c.loop-i.i f c.loop-i.left.items w.append.new.out.items
                c.loop-i-test.true c.index-row-i.is h w.in_ok-append.ensures.ok c.loop-i.invariant.fits);
            made = rw w.left-is (taken_kept g.F.Include.over g.F.Exclude.back g.F.Include.place g.F.Include.extent
                (had_by g.F.Named.named c.args.context.now.set) c.args.row.now c.loop-i.i f c.loop-i.left.items w.append.new.out.items
                c.loop-i-test.true c.index-row-i.is end h w.in_ok-append.ensures.ok c.loop-i.invariant.made);
          }
    ]
