use Rattle.std.proofs.Common.{◌∷◌, ◌++◌, [], refl, ap, ◌∙◌, arith}
use Rattle.std.proofs.lemmas.Bool.{both_ways}
use Rattle.ttf_form.specs.Families.{total_by}
use Rattle.form_rows.proofs.Turns.{total-append}
use Rattle.form_rows.proofs.Looks.{adding_start, adding_skip, adding_push, adding_end, kept_once}
use Rattle.form_rows.proofs.row.are_at_most.Goals.{then-inert+else-looks-eq0, else-inert+else-left-cells}
use Rattle.form_rows.proofs.row.are_at_most.Goals as goal

pub loop-i-init : goal.loop-i-init
loop-i-init g c = record { added = ([], adding_start g.F.Include.IsInert c.args.forms.now c.args.from [], omega arith) }

pub loop-i-preserved : goal.loop-i-preserved
loop-i-preserved g c =
    let less = c.loop-i-test.true in
    let was = c.loop-i.invariant.added in
    elim c.if-inert.branch [
      | then-inert+else-looks-eq0 w ↦ record {
        added = (
          was.0,
          adding_skip g.F.Include.IsInert c.args.forms.now c.args.from [] c.index-forms-i.result c.loop-i.i was.0 less
              c.index-forms-i.is (c.inert.ensures.0 w.if-inert.true) was.1,
          omega (arith, w.left-is, was.2),
        );
      }
      | else-inert+else-left-cells w ↦
          let some = w.if-left-cells.false in
          record {
            added = (
              was.0 ++ c.index-forms-i.result ∷ [],
              adding_push g.F.Include.IsInert c.args.forms.now c.args.from [] c.index-forms-i.result c.loop-i.i was.0
                  (was.0 ++ c.index-forms-i.result ∷ []) less c.index-forms-i.is
                  (λ i. both_ways c.inert.result w.if-inert.false (c.inert.ensures.1 i)) refl was.1,
              omega (
                arith,
                w.left-is,
                was.2,
                some,
                w.cells-cells.ensures,
                total-append g.F.Include.extent was.0 (c.index-forms-i.result ∷ []),
              ),
            );
          }
    ]

pub returns : goal.returns
returns g c = λ yes ks kept.
    let was = c.loop-i.invariant.added in
    let all = adding_end g.F.Include.IsInert c.args.forms.now c.args.from [] c.loop-i.i was.0 (omega arith) was.1 in
    let same = ap (total_by g.F.Include.extent) (all.whole ∙ kept_once g.F.Include.IsInert _ all.more ks all.kept kept) in
    omega (arith, was.2, same)
