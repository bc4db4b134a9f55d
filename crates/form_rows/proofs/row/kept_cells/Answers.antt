use Rattle.std.proofs.Common.{ℕ, ◌∷◌, ◌++◌, [], refl, ◌∙◌, sym, subst, arith}
use Rattle.std.proofs.lemmas.Bool.{both_ways}
use Rattle.form_rows.specs.Code.Blocks.{AreCounted}
use Rattle.form_rows.proofs.Looks.{adding_start, adding_skip, adding_push, adding_end, kept_once}
use Rattle.form_rows.proofs.Turns.{counted-one}
use Rattle.form_rows.proofs.row.kept_cells.Goals.{then-not-inert, else-not-inert}
use Rattle.form_rows.proofs.row.kept_cells.Goals as goal

pub loop-i-init : goal.loop-i-init
loop-i-init g c = record { added = ([], adding_start g.F.Include.IsInert c.args.forms.now c.args.from [], λ less. refl) }

pub loop-i-preserved : goal.loop-i-preserved
loop-i-preserved g c =
    let less = c.loop-i-test.true in
    let was = c.loop-i.invariant.added in
    elim c.if-not-inert.branch [
      | then-not-inert w ↦ record {
        added = (
          was.0 ++ c.index-forms-i.result ∷ [],
          adding_push g.F.Include.IsInert c.args.forms.now c.args.from [] c.index-forms-i.result c.loop-i.i was.0
              (was.0 ++ c.index-forms-i.result ∷ []) less c.index-forms-i.is
              (λ i. both_ways c.inert.result w.if-not-inert.true (c.inert.ensures.1 i)) refl was.1,
          subst (λ (k : ℕ). AreCounted g.F.Include.extent k (was.0 ++ c.index-forms-i.result ∷ [])) (sym w.cells-is)
              (counted-one g.F.Include.extent was.0 c.index-forms-i.result c.loop-i.cells w.cells.result w.saturating_add-cells.result was.2
              w.cells.ensures w.saturating_add-cells.ensures),
        );
      }
      | else-not-inert w ↦ record {
        added = (
          was.0,
          adding_skip g.F.Include.IsInert c.args.forms.now c.args.from [] c.index-forms-i.result c.loop-i.i was.0 less c.index-forms-i.is
              (c.inert.ensures.0 w.if-not-inert.false) was.1,
          subst (λ (k : ℕ). AreCounted g.F.Include.extent k was.0) (sym w.cells-is) was.2,
        );
      }
    ]

pub returns : goal.returns
returns g c = λ ks kept.
    let was = c.loop-i.invariant.added in
    let all = adding_end g.F.Include.IsInert c.args.forms.now c.args.from [] c.loop-i.i was.0 (omega arith) was.1 in
    subst (AreCounted g.F.Include.extent c.loop-i.cells) (all.whole ∙ kept_once g.F.Include.IsInert _ all.more ks all.kept kept) was.2
