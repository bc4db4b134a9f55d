use Rattle.std.proofs.Common.{◌≡◌, ℕ, List, [], Option, Vec, Global, take, ap, sym, subst, ◌∙◌}
use Rattle.std.specs.Prelude.{IfSome}
use Rattle.std.proofs.lemmas.Result.{IfOk-weaker}
use Rattle.context_vector.specs.Contexts.{ContextData}
use Rattle.context_diff.specs.Histories.{context_of_all}
use Rattle.context_diff.specs.Operations.{OpData}
use Rattle.context_diff.specs.Replays.{shown}
use Rattle.ttf_form.specs.Cells.{CellData, applied}
use Rattle.transform_rec.specs.Executing.{executed}
use Rattle.change_list.specs.Changes.{AreChanges}
use Rattle.change_list.specs.Told.{told}
use Rattle.touched_cells.specs.Touched.{ArePlacesTouched}
use Rattle.site_changes.specs.Code.Marks.{marks_of, IsQuietBut}
use Rattle.site_changes.proofs.Marks.{told_since}
use Rattle.site_changes.proofs.Quiet.{quiet_but}
use Rattle.site_changes.proofs.since.several_since.Goals as goal

pub changes_at-requires-clause-quiet : goal.changes_at-requires-clause-quiet
changes_at-requires-clause-quiet c =
    let h = c.args.site.now.history in
    let n = c.args.from in
    let ds = c.cells.result.now.cells in
    let found =
    subst (λ (o : Option (Vec ℕ Global)).
    IfSome o (λ places. ArePlacesTouched h n (executed applied [] c.args.site.now.forms) places.items))
    c.in-Some.is c.in_ok-places.ensures in
    let are : ArePlacesTouched h n ds c.deref.result.now =
    subst (λ (cs : List CellData). ArePlacesTouched h n cs c.deref.result.now) (sym c.cells.ensures.forms)
    (subst (λ (ps : List ℕ). ArePlacesTouched h n (executed applied [] c.args.site.now.forms) ps) (sym c.deref.ensures.value) found) in
    let at : c.new-at.result ≡ context_of_all (take n h) =
    c.new-at.ensures ∙ ap (λ (l : List OpData). context_of_all (take n l)) c.book.ensures in
    subst (λ (d : ContextData). IsQuietBut d ds c.deref.result.now) (sym at)
    (quiet_but h c.known.ensures.history n ds c.cells.ensures.replayed c.deref.result.now are)

pub returns-in-Some : goal.returns-in-Some
returns-in-Some c =
    let h = c.args.site.now.history in
    let at : c.new-at.result ≡ context_of_all (take c.args.from h) =
    c.new-at.ensures ∙ ap (λ (l : List OpData). context_of_all (take c.args.from l)) c.book.ensures in
    IfOk-weaker c.changes_at.result (λ cs. cs.items ≡ told (marks_of c.new-at.result c.cells.result.now.cells))
    (λ cs. AreChanges cs.items (shown (take c.args.from h)) (shown h))
    (λ cs e. told_since h c.known.ensures.history c.args.from c.cells.result.now.cells c.cells.ensures.replayed c.new-at.result at cs.items
    e)
    c.changes_at.ensures

pub returns-in-None : goal.returns-in-None
returns-in-None c =
    let h = c.args.site.now.history in
    let at : c.new-at.result ≡ context_of_all (take c.args.from h) =
    c.new-at.ensures ∙ ap (λ (l : List OpData). context_of_all (take c.args.from l)) c.book.ensures in
    IfOk-weaker c.all_changes.result (λ cs. cs.items ≡ told (marks_of c.new-at.result c.cells-in-None.result.now.cells))
    (λ cs. AreChanges cs.items (shown (take c.args.from h)) (shown h))
    (λ cs e. told_since h c.known.ensures.history c.args.from c.cells-in-None.result.now.cells c.cells-in-None.ensures.replayed
    c.new-at.result at cs.items e) c.all_changes.ensures
