use Rattle.std.proofs.Common.{◌≡◌, List, [], ◌∷◌, take, ap, sym, subst, ◌∙◌}
use Rattle.std.proofs.lemmas.Result.{IfOk-weaker}
use Rattle.context_vector.specs.Contexts.{ContextData}
use Rattle.context_diff.specs.Histories.{context_of_all}
use Rattle.context_diff.specs.Operations.{OpData}
use Rattle.context_diff.specs.Replays.{shown}
use Rattle.ttf_form.specs.Cells.{CellData}
use Rattle.change_list.specs.Changes.{AreChanges}
use Rattle.change_list.specs.Told.{told}
use Rattle.touched_cells.specs.Touched.{ArePlacesTouched}
use Rattle.site_changes.specs.Code.Marks.{marks_of, IsQuietBut}
use Rattle.site_changes.proofs.Marks.{told_since}
use Rattle.site_changes.proofs.Quiet.{quiet_but}
use Rattle.site_changes.proofs.since.changes_since.Goals as goal

pub change_of-requires-clause-quiet : goal.change_of-requires-clause-quiet
change_of-requires-clause-quiet c =
    let h = c.args.site.now.history in
    let n = c.args.from in
    let ds = c.cells.result.now.cells in
    let ps = c.in-Some.touched.place ∷ [] in
    let are : ArePlacesTouched h n ds ps =
    subst (λ (cs : List CellData). ArePlacesTouched h n cs ps) (sym c.cells.ensures.forms) c.in-Some.ensures.touched in
    let at : c.new-at.result ≡ context_of_all (take n h) =
    c.new-at.ensures ∙ ap (λ (l : List OpData). context_of_all (take n l)) c.book.ensures in
    subst (λ (d : ContextData). IsQuietBut d ds ps) (sym at) (quiet_but h c.known.ensures.history n ds c.cells.ensures.replayed ps are)

pub returns-in-Some : goal.returns-in-Some
returns-in-Some c =
    let h = c.args.site.now.history in
    let n = c.args.from in
    let at : c.new-at.result ≡ context_of_all (take n h) =
    c.new-at.ensures ∙ ap (λ (l : List OpData). context_of_all (take n l)) c.book.ensures in
    IfOk-weaker c.change_of.result (λ cs. cs.items ≡ told (marks_of c.new-at.result c.cells.result.now.cells))
    (λ cs. AreChanges cs.items (shown (take n h)) (shown h))
    (λ cs e. told_since h c.known.ensures.history n c.cells.result.now.cells c.cells.ensures.replayed c.new-at.result at cs.items e)
    c.change_of.ensures
