use Rattle.std.proofs.Common.{◌≡◌, ℕ, ◌<◌, List, length, take, get_or, slice_get, ap, sym, subst, ◌∙◌, arith}
use Rattle.std.proofs.lemmas.List.{get_or_default, length-take-le}
use Rattle.tombstone_text.specs.Chunks.{shown_in}
use Rattle.change_list.specs.declared.change.Change.{Change}
use Rattle.change_list.specs.Told.{HasRoom, told}
use Rattle.site_changes.specs.Code.Marks.{marks_of}
use Rattle.site_changes.proofs.Marks.{marks_room}
use Rattle.site_changes.proofs.Places.{next_place, told_first, told_next}
use Rattle.site_changes.proofs.telling.changes_at.Goals as goal

pub loop-place-init : goal.loop-place-init
loop-place-init c =
    c.new-changes.ensures.items
    ∙ told_first c.args.at.now c.args.cells.now.cells c.args.places.now c.requires.quiet c.requires.rising c.requires.within

pub tell_cell-requires : goal.tell_cell-requires
tell_cell-requires c =
    let ds = c.args.cells.now.cells in
    let ps = c.args.places.now in
    let j = c.loop-place.place-index in
    let p = get_or ps j 0 in
    let here : next_place ps j (length ds) ≡ p = get_or_default ps j (length ds) 0 c.loop-place-test.true in
    let lt : p < length ds = c.requires.within j 0 c.loop-place-test.true in
    let was : c.loop-place.changes.items ≡ told (marks_of c.args.at.now (take p ds)) =
    c.loop-place.invariant ∙ ap (λ (n : ℕ). told (marks_of c.args.at.now (take n ds))) here in
    subst (λ (n : ℕ). HasRoom n c.loop-place.changes.items) (sym c.look-cell.ensures.shown)
    (subst (λ (ts : List Change). HasRoom (shown_in (take p ds)) ts) (sym was)
    (marks_room c.args.at.now (take p ds) (omega (arith, length-take-le p ds (omega (arith, lt)), lt, c.known.ensures.most))))

pub loop-place-preserved : goal.loop-place-preserved
loop-place-preserved c =
    let v = c.args.at.now in
    let ds = c.args.cells.now.cells in
    let ps = c.args.places.now in
    let j = c.loop-place.place-index in
    let here : next_place ps j (length ds) ≡ get_or ps j 0 = get_or_default ps j (length ds) 0 c.loop-place-test.true in
    told_next v ds ps c.requires.quiet c.requires.rising c.requires.within j c.look-cell.result.0 c.loop-place.changes.items
    c.tell_cell.new.changes.items c.look-cell.result.1 c.loop-place-test.true
    (ap (λ (n : ℕ). slice_get ds n) here ∙ c.look-cell.ensures.cell)
    c.loop-place.invariant
    (c.look-cell.ensures.shown ∙ ap (λ (n : ℕ). shown_in (take n ds)) (sym here))
    c.in_ok-tell_cell.ensures
