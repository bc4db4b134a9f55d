use Rattle.std.proofs.Common.{◌≡◌, ℕ, List, take, sym, subst, ◌∙◌, arith}
use Rattle.std.proofs.lemmas.List.{length-take-le}
use Rattle.std.proofs.lemmas.Option.{slice_get_within}
use Rattle.tombstone_text.specs.Chunks.{shown_in}
use Rattle.change_list.specs.declared.change.Change.{Change}
use Rattle.change_list.specs.Told.{HasRoom, told}
use Rattle.site_changes.specs.Code.Marks.{marks_of}
use Rattle.site_changes.proofs.Marks.{marks_room}
use Rattle.site_changes.proofs.Places.{one_first, one_told}
use Rattle.site_changes.proofs.telling.change_of.Goals as goal

pub tell_cell-requires : goal.tell_cell-requires
tell_cell-requires c =
    let v = c.args.at.now in
    let ds = c.args.cells.now.cells in
    let p = c.args.touched.now.place in
    let lt = slice_get_within ds p c.args.touched.now.cell c.requires.there in
    let was : c.new-changes.result.items ≡ told (marks_of v (take p ds)) =
    c.new-changes.ensures.items ∙ one_first v ds p c.requires.quiet lt in
    subst (λ (n : ℕ). HasRoom n c.new-changes.result.items) (sym c.requires.front)
    (subst (λ (ts : List Change). HasRoom (shown_in (take p ds)) ts) (sym was)
    (marks_room v (take p ds) (omega (arith, length-take-le p ds (omega (arith, lt)), lt, c.known.ensures.most))))

pub returns : goal.returns
returns c =
    let v = c.args.at.now in
    let ds = c.args.cells.now.cells in
    let t = c.args.touched.now in
    one_told v ds t.place c.requires.quiet t.cell c.new-changes.result.items c.tell_cell.new.changes.items t.shown c.requires.there
    c.new-changes.ensures.items c.requires.front c.in_ok-tell_cell.ensures
