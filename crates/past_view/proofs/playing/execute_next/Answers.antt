use Rattle.std.proofs.Common.{◌≡◌, ℕ, ◌+◌, List, Some, length, take, slice_get, ap, sym, ◌∙◌, subst, subst₂, arith}
use Rattle.context_diff.specs.Operations.{OpData}
use Rattle.context_diff.specs.Ops.{data_of}
use Rattle.ttf_form.specs.Cells.{CellData, applied, text_put}
use Rattle.fixed_replay.specs.Replayed.{AreCharacters}
use Rattle.past_view.specs.Code.Playing.{IsAfter}
use Rattle.past_view.proofs.Plays.{some_there, fits_after}
use Rattle.past_view.proofs.Prefixes.{next_after, next_letters}
use Rattle.past_view.proofs.playing.execute_next.Goals as goal

pub apply-requires-clause-fits : goal.apply-requires-clause-fits
apply-requires-clause-fits c =
    let s = c.args.site.now in
    let cells = c.in_ok-reserve-in-Some-executed.ensures.cells in
    let a = c.requires.before in
    fits_after s.history c.known.ensures.history s.forms c.known.ensures.forms c.args.i c.reserve.new.self.cells c.args.cells.now.text
    c.in-Some-executed.form.now (omega (arith, c.requires.there)) (record {
      given = cells ∙ a.given;
      beside = subst (λ (l : List CellData). AreCharacters (take c.args.i s.history) l c.args.cells.now.text) (sym cells) a.beside;
    })
    (sym c.in-Some-executed.ensures.form)

pub apply-requires-clause-text : goal.apply-requires-clause-text
apply-requires-clause-text c =
    let s = c.args.site.now in
    let there : slice_get s.history c.args.i ≡ Some (data_of c.in-Some.op.now) =
    sym (c.in-Some.ensures ∙ ap (λ (h : List OpData). slice_get h c.args.i) c.book.ensures) in
    ap (λ (l : List ℕ). length l) c.letters_of.ensures
    ∙ next_letters s.history c.known.ensures.history s.forms c.known.ensures.forms c.args.i c.requires.there (data_of c.in-Some.op.now)
    c.in-Some-executed.form.now there (sym c.in-Some-executed.ensures.form)

pub unreachable-requires-in-None : goal.unreachable-requires-in-None
unreachable-requires-in-None c =
    some_there c.args.site.now.history c.args.i c.requires.there
    (sym (c.in-None.ensures ∙ ap (λ (h : List OpData). slice_get h c.args.i) c.book.ensures))

pub returns : goal.returns
returns c =
    let s = c.args.site.now in
    let o = data_of c.in-Some.op.now in
    let f = c.in-Some-executed.form.now in
    let there : slice_get s.history c.args.i ≡ Some o =
    sym (c.in-Some.ensures ∙ ap (λ (h : List OpData). slice_get h c.args.i) c.book.ensures) in
    let reserved = c.in_ok-reserve-in-Some-executed.ensures in
    subst₂ (λ (cs : List CellData) (ts : List ℕ). IsAfter s.history s.forms (c.args.i + 1) cs ts)
    (sym (c.apply.ensures.cells ∙ ap (λ (cs : List CellData). applied cs f) reserved.cells))
    (sym (c.apply.ensures.text ∙ (λ j. text_put f (c.letters_of.ensures j) (reserved.text j))))
    (next_after s.history c.known.ensures.history s.forms c.known.ensures.forms c.args.i c.requires.there o f there
    (sym c.in-Some-executed.ensures.form) c.args.cells.now.cells c.args.cells.now.text c.requires.before)
