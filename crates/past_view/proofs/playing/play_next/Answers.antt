use Rattle.std.proofs.Common.{◌≡◌, ℕ, List, Some, length, slice_get, ap, sym, ◌∙◌, arith}
use Rattle.context_diff.specs.Operations.{OpData}
use Rattle.context_diff.specs.Ops.{data_of}
use Rattle.ttf_form.specs.Cells.{text_put}
use Rattle.past_view.proofs.Plays.{some_there, fits_after, played_next}
use Rattle.past_view.proofs.Prefixes.{next_letters}
use Rattle.past_view.proofs.playing.play_next.Goals as goal

pub play-requires-clause-fits : goal.play-requires-clause-fits
play-requires-clause-fits c =
    let s = c.args.site.now in
    fits_after s.history c.known.ensures.history s.forms c.known.ensures.forms c.args.i c.args.cells.now.cells c.args.cells.now.text
    c.in-Some-executed.form.now (omega (arith, c.requires.there)) c.requires.before.after (sym c.in-Some-executed.ensures.form)

pub play-requires-clause-letters : goal.play-requires-clause-letters
play-requires-clause-letters c =
    let s = c.args.site.now in
    let there : slice_get s.history c.args.i ≡ Some (data_of c.in-Some.op.now) =
    sym (c.in-Some.ensures ∙ ap (λ (h : List OpData). slice_get h c.args.i) c.book.ensures) in
    ap (λ (l : List ℕ). length l) c.letters_of-letters.ensures
    ∙ next_letters s.history c.known.ensures.history s.forms c.known.ensures.forms c.args.i c.requires.there (data_of c.in-Some.op.now)
    c.in-Some-executed.form.now there (sym c.in-Some-executed.ensures.form)

pub unreachable-requires-in-None : goal.unreachable-requires-in-None
unreachable-requires-in-None c =
    some_there c.args.site.now.history c.args.i c.requires.there
    (sym (c.in-None.ensures ∙ ap (λ (h : List OpData). slice_get h c.args.i) c.book.ensures))

pub returns : goal.returns
returns c =
    let s = c.args.site.now in
    let f = c.in-Some-executed.form.now in
    let there : slice_get s.history c.args.i ≡ Some (data_of c.in-Some.op.now) =
    sym (c.in-Some.ensures ∙ ap (λ (h : List OpData). slice_get h c.args.i) c.book.ensures) in
    let played = c.in_ok-play-in-Some-executed.ensures in
    let letters = c.letters_of-letters.ensures in
    played_next s.history c.known.ensures.history s.forms c.known.ensures.forms c.args.i c.requires.there (data_of c.in-Some.op.now) f there
    (sym c.in-Some-executed.ensures.form) c.args.cells.now.cells c.play.new.cells.cells c.args.cells.now.text c.play.new.cells.text
    c.args.text.now.items c.play.new.text.items c.args.apart.now c.stays_apart.result c.requires.before played.cells
    (played.beside ∙ ap (λ (l : List ℕ). text_put f l c.args.cells.now.text) letters) played.text
    (λ t. (
      (c.stays_apart.ensures t).0,
      let few = (c.stays_apart.ensures t).1 in let size = ap (λ (l : List ℕ). length l) letters in omega (arith, few, size),
    ))
