use Rattle.std.proofs.Common.{List, ap, sym, ◌∙◌}
use Rattle.ttf_form.specs.Cells.{CellData, marked_in}
use Rattle.past_view.proofs.Turns.{on_ok, still_there, text_was, count_was, text_lacked, count_lacked, text_is, text_lacks, text_stays}
use Rattle.past_view.proofs.player.play_cover.Goals as goal

pub is_shown-requires : goal.is_shown-requires
is_shown-requires c =
    still_there c.args.cells.now.cells c.apply.new.self.cells c.args.cells.now.text c.apply.new.self.text c.args.cover.now.place
    c.args.cover.now.mark c.requires.place c.known.ensures.long c.requires.alone
    (c.apply.ensures.cells
    ∙ ap (λ (l : List CellData). marked_in c.args.cover.now.place c.args.cover.now.mark l) c.in_ok-reserve.ensures.cells)
    (c.apply.ensures.text ∙ c.in_ok-reserve.ensures.text)

pub hide-requires-clause-place : goal.hide-requires-clause-place
hide-requires-clause-place c =
    still_there c.args.cells.now.cells c.apply.new.self.cells c.args.cells.now.text c.apply.new.self.text c.args.cover.now.place
    c.args.cover.now.mark c.requires.place c.known.ensures.long c.requires.alone
    (c.apply.ensures.cells
    ∙ ap (λ (l : List CellData). marked_in c.args.cover.now.place c.args.cover.now.mark l) c.in_ok-reserve.ensures.cells)
    (c.apply.ensures.text ∙ c.in_ok-reserve.ensures.text)

pub hide-requires-clause-chars : goal.hide-requires-clause-chars
hide-requires-clause-chars c =
    count_was c.args.cells.now.cells c.apply.new.self.cells c.args.cells.now.text c.apply.new.self.text c.args.cover.now.place
    c.args.cover.now.mark c.requires.place c.known.ensures.long c.requires.alone
    (c.apply.ensures.cells
    ∙ ap (λ (l : List CellData). marked_in c.args.cover.now.place c.args.cover.now.mark l) c.in_ok-reserve.ensures.cells)
    (c.apply.ensures.text ∙ c.in_ok-reserve.ensures.text)
    c.in-true-false.ensures
    ∙ sym c.shown_len-chars.ensures

pub hide-requires-clause-text : goal.hide-requires-clause-text
hide-requires-clause-text c =
    c.requires.text
    ∙ text_was c.args.cells.now.cells c.apply.new.self.cells c.args.cells.now.text c.apply.new.self.text c.args.cover.now.place
    c.args.cover.now.mark c.requires.place c.known.ensures.long c.requires.alone
    (c.apply.ensures.cells
    ∙ ap (λ (l : List CellData). marked_in c.args.cover.now.place c.args.cover.now.mark l) c.in_ok-reserve.ensures.cells)
    (c.apply.ensures.text ∙ c.in_ok-reserve.ensures.text)
    c.in-true-false.ensures

pub show-requires-clause-place : goal.show-requires-clause-place
show-requires-clause-place c =
    still_there c.args.cells.now.cells c.apply.new.self.cells c.args.cells.now.text c.apply.new.self.text c.args.cover.now.place
    c.args.cover.now.mark c.requires.place c.known.ensures.long c.requires.alone
    (c.apply.ensures.cells
    ∙ ap (λ (l : List CellData). marked_in c.args.cover.now.place c.args.cover.now.mark l) c.in_ok-reserve.ensures.cells)
    (c.apply.ensures.text ∙ c.in_ok-reserve.ensures.text)

pub show-requires-clause-chars : goal.show-requires-clause-chars
show-requires-clause-chars c =
    count_lacked c.args.cells.now.cells c.apply.new.self.cells c.args.cells.now.text c.apply.new.self.text c.args.cover.now.place
    c.args.cover.now.mark c.requires.place c.known.ensures.long c.requires.alone
    (c.apply.ensures.cells
    ∙ ap (λ (l : List CellData). marked_in c.args.cover.now.place c.args.cover.now.mark l) c.in_ok-reserve.ensures.cells)
    (c.apply.ensures.text ∙ c.in_ok-reserve.ensures.text)
    c.in-false-true.ensures
    ∙ sym c.shown_len-chars.ensures

pub show-requires-clause-text : goal.show-requires-clause-text
show-requires-clause-text c =
    c.requires.text
    ∙ text_lacked c.args.cells.now.cells c.apply.new.self.cells c.args.cells.now.text c.apply.new.self.text c.args.cover.now.place
    c.args.cover.now.mark c.requires.place c.known.ensures.long c.requires.alone
    (c.apply.ensures.cells
    ∙ ap (λ (l : List CellData). marked_in c.args.cover.now.place c.args.cover.now.mark l) c.in_ok-reserve.ensures.cells)
    (c.apply.ensures.text ∙ c.in_ok-reserve.ensures.text)
    c.in-false-true.ensures

pub returns-in-true-false-clause-text : goal.returns-in-true-false-clause-text
returns-in-true-false-clause-text c =
    c.hide.ensures
    ∙ text_lacks c.args.cells.now.cells c.apply.new.self.cells c.args.cells.now.text c.apply.new.self.text c.args.cover.now.place
    c.args.cover.now.mark c.requires.place c.known.ensures.long c.requires.alone
    (c.apply.ensures.cells
    ∙ ap (λ (l : List CellData). marked_in c.args.cover.now.place c.args.cover.now.mark l) c.in_ok-reserve.ensures.cells)
    (c.apply.ensures.text ∙ c.in_ok-reserve.ensures.text)
    c.in-true-false.ensures'

pub returns-in-false-true-clause-text : goal.returns-in-false-true-clause-text
returns-in-false-true-clause-text c =
    on_ok c.show.result
    (λ put. put ∙ text_is c.args.cells.now.cells c.apply.new.self.cells c.args.cells.now.text c.apply.new.self.text c.args.cover.now.place
    c.args.cover.now.mark c.requires.place c.known.ensures.long c.requires.alone
    (c.apply.ensures.cells
    ∙ ap (λ (l : List CellData). marked_in c.args.cover.now.place c.args.cover.now.mark l) c.in_ok-reserve.ensures.cells)
    (c.apply.ensures.text ∙ c.in_ok-reserve.ensures.text)
    c.in-false-true.ensures')
    c.show.ensures

pub returns-in_default-clause-text : goal.returns-in_default-clause-text
returns-in_default-clause-text c =
    c.requires.text
    ∙ text_stays c.args.cells.now.cells c.apply.new.self.cells c.args.cells.now.text c.apply.new.self.text c.args.cover.now.place
    c.args.cover.now.mark c.requires.place c.known.ensures.long c.requires.alone
    (c.apply.ensures.cells
    ∙ ap (λ (l : List CellData). marked_in c.args.cover.now.place c.args.cover.now.mark l) c.in_ok-reserve.ensures.cells)
    (c.apply.ensures.text ∙ c.in_ok-reserve.ensures.text) _
    c.in_default.ensures c.in_default.ensures'

pub returns-in_default-2-clause-text : goal.returns-in_default-2-clause-text
returns-in_default-2-clause-text c =
    c.requires.text
    ∙ text_stays c.args.cells.now.cells c.apply.new.self.cells c.args.cells.now.text c.apply.new.self.text c.args.cover.now.place
    c.args.cover.now.mark c.requires.place c.known.ensures.long c.requires.alone
    (c.apply.ensures.cells
    ∙ ap (λ (l : List CellData). marked_in c.args.cover.now.place c.args.cover.now.mark l) c.in_ok-reserve.ensures.cells)
    (c.apply.ensures.text ∙ c.in_ok-reserve.ensures.text) _
    c.in_default.ensures c.in_default.ensures'
