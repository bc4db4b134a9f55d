use Rattle.std.proofs.Common.{◌≡◌, ℕ, List, length, drop, ap, sym, ◌∙◌}
use Rattle.ttf_form.specs.Cells.{CellData}
use Rattle.visible_view.specs.View.{shown_text}
use Rattle.past_view.specs.Code.Playing.{text_front}
use Rattle.past_view.proofs.Splices.{spliced, text_inserted, text_split, count_split}
use Rattle.past_view.proofs.Turns.{on_ok, end_at, place_within}
use Rattle.past_view.proofs.player.play_ins.Goals as goal

pub put_chars-requires : goal.put_chars-requires
put_chars-requires c =
    let cs = c.reserve.new.self.cells in
    let ts = c.reserve.new.self.text in
    let p = c.args.ins.now.place in
    let cells = c.in_ok-reserve.ensures.cells in
    let beside = c.in_ok-reserve.ensures.text in
    let long : length ts ≡ length cs =
    ap (λ (l : List ℕ). length l) beside ∙ c.known.ensures.long ∙ ap (λ (l : List CellData). length l) (sym cells) in
    let parts = c.requires.text ∙ (λ i. shown_text (sym cells i) (sym beside i)) ∙ text_split p cs ts long in
    let at =
    end_at cs ts p long c.deref.result.now c.visible_before.result c.shown_len.result c.byte_at-at.result c.byte_at-at.ensures
    c.visible_before.ensures (c.deref.ensures.value ∙ parts) (sym (count_split p cs) ∙ sym c.shown_len.ensures) in
    let rest = shown_text (drop p cs) (drop p ts) in
    place_within c.args.text.now.items (text_front cs ts p) rest c.byte_at-at.result parts at

pub returns-clause-text : goal.returns-clause-text
returns-clause-text c =
    let cs = c.reserve.new.self.cells in
    let ts = c.reserve.new.self.text in
    let p = c.args.ins.now.place in
    let cells = c.in_ok-reserve.ensures.cells in
    let beside = c.in_ok-reserve.ensures.text in
    let long : length ts ≡ length cs =
    ap (λ (l : List ℕ). length l) beside ∙ c.known.ensures.long ∙ ap (λ (l : List CellData). length l) (sym cells) in
    let parts = c.requires.text ∙ (λ i. shown_text (sym cells i) (sym beside i)) ∙ text_split p cs ts long in
    let at =
    end_at cs ts p long c.deref.result.now c.visible_before.result c.shown_len.result c.byte_at-at.result c.byte_at-at.ensures
    c.visible_before.ensures (c.deref.ensures.value ∙ parts) (sym (count_split p cs) ∙ sym c.shown_len.ensures) in
    let rest = shown_text (drop p cs) (drop p ts) in
    on_ok c.put_chars.result
    (λ put.
    spliced c.args.text.now.items (text_front cs ts p) rest _ c.put_chars.new.text.items c.byte_at-at.result parts at put
    ∙ sym (text_inserted c.args.ins.now c.args.letters.now p cs ts c.requires.letters long)
    ∙ (λ i. shown_text (sym c.apply.ensures.cells i) (sym c.apply.ensures.text i)))
    c.put_chars.ensures
