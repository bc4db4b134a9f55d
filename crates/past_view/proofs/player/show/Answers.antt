use Rattle.std.proofs.Common.{sym, ◌∙◌}
use Rattle.past_view.specs.Code.Playing.{text_front, text_rest}
use Rattle.past_view.proofs.Splices.{spliced}
use Rattle.past_view.proofs.Turns.{on_ok, end_without, with_char, place_within}
use Rattle.past_view.proofs.player.show.Goals as goal

pub put_char-requires : goal.put_char-requires
put_char-requires c =
    let cs = c.args.cells.now.cells in
    let ts = c.args.cells.now.text in
    let p = c.args.place in
    let at =
    end_without cs ts p c.known.ensures.long c.deref.result.now c.visible_before.result c.args.chars c.byte_at-at.result
    c.byte_at-at.ensures
    c.visible_before.ensures (c.deref.ensures.value ∙ c.requires.text) c.requires.chars in
    place_within c.args.text.now.items (text_front cs ts p) (text_rest cs ts p) c.byte_at-at.result c.requires.text at

pub returns : goal.returns
returns c =
    let cs = c.args.cells.now.cells in
    let ts = c.args.cells.now.text in
    let p = c.args.place in
    let at =
    end_without cs ts p c.known.ensures.long c.deref.result.now c.visible_before.result c.args.chars c.byte_at-at.result
    c.byte_at-at.ensures
    c.visible_before.ensures (c.deref.ensures.value ∙ c.requires.text) c.requires.chars in
    on_ok c.put_char.result
    (λ put.
    spliced c.args.text.now.items (text_front cs ts p) (text_rest cs ts p) _ c.put_char.new.text.items c.byte_at-at.result c.requires.text
    at put
    ∙ sym (with_char cs ts p c.char_at.result c.char_at.ensures))
    c.put_char.ensures
