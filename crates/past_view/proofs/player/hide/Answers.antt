use Rattle.std.proofs.Common.{◌∙◌}
use Rattle.std.specs.Prelude.{encode_utf8}
use Rattle.past_view.specs.Code.Playing.{text_front, text_rest}
use Rattle.past_view.proofs.Splices.{cut_out}
use Rattle.past_view.proofs.Turns.{end_with, with_char, char_within}
use Rattle.past_view.proofs.player.hide.Goals as goal

pub remove-requires : goal.remove-requires
remove-requires c =
    let cs = c.args.cells.now.cells in
    let ts = c.args.cells.now.text in
    let p = c.args.place in
    let x = c.char_at.result in
    let parts = c.requires.text ∙ with_char cs ts p x c.char_at.ensures in
    let at =
    end_with cs ts p c.known.ensures.long c.deref.result.now c.visible_before.result c.args.chars c.byte_at-at.result c.byte_at-at.ensures
    c.visible_before.ensures x (c.deref.ensures.value ∙ parts) c.requires.chars in
    char_within c.args.text.now.items (text_front cs ts p) (encode_utf8 x) (text_rest cs ts p) c.byte_at-at.result c.len_utf8.result parts
    at c.len_utf8.ensures.len

pub returns : goal.returns
returns c =
    let cs = c.args.cells.now.cells in
    let ts = c.args.cells.now.text in
    let p = c.args.place in
    let x = c.char_at.result in
    let parts = c.requires.text ∙ with_char cs ts p x c.char_at.ensures in
    let at =
    end_with cs ts p c.known.ensures.long c.deref.result.now c.visible_before.result c.args.chars c.byte_at-at.result c.byte_at-at.ensures
    c.visible_before.ensures x (c.deref.ensures.value ∙ parts) c.requires.chars in
    cut_out c.args.text.now.items (text_front cs ts p) (encode_utf8 x) (text_rest cs ts p) c.remove.new.text.items c.byte_at-at.result
    c.len_utf8.result parts at c.len_utf8.ensures.len c.remove.ensures
