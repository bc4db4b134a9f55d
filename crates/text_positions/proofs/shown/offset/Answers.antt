use Rattle.std.proofs.Common.{sym, ap, ◌∙◌, arith}
use Rattle.std.specs.Prelude.{Some}
use Rattle.text_positions.specs.Code.{characters_in}
use Rattle.text_positions.proofs.Chunks.{length-chars}
use Rattle.text_positions.proofs.Weights.{offset_all, offset_is, offset_none}
use Rattle.text_positions.proofs.shown.offset.Goals as goal

pub returns-then-v-shown : goal.returns-then-v-shown
returns-then-v-shown c =
    let long = length-chars c.args.cells.now.cells c.args.cells.now.text c.known.ensures.long in
    ap (λ n. Some n) c.offset_within.ensures
    ∙ sym (offset_is c.args.measure (characters_in c.args.cells.now) c.args.v
    (omega (arith, long, c.shown_len-shown.ensures, c.if-v-shown.true)))

pub returns-then-v-shown-2 : goal.returns-then-v-shown-2
returns-then-v-shown-2 c =
    let long = length-chars c.args.cells.now.cells c.args.cells.now.text c.known.ensures.long in
    ap (λ n. Some n) c.weight.ensures
    ∙ sym (offset_all c.args.measure (characters_in c.args.cells.now) c.args.v
    (omega (arith, long, c.shown_len-shown.ensures, c.if-v-shown-2.true)))

pub returns-else-v-shown-2 : goal.returns-else-v-shown-2
returns-else-v-shown-2 c =
    let long = length-chars c.args.cells.now.cells c.args.cells.now.text c.known.ensures.long in
    sym (offset_none c.args.measure (characters_in c.args.cells.now) c.args.v
    (omega (arith, long, c.shown_len-shown.ensures, c.if-v-shown.false, c.if-v-shown-2.false)))
