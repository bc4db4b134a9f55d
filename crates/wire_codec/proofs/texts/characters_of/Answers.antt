use Rattle.std.proofs.Common.{◌≡◌, ℕ, List, true, sym, ap, subst, ◌∙◌, arith, Ok}
use Rattle.std.specs.Str.{all_scalars}
use Rattle.std.proofs.lemmas.Result.{err_from_is_err_and}
use Rattle.wire_codec.specs.Reading.{LeftData}
use Rattle.wire_codec.specs.Code.Elements.{elements, character_len, raw_character}
use Rattle.wire_codec.proofs.Steps.{IsBytes}
use Rattle.wire_codec.proofs.Loops.{characters_begin, characters_go_on, characters_end, characters_done, characters_are}
use Rattle.wire_codec.proofs.texts.characters_of.Goals as goal

pub loop-init : goal.loop-init
loop-init c = (characters_begin c.args.len c.args.left.now, c.bytes-bytes.ensures)

pub returns-in_err-character : goal.returns-in_err-character
returns-in_err-character c =
    let p = err_from_is_err_and c.from_residual.result c.from_residual.ensures.1 in
    rw (p.1, p.2) (sym (characters_end c.args.len c.args.left.now c.loop.counter c.loop.left c.in_err-character.field-0.0 c.loop-test.true
    (sym c.in_err-character.ensures) c.loop.invariant.0))

pub loop-preserved : goal.loop-preserved
loop-preserved c =
    let raw : IsBytes c.bytes-bytes.result.now = λ i. omega (arith, c.type_inv.bytes i) in
    let fits : IsBytes c.args.left.now.bytes = subst IsBytes c.bytes-bytes.ensures raw in (
      characters_go_on c.args.len c.args.left.now c.loop.counter c.loop.left c.character.new.left c.in_ok-character.field-0 fits
          c.loop-test.true (sym c.in_ok-character.ensures) c.loop.invariant.0,
      c.bytes-bytes.ensures,
    )

pub returns : goal.returns
returns c =
    let start : LeftData = c.args.left.now in
    let whole : c.loop.counter ≡ c.args.len = omega arith in
    let all = characters_done c.args.len start c.loop.counter c.loop.left c.loop-test.false c.loop.invariant.0 in
    let list : c.new.result ≡ elements raw_character character_len c.loop.counter start.bytes =
    c.new.ensures ∙ (ap (λ (b : List ℕ). elements raw_character character_len c.args.len b) c.bytes-bytes.ensures
    ∙ ap (λ (k : ℕ). elements raw_character character_len k start.bytes) (sym whole)) in
    ap (λ (text : List ℕ). Ok (text, c.loop.left)) list ∙ sym all

pub new-requires-clause-scalars : goal.new-requires-clause-scalars
new-requires-clause-scalars c =
    let raw : IsBytes c.bytes-bytes.result.now = λ i. omega (arith, c.type_inv.bytes i) in
    let fits : IsBytes c.args.left.now.bytes = subst IsBytes c.bytes-bytes.ensures raw in
    let whole : c.loop.counter ≡ c.args.len = omega arith in
    let are = characters_are c.args.len c.args.left.now c.loop.counter c.loop.left fits c.loop-test.false c.loop.invariant.0 in
    rw (c.bytes-bytes.ensures) (subst (λ (k : ℕ). all_scalars (elements raw_character character_len k c.args.left.now.bytes) ≡ true) whole
    are)
