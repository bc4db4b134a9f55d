use Rattle.std.proofs.Common.{◌≡◌, ◌-◌, length, ap, sym, ◌∙◌, ◌++◌, rules}
use Rattle.std.specs.Prelude.{encode_utf8_all}
use Rattle.std.proofs.lemmas.List.{take_all}
use Rattle.past_view.proofs.Bytes.{char_pushed, put_turned}
use Rattle.past_view.proofs.player.put_chars.Goals as goal

pub loop-letter-preserved : goal.loop-letter-preserved
loop-letter-preserved c =
    char_pushed c.args.text.now.items c.loop-letter.text.items c.push_char.new.out.items c.args.letters.now c.loop-letter.letter-index
    c.letter-item.result c.loop-letter-test.true c.letter-item.is c.loop-letter.invariant c.in_ok-push_char.ensures.ok

pub returns : goal.returns
returns c =
    let xs = c.args.text.now.items in
    let letters = c.args.letters.now in
    let text = c.loop-letter.text in
    let all : text.items ≡ xs ++ encode_utf8_all letters =
    c.loop-letter.invariant ∙ ap (λ l. xs ++ encode_utf8_all l) (take_all c.loop-letter.letter-index letters c.loop-letter-test.false) in
    let behind : c.len.result - c.args.at ≡ length xs - c.args.at = ap (λ n. n - c.args.at) (search rules) in
    put_turned xs (encode_utf8_all letters) text.items c.deref_mut.result.now c.turn.new.text c.args.at (c.len.result - c.args.at) text.len
    c.requires behind all c.deref_mut.ensures.value (sym c.deref_mut.ensures.len ∙ ap length c.deref_mut.ensures.value) c.turn.ensures
