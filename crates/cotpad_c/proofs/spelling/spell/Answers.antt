use Rattle.std.proofs.Common.{◌≡◌, ◌+◌, ◌++◌, ap, arith, drop, encode_utf8_all, length, sym, take, ◌∙◌}
use Rattle.cotpad_c.proofs.Characters.{one_more, one_longer, front_shorter, put_behind}
use Rattle.cotpad_c.proofs.spelling.spell.Goals as goal

pub put-requires : goal.put-requires
put-requires c =
    let k = c.loop-ch.ch-index in
    let longer = one_longer c.args.chars.now k c.ch-item.result c.loop-ch-test.true c.ch-item.is in
    let bytes = ap length (c.as_bytes-bytes.ensures.value ∙ c.encode_utf8.ensures.value) in
    omega (arith, longer, bytes, c.loop-ch.invariant.0, front_shorter c.args.chars.now (k + 1), c.requires, c.loop-ch.auto.out)

pub loop-ch-preserved : goal.loop-ch-preserved
loop-ch-preserved c =
    let cs = c.args.chars.now in
    let k = c.loop-ch.ch-index in
    let bytes = c.as_bytes-bytes.result.now in
    let old = c.args.out.now in
    let is = c.as_bytes-bytes.ensures.value ∙ c.encode_utf8.ensures.value in
    let more : encode_utf8_all (take (k + 1) cs) ≡ encode_utf8_all (take k cs) ++ bytes =
    one_more cs k c.ch-item.result c.loop-ch-test.true c.ch-item.is ∙ ap (λ bs. encode_utf8_all (take k cs) ++ bs) (sym is) in (
      omega (arith, one_longer cs k c.ch-item.result c.loop-ch-test.true c.ch-item.is, c.loop-ch.invariant.0, ap length is),
      put_behind (encode_utf8_all (take k cs)) bytes old c.loop-ch.out c.put.new.out c.loop-ch.at
          c.loop-ch.invariant.0 c.loop-ch.invariant.1 c.put.ensures
          ∙ ap (λ xs. xs ++ drop (c.loop-ch.at + length bytes) old) (sym more),
    )
