use Rattle.std.proofs.Common.{◌≡◌, ◌-◌, Some, length, sym, ap, ◌∙◌, arith}
use Rattle.std.specs.Prelude.{slice_get}
use Rattle.std.specs.Option.{option_copied}
use Rattle.std.proofs.lemmas.Bool.{ltb-true, ltb-false}
use Rattle.context_vector.proofs.Counting.{last_place}
use Rattle.context_vector.proofs.WordReading.{last_word_below, last_word_reaches}
use Rattle.context_vector.proofs.vector.words.ends_below.Goals as goal

pub returns-in-Some-clause-below : goal.returns-in-Some-clause-below
returns-in-Some-clause-below c less =
    let ps = c.args.part.now in
    let last = c.in-Some.last.now in
    let is : slice_get ps (length ps - 1) ≡ Some last = sym c.last.ensures.value ∙ ap option_copied c.in-Some.is in
    last_word_below 0 ps (length ps - 1) last c.args.key c.requires (last_place ps last is) is
    (omega (arith, ltb-true c.key.result c.args.key less, c.key.ensures))

pub returns-in-Some-clause-reached : goal.returns-in-Some-clause-reached
returns-in-Some-clause-reached c reaches more are =
    let ps = c.args.part.now in
    let last = c.in-Some.last.now in
    let is : slice_get ps (length ps - 1) ≡ Some last = sym c.last.ensures.value ∙ ap option_copied c.in-Some.is in
    last_word_reaches 0 ps (length ps - 1) last c.args.key more are (last_place ps last is) is
    (omega (arith, ltb-false c.key.result c.args.key reaches, c.key.ensures))
