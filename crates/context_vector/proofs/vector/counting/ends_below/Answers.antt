use Rattle.std.proofs.Common.{◌≡◌, ◌-◌, Some, length, sym, ap, ◌∙◌, arith}
use Rattle.std.specs.Prelude.{slice_get}
use Rattle.std.specs.Option.{option_copied}
use Rattle.std.proofs.lemmas.Bool.{ltb-true, ltb-false}
use Rattle.context_vector.proofs.Counting.{last_place, last_below, last_reaches}
use Rattle.context_vector.proofs.vector.counting.ends_below.Goals as goal

pub returns-in-Some-clause-below : goal.returns-in-Some-clause-below
returns-in-Some-clause-below c less =
    let ps = c.args.part.now in let last = c.in-Some.last.now in
    let is : slice_get ps (length ps - 1) ≡ Some last = sym c.last.ensures.value ∙ ap option_copied c.in-Some.is in
    let lesser = ltb-true c.site.result c.args.site less in
    last_below 0 ps (length ps - 1) last c.args.site c.requires (last_place ps last is) is (omega (arith, lesser, c.site.ensures))

pub returns-in-Some-clause-reached : goal.returns-in-Some-clause-reached
returns-in-Some-clause-reached c reaches more are =
    let ps = c.args.part.now in let last = c.in-Some.last.now in
    let is : slice_get ps (length ps - 1) ≡ Some last = sym c.last.ensures.value ∙ ap option_copied c.in-Some.is in
    let from = ltb-false c.site.result c.args.site reaches in
    last_reaches 0 ps (length ps - 1) last c.args.site more are (last_place ps last is) is (omega (arith, from, c.site.ensures))
