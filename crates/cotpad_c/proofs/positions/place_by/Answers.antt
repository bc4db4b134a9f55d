use Rattle.std.proofs.Common.{refl}
use Rattle.context_diff.specs.Replays.{characters_of}
use Rattle.cotpad_c.proofs.Offsets.{one_first}
use Rattle.cotpad_c.proofs.positions.place_by.Goals as goal

pub returns-in-Some-clause-found : goal.returns-in-Some-clause-found
returns-in-Some-clause-found c v has =
    let m = c.args.measure in
    let cs = characters_of c.args.site.now.history in
    let first = (c.one_place.ensures m cs v c.args.offset c.requires).1 has in
    (refl, one_first m cs c.args.offset c.in-Some.found v c.in-Some.ensures first)

pub returns-in-Some-clause-none : goal.returns-in-Some-clause-none
returns-in-Some-clause-none c none = absurd (none c.in-Some.found c.in-Some.ensures.has)

pub returns-in-None-clause-found : goal.returns-in-None-clause-found
returns-in-None-clause-found c v has = absurd (c.in-None.ensures v has)
