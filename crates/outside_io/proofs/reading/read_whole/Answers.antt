use Rattle.std.proofs.Common.{rules, ◌≡◌, ◌+◌, ◌≤◌, Ok, length}
use Rattle.outside_io.proofs.Read.{Gathers-first, Gathers-left}
use Rattle.outside_io.specs.declared.reading.Taken.TheVariants.{End, Past}
use Rattle.outside_io.specs.declared.reading.TheConstants.{MAX_INPUT}
use Rattle.outside_io.proofs.reading.read_whole.Goals as goal

pub returns-then-len-start-gt-MAX_INPUT-clause-past :
    goal.returns-then-len-start-gt-MAX_INPUT-clause-past
returns-then-len-start-gt-MAX_INPUT-clause-past g c = λ is.
    let gathers = rw is at c.gather-gathered.ensures.gathers in
    let long : length c.gather-gathered.new.out.items ≡ length c.args.out.now.items + MAX_INPUT + 1 = search rules in
    Gathers-first _ _ _ _ _ MAX_INPUT c.len-start.result gathers long (search rules) c.truncate-then-len-start-gt-MAX_INPUT.ensures.items

pub returns-then-len-start-gt-MAX_INPUT-clause-rest :
    goal.returns-then-len-start-gt-MAX_INPUT-clause-rest
returns-then-len-start-gt-MAX_INPUT-clause-rest g c =
    let few : c.gather-gathered.result ≡ Ok End → length c.gather-gathered.new.out.items ≤ length c.args.out.now.items + MAX_INPUT =
    λ is. search rules in
    let long : c.gather-gathered.result ≡ Ok Past → length c.gather-gathered.new.out.items ≡ length c.args.out.now.items + MAX_INPUT + 1 =
    λ is. search rules in
    Gathers-left c.gather-gathered.result _ _ c.args.out.now.items c.gather-gathered.new.out.items MAX_INPUT
    c.gather-gathered.ensures.gathers c.gather-gathered.ensures.end few long

pub returns-else-len-start-gt-MAX_INPUT-clause-rest :
    goal.returns-else-len-start-gt-MAX_INPUT-clause-rest
returns-else-len-start-gt-MAX_INPUT-clause-rest g c =
    let few : c.gather-gathered.result ≡ Ok End → length c.gather-gathered.new.out.items ≤ length c.args.out.now.items + MAX_INPUT =
    λ is. search rules in
    let long : c.gather-gathered.result ≡ Ok Past → length c.gather-gathered.new.out.items ≡ length c.args.out.now.items + MAX_INPUT + 1 =
    λ is. search rules in
    Gathers-left c.gather-gathered.result _ _ c.args.out.now.items c.gather-gathered.new.out.items MAX_INPUT
    c.gather-gathered.ensures.gathers c.gather-gathered.ensures.end few long
