use Rattle.std.proofs.Common.{◌≡◌, List, [], ◌∷◌, sym, subst}
use Rattle.std.specs.Prelude.{MatchOption}
use Rattle.op_name.specs.NameData.{NameData}
use Rattle.context_diff.specs.Operations.{OpData}
use Rattle.context_diff.specs.Ops.{data_of}
use Rattle.site_ranges.specs.Originals.{originals_in}
use Rattle.site_ranges.proofs.Turning.{range_one, none_there}
use Rattle.site_ranges.proofs.turns.name_at.Goals as goal

pub returns-in-Some : goal.returns-in-Some
returns-in-Some c =
    let one = range_one c.args.book.now.ops c.args.i (data_of c.in-Some.op.now) (sym c.in-Some.ensures) in
    subst (λ (os : List OpData). MatchOption c.name_of.result (originals_in os ≡ []) (λ (n : NameData). originals_in os ≡ n ∷ [])) (sym one)
    c.name_of.ensures

pub returns-in-None : goal.returns-in-None
returns-in-None c = absurd (none_there c.args.book.now.ops c.args.i c.requires (sym c.in-None.ensures))
