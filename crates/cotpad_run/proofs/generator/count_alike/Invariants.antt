use Rattle.std.proofs.Common.{◌≡◌}
use Rattle.cot_site.specs.Sites.{state_of}
use Rattle.cotpad_run.proofs.Alike.{AreAlike}
use Rattle.cotpad_run.proofs.generator.count_alike.Given as goal

-- the sites before this number show the same text, and are counted
abbrev pub invariant-loop-number : goal.invariant-loop-number
invariant-loop-number l = record {
  alike : AreAlike (state_of l.site) l.generated.sites l.number;
  count : l.equal ≡ l.number;
}
