use Rattle.std.proofs.Common.{length}
use Rattle.cot_site.specs.Sites.{state_of, KeepsForms}
use Rattle.cot_site.proofs.Settling.{IsSettling}
use Rattle.cot_site.proofs.Changes.{KeepsCache}
use Rattle.cot_site.proofs.site.Site.settle.Given as goal

-- some releases are done and listed; what was integrated stays so, and the cache where nothing was
abbrev pub invariant-loop : goal.invariant-loop
invariant-loop l =
    IsSettling (state_of l.fn.self) (state_of l.self) l.fn.released.items l.released.items × KeepsForms l.fn.self.forms l.self.forms
    × KeepsCache l.fn.self l.self

abbrev pub decreases-loop : goal.decreases-loop
decreases-loop l = length l.self.waiting
