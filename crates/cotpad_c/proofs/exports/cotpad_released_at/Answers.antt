use Rattle.std.proofs.Common.{◌≡◌, subst}
use Rattle.std.specs.Prelude.{Option, Some, slice_get}
use Rattle.cotpad_c.specs.Hosting.{HostedData}
use Rattle.cotpad_c.specs.Held.{held_releases}
use Rattle.cotpad_c.proofs.exports.cotpad_released_at.Goals as goal

pub returns-clause-found : goal.returns-clause-found
returns-clause-found c = λ r at.
    c.released_at.ensures.found r (subst (λ (o : Option HostedData). slice_get (held_releases o) c.args.index ≡ Some r)
    c.inner.ensures.value at)
