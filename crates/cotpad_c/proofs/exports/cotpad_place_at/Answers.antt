use Rattle.std.proofs.Common.{subst, sym}
use Rattle.std.specs.Prelude.{Option}
use Rattle.context_diff.specs.Replays.{characters_of}
use Rattle.cot_site.specs.Sites.{SiteData}
use Rattle.text_positions.specs.Offsets.{HasNoPlace}
use Rattle.cotpad_c.specs.Hosting.{HostedData}
use Rattle.cotpad_c.specs.Held.{held_site}
use Rattle.cotpad_c.proofs.exports.cotpad_place_at.Goals as goal

pub returns-clause-none : goal.returns-clause-none
returns-clause-none c m given none =
    c.place_at.ensures.none m given (
    subst (λ (s : SiteData). HasNoPlace m (characters_of s.history) c.args.offset) (sym c.site.ensures)
    (subst (λ (o : Option HostedData). HasNoPlace m (characters_of (held_site o).history) c.args.offset) c.inner.ensures.value none)
    )
