use Rattle.std.proofs.Common.{List, map, subst, sym}
use Rattle.cot_site.specs.Sites.{SiteData, state_of}
use Rattle.session_replay.specs.Code.Messages.{AreHeld}
use Rattle.session_replay.proofs.generated.Generated.new.Goals as goal

pub tally_of-tally-requires-clause-held : goal.tally_of-tally-requires-clause-held
tally_of-tally-requires-clause-held c =
    subst (λ (sites : List SiteData). AreHeld (map state_of sites) c.args.messages.now) (sym c.deref.ensures.value) c.requires.held
