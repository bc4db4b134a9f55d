use Rattle.std.proofs.Common.{ℕ, List, subst}
use Rattle.std.specs.Prelude.{MatchOption}
use Rattle.fixed_replay.proofs.CallerLemmas.{replayed_chars_beside}
use Rattle.text_positions.specs.Offsets.{HasNoPlace, IsFirstPlace}
use Rattle.text_positions.proofs.offsets.place_at.Goals as goal

pub returns : goal.returns
returns c =
    let t = c.cells.result.now in
    let m = c.args.measure in
    let o = c.args.offset in
    subst (λ (l : List ℕ). MatchOption c.first_place.result (HasNoPlace m l o) (IsFirstPlace m l o))
    (replayed_chars_beside c.args.site.now.history t.cells c.cells.ensures.replayed t.text c.cells.ensures.text)
    c.first_place.ensures
