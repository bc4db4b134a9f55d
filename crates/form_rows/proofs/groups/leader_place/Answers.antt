use Rattle.std.proofs.Common.{◌≡◌, ◌∙◌, false, ap, sym, refl}
use Rattle.std.proofs.lemmas.Bool.{both_ways}
use Rattle.context_diff.specs.Histories.{is_known}
use Rattle.context_diff.proofs.CallerLemmas.{complete}
use Rattle.form_rows.specs.RowSets.{leader_of}
use Rattle.form_rows.proofs.Leaders.{leader_known}
use Rattle.form_rows.proofs.groups.leader_place.Goals as goal

pub unreachable-requires : goal.unreachable-requires
unreachable-requires c =
    let h = c.args.book.now.ops in
    let out : is_known h c.leader.result ≡ false = c.in-None.ensures.none.0 refl in
    let known = leader_known h (complete h c.known.ensures.valid) c.args.target.now c.args.generation c.requires in
    both_ways (is_known h (leader_of c.args.target.now c.args.generation)) (ap (is_known h) (sym c.leader.ensures) ∙ out) known
