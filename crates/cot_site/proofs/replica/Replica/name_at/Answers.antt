use Rattle.std.proofs.Common.{◌∙◌, ap, subst, IsNone, option_map, length, ◌≤◌, ◌↔◌}
use Rattle.std.specs.Prelude.{slice_get}
use Rattle.context_diff.specs.Replays.{Cell, shown}
use Rattle.cot_site.specs.Code.Replicas.{ReplicaData}
use Rattle.cot_site.proofs.Executions.{cells_replayed}
use Rattle.cot_site.proofs.Views.{shown_name, none_past}
use Rattle.cot_site.proofs.replica.Replica.name_at.Goals as goal

pub returns-clause-name : goal.returns-clause-name
returns-clause-name c =
    let h = c.self.inside.book.ops in
    let cs = c.self.inside.cells.cells in
    let v = c.args.v in
    c.name_of_visible.ensures
    ∙ (shown_name h cs v (cells_replayed h c.self.inside.forms.items cs c.known.ensures.valid c.self.invariant.0)
    ∙ ap (λ (r : ReplicaData). option_map (λ (d : Cell). d.0) (slice_get (shown r.history) v)) c.self.view_is)

pub returns-clause-none : goal.returns-clause-none
returns-clause-none c =
    let h = c.self.inside.book.ops in
    let cs = c.self.inside.cells.cells in
    let v = c.args.v in
    let named =
    c.name_of_visible.ensures ∙ shown_name h cs v
    (cells_replayed h c.self.inside.forms.items cs c.known.ensures.valid c.self.invariant.0) in
    subst (λ (r : ReplicaData). IsNone c.name_of_visible.result ↔ (length (shown r.history) ≤ v)) c.self.view_is
    (none_past (λ (d : Cell). d.0) (shown h) v c.name_of_visible.result named)
