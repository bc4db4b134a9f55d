use Rattle.std.proofs.Common.{◌∙◌, length, ap}
use Rattle.context_diff.specs.Replays.{shown}
use Rattle.cot_site.specs.Code.Replicas.{ReplicaData}
use Rattle.cot_site.proofs.Executions.{cells_replayed}
use Rattle.cot_site.proofs.Views.{shown_count}
use Rattle.cot_site.proofs.replica.Replica.visible_len.Goals as goal

pub returns : goal.returns
returns c =
    let h = c.self.inside.book.ops in
    let cs = c.self.inside.cells.cells in
    c.visible_len.ensures
    ∙ (shown_count h cs (cells_replayed h c.self.inside.forms.items cs c.known.ensures.valid c.self.invariant.0)
    ∙ ap (λ (r : ReplicaData). length (shown r.history)) c.self.view_is)
