use Rattle.std.proofs.Common.{◌≡◌, ◌∙◌, ap, subst, ℕ, List, ◌++◌, OnOk}
use Rattle.context_diff.specs.Replays.{text_of}
use Rattle.cot_site.specs.Code.Replicas.{ReplicaData}
use Rattle.cot_site.proofs.Executions.{cells_replayed}
use Rattle.cot_site.proofs.Views.{text_is}
use Rattle.cot_site.proofs.replica.Replica.text.Goals as goal

pub returns-clause-ok : goal.returns-clause-ok
returns-clause-ok c =
    let h = c.self.inside.book.ops in
    let cs = c.self.inside.cells.cells in
    subst (λ (bytes : List ℕ). OnOk c.write_text.result (c.write_text.new.out.items ≡ c.args.out.now.items ++ bytes))
    (text_is h cs c.self.inside.cells.text
    (cells_replayed h c.self.inside.forms.items cs c.known.ensures.valid c.self.invariant.0) c.self.invariant.5
    ∙ ap (λ (r : ReplicaData). text_of r.history) c.self.view_is)
    c.write_text.ensures.ok
