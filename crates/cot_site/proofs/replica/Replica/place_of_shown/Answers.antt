use Rattle.std.proofs.Common.{◌∙◌, ap, sym, ℕ, List, arith}
use Rattle.std.specs.Prelude.{slice_get}
use Rattle.cot_site.specs.Code.Replicas.{ReplicaData}
use Rattle.cot_site.specs.Commands.{place_of_shown}
use Rattle.cot_site.proofs.Executions.{cells_replayed}
use Rattle.cot_site.proofs.LocalOps.{shown_named}
use Rattle.cot_site.proofs.Views.{places_are}
use Rattle.cot_site.proofs.replica.Replica.place_of_shown.Goals as goal

pub returns : goal.returns
returns c =
    let h = c.self.inside.book.ops in
    let cs = c.self.inside.cells.cells in
    let v = c.args.v in
    c.cell_of_visible.ensures.place
    ∙ (ap (λ (ps : List ℕ). slice_get ps v)
    (places_are h cs (cells_replayed h c.self.inside.forms.items cs c.known.ensures.valid c.self.invariant.0))
    ∙ (sym (shown_named h (omega (arith, c.known.ensures.cells)) v) ∙ ap (λ (r : ReplicaData). place_of_shown r.history v) c.self.view_is))
