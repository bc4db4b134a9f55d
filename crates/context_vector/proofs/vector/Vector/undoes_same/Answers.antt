use Rattle.std.proofs.Common.{sym, ap, ◌∙◌}
use lib.Pointwise.{pointwise}
use Rattle.context_vector.specs.Equality.{entry_eq, list_eq_decides}
use Rattle.context_vector.specs.Vectors.{VectorData}
use Rattle.context_vector.specs.Code.Sharing.{data_of}
use Rattle.context_vector.proofs.vector.Vector.undoes_same.Goals as goal

pub returns : goal.returns
returns c =
    let decides = list_eq_decides c.args.self.now.set.entries c.args.other.now.set.entries in
    let mine = ap (λ (v : VectorData). pointwise entry_eq v.set.entries (data_of c.other.inside.lists).set.entries) c.self.view_is in
    let theirs = ap (λ (v : VectorData). pointwise entry_eq c.args.self.now.set.entries v.set.entries) c.other.view_is in
    let same = c.has_same_names.ensures ∙ (mine ∙ theirs) in
    (λ yes. decides.0 (sym same ∙ yes), λ one. same ∙ decides.1 one)
