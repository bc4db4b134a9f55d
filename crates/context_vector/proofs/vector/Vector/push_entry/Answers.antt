use Rattle.std.proofs.Common.{◌++◌, ◌∷◌, [], subst, sym, arith}
use Rattle.context_vector.specs.Contexts.{IsContext}
use Rattle.context_vector.specs.Vectors.{VectorData, NamesBelow}
use Rattle.context_vector.specs.Code.Sharing.{data_of}
use Rattle.context_vector.proofs.Entries.{entries_push}
use Rattle.context_vector.proofs.Results.{changed_or_kept}
use Rattle.context_vector.proofs.vector.Vector.push_entry.Goals as goal

pub invariant_of-self : goal.invariant_of-self
invariant_of-self c =
    let set = (data_of c.self.inside.lists).set in
    let below = subst (λ (v : VectorData). NamesBelow v.set.entries c.args.name) (sym c.self.view_is) c.requires.last in
    let entries = c.self.invariant.entries in
    let more = entries_push c.args.name c.args.generation set.entries c.known.ensures c.requires.least (omega arith) below entries in
    let new = (data_of c.push_entry.new.self).set in
    let pushed = record set { entries = set.entries ++ (c.args.name, c.args.generation) ∷ [] } in
    changed_or_kept IsContext c.push_entry.result set new pushed c.push_entry.ensures.pushed c.push_entry.ensures.kept
    (record { counts = c.self.invariant.counts; entries = more }) c.self.invariant
