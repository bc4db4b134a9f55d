use Rattle.std.proofs.Common.{subst, sym, ◌≤◌, length}
use Rattle.std.proofs.lemmas.List.{length-map}
use Rattle.cot_site.specs.Code.Notes.{entry_of}
use Rattle.cot_site.specs.declared.notes.TheConstants.{CACHED_FORMS}
use Rattle.cot_site.specs.Sites.{AreExecuted, AreCached}
use Rattle.cot_site.specs.Code.Replicas.{ReplicaData}
use Rattle.cot_site.proofs.replica.Replica.known.Goals as goal

pub returns-clause-forms : goal.returns-clause-forms
returns-clause-forms c = subst (λ (r : ReplicaData). AreExecuted r.history r.forms) c.self.view_is c.self.invariant.0.forms

pub returns-clause-entries : goal.returns-clause-entries
returns-clause-entries c = subst (λ (r : ReplicaData). AreCached r.history r.entries) c.self.view_is c.self.invariant.1

pub returns-clause-bounded : goal.returns-clause-bounded
returns-clause-bounded c =
    subst (λ (r : ReplicaData). length r.entries ≤ CACHED_FORMS) c.self.view_is
    (subst (λ n. n ≤ CACHED_FORMS) (sym (length-map c.self.inside.notes (entry_of c.self.inside.book.ops))) c.known-2.ensures)
