use Rattle.std.proofs.Common.{sym, ap, ◌∙◌}
use Rattle.context_vector.specs.Contexts.{ContextData, put_count}
use Rattle.context_vector.specs.Vectors.{VectorData}
use Rattle.context_vector.specs.Equality.{list_eq_decides}
use Rattle.context_vector.specs.Code.Sharing.{data_of}
use Rattle.context_vector.proofs.vector.Vector.follows.Goals as goal

pub returns-clause-raised : goal.returns-clause-raised
returns-clause-raised c = λ alike.
    let n = c.args.name.now in
    let es = (data_of c.self.inside.lists).set.entries in let fs = (data_of c.before-2.inside.lists).set.entries in
    let same = (list_eq_decides es fs).0 (sym c.has_same_names.ensures ∙ c.if-not-has_same_names.false) in
    let put = sym c.counts-2.ensures ∙ (c.has_put.ensures alike ∙ ap (put_count n.site n.number) c.counts.ensures) in
    let mine = ap (λ (v : VectorData). v.set) c.self.view_is in
    let theirs = ap (λ (v : VectorData). v.set) c.before-2.view_is in
    let counts = sym (ap (λ (s : ContextData). s.counts) mine)
    ∙ (put ∙ ap (λ (s : ContextData). put_count n.site n.number s.counts) theirs) in
    let entries = sym (ap (λ (s : ContextData). s.entries) mine) ∙ (same ∙ ap (λ (s : ContextData). s.entries) theirs) in
    λ j. record { counts = counts j; entries = entries j }
