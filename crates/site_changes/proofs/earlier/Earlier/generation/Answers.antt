use Rattle.std.proofs.Common.{◌≡◌, ap, sym, ◌∙◌, arith}
use Rattle.context_vector.specs.Contexts.{ContextData, entry_of}
use Rattle.context_vector.specs.Vectors.{VectorData}
use Rattle.context_diff.specs.Histories.{context_of_all}
use Rattle.site_changes.proofs.Members.{entry_most, no_entry}
use Rattle.site_changes.proofs.earlier.Earlier.generation.Goals as goal

pub loop-low-init : goal.loop-low-init
loop-low-init c =
    let h = c.self.inside.book.now.ops in
    let t = c.args.name.now in
    let most = entry_most h c.known.ensures.valid c.self.inside.from t in
    let seen = ap (λ (d : ContextData). entry_of d t) c.self.view_is in
    let all : c.entry-high.result ≡ entry_of (context_of_all h) t =
    c.entry-high.ensures
    ∙ ap (λ (v : VectorData). entry_of v.set t) c.have-have.ensures
    ∙ ap (λ (d : ContextData). entry_of d t) c.known.ensures.have in
    (omega arith, omega (arith, most, seen, all))

pub returns-then-entries-eq0 : goal.returns-then-entries-eq0
returns-then-entries-eq0 c =
    let h = c.self.inside.book.now.ops in
    let t = c.args.name.now in
    let have : c.have-have.result.now.set ≡ context_of_all h =
    ap (λ (v : VectorData). v.set) c.have-have.ensures ∙ c.known.ensures.have in
    let none = no_entry c.have-have.result.now.set t (sym c.entries.ensures.entries ∙ c.if-entries-eq0.true) in
    let same = ap (λ (d : ContextData). entry_of d t) have in
    let most = entry_most h c.known.ensures.valid c.self.inside.from t in
    let seen = ap (λ (d : ContextData). entry_of d t) c.self.view_is in
    omega (arith, none, same, most, seen)
