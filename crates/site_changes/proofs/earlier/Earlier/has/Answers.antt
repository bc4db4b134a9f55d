use Rattle.std.proofs.Common.{inl, inr, refl, ap, sym, ◌∙◌}
use Rattle.std.proofs.lemmas.Bool.{cases_lt, lt-ltb, le-ltb}
use Rattle.context_vector.specs.Contexts.{ContextData, has}
use Rattle.site_changes.proofs.Members.{has_early, has_late, has_unknown}
use Rattle.site_changes.proofs.earlier.Earlier.has.Goals as goal

pub returns-in-Some : goal.returns-in-Some
returns-in-Some c =
    let h = c.self.inside.book.now.ops in
    let n = c.self.inside.from in
    let m = c.args.m.now in
    let i = c.in-Some.place in
    let seen = ap (λ (d : ContextData). has d m) c.self.view_is in
    elim (cases_lt i n) [
      | inl lt ↦ lt-ltb i n lt ∙ sym (has_early h c.known.ensures.valid n m i c.in-Some.ensures.place lt) ∙ seen
      | inr le ↦ le-ltb i n le ∙ sym (has_late h c.known.ensures.valid n m i c.in-Some.ensures.place le) ∙ seen
    ]

pub returns-in-None : goal.returns-in-None
returns-in-None c =
    let m = c.args.m.now in
    sym (has_unknown c.self.inside.book.now.ops c.known.ensures.valid c.self.inside.from m (c.in-None.ensures.none.0 refl))
    ∙ ap (λ (d : ContextData). has d m) c.self.view_is
