use Rattle.std.proofs.Common.{◌≡◌, max, [], ◌∷◌, sym, ap, ◌∙◌}
use Rattle.ttf_form.specs.Cells.{raise_in}
use Rattle.ttf_form.specs.Laws.Deleters.{name_same, raise_none, raise_at}
use Rattle.tombstone_text.specs.Code.Deleters.{entries_in}
use Rattle.tombstone_text.proofs.Entries.{raised_pair}
use Rattle.tombstone_text.proofs.deleters.Deleters.raise.Goals.{in-More-1, in-Nothing-1, in-More-2, in-Nothing-2}
use Rattle.tombstone_text.proofs.deleters.Deleters.raise.Goals as goal

pub returns-in-Nothing : goal.returns-in-Nothing
returns-in-Nothing c =
    let d = c.args.name in
    let g = c.args.generation in
    let was : c.args.self.now ≡ [] = sym c.self.view_is ∙ ap entries_in c.in-Nothing.is in
    let raised : (d, g) ∷ [] ≡ raise_in d g c.args.self.now = sym (raise_none d g) ∙ ap (raise_in d g) (sym was) in
    record { raised = elim c.match-self-2.branch [ in-More-1 w ↦ w.self-is ∙ raised | in-Nothing-1 w ↦ w.self-is ∙ raised ] }

pub returns-then-eq : goal.returns-then-eq
returns-then-eq c =
    let d = c.args.name in
    let g = c.args.generation in
    let one = c.in-One.one in
    let was : c.args.self.now ≡ one ∷ [] = sym c.self.view_is ∙ ap entries_in c.in-One.is in
    let same : one.0 ≡ d = name_same one.0 d (sym c.eq.ensures ∙ c.if-eq.true) in
    record {
      raised =
          ap (λ k. (one.0, k) ∷ []) c.max-one.ensures
          ∙ ap (λ n. (n, max one.1 g) ∷ []) same
          ∙ sym (raise_at d g one.1 [])
          ∙ ap (λ n. raise_in d g ((n, one.1) ∷ [])) (sym same)
          ∙ ap (raise_in d g) (sym was);
    }

pub returns-else-eq : goal.returns-else-eq
returns-else-eq c =
    let d = c.args.name in
    let g = c.args.generation in
    let one = c.in-One.one in
    let was : c.args.self.now ≡ one ∷ [] = sym c.self.view_is ∙ ap entries_in c.in-One.is in
    let raised : c.pair-list.result.value.items ≡ raise_in d g c.args.self.now =
    c.pair-list.ensures ∙ raised_pair d g one (sym c.eq.ensures ∙ c.if-eq.false) ∙ ap (raise_in d g) (sym was) in
    record { raised = elim c.match-self-3.branch [ in-More-2 w ↦ w.self-is ∙ raised | in-Nothing-2 w ↦ w.self-is ∙ raised ] }
