use Rattle.std.proofs.Common.{◌≡◌, ◌≢◌, ◌+◌, suc, Bool, true, false, not, true≢false, refl, ap, ◌∙◌, subst, sym, arith}
use Rattle.std.proofs.lemmas.Bool.Decides.{nat_tests}
use Rattle.op_name.specs.NameData.{name_eq}
use Rattle.ttf_form.specs.Cells.{CellData}
use Rattle.ttf_form.specs.Laws.Deleters.{name_self, name_same}
use Rattle.tombstone_text.specs.Code.Inserts.{HasLast, LacksRun}
use Rattle.tombstone_text.specs.Code.Spans.{run_from, span_cells}
use Rattle.tombstone_text.proofs.Reach.{span_lacks, run_last}
use Rattle.tombstone_text.proofs.span.Span.found.Goals.{then-self-eq0, else-self-eq0}
use Rattle.tombstone_text.proofs.span.Span.found.Goals as goal

same_if : (b : Bool) → not b ≡ false → b ≡ true
same_if true e = refl
same_if false e = absurd (true≢false e)

pub returns-then-ne : goal.returns-then-ne
returns-then-ne c =
    let s = c.self.inside in
    let n = c.args.name.now in
    let first : CellData =
    record { name = s.name; offset = s.offset; of = s.last + 1; generation = s.generation; deleters = s.deleters } in
    let other : s.name ≡ n → s.last + 1 ≡ 1 =
    λ same. let yes = ap (λ m. name_eq m n) same ∙ name_self n in
    elim c.if-self-eq0.branch [
      | then-self-eq0 w ↦ omega (arith, w.if-self-eq0.true)
      | else-self-eq0 w ↦ absurd (true≢false (sym c.if-ne.true ∙ w.value-is ∙ w.ne.ensures ∙ ap not yes))
    ] in
    subst (λ v. LacksRun n (span_cells v)) c.self.view_is (span_lacks n first (s.more + 1) other)

pub returns-then-self : goal.returns-then-self
returns-then-self c =
    let s = c.self.inside in
    let n = c.args.name.now in
    let first : CellData =
    record { name = s.name; offset = s.offset; of = s.last + 1; generation = s.generation; deleters = s.deleters } in
    let more : suc s.more ≡ s.more + 1 = omega arith in
    let at : s.offset + suc s.more ≡ s.last + 1 = omega (arith, c.if-self.true) in
    elim c.if-self-eq0.branch [
      | then-self-eq0 w ↦
          let zero = w.if-self-eq0.true in let test = sym w.value-is ∙ c.if-ne.false in absurd (grind (arith, nat_tests))
      | else-self-eq0 w ↦
          let is : s.name ≡ n = name_same s.name n (same_if (name_eq s.name n) (sym w.ne.ensures ∙ sym w.value-is ∙ c.if-ne.false)) in
          let several : s.last + 1 ≢ 1 = λ one. w.if-self-eq0.false (omega (arith, one)) in
          subst (λ v. HasLast n (span_cells v)) c.self.view_is
          (subst (λ k. HasLast n (run_from first k)) more (run_last n first s.more several is at))
    ]
