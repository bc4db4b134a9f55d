-- When two marks are one.
use Rattle.std.proofs.Common.{◌≡◌, Bool, true, false, not, IsTrue, ap, sym, refl, ◌∙◌}
use Rattle.context_vector.specs.Equality.{context_eq, context_eq_decides}
use Rattle.char_marks.specs.Marks.{MarkData}

pub not_not : (b : Bool) → not b ≡ false → b ≡ true
not_not true e = refl
not_not false e = sym e

-- all parts but the contexts are equal, so the marks are where the contexts are
pub by_contexts : (x y a b : MarkData) (r : Bool) → x ≡ a → y ≡ b → x.name ≡ y.name → x.rank ≡ y.rank → x.place ≡ y.place
    → x.len ≡ y.len
    → x.value ≡ y.value
    → r ≡ context_eq x.context y.context
    → (IsTrue r → a ≡ b) × (a ≡ b → IsTrue r)
by_contexts x y a b r e f name rank place len value test =
    let decides = context_eq_decides x.context y.context in (
      λ t. sym e ∙ (same (decides.0 (sym test ∙ t)) ∙ f),
      λ s. test ∙ decides.1 (ap (λ (m : MarkData). m.context) (e ∙ (s ∙ sym f))),
    )
  where
    same : x.context ≡ y.context → x ≡ y
    same c i = record { name = name i; rank = rank i; place = place i; len = len i; value = value i; context = c i }
