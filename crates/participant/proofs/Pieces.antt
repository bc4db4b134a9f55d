-- What a text is cut into.
use Rattle.std.proofs.Common.{◌≡◌, ℕ, zero, suc, ◌-◌, ◌≤◌, min, inl, inr, List, [], ◌∷◌, ◌++◌, length, take, drop, length-take, length-drop, take-append-drop, refl, sym, ap, subst, ◌∙◌, arith}
use Rattle.std.proofs.lemmas.Bool.{cases_lt}
use Rattle.op_name.specs.declared.limits.TheConstants.{LETTERS}
use Rattle.participant.specs.Runs.{pieces}
use Rattle.participant.specs.Laws.{joined, AreFull}
use Rattle.participant.proofs.EditRuns.{pieces_next, pieces_none}

is_none : (ps : List (List ℕ)) → ps ≡ [] → AreFull ps
unfolding AreFull
is_none ps none = subst (λ (qs : List (List ℕ)). AreFull qs) (sym none) tt

-- the last piece
one_full : (p : List ℕ) (ps : List (List ℕ)) → ps ≡ [] → 1 ≤ length p → length p ≤ LETTERS → AreFull (p ∷ ps)
unfolding AreFull
one_full p ps none some most = subst (λ (qs : List (List ℕ)). AreFull (p ∷ qs)) (sym none) (some, most)

-- a piece before others
more_full : (p q : List ℕ) (ps qs : List (List ℕ)) → qs ≡ q ∷ ps → length p ≡ LETTERS → AreFull qs → AreFull (p ∷ qs)
unfolding AreFull
more_full p q ps qs is full rest =
    subst (λ (rs : List (List ℕ)). AreFull (p ∷ rs)) (sym is) (full, subst (λ (rs : List (List ℕ)). AreFull rs) is rest)

pub pieces_text : (most : ℕ) (text : List ℕ) → length text ≤ most → (joined (pieces text) ≡ text) × AreFull (pieces text)
unfolding joined
pieces_text most [] few = (ap joined (pieces_none [] refl), is_none (pieces []) (pieces_none [] refl))
pieces_text zero (ch ∷ cs) few = absurd (omega (arith, few))
pieces_text (suc most) (ch ∷ cs) few =
    let text : List ℕ = ch ∷ cs in
    let rest : List ℕ = drop LETTERS text in
    let shorter : length rest ≡ length text - LETTERS = length-drop LETTERS text in
    let next : pieces text ≡ take LETTERS text ∷ pieces rest = pieces_next text (omega arith) in
    let behind = pieces_text most rest (omega (arith, shorter, few)) in
    let size : length (take LETTERS text) ≡ min LETTERS (length text) = length-take LETTERS text in (
      ap joined next ∙ ap (λ (xs : List ℕ). take LETTERS text ++ xs) behind.0 ∙ take-append-drop LETTERS text,
      subst (λ (ps : List (List ℕ)). AreFull ps) (sym next)
          (elim (cases_lt LETTERS (length text)) [
            | inl more ↦
                more_full (take LETTERS text) (take LETTERS rest) (pieces (drop LETTERS rest)) (pieces rest)
                (pieces_next rest (omega (arith, shorter, more))) (omega (arith, size, more)) behind.1
            | inr all ↦
                one_full (take LETTERS text) (pieces rest) (pieces_none rest (omega (arith, shorter, all))) (omega (arith, size, all))
                (omega (arith, size))
          ]),
    )
