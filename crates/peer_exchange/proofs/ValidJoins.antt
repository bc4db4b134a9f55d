-- The join of two valid histories that agree is valid.
use Rattle.std.proofs.Common.{◌≡◌, false, ◌⊎◌, inl, inr, List, [], ◌∷◌, ◌++◌, ap, sym, subst, ◌∙◌, append-nil, append_assoc}
use Rattle.std.specs.Prelude.{Contains}
use Rattle.std.proofs.lemmas.Bool.{cases_Bool, or_right, or_from}
use Rattle.std.proofs.lemmas.List.Elements.{Contains-append_left, Contains-append_cases}
use Rattle.context_diff.specs.Operations.{OpData, member_of}
use Rattle.context_diff.specs.Histories.{is_known, IsNext, IsValid, Agree}
use Rattle.context_diff.proofs.CallerLemmas.{by_pushes, complete, next_elsewhere, valid_parts, valid_push}
use Rattle.peer_exchange.specs.Joins.{unseen, joined, LackedOperationsAreNext}
use Rattle.peer_exchange.proofs.Unseen.{unseen_old, unseen_new, unseen_contains, known_joined}

-- what the join has is one of the two
pub joined_cases : (h p : List OpData) (o : OpData) → Contains (joined h p) o → Contains h o ⊎ Contains p o
joined_cases h p o at =
    elim (Contains-append_cases h (unseen (is_known h) p) o at) [
      | inl old ↦ inl old
      | inr new ↦ inr (unseen_contains (is_known h) p o new)
    ]

pub agree_front : (h q : List OpData) (o : OpData) → Agree h (q ++ o ∷ []) → Agree h q
agree_front h q o agree x y n at bt = agree x y n at (Contains-append_left q (o ∷ []) y bt)

-- the join agrees with the second
pub joined_agrees : (h q : List OpData) → IsValid q → Agree h q → Agree (joined h q) q
joined_agrees h q w agree x y n at bt is js =
    elim (joined_cases h q x at) [
      | inl old ↦ agree x y n old bt is js
      | inr new ↦ (complete q w).one x y new bt (is ∙ sym js)
    ]

-- what is next in the second, and lacking in the first, is next in the join so far
next_in_join : (h q : List OpData) (o : OpData) → IsValid q → Agree h q → IsValid (joined h q) → IsNext q o
    → is_known h (member_of o) ≡ false → IsNext (joined h q) o
next_in_join h q o w agree v next new =
    next_elsewhere (joined h q) q o v w (joined_agrees h q w agree)
    (λ m e. known_joined h q m ∙ or_right (is_known h m) (is_known q m) (next.ready m e))
    (known_joined h q (member_of o) ∙ or_from (is_known h (member_of o)) (is_known q (member_of o)) new next.new)
    next

join_push : (h q : List OpData) (o : OpData) → IsValid q → Agree h q → IsValid (joined h q) → IsNext q o → IsValid (joined h (q ++ o ∷ []))
join_push h q o w agree v next =
    elim (cases_Bool (is_known h (member_of o))) [
      | inl seen ↦ subst IsValid (sym (ap (λ xs. h ++ xs) (unseen_old (is_known h) q o seen ∙ append-nil (unseen (is_known h) q)))) v
      | inr new ↦ subst IsValid (sym (ap (λ xs. h ++ xs) (unseen_new (is_known h) q o new)
          ∙ sym (append_assoc h (unseen (is_known h) q) (o ∷ [])))) (valid_push (joined h q) o v (next_in_join h q o w agree v next new))
    ]

pub joined_is_valid : (h p : List OpData) → IsValid h → IsValid p → Agree h p → IsValid (joined h p)
joined_is_valid h p v w agree =
    by_pushes (λ q. Agree h q → IsValid (joined h q))
    (λ agree'. subst IsValid (sym (append-nil h)) v)
    (λ q o valid was next agree'. join_push h q o valid (agree_front h q o agree') (was (agree_front h q o agree')) next) p w agree

pub lacked_operations_are_next : LackedOperationsAreNext
lacked_operations_are_next h p v w agree = (valid_parts h (unseen (is_known h) p) (joined_is_valid h p v w agree)).1
