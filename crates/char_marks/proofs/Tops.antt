-- The last mark so far, and the last of all.
use Rattle.std.proofs.Common.{◌≡◌, ℕ, Bool, if◌then◌else◌, List, [], ◌∷◌, Option, Some, None, filter, option_map, inl, inr, refl, ap, sym, ◌∙◌}
use Rattle.std.specs.Prelude.{fold}
use Rattle.std.proofs.lemmas.Bool.{cases_Bool}
use Rattle.op_name.specs.NameData.{NameData}
use Rattle.context_diff.specs.Operations.{OpData}
use Rattle.context_diff.specs.Replays.{Cell}
use Rattle.char_marks.specs.declared.value.Kind.{Kind}
use Rattle.char_marks.specs.declared.reading.Top.{Top}
use Rattle.char_marks.specs.Marks.{MarkData, KeptData, is_before}
use Rattle.char_marks.specs.Values.{is_borne, later_of, marks_of, value_of}
use Rattle.char_marks.specs.Code.Tops.{top_of, next_top, top_with}

next_is : (b : Option MarkData) (m : MarkData) → next_top (option_map top_of b) m ≡ option_map top_of (later_of b m)
next_is None m = refl
next_is (Some k) m = elim (cases_Bool (is_before k m)) [ inl e ↦ rw e refl | inr e ↦ rw e refl ]

module _ (kind : Kind) (h : List OpData) (raised : List (NameData × ℕ)) (c : Cell) where
  abbrev with : Option Top → KeptData → Option Top
  with b k = top_with kind h raised c b k

  abbrev bears : MarkData → Bool
  bears m = is_borne kind h raised c m

  tops_from : (ks : List KeptData) (b : Option MarkData)
      → fold with (option_map top_of b) ks ≡ option_map top_of (fold later_of b (filter bears (marks_of ks)))
  tops_from [] b = refl
  tops_from (k ∷ ks) b = elim (cases_Bool (bears k.mark)) [
    | inl hit ↦
        ap (λ (t : Option Top). fold with t ks)
        (ap (λ (x : Bool). if x then next_top (option_map top_of b) k.mark else option_map top_of b) hit ∙ next_is b k.mark)
        ∙ (tops_from ks (later_of b k.mark)
        ∙ ap (λ (x : Bool). option_map top_of
        (fold later_of b (if x then k.mark ∷ filter bears (marks_of ks) else filter bears (marks_of ks))))
        (sym hit))
    | inr miss ↦
        ap (λ (t : Option Top). fold with t ks)
        (ap (λ (x : Bool). if x then next_top (option_map top_of b) k.mark else option_map top_of b) miss)
        ∙ (tops_from ks b
        ∙ ap (λ (x : Bool). option_map top_of
        (fold later_of b (if x then k.mark ∷ filter bears (marks_of ks) else filter bears (marks_of ks))))
        (sym miss))
  ]

  value_kept : (m : Option MarkData) → option_map (λ (t : Top). t.value) (option_map top_of m) ≡ option_map (λ (x : MarkData). x.value) m
  value_kept None = refl
  value_kept (Some m) = refl

  -- the value of the last one is the cell's
  pub value_told : (ks : List KeptData) (t : Option Top) → t ≡ fold with None ks
      → option_map (λ (x : Top). x.value) t ≡ value_of kind h (record { kept = ks; raised = raised }) c
  value_told ks t is =
      ap (λ (o : Option Top). option_map (λ (x : Top). x.value) o) (is ∙ tops_from ks None)
      ∙ value_kept (fold later_of None (filter bears (marks_of ks)))
