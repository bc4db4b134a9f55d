-- The values of all cells, one after the other.
use Rattle.std.proofs.Common.{◌≡◌, ℕ, zero, suc, ◌+◌, ◌<◌, List, [], ◌∷◌, ◌++◌, Option, Some, None, length, map, get_or, slice_get, inl, inr, refl, ap, ap₂, sym, ◌∙◌, arith, length-append}
use Rattle.std.proofs.lemmas.Bool.{cases_lt}
use Rattle.context_diff.specs.Operations.{OpData}
use Rattle.context_diff.specs.Replays.{Cell, replay_of}
use Rattle.char_marks.specs.declared.value.Values.{Values}
use Rattle.char_marks.specs.declared.value.Kind.TheVariants.{Weight, Slope, Hue}
use Rattle.char_marks.specs.declared.reading.Top.{Top}
use Rattle.char_marks.specs.Marks.{MarksData}
use Rattle.char_marks.specs.Values.{is_bold, is_italic, colour_in, values_of}
use Rattle.char_marks.specs.Code.Painting.{ArePainted, AreTold, told}
use Rattle.char_marks.proofs.Painted.{within_list}
use Rattle.char_marks.proofs.Tops.{value_told}

abbrev Tops : Type 0
Tops = List (Option Top)

push_before : (vs : List Values) (v : Values) (j : ℕ) (d : Values) → j < length vs → get_or (vs ++ v ∷ []) j d ≡ get_or vs j d
push_before [] v j d lt = absurd (omega (arith, lt))
push_before (x ∷ xs) v zero d lt = refl
push_before (x ∷ xs) v (suc j) d lt = push_before xs v j d (omega (arith, lt))

push_last : (vs : List Values) (v : Values) (d : Values) → get_or (vs ++ v ∷ []) (length vs) d ≡ v
push_last [] v d = refl
push_last (x ∷ xs) v d = push_last xs v d

pub told_none : (ws ss hs : Tops) → AreTold ws ss hs 0 []
told_none ws ss hs = record { long = refl; each = λ j d lt. absurd (omega (arith, lt)) }

pub told_more : (ws ss hs : Tops) (i : ℕ) (old new : List Values) (w s h : Option Top) (v : Values) → AreTold ws ss hs i old
    → w ≡ get_or ws i None
    → s ≡ get_or ss i None
    → h ≡ get_or hs i None
    → v ≡ told w s h
    → new ≡ old ++ v ∷ []
    → AreTold ws ss hs (i + 1) new
told_more ws ss hs i old new w s h v was w_is s_is h_is v_is put = record {
  long = omega (arith, was.long, ap (λ (l : List Values). length l) put, length-append old (v ∷ []));
  each = each;
}
  where
    last : v ≡ told (get_or ws i None) (get_or ss i None) (get_or hs i None)
    last = v_is ∙ (λ k. told (w_is k) (s_is k) (h_is k))

    each : (j : ℕ) (d : Values) → j < i + 1 → get_or new j d ≡ told (get_or ws j None) (get_or ss j None) (get_or hs j None)
    each j d lt = ap (λ (l : List Values). get_or l j d) put ∙ elim (cases_lt j i) [
      | inl less ↦ push_before old v j d (omega (arith, less, was.long)) ∙ was.each j d less
      | inr past ↦
          let same : j ≡ length old = omega (arith, past, lt, was.long) in
          let here : j ≡ i = omega (arith, past, lt) in
          ap (λ (n : ℕ). get_or (old ++ v ∷ []) n d) same
          ∙ (push_last old v d
          ∙ (last ∙ ap (λ (n : ℕ). told (get_or ws n None) (get_or ss n None) (get_or hs n None)) (sym here)))
    ]

all_same : (vs : List Values) (cs : List Cell) (f : Cell → Values) → length vs ≡ length cs
    → ((j : ℕ) (c : Cell) (d : Values) → slice_get cs j ≡ Some c → get_or vs j d ≡ f c)
    → vs ≡ map f cs
all_same [] [] f size each = refl
all_same [] (c ∷ cs) f size each = absurd (omega (arith, size))
all_same (v ∷ vs) [] f size each = absurd (omega (arith, size))
all_same (v ∷ vs) (c ∷ cs) f size each =
    let rest = all_same vs cs f (omega (arith, size)) (λ j d e at. each (suc j) d e at) in
    ap₂ (λ (x : Values) (xs : List Values). x ∷ xs) (each 0 c v refl) rest

-- where the last marks of the kinds are those of all cells, so are the values
pub all_told : (h : List OpData) (s : MarksData) (ws ss hs : Tops) (vs : List Values) → ArePainted Weight h s.raised s.kept ws
    → ArePainted Slope h s.raised s.kept ss
    → ArePainted Hue h s.raised s.kept hs
    → AreTold ws ss hs (length ws) vs
    → vs ≡ map (values_of h s) (replay_of h)
all_told h s ws ss hs vs w l u are = all_same vs (replay_of h) (values_of h s) (are.long ∙ w.long) each
  where
    each : (j : ℕ) (c : Cell) (d : Values) → slice_get (replay_of h) j ≡ Some c → get_or vs j d ≡ values_of h s c
    each j c d at =
        let lt : j < length ws = omega (arith, within_list (replay_of h) j c at, w.long) in
        let bold = ap is_bold (value_told Weight h s.raised c s.kept (get_or ws j None) (w.each j c at)) in
        let italic = ap is_italic (value_told Slope h s.raised c s.kept (get_or ss j None) (l.each j c at)) in
        let colour = ap colour_in (value_told Hue h s.raised c s.kept (get_or hs j None) (u.each j c at)) in
        are.each j d lt ∙ (λ k. record { bold = bold k; italic = italic k; colour = colour k })
