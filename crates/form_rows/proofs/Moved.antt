-- Places over executed forms: the place of any mark tells where what stands there goes.
use Rattle.std.proofs.Common.{◌≡◌, ℕ, suc, zero, ◌+◌, ◌*◌, ◌^◌, ◌<◌, ◌≤◌, List, [], ◌∷◌, ◌++◌, length, get_or, take, drop, inl, inr, refl, sym, ap, subst, ◌∙◌, arith}
use Rattle.std.specs.Prelude.{fold, min}
use Rattle.std.proofs.lemmas.Bool.{cases_lt}
use Rattle.std.proofs.lemmas.List.{drop_more, drop-drop, take-append-drop}
use Rattle.std.proofs.lemmas.List.Sums.{fold-append}
use Rattle.ttf_form.specs.declared.include.TheConstants.{CELLS}
use Rattle.ttf_form.specs.declared.ins.Ins.{Ins}
use Rattle.ttf_form.specs.declared.cover.Cover.{Cover}
use Rattle.ttf_form.specs.declared.cover.Mark.TheVariants.{Own}
use Rattle.ttf_form.specs.declared.form.Form.{Form}
use Rattle.ttf_form.specs.declared.form.Form.TheVariants.{Ins as Insert, Cover as Covered}
use Rattle.ttf_form.specs.Forms.{form_over, ins_extent, place_of, cover_over}
use Rattle.ttf_form.specs.Places.{cover_place}
use Rattle.ttf_form.specs.Laws.Places.{cover_less, cover_more}
use Rattle.form_rows.specs.declared.passages.TheConstants.{STRETCH}
use Rattle.form_rows.specs.RowSets.{form_after}
use Rattle.form_rows.specs.Stretches.{PassageData, moved_by, place_after, IsPassage, AreNoted}
use Rattle.form_rows.proofs.Thresholds.{drop_part, noted_at}

-- one insert

pub moves_behind : (p n : ℕ) (a : Ins) → a.place ≤ p → n ≡ ins_extent a → min (p + n) CELLS ≡ place_after p (Insert a)
moves_behind p n a le e =
    ap (λ (m : ℕ). min m CELLS) (ap (λ (m : ℕ). p + m) e ∙ sym (cover_more p a.place (ins_extent a) le))

pub stays_before : (p : ℕ) (a : Ins) → p < a.place → p ≤ CELLS → p ≡ place_after p (Insert a)
stays_before p a less fits =
    let most : p ≡ min p CELLS = omega arith in
    most ∙ ap (λ (m : ℕ). min m CELLS) (sym (cover_less p a.place (ins_extent a) less))

-- a place past the greatest one stays past it
capped : (p q n : ℕ) → min (cover_place (min p CELLS) q n) CELLS ≡ min (cover_place p q n) CELLS
capped p q n =
    elim (cases_lt CELLS p) [
      | inl past ↦
          let least : min p CELLS ≡ CELLS = omega arith in
          ap (λ (m : ℕ). min (cover_place m q n) CELLS) least ∙ (end CELLS (omega arith) ∙ sym (end p (omega (arith, past))))
      | inr within ↦
          let same : min p CELLS ≡ p = omega arith in
          ap (λ (m : ℕ). min (cover_place m q n) CELLS) same
    ]
  where
    end : (m : ℕ) → CELLS ≤ m → min (cover_place m q n) CELLS ≡ CELLS
    end m h = elim (cases_lt m q) [
      | inl less ↦ let e = cover_less m q n less in omega (arith, e, h)
      | inr more ↦ let e = cover_more m q n more in omega (arith, e, h)
    ]

-- many forms

-- what stands where a mark's cell stands goes with it
along_mark : (c : Cover) (fs : List Form)
    → fold place_after (min c.place CELLS) fs ≡ min (place_of (form_after form_over (Covered c) fs)) CELLS
along_mark c [] = refl
along_mark c (Insert a ∷ fs) =
    ap (λ (n : ℕ). fold place_after n fs) (capped c.place a.place (ins_extent a))
    ∙ along_mark (cover_over c a.place (ins_extent a)) fs
along_mark c (Covered k ∷ fs) = along_mark c fs

pub moved_over : (ts : PassageData) (fs : List Form) (p : ℕ) → IsPassage ts fs → p ≤ CELLS
    → fold place_after p fs ≡ min (p + moved_by p ts) CELLS
moved_over ts fs p h fits =
    let mark : Cover = record { place = p; mark = Own 0 } in
    let least : p ≡ min p CELLS = omega arith in
    ap (λ (n : ℕ). fold place_after n fs) least
    ∙ (along_mark mark fs ∙ ap (λ (f : Form). min (place_of f) CELLS) (h mark))

-- one form more
pub moved_next : (p : ℕ) (fs : List Form) (i : ℕ) (f : Form) → i < length fs → f ≡ get_or fs i f
    → fold place_after p (drop i fs) ≡ fold place_after (place_after p f) (drop (i + 1) fs)
moved_next p fs i f less is =
    ap (fold place_after p) (drop_more fs i f less)
    ∙ ap (λ (g : Form). fold place_after (place_after p g) (drop (i + 1) fs)) (sym is)

-- no form is left past the end
pub moved_end : (p : ℕ) (fs : List Form) (i : ℕ) → length fs ≤ i → fold place_after p (drop i fs) ≡ p
moved_end p [] zero past = refl
moved_end p [] (suc i) past = refl
moved_end p (f ∷ fs) zero past = absurd (omega (arith, past))
moved_end p (f ∷ fs) (suc i) past = moved_end p fs i (omega (arith, past))

-- the forms up to a place, and those from there on
pub moved_near : (p : ℕ) (fs : List Form) (i j : ℕ) → i ≤ j → j ≤ length fs
    → fold place_after (fold place_after p (drop i (take j fs))) (drop j fs) ≡ fold place_after p (drop i fs)
moved_near p fs i j order some =
    sym (fold-append place_after p (drop i (take j fs)) (drop j fs)) ∙ sym (ap (fold place_after p) (drop_part i j fs order some))

-- one stretch more
pub moved_stretch : (tss : List PassageData) (fs : List Form) (p i : ℕ) (ts : PassageData) → AreNoted tss fs → i < length tss
    → ts ≡ get_or tss i ts → p ≤ CELLS
    → fold place_after (min (p + moved_by p ts) CELLS) (drop (STRETCH * (i + 1)) fs) ≡ fold place_after p (drop (STRETCH * i) fs)
moved_stretch tss fs p i ts noted less is fits =
    let passage : IsPassage ts (take STRETCH (drop (STRETCH * i) fs)) =
    subst (λ (l : PassageData). IsPassage l (take STRETCH (drop (STRETCH * i) fs))) (sym is) (noted_at tss fs i ts noted less) in
    let e : STRETCH * i + STRETCH ≡ STRETCH * (i + 1) = omega arith in
    let behind : drop STRETCH (drop (STRETCH * i) fs) ≡ drop (STRETCH * (i + 1)) fs =
    drop-drop STRETCH (STRETCH * i) fs ∙ ap (λ (n : ℕ). drop n fs) e in
    ap (λ (n : ℕ). fold place_after n (drop (STRETCH * (i + 1)) fs))
    (sym (moved_over ts (take STRETCH (drop (STRETCH * i) fs)) p passage fits))
    ∙ (ap (fold place_after (fold place_after p (take STRETCH (drop (STRETCH * i) fs)))) (sym behind)
    ∙ (sym (fold-append place_after p (take STRETCH (drop (STRETCH * i) fs)) (drop STRETCH (drop (STRETCH * i) fs)))
    ∙ ap (fold place_after p) (take-append-drop STRETCH (drop (STRETCH * i) fs))))
