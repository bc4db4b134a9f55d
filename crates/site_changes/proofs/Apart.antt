-- No cell stands twice in the replay of a history, and each is of one of its originals.
use Rattle.std.proofs.Common.{◌≡◌, ◌≢◌, ℕ, zero, suc, ◌≤◌, Bool, true, List, [], ◌∷◌, ◌⊎◌, inl, inr, refl, sym, ap, ◌∙◌, subst, arith, append-nil}
use Rattle.op_name.specs.NameData.{NameData}
use Rattle.op_name.specs.declared.member.Member.{Member}
use Rattle.op_name.specs.declared.member.Member.TheVariants.{Original}
use Rattle.context_diff.specs.Operations.{OpData}
use Rattle.context_diff.specs.Histories.{is_known, members_in, IsValid}
use Rattle.context_diff.specs.Replays.{Cell, replay_of}
use Rattle.context_diff.proofs.CallerLemmas.{in_known}
use Rattle.ttf_form.specs.declared.form.Form.{Form}
use Rattle.ttf_form.specs.declared.form.Form.TheVariants.{Ins as Insert, Cover as Covered}
use Rattle.ttf_form.specs.Names.{LacksName, NewNames, block}
use Rattle.ttf_form.specs.Forms.{form_over, place_of, added_by}
use Rattle.ttf_form.specs.Cells.{CellData, cells_of, applied, put_in, FitsCells}
use Rattle.ttf_form.specs.Families.{IsIn}
use Rattle.ttf_form.specs.Laws.Cells.{kept_at}
use Rattle.transform_rec.specs.Sets.{none, plus}
use Rattle.transform_rec.specs.Lists.{AreApart}
use Rattle.transform_rec.specs.Family.{Family}
use Rattle.transform_rec.specs.Executing.{AreFormsFrom, Setting, executed}
use Rattle.transform_rec.specs.Histories.{family_in}
use Rattle.transform_rec.proofs.CallerLemmas.{At, computed_forms, empty_state, state_after, addable_fits, all_cases, in_cases}
use Rattle.undo_group.specs.BaseForms.{AreBaseForms, base_form}
use Rattle.undo_group.specs.Laws.Forms.{base_forms_hold}
use Rattle.fixed_replay.proofs.CallerLemmas.{setting_of, computed_executed, executed_replayed, not_both, valid_family, valid_own_names}

-- ---- lists in which none stands twice

in_put : {A : Type 0} (k : ℕ) (new xs : List A) (y : A) → IsIn y (put_in k new xs) → IsIn y new ⊎ IsIn y xs
in_put zero new xs y i = in_cases y new xs i
in_put (suc k) new [] y i = in_cases y new [] i
in_put (suc k) new (x ∷ xs) y (inl e) = inr (inl e)
in_put (suc k) new (x ∷ xs) y (inr i) = elim (in_put k new xs y i) [ inl j ↦ inl j | inr j ↦ inr (inr j) ]

apart_put : {A : Type 0} (k : ℕ) (new xs : List A) → AreApart new → AreApart xs → ((a : A) → IsIn a new → (x : A) → IsIn x xs → a ≢ x)
    → AreApart (put_in k new xs)
apart_put zero [] xs h g n = g
apart_put zero (a ∷ new) xs h g n = (
  λ y i. elim (in_cases y new xs i) [ inl j ↦ h.0 y j | inr j ↦ n a (inl refl) y j ],
  apart_put zero new xs h.1 g (λ b i. n b (inr i)),
)
apart_put (suc k) new [] h g n = subst AreApart (sym (append-nil new)) h
apart_put (suc k) new (x ∷ xs) h g n = (
  λ y i. elim (in_put k new xs y i) [ inl j ↦ (λ e. n y j x (inl refl) (sym e)) | inr j ↦ g.0 y j ],
  apart_put k new xs h g.1 (λ a i y j. n a i y (inr j)),
)

-- ---- cells of a form

block_above : (n : NameData) (first k : ℕ) (c : Cell) → IsIn c (block n first k) → first ≤ c.1
block_above n first zero c i = absurd i
block_above n first (suc k) c (inl e) = let at : c.1 ≡ first = ap (λ (d : Cell). d.1) e in omega arith
block_above n first (suc k) c (inr i) = omega (arith, block_above n (suc first) k c i)

block_apart : (n : NameData) (first k : ℕ) → AreApart (block n first k)
block_apart n first zero = tt
block_apart n first (suc k) = (
  λ c i e. let above = block_above n (suc first) k c i in let at : first ≡ c.1 = ap (λ (d : Cell). d.1) e in absurd (omega arith),
  block_apart n (suc first) k,
)

added_apart : (f : Form) → AreApart (added_by f)
added_apart (Insert a) = block_apart a.name 0 a.len
added_apart (Covered c) = tt

lacks_other : (cs : List Cell) (n : NameData) (c : Cell) → LacksName cs n → IsIn c cs → c.0 ≢ n
lacks_other [] n c l i = absurd i
lacks_other (d ∷ ds) n c l (inl e) = λ p. l.0 (ap (λ (x : Cell). x.0) (sym e) ∙ p)
lacks_other (d ∷ ds) n c l (inr i) = lacks_other ds n c l.1 i

new_other : (cs new : List Cell) → NewNames cs new → (a : Cell) → IsIn a new → (c : Cell) → IsIn c cs → a ≢ c
new_other cs [] h a i c j = absurd i
new_other cs (b ∷ new) h a (inl e) c j =
    λ p. lacks_other cs b.0 c h.0 j (ap (λ (x : Cell). x.0) (sym p ∙ e))
new_other cs (b ∷ new) h a (inr i) c j = new_other cs new h.1 a i c j

-- a form that fits puts no cell a second time
apart_applied : (s : List CellData) (f : Form) → AreApart (cells_of s) → FitsCells s f → AreApart (cells_of (applied s f))
apart_applied s f apart fits =
    subst AreApart (sym (kept_at s f))
    (apart_put (place_of f) (added_by f) (cells_of s) (added_apart f) apart (new_other (cells_of s) (added_by f) fits.1))

module _ (h : List OpData) (v : IsValid h) where
  abbrev forms : AreBaseForms h (base_form h)
  forms = base_forms_hold h v

  abbrev b : Family Form
  b = family_in h (base_form h)

  abbrev w : Setting Form (List CellData)
  w = setting_of b (valid_family h v (base_form h) forms) (valid_own_names h v (base_form h) forms)

  apart_executed : (ms : List Member) (C : Member → Bool) (s : List CellData) (fs : List Form) → At w C s
      → AreFormsFrom form_over b C ms fs → AreApart (cells_of s) → AreApart (cells_of (executed applied s fs))
  apart_executed [] C s [] st df apart = apart
  apart_executed [] C s (f ∷ fs) st df apart = absurd df
  apart_executed (m ∷ ms) C s [] st df apart = absurd df
  apart_executed (m ∷ ms) C s (f ∷ fs) st df apart =
      apart_executed ms (plus C m) (applied s f) fs (state_after w (m ∷ []) C s (f ∷ []) st (df.0, tt)) df.1
      (apart_applied s f apart (addable_fits w C s m f st df.0))

  abbrev fs : List Form
  fs = computed_forms form_over b (members_in h) none

  abbrev are : AreFormsFrom form_over b none (members_in h) fs
  are = computed_executed h v (base_form h) forms

  whole : cells_of (executed applied [] fs) ≡ replay_of h
  whole = (executed_replayed h v (base_form h) forms fs are).cells

  -- no cell stands twice
  pub replay_apart : AreApart (replay_of h)
  replay_apart = subst AreApart whole (apart_executed (members_in h) none [] fs (empty_state w [] refl) are tt)

  -- each cell is of an original of the history
  pub replay_known : (c : Cell) → IsIn c (replay_of h) → is_known h (Original c.0) ≡ true
  replay_known c i =
      let names = state_after w (members_in h) none [] fs (empty_state w [] refl) are in
      elim (all_cases (members_in h) none (Original c.0) (names.names c (subst (λ (cs : List Cell). IsIn c cs) (sym whole) i))) [
        | inl e ↦ not_both e refl
        | inr j ↦ in_known h (Original c.0) j
      ]
