-- Executing derived forms: each of them fits the state that it meets, and the state after it has the cells that it should.
use Rattle.std.proofs.Common.{◌≡◌, ◌≢◌, ℕ, ◌+◌, Bool, true, false, List, [], ◌∷◌, ◌++◌, length, take, drop, inl, inr, refl, sym, ap, ap₂, subst, ◌∙◌}
use Rattle.std.proofs.lemmas.Bool.{both_ways}
use Rattle.op_name.specs.NameData.{NameData}
use Rattle.op_name.specs.declared.member.Member.{Member}
use Rattle.op_name.specs.declared.member.Member.TheVariants.{Original}
use Rattle.op_name.proofs.CallerLemmas.{member_itself, member_cases}
use Rattle.transform_rec.specs.Sets.{none, SameSet, plus, plus_all}
use Rattle.ttf_form.specs.Families.{IsIn}
use Rattle.transform_rec.specs.Lists.{AreApart}
use Rattle.transform_rec.specs.Family.{IsClosed}
use Rattle.transform_rec.specs.Derived.{Derived}
use Rattle.transform_rec.specs.Derived.Derived.{at_base, by_step}
use Rattle.ttf_form.specs.Names.{LacksName, NewNames}
use Rattle.transform_rec.specs.Executing.{Setting, deriving_of, IsCausalFrom, AreFormsFrom, executed, own, IsStateAt}
use Rattle.transform_rec.proofs.Lists.{in_cases, in_take, in_drop, length-put, sum_none}
use Rattle.transform_rec.proofs.Sets.{same_set, plus_here, plus_keeps}
use Rattle.transform_rec.proofs.Forms.{derived_sound, derived_bounded, weight_plus, list_forms}
use Rattle.transform_rec.proofs.CausalLists.{causal_moves, causal-append, causal_parts, causal_out, causal_listed, causal_apart, causal_closed}
use Rattle.transform_rec.proofs.Uniqueness.{derived_once}

-- ---- names of cells

pub lacks_in : (cs : List (NameData × ℕ)) (n : NameData) (c : NameData × ℕ) → LacksName cs n → IsIn c cs → c.0 ≢ n
lacks_in [] n c l i = absurd i
lacks_in (d ∷ cs) n c l (inl e) = λ p. l.0 (ap (λ (z : NameData × ℕ). z.0) (sym e) ∙ p)
lacks_in (d ∷ cs) n c l (inr i) = lacks_in cs n c l.1 i

pub lacks_all : (cs : List (NameData × ℕ)) (n : NameData) → ((c : NameData × ℕ) → IsIn c cs → c.0 ≢ n) → LacksName cs n
lacks_all [] n h = tt
lacks_all (c ∷ cs) n h = (h c (inl refl), lacks_all cs n (λ d i. h d (inr i)))

pub new_names : (cs new : List (NameData × ℕ)) → ((a : NameData × ℕ) → IsIn a new → (c : NameData × ℕ) → IsIn c cs → c.0 ≢ a.0)
    → NewNames cs new
new_names cs [] h = tt
new_names cs (a ∷ new) h = (lacks_all cs a.0 (h a (inl refl)), new_names cs new (λ d i. h d (inr i)))

module _ {F S : Type 0} (w : Setting F S) where
  abbrev pub IsForm : Member → (Member → Bool) → F → Type 0
  IsForm m C f = Derived w.table.inclusion.over w.family m C f

  abbrev pub Run : (Member → Bool) → List Member → Type 0
  Run C xs = IsCausalFrom w.family C xs

  abbrev pub Forms : (Member → Bool) → List Member → List F → Type 0
  Forms C xs fs = AreFormsFrom w.table.inclusion.over w.family C xs fs

  abbrev pub run : S → List F → S
  run s fs = executed w.table.apply s fs

  abbrev pub At : (Member → Bool) → S → Type 0
  At C s = IsStateAt w.table w.family C s

  -- ---- the cells that a form adds

  pub derived_added : (m : Member) (C : Member → Bool) (f : F) → IsForm m C f → w.table.added f ≡ w.table.added (w.family.form m)
  derived_added m C f (at_base i s e) = ap w.table.added e
  derived_added m C f (by_step D x g k i ne l s dg dk e) = ap w.table.added e ∙ (w.laws.added_over g k ∙ derived_added m D g dg)

  -- each cell that a form adds has the name of the form's member
  pub added_owner : (x : Member) (C : Member → Bool) (f : F) → IsForm x C f → (c : NameData × ℕ) → IsIn c (w.table.added f)
      → x ≡ Original c.0
  added_owner x C f df c i =
      let s = derived_sound (deriving_of w) x C f df in
      let j : IsIn c (w.table.added (w.family.form x)) = subst (λ (cs : List (NameData × ℕ)). IsIn c cs) (derived_added x C f df) i in
      elim (member_cases x (Original c.0))
      [ inl e ↦ e | inr ne ↦ absurd (lacks_in (w.table.added (w.family.form x)) c.0 c (w.own_names x c.0 s.listed ne) j refl) ]

  pub added_own : (x : Member) (C : Member → Bool) (f : F) → IsForm x C f → (c : NameData × ℕ) → IsIn c (w.table.added f) → own x c ≡ true
  added_own x C f df c i = subst (λ (z : Member). own z c ≡ true) (sym (added_owner x C f df c i)) (member_itself (Original c.0))

  -- ---- an addable form fits

  pub addable_fits : (C : Member → Bool) (s : S) (x : Member) (f : F) → At C s → IsForm x C f → w.table.Fits s f
  addable_fits C s x f st df =
      let sound = derived_sound (deriving_of w) x C f df in
      let bounded : w.table.inclusion.IsBounded f (length (w.table.cells s)) =
      subst (λ (n : ℕ). w.table.inclusion.IsBounded f n) (sym st.weighs) (derived_bounded (deriving_of w) x C f df) in
      w.laws.fits s f bounded (new_names (w.table.cells s) (w.table.added f) (λ a i c j. λ p.
      let is : x ≡ Original c.0 = added_owner x C f df a i ∙ ap Original (sym p) in
      both_ways (C x) sound.lacks (subst (λ (y : Member). C y ≡ true) (sym is) (st.names c j))))

  pub state_more : (C : Member → Bool) (s : S) (x : Member) (f : F) → At C s → IsForm x C f → At (plus C x) (w.table.apply s f)
  state_more C s x f st df =
      let cs = w.table.cells s in
      let put = w.laws.kept s f (addable_fits C s x f st df) in
      let p = put.at in
      let whole = put.is in
      let long : length (w.table.cells (w.table.apply s f)) ≡ length cs + length (w.table.added f) =
      ap length whole ∙ length-put p cs (w.table.added f) in
      let many = w.laws.added_length f in
      let more = weight_plus (deriving_of w) x C f df in
      let was = st.weighs in
      record {
        weighs = long ∙ (ap₂ (λ m n. m + n) was many ∙ sym more);
        names = λ c i.
            let j : IsIn c (take p cs ++ (w.table.added f ++ drop p cs)) = subst (λ (l : List (NameData × ℕ)). IsIn c l) whole i in
            elim (in_cases c (take p cs) (w.table.added f ++ drop p cs) j) [
              | inl a ↦ plus_keeps C x (Original c.0) (st.names c (in_take c p cs a))
              | inr a ↦
                  elim (in_cases c (w.table.added f) (drop p cs) a) [
                    | inl e ↦ subst (λ (y : Member). plus C x y ≡ true) (added_owner x C f df c e) (plus_here C x)
                    | inr e ↦
                        plus_keeps C x (Original c.0) (st.names c (in_drop c p cs e))
                  ]
            ];
      }

  -- a state without cells is a state at the empty set
  pub empty_state : (s : S) → w.table.cells s ≡ [] → At none s
  empty_state s e = record {
    weighs = ap length e ∙ sym (sum_none (λ (x : Member). w.table.inclusion.extent (w.family.form x)) w.family.members);
    names = λ c i. absurd (subst (λ (l : List (NameData × ℕ)). IsIn c l) e i);
  }

  -- ---- lists of members and their forms

  pub run_moves : (C D : Member → Bool) (xs : List Member) → SameSet C D → Run C xs → Run D xs
  run_moves C D xs h r = causal_moves w.family C D xs h r

  pub forms_move : (C D : Member → Bool) (xs : List Member) (fs : List F) → SameSet C D → Forms C xs fs → Forms D xs fs
  forms_move C D xs fs h r = subst (λ (E : Member → Bool). Forms E xs fs) (same_set C D h) r

  -- each causal list has its forms
  pub run_forms : (xs : List Member) (C : Member → Bool) → Run C xs → (fs : List F) × Forms C xs fs
  run_forms xs C r = list_forms (deriving_of w) xs C r

  -- and they are the only ones
  pub forms_once : (xs : List Member) (C : Member → Bool) (fs gs : List F) → Forms C xs fs → Forms C xs gs → fs ≡ gs
  forms_once [] C [] [] df dg = refl
  forms_once [] C [] (g ∷ gs) df dg = absurd dg
  forms_once [] C (f ∷ fs) gs df dg = absurd df
  forms_once (x ∷ xs) C [] gs df dg = absurd df
  forms_once (x ∷ xs) C (f ∷ fs) [] df dg = absurd dg
  forms_once (x ∷ xs) C (f ∷ fs) (g ∷ gs) df dg =
      ap₂ (λ h hs. h ∷ hs) (derived_once (deriving_of w) x C f g df.0 dg.0) (forms_once xs (plus C x) fs gs df.1 dg.1)

  -- the forms of a longer list begin with those of its front
  pub forms_begin : (xs ys : List Member) (C : Member → Bool) (fs gs : List F) → Forms C xs fs → Forms C (xs ++ ys) gs
      → take (length fs) gs ≡ fs
  forms_begin [] ys C [] gs df dg = refl
  forms_begin [] ys C (f ∷ fs) gs df dg = absurd df
  forms_begin (x ∷ xs) ys C [] gs df dg = absurd df
  forms_begin (x ∷ xs) ys C (f ∷ fs) [] df dg = absurd dg
  forms_begin (x ∷ xs) ys C (f ∷ fs) (g ∷ gs) df dg =
      ap₂ (λ h hs. h ∷ hs) (derived_once (deriving_of w) x C g f dg.0 df.0) (forms_begin xs ys (plus C x) fs gs df.1 dg.1)

  -- a list with forms is causal
  pub forms_run : (xs : List Member) (C : Member → Bool) (fs : List F) → Forms C xs fs → Run C xs
  forms_run [] C fs df = tt
  forms_run (x ∷ xs) C [] df = absurd df
  forms_run (x ∷ xs) C (f ∷ fs) df = (derived_sound (deriving_of w) x C f df.0, forms_run xs (plus C x) fs df.1)

  pub state_after : (xs : List Member) (C : Member → Bool) (s : S) (fs : List F) → At C s → Forms C xs fs → At (plus_all C xs) (run s fs)
  state_after [] C s [] st df = st
  state_after [] C s (f ∷ fs) st df = absurd df
  state_after (x ∷ xs) C s [] st df = absurd df
  state_after (x ∷ xs) C s (f ∷ fs) st df = state_after xs (plus C x) (w.table.apply s f) fs (state_more C s x f st df.0) df.1

  pub run-append : (xs ys : List Member) (C : Member → Bool) → Run C xs → Run (plus_all C xs) ys → Run C (xs ++ ys)
  run-append xs ys C r q = causal-append w.family xs ys C r q

  pub run_parts : (xs ys : List Member) (C : Member → Bool) → Run C (xs ++ ys) → Run C xs × Run (plus_all C xs) ys
  run_parts xs ys C r = causal_parts w.family xs ys C r

  pub forms-append : (xs ys : List Member) (C : Member → Bool) (fs gs : List F) → Forms C xs fs → Forms (plus_all C xs) ys gs
      → Forms C (xs ++ ys) (fs ++ gs)
  forms-append [] ys C [] gs df dg = dg
  forms-append [] ys C (f ∷ fs) gs df dg = absurd df
  forms-append (x ∷ xs) ys C [] gs df dg = absurd df
  forms-append (x ∷ xs) ys C (f ∷ fs) gs df dg = (df.0, forms-append xs ys (plus C x) fs gs df.1 dg)

  pub run_append : (s : S) (fs gs : List F) → run s (fs ++ gs) ≡ run (run s fs) gs
  run_append s [] gs = refl
  run_append s (f ∷ fs) gs = run_append (w.table.apply s f) fs gs

  pub run_out : (xs : List Member) (C : Member → Bool) (z : Member) → Run C xs → IsIn z xs → C z ≡ false
  run_out xs C z r i = causal_out w.family xs C z r i

  pub run_listed : (xs : List Member) (C : Member → Bool) (z : Member) → Run C xs → IsIn z xs → IsIn z w.family.members
  run_listed xs C z r i = causal_listed w.family xs C z r i

  pub run_apart : (xs : List Member) (C : Member → Bool) → Run C xs → AreApart xs
  run_apart xs C r = causal_apart w.family xs C r

  pub run_closed : (xs : List Member) (C : Member → Bool) → IsClosed w.family C → Run C xs → IsClosed w.family (plus_all C xs)
  run_closed xs C c r = causal_closed w.family xs C c r
