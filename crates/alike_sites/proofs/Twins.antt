-- Alike sites take, release and show the same.
use Rattle.std.proofs.Common.{◌≡◌, ℕ, zero, suc, ◌<◌, ◌≤◌, Bool, inl, inr, List, [], ◌∷◌, ◌++◌, if◌then◌else◌, Option, Some, None, option_map, refl, ap, ap₂, sym, ◌∙◌, subst, subst₂, append_assoc, append-nil}
use Rattle.std.specs.Prelude.{Contains, ◌||◌, slice_get, remove}
use Rattle.std.specs.List.{list_any}
use Rattle.std.specs.Option.{is_none}
use Rattle.std.proofs.lemmas.Bool.{cases_Bool}
use Rattle.std.proofs.lemmas.List.Elements.{Contains-push_cases}
use Rattle.op_name.specs.declared.name.TheConstants.{SITES}
use Rattle.context_diff.specs.Operations.{OpData, member_of, context_of, IsWellFormed}
use Rattle.context_diff.specs.Histories.{IsValid, all_cells}
use Rattle.context_diff.specs.Ops.{op_eq}
use Rattle.context_diff.specs.declared.op.TheConstants.{PLACES}
use Rattle.ttf_form.specs.declared.form.Form.{Form}
use Rattle.context_diff.proofs.CallerLemmas.{contains_none, contains_cases, contains_here, contains_later}
use Rattle.site_answers.specs.declared.verdict.Verdict.{Verdict}
use Rattle.site_answers.specs.declared.verdict.Verdict.TheVariants.{Repeat, Forged, Waits, NotClosed, PlaceOut, Integrated}
use Rattle.flat_history.specs.Alike.{AreAlike, IsMadeAfter, AreMadeAfter, AreJudgedAlike}
use Rattle.flat_history.specs.Flat.{AreExecutedForms, flat_of}
use Rattle.flat_history.proofs.CallerLemmas.{flat_valid, flat_alike, both_valid, alike_on, judged_on}
use Rattle.cot_site.specs.Sites.{AllFormed}
use Rattle.cot_site.specs.Verdicts.{verdict_of, first_lacked}
use Rattle.cot_site.specs.States.{State, held, with_held, with_last, after_verdict, judged, delivered, is_ready, first_ready, without_waiting, delivered_again, released_at, released}
use Rattle.cot_site.specs.Releases.{IsSound}
use Rattle.cot_site.proofs.CallerLemmas.{formed_at, got_there, sound_delivered}
use Rattle.alike_sites.specs.Twins.{AreTwins, AreAlikeSites, IsOneRelease}
use Rattle.alike_sites.proofs.Verdicts.{one_verdict}

-- ---- lists of operations that were made after a history

none_after : (h : List OpData) → AreMadeAfter h []
none_after h o at = absurd (contains_none o at)

one_after : (h l : List OpData) (o : OpData) → AreMadeAfter h l → IsMadeAfter h o → AreMadeAfter h (l ++ o ∷ [])
one_after h l o after is x at =
    elim (Contains-push_cases l o x at) [ inl old ↦ after x old | inr now ↦ subst (IsMadeAfter h) now is ]

held_after : (h w : List OpData) (o : OpData) → AreMadeAfter h w → IsMadeAfter h o → AreMadeAfter h (held w o)
held_after h w o after is =
    elim (cases_Bool (list_any (op_eq o) w)) [
      | inl there ↦ subst (AreMadeAfter h) (sym (ap (λ (b : Bool). if b then w else w ++ o ∷ []) there)) after
      | inr new ↦ subst (AreMadeAfter h) (sym (ap (λ (b : Bool). if b then w else w ++ o ∷ []) new)) (one_after h w o after is)
    ]

left_in : (xs : List OpData) (i : ℕ) (x : OpData) → Contains (remove xs i) x → Contains xs x
left_in [] zero x c = absurd (contains_none x c)
left_in [] (suc i) x c = absurd (contains_none x c)
left_in (y ∷ ys) zero x c = contains_later y ys x c
left_in (y ∷ ys) (suc i) x c =
    elim (contains_cases y (remove ys i) x c) [
      | inl same ↦ subst (λ z. Contains (y ∷ ys) z) same (contains_here y ys)
      | inr later ↦ contains_later y ys x (left_in ys i x later)
    ]

-- ---- twins

twins_begin : (h k : List OpData) (number : ℕ)
    → AreTwins h k (record { number = number; history = h; waiting = [] }) (record { number = number; history = k; waiting = [] })
twins_begin h k number = record {
  later = [];
  number = refl;
  history = sym (append-nil h);
  other = sym (append-nil k);
  waiting = refl;
  made = none_after h;
  held = none_after h;
}

-- the site of a history and that of its flat one
pub flat_sites : (h : List OpData) (fs : List Form) (number : ℕ) → IsValid h → AreExecutedForms h fs → all_cells h ≤ PLACES
    → number < SITES
    → AreAlikeSites h (flat_of h fs) (record { number = number; history = h; waiting = [] })
    (record { number = number; history = flat_of h fs; waiting = [] })
flat_sites h fs number v df room low = record {
  history = v;
  other = flat_valid h fs v df room;
  alike = flat_alike h fs v df room;
  sound = record { number = low; history = v; waiting = λ o at. absurd (contains_none o at) };
  twins = twins_begin h (flat_of h fs) number;
}

twins_held : (h k : List OpData) (s t : State) (o : OpData) → AreTwins h k s t → IsMadeAfter h o
    → AreTwins h k (with_held s o) (with_held t o)
twins_held h k s t o w is = record {
  later = w.later;
  number = w.number;
  history = w.history;
  other = w.other;
  waiting = ap (λ (ws : List OpData). held ws o) w.waiting;
  made = w.made;
  held = held_after h s.waiting o w.held is;
}

twins_last : (h k : List OpData) (s t : State) (o : OpData) → AreTwins h k s t → IsMadeAfter h o
    → AreTwins h k (with_last s o) (with_last t o)
twins_last h k s t o w is = record {
  later = w.later ++ o ∷ [];
  number = w.number;
  history = ap (λ (os : List OpData). os ++ o ∷ []) w.history ∙ append_assoc h w.later (o ∷ []);
  other = ap (λ (os : List OpData). os ++ o ∷ []) w.other ∙ append_assoc k w.later (o ∷ []);
  waiting = w.waiting;
  made = one_after h w.later o w.made is;
  held = w.held;
}

twins_after : (h k : List OpData) (v : Verdict) (o : OpData) (s t : State) → AreTwins h k s t → IsMadeAfter h o
    → AreTwins h k (after_verdict v o s) (after_verdict v o t)
twins_after h k Repeat o s t w is = w
twins_after h k (Forged n) o s t w is = w
twins_after h k (Waits m) o s t w is = twins_held h k s t o w is
twins_after h k (NotClosed r) o s t w is = w
twins_after h k (PlaceOut p n) o s t w is = w
twins_after h k Integrated o s t w is = twins_last h k s t o w is

twins_without : (h k : List OpData) (s t : State) (i : ℕ) → AreTwins h k s t → AreTwins h k (without_waiting s i) (without_waiting t i)
twins_without h k s t i w = record {
  later = w.later;
  number = w.number;
  history = w.history;
  other = w.other;
  waiting = ap (λ (ws : List OpData). remove ws i) w.waiting;
  made = w.made;
  held = λ o at. w.held o (left_in s.waiting i o at);
}

-- ---- alike sites

module _ (h k : List OpData) (s t : State) (a : AreAlikeSites h k s t) where
  later_valid : IsValid (h ++ a.twins.later)
  later_valid = subst IsValid a.twins.history a.sound.history

  -- the histories are alike
  pub sites_alike : AreAlike s.history t.history
  sites_alike =
      subst₂ AreAlike (sym a.twins.history) (sym a.twins.other)
      (alike_on h k a.history a.other a.alike a.twins.later a.twins.made later_valid)

  other_valid : IsValid t.history
  other_valid = subst IsValid (sym a.twins.other) ((both_valid h k a.history a.other a.alike a.twins.later a.twins.made).0 later_valid)

  -- and the other state is sound
  pub other_sound : IsSound t
  other_sound = record {
    number = subst (λ (n : ℕ). n < SITES) a.twins.number a.sound.number;
    history = other_valid;
    waiting = subst AllFormed a.twins.waiting a.sound.waiting;
  }

  judged_there : (o : OpData) → IsMadeAfter h o → AreJudgedAlike s.history t.history o
  judged_there o is =
      subst₂ (λ (g q : List OpData). AreJudgedAlike g q o) (sym a.twins.history) (sym a.twins.other)
      (judged_on h k a.history a.other a.alike a.twins.later o is)

  -- one verdict
  pub judged_same : (o : OpData) → IsWellFormed o → IsMadeAfter h o → judged s o ≡ judged t o
  judged_same o formed is =
      one_verdict s.history t.history s.waiting o a.sound.history other_valid formed (judged_there o is)
      ∙ ap (λ (w : List OpData). verdict_of t.history w o) a.twins.waiting

  -- and they stay alike
  pub delivered_alike : (o : OpData) → IsWellFormed o → IsMadeAfter h o → AreAlikeSites h k (delivered s o) (delivered t o)
  delivered_alike o formed is = record {
    history = a.history;
    other = a.other;
    alike = a.alike;
    sound = sound_delivered s o a.sound formed;
    twins =
        subst (λ (v : Verdict). AreTwins h k (delivered s o) (after_verdict v o t)) (judged_same o formed is)
        (twins_after h k (judged s o) o s t a.twins is);
  }

  -- ---- releases

  ready_same : (o : OpData) → is_ready s.history o ≡ is_ready t.history o
  ready_same o =
      let known = sites_alike.members (member_of o) in
      let context = sites_alike.context in
      λ i. known i || is_none (first_lacked (context i) (context_of o))

  first_same : (w : List OpData) → first_ready s.history w ≡ first_ready t.history w
  first_same [] = refl
  first_same (o ∷ os) = ap₂ (λ (b : Bool) (r : Option ℕ). if b then Some 0 else option_map suc r) (ready_same o) (first_same os)

alike_without : (h k : List OpData) (s t : State) (i : ℕ) → AreAlikeSites h k s t
    → AreAlikeSites h k (without_waiting s i) (without_waiting t i)
alike_without h k s t i a = record {
  history = a.history;
  other = a.other;
  alike = a.alike;
  sound = record {
    number = a.sound.number;
    history = a.sound.history;
    waiting = λ o at. a.sound.waiting o (left_in s.waiting i o at);
  };
  twins = twins_without h k s t i a.twins;
}

module _ (h k : List OpData) (s t : State) (a : AreAlikeSites h k s t) where
  taken : (i : ℕ) (r : Option OpData) → slice_get s.waiting i ≡ r
      → IsOneRelease h k (option_map (delivered_again (without_waiting s i)) r) (option_map (delivered_again (without_waiting t i)) r)
  taken i None at = tt
  taken i (Some o) at =
      let formed = formed_at s.waiting i o a.sound.waiting at in
      let is = a.twins.held o (got_there s.waiting i o at) in
      let left = alike_without h k s t i a in (
        refl,
        judged_same h k (without_waiting s i) (without_waiting t i) left o formed is,
        delivered_alike h k (without_waiting s i) (without_waiting t i) left o formed is,
      )

  by_first : (f : Option ℕ) → IsOneRelease h k (released_at s f) (released_at t f)
  by_first None = tt
  by_first (Some i) =
      subst (λ (r : Option OpData). IsOneRelease h k (released_at s (Some i)) (option_map (delivered_again (without_waiting t i)) r))
      (ap (λ (w : List OpData). slice_get w i) a.twins.waiting) (taken i (slice_get s.waiting i) refl)

  pub one_release : IsOneRelease h k (released s) (released t)
  one_release =
      let first : first_ready s.history s.waiting ≡ first_ready t.history t.waiting =
      first_same h k s t a s.waiting ∙ ap (first_ready t.history) a.twins.waiting in
      subst (λ (f : Option ℕ). IsOneRelease h k (released s) (released_at t f)) first (by_first (first_ready s.history s.waiting))
