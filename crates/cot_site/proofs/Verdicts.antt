-- The verdict that is computed is the one whose words hold.
use Rattle.std.proofs.Common.{◌≡◌, ◌↔◌, ℕ, ◌≤◌, Bool, true, false, ◌⊎◌, inl, inr, List, refl, ap, sym, subst, ◌∙◌, arith}
use Rattle.std.specs.Prelude.{Option, Some, None, Contains, nat_le, nat_lt, if◌then◌else◌}
use Rattle.std.specs.Bool.{Decides}
use Rattle.std.proofs.lemmas.Bool.{cases_Bool, true≢false, false≢true, false_from_ne_true}
use Rattle.std.proofs.lemmas.Bool.Decides.{nat_tests}
use Rattle.op_name.specs.NameData.{NameData}
use Rattle.op_name.specs.declared.member.Member.{Member}
use Rattle.op_name.specs.declared.member.Member.TheVariants.{Original, Group}
use Rattle.op_name.specs.Members.{target_of}
use Rattle.context_vector.specs.Contexts.{IsContext}
use Rattle.context_diff.specs.Operations.{OpData, inserting, deleting, undoing, member_of, context_of, is_original, IsWellFormed}
use Rattle.context_diff.specs.Histories.{is_known, generation_in, context_of_all, cells_in, LacksNothing, HasPlace, IsNext, IsValid}
use Rattle.context_diff.proofs.CallerLemmas.{complete, holder, known_member, generation_is, has_group, has_generation, op_eq_decides, original_name}
use Rattle.context_diff.specs.Books.{IsJudged}
use Rattle.context_diff.specs.Ops.{op_eq}
use Rattle.site_answers.specs.declared.verdict.Verdict.{Verdict}
use Rattle.site_answers.specs.declared.verdict.Verdict.TheVariants.{Repeat, Forged, Waits, NotClosed, PlaceOut, Integrated}
use Rattle.cot_site.specs.Verdicts.{is_repeat, is_forged, lacked, first_uncovered, placed_verdict, ready_verdict, waiting_verdict, verdict_of, IsRepeat, HasOther, IsNew, place_in, IsVerdict}
use Rattle.cot_site.proofs.Lacking.{nothing_lacked, lacked_none, first_lacked_is, lacked_some}
use Rattle.cot_site.proofs.Covers.{SiteAnswer, uncovered, none_closed, some_open}
use Rattle.cot_site.proofs.Cases.{repeat_decides, forged_decides, not_forged, forged_not}

-- ---- how the verdict computes

abbrev pub pick : Bool → Bool → Option Member → NameData → Verdict → Verdict
pick a b l n r = if a then Repeat else if b then Forged n else waiting_verdict l r

pub repeat_is : (h w : List OpData) (o : OpData) → is_repeat h o ≡ true → verdict_of h w o ≡ Repeat
repeat_is h w o e i = pick (e i) (is_forged h w o) (lacked h (context_of o)) (target_of (member_of o)) (ready_verdict h o)

pub forged_is : (h w : List OpData) (o : OpData) → is_repeat h o ≡ false → is_forged h w o ≡ true
    → verdict_of h w o ≡ Forged (target_of (member_of o))
forged_is h w o e f i = pick (e i) (f i) (lacked h (context_of o)) (target_of (member_of o)) (ready_verdict h o)

pub waits_is : (h w : List OpData) (o : OpData) (m : Member) → is_repeat h o ≡ false → is_forged h w o ≡ false
    → lacked h (context_of o) ≡ Some m → verdict_of h w o ≡ Waits m
waits_is h w o m e f l i = pick (e i) (f i) (l i) (target_of (member_of o)) (ready_verdict h o)

pub ready_is : (h w : List OpData) (o : OpData) → is_repeat h o ≡ false → is_forged h w o ≡ false → lacked h (context_of o) ≡ None
    → verdict_of h w o ≡ ready_verdict h o
ready_is h w o e f l i = pick (e i) (f i) (l i) (target_of (member_of o)) (ready_verdict h o)

pub waiting_is : (h w : List OpData) (o : OpData) → is_repeat h o ≡ false → is_forged h w o ≡ false
    → verdict_of h w o ≡ waiting_verdict (lacked h (context_of o)) (ready_verdict h o)
waiting_is h w o e f i = pick (e i) (f i) (lacked h (context_of o)) (target_of (member_of o)) (ready_verdict h o)

-- whether the place is among the cells of the context
abbrev pub fits : List OpData → OpData → Bool
fits h (inserting n p text c) = nat_le p (cells_in h c)
fits h (deleting n p c) = nat_lt p (cells_in h c)
fits h (undoing a t g c) = true

pub fits_decides : (h : List OpData) (o : OpData) → Decides (fits h o) (HasPlace h o)
fits_decides h (inserting n p text c) = (λ e. grind (arith, nat_tests), λ e. grind (arith, nat_tests))
fits_decides h (deleting n p c) = (λ e. grind (arith, nat_tests), λ e. grind (arith, nat_tests))
fits_decides h (undoing a t g c) = (λ e. tt, λ e. refl)

-- the first open site of an operation's own context
abbrev pub site_of : List OpData → OpData → Option ℕ
site_of h o = first_uncovered h (context_of o) (context_of o).counts

pub ready_open : (h : List OpData) (o : OpData) (s : ℕ) → is_original o ≡ true → site_of h o ≡ Some s → ready_verdict h o ≡ NotClosed s
ready_open h (inserting n p text c) s original e = λ i. placed_verdict (e i) (nat_le p (cells_in h c)) p (cells_in h c)
ready_open h (deleting n p c) s original e = λ i. placed_verdict (e i) (nat_lt p (cells_in h c)) p (cells_in h c)
ready_open h (undoing a t g c) s original e = absurd (false≢true original)

some_same : (p q : ℕ) → Some p ≡ Some q → p ≡ q
some_same p q e = cc

pub ready_out : (h : List OpData) (o : OpData) (p : ℕ) → site_of h o ≡ None → fits h o ≡ false → place_in o ≡ Some p
    → ready_verdict h o ≡ PlaceOut p (cells_in h (context_of o))
ready_out h (inserting n q text c) p e f at = λ i. placed_verdict (e i) (f i) (some_same q p at i) (cells_in h c)
ready_out h (deleting n q c) p e f at = λ i. placed_verdict (e i) (f i) (some_same q p at i) (cells_in h c)
ready_out h (undoing a t g c) p e f at = absurd (true≢false f)

pub ready_fine : (h : List OpData) (o : OpData) → (is_original o ≡ true → site_of h o ≡ None) → fits h o ≡ true
    → ready_verdict h o ≡ Integrated
ready_fine h (inserting n p text c) e f = λ i. placed_verdict (e refl i) (f i) p (cells_in h c)
ready_fine h (deleting n p c) e f = λ i. placed_verdict (e refl i) (f i) p (cells_in h c)
ready_fine h (undoing a t g c) e f = refl

-- ---- facts of well-formed operations

pub formed_context : (o : OpData) → IsWellFormed o → IsContext (context_of o)
formed_context (inserting n p text c) f = f.in_range.3
formed_context (deleting n p c) f = f.in_range.2
formed_context (undoing a t g c) f = f.in_range.4

-- of a context that is there and closed nothing is lacked, and no site is open
pub judged_covered : (h : List OpData) → IsValid h → (o : OpData) → IsWellFormed o → (n : ℕ) → IsJudged h (context_of o) n
    → first_uncovered h (context_of o) (context_of o).counts ≡ None
judged_covered h valid o formed n known =
    none_closed h (context_of o) (first_uncovered h (context_of o) (context_of o).counts)
    (uncovered h (complete h valid) (context_of o) known.ready (formed_context o formed).counts) known.closed

pub judged_ready : (h : List OpData) → IsValid h → (o : OpData) → IsWellFormed o → (n : ℕ) → IsJudged h (context_of o) n
    → lacked h (context_of o) ≡ None
judged_ready h valid o formed n known = lacked_none h (complete h valid) (context_of o) (formed_context o formed) known.ready

place_of_original : (o : OpData) → is_original o ≡ true → (p : ℕ) × (place_in o ≡ Some p)
place_of_original (inserting n p text c) e = (p, refl)
place_of_original (deleting n p c) e = (p, refl)
place_of_original (undoing a t g c) e = absurd (false≢true e)

undo_fits : (h : List OpData) (o : OpData) → is_original o ≡ false → fits h o ≡ true
undo_fits h (inserting n p text c) e = absurd (true≢false e)
undo_fits h (deleting n p c) e = absurd (true≢false e)
undo_fits h (undoing a t g c) e = refl

pub new_from : (h w : List OpData) (o : OpData) → is_repeat h o ≡ false → is_forged h w o ≡ false → IsNew h w o
new_from h w o e f = record {
  no_repeat = λ r. true≢false (sym ((repeat_decides h o).1 r) ∙ e);
  no_forgery = forged_not h w o f;
}

not_repeat : (h : List OpData) (o : OpData) → ¬ IsRepeat h o → is_repeat h o ≡ false
not_repeat h o isnt = false_from_ne_true (is_repeat h o) (λ e. isnt ((repeat_decides h o).0 e))

-- ---- the words of the verdict that is computed hold

module _ (h w : List OpData) (valid : IsValid h) (o : OpData) (formed : IsWellFormed o) where
  sites : LacksNothing h (context_of o) → SiteAnswer h (context_of o) (site_of h o)
  sites ready = uncovered h (complete h valid) (context_of o) ready (formed_context o formed).counts

  pub ready_holds : IsNew h w o → LacksNothing h (context_of o) → IsVerdict h w o (ready_verdict h o)
  ready_holds new ready =
      elim (cases_Bool (is_original o)) [
        | inr undo ↦
            let fine = ready_fine h o (λ original. absurd (true≢false (sym original ∙ undo))) (undo_fits h o undo) in
            subst (IsVerdict h w o) (sym fine)
            (new, ready, (λ original. absurd (true≢false (sym original ∙ undo))), (fits_decides h o).0 (undo_fits h o undo))
        | inl original ↦ elim (sites ready) [
          | inl (s, is, first) ↦ subst (IsVerdict h w o) (sym (ready_open h o s original is)) (new, ready, original, first)
          | inr (is, closed) ↦ elim (cases_Bool (fits h o)) [
            | inl so ↦ subst (IsVerdict h w o) (sym (ready_fine h o (λ _. is) so)) (new, ready, (λ _. closed), (fits_decides h o).0 so)
            | inr isnt ↦
                let at = place_of_original o original in
                let out : ¬ HasPlace h o = λ has_place. true≢false (sym ((fits_decides h o).1 has_place) ∙ isnt) in
                subst (IsVerdict h w o) (sym (ready_out h o at.0 is isnt at.1)) (new, ready, closed, out, at.1, refl)
          ]
        ]
      ]

  lacked_holds : IsNew h w o → is_repeat h o ≡ false → is_forged h w o ≡ false → (r : Option Member) → lacked h (context_of o) ≡ r
      → IsVerdict h w o (verdict_of h w o)
  lacked_holds new e f (Some m) l =
      subst (IsVerdict h w o) (sym (waits_is h w o m e f l))
      (new, first_lacked_is h (complete h valid) (context_of o) m (formed_context o formed) l)
  lacked_holds new e f None l =
      subst (IsVerdict h w o) (sym (ready_is h w o e f l))
      (ready_holds new (nothing_lacked h (complete h valid) (context_of o) (formed_context o formed) l))

  forged_holds : ¬ IsRepeat h o → is_repeat h o ≡ false → is_forged h w o ≡ true → IsVerdict h w o (verdict_of h w o)
  forged_holds isnt e f =
      elim (cases_Bool (is_original o)) [
        | inl original ↦
            let named = original_name o original in
            let name : Forged (target_of (member_of o)) ≡ Forged named.0 = ap (λ m. Forged (target_of m)) named.1 in
            subst (IsVerdict h w o) (sym (forged_is h w o e f ∙ name)) (isnt, (forged_decides h w o named.0 named.1).0 f)
        | inr undo ↦ absurd (never o undo f)
      ]
    where
      never : (p : OpData) → is_original p ≡ false → is_forged h w p ≡ true → ⊥
      never (inserting n p text c) u g = true≢false u
      never (deleting n p c) u g = true≢false u
      never (undoing a t k c) u g = false≢true g

  pub verdict_holds : IsVerdict h w o (verdict_of h w o)
  verdict_holds =
      elim (cases_Bool (is_repeat h o)) [
        | inl so ↦ subst (IsVerdict h w o) (sym (repeat_is h w o so)) ((repeat_decides h o).0 so)
        | inr isnt ↦
            let new_one : ¬ IsRepeat h o = λ r. true≢false (sym ((repeat_decides h o).1 r) ∙ isnt) in
            elim (cases_Bool (is_forged h w o)) [
              | inl forged ↦ forged_holds new_one isnt forged
              | inr honest ↦ lacked_holds (new_from h w o isnt honest) isnt honest (lacked h (context_of o)) refl
            ]
      ]

  -- ---- and no other verdict's words do

  all_there : IsNew h w o → LacksNothing h (context_of o) → verdict_of h w o ≡ ready_verdict h o
  all_there new ready =
      ready_is h w o (not_repeat h o new.no_repeat) (not_forged h w o new.no_forgery)
      (lacked_none h (complete h valid) (context_of o) (formed_context o formed) ready)

  pub verdict_only : (v : Verdict) → IsVerdict h w o v → v ≡ verdict_of h w o
  verdict_only Repeat is = sym (repeat_is h w o ((repeat_decides h o).1 is))
  verdict_only (Forged n) (isnt, forgery) =
      let name : Forged (target_of (member_of o)) ≡ Forged n = ap (λ m. Forged (target_of m)) forgery.name in
      sym (forged_is h w o (not_repeat h o isnt) ((forged_decides h w o n forgery.name).1 forgery) ∙ name)
  verdict_only (Waits m) (new, first) =
      sym (waits_is h w o m (not_repeat h o new.no_repeat) (not_forged h w o new.no_forgery)
      (lacked_some h (complete h valid) (context_of o) m (formed_context o formed) first))
  verdict_only (NotClosed s) (new, ready, original, first) =
      sym (all_there new ready ∙ ready_open h o s original (some_open h (context_of o) (site_of h o) s (sites ready) first))
  verdict_only (PlaceOut p k) (new, ready, closed, out, at, count) =
      let isnt : fits h o ≡ false = false_from_ne_true (fits h o) (λ so. out ((fits_decides h o).0 so)) in
      sym (all_there new ready ∙ (ready_out h o p (none_closed h (context_of o) (site_of h o) (sites ready) closed) isnt at
      ∙ ap (λ x. PlaceOut p x) (sym count)))
  verdict_only Integrated (new, ready, closed, placed) =
      sym (all_there new ready ∙ ready_fine h o (λ original. none_closed h (context_of o) (site_of h o) (sites ready) (closed original))
      ((fits_decides h o).1 placed))

-- ---- members and repeats

-- a group that the history has is at most the generation that it has reached, and the other way round
pub group_reached : (h : List OpData) → IsValid h → (t : NameData) (g : ℕ) → is_known h (Group t g) ≡ true → g ≤ generation_in h t
group_reached h valid t g known =
    let w = complete h valid in
    let there = has_generation (context_of_all h) t g (w.holds (Group t g) ∙ known) in
    omega (arith, there.1, generation_is h valid t)

pub reached_group : (h : List OpData) → IsValid h → (t : NameData) (g : ℕ) → 1 ≤ g → g ≤ generation_in h t → is_known h (Group t g) ≡ true
reached_group h valid t g least reached =
    let w = complete h valid in
    sym (w.holds (Group t g)) ∙ has_group (context_of_all h) t g least (omega (arith, reached, generation_is h valid t))

-- an operation whose member is known is a repeat, or there is another of its name
known_original : (h w : List OpData) (o : OpData) (n : NameData) → member_of o ≡ Original n → is_known h (member_of o) ≡ true → IsNew h w o
    → (Contains h o → IsRepeat h o) → ⊥
known_original h w o n is known new same_is =
    let held = holder h (member_of o) known in
    elim (cases_Bool (op_eq held.op o)) [
      | inl same ↦ new.no_repeat (same_is (subst (λ x. Contains h x) ((op_eq_decides held.op o).0 same) held.there))
      | inr other ↦
          new.no_forgery n (record {
            name = is;
            known = inl (record {
              other = held.op;
              there = held.there;
              same_name = held.is ∙ is;
              differs = λ same. true≢false (sym ((op_eq_decides held.op o).1 same) ∙ other);
            });
          })
    ]

pub new_unknown : (h w : List OpData) → IsValid h → (o : OpData) → IsNew h w o → is_known h (member_of o) ≡ true → ⊥
new_unknown h w valid (inserting n p text c) new known = known_original h w (inserting n p text c) n refl known new (λ at. at)
new_unknown h w valid (deleting n p c) new known = known_original h w (deleting n p c) n refl known new (λ at. at)
new_unknown h w valid (undoing a t g c) new known = new.no_repeat (group_reached h valid t g known)

pub unknown_no_repeat : (h : List OpData) → IsValid h → (o : OpData) → IsWellFormed o → is_known h (member_of o) ≡ false → ¬ IsRepeat h o
unknown_no_repeat h valid (inserting n p text c) f new at = true≢false (sym (known_member h (inserting n p text c) at) ∙ new)
unknown_no_repeat h valid (deleting n p c) f new at = true≢false (sym (known_member h (deleting n p c) at) ∙ new)
unknown_no_repeat h valid (undoing a t g c) f new reached = true≢false (sym (reached_group h valid t g f.in_range.2 reached) ∙ new)

-- ---- laws

pub verdicts_exact : (h w : List OpData) (o : OpData) (v : Verdict) → IsValid h → IsWellFormed o
    → IsVerdict h w o v ↔ (v ≡ verdict_of h w o)
verdicts_exact h w o v valid formed =
    (verdict_only h w valid o formed v, λ e. subst (IsVerdict h w o) (sym e) (verdict_holds h w valid o formed))

pub integrated_next : (h w : List OpData) (o : OpData) → IsValid h → IsWellFormed o → verdict_of h w o ≡ Integrated → IsNext h o
integrated_next h w o valid formed e =
    let is : IsVerdict h w o Integrated = subst (IsVerdict h w o) e (verdict_holds h w valid o formed) in
    record {
      formed = formed;
      new = false_from_ne_true (is_known h (member_of o)) (new_unknown h w valid o is.0);
      ready = is.1;
      closed = is.2;
      placed = is.3;
    }

pub integrated_alone : (h w : List OpData) (o : OpData) → IsValid h → IsWellFormed o → verdict_of h w o ≡ Integrated → (n : NameData)
    → member_of o ≡ Original n → ¬ HasOther w o n
integrated_alone h w o valid formed e n name other =
    let is : IsVerdict h w o Integrated = subst (IsVerdict h w o) e (verdict_holds h w valid o formed) in
    is.0.no_forgery n (record { name = name; known = inr other })

pub next_integrated : (h w : List OpData) (o : OpData) → IsValid h → IsWellFormed o → IsNext h o
    → ((n : NameData) → member_of o ≡ Original n → ¬ HasOther w o n) → verdict_of h w o ≡ Integrated
next_integrated h w o valid formed next alone =
    let new : IsNew h w o = record {
      no_repeat = unknown_no_repeat h valid o formed next.new;
      no_forgery = λ n forgery. no_other n forgery.name forgery.known;
    } in
    sym (verdict_only h w valid o formed Integrated (new, next.ready, next.closed, next.placed))
  where
    no_other : (n : NameData) → member_of o ≡ Original n → HasOther h o n ⊎ HasOther w o n → ⊥
    no_other n name (inl other) =
        true≢false (sym (known_member h other.other other.there) ∙ (ap (is_known h) (other.same_name ∙ sym name) ∙ next.new))
    no_other n name (inr other) = alone n name other
