-- What changes a state: an operation more, integrated or waiting; and that the cache stays while nothing is integrated.
use Rattle.std.proofs.Common.{◌≡◌, ◌≢◌, ℕ, Bool, true, false, inl, inr, List, [], ◌∷◌, ◌++◌, length, take, refl, sym, ap, subst, ◌∙◌, arith, length-append}
use Rattle.std.specs.Prelude.{Option, Some, Result, Ok, Err, Contains, IsSomeAnd, OnErr, if◌then◌else◌, slice_get}
use Rattle.std.specs.List.{list_any}
use Rattle.std.proofs.lemmas.Bool.{false_from_ne_true}
use Rattle.std.proofs.lemmas.List.{length-take}
use Rattle.std.proofs.lemmas.Option.{none-some}
use Rattle.std.proofs.Math.Seq.{take-length}
use Rattle.op_name.specs.declared.member.Member.{Member}
use Rattle.context_diff.specs.Operations.{OpData}
use Rattle.context_diff.specs.Ops.{op_eq}
use Rattle.site_answers.specs.declared.release.Release.{Release}
use Rattle.site_answers.specs.declared.verdict.Verdict.{Verdict}
use Rattle.site_answers.specs.declared.verdict.Verdict.TheVariants.{Waits, Integrated}
use Rattle.cot_site.specs.States.{State, Released, after_verdict, delivered, first_ready, judged, released, with_held, with_last, without_waiting}
use Rattle.cot_site.specs.Sites.{SiteData, AreKeptOrGone, IsAsBefore}
use Rattle.cot_site.specs.Code.Releasing.{IsReleasedInto}
use Rattle.cot_site.proofs.Cases.{same_any}
use Rattle.cot_site.proofs.Releases.{FirstAnswer, first_answer}
use Rattle.cot_site.proofs.Settling.{begins_on, release_history}
use Rattle.cot_site.proofs.Waiting.{release_is}

-- what holds after an error, of any answer
pub refused : {X E : Type 0} {P : Type 0} (r : Result X E) → P → OnErr r P
refused (Ok x) p = tt
refused (Err e) p = p

one_more : {A : Type 0} (xs : List A) (x : A) → xs ++ x ∷ [] ≢ xs
one_more xs x e = omega (arith, length-append xs (x ∷ []), ap length e)

integrated_longer : (s : State) (o : OpData) → with_last s o ≢ s
integrated_longer s o e = one_more s.history o (ap (λ (t : State). t.history) e)

-- an operation that didn't wait is one more that waits
pub held_longer : (s : State) (o : OpData) → ¬ Contains s.waiting o → with_held s o ≢ s
held_longer s o new e =
    let apart : list_any (op_eq o) s.waiting ≡ false =
    false_from_ne_true (list_any (op_eq o) s.waiting) (λ there. new ((same_any o s.waiting).0 there)) in
    one_more s.waiting o (ap (λ (b : Bool). if b then s.waiting else s.waiting ++ o ∷ []) (sym apart) ∙ ap (λ (t : State). t.waiting) e)

-- a delivery changes the state where the operation is integrated, and where it is held
pub integrating_changes : (s : State) (o : OpData) → judged s o ≡ Integrated → delivered s o ≢ s
integrating_changes s o is e = integrated_longer s o (ap (λ (v : Verdict). after_verdict v o s) (sym is) ∙ e)

pub holding_changes : (s : State) (o : OpData) (m : Member) → judged s o ≡ Waits m → with_held s o ≢ s → delivered s o ≢ s
holding_changes s o m is longer e = longer (ap (λ (v : Verdict). after_verdict v o s) (sym is) ∙ e)

-- the verdict of the release, where it is known of the first operation that is ready
pub first_integrates : (s : State) (i : ℕ) → first_ready s.history s.waiting ≡ Some i
    → ((o : OpData) → slice_get s.waiting i ≡ Some o → judged (without_waiting s i) o ≡ Integrated)
    → IsSomeAnd (released s) (λ r. r.verdict ≡ Integrated)
first_integrates s i first verdict = from (first_answer s.history s.waiting)
  where
    from : FirstAnswer s.history s.waiting (first_ready s.history s.waiting) → IsSomeAnd (released s) (λ r. r.verdict ≡ Integrated)
    from (inr (none, _)) = absurd (none-some i (sym none ∙ first))
    from (inl (j, some, found)) =
        let same : Some j ≡ Some i = sym some ∙ first in
        let ji : j ≡ i = cc in
        let at : slice_get s.waiting i ≡ Some found.op = ap (slice_get s.waiting) (sym ji) ∙ found.at in
        subst (λ (r : Option Released). IsSomeAnd r (λ (q : Released). q.verdict ≡ Integrated)) (sym (release_is s i found.op first at))
        (verdict found.op at)

-- a history that an integrated operation made longer isn't the old one
pub not_as_before : (s t u : State) (o : OpData) (i : ℕ) → t ≡ with_last s o → u ≡ without_waiting t i → u.history ≢ s.history
not_as_before s t u o i more taken same =
    one_more s.history o (sym (ap (λ (x : State). x.history) more) ∙ (sym (ap (λ (x : State). x.history) taken) ∙ same))

-- ---- the cache along releases

-- lists that begin with one another are the same
both_begin : {A : Type 0} (xs ys : List A) → take (length xs) ys ≡ xs → take (length ys) xs ≡ ys → xs ≡ ys
both_begin xs ys x y =
    let even : length xs ≡ length ys = omega (arith, length-take (length xs) ys, length-take (length ys) xs, ap length x, ap length y) in
    sym (take-length xs) ∙ (ap (λ n. take n xs) even ∙ y)

-- what was integrated stays so, and the entries of the cache stay where nothing more was
pub record KeepsCache (s t : SiteData) : Type 0 where
  pub history : take (length s.history) t.history ≡ s.history
  pub entries : t.history ≡ s.history → t.entries ≡ s.entries

pub cache_same : (s : SiteData) → KeepsCache s s
cache_same s = record { history = take-length s.history; entries = λ same. refl }

pub cache_on : (s t u : SiteData) → KeepsCache s t → take (length t.history) u.history ≡ t.history
    → (u.history ≡ t.history → u.entries ≡ t.entries) → KeepsCache s u
cache_on s t u kept later entries = record {
  history = begins_on s.history t.history u.history kept.history later;
  entries = λ same.
      let back : t.history ≡ s.history =
      both_begin t.history s.history (subst (λ (h : List OpData). take (length t.history) h ≡ t.history) same later) kept.history in
      entries (same ∙ sym back) ∙ kept.entries back;
}

pub cache_stopped : (s t u : SiteData) → KeepsCache s t → IsAsBefore t u → u.history ≡ s.history → AreKeptOrGone s.entries u.entries
cache_stopped s t u kept (state, forms, inl stays) same = inl (stays ∙ kept.entries (sym (ap (λ (x : State). x.history) state) ∙ same))
cache_stopped s t u kept (state, forms, inr gone) same = inr gone

pub into_later : (now next : State) (old new : List Release) (more : Bool) → IsReleasedInto now next old new more
    → take (length now.history) next.history ≡ now.history
into_later now next old new true (r, is, after, listed) =
    ap (λ (t : State). take (length now.history) t.history) after ∙ release_history now r is
into_later now next old new false (none, same, listed) =
    ap (λ (t : State). take (length now.history) t.history) same ∙ take-length now.history
