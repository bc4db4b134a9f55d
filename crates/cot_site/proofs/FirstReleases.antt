-- Releases in words: the first operation that is ready, with its verdict.
use Rattle.std.proofs.Common.{◌≡◌, ◌↔◌, ℕ, true, false, inl, inr, refl, ap, sym, subst, ◌∙◌, arith}
use Rattle.std.specs.Prelude.{List, Some, Contains, remove, slice_get, option_map}
use Rattle.std.specs.Bool.{Decides}
use Rattle.std.specs.Option.{is_none}
use Rattle.std.proofs.lemmas.Bool.{cases_lt, or_cases, or_left, or_right, true≢false, false_from_ne_true}
use Rattle.std.proofs.lemmas.Option.{none-some}
use Rattle.context_diff.specs.Operations.{OpData, member_of, context_of, IsWellFormed}
use Rattle.context_diff.specs.Histories.{is_known, IsValid}
use Rattle.context_diff.proofs.CallerLemmas.{complete}
use Rattle.site_answers.specs.declared.verdict.Verdict.{Verdict}
use Rattle.cot_site.specs.Verdicts.{lacked}
use Rattle.cot_site.specs.States.{State, Released, is_ready, first_ready, judged, delivered, after_verdict, without_waiting, delivered_again, released_at, released, IsSettled, IsReady, IsFirstRelease, NoneIsReady}
use Rattle.cot_site.specs.Releases.{IsSound}
use Rattle.cot_site.proofs.Lacking.{nothing_lacked, lacked_none}
use Rattle.cot_site.proofs.Verdicts.{formed_context, verdict_holds, verdict_only}
use Rattle.cot_site.proofs.Releases.{FirstAnswer, IsFirstAt, first_answer, settled_none}
use Rattle.cot_site.proofs.Waiting.{got_there, release_is}
use Rattle.cot_site.proofs.Covers.{none_true}

pub words_ready : (h : List OpData) (o : OpData) → IsValid h → IsWellFormed o → Decides (is_ready h o) (IsReady h o)
words_ready h o valid formed = (forth, back)
  where
    forth : is_ready h o ≡ true → IsReady h o
    forth e =
        elim (or_cases (is_known h (member_of o)) (is_none (lacked h (context_of o))) e) [
          | inl known ↦ inl known
          | inr there ↦ inr (nothing_lacked h (complete h valid) (context_of o) (formed_context o formed)
              (none_true (lacked h (context_of o)) there))
        ]

    back : IsReady h o → is_ready h o ≡ true
    back (inl known) = or_left (is_known h (member_of o)) (is_none (lacked h (context_of o))) known
    back (inr all) =
        or_right (is_known h (member_of o)) (is_none (lacked h (context_of o)))
        (ap (λ r. is_none r) (lacked_none h (complete h valid) (context_of o) (formed_context o formed) all))

module _ (s : State) (sound : IsSound s) where
  ready_so : (o : OpData) → Contains s.waiting o → is_ready s.history o ≡ true → IsReady s.history o
  ready_so o there e = (words_ready s.history o sound.history (sound.waiting o there)).0 e

  ready_not : (o : OpData) → Contains s.waiting o → is_ready s.history o ≡ false → ¬ IsReady s.history o
  ready_not o there isnt ready = true≢false (sym ((words_ready s.history o sound.history (sound.waiting o there)).1 ready) ∙ isnt)

  pub none_is_ready : IsSettled s ↔ NoneIsReady s
  none_is_ready = (
    λ settles o there. ready_not o there ((settled_none s).0 settles o there),
    λ none. (settled_none s).1 (λ o there. not_so o there (none o there)),
  )
    where
      not_so : (o : OpData) → Contains s.waiting o → ¬ IsReady s.history o → is_ready s.history o ≡ false
      not_so o there isnt = false_from_ne_true (is_ready s.history o) (λ e. isnt (ready_so o there e))

  -- the place in words is the one that is found
  same_place : (i : ℕ) (r : Released) → IsFirstAt s.history s.waiting i → (w : IsFirstRelease s r) → i ≡ w.place
  same_place i r found w =
      elim (cases_lt i w.place) [
        | inl less ↦ absurd (w.first i found.op less found.at (ready_so found.op found.there found.ready))
        | inr from ↦
            elim (cases_lt w.place i) [
              | inl less ↦ absurd (ready_not r.op (got_there s.waiting w.place r.op w.there) (found.first w.place r.op less w.there)
                  w.ready)
              | inr back ↦ omega arith
            ]
      ]

  first_found : (r : Released) → (w : IsFirstRelease s r) → FirstAnswer s.history s.waiting (first_ready s.history s.waiting)
      → first_ready s.history s.waiting ≡ Some w.place
  first_found r w (inl (i, is, found)) = is ∙ ap (λ k. Some k) (same_place i r found w)
  first_found r w (inr (is, none)) =
      let there = got_there s.waiting w.place r.op w.there in
      absurd (ready_not r.op there (none r.op there) w.ready)

  words_released : (r : Released) → IsFirstRelease s r → released s ≡ Some r
  words_released r w =
      let rest = without_waiting s w.place in
      let there = got_there s.waiting w.place r.op w.there in
      let verdict : r.verdict ≡ judged rest r.op =
      verdict_only s.history (remove s.waiting w.place) sound.history r.op (sound.waiting r.op there) r.verdict w.verdict in
      let after : r.after ≡ delivered rest r.op = w.after ∙ ap (λ v. after_verdict v r.op rest) verdict in
      let same : delivered_again rest r.op ≡ r =
      sym (ap (λ (v : Verdict). record { op = r.op; verdict = v; after = r.after }) verdict
      ∙ ap (λ (t : State). record { op = r.op; verdict = judged rest r.op; after = t }) after) in
      release_is s w.place r.op (first_found r w (first_answer s.history s.waiting)) w.there ∙ ap (λ x. Some x) same

  at_place : (i : ℕ) → IsFirstAt s.history s.waiting i → (o : OpData) → slice_get s.waiting i ≡ Some o → Contains s.waiting o
      → is_ready s.history o ≡ true → IsFirstRelease s (delivered_again (without_waiting s i) o)
  at_place i found o at there ready = record {
    place = i;
    there = at;
    ready = ready_so o there ready;
    first = λ j p less before. ready_not p (got_there s.waiting j p before) (found.first j p less before);
    verdict = verdict_holds s.history (remove s.waiting i) sound.history o (sound.waiting o there);
    after = refl;
  }

  released_words : (r : Released) → released s ≡ Some r → FirstAnswer s.history s.waiting (first_ready s.history s.waiting)
      → IsFirstRelease s r
  released_words r is (inr (none, _)) = absurd (none-some r (sym (ap (released_at s) none) ∙ is))
  released_words r is (inl (i, some, found)) =
      let whole : Some (delivered_again (without_waiting s i) found.op) ≡ Some r =
      sym (ap (released_at s) some ∙ ap (option_map (delivered_again (without_waiting s i))) found.at) ∙ is in
      let same : delivered_again (without_waiting s i) found.op ≡ r = cc in
      subst (IsFirstRelease s) same (at_place i found found.op found.at found.there found.ready)

  pub exact_release : (r : Released) → IsFirstRelease s r ↔ (released s ≡ Some r)
  exact_release r = (words_released r, λ is. released_words r is (first_answer s.history s.waiting))
