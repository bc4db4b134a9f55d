-- The first site whose last original isn't covered.
use Rattle.std.proofs.Common.{◌≡◌, ℕ, suc, ◌+◌, ◌<◌, true, ◌⊎◌, inl, inr, List, [], ◌∷◌, length, refl, ap, sym, subst, ◌∙◌, arith}
use Rattle.std.specs.Prelude.{Option, Some, None, slice_get}
use Rattle.std.specs.Option.{is_none}
use Rattle.std.specs.Bool.{Decides}
use Rattle.std.proofs.lemmas.Bool.{cases_Bool, cases_lt, cond-true, cond-false, false≢true}
use Rattle.op_name.specs.NameData.{NameData}
use Rattle.op_name.specs.declared.member.Member.{Member}
use Rattle.op_name.specs.declared.member.Member.TheVariants.{Original}
use Rattle.context_vector.specs.Contexts.{ContextData, AreCounts, Within}
use Rattle.context_diff.specs.Operations.{OpData}
use Rattle.context_diff.specs.Histories.{is_known, LacksNothing, IsClosed}
use Rattle.context_diff.specs.Bases.{original_context}
use Rattle.context_diff.specs.Books.{IsFirstOpenSite}
use Rattle.context_diff.proofs.CallerLemmas.{IsComplete, original_facts, named_known, all_covered, covered_below, not_covered}
use Rattle.cot_site.specs.Verdicts.{first_lacked, is_covered, first_uncovered}
use Rattle.cot_site.proofs.Lacking.{lacking, answer_none, none_within}

pub none_true : (r : Option Member) → is_none r ≡ true → r ≡ None
none_true None e = refl
none_true (Some m) e = absurd (false≢true e)

pub covered_decides : (h : List OpData) → IsComplete h → (c : ContextData) (n : NameData) → is_known h (Original n) ≡ true
    → Decides (is_covered h c n) (Within (original_context h n) c)
covered_decides h w c n known =
    let d = original_context h n in
    let answer = lacking c d (original_facts h w n known).form in (
      λ e. answer_none c d (first_lacked c d) answer (none_true (first_lacked c d) e),
      λ within. ap (λ r. is_none r) (none_within c d (first_lacked c d) answer within),
    )

-- the name of the last original of a site that counts tell
abbrev pub last_of : ℕ × ℕ → NameData
last_of p = record { site = p.0; number = p.1 }

-- the answer: a first open site, or the context is closed
abbrev pub SiteAnswer : List OpData → ContextData → Option ℕ → Type 0
SiteAnswer h v r = ((s : ℕ) × (r ≡ Some s) × IsFirstOpenSite h v s) ⊎ ((r ≡ None) × IsClosed h v)

module _ (h : List OpData) (w : IsComplete h) (v : ContextData) (ready : LacksNothing h v) (are : AreCounts 0 v.counts) where
  -- the first yes many are covered
  abbrev pub DoneTo : ℕ → Type 0
  DoneTo i = (j : ℕ) (p : ℕ × ℕ) → j < i → slice_get v.counts j ≡ Some p → Within (original_context h (last_of p)) v

  done_more : (i : ℕ) (p : ℕ × ℕ) → slice_get v.counts i ≡ Some p → Within (original_context h (last_of p)) v → DoneTo i → DoneTo (suc i)
  done_more i p at within done j q less there =
      elim (cases_lt j i) [
        | inl before ↦ done j q before there
        | inr from ↦
            let e : j ≡ i = omega arith in
            let same : Some p ≡ Some q = sym at ∙ (ap (slice_get v.counts) (sym e) ∙ there) in
            let pq : p ≡ q = cc in
            subst (λ (x : ℕ × ℕ). Within (original_context h (last_of x)) v) pq within
      ]

  uncovered_from : (ps : List (ℕ × ℕ)) (i : ℕ) → ((j : ℕ) → slice_get ps j ≡ slice_get v.counts (i + j)) → length v.counts ≡ i + length ps
      → DoneTo i → SiteAnswer h v (first_uncovered h v ps)
  uncovered_from [] i rest long done = inr (refl, all_covered h w v are (λ j p less at. done j p (omega arith) at))
  uncovered_from (p ∷ ps) i rest long done =
      let at : slice_get v.counts i ≡ Some p = ap (slice_get v.counts) (let z : i ≡ i + 0 = omega arith in z) ∙ sym (rest 0) in
      let decides = covered_decides h w v (last_of p) (named_known h v ready are i p at) in
      elim (cases_Bool (is_covered h v (last_of p))) [
        | inl so ↦
            let next =
            uncovered_from ps (suc i) (λ j. rest (suc j) ∙ ap (slice_get v.counts) (let z : i + suc j ≡ suc i + j = omega arith in z))
            (omega arith) (done_more i p at (decides.0 so) done) in
            subst (SiteAnswer h v) (sym (cond-true _ _ _ so)) next
        | inr isnt ↦
            let open_site = not_covered h v ready are i p at (λ within. false≢true (sym isnt ∙ decides.1 within)) in
            let first = covered_below h w v are i p at done in
            subst (SiteAnswer h v) (sym (cond-false _ _ _ isnt)) (inl (p.0, refl, record { open_site = open_site; first = first }))
      ]

  pub uncovered : SiteAnswer h v (first_uncovered h v v.counts)
  uncovered =
      uncovered_from v.counts 0 (λ j. ap (slice_get v.counts) (let z : j ≡ 0 + j = omega arith in z)) (omega arith)
      (λ j p less at. absurd (omega arith))

-- there is one first open site
pub open_once : (h : List OpData) (v : ContextData) (s r : ℕ) → IsFirstOpenSite h v s → IsFirstOpenSite h v r → s ≡ r
open_once h v s r a b =
    elim (cases_lt s r) [
      | inl less ↦ absurd (a.open_site (b.first s less))
      | inr from ↦
          elim (cases_lt r s) [
            | inl less ↦ absurd (b.open_site (a.first r less))
            | inr back ↦ omega arith
          ]
    ]

pub none_closed : (h : List OpData) (v : ContextData) (r : Option ℕ) → SiteAnswer h v r → IsClosed h v → r ≡ None
none_closed h v r (inl (s, is, first)) closed = absurd (first.open_site (closed s))
none_closed h v r (inr (is, c)) closed = is

pub some_open : (h : List OpData) (v : ContextData) (r : Option ℕ) (s : ℕ) → SiteAnswer h v r → IsFirstOpenSite h v s → r ≡ Some s
some_open h v r s (inl (x, is, first)) open_s = is ∙ ap (λ y. Some y) (open_once h v x s first open_s)
some_open h v r s (inr (is, closed)) open_s = absurd (open_s.open_site (closed s))
