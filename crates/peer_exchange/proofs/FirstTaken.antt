-- One operation is taken in or refused, whatever follows it.
use Rattle.std.proofs.Common.{◌≡◌, Bool, true, false, cond, inl, inr, List, [], ◌∷◌, Result, Ok, Err, refl, ap, sym, subst, ◌∙◌}
use Rattle.std.specs.Prelude.{◌⊎◌}
use Rattle.std.proofs.lemmas.Bool.{cases_Bool}
use Rattle.op_name.specs.declared.member.Member.{Member}
use Rattle.context_diff.specs.Operations.{OpData, member_of}
use Rattle.site_answers.specs.declared.release.Release.{Release}
use Rattle.site_answers.specs.declared.verdict.Verdict.{Verdict}
use Rattle.site_answers.specs.declared.verdict.Verdict.TheVariants.{Repeat, Forged, Waits, NotClosed, PlaceOut, Integrated}
use Rattle.cot_site.specs.States.{State, judged, delivered}
use Rattle.cot_site.specs.Releases.{settled}
use Rattle.participant.specs.declared.taking.Taking.TheVariants.{Had}
use Rattle.participant.specs.declared.taking.Untaken.{Untaken}
use Rattle.participant.specs.declared.taking.Untaken.TheVariants as untaken
use Rattle.participant.specs.Reached.{Reached, with_delivered, all_settled}
use Rattle.participant.specs.Taking as one
use Rattle.peer_exchange.specs.Taking.{Refusal, refused, with_taken, all_taken_in, IsBefore}

-- only of an integrated operation and of a repeat has the history the member
pub had_cases : (v : Verdict) → one.is_had v ≡ true → (v ≡ Integrated) ⊎ (v ≡ Repeat)
had_cases Repeat had = inr refl
had_cases (Forged n) had = absurd (let never = had in cc)
had_cases (Waits m) had = absurd (let never = had in cc)
had_cases (NotClosed k) had = absurd (let never = had in cc)
had_cases (PlaceOut p k) had = absurd (let never = had in cc)
had_cases Integrated had = inl refl

-- what a participant reaches by one operation
reached_had : (a : Reached) (o : OpData) → one.is_had (judged a.state o) ≡ true → one.taken_in Had a o ≡ all_settled (with_delivered a o)
reached_had a o had = ap (λ (b : Bool). cond b (all_settled (with_delivered a o)) a) had

reached_not_had : (a : Reached) (o : OpData) → one.is_had (judged a.state o) ≡ false → one.taken_in Had a o ≡ a
reached_not_had a o not_had = ap (λ (b : Bool). cond b (all_settled (with_delivered a o)) a) not_had

pub taken_none : (s : State) → all_taken_in s [] ≡ Ok s
unfolding all_taken_in
taken_none s = refl

pub same_after_none : (s t : State) → all_taken_in s [] ≡ Ok t → s ≡ t
unfolding all_taken_in
same_after_none s t e = cc

-- where it is taken in, those after it are taken in at the state after it
pub taken_first : (s : State) (o : OpData) (os : List OpData) → one.is_had (judged s o) ≡ true
    → all_taken_in s (o ∷ os) ≡ all_taken_in (settled (delivered s o)) os
unfolding all_taken_in
taken_first s o os had =
    ap (λ (b : Bool). cond b (all_taken_in (with_taken s o) os) (Err (refused o (judged s o)))) had
    ∙ ap (λ (a : Reached). all_taken_in a.state os) (reached_had (record { state = s; released = [] }) o had)

-- and else it is refused by its verdict
pub refused_first : (s : State) (o : OpData) (os : List OpData) → one.is_had (judged s o) ≡ false
    → all_taken_in s (o ∷ os) ≡ Err (refused o (judged s o))
unfolding all_taken_in
refused_first s o os not_had = ap (λ (b : Bool). cond b (all_taken_in (with_taken s o) os) (Err (refused o (judged s o)))) not_had

-- the same from what came of it
pub first_taken : (s t : State) (o : OpData) (os : List OpData) → all_taken_in s (o ∷ os) ≡ Ok t
    → (one.is_had (judged s o) ≡ true) × (all_taken_in (settled (delivered s o)) os ≡ Ok t)
first_taken s t o os e = elim (cases_Bool (one.is_had (judged s o))) [
  | inl had ↦ (had, sym (taken_first s o os had) ∙ e)
  | inr not_had ↦ absurd (let never : ◌≡◌ {A = Result State Refusal} (Err (refused o (judged s o)))
      (Ok t) = sym (refused_first s o os not_had) ∙ e in cc)
]

-- a refusal is one whatever follows it
pub still_refused : (s : State) (o : OpData) (os : List OpData) (why : Refusal) → all_taken_in s (o ∷ []) ≡ Err why
    → all_taken_in s (o ∷ os) ≡ Err why
still_refused s o os why e = elim (cases_Bool (one.is_had (judged s o))) [
  | inl had ↦
      let t = settled (delivered s o) in
      absurd (let never : ◌≡◌ {A = Result State Refusal} (Ok t) (Err why) = sym (taken_first s o [] had ∙ taken_none t) ∙ e in cc)
  | inr not_had ↦ refused_first s o os not_had ∙ (sym (refused_first s o [] not_had) ∙ e)
]

-- ---- what a participant says of it

pub one_taken : (a b : Reached) (o : OpData) (v : Verdict) → v ≡ judged a.state o → one.is_had v ≡ true → b ≡ one.taken_in Had a o
    → all_taken_in a.state (o ∷ []) ≡ Ok b.state
one_taken a b o v is had e =
    let t = settled (delivered a.state o) in
    let fits : one.is_had (judged a.state o) ≡ true = ap one.is_had (sym is) ∙ had in
    let reached : b.state ≡ t = ap (λ (x : Reached). x.state) (e ∙ reached_had a o fits) in
    taken_first a.state o [] fits ∙ (taken_none t ∙ ap (λ (x : State). Ok x) (sym reached))

pub one_refused : (a b : Reached) (o : OpData) (v : Verdict) (m : Member) → v ≡ judged a.state o → m ≡ member_of o
    → one.is_had v ≡ false → b ≡ one.taken_in Had a o
    → (b.state ≡ a.state) × (all_taken_in a.state (o ∷ []) ≡ Err (record { member = m; verdict = v }))
one_refused a b o v m is named not_had e =
    let fits : one.is_had (judged a.state o) ≡ false = ap one.is_had (sym is) ∙ not_had in
    let why : ◌≡◌ {A = Refusal} (refused o (judged a.state o)) (record { member = m; verdict = v }) =
    λ i. record { member = sym named i; verdict = sym is i } in
    (ap (λ (x : Reached). x.state) (e ∙ reached_not_had a o fits), refused_first a.state o [] fits ∙ ap (λ (x : Refusal). Err x) why)

pub one_cut : (a b : Reached) (o : OpData) (why : Untaken) → a.released ≡ [] → one.IsUntaken Had a o why b
    → IsBefore a.state (o ∷ []) b.state
one_cut a b o untaken.Memory none u = inl (ap (λ (x : Reached). x.state) u.2)
one_cut a b o (untaken.Unsettled v) none u = inr (record {
  verdict = v;
  released = b.released;
  untaken = subst (λ (rs : List Release). one.IsUntaken Had (record { state = a.state; released = rs }) o (untaken.Unsettled v) b) none u;
})
