-- Runs of edits, one after the other: the second begins where the first ended, and counts on.
use Rattle.std.proofs.Common.{◌≡◌, ℕ, ◌+◌, Bool, true, false, if◌then◌else◌, inl, inr, List, [], ◌∷◌, ◌++◌, refl, ap, subst, ◌∙◌, arith}
use Rattle.std.specs.Prelude.{⊤, Some, None, Result, Ok, Err}
use Rattle.context_diff.specs.Operations.{OpData}
use Rattle.site_answers.specs.declared.local.Local.{Local}
use Rattle.participant.specs.declared.edits.Edit.{Edit}
use Rattle.participant.specs.declared.edits.Stopped.{Stopped}
use Rattle.participant.specs.declared.edits.Stopped.TheVariants.{Refused, Unsettled}
use Rattle.participant.specs.Reached.{with_one, all_settled}
use Rattle.participant.specs.Edits.{made_by}
use Rattle.participant.specs.Runs.{Progress, is_passed, after_answer, after_edit, StopsAt, Runs}

-- with so many operations made before
abbrev pub counted_on : ℕ → Progress → Progress
counted_on m p = record p { made = m + p.made }

-- each edit does the same, however many operations were made before
answer_on : (m : ℕ) (e : Edit) (r : Result OpData Local) (p q : Progress) → after_answer e r p ≡ Some q
    → after_answer e r (counted_on m p) ≡ Some (counted_on m q)
answer_on m e (Ok o) p q is =
    let made : record { reached = all_settled (with_one p.reached o); made = p.made + 1 } ≡ q = cc in
    let more : m + p.made + 1 ≡ m + (p.made + 1) = omega arith in
    (λ i. Some (record { reached = all_settled (with_one p.reached o); made = more i })) ∙ ap (λ (x : Progress). Some (counted_on m x)) made
answer_on m e (Err why) p q is = by (is_passed e why) is
  where
    by : (b : Bool) → (if b then Some p else None) ≡ Some q → (if b then Some (counted_on m p) else None) ≡ Some (counted_on m q)
    by true same = let at : p ≡ q = cc in ap (λ (x : Progress). Some (counted_on m x)) at
    by false same = cc

after_on : (m : ℕ) (e : Edit) (p q : Progress) → after_edit e p ≡ Some q → after_edit e (counted_on m p) ≡ Some (counted_on m q)
after_on m e p q is = answer_on m e (made_by e p.reached.state) p q is

stops_on : (m : ℕ) (e : Edit) (p : Progress) (end : Result ⊤ Stopped) (q : Progress) → StopsAt e p end q
    → StopsAt e (counted_on m p) end (counted_on m q)
stops_on m e p (Ok u) q stop = absurd stop
stops_on m e p (Err (Refused why)) q (answer, passed, at) = (answer, passed, ap (counted_on m) at)
stops_on m e p (Err Unsettled) q (half, one) = (half, omega (arith, one))

pub runs_counted : (m : ℕ) (es : List Edit) (p : Progress) (end : Result ⊤ Stopped) (q : Progress) → Runs es p end q
    → Runs es (counted_on m p) end (counted_on m q)
unfolding Runs
runs_counted m [] p end q (ends, at) = (ends, ap (counted_on m) at)
runs_counted m (e ∷ es) p end q (inl (next, step, rest)) =
    inl (counted_on m next, after_on m e p next step, runs_counted m es next end q rest)
runs_counted m (e ∷ es) p end q (inr stop) = inr (stops_on m e p end q stop)

-- a run that came to its end goes on with another
pub runs_on : (es fs : List Edit) (p now : Progress) (end : Result ⊤ Stopped) (q : Progress) → Runs es p (Ok tt) now → Runs fs now end q
    → Runs (es ++ fs) p end q
unfolding Runs
runs_on [] fs p now end q (ends, at) run = subst (λ (x : Progress). Runs fs x end q) at run
runs_on (e ∷ es) fs p now end q (inl (next, step, rest)) run = inl (next, step, runs_on es fs next now end q rest run)
runs_on (e ∷ es) fs p now end q (inr stop) run = absurd stop

-- one that stopped stops there whatever is left
pub runs_stopped : (es fs : List Edit) (p : Progress) (why : Stopped) (q : Progress) → Runs es p (Err why) q → Runs (es ++ fs) p (Err why) q
unfolding Runs
runs_stopped [] fs p why q (ends, at) = cc
runs_stopped (e ∷ es) fs p why q (inl (next, step, rest)) = inl (next, step, runs_stopped es fs next why q rest)
runs_stopped (e ∷ es) fs p why q (inr stop) = inr stop

-- no edits
pub runs_none : (p : Progress) → Runs [] p (Ok tt) p
unfolding Runs
runs_none p = (refl, refl)
