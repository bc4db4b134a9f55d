-- A walk over flags and characters: what the shown ones so far weigh, and where an offset is reached.
use Rattle.std.proofs.Common.{◌≡◌, ◌≢◌, ℕ, suc, ◌+◌, ◌*◌, ◌<◌, ◌≤◌, ◌==◌, false, if◌then◌else◌, List, [], ◌∷◌, ◌++◌, length, take, get_or, refl, sym, ap, subst, ◌∙◌, arith, length-append}
use Rattle.std.proofs.lemmas.Bool.{cases_lt}
use Rattle.std.proofs.lemmas.Bool.Decides.{nat_tests}
use Rattle.std.proofs.lemmas.List.{append-nil, get_or_read, take-append-le, take_all}
use Rattle.tombstone_text.specs.declared.measure.Measure.{Measure}
use Rattle.tombstone_text.specs.Measures.{weight, weight_of}
use Rattle.visible_view.specs.Code.{flagged}
use Rattle.visible_view.proofs.CallerLemmas.{flagged_next}
use Rattle.text_positions.specs.Offsets.{HasNoPlace, IsFirstPlace}
use Rattle.text_positions.proofs.Weights.{first_from, none_from, weight-append, weight_of-le, weight_part, weight_up}
use mathlib.Core.Logic.{inl, inr}

-- ---- flags

-- one flag more that is 1, with its character
pub flagged_more : (fs ts : List ℕ) (k t : ℕ) → k < length fs → length ts ≡ length fs → t ≡ get_or ts k t → get_or fs k 0 ≡ 1
    → flagged (take (k + 1) fs) (take (k + 1) ts) ≡ flagged (take k fs) (take k ts) ++ t ∷ []
flagged_more fs ts k t lt e is one =
    let next : k + 1 ≡ suc k = omega arith in
    let char : get_or ts k 0 ≡ t = sym (get_or_read ts k t (omega (arith, lt, e)) is 0) in
    ap (λ n. flagged (take n fs) (take n ts)) next ∙ flagged_next fs ts k lt e
    ∙ ap (λ n. flagged (take k fs) (take k ts) ++ (if n == 1 then get_or ts k 0 ∷ [] else [])) one
    ∙ ap (λ n. flagged (take k fs) (take k ts) ++ n ∷ []) char

-- one that isn't
pub flagged_same : (fs ts : List ℕ) (k : ℕ) → k < length fs → length ts ≡ length fs → get_or fs k 0 ≢ 1
    → flagged (take (k + 1) fs) (take (k + 1) ts) ≡ flagged (take k fs) (take k ts)
flagged_same fs ts k lt e other =
    let next : k + 1 ≡ suc k = omega arith in
    let hidden : (get_or fs k 0 == 1) ≡ false = grind (arith, nat_tests, other) in
    ap (λ n. flagged (take n fs) (take n ts)) next ∙ flagged_next fs ts k lt e
    ∙ ap (λ b. flagged (take k fs) (take k ts) ++ (if b then get_or ts k 0 ∷ [] else [])) hidden
    ∙ append-nil (flagged (take k fs) (take k ts))

pub flagged_all : (fs ts : List ℕ) (k : ℕ) → length ts ≡ length fs → length fs ≤ k → flagged (take k fs) (take k ts) ≡ flagged fs ts
flagged_all fs ts k e le =
    ap (λ (l : List ℕ). flagged l (take k ts)) (take_all k fs le) ∙ ap (λ (l : List ℕ). flagged fs l) (take_all k ts (omega (arith, le, e)))

-- ---- what the first ones weigh

-- one character more, which is still of the first n
pub taken_more : (m : Measure) (cs : List ℕ) (c n : ℕ) → length cs < n
    → weight_of m (take n (cs ++ c ∷ [])) ≡ weight_of m (take n cs) + weight m c
taken_more m cs c n lt =
    let long = length-append cs (c ∷ []) in
    let one : weight_of m (c ∷ []) ≡ weight m c = omega arith in
    ap (λ (l : List ℕ). weight_of m l) (take_all n (cs ++ c ∷ []) (omega (arith, long, lt)))
    ∙ weight-append m cs (c ∷ [])
    ∙ omega (arith, one, ap (λ (l : List ℕ). weight_of m l) (take_all n cs (omega (arith, lt))))

-- one that isn't
pub taken_same : (m : Measure) (cs : List ℕ) (c n : ℕ) → n ≤ length cs → weight_of m (take n (cs ++ c ∷ [])) ≡ weight_of m (take n cs)
taken_same m cs c n le = ap (λ (l : List ℕ). weight_of m l) (take-append-le n cs (c ∷ []) le)

-- ---- where an offset is reached

-- the first characters, so many of them, weigh so much; fewer weigh less than the offset, and these are all while they do
pub record IsReached (m : Measure) (cs : List ℕ) (offset count total : ℕ) : Type 0 where
  pub weighs : total ≡ weight_of m (take count cs)
  pub within : count ≤ length cs
  pub below : (u : ℕ) → u < count → weight_of m (take u cs) < offset
  pub all : total < offset → count ≡ length cs

pub reached_none : (m : Measure) (offset : ℕ) → IsReached m [] offset 0 0
reached_none m offset = record {
  weighs = refl;
  within = omega arith;
  below = λ u lt. absurd (omega (arith, lt));
  all = λ lt. refl;
}

module _ (m : Measure) (cs : List ℕ) (offset count total : ℕ) (r : IsReached m cs offset count total) where
  -- a character more that counts
  pub reached_more : (c : ℕ) → total < offset → IsReached m (cs ++ c ∷ []) offset (count + 1) (total + weight m c)
  reached_more c lt =
      let end = r.all lt in
      let long = length-append cs (c ∷ []) in
      let old : weight_of m (take (count + 1) cs) ≡ total =
      ap (λ (l : List ℕ). weight_of m l) (take_all (count + 1) cs (omega (arith, end)) ∙ sym (take_all count cs (omega (arith, end))))
      ∙ sym r.weighs in
      record {
        weighs = omega (arith, old, taken_more m cs c (count + 1) (omega (arith, end)));
        within = omega (arith, long, end);
        below = λ u few. elim (cases_lt u count) [
          | inl less ↦ omega (arith, taken_same m cs c u (omega (arith, less, end)), r.below u less)
          | inr more ↦
              let same : u ≡ count = omega (arith, few, more) in
              omega (
                arith,
                taken_same m cs c u (omega (arith, same, end)),
                r.weighs,
                lt,
                ap (λ n. weight_of m (take n cs)) same,
              )
        ];
        all = λ less. omega (arith, long, end);
      }

  -- one behind the place
  pub reached_still : (c : ℕ) → offset ≤ total → IsReached m (cs ++ c ∷ []) offset count total
  reached_still c le = record {
    weighs = r.weighs ∙ sym (taken_same m cs c count r.within);
    within = omega (arith, r.within, length-append cs (c ∷ []));
    below = λ u lt. omega (arith, r.below u lt, taken_same m cs c u (omega (arith, lt, r.within)));
    all = λ lt. absurd (omega (arith, lt, le));
  }

  -- the offset is reached at the place, or at none
  pub reached_place : total ≡ offset → IsFirstPlace m cs offset count
  reached_place e =
      first_from m cs offset count r.within (sym r.weighs ∙ e) (λ u lt is. omega (arith, is, r.below u lt))

  pub reached_nowhere : total ≢ offset → HasNoPlace m cs offset
  reached_nowhere other =
      none_from m cs offset
      (λ v le is. elim (cases_lt v count) [
        | inl less ↦ omega (arith, is, r.below v less)
        | inr more ↦ elim (cases_lt total offset) [
          | inl few ↦
              let same : v ≡ count = omega (arith, le, more, r.all few) in
              other (r.weighs ∙ ap (λ n. weight_of m (take n cs)) (sym same) ∙ is)
          | inr past ↦
              let up = weight_up m cs count v more in
              other (omega (arith, up, is, r.weighs, past))
        ]
      ])

-- the same of what is equal
pub reached_as : (m : Measure) (cs ds : List ℕ) (offset c d t u : ℕ) → IsReached m cs offset c t → ds ≡ cs → d ≡ c → u ≡ t
    → IsReached m ds offset d u
reached_as m cs ds offset c d t u r same ec et =
    subst (λ (l : List ℕ). IsReached m l offset d u) (sym same)
    (subst (λ n. IsReached m cs offset n u) (sym ec) (subst (λ n. IsReached m cs offset c n) (sym et) r))

-- what a walk so far adds up to is little
pub walked_few : (m : Measure) (cs : List ℕ) (n k : ℕ) → length cs ≤ k → weight_of m (take n cs) ≤ 4 * k
walked_few m cs n k le = omega (arith, weight_part m cs n, weight_of-le m cs, le)
