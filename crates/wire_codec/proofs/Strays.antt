-- Undone names that are no originals of their context, told run by run.
use Rattle.std.proofs.Common.{◌≡◌, ℕ, zero, suc, ◌+◌, ◌-◌, ◌*◌, ◌≤◌, leb, Bool, true, ◌&&◌, List, [], ◌∷◌, ◌++◌, length, Result, Ok, Err, refl, sym, ap, subst, ◌∙◌, arith, inl, inr}
use Rattle.std.specs.List.{list_all}
use Rattle.std.specs.List.{flat_map}
use Rattle.std.proofs.Math.Nat.{mul-suc}
use Rattle.std.proofs.lemmas.Bool.{and_parts, and_from}
use Rattle.std.proofs.lemmas.Bool.Decides.{nat_tests}
use Rattle.std.proofs.lemmas.List.Concat.{flat_map-cons}
use Rattle.op_name.specs.declared.member.Member.TheVariants.{Original}
use Rattle.op_name.specs.NameData.{NameData}
use Rattle.context_vector.specs.Contexts.{ContextData, has, count_in}
use Rattle.wire_codec.specs.declared.fault.Fault.{Fault}
use Rattle.wire_codec.specs.declared.cause.Cause.TheVariants.{Stray}
use Rattle.wire_codec.specs.declared.listing.Listing.{Listing}
use Rattle.wire_codec.specs.Runs.{RunData, further, names_from, names_in, last_name}
use Rattle.wire_codec.specs.Reading.{want}
use Rattle.wire_codec.specs.Judging.{run_len, stray_from}
use Rattle.wire_codec.specs.Code.RunLists.{HasNames}
use Rattle.wire_codec.proofs.Steps.{want_ok, want_err}
use Rattle.wire_codec.proofs.WellFormed.{AreOriginals}

-- ---- the names of runs

-- whether each name is an original of the context
abbrev pub are_originals : ContextData → List (NameData × ℕ) → Bool
are_originals c es = list_all (λ e. has c (Original e.0)) es

originals_of : (c : ContextData) (es ds : List (NameData × ℕ)) → are_originals c es ≡ true → AreOriginals c ds → AreOriginals c (es ++ ds)
originals_of c [] ds h are = are
originals_of c (e ∷ es) ds h are =
    let parts = and_parts (has c (Original e.0)) (are_originals c es) h in (parts.0, originals_of c es ds parts.1 are)

originals_parts : (c : ContextData) (es ds : List (NameData × ℕ)) → AreOriginals c (es ++ ds)
    → (are_originals c es ≡ true) × AreOriginals c ds
originals_parts c [] ds are = (refl, are)
originals_parts c (e ∷ es) ds are =
    let rest = originals_parts c es ds are.1 in (and_from (has c (Original e.0)) (are_originals c es) are.0 rest.0, rest.1)

pub stray_ok : (k : Listing) (c : ContextData) (at : ℕ) (rs : List RunData) → stray_from k c at rs ≡ Ok tt
    → AreOriginals c (flat_map names_in rs)
unfolding stray_from
stray_ok k c at [] h = tt
stray_ok k c at (r ∷ rs) h =
    let w = want_ok (are_originals c (names_in r)) Stray at (λ _. stray_from k c (at + run_len k) rs) tt h in
    subst (AreOriginals c) (sym (flat_map-cons names_in r rs))
    (originals_of c (names_in r) (flat_map names_in rs) w.0 (stray_ok k c (at + run_len k) rs w.1))

pub stray_again : (k : Listing) (c : ContextData) (at : ℕ) (rs : List RunData) → AreOriginals c (flat_map names_in rs)
    → stray_from k c at rs ≡ Ok tt
unfolding stray_from
stray_again k c at [] h = refl
stray_again k c at (r ∷ rs) h =
    let parts = originals_parts c (names_in r) (flat_map names_in rs) (subst (AreOriginals c) (flat_map-cons names_in r rs) h) in
    rw (parts.0) (stray_again k c (at + run_len k) rs parts.1)

pub stray_faults : (k : Listing) (c : ContextData) (at : ℕ) (rs : List RunData) (f : Fault) → stray_from k c at rs ≡ Err f
    → f.offset ≤ at + run_len k * length rs
unfolding stray_from
stray_faults k c at [] f h = absurd (let no = h in cc)
stray_faults k c at (r ∷ rs) f h =
    let more : run_len k * suc (length rs) ≡ run_len k * length rs + run_len k = mul-suc (run_len k) (length rs) in
    elim (want_err (are_originals c (names_in r)) Stray at (λ _. stray_from k c (at + run_len k) rs) f h) [
      | inl here ↦ omega (arith, here)
      | inr later ↦ omega (arith, more, stray_faults k c (at + run_len k) rs f later)
    ]

-- one step over runs
module _ (k : Listing) (c : ContextData) (at : ℕ) (before after : List RunData) (total : Result (Unit {0}) Fault)
    (so_far : stray_from k c at before ≡ total) where
  pub stray_passes : (r : RunData) → before ≡ r ∷ after → want (are_originals c (names_in r)) Stray at ≡ Ok tt
      → stray_from k c (at + run_len k) after ≡ total
  unfolding stray_from
  stray_passes r is known =
      let step : stray_from k c at before ≡ stray_from k c (at + run_len k) after = rw (is, known) refl in
      sym step ∙ so_far

  pub stray_stops : (r : RunData) (f : Fault) → before ≡ r ∷ after → want (are_originals c (names_in r)) Stray at ≡ Err f → total ≡ Err f
  unfolding stray_from
  stray_stops r f is unknown =
      let step : stray_from k c at before ≡ Err f = rw (is, unknown) refl in
      sym so_far ∙ step

  pub stray_over : before ≡ [] → total ≡ Ok tt
  unfolding stray_from
  stray_over is =
      let step : stray_from k c at before ≡ Ok tt = rw is refl in
      sym so_far ∙ step

-- ---- a run is told by its last name

reach_from : (c : ContextData) (n : NameData) (m g : ℕ) → 1 ≤ n.number
    → are_originals c (names_from n (suc m) g) ≡ leb (n.number + m) (count_in c.counts n.site)
unfolding names_from
reach_from c n zero g some = grind (arith, nat_tests)
reach_from c n (suc m) g some =
    let others = reach_from c (further n 1) m g (omega arith) in
    let sum : (n.number + 1) + m ≡ n.number + suc m = omega arith in
    ap (λ (t : Bool). has c (Original n) && t) (others ∙ ap (λ (i : ℕ). leb i (count_in c.counts n.site)) sum)
    ∙ grind (arith, nat_tests)

-- all names of a run are originals where its last one is
pub reach_of : (c : ContextData) (r : RunData) → HasNames r
    → are_originals c (names_in r) ≡ leb (last_name r).number (count_in c.counts r.first.site)
reach_of c r has =
    let back : suc (r.len - 1) ≡ r.len = omega (arith, has.some) in
    subst
    (λ (len : ℕ). are_originals c (names_from r.first len r.generation) ≡ leb (last_name r).number (count_in c.counts r.first.site))
    back
    (reach_from c r.first (r.len - 1) r.generation (has.first.1))
