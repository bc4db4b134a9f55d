-- Sites rise in both lists of a context, so a version can name all of them where it can name the last one.
use Rattle.std.proofs.Common.{◌≡◌, ◌↔◌, ℕ, suc, ◌+◌, ◌-◌, ◌≤◌, true, ltb, List, [], ◌∷◌, length, Some, None, IsTrue, refl, subst, arith, inl, inr}
use Rattle.std.specs.List.{slice_get}
use Rattle.std.proofs.lemmas.Bool.{ltb-true, lt-ltb}
use Rattle.std.proofs.lemmas.Bool.Decides.{nat_tests}
use Rattle.std.proofs.lemmas.Option.{slice_get_cases}
use Rattle.op_name.specs.NameData.{NameData, name_lt}
use Rattle.context_vector.specs.Contexts.{AreCounts, AreEntries}
use Rattle.wire_codec.specs.declared.version.Version.{Version}
use Rattle.wire_codec.specs.Versions.{sites}
use Rattle.wire_codec.proofs.Sites.{IsSite, CountsIn, EntriesIn}
use Rattle.wire_codec.proofs.Pushes.{site_in, entry_in_version}

-- the last one of a list that begins so
counts_to_last : (v : Version) (low : ℕ) (p : ℕ × ℕ) (ps : List (ℕ × ℕ)) (q : ℕ × ℕ) → AreCounts low (p ∷ ps)
    → slice_get (p ∷ ps) (length ps) ≡ Some q → (low ≤ q.0) × (IsSite v q.0 → CountsIn v (p ∷ ps))
counts_to_last v low p [] q are at =
    let is : p ≡ q = cc in
    subst (λ (x : ℕ × ℕ). (low ≤ x.0) × (IsSite v x.0 → CountsIn v (p ∷ []))) is (are.0, λ h. (h, tt))
counts_to_last v low p (r ∷ rs) q are at =
    let rest = counts_to_last v (p.0 + 1) r rs q are.4 at in
    (omega (arith, are.0, rest.0), λ h. (omega (arith, rest.0, h), rest.1 h))

site_rises : (a b : NameData) → name_lt a b ≡ true → a.site ≤ b.site
site_rises a b h = grind (arith, nat_tests)

entries_to_last : (v : Version) (d : NameData × ℕ) (es : List (NameData × ℕ)) (e : NameData × ℕ) → AreEntries (d ∷ es)
    → slice_get (d ∷ es) (length es) ≡ Some e → (d.0.site ≤ e.0.site) × (IsSite v e.0.site → EntriesIn v (d ∷ es))
entries_to_last v d [] e are at =
    let is : d ≡ e = cc in
    subst (λ (x : NameData × ℕ). (d.0.site ≤ x.0.site) × (IsSite v x.0.site → EntriesIn v (d ∷ []))) is (omega arith, λ h. (h, tt))
entries_to_last v d (x ∷ xs) e are at =
    let rest = entries_to_last v x xs e are.4 at in
    let rises = site_rises d.0 x.0 are.3 in
    (omega (arith, rises, rest.0), λ h. (omega (arith, rises, rest.0, h), rest.1 h))

-- what is told of the last one is told of all
pub counts_by_last : (v : Version) (ps : List (ℕ × ℕ)) (q : ℕ × ℕ) → AreCounts 0 ps → slice_get ps (length ps - 1) ≡ Some q
    → IsTrue (ltb q.0 (sites v)) ↔ CountsIn v ps
counts_by_last v [] q are at = absurd (let none : None ≡ Some q = at in cc)
counts_by_last v (p ∷ ps) q are at = (
  λ h. (counts_to_last v 0 p ps q are last).1 (ltb-true _ _ h),
  λ h. lt-ltb _ _ (site_in v (p ∷ ps) (length ps) q h last),
)
  where
    last : slice_get (p ∷ ps) (length ps) ≡ Some q
    last = let back : suc (length ps) - 1 ≡ length ps = omega arith in subst (λ (i : ℕ). slice_get (p ∷ ps) i ≡ Some q) back at

pub entries_by_last : (v : Version) (es : List (NameData × ℕ)) (e : NameData × ℕ) → AreEntries es → slice_get es (length es - 1) ≡ Some e
    → IsTrue (ltb e.0.site (sites v)) ↔ EntriesIn v es
entries_by_last v [] e are at = absurd (let none : None ≡ Some e = at in cc)
entries_by_last v (d ∷ es) e are at = (
  λ h. (entries_to_last v d es e are last).1 (ltb-true _ _ h),
  λ h. lt-ltb _ _ (entry_in_version v (d ∷ es) (length es) e h last),
)
  where
    last : slice_get (d ∷ es) (length es) ≡ Some e
    last = let back : suc (length es) - 1 ≡ length es = omega arith in subst (λ (i : ℕ). slice_get (d ∷ es) i ≡ Some e) back at

-- a list without a last one is empty
pub no_last : {A : Type 0} (xs : List A) → slice_get xs (length xs - 1) ≡ None → xs ≡ []
no_last [] at = refl
no_last (x ∷ xs) at =
    elim (slice_get_cases (x ∷ xs) (length (x ∷ xs) - 1)).1 [
      | inl some ↦ absurd (let is = some.2 in cc)
      | inr none ↦ absurd (let past = none.0 in omega (arith, past))
    ]
