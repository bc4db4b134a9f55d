-- The first wanted member of a row may be moved to its front, once the set has the inert members that it was made after.
use Rattle.std.proofs.Common.{◌≡◌, Bool, true, false, ◌&&◌, ◌||◌, inl, inr, List, ◌∷◌, ◌++◌, refl, subst}
use Rattle.std.proofs.lemmas.Bool.{both_ways, and_parts, and_from, or_cases, or_left, or_right}
use Rattle.op_name.specs.declared.member.Member.{Member}
use Rattle.ttf_form.specs.Families.{IsIn}
use Rattle.transform_rec.specs.Sets.{none, meet, plus_all}
use Rattle.transform_rec.specs.Family.{IsClosed, IsSound}
use Rattle.transform_rec.specs.Derived.{Deriving}
use Rattle.transform_rec.specs.Executing.{IsCausalFrom}
use Rattle.transform_rec.proofs.CallerLemmas.{all_cases, closed_meet, causal_parts, book_run}
use Rattle.form_rows.specs.RowSets.{Inertness}
use Rattle.form_rows.proofs.Alike.{AreAlike}

-- the members that one of the sets has
abbrev pub join : (Member → Bool) → (Member → Bool) → Member → Bool
join C D y = C y || D y

neither : (a b : Bool) → a ≡ false → b ≡ false → (a || b) ≡ false
neither false false p q = refl
neither false true p q = q
neither true b p q = p

not_and : (a b : Bool) → b ≡ false → (a && b) ≡ false
not_and true b e = e
not_and false b e = refl

module _ {F : Type 0} (d : Deriving F) (IsInert : F → Type 0) (n : Inertness d.inclusion.over IsInert) where
  pub closed_join : (C D : Member → Bool) → IsClosed d.family C → IsClosed d.family D → IsClosed d.family (join C D)
  closed_join C D c e = record {
    listed = λ x h. elim (or_cases (C x) (D x) h) [ inl a ↦ c.listed x a | inr a ↦ e.listed x a ];
    closed = λ x h z k. elim (or_cases (C x) (D x) h)
        [ inl a ↦ or_left (C z) (D z) (c.closed x a z k) | inr a ↦ or_right (C z) (D z) (e.closed x a z k) ];
  }

  -- C with what B has of the members before y
  abbrev pub front_set : (Member → Bool) → (Member → Bool) → List Member → Member → Bool
  front_set C B before = join C (meet B (plus_all none before))

  pub front_ready : (B C : Member → Bool) (before behind : List Member) (y : Member) → d.family.members ≡ before ++ (y ∷ behind)
      → IsClosed d.family B → IsClosed d.family C → B y ≡ true → C y ≡ false
      → ((z : Member) → IsIn z before → B z ≡ true → C z ≡ false → IsInert (d.family.form z))
      → AreAlike d IsInert n C (front_set C B before) × IsSound d.family y (front_set C B before)
  front_ready B C before behind y whole b c there out inert =
      let run : IsCausalFrom d.family none (before ++ (y ∷ behind)) =
      subst (λ (l : List Member). IsCausalFrom d.family none l) whole (book_run d.family d.known.causal) in
      let s = (causal_parts d.family before (y ∷ behind) none run).1.0 in
      let P = plus_all none before in
      let set = closed_join C (meet B P) c (closed_meet d.family B P b s.set.closed) in
      let alike : AreAlike d IsInert n C (front_set C B before) = record {
        left = λ z i o. absurd (both_ways (front_set C B before z) o (or_left (C z) (meet B P z) i));
        right = λ z i o. elim (or_cases (C z) (meet B P z) i) [
          | inl a ↦ absurd (both_ways (C z) o a)
          | inr a ↦ let r = and_parts (B z) (P z) a in
              elim (all_cases before none z r.1) [ inl e ↦ absurd (both_ways false refl e) | inr j ↦ inert z j r.0 o ]
        ];
      } in (
        alike,
        record {
          listed = s.listed;
          covers = λ z k. or_right (C z) (meet B P z) (and_from (B z) (P z) (b.closed y there z k) (s.covers z k));
          set = set;
          lacks = neither (C y) (meet B P y) out (not_and (B y) (P y) s.lacks);
        },
      )
