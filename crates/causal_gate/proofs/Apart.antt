-- What waits stays apart when one operation comes and when one goes.
use Rattle.std.proofs.Common.{◌≡◌, ◌≢◌, ℕ, zero, suc, ◌<◌, inl, inr, List, [], ◌∷◌, ◌++◌, sym, ap, subst, ◌∙◌, length, length-append, arith, remove}
use Rattle.std.specs.Prelude.{Contains}
use Rattle.std.proofs.lemmas.List.Edits.{length-remove}
use Rattle.op_name.specs.declared.member.Member.TheVariants.{Original}
use Rattle.op_name.specs.NameData.{NameData}
use Rattle.context_diff.specs.Operations.{OpData, member_of}
use Rattle.context_diff.proofs.CallerLemmas.{contains_cases, contains_none, contains_here, contains_later}
use Rattle.causal_gate.specs.Waiting.{HasOtherName, NamesAgree, AllDifferFrom, AreApart, IsPool}

differ_push : (x : OpData) (xs : List OpData) (o : OpData) → AllDifferFrom x xs → o ≢ x → HasOtherName o x → AllDifferFrom x (xs ++ o ∷ [])
differ_push x [] o all differs other = (differs, other, tt)
differ_push x (y ∷ ys) o all differs other = (all.0, all.1, differ_push x ys o all.2 differs other)

apart_push : (os : List OpData) (o : OpData) → AreApart os → (Contains os o → ⊥) → NamesAgree os o → AreApart (os ++ o ∷ [])
apart_push [] o apart new agree = (tt, tt)
apart_push (x ∷ xs) o apart new agree =
    let differs : o ≢ x = λ e. new (subst (Contains (x ∷ xs)) (sym e) (contains_here x xs)) in
    let other : HasOtherName o x = λ n mine its. differs (sym (agree x n (contains_here x xs) its mine)) in (
      differ_push x xs o apart.0 differs other,
      apart_push xs o apart.1 (λ c. new (contains_later x xs o c)) (λ y n c. agree y n (contains_later x xs y c)),
    )

-- what waits when another operation came
pub pool_push : (os : List OpData) (o : OpData) → IsPool os → (Contains os o → ⊥) → NamesAgree os o → length os < 4294967295
    → IsPool (os ++ o ∷ [])
pool_push os o pool new agree room = record {
  apart = apart_push os o pool.apart new agree;
  short = simp length-append (omega (arith, room));
}

differ_remove : (x : OpData) (xs : List OpData) (i : ℕ) → AllDifferFrom x xs → AllDifferFrom x (remove xs i)
differ_remove x [] zero all = tt
differ_remove x [] (suc i) all = tt
differ_remove x (y ∷ ys) zero all = all.2
differ_remove x (y ∷ ys) (suc i) all = (all.0, all.1, differ_remove x ys i all.2)

apart_remove : (os : List OpData) (i : ℕ) → AreApart os → AreApart (remove os i)
apart_remove [] zero apart = tt
apart_remove [] (suc i) apart = tt
apart_remove (x ∷ xs) zero apart = apart.1
apart_remove (x ∷ xs) (suc i) apart = (differ_remove x xs i apart.0, apart_remove xs i apart.1)

-- what waits when the i-th went
pub pool_remove : (os : List OpData) (i : ℕ) → IsPool os → i < length os → IsPool (remove os i)
pool_remove os i pool within = record {
  apart = apart_remove os i pool.apart;
  short = omega (arith, pool.short, length-remove os i within);
}

-- an operation of the list has another name than one from which all of it differ
pub differs_in : (x : OpData) (xs : List OpData) → AllDifferFrom x xs → (y : OpData) → Contains xs y → HasOtherName y x
differs_in x [] all y there = absurd (contains_none y there)
differs_in x (z ∷ zs) all y there =
    elim (contains_cases z zs y there) [
      | inl is ↦ subst (λ (o : OpData). HasOtherName o x) is all.1
      | inr later ↦ differs_in x zs all.2 y later
    ]

-- two of one name are the same
pub named_once : (os : List OpData) → AreApart os → (x y : OpData) (n : NameData) → Contains os x → Contains os y → member_of x ≡ Original n
    → member_of y ≡ Original n → x ≡ y
named_once [] apart x y n cx cy ex ey = absurd (contains_none x cx)
named_once (o ∷ os) apart x y n cx cy ex ey =
    elim (contains_cases o os x cx) [
      | inl is-x ↦
          elim (contains_cases o os y cy) [
            | inl is-y ↦ sym is-x ∙ is-y
            | inr later-y ↦ absurd (differs_in o os apart.0 y later-y n ey (ap member_of is-x ∙ ex))
          ]
      | inr later-x ↦
          elim (contains_cases o os y cy) [
            | inl is-y ↦ absurd (differs_in o os apart.0 x later-x n ex (ap member_of is-y ∙ ey))
            | inr later-y ↦ named_once os apart.1 x y n later-x later-y ex ey
          ]
    ]
