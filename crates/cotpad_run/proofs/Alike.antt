-- Sites with the same operations show the same text, so all are counted.
use Rattle.std.proofs.Common.{◌≡◌, ℕ, zero, suc, ◌+◌, ◌<◌, ◌⊎◌, Bool, true, List, [], ◌∷◌, refl, sym, ap, subst, ◌∙◌, inl, inr, arith, length, get_or, bytes_eq}
use Rattle.std.specs.Prelude.{Some, Contains, slice_get, filter}
use Rattle.std.proofs.lemmas.List.Elements.{Contains-get_or}
use Rattle.std.proofs.lemmas.Option.{slice_get_within, slice_get-get_or}
use Rattle.std.proofs.lemmas.Slice.Eq.{bytes_eq-Decides}
use Rattle.context_diff.specs.Histories.{IsValid}
use Rattle.context_diff.specs.Replays.{text_of}
use Rattle.fixed_replay.proofs.CallerLemmas.{same_text, told_apart}
use Rattle.cot_site.specs.States.{State}
use Rattle.session_replay.specs.Generating.{HaveTheSame}
use Rattle.cotpad_run.specs.Generating.{alike}

pub contains_at : (sites : List State) (k : ℕ) (s : State) → slice_get sites k ≡ Some s → Contains sites s
contains_at sites k s at =
    let within : k < length sites = slice_get_within sites k s at in
    let both : Some (get_or sites k s) ≡ Some s = sym (slice_get-get_or sites k s within) ∙ at in
    let here : get_or sites k s ≡ s = cc in
    subst (Contains sites) here (Contains-get_or sites k s within)

-- two of the sites show the same text
pub same_texts : (sites : List State) (s t : State) → HaveTheSame sites → Contains sites s → Contains sites t → IsValid s.history
    → IsValid t.history → bytes_eq (text_of t.history) (text_of s.history) ≡ true
same_texts sites s t same in_s in_t valid_s valid_t =
    (bytes_eq-Decides (text_of t.history) (text_of s.history)).1
    (same_text t.history s.history (told_apart t.history valid_t) (told_apart s.history valid_s) (same t s in_t in_s))

-- the first k of these sites show the same text as this one
abbrev pub AreAlike : State → List State → ℕ → Type 0
AreAlike s sites k = (i : ℕ) (t : State) → i < k → slice_get sites i ≡ Some t → bytes_eq (text_of t.history) (text_of s.history) ≡ true

pub one_more_alike : (s : State) (sites : List State) (k : ℕ) (t : State) → AreAlike s sites k → slice_get sites k ≡ Some t
    → bytes_eq (text_of t.history) (text_of s.history) ≡ true → AreAlike s sites (k + 1)
one_more_alike s sites k t before at same i u few there = elim (below_or i k few) [
  | inl less ↦ before i u less there
  | inr is ↦ subst (λ (x : State). bytes_eq (text_of x.history) (text_of s.history) ≡ true)
      (one t u (sym at ∙ ap (slice_get sites) (sym is) ∙ there)) same
]
  where
    below_or : (i k : ℕ) → i < k + 1 → (i < k) ⊎ (i ≡ k)
    below_or zero zero few = inr refl
    below_or zero (suc k) few = inl (omega arith)
    below_or (suc i) zero few = absurd (omega (arith, few))
    below_or (suc i) (suc k) few =
        elim (below_or i k (omega (arith, few))) [ inl less ↦ inl (omega (arith, less)) | inr is ↦ inr (ap suc is) ]

    one : (t u : State) → Some t ≡ Some u → t ≡ u
    one t u e = cc

all_pass : {X : Type 0} (test : X → Bool) (xs : List X) → ((i : ℕ) (x : X) → i < length xs → slice_get xs i ≡ Some x → test x ≡ true)
    → length (filter test xs) ≡ length xs
all_pass test [] every = refl
all_pass test (x ∷ xs) every =
    rw (every 0 x (omega arith) refl) (ap suc (all_pass test xs (λ i y few at. every (suc i) y (omega (arith, few)) at)))

-- if all do, all are counted
pub all_alike : (s : State) (sites : List State) (k : ℕ) → length sites ≡ k → AreAlike s sites k → alike s sites ≡ k
all_alike s sites k size every =
    all_pass (λ t. bytes_eq (text_of t.history) (text_of s.history)) sites (λ i t few at. every i t (omega (arith, few, size)) at) ∙ size
