-- The first member that is lacked.
use Rattle.std.proofs.Common.{◌≡◌, ℕ, true, ◌⊎◌, inl, inr, List, refl, ap, sym, subst, ◌∙◌}
use Rattle.std.specs.Prelude.{Option, Some, None, option_map}
use Rattle.std.specs.Option.{option_or}
use Rattle.std.proofs.lemmas.Bool.{cases_Bool, true≢false}
use Rattle.std.proofs.lemmas.Option.{none-some}
use Rattle.op_name.specs.NameData.{NameData}
use Rattle.op_name.specs.declared.member.Member.{Member}
use Rattle.op_name.specs.declared.member.Member.TheVariants.{Original, Group}
use Rattle.op_name.specs.Members.{IsMember, member_eq, member_lt}
use Rattle.context_vector.specs.Contexts.{ContextData, IsContext, Within, count_in, entry_in}
use Rattle.context_diff.specs.Operations.{OpData}
use Rattle.context_diff.specs.Histories.{context_of_all, LacksNothing, LacksFirst}
use Rattle.op_name.proofs.CallerLemmas.{member_same, member_total}
use Rattle.context_vector.specs.Shortfalls.{first_short}
use Rattle.context_vector.specs.Vectors.{IsFirstMissing}
use Rattle.context_vector.proofs.CallerLemmas.{short_original, short_group, none_missing, missing_not_within}
use Rattle.context_diff.proofs.CallerLemmas.{IsComplete}
use Rattle.cot_site.specs.Verdicts.{first_lacked, lacked}

-- what the answer says: a first missing member, or none
pub record IsLacked (have c : ContextData) (m : Member) : Type 0 where
  pub missing : IsFirstMissing have c m
  pub member : IsMember m

abbrev pub Answer : ContextData → ContextData → Option Member → Type 0
Answer have c r = ((m : Member) × (r ≡ Some m) × IsLacked have c m) ⊎ ((r ≡ None) × Within c have)

group_answer : (have c : ContextData) → IsContext c → first_short (count_in have.counts) c.counts ≡ None → (r : Option (NameData × ℕ))
    → first_short (entry_in have.entries) c.entries ≡ r → Answer have c (option_map (λ e. Group e.0 e.1) r)
group_answer have c is e (Some q) f =
    let got = short_group have c is e q f in inl (Group q.0 q.1, refl, record { missing = got.0; member = got.1 })
group_answer have c is e None f = inr (refl, none_missing have c e f)

original_answer : (have c : ContextData) → IsContext c → (r : Option (ℕ × ℕ)) → first_short (count_in have.counts) c.counts ≡ r
    → Answer have c (option_or (option_map (λ p. Original (record { site = p.0; number = p.1 })) r)
    (option_map (λ e. Group e.0 e.1) (first_short (entry_in have.entries) c.entries)))
original_answer have c is (Some p) e =
    let got = short_original have c is p e in
    inl (Original (record { site = p.0; number = p.1 }), refl, record { missing = got.0; member = tt })
original_answer have c is None e = group_answer have c is e (first_short (entry_in have.entries) c.entries) refl

pub lacking : (have c : ContextData) → IsContext c → Answer have c (first_lacked have c)
lacking have c is = original_answer have c is (first_short (count_in have.counts) c.counts) refl

-- there is one first missing member
pub missing_once : (have c : ContextData) (m x : Member) → IsFirstMissing have c m → IsFirstMissing have c x → m ≡ x
missing_once have c m x a b =
    elim (cases_Bool (member_eq m x)) [
      | inl same ↦ member_same m x same
      | inr other ↦
          let before : member_lt x m ≡ true = member_total m x other (b.first m a.there a.lacking) in
          absurd (true≢false (sym before ∙ a.first x b.there b.lacking))
    ]

-- what each answer says, and where it comes
pub answer_none : (have c : ContextData) (r : Option Member) → Answer have c r → r ≡ None → Within c have
answer_none have c r (inl (m, is, lacks)) none = absurd (none-some m (sym none ∙ is))
answer_none have c r (inr (is, within)) none = within

pub answer_some : (have c : ContextData) (r : Option Member) (m : Member) → Answer have c r → r ≡ Some m → IsLacked have c m
answer_some have c r m (inl (x, is, lacks)) some =
    let e : Some x ≡ Some m = sym is ∙ some in let same : x ≡ m = cc in subst (IsLacked have c) same lacks
answer_some have c r m (inr (is, within)) some = absurd (none-some m (sym is ∙ some))

pub none_within : (have c : ContextData) (r : Option Member) → Answer have c r → Within c have → r ≡ None
none_within have c r (inl (m, is, lacks)) within = absurd (missing_not_within have c m lacks.missing within)
none_within have c r (inr (is, w)) within = is

pub some_missing : (have c : ContextData) (r : Option Member) (m : Member) → Answer have c r → IsFirstMissing have c m → r ≡ Some m
some_missing have c r m (inl (x, is, lacks)) first = is ∙ ap (λ y. Some y) (missing_once have c x m lacks.missing first)
some_missing have c r m (inr (is, within)) first = absurd (missing_not_within have c m first within)

-- the same over a history
pub nothing_lacked : (h : List OpData) → IsComplete h → (c : ContextData) → IsContext c → lacked h c ≡ None → LacksNothing h c
nothing_lacked h w c is none m there =
    sym (w.holds m) ∙ answer_none (context_of_all h) c (lacked h c) (lacking (context_of_all h) c is) none m there

pub lacked_none : (h : List OpData) → IsComplete h → (c : ContextData) → IsContext c → LacksNothing h c → lacked h c ≡ None
lacked_none h w c is ready =
    none_within (context_of_all h) c (lacked h c) (lacking (context_of_all h) c is) (λ m there. w.holds m ∙ ready m there)

pub first_missing_is : (h : List OpData) → IsComplete h → (c : ContextData) (m : Member) → IsFirstMissing (context_of_all h) c m
    → LacksFirst h c m
first_missing_is h w c m a = record {
  named = a.there;
  missing = sym (w.holds m) ∙ a.lacking;
  first = λ x there lacks. a.first x there (w.holds x ∙ lacks);
}

pub missing_first_is : (h : List OpData) → IsComplete h → (c : ContextData) (m : Member) → LacksFirst h c m
    → IsFirstMissing (context_of_all h) c m
missing_first_is h w c m a = record {
  there = a.named;
  lacking = w.holds m ∙ a.missing;
  first = λ x there lacks. a.first x there (sym (w.holds x) ∙ lacks);
}

pub first_lacked_is : (h : List OpData) → IsComplete h → (c : ContextData) (m : Member) → IsContext c → lacked h c ≡ Some m
    → LacksFirst h c m
first_lacked_is h w c m is some =
    first_missing_is h w c m (answer_some (context_of_all h) c (lacked h c) m (lacking (context_of_all h) c is) some).missing

pub lacked_some : (h : List OpData) → IsComplete h → (c : ContextData) (m : Member) → IsContext c → LacksFirst h c m → lacked h c ≡ Some m
lacked_some h w c m is first =
    some_missing (context_of_all h) c (lacked h c) m (lacking (context_of_all h) c is) (missing_first_is h w c m first)
