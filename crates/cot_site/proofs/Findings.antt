-- What a book and a pool find by a name, as tests over their lists.
use Rattle.std.proofs.Common.{◌≡◌, ◌↔◌, ℕ, true, false, inl, inr, List, refl, ap, sym, subst, ◌∙◌, IsNone, IfSome, IfNone}
use Rattle.std.specs.Prelude.{Option, Some, None, Contains, not}
use Rattle.std.specs.List.{list_any}
use Rattle.std.proofs.lemmas.Bool.{cases_Bool, true≢false, false_from_ne_true}
use Rattle.op_name.specs.NameData.{NameData}
use Rattle.op_name.specs.declared.member.Member.TheVariants.{Original}
use Rattle.context_vector.specs.Contexts.{ContextData, IsContext, Within, has}
use Rattle.context_diff.specs.Operations.{OpData, member_of, context_of, IsWellFormed}
use Rattle.context_diff.specs.Histories.{is_known, context_of_all, LacksNothing, IsClosed, IsValid}
use Rattle.context_diff.specs.Ops.{op_eq}
use Rattle.context_diff.specs.Books.{IsFirstOpenSite}
use Rattle.context_diff.proofs.CallerLemmas.{complete, op_eq_decides, known_member}
use Rattle.cot_site.specs.Verdicts.{is_other, lacked, first_uncovered}
use Rattle.cot_site.proofs.Cases.{same_any, other_any, passes_any}
use Rattle.op_name.specs.declared.member.Member.{Member}
use Rattle.context_vector.specs.Vectors.{IsFirstMissing}
use Rattle.cot_site.proofs.Lacking.{lacked_none, lacked_some, first_missing_is}
use Rattle.cot_site.proofs.Verdicts.{formed_context}
use Rattle.cot_site.proofs.Covers.{SiteAnswer, uncovered, none_closed, some_open}

-- all of the list with k's member are k
abbrev pub IsAlone : List OpData → OpData → Type 0
IsAlone os k = (p : OpData) → Contains os p → member_of p ≡ member_of k → p ≡ k

-- no operation of the list has the name
pub none_same : (os : List OpData) (o : OpData) (n : NameData) → member_of o ≡ Original n → is_known os (Original n) ≡ false
    → list_any (op_eq o) os ≡ false
none_same os o n is none =
    false_from_ne_true (list_any (op_eq o) os)
    (λ e. true≢false (sym (known_member os o ((same_any o os).0 e)) ∙ (ap (is_known os) is ∙ none)))

pub none_other : (os : List OpData) (o : OpData) (n : NameData) → member_of o ≡ Original n → is_known os (Original n) ≡ false
    → list_any (is_other o) os ≡ false
none_other os o n is none =
    false_from_ne_true (list_any (is_other o) os) (λ e.
    let has = (other_any o os n is).0 e in
    true≢false (sym (known_member os has.other has.there) ∙ (ap (is_known os) has.same_name ∙ none)))

-- the only one of the list that has the name decides
pub one_same : (os : List OpData) (o k : OpData) → Contains os k → IsAlone os k → member_of o ≡ member_of k
    → op_eq o k ≡ list_any (op_eq o) os
one_same os o k at alone is =
    elim (cases_Bool (op_eq o k)) [
      | inl same ↦ same ∙ sym (passes_any (op_eq o) os k at same)
      | inr other ↦
          other ∙ sym (false_from_ne_true (list_any (op_eq o) os) (λ e.
          let e_k : o ≡ k = alone o ((same_any o os).0 e) is in
          true≢false (sym ((op_eq_decides o k).1 e_k) ∙ other)))
    ]

pub one_other : (os : List OpData) (o k : OpData) (n : NameData) → Contains os k → IsAlone os k → member_of o ≡ Original n
    → member_of k ≡ Original n → not (op_eq o k) ≡ list_any (is_other o) os
one_other os o k n at alone is k_is =
    elim (cases_Bool (op_eq o k)) [
      | inl same ↦
          ap not same ∙ sym (false_from_ne_true (list_any (is_other o) os) (λ e.
          let has = (other_any o os n is).0 e in
          let that : has.other ≡ k = alone has.other has.there (has.same_name ∙ sym k_is) in
          has.differs (that ∙ sym ((op_eq_decides o k).0 same))))
      | inr other ↦
          ap not other ∙ sym ((other_any o os n is).1 (record {
            other = k;
            there = at;
            same_name = k_is;
            differs = λ same. true≢false (sym ((op_eq_decides o k).1 (sym same)) ∙ other);
          }))
    ]

-- in a history
pub alone_in_history : (h : List OpData) → IsValid h → (k : OpData) → Contains h k → IsAlone h k
alone_in_history h valid k at p there same = (complete h valid).one p k there at same

-- the site that a book finds is the first one that isn't covered
pub site_found : (h : List OpData) → IsValid h → (v : ContextData) → IsContext v → LacksNothing h v → (r : Option ℕ)
    → (IsNone r ↔ IsClosed h v) → IfSome r (IsFirstOpenSite h v) → r ≡ first_uncovered h v v.counts
site_found h valid v is ready r closed first = from r closed first (uncovered h (complete h valid) v ready is.counts)
  where
    from : (r : Option ℕ) → (IsNone r ↔ IsClosed h v) → IfSome r (IsFirstOpenSite h v) → SiteAnswer h v (first_uncovered h v v.counts)
        → r ≡ first_uncovered h v v.counts
    from None c f answer = sym (none_closed h v (first_uncovered h v v.counts) answer (c.0 refl))
    from (Some s) c f answer = sym (some_open h v (first_uncovered h v v.counts) s answer f)

-- the first missing member that a vector finds is the first one that is lacked
pub lacked_found : (h : List OpData) (have : ContextData) (o : OpData) → IsValid h → have ≡ context_of_all h → IsWellFormed o
    → (r : Option Member) → IfSome r (IsFirstMissing have (context_of o)) → (IsNone r ↔ Within (context_of o) have)
    → r ≡ lacked h (context_of o)
lacked_found h have o valid is formed None first none =
    sym (lacked_none h (complete h valid) (context_of o) (formed_context o formed)
    (λ m at. sym ((complete h valid).holds m) ∙ (ap (λ (c : ContextData). has c m) (sym is) ∙ none.0 refl m at)))
lacked_found h have o valid is formed (Some m) first none =
    sym (lacked_some h (complete h valid) (context_of o) m (formed_context o formed)
    (first_missing_is h (complete h valid) (context_of o) m (subst (λ (c : ContextData). IsFirstMissing c (context_of o) m) is first)))

pub none_lacking : (h : List OpData) (have : ContextData) (o : OpData) → IsValid h → have ≡ context_of_all h → (r : Option Member)
    → (IsNone r ↔ Within (context_of o) have) → IfNone r (LacksNothing h (context_of o))
none_lacking h have o valid is None none =
    λ m at. sym ((complete h valid).holds m) ∙ (ap (λ (c : ContextData). has c m) (sym is) ∙ none.0 refl m at)
none_lacking h have o valid is (Some m) none = tt

pub known_found : (h : List OpData) (n : NameData) (o : OpData) → Contains h o → member_of o ≡ Original n → is_known h (Original n) ≡ true
known_found h n o at is = ap (is_known h) (sym is) ∙ known_member h o at
