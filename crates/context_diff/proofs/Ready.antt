-- Differences in a history's order: a member of one, with what stands before and after it, and that its base context comes first.
use Rattle.std.proofs.Common.{◌≡◌, Bool, true, false, inl, inr, List, [], ◌∷◌, ◌++◌, refl, ap, sym, subst, ◌∙◌, not}
use Rattle.std.specs.Prelude.{◌&&◌, filter, if◌then◌else◌, Contains}
use Rattle.std.proofs.lemmas.Bool.{false≢true, and_from, or_cases, not_from_false, cases_Bool, and_parts}
use Rattle.op_name.specs.declared.member.Member.{Member}
use Rattle.op_name.specs.Members.{member_eq}
use Rattle.context_vector.specs.Contexts.{has}
use Rattle.context_diff.specs.Operations.{OpData, member_of}
use Rattle.context_diff.specs.Histories.{is_known, members_in, IsValid}
use Rattle.context_diff.specs.Bases.{base_has}
use Rattle.context_diff.specs.Differences.{DifferenceIsReady}
use Rattle.context_diff.proofs.Names.{member_same}
use Rattle.context_diff.proofs.Known.{contains_here, contains_later}
use Rattle.context_diff.proofs.Complete.{complete}
use Rattle.context_diff.proofs.ClosedSets.{closed_set}
use Rattle.context_diff.proofs.Order.{earlier}

-- the operation of the history at which a list of its members that pass is cut
pub record IsCutAt (p : Member → Bool) (h : List OpData) (xs : List Member) (m : Member) (ys : List Member) : Type 0 where
  pub before : List OpData
  pub op : OpData
  pub after : List OpData
  pub whole : h ≡ before ++ op ∷ after
  pub is : member_of op ≡ m
  pub passes : p m ≡ true
  pub first : filter p (members_in before) ≡ xs
  pub rest : filter p (members_in after) ≡ ys

passing : (p : Member → Bool) (o : OpData) (os : List OpData) → p (member_of o) ≡ true
    → filter p (members_in (o ∷ os)) ≡ member_of o ∷ filter p (members_in os)
passing p o os e = ap (λ (b : Bool). if b then member_of o ∷ filter p (members_in os) else filter p (members_in os)) e

failing : (p : Member → Bool) (o : OpData) (os : List OpData) → p (member_of o) ≡ false
    → filter p (members_in (o ∷ os)) ≡ filter p (members_in os)
failing p o os e = ap (λ (b : Bool). if b then member_of o ∷ filter p (members_in os) else filter p (members_in os)) e

-- an operation in front that fails, and one that passes
past_one : (p : Member → Bool) (o : OpData) (os : List OpData) (xs : List Member) (m : Member) (ys : List Member) → p (member_of o) ≡ false
    → IsCutAt p os xs m ys → IsCutAt p (o ∷ os) xs m ys
past_one p o os xs m ys fails c = record {
  before = o ∷ c.before;
  op = c.op;
  after = c.after;
  whole = ap (λ (k : List OpData). o ∷ k) c.whole;
  is = c.is;
  passes = c.passes;
  first = failing p o c.before fails ∙ c.first;
  rest = c.rest;
}

past_member : (p : Member → Bool) (o : OpData) (os : List OpData) (xs : List Member) (m : Member) (ys : List Member)
    → p (member_of o) ≡ true → IsCutAt p os xs m ys → IsCutAt p (o ∷ os) (member_of o ∷ xs) m ys
past_member p o os xs m ys passes c = record {
  before = o ∷ c.before;
  op = c.op;
  after = c.after;
  whole = ap (λ (k : List OpData). o ∷ k) c.whole;
  is = c.is;
  passes = c.passes;
  first = passing p o c.before passes ∙ ap (λ (zs : List Member). member_of o ∷ zs) c.first;
  rest = c.rest;
}

no_member : (m : Member) (ms : List Member) → [] ≡ m ∷ ms → ⊥
no_member m ms e = cc

pub cut_at : (p : Member → Bool) (h : List OpData) (xs : List Member) (m : Member) (ys : List Member)
    → filter p (members_in h) ≡ xs ++ m ∷ ys → IsCutAt p h xs m ys
cut_at p [] [] m ys e = absurd (no_member m ys e)
cut_at p [] (x ∷ xs) m ys e = absurd (no_member x (xs ++ m ∷ ys) e)
cut_at p (o ∷ os) [] m ys e =
    elim (cases_Bool (p (member_of o))) [
      | inl passes ↦
          let all : member_of o ∷ filter p (members_in os) ≡ m ∷ ys = sym (passing p o os passes) ∙ e in
          let is : member_of o ≡ m = cc in
          let rest : filter p (members_in os) ≡ ys = cc in
          record { before = []; op = o; after = os; whole = refl; is = is; passes = ap p (sym is) ∙ passes; first = refl; rest = rest }
      | inr fails ↦ past_one p o os [] m ys fails (cut_at p os [] m ys (sym (failing p o os fails) ∙ e))
    ]
cut_at p (o ∷ os) (x ∷ xs) m ys e =
    elim (cases_Bool (p (member_of o))) [
      | inl passes ↦
          let all : member_of o ∷ filter p (members_in os) ≡ x ∷ (xs ++ m ∷ ys) = sym (passing p o os passes) ∙ e in
          let is : member_of o ≡ x = cc in
          let rest : filter p (members_in os) ≡ xs ++ m ∷ ys = cc in
          subst (λ (z : Member). IsCutAt p (o ∷ os) (z ∷ xs) m ys) is (past_member p o os xs m ys passes (cut_at p os xs m ys rest))
      | inr fails ↦ past_one p o os (x ∷ xs) m ys fails (cut_at p os (x ∷ xs) m ys (sym (failing p o os fails) ∙ e))
    ]

-- a member of the history that passes is in the list of those that do
pub passing_there : (p : Member → Bool) (h : List OpData) (y : Member) → is_known h y ≡ true → p y ≡ true
    → Contains (filter p (members_in h)) y
passing_there p [] y known passes = absurd (false≢true known)
passing_there p (o ∷ os) y known passes =
    let rest : List Member = filter p (members_in os) in
    elim (or_cases (member_eq (member_of o) y) (is_known os y) known) [
      | inl same ↦
          let is : member_of o ≡ y = member_same (member_of o) y same in
          subst (λ (ms : List Member). Contains ms y) (sym (passing p o os (ap p is ∙ passes)))
          (subst (λ (z : Member). Contains (z ∷ rest) y) (sym is) (contains_here y rest))
      | inr later ↦
          let there : Contains rest y = passing_there p os y later passes in
          elim (cases_Bool (p (member_of o))) [
            | inl here ↦ subst (λ (ms : List Member). Contains ms y) (sym (passing p o os here)) (contains_later (member_of o) rest y there)
            | inr fails ↦ subst (λ (ms : List Member). Contains ms y) (sym (failing p o os fails)) there
          ]
    ]

pub difference_is_ready : DifferenceIsReady
difference_is_ready h from to before m after v closed_to e y needs =
    let c = cut_at (λ z. has to z && not (has from z)) h before m after e in
    let k = c.before ++ c.op ∷ c.after in
    let there : has to y ≡ true =
    (closed_set h (complete h v) to closed_to).closed m y (and_parts (has to m) (not (has from m)) c.passes).0 needs in
    let needs' : base_has k (member_of c.op) y ≡ true = (λ i. base_has (sym c.whole i) (c.is i) y) ∙ needs in
    let early : is_known c.before y ≡ true = earlier c.before c.op c.after (subst IsValid c.whole v) y needs' in
    elim (cases_Bool (has from y)) [
      | inl seen ↦ inl seen
      | inr lacking ↦
          inr (subst (λ (ms : List Member). Contains ms y) c.first
          (passing_there (λ z. has to z && not (has from z)) c.before y early
          (and_from (has to y) (not (has from y)) there (not_from_false (has from y) lacking))))
    ]
