-- The rows with which a site may begin: that of the first members of its book, and that of the author.
use Rattle.std.proofs.Common.{◌≡◌, ◌≢◌, ℕ, zero, suc, ◌≤◌, Bool, true, false, inl, inr, List, [], ◌∷◌, length, take, drop, refl, sym, ap, subst, ◌∙◌, arith}
use Rattle.std.proofs.lemmas.Bool.{cases_Bool, both_ways}
use Rattle.std.proofs.lemmas.List.{take-append-drop, take-append-le}
use Rattle.op_name.specs.declared.member.Member.{Member}
use Rattle.op_name.specs.declared.member.Member.TheVariants.{Original}
use Rattle.context_vector.specs.Contexts.{ContextData, has}
use Rattle.context_diff.specs.Operations.{OpData, member_of, is_insert}
use Rattle.context_diff.specs.Histories.{members_in}
use Rattle.ttf_form.specs.Families.{IsIn}
use Rattle.transform_rec.specs.Sets.{none, plus, plus_all}
use Rattle.transform_rec.specs.Family.{IsSound}
use Rattle.transform_rec.specs.Derived.{Deriving}
use Rattle.transform_rec.specs.Executing.{IsCausalFrom}
use Rattle.transform_rec.proofs.CallerLemmas.{all_cases, all_in, base_sound, book_run, causal_closed, causal_parts, closed_plus, in_cases, in_left, in_right, none_closed, plus_cases}
use Rattle.form_rows.specs.RowSets.{Inertness, RowData, IsSource}
use Rattle.form_rows.specs.Firsts.{HasFirst}
use Rattle.form_rows.specs.Kept.{IsAuthorRow, IsLast, IsFirstRow, IsBeginning, CoversAreInert}
use Rattle.form_rows.specs.declared.rows.AuthorRow.{AuthorRow}
use Rattle.form_rows.proofs.Followers.{forms_length}
use Rattle.form_rows.proofs.Looks.{first_row}

pub in_take_more : {A : Type 0} (x : A) (xs : List A) (i j : ℕ) → i ≤ j → IsIn x (take i xs) → IsIn x (take j xs)
in_take_more x xs zero j le i = absurd i
in_take_more x [] (suc i) zero le n = absurd n
in_take_more x [] (suc i) (suc j) le n = absurd n
in_take_more x (y ∷ ys) (suc i) zero le n = absurd (omega arith)
in_take_more x (y ∷ ys) (suc i) (suc j) le (inl e) = inl e
in_take_more x (y ∷ ys) (suc i) (suc j) le (inr n) = inr (in_take_more x ys i j (omega arith) n)

pub in_take : {A : Type 0} (x : A) (xs : List A) (i : ℕ) → IsIn x (take i xs) → IsIn x xs
in_take x xs zero i = absurd i
in_take x [] (suc i) n = absurd n
in_take x (y ∷ ys) (suc i) (inl e) = inl e
in_take x (y ∷ ys) (suc i) (inr n) = inr (in_take x ys i n)

-- a member of the first members of a history is that of one of its first operations
first_op : (z : Member) (h : List OpData) (k : ℕ) → IsIn z (take k (members_in h)) → (o : OpData) × IsIn o (take k h) × (member_of o ≡ z)
first_op z h zero i = absurd i
first_op z [] (suc k) i = absurd i
first_op z (o ∷ os) (suc k) (inl e) = (o, inl refl, sym e)
first_op z (o ∷ os) (suc k) (inr i) = let r = first_op z os k i in (r.0, inr r.1, r.2)

-- the row of at most so many first members whose inserts a context has
pub first_members_row : {F : Type 0} (h : List OpData) (c : ContextData) (most first : ℕ) (r : RowData F) → r.forms ≡ [] → r.upto ≤ first
    → r.upto ≤ most → HasFirst h c first → IsFirstRow h c most r
first_members_row h c most first r none low bound inserts =
    (none, bound, λ o there insert. inserts o (in_take_more o h r.upto first low there) insert)

module _ {F : Type 0} (d : Deriving F) (IsInert : F → Type 0) (n : Inertness d.inclusion.over IsInert) (m : Member) (before : List Member)
    (executed : List F) (rows : List (AuthorRow F)) (w : IsLast d.inclusion.over IsInert d.family m before executed rows) where
  parted : IsCausalFrom d.family none before × IsCausalFrom d.family (plus_all none before) (m ∷ [])
  parted = causal_parts d.family before (m ∷ []) none
      (subst (λ (l : List Member). IsCausalFrom d.family none l) w.whole (book_run d.family d.known.causal))

  pub last_listed : IsIn m d.family.members
  last_listed = subst (λ (l : List Member). IsIn m l) (sym w.whole) (in_right m before (m ∷ []) (inl refl))

  before_listed : (z : Member) → IsIn z before → IsIn z d.family.members
  before_listed z i = subst (λ (l : List Member). IsIn z l) (sym w.whole) (in_left z before (m ∷ []) i)

  pub last_other : (z : Member) → IsIn z before → m ≢ z
  last_other z i e =
      both_ways (plus_all none before m) parted.1.0.lacks
      (subst (λ (y : Member). plus_all none before y ≡ true) (sym e) (all_in before none z i))

  within : (z : Member) → d.family.context m z ≡ true → plus_all none before z ≡ true
  within z h =
      let s : IsSound d.family m (d.family.context m) = base_sound d.family d.known.causal m last_listed in
      elim (in_cases z before (m ∷ []) (subst (λ (l : List Member). IsIn z l) w.whole (d.known.causal.listed m z last_listed h))) [
        | inl i ↦ all_in before none z i
        | inr (inl e) ↦ absurd (both_ways (d.family.context m m) s.lacks (subst (λ (y : Member). d.family.context m y ≡ true) e h))
        | inr (inr i) ↦ absurd i
      ]

  -- the row of the first members, of which m's base context has all but inert ones
  pub first_source : (k : ℕ) → k ≤ length before
      → ((z : Member) → IsIn z (take k before) → d.family.context m z ≡ false → IsInert (d.family.form z))
      → IsSource d.inclusion.over IsInert d.family m (plus_all none (take k before)) before executed (record { forms = []; upto = k })
  first_source k le near =
      let run =
      (causal_parts d.family (take k before) (drop k before) none
      (subst (λ (l : List Member). IsCausalFrom d.family none l) (sym (take-append-drop k before)) parted.0)).0 in
      record {
        first = (m ∷ [], w.whole);
        executed = w.forms;
        row = first_row d IsInert n k before le;
        closed = causal_closed d.family (take k before) none (none_closed d.family) run;
        near = λ z h o. elim (all_cases (take k before) none z h) [ inl e ↦ absurd (both_ways false refl e) | inr i ↦ near z i o ];
        listed = last_listed;
        within = within;
        other = last_other;
      }

  -- the row of an original in m's base context
  pub own_source : (k : AuthorRow F) → IsAuthorRow d.inclusion.over IsInert d.family before k → d.family.context m (Original k.last) ≡ true
      → IsSource d.inclusion.over IsInert d.family m (plus (d.family.context (Original k.last)) (Original k.last)) before executed k.row
  own_source k a there =
      let x : Member = Original k.last in
      record {
        first = (m ∷ [], w.whole);
        executed = w.forms;
        row = a.row;
        closed = closed_plus d.family x (d.family.context x) (base_sound d.family d.known.causal x (before_listed x a.listed));
        near = λ z h o. elim (plus_cases (d.family.context x) x z h) [
          | inl c ↦ absurd (both_ways (d.family.context m z) o (d.known.causal.closed m x last_listed there z c))
          | inr e ↦ absurd (both_ways (d.family.context m z) o (subst (λ (y : Member). d.family.context m y ≡ true) e there))
        ];
        listed = last_listed;
        within = within;
        other = last_other;
      }

  -- the first members, of whose inserts the context lacks none
  common_near : (h : List OpData) (c : ContextData) (k : ℕ) → d.family.members ≡ members_in h → CoversAreInert IsInert d.family.form h
      → ((y : Member) → has c y ≡ d.family.context m y) → k ≤ length before
      → HasFirst h c k → (z : Member) → IsIn z (take k before) → d.family.context m z ≡ false → IsInert (d.family.form z)
  common_near h c k all covers context le inserts z i out =
      let same : take k (members_in h) ≡ take k before =
      ap (λ (l : List Member). take k l) (sym all ∙ w.whole) ∙ take-append-le k before (m ∷ []) le in
      let r = first_op z h k (subst (λ (l : List Member). IsIn z l) (sym same) i) in
      elim (cases_Bool (is_insert r.0)) [
        | inl insert ↦ absurd (both_ways (d.family.context m z) out
            (subst (λ (y : Member). d.family.context m y ≡ true) r.2 (sym (context (member_of r.0)) ∙ inserts r.0 r.1 insert)))
        | inr cover ↦ subst (λ (y : Member). IsInert (d.family.form y)) r.2 (covers r.0 (in_take r.0 h k r.1) cover)
      ]

  -- the row to begin with is one out of which m may be executed
  pub beginning_source : (h : List OpData) (c : ContextData) (r : RowData F) → d.family.members ≡ members_in h
      → CoversAreInert IsInert d.family.form h → ((y : Member) → has c y ≡ d.family.context m y)
      → IsBeginning rows h c (length executed) r → (C : Member → Bool) × IsSource d.inclusion.over IsInert d.family m C before executed r
  beginning_source h c r all covers context (inl (k, there, e)) =
      let x : Member = Original k.last in
      let S = plus (d.family.context x) x in (
        S,
        subst (λ (q : RowData F). IsSource d.inclusion.over IsInert d.family m S before executed q) (sym e)
            (own_source k (w.known k there.0) (sym (context x) ∙ there.1)),
      )
  beginning_source h c r all covers context (inr f) =
      let size : length executed ≡ length before = forms_length d before none executed w.forms in
      let low = f.1 in
      let within : r.upto ≤ length before = omega (arith, low, size) in
      let S = plus_all none (take r.upto before) in
      let made = first_source r.upto within (common_near h c r.upto all covers context within f.2) in (
        S,
        subst (λ (l : List F). IsSource d.inclusion.over IsInert d.family m S before executed (record { forms = l; upto = r.upto }))
            (sym f.0) made,
      )
