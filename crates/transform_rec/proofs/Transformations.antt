-- The turns of a transformation over a valid history, as the code takes them: contexts in place of sets, and the rest of the
-- difference as what a list has from a place on.
use Rattle.std.proofs.Common.{◌≡◌, ℕ, suc, ◌+◌, ◌<◌, ◌≤◌, Bool, true, List, [], ◌∷◌, ◌++◌, length, get_or, drop, inl, inr, refl, sym, ap, ap₂, subst, ◌∙◌, arith}
use Rattle.std.proofs.lemmas.List.{drop_more, drop_all}
use Rattle.op_name.specs.declared.member.Member.{Member}
use Rattle.op_name.specs.Members.{IsMember}
use Rattle.context_vector.specs.Contexts.{ContextData, has, raised, IsNextMember, Within}
use Rattle.context_diff.specs.Operations.{OpData}
use Rattle.context_diff.specs.Histories.{members_in, is_known, context_of_all, IsValid}
use Rattle.context_diff.specs.Bases.{base_has, base_context_of}
use Rattle.context_diff.specs.Differences.{difference_of}
use Rattle.context_diff.proofs.CallerLemmas.{complete, base_value, has_raised, in_known}
use Rattle.ttf_form.specs.declared.bases.Bases
use Rattle.ttf_form.specs.Families.{IsIn, sum_where, total_by}
use Rattle.ttf_form.specs.declared.include.TheConstants.{CELLS}
use Rattle.transform_rec.specs.Lists.{AreApart}
use Rattle.transform_rec.specs.Sets.{SameSet, plus}
use Rattle.transform_rec.specs.Family.{IsCausal, IsCausalFamily, size}
use Rattle.transform_rec.specs.Derived.{IsOnlyFormAt, Inclusion, IsInclusion, weight, IsFamily, Deriving}
use Rattle.transform_rec.specs.Laws.{family_of}
use Rattle.transform_rec.specs.Histories.{family_in, family_over, AreBasesOf, MayBeAddedTo}
use Rattle.transform_rec.proofs.Sets.{same_set}
use Rattle.transform_rec.proofs.Histories.{history_causal, added_sound, sound_added, known_generation, added_next}
use Rattle.transform_rec.specs.Code.Pending.{IsOnWay}
use Rattle.transform_rec.proofs.Turns.{Inertness, way_first, way_falls, way_room, way_next, way_pass, way_last}

-- what is appended to a list without elements
pub from_nothing : {A : Type 0} (xs ys zs new : List A) → xs ≡ ys → ys ≡ zs ++ new → zs ≡ [] → xs ≡ new
from_nothing {A} xs ys zs new e f g = e ∙ (f ∙ ap (λ (l : List A). l ++ new) g)

-- ---- bases of a history

module _ {B F : Type 0} (b : Bases.Ghosts B F) (s : B) (h : List OpData) (r : AreBasesOf b s h) where
  from_bases : (x : Member) → IsIn x (b.members s) → IsIn x (members_in h)
  from_bases x i = subst (λ (ms : List Member). IsIn x ms) r.members i

  to_bases : (x : Member) → IsIn x (members_in h) → IsIn x (b.members s)
  to_bases x i = subst (λ (ms : List Member). IsIn x ms) (sym r.members) i

  -- what the base context of a listed member has
  listed_context : (m y : Member) → IsIn m (members_in h) → b.base_context s m y ≡ base_has h m y
  listed_context m y i = r.contexts m y (in_known h m i)

  causal_list : (ms : List Member) → ((x : Member) → IsIn x ms → IsIn x (members_in h)) → IsCausal (base_has h) ms
      → IsCausal (b.base_context s) ms
  causal_list [] l c = tt
  causal_list (m ∷ ms) l c = ((λ z i. listed_context m z (l m (inl refl)) ∙ c.0 z i), causal_list ms (λ x i. l x (inr i)) c.1)

  -- bases of a valid history are a causal family
  pub bases_causal : IsValid h → IsCausalFamily (family_of b s)
  bases_causal v =
      let c = history_causal h (b.base_form s) v in
      record {
        distinct = subst (λ (ms : List Member). AreApart ms) (sym r.members) c.distinct;
        causal = subst (λ (ms : List Member). IsCausal (b.base_context s) ms) (sym r.members)
            (causal_list (members_in h) (λ x i. i) c.causal);
        listed = λ m x i e. to_bases x (c.listed m x (from_bases m i) (sym (listed_context m x (from_bases m i)) ∙ e));
        closed = λ m x i e y k.
            let j = from_bases m i in
            let there = sym (listed_context m x j) ∙ e in
            listed_context m y j ∙ c.closed m x j there y (sym (listed_context x y (c.listed m x j there)) ∙ k);
      }

  -- what is known of the family of the bases is known of the family of the history with these base forms
  pub bases_known : (i : Inclusion F) → IsFamily i (family_of b s) → IsValid h → IsFamily i (family_over b s h)
  bases_known i k v = record {
    causal = history_causal h (b.base_form s) v;
    apart = λ m x j l ne c d. k.apart m x (to_bases m j) (to_bases x l) ne (listed_context m x j ∙ c) (listed_context x m l ∙ d);
    bounded = λ m j.
        let same : b.base_context s m ≡ base_has h m = same_set (b.base_context s m) (base_has h m) (λ y. listed_context m y j) in
        let weighs : weight i (family_of b s) (b.base_context s m) ≡ weight i (family_over b s h) (base_has h m) =
        ap₂ (λ (C : Member → Bool) (ms : List Member). sum_where C (λ x. i.extent (b.base_form s x)) ms) same r.members in
        subst (λ (n : ℕ). i.IsBounded (b.base_form s m) n) weighs (k.bounded m (to_bases m j));
  }

-- all that a transformation over a history rests on
pub record OverHistory (F : Type 0) : Type 1 where
  pub inclusion : Inclusion F
  pub laws : IsInclusion inclusion
  pub history : List OpData
  pub form : Member → F
  pub known : IsFamily inclusion (family_in history form)
  pub valid : IsValid history

abbrev pub over_history : {B F : Type 0} {i : Inclusion F} (b : Bases.Ghosts B F) (s : B) (h : List OpData) → AreBasesOf b s h
    → IsInclusion i → IsFamily i (family_of b s) → IsValid h → OverHistory F
over_history {i = i} b s h r l k v = record {
  inclusion = i;
  laws = l;
  history = h;
  form = b.base_form s;
  known = bases_known b s h r i k v;
  valid = v;
}

-- a context within a history lies in the context of all its members
pub within_all : (h : List OpData) → IsValid h → (to all : ContextData) → all ≡ context_of_all h
    → ((m : Member) → has to m ≡ true → is_known h m ≡ true) → Within to all
within_all h v to all e ready m there = ap (λ (c : ContextData). has c m) e ∙ ((complete h v).holds m ∙ ready m there)

module _ {F : Type 0} (o : OverHistory F) where
  abbrev deriving_over : Deriving F
  deriving_over = record { inclusion = o.inclusion; laws = o.laws; family = family_in o.history o.form; known = o.known }

  abbrev pub OnWay : Member → ContextData → ContextData → F → List Member → Type 0
  OnWay m to c f rest = IsOnWay o.inclusion.over (family_in o.history o.form) m (has to) (has c) f rest

  pub way_start : (m : Member) (to c : ContextData) (f : F) (rest : List Member) → MayBeAddedTo o.history to m
      → c ≡ base_context_of o.history m → f ≡ o.form m → rest ≡ difference_of o.history c to → OnWay m to c f rest
  way_start m to c f rest a e p r =
      let same : SameSet (has c) (base_has o.history m) =
      λ (y : Member). ap (λ (d : ContextData). has d y) e ∙ base_value o.history (complete o.history o.valid) m a.known y in
      let first = way_first deriving_over m (has to) (has c) (added_sound o.history o.form o.valid to m a) same in
      subst (λ (g : F). OnWay m to c g rest) (sym p) (subst (λ (l : List Member). OnWay m to c (o.form m) l) (sym r) first)

  -- the next member of the rest
  pub way_at : (m x : Member) (to c : ContextData) (f : F) (xs : List Member) (n : ℕ) → n < length xs → x ≡ get_or xs n x
      → OnWay m to c f (drop n xs) → OnWay m to c f (x ∷ drop (n + 1) xs)
  way_at m x to c f xs n less e w =
      subst (λ (l : List Member). OnWay m to c f l) (drop_more xs n x less ∙ ap (λ (y : Member). y ∷ drop (n + 1) xs) (sym e)) w

  pub way_added : (m x : Member) (to c : ContextData) (f : F) (rest : List Member) → OnWay m to c f (x ∷ rest) → MayBeAddedTo o.history c x
  way_added m x to c f rest w = sound_added o.history o.form o.valid c x w.path.0

  pub way_member : (m x : Member) (to c : ContextData) (f : F) (rest : List Member) → OnWay m to c f (x ∷ rest) → IsMember x
  way_member m x to c f rest w = known_generation o.history o.valid x (way_added m x to c f rest w).known

  pub way_following : (m x : Member) (to c d : ContextData) (f : F) (rest : List Member) → OnWay m to c f (x ∷ rest) → d ≡ c
      → IsNextMember d x
  way_following m x to c d f rest w e =
      subst (λ (b : ContextData). IsNextMember b x) (sym e) (added_next o.history o.valid c x (way_added m x to c f rest w))

  pub way_less : (m x : Member) (to c : ContextData) (f : F) (rest : List Member) → OnWay m to c f (x ∷ rest)
      → suc (size (family_in o.history o.form) (has c)) ≤ size (family_in o.history o.form) (has to)
  way_less m x to c f rest w = way_falls deriving_over m x (has to) (has c) f rest w

  pub way_fits : (m x : Member) (to c : ContextData) (f k : F) (rest ms : List Member) → ms ≡ members_in o.history
      → total_by (λ y. o.inclusion.extent (o.form y)) ms ≤ CELLS → OnWay m to c f (x ∷ rest)
      → IsOnlyFormAt o.inclusion.over (family_in o.history o.form) x (has c) k → o.inclusion.place f + o.inclusion.extent k ≤ CELLS
  way_fits m x to c f k rest ms e total w only =
      let room = way_room deriving_over m x (has to) (has c) f k rest w only.0 in
      let all : total_by (λ y. o.inclusion.extent (o.form y)) (members_in o.history) ≤ CELLS =
      subst (λ (l : List Member). total_by (λ y. o.inclusion.extent (o.form y)) l ≤ CELLS) e total in
      omega arith

  pub way_on : (m x : Member) (to c d : ContextData) (f k g : F) (rest : List Member) → OnWay m to c f (x ∷ rest)
      → IsOnlyFormAt o.inclusion.over (family_in o.history o.form) x (has c) k → d ≡ raised c x → g ≡ o.inclusion.over f k
      → OnWay m to d g rest
  way_on m x to c d f k g rest w only e p =
      let next = added_next o.history o.valid c x (way_added m x to c f rest w) in
      let same : SameSet (has d) (plus (has c) x) = λ (y : Member). ap (λ (b : ContextData). has b y) e ∙ has_raised c x next y in
      subst (λ (h : F). OnWay m to d h rest) (sym p) (way_next deriving_over m x (has to) (has c) (has d) f k rest same w only.0)

  pub way_skip : (IsInert : F → Type 0) → Inertness o.inclusion.over IsInert
      → (m x : Member) (to c d : ContextData) (f g : F) (rest : List Member) → IsInert (o.form x) → OnWay m to c f (x ∷ rest)
      → d ≡ raised c x → g ≡ f → OnWay m to d g rest
  way_skip IsInert n m x to c d f g rest inert w e p =
      let next = added_next o.history o.valid c x (way_added m x to c f rest w) in
      let same : SameSet (has d) (plus (has c) x) = λ (y : Member). ap (λ (b : ContextData). has b y) e ∙ has_raised c x next y in
      subst (λ (h : F). OnWay m to d h rest) (sym p) (way_pass deriving_over IsInert n m x (has to) (has c) (has d) f rest inert same w)

  pub way_end : (m : Member) (to c : ContextData) (f : F) (xs : List Member) (n : ℕ) → length xs ≤ n → OnWay m to c f (drop n xs)
      → IsOnlyFormAt o.inclusion.over (family_in o.history o.form) m (has to) f
  way_end m to c f xs n past w =
      way_last deriving_over m (has to) (has c) f (subst (λ (l : List Member). OnWay m to c f l) (drop_all n xs past) w)
