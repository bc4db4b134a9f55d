-- The way back from a set towards a member's base context: the last member of the difference, in the order of the family, is
-- taken out first.
use Rattle.std.proofs.Common.{◌≡◌, ◌≢◌, ℕ, ◌+◌, ◌<◌, ◌≤◌, Bool, true, false, not, ◌&&◌, List, [], ◌∷◌, ◌++◌, length, take, drop, reverse, inl, inr, refl, sym, ap, subst, ◌∙◌, arith}
use Rattle.std.specs.Prelude.{Some, slice_get}
use Rattle.std.proofs.lemmas.Bool.{cases_Bool, both_ways, and_parts, and_from, not-true, not_from_false, false_from_ne_true}
use Rattle.std.proofs.lemmas.List.{drop_more, drop_all, take-append-drop, reverse-append, length-map}
use Rattle.std.proofs.lemmas.Option.{slice_get_within, get_or_from_slice_get}
use Rattle.op_name.specs.NameData.{NameData}
use Rattle.op_name.specs.declared.member.Member.{Member}
use Rattle.op_name.specs.declared.member.Member.TheVariants.{Original, Group}
use Rattle.op_name.specs.Members.{target_of, IsMember}
use Rattle.context_vector.specs.Contexts.{ContextData, has, count_of, entry_of}
use Rattle.context_vector.specs.Vectors.{IsLastMember}
use Rattle.context_vector.specs.Equality.{context_eq, context_eq_decides}
use Rattle.context_diff.specs.Operations.{OpData, member_of}
use Rattle.context_diff.specs.Histories.{members_in, IsValid}
use Rattle.context_diff.specs.Bases.{base_has}
use Rattle.context_diff.proofs.CallerLemmas.{IsClosedSet, has_number, has_original, has_generation, has_group, complete, own_earlier, in_original, in_group_below, below_group, in_known}
use Rattle.ttf_form.specs.Families.{IsIn}
use Rattle.form_cache.specs.Keys.{KeyData}
use Rattle.form_cache.specs.Entries.{Entries, form_at}
use Rattle.transform_rec.specs.Sets.{SameSet, plus, minus}
use Rattle.transform_rec.specs.Family.{Family, IsCausalFamily, IsSound}
use Rattle.transform_rec.specs.Derived.Derived.{at_base}
use Rattle.transform_rec.specs.Executing.{IsCausalFrom}
use Rattle.transform_rec.specs.Histories.{family_in, members_alone, MayBeAddedTo}
use Rattle.transform_rec.specs.Code.Pending.{IsOnWay, IsWalk, IsWayBack}
use Rattle.transform_rec.specs.Entries.{AreForms}
use Rattle.transform_rec.proofs.Lists.{LastOf, in_middle}
use Rattle.transform_rec.proofs.Sets.{plus_same, minus_parts, minus_from, minus_here, minus_plus, all_same}
use Rattle.transform_rec.proofs.Families.{sound_moves, mine_without, its_without}
use Rattle.transform_rec.proofs.CausalLists.{causal_moves}
use Rattle.transform_rec.proofs.Histories.{history_causal, added_sound, sound_added, closed_is_set, at_most_or_more, known_generation}
use Rattle.transform_rec.proofs.Keeping.{found_form}

module _ {F : Type 0} (b : Family F) (c : IsCausalFamily b) where
  -- each member of C that stands in the list is in m's base context
  abbrev pub IsLate : Member → (Member → Bool) → List Member → Type 0
  IsLate m C after = (y : Member) → C y ≡ true → IsIn y after → b.context m y ≡ true

  -- x, with what stands around it, as the last member of the difference
  last_between : (m x : Member) (C : Member → Bool) (before after : List Member) → b.members ≡ before ++ (x ∷ after) → C x ≡ true
      → b.context m x ≡ false → IsLate m C after → LastOf (λ y. C y && not (b.context m y)) b.members
  last_between m x C before after whole there out late = record {
    it = x;
    before = before;
    after = after;
    whole = whole;
    passes = and_from (C x) (not (b.context m x)) there (not_from_false (b.context m x) out);
    rest = λ z i. false_from_ne_true (C z && not (b.context m z))
        (λ t. let p = and_parts (C z) (not (b.context m z)) t in both_ways (b.context m z) (not-true (b.context m z) p.1) (late z p.0 i));
  }

  without_x : (m x : Member) (C : Member → Bool) (before after : List Member) → b.members ≡ before ++ (x ∷ after) → C x ≡ true
      → b.context m x ≡ false → IsLate m C after → IsSound b m C → IsSound b m (minus C x) × IsSound b x (minus C x)
  unfolding last_between
  without_x m x C before after whole there out late s =
      let l = last_between m x C before after whole there out late in
      (mine_without b c m C s l, its_without b c m C s l)

  -- one member less
  pub back_on : (m x : Member) (T C D : Member → Bool) (before after rest : List Member) → b.members ≡ before ++ (x ∷ after) → C x ≡ true
      → b.context m x ≡ false → IsLate m C after → SameSet D (minus C x) → IsWayBack b m T C rest → IsWayBack b m T D (x ∷ rest)
  back_on m x T C D before after rest whole there out late same w =
      let r = without_x m x C before after whole there out late w.sound in
      let back : SameSet (minus C x) D = λ (z : Member). sym (same z) in
      let put : SameSet C (plus D x) = λ (z : Member). minus_plus C x there z ∙ plus_same (minus C x) D x back z in
      record {
        sound = sound_moves b m (minus C x) D back r.0;
        path = (sound_moves b x (minus C x) D back r.1, causal_moves b C (plus D x) rest put w.path);
        whole = λ z. all_same rest (plus D x) C (λ y. sym (put y)) z ∙ w.whole z;
      }

  -- x may be added to what is left
  pub its_own : (m x : Member) (C : Member → Bool) (before after : List Member) → b.members ≡ before ++ (x ∷ after) → C x ≡ true
      → b.context m x ≡ false → IsLate m C after → IsSound b m C → IsSound b x (minus C x)
  its_own m x C before after whole there out late s = (without_x m x C before after whole there out late s).1

-- ---- lists by places

split_at : (xs : List Member) (i : ℕ) (x : Member) → slice_get xs i ≡ Some x → drop i xs ≡ x ∷ drop (i + 1) xs
split_at xs i x e =
    drop_more xs i x (slice_get_within xs i x e) ∙ ap (λ (y : Member). y ∷ drop (i + 1) xs) (get_or_from_slice_get xs i x x e)

parts_at : (xs : List Member) (i : ℕ) (x : Member) → slice_get xs i ≡ Some x → xs ≡ take i xs ++ (x ∷ drop (i + 1) xs)
parts_at xs i x e = sym (take-append-drop i xs) ∙ ap (λ (l : List Member). take i xs ++ l) (split_at xs i x e)

-- ---- histories

-- soundness and causal lists don't depend on the forms
sound_alone : {F : Type 0} (h : List OpData) (form : Member → F) (m : Member) (C : Member → Bool) → IsSound (members_alone h) m C
    → IsSound (family_in h form) m C
sound_alone h form m C s =
    record { listed = s.listed; covers = s.covers; set = record { listed = s.set.listed; closed = s.set.closed }; lacks = s.lacks }

causal_alone : {F : Type 0} (h : List OpData) (form : Member → F) (xs : List Member) (C : Member → Bool)
    → IsCausalFrom (members_alone h) C xs → IsCausalFrom (family_in h form) C xs
causal_alone h form [] C r = tt
causal_alone h form (x ∷ xs) C r = (sound_alone h form x C r.0, causal_alone h form xs (plus C x) r.1)

pub way_alone : {F : Type 0} (h : List OpData) (form : Member → F) (m : Member) (T C : Member → Bool) (rest : List Member)
    → IsWayBack (members_alone h) m T C rest → IsWayBack (family_in h form) m T C rest
way_alone h form m T C rest w = record { sound = sound_alone h form m C w.sound; path = causal_alone h form rest C w.path; whole = w.whole }

-- a member without which a context is a closed set is the last of its site or its name there
number_last : (h : List OpData) → IsValid h → (c : ContextData) (n : NameData) → has c (Original n) ≡ true
    → IsClosedSet h (minus (has c) (Original n)) → n.number ≡ count_of c n.site
number_last h v c n there s =
    let range = has_number c n there in
    let low = range.0 in
    let high = range.1 in
    let next : NameData = record { site = n.site; number = n.number + 1 } in
    let later : n.number < count_of c n.site → ⊥ = λ (less : n.number < count_of c n.site).
    let in_c = has_original c next (omega arith) (omega arith) in
    let other : Original n ≢ Original next =
    λ (e : Original n ≡ Original next). let same : n.number ≡ n.number + 1 = ap (λ (m : Member). (target_of m).number) e in
    absurd (omega arith) in
    let in_d = minus_from (has c) (Original n) (Original next) in_c other in
    let known = s.known (Original next) in_d in
    let base = in_original h next (Original n) known (own_earlier h (complete h v) next known n refl low (omega arith)) in
    both_ways (minus (has c) (Original n) (Original n)) (minus_here (has c) (Original n))
    (s.closed (Original next) (Original n) in_d base) in
    elim (at_most_or_more (count_of c n.site) n.number) [ inl most ↦ omega arith | inr less ↦ absurd (later less) ]

generation_last : (h : List OpData) → IsValid h → (c : ContextData) (t : NameData) (g : ℕ) → has c (Group t g) ≡ true
    → IsClosedSet h (minus (has c) (Group t g)) → g ≡ entry_of c t
generation_last h v c t g there s =
    let range = has_generation c t g there in
    let low = range.0 in
    let high = range.1 in
    let later : g < entry_of c t → ⊥ = λ (less : g < entry_of c t).
    let in_c = has_group c t (g + 1) (omega arith) (omega arith) in
    let other : Group t g ≢ Group t (g + 1) = λ (e : Group t g ≡ Group t (g + 1)). let same : g ≡ g + 1 = cc in absurd (omega arith) in
    let in_d = minus_from (has c) (Group t g) (Group t (g + 1)) in_c other in
    let known = s.known (Group t (g + 1)) in_d in
    let base = in_group_below h t (g + 1) (Group t g) known (below_group t (g + 1) g low (omega arith)) in
    both_ways (minus (has c) (Group t g) (Group t g)) (minus_here (has c) (Group t g)) (s.closed (Group t (g + 1)) (Group t g) in_d base) in
    elim (at_most_or_more (entry_of c t) g) [ inl most ↦ omega arith | inr less ↦ absurd (later less) ]

pub taken_last : (h : List OpData) → IsValid h → (c : ContextData) (x : Member) → has c x ≡ true → IsClosedSet h (minus (has c) x)
    → IsLastMember c x
taken_last h v c (Original n) there s = number_last h v c n there s
taken_last h v c (Group t g) there s = generation_last h v c t g there s

module _ (h : List OpData) (v : IsValid h) (m : Member) where
  alone : IsCausalFamily (members_alone h)
  alone = history_causal h (λ x. tt) v

  -- each member of C from this place of the history on is in m's base context
  abbrev pub IsLateFrom : (Member → Bool) → ℕ → Type 0
  IsLateFrom C i = (y : Member) → C y ≡ true → IsIn y (drop i (members_in h)) → base_has h m y ≡ true

  abbrev pub Back : (Member → Bool) → (Member → Bool) → List Member → Type 0
  Back T C taken = IsWayBack (members_alone h) m T C (reverse taken)

  pub late_end : (C : Member → Bool) (i : ℕ) → length (members_in h) ≤ i → IsLateFrom C i
  late_end C i past y there i-in = absurd (subst (λ (l : List Member). IsIn y l) (drop_all i (members_in h) past) i-in)

  pub back_first : (c : ContextData) → MayBeAddedTo h c m → Back (has c) (has c) []
  back_first c a = record { sound = added_sound h (λ x. tt) v c m a; path = tt; whole = λ z. refl }

  -- the place before, whose member stays
  pub late_stays : (x : Member) (C : Member → Bool) (i j : ℕ) → j + 1 ≡ i → slice_get (members_in h) j ≡ Some x
      → (C x ≡ true → base_has h m x ≡ true) → IsLateFrom C i → IsLateFrom C j
  late_stays x C i j e at own late y there i-in =
      elim (subst (λ (l : List Member). IsIn y l) (split_at (members_in h) j x at) i-in) [
        | inl same ↦ subst (λ (z : Member). base_has h m z ≡ true) (sym same) (own (subst (λ (z : Member). C z ≡ true) same there))
        | inr later ↦ late y there (subst (λ (k : ℕ). IsIn y (drop k (members_in h))) e later)
      ]

  late_at : (C : Member → Bool) (i j : ℕ) → j + 1 ≡ i → IsLateFrom C i → IsLate (members_alone h) alone m C (drop (j + 1) (members_in h))
  late_at C i j e late y there i-in = late y there (subst (λ (k : ℕ). IsIn y (drop k (members_in h))) e i-in)

  -- the place before, whose member is taken out
  pub late_taken : (x : Member) (C D : Member → Bool) (i j : ℕ) → j + 1 ≡ i → slice_get (members_in h) j ≡ Some x → SameSet D (minus C x)
      → IsLateFrom C i → IsLateFrom D j
  late_taken x C D i j e at same late =
      late_stays x D i j e at
      (λ there. absurd (both_ways (minus C x x) (minus_here C x) (sym (same x) ∙ there)))
      (λ y there i-in. late y (minus_parts C x y (sym (same y) ∙ there)).0 i-in)

  pub back_taken : (x : Member) (T C D : Member → Bool) (i j : ℕ) (taken : List Member) → j + 1 ≡ i → slice_get (members_in h) j ≡ Some x
      → C x ≡ true → base_has h m x ≡ false → SameSet D (minus C x) → IsLateFrom C i → Back T C taken → Back T D (taken ++ (x ∷ []))
  back_taken x T C D i j taken e at there out same late w =
      subst (λ (l : List Member). IsWayBack (members_alone h) m T D l) (sym (reverse-append taken (x ∷ [])))
      (back_on (members_alone h) alone m x T C D (take j (members_in h)) (drop (j + 1) (members_in h)) (reverse taken)
      (parts_at (members_in h) j x at) there out (late_at C i j e late) same w)

  pub back_last : (x : Member) (T : Member → Bool) (c : ContextData) (i j : ℕ) (taken : List Member) → j + 1 ≡ i
      → slice_get (members_in h) j ≡ Some x → has c x ≡ true → base_has h m x ≡ false → IsLateFrom (has c) i → Back T (has c) taken
      → IsLastMember c x
  back_last x T c i j taken e at there out late w =
      let s = its_own (members_alone h) alone m x (has c) (take j (members_in h)) (drop (j + 1) (members_in h))
      (parts_at (members_in h) j x at) there out (late_at (has c) i j e late) w.sound in
      taken_last h v c x there (closed_is_set h (λ y. tt) (minus (has c) x) s.set)

-- ---- the walk

module _ (h : List OpData) (v : IsValid h) (from : KeyData) where
  abbrev pub Walk : KeyData → List Member → ℕ → Type 0
  Walk at taken i = IsWalk h from at taken i

  pub walk_first : (taken : List Member) (i : ℕ) → MayBeAddedTo h from.context from.member → taken ≡ [] → i ≡ length h → Walk from taken i
  walk_first taken i a e long =
      let same : length (members_in h) ≡ length h = length-map h member_of in
      record {
        near = omega arith;
        member = refl;
        back = subst (λ (s : List Member). Back h v from.member (has from.context) (has from.context) s) (sym e)
            (back_first h v from.member from.context a);
        late = late_end h v from.member (has from.context) i (omega arith);
      }

  -- the base context, as it is kept for the walk
  abbrev pub IsOwn : ContextData → Type 0
  IsOwn own = (y : Member) → has own y ≡ base_has h from.member y

  pub walk_own : (at : KeyData) (own : ContextData) → IsOwn own → context_eq at.context own ≡ true
      → SameSet (has at.context) (base_has h from.member)
  walk_own at own is e y = ap (λ (c : ContextData). has c y) ((context_eq_decides at.context own).0 e) ∙ is y

  -- what the test of the walk says of a member
  between : (at : KeyData) (own : ContextData) (x : Member) → IsOwn own → (has at.context x && not (has own x)) ≡ true
      → (has at.context x ≡ true) × (base_has h from.member x ≡ false)
  between at own x is e =
      let p = and_parts (has at.context x) (not (has own x)) e in
      (p.0, sym (is x) ∙ not-true (has own x) p.1)

  pub walk_last : (at : KeyData) (taken : List Member) (i j : ℕ) (own : ContextData) (x : Member) → j + 1 ≡ i
      → slice_get (members_in h) j ≡ Some x → IsOwn own → (has at.context x && not (has own x)) ≡ true → Walk at taken i
      → IsLastMember at.context x
  walk_last at taken i j own x e here is t w =
      let p = between at own x is t in
      back_last h v from.member x (has from.context) at.context i j taken e here p.0 p.1 w.late w.back

  pub walk_taken : (at to : KeyData) (taken more : List Member) (i j : ℕ) (own : ContextData) (x : Member) → j + 1 ≡ i
      → slice_get (members_in h) j ≡ Some x → IsOwn own → (has at.context x && not (has own x)) ≡ true
      → SameSet (has to.context) (minus (has at.context) x) → to.member ≡ at.member → more ≡ taken ++ (x ∷ [])
      → Walk at taken i → Walk to more j
  walk_taken at to taken more i j own x e here is t same member long w =
      let p = between at own x is t in
      let near = w.near in
      record {
        near = omega arith;
        member = member ∙ w.member;
        back = subst (λ (s : List Member). Back h v from.member (has from.context) (has to.context) s) (sym long)
            (back_taken h v from.member x (has from.context) (has at.context) (has to.context) i j taken e here p.0 p.1 same w.late w.back);
        late = late_taken h v from.member x (has at.context) (has to.context) i j e here same w.late;
      }

  pub walk_past : (at : KeyData) (taken : List Member) (i j : ℕ) (own : ContextData) (x : Member) → j + 1 ≡ i
      → slice_get (members_in h) j ≡ Some x → IsOwn own → (has at.context x && not (has own x)) ≡ false → Walk at taken i → Walk at taken j
  walk_past at taken i j own x e here is t w =
      let near = w.near in
      let seen : has at.context x ≡ true → base_has h from.member x ≡ true = λ (there : has at.context x ≡ true).
      elim (cases_Bool (has own x)) [
        | inl k ↦ sym (is x) ∙ k
        | inr k ↦
            absurd (both_ways (has at.context x && not (has own x)) t
            (and_from (has at.context x) (not (has own x)) there (not_from_false (has own x) k)))
      ] in
      record {
        near = omega arith;
        member = w.member;
        back = w.back;
        late =
            late_stays h v from.member x (has at.context) i j e here seen w.late;
      }

-- ---- forms at the end of the walk

module _ {F : Type 0} (over : F → F → F) (h : List OpData) (form : Member → F) where
  pub found_way : (es : Entries F) (at : KeyData) (m : Member) (T : Member → Bool) (rest : List Member) (f : F)
      → AreForms over (family_in h form) es → form_at es at ≡ Some f → at.member ≡ m → T m ≡ false
      → IsWayBack (members_alone h) m T (has at.context) rest → IsOnWay over (family_in h form) at.member T (has at.context) f rest
  found_way es at m T rest f known there e lacks w = record {
    derived = (found_form over (family_in h form) es at f known there).0;
    path = causal_alone h form rest (has at.context) w.path;
    whole = w.whole;
    lacks = subst (λ (x : Member). T x ≡ false) (sym e) lacks;
  }

  pub base_way : (at : KeyData) (m : Member) (T : Member → Bool) (rest : List Member) (f : F) → f ≡ form at.member
      → SameSet (has at.context) (base_has h m) → at.member ≡ m → T m ≡ false → IsWayBack (members_alone h) m T (has at.context) rest
      → IsOnWay over (family_in h form) at.member T (has at.context) f rest
  base_way at m T rest f is same e lacks w = record {
    derived =
        at_base (subst (λ (x : Member). IsIn x (members_in h)) (sym e) w.sound.listed)
        (subst (λ (x : Member). SameSet (has at.context) (base_has h x)) (sym e) same) is;
    path = causal_alone h form rest (has at.context) w.path;
    whole = w.whole;
    lacks = subst (λ (x : Member). T x ≡ false) (sym e) lacks;
  }

pub back_added : (h : List OpData) → IsValid h → (at : KeyData) (m : Member) (T : Member → Bool) (rest : List Member) → at.member ≡ m
    → IsWayBack (members_alone h) m T (has at.context) rest → MayBeAddedTo h at.context at.member
back_added h v at m T rest e w =
    subst (λ (x : Member). MayBeAddedTo h at.context x) (sym e) (sound_added h (λ y. tt) v at.context m w.sound)

-- ---- places of the history

in_at : (xs : List Member) (i : ℕ) (x : Member) → slice_get xs i ≡ Some x → IsIn x xs
in_at xs i x e = subst (λ (l : List Member). IsIn x l) (sym (parts_at xs i x e)) (in_middle x (take i xs) (drop (i + 1) xs))

pub generation_at : (h : List OpData) → IsValid h → (i : ℕ) (x : Member) → slice_get (members_in h) i ≡ Some x → IsMember x
generation_at h v i x e = known_generation h v x (in_known h x (in_at (members_in h) i x e))
