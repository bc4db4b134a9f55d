-- A row whose forms add no more cells than a context lacks has none of an insert that it has.
use Rattle.std.proofs.Common.{◌≡◌, ℕ, zero, suc, ◌+◌, ◌-◌, ◌≤◌, Bool, true, false, if◌then◌else◌, inl, inr, List, [], ◌∷◌, ◌++◌, length, take, drop, refl, sym, ap, subst, ◌∙◌, arith, length-append}
use Rattle.std.specs.Prelude.{Option, Some, None, option_map, slice_get}
use Rattle.std.proofs.lemmas.Bool.{cases_Bool, both_ways}
use Rattle.std.proofs.lemmas.List.{length-map, take-append-le, take-map, take_all}
use Rattle.std.proofs.lemmas.Option.{none-some, same_Some, slice_get-map, slice_get_within}
use Rattle.op_name.specs.NameData.{NameData}
use Rattle.op_name.specs.declared.member.Member.{Member}
use Rattle.context_vector.specs.Contexts.{ContextData, has}
use Rattle.context_diff.specs.Operations.{OpData, member_of, cells_put, is_insert}
use Rattle.context_diff.specs.Histories.{members_in, IsValid}
use Rattle.ttf_form.specs.Families.{IsIn, total_by}
use Rattle.transform_rec.specs.Sets.{none, plus}
use Rattle.transform_rec.specs.Derived.{Deriving}
use Rattle.transform_rec.specs.Executing.{IsCausalFrom}
use Rattle.transform_rec.proofs.CallerLemmas.{derived_extent, derived_sound, plus_cases, plus_here, plus_keeps}
use Rattle.undo_group.specs.Laws.Members.{member_listed}
use Rattle.form_rows.specs.Names.{had, had_by, AreNamed}
use Rattle.form_rows.specs.RowSets.{Inertness, RowData, IsAdded, IsSource}
use Rattle.form_rows.specs.Lacking.{all_but_last, lacking}
use Rattle.form_rows.specs.Kept.{CoversAreInert, InsertsAreKept}
use Rattle.form_rows.proofs.Choices.{in_take}
use Rattle.form_rows.proofs.Cuts.{named_form}
use Rattle.form_rows.proofs.Looks.{caught_up}
use Rattle.form_rows.proofs.Followers.{forms_length}
use Rattle.form_rows.proofs.Passing.{Row}
use Rattle.form_rows.proofs.Prefixes.{some_put, lacked_of, lacked_none, lacked_all, lacked_cover}
use Rattle.form_rows.proofs.Sources.{forms_run}

abbrev one_if : Bool → ℕ
one_if b = if b then 1 else 0

not_one : (b : Bool) → one_if b ≡ 0 → b ≡ false
not_one true e = absurd (omega arith)
not_one false e = refl

-- the place of the last operation is behind all members before it
last_place : (h : List OpData) (before : List Member) (m : Member) → members_in h ≡ before ++ m ∷ [] → length h - 1 ≡ length before
last_place h before m whole =
    let size : length (members_in h) ≡ length h = length-map h member_of in
    let sum : length (before ++ m ∷ []) ≡ length before + 1 = length-append before (m ∷ []) in
    omega (arith, size, sum, ap length whole)

-- the members before the last one
before_members : (h : List OpData) (before : List Member) (m : Member) → members_in h ≡ before ++ m ∷ []
    → members_in (all_but_last h) ≡ before
before_members h before m whole =
    sym (take-map member_of (length h - 1) h)
    ∙ (ap (λ (l : List Member). take (length h - 1) l) whole ∙ (ap (λ (k : ℕ). take k (before ++ m ∷ [])) (last_place h before m whole)
    ∙ (take-append-le (length before) before (m ∷ []) (omega arith) ∙ take_all (length before) before (omega arith))))

end_at : (before : List Member) (m : Member) → slice_get (before ++ m ∷ []) (length before) ≡ Some m
end_at [] m = refl
end_at (x ∷ xs) m = end_at xs m

last_found : (h : List OpData) (before : List Member) (m : Member) → members_in h ≡ before ++ m ∷ []
    → option_map member_of (slice_get h (length h - 1)) ≡ Some m
last_found h before m whole =
    sym (slice_get-map member_of h (length h - 1))
    ∙ (ap (λ (l : List Member). slice_get l (length h - 1)) whole
    ∙ (ap (λ (k : ℕ). slice_get (before ++ m ∷ []) k) (last_place h before m whole) ∙ end_at before m))

-- the last operation of a history is its last member
pub last_member : (h : List OpData) (before : List Member) (m : Member) (o : OpData) → members_in h ≡ before ++ m ∷ []
    → slice_get h (length h - 1) ≡ Some o → member_of o ≡ m
last_member h before m o whole at = same_Some (member_of o) m (ap (option_map member_of) (sym at) ∙ last_found h before m whole)

end_of : (h : List OpData) (k : ℕ) (o : OpData) → k + 1 ≡ length h → slice_get h k ≡ Some o
    → members_in h ≡ members_in (take k h) ++ member_of o ∷ []
end_of [] k o size at = absurd (omega (arith, size))
end_of (x ∷ []) zero o size at = ap (λ (p : OpData). member_of p ∷ []) (same_Some x o at)
end_of (x ∷ (y ∷ ys)) zero o size at = absurd (omega (arith, size))
end_of (x ∷ xs) (suc k) o size at = ap (λ (l : List Member). member_of x ∷ l) (end_of xs k o (omega (arith, size)) at)

-- the members of a history are those of all operations but the last one, and that one's
pub members_end : (h : List OpData) (o : OpData) → slice_get h (length h - 1) ≡ Some o
    → members_in h ≡ members_in (all_but_last h) ++ member_of o ∷ []
members_end h o at = end_of h (length h - 1) o (omega (arith, slice_get_within h (length h - 1) o at)) at

pub last_there : (h : List OpData) (before : List Member) (m : Member) → members_in h ≡ before ++ m ∷ [] → slice_get h (length h - 1) ≡ None
    → ⊥
last_there h before m whole none = none-some m (ap (option_map member_of) (sym none) ∙ last_found h before m whole)

module _ {F : Type 0} (d : Deriving F) (IsInert : F → Type 0) (n : Inertness d.inclusion.over IsInert) (named : F → Option NameData)
    (named_over : (a b : F) → named (d.inclusion.over a b) ≡ named a)
    (names : AreNamed named IsInert d.family) (c : ContextData) where
  -- how many of the forms are of inserts that the context has
  abbrev had_number : List F → ℕ
  had_number [] = 0
  had_number (f ∷ fs) = one_if (had_by named c f) + had_number fs

  none_had : (fs : List F) → had_number fs ≡ 0 → (f : F) → IsIn f fs → had_by named c f ≡ false
  none_had [] e f i = absurd i
  none_had (g ∷ fs) e f (inl is) = ap (had_by named c) is ∙ not_one (had_by named c g) (omega arith)
  none_had (g ∷ fs) e f (inr i) = none_had fs (omega arith) f i

  -- no later member is in the set
  out : (xs : List Member) (C : Member → Bool) → IsCausalFrom d.family C xs → (z : Member) → IsIn z xs → C z ≡ false
  out [] C r z i = absurd i
  out (x ∷ xs) C r z (inl e) = ap C e ∙ r.0.lacks
  out (x ∷ xs) C r z (inr i) = elim (cases_Bool (C z)) [
    | inl there ↦ absurd (both_ways (plus C x z) (out xs (plus C x) r.1 z i) (plus_keeps C x z there))
    | inr lacks ↦ lacks
  ]

  -- of what the set has and the context lacks nothing is an insert
  abbrev Near : (Member → Bool) → List OpData → Type 0
  Near C hs = (o : OpData) → IsIn o hs → C (member_of o) ≡ true → has c (member_of o) ≡ false → is_insert o ≡ false

  near_rest : (o : OpData) (hs : List OpData) (S C : Member → Bool) → IsCausalFrom d.family S (member_of o ∷ members_in hs)
      → Near C (o ∷ hs) → Near (plus C (member_of o)) hs
  near_rest o hs S C r near p i there lacks =
      elim (plus_cases C (member_of o) (member_of p) there) [
        | inl c ↦ near p (inr i) c lacks
        | inr e ↦
            let later : plus S (member_of o) (member_of p) ≡ false =
            out (members_in hs) (plus S (member_of o)) r.1 (member_of p) (member_listed p hs i) in
            absurd (both_ways (plus S (member_of o) (member_of p)) later
            (subst (λ (y : Member). plus S (member_of o) y ≡ true) e (plus_here S (member_of o))))
      ]

  -- the base form of an operation: that of an insert adds its cells, of which there is one at least, and any other is inert
  record IsBased (o : OpData) : Type 0 where
    insert : is_insert o ≡ true → (IsInert (d.family.form (member_of o)) → ⊥)
        × (d.inclusion.extent (d.family.form (member_of o)) ≡ cells_put o)
    some : is_insert o ≡ true → 1 ≤ cells_put o
    cover : is_insert o ≡ false → IsInert (d.family.form (member_of o))

  in_set : (o : OpData) (hs : List OpData) (C : Member → Bool) → Near C (o ∷ hs) → C (member_of o) ≡ true → lacked_of c o ≡ 0
  in_set o hs C near there = elim (cases_Bool (has c (member_of o))) [
    | inl had ↦ lacked_none c o had
    | inr lacks ↦ lacked_cover c o (near o (inl refl) there lacks)
  ]

  kept : (o : OpData) → IsBased o → IsInert (d.family.form (member_of o)) → is_insert o ≡ false
  kept o b inert = elim (cases_Bool (is_insert o)) [ inl i ↦ absurd ((b.insert i).0 inert) | inr e ↦ e ]

  -- a form in a row adds the cells of its insert: these are lacked, or the form is had
  one_form : (o : OpData) → IsBased o → (IsInert (d.family.form (member_of o)) → ⊥) → (f : F)
      → d.inclusion.extent f ≡ d.inclusion.extent (d.family.form (member_of o)) → had_by named c f ≡ has c (member_of o)
      → lacked_of c o + one_if (had_by named c f) ≤ d.inclusion.extent f
  one_form o b other f size same = elim (cases_Bool (is_insert o)) [
    | inl i ↦ let adds = (b.insert i).1 in
        elim (cases_Bool (has c (member_of o))) [
          | inl there ↦ omega (arith, size, adds, b.some i, lacked_none c o there, ap one_if (same ∙ there))
          | inr out ↦ omega (arith, size, adds, lacked_all c o out, ap one_if (same ∙ out))
        ]
    | inr e ↦ absurd (other (b.cover e))
  ]

  counted : (hs : List OpData) (S C : Member → Bool) (fs : List F) → ((o : OpData) → IsIn o hs → IsBased o)
      → IsCausalFrom d.family S (members_in hs) → Near C hs → Row d IsInert n C (members_in hs) fs
      → lacking hs c + had_number fs ≤ total_by d.inclusion.extent fs
  counted [] S C [] b r near row = omega arith
  counted [] S C (f ∷ fs) b r near row = absurd row
  counted (o ∷ hs) S C [] b r near (inl a) =
      let rest = counted hs (plus S (member_of o)) C [] (λ p i. b p (inr i)) r.1 (λ p i. near p (inr i)) a.1 in
      omega (arith, rest, in_set o hs C near a.0)
  counted (o ∷ hs) S C [] b r near (inr q) =
      let rest = counted hs (plus S (member_of o)) (plus C (member_of o)) [] (λ p i. b p (inr i)) r.1 (near_rest o hs S C r near) q.1 in
      omega (arith, rest, lacked_cover c o (kept o (b o (inl refl)) q.0.0))
  counted (o ∷ hs) S C (f ∷ fs) b r near (inl a) =
      let rest = counted hs (plus S (member_of o)) C (f ∷ fs) (λ p i. b p (inr i)) r.1 (λ p i. near p (inr i)) a.1 in
      omega (arith, rest, in_set o hs C near a.0)
  counted (o ∷ hs) S C (f ∷ fs) b r near (inr (inl q)) =
      let rest =
      counted hs (plus S (member_of o)) (plus C (member_of o)) (f ∷ fs) (λ p i. b p (inr i)) r.1 (near_rest o hs S C r near) q.1 in
      omega (arith, rest, lacked_cover c o (kept o (b o (inl refl)) q.0.0))
  counted (o ∷ hs) S C (f ∷ fs) b r near (inr (inr k)) =
      let rest = counted hs (plus S (member_of o)) (plus C (member_of o)) fs (λ p i. b p (inr i)) r.1 (near_rest o hs S C r near) k.1 in
      let s = names (member_of o) (derived_sound d (member_of o) C f k.0.1).listed k.0.0 in
      let same : had_by named c f ≡ has c (member_of o) =
      ap (had c) (named_form d IsInert n named named_over (member_of o) C f k.0.1 ∙ s.says) ∙ ap (has c) (sym s.is) in
      omega (arith, rest, one_form o (b o (inl refl)) k.0.0 f (derived_extent d (member_of o) C f k.0.1) same)

  -- a row out of which m is executed, once it has looked at all that was: where its forms add no more cells than its context lacks
  -- of those before m, it has none of an insert that the context has
  pub row_apart : (m : Member) → ((y : Member) → has c y ≡ d.family.context m y) → (h : List OpData) → IsValid h
      → InsertsAreKept IsInert d.inclusion.extent d.family.form h → CoversAreInert IsInert d.family.form h
      → (C : Member → Bool) (xs : List Member) → members_in h ≡ xs ++ m ∷ []
      → (executed : List F) (r : RowData F) → IsSource d.inclusion.over IsInert d.family m C xs executed r
      → (fs : List F) → IsAdded IsInert (drop r.upto executed) r.forms fs → total_by d.inclusion.extent fs ≤ lacking (all_but_last h) c
      → (f : F) → IsIn f fs → had_by named c f ≡ false
  row_apart m context h v inserts covers C xs whole executed r w fs added few =
      let before = all_but_last h in
      let all : members_in before ≡ xs = before_members h xs m whole in
      let size : length executed ≡ length xs = forms_length d xs none executed w.executed in
      let at = caught_up d IsInert n C xs executed r (record { forms = fs; upto = length executed }) w.executed w.row added refl in
      let long : take (length executed) xs ≡ xs = take_all (length executed) xs (omega arith) in
      let row : Row d IsInert n C (members_in before) fs = subst (λ (l : List Member). Row d IsInert n C l fs) (long ∙ sym all) at.row in
      let run : IsCausalFrom d.family none (members_in before) =
      subst (λ (l : List Member). IsCausalFrom d.family none l) (sym all) (forms_run d xs none executed w.executed) in
      let based : (o : OpData) → IsIn o before → IsBased o = λ o i.
      let there : IsIn o h = in_take o h (length h - 1) i in
      record { insert = inserts o there; some = some_put h v o there; cover = covers o there } in
      let near : Near C before =
      λ o i there lacks. kept o (based o i) (w.near (member_of o) there (sym (context (member_of o)) ∙ lacks)) in
      let sum = counted before none C fs based run near row in
      none_had fs (omega (arith, sum, few))
