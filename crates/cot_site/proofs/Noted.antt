-- Sets that a history tells, and notes of forms at them.
use Rattle.std.proofs.Common.{◌≡◌, ℕ, zero, suc, ◌+◌, ◌-◌, ◌<◌, ◌≤◌, ◌≢◌, Bool, true, false, inl, inr, List, [], ◌∷◌, ◌++◌, Contains, length, take, drop, get_or, Option, Some, None, refl, sym, ap, subst, ◌∙◌, arith, add-one, length-append}
use Rattle.std.specs.Prelude.{◌||◌, ◌==◌, nat_lt, slice_get}
use Rattle.std.specs.List.{remove}
use Rattle.std.specs.Map.{lookup, lookup_entry, remove_entry}
use Rattle.std.proofs.lemmas.Bool.{cases_lt, cases_order, eq-eqb, false_from_ne_true, ne_eqb, lt-ltb, le-ltb}
use mathlib.Core.Bool.{false≢true}
use Rattle.op_name.specs.declared.member.Member.{Member}
use Rattle.op_name.specs.declared.member.Member.TheVariants.{Original}
use Rattle.op_name.specs.NameData.{NameData}
use Rattle.op_name.specs.Members.{member_eq}
use Rattle.op_name.proofs.CallerLemmas.{member_same, member_itself}
use Rattle.context_vector.specs.Contexts.{ContextData, has, raised, Within, IsContext, IsNextMember}
use Rattle.context_vector.specs.Equality.{context_eq, context_eq_decides}
use Rattle.context_vector.proofs.CallerLemmas.{same_context}
use Rattle.context_diff.specs.Operations.{OpData, inserting, deleting, undoing, member_of, context_of, IsWellFormed}
use Rattle.context_diff.specs.Histories.{context_of_all, members_in, is_known, IsNext, IsValid}
use Rattle.context_diff.proofs.CallerLemmas.{all_is_context, complete, contains_cases, contains_here, contains_later, contains_none, has_raised, known_member, members_apart, raised_by, valid_parts}
use Rattle.context_diff.specs.Bases.{base_has}
use Rattle.ttf_form.specs.declared.form.Form.{Form}
use Rattle.ttf_form.specs.Forms.{form_over}
use Rattle.transform_rec.specs.Sets.{plus}
use Rattle.transform_rec.specs.Histories.{family_in}
use Rattle.transform_rec.proofs.CallerLemmas.{plus_keeps}
use Rattle.undo_group.specs.BaseForms.{base_form}
use Rattle.form_rows.specs.Names.{insert_of}
use Rattle.form_rows.specs.Kept.{IsFormWith}
use Rattle.form_rows.proofs.CallerLemmas.{original_base}
use Rattle.form_cache.specs.declared.cache.Kept.{Kept}
use Rattle.form_cache.specs.Keys.{KeyData, key_eq}
use Rattle.form_cache.specs.Entries.{Entries, form_at, used}
use Rattle.cot_site.specs.declared.notes.At.{At}
use Rattle.cot_site.specs.declared.notes.At.TheVariants.{Before, With}
use Rattle.cot_site.specs.declared.notes.Note.{Note}
use Rattle.cot_site.specs.Sites.{AreCached, IsFormOf}
use Rattle.cot_site.specs.Code.Notes.{teller, with_itself, set_at, entry_of, entries_of, first_of, knew, note_of, AgreeAt, AreTold, AreFormsNoted}
use Rattle.cot_site.specs.Code.Replicas.{IsLastMember, before_last}
use Rattle.cot_site.proofs.Cached.{cached_more}
use Rattle.cot_site.proofs.RowForms.{first_at}
use Rattle.cot_site.proofs.Verdicts.{formed_context}

-- ---- places of a history

-- the operations before a place, the one there, and those after it
parts_at : (h : List OpData) (i : ℕ) (o : OpData) → slice_get h i ≡ Some o → h ≡ take i h ++ o ∷ drop (suc i) h
parts_at [] i o at = cc
parts_at (p ∷ ps) zero o at = let is : p ≡ o = cc in ap (λ x. x ∷ ps) is
parts_at (p ∷ ps) (suc i) o at = ap (λ l. p ∷ l) (parts_at ps i o at)

front_back : (i : ℕ) (h : List OpData) → h ≡ take i h ++ drop i h
front_back zero [] = refl
front_back zero (o ∷ os) = refl
front_back (suc i) [] = refl
front_back (suc i) (o ∷ os) = ap (λ l. o ∷ l) (front_back i os)

pub at_within : (h : List OpData) (i : ℕ) → i < length h → (o : OpData) × (slice_get h i ≡ Some o)
at_within [] i within = absurd (omega arith)
at_within (o ∷ os) zero within = (o, refl)
at_within (o ∷ os) (suc i) within = at_within os i (omega arith)

contains_at : (h : List OpData) (i : ℕ) (o : OpData) → slice_get h i ≡ Some o → Contains h o
contains_at [] i o at = cc
contains_at (p ∷ ps) zero o at = let is : p ≡ o = cc in subst (λ x. Contains (p ∷ ps) x) is (contains_here p ps)
contains_at (p ∷ ps) (suc i) o at = contains_later p ps o (contains_at ps i o at)

neither : (a b : Bool) → (a || b) ≡ false → (a ≡ false) × (b ≡ false)
neither true b e = absurd (false≢true (sym e))
neither false b e = (refl, e)

or_true : (a : Bool) → (a || true) ≡ true
or_true true = refl
or_true false = refl

or_swap : (a b : Bool) → (a || b) ≡ (b || a)
or_swap true true = refl
or_swap true false = refl
or_swap false true = refl
or_swap false false = refl

front_lacks : (h : List OpData) (p i : ℕ) (m : Member) → p ≤ i → is_known (take i h) m ≡ false → is_known (take p h) m ≡ false
front_lacks h zero i m le lacks = refl
front_lacks [] (suc p) i m le lacks = refl
front_lacks (o ∷ os) (suc p) zero m le lacks = absurd (omega (arith, le))
front_lacks (o ∷ os) (suc p) (suc i) m le lacks =
    let both = neither (member_eq (member_of o) m) (is_known (take i os) m) lacks in
    rw both.0 (front_lacks os p i m (omega (arith, le)) both.1)

front_has : (h : List OpData) (p i : ℕ) (o : OpData) → slice_get h i ≡ Some o → i < p → is_known (take p h) (member_of o) ≡ true
front_has [] p i o at less = cc
front_has (q ∷ qs) zero i o at less = absurd (omega (arith, less))
front_has (q ∷ qs) (suc p) zero o at less =
    let is : q ≡ o = cc in
    rw (subst (λ x. member_eq (member_of x) (member_of o) ≡ true) (sym is) (member_itself (member_of o))) refl
front_has (q ∷ qs) (suc p) (suc i) o at less =
    rw (front_has qs p i o at (omega (arith, less))) (or_true (member_eq (member_of q) (member_of o)))

-- an operation is among the first ones exactly where its place is
known_front : (h : List OpData) → IsValid h → (p i : ℕ) (o : OpData) → slice_get h i ≡ Some o
    → is_known (take p h) (member_of o) ≡ nat_lt i p
known_front h valid p i o at =
    elim (cases_lt i p) [
      | inl less ↦ front_has h p i o at less ∙ sym (lt-ltb i p less)
      | inr le ↦
          let apart = members_apart (take i h) o (drop (suc i) h) (subst IsValid (parts_at h i o at) valid) in
          front_lacks h p i (member_of o) le apart.0 ∙ sym (le-ltb i p le)
    ]

valid_front : (h : List OpData) → IsValid h → (p : ℕ) → IsValid (take p h)
valid_front h valid p = (valid_parts (take p h) (drop p h) (subst IsValid (front_back p h) valid)).0

-- where a known member stands
known_place : (h : List OpData) (m : Member) → is_known h m ≡ true → (i : ℕ) × (i < length h) × (slice_get (members_in h) i ≡ Some m)
known_place [] m known = absurd (false≢true known)
known_place (o ∷ os) m known =
    (elim (member_eq (member_of o) m) as
    (λ t. member_eq (member_of o) m ≡ t → (i : ℕ) × (i < length (o ∷ os)) × (slice_get (members_in (o ∷ os)) i ≡ Some m)) [
      | true ↦ λ e. (0, omega arith, ap Some (member_same (member_of o) m e))
      | false ↦ λ e.
          let rest = known_place os m (rw e at known) in
          (suc rest.0, omega (arith, rest.1), rest.2)
    ]) refl

-- what stands at a place, as an operation of the member there
at_member : (h : List OpData) (i : ℕ) (m : Member) → slice_get (members_in h) i ≡ Some m
    → (o : OpData) × (slice_get h i ≡ Some o) × (member_of o ≡ m)
at_member [] i m at = cc
at_member (o ∷ os) zero m at = (o, refl, cc)
at_member (o ∷ os) (suc i) m at = at_member os i m at

-- ---- the sets

-- an operation is the next of its site or its original after its context
own_next : (o : OpData) → IsWellFormed o → IsNextMember (context_of o) (member_of o)
own_next (inserting n p text c) f = sym f.own
own_next (deleting n p c) f = sym f.own
own_next (undoing a t g c) f = sym f.target.1

pub has_before : (h : List OpData) → IsValid h → (p i : ℕ) (m : Member) → slice_get (members_in h) i ≡ Some m
    → has (context_of_all (take p h)) m ≡ nat_lt i p
has_before h valid p i m at =
    let o = at_member h i m at in
    subst (λ x. has (context_of_all (take p h)) x ≡ nat_lt i p) o.2
    ((complete (take p h) (valid_front h valid p)).holds (member_of o.0) ∙ known_front h valid p i o.0 o.1)

same_place : (h : List OpData) → IsValid h → (i j : ℕ) (o q : OpData) → slice_get h i ≡ Some o → slice_get h j ≡ Some q
    → member_eq (member_of q) (member_of o) ≡ (i == j)
same_place h valid i j o q at at' =
    elim (cases_order i j) [
      | inl one ↦
          let is : q ≡ o = (let e : Some q ≡ Some o = sym at' ∙ ap (slice_get h) (sym one) ∙ at in cc) in
          subst (λ x. member_eq (member_of x) (member_of o) ≡ true) (sym is) (member_itself (member_of o)) ∙ sym (eq-eqb i j one)
      | inr (inl less) ↦ apart j (known_front h valid j i o at ∙ lt-ltb i j less) (known_front h valid j j q at' ∙ le-ltb j j (omega arith))
          (omega (arith, less))
      | inr (inr more) ↦ away i (known_front h valid i i o at ∙ le-ltb i i (omega arith)) (known_front h valid i j q at' ∙ lt-ltb j i more)
          (omega (arith, more))
    ]
  where
    apart : (n : ℕ) → is_known (take n h) (member_of o) ≡ true → is_known (take n h) (member_of q) ≡ false → i ≢ j
        → member_eq (member_of q) (member_of o) ≡ (i == j)
    apart n there lacks other =
        false_from_ne_true (member_eq (member_of q) (member_of o))
        (λ same. false≢true (sym lacks ∙ ap (is_known (take n h)) (member_same (member_of q) (member_of o) same) ∙ there))
        ∙ sym (ne_eqb i j other)

    away : (n : ℕ) → is_known (take n h) (member_of o) ≡ false → is_known (take n h) (member_of q) ≡ true → i ≢ j
        → member_eq (member_of q) (member_of o) ≡ (i == j)
    away n lacks there other =
        false_from_ne_true (member_eq (member_of q) (member_of o))
        (λ same. false≢true (sym lacks ∙ ap (is_known (take n h)) (sym (member_same (member_of q) (member_of o) same)) ∙ there))
        ∙ sym (ne_eqb i j other)

has_with : (h : List OpData) → IsValid h → (i j : ℕ) (m : Member) (q : OpData) → slice_get (members_in h) i ≡ Some m
    → slice_get h j ≡ Some q → has (raised (context_of q) (member_of q)) m ≡ ((i == j) || has (context_of q) m)
has_with h valid i j m q at at' =
    let o = at_member h i m at in
    let formed = (complete h valid).formed q (contains_at h j q at') in
    has_raised (context_of q) (member_of q) (own_next q formed) m
    ∙ ap (λ b. has (context_of q) m || b) (subst (λ x. member_eq (member_of q) x ≡ (i == j)) o.2 (same_place h valid i j o.0 q o.1 at'))
    ∙ or_swap (has (context_of q) m) (i == j)

pub has_own : (h : List OpData) → IsValid h → (i j : ℕ) (m : Member) → slice_get (members_in h) i ≡ Some m → j < length h
    → has (set_at h (With j)) m ≡ ((i == j) || knew (slice_get h j) m)
has_own h valid i j m at within =
    let q = at_within h j within in
    rw q.1 (has_with h valid i j m q.0 at q.1)

pub set_is_context : (h : List OpData) → IsValid h → (at : At) → teller at < length h → IsContext (set_at h at)
set_is_context h valid (Before i) within = all_is_context (take i h) (valid_front h valid i)
set_is_context h valid (With i) within =
    let q = at_within h i within in
    let formed = (complete h valid).formed q.0 (contains_at h i q.0 q.1) in
    rw q.1 (raised_by (context_of q.0) q.0 (formed_context q.0 formed) formed)

-- a set that a history tells is of its members
pub set_within : (h : List OpData) → IsValid h → (at : At) → teller at < length h → Within (set_at h at) (context_of_all h)
set_within h valid (Before i) within m there =
    let known = known_place (take i h) m (sym ((complete (take i h) (valid_front h valid i)).holds m) ∙ there) in
    let o = at_member (take i h) known.0 m known.2 in
    (complete h valid).holds m ∙ on_from i h m (sym ((complete (take i h) (valid_front h valid i)).holds m) ∙ there)
  where
    on_from : (i : ℕ) (h : List OpData) (m : Member) → is_known (take i h) m ≡ true → is_known h m ≡ true
    on_from zero h m known = absurd (false≢true known)
    on_from (suc i) [] m known = known
    on_from (suc i) (o ∷ os) m known =
        (elim (member_eq (member_of o) m) as (λ t. member_eq (member_of o) m ≡ t → is_known (o ∷ os) m ≡ true) [
          | true ↦ λ e. rw e refl
          | false ↦ λ e. rw e (on_from i os m (rw e at known))
        ]) refl
set_within h valid (With i) within m there =
    let q = at_within h i within in
    let c = complete h valid in
    let at = contains_at h i q.0 q.1 in
    let there' : has (raised (context_of q.0) (member_of q.0)) m ≡ true = rw q.1 at there in
    (elim (has (context_of q.0) m) as (λ t. has (context_of q.0) m ≡ t → has (context_of_all h) m ≡ true) [
      | true ↦ λ e. c.holds m ∙ c.ready q.0 at m e
      | false ↦ λ e.
          let own : member_eq (member_of q.0) m ≡ true =
          rw e at (sym (has_raised (context_of q.0) (member_of q.0) (own_next q.0 (c.formed q.0 at)) m) ∙ there') in
          c.holds m ∙ ap (is_known h) (sym (member_same (member_of q.0) m own)) ∙ known_member h q.0 at
    ]) refl

-- sets of a history's members are one where they agree at each place
pub agree_all : (h : List OpData) → IsValid h → (c d : ContextData) → IsContext c → IsContext d → Within c (context_of_all h)
    → Within d (context_of_all h) → ((i : ℕ) → i < length h → AgreeAt h c d i) → c ≡ d
agree_all h valid c d is is' within within' agree =
    same_context c d is is' (λ m. one_truth (has c m) (has d m) (λ there. at m (within m there)) (λ there. at m (within' m there)))
  where
    at : (m : Member) → has (context_of_all h) m ≡ true → has c m ≡ has d m
    at m there =
        let known = known_place h m (sym ((complete h valid).holds m) ∙ there) in
        agree known.0 known.1 m known.2

    one_truth : (a b : Bool) → (a ≡ true → a ≡ b) → (b ≡ true → a ≡ b) → a ≡ b
    one_truth true b from to = from refl
    one_truth false true from to = to refl
    one_truth false false from to = refl

-- ---- notes

-- sets stay the same while the history grows
set_on : (h : List OpData) (o : OpData) (at : At) → teller at < length h → set_at (h ++ o ∷ []) at ≡ set_at h at
set_on h o (Before i) within = ap context_of_all (take_on h o i (omega (arith, within)))
  where
    take_on : (h : List OpData) (o : OpData) (i : ℕ) → i ≤ length h → take i (h ++ o ∷ []) ≡ take i h
    take_on h o zero le = refl
    take_on [] o (suc i) le = absurd (omega (arith, le))
    take_on (p ∷ ps) o (suc i) le = ap (λ l. p ∷ l) (take_on ps o i (omega (arith, le)))
set_on h o (With i) within = ap with_itself (get_on h o i within)
  where
    get_on : (h : List OpData) (o : OpData) (i : ℕ) → i < length h → slice_get (h ++ o ∷ []) i ≡ slice_get h i
    get_on [] o i less = absurd (omega (arith, less))
    get_on (p ∷ ps) o zero less = refl
    get_on (p ∷ ps) o (suc i) less = get_on ps o i (omega (arith, less))

entries_on : (h : List OpData) (o : OpData) (ns : List Note) → AreTold h ns → entries_of (h ++ o ∷ []) ns ≡ entries_of h ns
entries_on h o [] told = refl
entries_on h o (n ∷ ns) told = λ i.
    (record { member = Original n.name; context = set_on h o n.at (told n (contains_here n ns)) i }, record { form = n.form; once = false })
    ∷ entries_on h o ns (λ k there. told k (contains_later n ns k there)) i

-- notes stay forms over one operation more
pub notes_more : (h : List OpData) (o : OpData) (k : List OpData) (ns : List Note) → IsValid h → IsNext h o → k ≡ h ++ o ∷ []
    → AreFormsNoted h ns → AreFormsNoted k ns
notes_more h o k ns valid next grown noted =
    let longer : length k ≡ length h + 1 = ap length grown ∙ length-append h (o ∷ []) in (
      subst (λ (es : Entries Form). AreCached k es) (sym (ap (λ (l : List OpData). entries_of l ns) grown ∙ entries_on h o ns noted.1))
          (cached_more h o k (entries_of h ns) valid next grown noted.0),
      λ n there. omega (arith, longer, noted.1 n there),
    )

pub notes_none : (h : List OpData) (ns : List Note) → ns ≡ [] → AreFormsNoted h ns
notes_none h ns none =
    subst (λ (l : List Note). AreFormsNoted h l) (sym none)
    ((λ e there. absurd (contains_none e there)), (λ n there. absurd (contains_none n there)))

pub notes_same : (h k : List OpData) (ns : List Note) → k ≡ h → AreFormsNoted h ns → AreFormsNoted k ns
notes_same h k ns same noted = subst (λ (l : List OpData). AreFormsNoted l ns) (sym same) noted

-- a form noted before others
pub notes_with : (h : List OpData) (n : Note) (ns new : List Note) (i : ℕ) → AreFormsNoted h ns → IsFormOf h (entry_of h n).0 n.form
    → teller n.at < length h → new ≡ n ∷ take i ns → AreFormsNoted h new
notes_with h n ns new i noted form told is =
    subst (λ (l : List Note). AreFormsNoted h l) (sym is) (entries_with, told_with)
  where
    front_of : {X : Type 0} (i : ℕ) (xs : List X) (x : X) → Contains (take i xs) x → Contains xs x
    front_of zero xs x there = absurd (contains_none x there)
    front_of (suc i) [] x there = there
    front_of (suc i) (y ∷ ys) x there = elim (contains_cases y (take i ys) x there) [
      | inl here ↦ subst (λ z. Contains (y ∷ ys) z) here (contains_here y ys)
      | inr later ↦ contains_later y ys x (front_of i ys x later)
    ]

    map_take : (i : ℕ) (ns : List Note) → entries_of h (take i ns) ≡ take i (entries_of h ns)
    map_take zero ns = refl
    map_take (suc i) [] = refl
    map_take (suc i) (k ∷ ks) = ap (λ (l : Entries Form). entry_of h k ∷ l) (map_take i ks)

    entries_with : AreCached h (entries_of h (n ∷ take i ns))
    entries_with e there = elim (contains_cases (entry_of h n) (entries_of h (take i ns)) e there) [
      | inl here ↦ subst (λ (x : KeyData × Kept Form). IsFormOf h x.0 x.1.form) here form
      | inr later ↦ noted.0 e (front_of i (entries_of h ns) e (subst (λ (l : Entries Form). Contains l e) (map_take i ns) later))
    ]

    told_with : AreTold h (n ∷ take i ns)
    told_with k there = elim (contains_cases n (take i ns) k there) [
      | inl here ↦ subst (λ (x : Note). teller x.at < length h) here told
      | inr later ↦ noted.1 k (front_of i ns k later)
    ]

-- the form of the last original at the members before it
pub form_before_last : (h : List OpData) (n : NameData) (p : ℕ) (f : Form) → p + 1 ≡ length h
    → IsFormOf h (record { member = Original n; context = before_last h }) f → IsFormOf h (entry_of h (note_of n (Before p) f)).0 f
form_before_last h n p f place form =
    subst (λ i. IsFormOf h (record { member = Original n; context = context_of_all (take i h) }) f)
    (let e : length h - 1 ≡ p = omega (arith, place) in e) form

-- the form of the insert that comes first in the row of the last original, at what that was made after with itself
pub form_with_last : (h : List OpData) → IsValid h → (n x : NameData) (p : ℕ) (f : Form) → IsLastMember h (Original n) → p + 1 ≡ length h
    → insert_of f ≡ Some x → IsFormWith form_over insert_of (family_in h (base_form h)) (Original n) f
    → ((y : Member) → base_has h (Original x) y ≡ true → base_has h (Original n) y ≡ true)
    → IsFormOf h (entry_of h (note_of x (With p) f)).0 f
form_with_last h valid n x p f last place named form knew =
    let o = at_member h (length h - 1) (Original n) last.1 in
    let at : slice_get h p ≡ Some o.0 = ap (slice_get h) (let e : p ≡ length h - 1 = omega (arith, place) in e) ∙ o.1 in
    let there = contains_at h p o.0 at in
    let c = context_of o.0 in
    let base : (y : Member) → has c y ≡ base_has h (Original n) y = λ y. original_base h valid o.0 n there o.2 y in
    let with : (y : Member) → has (set_at h (With p)) y ≡ plus (has c) (Original n) y = λ y.
    ap (λ (q : Option OpData). has (with_itself q) y) at
    ∙ has_raised c (member_of o.0) (own_next o.0 ((complete h valid).formed o.0 there)) y
    ∙ ap (λ (m : Member). plus (has c) m y) o.2
    in
    first_at h n x c (set_at h (With p)) f base with (λ y i. with y ∙ plus_keeps (has c) (Original n) y (base y ∙ knew y i)) named form

-- ---- the note of a key

pub record IsFirst (h : List OpData) (k : KeyData) (ns : List Note) (i : ℕ) (d : Note) : Type 0 where
  pub within : i < length ns
  pub found : lookup_entry (key_eq k) (entries_of h ns) ≡ Some (entry_of h (get_or ns i d))
  pub kept : lookup (key_eq k) (entries_of h ns) ≡ Some (entry_of h (get_or ns i d)).1
  pub others : remove_entry (key_eq k) (entries_of h ns) ≡ entries_of h (remove ns i)

first_from : (h : List OpData) (k : KeyData) (from : ℕ) (ns : List Note) (i : ℕ) (d : Note) → first_of h k from ns ≡ Some i
    → (j : ℕ) × (i ≡ from + j) × IsFirst h k ns j d
first_from h k from [] i d is = cc
first_from h k from (n ∷ ns) i d is =
    (elim (key_eq k (entry_of h n).0) as (λ t. key_eq k (entry_of h n).0 ≡ t → (j : ℕ) × (i ≡ from + j) × IsFirst h k (n ∷ ns) j d) [
      | true ↦ λ e.
          let here : Some from ≡ Some i = rw e at is in
          let one : from ≡ i = cc in
          (0, omega (arith, one), record { within = omega arith; found = rw e refl; kept = rw e refl; others = rw e refl })
      | false ↦ λ e.
          let rest = first_from h k (from + 1) ns i d (rw e at is) in
          let first = rest.2 in (
            suc rest.0,
            omega (arith, rest.1),
            record {
              within = omega (arith, first.within);
              found = rw e first.found;
              kept = rw e first.kept;
              others = rw e (ap (λ (l : Entries Form). entry_of h n ∷ l) first.others);
            },
          )
    ]) refl

pub first_is : (h : List OpData) (k : KeyData) (ns : List Note) (i : ℕ) (d : Note) → first_of h k 0 ns ≡ Some i → IsFirst h k ns i d
first_is h k ns i d is =
    let first = first_from h k 0 ns i d is in
    subst (λ j. IsFirst h k ns j d) (let e : first.0 ≡ i = omega (arith, first.1) in e) first.2

pub first_within : (h : List OpData) (k : KeyData) (ns : List Note) (i : ℕ) → first_of h k 0 ns ≡ Some i → i < length ns
first_within h k [] i is = cc
first_within h k (n ∷ ns) i is = (first_is h k (n ∷ ns) i n is).within

missed_from : (h : List OpData) (k : KeyData) (from : ℕ) (ns : List Note) → first_of h k from ns ≡ None
    → (lookup_entry (key_eq k) (entries_of h ns) ≡ None) × (lookup (key_eq k) (entries_of h ns) ≡ None)
missed_from h k from [] is = (refl, refl)
missed_from h k from (n ∷ ns) is =
    (elim (key_eq k (entry_of h n).0) as
    (λ t. key_eq k (entry_of h n).0 ≡ t
    → (lookup_entry (key_eq k) (entries_of h (n ∷ ns)) ≡ None) × (lookup (key_eq k) (entries_of h (n ∷ ns)) ≡ None)) [
      | true ↦ λ e. let here : Some from ≡ None = rw e at is in cc
      | false ↦ λ e. let rest = missed_from h k (from + 1) ns (rw e at is) in (rw e rest.0, rw e rest.1)
    ]) refl

-- without a note of the key nothing is found and nothing moves
pub missed_form : (h : List OpData) (k : KeyData) (ns : List Note) → first_of h k 0 ns ≡ None → form_at (entries_of h ns) k ≡ None
missed_form h k ns is = rw (missed_from h k 0 ns is).1 refl

pub missed_used : (h : List OpData) (k : KeyData) (ns : List Note) → first_of h k 0 ns ≡ None → used (entries_of h ns) k ≡ entries_of h ns
missed_used h k ns is = rw (missed_from h k 0 ns is).0 refl

pub found_form : (h : List OpData) (k : KeyData) (ns : List Note) (i : ℕ) (d : Note) → IsFirst h k ns i d
    → form_at (entries_of h ns) k ≡ Some (get_or ns i d).form
found_form h k ns i d first = rw first.kept refl

pub found_used : (h : List OpData) (k : KeyData) (ns : List Note) (i : ℕ) (d : Note) → IsFirst h k ns i d
    → used (entries_of h ns) k ≡ entries_of h (get_or ns i d ∷ remove ns i)
found_used h k ns i d first = rw first.found (ap (λ (l : Entries Form). entry_of h (get_or ns i d) ∷ l) first.others)

-- a note that moves was there before
pub moved_among : (ns : List Note) (i : ℕ) (d : Note) → i < length ns → (n : Note) → Contains (get_or ns i d ∷ remove ns i) n
    → Contains ns n
moved_among ns i d within n there = elim (contains_cases (get_or ns i d) (remove ns i) n there) [
  | inl here ↦ subst (λ x. Contains ns x) here (at_place ns i d within)
  | inr other ↦ left_of ns i n other
]
  where
    at_place : (ns : List Note) (i : ℕ) (d : Note) → i < length ns → Contains ns (get_or ns i d)
    at_place [] i d within = absurd (omega (arith, within))
    at_place (n ∷ ns) zero d within = contains_here n ns
    at_place (n ∷ ns) (suc i) d within = contains_later n ns (get_or ns i d) (at_place ns i d (omega (arith, within)))

    left_of : (ns : List Note) (i : ℕ) (n : Note) → Contains (remove ns i) n → Contains ns n
    left_of [] zero n there = there
    left_of [] (suc i) n there = there
    left_of (k ∷ ks) zero n there = contains_later k ks n there
    left_of (k ∷ ks) (suc i) n there = elim (contains_cases k (remove ks i) n there) [
      | inl here ↦ subst (λ x. Contains (k ∷ ks) x) here (contains_here k ks)
      | inr later ↦ contains_later k ks n (left_of ks i n later)
    ]

-- an answer of two tests, by the first or by the second
pub by_first : (a b : Bool) → a ≡ true → a ≡ (a || b)
by_first a b e = rw e refl

pub by_second : (a b : Bool) → a ≡ false → b ≡ (a || b)
by_second a b e = rw e refl

-- sets differ where one has a member that no set of the history has, or where they don't agree at a place
pub differ_without : (h : List OpData) → IsValid h → (c : ContextData) (at : At) → teller at < length h → (Within c (context_of_all h) → ⊥)
    → context_eq c (set_at h at) ≡ false
differ_without h valid c at told outside =
    false_from_ne_true (context_eq c (set_at h at)) (λ same.
    outside (subst (λ (d : ContextData). Within d (context_of_all h)) (sym ((context_eq_decides c (set_at h at)).0 same))
    (set_within h valid at told)))

pub differ_at : (h : List OpData) (c d : ContextData) (i : ℕ) → (AgreeAt h c d i → ⊥) → context_eq c d ≡ false
differ_at h c d i apart =
    false_from_ne_true (context_eq c d) (λ same. apart (λ m there. ap (λ (k : ContextData). has k m) ((context_eq_decides c d).0 same)))

pub agree_same : (h : List OpData) → IsValid h → (c : ContextData) (at : At) → IsContext c → teller at < length h
    → Within c (context_of_all h) → ((i : ℕ) → i < length h → AgreeAt h c (set_at h at) i) → context_eq c (set_at h at) ≡ true
agree_same h valid c at is told within agree =
    (context_eq_decides c (set_at h at)).1
    (agree_all h valid c (set_at h at) is (set_is_context h valid at told) within (set_within h valid at told) agree)

-- a walk over notes for the first one of a key
here_from : (h : List OpData) (k : KeyData) (ns : List Note) (i at : ℕ) (d : Note) → i < length ns
    → key_eq k (entry_of h (get_or ns i d)).0 ≡ true → first_of h k at (drop i ns) ≡ Some at
here_from h k [] i at d within is = absurd (omega (arith, within))
here_from h k (n ∷ ns) zero at d within is = rw is refl
here_from h k (n ∷ ns) (suc i) at d within is = here_from h k ns i at d (omega (arith, within)) is

past_from : (h : List OpData) (k : KeyData) (ns : List Note) (i at : ℕ) (d : Note) → i < length ns
    → key_eq k (entry_of h (get_or ns i d)).0 ≡ false → first_of h k at (drop i ns) ≡ first_of h k (at + 1) (drop (suc i) ns)
past_from h k [] i at d within is = absurd (omega (arith, within))
past_from h k (n ∷ ns) zero at d within is = rw is refl
past_from h k (n ∷ ns) (suc i) at d within is = past_from h k ns i at d (omega (arith, within)) is

end_from : (h : List OpData) (k : KeyData) (ns : List Note) (i at : ℕ) → length ns ≤ i → first_of h k at (drop i ns) ≡ None
end_from h k [] zero at past = refl
end_from h k [] (suc i) at past = refl
end_from h k (n ∷ ns) zero at past = absurd (omega (arith, past))
end_from h k (n ∷ ns) (suc i) at past = end_from h k ns i at (omega (arith, past))

pub walk_here : (h : List OpData) (k : KeyData) (ns : List Note) (i : ℕ) (x : Note) → i < length ns → x ≡ get_or ns i x
    → key_eq k (entry_of h x).0 ≡ true → first_of h k i (drop i ns) ≡ Some i
walk_here h k ns i x within read is = here_from h k ns i i x within (subst (λ (n : Note). key_eq k (entry_of h n).0 ≡ true) read is)

pub walk_past : (h : List OpData) (k : KeyData) (ns : List Note) (i : ℕ) (x : Note) → i < length ns → x ≡ get_or ns i x
    → key_eq k (entry_of h x).0 ≡ false → first_of h k i (drop i ns) ≡ first_of h k (i + 1) (drop (i + 1) ns)
walk_past h k ns i x within read is =
    past_from h k ns i i x within (subst (λ (n : Note). key_eq k (entry_of h n).0 ≡ false) read is)
    ∙ ap (λ j. first_of h k (i + 1) (drop j ns)) (sym (add-one i))

pub walk_end : (h : List OpData) (k : KeyData) (ns : List Note) (i : ℕ) → length ns ≤ i → first_of h k i (drop i ns) ≡ None
walk_end h k ns i past = end_from h k ns i i past
