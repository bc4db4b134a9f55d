-- The laws of executing, over every type of forms with its states and every family of members.
use Rattle.std.specs.Prelude.{◌≡◌, ℕ, Bool, true, List, ◌∷◌, ◌++◌, take, drop, filter, ◌⊎◌}
use Rattle.op_name.specs.NameData.{NameData}
use Rattle.op_name.specs.declared.member.Member.{Member}
use Rattle.ttf_form.specs.Families.{IsIn}
use Rattle.ttf_form.specs.declared.include.Include
use Rattle.ttf_form.specs.declared.bases.Bases
use Rattle.transform_rec.specs.Sets.{none, IsSubset, plus, plus_all}
use Rattle.transform_rec.specs.Lists.{SameElements}
use Rattle.transform_rec.specs.Family.{Family, IsSound}
use Rattle.transform_rec.specs.Derived.{Derived, IsOnlyFormAt, Inclusion}
use Rattle.transform_rec.specs.Executing.{Table, IsStateAt, IsCausalFrom, AreFormsFrom, executed, keep}

-- what the trait of inclusion means for a type
abbrev pub inclusion_of : {F : Type 0} → Include.Ghosts F → Inclusion F
inclusion_of i = record { Apart = i.Apart; IsBounded = i.IsBounded; over = i.over; place = i.place; extent = i.extent }

-- what the trait of applying means for a type
abbrev pub table_of : {F S : Type 0} → Include.Ghosts F → (S → F → Type 0) → (F → List (NameData × ℕ)) → (S → List (NameData × ℕ))
    → (S → F → S) → Table F S
table_of i fits added cells apply = record { inclusion = inclusion_of i; Fits = fits; added = added; cells = cells; apply = apply }

-- the members of a value of a type of bases, with their base contexts and base forms
abbrev pub family_of : {B F : Type 0} → Bases.Ghosts B F → B → Family F
family_of b s = record { members = b.members s; context = b.base_context s; form = b.base_form s }

-- each member has exactly one form at each set that it may be added to
abbrev pub OneForm : {F : Type 0} → Inclusion F → Family F → Type 0
OneForm {F} i b = (m : Member) (C : Member → Bool) → IsSound b m C → (f : F) × IsOnlyFormAt i.over b m C f

-- the family's members may be executed in the order of its list, and each list that may be executed has its forms
abbrev pub CausalListsHaveForms : {F : Type 0} → Inclusion F → Family F → Type 0
CausalListsHaveForms {F} i b =
    IsCausalFrom b none b.members × ((xs : List Member) (C : Member → Bool) → IsCausalFrom b C xs
    → (fs : List F) × AreFormsFrom i.over b C xs fs)

-- the form of a member that may be added fits, and leaves a state at the set with that member
abbrev pub AddableFormFits : {F S : Type 0} → Table F S → Family F → Type 0
AddableFormFits {F} {S} t b =
    (C : Member → Bool) (s : S) (x : Member) (f : F) → IsStateAt t b C s → Derived t.inclusion.over b x C f
    → t.Fits s f × IsStateAt t b (plus C x) (t.apply s f)

-- two neighbours that may each be added may change places: the list stays causal, and gives the same state
abbrev pub Swap : {F S : Type 0} → Table F S → Family F → Type 0
Swap {F} {S} t b =
    (C : Member → Bool) (s : S) (before : List Member) (x y : Member) (after : List Member) (fs : List F) → IsStateAt t b C s
    → AreFormsFrom t.inclusion.over b C (before ++ (x ∷ (y ∷ after))) fs → IsSound b y (plus_all C before)
    → IsCausalFrom b C (before ++ (y ∷ (x ∷ after)))
    × ((gs : List F) → AreFormsFrom t.inclusion.over b C (before ++ (y ∷ (x ∷ after))) gs → executed t.apply s fs ≡ executed t.apply s gs)

-- a member whose base context is in the first set may be executed before all others
abbrev pub ToTheFront : {F S : Type 0} → Table F S → Family F → Type 0
ToTheFront {F} {S} t b =
    (C : Member → Bool) (s : S) (before : List Member) (x : Member) (after : List Member) (fs : List F) → IsStateAt t b C s
    → AreFormsFrom t.inclusion.over b C (before ++ (x ∷ after)) fs → IsSubset (b.context x) C
    → IsCausalFrom b C (x ∷ (before ++ after))
    × ((gs : List F) → AreFormsFrom t.inclusion.over b C (x ∷ (before ++ after)) gs → executed t.apply s fs ≡ executed t.apply s gs)

-- two causal lists with the same members give the same state
abbrev pub OrderIndependence : {F S : Type 0} → Table F S → Family F → Type 0
OrderIndependence {F} {S} t b =
    (C : Member → Bool) (s : S) (xs ys : List Member) (fs gs : List F) → IsStateAt t b C s → SameElements xs ys
    → AreFormsFrom t.inclusion.over b C xs fs → AreFormsFrom t.inclusion.over b C ys gs → executed t.apply s fs ≡ executed t.apply s gs

-- the cells of a closed part are, in order, those that the members of the part alone give
abbrev pub Restriction : {F S : Type 0} → Table F S → Family F → Type 0
Restriction {F} {S} t b =
    (C D : Member → Bool) (s : S) (xs : List Member) (fs : List F) → IsStateAt t b C s → AreFormsFrom t.inclusion.over b C xs fs
    → IsSubset C D → ((x : Member) → D x ≡ true → IsSubset (b.context x) D)
    → IsCausalFrom b C (filter D xs)
    × ((gs : List F) → AreFormsFrom t.inclusion.over b C (filter D xs) gs
    → filter (keep D) (t.cells (executed t.apply s fs)) ≡ t.cells (executed t.apply s gs))

-- the cells of a part with one member more are the cells of the part, with those of the member at the place of its form
abbrev pub OneMoreMember : {F S : Type 0} → Table F S → Family F → Type 0
OneMoreMember {F} {S} t b =
    (C D : Member → Bool) (s : S) (xs : List Member) (fs : List F) (x : Member) (f : F) → IsStateAt t b C s
    → AreFormsFrom t.inclusion.over b C xs fs
    → IsSubset C D → ((z : Member) → D z ≡ true → (C z ≡ true) ⊎ IsIn z xs) → IsIn x xs → Derived t.inclusion.over b x D f
    → filter (keep (plus D x)) (t.cells (executed t.apply s fs))
    ≡ take (t.inclusion.place f) (filter (keep D) (t.cells (executed t.apply s fs)))
    ++ (t.added f ++ drop (t.inclusion.place f) (filter (keep D) (t.cells (executed t.apply s fs))))
