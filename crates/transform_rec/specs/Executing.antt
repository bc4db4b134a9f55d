-- Executing forms: each is applied to the state that the forms before it gave.
use Rattle.std.specs.Prelude.{◌≡◌, ◌≢◌, ℕ, Bool, true, List, [], ◌∷◌, ◌++◌, length, take, drop}
use Rattle.op_name.specs.NameData.{NameData}
use Rattle.op_name.specs.declared.member.Member.{Member}
use Rattle.op_name.specs.declared.member.Member.TheVariants.{Original}
use Rattle.op_name.specs.Members.{member_eq}
pub use Rattle.ttf_form.specs.Names.{LacksName, NewNames, IsPutAmong}
use Rattle.transform_rec.specs.Sets.{plus}
use Rattle.ttf_form.specs.Families.{IsIn}
use Rattle.transform_rec.specs.Family.{Family, IsSound}
use Rattle.transform_rec.specs.Derived.{Derived, Inclusion, IsInclusion, IsFamily, Deriving, weight}

-- a type of forms with the states that they are applied to; a cell is a name with an offset
pub record Table (F S : Type 0) : Type 1 where
  pub inclusion : Inclusion F
  pub Fits : S → F → Type 0
  pub added : F → List (NameData × ℕ)
  pub cells : S → List (NameData × ℕ)
  pub apply : S → F → S

-- the laws of applying; the second is TP1
pub record IsTable {F S : Type 0} (t : Table F S) : Type 0 where
  pub inclusion : IsInclusion t.inclusion
  pub fits : (s : S) (a : F) → t.inclusion.IsBounded a (length (t.cells s)) → NewNames (t.cells s) (t.added a) → t.Fits s a
  pub tp1 : (s : S) (a b : F) → t.inclusion.Apart a b → t.Fits s a → t.Fits s b
      → t.apply (t.apply s a) (t.inclusion.over b a) ≡ t.apply (t.apply s b) (t.inclusion.over a b)
  pub kept : (s : S) (a : F) → t.Fits s a → IsPutAmong (t.cells s) (t.added a) (t.cells (t.apply s a))
  pub added_length : (a : F) → length (t.added a) ≡ t.inclusion.extent a
  pub added_over : (a b : F) → t.added (t.inclusion.over a b) ≡ t.added a

-- each form puts the cells that it adds at its place
abbrev pub AddsAtPlace : {F S : Type 0} → Table F S → Type 0
AddsAtPlace {F} {S} t =
    (s : S) (a : F) → t.Fits s a → t.cells (t.apply s a) ≡ take (t.inclusion.place a) (t.cells s)
    ++ (t.added a ++ drop (t.inclusion.place a) (t.cells s))

-- an original's base form adds cells of its own name alone, and a group's base form adds none
abbrev pub HasOwnNames : {F S : Type 0} → Table F S → Family F → Type 0
HasOwnNames t b = (x : Member) (n : NameData) → IsIn x b.members → x ≢ Original n → LacksName (t.added (b.form x)) n

-- all that executing rests on
pub record Setting (F S : Type 0) : Type 1 where
  pub table : Table F S
  pub laws : IsTable table
  pub family : Family F
  pub known : IsFamily table.inclusion family
  pub own_names : HasOwnNames table family

-- what derived forms rest on in it
abbrev pub deriving_of : {F S : Type 0} → Setting F S → Deriving F
deriving_of w = record { inclusion = w.table.inclusion; laws = w.laws.inclusion; family = w.family; known = w.known }

-- the members of the list may be added to C one after the other
abbrev pub IsCausalFrom : {F : Type 0} → Family F → (Member → Bool) → List Member → Type 0
IsCausalFrom b C [] = Unit {0}
IsCausalFrom b C (x ∷ xs) = IsSound b x C × IsCausalFrom b (plus C x) xs

-- the forms are derived forms of the members of the list, each at C with the members before it
abbrev pub AreFormsFrom : {F : Type 0} → (F → F → F) → Family F → (Member → Bool) → List Member → List F → Type 0
AreFormsFrom over b C [] [] = Unit {0}
AreFormsFrom over b C [] (f ∷ fs) = ⊥
AreFormsFrom over b C (x ∷ xs) [] = ⊥
AreFormsFrom over b C (x ∷ xs) (f ∷ fs) = Derived over b x C f × AreFormsFrom over b (plus C x) xs fs

-- the state after the forms are applied one after the other
abbrev pub executed : {F S : Type 0} → (S → F → S) → S → List F → S
executed apply s [] = s
executed apply s (f ∷ fs) = executed apply (apply s f) fs

-- the cells of the set: those whose insert is in it
abbrev pub keep : (Member → Bool) → NameData × ℕ → Bool
keep C c = C (Original c.0)

-- the cells of one member
abbrev pub own : Member → NameData × ℕ → Bool
own x c = member_eq x (Original c.0)

-- the state has as many cells as the members of C add, each with a name in C
pub record IsStateAt {F S : Type 0} (t : Table F S) (b : Family F) (C : Member → Bool) (s : S) : Type 0 where
  pub weighs : length (t.cells s) ≡ weight t.inclusion b C
  pub names : (c : NameData × ℕ) → IsIn c (t.cells s) → keep C c ≡ true
