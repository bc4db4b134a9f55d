-- The index by name, as operations come and go.
use Rattle.std.proofs.Common.{◌≡◌, ℕ, zero, suc, Bool, true, false, ◌||◌, inl, inr, List, [], ◌∷◌, ◌++◌, if◌then◌else◌, refl, sym, ap, subst, ◌∙◌, ◌<◌, arith, remove, map, length}
use Rattle.std.specs.Prelude.{Box, Contains, Option, Some, None, option_map, slice_get, slice_index_or}
use Rattle.std.proofs.lemmas.List.{length-map}
use Rattle.std.proofs.lemmas.Option.{slice_get-map, slice_get-get_or}
use Rattle.std.specs.Option.{is_some}
use Rattle.std.specs.Map.{lookup}
use Rattle.std.proofs.lemmas.Bool.{cases_Bool, or_right, true≢false}
use Rattle.op_name.specs.declared.member.Member.{Member}
use Rattle.op_name.specs.declared.member.Member.TheVariants.{Original}
use Rattle.op_name.specs.NameData.{NameData, name_eq}
use Rattle.op_name.specs.Members.{member_eq}
use Rattle.op_name.proofs.CallerLemmas.{member_same, name_same}
use Rattle.context_diff.specs.Operations.{OpData, inserting, deleting, undoing, member_of, is_original}
use Rattle.context_diff.specs.Histories.{is_known}
use Rattle.context_diff.proofs.CallerLemmas.{holder, known_push}
use Rattle.causal_gate.specs.Waiting.{HasOtherName, NamesAgree, AllDifferFrom, AreApart}
use Rattle.context_diff.specs.Ops.{data_of}
use Rattle.context_diff.specs.declared.op.Op.{Op}
use Rattle.causal_gate.specs.Names.{op_in, AreNamed}
use Rattle.causal_gate.proofs.Apart.{differs_in}
use Rattle.causal_gate.proofs.Places.{contains_at}

not_named : (o : OpData) (n : NameData) → (member_of o ≡ Original n → ⊥) → member_eq (member_of o) (Original n) ≡ false
not_named o n never =
    elim (cases_Bool (member_eq (member_of o) (Original n))) [
      | inl hit ↦ absurd (never (member_same (member_of o) (Original n) hit))
      | inr miss ↦ miss
    ]

undo_unnamed : (o : OpData) (n : NameData) → is_original o ≡ false → member_eq (member_of o) (Original n) ≡ false
undo_unnamed (inserting m p text c) n undo = absurd (true≢false undo)
undo_unnamed (deleting m p c) n undo = absurd (true≢false undo)
undo_unnamed (undoing a t g c) n undo = refl

pub or_none : (b : Bool) → (b || false) ≡ b
or_none true = refl
or_none false = refl

pub chosen : {A : Type 0} (b c : Bool) (x y : A) → b ≡ c → (if b then x else y) ≡ (if c then x else y)
chosen b c x y e = ap (λ v. if v then x else y) e

-- an insert or delete comes
pub named_push : (es new : List (NameData × ℕ)) (os : List OpData) (o : OpData) (k : NameData) (v : ℕ)
    → ((q : NameData) → lookup (name_eq q) new ≡ (if name_eq k q then Some v else lookup (name_eq q) es)) → member_of o ≡ Original k
    → AreNamed es os → AreNamed new (os ++ o ∷ [])
named_push es new os o k v put is named n =
    let known = is_known os (Original n) in
    let pushed : is_known (os ++ o ∷ []) (Original n) ≡ (known || name_eq k n) =
    known_push os o (Original n) ∙ ap (λ (m : Member). known || member_eq m (Original n)) is in
    elim (cases_Bool (name_eq k n)) [
      | inl hit ↦ ap is_some (put n ∙ chosen (name_eq k n) true (Some v) (lookup (name_eq n) es) hit)
          ∙ sym (pushed ∙ or_right known (name_eq k n) hit)
      | inr miss ↦ ap is_some (put n ∙ chosen (name_eq k n) false (Some v) (lookup (name_eq n) es) miss) ∙ named n
          ∙ sym (pushed ∙ ap (λ b. known || b) miss ∙ or_none known)
    ]

-- an undo comes
pub named_push_undo : (es : List (NameData × ℕ)) (os : List OpData) (o : OpData) → is_original o ≡ false → AreNamed es os
    → AreNamed es (os ++ o ∷ [])
named_push_undo es os o undo named n =
    let known = is_known os (Original n) in
    named n ∙ sym (known_push os o (Original n) ∙ ap (λ b. known || b) (undo_unnamed o n undo) ∙ or_none known)

-- no other operation of the list has the name
others_lack : (x : OpData) (n : NameData) (xs : List OpData) → AllDifferFrom x xs → member_of x ≡ Original n
    → is_known xs (Original n) ≡ false
others_lack x n [] all is = refl
others_lack x n (y ∷ ys) all is =
    let here = not_named y n (λ same. all.1 n same is) in
    let later = others_lack x n ys all.2 is in
    λ i. here i || later i

-- which names are left where an insert or a delete went
known_without : (os : List OpData) (i : ℕ) (o : OpData) (k n : NameData) → AreApart os → slice_get os i ≡ Some o → member_of o ≡ Original k
    → is_known (remove os i) (Original n) ≡ (if name_eq k n then false else is_known os (Original n))
known_without [] i o k n apart at is = let never : None ≡ Some o = at in cc
known_without (x ∷ xs) zero o k n apart at is =
    let same : x ≡ o = cc in
    let mine : member_of x ≡ Original k = ap member_of same ∙ is in
    let test : member_eq (member_of x) (Original n) ≡ name_eq k n = ap (λ (m : Member). member_eq m (Original n)) mine in
    elim (cases_Bool (name_eq k n)) [
      | inl hit ↦ others_lack x n xs apart.0 (mine ∙ ap (λ (m : NameData). Original m) (name_same k n hit))
          ∙ sym (chosen (name_eq k n) true false (is_known (x ∷ xs) (Original n)) hit)
      | inr miss ↦ sym (chosen (name_eq k n) false false (is_known (x ∷ xs) (Original n)) miss
          ∙ ap (λ b. b || is_known xs (Original n)) (test ∙ miss))
    ]
known_without (x ∷ xs) (suc i) o k n apart at is =
    let rest = known_without xs i o k n apart.1 at is in
    elim (cases_Bool (name_eq k n)) [
      | inl hit ↦
          let other : HasOtherName o x = differs_in x xs apart.0 o (contains_at xs i o at) in
          let here = not_named x n (other n (is ∙ ap (λ (m : NameData). Original m) (name_same k n hit))) in
          let later : is_known (remove xs i) (Original n) ≡ false = rest ∙ chosen (name_eq k n) true false (is_known xs (Original n)) hit in
          (λ j. here j || later j) ∙ sym (chosen (name_eq k n) true false (is_known (x ∷ xs) (Original n)) hit)
      | inr miss ↦
          let later : is_known (remove xs i) (Original n) ≡ is_known xs (Original n) =
          rest ∙ chosen (name_eq k n) false false (is_known xs (Original n)) miss in
          ap (λ b. member_eq (member_of x) (Original n) || b) later
          ∙ sym (chosen (name_eq k n) false false (is_known (x ∷ xs) (Original n)) miss)
    ]

-- and where an undo went
known_without_undo : (os : List OpData) (i : ℕ) (o : OpData) (n : NameData) → slice_get os i ≡ Some o → is_original o ≡ false
    → is_known (remove os i) (Original n) ≡ is_known os (Original n)
known_without_undo [] i o n at undo = let never : None ≡ Some o = at in cc
known_without_undo (x ∷ xs) zero o n at undo =
    let same : x ≡ o = cc in
    sym (ap (λ b. b || is_known xs (Original n)) (undo_unnamed x n (ap is_original same ∙ undo)))
known_without_undo (x ∷ xs) (suc i) o n at undo = ap (λ b. member_eq (member_of x) (Original n) || b) (known_without_undo xs i o n at undo)

-- an insert or delete goes
pub named_remove : (es new : List (NameData × ℕ)) (os : List OpData) (i : ℕ) (o : OpData) (k : NameData)
    → ((q : NameData) → lookup (name_eq q) new ≡ (if name_eq k q then None else lookup (name_eq q) es)) → member_of o ≡ Original k
    → AreApart os → slice_get os i ≡ Some o → AreNamed es os → AreNamed new (remove os i)
named_remove es new os i o k gone is apart at named n =
    let left = known_without os i o k n apart at is in
    let none : Option ℕ = None in
    elim (cases_Bool (name_eq k n)) [
      | inl hit ↦ ap is_some (gone n ∙ chosen (name_eq k n) true none (lookup (name_eq n) es) hit)
          ∙ sym (left ∙ chosen (name_eq k n) true false (is_known os (Original n)) hit)
      | inr miss ↦ ap is_some (gone n ∙ chosen (name_eq k n) false none (lookup (name_eq n) es) miss) ∙ named n
          ∙ sym (left ∙ chosen (name_eq k n) false false (is_known os (Original n)) miss)
    ]

-- an undo goes
pub named_remove_undo : (es : List (NameData × ℕ)) (os : List OpData) (i : ℕ) (o : OpData) → is_original o ≡ false → slice_get os i ≡ Some o
    → AreNamed es os → AreNamed es (remove os i)
named_remove_undo es os i o undo at named n = named n ∙ sym (known_without_undo os i o n at undo)

-- an insert or delete waits where its name does
pub named_waits : (os : List OpData) (o : OpData) (n : NameData) → NamesAgree os o → member_of o ≡ Original n
    → is_known os (Original n) ≡ true → Contains os o
named_waits os o n agree is known =
    let held = holder os (Original n) known in
    subst (Contains os) (agree held.op n held.there held.is is) held.there

-- the operation of a box that was read at a place
pub at_box : {A : Type 0} (bs : List (Box Op A)) (i : ℕ) (b : Box Op A) (o : Op) → i < length (map op_in bs) → b ≡ slice_index_or bs i b
    → o ≡ b.value → slice_get (map op_in bs) i ≡ Some (data_of o)
at_box bs i b o within read is =
    slice_get-map op_in bs i ∙ ap (option_map op_in)
    (slice_get-get_or bs i b (omega (arith, within, length-map bs op_in)) ∙ ap Some (sym read))
    ∙ ap (λ (x : Op). Some (data_of x)) (sym is)
