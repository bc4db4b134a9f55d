-- The rules behind the reading are the rules of well-formed operations.
use Rattle.std.proofs.Common.{◌≡◌, ℕ, ◌+◌, ◌≤◌, leb, eqb, Bool, true, false, cond, List, [], ◌∷◌, refl, subst, arith}
use Rattle.std.proofs.lemmas.Bool.{le-leb, leb-true, eqb-true, eq-eqb, and_parts, and_from}
use Rattle.op_name.specs.declared.member.Member.TheVariants.{Original}
use Rattle.op_name.specs.NameData.{NameData, name_eq}
use Rattle.op_name.proofs.CallerLemmas.{name_same, name_itself}
use Rattle.context_vector.specs.Contexts.{ContextData, AreEntries, HasNoStray, has, entry_of, entry_in}
use Rattle.context_diff.specs.Operations.{OpData, inserting, deleting, undoing, KeepsOwn, KeepsTarget}
use Rattle.wire_codec.specs.Judging.{is_own, has_target}

pub own_from : (o : OpData) → is_own o ≡ true → KeepsOwn o
own_from (inserting n p text c) h = eqb-true _ _ h
own_from (deleting n p c) h = eqb-true _ _ h
own_from (undoing a t g c) h = tt

pub own_to : (o : OpData) → KeepsOwn o → is_own o ≡ true
own_to (inserting n p text c) h = eq-eqb _ _ h
own_to (deleting n p c) h = eq-eqb _ _ h
own_to (undoing a t g c) h = refl

pub target_from : (o : OpData) → has_target o ≡ true → KeepsTarget o
target_from (inserting n p text c) h = tt
target_from (deleting n p c) h = tt
target_from (undoing a t g c) h = let parts = and_parts (has c (Original t)) (eqb (entry_of c t + 1) g) h in (parts.0, eqb-true _ _ parts.1)

pub target_to : (o : OpData) → KeepsTarget o → has_target o ≡ true
target_to (inserting n p text c) h = refl
target_to (deleting n p c) h = refl
target_to (undoing a t g c) h = and_from (has c (Original t)) (eqb (entry_of c t + 1) g) h.0 (eq-eqb _ _ h.1)

-- ---- undo entries

-- each undone name is an original of the context
abbrev pub AreOriginals : ContextData → List (NameData × ℕ) → Type 0
AreOriginals c [] = Unit {0}
AreOriginals c (e ∷ es) = (has c (Original e.0) ≡ true) × AreOriginals c es

-- an entry that is found further back is found
found_later : (b : Bool) (g k : ℕ) → 1 ≤ g → 1 ≤ k → 1 ≤ cond b g k
found_later true g k hg hk = hg
found_later false g k hg hk = hk

found_first : (b : Bool) (g k : ℕ) → b ≡ true → 1 ≤ g → 1 ≤ cond b g k
found_first true g k e h = h
found_first false g k e h = absurd cc

originals_from : (c : ContextData) (es : List (NameData × ℕ)) → AreEntries es
    → ((n : NameData) → 1 ≤ entry_in es n → has c (Original n) ≡ true) → AreOriginals c es
originals_from c [] are h = tt
originals_from c (e ∷ es) are h = (
  h e.0 (found_first (name_eq e.0 e.0) e.1 (entry_in es e.0) (name_itself e.0) are.1),
  originals_from c es are.4 (λ n found. h n (found_later (name_eq e.0 n) e.1 (entry_in es n) are.1 found)),
)

originals_at : (c : ContextData) (m n : NameData) (b : Bool) (g k : ℕ) → name_eq m n ≡ b → has c (Original m) ≡ true
    → (1 ≤ k → has c (Original n) ≡ true) → 1 ≤ cond b g k → has c (Original n) ≡ true
originals_at c m n true g k same is later found = subst (λ (x : NameData). has c (Original x) ≡ true) (name_same m n same) is
originals_at c m n false g k same is later found = later found

originals_to : (c : ContextData) (es : List (NameData × ℕ)) → AreOriginals c es → (n : NameData) → 1 ≤ entry_in es n
    → has c (Original n) ≡ true
originals_to c [] are n found = absurd (omega arith)
originals_to c (e ∷ es) are n found = originals_at c e.0 n (name_eq e.0 n) e.1 (entry_in es n) refl are.0 (originals_to c es are.1 n) found

pub stray_keeps : (c : ContextData) → AreOriginals c c.entries → HasNoStray c
stray_keeps c are n g h =
    let parts = and_parts (leb 1 g) (leb g (entry_of c n)) h in
    let some = leb-true 1 g parts.0 in
    let most = leb-true g (entry_of c n) parts.1 in
    originals_to c c.entries are n (omega (arith, some, most))

pub has_no_stray : (c : ContextData) → AreEntries c.entries → HasNoStray c → AreOriginals c c.entries
has_no_stray c entries keeps =
    originals_from c c.entries entries
    (λ n found. keeps n (entry_of c n)
    (and_from (leb 1 (entry_of c n)) (leb (entry_of c n) (entry_of c n)) (le-leb _ _ found) (le-leb _ _ (omega arith))))
