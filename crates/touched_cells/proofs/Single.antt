-- The one place of an operation that touched one cell.
use Rattle.std.proofs.Common.{◌≡◌, ℕ, ◌+◌, List, [], ◌∷◌, length, inl, inr, refl, subst, arith}
use Rattle.std.specs.Prelude.{Contains, Option, Some, None, IfSome, slice_get}
use Rattle.std.specs.List.Sorted.{IsStrictlyIncreasing}
use Rattle.op_name.specs.NameData.{NameData}
use Rattle.context_diff.specs.Operations.{OpData, inserting, deleting, undoing}
use Rattle.context_diff.specs.Histories.{IsValid}
use Rattle.ttf_form.specs.Cells.{CellData, cells_of}
use Rattle.ttf_form.specs.Families.{IsIn}
use Rattle.undo_group.specs.Laws.Members.{contains_in}
use Rattle.fixed_replay.specs.Replayed.{IsReplayed}
use Rattle.touched_cells.specs.Touched.{name_touched, ArePlacesTouched, IsBearer}
use Rattle.touched_cells.specs.Code.Seeking.{AreWith, AtMostOne, IsOneOf, IsOnlyOf, StandsAt}
use Rattle.touched_cells.proofs.Bearers.{cells_once, deleted_once, delete_borne, insert_borne}
use Rattle.touched_cells.proofs.Lists.{with_one}
use Rattle.touched_cells.proofs.Touching.{before_first, before_last, before_next}

rising_one : (p : ℕ) → IsStrictlyIncreasing (p ∷ [])
rising_one p i lt = absurd (omega (arith, lt))

module _ (h : List OpData) (v : IsValid h) (cs : List CellData) (r : IsReplayed h cs) where
  -- cells of an insert of one character are one
  same_cell : (n : NameData) (p q : ℕ) → IsOneOf (cells_of cs) n 1 p → IsOneOf (cells_of cs) n 1 q → p ≡ q
  same_cell n p q i j =
      let front : i.0 ≡ 0 = omega (arith, i.1) in
      let other : j.0 ≡ 0 = omega (arith, j.1) in
      cells_once h v cs r (n, 0) p q (subst (λ (k : ℕ). StandsAt (cells_of cs) (n, k) p) front i.2)
      (subst (λ (k : ℕ). StandsAt (cells_of cs) (n, k) q) other j.2)

  one_bearer : (o : OpData) → IsIn o h → (d : CellData) → IsOnlyOf o d → AtMostOne (IsBearer cs (name_touched o))
  one_bearer (inserting n place text k) i d only p q a b =
      let one = subst (λ (c : ℕ). (x : ℕ) → IsBearer cs n x → IsOneOf (cells_of cs) n c x) only.0
      (λ x e. (insert_borne h v cs r n place text k i x).0 e) in
      same_cell n p q (one p a) (one q b)
  one_bearer (deleting n place k) i d only p q a b =
      deleted_once h v cs r n p q ((delete_borne h v cs r n place k i p).0 a) ((delete_borne h v cs r n place k i q).0 b)
  one_bearer (undoing a t g k) i d only p q e f = absurd only

  bears_it : (o : OpData) (d : CellData) → IsOnlyOf o d → (p : ℕ) → slice_get cs p ≡ Some d → IsBearer cs (name_touched o) p
  bears_it (inserting n place text k) d only p at = record { cell = d; there = at; bears = inl only.1 }
  bears_it (deleting n place k) d only p at = record { cell = d; there = at; bears = inr only }
  bears_it (undoing a t g k) d only p at = absurd only

  -- where the cell at a place is the only one that the operation touched, no other one bears its name
  pub only_with : (o : OpData) → Contains h o → (d : CellData) → IsOnlyOf o d → (p : ℕ) → slice_get cs p ≡ Some d
      → AreWith (IsBearer cs (name_touched o)) [] (p ∷ [])
  only_with o there d only p at =
      with_one (IsBearer cs (name_touched o)) [] (p ∷ []) p (one_bearer o (contains_in o h there) d only) (bears_it o d only p at) refl

-- the place at which the last operation of a history touched a cell is the only one, if it touched no other
pub only_place : (h : List OpData) (from : ℕ) (cs : List CellData) (o : OpData) (p : ℕ) → length h ≡ from + 1 → slice_get h from ≡ Some o
    → AreWith (IsBearer cs (name_touched o)) [] (p ∷ []) → ArePlacesTouched h from cs (p ∷ [])
only_place h from cs o p last at added =
    before_last h from cs (from + 1) (p ∷ []) (p ∷ []) (omega (arith, last))
    (before_next h from cs from o [] (p ∷ []) (omega arith) at added (before_first h from cs)) (rising_one p) (λ q c. c) (λ q c. c)

-- the same of a value that is there
pub if_only : {A : Type 0} (o : Option A) (P Q : A → Type 0) → ((x : A) → P x → Q x) → IfSome o P → IfSome o Q
if_only None P Q f i = tt
if_only (Some x) P Q f i = f x i
