-- Which cells bear the name of an insert or of a delete of a valid history.
use Rattle.std.proofs.Common.{◌≡◌, ℕ, zero, suc, true, List, [], ◌∷◌, length, inl, inr, refl, ap, sym, ◌∙◌, subst, arith}
use Rattle.std.specs.Prelude.{◌↔◌, ◌==◌, Contains, Some, None, option_map, slice_get}
use Rattle.std.specs.List.{list_any}
use Rattle.std.proofs.lemmas.Bool.{and_parts}
use Rattle.std.proofs.lemmas.Option.{slice_get-map}
use Rattle.op_name.specs.NameData.{NameData, name_eq}
use Rattle.op_name.specs.declared.member.Member.TheVariants.{Original}
use Rattle.op_name.proofs.CallerLemmas.{name_itself, name_same, number_order}
use Rattle.context_vector.specs.Contexts.{ContextData, has}
use Rattle.context_diff.specs.Operations.{OpData, inserting, deleting, member_of}
use Rattle.context_diff.specs.Histories.{IsValid}
use Rattle.context_diff.specs.Replays.{Cell, replay_of, seen, stands_at, hits}
use Rattle.context_diff.proofs.CallerLemmas.{complete}
use Rattle.ttf_form.specs.Cells.{CellData, cell_key, cells_of}
use Rattle.ttf_form.specs.Families.{IsIn}
use Rattle.undo_group.specs.Laws.Members.{in_contains, contains_in}
use Rattle.fixed_replay.specs.Replayed.{IsReplayed, IsDeleter}
use Rattle.fixed_replay.proofs.CallerLemmas.{any_in, in_any, not_both}
use Rattle.touched_cells.specs.Touched.{IsBearer, IsDeletedBy}
use Rattle.touched_cells.specs.Code.Seeking.{StandsAt, StandOnce, AtMostOne, IsOneOf, IsDeletedAt}
use Rattle.touched_cells.proofs.Inserts.{IsCellOf, replayed_once, replayed_insert}

-- ---- lists

pub got_in : {A : Type 0} (xs : List A) (p : ℕ) (x : A) → slice_get xs p ≡ Some x → IsIn x xs
got_in [] p x e = let none : None ≡ Some x = e in cc
got_in (y ∷ ys) zero x e = inl (let is : y ≡ x = cc in sym is)
got_in (y ∷ ys) (suc p) x e = inr (got_in ys p x e)

-- where a cell is, stands what names it
pub key_there : (cs : List CellData) (p : ℕ) (d : CellData) → slice_get cs p ≡ Some d → StandsAt (cells_of cs) (cell_key d) p
key_there cs p d e = slice_get-map cell_key cs p ∙ ap (option_map cell_key) e

-- and where that stands, such a cell is
pub record Found (cs : List CellData) (c : Cell) (p : ℕ) : Type 0 where
  pub cell : CellData
  pub there : slice_get cs p ≡ Some cell
  pub name : cell.name ≡ c.0
  pub offset : cell.offset ≡ c.1

pub found : (cs : List CellData) (c : Cell) (p : ℕ) → StandsAt (cells_of cs) c p → Found cs c p
found [] c p e = let none : None ≡ Some c = e in cc
found (d ∷ ds) c zero e =
    let is : cell_key d ≡ c = cc in
    record { cell = d; there = refl; name = ap (λ (k : Cell). k.0) is; offset = ap (λ (k : Cell). k.1) is }
found (d ∷ ds) c (suc p) e =
    let r = found ds c p e in record { cell = r.cell; there = r.there; name = r.name; offset = r.offset }

-- at a place of a list stands one cell
stands_one : (n : ℕ) (ks : List Cell) (c d : Cell) → stands_at n ks c ≡ true → stands_at n ks d ≡ true → (c.0 ≡ d.0) × (c.1 ≡ d.1)
unfolding stands_at
stands_one n [] c d e f = not_both e refl
stands_one zero (k ∷ ks) c d e f =
    let p = and_parts (name_eq k.0 c.0) (k.1 == c.1) e in
    let q = and_parts (name_eq k.0 d.0) (k.1 == d.1) f in (
      sym (name_same k.0 c.0 p.0) ∙ name_same k.0 d.0 q.0,
      sym (number_order.same k.1 c.1 p.1) ∙ number_order.same k.1 d.1 q.1,
    )
stands_one (suc n) (k ∷ ks) c d e f = stands_one n ks c d e f

-- one of these deletes has the name
pub named_in : (n : NameData) (ds : List (NameData × ℕ)) → (list_any (λ e. name_eq e.0 n) ds ≡ true) ↔ ((g : ℕ) × IsIn (n, g) ds)
named_in n ds = (
  λ e. let a = any_in (λ (d : NameData × ℕ). name_eq d.0 n) ds e in
      (a.0.1, subst (λ (m : NameData). IsIn (m, a.0.1) ds) (name_same a.0.0 n a.2) a.1),
  λ i. in_any (λ (d : NameData × ℕ). name_eq d.0 n) (n, i.0) ds i.1 (name_itself n),
)

-- ---- the cells of a valid history

module _ (h : List OpData) (v : IsValid h) (cs : List CellData) (r : IsReplayed h cs) where
  -- no cell stands at two places
  pub cells_once : StandOnce (cells_of cs)
  cells_once = subst StandOnce (sym r.cells) (replayed_once h v)

  -- the insert of a cell
  cell_insert : (p : ℕ) (d : CellData) → slice_get cs p ≡ Some d → IsCellOf h (cell_key d)
  cell_insert p d e =
      replayed_insert h v (cell_key d) p (subst (λ (ks : List Cell). StandsAt ks (cell_key d) p) r.cells (key_there cs p d e))

  -- a name is that of one operation
  one : (o q : OpData) → IsIn o h → IsIn q h → member_of o ≡ member_of q → o ≡ q
  one o q i j e = (complete h v).one o q (in_contains o h i) (in_contains q h j) e

  -- an insert and a delete have different names
  not_each : (n m : NameData) (p q : ℕ) (text : List ℕ) (k l : ContextData) {P : Type 0} → IsIn (inserting n p text k) h
      → IsIn (deleting m q l) h → n ≡ m → P
  not_each n m p q text k l i j e =
      let same = one (inserting n p text k) (deleting m q l) i j (ap (λ (x : NameData). Original x) e) in absurd (cc)

  -- the delete that hit the cell at a place
  deleter : (d : CellData) → IsIn d cs → (n : NameData) → IsDeletedBy d n → IsDeleter h (cell_key d) n
  deleter d i n by = ((r.deleters d i n by.0).0 by.1).0

  deleter_at : (n : NameData) (p : ℕ) (i : IsDeletedAt cs n p) → IsDeleter h (cell_key i.cell) n
  deleter_at n p i = deleter i.cell (got_in cs p i.cell i.there) n i.deleted

  -- a delete hits one cell
  pub deleted_once : (n : NameData) → AtMostOne (IsDeletedAt cs n)
  deleted_once n p q i j =
      let a = deleter_at n p i in
      let b = deleter_at n q j in
      let same = one (deleting n b.place b.context) (deleting n a.place a.context) b.there a.there refl in
      let hit : hits h (deleting n a.place a.context) (cell_key j.cell) ≡ true =
      subst (λ (o : OpData). hits h o (cell_key j.cell) ≡ true) same b.hit in
      let keys =
      stands_one a.place (seen (λ m. has a.context (Original m)) (replay_of h)) (cell_key i.cell) (cell_key j.cell) a.hit hit in
      let key : cell_key i.cell ≡ cell_key j.cell = λ t. (keys.0 t, keys.1 t) in
      cells_once (cell_key j.cell) p q
      (subst (λ (c : Cell). StandsAt (cells_of cs) c p) key (key_there cs p i.cell i.there))
      (key_there cs q j.cell j.there)

  -- the name of an insert is borne by its own cells, and by no others
  pub insert_borne : (n : NameData) (place : ℕ) (text : List ℕ) (k : ContextData) → IsIn (inserting n place text k) h → (p : ℕ)
      → IsBearer cs n p ↔ IsOneOf (cells_of cs) n (length text) p
  insert_borne n place text k i p = (forth, back)
    where
      forth : IsBearer cs n p → IsOneOf (cells_of cs) n (length text) p
      forth b = elim b.bears [
        | inl name ↦
            let c = cell_insert p b.cell b.there in
            let same = one (inserting b.cell.name c.place c.text c.context) (inserting n place text k) c.there i
            (ap (λ (x : NameData). Original x) name) in
            let long : c.text ≡ text = cc in (
              b.cell.offset,
              omega (arith, c.within, ap (λ (xs : List ℕ). length xs) long),
              subst (λ (x : NameData). StandsAt (cells_of cs) (x, b.cell.offset) p) name (key_there cs p b.cell b.there),
            )
        | inr by ↦
            let d = deleter b.cell (got_in cs p b.cell b.there) n by in
            not_each n n place d.place text k d.context i d.there refl
      ]

      back : IsOneOf (cells_of cs) n (length text) p → IsBearer cs n p
      back (j, less, at) = let f = found cs (n, j) p at in record { cell = f.cell; there = f.there; bears = inl f.name }

  -- that of a delete by the cell that it hit
  pub delete_borne : (n : NameData) (place : ℕ) (k : ContextData) → IsIn (deleting n place k) h → (p : ℕ)
      → IsBearer cs n p ↔ IsDeletedAt cs n p
  delete_borne n place k i p = (forth, λ (d : IsDeletedAt cs n p). record { cell = d.cell; there = d.there; bears = inr d.deleted })
    where
      forth : IsBearer cs n p → IsDeletedAt cs n p
      forth b = elim b.bears [
        | inl name ↦
            let c = cell_insert p b.cell b.there in
            not_each b.cell.name n c.place place c.text c.context k c.there i name
        | inr by ↦ record { cell = b.cell; there = b.there; deleted = by }
      ]

  -- the insert or delete that has the name, as the operation that is found
  pub found_insert : (o : OpData) (n m : NameData) (place : ℕ) (text : List ℕ) (k : ContextData) → Contains h o → member_of o ≡ Original n
      → o ≡ inserting m place text k → (p : ℕ) → IsBearer cs n p ↔ IsOneOf (cells_of cs) n (length text) p
  found_insert o n m place text k there named is =
      let listed = subst (λ (q : OpData). IsIn q h) is (contains_in o h there) in
      let names : Original m ≡ Original n = ap member_of (sym is) ∙ named in
      let same : m ≡ n = cc in
      insert_borne n place text k (subst (λ (x : NameData). IsIn (inserting x place text k) h) same listed)

  pub found_delete : (o : OpData) (n m : NameData) (place : ℕ) (k : ContextData) → Contains h o → member_of o ≡ Original n
      → o ≡ deleting m place k → (p : ℕ) → IsBearer cs n p ↔ IsDeletedAt cs n p
  found_delete o n m place k there named is =
      let listed = subst (λ (q : OpData). IsIn q h) is (contains_in o h there) in
      let names : Original m ≡ Original n = ap member_of (sym is) ∙ named in
      let same : m ≡ n = cc in
      delete_borne n place k (subst (λ (x : NameData). IsIn (deleting x place k) h) same listed)
