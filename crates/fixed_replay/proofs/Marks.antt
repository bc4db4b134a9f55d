-- Marks: which cells bear the mark of a cover, and a cell under all the marks of a set that it bears.
use Rattle.std.proofs.Common.{◌≡◌, ℕ, zero, suc, ◌+◌, ◌<◌, ◌≤◌, Bool, true, false, ◌&&◌, ◌==◌, if◌then◌else◌, List, [], ◌∷◌, ◌++◌, map, length, filter, Option, inl, inr, refl, ap, ap₂, sym, ◌∙◌, subst, arith}
use Rattle.std.specs.Prelude.{slice_get}
use Rattle.std.specs.Option.{option_map_or}
use Rattle.std.proofs.lemmas.Bool.{and_parts, and_from, cases_Bool, false_from_ne_true}
use Rattle.std.proofs.lemmas.Bool.Decides.{nat_tests}
use Rattle.op_name.specs.NameData.{NameData, name_eq}
use Rattle.op_name.specs.declared.member.Member.{Member}
use Rattle.op_name.specs.declared.member.Member.TheVariants.{Original}
use Rattle.context_diff.specs.Replays.{Cell, stands_at}
use Rattle.ttf_form.specs.declared.ins.Ins.{Ins}
use Rattle.ttf_form.specs.declared.cover.Mark.{Mark}
use Rattle.ttf_form.specs.declared.cover.Mark.TheVariants.{Own, By}
use Rattle.ttf_form.specs.declared.form.Form.{Form}
use Rattle.ttf_form.specs.declared.form.Form.TheVariants.{Ins as Insert, Cover as Covered}
use Rattle.ttf_form.specs.Names.{block}
use Rattle.ttf_form.specs.Forms.{ins_extent, added_by}
use Rattle.ttf_form.specs.Cells.{CellData, marked_if, bare_from, bare_cells, cell_key}
use Rattle.ttf_form.specs.Laws.Lists.{get_behind}
use Rattle.ttf_form.specs.Laws.Marks.{marks_if_two, marked_if_key}
use Rattle.transform_rec.specs.Sets.{plus}
use Rattle.transform_rec.specs.Lists.{IsIn, AreApart}
use Rattle.transform_rec.proofs.CallerLemmas.{count, plus_here, plus_other}
use Rattle.transform_rec.specs.Family.{Family}
use Rattle.transform_rec.specs.Executing.{keep}
use Rattle.op_name.proofs.CallerLemmas.{name_itself, name_same}
use Rattle.fixed_replay.proofs.Elements.{not_both}

-- ---- cells by name and offset

abbrev pub same_cell : Cell → Cell → Bool
same_cell d c = name_eq d.0 c.0 && (d.1 == c.1)

equal_numbers : (a b : ℕ) → (a == b) ≡ true → a ≡ b
equal_numbers a b h = grind (arith, nat_tests)

equal_self : (a : ℕ) → (a == a) ≡ true
equal_self a = grind (arith, nat_tests)

pub same_cell_tells : (d c : Cell) → same_cell d c ≡ true → d ≡ c
same_cell_tells d c h =
    let r = and_parts (name_eq d.0 c.0) (d.1 == c.1) h in
    let p = name_same d.0 c.0 r.0 in
    let q = equal_numbers d.1 c.1 r.1 in
    λ i. (p i, q i)

pub same_cell_self : (c : Cell) → same_cell c c ≡ true
same_cell_self c = and_from (name_eq c.0 c.0) (c.1 == c.1) (name_itself c.0) (equal_self c.1)

-- ---- the cells of one insert

block_behind : (c : Cell) (n : NameData) (first k : ℕ) → c.1 < first → count (same_cell c) (block n first k) ≡ 0
block_behind c n first zero l = refl
block_behind c n first (suc k) l =
    let other : same_cell c (n, first) ≡ false =
    false_from_ne_true (same_cell c (n, first))
    (λ s. let e : c.1 ≡ first = ap (λ (d : Cell). d.1) (same_cell_tells c (n, first) s) in absurd (omega (arith, e, l))) in
    ap₂ (λ (h : Bool) (m : ℕ). (if h then 1 else 0) + m) other (block_behind c n (suc first) k (omega (arith, l)))

block_once : (c : Cell) (n : NameData) (first k : ℕ) → count (same_cell c) (block n first k) ≤ 1
block_once c n first zero = omega arith
block_once c n first (suc k) = elim (cases_Bool (same_cell c (n, first))) [
  | inl s ↦
      let e : c.1 ≡ first = ap (λ (d : Cell). d.1) (same_cell_tells c (n, first) s) in
      let rest = block_behind c n (suc first) k (omega (arith, e)) in
      let all : count (same_cell c) (block n first (suc k)) ≡ 1 + 0 = ap₂ (λ (h : Bool) (m : ℕ). (if h then 1 else 0) + m) s rest in
      omega (arith, all)
  | inr s ↦
      let rest = block_once c n (suc first) k in
      let all : count (same_cell c) (block n first (suc k)) ≡ 0 + count (same_cell c) (block n (suc first) k) =
      ap (λ (h : Bool). (if h then 1 else 0) + count (same_cell c) (block n (suc first) k)) s in
      omega (arith, all, rest)
]

-- a block that isn't empty begins with the cell of its first offset
pub block_begins : (n : NameData) (first k : ℕ) (ys : List Cell) → 1 ≤ k
    → (rest : List Cell) × (block n first k ++ ys ≡ (n, first) ∷ rest)
block_begins n first zero ys some = absurd (omega (arith, some))
block_begins n first (suc k) ys some = (block n (suc first) k ++ ys, refl)

-- a form adds no cell twice
pub added_once : (f : Form) (c : Cell) → count (same_cell c) (added_by f) ≤ 1
added_once (Insert a) c = block_once c a.name 0 (ins_extent a)
added_once (Covered d) c = omega arith

-- a cell before any mark, as its insert makes it
abbrev pub bare_at : Cell → Form → CellData
bare_at c (Insert a) = record { name = c.0; offset = c.1; of = ins_extent a; generation = 0; deleters = [] }
bare_at c (Covered d) = record { name = c.0; offset = c.1; of = 0; generation = 0; deleters = [] }

bare_key : (c : Cell) (f : Form) → cell_key (bare_at c f) ≡ c
bare_key c (Insert a) = refl
bare_key c (Covered d) = refl

-- the cells that an insert adds, before any mark, are its own
bare_block : (a : Ins) (first k : ℕ)
    → map (λ (c : Cell). bare_at c (Insert a)) (block a.name first k) ≡ bare_from a.name (ins_extent a) first k
bare_block a first zero = refl
bare_block a first (suc k) = ap (λ (cs : List CellData). bare_at (a.name, first) (Insert a) ∷ cs) (bare_block a (suc first) k)

pub bare_added : (a : Ins) → map (λ (c : Cell). bare_at c (Insert a)) (added_by (Insert a)) ≡ bare_cells a
bare_added a = bare_block a 0 (ins_extent a)

-- ---- which cells bear a mark

-- a mark at the cell d is on the cell c: that of an insert on all cells of its name, that of a delete on d alone
abbrev pub reaches : Mark → Cell → Cell → Bool
reaches (Own g) d c = name_eq c.0 d.0
reaches (By n g) d c = same_cell d c

-- a mark at a place of a list is on the cell; none is past the end
abbrev pub is_on : Mark → ℕ → List Cell → Cell → Bool
is_on m n cs c = option_map_or (λ (d : Cell). reaches m d c) (slice_get cs n) false

pub on_behind : (m : Mark) (xs : List Cell) (d : Cell) (ys : List Cell) (n : ℕ) (c : Cell) → length xs ≡ n
    → is_on m n (xs ++ (d ∷ ys)) c ≡ reaches m d c
on_behind m xs d ys n c e =
    ap (λ (o : Option Cell). option_map_or (λ (x : Cell). reaches m x c) o false) (get_behind 0 n xs (d ∷ ys) (omega (arith, e)))

-- a mark at the place where the first cell of an insert stands
pub on_first : (m : Mark) (xs : List Cell) (a : Ins) (ys : List Cell) (n : ℕ) (c : Cell) → length xs ≡ n
    → is_on m n (xs ++ (added_by (Insert a) ++ ys)) c ≡ reaches m (a.name, 0) c
on_first m xs a ys n c e =
    let begins = block_begins a.name 0 (ins_extent a) ys a.some in
    ap (λ (cs : List Cell). is_on m n (xs ++ cs) c) begins.1 ∙ on_behind m xs (a.name, 0) begins.0 n c e

-- a mark of a delete is on the cell that stands at its place
pub on_stands : (d : NameData) (g n : ℕ) (cs : List Cell) (c : Cell) → is_on (By d g) n cs c ≡ stands_at n cs c
unfolding stands_at
on_stands d g n [] c = refl
on_stands d g zero (x ∷ xs) c = refl
on_stands d g (suc n) (x ∷ xs) c = on_stands d g n xs c

reaches_name : (m : Mark) (d c : Cell) → reaches m d c ≡ true → c.0 ≡ d.0
reaches_name (Own g) d c h = name_same c.0 d.0 h
reaches_name (By n g) d c h = ap (λ (x : Cell). x.0) (sym (same_cell_tells d c h))

on_name : (m : Mark) (n : ℕ) (cs : List Cell) (c : Cell) → is_on m n cs c ≡ true → (d : Cell) × IsIn d cs × (c.0 ≡ d.0)
on_name m n [] c h = not_both h refl
on_name m zero (d ∷ ds) c h = (d, inl refl, reaches_name m d c h)
on_name m (suc n) (d ∷ ds) c h = let r = on_name m n ds c h in (r.0, inr r.1, r.2)

-- the mark of a form, if it has one, is on the cell
abbrev pub form_on : Form → List Cell → Cell → Bool
form_on (Insert a) cs c = false
form_on (Covered k) cs c = is_on k.mark k.place cs c

-- a cell with such a mark has the name of one of the list
pub form_on_name : (f : Form) (cs : List Cell) (c : Cell) → form_on f cs c ≡ true → (d : Cell) × IsIn d cs × (c.0 ≡ d.0)
form_on_name (Insert a) cs c h = not_both h refl
form_on_name (Covered k) cs c h = on_name k.mark k.place cs c h

-- ---- marks of covers

-- what a form leaves on a cell that bears its mark
abbrev pub mark_by : Form → Bool → CellData → CellData
mark_by (Insert a) h d = d
mark_by (Covered k) h d = marked_if h k.mark d

mark_none : (f : Form) (d : CellData) → mark_by f false d ≡ d
mark_none (Insert a) d = refl
mark_none (Covered k) d = refl

mark_two : (f g : Form) (h l : Bool) (d : CellData) → mark_by f h (mark_by g l d) ≡ mark_by g l (mark_by f h d)
mark_two (Insert a) g h l d = refl
mark_two (Covered k) (Insert a) h l d = refl
mark_two (Covered k) (Covered e) h l d = marks_if_two h l k.mark e.mark d

mark_key : (f : Form) (h : Bool) (d : CellData) → cell_key (mark_by f h d) ≡ cell_key d
mark_key (Insert a) h d = refl
mark_key (Covered k) h d = marked_if_key h k.mark d

-- the cell bears the mark of m, which is at its place among the cells that m sees
abbrev pub bears : Family Form → List Cell → Member → Cell → Bool
bears b S m c = form_on (b.form m) (filter (keep (b.context m)) S) c

-- the cell under those marks of members of C in the list that it bears
abbrev pub marks_of : Family Form → List Cell → (Member → Bool) → Cell → List Member → CellData
marks_of b S C c [] = bare_at c (b.form (Original c.0))
marks_of b S C c (m ∷ ms) = mark_by (b.form m) (C m && bears b S m c) (marks_of b S C c ms)

module _ (b : Family Form) (S : List Cell) where
  pub marks_same : (C D : Member → Bool) (c : Cell) (ms : List Member) → ((z : Member) → IsIn z ms → C z ≡ D z)
      → marks_of b S C c ms ≡ marks_of b S D c ms
  marks_same C D c [] h = refl
  marks_same C D c (m ∷ ms) h =
      ap₂ (λ (p : Bool) (d : CellData). mark_by (b.form m) (p && bears b S m c) d) (h m (inl refl))
      (marks_same C D c ms (λ z i. h z (inr i)))

  -- one member more leaves its own mark
  pub marks_plus : (C : Member → Bool) (x : Member) (c : Cell) (ms : List Member) → C x ≡ false → IsIn x ms → AreApart ms
      → marks_of b S (plus C x) c ms ≡ mark_by (b.form x) (bears b S x c) (marks_of b S C c ms)
  marks_plus C x c [] l i a = absurd i
  marks_plus C x c (m ∷ ms) l (inl e) a =
      let here : plus C x m ≡ true = subst (λ (z : Member). plus C x z ≡ true) e (plus_here C x) in
      let out : C m ≡ false = subst (λ (z : Member). C z ≡ false) e l in
      let rest : marks_of b S (plus C x) c ms ≡ marks_of b S C c ms =
      marks_same (plus C x) C c ms (λ z i. plus_other C x z (λ (p : x ≡ z). a.0 z i (sym e ∙ p))) in
      let left : marks_of b S (plus C x) c (m ∷ ms) ≡ mark_by (b.form m) (bears b S m c) (marks_of b S C c ms) =
      ap₂ (λ (p : Bool) (d : CellData). mark_by (b.form m) (p && bears b S m c) d) here rest in
      let right : marks_of b S C c (m ∷ ms) ≡ marks_of b S C c ms =
      ap (λ (p : Bool). mark_by (b.form m) (p && bears b S m c) (marks_of b S C c ms)) out
      ∙ mark_none (b.form m) (marks_of b S C c ms) in
      left ∙ (ap (λ (z : Member). mark_by (b.form z) (bears b S z c) (marks_of b S C c ms)) (sym e)
      ∙ ap (mark_by (b.form x) (bears b S x c)) (sym right))
  marks_plus C x c (m ∷ ms) l (inr i) a =
      let other : plus C x m ≡ C m = plus_other C x m (λ (p : x ≡ m). a.0 x i (sym p)) in
      let ih = marks_plus C x c ms l i a.1 in
      ap₂ (λ (p : Bool) (d : CellData). mark_by (b.form m) (p && bears b S m c) d) other ih
      ∙ mark_two (b.form m) (b.form x) (C m && bears b S m c) (bears b S x c) (marks_of b S C c ms)

  -- a cell that bears no mark of C is as its insert made it
  pub marks_none : (C : Member → Bool) (c : Cell) (ms : List Member) → ((z : Member) → C z ≡ true → bears b S z c ≡ false)
      → marks_of b S C c ms ≡ bare_at c (b.form (Original c.0))
  marks_none C c [] h = refl
  marks_none C c (m ∷ ms) h =
      let off : (C m && bears b S m c) ≡ false = elim (cases_Bool (C m)) [ inl k ↦ rw (k, h m k) refl | inr k ↦ rw k refl ] in
      ap (λ (p : Bool). mark_by (b.form m) p (marks_of b S C c ms)) off ∙ (mark_none (b.form m) (marks_of b S C c ms) ∙ marks_none C c ms h)

  -- a mark changes neither name nor offset
  pub marks_key : (C : Member → Bool) (c : Cell) (ms : List Member) → cell_key (marks_of b S C c ms) ≡ c
  marks_key C c [] = bare_key c (b.form (Original c.0))
  marks_key C c (m ∷ ms) = mark_key (b.form m) (C m && bears b S m c) (marks_of b S C c ms) ∙ marks_key C c ms
