-- Marks: on one cell, on a list, in any order, and with an insert.
use Rattle.std.proofs.Common.{◌≡◌, ◌≢◌, ℕ, zero, suc, ◌<◌, ◌≤◌, Bool, true, false, nat_lt, List, [], ◌∷◌, map, length, refl, sym, ap, ◌∙◌, arith}
use Rattle.std.specs.Prelude.{Option, Some, None, slice_get}
use Rattle.std.specs.Option.{option_map, option_map_or}
use Rattle.std.proofs.lemmas.Option.{slice_get-map}
use Rattle.std.proofs.lemmas.Bool.Decides.{nat_tests}
use Rattle.op_name.specs.NameData.{NameData, name_eq}
use Rattle.ttf_form.specs.declared.cover.Mark.{Mark}
use Rattle.ttf_form.specs.declared.cover.Mark.TheVariants.{Own, By}
use Rattle.ttf_form.specs.Names.{LacksName}
use Rattle.ttf_form.specs.Places.{cover_place}
use Rattle.ttf_form.specs.Cells.{CellData, marked, marked_if, raised, marked_in, put_in, change_at, cell_key, cells_of}
use Rattle.ttf_form.specs.Laws.Lists.{map-put, map-change, map-map, change_change, change_map, change_front_put, change_behind_put, get_moved}
use Rattle.ttf_form.specs.Laws.Places.{cover_less, cover_more}
use Rattle.ttf_form.specs.Laws.Deleters.{max_right_comm, raise_two, name_same}

-- two marks on one cell, in either order
pub marks_two : (m n : Mark) (c : CellData) → marked m (marked n c) ≡ marked n (marked m c)
marks_two (Own g) (Own h) c = ap (λ k. record c { generation = k }) (max_right_comm c.generation h g)
marks_two (Own g) (By d h) c = refl
marks_two (By d g) (Own h) c = refl
marks_two (By d g) (By e h) c = ap (λ ds. record c { deleters = ds }) (raise_two d e g h c.deleters)

pub marks_if_two : (a b : Bool) (m n : Mark) (c : CellData) → marked_if a m (marked_if b n c) ≡ marked_if b n (marked_if a m c)
marks_if_two true true m n c = marks_two m n c
marks_if_two true false m n c = refl
marks_if_two false b m n c = refl

-- a mark changes neither name nor offset
pub marked_key : (m : Mark) (c : CellData) → cell_key (marked m c) ≡ cell_key c
marked_key (Own g) c = refl
marked_key (By d g) c = refl

pub marked_if_key : (b : Bool) (m : Mark) (c : CellData) → cell_key (marked_if b m c) ≡ cell_key c
marked_if_key true m c = marked_key m c
marked_if_key false m c = refl

pub raised_key : (g : ℕ) (n : NameData) (c : CellData) → cell_key (raised g n c) ≡ cell_key c
raised_key g n c = marked_if_key (name_eq c.name n) (Own g) c

raised_name : (g : ℕ) (n : NameData) (c : CellData) → (raised g n c).name ≡ c.name
raised_name g n c = ap (λ (k : NameData × ℕ). k.0) (raised_key g n c)

-- two inserts raised, in either order
raised_two : (g h : ℕ) (n m : NameData) (c : CellData) → raised g n (raised h m c) ≡ raised h m (raised g n c)
raised_two g h n m c =
    ap (λ (k : NameData). marked_if (name_eq k n) (Own g) (raised h m c)) (raised_name h m c)
    ∙ marks_if_two (name_eq c.name n) (name_eq c.name m) (Own g) (Own h) c
    ∙ sym (ap (λ (k : NameData). marked_if (name_eq k m) (Own h) (raised g n c)) (raised_name g n c))

-- an insert raised that no cell is of
pub raised_none : (g : ℕ) (n : NameData) (cs : List CellData) → LacksName (cells_of cs) n → map (raised g n) cs ≡ cs
raised_none g n [] h = refl
raised_none g n (c ∷ cs) h = by (name_eq c.name n) refl (raised_none g n cs h.1)
  where
    by : (b : Bool) → name_eq c.name n ≡ b → map (raised g n) cs ≡ cs → map (raised g n) (c ∷ cs) ≡ c ∷ cs
    by true e rest = absurd (h.0 (name_same c.name n e))
    by false e rest =
        ap (λ (t : Bool). marked_if t (Own g) c ∷ map (raised g n) cs) e ∙ ap (λ (l : List CellData). c ∷ l) rest

raised_by : (g h : ℕ) (n d : NameData) (p : ℕ) (cs : List CellData)
    → change_at p (marked (By d h)) (map (raised g n) cs) ≡ map (raised g n) (change_at p (marked (By d h)) cs)
raised_by g h n d p cs =
    change_map (marked (By d h)) (raised g n) (λ c. marks_if_two true (name_eq c.name n) (By d h) (Own g) c) p cs

-- a mark of an insert asks for the name at its place alone
abbrev raised_at : ℕ → Option NameData → List CellData → List CellData
raised_at g o cs = option_map_or (λ (n : NameData). map (raised g n) cs) o cs

own_is : (g p : ℕ) (cs : List CellData) → marked_in p (Own g) cs ≡ raised_at g (slice_get (map (λ (c : CellData). c.name) cs) p) cs
own_is g p cs = by (slice_get cs p) ∙ sym (ap (λ (o : Option NameData). raised_at g o cs) (slice_get-map (λ (c : CellData). c.name) cs p))
  where
    by : (o : Option CellData)
        → option_map_or (λ (c : CellData). map (raised g c.name) cs) o cs ≡ raised_at g (option_map (λ (c : CellData). c.name) o) cs
    by None = refl
    by (Some c) = refl

-- a mark keeps the cells by name and offset
pub marked_cells : (m : Mark) (p : ℕ) (cs : List CellData) → cells_of (marked_in p m cs) ≡ cells_of cs
marked_cells (Own g) p cs = by (slice_get cs p)
  where
    by : (o : Option CellData) → cells_of (option_map_or (λ (c : CellData). map (raised g c.name) cs) o cs) ≡ cells_of cs
    by None = refl
    by (Some c) = map-map cell_key (raised g c.name) (λ x. raised_key g c.name x) cs
marked_cells (By d g) p cs = map-change cell_key (marked (By d g)) (marked_key (By d g)) p cs

names_of_keys : (cs : List CellData) → map (λ (c : CellData). c.name) cs ≡ map (λ (k : NameData × ℕ). k.0) (cells_of cs)
names_of_keys [] = refl
names_of_keys (c ∷ cs) = ap (λ (l : List NameData). c.name ∷ l) (names_of_keys cs)

marked_names : (m : Mark) (p : ℕ) (cs : List CellData)
    → map (λ (c : CellData). c.name) (marked_in p m cs) ≡ map (λ (c : CellData). c.name) cs
marked_names m p cs =
    names_of_keys (marked_in p m cs)
    ∙ ap (λ (ks : List (NameData × ℕ)). map (λ (k : NameData × ℕ). k.0) ks) (marked_cells m p cs)
    ∙ sym (names_of_keys cs)

maps_two : (g h : ℕ) (n m : NameData) (cs : List CellData)
    → map (raised g n) (map (raised h m) cs) ≡ map (raised h m) (map (raised g n) cs)
maps_two g h n m [] = refl
maps_two g h n m (c ∷ cs) =
    ap (λ y. y ∷ map (raised g n) (map (raised h m) cs)) (raised_two g h n m c)
    ∙ ap (λ ys. raised h m (raised g n c) ∷ ys) (maps_two g h n m cs)

owns_two : (g h : ℕ) (a b : Option NameData) (cs : List CellData)
    → raised_at g a (raised_at h b cs) ≡ raised_at h b (raised_at g a cs)
owns_two g h None b cs = refl
owns_two g h (Some n) None cs = refl
owns_two g h (Some n) (Some m) cs = maps_two g h n m cs

own_change : (g h : ℕ) (a : Option NameData) (d : NameData) (q : ℕ) (cs : List CellData)
    → raised_at g a (change_at q (marked (By d h)) cs) ≡ change_at q (marked (By d h)) (raised_at g a cs)
own_change g h None d q cs = refl
own_change g h (Some n) d q cs = sym (raised_by g h n d q cs)

-- a mark of an insert on marked cells
own_after : (g p : ℕ) (m : Mark) (q : ℕ) (cs : List CellData)
    → marked_in p (Own g) (marked_in q m cs) ≡ raised_at g (slice_get (map (λ (c : CellData). c.name) cs) p) (marked_in q m cs)
own_after g p m q cs =
    own_is g p (marked_in q m cs)
    ∙ ap (λ (l : List NameData). raised_at g (slice_get l p) (marked_in q m cs)) (marked_names m q cs)

own_by : (g p : ℕ) (d : NameData) (h q : ℕ) (cs : List CellData)
    → marked_in p (Own g) (marked_in q (By d h) cs) ≡ marked_in q (By d h) (marked_in p (Own g) cs)
own_by g p d h q cs =
    own_after g p (By d h) q cs
    ∙ own_change g h (slice_get (map (λ (c : CellData). c.name) cs) p) d q cs
    ∙ sym (ap (change_at q (marked (By d h))) (own_is g p cs))

-- two marks on a list, in either order
pub marks_both : (m n : Mark) (p q : ℕ) (cs : List CellData) → marked_in p m (marked_in q n cs) ≡ marked_in q n (marked_in p m cs)
marks_both (Own g) (Own h) p q cs =
    let names = map (λ (c : CellData). c.name) cs in
    own_after g p (Own h) q cs
    ∙ ap (raised_at g (slice_get names p)) (own_is h q cs)
    ∙ owns_two g h (slice_get names p) (slice_get names q) cs
    ∙ sym (own_after h q (Own g) p cs ∙ ap (raised_at h (slice_get names q)) (own_is g p cs))
marks_both (Own g) (By d h) p q cs = own_by g p d h q cs
marks_both (By d g) (Own h) p q cs = sym (own_by h q d g p cs)
marks_both (By d g) (By e h) p q cs = change_change (marked (By d g)) (marked (By e h)) (marks_two (By d g) (By e h)) p q cs

-- a mark, and new cells whose name is not that of the cell that it covers
own_put : (g k q : ℕ) (new cs : List CellData) → k < length cs
    → ((c : CellData) → slice_get cs k ≡ Some c → LacksName (cells_of new) c.name)
    → marked_in (cover_place k q (length new)) (Own g) (put_in q new cs) ≡ put_in q new (marked_in k (Own g) cs)
own_put g k q new cs some lacks =
    ap (λ (o : Option CellData). option_map_or (λ (c : CellData). map (raised g c.name) (put_in q new cs)) o (put_in q new cs))
    (get_moved k q new cs some)
    ∙ by (slice_get cs k) refl
  where
    by : (o : Option CellData) → slice_get cs k ≡ o
        → option_map_or (λ (c : CellData). map (raised g c.name) (put_in q new cs)) o (put_in q new cs)
        ≡ put_in q new (option_map_or (λ (c : CellData). map (raised g c.name) cs) o cs)
    by None e = refl
    by (Some c) e =
        map-put (raised g c.name) q new cs
        ∙ ap (λ (l : List CellData). put_in q l (map (raised g c.name) cs)) (raised_none g c.name new (lacks c e))

by_put : (d : NameData) (g k q : ℕ) (new cs : List CellData) → k < length cs
    → marked_in (cover_place k q (length new)) (By d g) (put_in q new cs) ≡ put_in q new (marked_in k (By d g) cs)
by_put d g k q new cs some = by (nat_lt k q) refl
  where
    by : (t : Bool) → nat_lt k q ≡ t
        → change_at (cover_place k q (length new)) (marked (By d g)) (put_in q new cs) ≡ put_in q new (change_at k (marked (By d g)) cs)
    by true e =
        let l : k < q = grind (arith, nat_tests) in
        ap (λ (p : ℕ). change_at p (marked (By d g)) (put_in q new cs)) (cover_less k q (length new) l)
        ∙ change_front_put (marked (By d g)) k q new cs l some
    by false e =
        let l : q ≤ k = grind (arith, nat_tests) in
        change_behind_put (marked (By d g)) k q (cover_place k q (length new)) new cs l some (cover_more k q (length new) l)

pub mark_put : (m : Mark) (k q : ℕ) (new cs : List CellData) → k < length cs
    → ((c : CellData) → slice_get cs k ≡ Some c → LacksName (cells_of new) c.name)
    → marked_in (cover_place k q (length new)) m (put_in q new cs) ≡ put_in q new (marked_in k m cs)
mark_put (Own g) k q new cs some lacks = own_put g k q new cs some lacks
mark_put (By d g) k q new cs some lacks = by_put d g k q new cs some

abbrev is_some : Option CellData → ℕ
is_some None = 0
is_some (Some c) = 1

-- what a cell of a list that lacks a name is not called
pub lacks_got : (cs : List CellData) (n : NameData) (k : ℕ) (c : CellData) → LacksName (cells_of cs) n → slice_get cs k ≡ Some c
    → c.name ≢ n
lacks_got [] n k c h e = let q = ap is_some e in absurd (omega (arith, q))
lacks_got (x ∷ xs) n zero c h e = λ f. h.0 (ap (λ (o : Option CellData). option_map_or (λ (y : CellData). y.name) o n) e ∙ f)
lacks_got (x ∷ xs) n (suc k) c h e = lacks_got xs n k c h.1 e
