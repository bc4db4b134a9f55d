-- How the cells of inserts stand, once new cells came in or a mark was left; and a mark on an insert of one cell, or of several.
use Rattle.std.proofs.Common.{◌≡◌, ◌≢◌, ℕ, zero, suc, ◌+◌, ◌<◌, ◌≤◌, ◌==◌, Bool, true, false, if◌then◌else◌, List, [], ◌∷◌, ◌++◌, map, refl, sym, ap, ◌∙◌, subst, arith}
use Rattle.std.specs.Prelude.{Option, Some, None, slice_get}
use Rattle.std.specs.Option.{option_map_or}
use Rattle.std.proofs.lemmas.Bool.Decides.{nat_tests}
use Rattle.op_name.specs.NameData.{NameData, name_eq}
use Rattle.ttf_form.specs.declared.ins.Ins.{Ins}
use Rattle.ttf_form.specs.declared.cover.Mark.{Mark}
use Rattle.ttf_form.specs.declared.cover.Mark.TheVariants.{Own, By}
use Rattle.ttf_form.specs.Names.{LacksName, NewNames}
use Rattle.ttf_form.specs.Cells.{CellData, bare_from, bare_cells, put_in, change_at, marked, marked_if, raised, marked_in, cells_of}
use Rattle.ttf_form.specs.Laws.Cells.{keys_bare, block_new}
use Rattle.ttf_form.specs.Laws.Lists.{map-map, map-change}
use Rattle.ttf_form.specs.Laws.Marks.{raised_none}
use Rattle.ttf_form.specs.Laws.Deleters.{name_self, name_same}
use Rattle.tombstone_text.specs.Code.Inserts.{Origin, origin, origins, ComesBefore, AreOrdered, AreWithin, AreInserts}
use Rattle.tombstone_text.specs.Code.Spans.{raised_run}
use Rattle.tombstone_text.proofs.Following.{raised_only, raised_several}

before_append : (o : Origin) (xs ys : List CellData) → ComesBefore o (origins xs) → ComesBefore o (origins ys)
    → ComesBefore o (origins (xs ++ ys))
before_append o [] ys h g = g
before_append o (x ∷ xs) ys h g = (h.0, before_append o xs ys h.1 g)

before_put : (o : Origin) (k : ℕ) (new xs : List CellData) → ComesBefore o (origins new) → ComesBefore o (origins xs)
    → ComesBefore o (origins (put_in k new xs))
before_put o zero new xs h g = before_append o new xs h g
before_put o (suc k) new [] h g = before_append o new [] h g
before_put o (suc k) new (x ∷ xs) h g = (g.0, before_put o k new xs h g.1)

-- a cell of an insert that no cell of the list is of
before_others : (c : CellData) (xs : List CellData) → LacksName (cells_of xs) c.name → ComesBefore (origin c) (origins xs)
before_others c [] h = tt
before_others c (x ∷ xs) h = (λ e. absurd (h.0 (sym e)), before_others c xs h.1)

before_new : (x : CellData) (xs new : List CellData) → NewNames (cells_of (x ∷ xs)) (cells_of new)
    → ComesBefore (origin x) (origins new)
before_new x xs [] h = tt
before_new x xs (c ∷ new) h = (λ e. absurd (h.0.0 e), before_new x xs new h.1)

new_rest : (x : CellData) (xs new : List CellData) → NewNames (cells_of (x ∷ xs)) (cells_of new) → NewNames (cells_of xs) (cells_of new)
new_rest x xs [] h = tt
new_rest x xs (c ∷ new) h = (h.0.1, new_rest x xs new h.1)

ordered_append : (new xs : List CellData) → AreOrdered (origins new) → AreOrdered (origins xs) → NewNames (cells_of xs) (cells_of new)
    → AreOrdered (origins (new ++ xs))
ordered_append [] xs h g n = g
ordered_append (c ∷ new) xs h g n =
    (before_append (origin c) new xs h.0 (before_others c xs n.0), ordered_append new xs h.1 g n.1)

ordered_put : (k : ℕ) (new xs : List CellData) → AreOrdered (origins new) → AreOrdered (origins xs) → NewNames (cells_of xs) (cells_of new)
    → AreOrdered (origins (put_in k new xs))
ordered_put zero new xs h g n = ordered_append new xs h g n
ordered_put (suc k) new [] h g n = ordered_append new [] h g n
ordered_put (suc k) new (x ∷ xs) h g n =
    (before_put (origin x) k new xs (before_new x xs new n) g.0, ordered_put k new xs h g.1 (new_rest x xs new n))

within_append : (xs ys : List CellData) → AreWithin (origins xs) → AreWithin (origins ys) → AreWithin (origins (xs ++ ys))
within_append [] ys h g = g
within_append (x ∷ xs) ys h g = (h.0, within_append xs ys h.1 g)

within_put : (k : ℕ) (new xs : List CellData) → AreWithin (origins new) → AreWithin (origins xs) → AreWithin (origins (put_in k new xs))
within_put zero new xs h g = within_append new xs h g
within_put (suc k) new [] h g = within_append new [] h g
within_put (suc k) new (x ∷ xs) h g = (g.0, within_put k new xs h g.1)

-- new cells of inserts that aren't there
inserts_put : (k : ℕ) (new xs : List CellData) → AreInserts new → AreInserts xs → NewNames (cells_of xs) (cells_of new)
    → AreInserts (put_in k new xs)
inserts_put k new xs h g n =
    record { ordered = ordered_put k new xs h.ordered g.ordered n; within = within_put k new xs h.within g.within }

-- the cells of an insert before any mark
before_bare : (o : Origin) (n : NameData) (t f k : ℕ) → o.of ≡ t → o.offset < f → ComesBefore o (origins (bare_from n t f k))
before_bare o n t f zero of lt = tt
before_bare o n t f (suc k) of lt = (λ e. (lt, of), before_bare o n t (suc f) k of (omega (arith, lt)))

ordered_bare : (n : NameData) (t f k : ℕ) → AreOrdered (origins (bare_from n t f k))
ordered_bare n t f zero = tt
ordered_bare n t f (suc k) =
    (before_bare (record { name = n; offset = f; of = t }) n t (suc f) k refl (omega arith), ordered_bare n t (suc f) k)

within_bare : (n : NameData) (t f k : ℕ) → f + k ≤ t → AreWithin (origins (bare_from n t f k))
within_bare n t f zero le = tt
within_bare n t f (suc k) le = (omega (arith, le), within_bare n t (suc f) k (omega (arith, le)))

inserts_bare : (a : Ins) → AreInserts (bare_cells a)
inserts_bare a = record { ordered = ordered_bare a.name a.len 0 a.len; within = within_bare a.name a.len 0 a.len (omega arith) }

-- an insert that isn't there
pub inserts_added : (a : Ins) (k : ℕ) (xs : List CellData) → AreInserts xs → LacksName (cells_of xs) a.name
    → AreInserts (put_in k (bare_cells a) xs)
inserts_added a k xs h new =
    inserts_put k (bare_cells a) xs (inserts_bare a) h
    (subst (λ ks. NewNames (cells_of xs) ks) (sym (keys_bare a)) (block_new (cells_of xs) a.name 0 a.len new))

marked_origin : (b : Bool) (m : Mark) (c : CellData) → origin (marked_if b m c) ≡ origin c
marked_origin true (Own g) c = refl
marked_origin true (By d g) c = refl
marked_origin false m c = refl

inserts_same : (cs ds : List CellData) → origins ds ≡ origins cs → AreInserts cs → AreInserts ds
inserts_same cs ds e h = record { ordered = subst AreOrdered (sym e) h.ordered; within = subst AreWithin (sym e) h.within }

-- a mark on one cell
pub inserts_changed : (m : Mark) (p : ℕ) (cs : List CellData) → AreInserts cs → AreInserts (change_at p (marked m) cs)
inserts_changed m p cs h =
    inserts_same cs (change_at p (marked m) cs) (map-change origin (marked m) (λ c. marked_origin true m c) p cs) h

run_origin : (t : Bool) (g : ℕ) (n : NameData) (c : CellData) → origin (if t then c else raised g n c) ≡ origin c
run_origin true g n c = refl
run_origin false g n c = marked_origin (name_eq c.name n) (Own g) c

-- and on all of an insert
pub inserts_raised : (g : ℕ) (n : NameData) (cs : List CellData) → AreInserts cs → AreInserts (map (raised_run g n) cs)
inserts_raised g n cs h =
    inserts_same cs (map (raised_run g n) cs) (map-map origin (raised_run g n) (λ c. run_origin (c.of == 1) g n c) cs) h

-- behind the only cell of an insert no cell is of that insert
lacks_alone : (x : CellData) (xs : List CellData) → x.of ≡ 1 → ComesBefore (origin x) (origins xs) → AreWithin (origins xs)
    → LacksName (cells_of xs) x.name
lacks_alone x [] one h w = tt
lacks_alone x (y ∷ xs) one h w = (
  λ e. let o = h.0 (sym e) in
      let less = o.0 in let same = o.1 in let within = w.0 in
      absurd (omega (arith, less, same, within, one)),
  lacks_alone x xs one h.1 w.1,
)

-- nor before it
other_alone : (x : CellData) (p : ℕ) (xs : List CellData) (c : CellData) → ComesBefore (origin x) (origins xs) → AreWithin (origins xs)
    → slice_get xs p ≡ Some c → c.of ≡ 1 → x.name ≢ c.name
other_alone x p [] c h w e one = λ f. cc
other_alone x zero (y ∷ xs) c h w e one =
    let is : y ≡ c = cc in
    λ f. let o = h.0 (f ∙ ap (λ (d : CellData). d.name) (sym is)) in
    let less = o.0 in let within = w.0 in let of = ap (λ (d : CellData). d.of) is ∙ one in
    absurd (omega (arith, less, within, of))
other_alone x (suc p) (y ∷ xs) c h w e one = other_alone x p xs c h.1 w.1 e one

alone_is : (g p : ℕ) (cs : List CellData) (c : CellData) → AreOrdered (origins cs) → AreWithin (origins cs)
    → slice_get cs p ≡ Some c → c.of ≡ 1 → map (raised g c.name) cs ≡ change_at p (marked (Own g)) cs
alone_is g p [] c h w e one = refl
alone_is g zero (x ∷ xs) c h w e one =
    let is : x ≡ c = cc in
    let of : x.of ≡ 1 = ap (λ (d : CellData). d.of) is ∙ one in
    subst (λ (d : CellData). map (raised g d.name) (x ∷ xs) ≡ marked (Own g) x ∷ xs) is
    (ap (λ (t : Bool). marked_if t (Own g) x ∷ map (raised g x.name) xs) (name_self x.name)
    ∙ ap (λ (l : List CellData). marked (Own g) x ∷ l) (raised_none g x.name xs (lacks_alone x xs of h.0 w.1)))
alone_is g (suc p) (x ∷ xs) c h w e one = by (name_eq x.name c.name) refl (alone_is g p xs c h.1 w.1 e one)
  where
    by : (b : Bool) → name_eq x.name c.name ≡ b → map (raised g c.name) xs ≡ change_at p (marked (Own g)) xs
        → map (raised g c.name) (x ∷ xs) ≡ x ∷ change_at p (marked (Own g)) xs
    by true f rest = absurd (other_alone x p xs c h.0 w.1 e one (name_same x.name c.name f))
    by false f rest =
        ap (λ (t : Bool). marked_if t (Own g) x ∷ map (raised g c.name) xs) f
        ∙ ap (λ (l : List CellData). x ∷ l) rest

-- a mark of an insert at a cell that is there
pub own_at : (g p : ℕ) (cs : List CellData) (c : CellData) → slice_get cs p ≡ Some c → marked_in p (Own g) cs ≡ map (raised g c.name) cs
own_at g p cs c e = ap (λ (o : Option CellData). option_map_or (λ c. map (raised g c.name) cs) o cs) e

-- at the only cell of its insert it is on that cell alone
pub own_alone : (g p : ℕ) (cs : List CellData) (c : CellData) → AreInserts cs → slice_get cs p ≡ Some c → c.of ≡ 1
    → marked_in p (Own g) cs ≡ change_at p (marked (Own g)) cs
own_alone g p cs c h e one = own_at g p cs c e ∙ alone_is g p cs c h.ordered h.within e one

change_past : (f : CellData → CellData) (p : ℕ) (cs : List CellData) → slice_get cs p ≡ None → cs ≡ change_at p f cs
change_past f p [] e = refl
change_past f zero (x ∷ xs) e = cc
change_past f (suc p) (x ∷ xs) e = ap (λ (l : List CellData). x ∷ l) (change_past f p xs e)

-- past the end it is on none
pub own_past : (g p : ℕ) (cs : List CellData) → slice_get cs p ≡ None → marked_in p (Own g) cs ≡ change_at p (marked (Own g)) cs
own_past g p cs e =
    ap (λ (o : Option CellData). option_map_or (λ c. map (raised g c.name) cs) o cs) e ∙ change_past (marked (Own g)) p cs e

-- the cells of an insert are not its only one
abbrev AreSeveral : NameData → List CellData → Type 0
AreSeveral n [] = Unit {0}
AreSeveral n (c ∷ cs) = (c.name ≡ n → c.of ≢ 1) × AreSeveral n cs

several_behind : (c : CellData) (xs : List CellData) → ComesBefore (origin c) (origins xs) → c.of ≢ 1 → AreSeveral c.name xs
several_behind c [] h several = tt
several_behind c (x ∷ xs) h several = (λ e one. several ((h.0 (sym e)).1 ∙ one), several_behind c xs h.1 several)

of_before : (x : CellData) (p : ℕ) (xs : List CellData) (c : CellData) → ComesBefore (origin x) (origins xs) → slice_get xs p ≡ Some c
    → x.name ≡ c.name → x.of ≡ c.of
of_before x p [] c h e same = cc
of_before x zero (y ∷ xs) c h e same =
    let is : y ≡ c = cc in
    (h.0 (same ∙ ap (λ (d : CellData). d.name) (sym is))).1 ∙ ap (λ (d : CellData). d.of) is
of_before x (suc p) (y ∷ xs) c h e same = of_before x p xs c h.1 e same

several_all : (p : ℕ) (cs : List CellData) (c : CellData) → AreOrdered (origins cs) → slice_get cs p ≡ Some c → c.of ≢ 1
    → AreSeveral c.name cs
several_all p [] c h e several = tt
several_all zero (x ∷ xs) c h e several =
    let is : x ≡ c = cc in
    let here : x.of ≢ 1 = λ one. several (ap (λ (d : CellData). d.of) (sym is) ∙ one) in
    (λ _. here, subst (λ (d : CellData). AreSeveral d.name xs) is (several_behind x xs h.0 here))
several_all (suc p) (x ∷ xs) c h e several =
    (λ same one. several (sym (of_before x p xs c h.0 e same) ∙ one), several_all p xs c h.1 e several)

raised_same : (g : ℕ) (n : NameData) (x : CellData) → (x.name ≡ n → x.of ≢ 1) → raised g n x ≡ raised_run g n x
raised_same g n x other = by (x.of == 1) refl (name_eq x.name n) refl
  where
    by : (t : Bool) → (x.of == 1) ≡ t → (b : Bool) → name_eq x.name n ≡ b → raised g n x ≡ raised_run g n x
    by true e true f = absurd (other (name_same x.name n f) (grind (arith, nat_tests)))
    by true e false f =
        ap (λ (b : Bool). marked_if b (Own g) x) f ∙ sym (raised_only g n x (grind (arith, nat_tests)))
    by false e b f = sym (raised_several g n x (grind (arith, nat_tests)))

map_same : (g : ℕ) (n : NameData) (cs : List CellData) → AreSeveral n cs → map (raised g n) cs ≡ map (raised_run g n) cs
map_same g n [] h = refl
map_same g n (c ∷ cs) h =
    ap (λ d. d ∷ map (raised g n) cs) (raised_same g n c h.0) ∙ ap (λ (l : List CellData). raised_run g n c ∷ l) (map_same g n cs h.1)

-- at a cell of several it is on all of them
pub own_several : (g p : ℕ) (cs : List CellData) (c : CellData) → AreInserts cs → slice_get cs p ≡ Some c → c.of ≢ 1
    → marked_in p (Own g) cs ≡ map (raised_run g c.name) cs
own_several g p cs c h e several = own_at g p cs c e ∙ map_same g c.name cs (several_all p cs c h.ordered e several)
