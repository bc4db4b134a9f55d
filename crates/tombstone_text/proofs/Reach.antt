-- From where to where the cells of an insert stand: the offsets of an insert rise, so none of its cells stands before the one at
-- offset 0; and each is below the number of its cells, so none stands behind the one whose offset is one less than that.
use Rattle.std.proofs.Common.{◌≡◌, ◌≢◌, ℕ, zero, suc, ◌+◌, ◌<◌, ◌≤◌, ◌==◌, Bool, true, false, if◌then◌else◌, List, [], ◌∷◌, ◌++◌, map, length, take, get_or, refl, sym, ap, ◌∙◌, subst, inl, inr, arith}
use Rattle.std.specs.Prelude.{Some, slice_get}
use Rattle.std.proofs.lemmas.Bool.Decides.{nat_tests}
use Rattle.op_name.specs.NameData.{NameData, name_eq}
use Rattle.ttf_form.specs.declared.cover.Mark.TheVariants.{Own}
use Rattle.ttf_form.specs.Cells.{CellData, change_at, marked_if}
use Rattle.ttf_form.specs.Laws.Deleters.{name_same}
use Rattle.tombstone_text.specs.Chunks.{flat}
use Rattle.tombstone_text.specs.Code.Inserts.{origin, origins, ComesBefore, AreOrdered, AreWithin, AreInserts, LacksRun, HasLast}
use Rattle.tombstone_text.specs.Code.Spans.{IsSpot, next_of, run_from, raised_run}
use Rattle.tombstone_text.proofs.Following.{placed, next_placed, numbered, raised_only, raised_several}
use Rattle.tombstone_text.proofs.Pieces.{flat_low}
use Rattle.tombstone_text.proofs.Raising.{changed_first}

-- the cells of a span
next_among : (c : CellData) → (next_of c).of ≡ c.of
next_among c = by (c.of == 1)
  where
    by : (t : Bool) → (if t then numbered c (c.name.number + 1) else placed c (c.offset + 1)).of ≡ c.of
    by true = refl
    by false = refl

alone_lacks : (n : NameData) (c : CellData) (k : ℕ) → c.of ≡ 1 → LacksRun n (run_from c k)
alone_lacks n c zero one = tt
alone_lacks n c (suc k) one = (λ _. one, alone_lacks n (next_of c) k (next_among c ∙ one))

other_lacks : (n : NameData) (c : CellData) (k : ℕ) → c.of ≢ 1 → c.name ≢ n → LacksRun n (run_from c k)
other_lacks n c zero several other = tt
other_lacks n c (suc k) several other = (
  λ same. absurd (other same),
  subst (λ d. LacksRun n (run_from d k)) (sym (next_placed c several)) (other_lacks n (placed c (c.offset + 1)) k several other),
)

pub span_lacks : (n : NameData) (c : CellData) (k : ℕ) → (c.name ≡ n → c.of ≡ 1) → LacksRun n (run_from c k)
span_lacks n c k other = by (c.of == 1) refl
  where
    by : (t : Bool) → (c.of == 1) ≡ t → LacksRun n (run_from c k)
    by true e = alone_lacks n c k (grind (arith, nat_tests))
    by false e =
        let several : c.of ≢ 1 = grind (arith, nat_tests) in
        other_lacks n c k several (λ same. several (other same))

pub run_last : (n : NameData) (c : CellData) (k : ℕ) → c.of ≢ 1 → c.name ≡ n → c.offset + suc k ≡ c.of → HasLast n (run_from c (suc k))
run_last n c zero several is last = inl (is, omega (arith, last))
run_last n c (suc k) several is last =
    inr (subst (λ d. HasLast n (run_from d (suc k))) (sym (next_placed c several))
    (run_last n (placed c (c.offset + 1)) k several is (omega (arith, last))))

-- lists one after the other
pub lacks_append : (n : NameData) (xs ys : List CellData) → LacksRun n xs → LacksRun n ys → LacksRun n (xs ++ ys)
lacks_append n [] ys h g = g
lacks_append n (x ∷ xs) ys h g = (h.0, lacks_append n xs ys h.1 g)

lacks_left : (n : NameData) (xs ys : List CellData) → LacksRun n (xs ++ ys) → LacksRun n xs
lacks_left n [] ys h = tt
lacks_left n (x ∷ xs) ys h = (h.0, lacks_left n xs ys h.1)

lacks_right : (n : NameData) (xs ys : List CellData) → LacksRun n (xs ++ ys) → LacksRun n ys
lacks_right n [] ys h = h
lacks_right n (x ∷ xs) ys h = lacks_right n xs ys h.1

last_left : (n : NameData) (xs ys : List CellData) → HasLast n xs → HasLast n (xs ++ ys)
last_left n [] ys h = absurd h
last_left n (x ∷ xs) ys (inl h) = inl h
last_left n (x ∷ xs) ys (inr h) = inr (last_left n xs ys h)

last_right : (n : NameData) (xs ys : List CellData) → HasLast n ys → HasLast n (xs ++ ys)
last_right n [] ys h = h
last_right n (x ∷ xs) ys h = inr (last_right n xs ys h)

pub last_in : (n : NameData) (cs : List (List CellData)) (i : ℕ) → i < length cs → HasLast n (get_or cs i []) → HasLast n (flat cs)
last_in n [] i lt h = absurd (omega (arith, lt))
last_in n (c ∷ cs) zero lt h = last_left n c (flat cs) h
last_in n (c ∷ cs) (suc i) lt h = last_right n c (flat cs) (last_in n cs i (omega (arith, lt)) h)

-- what is of no insert of several stays as it is
raised_other : (g : ℕ) (n : NameData) (c : CellData) → (c.name ≡ n → c.of ≡ 1) → raised_run g n c ≡ c
raised_other g n c other = by (c.of == 1) refl (name_eq c.name n) refl
  where
    by : (t : Bool) → (c.of == 1) ≡ t → (b : Bool) → name_eq c.name n ≡ b → raised_run g n c ≡ c
    by true e b f = raised_only g n c (grind (arith, nat_tests))
    by false e true f =
        let one = other (name_same c.name n f) in
        absurd (grind (arith, nat_tests))
    by false e false f =
        let several : c.of ≢ 1 = grind (arith, nat_tests) in
        raised_several g n c several ∙ ap (λ (b : Bool). marked_if b (Own g) c) f

raised_lacking : (g : ℕ) (n : NameData) (cs : List CellData) → LacksRun n cs → map (raised_run g n) cs ≡ cs
raised_lacking g n [] h = refl
raised_lacking g n (c ∷ cs) h =
    ap (λ d. d ∷ map (raised_run g n) cs) (raised_other g n c h.0) ∙ ap (λ (l : List CellData). c ∷ l) (raised_lacking g n cs h.1)

pub change_lacking : (g : ℕ) (n : NameData) (cs : List (List CellData)) (i : ℕ) → LacksRun n (get_or cs i [])
    → cs ≡ change_at i (map (raised_run g n)) cs
change_lacking g n [] i h = refl
change_lacking g n (c ∷ cs) zero h = ap (λ d. d ∷ cs) (sym (raised_lacking g n c h))
change_lacking g n (c ∷ cs) (suc i) h = ap (λ ds. c ∷ ds) (change_lacking g n cs i h)

pub first_lacking : (g : ℕ) (n : NameData) (cs : List (List CellData)) (k : ℕ) → LacksRun n (flat (take k cs))
    → cs ≡ changed_first k (map (raised_run g n)) cs
first_lacking g n [] k h = refl
first_lacking g n (c ∷ cs) zero h = refl
first_lacking g n (c ∷ cs) (suc k) h =
    ap (λ d. d ∷ cs) (sym (raised_lacking g n c (lacks_left n c (flat (take k cs)) h)))
    ∙ ap (λ ds. map (raised_run g n) c ∷ ds) (first_lacking g n cs k (lacks_right n c (flat (take k cs)) h))

all_lacking : (g : ℕ) (n : NameData) (cs : List (List CellData)) → LacksRun n (flat cs) → cs ≡ map (map (raised_run g n)) cs
all_lacking g n [] h = refl
all_lacking g n (c ∷ cs) h =
    ap (λ d. d ∷ cs) (sym (raised_lacking g n c (lacks_left n c (flat cs) h)))
    ∙ ap (λ ds. map (raised_run g n) c ∷ ds) (all_lacking g n cs (lacks_right n c (flat cs) h))

-- before the first cell
offset_before : (x : CellData) (p : ℕ) (xs : List CellData) (c : CellData) → ComesBefore (origin x) (origins xs) → slice_get xs p ≡ Some c
    → x.name ≡ c.name → x.offset < c.offset
offset_before x p [] c h e same = cc
offset_before x zero (y ∷ xs) c h e same =
    let is : y ≡ c = cc in
    let less = (h.0 (same ∙ ap (λ (d : CellData). d.name) (sym is))).0 in
    let at = ap (λ (d : CellData). d.offset) is in
    omega (arith, less, at)
offset_before x (suc p) (y ∷ xs) c h e same = offset_before x p xs c h.1 e same

before_first : (n : NameData) (cs : List CellData) (k p : ℕ) (c : CellData) → AreOrdered (origins cs) → slice_get cs p ≡ Some c
    → c.name ≡ n → c.offset ≡ 0 → k ≤ p → LacksRun n (take k cs)
before_first n cs zero p c h e is front le = tt
before_first n [] (suc k) p c h e is front le = tt
before_first n (x ∷ xs) (suc k) zero c h e is front le = absurd (omega (arith, le))
before_first n (x ∷ xs) (suc k) (suc p) c h e is front le = (
  λ same. let less = offset_before x p xs c h.0 e (same ∙ sym is) in absurd (omega (arith, less, front)),
  before_first n xs k p c h.1 e is front (omega (arith, le)),
)

-- no chunk before that of the first cell has a cell of the insert
pub chunks_before : (n : NameData) (cs : List (List CellData)) (i o p : ℕ) (c : CellData) → AreInserts (flat cs) → IsSpot cs i o p
    → slice_get (flat cs) p ≡ Some c → c.name ≡ n → c.offset ≡ 0 → LacksRun n (flat (take i cs))
chunks_before n cs i o p c h s e is front =
    let k = length (flat (take i cs)) in
    subst (λ (xs : List CellData). LacksRun n xs) (sym (flat_low cs i k refl))
    (before_first n (flat cs) k p c h.ordered e is front (omega (arith, s.place_is)))

-- behind the last cell
behind_one : (x : CellData) (xs ys : List CellData) → ComesBefore (origin x) (origins (xs ++ ys)) → ComesBefore (origin x) (origins ys)
behind_one x [] ys h = h
behind_one x (y ∷ xs) ys h = behind_one x xs ys h.1

ordered_right : (xs ys : List CellData) → AreOrdered (origins (xs ++ ys)) → AreOrdered (origins ys)
ordered_right [] ys h = h
ordered_right (x ∷ xs) ys h = ordered_right xs ys h.1

within_right : (xs ys : List CellData) → AreWithin (origins (xs ++ ys)) → AreWithin (origins ys)
within_right [] ys h = h
within_right (x ∷ xs) ys h = within_right xs ys h.1

none_behind : (n : NameData) (x : CellData) (ys : List CellData) → ComesBefore (origin x) (origins ys) → AreWithin (origins ys)
    → x.name ≡ n → x.offset + 1 ≡ x.of → LacksRun n ys
none_behind n x [] h w is last = tt
none_behind n x (y ∷ ys) h w is last = (
  λ same. let o = h.0 (is ∙ sym same) in
      let less = o.0 in let among = o.1 in let within = w.0 in
      absurd (omega (arith, less, among, within, last)),
  none_behind n x ys h.1 w.1 is last,
)

behind_last : (n : NameData) (xs ys : List CellData) → AreOrdered (origins (xs ++ ys)) → AreWithin (origins (xs ++ ys)) → HasLast n xs
    → LacksRun n ys
behind_last n [] ys h w l = absurd l
behind_last n (x ∷ xs) ys h w (inl l) =
    none_behind n x ys (behind_one x xs ys h.0) (within_right xs ys w.1) l.0 l.1
behind_last n (x ∷ xs) ys h w (inr l) = behind_last n xs ys h.1 w.1 l

rest_lacking : (g : ℕ) (n : NameData) (cs : List (List CellData)) (i : ℕ) → AreOrdered (origins (flat cs)) → AreWithin (origins (flat cs))
    → i < length cs → HasLast n (get_or cs i []) → changed_first (suc i) (map (raised_run g n)) cs ≡ map (map (raised_run g n)) cs
rest_lacking g n [] i h w lt l = absurd (omega (arith, lt))
rest_lacking g n (c ∷ cs) zero h w lt l =
    let rest : LacksRun n (flat cs) = behind_last n c (flat cs) h w l in
    ap (λ ds. map (raised_run g n) c ∷ ds) (none cs ∙ all_lacking g n cs rest)
  where
    none : (ds : List (List CellData)) → changed_first 0 (map (raised_run g n)) ds ≡ ds
    none [] = refl
    none (d ∷ ds) = refl
rest_lacking g n (c ∷ cs) (suc i) h w lt l =
    ap (λ ds. map (raised_run g n) c ∷ ds)
    (rest_lacking g n cs i (ordered_right c (flat cs) h) (within_right c (flat cs) w) (omega (arith, lt)) l)

first_get : (f : List CellData → List CellData) (k : ℕ) (cs : List (List CellData)) → get_or (changed_first k f cs) k [] ≡ get_or cs k []
first_get f k [] = refl
first_get f zero (c ∷ cs) = refl
first_get f (suc k) (c ∷ cs) = first_get f k cs

-- once the last cell was found, in the i-th chunk of those that are changed so far, all are
pub found_all : (g : ℕ) (n : NameData) (cs ds : List (List CellData)) (i : ℕ) → AreInserts (flat cs)
    → ds ≡ changed_first i (map (raised_run g n)) cs → i < length cs → HasLast n (get_or ds i [])
    → changed_first (suc i) (map (raised_run g n)) cs ≡ map (map (raised_run g n)) cs
found_all g n cs ds i h is lt l =
    rest_lacking g n cs i h.ordered h.within lt
    (subst (λ c. HasLast n c) (ap (λ es. get_or es i []) is ∙ first_get (map (raised_run g n)) i cs) l)
