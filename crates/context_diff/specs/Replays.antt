-- The fixed replay of the inserts of a history, and the text that is shown.
use Rattle.std.specs.Prelude.{ℕ, zero, suc, ◌+◌, Bool, true, false, List, [], ◌∷◌, ◌++◌, ◌&&◌, ◌||◌, ◌==◌, not, nat_lt, filter, length, map, slice_index_or, encode_utf8_all, if◌then◌else◌}
use Rattle.std.specs.List.{list_any}
use Rattle.op_name.specs.declared.member.Member.TheVariants.{Original}
use Rattle.op_name.specs.NameData.{NameData, name_eq}
use Rattle.context_vector.specs.Contexts.{has, rank_of}
use Rattle.context_diff.specs.Operations.{OpData, inserting, deleting, undoing}
use Rattle.context_diff.specs.Histories.{in_force}
use Rattle.context_diff.specs.Gaps.{Gap, gap, narrow}

-- what the replay reads of an insert: its name, its place, the number of its characters, its rank (the number of originals in
-- its context) and which originals its context holds
pub record Insertion : Type 0 where
  pub name : NameData
  pub place : ℕ
  pub len : ℕ
  pub rank : ℕ
  pub sees : NameData → Bool

-- a cell is named by its insert and by its offset in that insert, from 0 on
abbrev pub Cell : Type 0
Cell = NameData × ℕ

-- the inserts of a history, in its order
abbrev pub insertions_in : List OpData → List Insertion
insertions_in [] = []
insertions_in (inserting n p text c ∷ os) =
    record { name = n; place = p; len = length text; rank = rank_of c; sees = λ m. has c (Original m) } ∷ insertions_in os
insertions_in (deleting n p c ∷ os) = insertions_in os
insertions_in (undoing a t g c ∷ os) = insertions_in os

-- by rank, then by site; in a valid history no two inserts are alike in both, and a cause has the smaller rank
abbrev pub is_earlier : Insertion → Insertion → Bool
is_earlier o p = nat_lt o.rank p.rank || ((o.rank == p.rank) && nat_lt o.name.site p.name.site)

-- the list with x before the first element that it is less than, else at its end
unfoldable pub put_by : {A : Type 0} → (A → A → Bool) → A → List A → List A
put_by less x [] = x ∷ []
put_by less x (y ∷ ys) = if less x y then x ∷ (y ∷ ys) else y ∷ put_by less x ys

-- the list sorted by an order: each element, from the last to the first, put before the first that it is less than
unfoldable pub sort_by : {A : Type 0} → (A → A → Bool) → List A → List A
sort_by less [] = []
sort_by less (x ∷ xs) = put_by less x (sort_by less xs)

-- Order: the inserts of a history in their fixed order
abbrev pub fixed_order : List OpData → List Insertion
fixed_order h = sort_by is_earlier (insertions_in h)

-- the cells of the insert of this name
abbrev pub of_name : NameData → Cell → Bool
of_name n c = name_eq n c.0

-- the first cell of that insert
abbrev pub first_of : NameData → Cell → Bool
first_of n c = of_name n c && (c.1 == 0)

-- the last cell of an insert
abbrev pub last_of : Insertion → Cell → Bool
last_of x c = of_name x.name c && (c.1 + 1 == x.len)

-- the cells of this name with the offsets from the first on, so many of them
abbrev pub run_of : NameData → ℕ → ℕ → List Cell
run_of n first zero = []
run_of n first (suc k) = (n, first) ∷ run_of n (suc first) k

-- the cells that an insert puts: one for each character
abbrev pub cells_from : Insertion → List Cell
cells_from o = run_of o.name 0 o.len

-- of an earlier insert whose first cell lies in the gap, the last cell becomes the left neighbour, or the first one the right
-- neighbour
abbrev pub narrow_over : Bool → Insertion → Gap Cell → Gap Cell
narrow_over left x g =
    if list_any (first_of x.name) g.between then (if left then narrow true (last_of x) g else narrow false (first_of x.name) g) else g

-- an earlier insert that o doesn't see narrows the gap to its right side where its site is smaller than o's, and to its left side
-- otherwise
abbrev pub narrowed_by : Insertion → Insertion → Gap Cell → Gap Cell
narrowed_by o x g = if o.sees x.name then g else narrow_over (nat_lt x.name.site o.name.site) x g

-- the gap, narrowed by each of these earlier inserts in turn
unfoldable pub narrowed : Insertion → List Insertion → Gap Cell → Gap Cell
narrowed o [] g = g
narrowed o (x ∷ xs) g = narrowed o xs (narrowed_by o x g)

-- Place: the gap into which o goes, among cells that the earlier inserts put: first between its two neighbours among the
-- cells that it sees, then narrowed by each earlier insert in turn
abbrev pub gap_of : Insertion → List Insertion → List Cell → Gap Cell
gap_of o earlier cells = narrowed o earlier (gap (λ c. o.sees c.0) o.place cells)

-- the cells with o's put directly before its right neighbour
abbrev pub put : Insertion → List Insertion → List Cell → List Cell
put o earlier cells = let g = gap_of o earlier cells in g.before ++ (g.between ++ (cells_from o ++ g.behind))

-- the cells with those of these inserts put one after the other; each is narrowed by the earlier ones and those before it
unfoldable pub replay : List Insertion → List Cell → List Insertion → List Cell
replay earlier cells [] = cells
replay earlier cells (o ∷ os) = replay (earlier ++ o ∷ []) (put o earlier cells) os

-- Replay: the cells of the inserts of a history, put in their fixed order
abbrev pub replay_of : List OpData → List Cell
replay_of h = replay [] [] (fixed_order h)

-- Seen: the cells of a list whose inserts these are, in the order of the list
abbrev pub seen : (NameData → Bool) → List Cell → List Cell
seen sees cells = filter (λ d. sees d.0) cells

-- whether the cell stands at this place of a list; none stands past the end
unfoldable pub stands_at : ℕ → List Cell → Cell → Bool
stands_at n [] c = false
stands_at zero (d ∷ ds) c = name_eq d.0 c.0 && (d.1 == c.1)
stands_at (suc n) (d ∷ ds) c = stands_at n ds c

-- Hit: the cell stands at the delete's place among those cells of the replay that the delete's context holds
abbrev pub hits : List OpData → OpData → Cell → Bool
hits h (inserting n p text k) c = false
hits h (deleting n p k) c = stands_at p (seen (λ m. has k (Original m)) (replay_of h)) c
hits h (undoing a t g k) c = false

-- the operation is a delete that is in force and hits the cell
abbrev pub covers : List OpData → Cell → OpData → Bool
covers h c (inserting n p text k) = false
covers h c (deleting n p k) = in_force h n && hits h (deleting n p k) c
covers h c (undoing a t g k) = false

-- a cell is shown if its insert is in force and no delete in force hits it
abbrev pub is_shown : List OpData → Cell → Bool
is_shown h c = in_force h c.0 && not (list_any (covers h c) h)

-- Shown: the shown cells of a history
abbrev pub shown : List OpData → List Cell
shown h = filter (is_shown h) (replay_of h)

-- the character of a cell: that of its insert's text at the offset
abbrev pub character_in : List OpData → Cell → ℕ
character_in [] c = 0
character_in (inserting n p text k ∷ os) c = if name_eq n c.0 then slice_index_or text c.1 0 else character_in os c
character_in (deleting n p k ∷ os) c = character_in os c
character_in (undoing a t g k ∷ os) c = character_in os c

-- the characters of the shown cells, in their order
abbrev pub characters_of : List OpData → List ℕ
characters_of h = map (character_in h) (shown h)

-- Text: the characters of the shown cells in UTF-8 (RFC 3629)
abbrev pub text_of : List OpData → List ℕ
text_of h = encode_utf8_all (characters_of h)
