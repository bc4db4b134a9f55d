-- A gap is the interval between two neighbours in which a place is searched, as three lists. A deleted cell stays and counts
-- (tombstones, TTF 2006).
use Rattle.std.specs.Prelude.{ℕ, zero, suc, Bool, List, [], ◌∷◌, ◌++◌, ◌||◌, if◌then◌else◌}
use Rattle.std.specs.List.{list_any}

-- the cells up to and with the left neighbour; those strictly between the neighbours; those from the right neighbour on.
-- An empty first or last list stands for that end of the text
pub record Gap (K : Type 0) : Type 0 where
  pub before : List K
  pub between : List K
  pub behind : List K

-- the part before the first cell that passes; without such a cell all
unfoldable pub until : {K : Type 0} → (K → Bool) → List K → List K
until p [] = []
until p (c ∷ cs) = if p c then [] else c ∷ until p cs

-- the part from the first cell that passes on; without such a cell nothing
unfoldable pub onward : {K : Type 0} → (K → Bool) → List K → List K
onward p [] = []
onward p (c ∷ cs) = if p c then c ∷ cs else onward p cs

-- the part up to and with the last cell that passes; without such a cell nothing
unfoldable pub through : {K : Type 0} → (K → Bool) → List K → List K
through p [] = []
through p (c ∷ cs) = if p c || list_any p cs then c ∷ through p cs else []

-- the part after the last cell that passes; without such a cell all
unfoldable pub beyond : {K : Type 0} → (K → Bool) → List K → List K
beyond p [] = []
beyond p (c ∷ cs) = if p c || list_any p cs then beyond p cs else c ∷ cs

-- the interval between the n-th cell that passes (counted from 1; the front of the text for 0) and the next one; with fewer
-- than n such cells, the end of the text
unfoldable pub gap : {K : Type 0} → (K → Bool) → ℕ → List K → Gap K
gap p zero cs = record { before = []; between = until p cs; behind = onward p cs }
gap p (suc n) [] = record { before = []; between = []; behind = [] }
gap p (suc n) (c ∷ cs) = let g = gap p (if p c then n else suc n) cs in record g { before = c ∷ g.before }

-- on the left, the last cell of the interval that passes becomes the left neighbour; else the first one becomes the right
-- neighbour; without such a cell the gap stays
abbrev pub narrow : {K : Type 0} → Bool → (K → Bool) → Gap K → Gap K
narrow left p g =
    if left
    then record { before = g.before ++ through p g.between; between = beyond p g.between; behind = g.behind }
    else record { before = g.before; between = until p g.between; behind = onward p g.between ++ g.behind }
