-- How cells are counted site by site.
use Rattle.std.specs.Prelude.{ℕ, ◌+◌, Bool, false, List, [], ◌∷◌, ◌==◌, ◌&&◌, nat_le, if◌then◌else◌}
use Rattle.context_diff.specs.Operations.{OpData, inserting, deleting, undoing, cells_put}

-- an insert of the site, at most the k-th original of it
abbrev pub is_insert_of : ℕ → ℕ → OpData → Bool
is_insert_of s k (inserting n p text c) = (n.site == s) && nat_le n.number k
is_insert_of s k (deleting n p c) = false
is_insert_of s k (undoing a t g c) = false

-- the number of cells of the inserts among the first k originals of the site
abbrev pub cells_of_site : List OpData → ℕ → ℕ → ℕ
cells_of_site [] s k = 0
cells_of_site (o ∷ os) s k = (if is_insert_of s k o then cells_put o else 0) + cells_of_site os s k

-- the cells of the inserts that counts of sites name
abbrev pub cells_listed : List OpData → List (ℕ × ℕ) → ℕ
cells_listed h [] = 0
cells_listed h (p ∷ ps) = cells_of_site h p.0 p.1 + cells_listed h ps
