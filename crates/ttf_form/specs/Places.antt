-- Places: where a form goes once another form has added cells.
use Rattle.std.specs.Prelude.{ℕ, ◌+◌, ◌-◌, Bool, ◌&&◌, ◌||◌, ◌==◌, nat_le, nat_lt, if◌then◌else◌}

-- an insert at p of the site s stands in front of one at q of the site r
abbrev pub goes_before : ℕ → ℕ → ℕ → ℕ → Bool
goes_before p s q r = nat_lt p q || ((p == q) && nat_lt s r)

-- the place of an insert at p of the site s, after n cells came in at q by the site r
unfoldable pub over_place : ℕ → ℕ → ℕ → ℕ → ℕ → ℕ
over_place p s q r n = if goes_before p s q r then p else p + n

-- the place of the cell at p, after n cells came in at q
unfoldable pub cover_place : ℕ → ℕ → ℕ → ℕ
cover_place p q n = if nat_lt p q then p else p + n

-- the place before n cells came in at q
unfoldable pub back_place : ℕ → ℕ → ℕ → ℕ
back_place p q n = if nat_le (q + n) p then p - n else p
