-- Cells as all forms see them: a name with an offset.
use Rattle.std.specs.Prelude.{◌≡◌, ◌≢◌, ℕ, zero, suc, List, [], ◌∷◌, ◌++◌, take, drop}
use Rattle.op_name.specs.NameData.{NameData}

-- no cell of the list has the name
abbrev pub LacksName : List (NameData × ℕ) → NameData → Type 0
LacksName [] n = Unit {0}
LacksName (c ∷ cs) n = (c.0 ≢ n) × LacksName cs n

-- no cell of the second list has the name of one of the first
abbrev pub NewNames : List (NameData × ℕ) → List (NameData × ℕ) → Type 0
NewNames cs [] = Unit {0}
NewNames cs (a ∷ «as») = LacksName cs a.0 × NewNames cs «as»

-- the cells of one insert: its name with the offsets from the first on, so many of them
abbrev pub block : NameData → ℕ → ℕ → List (NameData × ℕ)
block n first zero = []
block n first (suc k) = (n, first) ∷ block n (suc first) k

-- the new elements stand side by side somewhere among the old ones, which are all there in their order
pub record IsPutAmong {A : Type 0} (old new whole : List A) : Type 0 where
  pub at : ℕ
  pub is : whole ≡ take at old ++ (new ++ drop at old)
