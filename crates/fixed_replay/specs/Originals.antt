-- Originals that can be told apart: by their names, and by rank and site, by which they are ordered.
use Rattle.std.specs.Prelude.{◌≡◌, ◌≢◌, ℕ, true, List, [], ◌∷◌}
use Rattle.op_name.specs.Members.{target_of}
use Rattle.context_vector.specs.Contexts.{rank_of}
use Rattle.context_diff.specs.Operations.{OpData, member_of, context_of, is_original}

abbrev pub site_of : OpData → ℕ
site_of o = (target_of (member_of o)).site

-- two originals have different names, and different pairs of rank and site; names are asked to differ since a cell's character
-- is looked up by its name: of two inserts of one name both cells would show that of the first in the list
pub record AreTold (o p : OpData) : Type 0 where
  pub names : is_original o ≡ true → is_original p ≡ true → member_of o ≢ member_of p
  pub keys : is_original o ≡ true → is_original p ≡ true → rank_of (context_of o) ≡ rank_of (context_of p) → site_of o ≢ site_of p

abbrev pub AreToldFrom : OpData → List OpData → Type 0
AreToldFrom o [] = Unit {0}
AreToldFrom o (p ∷ ps) = AreTold o p × AreToldFrom o ps

-- each two originals of the list can be told apart
abbrev pub AreToldApart : List OpData → Type 0
AreToldApart [] = Unit {0}
AreToldApart (o ∷ os) = AreToldFrom o os × AreToldApart os
