-- Families whose originals have ranks and whose groups stand after their originals, as those of histories do.
use Rattle.std.specs.Prelude.{◌≡◌, ◌≢◌, ℕ, ◌<◌, ◌≤◌, Bool, true, ◌||◌, ◌&&◌, ◌==◌, nat_lt, ◌⊎◌}
use Rattle.op_name.specs.NameData.{NameData}
use Rattle.op_name.specs.declared.member.Member.{Member}
use Rattle.op_name.specs.declared.member.Member.TheVariants.{Original, Group}
use Rattle.op_name.specs.Members.{target_of}
use Rattle.transform_rec.specs.Lists.{IsIn}
use Rattle.transform_rec.specs.Family.{Family}

-- an original has a greater rank than the originals of its base context, and two originals of one rank have different sites
pub record HasRanks {F : Type 0} (b : Family F) (rank : NameData → ℕ) : Type 0 where
  pub grows : (n m : NameData) → IsIn (Original n) b.members → b.context (Original n) (Original m) ≡ true → rank m < rank n
  pub apart : (n m : NameData) → IsIn (Original n) b.members → IsIn (Original m) b.members → n ≢ m → rank n ≡ rank m → n.site ≢ m.site

-- with a group a base context has the original; a group's base context has the original, and besides its base context no
-- more than the original itself and the groups of it with smaller generations
pub record HasGroups {F : Type 0} (b : Family F) : Type 0 where
  pub stray : (x : Member) (t : NameData) (g : ℕ) → IsIn x b.members → b.context x (Group t g) ≡ true → b.context x (Original t) ≡ true
  pub target : (t : NameData) (g : ℕ) → IsIn (Group t g) b.members → b.context (Group t g) (Original t) ≡ true
  pub positive : (t : NameData) (g : ℕ) → IsIn (Group t g) b.members → 1 ≤ g
  pub before : (t : NameData) (g : ℕ) (y : Member) → IsIn (Group t g) b.members → b.context (Group t g) y ≡ true
      → (b.context (Original t) y ≡ true) ⊎ ((y ≡ Original t) ⊎ ((k : ℕ) × (y ≡ Group t k) × (k < g)))

abbrev pub generation_of : Member → ℕ
generation_of (Original n) = 0
generation_of (Group n g) = g

-- by the rank of the original, then by its site, then by generation
abbrev pub is_sooner : (NameData → ℕ) → Member → Member → Bool
is_sooner rank x y =
    nat_lt (rank (target_of x)) (rank (target_of y))
    || ((rank (target_of x) == rank (target_of y)) && (nat_lt (target_of x).site (target_of y).site
    || (((target_of x).site == (target_of y).site) && nat_lt (generation_of x) (generation_of y))))
