-- Books as contracts see them: a valid history beside its members and the room that is left.
use Rattle.std.specs.Prelude.{◌≡◌, ℕ, ◌+◌, ◌<◌, List, length}
use Rattle.op_name.specs.declared.member.Member.{Member}
use Rattle.op_name.specs.declared.member.Member.TheVariants.{Original, Group}
use Rattle.context_diff.specs.Operations.{OpData, member_of, cells_put}
use Rattle.context_vector.specs.Contexts.{ContextData, count_in}
use Rattle.context_diff.specs.Histories.{CoversSite, IsClosed, LacksNothing, all_cells, cells_in}
use Rattle.context_vector.specs.Vectors.{VectorData, HasRoomFor}

-- the history, its members, for how many more operations there is room, and for how many more originals of each site: pairs of both
pub record BookData : Type 0 where
  pub ops : List OpData
  pub have : VectorData
  pub spare : ℕ
  pub site_spares : List (ℕ × ℕ)

-- an original needs a spare place in the lists of its site
abbrev pub HasSpareFor : List (ℕ × ℕ) → Member → Type 0
HasSpareFor spares (Original n) = 0 < count_in spares n.site
HasSpareFor spares (Group t g) = Unit {0}

-- the operation can be appended without memory: there is room for it, and with it the history has at most 4,294,967,295 operations, and
-- as many cells
pub record HasRoom (b : BookData) (o : OpData) : Type 0 where
  pub place : 0 < b.spare
  pub member : HasRoomFor b.have (member_of o)
  pub tally : HasSpareFor b.site_spares (member_of o)
  pub short : length b.ops + 1 < 4294967296
  pub few : all_cells b.ops + cells_put o < 4294967296

-- what a verdict asks of a context: the history has its members, it is closed, and it has n cells
pub record IsJudged (h : List OpData) (v : ContextData) (n : ℕ) : Type 0 where
  pub ready : LacksNothing h v
  pub closed : IsClosed h v
  pub cells : n ≡ cells_in h v

-- the least site whose last named original knows something that the context hasn't
pub record IsFirstOpenSite (h : List OpData) (v : ContextData) (s : ℕ) : Type 0 where
  pub open_site : ¬ CoversSite h v s
  pub first : (r : ℕ) → r < s → CoversSite h v r
