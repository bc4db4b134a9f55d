-- Blocks of forms, with what is known of all forms of one.
use Rattle.std.specs.Prelude.{◌≡◌, ℕ, ◌<◌, ◌≤◌, List, [], ◌∷◌, ◌++◌, Option, Some, length, slice_get}
use Rattle.std.specs.Option.{option_map_or}
use Rattle.op_name.specs.NameData.{NameData}
use Rattle.ttf_form.specs.Families.{IsIn, total_by}

-- the lists in one
abbrev pub joined : {F : Type 0} → List (List F) → List F
joined [] = []
joined (b ∷ bs) = b ++ joined bs

-- the places lie between two bounds
abbrev pub AreWithin : {F : Type 0} → (F → ℕ) → ℕ → ℕ → List F → Type 0
AreWithin {F} place low high ks = (k : F) → IsIn k ks → (low ≤ place k) × (place k ≤ high)

-- the number of cells that the forms add, if that is below the greatest number of cells
abbrev pub AreCounted : {F : Type 0} → (F → ℕ) → ℕ → List F → Type 0
AreCounted extent cells ks = cells < 4294967295 → total_by extent ks ≡ cells

-- the site of the first form's insert, and 0 where there is none
abbrev pub first_site : {F : Type 0} → (F → Option NameData) → List F → ℕ
first_site named ks = option_map_or (λ k. option_map_or (λ n. n.site) (named k) 0) (slice_get ks 0) 0

-- the forms that have a name are inserts of one site, from a number on, unless that is 0
abbrev pub AreFrom : {F : Type 0} → (F → Option NameData) → ℕ → ℕ → List F → Type 0
AreFrom {F} named site least ks = (k : F) (n : NameData) → IsIn k ks → named k ≡ Some n → 0 < least → (n.site ≡ site) × (least ≤ n.number)

-- what is known of the forms of a block, of which there is one at least
pub record IsBlock {F : Type 0} (place extent : F → ℕ) (named : F → Option NameData) (low high cells site least : ℕ) (ks : List F) : Type 0
  where
    pub some : 0 < length ks
    pub within : AreWithin place low high ks
    pub counted : AreCounted extent cells ks
    pub from : AreFrom named site least ks
