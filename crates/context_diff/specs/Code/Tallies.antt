-- What is kept of the originals of each site: two lists whose n-th entries are the number of cells of its first n originals, and
-- the place of the n-th one in the book.
use Rattle.std.specs.Prelude.{◌≡◌, ℕ, zero, suc, ◌+◌, ◌-◌, ◌<◌, ◌≤◌, List, [], ◌∷◌, ◌++◌, ◌==◌, Option, Some, None, length, map, take, slice_get, slice_index_or, if◌then◌else◌}
use Rattle.op_name.specs.declared.member.Member.{Member}
use Rattle.op_name.specs.declared.member.Member.TheVariants.{Original, Group}
use Rattle.context_vector.specs.Contexts.{count_of}
use Rattle.context_diff.specs.Operations.{OpData}
use Rattle.context_diff.specs.Histories.{context_of_all, members_in}
use Rattle.context_diff.specs.Code.Counting.{cells_of_site}

-- a site, its counts, the places of its originals, and how many more both lists have room for
pub record TallyData : Type 0 where
  pub site : ℕ
  pub counts : List ℕ
  pub places : List ℕ
  pub spare : ℕ

-- what a site without lists has
abbrev pub no_tally : TallyData
no_tally = record { site = 0; counts = []; places = []; spare = 0 }

-- the lists of a site
abbrev pub tally_of : List TallyData → ℕ → TallyData
tally_of [] s = no_tally
tally_of (t ∷ ts) s = if t.site == s then t else tally_of ts s

abbrev pub counts_of : List TallyData → ℕ → List ℕ
counts_of ts s = (tally_of ts s).counts

abbrev pub places_of : List TallyData → ℕ → List ℕ
places_of ts s = (tally_of ts s).places

-- each site with the room of its lists
abbrev pub spares_of : List TallyData → List (ℕ × ℕ)
spares_of ts = map (λ t. (t.site, t.spare)) ts

-- the site whose lists stand at a place
abbrev pub site_at : List TallyData → ℕ → ℕ
site_at ts i = (slice_index_or ts i no_tally).site

-- the sites rise, so none has lists twice
abbrev pub AreRising : List TallyData → Type 0
AreRising ts = (i j : ℕ) → i < j → j < length ts → site_at ts i < site_at ts j

-- the lists of the site stand at place i
pub record StandsAt (ts : List TallyData) (s i : ℕ) : Type 0 where
  pub within : i < length ts
  pub site : site_at ts i ≡ s

-- lists of the site would go to place i: lesser sites before it, and greater ones from it on
pub record GoesTo (ts : List TallyData) (s i : ℕ) : Type 0 where
  pub within : i ≤ length ts
  pub before : (j : ℕ) → j < i → site_at ts j < s
  pub after : (j : ℕ) → i ≤ j → j < length ts → s < site_at ts j

-- the n-th entry, from 1; 0 before the first one and past the end
abbrev pub entry_at : List ℕ → ℕ → ℕ
entry_at counts zero = 0
entry_at counts (suc n) = slice_index_or counts n 0

-- the n-th place, from 1; none before the first one and past the end
abbrev pub place_at : List ℕ → ℕ → Option ℕ
place_at places zero = None
place_at places (suc n) = slice_get places n

-- the last entry, which is the number of all cells; 0 if there is none
abbrev pub total : List ℕ → ℕ
total counts = slice_index_or counts (length counts - 1) 0

-- the list of a site after the member came, which puts so many cells: an original of the site gets an entry, which counts them
abbrev pub counted : Member → ℕ → ℕ → List ℕ → List ℕ
counted (Original n) cells s counts = if n.site == s then counts ++ (total counts + cells) ∷ [] else counts
counted (Group t g) cells s counts = counts

-- the places of a site after the member came, which stands at place p
abbrev pub placed : Member → ℕ → ℕ → List ℕ → List ℕ
placed (Original n) p s places = if n.site == s then places ++ p ∷ [] else places
placed (Group t g) p s places = places

-- a list of a site after the member, the last of its site, was taken out
abbrev pub without_last : Member → ℕ → List ℕ → List ℕ
without_last (Original n) s xs = if n.site == s then take (length xs - 1) xs else xs
without_last (Group t g) s xs = xs

-- the list of a site is right for a history: each original of the site has its entry, the number of cells up to it
pub record IsTally (h : List OpData) (s : ℕ) (counts : List ℕ) : Type 0 where
  pub size : length counts ≡ count_of (context_of_all h) s
  pub entries : (n : ℕ) → 1 ≤ n → n ≤ length counts → entry_at counts n ≡ cells_of_site h s n

-- so it is for each site
abbrev pub AreTallies : List OpData → (ℕ → List ℕ) → Type 0
AreTallies h counts = (s : ℕ) → IsTally h s (counts s)

-- the places of a site are right for a history: each original of the site stands at its place
pub record ArePlaces (h : List OpData) (s : ℕ) (places : List ℕ) : Type 0 where
  pub size : length places ≡ count_of (context_of_all h) s
  pub there : (n p : ℕ) → place_at places n ≡ Some p → slice_get (members_in h) p ≡ Some (Original (record { site = s; number = n }))

-- so they are for each site
abbrev pub ArePlaced : List OpData → (ℕ → List ℕ) → Type 0
ArePlaced h places = (s : ℕ) → ArePlaces h s (places s)
