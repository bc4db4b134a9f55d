-- Sets of members, spelled as in the line of `state`: a list of sites with their counts, and a list of undone names with their generations.
use Rattle.std.specs.Prelude.{◌≡◌, ℕ, ◌+◌, Bool, true, ◌&&◌, ◌==◌, nat_le, List, [], ◌∷◌, codes, map, bytes_eq, Option, Some, None, unwrap_or, if◌then◌else◌}
use Rattle.std.specs.List.{slice_split}
use Rattle.op_name.specs.NameData.{NameData, name_lt}
use Rattle.op_name.specs.declared.name.TheConstants.{NUMBERS}
use Rattle.context_vector.specs.Contexts.{ContextData, IsContext, empty}
use Rattle.site_answers.specs.Names.{group_text}
use Rattle.script_text.specs.Fields.{number_of, site_of, name_of, generation_of, pair_by, tested, ◌>>=◌}
use Rattle.script_text.specs.Report.{listed, count_text}

-- what stands between the commas of a list; nothing where it is `-`
unfoldable pub items_of : List ℕ → List (List ℕ)
items_of bs = if bytes_eq bs (codes "-") then [] else slice_split (λ b. b == 44) bs

-- how many originals of a site a set has, where it has some: 1 to NUMBERS
unfoldable pub originals_of : List ℕ → Option ℕ
originals_of bs = tested (λ n. nat_le 1 n && nat_le n NUMBERS) number_of bs

-- a site with its count, `S:COUNT`
unfoldable pub site_count_of : List ℕ → Option (ℕ × ℕ)
site_count_of bs = pair_by 58 site_of originals_of bs

-- an undone name with its generation, `S.N/G`
unfoldable pub undone_of : List ℕ → Option (NameData × ℕ)
undone_of bs = pair_by 47 name_of generation_of bs

-- the items that are read, each of which may come after the one before it; the first may come after this
abbrev pub rising_of : {X S : Type 0} → (S → X → Bool) → (X → S) → (List ℕ → Option X) → S → List (List ℕ) → Option (List X)
rising_of comes key read last [] = Some []
rising_of comes key read last (w ∷ ws) = do
  x ← tested (comes last) read w
  xs ← rising_of comes key read (key x) ws
  Some (x ∷ xs)

-- the site is this one, or a greater one
abbrev pub comes_from : ℕ → ℕ × ℕ → Bool
comes_from low p = nat_le low p.0

-- the name is after the last one, if there is one
abbrev pub comes_after : Option NameData → NameData × ℕ → Bool
comes_after None e = true
comes_after (Some last) e = name_lt last e.0

abbrev pub rising_counts : ℕ → List (List ℕ) → Option (List (ℕ × ℕ))
rising_counts = rising_of comes_from (λ p. p.0 + 1) site_count_of

abbrev pub rising_entries : Option NameData → List (List ℕ) → Option (List (NameData × ℕ))
rising_entries = rising_of comes_after (λ e. Some e.0) undone_of

-- sites with their counts, sites rising
unfoldable pub counts_of : List ℕ → Option (List (ℕ × ℕ))
counts_of bs = rising_counts 0 (items_of bs)

-- undone names with their generations, names rising
unfoldable pub entries_of : List ℕ → Option (List (NameData × ℕ))
entries_of bs = rising_entries None (items_of bs)

-- the set that two lists spell, if they spell one
unfoldable pub set_of : List ℕ → List ℕ → Option ContextData
set_of counts groups = do
  cs ← counts_of counts
  es ← entries_of groups
  Some (record { counts = cs; entries = es })

-- the same; the empty set where they spell none
abbrev pub set_or_empty : List ℕ → List ℕ → ContextData
set_or_empty counts groups = unwrap_or (set_of counts groups) empty

-- the two lists spell the set, as the line of `state` does
pub record IsSetText (first second : List ℕ) (c : ContextData) : Type 0 where
  pub counts : first ≡ listed (map count_text c.counts)
  pub groups : second ≡ listed (map (λ e. group_text e.0 e.1) c.entries)
  pub in_range : IsContext c
