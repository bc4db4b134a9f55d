-- The names of runs, pushed one after the other; and names cut into runs as a loop does.
use Rattle.std.proofs.Common.{◌≡◌, ℕ, ◌+◌, ◌-◌, ◌≤◌, Bool, true, false, List, [], ◌∷◌, ◌++◌, refl, sym, ap, subst, ◌∙◌, append_assoc, arith}
use Rattle.std.specs.List.{flat_map}
use Rattle.std.proofs.lemmas.List.Concat.{flat_map-cons}
use Rattle.op_name.specs.NameData.{NameData}
use Rattle.op_name.proofs.CallerLemmas.{name_transitive}
use Rattle.context_vector.specs.Contexts.{AreEntries, entry_in}
use Rattle.context_vector.specs.Vectors.{NamesBelow}
use Rattle.wire_codec.specs.Runs.{RunData, further, names_from, names_in}
use Rattle.wire_codec.specs.Code.RunLists.{holds}
use Rattle.wire_codec.proofs.Pushes.{follows_entries}
use Rattle.wire_codec.proofs.RunNames.{further_less, further_further, names_some, names_more, entry_by_run}

-- ---- the names of a run

below_next : (es : List (NameData × ℕ)) (n : NameData) (g : ℕ) → NamesBelow es n → NamesBelow (es ++ (n, g) ∷ []) (further n 1)
below_next [] n g below = (further_less n, tt)
below_next (e ∷ es) n g below = (name_transitive e.0 n (further n 1) below.0 (further_less n), below_next es n g below.1)

-- one more name is pushed
pub pushed_more : (es : List (NameData × ℕ)) (n : NameData) (i g : ℕ)
    → (es ++ names_from n i g) ++ (further n i, g) ∷ [] ≡ es ++ names_from n (i + 1) g
pushed_more es n i g = append_assoc es (names_from n i g) ((further n i, g) ∷ []) ∙ ap (λ ds. es ++ ds) (sym (names_more n i g))

pub below_more : (es : List (NameData × ℕ)) (n : NameData) (i g : ℕ) → NamesBelow es (further n i)
    → NamesBelow (es ++ (further n i, g) ∷ []) (further n (i + 1))
below_more es n i g below =
    subst (NamesBelow (es ++ (further n i, g) ∷ [])) (further_further n i 1 (i + 1) (omega arith)) (below_next es (further n i) g below)

-- ---- runs

-- the next run is above the names that were pushed
pub follows_run : (all before : List (NameData × ℕ)) (r : RunData) (rs : List RunData) → AreEntries all → 1 ≤ r.len
    → before ++ flat_map names_in (r ∷ rs) ≡ all → NamesBelow before r.first × (1 ≤ r.generation)
follows_run all before r rs are some is =
    let after = names_from (further r.first 1) (r.len - 1) r.generation ++ flat_map names_in rs in
    let front : flat_map names_in (r ∷ rs) ≡ (r.first, r.generation) ∷ after =
    flat_map-cons names_in r rs ∙ ap (λ es. es ++ flat_map names_in rs) (names_some r.first r.len r.generation some) in
    follows_entries all before after (r.first, r.generation) are (ap (λ es. before ++ es) (sym front) ∙ is)

-- ---- a name that is looked for

pub found_here : (all before after : List RunData) (r : RunData) (n : NameData) (t : Bool)
    → entry_in (flat_map names_in all) n ≡ entry_in (flat_map names_in before) n → before ≡ r ∷ after → t ≡ holds r n → t ≡ true
    → entry_in (flat_map names_in all) n ≡ r.generation
found_here all before after r n t so_far is test on =
    so_far ∙ (ap (λ (rs : List RunData). entry_in (flat_map names_in rs) n) is ∙ (entry_by_run r after n ∙ rw (sym test ∙ on) refl))

pub found_later : (all before after : List RunData) (r : RunData) (n : NameData) (t : Bool)
    → entry_in (flat_map names_in all) n ≡ entry_in (flat_map names_in before) n → before ≡ r ∷ after → t ≡ holds r n → t ≡ false
    → entry_in (flat_map names_in all) n ≡ entry_in (flat_map names_in after) n
found_later all before after r n t so_far is test off =
    so_far ∙ (ap (λ (rs : List RunData). entry_in (flat_map names_in rs) n) is ∙ (entry_by_run r after n ∙ rw (sym test ∙ off) refl))
