-- Lists that spell a set, read from the front.
use Rattle.std.proofs.Common.{◌≡◌, ℕ, ◌≤◌, List, [], ◌∷◌, ◌++◌, ap, subst, sym, ◌∙◌}
use Rattle.op_name.specs.NameData.{NameData, IsName}
use Rattle.op_name.specs.declared.member.TheConstants.{GENERATIONS}
use Rattle.context_vector.specs.Contexts.{AreCounts, AreEntries}
use Rattle.context_vector.specs.Vectors.{NamesBelow}
use Rattle.wire_codec.proofs.CallerLemmas.{FollowsCounts, follows_counts, follows_entries}
use Rattle.cotpad_c.specs.declared.operation.CotpadCount.{CotpadCount}
use Rattle.cotpad_c.specs.declared.operation.CotpadMember.{CotpadMember}
use Rattle.cotpad_c.specs.Pasts.{count_told, entry_told, counts_told, undone_told}

-- the first of what is left follows the counts before it
pub next_count : (all : List CotpadCount) (before : List (ℕ × ℕ)) (left others : List CotpadCount) (x : CotpadCount)
    → AreCounts 0 (counts_told all) → before ++ counts_told left ≡ counts_told all → left ≡ x ∷ others → FollowsCounts before (count_told x)
next_count all before left others x counts parts first =
    follows_counts (counts_told all) before (counts_told others) (count_told x) counts
    (ap (λ (t : List CotpadCount). before ++ counts_told t) (sym first) ∙ parts)

-- an undone name in the middle of a list
pub record FollowsNames (before : List (NameData × ℕ)) (e : NameData × ℕ) : Type 0 where
  pub last : NamesBelow before e.0
  pub name : IsName e.0.site e.0.number
  pub least : 1 ≤ e.1
  pub greatest : e.1 ≤ GENERATIONS

entry_there : (xs : List (NameData × ℕ)) (e : NameData × ℕ) (ys : List (NameData × ℕ)) → AreEntries (xs ++ e ∷ ys)
    → IsName e.0.site e.0.number × (e.1 ≤ GENERATIONS)
entry_there [] e ys h = (h.0, h.2)
entry_there (x ∷ xs) e ys h = entry_there xs e ys h.4

-- the first of what is left follows the names before it
pub next_name : (all : List CotpadMember) (before : List (NameData × ℕ)) (left others : List CotpadMember) (x : CotpadMember)
    → AreEntries (undone_told all) → before ++ undone_told left ≡ undone_told all → left ≡ x ∷ others → FollowsNames before (entry_told x)
next_name all before left others x entries parts first =
    let is : before ++ entry_told x ∷ undone_told others ≡ undone_told all =
    ap (λ (t : List CotpadMember). before ++ undone_told t) (sym first) ∙ parts in
    let follows = follows_entries (undone_told all) before (undone_told others) (entry_told x) entries is in
    let there = entry_there before (entry_told x) (undone_told others) (subst AreEntries (sym is) entries) in
    record { last = follows.0; name = there.0; least = follows.1; greatest = there.1 }
