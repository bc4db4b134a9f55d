-- What is kept of the originals of each site, as operations come and go.
use Rattle.std.proofs.Common.{◌≡◌, ℕ, zero, suc, ◌+◌, ◌-◌, ◌<◌, ◌≤◌, false, inl, inr, List, [], ◌∷◌, ◌++◌, refl, ap, sym, subst, ◌∙◌, arith, length, length-append, take, get_or}
use Rattle.std.specs.Prelude.{Contains, ◌==◌, if◌then◌else◌}
use Rattle.std.proofs.lemmas.Bool.{cases_Bool, cases_lt, eqb-true, eq-eqb}
use Rattle.std.proofs.lemmas.List.{get_or_append_left, get_or-take, length-take-le}
use Rattle.std.proofs.Math.Seq.{get_or-append_seam}
use Rattle.op_name.specs.declared.member.Member.{Member}
use Rattle.op_name.specs.declared.member.Member.TheVariants.{Original, Group}
use Rattle.op_name.specs.NameData.{NameData}
use Rattle.context_vector.specs.Contexts.{ContextData, IsNextMember, count_of, raised}
use Rattle.context_diff.specs.Operations.{OpData, member_of, cells_put, IsWellFormed}
use Rattle.context_diff.specs.Histories.{is_known, all_cells, IsNext, context_of_all}
use Rattle.context_diff.specs.Code.Counting.{cells_of_site}
use Rattle.context_diff.specs.Code.Tallies.{IsTally, AreTallies, entry_at, total, counted, without_last}
use Rattle.context_diff.proofs.Complete.{IsComplete, context_push, next_member}
use Rattle.context_diff.proofs.CellCounts.{cells_of_site_on, cells_of_site_new, cells_of_site_at_most, no_cells}
use Rattle.context_diff.proofs.Raising.{count_put}

-- the entry of a number, also of 0
pub entry_is : (h : List OpData) → ((o : OpData) → Contains h o → IsWellFormed o) → (s : ℕ) (counts : List ℕ) → IsTally h s counts → (n : ℕ)
    → n ≤ length counts → entry_at counts n ≡ cells_of_site h s n
entry_is h formed s counts tally zero within = sym (no_cells h s formed)
entry_is h formed s counts tally (suc n) within = tally.entries (suc n) (omega arith) within

total_entry : (counts : List ℕ) → total counts ≡ entry_at counts (length counts)
total_entry [] = refl
total_entry (x ∷ xs) =
    let last : suc (length xs) - 1 ≡ length xs = omega arith in
    ap (λ i. get_or (x ∷ xs) i 0) last

-- the last entry counts all cells of the site
pub total_is : (h : List OpData) → ((o : OpData) → Contains h o → IsWellFormed o) → (s : ℕ) (counts : List ℕ) → IsTally h s counts
    → total counts ≡ cells_of_site h s (length counts)
total_is h formed s counts tally = total_entry counts ∙ entry_is h formed s counts tally (length counts) (omega arith)

-- it is at most the number of all cells
pub total_short : (h : List OpData) → ((o : OpData) → Contains h o → IsWellFormed o) → (s : ℕ) (counts : List ℕ) → IsTally h s counts
    → (n : ℕ) → all_cells h + n < 4294967296 → total counts + n < 4294967296
total_short h formed s counts tally n few = omega (arith, total_is h formed s counts tally, cells_of_site_at_most h s (length counts))

module _ (h : List OpData) (o : OpData) (w : IsComplete h) (next : IsNext h o) where
  -- the number of originals of a site with the operation more
  count_of_push : (s : ℕ) → count_of (context_of_all (h ++ o ∷ [])) s ≡ count_of (raised (context_of_all h) (member_of o)) s
  count_of_push s = ap (λ (c : ContextData). count_of c s) (context_push h o)

  -- the list of a site that has no original more
  same_push : (s : ℕ) (counts : List ℕ) → count_of (context_of_all (h ++ o ∷ [])) s ≡ count_of (context_of_all h) s → IsTally h s counts
      → IsTally (h ++ o ∷ []) s counts
  same_push s counts same tally = record {
    size = tally.size ∙ sym same;
    entries = λ n low high. tally.entries n low high ∙ sym (cells_of_site_on h w o next s n (omega (arith, tally.size)));
  }

  same_pop : (s : ℕ) (counts : List ℕ) → count_of (context_of_all (h ++ o ∷ [])) s ≡ count_of (context_of_all h) s
      → IsTally (h ++ o ∷ []) s counts → IsTally h s counts
  same_pop s counts same tally = record {
    size = tally.size ∙ same;
    entries = λ n low high. tally.entries n low high ∙ cells_of_site_on h w o next s n (omega (arith, tally.size));
  }

  module _ (n : NameData) (is : member_of o ≡ Original n) where
    -- the number of originals of each site, where one comes
    pub counts_put : (s : ℕ) → count_of (context_of_all (h ++ o ∷ [])) s ≡ (if n.site == s then n.number else count_of (context_of_all h) s)
    counts_put s =
        count_of_push s ∙ (ap (λ (m : Member). count_of (raised (context_of_all h) m) s) is
        ∙ count_put n.site n.number (context_of_all h).counts s)

    pub number_is : n.number ≡ count_of (context_of_all h) n.site + 1
    number_is = subst (λ (m : Member). IsNextMember (context_of_all h) m) is (next_member h (context_of_all h) o w.holds next)

    pub size_put : (s k : ℕ) → n.site ≡ s → n.number ≡ k → k ≡ count_of (context_of_all (h ++ o ∷ [])) s
    size_put s k site number =
        sym (counts_put s ∙ (ap (λ b. if b then n.number else count_of (context_of_all h) s) (eq-eqb n.site s site) ∙ number))

    -- the entries of the site's list with one more
    entry_push : (counts : List ℕ) (new : ℕ) → IsTally h n.site counts → n.number ≡ length counts + 1
        → new ≡ cells_of_site (h ++ o ∷ []) n.site n.number
        → (i : ℕ) → 1 ≤ i → i ≤ length counts + 1 → entry_at (counts ++ new ∷ []) i ≡ cells_of_site (h ++ o ∷ []) n.site i
    entry_push counts new tally number is_new zero low high = absurd (omega arith)
    entry_push counts new tally number is_new (suc j) low high =
        elim (cases_lt j (length counts)) [
          | inl before ↦
              get_or_append_left counts (new ∷ []) 0 j before
              ∙ (tally.entries (suc j) low (omega arith) ∙ sym (cells_of_site_on h w o next n.site (suc j) (omega (arith, tally.size))))
          | inr last ↦
              let at : j ≡ length counts = omega arith in
              let here : n.number ≡ suc j = omega arith in
              ap (λ k. get_or (counts ++ new ∷ []) k 0) at
              ∙ (get_or-append_seam counts new [] 0 ∙ (is_new ∙ ap (cells_of_site (h ++ o ∷ []) n.site) here))
        ]

    here_push : (counts : List ℕ) → IsTally h n.site counts
        → IsTally (h ++ o ∷ []) n.site (counts ++ (total counts + cells_put o) ∷ [])
    here_push counts tally =
        let new : ℕ = total counts + cells_put o in
        let number : n.number ≡ length counts + 1 = number_is ∙ ap (λ x. x + 1) (sym tally.size) in
        let longer : length (counts ++ new ∷ []) ≡ length counts + 1 = simp length-append (omega arith) in
        let unknown : is_known h (Original n) ≡ false = ap (is_known h) (sym is) ∙ next.new in
        let is_new : new ≡ cells_of_site (h ++ o ∷ []) n.site n.number =
        ap (λ x. x + cells_put o) (total_is h w.formed n.site counts tally)
        ∙ sym (cells_of_site_new h o n (length counts) is unknown number) in
        record {
          size = longer ∙ size_put n.site (length counts + 1) refl number;
          entries = λ i low high. entry_push counts new tally number is_new i low (omega (arith, longer));
        }

    -- the entries of the site's list with one less
    entry_pop : (counts : List ℕ) → IsTally (h ++ o ∷ []) n.site counts → (i : ℕ) → 1 ≤ i → i ≤ length counts - 1
        → i ≤ count_of (context_of_all h) n.site → entry_at (take (length counts - 1) counts) i ≡ cells_of_site h n.site i
    entry_pop counts tally zero low high within = absurd (omega arith)
    entry_pop counts tally (suc j) low high within =
        get_or-take (length counts - 1) counts j 0 (omega arith)
        ∙ (tally.entries (suc j) low (omega arith) ∙ cells_of_site_on h w o next n.site (suc j) within)

    here_pop : (counts : List ℕ) → IsTally (h ++ o ∷ []) n.site counts → IsTally h n.site (take (length counts - 1) counts)
    here_pop counts tally =
        let all : n.number ≡ length counts = size_put n.site n.number refl refl ∙ sym tally.size in
        let number = number_is in
        let less : length (take (length counts - 1) counts) ≡ length counts - 1 = length-take-le (length counts - 1) counts (omega arith) in
        record {
          size = less ∙ omega arith;
          entries = λ i low high. entry_pop counts tally i low (omega (arith, less)) (omega (arith, less));
        }

    original_push : (s : ℕ) (counts : List ℕ) → IsTally h s counts → IsTally (h ++ o ∷ []) s (counted (Original n) (cells_put o) s counts)
    original_push s counts tally =
        elim (cases_Bool (n.site == s)) [
          | inl same ↦
              let at : n.site ≡ s = eqb-true n.site s same in
              rw same (subst (λ t. IsTally h t counts
              → IsTally (h ++ o ∷ []) t (counts ++ (total counts + cells_put o) ∷ [])) at (here_push counts) tally)
          | inr other ↦ rw other (same_push s counts (counts_put s ∙ rw other refl) tally)
        ]

    original_pop : (s : ℕ) (counts : List ℕ) → IsTally (h ++ o ∷ []) s counts → IsTally h s (without_last (Original n) s counts)
    original_pop s counts tally =
        elim (cases_Bool (n.site == s)) [
          | inl same ↦
              let at : n.site ≡ s = eqb-true n.site s same in
              rw same (subst (λ t. IsTally (h ++ o ∷ []) t counts → IsTally h t (take (length counts - 1) counts)) at (here_pop counts)
              tally)
          | inr other ↦ rw other (same_pop s counts (counts_put s ∙ rw other refl) tally)
        ]

  -- a group is no original
  pub group_same : (t : NameData) (g s : ℕ) → member_of o ≡ Group t g
      → count_of (context_of_all (h ++ o ∷ [])) s ≡ count_of (context_of_all h) s
  group_same t g s is = count_of_push s ∙ ap (λ (m : Member). count_of (raised (context_of_all h) m) s) is

  member_push : (m : Member) → member_of o ≡ m → (s : ℕ) (counts : List ℕ) → IsTally h s counts
      → IsTally (h ++ o ∷ []) s (counted m (cells_put o) s counts)
  member_push (Original n) is s counts tally = original_push n is s counts tally
  member_push (Group t g) is s counts tally = same_push s counts (group_same t g s is) tally

  member_pop : (m : Member) → member_of o ≡ m → (s : ℕ) (counts : List ℕ) → IsTally (h ++ o ∷ []) s counts
      → IsTally h s (without_last m s counts)
  member_pop (Original n) is s counts tally = original_pop n is s counts tally
  member_pop (Group t g) is s counts tally = same_pop s counts (group_same t g s is) tally

  -- the lists with a next operation counted
  pub tallies_push : (counts now : ℕ → List ℕ) → AreTallies h counts → ((s : ℕ) → now s ≡ counted (member_of o) (cells_put o) s (counts s))
      → AreTallies (h ++ o ∷ []) now
  tallies_push counts now tallies more s =
      subst (λ (t : List ℕ). IsTally (h ++ o ∷ []) s t) (sym (more s)) (member_push (member_of o) refl s (counts s) (tallies s))

  -- and without it
  pub tallies_pop : (counts now : ℕ → List ℕ) → AreTallies (h ++ o ∷ []) counts
      → ((s : ℕ) → now s ≡ without_last (member_of o) s (counts s)) → AreTallies h now
  tallies_pop counts now tallies less s =
      subst (λ (t : List ℕ). IsTally h s t) (sym (less s)) (member_pop (member_of o) refl s (counts s) (tallies s))
