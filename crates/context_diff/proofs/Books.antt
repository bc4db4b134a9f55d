-- What the calls of a book answer.
use Rattle.std.proofs.Common.{◌≡◌, ◌↔◌, ℕ, zero, suc, ◌+◌, ◌≤◌, true, false, List, [], ◌∷◌, ◌++◌, refl, ap, sym, subst, ◌∙◌, arith, length, take, take_all, IsNone, IfSome, Bor}
use Rattle.std.specs.Prelude.{if◌then◌else◌, Contains, Option, Some, None, slice_get, option_map}
use Rattle.std.proofs.lemmas.Bool.{false≢true, true≢false, eq-eqb}
use Rattle.op_name.specs.NameData.{NameData}
use Rattle.op_name.specs.declared.member.Member.{Member}
use Rattle.op_name.specs.declared.member.Member.TheVariants.{Original, Group}
use Rattle.context_vector.specs.Contexts.{ContextData, Within, AreCounts, count_in, entry_in, raised, has}
use Rattle.context_vector.specs.Vectors.{IsLastMember}
use Rattle.context_diff.specs.Operations.{OpData, member_of}
use Rattle.context_diff.specs.Histories.{all_cells, is_known, members_in, context_of_all, cells_in, LacksNothing, IsValid}
use Rattle.context_diff.specs.Ops.{data_of}
use Rattle.context_diff.specs.Code.Tallies.{AreTallies, entry_at}
use Rattle.context_diff.specs.Code.Counting.{cells_of_site, cells_listed}
use Rattle.context_diff.specs.declared.op.Op.{Op}
use Rattle.context_diff.proofs.CellCounts.{cells_by_site, cells_at_most}
use Rattle.context_diff.proofs.Names.{name_itself}
use Rattle.context_diff.proofs.Raising.{count_put, entry_put, has_number}
use Rattle.context_diff.proofs.Covering.{named_known}
use Rattle.context_diff.proofs.Complete.{complete, context_push}
use Rattle.context_diff.proofs.PlaceSteps.{known_at}
use Rattle.context_diff.proofs.Placing.{at_place, none_at}

-- what a look-up by a member answers
pub record FindAnswer (h : List OpData) (m : Member) (r : Option (Bor Op)) : Type 0 where
  pub none : IsNone r ↔ (is_known h m ≡ false)
  pub there : IfSome r (λ k. Contains h (data_of k.now))
  pub is : IfSome r (λ k. member_of (data_of k.now) ≡ m)

pub find_none : (h : List OpData) (m : Member) → is_known h m ≡ false → FindAnswer h m None
find_none h m unknown = record { none = (λ _. unknown, λ _. refl); there = tt; is = tt }

pub find_some : (h : List OpData) (m : Member) (i : ℕ) (r : Option (Bor Op)) → slice_get (members_in h) i ≡ Some m
    → option_map (λ (k : Bor Op). data_of k.now) r ≡ slice_get h i → FindAnswer h m r
find_some h m i None named at = absurd (none_at h m i named (sym at))
find_some h m i (Some k) named at =
    let found = at_place h m i (data_of k.now) named (sym at) in
    record {
      none = (λ e. absurd (true≢false e), λ unknown. absurd (false≢true (sym unknown ∙ known_at h i m named)));
      there =
          found.there;
      is = found.is;
    }

-- a place that was found tells whether the member is there
pub seat_some : (h : List OpData) (m : Member) (i : ℕ) → slice_get (members_in h) i ≡ Some m → is_known h m ≡ false → ⊥
seat_some h m i named unknown = false≢true (sym unknown ∙ known_at h i m named)

-- the last operation of a book is the last of its site or its original
pub pop_last : (h : List OpData) (o : OpData) (have : ContextData) → have ≡ context_of_all (h ++ o ∷ []) → IsLastMember have (member_of o)
pop_last h o have is =
    subst (λ (c : ContextData). IsLastMember c (member_of o)) (sym (is ∙ context_push h o)) (raised_last (context_of_all h) (member_of o))
  where
    raised_last : (c : ContextData) (m : Member) → IsLastMember (raised c m) m
    raised_last c (Original n) =
        sym (count_put n.site n.number c.counts n.site
        ∙ ap (λ b. if b then n.number else count_in c.counts n.site) (eq-eqb n.site n.site refl))
    raised_last c (Group n g) = sym (entry_put n g c.entries n ∙ ap (λ b. if b then g else entry_in c.entries n) (name_itself n))

pub listed_within : (h : List OpData) (ps : List (ℕ × ℕ)) (i : ℕ) → cells_listed h (take i ps) ≤ cells_listed h ps
listed_within h ps zero = omega arith
listed_within h [] (suc i) = omega arith
listed_within h (p ∷ ps) (suc i) = omega (arith, listed_within h ps i)

pub listed_more : (h : List OpData) (ps : List (ℕ × ℕ)) (i : ℕ) (p : ℕ × ℕ) → slice_get ps i ≡ Some p
    → cells_listed h (take (suc i) ps) ≡ cells_listed h (take i ps) + cells_of_site h p.0 p.1
listed_more h [] i p at = let none : None ≡ Some p = at in cc
listed_more h (q ∷ qs) zero p at =
    let is : q ≡ p = cc in
    let one : cells_of_site h q.0 q.1 ≡ cells_of_site h p.0 p.1 = ap (λ (x : ℕ × ℕ). cells_of_site h x.0 x.1) is in
    omega arith
listed_more h (q ∷ qs) (suc i) p at = let rest = listed_more h qs i p at in omega arith

-- the book has the members of a vector that `have` covers
pub covered_ready : (h : List OpData) (have v : ContextData) → IsValid h → have ≡ context_of_all h → Within v have → LacksNothing h v
covered_ready h have v valid members within m e = sym ((complete h valid).holds m) ∙ (ap (λ c. has c m) (sym members) ∙ within m e)

pub listed_bound : (h : List OpData) (v : ContextData) → IsValid h → AreCounts 0 v.counts → (i : ℕ)
    → cells_listed h (take i v.counts) ≤ all_cells h
listed_bound h v valid are i =
    let all = cells_by_site h v are (complete h valid).formed in
    omega (arith, listed_within h v.counts i, cells_at_most h v)

pub listed_all : (h : List OpData) (v : ContextData) → IsValid h → AreCounts 0 v.counts → (i : ℕ) → length v.counts ≤ i
    → cells_listed h (take i v.counts) ≡ cells_in h v
listed_all h v valid are i past = ap (cells_listed h) (take_all i v.counts past) ∙ cells_by_site h v are (complete h valid).formed

-- a site more of a context, as its entry is read
pub listed_next : (h : List OpData) (have v : ContextData) (counts : ℕ → List ℕ) → IsValid h → have ≡ context_of_all h → Within v have
    → AreCounts 0 v.counts → AreTallies h counts → (i : ℕ) (p : ℕ × ℕ) → slice_get v.counts i ≡ Some p
    → cells_listed h (take (suc i) v.counts) ≡ cells_listed h (take i v.counts) + entry_at (counts p.0) p.1
listed_next h have v counts valid members within are tallies i p at =
    let n : NameData = record { site = p.0; number = p.1 } in
    let known : is_known h (Original n) ≡ true = named_known h v (covered_ready h have v valid members within) are i p at in
    let there = has_number (context_of_all h) n ((complete h valid).holds (Original n) ∙ known) in
    listed_more h v.counts i p at ∙ ap (λ x. cells_listed h (take i v.counts) + x)
    (sym ((tallies p.0).entries p.1 there.0 (omega (arith, there.1, (tallies p.0).size))))
