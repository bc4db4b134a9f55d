-- Histories that agree: an operation that is next in one is next in any other that has its context, and two with the same members are
-- the same.
use Rattle.std.proofs.Common.{◌≡◌, ℕ, zero, suc, ◌+◌, ◌≤◌, true, false, inl, inr, List, [], ◌∷◌, ◌++◌, refl, ap, sym, subst, ◌∙◌, arith}
use Rattle.std.specs.Prelude.{Contains, Some, slice_get, ◌&&◌, if◌then◌else◌}
use Rattle.std.proofs.lemmas.Bool.{false≢true, or_parts}
use Rattle.std.proofs.lemmas.Bool.Decides.{nat_tests}
use Rattle.std.proofs.lemmas.List.Elements.{Contains-push_cases}
use Rattle.op_name.specs.declared.member.Member.{Member}
use Rattle.op_name.specs.declared.member.Member.TheVariants.{Original}
use Rattle.op_name.specs.NameData.{NameData}
use Rattle.op_name.specs.Members.{member_eq}
use Rattle.context_vector.specs.Contexts.{ContextData, AreCounts, Within, has, count_of, entry_of}
use Rattle.context_vector.proofs.CallerLemmas.{same_context}
use Rattle.context_diff.specs.Operations.{OpData, inserting, deleting, undoing, member_of, context_of, cells_put, is_original, IsWellFormed}
use Rattle.context_diff.specs.Histories.{is_known, cells_in, context_of_all, LacksNothing, IsValid, IsNext, HasPlace, Same, Agree}
use Rattle.context_diff.specs.Code.Counting.{is_insert_of, cells_of_site, cells_listed}
use Rattle.context_diff.proofs.Names.{member_itself, member_apart}
use Rattle.context_diff.proofs.Known.{contains_none, holder, known_member}
use Rattle.context_diff.proofs.Raising.{has_original}
use Rattle.context_diff.proofs.Valid.{by_pushes}
use Rattle.context_diff.proofs.Complete.{complete, formed_number}
use Rattle.context_diff.proofs.Generations.{generation_is}
use Rattle.context_diff.proofs.CellCounts.{cells_by_site, no_cells}
use Rattle.context_diff.proofs.Listings.{count_at}
use Rattle.context_diff.proofs.Members.{all_is_context, original_name}
use Rattle.std.specs.Cmp.{both_ways as same_bool}

pub agree_back : (h p : List OpData) → Agree h p → Agree p h
agree_back h p agree x y n at bt is js = sym (agree y x n bt at js is)

pub agree_itself : (h : List OpData) → IsValid h → Agree h h
agree_itself h v x y n at bt is js = (complete h v).one x y at bt (is ∙ sym js)

-- ---- cells of a context

-- how many cells the inserts of this name put
named : List OpData → NameData → ℕ
named [] n = 0
named (o ∷ os) n = (if member_eq (member_of o) (Original n) then cells_put o else 0) + named os n

one_more : (o : OpData) (s k : ℕ)
    → ◌≡◌ {A = ℕ} (if is_insert_of s (suc k) o then cells_put o else 0)
    ((if is_insert_of s k o then cells_put o else 0) +
    (if member_eq (member_of o) (Original (record { site = s; number = suc k })) then cells_put o else 0))
one_more (inserting n p text c) s k = grind (arith, nat_tests)
one_more (deleting n p c) s k = grind (arith, nat_tests)
one_more (undoing a t g c) s k = grind (arith, nat_tests)

-- the first k + 1 originals of a site have the cells of the first k, and those of the last name
named_step : (h : List OpData) (s k : ℕ) → cells_of_site h s (suc k) ≡ cells_of_site h s k + named h (record { site = s; number = suc k })
unfolding named
named_step [] s k = refl
named_step (o ∷ os) s k = rw (named_step os s k) (rw (one_more o s k) (omega arith))

named_push : (h : List OpData) (o : OpData) (n : NameData)
    → named (h ++ o ∷ []) n ≡ named h n + (if member_eq (member_of o) (Original n) then cells_put o else 0)
unfolding named
named_push [] o n = omega arith
named_push (p ∷ ps) o n = rw (named_push ps o n) (omega arith)

named_none : (h : List OpData) (n : NameData) → is_known h (Original n) ≡ false → named h n ≡ 0
unfolding named
named_none [] n new = refl
named_none (o ∷ os) n new =
    let parts = or_parts (member_eq (member_of o) (Original n)) (is_known os (Original n)) new in
    rw (named_none os n parts.1) (rw parts.0 (omega arith))

-- in a valid history a name is one operation's
named_once : (h : List OpData) → IsValid h → (n : NameData) (o : OpData) → Contains h o → member_of o ≡ Original n
    → named h n ≡ cells_put o
named_once h v =
    by_pushes (λ k. (n : NameData) (o : OpData) → Contains k o → member_of o ≡ Original n → named k n ≡ cells_put o)
    (λ n o at. absurd (contains_none o at))
    (λ k p valid was next n o at is. named_push k p n ∙ elim (Contains-push_cases k p o at) [
      | inl old ↦
          let apart : member_eq (member_of p) (Original n) ≡ false =
          member_apart (member_of p) (Original n)
          (λ e. false≢true (sym next.new ∙ (ap (is_known k) (e ∙ sym is) ∙ known_member k o old))) in
          rw (was n o old is) (rw apart (omega arith))
      | inr now ↦
          let name : member_of p ≡ Original n = ap member_of now ∙ is in
          let new : is_known k (Original n) ≡ false = ap (is_known k) (sym name) ∙ next.new in
          let same : member_eq (member_of p) (Original n) ≡ true = ap (λ m. member_eq m (Original n)) name ∙ member_itself (Original n) in
          let size : cells_put p ≡ cells_put o = ap cells_put now in
          rw (named_none k n new) (rw same (omega (arith, size)))
    ]) h v

-- both histories have the first k originals of a site
abbrev BothKnow : (g q : List OpData) (s k : ℕ) → Type 0
BothKnow g q s k =
    (j : ℕ) → 1 ≤ j → j ≤ k → (is_known g (Original (record { site = s; number = j })) ≡ true)
    × (is_known q (Original (record { site = s; number = j })) ≡ true)

of_same : (g q : List OpData) → IsValid g → IsValid q → Agree g q → (s k : ℕ) → BothKnow g q s k → cells_of_site g s k ≡ cells_of_site q s k
of_same g q v w agree s zero both = no_cells g s (complete g v).formed ∙ sym (no_cells q s (complete q w).formed)
of_same g q v w agree s (suc k) both =
    let n : NameData = record { site = s; number = suc k } in
    let known = both (suc k) (omega arith) (omega arith) in
    let a = holder g (Original n) known.0 in
    let b = holder q (Original n) known.1 in
    let same : a.op ≡ b.op = agree a.op b.op n a.there b.there a.is b.is in
    let before = of_same g q v w agree s k (λ j low high. both j low (omega arith)) in
    named_step g s k ∙ ((λ i. before i +
    ((named_once g v n a.op a.there a.is ∙ (ap cells_put same ∙ sym (named_once q w n b.op b.there b.is))) i))
    ∙ sym (named_step q s k))

listed_same : (g q : List OpData) → IsValid g → IsValid q → Agree g q → (ps : List (ℕ × ℕ))
    → ((i : ℕ) (p : ℕ × ℕ) → slice_get ps i ≡ Some p → BothKnow g q p.0 p.1) → cells_listed g ps ≡ cells_listed q ps
listed_same g q v w agree [] both = refl
listed_same g q v w agree (p ∷ ps) both =
    let first = of_same g q v w agree p.0 p.1 (both 0 p refl) in
    let rest = listed_same g q v w agree ps (λ i x at. both (suc i) x at) in
    λ i. first i + rest i

-- histories that agree count the same cells in a context that both have
same_cells : (g q : List OpData) → IsValid g → IsValid q → Agree g q → (c : ContextData) → AreCounts 0 c.counts → LacksNothing g c
    → LacksNothing q c → cells_in g c ≡ cells_in q c
same_cells g q v w agree c are ready ready' =
    sym (cells_by_site g c are (complete g v).formed)
    ∙ (listed_same g q v w agree c.counts (λ i p at j low high.
    let here = count_at 0 c.counts are i p at in
    let n : NameData = record { site = p.0; number = j } in
    let there : has c (Original n) ≡ true = has_original c n low (omega (arith, here.count)) in
    (ready (Original n) there, ready' (Original n) there))
    ∙ cells_by_site q c are (complete q w).formed)

-- ---- what is next

counts_in_order : (o : OpData) → IsWellFormed o → AreCounts 0 (context_of o).counts
counts_in_order (inserting n p text c) f = f.in_range.3.counts
counts_in_order (deleting n p c) f = f.in_range.2.counts
counts_in_order (undoing a t g c) f = f.in_range.4.counts

-- a place that fits one count of inserts fits an equal one
placed_by : (g q : List OpData) (o : OpData) → cells_in g (context_of o) ≡ cells_in q (context_of o) → HasPlace q o → HasPlace g o
placed_by g q (inserting n p text c) same fits = omega (arith, same, fits)
placed_by g q (deleting n p c) same fits = omega (arith, same, fits)
placed_by g q (undoing a t g' c) same fits = tt

-- what is next after one history is next after any other that agrees with it, has the context, and hasn't the member
pub next_elsewhere : (g q : List OpData) (o : OpData) → IsValid g → IsValid q → Agree g q → LacksNothing g (context_of o)
    → is_known g (member_of o) ≡ false → IsNext q o → IsNext g o
next_elsewhere g q o v w agree ready new next =
    let c = context_of o in
    record {
      formed = next.formed;
      new = new;
      ready = ready;
      closed = λ original s x n at is site number.
          let there : has c (Original n) ≡ true =
          has_original c n (formed_number x ((complete g v).formed x at) n is) (omega (arith, number, ap (count_of c) site)) in
          let held = holder q (Original n) (next.ready (Original n) there) in
          let same : x ≡ held.op = agree x held.op n at held.there is held.is in
          subst (λ (y : OpData). Within (context_of y) c) (sym same) (next.closed original s held.op n held.there held.is site number);
      placed = placed_by g q o (same_cells g q v w agree c (counts_in_order o next.formed) ready next.ready) next.placed;
    }

-- ---- the same members

moved : (h p : List OpData) → Agree h p → ((m : Member) → is_known h m ≡ true → is_known p m ≡ true) → (o : OpData) → is_original o ≡ true
    → Contains h o → Contains p o
moved h p agree within o original at =
    let name = original_name o original in
    let held = holder p (Original name.0) (within (Original name.0) (ap (is_known h) (sym name.1) ∙ known_member h o at)) in
    subst (λ (x : OpData). Contains p x) (sym (agree o held.op name.0 at held.there name.1 held.is)) held.there

-- valid histories that agree and have the same members are the same
pub same_by_members : (h p : List OpData) → IsValid h → IsValid p → Agree h p → ((m : Member) → is_known h m ≡ true → is_known p m ≡ true)
    → ((m : Member) → is_known p m ≡ true → is_known h m ≡ true) → Same h p
same_by_members h p v w agree to from = record {
  originals = λ o original. (moved h p agree to o original, moved p h (agree_back h p agree) from o original);
  generations = λ t known. generation_is h v t ∙ (ap (λ c. entry_of c t) contexts ∙ sym (generation_is p w t));
}
  where
    members : (m : Member) → has (context_of_all h) m ≡ has (context_of_all p) m
    members m = (complete h v).holds m ∙ (same_bool (is_known h m) (is_known p m) (to m) (from m) ∙ sym ((complete p w).holds m))

    contexts : context_of_all h ≡ context_of_all p
    contexts = same_context (context_of_all h) (context_of_all p) (all_is_context h v) (all_is_context p w) members
