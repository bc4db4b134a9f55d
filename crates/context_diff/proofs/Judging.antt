-- What is known of a context by an operation that was made with it, or right after it.
use Rattle.std.proofs.Common.{◌≡◌, ℕ, zero, suc, ◌+◌, ◌<◌, ◌≤◌, Bool, true, false, inl, inr, List, [], ◌∷◌, ◌++◌, refl, ap, sym, subst, ◌∙◌, arith, length, length-append}
use Rattle.std.specs.Prelude.{◌==◌, ◌&&◌, ◌||◌, Contains, Option, Some, None, IfSome, slice_get, option_map, if◌then◌else◌}
use Rattle.std.proofs.lemmas.Bool.{cases_Bool, eqb-true, false≢true, or_cases, or_left, or_parts}
use Rattle.std.proofs.lemmas.List.{length-map}
use Rattle.std.proofs.lemmas.List.Elements.{Contains-push_cases}
use Rattle.std.proofs.lemmas.Option.{slice_get-map}
use Rattle.op_name.specs.declared.member.Member.{Member}
use Rattle.op_name.specs.declared.member.Member.TheVariants.{Original}
use Rattle.op_name.specs.NameData.{NameData}
use Rattle.op_name.specs.Members.{member_eq}
use Rattle.op_name.proofs.CallerLemmas.{member_apart, same_parts}
use Rattle.context_vector.specs.Contexts.{ContextData, IsNextMember, Within, count_of, has, raised}
use Rattle.context_diff.specs.Operations.{OpData, inserting, deleting, undoing, member_of, context_of, cells_put, is_original, IsWellFormed}
use Rattle.context_diff.specs.Histories.{is_known, all_cells, cells_in, members_in, IsClosed, IsNext, IsValid, LacksNothing}
use Rattle.context_diff.specs.Books.{IsJudged}
use Rattle.context_diff.specs.Code.Judged.{IsLately, IsCellsBy}
use Rattle.context_diff.specs.declared.judged.Lately.{Lately}
use Rattle.context_diff.proofs.Names.{member_same, member_itself}
use Rattle.context_diff.proofs.Known.{contains_cases, contains_here, contains_later, contains_none, known_member}
use Rattle.context_diff.proofs.Raising.{count_put, has_number, has_raised}
use Rattle.context_diff.proofs.Members.{original_name}
use Rattle.context_diff.proofs.CellCounts.{cells_at_most}
use Rattle.context_diff.proofs.Valid.{by_pushes}
use Rattle.context_diff.proofs.Complete.{IsComplete, complete}

-- the cells of an operation, if it is had
part : Bool → ℕ → ℕ
part b n = if b then n else 0

-- ---- Counting

cells_push : (h : List OpData) (o : OpData) (v : ContextData)
    → cells_in (h ++ o ∷ []) v ≡ cells_in h v + part (has v (member_of o)) (cells_put o)
unfolding part
cells_push [] o v = omega arith
cells_push (p ∷ ps) o v = rw (cells_push ps o v) (omega arith)

-- what comes next is in no context whose members were there
pub cells_stay : (h : List OpData) (o : OpData) (c : ContextData) → LacksNothing h c → is_known h (member_of o) ≡ false
    → cells_in (h ++ o ∷ []) c ≡ cells_in h c
unfolding part
cells_stay h o c ready new =
    elim (cases_Bool (has c (member_of o))) [
      | inl there ↦ absurd (false≢true (sym new ∙ ready (member_of o) there))
      | inr missing ↦ cells_push h o c ∙ rw missing (omega arith)
    ]

-- a member more changes nothing for operations that are other members
unknown_same : (h : List OpData) (m : Member) (c v : ContextData) → ((y : Member) → has v y ≡ (has c y || member_eq m y))
    → is_known h m ≡ false → cells_in h v ≡ cells_in h c
unknown_same [] m c v more new = refl
unknown_same (p ∷ ps) m c v more new =
    let parts = or_parts (member_eq (member_of p) m) (is_known ps m) new in
    let apart : member_eq m (member_of p) ≡ false =
    member_apart m (member_of p) (λ e. false≢true (sym parts.0 ∙ (ap (member_eq (member_of p)) e ∙ member_itself (member_of p)))) in
    let same : has v (member_of p) ≡ has c (member_of p) =
    more (member_of p) ∙ (ap (λ b. has c (member_of p) || b) apart ∙ or_none (has c (member_of p))) in
    rw (same, unknown_same ps m c v more parts.1) refl
  where
    or_none : (b : Bool) → (b || false) ≡ b
    or_none true = refl
    or_none false = refl

-- a context with one operation of the history more has its cells more
cells_with : (h : List OpData) → IsValid h → (o : OpData) → Contains h o → (c v : ContextData)
    → ((y : Member) → has v y ≡ (has c y || member_eq (member_of o) y)) → has c (member_of o) ≡ false
    → cells_in h v ≡ cells_in h c + cells_put o
unfolding part
cells_with h valid o there c v more lacks =
    by_pushes (λ k. Contains k o → cells_in k v ≡ cells_in k c + cells_put o) (λ at. absurd (contains_none o at)) step h valid
    there
  where
    step : (k : List OpData) (q : OpData) → IsValid k → (Contains k o → cells_in k v ≡ cells_in k c + cells_put o) → IsNext k q
        → Contains (k ++ q ∷ []) o → cells_in (k ++ q ∷ []) v ≡ cells_in (k ++ q ∷ []) c + cells_put o
    step k q valid_k rest next at =
        elim (Contains-push_cases k q o at) [
          | inl old ↦
              let apart : member_eq (member_of o) (member_of q) ≡ false =
              member_apart (member_of o) (member_of q)
              (λ e. false≢true (sym next.new ∙ (ap (is_known k) (sym e) ∙ known_member k o old))) in
              let same : has v (member_of q) ≡ has c (member_of q) =
              more (member_of q) ∙ (ap (λ b. has c (member_of q) || b) apart ∙ or_none (has c (member_of q))) in
              let here : part (has v (member_of q)) (cells_put q) ≡ part (has c (member_of q)) (cells_put q) =
              ap (λ b. part b (cells_put q)) same in
              omega (arith, cells_push k q v, cells_push k q c, rest old, here)
          | inr now ↦
              let new : is_known k (member_of o) ≡ false = ap (λ (x : OpData). is_known k (member_of x)) (sym now) ∙ next.new in
              let before = unknown_same k (member_of o) c v more new in
              let there_now : has v (member_of o) ≡ true =
              more (member_of o) ∙ (ap (λ b. has c (member_of o) || b) (member_itself (member_of o)) ∙ or_all (has c (member_of o))) in
              let with_it : part (has v (member_of q)) (cells_put q) ≡ cells_put o =
              ap (λ (x : OpData). part (has v (member_of x)) (cells_put x)) now ∙ ap (λ b. part b (cells_put o)) there_now in
              let without : part (has c (member_of q)) (cells_put q) ≡ 0 =
              ap (λ (x : OpData). part (has c (member_of x)) (cells_put x)) now ∙ ap (λ b. part b (cells_put o)) lacks in
              omega (arith, cells_push k q v, cells_push k q c, before, with_it, without)
        ]
      where
        or_none : (b : Bool) → (b || false) ≡ b
        or_none true = refl
        or_none false = refl

        or_all : (b : Bool) → (b || true) ≡ true
        or_all true = refl
        or_all false = refl

-- ---- Judging

-- an original is the next of its site in its own context
next_there : (o : OpData) → IsWellFormed o → is_original o ≡ true → IsNextMember (context_of o) (member_of o)
next_there (inserting n p text c) formed original = sym formed.own
next_there (deleting n p c) formed original = sym formed.own
next_there (undoing a t g c) formed original = cc

-- so it isn't there
not_own : (c : ContextData) (k : NameData) → IsNextMember c (Original k) → has c (Original k) ≡ false
not_own c k next =
    elim (cases_Bool (has c (Original k))) [
      | inl there ↦ let within = has_number c k there in absurd (omega (arith, next, within.1))
      | inr missing ↦ missing
    ]

module _ (h : List OpData) (w : IsComplete h) (o : OpData) (there : Contains h o)
    (more : (y : Member) → has (raised (context_of o) (member_of o)) y ≡ (has (context_of o) y || member_eq (member_of o) y)) where
  within_more : Within (context_of o) (raised (context_of o) (member_of o))
  within_more y e = more y ∙ or_left (has (context_of o) y) (member_eq (member_of o) y) e

  ready_with : LacksNothing h (raised (context_of o) (member_of o))
  ready_with y at =
      elim (or_cases (has (context_of o) y) (member_eq (member_of o) y) (sym (more y) ∙ at)) [
        | inl before ↦ w.ready o there y before
        | inr is ↦ subst (λ (x : Member). is_known h x ≡ true) (member_same (member_of o) y is) (known_member h o there)
      ]

  closed_with : (k : NameData) → member_of o ≡ Original k → is_original o ≡ true → IsClosed h (raised (context_of o) (member_of o))
  closed_with k is original s q r at named site last =
      let c = context_of o in
      let counts : count_of (raised c (member_of o)) s ≡ (if k.site == s then k.number else count_of c s) =
      ap (λ (m : Member). count_of (raised c m) s) is ∙ count_put k.site k.number c.counts s in
      elim (cases_Bool (k.site == s)) [
        | inl here ↦
            let number : r.number ≡ k.number = last ∙ (counts ∙ rw here refl) in
            let same : r ≡ k = same_parts r k (site ∙ sym (eqb-true k.site s here)) number in
            let one : q ≡ o = w.one q o at there (named ∙ (ap (λ (x : NameData). Original x) same ∙ sym is)) in
            subst (λ (x : OpData). Within (context_of x) (raised c (member_of o))) (sym one) within_more
        | inr other ↦
            let number : r.number ≡ count_of c s = last ∙ (counts ∙ rw other refl) in
            λ y e. within_more y (w.closed o there original s q r at named site number y e)
      ]

-- a context with the operation that was made in it
judged_with : (h : List OpData) → IsValid h → (o : OpData) → Contains h o → is_original o ≡ true → (n : ℕ)
    → n ≡ cells_in h (context_of o) + cells_put o → IsJudged h (raised (context_of o) (member_of o)) n
judged_with h valid o there original n number =
    let w = complete h valid in
    let own = original_name o original in
    let next = next_there o (w.formed o there) original in
    let more = has_raised (context_of o) (member_of o) next in
    let lacks : has (context_of o) (member_of o) ≡ false =
    ap (has (context_of o)) own.1 ∙ not_own (context_of o) own.0 (subst (IsNextMember (context_of o)) own.1 next) in
    record {
      ready = ready_with h w o there more;
      closed = closed_with h w o there more own.0 own.1 original;
      cells = number ∙ sym (cells_with h valid o there (context_of o) (raised (context_of o) (member_of o)) more lacks);
    }

contains_get : (h : List OpData) (i : ℕ) (o : OpData) → slice_get h i ≡ Some o → Contains h o
contains_get [] i o at = let none : None ≡ Some o = at in cc
contains_get (p ∷ ps) zero o at = let is : p ≡ o = cc in subst (Contains (p ∷ ps)) is (contains_here p ps)
contains_get (p ∷ ps) (suc i) o at = contains_later p ps o (contains_get ps i o at)

some_same : (p o : OpData) → Some p ≡ Some o → p ≡ o
some_same p o e = cc

-- what the last operations tell of a context
pub judged_by : (h : List OpData) → IsValid h → (l : Lately) → IsLately h l → (o : OpData) → slice_get h l.place ≡ Some o
    → (v : ContextData) (n : ℕ) → IsCellsBy o v l.cells n → IsJudged h v n
unfolding part
judged_by h valid l known o at v n by =
    let one : known.op ≡ o = some_same known.op o (sym known.there ∙ at) in
    let cells : l.cells ≡ cells_in h (context_of o) = known.cells ∙ ap (λ (x : OpData). cells_in h (context_of x)) one in
    let there = contains_get h l.place o at in
    let w = complete h valid in
    elim by.1 [
      | inl same ↦ record {
        ready = subst (LacksNothing h) (sym same.0) (w.ready o there);
        closed = subst (IsClosed h) (sym same.0) (w.closed o there by.0);
        cells = same.1 ∙ (cells ∙ ap (cells_in h) (sym same.0));
      }
      | inr next ↦ subst (λ (x : ContextData). IsJudged h x n) (sym next.0)
          (judged_with h valid o there by.0 n (next.1 ∙ ap (λ x. x + cells_put o) cells))
    ]

-- the same of an answer
pub judged_some : (h : List OpData) → IsValid h → (l : Lately) → IsLately h l → (o : OpData) → slice_get h l.place ≡ Some o
    → (v : ContextData) (r : Option ℕ) → IfSome r (IsCellsBy o v l.cells) → IfSome r (IsJudged h v)
judged_some h valid l known o at v None by = tt
judged_some h valid l known o at v (Some n) by = judged_by h valid l known o at v n by

-- a context that lacks an operation of the history has all cells but those of that one at most
cells_less : (h : List OpData) (o : OpData) (c : ContextData) → Contains h o → has c (member_of o) ≡ false
    → cells_in h c + cells_put o ≤ all_cells h
cells_less [] o c there lacks = absurd (contains_none o there)
cells_less (p ∷ ps) o c there lacks =
    elim (contains_cases p ps o there) [
      | inl is ↦
          let missing : has c (member_of p) ≡ false = ap (λ (x : OpData). has c (member_of x)) is ∙ lacks in
          let size : cells_put p ≡ cells_put o = ap cells_put is in
          rw missing (omega (arith, size, cells_at_most ps c))
      | inr later ↦
          let rest = cells_less ps o c later lacks in
          elim (cases_Bool (has c (member_of p))) [
            | inl one ↦ rw one (omega (arith, rest))
            | inr none ↦ rw none (omega (arith, rest))
          ]
    ]

-- so the cells of a context and of the operation that was made in it are at most all
pub lately_fits : (h : List OpData) → IsValid h → (l : Lately) → IsLately h l → all_cells h < 4294967296 → (o : OpData)
    → slice_get h l.place ≡ Some o → l.cells + cells_put o < 4294967296
lately_fits h valid l known few p at =
    let o = known.op in
    let one : o ≡ p = some_same o p (sym known.there ∙ at) in
    let there = contains_get h l.place o known.there in
    let own = original_name o known.original in
    let next = next_there o ((complete h valid).formed o there) known.original in
    let lacks : has (context_of o) (member_of o) ≡ false =
    ap (has (context_of o)) own.1 ∙ not_own (context_of o) own.0 (subst (IsNextMember (context_of o)) own.1 next) in
    omega (arith, known.cells, few, ap cells_put one, cells_less h o (context_of o) there lacks)

-- ---- A history that grows

get_on : (h : List OpData) (o : OpData) (i : ℕ) (p : OpData) → slice_get h i ≡ Some p → slice_get (h ++ o ∷ []) i ≡ Some p
get_on [] o i p at = let none : None ≡ Some p = at in cc
get_on (q ∷ qs) o zero p at = at
get_on (q ∷ qs) o (suc i) p at = get_on qs o i p at

get_last : {A : Type 0} (xs : List A) (x : A) → slice_get (xs ++ x ∷ []) (length xs) ≡ Some x
get_last [] x = refl
get_last (y ∷ ys) x = get_last ys x

-- what is known stays so
pub lately_on : (h : List OpData) (o : OpData) → IsComplete h → IsNext h o → (l : Option Lately) → IfSome l (IsLately h)
    → IfSome l (IsLately (h ++ o ∷ []))
lately_on h o w next None known = tt
lately_on h o w next (Some l) known = record {
  op = known.op;
  there = get_on h o l.place known.op known.there;
  original = known.original;
  cells = known.cells ∙ sym (cells_stay h o (context_of known.op) (w.ready known.op (contains_get h l.place known.op known.there))
      next.new);
}

-- and of a next operation as much is known, if its context was counted
pub lately_new : (h : List OpData) (o : OpData) → IsNext h o → (cells : ℕ)
    → (is_original o ≡ true → cells ≡ cells_in h (context_of o)) → (r : Option Lately)
    → IfSome r (λ l. (is_original o ≡ true) × (l.place ≡ length h) × (l.cells ≡ cells)) → IfSome r (IsLately (h ++ o ∷ []))
lately_new h o next cells counted None kept = tt
lately_new h o next cells counted (Some l) kept = record {
  op = o;
  there = ap (slice_get (h ++ o ∷ [])) kept.1 ∙ get_last h o;
  original = kept.0;
  cells = kept.2 ∙ (counted kept.0 ∙ sym (cells_stay h o (context_of o) next.ready next.new));
}

-- ---- The last operation

-- the operation whose member comes last is the one at the last place
pub last_known : (h : List OpData) → IsValid h → (l : Lately) → IsLately h l → l.place + 1 ≡ length h
    → (o : OpData) (before : List Member) → Contains h o
    → members_in h ≡ before ++ member_of o ∷ [] → l.cells ≡ cells_in h (context_of o)
last_known h valid l known last o before there whole =
    let end : l.place ≡ length before =
    omega (arith, last, sym (length-map h member_of) ∙ (ap length whole ∙ length-append before (member_of o ∷ []))) in
    let member : option_map member_of (Some known.op) ≡ Some (member_of o) = ap (option_map member_of) (sym known.there)
    ∙ (sym (slice_get-map member_of h l.place) ∙ ((λ i. slice_get (whole i) (end i)) ∙ get_last before (member_of o))) in
    let named : member_of known.op ≡ member_of o = cc in
    let one : known.op ≡ o = (complete h valid).one known.op o (contains_get h l.place known.op known.there) there named in
    known.cells ∙ ap (λ (x : OpData). cells_in h (context_of x)) one
