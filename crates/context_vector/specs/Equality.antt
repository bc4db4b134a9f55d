-- Equality of contexts as a test, and what a context feeds a hasher.
use Rattle.std.specs.Prelude.{◌≡◌, ℕ, Bool, true, List, ◌++◌, ◌==◌, ◌&&◌}
use Rattle.std.proofs.Common.{sym, ap, subst}
use Rattle.std.specs.Bool.{Decides}
use Rattle.std.specs.Cmp.{IsEquivalence, IsPartialEquivalence, decided, partial_equiv_from_equiv, on_equiv, on_per, first_so, second_so}
use Rattle.std.specs.Hash as fed
use Rattle.std.specs.Hash.{HashWrites}
use lib.Pointwise.{pointwise, pointwise_decides}
use Rattle.op_name.specs.NameData.{NameData, name_eq}
use Rattle.context_vector.specs.Contexts.{ContextData}
use Rattle.op_name.proofs.CallerLemmas.{name_same, name_itself, number_order}
use Rattle.context_vector.specs.Marks.{mark_of, counts_mark}
use Rattle.context_vector.specs.Vectors.{VectorData}

abbrev pub count_eq : ℕ × ℕ → ℕ × ℕ → Bool
count_eq p q = (p.0 == q.0) && (p.1 == q.1)

abbrev pub entry_eq : NameData × ℕ → NameData × ℕ → Bool
entry_eq e f = name_eq e.0 f.0 && (e.1 == f.1)

-- the same counts and the same entries
abbrev pub context_eq : ContextData → ContextData → Bool
context_eq c d = pointwise count_eq c.counts d.counts && pointwise entry_eq c.entries d.entries

abbrev pub vector_eq : VectorData → VectorData → Bool
vector_eq v w = context_eq v.set w.set

and_holds : (x y : Bool) → x ≡ true → y ≡ true → (x && y) ≡ true
and_holds x y e f = subst (λ t. (t && y) ≡ true) (sym e) f

pub counts_decide : (p q : ℕ × ℕ) → Decides (count_eq p q) (p ≡ q)
counts_decide p q = (
  λ e.
      let sites = number_order.same p.0 q.0 (first_so (p.0 == q.0) (p.1 == q.1) e) in
      let counts = number_order.same p.1 q.1 (second_so (p.0 == q.0) (p.1 == q.1) e) in
      λ i. (sites i, counts i),
  λ e. subst (λ x. count_eq p x ≡ true) e (and_holds _ _ (number_order.itself p.0) (number_order.itself p.1)),
)

pub entries_decide : (e f : NameData × ℕ) → Decides (entry_eq e f) (e ≡ f)
entries_decide e f = (
  λ h.
      let names = name_same e.0 f.0 (first_so (name_eq e.0 f.0) (e.1 == f.1) h) in
      let generations = number_order.same e.1 f.1 (second_so (name_eq e.0 f.0) (e.1 == f.1) h) in
      λ i. (names i, generations i),
  λ h. subst (λ x. entry_eq e x ≡ true) h (and_holds _ _ (name_itself e.0) (number_order.itself e.1)),
)

pub count_equiv : IsEquivalence count_eq
count_equiv = decided count_eq counts_decide

pub count_per : IsPartialEquivalence count_eq
count_per = partial_equiv_from_equiv count_equiv

pub entry_equiv : IsEquivalence entry_eq
entry_equiv = decided entry_eq entries_decide

pub entry_per : IsPartialEquivalence entry_eq
entry_per = partial_equiv_from_equiv entry_equiv

pub count_list_decides : (ps qs : List (ℕ × ℕ)) → Decides (pointwise count_eq ps qs) (ps ≡ qs)
count_list_decides ps qs = pointwise_decides counts_decide ps qs

pub list_eq_decides : (es fs : List (NameData × ℕ)) → Decides (pointwise entry_eq es fs) (es ≡ fs)
list_eq_decides es fs = pointwise_decides entries_decide es fs

-- the test decides equality of contexts
pub context_eq_decides : (c d : ContextData) → Decides (context_eq c d) (c ≡ d)
context_eq_decides c d =
    let by_counts = count_list_decides c.counts d.counts in
    let by_entries = list_eq_decides c.entries d.entries in (
      λ e.
          let counts = by_counts.0 (first_so (pointwise count_eq c.counts d.counts) (pointwise entry_eq c.entries d.entries) e) in
          let entries = by_entries.0 (second_so (pointwise count_eq c.counts d.counts) (pointwise entry_eq c.entries d.entries) e) in
          λ i. record { counts = counts i; entries = entries i },
      λ e. and_holds _ _ (by_counts.1 (ap (λ (x : ContextData). x.counts) e)) (by_entries.1 (ap (λ (x : ContextData). x.entries) e)),
    )

pub vector_equiv : IsEquivalence vector_eq
vector_equiv = on_equiv (λ (v : VectorData). v.set) (decided context_eq context_eq_decides)

pub vector_per : IsPartialEquivalence vector_eq
vector_per = on_per (λ (v : VectorData). v.set) (partial_equiv_from_equiv (decided context_eq context_eq_decides))

-- the mark of the counts, then the mark of the entries
abbrev pub context_input : ContextData → HashWrites
context_input c = fed.u64 (counts_mark 0 c.counts) ++ fed.u64 (mark_of c.entries)

abbrev pub vector_input : VectorData → HashWrites
vector_input v = context_input v.set

pub vector_alike : (v w : VectorData) → vector_eq v w ≡ true → vector_input v ≡ vector_input w
vector_alike v w e = ap context_input ((context_eq_decides v.set w.set).0 e)
