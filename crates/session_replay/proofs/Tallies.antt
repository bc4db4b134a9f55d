-- Operations counted one after the other.
use Rattle.std.proofs.Common.{◌≡◌, ℕ, suc, ◌+◌, ◌<◌, ◌≤◌, length-drop, Bool, true, false, List, [], ◌∷◌, length, drop, get_or, refl, ap, sym, ◌∙◌, arith}
use Rattle.std.specs.Prelude.{if◌then◌else◌}
use Rattle.std.proofs.Math.Seq.{drop-cons}
use Rattle.std.proofs.lemmas.List.{drop-map, drop_all}
use Rattle.context_diff.specs.Operations.{OpData, inserting, deleting, undoing}
use Rattle.op_name.specs.Members.{is_even}
use Rattle.cot_site.specs.States.{State}
use Rattle.session_replay.specs.declared.message.Message.{Message}
use Rattle.session_replay.specs.Code.Messages.{operation_of, operations_of}
use Rattle.session_replay.specs.Generating.{Counts, one_more, counts_of, all_counted}

abbrev pub added : Counts → Counts → Counts
added a b =
    record { inserts = a.inserts + b.inserts; deletes = a.deletes + b.deletes; undos = a.undos + b.undos; redos = a.redos + b.redos }

-- ---- sums

counted_more : (o : OpData) (k : Counts) → all_counted (one_more o k) ≡ suc (all_counted k)
counted_more (inserting n p text c) k = omega arith
counted_more (deleting n p c) k = omega arith
counted_more (undoing a t g c) k = by_force (is_even g)
  where
    by_force : (b : Bool) → all_counted (if b then record k { redos = k.redos + 1 } else record k { undos = k.undos + 1 })
        ≡ suc (all_counted k)
    by_force true = omega arith
    by_force false = omega arith

-- the counts add up to the number of operations
pub counted : (os : List OpData) → all_counted (counts_of os) ≡ length os
counted [] = refl
counted (o ∷ os) = counted_more o (counts_of os) ∙ ap suc (counted os)

shift : (a b : ℕ) → a + (b + 1) ≡ (a + 1) + b
shift a b = omega arith

added_more : (o : OpData) (a b : Counts) → added a (one_more o b) ≡ added (one_more o a) b
added_more (inserting n p text c) a b =
    λ i. record {
      inserts = shift a.inserts b.inserts i;
      deletes = a.deletes + b.deletes;
      undos = a.undos + b.undos;
      redos =
          a.redos + b.redos;
    }
added_more (deleting n p c) a b =
    λ i. record {
      inserts = a.inserts + b.inserts;
      deletes = shift a.deletes b.deletes i;
      undos = a.undos + b.undos;
      redos =
          a.redos + b.redos;
    }
added_more (undoing x t g c) a b = by_force (is_even g)
  where
    by_force : (e : Bool)
        → added a (if e then record b { redos = b.redos + 1 } else record b { undos = b.undos + 1 })
        ≡ added (if e then record a { redos = a.redos + 1 } else record a { undos = a.undos + 1 }) b
    by_force true =
        λ i. record {
          inserts = a.inserts + b.inserts;
          deletes = a.deletes + b.deletes;
          undos = a.undos + b.undos;
          redos =
              shift a.redos b.redos i;
        }
    by_force false =
        λ i. record {
          inserts = a.inserts + b.inserts;
          deletes = a.deletes + b.deletes;
          undos = shift a.undos b.undos i;
          redos =
              a.redos + b.redos;
        }

-- ---- a walk over messages

-- what was counted, and what is still to come, are all
abbrev pub IsTally : List OpData → ℕ → Counts → Type 0
IsTally os i a = added a (counts_of (drop i os)) ≡ counts_of os

abbrev pub no_counts : Counts
no_counts = record { inserts = 0; deletes = 0; undos = 0; redos = 0 }

nothing_more : (n : ℕ) → 0 + n ≡ n
nothing_more n = omega arith

pub tally_first : (os : List OpData) → IsTally os 0 no_counts
tally_first os =
    let k = counts_of os in
    λ i. record {
      inserts = nothing_more k.inserts i;
      deletes = nothing_more k.deletes i;
      undos = nothing_more k.undos i;
      redos =
          nothing_more k.redos i;
    }

pub tally_next : (ss : List State) (ms : List Message) (i : ℕ) (d : Message) (o : OpData) (a : Counts)
    → i < length ms → o ≡ operation_of ss (get_or ms i d) → IsTally (operations_of ss ms) i a
    → IsTally (operations_of ss ms) (i + 1) (one_more o a)
tally_next ss ms i d o a within named tally =
    let next : suc i ≡ i + 1 = omega arith in
    let os = operations_of ss ms in
    let rest = drop (i + 1) ms in
    let cut : drop i ms ≡ get_or ms i d ∷ rest = drop-cons ms i d within ∙ ap (λ n. get_or ms i d ∷ drop n ms) next in
    let here : drop i os ≡ o ∷ drop (i + 1) os =
    drop-map (operation_of ss) i ms
    ∙ ap (operations_of ss) cut
    ∙ ap (λ p. p ∷ operations_of ss rest) (sym named)
    ∙ ap (λ qs. o ∷ qs) (sym (drop-map (operation_of ss) (i + 1) ms))
    in
    sym (added_more o a (counts_of (drop (i + 1) os))) ∙ ap (λ qs. added a (counts_of qs)) (sym here) ∙ tally

pub tally_last : (os : List OpData) (i : ℕ) (a : Counts) → length os ≤ i → IsTally os i a → a ≡ counts_of os
tally_last os i a past tally =
    (λ j. record { inserts = none a.inserts j; deletes = none a.deletes j; undos = none a.undos j; redos = none a.redos j })
    ∙ (ap (λ qs. added a (counts_of qs)) (sym (drop_all i os past))
    ∙ tally)
  where
    none : (n : ℕ) → n ≡ n + 0
    none n = omega arith

-- fewer are counted than there are operations, where one is still to come
pub tally_less : (os : List OpData) (i : ℕ) (a : Counts) → IsTally os i a → i < length os → all_counted a < length os
tally_less os i a tally within =
    let k = counts_of (drop i os) in
    omega (arith, counted os, counted (drop i os), length-drop i os, within, ap all_counted tally, both a k)
  where
    both : (b k : Counts) → all_counted (added b k) ≡ all_counted b + all_counted k
    both b k = omega arith
