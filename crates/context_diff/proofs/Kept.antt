-- Books, with an operation more and with one less.
use Rattle.std.proofs.Common.{◌≡◌, ℕ, suc, ◌+◌, ◌<◌, Bool, true, List, [], ◌∷◌, ◌++◌, refl, ap, sym, subst, ◌∙◌, arith, length}
use Rattle.std.proofs.Common.{length-append}
use Rattle.std.specs.Prelude.{map, Some, None, Option, IfSome, if◌then◌else◌}
use Rattle.std.specs.Option.{option_to_list}
use Rattle.op_name.specs.declared.member.Member.{Member}
use Rattle.context_vector.specs.Contexts.{ContextData, raised}
use Rattle.context_diff.specs.Operations.{OpData, member_of, cells_put}
use Rattle.context_diff.specs.Histories.{IsNext, all_cells, context_of_all}
use Rattle.context_diff.specs.Ops.{data_of}
use Rattle.context_diff.specs.declared.op.Op.{Op}
use Rattle.context_diff.specs.Code.Judged.{IsLately}
use Rattle.context_diff.specs.declared.judged.Lately.{Lately}
use Rattle.context_diff.specs.Code.Kept.{AreGroups, IsBook}
use Rattle.context_diff.specs.Code.Tallies.{counted, placed, without_last}
use Rattle.context_diff.proofs.Valid.{valid_push, valid_pop}
use Rattle.context_diff.proofs.Complete.{complete, context_push}
use Rattle.context_diff.proofs.CellCounts.{all_cells_push}
use Rattle.context_diff.proofs.Judging.{lately_on}
use Rattle.context_diff.proofs.Tallies.{tallies_push, tallies_pop}
use Rattle.context_diff.proofs.Placing.{placed_push, placed_pop}

-- the operations that contracts see, where one comes last
pub seen_push : (os : List Op) (o : Op) → map data_of (os ++ o ∷ []) ≡ map data_of os ++ data_of o ∷ []
seen_push [] o = refl
seen_push (p ∷ ps) o = ap (λ xs. data_of p ∷ xs) (seen_push ps o)

pub seen_pop : (os left : List Op) (r : Option Op) (o : Op) → os ≡ left ++ option_to_list r → r ≡ Some o
    → map data_of os ≡ map data_of left ++ data_of o ∷ []
seen_pop os left r o parts some = ap (map data_of) (parts ∙ ap (λ (x : Option Op). left ++ option_to_list x) some) ∙ seen_push left o

pub seen_length : (os : List Op) → length (map data_of os) ≡ length os
seen_length [] = refl
seen_length (p ∷ ps) = ap suc (seen_length ps)

-- a book by the operations that are left of it, and the one that was taken out
pub book_before : (os left : List Op) (r : Option Op) (o : Op) (have : ContextData) (own : Bool) (cells : ℕ)
    (counts places : ℕ → List ℕ) (groups : List (Member × ℕ)) (last earlier : Option Lately)
    → IsBook (map data_of os) have own cells counts places groups last earlier → os ≡ left ++ option_to_list r → r ≡ Some o
    → IsBook (map data_of left ++ data_of o ∷ []) have own cells counts places groups last earlier
book_before os left r o have own cells counts places groups last earlier book parts some =
    subst (λ (h : List OpData). IsBook h have own cells counts places groups last earlier) (seen_pop os left r o parts some) book

-- a book whose members may be changed in place where they might before
pub book_still : (h : List OpData) (have : ContextData) (own own' : Bool) (cells : ℕ)
    (counts places : ℕ → List ℕ) (groups : List (Member × ℕ)) (last earlier : Option Lately)
    → IsBook h have own cells counts places groups last earlier
    → (own ≡ true → own' ≡ true)
    → IsBook h have own' cells counts places groups last earlier
book_still h have own own' cells counts places groups last earlier book stays = record {
  valid = book.valid;
  members = book.members;
  in_place = λ some. stays (book.in_place some);
  cells = book.cells;
  tallies = book.tallies;
  placed = book.placed;
  groups = book.groups;
  lately = book.lately;
  before = book.before;
  short = book.short;
  few = book.few;
}

-- a next operation, counted and placed, at the end of a book
pub book_push : (h : List OpData) (have : ContextData) (own own' : Bool) (cells : ℕ)
    (counts counts' places places' : ℕ → List ℕ) (groups groups' : List (Member × ℕ)) (last earlier new : Option Lately) (o : OpData)
    → IsBook h have own cells counts places groups last earlier → IsNext h o
    → ((s : ℕ) → counts' s ≡ counted (member_of o) (cells_put o) s (counts s))
    → ((s : ℕ) → places' s ≡ placed (member_of o) (length h) s (places s)) → (AreGroups h groups → AreGroups (h ++ o ∷ []) groups')
    → IfSome new (IsLately (h ++ o ∷ []))
    → length h + 1 < 4294967296 → all_cells h + cells_put o < 4294967296 → own' ≡ true
    → IsBook (h ++ o ∷ []) (raised have (member_of o)) own' (cells + cells_put o) counts' places'
    groups' new last
book_push h have own own' cells counts counts' places places' groups groups' last earlier new o book next more further noted known short
    few still =
    let w = complete h book.valid in
    record {
      valid = valid_push h o book.valid next;
      members = ap (λ (c : ContextData). raised c (member_of o)) book.members ∙ sym (context_push h o);
      in_place = λ some. still;
      cells = omega (arith, book.cells, all_cells_push h o);
      tallies = tallies_push h o w next counts counts' book.tallies more;
      placed = placed_push h o w next places places' book.placed further;
      groups = noted book.groups;
      lately = known;
      before = lately_on h o w next last book.lately;
      short = simp length-append (omega arith);
      few = omega (arith, few, all_cells_push h o);
    }

-- a book without its last operation
pub book_pop : (h : List OpData) (have : ContextData) (own own' : Bool) (cells cells' : ℕ)
    (counts counts' places places' : ℕ → List ℕ) (groups groups' : List (Member × ℕ)) (last earlier : Option Lately) (o : OpData)
    → IsBook (h ++ o ∷ []) have own cells counts places groups last earlier → own' ≡ true
    → cells ≡ cells' + cells_put o
    → ((s : ℕ) → counts' s ≡ without_last (member_of o) s (counts s)) → ((s : ℕ) → places' s ≡ without_last (member_of o) s (places s))
    → (AreGroups (h ++ o ∷ []) groups → AreGroups h groups')
    → IsBook h (context_of_all h) own' cells' counts' places' groups' None None
book_pop h have own own' cells cells' counts counts' places places' groups groups' last earlier o book still one_less less fewer
    forgot =
    let parts = valid_pop h o book.valid in
    let w = complete h parts.0 in
    let short : length h + 1 < 4294967296 = simp length-append at book.short in
    record {
      valid = parts.0;
      members = refl;
      in_place = λ some. still;
      cells = omega (arith, book.cells, one_less, all_cells_push h o);
      tallies = tallies_pop h o w parts.1 counts counts' book.tallies less;
      placed = placed_pop h o w parts.1 places places' book.placed fewer;
      groups = forgot book.groups;
      lately = tt;
      before = tt;
      short = omega arith;
      few = omega (arith, book.few, all_cells_push h o);
    }
