-- A range of the history that is turned from its end: what was turned is a range too.
use Rattle.std.proofs.Common.{◌≡◌, ℕ, zero, suc, ◌+◌, ◌-◌, ◌<◌, ◌≤◌, Bool, true, false, List, [], ◌∷◌, ◌++◌, length, map, reverse, take, drop, refl, sym, ap, subst, ◌∙◌, arith}
use Rattle.std.specs.Prelude.{⊤, IsErr, Some, None, Result, Ok, Err, slice_get}
use Rattle.std.proofs.Math.Seq.{take-add}
use Rattle.std.proofs.lemmas.Bool.{false≢true}
use Rattle.std.proofs.lemmas.List.{drop-take, take-take, map-append, reverse-append, drop-drop, take_all}
use Rattle.op_name.specs.NameData.{NameData}
use Rattle.context_diff.specs.Operations.{OpData, inserting, deleting, undoing}
use Rattle.cot_site.specs.Releases.{IsLater}
use Rattle.cot_site.specs.States.{State}
use Rattle.participant.specs.declared.edits.Edit.{Edit}
use Rattle.participant.specs.declared.edits.Edit.TheVariants.{Undo, Redo}
use Rattle.participant.specs.declared.edits.Stopped.{Stopped}
use Rattle.participant.specs.Reached.{Reached}
use Rattle.participant.specs.Runs.{Progress, begun, undos, redos, Runs}
use Rattle.site_ranges.specs.Ranges.{range_of}
use Rattle.site_ranges.specs.Originals.{originals_in, originals_at}
use Rattle.site_ranges.specs.Code.Turns.{turns}
use Rattle.site_ranges.proofs.Composing.{runs_counted, runs_on, runs_stopped, runs_none}

pub originals-append : (os ps : List OpData) → originals_in (os ++ ps) ≡ originals_in os ++ originals_in ps
originals-append [] ps = refl
originals-append (inserting n p text c ∷ os) ps = ap (λ (ns : List NameData). n ∷ ns) (originals-append os ps)
originals-append (deleting n p c ∷ os) ps = ap (λ (ns : List NameData). n ∷ ns) (originals-append os ps)
originals-append (undoing a t g c ∷ os) ps = originals-append os ps

-- the last names are turned first
pub turns-append : (redo : Bool) (ns ms : List NameData) → turns redo (ns ++ ms) ≡ turns redo ms ++ turns redo ns
turns-append true ns ms = ap (map (λ t. Redo t)) (reverse-append ns ms) ∙ map-append (λ t. Redo t) (reverse ms) (reverse ns)
turns-append false ns ms = ap (map (λ t. Undo t)) (reverse-append ns ms) ∙ map-append (λ t. Undo t) (reverse ms) (reverse ns)

-- a range in two
pub range_parts : {A : Type 0} (from n m : ℕ) (xs : List A) → range_of from (n + m) xs ≡ range_of from n xs ++ range_of (from + n) m xs
range_parts {A} from n m xs =
    take-add n m (drop from xs) ∙ ap (λ (ys : List A). take n (drop from xs) ++ take m ys) (drop-drop n from xs)

-- so are its originals, and what is turned of it
pub turns_parts : (redo : Bool) (h : List OpData) (from n m k : ℕ) → n + m ≡ k
    → turns redo (originals_at h from k) ≡ turns redo (originals_at h (from + n) m) ++ turns redo (originals_at h from n)
turns_parts redo h from n m k sum =
    ap (λ (c : ℕ). turns redo (originals_at h from c)) (sym sum)
    ∙ ap (λ (os : List OpData). turns redo (originals_in os)) (range_parts from n m h)
    ∙ ap (turns redo) (originals-append (range_of from n h) (range_of (from + n) m h))
    ∙ turns-append redo (originals_at h from n) (originals_at h (from + n) m)

-- what stands before the end of a list stands there in a longer one
pub range_stays : {A : Type 0} (h k : List A) (from n : ℕ) → take (length h) k ≡ h → from + n ≤ length h
    → range_of from n k ≡ range_of from n h
range_stays {A} h k from n begins within =
    let rest = length h - from in
    let all : from + rest ≡ length h = omega (arith, within) in
    sym (ap (λ (xs : List A). range_of from n xs) (sym begins)
    ∙ ap (λ (l : ℕ). take n (drop from (take l k))) (sym all)
    ∙ ap (take n) (drop-take from rest k)
    ∙ take-take n rest (drop from k) (omega (arith, within)))

-- nothing is turned of no operations
pub nothing_turned : (redo : Bool) (h : List OpData) (from n : ℕ) → n ≡ 0 → turns redo (originals_at h from n) ≡ []
nothing_turned true h from n none = ap (λ (k : ℕ). redos (originals_at h from k)) none
nothing_turned false h from n none = ap (λ (k : ℕ). undos (originals_at h from k)) none

-- the range of one operation
pub range_one : (h : List OpData) (i : ℕ) (o : OpData) → slice_get h i ≡ Some o → range_of i 1 h ≡ o ∷ []
range_one [] i o at = cc
range_one (p ∷ ps) zero o at = let same : p ≡ o = cc in ap (λ (x : OpData). x ∷ []) same
range_one (p ∷ ps) (suc i) o at = range_one ps i o at

pub none_there : (h : List OpData) (i : ℕ) → i < length h → slice_get h i ≡ None → ⊥
none_there [] i lt none = omega (arith, lt)
none_there (p ∷ ps) zero lt none = cc
none_there (p ∷ ps) (suc i) lt none = none_there ps i (omega (arith, lt)) none

-- no names
pub no_turns : (redo : Bool) → turns redo [] ≡ []
no_turns true = refl
no_turns false = refl

pub later_same : (s : State) → IsLater s s
later_same s = record { number = refl; history = take_all (length s.history) s.history (omega arith) }

-- ---- the run over a range, from its end: what is behind an operation was turned, and then that one is

module _ (redo : Bool) (h k : List OpData) (from left count made n : ℕ) (p : Progress) (a b : Reached) (end : Result ⊤ Stopped)
    (begins : take (length h) k ≡ h) (within : from + count ≤ length h) (some : 0 < left) (few : left ≤ count)
    (behind : Runs (turns redo (originals_at h (from + left) (count - left))) p (Ok tt) (record { reached = a; made = made }))
    (one : Runs (turns redo (originals_at k (from + (left - 1)) 1)) (begun a) end (record { reached = b; made = n })) where
  pub turned_one : Runs (turns redo (originals_at h (from + (left - 1)) (count - (left - 1)))) p end
      (record { reached = b; made = made + n })
  turned_one =
      let at = from + (left - 1) in
      let next : at + 1 ≡ from + left = omega (arith, some) in
      let parts =
      turns_parts redo h at 1 (count - left) (count - (left - 1)) (omega (arith, some, few))
      ∙ ap (λ (i : ℕ). turns redo (originals_at h i (count - left)) ++ turns redo (originals_at h at 1)) next in
      let same = ap (λ (os : List OpData). turns redo (originals_in os)) (range_stays h k at 1 begins (omega (arith, within, some, few))) in
      let none : made + 0 ≡ made = omega arith in
      let counted : Runs (turns redo (originals_at h at 1)) (record { reached = a; made = made }) end
      (record { reached = b; made = made + n }) =
      subst (λ (es : List Edit). Runs es (record { reached = a; made = made }) end (record { reached = b; made = made + n })) same
      (subst (λ (m : ℕ). Runs (turns redo (originals_at k at 1)) (record { reached = a; made = m }) end
      (record { reached = b; made = made + n }))
      none (runs_counted made (turns redo (originals_at k at 1)) (begun a) end (record { reached = b; made = n }) one)) in
      subst (λ (es : List Edit). Runs es p end (record { reached = b; made = made + n })) (sym parts)
      (runs_on (turns redo (originals_at h (from + left) (count - left))) (turns redo (originals_at h at 1)) p
      (record { reached = a; made = made }) end (record { reached = b; made = made + n }) behind counted)

-- where it stops, the operations before aren't looked at
pub turned_in_part : (redo : Bool) (h : List OpData) (from left count : ℕ) (p q : Progress) (end : Result ⊤ Stopped) → left ≤ count
    → IsErr end → Runs (turns redo (originals_at h (from + left) (count - left))) p end q
    → Runs (turns redo (originals_at h from count)) p end q
turned_in_part redo h from left count p q (Ok u) few is run = absurd (false≢true is)
turned_in_part redo h from left count p q (Err why) few is run =
    subst (λ (es : List Edit). Runs es p (Err why) q)
    (sym (turns_parts redo h from left (count - left) count (omega (arith, few))))
    (runs_stopped (turns redo (originals_at h (from + left) (count - left))) (turns redo (originals_at h from left)) p why q run)

-- it goes on
pub goes_on : (end : Result ⊤ Stopped) → (IsErr end → ⊥) → end ≡ Ok tt
goes_on (Ok u) not = refl
goes_on (Err why) not = absurd (not refl)

-- nothing is left
pub turned_all : (redo : Bool) (h : List OpData) (from left count : ℕ) (p q : Progress) (end : Result ⊤ Stopped) → left ≡ 0
    → Runs (turns redo (originals_at h (from + left) (count - left))) p end q
    → Runs (turns redo (originals_at h from count)) p end q
turned_all redo h from left count p q end none run =
    let at : from + left ≡ from = omega (arith, none) in
    let all : count - left ≡ count = omega (arith, none) in
    subst (λ (es : List Edit). Runs es p end q) (λ i. turns redo (originals_at h (at i) (all i))) run

-- nothing was turned yet
pub turned_none : (redo : Bool) (h : List OpData) (from n : ℕ) (p : Progress) → n ≡ 0
    → Runs (turns redo (originals_at h from n)) p (Ok tt) p
turned_none redo h from n p none = subst (λ (es : List Edit). Runs es p (Ok tt) p) (sym (nothing_turned redo h from n none)) (runs_none p)
