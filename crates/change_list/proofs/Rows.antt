-- What is told of a list of the tests, row by row.
use Rattle.std.proofs.Common.{◌≡◌, ℕ, ◌+◌, ◌<◌, ◌≤◌, Bool, true, false, not, List, [], ◌∷◌, ◌++◌, length, take, get_or, refl, ap, ◌∙◌, arith}
use Rattle.std.proofs.lemmas.List.{take_more, map-append, length-map, length-take-le}
use Rattle.std.proofs.Math.Bool.{beq}
use Rattle.ttf_form.specs.declared.include.TheConstants.{CELLS}
use Rattle.change_list.specs.Told.{Marked, after, told_at, told, HasRoom}
use Rattle.change_list.specs.Code.Rows.{mark_of, marks_of}
use Rattle.change_list.proofs.CallerLemmas.{told_same, told_turned, shown_more, room_to_tell}

-- the first rows, with one more
pub marks_more : (ps : List (Bool × Bool)) (i : ℕ) → i < length ps
    → marks_of (take (i + 1) ps) ≡ marks_of (take i ps) ++ mark_of (get_or ps i (false, false)) ∷ []
marks_more ps i lt = ap marks_of (take_more ps i (false, false) lt) ∙ map-append mark_of (take i ps) (get_or ps i (false, false) ∷ [])

-- a row that came in or was taken away is told of, and no other
pub row_turned : (ms : List (Marked ℕ)) (was is : Bool) → not (beq was is) ≡ true
    → told (ms ++ mark_of (was, is) ∷ []) ≡ told_at (length (after ms)) is (told ms)
row_turned ms true true e = cc
row_turned ms true false e = told_turned ms 0 false
row_turned ms false true e = told_turned ms 0 true
row_turned ms false false e = cc

pub row_same : (ms : List (Marked ℕ)) (was is : Bool) → not (beq was is) ≡ false → told (ms ++ mark_of (was, is) ∷ []) ≡ told ms
row_same ms true true e = told_same ms (mark_of (true, true)) refl
row_same ms true false e = cc
row_same ms false true e = cc
row_same ms false false e = told_same ms (mark_of (false, false)) refl

-- one row more can be told of
pub row_room : (ps : List (Bool × Bool)) (i : ℕ) → i < length ps → length ps ≤ CELLS
    → HasRoom (length (after (marks_of (take i ps)))) (told (marks_of (take i ps)))
row_room ps i lt few =
    let long = length-map (take i ps) mark_of in
    let front = length-take-le i ps (omega (arith, lt)) in
    room_to_tell (marks_of (take i ps)) (omega (arith, long, front, lt, few))

-- how many are shown, with one row more
pub row_shown : (ms : List (Marked ℕ)) (was : Bool) → length (after (ms ++ mark_of (was, true) ∷ [])) ≡ length (after ms) + 1
row_shown ms was = shown_more ms (mark_of (was, true))

pub row_hidden : (ms : List (Marked ℕ)) (was : Bool) → length (after (ms ++ mark_of (was, false) ∷ [])) ≡ length (after ms)
row_hidden ms was = shown_more ms (mark_of (was, false))
