-- The laws of marks.
use Rattle.std.specs.Prelude.{◌≡◌, ◌↔◌, List, [], ◌++◌, Some, None, length}
use Rattle.context_vector.specs.Contexts.{AreEntries}
use Rattle.context_diff.specs.Operations.{OpData}
use Rattle.context_diff.specs.Histories.{IsValid, Same, cells_in}
use Rattle.context_diff.specs.ClosedContexts.{IsClosedContext}
use Rattle.context_diff.specs.Replays.{Cell}
use Rattle.ttf_form.specs.Families.{IsIn}
use Rattle.char_marks.specs.Marks.{MarkData, KeptData, MarksData, AreRising}
use Rattle.char_marks.specs.Covered.{seen_in, covered, AreFit}
use Rattle.char_marks.specs.Values.{last_of, IsLast, marks_of, values_of}
use Rattle.char_marks.specs.Offers.{Offer, IsRun, IsOffer, AreTaken, SameOffers}

-- a mark's cells stay what they were when the history grows
abbrev pub CoveredCellsStay : Type 0
CoveredCellsStay =
    (h l : List OpData) (m : MarkData)
    → IsValid (h ++ l)
    → IsClosedContext h m.context
    → IsClosedContext (h ++ l) m.context × (covered (h ++ l) m ≡ covered h m)

-- so marks that fit a history fit it when it grows
abbrev pub FitMarksStayFit : Type 0
FitMarksStayFit = (h l : List OpData) (ks : List KeptData) → IsValid (h ++ l) → AreFit h ks → AreFit (h ++ l) ks

-- no mark fits any history
abbrev pub NoMarksFit : Type 0
NoMarksFit = (h : List OpData) → AreFit h []

-- the last of marks of different names is the one that none of them comes after; there is one unless there is no mark
abbrev pub LastMarkIsLast : Type 0
LastMarkIsLast = (ms : List MarkData) (m : MarkData) → last_of ms ≡ Some m → IsLast ms m

abbrev pub NoMarkNoLast : Type 0
NoMarkNoLast = (ms : List MarkData) → last_of ms ≡ None ↔ (ms ≡ [])

-- histories with the same operations give one value to each cell
abbrev pub SameOperationsSameValues : Type 0
SameOperationsSameValues =
    (h k : List OpData) (s : MarksData) (c : Cell)
    → IsValid h
    → IsValid k
    → Same h k
    → values_of h s c ≡ values_of k s c

-- the cells that a closed context sees are as many as its inserts put
abbrev pub SeenCellsAreCounted : Type 0
SeenCellsAreCounted =
    (h : List OpData) (m : MarkData)
    → length (seen_in h m.context) ≡ cells_in h m.context

-- from one state all orders of the same offers in which each mark is kept in the end lead to the same marks and generations
abbrev pub AnyOrderIsOne : Type 0
AnyOrderIsOne =
    (s t u : MarksData) (os ps : List Offer)
    → AreRising s.kept
    → AreEntries s.raised
    → ((o : Offer) → IsIn o os → IsOffer o)
    → SameOffers os ps
    → IsRun os s t
    → IsRun ps s u
    → AreTaken os t
    → AreTaken ps u
    → (marks_of t.kept ≡ marks_of u.kept) × (t.raised ≡ u.raised)
