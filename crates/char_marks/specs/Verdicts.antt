-- Verdicts on marks that others made: the first case that holds.
use Rattle.std.specs.Prelude.{◌≡◌, ◌+◌, ◌<◌, ◌≤◌, List, Some, None}
use Rattle.context_diff.specs.Operations.{OpData}
use Rattle.context_diff.specs.Histories.{LacksNothing, LacksFirst, IsClosed, cells_in}
use Rattle.context_diff.specs.Books.{IsFirstOpenSite}
use Rattle.char_marks.specs.declared.taking.MarkVerdict.{MarkVerdict}
use Rattle.char_marks.specs.declared.taking.MarkVerdict.TheVariants.{Repeat, Forged, Waits, NotClosed, SpanOut, Kept}
use Rattle.char_marks.specs.Marks.{MarkData, KeptData, MarksData, mark_named}
use Rattle.char_marks.specs.Offers.{IsTaking}

-- another mark of its name is kept
pub record HasOther (ks : List KeptData) (m : MarkData) : Type 0 where
  pub other : MarkData
  pub there : mark_named ks m.name ≡ Some other
  pub differs : ¬ (other ≡ m)

-- none of its name is kept
abbrev pub IsNew : List KeptData → MarkData → Type 0
IsNew ks m = mark_named ks m.name ≡ None

-- each verdict with what it says: an equal mark is kept; another of its name is; the first member of its context that the history
-- lacks; the least site of whose originals the context has one, but not all that this was made after; the number of cells in the
-- context, where the mark goes past them
abbrev pub IsMarkVerdict : List OpData → List KeptData → MarkData → MarkVerdict → Type 0
IsMarkVerdict h ks m Repeat = mark_named ks m.name ≡ Some m
IsMarkVerdict h ks m (Forged n) = (n ≡ m.name) × HasOther ks m
IsMarkVerdict h ks m (Waits x) = IsNew ks m × LacksFirst h m.context x
IsMarkVerdict h ks m (NotClosed s) = IsNew ks m × LacksNothing h m.context × IsFirstOpenSite h m.context s
IsMarkVerdict h ks m (SpanOut k) =
    IsNew ks m × LacksNothing h m.context × IsClosed h m.context × (k ≡ cells_in h m.context) × (k < m.place + m.len)
IsMarkVerdict h ks m Kept = IsNew ks m × LacksNothing h m.context × IsClosed h m.context × (m.place + m.len ≤ cells_in h m.context)

-- what the verdict makes of the marks: Kept adds the mark, any other changes nothing
abbrev pub AfterVerdict : MarkVerdict → MarkData → MarksData → MarksData → Type 0
AfterVerdict Repeat m s t = t ≡ s
AfterVerdict (Forged n) m s t = t ≡ s
AfterVerdict (Waits x) m s t = t ≡ s
AfterVerdict (NotClosed k) m s t = t ≡ s
AfterVerdict (SpanOut k) m s t = t ≡ s
AfterVerdict Kept m s t = IsTaking m s t
