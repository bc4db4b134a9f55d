-- Runs of edits, one after the other, each with the releases after it.
use Rattle.std.specs.Prelude.{⊤, ◌≡◌, ◌⊎◌, ℕ, zero, suc, ◌+◌, max, Bool, true, false, List, [], ◌∷◌, map, reverse, Option, Some, None, Result, Ok, Err, if◌then◌else◌, length, take, drop}
use Rattle.op_name.specs.NameData.{NameData}
use Rattle.context_diff.specs.Operations.{OpData}
use Rattle.op_name.specs.declared.limits.TheConstants.{LETTERS}
use Rattle.site_answers.specs.declared.local.Local.{Local}
use Rattle.site_answers.specs.declared.local.Local.TheVariants as local
use Rattle.site_answers.specs.declared.release.Release.{Release}
use Rattle.cot_site.specs.Sites.{SiteData}
use Rattle.cot_site.specs.Commands.{IsAnswer}
use Rattle.participant.specs.declared.edits.Edit.{Edit}
use Rattle.participant.specs.declared.edits.Edit.TheVariants.{Insert, Delete, Undo, Redo}
use Rattle.participant.specs.declared.edits.Stopped.{Stopped}
use Rattle.participant.specs.declared.edits.Stopped.TheVariants.{Refused, Unsettled}
use Rattle.participant.specs.declared.runs.Run.{Run}
use Rattle.participant.specs.Reached.{Reached, at, with_one, all_settled}
use Rattle.participant.specs.Edits.{made_by, IsLeftUnsettled}

-- ---- the edits of a run

-- each character of a text by itself
abbrev pub letters : List ℕ → List (List ℕ)
letters text = map (λ ch. ch ∷ []) text

-- a text is cut from the front into pieces of LETTERS characters and a shorter last one, into at most so many
unfoldable pub cut : ℕ → List ℕ → List (List ℕ)
cut most [] = []
cut zero (ch ∷ cs) = []
cut (suc most) (ch ∷ cs) = take LETTERS (ch ∷ cs) ∷ cut most (drop LETTERS (ch ∷ cs))

-- the pieces of a text, which are no more than its characters: each may be the text of an insert, and a text without characters has none
unfoldable pub pieces : List ℕ → List (List ℕ)
pieces text = cut (length text) text

-- pieces are inserted after so many shown characters, each at the place behind the one before it
unfoldable pub puts : ℕ → List (List ℕ) → List Edit
puts v [] = []
puts v (piece ∷ ps) = Insert v piece ∷ puts (v + length piece) ps

-- a text is inserted, one edit for each character
abbrev pub inserts : ℕ → List ℕ → List Edit
inserts v text = puts v (letters text)

-- a text is inserted, one edit for each of its pieces
abbrev pub runs : ℕ → List ℕ → List Edit
runs v text = puts v (pieces text)

-- so many shown characters are deleted, one after the other, each at this place
unfoldable pub deletes : ℕ → ℕ → List Edit
deletes v zero = []
deletes v (suc n) = Delete v ∷ deletes v n

-- what has these names is undone, the last of them first
abbrev pub undos : List NameData → List Edit
undos ns = map (λ t. Undo t) (reverse ns)

-- what has these names is redone, the last of them first
abbrev pub redos : List NameData → List Edit
redos ns = map (λ t. Redo t) (reverse ns)

-- a range isn't there in whole: nothing is done, and the first place of it is told that isn't there, of a text with so many characters
abbrev pub past_end : ℕ → ℕ → Run
past_end place visible = record { made = 0; end = Err (Refused (local.PlaceOut (max place visible) visible)) }

-- ---- the run

-- how far a run came: what it reached, and how many operations it made
pub record Progress : Type 0 where
  pub reached : Reached
  pub made : ℕ

-- that of a site, with what was released
abbrev pub progress : SiteData → List Release → ℕ → Progress
progress s rs n = record { reached = at s rs; made = n }

-- a run begins
abbrev pub begun : Reached → Progress
begun a = record { reached = a; made = 0 }

-- the reason is that what would be undone is undone already
abbrev pub is_undone : Local → Bool
is_undone (local.PlaceOut v k) = false
is_undone (local.Unknown n) = false
is_undone (local.NotInForce g) = true
is_undone (local.InForce g) = false
is_undone local.GenerationFull = false
is_undone local.NumberFull = false
is_undone (local.ContextFull k) = false
is_undone local.Memory = false

-- the reason is that what would be redone isn't undone
abbrev pub is_in_force : Local → Bool
is_in_force (local.PlaceOut v k) = false
is_in_force (local.Unknown n) = false
is_in_force (local.NotInForce g) = false
is_in_force (local.InForce g) = true
is_in_force local.GenerationFull = false
is_in_force local.NumberFull = false
is_in_force (local.ContextFull k) = false
is_in_force local.Memory = false

-- an edit for which there is no operation, for this reason, is passed over: there is nothing to undo, or nothing to redo
abbrev pub is_passed : Edit → Local → Bool
is_passed (Insert v text) why = false
is_passed (Delete v) why = false
is_passed (Undo t) why = is_undone why
is_passed (Redo t) why = is_in_force why

-- after an edit that the definition answers so: it is made, with the releases after it; or it is passed over; or the run can't go on
abbrev pub after_answer : Edit → Result OpData Local → Progress → Option Progress
after_answer e (Ok o) p = Some (record { reached = all_settled (with_one p.reached o); made = p.made + 1 })
after_answer e (Err why) p = if is_passed e why then Some p else None

-- after an edit, by what its definition answers there
abbrev pub after_edit : Edit → Progress → Option Progress
after_edit e p = after_answer e (made_by e p.reached.state) p

-- a run stops at this edit: no operation was made, for a reason that isn't passed over, and nothing was done for it; or it was made,
-- and memory ran out among the releases after it
abbrev pub StopsAt : Edit → Progress → Result ⊤ Stopped → Progress → Type 0
StopsAt e p (Ok u) q = ⊥
StopsAt e p (Err (Refused why)) q = IsAnswer (made_by e p.reached.state) (Err why) × (is_passed e why ≡ false) × (q ≡ p)
StopsAt e p (Err Unsettled) q = IsLeftUnsettled (made_by e p.reached.state) p.reached q.reached × (q.made ≡ p.made + 1)

-- Run: the edits are gone through, one after the other, to their end or to the first at which the run stops
unfoldable pub Runs : List Edit → Progress → Result ⊤ Stopped → Progress → Type 0
Runs [] p end q = (end ≡ Ok tt) × (q ≡ p)
Runs (e ∷ es) p end q = ((next : Progress) × (after_edit e p ≡ Some next) × Runs es next end q) ⊎ StopsAt e p end q

-- what a call tells of a run that begins and ends there
abbrev pub IsRun : List Edit → Reached → Run → Reached → Type 0
IsRun es a r b = Runs es (begun a) r.end (record { reached = b; made = r.made })
