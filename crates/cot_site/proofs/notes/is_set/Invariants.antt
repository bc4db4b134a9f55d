use Rattle.std.specs.Prelude.{ℕ, ◌<◌}
use Rattle.cot_site.specs.Code.Notes.{set_at, AgreeAt}
use Rattle.cot_site.proofs.notes.is_set.Given as goal

-- the two agree at each place before this one
abbrev pub invariant-loop-place : goal.invariant-loop-place
invariant-loop-place l = (i : ℕ) → i < l.place → AgreeAt l.book.ops l.members.set (set_at l.book.ops l.at) i
