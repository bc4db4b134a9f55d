-- Runs of inserts: that of no text goes to its end, and none makes more operations than a text has pieces.
use Rattle.std.proofs.Common.{◌≡◌, ℕ, suc, ◌+◌, ◌≤◌, List, [], ◌∷◌, length, refl, ap, arith, ◌∙◌}
use Rattle.std.specs.Prelude.{⊤, Result, Ok, Err}
use Rattle.participant.specs.declared.edits.Edit.{Edit}
use Rattle.participant.specs.declared.edits.Edit.TheVariants.{Insert}
use Rattle.participant.specs.declared.edits.Stopped.{Stopped}
use Rattle.participant.specs.declared.edits.Stopped.TheVariants as stopped
use Rattle.participant.specs.declared.runs.Run.{Run}
use Rattle.participant.specs.Reached.{Reached}
use Rattle.participant.specs.Runs.{Progress, begun, cut, pieces, puts, runs, StopsAt, Runs, IsRun}
use Rattle.participant.proofs.CallerLemmas.{by_pieces}

puts_count : (v : ℕ) (ps : List (List ℕ)) → length (puts v ps) ≡ length ps
unfolding puts
puts_count v [] = refl
puts_count v (p ∷ ps) = ap suc (puts_count (v + length p) ps)

-- an edit at which a run stops makes one operation at most
stop_counts : (e : Edit) (p q : Progress) (end : Result ⊤ Stopped) → StopsAt e p end q → q.made ≤ p.made + 1
stop_counts e p q (Ok u) stop = absurd stop
stop_counts e p q (Err (stopped.Refused why)) stop = omega (arith, ap (λ (x : Progress). x.made) stop.2)
stop_counts e p q (Err stopped.Unsettled) stop = omega (arith, stop.1)

made_few : (v : ℕ) (ps : List (List ℕ)) (p : Progress) (end : Result ⊤ Stopped) (q : Progress)
    → Runs (puts v ps) p end q → q.made ≤ p.made + length (puts v ps)
made_few = by_pieces (λ es p end q. q.made ≤ p.made + length es)
    (λ p. omega arith)
    (λ v text es p o end q is rest. omega (arith, rest))
    (λ v text es p end q stop. omega (arith, stop_counts (Insert v text) p q end stop))

pub made_within : (v : ℕ) (text : List ℕ) (a b : Reached) (r : Run) → IsRun (runs v text) a r b → r.made ≤ length (pieces text)
made_within v text a b r run =
    omega (arith, made_few v (pieces text) (begun a) r.end (record { reached = b; made = r.made }) run, puts_count v (pieces text))

ends_of_none : (v : ℕ) (ps : List (List ℕ)) (p : Progress) (end : Result ⊤ Stopped) (q : Progress)
    → Runs (puts v ps) p end q → length (puts v ps) ≡ 0 → end ≡ Ok tt
ends_of_none = by_pieces (λ es p end q. length es ≡ 0 → end ≡ Ok tt)
    (λ p none. refl)
    (λ v text es p o end q is rest none. absurd (omega (arith, none)))
    (λ v text es p end q stop none. absurd (omega (arith, none)))

no_piece : (text : List ℕ) → text ≡ [] → length (pieces text) ≡ 0
unfolding pieces cut
no_piece text none = ap (λ (cs : List ℕ). length (pieces cs)) none

-- a text without characters is done, whatever the memory
pub nothing_run : (v : ℕ) (text : List ℕ) (a b : Reached) (r : Run) → text ≡ [] → IsRun (runs v text) a r b → r.end ≡ Ok tt
nothing_run v text a b r none run =
    ends_of_none v (pieces text) (begun a) r.end (record { reached = b; made = r.made }) run
    (puts_count v (pieces text) ∙ no_piece text none)
