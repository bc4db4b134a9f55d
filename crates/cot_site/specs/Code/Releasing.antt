-- One release on the way to the settled state.
use Rattle.std.specs.Prelude.{◌≡◌, Bool, true, false, List, [], ◌∷◌, ◌++◌, Some, None}
use Rattle.site_answers.specs.declared.release.Release.{Release}
use Rattle.cot_site.specs.States.{State, Released, released}
use Rattle.cot_site.specs.Releases.{release_of}

-- one release, if an operation was ready, listed at the end; or none, and nothing changed
abbrev pub IsReleasedInto : State → State → List Release → List Release → Bool → Type 0
IsReleasedInto s now old new true = (r : Released) × (released s ≡ Some r) × (now ≡ r.after) × (new ≡ old ++ release_of r ∷ [])
IsReleasedInto s now old new false = (released s ≡ None) × (now ≡ s) × (new ≡ old)
