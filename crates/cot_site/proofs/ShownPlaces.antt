-- How many places a text has: there is one for each shown cell, and there is one more for a text after so many of them.
use Rattle.std.proofs.Common.{◌≡◌, ℕ, suc, ◌<◌, ◌≤◌, List, ◌∷◌, length, map, arith}
use Rattle.std.specs.Prelude.{Some, slice_get}
use Rattle.std.proofs.lemmas.List.{length-map}
use Rattle.std.proofs.lemmas.Option.{slice_get_within}
use Rattle.context_diff.specs.Operations.{OpData}
use Rattle.context_diff.specs.Histories.{all_cells}
use Rattle.context_diff.specs.Replays.{replay_of, is_shown}
use Rattle.visible_view.specs.View.{places_after}
use Rattle.cot_site.specs.Views.{shown_places_of}
use Rattle.cot_site.specs.Commands.{place_behind}
use Rattle.cot_site.proofs.LocalOps.{cells_counted, range_was}
use Rattle.cot_site.proofs.Views.{places_few}

pub shown_few : (h : List OpData) → length (shown_places_of h) ≤ all_cells h
shown_few h = omega (arith, places_few (is_shown h) 0 (replay_of h), cells_counted h)

-- a place after so many shown characters is there for at most as many as there are cells
pub behind_few : (h : List OpData) (v p : ℕ) → place_behind h v ≡ Some p → v ≤ all_cells h
behind_few h v p at =
    let places = shown_places_of h in
    let there = range_was (slice_get (places_after places) v) p at in
    let within : v < suc (length (map suc places)) = slice_get_within (0 ∷ map suc places) v p there.0 in
    omega (arith, within, length-map places suc, shown_few h)
