-- The shown cells of a text are those that its history shows.
use Rattle.std.proofs.Common.{◌≡◌, ◌<◌, ◌↔◌, ℕ, inl, inr, List, Option, None, IsSome, is_some, length, option_map, sym, ap, ◌∙◌, true≢false}
use Rattle.std.proofs.lemmas.Option.{slice_get-map, slice_get_cases}
use Rattle.std.specs.Prelude.{slice_get}
use Rattle.context_diff.specs.Operations.{OpData}
use Rattle.context_diff.specs.Replays.{Cell, shown}
use Rattle.ttf_form.specs.Cells.{CellData, cell_key}
use Rattle.visible_view.specs.View.{shown_cells}
use Rattle.fixed_replay.specs.Replayed.{IsReplayed}
use Rattle.fixed_replay.proofs.CallerLemmas.{replayed_shown}

-- the v-th shown cell is the one that the history shows there
pub shown_at : (h : List OpData) (cs : List CellData) (v : ℕ) → IsReplayed h cs
    → option_map cell_key (slice_get (shown_cells cs) v) ≡ slice_get (shown h) v
shown_at h cs v is =
    sym (slice_get-map cell_key (shown_cells cs) v) ∙ ap (λ (ds : List Cell). slice_get ds v) (replayed_shown h cs is)

-- past the last one there is none
pub none_at : (cs : List CellData) (v : ℕ) (o : Option ℕ) → IsSome o ↔ (v < length (shown_cells cs)) → o ≡ None
    → None ≡ option_map cell_key (slice_get (shown_cells cs) v)
none_at cs v o found none = elim (slice_get_cases (shown_cells cs) v).1 [
  | inl there ↦ absurd (true≢false (sym (found.1 there.1) ∙ ap (λ (r : Option ℕ). is_some r) none))
  | inr past ↦ sym (ap (λ (r : Option CellData). option_map cell_key r) past.1)
]
