-- What the proofs of other crates cite of this crate's lemmas.
pub use Rattle.fixed_replay.proofs.Characters.{characters_beside, characters_stay, derived_adds, letters_fit}
pub use Rattle.fixed_replay.proofs.ClosedParts.{part_replay}
pub use Rattle.fixed_replay.proofs.CoverStays.{cover_stays}
pub use Rattle.fixed_replay.proofs.Editor.{derived_cover, form_inclusion, form_table, setting_of}
pub use Rattle.fixed_replay.proofs.Elements.{any_in, in_any, not_both}
pub use Rattle.fixed_replay.proofs.ExecutedForms.{any_list_replayed, computed_executed, executed_replayed, replayed_characters, replayed_chars_beside, replayed_shown, replayed_text}
pub use Rattle.fixed_replay.proofs.Growth.{base_form_on, forms_grow, forms_on, holds_more, known_set}
pub use Rattle.fixed_replay.proofs.Marks.{on_behind, on_stands, same_cell}
pub use Rattle.fixed_replay.proofs.Narrowing.{gap_of_whole}
pub use Rattle.fixed_replay.proofs.SameText.{same_replay, same_text}
pub use Rattle.fixed_replay.proofs.Sorting.{sorted_once}
pub use Rattle.fixed_replay.proofs.Splits.{Split, split}
pub use Rattle.fixed_replay.proofs.ValidFamilies.{valid_family, valid_own_names}
pub use Rattle.fixed_replay.proofs.ValidOriginals.{told_apart}
