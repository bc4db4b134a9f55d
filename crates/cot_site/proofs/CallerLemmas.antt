-- What the proofs of other crates cite of this crate's lemmas.
pub use Rattle.cot_site.proofs.Cases.{same_any}
pub use Rattle.cot_site.proofs.FormLists.{computed_lists, computed_of, lists_show}
pub use Rattle.cot_site.proofs.Lacking.{first_lacked_is}
pub use Rattle.cot_site.proofs.LocalOps.{all_closed, all_ready, all_stray, behind_named, cells_counted, cells_few, in_context_made, in_context_ok, local_delete_next, local_insert_next, local_redo_next, local_run_next, local_undo_next, numbered_ok, shown_named}
pub use Rattle.cot_site.proofs.Releases.{settled_none}
pub use Rattle.cot_site.proofs.Settling.{after_append, after_more, after_none, delivered_number, later_on, release_number, settled_has_none, settled_settles, settled_stays, sound_along, sound_delivered, sound_more, sound_released, verdict_history}
pub use Rattle.cot_site.proofs.ShownPlaces.{behind_few}
pub use Rattle.cot_site.proofs.Verdicts.{formed_context, group_reached, integrated_next, new_unknown, next_integrated, unknown_no_repeat, verdict_only, verdicts_exact}
pub use Rattle.cot_site.proofs.Views.{places_are, shown_count}
pub use Rattle.cot_site.proofs.Waiting.{formed_at, got_there, held_formed}
