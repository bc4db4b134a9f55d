-- What the proofs of other crates cite of this crate's lemmas.
pub use Rattle.transform_rec.proofs.CausalLists.{causal_closed, causal_listed, causal_parts}
pub use Rattle.transform_rec.proofs.CausalOrders.{book_run, sorted_run}
pub use Rattle.transform_rec.proofs.Computed.{computed_forms}
pub use Rattle.transform_rec.proofs.Counting.{EachAt, IsRising, count, either}
pub use Rattle.transform_rec.proofs.Executing.{At, Forms, IsForm, Run, addable_fits, added_owner, derived_added, empty_state, forms-append, forms_begin, forms_once, forms_run, run, run_append, run_closed, run_forms, run_listed, state_after}
pub use Rattle.transform_rec.proofs.Families.{base_sound, closed_meet, closed_plus, none_closed}
pub use Rattle.transform_rec.proofs.Forms.{computed_list, derived_extent, derived_moves, derived_room, derived_sound, exists, form_moves, form_step, forms_apart}
pub use Rattle.transform_rec.proofs.Histories.{added_next, history_causal, known_generation, sound_added}
pub use Rattle.transform_rec.proofs.Keeping.{forms_used, found_form, next_keeps, no_entries}
pub use Rattle.transform_rec.proofs.Lists.{count-append, filter-append, filter_all, filter_in, filter_keeps, filter_same, in_cases, in_filter, in_left, in_right, length-count}
pub use Rattle.transform_rec.proofs.Order.{any_order}
pub use Rattle.transform_rec.proofs.Parts.{before_cell, one_more, part_run, part_state, rest_run, restricted}
pub use Rattle.transform_rec.proofs.Sets.{all-append, all_cases, all_in, all_keeps, all_same, lacks_from, plus_both, plus_cases, plus_here, plus_keeps, plus_other, plus_parts, plus_same, plus_swap, plus_within, same_from, same_set}
pub use Rattle.transform_rec.proofs.Turns.{difference_in, difference_run, difference_whole}
pub use Rattle.transform_rec.proofs.Uniqueness.{derived_once}
