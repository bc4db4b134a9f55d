-- What the proofs of other crates cite of this crate's lemmas.
pub use Rattle.context_diff.proofs.Agreeing.{agree_back, agree_itself, next_elsewhere, same_by_members}
pub use Rattle.context_diff.proofs.BaseValues.{base_value}
pub use Rattle.context_diff.proofs.Books.{covered_ready}
pub use Rattle.context_diff.proofs.ClosedSets.{IsClosedSet, base_closed, base_group, base_itself, base_listed, base_original, base_stray, below_group, closed_context, closed_set, group_has_target, holds_original, in_group_below, in_original}
pub use Rattle.context_diff.proofs.Complete.{IsComplete, closed_on, complete, context_push, next_member}
pub use Rattle.context_diff.proofs.Covering.{all_covered, covered_below, named_known, not_covered}
pub use Rattle.context_diff.proofs.Differences.{lowered_by}
pub use Rattle.context_diff.proofs.Equal.{derived_op, op_eq_decides, op_same}
pub use Rattle.context_diff.proofs.FewEntries.{named_few}
pub use Rattle.context_diff.proofs.GapEnds.{gap_ends, narrow_left, narrow_right}
pub use Rattle.context_diff.proofs.Generations.{generation_is}
pub use Rattle.context_diff.proofs.Histories.{context_is, group_facts, original_facts, own_alone, own_earlier, related}
pub use Rattle.context_diff.proofs.Known.{contains_cases, contains_here, contains_later, contains_none, holder, in_known, known_append, known_in, known_member, known_on, known_push, original_holder}
pub use Rattle.context_diff.proofs.Members.{all_is_context, formed_member, members-append, named_original, original_name, raised_by}
pub use Rattle.context_diff.proofs.Names.{member_itself, member_same}
pub use Rattle.context_diff.proofs.Next.{have_known, lacks_first, ready_covered}
pub use Rattle.context_diff.proofs.Order.{base_on, known_end, members_apart, not_later}
pub use Rattle.context_diff.proofs.Placing.{not_past}
pub use Rattle.context_diff.proofs.Raising.{has_generation, has_group, has_number, has_original, has_raised}
pub use Rattle.context_diff.proofs.Replaying.{map_insert, put_at_end, put_is_insert}
pub use Rattle.context_diff.proofs.Valid.{by_pushes, shifted, valid_parts, valid_pop, valid_push}
pub use Rattle.context_diff.proofs.WorkedCases.{after, after_undos, name}
