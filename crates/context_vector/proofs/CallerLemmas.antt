-- What the proofs of other crates cite of this crate's lemmas.
pub use Rattle.context_vector.proofs.Entries.{entry_at_most, length_at_most}
pub use Rattle.context_vector.proofs.Members.{count_put, entry_put, has_lowered, has_raised, lowered_is_context, raised_is_context, size_of}
pub use Rattle.context_vector.proofs.Reading.{read_all, read_first, read_more}
pub use Rattle.context_vector.proofs.Sets.{group_entered, has_empty, has_group, has_original, missing_not_within, none_missing, original_counted, rank_less, same_context, short_group, short_original}
