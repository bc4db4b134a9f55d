-- What a context has after it was raised.
pub use Rattle.context_vector.proofs.CallerLemmas.{has_empty, count_put, entry_put, has_raised, has_original, has_group, original_counted as has_number, group_entered as has_generation}
