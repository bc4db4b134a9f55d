-- What the proofs of other crates cite of this crate's lemmas.
pub use Rattle.wire_codec.proofs.Appended.{front_of_front, front_on, front_stays, on_err}
pub use Rattle.wire_codec.proofs.ContextJudgement.{context_again, context_bad_stays, context_takes, context_within}
pub use Rattle.wire_codec.proofs.Contexts.{counts_few, counts_most}
pub use Rattle.wire_codec.proofs.Going.{Stays, bind_stays, end_stays, number_stays, tested_stays}
pub use Rattle.wire_codec.proofs.Growth.{bad_stays}
pub use Rattle.wire_codec.proofs.InsertTexts.{AreCharacters, IsLengthOf, characters_reads, insert_kinds, more_reads, one_reads}
pub use Rattle.wire_codec.proofs.Judgement.{frame_once, judge_again, judge_more, judge_takes, judge_within}
pub use Rattle.wire_codec.proofs.Lists.{many_reads}
pub use Rattle.wire_codec.proofs.Needing.{state_bound, state_needs, state_some}
pub use Rattle.wire_codec.proofs.Numbers.{bounded_reads, number_reads, wide16, wide32, wide8}
pub use Rattle.wire_codec.proofs.Pushes.{FollowsCounts, follows_counts, follows_entries, pieces_more}
pub use Rattle.wire_codec.proofs.RunNames.{length-runs}
pub use Rattle.wire_codec.proofs.Sites.{counts_of_two, fits_two}
pub use Rattle.wire_codec.proofs.Sizes.{body_long, body_short, length-context_bytes, state_short}
pub use Rattle.wire_codec.proofs.StateJudgement.{state_again, state_more, state_stays, state_takes, state_within}
pub use Rattle.wire_codec.proofs.Steps.{IsBytes, IsBytes-drop, IsBytes-take, bind_err, bind_ok, cond_err, cond_ok, ok_is, want_err, want_ok}
pub use Rattle.wire_codec.proofs.TwoWays.{Reads, Takes, Takes-ends, Takes-then, bind, end, in_words, mapped, mapped_where, tested_reads}
