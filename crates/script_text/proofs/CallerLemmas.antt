-- What the proofs of other crates cite of this crate's lemmas.
pub use Rattle.script_text.proofs.FieldLaws.{and_then_some, long_reads, name_reads, number_reads, site_reads, some_is}
pub use Rattle.script_text.proofs.Joins.{lines_in_feed, lines_in_part, size-lines_in, take_past}
pub use Rattle.script_text.proofs.LineLaws.{line_found}
pub use Rattle.script_text.proofs.MemberLaws.{member_reads}
pub use Rattle.script_text.proofs.SetLaws.{set_from, set_some, set_to}
pub use Rattle.script_text.proofs.Takings.{either, first_same}
