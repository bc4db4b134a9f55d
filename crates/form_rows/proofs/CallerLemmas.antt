-- What the proofs of other crates cite of this crate's lemmas.
pub use Rattle.form_rows.proofs.Growing.{firsts_grow, rows_grow, rows_stay}
pub use Rattle.form_rows.proofs.TextForms.{original_base}
pub use Rattle.form_rows.proofs.Thresholds.{noted_more}
