-- What the proofs of other crates cite of this crate's lemmas.
pub use Rattle.visible_view.proofs.ShownText.{flagged_next, flagged_shown, flat_more, front_stays, joined_more, on_err}
