-- What holds of a value that a call changed, or left as it was, by its answer.
use Rattle.std.proofs.Common.{◌≡◌, sym, subst}
use Rattle.std.specs.Prelude.{OnOk, OnErr, Result, Ok, Err}

-- what holds of a value as it was, and of that which it was to become, holds of the one that is there
pub changed_or_kept : {T E L : Type 0} (P : L → Type 0) (r : Result T E) (old new more : L)
    → OnOk r (new ≡ more) → OnErr r (new ≡ old) → P more → P old → P new
changed_or_kept P (Ok x) old new more changed kept are_more are = subst P (sym changed) are_more
changed_or_kept P (Err e) old new more changed kept are_more are = subst P (sym kept) are
