-- Operations of a list and the members that they are.
use Rattle.std.proofs.Common.{◌≡◌, List, [], ◌∷◌, inl, inr, ap, sym, ◌∙◌}
use Rattle.context_diff.specs.Operations.{OpData, member_of}
use Rattle.context_diff.specs.Histories.{members_in}
use Rattle.ttf_form.specs.Families.{IsIn}
use Rattle.transform_rec.specs.Lists.{AreApart}
pub use Rattle.undo_group.specs.Laws.Members.{member_listed, listed_member, known_as}

-- where no member stands twice, a member is one operation
pub one_operation : (h : List OpData) → AreApart (members_in h) → (o p : OpData) → IsIn o h → IsIn p h → member_of o ≡ member_of p → o ≡ p
one_operation [] a o p i j e = absurd i
one_operation (q ∷ qs) a o p (inl k) (inl l) e = k ∙ sym l
one_operation (q ∷ qs) a o p (inl k) (inr j) e = absurd (a.0 (member_of p) (member_listed p qs j) (ap member_of (sym k) ∙ e))
one_operation (q ∷ qs) a o p (inr i) (inl l) e = absurd (a.0 (member_of o) (member_listed o qs i) (ap member_of (sym l) ∙ sym e))
one_operation (q ∷ qs) a o p (inr i) (inr j) e = one_operation qs a.1 o p i j e
