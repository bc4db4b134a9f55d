-- Families of histories: the members of a history with the base forms of its operations.
use Rattle.std.specs.Prelude.{◌≡◌, List}
use Rattle.op_name.specs.NameData.{NameData}
use Rattle.op_name.specs.declared.member.Member.TheVariants.{Original}
use Rattle.context_vector.specs.Contexts.{has}
use Rattle.context_diff.specs.Operations.{OpData, member_of, context_of}
use Rattle.context_diff.specs.Histories.{members_in}
use Rattle.ttf_form.specs.declared.form.Form.{Form}
use Rattle.ttf_form.specs.Families.{IsIn}
use Rattle.transform_rec.specs.Sets.{SameSet}
use Rattle.transform_rec.specs.Family.{Family}
use Rattle.undo_group.specs.BaseForms.{AreBaseForms}

-- the family has the members of the history in its order and their base forms; an original's base context is the context of
-- its operation
pub record IsFamilyOf (h : List OpData) (b : Family Form) : Type 0 where
  pub members : b.members ≡ members_in h
  pub contexts : (o : OpData) (n : NameData) → IsIn o h → member_of o ≡ Original n → SameSet (b.context (Original n)) (has (context_of o))
  pub forms : AreBaseForms h b.form
