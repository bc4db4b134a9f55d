-- Marks and undos of marks that others offer, in any order.
use Rattle.std.specs.Prelude.{◌≡◌, ℕ, ◌≤◌, ◌⊎◌, ◌↔◌, List, [], ◌∷◌, None}
use Rattle.op_name.specs.NameData.{NameData, IsName}
use Rattle.op_name.specs.declared.member.TheConstants.{GENERATIONS}
use Rattle.ttf_form.specs.Families.{IsIn}
use Rattle.char_marks.specs.Marks.{MarkData, KeptData, MarksData, put_kept, mark_named, with_lifted}
use Rattle.char_marks.specs.Values.{marks_of}

-- a mark that may be kept; or a generation to which a name is to be lifted, whether its mark is kept or not
pub data Offer : Type 0 where
  taking : MarkData → Offer
  flipping : NameData → ℕ → Offer

-- the mark was kept, with these end cells, where none of its name was
pub record IsTaking (m : MarkData) (s t : MarksData) : Type 0 where
  pub kept : KeptData
  pub mark : kept.mark ≡ m
  pub new : mark_named s.kept m.name ≡ None
  pub after : t ≡ record { kept = put_kept kept s.kept; raised = s.raised }

-- what an offer may do: a mark is kept, or it isn't, and nothing changes; a generation is lifted
abbrev pub IsStep : Offer → MarksData → MarksData → Type 0
IsStep (taking m) s t = IsTaking m s t ⊎ (t ≡ s)
IsStep (flipping n g) s t = t ≡ with_lifted n g s

-- these offers one after the other lead from the one state to the other
abbrev pub IsRun : List Offer → MarksData → MarksData → Type 0
IsRun [] s t = t ≡ s
IsRun (o ∷ os) s t = (u : MarksData) × IsStep o s u × IsRun os u t

-- a generation is in its range, and the name in its ranges
abbrev pub IsOffer : Offer → Type 0
IsOffer (taking m) = Unit {0}
IsOffer (flipping n g) = IsName n.site n.number × (g ≤ GENERATIONS)

-- each mark that was offered is kept in the end
abbrev pub AreTaken : List Offer → MarksData → Type 0
AreTaken os t = (m : MarkData) → IsIn (taking m) os → IsIn m (marks_of t.kept)

-- the same offers, in whatever order and however often
abbrev pub SameOffers : List Offer → List Offer → Type 0
SameOffers os ps = (o : Offer) → IsIn o os ↔ IsIn o ps
