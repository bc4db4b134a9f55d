-- Operations as a host reads them.
use Rattle.std.specs.Prelude.{ℕ, List, [], ◌∷◌, length, encode_utf8_all, if◌then◌else◌}
use Rattle.op_name.specs.NameData.{NameData}
use Rattle.op_name.specs.declared.member.Member.{Member}
use Rattle.op_name.specs.declared.member.Member.TheVariants.{Original, Group}
use Rattle.op_name.specs.Members.{is_even}
use Rattle.context_diff.specs.Operations.{OpData, inserting, deleting, undoing}
use Rattle.cotpad_c.specs.declared.kinds.TheConstants.{INSERT, DELETE, UNDO, REDO}
use Rattle.cotpad_c.specs.declared.operation.CotpadMember.{CotpadMember}
use Rattle.cotpad_c.specs.declared.operation.CotpadOperation.{CotpadOperation}

-- no member is told
abbrev pub no_member : CotpadMember
no_member = record { site = 0; number = 0; generation = 0 }

-- no operation is told
abbrev pub no_operation : CotpadOperation
no_operation = record { kind = 0; author = 0; scalar = 0; characters = 0; member = no_member }

-- an original has generation 0, which no undo has
abbrev pub member_told : Member → CotpadMember
member_told (Original n) = record { site = n.site; number = n.number; generation = 0 }
member_told (Group n g) = record { site = n.site; number = n.number; generation = g }

-- an insert or a delete
abbrev pub original_told : NameData → CotpadMember
original_told n = member_told (Original n)

-- a site, and no name of it: numbers begin with 1
abbrev pub site_told : ℕ → CotpadMember
site_told s = record { site = s; number = 0; generation = 0 }

-- undos have the odd generations, redos the even ones
abbrev pub turn_kind : ℕ → ℕ
turn_kind g = if is_even g then REDO else UNDO

-- the first character of a text
abbrev pub first_of : List ℕ → ℕ
first_of [] = 0
first_of (ch ∷ chs) = ch

-- what an operation is, who made it, of an insert the first character and how many there are, and the member that it is
abbrev pub operation_told : OpData → CotpadOperation
operation_told (inserting n p text c) =
    record { kind = INSERT; author = n.site; scalar = first_of text; characters = length text; member = member_told (Original n) }
operation_told (deleting n p c) = record { kind = DELETE; author = n.site; scalar = 0; characters = 0; member = member_told (Original n) }
operation_told (undoing a t g c) = record { kind = turn_kind g; author = a; scalar = 0; characters = 0; member = member_told (Group t g) }

-- the text of an insert in UTF-8 (RFC 3629); other operations have none
abbrev pub text_told : OpData → List ℕ
text_told (inserting n p text c) = encode_utf8_all text
text_told (deleting n p c) = []
text_told (undoing a t g c) = []
