-- How names and members are spelled.
use Rattle.std.specs.Prelude.{ℕ, List, ◌∷◌, ◌++◌, decimal, codes}
use Rattle.op_name.specs.NameData.{NameData}
use Rattle.op_name.specs.declared.member.Member.{Member}
use Rattle.op_name.specs.declared.member.Member.TheVariants.{Original, Group}

-- `S.N`
abbrev pub name_text : NameData → List ℕ
name_text n = decimal n.site ++ 46 ∷ decimal n.number

-- `S.N/G`
abbrev pub group_text : NameData → ℕ → List ℕ
group_text n g = decimal n.site ++ (codes "." ++ (decimal n.number ++ (codes "/" ++ decimal g)))

-- `S.N` for an original, `S.N/G` for a group
abbrev pub member_text : Member → List ℕ
member_text (Original n) = name_text n
member_text (Group n g) = group_text n g
