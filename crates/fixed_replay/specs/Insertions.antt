-- What the members of a family insert, in the order of a list.
use Rattle.std.specs.Prelude.{ℕ, Bool, List, [], ◌∷◌, ◌++◌}
use Rattle.op_name.specs.NameData.{NameData}
use Rattle.op_name.specs.declared.member.Member.{Member}
use Rattle.op_name.specs.declared.member.Member.TheVariants.{Original}
use Rattle.op_name.specs.Members.{target_of}
use Rattle.context_diff.specs.Replays.{Insertion}
use Rattle.ttf_form.specs.declared.form.Form.{Form}
use Rattle.ttf_form.specs.declared.form.Form.TheVariants.{Ins as Insert, Cover as Covered}
use Rattle.ttf_form.specs.Forms.{ins_extent}
use Rattle.transform_rec.specs.Family.{Family}

-- what a form inserts: one insertion or none
abbrev pub inserted_by : Form → ℕ → (NameData → Bool) → List Insertion
inserted_by (Insert a) rank sees = record { name = a.name; place = a.place; len = ins_extent a; rank = rank; sees = sees } ∷ []
inserted_by (Covered c) rank sees = []

-- the insertions of the members of a list, in its order, with a rank for each name
abbrev pub insertions_of : Family Form → (NameData → ℕ) → List Member → List Insertion
insertions_of b rank [] = []
insertions_of b rank (x ∷ xs) = inserted_by (b.form x) (rank (target_of x)) (λ n. b.context x (Original n)) ++ insertions_of b rank xs
