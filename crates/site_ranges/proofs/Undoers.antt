-- What the members of a history tell of its originals and of their undos.
use Rattle.std.proofs.Common.{◌≡◌, ◌≤◌, ℕ, true, List, refl, sym, ap, ◌∙◌, arith}
use Rattle.op_name.specs.declared.member.Member.{Member}
use Rattle.op_name.specs.declared.member.Member.TheVariants.{Group}
use Rattle.op_name.specs.NameData.{NameData}
use Rattle.context_vector.specs.Contexts.{ContextData, has, entry_of}
use Rattle.context_diff.specs.Operations.{OpData, undoing}
use Rattle.context_diff.specs.Histories.{context_of_all, generation_in, is_known, IsValid}
use Rattle.context_diff.proofs.CallerLemmas.{complete, has_group}
use Rattle.site_ranges.specs.Laws.{LastUndoersAreOne}

-- the members of a history tell what it has
pub known_by : (h : List OpData) (v : ContextData) (m : Member) → IsValid h → v ≡ context_of_all h → has v m ≡ is_known h m
known_by h v m valid all = ap (λ (c : ContextData). has c m) all ∙ (complete h valid).holds m

-- the undo or redo of the generation that an original has is there
pub last_known : (h k : List OpData) (v : ContextData) (t : NameData) (g : ℕ) → IsValid h → k ≡ h → v ≡ context_of_all h
    → g ≡ entry_of v t → 1 ≤ g → is_known k (Group t g) ≡ true
last_known h k v t g valid same all entry some =
    ap (λ (l : List OpData). is_known l (Group t g)) same
    ∙ sym (known_by h v (Group t g) valid all)
    ∙ has_group v t g some (omega (arith, entry))

pub one_last : LastUndoersAreOne
one_last h t a b valid x y =
    let same : undoing a t (generation_in h t) x.context ≡ undoing b t (generation_in h t) y.context =
    (complete h valid).one (undoing a t (generation_in h t) x.context) (undoing b t (generation_in h t) y.context) x.there y.there refl in
    cc
