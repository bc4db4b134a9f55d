-- The base forms of a valid history, as rows ask for them.
use Rattle.std.proofs.Common.{◌≡◌, ℕ, true, false, List, refl, sym, ap, subst, ◌∙◌}
use Rattle.std.specs.Prelude.{Some, Contains}
use Rattle.std.proofs.lemmas.Bool.{both_ways}
use Rattle.op_name.specs.NameData.{NameData}
use Rattle.op_name.specs.declared.member.Member.{Member}
use Rattle.op_name.specs.declared.member.Member.TheVariants.{Original}
use Rattle.context_vector.specs.Contexts.{ContextData, has, Within}
use Rattle.context_diff.specs.Operations.{OpData, inserting, deleting, undoing, member_of, context_of}
use Rattle.context_diff.specs.Histories.{is_known, context_of_all, IsValid}
use Rattle.context_diff.specs.Bases.{base_has}
use Rattle.context_diff.proofs.CallerLemmas.{base_listed, base_value, complete, context_is, known_member}
use Rattle.ttf_form.specs.declared.form.Form.{Form}
use Rattle.ttf_form.specs.declared.form.Form.TheVariants.{Ins as Insert, Cover as Covered}
use Rattle.ttf_form.specs.Forms.{IsInertForm, extent_of}
use Rattle.ttf_form.specs.Families.{IsIn}
use Rattle.transform_rec.specs.Histories.{family_in}
use Rattle.undo_group.specs.BaseForms.{original_form, group_form, base_form}
use Rattle.undo_group.specs.Laws.Forms.{base_forms_hold}
use Rattle.undo_group.specs.Laws.Members.{listed_member}
use Rattle.form_rows.specs.Names.{insert_of, IsNamed, AreNamed}
use Rattle.form_rows.specs.Kept.{CoversAreInert, InsertsAreKept}

group_inert : (f : Form) (t : NameData) (g : ℕ) → IsInertForm (group_form f t g)
group_inert (Insert a) t g = tt
group_inert (Covered d) t g = tt

named_op : (h : List OpData) → IsValid h → (o : OpData) → IsIn o h → (IsInertForm (base_form h (member_of o)) → ⊥)
    → IsNamed insert_of (family_in h (base_form h)) (member_of o)
named_op h v (inserting n p text c) i other =
    let f = (base_forms_hold h v).inserts n p text c i in
    record { name = n; is = refl; says = ap insert_of f.is ∙ ap (λ (x : NameData). Some x) f.name }
named_op h v (deleting n p c) i other = let f = (base_forms_hold h v).deletes n p c i in absurd (other (subst IsInertForm (sym f.is) tt))
named_op h v (undoing a t g c) i other = absurd (other (group_inert (original_form h t) t g))

-- each base form that adds a cell says the name of its insert
pub text_names : (h : List OpData) → IsValid h → AreNamed insert_of IsInertForm (family_in h (base_form h))
text_names h v x i other =
    let r = listed_member x h i in
    subst (λ (y : Member). IsNamed insert_of (family_in h (base_form h)) y) r.2
    (named_op h v r.0 r.1 (subst (λ (y : Member). IsInertForm (base_form h y) → ⊥) (sym r.2) other))

-- all others are inert
pub text_covers : (h : List OpData) → IsValid h → CoversAreInert IsInertForm (base_form h) h
text_covers h v (inserting n p text c) i e = absurd (both_ways true e refl)
text_covers h v (deleting n p c) i e = let f = (base_forms_hold h v).deletes n p c i in subst IsInertForm (sym f.is) tt
text_covers h v (undoing a t g c) i e = group_inert (original_form h t) t g

-- that of an insert adds its cells
pub text_inserts : (h : List OpData) → IsValid h → InsertsAreKept IsInertForm extent_of (base_form h) h
text_inserts h v (inserting n p text c) i e =
    let f = (base_forms_hold h v).inserts n p text c i in
    ((λ inert. subst IsInertForm f.is inert), ap extent_of f.is ∙ f.len)
text_inserts h v (deleting n p c) i e = absurd (both_ways false refl e)
text_inserts h v (undoing a t g c) i e = absurd (both_ways false refl e)

-- the context of an original is its base context
pub original_base : (h : List OpData) → IsValid h → (o : OpData) (n : NameData) → Contains h o → member_of o ≡ Original n → (y : Member)
    → has (context_of o) y ≡ base_has h (Original n) y
original_base h v o n at is y =
    let w = complete h v in
    let known : is_known h (Original n) ≡ true = ap (is_known h) (sym is) ∙ known_member h o at in
    ap (λ (c : ContextData). has c y) (sym (context_is h w o n at is known)) ∙ base_value h w (Original n) known y

pub original_within : (h : List OpData) → IsValid h → (have : ContextData) → have ≡ context_of_all h → (o : OpData) (n : NameData)
    → Contains h o → member_of o ≡ Original n → Within (context_of o) have
original_within h v have all o n at is y there =
    let w = complete h v in
    ap (λ (c : ContextData). has c y) all ∙ (w.holds y ∙ base_listed h w (Original n) y (sym (original_base h v o n at is y) ∙ there))
