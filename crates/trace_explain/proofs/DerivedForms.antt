-- Lines that are listed have derived forms.
use Rattle.std.proofs.Common.{◌≡◌, ◌≢◌, ◌+◌, ◌<◌, ◌≤◌, Bool, true, List, refl, ap, ◌∙◌, arith}
use Rattle.op_name.specs.declared.member.Member.{Member}
use Rattle.context_vector.specs.Contexts.{ContextData, has}
use Rattle.context_vector.specs.Vectors.{lowered}
use Rattle.context_diff.specs.Operations.{OpData}
use Rattle.context_diff.specs.Histories.{is_known, all_cells, IsValid}
use Rattle.context_diff.specs.Bases.{base_context_of}
use Rattle.context_diff.proofs.CallerLemmas.{known_in}
use Rattle.form_cache.specs.Keys.{KeyData}
use Rattle.ttf_form.specs.declared.form.Form.{Form}
use Rattle.ttf_form.specs.declared.include.TheConstants.{CELLS}
use Rattle.ttf_form.specs.Forms.{place_of, extent_of, IsBoundedForm, ApartForms, form_over}
use Rattle.ttf_form.specs.Laws.Forms.{form_tp2, form_apart_sym, form_apart_over, form_extent_over, form_bound_place, form_bound_over}
use Rattle.transform_rec.specs.Sets.{SameSet, plus}
use Rattle.transform_rec.specs.Derived.{Derived, Deriving}
use Rattle.transform_rec.specs.Derived.Derived.{at_base, by_step}
use Rattle.transform_rec.specs.Histories.{family_in, MayBeAddedTo}
use Rattle.transform_rec.proofs.CallerLemmas.{history_causal, derived_room, derived_sound, sound_added}
use Rattle.undo_group.specs.BaseForms.{base_form}
use Rattle.undo_group.specs.Bounds.{IsShortHistory}
use Rattle.undo_group.specs.Laws.Texts.{base_forms_apart, base_forms_bounded, base_forms_total}
use Rattle.trace_explain.specs.Traces.{pair}
use Rattle.trace_explain.specs.Code.Tasks.{IsFormAt, IsJoined}
use Rattle.trace_explain.proofs.Smaller.{base_same}

-- what the forms of a history rest on
abbrev pub text_deriving : (h : List OpData) → IsShortHistory h → Deriving Form
text_deriving h s = record {
  inclusion = record { Apart = ApartForms; IsBounded = IsBoundedForm; over = form_over; place = place_of; extent = extent_of };
  laws = record {
    tp2 = form_tp2;
    apart_sym = form_apart_sym;
    apart_over = form_apart_over;
    extent_over = form_extent_over;
    bound_place =
        form_bound_place;
    bound_over = form_bound_over;
  };
  family = family_in h (base_form h);
  known = record {
    causal = history_causal h (base_form h) s.valid;
    apart = λ m x i j ne l k. base_forms_apart h m x s i j ne l k;
    bounded = λ m i. base_forms_bounded h m s i;
  };
}

pub short_history : (h : List OpData) → IsValid h → all_cells h < 4294967296 → IsShortHistory h
short_history h v short = record { valid = v; short = omega arith }

-- a form stands where its member may be added
pub form_added : (h : List OpData) → IsShortHistory h → (k : KeyData) (f : Form) → IsFormAt h k f → MayBeAddedTo h k.context k.member
form_added h s k f d =
    sound_added h (base_form h) s.valid k.context k.member (derived_sound (text_deriving h s) k.member (has k.context) f d)

-- the base form at the base context
pub base_derived : (h : List OpData) → IsValid h → (k : KeyData) → is_known h k.member ≡ true → k.context ≡ base_context_of h k.member
    → IsFormAt h k (base_form h k.member)
base_derived h v k known e =
    at_base (known_in h k.member known) (λ y. ap (λ (c : ContextData). has c y) e ∙ base_same h v k.member known y) refl

-- the form after an inclusion, at the context with one member more
pub step_derived : (h : List OpData) → IsShortHistory h → (m x : Member) (c : ContextData) (C : Member → Bool) (f g : Form) → m ≢ x
    → SameSet C (plus (has c) x) → IsFormAt h (pair m c) f → IsFormAt h (pair x c) g
    → Derived form_over (family_in h (base_form h)) m C (form_over f g)
step_derived h s m x c C f g other whole df dg =
    let sound = derived_sound (text_deriving h s) x (has c) g dg in
    by_step (has c) x f g sound.listed other sound.lacks whole df dg refl

pub joined_derived : (h : List OpData) → IsShortHistory h → (k : KeyData) (x : Member) (f g : Form) → IsJoined h k x f g
    → IsFormAt h k (form_over f g)
joined_derived h s k x f g j = step_derived h s k.member x (lowered k.context x) (has k.context) f g j.other j.whole j.left j.over

-- there is room for an inclusion
pub room : (h : List OpData) → IsShortHistory h → (m x : Member) (c : ContextData) (f g : Form) → IsFormAt h (pair m c) f
    → IsFormAt h (pair x c) g → place_of f + extent_of g ≤ CELLS
room h s m x c f g df dg =
    let one = derived_room (text_deriving h s) m x (has c) f g df dg in
    let all = base_forms_total h s in
    omega arith
