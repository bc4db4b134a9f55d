-- Alike sites make the same operations, and these were made after all that their histories begin with.
use Rattle.std.proofs.Common.{◌≡◌, ℕ, suc, ◌+◌, Bool, true, false, List, ◌∷◌, if◌then◌else◌, length, map, Result, Ok, Err, Option, Some, None, ap, sym, ◌∙◌}
use Rattle.std.specs.Prelude.{◌||◌, ◌==◌, nat_lt, slice_get}
use Rattle.std.proofs.lemmas.Bool.{false≢true, or_parts}
use Rattle.op_name.specs.declared.name.TheConstants.{NUMBERS}
use Rattle.op_name.specs.declared.member.TheConstants.{GENERATIONS}
use Rattle.op_name.specs.NameData.{NameData}
use Rattle.op_name.specs.Lists.{places_from}
use Rattle.op_name.specs.Members.{is_even}
use Rattle.op_name.specs.declared.member.Member.{Member}
use Rattle.op_name.specs.declared.member.Member.TheVariants.{Original}
use Rattle.context_vector.specs.Contexts.{ContextData, count_of, has}
use Rattle.context_diff.specs.Operations.{OpData, inserting, deleting, undoing, member_of, context_of, is_original, IsLetters}
use Rattle.context_diff.specs.Histories.{is_known, generation_in, context_of_all, IsNext}
use Rattle.context_diff.specs.Replays.{Cell}
use Rattle.context_diff.proofs.CallerLemmas.{complete, known_append}
use Rattle.site_answers.specs.declared.local.Local.{Local}
use Rattle.site_answers.specs.declared.local.Local.TheVariants.{PlaceOut, Unknown, NotInForce, InForce, GenerationFull, NumberFull}
use Rattle.flat_history.specs.Alike.{IsMadeAfter}
use Rattle.cot_site.specs.States.{State}
use Rattle.cot_site.specs.Views.{View, history_view}
use Rattle.cot_site.specs.Commands.{within_range, next_name, in_context, numbered, turned, local_run, local_delete, local_undo, local_redo}
use Rattle.cot_site.proofs.CallerLemmas.{in_context_ok, numbered_ok, local_run_next, local_delete_next, local_undo_next, local_redo_next}
use Rattle.alike_sites.specs.Twins.{AreAlikeSites}
use Rattle.alike_sites.proofs.Twins.{sites_alike}

-- ---- commands by what they read of a state

-- the original, by the site's number and the members
abbrev numbered_by : ℕ → ContextData → OpData → Result OpData Local
numbered_by n c o = if nat_lt (count_of c n) NUMBERS then in_context c o else Err NumberFull

abbrev name_by : ℕ → ContextData → NameData
name_by n c = record { site = n; number = count_of c n + 1 }

abbrev run_by : View → ℕ → ContextData → ℕ → List ℕ → Result OpData Local
run_by view n c v text = elim (within_range (slice_get (0 ∷ map suc view.places) v)) [
  | None ↦ Err (PlaceOut v (length view.characters))
  | Some p ↦ numbered_by n c (inserting (name_by n c) p text c)
]

abbrev delete_by : View → ℕ → ContextData → ℕ → Result OpData Local
delete_by view n c v = elim (within_range (slice_get view.places v)) [
  | None ↦ Err (PlaceOut v (length view.characters))
  | Some p ↦ numbered_by n c (deleting (name_by n c) p c)
]

abbrev turned_by : ℕ → ContextData → ℕ → NameData → Result OpData Local
turned_by n c g t = in_context c (undoing n t (g + 1) c)

abbrev undo_by : Bool → ℕ → ContextData → ℕ → NameData → Result OpData Local
undo_by known n c g t =
    if known then (if is_even g then turned_by n c g t else Err (NotInForce g)) else Err (Unknown t)

abbrev redo_by : Bool → ℕ → ContextData → ℕ → NameData → Result OpData Local
redo_by known n c g t =
    if known
    then (if is_even g then Err (InForce g) else if g == GENERATIONS then Err GenerationFull else turned_by n c g t)
    else Err (Unknown t)

-- ---- what is made was made after all members

err_ok : {P : Type 0} (e : Local) (b : OpData) → ◌≡◌ {A = Result OpData Local} (Err e) (Ok b) → P
err_ok e b is = absurd (cc)

run_made : (s : State) (r : Option ℕ) (v k : ℕ) (text : List ℕ) (o : OpData)
    → ◌≡◌ {A = Result OpData Local}
    (elim r [ None ↦ Err (PlaceOut v k) | Some p ↦ numbered s (inserting (next_name s) p text (context_of_all s.history)) ]) (Ok o)
    → context_of o ≡ context_of_all s.history
run_made s None v k text o e = err_ok (PlaceOut v k) o e
run_made s (Some p) v k text o e =
    ap context_of (sym (numbered_ok s (inserting (next_name s) p text (context_of_all s.history)) o e).1)

delete_made : (s : State) (r : Option ℕ) (v k : ℕ) (o : OpData)
    → ◌≡◌ {A = Result OpData Local}
    (elim r [ None ↦ Err (PlaceOut v k) | Some p ↦ numbered s (deleting (next_name s) p (context_of_all s.history)) ]) (Ok o)
    → context_of o ≡ context_of_all s.history
delete_made s None v k o e = err_ok (PlaceOut v k) o e
delete_made s (Some p) v k o e = ap context_of (sym (numbered_ok s (deleting (next_name s) p (context_of_all s.history)) o e).1)

turned_made : (s : State) (t : NameData) (o : OpData) → turned s t ≡ Ok o → is_original o ≡ false
turned_made s t o e =
    let c = context_of_all s.history in
    ap is_original (sym (in_context_ok c (undoing s.number t (generation_in s.history t + 1) c) o e).0)

undo_made : (s : State) (t : NameData) (o : OpData) (known even : Bool)
    → (if known then (if even then turned s t else Err (NotInForce (generation_in s.history t))) else Err (Unknown t)) ≡ Ok o
    → is_original o ≡ false
undo_made s t o true true e = turned_made s t o e
undo_made s t o true false e = err_ok (NotInForce (generation_in s.history t)) o e
undo_made s t o false even e = err_ok (Unknown t) o e

redo_made : (s : State) (t : NameData) (o : OpData) (known even full : Bool)
    → (if known
    then (if even then Err (InForce (generation_in s.history t)) else if full then Err GenerationFull else turned s t)
    else Err (Unknown t)) ≡ Ok o → is_original o ≡ false
redo_made s t o true true full e = err_ok (InForce (generation_in s.history t)) o e
redo_made s t o true false true e = err_ok GenerationFull o e
redo_made s t o true false false e = turned_made s t o e
redo_made s t o false even full e = err_ok (Unknown t) o e

module _ (h k : List OpData) (s t : State) (a : AreAlikeSites h k s t) where
  -- ---- both make the same

  context : context_of_all s.history ≡ context_of_all t.history
  context = (sites_alike h k s t a).context

  pub view_same : history_view s ≡ history_view t
  view_same =
      let alike = sites_alike h k s t a in
      λ i. record {
        places = places_from (λ (c : Cell). alike.is_shown c i) 0 (alike.cells i);
        characters = alike.characters i;
      }

  pub run_same : (v : ℕ) (text : List ℕ) → local_run s v text ≡ local_run t v text
  run_same v text = λ i. run_by (view_same i) (a.twins.number i) (context i) v text

  pub delete_same : (v : ℕ) → local_delete s v ≡ local_delete t v
  delete_same v = λ i. delete_by (view_same i) (a.twins.number i) (context i) v

  pub undo_same : (n : NameData) → local_undo s n ≡ local_undo t n
  undo_same n =
      let alike = sites_alike h k s t a in
      λ i. undo_by (alike.members (Original n) i) (a.twins.number i) (context i) (alike.generations n i) n

  pub redo_same : (n : NameData) → local_redo s n ≡ local_redo t n
  redo_same n =
      let alike = sites_alike h k s t a in
      λ i. redo_by (alike.members (Original n) i) (a.twins.number i) (context i) (alike.generations n i) n

  -- ---- after all that the histories begin with

  known_before : (m : Member) → is_known s.history m ≡ (is_known h m || is_known a.twins.later m)
  known_before m = ap (λ (g : List OpData). is_known g m) a.twins.history ∙ known_append h a.twins.later m

  new_before : (m : Member) → is_known s.history m ≡ false → is_known h m ≡ false
  new_before m e = (or_parts (is_known h m) (is_known a.twins.later m) (sym (known_before m) ∙ e)).0

  has_before : (m : Member) → is_known h m ≡ true → has (context_of_all s.history) m ≡ true
  has_before m e = (complete s.history a.sound.history).holds m ∙ (known_before m ∙ ap (λ (b : Bool). b || is_known a.twins.later m) e)

  original_after : (o : OpData) → IsNext s.history o → context_of o ≡ context_of_all s.history → IsMadeAfter h o
  original_after o next is = record {
    new = new_before (member_of o) next.new;
    covers = λ e m known. ap (λ (c : ContextData). has c m) is ∙ has_before m known;
  }

  undo_after : (o : OpData) → IsNext s.history o → is_original o ≡ false → IsMadeAfter h o
  undo_after o next is = record {
    new = new_before (member_of o) next.new;
    covers = λ e. absurd (false≢true (sym is ∙ e));
  }

  pub run_after : (v : ℕ) (text : List ℕ) (o : OpData) → IsLetters text → local_run s v text ≡ Ok o → IsMadeAfter h o
  run_after v text o letters e =
      let view = history_view s in
      original_after o (local_run_next s a.sound.history a.sound.number o v text letters e)
      (run_made s (within_range (slice_get (0 ∷ map suc view.places) v)) v (length view.characters) text o e)

  pub delete_after : (v : ℕ) (o : OpData) → local_delete s v ≡ Ok o → IsMadeAfter h o
  delete_after v o e =
      let view = history_view s in
      original_after o (local_delete_next s a.sound.history a.sound.number o v e)
      (delete_made s (within_range (slice_get view.places v)) v (length view.characters) o e)

  pub undone_after : (n : NameData) (o : OpData) → local_undo s n ≡ Ok o → IsMadeAfter h o
  undone_after n o e =
      undo_after o (local_undo_next s a.sound.history a.sound.number o n e)
      (undo_made s n o (is_known s.history (Original n)) (is_even (generation_in s.history n)) e)

  pub redone_after : (n : NameData) (o : OpData) → local_redo s n ≡ Ok o → IsMadeAfter h o
  redone_after n o e =
      undo_after o (local_redo_next s a.sound.history a.sound.number o n e)
      (redo_made s n o (is_known s.history (Original n)) (is_even (generation_in s.history n)) (generation_in s.history n == GENERATIONS) e)
