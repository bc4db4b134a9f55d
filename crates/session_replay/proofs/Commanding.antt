-- A local command in memory: what it made, or why it made nothing.
use Rattle.std.proofs.Common.{◌≡◌, ◌≢◌, ℕ, ◌<◌, ◌≤◌, List, [], ◌∷◌, ◌++◌, refl, sym, ap, subst, ◌∙◌, length, map, set, append-nil, arith}
use Rattle.std.specs.Prelude.{Bool, true, false, Option, Some, None, Result, Ok, Err, if◌then◌else◌, slice_index_or}
use Rattle.std.proofs.lemmas.List.{length-map, map-set, set-get_or}
use Rattle.context_diff.specs.declared.op.TheConstants.{PLACES}
use Rattle.context_diff.specs.Operations.{OpData, inserting, cells_put}
use Rattle.context_diff.specs.Histories.{all_cells, context_of_all, IsNext}
use Rattle.context_diff.specs.Replays.{characters_of}
use Rattle.cot_site.specs.States.{State, with_last}
use Rattle.cot_site.specs.Sites.{SiteData, state_of}
use Rattle.cot_site.specs.Commands.{IsAnswer, local_run, next_name, numbered, place_behind}
use Rattle.cot_site.specs.Releases.{IsSound, settled}
use Rattle.cot_site.proofs.CallerLemmas.{behind_few, local_run_next, local_delete_next, local_undo_next, local_redo_next, sound_more}
use Rattle.participant.specs.declared.edits.Edit.{Edit}
use Rattle.participant.specs.declared.edits.Edit.TheVariants.{Insert, Delete, Undo, Redo}
use Rattle.participant.specs.Edits.{made_by}
use Rattle.participant.proofs.CallerLemmas.{cells_later, later_settled}
use Rattle.site_answers.specs.declared.local.Local.{Local}
use Rattle.site_answers.specs.declared.local.Local.TheVariants as local
use Rattle.script_text.specs.Verdicts.{local_text}
use Rattle.session_replay.specs.Steps.{last_of, written_by}
use Rattle.session_replay.specs.Sessions.{SessionData, site_at, making}
use Rattle.session_replay.specs.LineSteps.{commanded}
use Rattle.session_replay.specs.Code.Doing.{AreDone, HasLetters, HasPlaceBehind}
use Rattle.session_replay.specs.declared.message.Message.{Message}
use Rattle.session_replay.specs.Code.Messages.{operations_of}
use Rattle.session_replay.proofs.Lifting.{session_of, state_at, made_done}

-- the operation of a local command comes next
pub edit_next : (s : State) → IsSound s → (e : Edit) → HasLetters e → (o : OpData) → made_by e s ≡ Ok o → IsNext s.history o
edit_next s sound (Insert v text) letters o is = local_run_next s sound.history sound.number o v text letters is
edit_next s sound (Delete v) letters o is = local_delete_next s sound.history sound.number o v is
edit_next s sound (Undo t) letters o is = local_undo_next s sound.history sound.number o t is
edit_next s sound (Redo t) letters o is = local_redo_next s sound.history sound.number o t is

-- what an insert that is made puts, and after how many cells at least
run_put : (s : State) (v : ℕ) (text : List ℕ) (o : OpData) → local_run s v text ≡ Ok o
    → (v ≤ all_cells s.history) × (cells_put o ≡ length text)
run_put s v text o is = from (place_behind s.history v) refl is
  where
    made : (p : ℕ) (a b : Bool) (why other : Local)
        → (if a then (if b then Err why else Ok (inserting (next_name s) p text (context_of_all s.history))) else Err other) ≡ Ok o
        → cells_put o ≡ length text
    made p true false why other e =
        let same : o ≡ inserting (next_name s) p text (context_of_all s.history) = cc in
        ap cells_put same
    made p true true why other e = absurd cc
    made p false b why other e = absurd cc

    from : (r : Option ℕ) → place_behind s.history v ≡ r
        → (elim r as (λ _. Result OpData Local) [
          | None ↦ Err (local.PlaceOut v (length (characters_of s.history)))
          | Some p ↦
              numbered s (inserting (next_name s) p text (context_of_all s.history))
        ]) ≡ Ok o → (v ≤ all_cells s.history) × (cells_put o ≡ length text)
    from None at e = absurd cc
    from (Some p) at e = (behind_few s.history v p at, made p _ _ _ _ e)

-- an edit was made, and what was ready then is released: there is a place behind what it inserted, where each cell has one
pub made_behind : (s now : State) (e : Edit) (o : OpData) → IsSound s → IsNext s.history o → made_by e s ≡ Ok o
    → now ≡ settled (with_last s o) → all_cells now.history ≤ PLACES → HasPlaceBehind e
made_behind s now (Insert v text) o sound next is at few =
    let put = run_put s v text o is in
    let later = later_settled (with_last s o) (sound_more s o sound next) in
    omega (
      arith,
      put.0,
      put.1,
      few,
      ap (λ (t : State). all_cells t.history) at,
      cells_later s (with_last s o) (settled (with_last s o)) o refl later,
    )
made_behind s now (Delete v) o sound next is at few = tt
made_behind s now (Undo t) o sound next is at few = tt
made_behind s now (Redo t) o sound next is at few = tt

pub site_within : (sites : List SiteData) (ms : List OpData) (d : SessionData) (i : ℕ) → session_of sites ms ≡ d → i < length d.sites
    → i < length sites
site_within sites ms d i seen within = omega (arith, ap (λ (e : SessionData). length e.sites) seen, length-map sites state_of)

pub site_is : (sites : List SiteData) (ms : List OpData) (d : SessionData) (i : ℕ) (x : SiteData) → session_of sites ms ≡ d
    → i < length d.sites → x ≡ slice_index_or sites i x → state_of x ≡ site_at d i
site_is sites ms d i x seen within is = state_at sites ms i x (site_within sites ms d i seen within) is ∙ ap (λ e. site_at e i) seen

-- the operation is the next message
pub command_made : {T E : Type 0} (result : Result T E) (d : SessionData) (sites : List SiteData) (ms : List OpData) (i : ℕ) (edit : Edit)
    (o : OpData) (x z : SiteData) (n : ℕ) (old new : List ℕ)
    → session_of sites ms ≡ d → i < length d.sites → x ≡ slice_index_or sites i x
    → made_by edit (state_of x) ≡ Ok o → n ≡ length ms
    → AreDone result (making n o (state_of x)) (with_last (state_of x) o) (state_of z) old new
    → AreDone result (commanded i (made_by edit (site_at d i)) d) d (session_of (set sites i z) (ms ++ o ∷ [])) old new
command_made result d sites ms i edit o x z n old new seen within is answer number h =
    let up = made_done result d sites ms i o x z n old new seen within is number h in
    let all : made_by edit (site_at d i) ≡ Ok o = ap (made_by edit) (sym (site_is sites ms d i x seen within is)) ∙ answer in
    subst (λ r. AreDone result (commanded i r d) d (session_of (set sites i z) (ms ++ o ∷ [])) old new) (sym all) up

-- the states of the sites, where that of one is as it was
pub same_states : (sites : List SiteData) (i : ℕ) (x y : SiteData) → x ≡ slice_index_or sites i x → state_of y ≡ state_of x
    → map state_of (set sites i y) ≡ map state_of sites
same_states sites i x y is same =
    map-set state_of sites i y ∙ ap (λ s. set (map state_of sites) i s) same ∙ sym (map-set state_of sites i x)
    ∙ ap (λ s. map state_of (set sites i s)) is ∙ ap (map state_of) (set-get_or sites i x)

-- a refused local command left the session as it was
pub refused_same : (sites : List SiteData) (messages now : List Message) (d : SessionData) (i : ℕ) (x y : SiteData)
    → session_of sites (operations_of (map state_of sites) messages) ≡ d → x ≡ slice_index_or sites i x → state_of y ≡ state_of x
    → now ≡ messages
    → session_of (set sites i y) (operations_of (map state_of (set sites i y)) now) ≡ d
refused_same sites messages now d i x y seen is same kept =
    ap (λ (ss : List State). record { sites = ss; messages = operations_of ss now }) (same_states sites i x y is same)
    ∙ ap (λ (ms : List Message). session_of sites (operations_of (map state_of sites) ms)) kept
    ∙ seen

refusal_is : (r : Result OpData Local) (why : Local) → IsAnswer r (Err why) → why ≢ local.Memory → r ≡ Err why
refusal_is r (local.PlaceOut p v) h other = h
refusal_is r (local.Unknown n) h other = h
refusal_is r (local.NotInForce g) h other = h
refusal_is r (local.InForce g) h other = h
refusal_is r local.GenerationFull h other = h
refusal_is r local.NumberFull h other = h
refusal_is r (local.ContextFull n) h other = h
refusal_is r local.Memory h other = absurd (other refl)

pub command_refused : (d : SessionData) (sites : List SiteData) (ms : List OpData) (i : ℕ) (edit : Edit) (why : Local) (x : SiteData)
    → session_of sites ms ≡ d → i < length d.sites → x ≡ slice_index_or sites i x → IsAnswer (made_by edit (state_of x)) (Err why)
    → why ≢ local.Memory
    → made_by edit (site_at d i) ≡ Err why
command_refused d sites ms i edit why x seen within is answer other =
    ap (made_by edit) (sym (site_is sites ms d i x seen within is)) ∙ refusal_is (made_by edit (state_of x)) why answer other

pub command_told : (d now : SessionData) (i : ℕ) (r : Result OpData Local) (why : Local) (old new : List ℕ) → r ≡ Err why → now ≡ d
    → new ≡ old ++ local_text why → (now ≡ last_of d (commanded i r d)) × (new ≡ old ++ written_by (commanded i r d))
unfolding last_of written_by
command_told d now i r why old new is same written = (
  same ∙ sym (ap (λ q. last_of d (commanded i q d)) is),
  written ∙ ap (λ w. old ++ w) (sym (append-nil (local_text why))) ∙ ap (λ q. old ++ written_by (commanded i q d)) (sym is),
)
