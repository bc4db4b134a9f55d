-- An edit as it is done makes what is defined.
use Rattle.std.proofs.Common.{◌≡◌, ℕ, true, List, [], ◌∷◌, ◌++◌, refl, sym, ap, subst, ◌∙◌}
use Rattle.std.specs.Prelude.{⊤, Bool, IfOk, Result, Ok, Err}
use Rattle.context_diff.specs.Operations.{OpData}
use Rattle.context_diff.specs.declared.op.Op.{Op}
use Rattle.context_diff.specs.Ops.{data_of}
use Rattle.cot_site.specs.States.{State}
use Rattle.cot_site.specs.Commands.{IsAnswer}
use Rattle.site_answers.specs.declared.local.Local.{Local}
use Rattle.site_answers.specs.declared.local.Local.TheVariants as local
use Rattle.participant.specs.declared.edits.Edit.{Edit}
use Rattle.participant.specs.declared.edits.Edit.TheVariants.{Insert}
use Rattle.participant.specs.declared.edits.Stopped.{Stopped}
use Rattle.participant.specs.declared.edits.Stopped.TheVariants as stopped
use Rattle.participant.specs.Reached.{Reached, from, with_one, all_settled}
use Rattle.participant.specs.Edits as participant
use Rattle.participant.specs.Edits.{made_by}
use Rattle.participant.specs.Runs.{puts, Progress, StopsAt, Runs}
use Rattle.participant.proofs.CallerLemmas.{by_pieces}
use Rattle.log_replies.specs.Answers.{IsAppended}
use Rattle.log_replies.specs.Editing.{EditData, edited, made, then_next, all_made}
use Rattle.log_replies.specs.Code.Editing.{IsDone, IsEditReply, ended, reason_of}
use Rattle.log_replies.specs.Replies.{edit_reply, refused_edit_text}
use Rattle.log_replies.proofs.Answering.{once_replied}

-- an edit that stopped is done as is defined, where that is a refusal for the same reason; out of memory says nothing
stops_for : (defined : Result State Local) (r : Result OpData Local) (why : Local) (t : State) → ((w : Local) → r ≡ Err w → defined ≡ Err w)
    → IsAnswer r (Err why) → IsDone defined (Err why) t
stops_for defined r (local.PlaceOut place visible) t refuses is = refuses (local.PlaceOut place visible) is
stops_for defined r (local.Unknown name) t refuses is = refuses (local.Unknown name) is
stops_for defined r (local.NotInForce g) t refuses is = refuses (local.NotInForce g) is
stops_for defined r (local.InForce g) t refuses is = refuses (local.InForce g) is
stops_for defined r local.GenerationFull t refuses is = refuses local.GenerationFull is
stops_for defined r local.NumberFull t refuses is = refuses local.NumberFull is
stops_for defined r (local.ContextFull entries) t refuses is = refuses (local.ContextFull entries) is
stops_for defined r local.Memory t refuses is = tt

-- where the first edit has no operation, none of them is made
none_made : (e : Edit) (es : List Edit) (s : State) (why : Local) → made_by e s ≡ Err why → all_made (e ∷ es) s ≡ Err why
unfolding all_made
none_made e es s why is = ap (λ (r : Result OpData Local). then_next (all_made es) (made s r)) is

-- where it has one, the others come after it
first_made : (e : Edit) (es : List Edit) (s : State) (o : OpData) → made_by e s ≡ Ok o
    → all_made (e ∷ es) s ≡ all_made es ((all_settled (with_one (from s) o)).state)
unfolding all_made
first_made e es s o is = ap (λ (r : Result OpData Local). then_next (all_made es) (made s r)) is

nothing_made : (s : State) → all_made [] s ≡ Ok s
unfolding all_made
nothing_made s = refl

-- ---- one edit

pub one_made : (e : Edit) (a b : Reached) (o : Op) → participant.IsDone (made_by e a.state) a (Ok o) b
    → IsDone (all_made (e ∷ []) a.state) (Ok tt) b.state
one_made e a b o done =
    first_made e [] a.state (data_of o) done.0
    ∙ nothing_made ((all_settled (with_one (from a.state) (data_of o))).state)
    ∙ ap (λ (x : Reached). Ok x.state) (sym done.1)

pub one_stopped : (e : Edit) (a b : Reached) (why : Stopped) → participant.IsDone (made_by e a.state) a (Err why) b
    → IsDone (all_made (e ∷ []) a.state) (Err (reason_of why)) b.state
one_stopped e a b (stopped.Refused why) done =
    stops_for (all_made (e ∷ []) a.state) (made_by e a.state) why b.state (λ w. none_made e [] a.state w) done.0
one_stopped e a b stopped.Unsettled done = tt

-- ---- a text

-- a run of inserts, as it is answered
pub pieces_ended : (v : ℕ) (ps : List (List ℕ)) (p : Progress) (end : Result ⊤ Stopped) (q : Progress) → Runs (puts v ps) p end q
    → IsDone (all_made (puts v ps) p.reached.state) (ended end) q.reached.state
pieces_ended =
    by_pieces (λ es p end q. IsDone (all_made es p.reached.state) (ended end) q.reached.state)
    (λ p. nothing_made p.reached.state) inserted stopped_at
  where
    -- after an insert that was made
    inserted : (v : ℕ) (text : List ℕ) (es : List Edit) (p : Progress) (o : OpData) (end : Result ⊤ Stopped) (q : Progress)
        → made_by (Insert v text) p.reached.state ≡ Ok o
        → IsDone (all_made es ((all_settled (with_one p.reached o)).state)) (ended end) q.reached.state
        → IsDone (all_made (Insert v text ∷ es) p.reached.state) (ended end) q.reached.state
    inserted v text es p o end q is rest =
        subst (λ (x : Result State Local). IsDone x (ended end) q.reached.state)
        (sym (first_made (Insert v text) es p.reached.state o is)) rest

    -- where it stops at one
    stopped_at : (v : ℕ) (text : List ℕ) (es : List Edit) (p : Progress) (end : Result ⊤ Stopped) (q : Progress)
        → StopsAt (Insert v text) p end q → IsDone (all_made (Insert v text ∷ es) p.reached.state) (ended end) q.reached.state
    stopped_at v text es p (Ok u) q stop = absurd stop
    stopped_at v text es p (Err (stopped.Refused why)) q stop =
        stops_for (all_made (Insert v text ∷ es) p.reached.state) (made_by (Insert v text) p.reached.state) why q.reached.state
        (λ w. none_made (Insert v text) es p.reached.state w) stop.0
    stopped_at v text es p (Err stopped.Unsettled) q stop = tt

-- ---- the reply

-- a refused edit is replied by its reason
pub refused_reply : (edit : Result State Local) (why : Local) (t : State) (old new : List ℕ) → IsDone edit (Err why) t
    → (why ≡ local.Memory → ⊥) → new ≡ old ++ refused_edit_text why → IsEditReply edit old new true
refused_reply edit why t old new done never added =
    let is : edit ≡ Err why = reason why done never in
    record { written = added ∙ ap (λ x. old ++ (edit_reply x).written) (sym is); told = ap (λ x. (edit_reply x).refused) is }
  where
    reason : (why : Local) → IsDone edit (Err why) t → (why ≡ local.Memory → ⊥) → edit ≡ Err why
    reason (local.PlaceOut place visible) done never = done
    reason (local.Unknown name) done never = done
    reason (local.NotInForce g) done never = done
    reason (local.InForce g) done never = done
    reason local.GenerationFull done never = done
    reason local.NumberFull done never = done
    reason (local.ContextFull entries) done never = done
    reason local.Memory done never = absurd (never refl)

-- an edit that was replied to is a reply to the state
pub edit_replied : {E : Type 0} (edit : EditData) (s : State) (old new : List ℕ) (r : Result Bool E)
    → IfOk r (IsEditReply (edited s edit) old new)
    → IfOk r (λ refused. IsAppended (λ t reply. reply ≡ edit_reply (edited t edit)) refused s old new)
edit_replied edit s old new (Ok refused) h = once_replied (λ t. edit_reply (edited t edit)) s old new refused h.written h.told
edit_replied edit s old new (Err e) h = tt
