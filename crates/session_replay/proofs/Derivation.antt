-- The report that is read with forms: a view that agrees with the histories of a session gives the same steps, line by line, and
-- so the same report.
use Rattle.std.proofs.Common.{◌≡◌, ℕ, ◌+◌, ◌<◌, Bool, inl, inr, List, [], ◌∷◌, ◌++◌, length, Result, Ok, Err, refl, ap, sym, subst, ◌∙◌}
use Rattle.std.specs.Prelude.{Option, Some, None, IfSome, nat_lt, if◌then◌else◌}
use Rattle.std.proofs.lemmas.Bool.{cases_Bool, ltb-true}
use Rattle.context_diff.specs.Operations.{OpData}
use Rattle.context_diff.specs.Histories.{IsNext, IsValid}
use Rattle.cot_site.specs.States.{State}
use Rattle.cot_site.specs.Views.{View, history_view, forms_view}
use Rattle.cot_site.specs.Commands.{run_in, delete_in, local_run}
use Rattle.site_answers.specs.declared.local.Local.{Local}
use Rattle.cot_site.proofs.CallerLemmas.{computed_of, computed_lists, lists_show}
use Rattle.script_text.specs.declared.reading.line.Line.{Line}
use Rattle.script_text.specs.declared.reading.line.Line.TheVariants as line
use Rattle.script_text.specs.declared.report.refusal.Refusal.{Refusal}
use Rattle.script_text.specs.declared.report.refusal.Refusal.TheVariants.{NoSite}
use Rattle.script_text.specs.Lines.{line_site}
use Rattle.session_replay.specs.Steps.{Step, last_of, written_by}
use Rattle.session_replay.specs.Sessions.{SessionData, site_at, made, unstarted}
use Rattle.session_replay.specs.LineSteps.{told, commanded, typed, typed_in, typed_on, show_text_in, once_started, at_site_of, steps_there, steps_there_in, line_steps, line_steps_in, AreValues}
use Rattle.participant.specs.Runs.{letters, pieces}
use Rattle.script_text.specs.Report.{Report}
use Rattle.session_replay.specs.Scripts.{Piece, prepended, line_read, pieces_of, steps_of_read, steps_of_read_in, piece_steps, piece_steps_in, report_on, report_from, report_from_in, script_report, script_report_in}
use Rattle.session_replay.specs.Derivation.{IsDerivedReport}
use Rattle.session_replay.specs.Soundness.{IsSound}
use Rattle.session_replay.proofs.Sound.{Kept, good_made, good_last, site_sound}
use Rattle.session_replay.proofs.LineLaws.{inserted_next}
use Rattle.session_replay.proofs.Typing.{AreLetters, letters_are, pieces_are}
use Rattle.session_replay.proofs.ScriptLaws.{Rests, unstarted_rests, read_values, piece_rests}

-- a view that sees of each valid history what the history shows
module _ (view : State → View) (agrees : (s : State) → IsValid s.history → view s ≡ history_view s) where
  seen_at : (d : SessionData) (i : ℕ) → IsSound d → i < length d.sites → view (site_at d i) ≡ history_view (site_at d i)
  seen_at d i sound within = agrees (site_at d i) (site_sound d i sound within).history

  -- ---- a text

  -- what follows an insert is the same where the insert leaves a sound session
  typed_on_same : (next other : SessionData → List (Step SessionData)) (i : ℕ) (r : Result OpData Local) (d : SessionData) → IsSound d
      → i < length d.sites → ((o : OpData) → r ≡ Ok o → IsNext (site_at d i).history o)
      → ((e : SessionData) → Kept (length d.sites) e → next e ≡ other e) → typed_on next i r d ≡ typed_on other i r d
  typed_on_same next other i (Ok o) d sound within is same =
      ap (λ es. made i o d ++ es) (same (last_of d (made i o d))
      (good_last d (made i o d) sound (good_made d i o sound within (is o refl))))
  typed_on_same next other i (Err why) d sound within is same = refl

  typed_same : (ps : List (List ℕ)) → AreLetters ps → (n i v : ℕ) → i < n → (d : SessionData) → Kept n d
      → typed_in view i v ps d ≡ typed i v ps d
  unfolding typed_in
  typed_same [] letters n i v within d kept = refl
  typed_same (p ∷ ps) letters n i v within d kept =
      let here : i < length d.sites = subst (λ k. i < k) (sym kept.sites) within in
      let behind = v + length p in
      let rest = typed_same ps letters.1 n i behind within in
      ap (λ (x : View). typed_on (typed_in view i behind ps) i (run_in x (site_at d i) v p) d) (seen_at d i kept.sound here)
      ∙ typed_on_same (typed_in view i behind ps) (typed i behind ps) i (local_run (site_at d i) v p) d kept.sound here
      (inserted_next d i v p kept.sound here letters.0)
      (λ e after. rest e (record { sound = after.sound; sites = after.sites ∙ kept.sites }))

  -- ---- lines

  guarded_same : (o : Option ℕ) (d : SessionData) (r q : Result (List (Step SessionData)) Refusal)
      → (IfSome o (λ i. i < length d.sites) → r ≡ q) → at_site_of o d r ≡ at_site_of o d q
  guarded_same None d r q same = same tt
  guarded_same (Some i) d r q same =
      elim (cases_Bool (nat_lt i (length d.sites))) [
        | inl less ↦ ap (λ (x : Result (List (Step SessionData)) Refusal). at_site_of (Some i) d x)
            (same (ltb-true i (length d.sites) less))
        | inr not ↦ ap (λ (b : Bool). once_started d (if b then r else Err NoSite)) not
            ∙ sym (ap (λ (b : Bool). once_started d (if b then q else Err NoSite)) not)
      ]

  there_same : (l : Line) (d : SessionData) → IsSound d → AreValues l → IfSome (line_site l) (λ i. i < length d.sites)
      → steps_there_in view l d ≡ steps_there l d
  there_same line.Blank d sound values within = refl
  there_same (line.Sites n) d sound values within = refl
  there_same (line.Ins i v text) d sound values within =
      ap (λ es. Ok es)
      (typed_same (letters text) (letters_are text values) (length d.sites) i v within d (record { sound = sound; sites = refl }))
  there_same (line.Run i v text) d sound values within =
      ap (λ es. Ok es)
      (typed_same (pieces text) (pieces_are text values) (length d.sites) i v within d (record { sound = sound; sites = refl }))
  there_same (line.Nl i v) d sound values within =
      ap (λ (x : View). Ok (commanded i (run_in x (site_at d i) v (10 ∷ [])) d)) (seen_at d i sound within)
  there_same (line.Del i v) d sound values within =
      ap (λ (x : View). Ok (commanded i (delete_in x (site_at d i) v) d)) (seen_at d i sound within)
  there_same (line.Undo i t) d sound values within = refl
  there_same (line.Redo i t) d sound values within = refl
  there_same (line.Give i m) d sound values within = refl
  there_same (line.All i) d sound values within = refl
  there_same line.Sync d sound values within = refl
  there_same (line.Raw i bytes) d sound values within = refl
  there_same (line.Raw2 i bytes) d sound values within = refl
  there_same (line.Show i) d sound values within = ap (λ (x : View). Ok (told (show_text_in (λ s. x) i d) d)) (seen_at d i sound within)
  there_same (line.State i) d sound values within = refl

  pub line_same : (l : Line) (d : SessionData) → IsSound d → AreValues l → line_steps_in view l d ≡ line_steps l d
  line_same l d sound values = guarded_same (line_site l) d (steps_there_in view l d) (steps_there l d) (there_same l d sound values)

  piece_same : (p : Piece) (d : SessionData) → IsSound d → piece_steps_in view p d ≡ piece_steps p d
  piece_same p d sound = from (line_read p) refl
    where
      from : (r : Result Line Refusal) → line_read p ≡ r → steps_of_read_in view r d ≡ steps_of_read r d
      from (Err why) is = refl
      from (Ok l) is = line_same l d sound (read_values p l is)

  -- ---- reports

  report_on_same : (next other : SessionData → Report) (number : ℕ) (r : Result (List (Step SessionData)) Refusal) (d : SessionData)
      → ((es : List (Step SessionData)) → r ≡ Ok es → next (last_of d es) ≡ other (last_of d es))
      → report_on next number r d ≡ report_on other number r d
  report_on_same next other number (Err why) d same = refl
  report_on_same next other number (Ok es) d same = ap (λ (rest : Report). prepended (written_by es) rest) (same es refl)

  report_same : (pieces : List Piece) (number : ℕ) (d : SessionData) → Rests d
      → report_from_in view number pieces d ≡ report_from number pieces d
  unfolding report_from_in
  report_same [] number d rests = refl
  report_same (p ∷ pieces) number d rests =
      ap (λ (r : Result (List (Step SessionData)) Refusal). report_on (report_from_in view (number + 1) pieces) number r d)
      (piece_same p d rests.0)
      ∙ report_on_same (report_from_in view (number + 1) pieces) (report_from (number + 1) pieces) number (piece_steps p d) d
      (λ es is. report_same pieces (number + 1) (last_of d es) (piece_rests p d es rests is))

  pub script_same : (bytes : List ℕ) → script_report_in view bytes ≡ script_report bytes
  script_same bytes = report_same (pieces_of bytes) 1 unstarted unstarted_rests

-- the report of a script is read with forms
pub report_derived : (bytes : List ℕ) → IsDerivedReport bytes (script_report bytes)
report_derived bytes = record {
  forms = computed_of;
  lists = computed_lists;
  report = sym (script_same (forms_view computed_of) (λ s valid. lists_show computed_of s computed_lists valid) bytes);
}

-- and whatever is read with forms is the report
pub derived_once : (bytes : List ℕ) (r : Report) → IsDerivedReport bytes r → r ≡ script_report bytes
derived_once bytes r is = is.report ∙ script_same (forms_view is.forms) (λ s valid. lists_show is.forms s is.lists valid) bytes
