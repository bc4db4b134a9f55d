-- Scripts: each line of one is done from a sound and settled session, and leaves one; and what waits then.
use Rattle.std.proofs.Common.{◌≡◌, Bool, true, false, inl, inr, List, length, Result, Ok, Err, refl, ap, sym, subst, ◌∙◌}
use Rattle.std.specs.Prelude.{Contains, Option, Some, None, nat_le, if◌then◌else◌}
use Rattle.std.specs.Str.{is_utf8}
use Rattle.std.specs.Option.{is_none}
use Rattle.std.proofs.lemmas.Bool.{cases_Bool, or_left, or_right, true≢false, false_from_ne_true}
use Rattle.op_name.specs.declared.member.Member.{Member}
use Rattle.context_diff.specs.Operations.{OpData, member_of, context_of, IsWellFormed}
use Rattle.context_diff.specs.Histories.{is_known, IsValid}
use Rattle.context_diff.proofs.CallerLemmas.{complete, contains_none}
use Rattle.cot_site.specs.States.{State, is_ready}
use Rattle.cot_site.specs.Verdicts.{lacked}
use Rattle.cot_site.proofs.CallerLemmas.{settled_none, first_lacked_is, formed_context}
use Rattle.script_text.specs.declared.reading.line.Line.{Line}
use Rattle.script_text.specs.declared.reading.line.Line.TheVariants as line
use Rattle.script_text.specs.declared.report.refusal.Refusal.{Refusal}
use Rattle.script_text.specs.declared.report.refusal.Refusal.TheVariants as refusal
use Rattle.script_text.specs.Lines.{IsInRange}
use Rattle.script_text.specs.Answers.{line_in}
use Rattle.script_text.specs.declared.reading.parse.TheConstants.{LONGEST}
use Rattle.script_text.proofs.CallerLemmas.{line_found}
use Rattle.session_replay.specs.Steps.{Step, last_of}
use Rattle.session_replay.specs.Sessions.{SessionData, unstarted}
use Rattle.session_replay.specs.LineSteps.{line_steps, AreValues}
use Rattle.session_replay.specs.Scripts.{Piece, Whole, Past, line_read, read_form, steps_of_read, piece_steps}
use Rattle.session_replay.specs.Soundness.{IsSound, AreSettled, WaitsFor}
use Rattle.session_replay.proofs.Every.{every_last}
use Rattle.session_replay.proofs.LineLaws.{line_lasts}

pub unstarted_sound : IsSound unstarted
unstarted_sound = record {
  sites = λ s at. absurd (contains_none s at);
  messages = λ o at. absurd (contains_none o at);
}

-- ---- lines as they are read

-- a line was read, and its parts are in range
read_range : (p : Piece) (l : Line) → line_read p ≡ Ok l → IsInRange l
read_range Past l is = absurd (none l is)
  where
    none : (l : Line) → ◌≡◌ {A = Result Line Refusal} (Err refusal.Limit) (Ok l) → ⊥
    none l e = cc
read_range (Whole bytes) l is =
    elim (cases_Bool (nat_le (length bytes) LONGEST)) [
      | inr long ↦ absurd (no_line refusal.Long
          (sym (ap (λ (b : Bool). if b then (if is_utf8 bytes then read_form (line_in bytes) else Err refusal.Utf8) else Err refusal.Long)
          long) ∙ is))
      | inl short ↦
          elim (cases_Bool (is_utf8 bytes)) [
            | inr bad ↦ absurd (no_line refusal.Utf8
                (sym (ap (λ (b : Bool). if b then read_form (line_in bytes) else Err refusal.Utf8) bad) ∙ inner short))
            | inl good ↦ formed (line_in bytes) refl
                (sym (ap (λ (b : Bool). if b then read_form (line_in bytes) else Err refusal.Utf8) good) ∙ inner short)
          ]
    ]
  where
    no_line : (why : Refusal) → ◌≡◌ {A = Result Line Refusal} (Err why) (Ok l) → ⊥
    no_line why e = cc

    inner : nat_le (length bytes) LONGEST ≡ true
        → ◌≡◌ {A = Result Line Refusal} (if is_utf8 bytes then read_form (line_in bytes) else Err refusal.Utf8) (Ok l)
    inner short =
        sym (ap (λ (b : Bool). if b then (if is_utf8 bytes then read_form (line_in bytes) else Err refusal.Utf8) else Err refusal.Long)
        short) ∙ is

    formed : (o : Option Line) → line_in bytes ≡ o → read_form o ≡ Ok l → IsInRange l
    formed None at e = absurd (no_line refusal.Form e)
    formed (Some k) at e =
        let same : k ≡ l = cc in
        subst IsInRange same (line_found bytes k at).1

in_values : (l : Line) → IsInRange l → AreValues l
in_values line.Blank range = tt
in_values (line.Sites n) range = tt
in_values (line.Ins i v text) range = range.3
in_values (line.Run i v text) range = range.3
in_values (line.Nl i v) range = tt
in_values (line.Del i v) range = tt
in_values (line.Undo i t) range = tt
in_values (line.Redo i t) range = tt
in_values (line.Give i m) range = tt
in_values (line.All i) range = tt
in_values line.Sync range = tt
in_values (line.Raw i bytes) range = range.2
in_values (line.Raw2 i bytes) range = range.2
in_values (line.Show i) range = tt
in_values (line.State i) range = tt

pub read_values : (p : Piece) (l : Line) → line_read p ≡ Ok l → AreValues l
read_values p l is = in_values l (read_range p l is)

-- the steps of a line of a script are those of a line that was read
pub record Reads (p : Piece) (d : SessionData) (es : List (Step SessionData)) : Type 0 where
  pub line : Line
  pub read : line_read p ≡ Ok line
  pub values : AreValues line
  pub steps : line_steps line d ≡ Ok es

pub piece_reads : (p : Piece) (d : SessionData) (es : List (Step SessionData)) → piece_steps p d ≡ Ok es → Reads p d es
piece_reads p d es is = from (line_read p) refl is
  where
    from : (r : Result Line Refusal) → line_read p ≡ r → steps_of_read r d ≡ Ok es → Reads p d es
    from (Ok l) at e = record { line = l; read = at; values = read_values p l at; steps = e }
    from (Err why) at e = absurd (no_read e)
      where
        no_read : ◌≡◌ {A = Result (List (Step SessionData)) Refusal} (Err why) (Ok es) → ⊥
        no_read e = cc

-- ---- scripts

-- a session that is sound and settled
abbrev pub Rests : SessionData → Type 0
Rests d = IsSound d × AreSettled d

pub piece_rests : (p : Piece) (d : SessionData) (es : List (Step SessionData)) → Rests d → piece_steps p d ≡ Ok es → Rests (last_of d es)
piece_rests p d es rests is =
    let reads = piece_reads p d es is in
    let lasts = line_lasts reads.line d es rests.0 reads.values reads.steps in
    (every_last IsSound d es rests.0 lasts.all, lasts.settles rests.1)

pub unstarted_rests : Rests unstarted
unstarted_rests = (unstarted_sound, λ s there. absurd (contains_none s there))

-- ---- what waits

-- an operation that isn't ready waits for a named member
pub waits_for : (h : List OpData) (o : OpData) → IsValid h → IsWellFormed o → is_ready h o ≡ false → WaitsFor h o
waits_for h o valid formed not = from (lacked h (context_of o)) refl
  where
    new : is_known h (member_of o) ≡ false
    new = false_from_ne_true (is_known h (member_of o))
        (λ e. true≢false (sym (or_left (is_known h (member_of o)) (is_none (lacked h (context_of o))) e) ∙ not))

    from : (r : Option Member) → lacked h (context_of o) ≡ r → WaitsFor h o
    from None none =
        absurd (true≢false (sym (or_right (is_known h (member_of o)) (is_none (lacked h (context_of o))) (ap (λ x. is_none x) none)) ∙ not))
    from (Some m) some =
        record { missing = m; first = first_lacked_is h (complete h valid) (context_of o) m (formed_context o formed) some; new = new }

-- so does whatever waits in a sound session where no operation is ready
pub waiting_named : (d : SessionData) → IsSound d → AreSettled d → (s : State) (o : OpData) → Contains d.sites s → Contains s.waiting o
    → WaitsFor s.history o
waiting_named d sound settled s o site there =
    waits_for s.history o (sound.sites s site).history ((sound.sites s site).waiting o there) ((settled_none s).0 (settled s site) o there)
