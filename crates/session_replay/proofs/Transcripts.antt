-- Transcripts: the report of a script has one, and no other report has.
use Rattle.std.proofs.Common.{◌≡◌, ℕ, ◌+◌, true, inl, inr, List, [], ◌∷◌, ◌++◌, length, map, Result, Ok, Err, refl, ap, sym, subst, ◌∙◌, append_assoc, append-nil, arith}
use Rattle.std.specs.Prelude.{Contains, Some}
use Rattle.std.specs.List.{concat}
use Rattle.context_diff.proofs.CallerLemmas.{contains_cases, contains_here, contains_later, contains_none}
use Rattle.cot_site.specs.Views.{forms_view}
use Rattle.cot_site.proofs.CallerLemmas.{lists_show}
use Rattle.script_text.specs.declared.reading.line.Line.{Line}
use Rattle.script_text.specs.declared.reading.line.Line.TheVariants.{Show}
use Rattle.script_text.specs.declared.report.refusal.Refusal.{Refusal}
use Rattle.script_text.specs.Report.{Report, refused_text}
use Rattle.session_replay.specs.Steps.{Step, last_of, written_by}
use Rattle.session_replay.specs.Sessions.{SessionData, unstarted}
use Rattle.session_replay.specs.LineSteps.{told, show_text, line_steps, steps_there}
use Rattle.session_replay.specs.Events.{Moment, moments, all_steps}
use Rattle.session_replay.specs.Scripts.{Piece, prepended, pieces_of, steps_of_read, piece_steps, report_on, report_from, report_from_in, script_report}
use Rattle.session_replay.specs.Transcripts.{Settles, Entry, steps_in, written_in, after_entry, IsShown, IsEntry, AreConsecutive, after_entries, IsEnd, IsTranscript}
use Rattle.session_replay.proofs.LineLaws.{Lasting, site_there, line_lasts}
use Rattle.session_replay.proofs.ScriptLaws.{Rests, Reads, piece_reads, piece_rests, unstarted_rests, waiting_named}
use Rattle.session_replay.proofs.Derivation.{line_same}

-- ---- one line

shows_text : (l : Line) (i : ℕ) (d : SessionData) (es : List (Step SessionData)) → line_steps l d ≡ Ok es → l ≡ Show i
    → IsShown d i (written_by es)
unfolding written_by
shows_text l i d es is show =
    let steps : line_steps (Show i) d ≡ Ok es = ap (λ k. line_steps k d) (sym show) ∙ is in
    let there = site_there (Some i) d (steps_there (Show i) d) es steps in
    record {
      there = there.0;
      text = ap (λ (xs : List (Step SessionData)). written_by xs) (same there.1) ∙ append-nil (show_text i d);
    }
  where
    same : steps_there (Show i) d ≡ Ok es → es ≡ told (show_text i d) d
    same e = cc

-- a line of a script that was done from this session
abbrev entry_of : (p : Piece) (d : SessionData) (es : List (Step SessionData)) → Reads p d es → Lasting d es → Entry
entry_of p d es reads lasts = record { piece = p; line = reads.line; before = d; events = lasts.events.events }

is_entry : (p : Piece) (d : SessionData) (es : List (Step SessionData)) (reads : Reads p d es) (lasts : Lasting d es) → Rests d
    → IsEntry (entry_of p d es reads lasts)
is_entry p d es reads lasts rests = record {
  read = reads.read;
  steps = steps;
  settles = settles;
  shown = λ i show. shows_text reads.line i d (all_steps lasts.events.events d) steps show;
  derived = λ forms are. line_same (forms_view forms) (λ s valid. lists_show forms s are valid) reads.line d rests.0 reads.values ∙ steps;
}
  where
    steps : line_steps reads.line d ≡ Ok (all_steps lasts.events.events d)
    steps = reads.steps ∙ ap (λ xs. Ok xs) lasts.events.parts

    settles : (m : Moment) → Contains (moments lasts.events.events d) m → Settles m
    settles m at =
        let sound = lasts.events.sound m at in
        let settled = lasts.events.settled rests.1 m at in
        record { sound = sound.0; settled = settled; waiting = waiting_named _ sound.0 settled; named = sound.1 }

-- ---- the lines that follow a session

-- these lines, of which the first has this number, from this session on
record Follows (n : ℕ) (ps : List Piece) (d : SessionData) (r : Report) : Type 0 where
  entries : List Entry
  left : List Piece
  ending : List ℕ
  lines : ps ≡ map (λ e. e.piece) entries ++ left
  consecutive : AreConsecutive d entries
  done : (e : Entry) → Contains entries e → IsEntry e
  end : IsEnd (n + length entries) (after_entries d entries) left ending r.refused
  written : r.written ≡ concat (map written_in entries) ++ ending

refused_follows : (n : ℕ) (p : Piece) (ps : List Piece) (d : SessionData) (why : Refusal) → piece_steps p d ≡ Err why
    → Follows n (p ∷ ps) d (record { written = refused_text n why; refused = true })
refused_follows n p ps d why is = record {
  entries = [];
  left = p ∷ ps;
  ending = refused_text n why;
  lines = refl;
  consecutive = tt;
  done = λ e at. absurd (contains_none e at);
  end = (why, is, ap (λ k. refused_text k why) here, refl);
  written = refl;
}
  where
    here : n ≡ n + 0
    here = omega arith

line_follows : (n : ℕ) (e : Entry) (ps : List Piece) (r : Report) → IsEntry e → Follows (n + 1) ps (after_entry e) r
    → Follows n (e.piece ∷ ps) e.before (prepended (written_in e) r)
line_follows n e ps r is rest = record {
  entries = e ∷ rest.entries;
  left = rest.left;
  ending = rest.ending;
  lines = ap (λ xs. e.piece ∷ xs) rest.lines;
  consecutive = (refl, rest.consecutive);
  done = λ x at. elim (contains_cases e rest.entries x at) [ inl same ↦ subst IsEntry same is | inr later ↦ rest.done x later ];
  end = subst (λ k. IsEnd k (after_entries (after_entry e) rest.entries) rest.left rest.ending r.refused) next rest.end;
  written = ap (λ w. written_in e ++ w) rest.written ∙ sym (append_assoc (written_in e) (concat (map written_in rest.entries)) rest.ending);
}
  where
    next : n + 1 + length rest.entries ≡ n + length (e ∷ rest.entries)
    next = omega arith

lines_follow : (ps : List Piece) (n : ℕ) (d : SessionData) → Rests d → Follows n ps d (report_from n ps d)
unfolding report_from_in
lines_follow [] n d rests = record {
  entries = [];
  left = [];
  ending = [];
  lines = refl;
  consecutive = tt;
  done = λ e at. absurd (contains_none e at);
  end = (refl, refl);
  written = refl;
}
lines_follow (p ∷ ps) n d rests = from (λ e after. lines_follow ps (n + 1) e after) (piece_steps p d) refl
  where
    next : SessionData → Report
    next = report_from (n + 1) ps

    from : ((e : SessionData) → Rests e → Follows (n + 1) ps e (next e)) → (r : Result (List (Step SessionData)) Refusal)
        → piece_steps p d ≡ r → Follows n (p ∷ ps) d (report_on next n (piece_steps p d) d)
    from later (Err why) is = subst (λ r. Follows n (p ∷ ps) d (report_on next n r d)) (sym is) (refused_follows n p ps d why is)
    from later (Ok es) is =
        let reads = piece_reads p d es is in
        let lasts = line_lasts reads.line d es rests.0 reads.values reads.steps in
        let e = entry_of p d es reads lasts in
        let after : Rests (after_entry e) = subst (λ xs. Rests (last_of d xs)) lasts.events.parts (piece_rests p d es rests is) in
        let whole = line_follows n e ps (next (after_entry e)) (is_entry p d es reads lasts rests) (later (after_entry e) after) in
        subst (λ r. Follows n (p ∷ ps) d (report_on next n r d)) (sym (is ∙ ap (λ xs. Ok xs) lasts.events.parts)) whole

pub report_transcript : (bytes : List ℕ) → IsTranscript bytes (script_report bytes)
report_transcript bytes =
    let f = lines_follow (pieces_of bytes) 1 unstarted unstarted_rests in
    record {
      entries = f.entries;
      left = f.left;
      ending = f.ending;
      lines = f.lines;
      consecutive = f.consecutive;
      done = f.done;
      end =
          f.end;
      written = f.written;
    }

-- ---- no other report

entry_steps : (e : Entry) → IsEntry e → piece_steps e.piece e.before ≡ Ok (steps_in e)
entry_steps e is = ap (λ r. steps_of_read r e.before) is.read ∙ is.steps

end_once : (n : ℕ) (d : SessionData) (left : List Piece) (r : Report) → IsEnd n d left r.written r.refused → r ≡ report_from n left d
unfolding report_from_in
end_once n d [] r end = λ i. record { written = end.0 i; refused = end.1 i }
end_once n d (p ∷ left) r end =
    (λ i. record { written = end.2 i; refused = end.3 i }) ∙ ap (λ x. report_on (report_from (n + 1) left) n x d) (sym end.1)

entries_once : (es : List Entry) (n : ℕ) (d : SessionData) (left : List Piece) (ending : List ℕ) (r : Report)
    → AreConsecutive d es → ((e : Entry) → Contains es e → IsEntry e) → IsEnd (n + length es) (after_entries d es) left ending r.refused
    → r.written ≡ concat (map written_in es) ++ ending
    → r ≡ report_from n (map (λ e. e.piece) es ++ left) d
unfolding report_from_in
entries_once [] n d left ending r follow are end written =
    end_once n d left r (subst (λ k. IsEnd k d left r.written r.refused) here
    (subst (λ w. IsEnd (n + 0) d left w r.refused) (sym written) end))
  where
    here : n + 0 ≡ n
    here = omega arith
entries_once (e ∷ es) n d left ending r follow are end written =
    let rest : Report = record { written = concat (map written_in es) ++ ending; refused = r.refused } in
    let after = after_entry e in
    let later =
    entries_once es (n + 1) after left ending rest follow.1 (λ x at. are x (contains_later e es x at))
    (subst (λ k. IsEnd k (after_entries after es) left ending r.refused) next end) refl in
    let steps : piece_steps e.piece d ≡ Ok (steps_in e) =
    ap (piece_steps e.piece) (sym follow.0) ∙ entry_steps e (are e (contains_here e es)) in
    let last : last_of d (steps_in e) ≡ after = ap (λ x. last_of x (steps_in e)) (sym follow.0) in
    let more = report_from (n + 1) (map (λ x. x.piece) es ++ left) in
    (λ i. record { written = (written ∙ append_assoc (written_in e) (concat (map written_in es)) ending) i; refused = r.refused })
    ∙ ap (prepended (written_in e)) (later ∙ ap more (sym last))
    ∙ ap (λ x. report_on more n x d) (sym steps)
  where
    next : n + length (e ∷ es) ≡ n + 1 + length es
    next = omega arith

pub transcript_once : (bytes : List ℕ) (r : Report) → IsTranscript bytes r → r ≡ script_report bytes
transcript_once bytes r is =
    entries_once is.entries 1 unstarted is.left is.ending r is.consecutive is.done is.end is.written
    ∙ ap (λ ps. report_from 1 ps unstarted) (sym is.lines)
