-- What `replay` has read and written so far tells each of its answers.
use Rattle.std.proofs.Common.{◌≡◌, ◌≢◌, ℕ, ◌+◌, ◌≤◌, Bool, true, false, Option, None, Some, List, [], ◌∷◌, ◌++◌, refl, ap, sym, subst, ◌∙◌, arith, length, length-append, append_assoc, append-nil}
use Rattle.std.specs.Prelude.{Result, Ok, Err, IfSome, IfErr, OnOk, OnErr}
use Rattle.std.specs.Result.{IsErrAnd}
use Rattle.std.specs.List.{All}
use Rattle.std.proofs.lemmas.List.Elements.{All-nil}
use Rattle.std.specs.Io.KnownBytes.{Appends, Consumes, IsAtEnd, Keeps as Stays}
use Rattle.std.proofs.KnownBytes.{Appends-nil, Appends-trans, Consumes-nil, Consumes-trans, Consumes-kept, Consumes-whole}
use Rattle.outside_io.specs.Faults.{Rose, HasCause}
use Rattle.outside_io.specs.Writing.{WritesFront}
use Rattle.outside_io.specs.declared.reading.TheConstants.{MAX_INPUT}
use Rattle.script_text.specs.Report.{Report}
use Rattle.session_replay.specs.Scripts.{script_report}
use Rattle.session_replay.specs.ReaderData.{ReaderData}
use Rattle.session_replay.specs.Readers.{Keeps, KeepsSome, Awaits, AwaitsSome}
use Rattle.session_replay.proofs.CallerLemmas.{kept_is_front, done_is_reported}
use Rattle.log_replies.specs.declared.loaded.TheConstants.{PIECE}
use Rattle.log_replies.specs.declared.status.Status.{Status}
use Rattle.log_replies.specs.declared.status.Status.TheVariants.{WriteFault}
use Rattle.log_replies.specs.Outside.{Outside, told}
use Rattle.log_replies.specs.Answers.{IsReplied, IsPartlyReplied}
use Rattle.cotpad_run.specs.Replaying.{IsScriptReport, IsReport, IsFrontOfReport, IsReportSoFar, IsReportedTillRead, IsUnreadReport, IsUnwrittenReport, IsReportOutOfMemory, IsReplayed}
use Rattle.cotpad_run.specs.Code.Replaying.{IsPassed, KeepsAfter, IsReading, IsWaiting}

-- each script has its report
abbrev pub ReportsAreThere : Type 0
ReportsAreThere = (bytes : List ℕ) → IsScriptReport bytes (script_report bytes)

-- the report of these bytes begins with `front`
abbrev pub BeginsWith : List ℕ → List ℕ → Type 0
BeginsWith bytes front = (rest : List ℕ) × ((script_report bytes).written ≡ front ++ rest)

-- ---- what is so of all that begins with the bytes taken is so of all that the source had

of_all : (left now : Option (List ℕ)) (all : List ℕ) (P : List ℕ → Type 0) → Consumes left now all → ((more : List ℕ) → P (all ++ more))
    → IfSome left P
of_all None now all P taken h = tt
of_all (Some xs) None all P taken h = absurd taken
of_all (Some xs) (Some ys) all P taken h = subst P (sym taken) (h ys)

-- ---- what was written, as a reply

replied : (held now : Option (List ℕ)) (bytes written : List ℕ) (refused : Bool) → ReportsAreThere
    → script_report bytes ≡ record { written = written; refused = refused } → Appends held now written
    → IsReplied IsScriptReport refused held now bytes
replied held now bytes written refused reports is sent = record {
  reply = script_report bytes;
  right = reports bytes;
  told = ap (λ (r : Report). r.refused) is;
  written = subst (Appends held now) (sym (ap (λ (r : Report). r.written) is)) sent;
}

partly_replied : (held now : Option (List ℕ)) (bytes written : List ℕ) → ReportsAreThere → BeginsWith bytes written
    → Appends held now written → IsPartlyReplied IsScriptReport held now bytes
partly_replied held now bytes written reports front sent = record {
  reply = script_report bytes;
  right = reports bytes;
  front = record { front = written; rest = front.0; parts = front.1; written = sent };
}

-- a front of what all that follows reports was written
front_of_report : (old new : Outside) (all written : List ℕ) → ReportsAreThere → ((more : List ℕ) → BeginsWith (all ++ more) written)
    → Appends old.held new.held written → Consumes old.left new.left all → length all ≤ MAX_INPUT + 1 → IsFrontOfReport old new
front_of_report old new all written reports front sent taken few = record {
  front = of_all old.left new.left all (IsPartlyReplied IsScriptReport old.held new.held) taken
      (λ more. partly_replied old.held new.held (all ++ more) written reports (front more) sent);
  kept = (written, sent);
  lost = record { front = all; few = few; lost = taken };
}

-- a front of a piece after all that was written before
behind : (a b c : Option (List ℕ)) (bytes before piece : List ℕ) → Appends a b before → (w : WritesFront b c piece)
    → BeginsWith bytes (before ++ piece)
    → BeginsWith bytes (before ++ w.front) × Appends a c (before ++ w.front)
behind a b c bytes before piece sent w front = (
  (
    w.rest ++ front.0,
    front.1 ∙ ap (λ xs. (before ++ xs) ++ front.0) w.parts
        ∙ ap (λ xs. xs ++ front.0) (sym (append_assoc before w.front w.rest)) ∙ append_assoc (before ++ w.front) w.rest front.0,
  ),
  Appends-trans a b c before w.front sent w.written,
)

-- what was written and what is still to be written begin the report, whatever follows
kept_front : (r : ReaderData) (all before : List ℕ) → Keeps r all before → (more : List ℕ) → BeginsWith (all ++ more) before
kept_front r all before k more = kept_is_front r all before more k

without_rest : (bytes before rest : List ℕ) → BeginsWith bytes (before ++ rest) → BeginsWith bytes before
without_rest bytes before rest front = (rest ++ front.0, front.1 ∙ append_assoc before rest front.0)

-- ---- what was reported before the last read

so_far_there : (old now : Outside) (r : ReaderData) (all written : List ℕ) → ReportsAreThere → (k : Keeps r all written)
    → All (λ b. b ≢ 10) k.left
    → Consumes old.left now.left all → Appends old.held now.held written → IsReportSoFar old now
so_far_there old now r all written reports k no_feed taken sent = record {
  whole = k.done;
  tail = k.left;
  taken = subst (Consumes old.left now.left) k.parts taken;
  lines = k.whole;
  no_line = no_feed;
  reply = replied old.held now.held k.done written false reports (done_is_reported r all written k) sent;
}

-- more was written since
till_written : (old mid now : Outside) (more : List ℕ) → IsReportedTillRead old mid → now.left ≡ mid.left → Appends mid.held now.held more
    → IsReportedTillRead old now
till_written old mid now more t same sent = record {
  till = t.till;
  so_far = t.so_far;
  piece = t.piece;
  short = t.short;
  read = subst (λ left. Consumes t.till.left left t.piece) (sym same) t.read;
  kept = (t.kept.0 ++ more, Appends-trans t.till.held mid.held now.held t.kept.0 more t.kept.1 sent);
}

-- all whole lines were done and reported, and then a piece was read, and more was written
reported_till : (old mid now : Outside) (r : ReaderData) (fed : ℕ) (piece more : List ℕ) → ReportsAreThere → IsWaiting old mid r fed
    → length piece ≤ PIECE → Consumes mid.left now.left piece → Appends mid.held now.held more → IsReportedTillRead old now
reported_till old mid now r fed piece more reports i short read sent = record {
  till = mid;
  so_far = so_far_there old mid r i.all i.written reports i.awaits.keeps i.awaits.no_feed i.taken i.sent;
  piece = piece;
  short = short;
  read = read;
  kept = (more, sent);
}

-- ---- the lines that are there whole

-- a reader that keeps anything keeps it behind nothing
pub behind_none : (r : ReaderData) (out : List ℕ) → KeepsSome r → out ≡ [] → KeepsAfter r out
behind_none r out k none =
    record {
      all = k.all;
      before = k.written;
      keeps =
          subst (Keeps r k.all) (sym (append-nil k.written) ∙ ap (λ xs. k.written ++ xs) (sym none)) k.keeps;
    }

-- a line was done, and a front of what stands in `out` was written
pub behind_on : (r s : ReaderData) (held now : Option (List ℕ)) (out mid new : List ℕ) → KeepsAfter r out
    → ((all before : List ℕ) → Keeps r all (before ++ out) → Keeps s all (before ++ mid)) → IsPassed held now mid new → KeepsAfter s new
behind_on r s held now out mid new k on p = record {
  all = k.all;
  before = k.before ++ p.front;
  keeps = subst (Keeps s k.all) (ap (λ xs. k.before ++ xs) p.parts ∙ sym (append_assoc k.before p.front new)) (on k.all k.before k.keeps);
}

pub reading_on : (old : Outside) (left : Option (List ℕ)) (reads : ℕ) (held now : Option (List ℕ)) (writes later : ℕ) (r s : ReaderData)
    (fed : ℕ) (out mid new : List ℕ)
    → IsReading old (told left reads held writes) r fed out
    → ((all before : List ℕ) → Keeps r all (before ++ out) → Keeps s all (before ++ mid)) → IsPassed held now mid new → later ≡ writes
    → IsReading old (told left reads now later) s fed new
reading_on old left reads held now writes later r s fed out mid new i on p same = record {
  all = i.all;
  written = i.written ++ p.front;
  keeps = subst (Keeps s i.all) (ap (λ xs. i.written ++ xs) p.parts ∙ sym (append_assoc i.written p.front new))
      (on i.all i.written i.keeps);
  count = i.count;
  few = i.few;
  taken = i.taken;
  sent = Appends-trans old.held held now i.written p.front i.sent p.sent;
  till_read = till_written old (told left reads held writes) (told left reads now later) p.front i.till_read refl p.sent;
  read_faults = i.read_faults;
  write_faults = same ∙ i.write_faults;
}

waiting_on : (old : Outside) (left : Option (List ℕ)) (reads : ℕ) (held now : Option (List ℕ)) (writes later : ℕ) (r s : ReaderData)
    (fed : ℕ) (out mid : List ℕ)
    → IsReading old (told left reads held writes) r fed out
    → ((all before : List ℕ) → Keeps r all (before ++ out) → Awaits s all (before ++ mid)) → Appends held now mid → later ≡ writes
    → IsWaiting old (told left reads now later) s fed
waiting_on old left reads held now writes later r s fed out mid i on sent same =
    let a : Awaits s i.all (i.written ++ mid) = on i.all i.written i.keeps in
    record {
      all = i.all;
      written = i.written ++ mid;
      awaits = a;
      count = i.count;
      few = omega (arith, a.within, i.count);
      taken = i.taken;
      sent = Appends-trans old.held held now i.written mid i.sent sent;
      read_faults = i.read_faults;
      write_faults = same ∙ i.write_faults;
    }

few_taken : (all : List ℕ) (fed : ℕ) → length all ≡ fed → fed ≤ MAX_INPUT + 1 → length all ≤ MAX_INPUT + 1
few_taken all fed count few = omega (arith, count, few)

-- a line is refused
pub refused_there : (old : Outside) (left : Option (List ℕ)) (reads : ℕ) (held now : Option (List ℕ)) (writes later : ℕ) (r : ReaderData)
    (fed : ℕ) (out mid : List ℕ) → ReportsAreThere
    → IsReading old (told left reads held writes) r fed out
    → ((all before : List ℕ) → Keeps r all (before ++ out) → (more : List ℕ)
    → script_report (all ++ more) ≡ record { written = before ++ mid; refused = true })
    → Appends held now mid → later ≡ writes
    → IsReport true old (told left reads now later) × IsReportedTillRead old (told left reads now later)
refused_there old left reads held now writes later r fed out mid reports i is sent same =
    let both : Appends old.held now (i.written ++ mid) = Appends-trans old.held held now i.written mid i.sent sent in (
      record {
        reply = of_all old.left left i.all (IsReplied IsScriptReport true old.held now) i.taken
            (λ more. replied old.held now (i.all ++ more) (i.written ++ mid) true reports (is i.all i.written i.keeps more) both);
        kept = (i.written ++ mid, both);
        lost = record { front = i.all; few = few_taken i.all fed i.count i.few; lost = i.taken };
        read_faults = i.read_faults;
        write_faults = same ∙ i.write_faults;
      },
      till_written old (told left reads held writes) (told left reads now later) mid i.till_read refl sent,
    )

-- a write failed
unwritten_there : (old : Outside) (left : Option (List ℕ)) (reads : ℕ) (held now : Option (List ℕ)) (writes later : ℕ) (r : ReaderData)
    (fed : ℕ) (out mid : List ℕ) → ReportsAreThere
    → IsReading old (told left reads held writes) r fed out
    → ((all before : List ℕ) → Keeps r all (before ++ out) → (more : List ℕ) → BeginsWith (all ++ more) (before ++ mid))
    → WritesFront held now mid → Rose writes later → IsUnwrittenReport old (told left reads now later)
unwritten_there old left reads held now writes later r fed out mid reports i front w rose =
    let begins : (more : List ℕ) → BeginsWith (i.all ++ more) (i.written ++ mid) = front i.all i.written i.keeps in
    record {
      fault = subst (λ n. Rose n later) i.write_faults rose;
      front = front_of_report old (told left reads now later) i.all (i.written ++ w.front) reports
          (λ more. (behind old.held held now (i.all ++ more) i.written mid i.sent w (begins more)).0)
          (behind old.held held now (i.all ++ []) i.written mid i.sent w (begins [])).1 i.taken (few_taken i.all fed i.count i.few);
      till_read = till_written old (told left reads held writes) (told left reads now later) w.front i.till_read refl w.written;
      read_faults = i.read_faults;
    }

-- of each answer of a line what was to be written begins the report
pub begins_done : (r s : ReaderData) (out mid : List ℕ)
    → ((all before : List ℕ) → Keeps r all (before ++ out) → Keeps s all (before ++ mid))
    → (all before : List ℕ) → Keeps r all (before ++ out) → (more : List ℕ) → BeginsWith (all ++ more) (before ++ mid)
begins_done r s out mid on all before k more = kept_front s all (before ++ mid) (on all before k) more

pub begins_awaited : (r s : ReaderData) (out mid : List ℕ)
    → ((all before : List ℕ) → Keeps r all (before ++ out) → Awaits s all (before ++ mid))
    → (all before : List ℕ) → Keeps r all (before ++ out) → (more : List ℕ) → BeginsWith (all ++ more) (before ++ mid)
begins_awaited r s out mid on all before k more = kept_front s all (before ++ mid) (on all before k).keeps more

pub begins_refused : (r : ReaderData) (out mid : List ℕ)
    → ((all before : List ℕ) → Keeps r all (before ++ out) → (more : List ℕ)
    → script_report (all ++ more) ≡ record { written = before ++ mid; refused = true })
    → (all before : List ℕ) → Keeps r all (before ++ out) → (more : List ℕ) → BeginsWith (all ++ more) (before ++ mid)
begins_refused r out mid is all before k more =
    ([], ap (λ (x : Report). x.written) (is all before k more) ∙ sym (append-nil (before ++ mid)))

-- where the status says that a write failed
pub faulted : (old new : Outside) (status : Status) → status ≡ WriteFault → IsUnwrittenReport old new → IsReplayed old new status
faulted old new status is unwritten = subst (IsReplayed old new) (sym is) unwritten

-- the lines are done: what the last write answers
pub waiting_or_not : {T : Type 0} (result : Result T Status) (held now before : Option (List ℕ)) (writes later first : ℕ)
    (q r s : ReaderData) (old_out out mid : List ℕ)
    → ((old : Outside) (left : Option (List ℕ)) (reads fed : ℕ) → IsReading old (told left reads before first) q fed old_out
    → IsReading old (told left reads held writes) r fed out)
    → ((all before : List ℕ) → Keeps r all (before ++ out) → Awaits s all (before ++ mid))
    → OnOk result (Appends held now mid) → HasCause writes later result
    → OnOk result ((old : Outside) (left : Option (List ℕ)) (reads fed : ℕ) → IsReading old (told left reads before first) q fed old_out
    → IsWaiting old (told left reads now later) s fed)
waiting_or_not (Ok t) held now before writes later first q r s old_out out mid so_far on sent cause =
    λ old left reads fed i. waiting_on old left reads held now writes later r s fed out mid (so_far old left reads fed i) on sent
    (cause.well refl)
waiting_or_not (Err e) held now before writes later first q r s old_out out mid so_far on sent cause = sent

pub stopped_or_not : {T : Type 0} (result : Result T Status) (held now before : Option (List ℕ)) (writes later first : ℕ) (q r : ReaderData)
    (old_out out mid : List ℕ) → ReportsAreThere
    → ((old : Outside) (left : Option (List ℕ)) (reads fed : ℕ) → IsReading old (told left reads before first) q fed old_out
    → IsReading old (told left reads held writes) r fed out)
    → ((all before : List ℕ) → Keeps r all (before ++ out) → (more : List ℕ) → BeginsWith (all ++ more) (before ++ mid))
    → OnErr result (WritesFront held now mid) → HasCause writes later result → IfErr result (λ status. status ≡ WriteFault)
    → IfErr result (λ status. (old : Outside) (left : Option (List ℕ)) (reads fed : ℕ)
    → IsReading old (told left reads before first) q fed old_out → IsReplayed old (told left reads now later) status)
stopped_or_not (Ok t) held now before writes later first q r old_out out mid reports so_far front w cause is = tt
stopped_or_not (Err status) held now before writes later first q r old_out out mid reports so_far front w cause is =
    λ old left reads fed i. faulted old (told left reads now later) status is
    (unwritten_there old left reads held now writes later r fed out mid reports (so_far old left reads fed i) front w
    (cause.failed refl))

-- a status that is handed on
pub handed_on : {T U : Type 0} (result : Result T Status) (later : Result U Status) (status : Status) (P : Status → Type 0)
    → result ≡ Err status → IsErrAnd later (λ x. x ≡ status) → IfErr result P → IfErr later P
handed_on {T} {U} result (Ok t) status P was is h = absurd is
handed_on {T} {U} result (Err e) status P was is h = subst P (sym is) (subst (λ (r : Result T Status). IfErr r P) was h)

-- out of memory while lines are done
pub memory_there : (old : Outside) (left : Option (List ℕ)) (reads : ℕ) (held : Option (List ℕ)) (writes : ℕ) (r : ReaderData) (fed : ℕ)
    (out : List ℕ) → ReportsAreThere
    → IsReading old (told left reads held writes) r fed out → IsReportOutOfMemory old (told left reads held writes)
memory_there old left reads held writes r fed out reports i = record {
  front = front_of_report old (told left reads held writes) i.all i.written reports
      (λ more. without_rest (i.all ++ more) i.written out (kept_front r i.all (i.written ++ out) i.keeps more)) i.sent i.taken
      (few_taken i.all fed i.count i.few);
  till_read = i.till_read;
  read_faults = i.read_faults;
  write_faults = i.write_faults;
}

-- ---- the start

none_behind : (xs ys : List ℕ) → [] ≡ xs ++ ys → ys ≡ []
none_behind [] ys none = sym none
none_behind (x ∷ xs) ys none = absurd cc

-- nothing was read yet
pub reading_first : (left : Option (List ℕ)) (reads : ℕ) (held : Option (List ℕ)) (writes : ℕ) (r : ReaderData) (out : List ℕ)
    → ReportsAreThere → Keeps r [] [] → out ≡ []
    → IsReading (told left reads held writes) (told left reads held writes) r 0 out
reading_first left reads held writes r out reports k none =
    let now = told left reads held writes in
    let no_feed : All (λ (b : ℕ). b ≢ 10) k.left =
    subst (All (λ (b : ℕ). b ≢ 10)) (sym (none_behind k.done k.left k.parts)) (All-nil (λ (b : ℕ). b ≢ 10)) in
    record {
      all = [];
      written = [];
      keeps = subst (Keeps r []) (sym none) k;
      count = refl;
      few = omega arith;
      taken = Consumes-nil left;
      sent = Appends-nil held;
      till_read = record {
        till = now;
        so_far = so_far_there now now r [] [] reports k no_feed (Consumes-nil left) (Appends-nil held);
        piece = [];
        short = omega arith;
        read = Consumes-nil left;
        kept = ([], Appends-nil held);
      };
      read_faults = refl;
      write_faults = refl;
    }

-- ---- the next read

-- these bytes were read and fed
pub fed_on : (old : Outside) (left now : Option (List ℕ)) (reads later : ℕ) (held : Option (List ℕ)) (writes : ℕ) (r s : ReaderData)
    (fed most n : ℕ) (bytes : List ℕ) → ReportsAreThere
    → IsWaiting old (told left reads held writes) r fed → fed + most ≤ MAX_INPUT + 1 → n ≤ most → n ≤ PIECE → length bytes ≡ n
    → Consumes left now bytes
    → ((all written : List ℕ) → Keeps r all written → Keeps s (all ++ bytes) written) → later ≡ reads
    → IsReading old (told now later held writes) s (fed + n) []
fed_on old left now reads later held writes r s fed most n bytes reports i room few short size taken on same = record {
  all = i.all ++ bytes;
  written = i.written;
  keeps = subst (Keeps s (i.all ++ bytes)) (sym (append-nil i.written)) (on i.all i.written i.awaits.keeps);
  count = omega (arith, length-append i.all bytes, i.count, size);
  few = omega (arith, room, few);
  taken = Consumes-trans old.left left now i.all bytes i.taken taken;
  sent = i.sent;
  till_read =
      reported_till old (told left reads held writes) (told now later held writes) r fed bytes [] reports i (omega (arith, short, size))
      taken (Appends-nil held);
  read_faults = same ∙ i.read_faults;
  write_faults = i.write_faults;
}

-- where nothing stands in `out`
pub with_out : (old now : Outside) (r : ReaderData) (fed : ℕ) (out : List ℕ) → IsReading old now r fed [] → out ≡ []
    → IsReading old now r fed out
with_out old now r fed out i none = subst (IsReading old now r fed) (sym none) i

-- nothing was fed
pub same_kept : (r : ReaderData) (bytes : List ℕ) → bytes ≡ [] → (all written : List ℕ) → Keeps r all written
    → Keeps r (all ++ bytes) written
same_kept r bytes none all written k = subst (λ xs. Keeps r xs written) (sym (append-nil all) ∙ ap (λ xs. all ++ xs) (sym none)) k

few_waiting : (all : List ℕ) (fed : ℕ) → length all ≡ fed → fed ≤ MAX_INPUT → length all ≤ MAX_INPUT + 1
few_waiting all fed count few = omega (arith, count, few)

-- a read failed
pub unread_there : (old : Outside) (left now : Option (List ℕ)) (reads later : ℕ) (held : Option (List ℕ)) (writes : ℕ) (r : ReaderData)
    (fed : ℕ) → ReportsAreThere
    → IsWaiting old (told left reads held writes) r fed → Stays left now → Rose reads later
    → IsUnreadReport old (told now later held writes)
unread_there old left now reads later held writes r fed reports i stays rose =
    let k : Keeps r i.all i.written = i.awaits.keeps in
    let taken : Consumes old.left now i.all = Consumes-kept old.left left now i.all i.taken stays in
    record {
      fault = subst (λ n. Rose n later) i.read_faults rose;
      so_far = so_far_there old (told now later held writes) r i.all i.written reports k i.awaits.no_feed taken i.sent;
      front = front_of_report old (told now later held writes) i.all i.written reports (kept_front r i.all i.written k) i.sent taken
          (few_waiting i.all fed i.count i.few);
      write_faults = i.write_faults;
    }

-- out of memory for what was read
pub memory_read : (old : Outside) (left now : Option (List ℕ)) (reads later : ℕ) (held : Option (List ℕ)) (writes : ℕ) (r : ReaderData)
    (fed most : ℕ) (bytes : List ℕ) → ReportsAreThere
    → IsWaiting old (told left reads held writes) r fed → fed + most ≤ MAX_INPUT + 1 → length bytes ≤ most → length bytes ≤ PIECE
    → Consumes left now bytes → later ≡ reads
    → IsReportOutOfMemory old (told now later held writes)
memory_read old left now reads later held writes r fed most bytes reports i room few short taken same =
    let both : Consumes old.left now (i.all ++ bytes) = Consumes-trans old.left left now i.all bytes i.taken taken in
    record {
      front = front_of_report old (told now later held writes) (i.all ++ bytes) i.written reports
          (λ more. subst (λ xs. BeginsWith xs i.written) (sym (append_assoc i.all bytes more))
          (kept_front r i.all i.written i.awaits.keeps (bytes ++ more))) i.sent both
          (omega (arith, length-append i.all bytes, i.count, room, few));
      till_read =
          reported_till old (told left reads held writes) (told now later held writes) r fed bytes [] reports i short taken
          (Appends-nil held);
      read_faults = same ∙ i.read_faults;
      write_faults = i.write_faults;
    }

-- ---- the end of the source

pub some_awaited : (old now : Outside) (r : ReaderData) (fed : ℕ) → IsWaiting old now r fed → AwaitsSome r
some_awaited old now r fed i = record { all = i.all; written = i.written; awaits = i.awaits }

-- what ending the script reports, where nothing stood in `out` before
reported_at_end : (r : ReaderData) (all written out new : List ℕ) (refused : Bool) → Keeps r all written → out ≡ []
    → ((all before : List ℕ) → Keeps r all (before ++ out) → script_report all ≡ record { written = before ++ new; refused = refused })
    → script_report all ≡ record { written = written ++ new; refused = refused }
reported_at_end r all written out new refused k none is =
    is all written (subst (Keeps r all) (sym (append-nil written) ∙ ap (λ xs. written ++ xs) (sym none)) k)

-- all was written
pub ended_there : (old : Outside) (left : Option (List ℕ)) (reads : ℕ) (held now : Option (List ℕ)) (writes later : ℕ) (r : ReaderData)
    (fed : ℕ) (out new : List ℕ) (answer refused : Bool) → ReportsAreThere
    → IsWaiting old (told left reads held writes) r fed → IsAtEnd left → out ≡ [] → answer ≡ refused
    → ((all before : List ℕ) → Keeps r all (before ++ out) → script_report all ≡ record { written = before ++ new; refused = answer })
    → Appends held now new → later ≡ writes → IsReport refused old (told left reads now later)
ended_there old left reads held now writes later r fed out new answer refused reports i end none said is sent same =
    let whole : script_report i.all ≡ record { written = i.written ++ new; refused = refused } =
    subst (λ (b : Bool). script_report i.all ≡ record { written = i.written ++ new; refused = b }) said
    (reported_at_end r i.all i.written out new answer i.awaits.keeps none is) in
    let both : Appends old.held now (i.written ++ new) = Appends-trans old.held held now i.written new i.sent sent in
    record {
      reply = Consumes-whole old.left left i.all (IsReplied IsScriptReport refused old.held now) i.taken end
          (replied old.held now i.all (i.written ++ new) refused reports whole both);
      kept = (i.written ++ new, both);
      lost = record { front = i.all; few = few_waiting i.all fed i.count i.few; lost = i.taken };
      read_faults = i.read_faults;
      write_faults = same ∙ i.write_faults;
    }

-- the last line, which no line feed ends, is refused
pub refused_at_end : (old : Outside) (left : Option (List ℕ)) (reads : ℕ) (held now : Option (List ℕ)) (writes later : ℕ) (r : ReaderData)
    (fed : ℕ) (out new : List ℕ) (answer : Bool) → ReportsAreThere
    → IsWaiting old (told left reads held writes) r fed → IsAtEnd left → out ≡ [] → answer ≡ true
    → ((all before : List ℕ) → Keeps r all (before ++ out) → script_report all ≡ record { written = before ++ new; refused = answer })
    → Appends held now new → later ≡ writes
    → IsReport true old (told left reads now later) × IsReportedTillRead old (told left reads now later)
refused_at_end old left reads held now writes later r fed out new answer reports i end none said is sent same = (
  ended_there old left reads held now writes later r fed out new answer true reports i end none said is sent same,
  reported_till old (told left reads held writes) (told left reads now later) r fed [] new reports i (omega arith) (Consumes-nil left) sent,
)

-- the write failed
pub unwritten_at_end : (old : Outside) (left : Option (List ℕ)) (reads : ℕ) (held now : Option (List ℕ)) (writes later : ℕ) (r : ReaderData)
    (fed : ℕ) (out new : List ℕ) (refused : Bool) → ReportsAreThere
    → IsWaiting old (told left reads held writes) r fed → IsAtEnd left → out ≡ []
    → ((all before : List ℕ) → Keeps r all (before ++ out) → script_report all ≡ record { written = before ++ new; refused = refused })
    → WritesFront held now new → Rose writes later → IsUnwrittenReport old (told left reads now later)
unwritten_at_end old left reads held now writes later r fed out new refused reports i end none is w rose =
    let whole = reported_at_end r i.all i.written out new refused i.awaits.keeps none is in
    let begins : BeginsWith i.all (i.written ++ new) = ([], ap (λ (x : Report). x.written) whole ∙ sym (append-nil (i.written ++ new))) in
    let b = behind old.held held now i.all i.written new i.sent w begins in
    record {
      fault = subst (λ n. Rose n later) i.write_faults rose;
      front = record {
        front = Consumes-whole old.left left i.all (IsPartlyReplied IsScriptReport old.held now) i.taken end
            (partly_replied old.held now i.all (i.written ++ w.front) reports b.0 b.1);
        kept = (i.written ++ w.front, b.1);
        lost = record { front = i.all; few = few_waiting i.all fed i.count i.few; lost = i.taken };
      };
      till_read =
          reported_till old (told left reads held writes) (told left reads now later) r fed [] w.front reports i (omega arith)
          (Consumes-nil left) w.written;
      read_faults = i.read_faults;
    }

-- out of memory
pub memory_at_end : (old : Outside) (left : Option (List ℕ)) (reads : ℕ) (held : Option (List ℕ)) (writes : ℕ) (r : ReaderData) (fed : ℕ)
    → ReportsAreThere
    → IsWaiting old (told left reads held writes) r fed → IsReportOutOfMemory old (told left reads held writes)
memory_at_end old left reads held writes r fed reports i = record {
  front = front_of_report old (told left reads held writes) i.all i.written reports (kept_front r i.all i.written i.awaits.keeps) i.sent
      i.taken (few_waiting i.all fed i.count i.few);
  till_read =
      reported_till old (told left reads held writes) (told left reads held writes) r fed [] [] reports i (omega arith) (Consumes-nil left)
      (Appends-nil held);
  read_faults = i.read_faults;
  write_faults = i.write_faults;
}
