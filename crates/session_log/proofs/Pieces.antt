-- What a reader keeps after a piece: of the header alone, of the frames after it, or of a fault.
use Rattle.std.proofs.Common.{◌≡◌, ◌≢◌, ℕ, ◌+◌, ◌<◌, ◌≤◌, List, [], ◌∷◌, ◌++◌, inl, inr, Result, refl, ap, sym, subst, ◌∙◌, length, take, append-nil, arith}
use Rattle.std.specs.Prelude.{Option, Some, None, Ok, Err, IfOk, true, false, min, ◌==◌}
use Rattle.std.proofs.lemmas.Bool.{cases_lt, eqb-true, le-leb, true≢false}
use Rattle.std.proofs.lemmas.Bool.Decides.{leb_tells}
use Rattle.std.proofs.lemmas.List.{nil_from_length, length-append, length-take, length-take-le, take_all, take_min, append_cancel_left}
use Rattle.op_name.specs.declared.memory.Memory.{Memory}
use Rattle.wire_codec.specs.declared.version.Version.{Version}
use Rattle.wire_codec.specs.StreamData.{StreamData}
use Rattle.wire_codec.specs.Streams.{Feeds}
use Rattle.cot_site.specs.States.{State}
use Rattle.session_log.specs.declared.headers.TheConstants.{HEADER_LEN}
use Rattle.session_log.specs.declared.log_bad.LogBad.{LogBad}
use Rattle.session_log.specs.declared.log_bad.LogBad.TheVariants as bad
use Rattle.session_log.specs.Logs.{header, frames}
use Rattle.session_log.specs.Loadings.{new_state}
use Rattle.session_log.specs.Readers.{AreTakenTo, HasTaken, NeedsMore, HasRead, AwaitsHeader, Keeps, GoesPastHeader}
use Rattle.session_log.specs.ReaderData.{AreBytes, IsCounted, ReaderData, header_read, reader_of}
use Rattle.session_log.specs.Code.Steps.{no_frame, Ends}
use Rattle.session_log.proofs.HeaderFronts.{header_long, one_whole_front}
use Rattle.session_log.proofs.Fronts.{bytes_append}
use Rattle.session_log.proofs.Frames.{none_fit, none_formed, nothing_needs}
use Rattle.session_log.proofs.Steps.{has_taken_on}

-- the piece goes on with this header, of which so many bytes came before, and these bytes come after it
abbrev GoesFrom : List ℕ → ℕ → List ℕ → List ℕ → Type 0
GoesFrom h come piece rest = take come h ++ piece ≡ take (come + length piece) h ++ rest

-- the same with the header of a version, where so many bytes were fed before
abbrev GoesThrough : Version → ℕ → List ℕ → List ℕ → Type 0
GoesThrough v before piece rest = GoesFrom (header v) (min before HEADER_LEN) piece rest

pub goes_through : (v : Version) (come before : ℕ) (piece rest : List ℕ)
    → come ≡ min before HEADER_LEN → GoesFrom (header v) come piece rest → GoesThrough v before piece rest
goes_through v come before piece rest is goes = subst (λ (n : ℕ). GoesFrom (header v) n piece rest) is goes

-- the bytes so far and the front of the header
awaited_front : (site : ℕ) (v : Version) (before : ℕ) (left : List ℕ) (s : State) (refused : Option LogBad) (all : List ℕ)
    → before ≡ length all → AwaitsHeader (reader_of site v before left s refused None false) all
    → take (min before HEADER_LEN) (header v) ≡ all
awaited_front site v before left s refused all count a =
    let fewer : min before HEADER_LEN ≡ length all = omega (arith, count, a.few) in
    ap (λ (n : ℕ). take n (header v)) fewer ∙ sym a.front

long_read : (site : ℕ) (v : Version) (before : ℕ) (left : List ℕ) (s : State) (refused : Option LogBad) (all : List ℕ)
    → before ≡ length all → HasRead (reader_of site v before left s refused None false) all → HEADER_LEN ≤ before
long_read site v before left s refused all count h =
    let b = h.taken.begins in
    omega (arith, count, ap length b.parts, header_long v, length-append (header v) (frames v h.taken.ops ++ left))

read_front : (v : Version) (before : ℕ) → HEADER_LEN ≤ before → take (min before HEADER_LEN) (header v) ≡ header v
read_front v before long = take_all (min before HEADER_LEN) (header v) (omega (arith, long, header_long v))

-- ---- the version that the header tells

-- the header goes on as that of another version, or the same, and the frames after it are of that version
pub record IsTurned (v w : Version) (before : ℕ) (old new : StreamData) : Type 0 where
  pub front : take (min before HEADER_LEN) (header v) ≡ take (min before HEADER_LEN) (header w)
  pub fresh : before < HEADER_LEN → new ≡ no_frame w
  pub stays : HEADER_LEN ≤ before → new ≡ old

pub turned : (v w : Version) (come before : ℕ) (old new : StreamData) → come ≡ min before HEADER_LEN
    → take come (header v) ≡ take come (header w) → (before < HEADER_LEN → new ≡ no_frame w) → (HEADER_LEN ≤ before → new ≡ old)
    → IsTurned v w before old new
turned v w come before old new is front fresh stays =
    record { front = subst (λ (n : ℕ). take n (header v) ≡ take n (header w)) is front; fresh = fresh; stays = stays }

-- once the header came whole, it is that of one version
pub one_told : (v w : Version) (before : ℕ) → HEADER_LEN ≤ before
    → take (min before HEADER_LEN) (header v) ≡ take (min before HEADER_LEN) (header w) → v ≡ w
one_told v w before long front = one_whole_front v w (min before HEADER_LEN) (omega (arith, long)) (omega arith) front

-- as long as it comes, it may be that of another one
pub turned_keeps : (site : ℕ) (v w : Version) (before : ℕ) (old new : StreamData) (s : State) (refused : Option LogBad) (all : List ℕ)
    → IsTurned v w before old new
    → Keeps (reader_of site v before old.left s refused None false) all
    → Keeps (reader_of site w before new.left s refused None false) all
turned_keeps site v w before old new s refused all t k = record {
  live = refl;
  fed = k.fed;
  kept = elim k.kept [
    | inl awaits ↦ inl (record {
      unread = awaits.unread;
      few = awaits.few;
      front =
          sym (awaited_front site v before old.left s refused all k.fed awaits) ∙ t.front
          ∙ ap (λ (n : ℕ). take n (header w)) (omega (arith, k.fed, awaits.few));
      left = ap (λ (x : StreamData). x.left) (t.fresh (omega (arith, k.fed, awaits.few)));
      state = awaits.state;
      accepted = awaits.accepted;
    })
    | inr has ↦
        let long = long_read site v before old.left s refused all k.fed has in
        let same : v ≡ w = one_told v w before long t.front in
        let here = subst (λ (x : Version). HasRead (reader_of site x before old.left s refused None false) all) same has in
        inr (subst (λ (x : StreamData). HasRead (reader_of site w before x.left s refused None false) all) (sym (t.stays long)) here)
  ];
}

-- where it comes, nothing after it was counted
pub turned_counts : (v w : Version) (before : ℕ) (old new : StreamData) → IsTurned v w before old new → IsCounted before old
    → IsCounted before new
turned_counts v w before old new t counted =
    elim (cases_lt before HEADER_LEN) [
      | inl few ↦ subst (IsCounted before) (sym (t.fresh few)) (omega (arith, few), λ i. omega arith)
      | inr long ↦ subst (IsCounted before) (sym (t.stays long)) counted
    ]

-- the frames are of that version
pub turned_version : (v w : Version) (before : ℕ) (old new : StreamData) → IsTurned v w before old new → old.version ≡ v → new.version ≡ w
turned_version v w before old new t is =
    elim (cases_lt before HEADER_LEN) [
      | inl few ↦ ap (λ (s : StreamData). s.version) (t.fresh few)
      | inr long ↦ ap (λ (s : StreamData). s.version) (t.stays long) ∙ is ∙ one_told v w before long t.front
    ]

-- ---- a piece that goes on as no header does

pub keeps_fault : (site : ℕ) (v : Version) (before : ℕ) (left : List ℕ) (s : State) (refused : Option LogBad) (all piece : List ℕ)
    → Keeps (reader_of site v before left s refused None false) all
    → ((w : Version) (more rest : List ℕ) → (take (min before HEADER_LEN) (header v) ++ piece) ++ more ≢ header w ++ rest)
    → Keeps (reader_of site v (before + length piece) left s refused (Some bad.Header) false) (all ++ piece)
keeps_fault site v before left s refused all piece k none = record {
  live = refl;
  fed = ap (λ (n : ℕ). n + length piece) k.fed ∙ sym (length-append all piece);
  kept = elim k.kept [
    | inl awaits ↦ (
      apart,
      λ more w rest e.
          none w more rest (ap (λ (t : List ℕ). (t ++ piece) ++ more) (awaited_front site v before left s refused all k.fed awaits) ∙ e),
    )
    | inr has ↦ absurd (none v [] piece
        (append-nil _ ∙ ap (λ (t : List ℕ). t ++ piece) (read_front v before (long_read site v before left s refused all k.fed has))))
  ];
}
  where
    apart : bad.Header ≢ bad.Memory
    apart e = cc

-- the header is whole: what comes after it follows what was left
pub reads_on : (site : ℕ) (v : Version) (before : ℕ) (left : List ℕ) (s : State) (refused : Option LogBad) (all piece rest : List ℕ)
    → Keeps (reader_of site v before left s refused None false) all
    → GoesThrough v before piece rest
    → HEADER_LEN ≤ before + length piece
    → HasTaken site v (all ++ piece) (left ++ rest) s refused
reads_on site v before left s refused all piece rest k goes enough = elim k.kept [
  | inl awaits ↦
      let here = awaited_front site v before left s refused all k.fed awaits in
      first awaits.left awaits.state awaits.accepted (ap (λ (t : List ℕ). t ++ piece) (sym here) ∙ past)
  | inr has ↦
      let here = read_front v before (long_read site v before left s refused all k.fed has) in
      let same : piece ≡ rest = append_cancel_left (header v) piece rest (ap (λ (t : List ℕ). t ++ piece) (sym here) ∙ past) in
      subst (λ (t : List ℕ). HasTaken site v (all ++ piece) (left ++ t) s refused) same
      (has_taken_on site v all left s refused piece has.taken)
]
  where
    past : take (min before HEADER_LEN) (header v) ++ piece ≡ header v ++ rest
    past =
        goes
        ∙ ap (λ (t : List ℕ). t ++ rest)
        (take_all (min before HEADER_LEN + length piece) (header v) (omega (arith, enough, header_long v)))

    first : left ≡ [] → s ≡ new_state site → refused ≡ None → all ++ piece ≡ header v ++ rest
        → HasTaken site v (all ++ piece) (left ++ rest) s refused
    first none new accepted is = record {
      ops = [];
      begins = record {
        formed = none_formed;
        fits = none_fit v;
        parts = is ∙ ap (λ (t : List ℕ). header v ++ (t ++ rest)) (sym none);
      };
      taken = subst (λ (r : Option LogBad). AreTakenTo site (all ++ piece) [] s r) (sym accepted) (tt, new);
    }

-- ---- whether bytes come after the header

pub none_left : (rest : List ℕ) → (length rest == 0) ≡ true → rest ≡ []
none_left rest none = nil_from_length rest (eqb-true (length rest) 0 none)

pub some_left : (rest : List ℕ) → (length rest == 0) ≡ false → rest ≢ []
some_left [] some is = true≢false some
some_left (b ∷ rest) some is = cc

-- ---- where no byte comes after it

-- the front of the header grows, or it is whole now, or the piece was empty
pub keeps_header : (site : ℕ) (v : Version) (before : ℕ) (left : List ℕ) (s : State) (refused : Option LogBad) (all piece rest : List ℕ)
    → Keeps (reader_of site v before left s refused None false) all
    → GoesThrough v before piece rest
    → rest ≡ []
    → Keeps (reader_of site v (before + length piece) left s refused None false) (all ++ piece)
keeps_header site v before left s refused all piece rest k goes none = record {
  live = refl;
  fed = count;
  kept = elim (leb_tells HEADER_LEN (before + length piece)) [
    | inl whole ↦ inr (read whole.0 whole.1)
    | inr part ↦ inl (awaits part.0 part.1)
  ];
}
  where
    count : before + length piece ≡ length (all ++ piece)
    count = ap (λ (n : ℕ). n + length piece) k.fed ∙ sym (length-append all piece)

    now : ReaderData
    now = reader_of site v (before + length piece) left s refused None false

    read : header_read (before + length piece) None ≡ true → HEADER_LEN ≤ before + length piece → HasRead now (all ++ piece)
    read whole enough = record {
      read = whole;
      taken =
          subst (λ (t : List ℕ). HasTaken site v (all ++ piece) t s refused) (ap (λ (t : List ℕ). left ++ t) none ∙ append-nil left)
          (reads_on site v before left s refused all piece rest k goes enough);
      needs = elim k.kept [
        | inl awaits ↦ subst (NeedsMore v) (sym awaits.left) (4, nothing_needs v)
        | inr has ↦ has.needs
      ];
    }

    awaits : header_read (before + length piece) None ≡ false → before + length piece < HEADER_LEN → AwaitsHeader now (all ++ piece)
    awaits part few = elim k.kept [
      | inl old ↦ record {
        unread = part;
        few = omega (arith, few, count);
        front =
            ap (λ (t : List ℕ). t ++ piece) (sym (awaited_front site v before left s refused all k.fed old))
            ∙ goes
            ∙ ap (λ (t : List ℕ). take (min before HEADER_LEN + length piece) (header v) ++ t) none
            ∙ append-nil _
            ∙ ap (λ (n : ℕ). take n (header v)) (omega (arith, few, count));
        left = old.left;
        state = old.state;
        accepted = old.accepted;
      }
      | inr has ↦ absurd (let long = long_read site v before left s refused all k.fed has in omega (arith, few, long))
    ]

pub counted_header : (v : Version) (before : ℕ) (s : StreamData) (piece rest : List ℕ) → IsCounted before s
    → GoesThrough v before piece rest
    → rest ≡ []
    → IsCounted (before + length piece) s
counted_header v before s piece rest counted goes none =
    let come = min before HEADER_LEN in
    let front = take (come + length piece) (header v) in
    let here : length (take come (header v)) ≡ come = length-take-le come (header v) (omega (arith, header_long v)) in
    let short : come + length piece ≡ length front =
    omega (arith, ap length goes, length-append (take come (header v)) piece, here, length-append front rest, ap length none) in
    (omega (arith, counted.0, short, length-take (come + length piece) (header v), header_long v), counted.1)

-- ---- where some bytes come after it

-- then it is whole
whole_come : (v : Version) (come : ℕ) (piece rest : List ℕ)
    → come ≤ HEADER_LEN → rest ≢ [] → GoesFrom (header v) come piece rest → HEADER_LEN ≤ come + length piece
whole_come v come piece [] within some goes = absurd (some refl)
whole_come v come piece (b ∷ rest) within some goes =
    omega (
      arith,
      ap length goes,
      header_long v,
      length-append (take come (header v)) piece,
      length-take-le come (header v) (omega (arith, within, header_long v)),
      length-append (take (come + length piece) (header v)) (b ∷ rest),
      length-take (come + length piece) (header v),
    )

pub whole_header : (v : Version) (before : ℕ) (piece rest : List ℕ) → rest ≢ [] → GoesThrough v before piece rest
    → HEADER_LEN ≤ before + length piece
whole_header v before piece rest some goes =
    let come = min before HEADER_LEN in
    let whole : HEADER_LEN ≤ come + length piece = whole_come v come piece rest (omega arith) some goes in
    omega (arith, whole)

pub past_header : (v : Version) (before : ℕ) (piece rest : List ℕ) → rest ≢ [] → GoesThrough v before piece rest
    → GoesPastHeader before piece
past_header v before piece rest some goes =
    let come = min before HEADER_LEN in
    let whole : HEADER_LEN ≤ come + length piece = whole_come v come piece rest (omega arith) some goes in
    let front : take come (header v) ≡ take before (header v) =
    ap (λ (n : ℕ). take (min before n) (header v)) (sym (header_long v)) ∙ take_min before (header v) in
    record {
      version = v;
      rest = rest;
      some = some;
      parts =
          ap (λ (t : List ℕ). t ++ piece) (sym front)
          ∙ goes
          ∙ ap (λ (t : List ℕ). t ++ rest) (take_all (come + length piece) (header v) (omega (arith, whole, header_long v)));
    }

-- ---- after the frames

-- the whole frames were taken
ends_one : (site : ℕ) (v : Version) (fed : ℕ) (left : List ℕ) (s : State) (refused : Option LogBad) (all : List ℕ) → fed ≡ length all
    → HEADER_LEN ≤ fed
    → (why : Option LogBad) → Ends site v all left s refused why → Keeps (reader_of site v fed left s refused why false) all
ends_one site v fed left s refused all count enough None ends = record {
  live = refl;
  fed = count;
  kept = inr (record { read = read fed enough; taken = ends.0; needs = ends.1 });
}
  where
    read : (fed : ℕ) → HEADER_LEN ≤ fed → header_read fed None ≡ true
    read fed enough = le-leb HEADER_LEN fed enough
ends_one site v fed left s refused all count enough (Some why) ends = record { live = refl; fed = count; kept = ends }

pub ends_keep : (site : ℕ) (v : Version) (fed : ℕ) (left : List ℕ) (s : State) (refused : Option LogBad) (all : List ℕ)
    (r : Result (Option LogBad) Memory)
    → fed ≡ length all → HEADER_LEN ≤ fed
    → IfOk r (Ends site v all left s refused) → IfOk r (λ why. Keeps (reader_of site v fed left s refused why false) all)
ends_keep site v fed left s refused all (Ok why) count enough ends = ends_one site v fed left s refused all count enough why ends
ends_keep site v fed left s refused all (Err e) count enough ends = tt

-- the same of a stream whose version is that of the header
pub ends_turned : (site : ℕ) (v w : Version) (fed : ℕ) (new : StreamData) (s : State) (refused : Option LogBad) (all : List ℕ)
    (r : Result (Option LogBad) Memory)
    → fed ≡ length all → HEADER_LEN ≤ fed → new.version ≡ w → v ≡ w
    → IfOk r (Ends site new.version all new.left s refused) → IfOk r (λ why. Keeps (reader_of site v fed new.left s refused why false) all)
ends_turned site v w fed new s refused all r count enough is same ends =
    ends_keep site v fed new.left s refused all r count enough
    (subst (λ (x : Version). IfOk r (Ends site x all new.left s refused)) (is ∙ sym same) ends)

-- the bytes of the piece after the header are counted
pub counted_on : (v : Version) (before : ℕ) (old new : StreamData) (piece rest : List ℕ) → IsCounted before old → AreBytes rest
    → Feeds old rest new
    → GoesThrough v before piece rest
    → HEADER_LEN ≤ before + length piece
    → IsCounted (before + length piece) new
counted_on v before old new piece rest counted fits feeds goes enough =
    let come = min before HEADER_LEN in
    let all_come : take (come + length piece) (header v) ≡ header v =
    take_all (come + length piece) (header v) (omega (arith, enough, header_long v)) in
    let long : come + length piece ≡ HEADER_LEN + length rest =
    omega (
      arith,
      ap length goes,
      header_long v,
      length-append (take come (header v)) piece,
      length-take-le come (header v) (omega (arith, header_long v)),
      length-append (take (come + length piece) (header v)) rest,
      ap length all_come,
    ) in (
      omega (arith, counted.0, feeds.taken, ap length feeds.left, length-append old.left rest, long, enough),
      subst AreBytes (sym feeds.left) (bytes_append old.left rest counted.1 fits),
    )
