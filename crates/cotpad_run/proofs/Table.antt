-- What each row of the table says gives what is promised of all commands.
use Rattle.std.proofs.Common.{◌≡◌, ◌⊎◌, ℕ, ◌+◌, Option, Some, IsSome, List, [], sym, ap, ◌∙◌, subst, refl, inl, inr, arith}
use Rattle.std.proofs.KnownBytes.{Appends-nil, Consumes-nil}
use Rattle.std.proofs.lemmas.Bool.{false≢true}
use Rattle.std.proofs.Math.Nat.{min-le_left}
use Rattle.outside_io.specs.Faults.{Rose, last_count}
use Rattle.outside_io.specs.Reading.{LosesFront}
use Rattle.outside_io.specs.declared.link.Asked.TheVariants as link
use Rattle.outside_io.specs.declared.reading.TheConstants.{MAX_INPUT}
use Rattle.log_replies.specs.declared.status.Status.{Status}
use Rattle.log_replies.specs.declared.status.Status.TheVariants.{Done, Refused, Words, ReadFault, WriteFault, Memory, LinkFault, PeerRefused}
use Rattle.log_replies.specs.Answers.{Replies, IsAnswered, IsStreamed}
use Rattle.log_replies.specs.Outside.{Outside, Grows, IsWritten, IsCutOff}
use Rattle.log_replies.specs.Statuses.{IsReported}
use Rattle.log_replies.proofs.CallerLemmas.{loses_input}
use Rattle.cotpad_run.specs.declared.command.Command.{Command}
use Rattle.cotpad_run.specs.Commands.{CommandData, command_data, Replay, Gen, Loop}
use Rattle.cotpad_run.specs.Made.{IsMade, IsSaid}
use Rattle.cotpad_run.specs.Replaying.{IsReplayed}
use Rattle.cotpad_run.specs.Generating.{gen_text, IsCounted}
use Rattle.cotpad_run.specs.Meeting.{Side, IsLinkedOnce, IsMeeting, AgreesWithPeer, AreFaultless}
use Rattle.cotpad_run.specs.Looping.{AreLinked, IsLooping, IsLoopTold}
use Rattle.cotpad_run.specs.Table.{World, Row, row_of, replying, streaming, meeting, saying, WentWell, EndsWell, IsComplete, IsDone}
use Rattle.cotpad_run.specs.Wired.{Wired, IsAskedFor}

-- ---- what the sink holds, and what the source lost

held_grows : (held now : Option (List ℕ)) → now ≡ held → Grows held now
held_grows held now is = subst (Grows held) (sym is) ([], Appends-nil held)

written_grows : (bytes : List ℕ) (old new : Outside) → IsWritten bytes old new → Grows old.held new.held
written_grows bytes old new w = (bytes, w.appended)

cut_grows : (bytes : List ℕ) (old new : Outside) → IsCutOff bytes old new → Grows old.held new.held
cut_grows bytes old new c = (c.front.front, c.front.written)

loses_nothing : (n : ℕ) (left now : Option (List ℕ)) → now ≡ left → LosesFront n left now
loses_nothing n left now is = subst (LosesFront n left) (sym is) (record { front = []; few = omega arith; lost = Consumes-nil left })

-- ---- a command that reads its input and replies to it

answered_taken : (replies : Replies) (old new : Outside) (r : Status) → IsAnswered replies old new r
    → LosesFront (MAX_INPUT + 1) old.left new.left
answered_taken replies old new Done a = loses_input (MAX_INPUT + 1) old.left new.left a.0.input.read
answered_taken replies old new Refused a = loses_input (MAX_INPUT + 1) old.left new.left a.input.read
answered_taken replies old new Words a = absurd a
answered_taken replies old new ReadFault a = a.lost
answered_taken replies old new WriteFault a = loses_input (MAX_INPUT + 1) old.left new.left a.input.read
answered_taken replies old new Memory a = a.lost
answered_taken replies old new LinkFault a = absurd a
answered_taken replies old new PeerRefused a = absurd a

answered_held : (replies : Replies) (old new : Outside) (r : Status) → IsAnswered replies old new r → Grows old.held new.held
answered_held replies old new Done a = a.0.kept
answered_held replies old new Refused a = a.kept
answered_held replies old new Words a = absurd a
answered_held replies old new ReadFault a = held_grows old.held new.held a.held
answered_held replies old new WriteFault a = a.kept
answered_held replies old new Memory a = held_grows old.held new.held a.held
answered_held replies old new LinkFault a = absurd a
answered_held replies old new PeerRefused a = absurd a

answered_reported : (replies : Replies) (old new : Outside) (r : Status)
    → IsAnswered replies old new r → ¬ Rose old.read_faults new.read_faults → ¬ Rose old.write_faults new.write_faults
    → IsReported r ⊎ (r ≡ Memory)
answered_reported replies old new Done a source sink = inl (inl refl)
answered_reported replies old new Refused a source sink = inl (inr refl)
answered_reported replies old new Words a source sink = absurd a
answered_reported replies old new ReadFault a source sink = absurd (source a.fault)
answered_reported replies old new WriteFault a source sink = absurd (sink a.fault)
answered_reported replies old new Memory a source sink = inr refl
answered_reported replies old new LinkFault a source sink = absurd a
answered_reported replies old new PeerRefused a source sink = absurd a

-- a reply or out of memory is complete where no wire is called
offline_complete : (row : Row) (r : Status) → ¬ IsSome row.link → IsReported r ⊎ (r ≡ Memory) → IsComplete row r
offline_complete row r offline (inl reported) = inr (offline, reported)
offline_complete row r offline (inr short) = inl (inr short)

pub replying_done : (replies : Replies) (old new : World) (r : Status)
    → IsAnswered replies old.outside new.outside r → new.wire ≡ old.wire → IsDone (replying replies) old new r
replying_done replies old new r a wire =
    let reported : WentWell (replying replies) old new → IsReported r ⊎ (r ≡ Memory) =
    λ well. answered_reported replies old.outside new.outside r a (well.source refl) well.sink in
    record {
      answer = a;
      taken = answered_taken replies old.outside new.outside r a;
      held = answered_held replies old.outside new.outside r a;
      link = wire;
      ends = λ well. inl (reported well);
      complete = λ well _. offline_complete (replying replies) r false≢true (reported well);
    }

-- ---- a command that writes its reply piece by piece

streamed_taken : (replies : Replies) (old new : Outside) (r : Status) → IsStreamed replies old new r
    → LosesFront (MAX_INPUT + 1) old.left new.left
streamed_taken replies old new Done a = loses_input (MAX_INPUT + 1) old.left new.left a.0.input.read
streamed_taken replies old new Refused a = loses_input (MAX_INPUT + 1) old.left new.left a.input.read
streamed_taken replies old new Words a = absurd a
streamed_taken replies old new ReadFault a = a.lost
streamed_taken replies old new WriteFault a = loses_input (MAX_INPUT + 1) old.left new.left a.input.read
streamed_taken replies old new Memory a = a.lost
streamed_taken replies old new LinkFault a = absurd a
streamed_taken replies old new PeerRefused a = absurd a

streamed_held : (replies : Replies) (old new : Outside) (r : Status) → IsStreamed replies old new r → Grows old.held new.held
streamed_held replies old new Done a = a.0.kept
streamed_held replies old new Refused a = a.kept
streamed_held replies old new Words a = absurd a
streamed_held replies old new ReadFault a = held_grows old.held new.held a.held
streamed_held replies old new WriteFault a = a.kept
streamed_held replies old new Memory a = a.kept
streamed_held replies old new LinkFault a = absurd a
streamed_held replies old new PeerRefused a = absurd a

streamed_reported : (replies : Replies) (old new : Outside) (r : Status)
    → IsStreamed replies old new r → ¬ Rose old.read_faults new.read_faults → ¬ Rose old.write_faults new.write_faults
    → IsReported r ⊎ (r ≡ Memory)
streamed_reported replies old new Done a source sink = inl (inl refl)
streamed_reported replies old new Refused a source sink = inl (inr refl)
streamed_reported replies old new Words a source sink = absurd a
streamed_reported replies old new ReadFault a source sink = absurd (source a.fault)
streamed_reported replies old new WriteFault a source sink = absurd (sink a.fault)
streamed_reported replies old new Memory a source sink = inr refl
streamed_reported replies old new LinkFault a source sink = absurd a
streamed_reported replies old new PeerRefused a source sink = absurd a

pub streaming_done : (replies : Replies) (old new : World) (r : Status)
    → IsStreamed replies old.outside new.outside r → new.wire ≡ old.wire → IsDone (streaming replies) old new r
streaming_done replies old new r a wire =
    let reported : WentWell (streaming replies) old new → IsReported r ⊎ (r ≡ Memory) =
    λ well. streamed_reported replies old.outside new.outside r a (well.source refl) well.sink in
    record {
      answer = a;
      taken = streamed_taken replies old.outside new.outside r a;
      held = streamed_held replies old.outside new.outside r a;
      link = wire;
      ends = λ well. inl (reported well);
      complete = λ well _. offline_complete (streaming replies) r false≢true (reported well);
    }

-- ---- `replay`

replay_taken : (old new : Outside) (r : Status) → IsReplayed old new r → LosesFront (MAX_INPUT + 1) old.left new.left
replay_taken old new Done a = a.0.lost
replay_taken old new Refused a = a.0.lost
replay_taken old new Words a = absurd a
replay_taken old new ReadFault a = a.front.lost
replay_taken old new WriteFault a = a.front.lost
replay_taken old new Memory a = a.front.lost
replay_taken old new LinkFault a = absurd a
replay_taken old new PeerRefused a = absurd a

replay_held : (old new : Outside) (r : Status) → IsReplayed old new r → Grows old.held new.held
replay_held old new Done a = a.0.kept
replay_held old new Refused a = a.0.kept
replay_held old new Words a = absurd a
replay_held old new ReadFault a = a.front.kept
replay_held old new WriteFault a = a.front.kept
replay_held old new Memory a = a.front.kept
replay_held old new LinkFault a = absurd a
replay_held old new PeerRefused a = absurd a

replay_reported : (old new : Outside) (r : Status) → IsReplayed old new r → ¬ Rose old.read_faults new.read_faults
    → ¬ Rose old.write_faults new.write_faults → IsReported r ⊎ (r ≡ Memory)
replay_reported old new Done a source sink = inl (inl refl)
replay_reported old new Refused a source sink = inl (inr refl)
replay_reported old new Words a source sink = absurd a
replay_reported old new ReadFault a source sink = absurd (source a.fault)
replay_reported old new WriteFault a source sink = absurd (sink a.fault)
replay_reported old new Memory a source sink = inr refl
replay_reported old new LinkFault a source sink = absurd a
replay_reported old new PeerRefused a source sink = absurd a

pub replay_done : (old new : World) (r : Status) → IsReplayed old.outside new.outside r → new.wire ≡ old.wire
    → IsDone (row_of Replay) old new r
replay_done old new r a wire =
    let reported : WentWell (row_of Replay) old new → IsReported r ⊎ (r ≡ Memory) =
    λ well. replay_reported old.outside new.outside r a (well.source refl) well.sink in
    record {
      answer = a;
      taken = replay_taken old.outside new.outside r a;
      held = replay_held old.outside new.outside r a;
      link = wire;
      ends = λ well. inl (reported well);
      complete = λ well _. offline_complete (row_of Replay) r false≢true (reported well);
    }

-- ---- `gen`

made_held : (text : List ℕ) (old new : Outside) (r : Status) → IsMade text old new r → Grows old.held new.held
made_held text old new Done m = written_grows text old new m
made_held text old new Refused m = absurd m
made_held text old new Words m = absurd m
made_held text old new ReadFault m = absurd m
made_held text old new WriteFault m = cut_grows text old new m
made_held text old new Memory m = held_grows old.held new.held m.0
made_held text old new LinkFault m = absurd m
made_held text old new PeerRefused m = absurd m

made_reported : (text : List ℕ) (old new : Outside) (r : Status) → IsMade text old new r → ¬ Rose old.write_faults new.write_faults
    → IsReported r ⊎ (r ≡ Memory)
made_reported text old new Done m sink = inl (inl refl)
made_reported text old new Refused m sink = absurd m
made_reported text old new Words m sink = absurd m
made_reported text old new ReadFault m sink = absurd m
made_reported text old new WriteFault m sink = absurd (sink m.fault)
made_reported text old new Memory m sink = inr refl
made_reported text old new LinkFault m sink = absurd m
made_reported text old new PeerRefused m sink = absurd m

pub gen_done : (start events window : ℕ) (old new : World) (r : Status)
    → IsMade (gen_text start events window) old.outside new.outside r → (r ≡ Done → IsCounted start events window)
    → new.outside.left ≡ old.outside.left → new.wire ≡ old.wire → IsDone (row_of (Gen start events window)) old new r
gen_done start events window old new r made counted left wire =
    let row : Row = row_of (Gen start events window) in
    let reported : WentWell row old new → IsReported r ⊎ (r ≡ Memory) =
    λ well. made_reported (gen_text start events window) old.outside new.outside r made well.sink in
    record {
      answer = record { made = made; counted = counted };
      taken = loses_nothing (MAX_INPUT + 1) old.outside.left new.outside.left left;
      held = made_held (gen_text start events window) old.outside new.outside r made;
      link = wire;
      ends = λ well. inl (reported well);
      complete = λ well _. offline_complete row r false≢true (reported well);
    }

-- ---- `help`

said_held : (text : List ℕ) (old new : Outside) (r : Status) → IsSaid text old new r → Grows old.held new.held
said_held text old new Done m = written_grows text old new m
said_held text old new Refused m = absurd m
said_held text old new Words m = absurd m
said_held text old new ReadFault m = absurd m
said_held text old new WriteFault m = cut_grows text old new m
said_held text old new Memory m = absurd m
said_held text old new LinkFault m = absurd m
said_held text old new PeerRefused m = absurd m

said_reported : (text : List ℕ) (old new : Outside) (r : Status) → IsSaid text old new r → ¬ Rose old.write_faults new.write_faults
    → IsReported r ⊎ (r ≡ Memory)
said_reported text old new Done m sink = inl (inl refl)
said_reported text old new Refused m sink = absurd m
said_reported text old new Words m sink = absurd m
said_reported text old new ReadFault m sink = absurd m
said_reported text old new WriteFault m sink = absurd (sink m.fault)
said_reported text old new Memory m sink = absurd m
said_reported text old new LinkFault m sink = absurd m
said_reported text old new PeerRefused m sink = absurd m

pub saying_done : (text : List ℕ) (old new : World) (r : Status)
    → IsSaid text old.outside new.outside r → new.outside.left ≡ old.outside.left → new.wire ≡ old.wire → IsDone (saying text) old new r
saying_done text old new r said left wire = record {
  answer = said;
  taken = loses_nothing (MAX_INPUT + 1) old.outside.left new.outside.left left;
  held = said_held text old.outside new.outside r said;
  link = wire;
  ends = λ well. inl (said_reported text old.outside new.outside r said well.sink);
  complete = λ well _. offline_complete (saying text) r false≢true (said_reported text old.outside new.outside r said well.sink);
}

-- ---- `serve` and `join`

linked : (side : Side) (port : ℕ) (before after : Wired) → IsLinkedOnce side.role port before after
    → IsAskedFor (link.Peer side.role port) 1 before after
linked side port before after l = inr (l.asked, omega (arith, l.asks, min-le_left (before.asks + 1) last_count))

meeting_taken : (side : Side) (port : ℕ) (old new : Outside) (before after : Wired) (r : Status)
    → IsMeeting side port old new before after r → LosesFront (MAX_INPUT + 1) old.left new.left
meeting_taken side port old new before after Done m = loses_input (MAX_INPUT + 1) old.left new.left m.met.input.read
meeting_taken side port old new before after Refused m = loses_input (MAX_INPUT + 1) old.left new.left m.0.input.read
meeting_taken side port old new before after Words m = absurd m
meeting_taken side port old new before after ReadFault m = m.0.lost
meeting_taken side port old new before after WriteFault (inl m) = loses_input (MAX_INPUT + 1) old.left new.left m.0.input.read
meeting_taken side port old new before after WriteFault (inr (inl m)) = loses_input (MAX_INPUT + 1) old.left new.left m.met.input.read
meeting_taken side port old new before after WriteFault (inr (inr m)) = loses_input (MAX_INPUT + 1) old.left new.left m.met.input.read
meeting_taken side port old new before after Memory m = m.0.lost
meeting_taken side port old new before after LinkFault m = loses_input (MAX_INPUT + 1) old.left new.left m.met.input.read
meeting_taken side port old new before after PeerRefused m = loses_input (MAX_INPUT + 1) old.left new.left m.met.input.read

meeting_held : (side : Side) (port : ℕ) (old new : Outside) (before after : Wired) (r : Status) → IsMeeting side port old new before after r
    → Grows old.held new.held
meeting_held side port old new before after Done m = written_grows _ old new m.written
meeting_held side port old new before after Refused m = m.0.kept
meeting_held side port old new before after Words m = absurd m
meeting_held side port old new before after ReadFault m = held_grows old.held new.held m.0.held
meeting_held side port old new before after WriteFault (inl m) = m.0.kept
meeting_held side port old new before after WriteFault (inr (inl m)) = cut_grows _ old new m.cut_off
meeting_held side port old new before after WriteFault (inr (inr m)) = cut_grows _ old new m.cut_off
meeting_held side port old new before after Memory m = held_grows old.held new.held m.0.held
meeting_held side port old new before after LinkFault m = held_grows old.held new.held m.held
meeting_held side port old new before after PeerRefused m = written_grows _ old new m.written

meeting_asked : (side : Side) (port : ℕ) (old new : Outside) (before after : Wired) (r : Status)
    → IsMeeting side port old new before after r → IsAskedFor (link.Peer side.role port) 1 before after
meeting_asked side port old new before after Done m = linked side port before after m.met.link
meeting_asked side port old new before after Refused m = inl m.1
meeting_asked side port old new before after Words m = absurd m
meeting_asked side port old new before after ReadFault m = inl m.1
meeting_asked side port old new before after WriteFault (inl m) = inl m.1
meeting_asked side port old new before after WriteFault (inr (inl m)) = linked side port before after m.met.link
meeting_asked side port old new before after WriteFault (inr (inr m)) = linked side port before after m.met.link
meeting_asked side port old new before after Memory (m, inl same) = inl same
meeting_asked side port old new before after Memory (m, inr short) = linked side port before after short.0.link
meeting_asked side port old new before after LinkFault m = linked side port before after m.met.link
meeting_asked side port old new before after PeerRefused m = linked side port before after m.met.link

meeting_ends : (side : Side) (port : ℕ) (old new : World) (r : Status)
    → IsMeeting side port old.outside new.outside old.wire new.wire r → WentWell (meeting side port) old new
    → EndsWell (meeting side port) r
meeting_ends side port old new Done m well = inl (inl (inl refl))
meeting_ends side port old new Refused m well = inl (inl (inr refl))
meeting_ends side port old new Words m well = absurd m
meeting_ends side port old new ReadFault m well = absurd (well.source refl m.0.fault)
meeting_ends side port old new WriteFault (inl m) well = absurd (well.sink m.0.fault)
meeting_ends side port old new WriteFault (inr (inl m)) well = absurd (well.sink m.cut_off.fault)
meeting_ends side port old new WriteFault (inr (inr m)) well = absurd (well.sink m.cut_off.fault)
meeting_ends side port old new Memory m well = inl (inr refl)
meeting_ends side port old new LinkFault m well = absurd (well.wire refl m.fault)
meeting_ends side port old new PeerRefused m well = inr (refl, refl)

pub meeting_done : (side : Side) (port : ℕ) (old new : World) (r : Status)
    → IsMeeting side port old.outside new.outside old.wire new.wire r
    → (AgreesWithPeer side old.outside old.wire → AreFaultless old.outside new.outside old.wire new.wire → (r ≡ Done) ⊎ (r ≡ Memory))
    → IsDone (meeting side port) old new r
meeting_done side port old new r m complete = record {
  answer = m;
  taken = meeting_taken side port old.outside new.outside old.wire new.wire r m;
  held = meeting_held side port old.outside new.outside old.wire new.wire r m;
  link = meeting_asked side port old.outside new.outside old.wire new.wire r m;
  ends = meeting_ends side port old new r m;
  complete = λ well agrees. inl (complete agrees (record { source = well.source refl; sink = well.sink; wire = well.wire refl }));
}

-- ---- `loop`

paired : (before after : Wired) → AreLinked before after → IsAskedFor link.Pair 2 before after
paired before after l = inr (l.asked, l.asks)

looping_asked : (start : ℕ) (old new : Outside) (before after : Wired) (r : Status) → IsLooping start old new before after r
    → IsAskedFor link.Pair 2 before after
looping_asked start old new before after Done m = paired before after m.joined.link
looping_asked start old new before after Refused m = absurd m
looping_asked start old new before after Words m = absurd m
looping_asked start old new before after ReadFault m = absurd m
looping_asked start old new before after WriteFault (inl m) = paired before after m.joined.link
looping_asked start old new before after WriteFault (inr m) = paired before after m.link
looping_asked start old new before after Memory m = elim m.link [ inl same ↦ inl same | inr gone ↦ paired before after gone.0 ]
looping_asked start old new before after LinkFault m = paired before after m.link
looping_asked start old new before after PeerRefused m = paired before after m.link

looping_held : (start : ℕ) (old new : Outside) (before after : Wired) (r : Status) → IsLooping start old new before after r
    → Grows old.held new.held
looping_held start old new before after Done m = written_grows _ old new m.written
looping_held start old new before after Refused m = absurd m
looping_held start old new before after Words m = absurd m
looping_held start old new before after ReadFault m = absurd m
looping_held start old new before after WriteFault (inl m) = cut_grows _ old new m.cut_off
looping_held start old new before after WriteFault (inr m) = cut_grows _ old new m.cut_off
looping_held start old new before after Memory m = held_grows old.held new.held m.held
looping_held start old new before after LinkFault m = held_grows old.held new.held m.held
looping_held start old new before after PeerRefused m = written_grows _ old new m.written

looping_ends : (start : ℕ) (old new : World) (r : Status)
    → IsLooping start old.outside new.outside old.wire new.wire r → WentWell (row_of (Loop start)) old new
    → EndsWell (row_of (Loop start)) r
looping_ends start old new Done m well = inl (inl (inl refl))
looping_ends start old new Refused m well = absurd m
looping_ends start old new Words m well = absurd m
looping_ends start old new ReadFault m well = absurd m
looping_ends start old new WriteFault (inl m) well = absurd (well.sink m.cut_off.fault)
looping_ends start old new WriteFault (inr m) well = absurd (well.sink m.cut_off.fault)
looping_ends start old new Memory m well = inl (inr refl)
looping_ends start old new LinkFault m well = absurd (well.wire refl m.fault)
looping_ends start old new PeerRefused m well = inr (refl, refl)

-- over a pair that tells its bytes, nothing of what came is refused
told_complete : (row : Row) (start : ℕ) (old new : Outside) (before after : Wired) (r : Status)
    → IsLoopTold start old new before after r → EndsWell row r → (¬ (r ≡ Refused)) → IsComplete row r
told_complete row start old new before after r told (inl (inl (inl done))) refused = inl (inl done)
told_complete row start old new before after r told (inl (inl (inr is))) refused = absurd (refused is)
told_complete row start old new before after r told (inl (inr short)) refused = inl (inr short)
told_complete row start old new before after r told (inr p) refused = absurd (subst (IsLoopTold start old new before after) p.1 told)

pub loop_done : (start : ℕ) (old new : World) (r : Status)
    → IsLooping start old.outside new.outside old.wire new.wire r
    → ((row_of (Loop start)).matched old → IsLoopTold start old.outside new.outside old.wire new.wire r)
    → new.outside.left ≡ old.outside.left → IsDone (row_of (Loop start)) old new r
loop_done start old new r m told left =
    let row : Row = row_of (Loop start) in
    let unrefused : ¬ (r ≡ Refused) = λ is. subst (IsLooping start old.outside new.outside old.wire new.wire) is m in
    record {
      answer = record { answer = m; told = told };
      taken = loses_nothing (MAX_INPUT + 1) old.outside.left new.outside.left left;
      held = looping_held start old.outside new.outside old.wire new.wire r m;
      link = looping_asked start old.outside new.outside old.wire new.wire r m;
      ends = looping_ends start old new r m;
      complete =
          λ well telling. told_complete row start old.outside new.outside old.wire new.wire r (told telling)
          (looping_ends start old new r m well) unrefused;
    }

-- ---- the command that the words spell

some_same : (c d : CommandData) → Some c ≡ Some d → c ≡ d
some_same c d is = cc

-- what holds of the row of the command that was read holds of the one that was asked for
pub same_row : (k d : Command) (asked : CommandData) (old new : World) (r : Status)
    → k ≡ d → Some (command_data k) ≡ Some asked → IsDone (row_of (command_data d)) old new r → IsDone (row_of asked) old new r
same_row k d asked old new r is said done =
    subst (λ x. IsDone (row_of x) old new r) (some_same (command_data d) asked (ap (λ x. Some (command_data x)) (sym is) ∙ said)) done

-- and what doesn't hold of it doesn't hold of that
pub not_of : (Holds : CommandData → Type 0) (k d : Command) → k ≡ d → ¬ Holds (command_data k) → ¬ Holds (command_data d)
not_of Holds k d is never = subst (λ x. ¬ Holds (command_data x)) is never
