-- What an exchange leaves, and what is written of it, is an answer.
use Rattle.std.proofs.Common.{◌≡◌, ◌⊎◌, ℕ, ◌+◌, Option, None, Some, List, [], ◌++◌, refl, sym, ap, subst, ◌∙◌, inl, inr, true}
use Rattle.std.specs.Prelude.{Result, Ok, Err, IfOk, IfErr, IfSome}
use Rattle.std.specs.Io.KnownBytes.{Appends, IsAtEnd}
use Rattle.outside_io.specs.Ends.{End}
use Rattle.outside_io.specs.Writing.{WritesFront}
use Rattle.outside_io.specs.declared.reading.TheConstants.{MAX_INPUT}
use Rattle.cot_site.specs.States.{State}
use Rattle.cot_site.specs.Releases.{IsLater}
use Rattle.peer_exchange.specs.declared.messages.PeerCause.TheVariants.{Cut}
use Rattle.peer_exchange.specs.declared.peer.Peer.{Peer}
use Rattle.peer_exchange.specs.declared.peer.Peer.TheVariants.{Bytes}
use Rattle.session_log.specs.Logs.{log_of}
use Rattle.session_log.specs.Laws.{OneLoading}
use Rattle.site_node.specs.declared.node.Node.{Node}
use Rattle.site_node.specs.declared.node.Node.TheVariants as node
use Rattle.site_node.specs.Exchanges.{Exchanges}
use Rattle.site_node.specs.Stops.{OnlyLinkFails}
use Rattle.log_replies.specs.declared.status.Status.{Status}
use Rattle.log_replies.specs.declared.status.Status.TheVariants.{Done, Refused, Words, ReadFault, WriteFault, Memory, LinkFault, PeerRefused}
use Rattle.log_replies.specs.Answers.{IsInput, IsReplied, IsPartlyReplied, IsOutOfMemory}
use Rattle.log_replies.specs.Outside.{Outside}
use Rattle.log_replies.specs.Replies.{IsLoadedAs, refusing, IsRefusedInto}
use Rattle.log_replies.proofs.CallerLemmas.{loses_input, not_both}
use Rattle.cotpad_run.specs.Made.{IsMade}
use Rattle.cotpad_run.specs.Meeting.{Side, IsLinkedOnce, IsMet, Meets, Stops, MeetsOrStops, IsMeeting, RefusesLog, AreFaultless}
use Rattle.cotpad_run.specs.Wired.{Wired}
use Rattle.cotpad_run.specs.Code.Meeting.{IsMetTold, IsRefusalWritten}
use Rattle.cotpad_run.specs.Code.Stopping.{IsStopTold}

-- what the exchange of a loaded site left
pub record Meeting (side : Side) (port : ℕ) (s t : State) (r : Result (ℕ × ℕ) Node) (old new : Outside) (before after : Wired) : Type 0
  where
    pub loaded : IfSome old.left (λ bytes. IsLoadedAs 0 bytes s)
    pub met : IfOk r (λ counts. Exchanges (before.ends 0) (after.ends 0) before.peer (side.meets s t counts))
    pub stopped : IfErr r (λ why. Exchanges (before.ends 0) (after.ends 0) before.peer (side.stops s t why))
    pub cut : (offset : ℕ) → r ≡ Err (node.Peer (Bytes offset Cut))
        → IfSome before.peer (Appends (before.ends 0).received (after.ends 0).received)
    pub later : IsLater s t
    pub cause : OnlyLinkFails before.faults after.faults r
    pub link : IsLinkedOnce side.role port before after
    pub input : IsInput old new
    pub at_end : IsAtEnd new.left

said_more : (old new : End) (peer : Option (List ℕ)) (P Q : List ℕ → List ℕ → Type 0) → ((came gone : List ℕ) → P came gone → Q came gone)
    → Exchanges old new peer P → Exchanges old new peer Q
said_more old new peer P Q more x = record { came = x.came; gone = x.gone; talks = x.talks; said = more x.came x.gone x.said }

-- the exchange, of which this is said
met_by : (side : Side) (port : ℕ) (s t : State) (r : Result (ℕ × ℕ) Node) (old new : Outside) (before after : Wired)
    (says : State → State → List ℕ → List ℕ → Type 0)
    → Meeting side port s t r old new before after → Exchanges (before.ends 0) (after.ends 0) before.peer (says s t)
    → IsMet side port says old new before after
met_by side port s t r old new before after says m said = record {
  site = s;
  left = t;
  loaded = m.loaded;
  said = said;
  later = m.later;
  link = m.link;
  input = m.input;
  at_end = m.at_end;
}

short : (old new : Outside) → IsInput old new → new.held ≡ old.held → new.write_faults ≡ old.write_faults → IsOutOfMemory old new
short old new input held faults = record {
  lost = loses_input (MAX_INPUT + 1) old.left new.left input.read;
  held = held;
  read_faults = input.faultless;
  write_faults = faults;
}

pub no_link : (why : Node) (refusal : Peer) → why ≡ node.Peer refusal → why ≡ node.Link → ⊥
no_link why refusal is link = cc

pub met_answered : (side : Side) (port : ℕ) (s t : State) (r : Result (ℕ × ℕ) Node) (old new : Outside) (before after : Wired)
    (status : Status)
    → Meeting side port s t r old new before after → IsMetTold r (log_of t.history t.waiting) old new status
    → IsMeeting side port old new before after status
unfolding met_by
met_answered side port s t (Ok counts) old new before after Done m told = record {
  met = met_by side port s t (Ok counts) old new before after (Meets side) m (said_more _ _ _ _ _ (λ came gone x. (counts, x)) m.met);
  written = told;
  faultless = m.cause.well refl;
}
met_answered side port s t (Ok counts) old new before after Refused m told = absurd told
met_answered side port s t (Ok counts) old new before after Words m told = absurd told
met_answered side port s t (Ok counts) old new before after ReadFault m told = absurd told
met_answered side port s t (Ok counts) old new before after WriteFault m told = inr (inl (record {
  met = met_by side port s t (Ok counts) old new before after (Meets side) m (said_more _ _ _ _ _ (λ came gone x. (counts, x)) m.met);
  cut_off = told;
  faultless = m.cause.well refl;
}))
met_answered side port s t (Ok counts) old new before after Memory m told = (
  short old new m.input told.0 told.1,
  inr (
    met_by side port s t (Ok counts) old new before after (MeetsOrStops side) m
        (said_more _ _ _ _ _ (λ came gone x. inl (counts, x)) m.met),
    m.cause.well refl,
  ),
)
met_answered side port s t (Ok counts) old new before after LinkFault m told = absurd told
met_answered side port s t (Ok counts) old new before after PeerRefused m told = absurd told
met_answered side port s t (Err why) old new before after Done m told = absurd told
met_answered side port s t (Err why) old new before after Refused m told = absurd told
met_answered side port s t (Err why) old new before after Words m told = absurd told
met_answered side port s t (Err why) old new before after ReadFault m told = absurd told
met_answered side port s t (Err why) old new before after WriteFault m (refusal, is, cut_off) = inr (inr (record {
  why = refusal;
  met = met_by side port s t (Err why) old new before after (Stops side (node.Peer refusal)) m
      (subst (λ n. Exchanges (before.ends 0) (after.ends 0) before.peer (side.stops s t n)) is m.stopped);
  cut_off = cut_off;
  faultless = m.cause.other why refl (no_link why refusal is);
}))
met_answered side port s t (Err why) old new before after Memory m (other, kept) = (
  short old new m.input kept.held kept.write_faults,
  inr (
    met_by side port s t (Err why) old new before after (MeetsOrStops side) m
        (said_more _ _ _ _ _ (λ came gone x. inr (why, other, x)) m.stopped),
    m.cause.other why refl other,
  ),
)
met_answered side port s t (Err why) old new before after LinkFault m (is, kept) = record {
  met = met_by side port s t (Err why) old new before after (Stops side node.Link) m
      (subst (λ n. Exchanges (before.ends 0) (after.ends 0) before.peer (side.stops s t n)) is m.stopped);
  fault = m.cause.link (ap Err is);
  held = kept.held;
  write_faults = kept.write_faults;
}
met_answered side port s t (Err why) old new before after PeerRefused m (refusal, is, written) = record {
  why = refusal;
  met = met_by side port s t (Err why) old new before after (Stops side (node.Peer refusal)) m
      (subst (λ n. Exchanges (before.ends 0) (after.ends 0) before.peer (side.stops s t n)) is m.stopped);
  cut = λ offset same. m.cut offset (ap Err (is ∙ ap node.Peer same));
  written = written;
  faultless = m.cause.other why refl (no_link why refusal is);
}

-- ---- a refused input

line_written : (held now left : Option (List ℕ)) (before line : List ℕ) → before ≡ []
    → IfSome left (λ bytes. IsRefusedInto 0 bytes before line) → Appends held now line → IfSome left (IsReplied RefusesLog true held now)
line_written held now None before line none refused written = tt
line_written held now (Some bytes) before line none (text, is, added) written = record {
  reply = refusing text;
  right = (text, is, refl);
  told = refl;
  written = subst (Appends held now) (added ∙ ap (λ xs. xs ++ text) none) written;
}

line_begun : (held now left : Option (List ℕ)) (before line : List ℕ) → before ≡ []
    → IfSome left (λ bytes. IsRefusedInto 0 bytes before line) → WritesFront held now line
    → IfSome left (IsPartlyReplied RefusesLog held now)
line_begun held now None before line none refused written = tt
line_begun held now (Some bytes) before line none (text, is, added) written = record {
  reply = refusing text;
  right = (text, is, refl);
  front = subst (WritesFront held now) (added ∙ ap (λ xs. xs ++ text) none) written;
}

pub refused_answered : (side : Side) (port : ℕ) (before_line line : List ℕ) (old new : Outside) (before after : Wired) (status : Status)
    → before_line ≡ [] → IfSome old.left (λ bytes. IsRefusedInto 0 bytes before_line line) → IsInput old new → after ≡ before
    → IsRefusalWritten line old new status → IsMeeting side port old new before after status
refused_answered side port b line old new before after Done none refused input same told = absurd told
refused_answered side port b line old new before after Refused none refused input same told = (
  record {
    reply = line_written old.held new.held old.left b line none refused told.appended;
    kept = (line, told.appended);
    input = input;
    faultless = told.faultless;
  },
  same,
)
refused_answered side port b line old new before after Words none refused input same told = absurd told
refused_answered side port b line old new before after ReadFault none refused input same told = absurd told
refused_answered side port b line old new before after WriteFault none refused input same told = inl (
  record {
    fault = told.fault;
    front = line_begun old.held new.held old.left b line none refused told.front;
    kept = (told.front.front, told.front.written);
    input = input;
  },
  same,
)
refused_answered side port b line old new before after Memory none refused input same told = absurd told
refused_answered side port b line old new before after LinkFault none refused input same told = absurd told
refused_answered side port b line old new before after PeerRefused none refused input same told = absurd told

-- ---- completeness

pub met_complete : (side : Side) (t : State) (r : Result (ℕ × ℕ) Node) (old new : Outside) (before after : Wired) (status : Status)
    → OnlyLinkFails before.faults after.faults r → IsMetTold r (log_of t.history t.waiting) old new status
    → ((why : Peer) → r ≡ Err (node.Peer why) → ⊥)
    → AreFaultless old new before after → (status ≡ Done) ⊎ (status ≡ Memory)
met_complete side t (Ok counts) old new before after Done cause told unrefused well = inl refl
met_complete side t (Ok counts) old new before after Refused cause told unrefused well = absurd told
met_complete side t (Ok counts) old new before after Words cause told unrefused well = absurd told
met_complete side t (Ok counts) old new before after ReadFault cause told unrefused well = absurd told
met_complete side t (Ok counts) old new before after WriteFault cause told unrefused well = absurd (well.sink told.fault)
met_complete side t (Ok counts) old new before after Memory cause told unrefused well = inr refl
met_complete side t (Ok counts) old new before after LinkFault cause told unrefused well = absurd told
met_complete side t (Ok counts) old new before after PeerRefused cause told unrefused well = absurd told
met_complete side t (Err why) old new before after Done cause told unrefused well = absurd told
met_complete side t (Err why) old new before after Refused cause told unrefused well = absurd told
met_complete side t (Err why) old new before after Words cause told unrefused well = absurd told
met_complete side t (Err why) old new before after ReadFault cause told unrefused well = absurd told
met_complete side t (Err why) old new before after WriteFault cause told unrefused well = absurd (unrefused told.0 (ap Err told.1))
met_complete side t (Err why) old new before after Memory cause told unrefused well = inr refl
met_complete side t (Err why) old new before after LinkFault cause told unrefused well = absurd (well.wire (cause.link (ap Err told.0)))
met_complete side t (Err why) old new before after PeerRefused cause told unrefused well = absurd (unrefused told.0 (ap Err told.1))

-- the site that was loaded is the one that the log gives
pub loaded_is : OneLoading → (left : Option (List ℕ)) (log : List ℕ) (s t : State) → left ≡ Some log
    → IfSome left (λ bytes. IsLoadedAs 0 bytes t) → IsLoadedAs 0 log s → t ≡ s
loaded_is one left log s t is there given =
    let at : IsLoadedAs 0 log t = subst (λ o. IfSome o (λ bytes. IsLoadedAs 0 bytes t)) is there in
    (one 0 log s given.1).0 t at.1

pub not_refused : OneLoading → (left : Option (List ℕ)) (log before line : List ℕ) (s : State) → left ≡ Some log
    → IfSome left (λ bytes. IsRefusedInto 0 bytes before line) → IsLoadedAs 0 log s → ⊥
not_refused one left log before line s is there given =
    let at : IsRefusedInto 0 log before line = subst (λ o. IfSome o (λ bytes. IsRefusedInto 0 bytes before line)) is there in
    not_both one 0 log at.0 s at.1 given

-- ---- what was told

pub told_of_log : (r : Result (ℕ × ℕ) Node) (counts : ℕ × ℕ) (log : List ℕ) (old new : Outside) (status : Status) → r ≡ Ok counts
    → IsMade log old new status → IsMetTold r log old new status
told_of_log r counts log old new status is made = subst (λ x. IsMetTold x log old new status) (sym is) made

pub told_of_stop : (r : Result (ℕ × ℕ) Node) (why : Node) (log : List ℕ) (old new : Outside) (status : Status) → r ≡ Err why
    → IsStopTold why old new status → IsMetTold r log old new status
told_of_stop r why log old new status is told = subst (λ x. IsMetTold x log old new status) (sym is) told

pub stop_told_as : (why other : Node) (old new : Outside) (status : Status) → why ≡ other → IsStopTold other old new status
    → IsStopTold why old new status
stop_told_as why other old new status is told = subst (λ x. IsStopTold x old new status) (sym is) told
