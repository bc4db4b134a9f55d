-- What is written piece by piece is a reply to what the source had.
use Rattle.std.proofs.Common.{◌≡◌, Bool, false, Option, None, Some, List, ℕ, [], ◌+◌, ◌++◌, refl, ap, subst, ◌∙◌, inl, inr}
use Rattle.std.specs.Prelude.{IfSome}
use Rattle.std.specs.Io.KnownBytes.{Appends, IsAtEnd}
use Rattle.outside_io.specs.Writing.{WritesFront}
use Rattle.outside_io.specs.declared.reading.TheConstants.{MAX_INPUT}
use Rattle.cot_site.specs.States.{State}
use Rattle.script_text.specs.Report.{Report}
use Rattle.log_replies.specs.declared.status.Status.{Status}
use Rattle.log_replies.specs.declared.status.Status.TheVariants.{Done, Refused, Words, ReadFault, WriteFault, Memory, LinkFault, PeerRefused}
use Rattle.log_replies.specs.Answers.{Replies, IsInput, IsReplied, IsPartlyReplied, IsStreamed, accepted}
use Rattle.log_replies.specs.Outside.{Outside}
use Rattle.log_replies.specs.PlayedTexts.{IsPlayedBack, played_reply}
use Rattle.log_replies.specs.Replies.{IsLoadedAs, IsRefusedInto, refusing}
use Rattle.log_replies.specs.Code.Playing.{IsWrittenOut}
use Rattle.log_replies.proofs.Logs.{loses_input}

-- the report that writes these bytes, and refuses something or not
abbrev pub report_of : Bool → List ℕ → Report
report_of refused written = record { written = written; refused = refused }

-- written whole, it is the reply
whole : (replies : Replies) (refused : Bool) (written : List ℕ) (left held now : Option (List ℕ))
    → IfSome left (λ bytes. replies bytes (report_of refused written)) → Appends held now written
    → IfSome left (IsReplied replies refused held now)
whole replies refused written None held now right all = tt
whole replies refused written (Some bytes) held now right all =
    record { reply = report_of refused written; right = right; told = refl; written = all }

-- a front of it is a front of the reply
partly : (replies : Replies) (refused : Bool) (written : List ℕ) (left held now : Option (List ℕ))
    → IfSome left (λ bytes. replies bytes (report_of refused written)) → WritesFront held now written
    → IfSome left (IsPartlyReplied replies held now)
partly replies refused written None held now right front = tt
partly replies refused written (Some bytes) held now right front =
    record { reply = report_of refused written; right = right; front = front }

-- and where it refuses nothing, of a reply that does so
accepts : (replies : Replies) (refused : Bool) (written : List ℕ) (left : Option (List ℕ)) → refused ≡ false
    → IfSome left (λ bytes. replies bytes (report_of refused written))
    → IfSome left (λ bytes. accepted replies bytes (report_of refused written))
accepts replies refused written None is right = tt
accepts replies refused written (Some bytes) is right = (right, is)

-- what was written of the reply to an input that was read, and how that ended
pub streamed : (replies : Replies) (refused : Bool) (written : List ℕ) (old new : Outside) (r : Status)
    → IfSome old.left (λ bytes. replies bytes (report_of refused written)) → (refused ≡ false → IsAtEnd new.left)
    → IsInput old new → IsWrittenOut refused written old.held new.held old.write_faults new.write_faults r
    → IsStreamed replies old new r
streamed replies refused written old new Done right end input (is, all, well) = (
  record {
    reply =
        subst (λ b. IfSome old.left (IsReplied replies b old.held new.held)) is
        (whole replies refused written old.left old.held new.held right all);
    kept = (written, all);
    input = input;
    faultless = well;
  },
  end is,
)
streamed replies refused written old new Refused right end input (is, all, well) = record {
  reply =
      subst (λ b. IfSome old.left (IsReplied replies b old.held new.held)) is
      (whole replies refused written old.left old.held new.held right all);
  kept = (written, all);
  input = input;
  faultless = well;
}
streamed replies refused written old new Words right end input out = absurd out
streamed replies refused written old new ReadFault right end input out = absurd out
streamed replies refused written old new WriteFault right end input (front, fault) = record {
  fault = fault;
  front = partly replies refused written old.left old.held new.held right front;
  kept = (front.front, front.written);
  input = input;
}
streamed replies refused written old new Memory right end input (is, front, well) = record {
  front = inr (record {
    front =
        partly (accepted replies) refused written old.left old.held new.held (accepts replies refused written old.left is right) front;
    input = input;
    ended = end is;
  });
  lost = loses_input (MAX_INPUT + 1) old.left new.left input.read;
  kept = (front.front, front.written);
  read_faults = input.faultless;
  write_faults = well;
}
streamed replies refused written old new LinkFault right end input out = absurd out
streamed replies refused written old new PeerRefused right end input out = absurd out

-- ---- what is written of a log

-- the log of a site is replied by what its history plays
pub site_played : (left : Option (List ℕ)) (s : State) → IfSome left (λ bytes. IsLoadedAs 0 bytes s)
    → IfSome left (λ bytes. IsPlayedBack bytes (played_reply s))
site_played None s loaded = tt
site_played (Some bytes) s loaded = inr (s, loaded, refl)

-- one that is refused by the line
pub line_played : (left : Option (List ℕ)) (old new line : List ℕ) → old ≡ [] → line ≡ new
    → IfSome left (λ bytes. IsRefusedInto 0 bytes old new)
    → IfSome left (λ bytes. IsPlayedBack bytes (refusing line))
line_played None old new line none same refused = tt
line_played (Some bytes) old new line none same (l, is, added) =
    inl (l, is, ap refusing (same ∙ added ∙ ap (λ (xs : List ℕ). xs ++ l) none))
