-- What becomes of a site to which operations are sent, one after the other.
use Rattle.std.proofs.Common.{◌≡◌, ℕ, suc, ◌+◌, true, false, List, [], ◌∷◌, ◌++◌, refl, sym, ap, subst, ◌∙◌, length, take, drop, get_or, append-nil, arith}
use Rattle.std.specs.Prelude.{Some, slice_get}
use Rattle.std.proofs.Math.Seq.{drop-cons, drop-length}
use Rattle.std.proofs.lemmas.List.{take-append-drop}
use Rattle.std.proofs.lemmas.Option.{slice_get_within, get_or_from_slice_get}
use Rattle.context_diff.specs.Operations.{OpData, IsWellFormed}
use Rattle.wire_codec.specs.declared.version.Version.TheVariants.{Two}
use Rattle.wire_codec.specs.Spelling.{frame}
use Rattle.wire_codec.specs.Judging.{IsFrame}
use Rattle.wire_codec.specs.Answers.{HasFrame}
use Rattle.wire_codec.proofs.CallerLemmas.{fits_two, frame_once}
use Rattle.cot_site.specs.States.{State, judged, delivered}
use Rattle.cot_site.specs.Releases.{settled}
use Rattle.uses.specs.declared.stop.Stop.{Stop}
use Rattle.uses.specs.declared.stop.Stop.TheVariants as stop
use Rattle.uses.specs.Mail.{is_taken, last_first, AreTaken, IsReceived, IsUnreceived, IsBrokenOff, IsOfRefused, IsUnsent, IsPartlySent}

-- ---- one operation

-- bytes that begin with the frame of an operation aren't received for the reason for which that one isn't taken in
pub unreceived : (bytes : List ℕ) (o : OpData) (used : ℕ) (s t : State) (why : Stop) → IsFrame Two bytes o used → IsUnsent o s t why
    → IsUnreceived bytes s t why
unreceived bytes o used s t stop.Memory begins unsent = record { op = o; used = used; begins = begins; state = unsent }
unreceived bytes o used s t stop.Edit begins unsent = absurd unsent
unreceived bytes o used s t stop.NoFrame begins unsent = absurd unsent
unreceived bytes o used s t stop.Refused begins unsent = (record { op = o; used = used; begins = begins; refused = unsent.0 }, unsent.1)
unreceived bytes o used s t stop.Apart begins unsent = absurd unsent
unreceived bytes o used s t (stop.Output error) begins unsent = absurd unsent

-- the bytes are an operation's frame
module _ (o : OpData) (formed : IsWellFormed o) (bytes : List ℕ) (is : bytes ≡ frame Two o) where
  -- so they are no other's
  only : (p : OpData) (used : ℕ) → IsFrame Two bytes p used → p ≡ o
  only p used begins =
      frame_once Two p o (drop used bytes) [] begins.well begins.fits formed (fits_two o formed)
      (sym begins.parts ∙ is ∙ sym (append-nil (frame Two o)))

  begins_with : HasFrame Two bytes
  begins_with = (
    length (frame Two o),
    record {
      op = o;
      is = record {
        well = formed;
        fits = fits_two o formed;
        size = refl;
        parts = is ∙ sym (ap (λ (rest : List ℕ). frame Two o ++ rest)
            (ap (drop (length (frame Two o))) is ∙ drop-length (frame Two o)) ∙ append-nil (frame Two o));
      };
    },
  )

  pub received_is : (s t : State) → IsReceived bytes s t → (t ≡ settled (delivered s o)) × (is_taken (judged s o) ≡ true)
  received_is s t received =
      let same : received.op ≡ o = only received.op received.used received.begins in (
        received.state ∙ ap (λ (p : OpData). settled (delivered s p)) same,
        subst (λ (p : OpData). is_taken (judged s p) ≡ true) same received.taken,
      )

  pub unsent_is : (s t : State) (why : Stop) → IsUnreceived bytes s t why → IsUnsent o s t why
  unsent_is s t stop.Memory broken = subst (λ (p : OpData). IsBrokenOff p s t) (only broken.op broken.used broken.begins) broken.state
  unsent_is s t stop.Edit unreceived = absurd unreceived
  unsent_is s t stop.NoFrame unreceived = absurd (unreceived.0 begins_with)
  unsent_is s t stop.Refused unreceived =
      let refused : IsOfRefused bytes s = unreceived.0 in
      (subst (λ (p : OpData). is_taken (judged s p) ≡ false) (only refused.op refused.used refused.begins) refused.refused, unreceived.1)
  unsent_is s t stop.Apart unreceived = absurd unreceived
  unsent_is s t (stop.Output error) unreceived = absurd unreceived

-- ---- the operations of a history, the last one first

-- those from this place on were taken in, and gave this state
pub record AreSentFrom (s : State) (h : List OpData) (i : ℕ) (t : State) : Type 0 where
  pub state : t ≡ last_first s (drop i h)
  pub taken : AreTaken s (drop i h)

module _ (s : State) (h : List OpData) (i : ℕ) (o : OpData) (at : slice_get h i ≡ Some o) where
  next : drop i h ≡ o ∷ drop (i + 1) h
  next =
      let after : suc i ≡ i + 1 = omega arith in
      drop-cons h i o (slice_get_within h i o at)
      ∙ ap (λ k. get_or h i o ∷ drop k h) after
      ∙ ap (λ (p : OpData). p ∷ drop (i + 1) h) (get_or_from_slice_get h i o o at)

  -- with the one before these
  pub sent_more : (t u : State) → AreSentFrom s h (i + 1) t → u ≡ settled (delivered t o) → is_taken (judged t o) ≡ true
      → AreSentFrom s h i u
  sent_more t u sent state taken =
      let here : t ≡ last_first s (drop (i + 1) h) = sent.state in
      record {
        state = state ∙ ap (λ (v : State). settled (delivered v o)) here ∙ ap (last_first s) (sym next);
        taken = subst (AreTaken s) (sym next) (subst (λ (v : State). is_taken (judged v o) ≡ true) here taken, sent.taken);
      }

  -- or that one was not sent
  pub partly_sent : (t u : State) (why : Stop) → AreSentFrom s h (i + 1) t → IsUnsent o t u why → IsPartlySent h s u why
  partly_sent t u why sent unsent = record {
    before = take i h;
    op = o;
    after = drop (i + 1) h;
    parts = sym (take-append-drop i h) ∙ ap (λ (rest : List OpData). take i h ++ rest) next;
    taken = sent.taken;
    unsent = subst (λ (v : State). IsUnsent o v u why) sent.state unsent;
  }

-- none of them is sent yet
pub none_sent : (s : State) (h : List OpData) (n : ℕ) → n ≡ length h → AreSentFrom s h n s
none_sent s h n is =
    let nothing : drop n h ≡ [] = ap (λ k. drop k h) is ∙ drop-length h in
    record { state = ap (last_first s) (sym nothing); taken = subst (AreTaken s) (sym nothing) tt }
