-- What bytes are found to begin with, and what that says of them.
use Rattle.std.proofs.Common.{◌≡◌, ℕ, ◌+◌, ◌≤◌, List, ◌++◌, length, drop, Result, Ok, Err, IfOk, refl, sym, ap, subst, ◌∙◌, append_assoc, arith}
use Rattle.std.proofs.lemmas.List.{drop_at, length-append}
use Rattle.std.specs.Result.{IfErr}
use Rattle.wire_codec.specs.declared.cause.Cause.{Cause}
use Rattle.wire_codec.specs.declared.cause.Cause.TheVariants.{TooLong, Kind, Range, Char, Order, Zero, Length, Own, Target, Stray}
use Rattle.wire_codec.specs.declared.fault.Fault.{Fault}
use Rattle.wire_codec.specs.Reading.{LeftData, left_at, Found}
use Rattle.wire_codec.proofs.CallerLemmas.{IsBytes, IsBytes-drop}
use Rattle.flat_history.specs.Checkpoints.{Checkpoint}
use Rattle.checkpoint_codec.specs.declared.flaw.Stop.{Stop}
use Rattle.checkpoint_codec.specs.declared.flaw.Stop.TheVariants as stops
use Rattle.checkpoint_codec.specs.declared.refusal.CheckpointBad.{CheckpointBad}
use Rattle.checkpoint_codec.specs.declared.refusal.CheckpointBad.TheVariants.{Header, Cut, Bad, Memory}
use Rattle.checkpoint_codec.specs.declared.reading.Front.{Front}
use Rattle.checkpoint_codec.specs.declared.reading.TheConstants.{HEADER_LEN}
use Rattle.checkpoint_codec.specs.Spelling.{header, fields_bytes, checkpoint_bytes}
use Rattle.checkpoint_codec.specs.Spelled.{IsSpelled}
use Rattle.checkpoint_codec.specs.Refusals.{refusal_at}
use Rattle.checkpoint_codec.specs.Answers.{found_in, IsAnswer, IsFront, HasCheckpoint, SaysOf}
use Rattle.checkpoint_codec.specs.Code.Reads.{IsRead, refusal_of}
use Rattle.checkpoint_codec.proofs.Points.{fields_reads}

-- ---- answers

-- what is answered where reading stopped
pub answered : {X : Type 0} (view : X → Checkpoint) (s : Stop) (m : LeftData) (found : Found Checkpoint) → IsRead view (Err s) m found
    → IsAnswer (Err (refusal_of s)) found
answered view (stops.At f) m found e = rw e (λ _. refl)
answered view stops.Memory m (Ok x) e = refl
answered view stops.Memory m (Err f) e = λ other. absurd (other refl)

-- ---- the header

header_long : length header ≡ HEADER_LEN
header_long = refl

behind_header : (rest : List ℕ) → drop HEADER_LEN (header ++ rest) ≡ rest
behind_header rest = drop_at header rest HEADER_LEN header_long

-- what comes after the header is one thing
pub one_rest : (bytes rest other : List ℕ) → bytes ≡ header ++ rest → bytes ≡ header ++ other → rest ≡ other
one_rest bytes rest other e f = sym (behind_header rest) ∙ ap (drop HEADER_LEN) (sym e ∙ f) ∙ behind_header other

rest_of : (bytes rest other : List ℕ) (p : Checkpoint) → bytes ≡ header ++ rest → bytes ≡ checkpoint_bytes p ++ other
    → rest ≡ fields_bytes p ++ other
rest_of bytes rest other p e f =
    one_rest bytes rest (fields_bytes p ++ other) e (f ∙ append_assoc header (fields_bytes p) other)

rest_fits : (bytes rest : List ℕ) → IsBytes bytes → bytes ≡ header ++ rest → IsBytes rest
rest_fits bytes rest fits e =
    subst IsBytes (ap (drop HEADER_LEN) e ∙ behind_header rest) (IsBytes-drop HEADER_LEN bytes fits)

-- ---- what is read again

-- the checkpoint that is spelled there is found
found_again : (bytes rest other : List ℕ) (p : Checkpoint) → bytes ≡ header ++ rest → IsSpelled p → bytes ≡ checkpoint_bytes p ++ other
    → found_in rest ≡ Ok (p, left_at (HEADER_LEN + length (fields_bytes p)) other)
found_again bytes rest other p e is f = ap found_in (rest_of bytes rest other p e f) ∙ fields_reads.again p HEADER_LEN other is

pub again_only : (bytes rest other : List ℕ) (p : Checkpoint) (why : CheckpointBad) → bytes ≡ header ++ rest → IsSpelled p
    → bytes ≡ checkpoint_bytes p ++ other → IsAnswer (Err why) (found_in rest) → why ≡ Memory
again_only bytes rest other p why e is f a = subst (IsAnswer (Err why)) (found_again bytes rest other p e is f) a

pub again_same : (bytes rest other : List ℕ) (p : Checkpoint) (front : Front) → bytes ≡ header ++ rest → IsSpelled p
    → bytes ≡ checkpoint_bytes p ++ other → IsAnswer (Ok front) (found_in rest) → front.checkpoint ≡ p
again_same bytes rest other p front e is f a =
    let told = subst (IsAnswer (Ok front)) (found_again bytes rest other p e is f) a in told.0

-- ---- what an answer says

module _ (bytes rest : List ℕ) (fits : IsBytes bytes) (e : bytes ≡ header ++ rest) where
  front_is : (front : Front) (r : Found Checkpoint) → found_in rest ≡ r → IsAnswer (Ok front) r → IsFront bytes front
  front_is front (Ok x) found a =
      let p = x.0 in
      let took = fields_reads.takes (left_at HEADER_LEN rest) x.1 p (rest_fits bytes rest fits e) found in
      let whole : bytes ≡ checkpoint_bytes p ++ x.1.bytes =
      e ∙ ap (λ (t : List ℕ). header ++ t) took.0.parts ∙ sym (append_assoc header (fields_bytes p) x.1.bytes) in
      let used : length (checkpoint_bytes p) ≡ front.used =
      omega (arith, a.1, took.0.place, length-append header (fields_bytes p), header_long) in
      let left : drop front.used bytes ≡ x.1.bytes =
      ap (drop front.used) whole ∙ drop_at (checkpoint_bytes p) x.1.bytes front.used used in
      record {
        is = subst IsSpelled (sym a.0) took.1;
        size = sym used ∙ ap (λ (q : Checkpoint). length (checkpoint_bytes q)) (sym a.0);
        parts = whole ∙ ap (λ (t : List ℕ). checkpoint_bytes p ++ t) (sym left)
            ∙ ap (λ (q : Checkpoint). checkpoint_bytes q ++ drop front.used bytes) (sym a.0);
      }
  front_is front (Err f) found a = absurd a

  pub answer_tells : (front : Front) → IsAnswer (Ok front) (found_in rest) → IsFront bytes front
  answer_tells front a = front_is front (found_in rest) refl a

  none_there : (f : Fault) → found_in rest ≡ Err f → ¬ HasCheckpoint bytes
  none_there f found h =
      let there = found_again bytes rest h.1 h.0 e h.2 h.3 in
      let both = sym found ∙ there in cc

  within : (f : Fault) → found_in rest ≡ Err f → f.offset ≤ length bytes
  within f found =
      let most = fields_reads.faults (left_at HEADER_LEN rest) f (rest_fits bytes rest fits e) found in
      omega (arith, most, ap length e, length-append header rest, header_long)

  says : (cause : Cause) (at : ℕ) → at ≤ length bytes → ¬ HasCheckpoint bytes → SaysOf bytes (refusal_at cause at)
  says TooLong at le none = (le, none)
  says Kind at le none = (le, none)
  says Range at le none = (le, none)
  says Char at le none = (le, none)
  says Order at le none = (le, none)
  says Zero at le none = (le, none)
  says Length at le none = (le, none)
  says Own at le none = (le, none)
  says Target at le none = (le, none)
  says Stray at le none = (le, none)

  fault_says : (why : CheckpointBad) (f : Fault) → found_in rest ≡ Err f → why ≡ refusal_at f.cause f.offset → SaysOf bytes why
  fault_says why f found is =
      subst (SaysOf bytes) (sym is) (says f.cause f.offset (within f found) (none_there f found))

  refusal_is : (why : CheckpointBad) (r : Found Checkpoint) → found_in rest ≡ r → IsAnswer (Err why) r → SaysOf bytes why
  refusal_is why (Ok x) found a = subst (SaysOf bytes) (sym a) tt
  refusal_is Memory (Err f) found a = tt
  refusal_is Header (Err f) found a = fault_says Header f found (a (λ e. cc))
  refusal_is (Cut at) (Err f) found a = fault_says (Cut at) f found (a (λ e. cc))
  refusal_is (Bad at cause) (Err f) found a = fault_says (Bad at cause) f found (a (λ e. cc))

  pub answer_says : (why : CheckpointBad) → IsAnswer (Err why) (found_in rest) → SaysOf bytes why
  answer_says why a = refusal_is why (found_in rest) refl a

  pub tells_all : (r : Result Front CheckpointBad) → IsAnswer r (found_in rest) → IfOk r (IsFront bytes)
  tells_all (Ok front) a = answer_tells front a
  tells_all (Err why) a = tt

  pub says_all : (r : Result Front CheckpointBad) → IsAnswer r (found_in rest) → IfErr r (SaysOf bytes)
  says_all (Ok front) a = tt
  says_all (Err why) a = answer_says why a

  pub only_all : (r : Result Front CheckpointBad) → IsAnswer r (found_in rest) → (p : Checkpoint) (other : List ℕ) → IsSpelled p
      → bytes ≡ checkpoint_bytes p ++ other → IfErr r (λ why. why ≡ Memory)
  only_all (Ok front) a p other is f = tt
  only_all (Err why) a p other is f = again_only bytes rest other p why e is f a

  pub same_all : (r : Result Front CheckpointBad) → IsAnswer r (found_in rest) → (p : Checkpoint) (other : List ℕ) → IsSpelled p
      → bytes ≡ checkpoint_bytes p ++ other → IfOk r (λ front. front.checkpoint ≡ p)
  same_all (Ok front) a p other is f = again_same bytes rest other p front e is f a
  same_all (Err why) a p other is f = tt
