-- Frames that are passed over one after the other.
use Rattle.std.proofs.Common.{◌≡◌, ℕ, ◌+◌, List, [], ◌∷◌, ◌++◌, length, drop, sym, ap, ◌∙◌, append_assoc, append-nil, arith}
use Rattle.std.proofs.lemmas.List.{length-append}
use Rattle.std.proofs.lemmas.List.Concat.{flat_map-append, flat_map-cons}
use Rattle.context_diff.specs.Operations.{OpData, IsWellFormed}
use Rattle.wire_codec.specs.declared.version.Version.TheVariants.{Two}
use Rattle.wire_codec.specs.Spelling.{frame}
use Rattle.wire_codec.specs.Answers.{BeginsWithFrame}
use Rattle.checkpoint_codec.specs.Frames.{frames, AreFormed, BeginWith}

-- frames of operations stand before what is left, which begins at this offset
pub record IsPassed (bytes : List ℕ) (at offset : ℕ) (left : List ℕ) : Type 0 where
  pub ops : List OpData
  pub begin : BeginWith bytes ops left
  pub place : offset ≡ at + length (frames ops)

formed_more : (os : List OpData) (o : OpData) → AreFormed os → IsWellFormed o → AreFormed (os ++ o ∷ [])
formed_more [] o h is = (is, tt)
formed_more (x ∷ xs) o h is = (h.0, formed_more xs o h.1 is)

frames_more : (os : List OpData) (o : OpData) → frames (os ++ o ∷ []) ≡ frames os ++ frame Two o
frames_more os o =
    flat_map-append (frame Two) os (o ∷ [])
    ∙ ap (λ (t : List ℕ). frames os ++ t) (flat_map-cons (frame Two) o [] ∙ append-nil (frame Two o))

pub one_passed : (bytes : List ℕ) (at offset : ℕ) (left rest : List ℕ) (used : ℕ) → IsPassed bytes at offset left
    → BeginsWithFrame Two left used → rest ≡ drop used left → IsPassed bytes at (offset + used) rest
one_passed bytes at offset left rest used p f is =
    let os = p.ops in
    let one = frame Two f.op in
    let parts : left ≡ one ++ rest = f.is.parts ∙ ap (λ (t : List ℕ). one ++ t) (sym is) in
    let more = frames_more os f.op in
    let long : length (frames (os ++ f.op ∷ [])) ≡ length (frames os) + length one = ap length more ∙ length-append (frames os) one in
    record {
      ops = os ++ f.op ∷ [];
      begin = record {
        formed = formed_more os f.op p.begin.formed f.is.well;
        parts = p.begin.parts ∙ ap (λ (t : List ℕ). frames os ++ t) parts ∙ sym (append_assoc (frames os) one rest)
            ∙ ap (λ (t : List ℕ). t ++ rest) (sym more);
      };
      place = omega (arith, p.place, f.is.size, long);
    }
