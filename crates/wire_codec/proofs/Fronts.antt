-- What the answers of `scan` and `decode` say of the bytes.
use Rattle.std.proofs.Common.{◌≡◌, ℕ, ◌+◌, ◌≤◌, List, ◌++◌, length, drop, Result, Ok, Err, refl, sym, ap, subst, ◌∙◌, arith}
use Rattle.std.specs.Prelude.{IsOk, IfOk}
use Rattle.std.proofs.lemmas.List.{length-append}
use Rattle.context_diff.specs.Operations.{OpData, IsInRange, IsWellFormed}
use Rattle.context_diff.specs.Ops.{data_of}
use Rattle.wire_codec.specs.declared.answers.Decoded.{Decoded}
use Rattle.wire_codec.specs.declared.answers.Decoded.TheVariants as decoded
use Rattle.wire_codec.specs.declared.fault.Fault.{Fault}
use Rattle.wire_codec.specs.declared.fault.Refused.{Refused}
use Rattle.wire_codec.specs.declared.fault.Refused.TheVariants.{More, Bad}
use Rattle.wire_codec.specs.declared.rules.LentOp.{LentOp}
use Rattle.wire_codec.specs.declared.version.Version.{Version}
use Rattle.wire_codec.specs.Versions.{Fits}
use Rattle.wire_codec.specs.Spelling.{frame}
use Rattle.wire_codec.specs.Reading.{fault}
use Rattle.wire_codec.specs.Judging.{judge, IsFrame}
use Rattle.wire_codec.specs.Code.Lent.{op_seen, judged_as}
use Rattle.wire_codec.specs.Answers.{scan_of, judgement_of, HasFrame, IsBad, SaysOf, TellsOf}
use Rattle.wire_codec.proofs.Steps.{IsBytes}
use Rattle.wire_codec.proofs.Growth.{bad_stays}
use Rattle.wire_codec.proofs.Judgement.{judge_takes, judge_again, judge_more, judge_within}

-- a frame is judged to be there, whatever follows it
pub judged_only : (v : Version) (bytes : List ℕ) (o : OpData) (rest : List ℕ) → IsWellFormed o → Fits v o → bytes ≡ frame v o ++ rest
    → judge v bytes ≡ Ok (o, length (frame v o))
judged_only v bytes o rest well fits e = ap (judge v) e ∙ judge_again v o rest well fits

-- ---- after a fault

-- no continuation of bad bytes begins with a frame
pub never_a_frame : (v : Version) (bytes more : List ℕ) (f : Fault) → judge v bytes ≡ Err (Bad f) → ¬ HasFrame v (bytes ++ more)
never_a_frame v bytes more f e has =
    let frame_here = has.1.is in
    let good = judged_only v (bytes ++ more) has.1.op (drop has.0 (bytes ++ more)) frame_here.well frame_here.fits frame_here.parts in
    let bad = bad_stays v bytes more f e in
    absurd (let never = sym good ∙ bad in cc)

bad_says : (v : Version) (bytes : List ℕ) (f : Fault) → IsBytes bytes → judge v bytes ≡ Err (Bad f) → IsBad v bytes f.offset
bad_says v bytes f fits e = record { within = judge_within v bytes f fits e; never = λ more. never_a_frame v bytes more f e }

-- what is judged good begins with a frame
pub has_frame : (v : Version) (bytes : List ℕ) → IsBytes bytes → IsOk (judge v bytes) → HasFrame v bytes
has_frame v bytes fits ok = has_frame_of v bytes (judge v bytes) fits refl ok where
  has_frame_of : (v : Version) (bytes : List ℕ) (j : Result (OpData × ℕ) Refused) → IsBytes bytes → judge v bytes ≡ j → IsOk j
      → HasFrame v bytes
  has_frame_of v bytes (Ok x) fits e ok = (x.1, record { op = x.0; is = judge_takes v bytes x.0 x.1 fits e })
  has_frame_of v bytes (Err r) fits e ok = absurd (let no = ok in cc)

-- ---- what the answers say

scan_says_of : (v : Version) (bytes : List ℕ) (j : Result (OpData × ℕ) Refused) → IsBytes bytes → judge v bytes ≡ j
    → SaysOf v bytes (scan_of j)
scan_says_of v bytes (Ok x) fits e = record { op = x.0; is = judge_takes v bytes x.0 x.1 fits e }
scan_says_of v bytes (Err (More n)) fits e = judge_more v bytes n e
scan_says_of v bytes (Err (Bad f)) fits e = bad_says v bytes f fits e

pub scan_says : (v : Version) (bytes : List ℕ) → IsBytes bytes → SaysOf v bytes (scan_of (judge v bytes))
scan_says v bytes fits = scan_says_of v bytes (judge v bytes) fits refl

pub decode_tells : (v : Version) (bytes : List ℕ) (d : Decoded) → IsBytes bytes → judgement_of d ≡ judge v bytes → TellsOf v bytes d
decode_tells v bytes (decoded.Got op used) fits e = judge_takes v bytes (data_of op) used fits (sym e)
decode_tells v bytes (decoded.More n) fits e = judge_more v bytes n (sym e)
decode_tells v bytes (decoded.Bad cause offset) fits e = bad_says v bytes (fault cause offset) fits (sym e)

-- an operation that was judged good is in its ranges
pub judged_range : (v : Version) (bytes : List ℕ) (judged : Result (LentOp × ℕ) Refused) → IsBytes bytes
    → judged_as op_seen judged ≡ judge v bytes
    → IfOk judged (λ p. IsInRange (op_seen p.0))
judged_range v bytes (Ok p) fits e = (judge_takes v bytes (op_seen p.0) p.1 fits (sym e)).well.in_range
judged_range v bytes (Err r) fits e = tt

-- out of memory only where there is a frame
pub judged_frame : (v : Version) (bytes : List ℕ) (judged : Result (LentOp × ℕ) Refused) → IsBytes bytes
    → judged_as op_seen judged ≡ judge v bytes
    → IsOk judged → HasFrame v bytes
judged_frame v bytes (Ok p) fits e ok = has_frame v bytes fits (subst (λ (j : Result (OpData × ℕ) Refused). IsOk j) e refl)
judged_frame v bytes (Err r) fits e ok = absurd (let no = ok in cc)

-- a frame is in the bytes that begin with it
pub used_within : (v : Version) (bytes : List ℕ) (o : OpData) (used : ℕ) → IsFrame v bytes o used → used ≤ length bytes
used_within v bytes o used is =
    let size = is.size in
    let long : length bytes ≡ length (frame v o) + length (drop used bytes) =
    ap length is.parts ∙ length-append (frame v o) (drop used bytes) in
    omega (arith, size, long)
