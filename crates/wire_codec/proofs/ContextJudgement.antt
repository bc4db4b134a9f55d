-- The judgement of contexts by themselves is their spelling: what is judged good begins with one, and each is judged so, whatever follows.
use Rattle.std.proofs.Common.{◌≡◌, ℕ, ◌+◌, ◌-◌, ◌*◌, ◌≤◌, false, List, ◌++◌, length, drop, Result, Ok, Err, refl, sym, ap, subst, ◌∙◌, arith, inl, inr}
use Rattle.std.specs.Prelude.{IsOk, IfOk}
use Rattle.std.specs.List.{flat_map}
use Rattle.std.proofs.lemmas.List.{drop_at}
use Rattle.op_name.specs.declared.memory.Memory.{Memory}
use Rattle.context_vector.specs.Contexts.{ContextData, AreCounts}
use Rattle.wire_codec.specs.declared.context_answers.DecodedContext.{DecodedContext}
use Rattle.wire_codec.specs.declared.context_answers.DecodedContext.TheVariants as decoded
use Rattle.wire_codec.specs.declared.cause.Cause.TheVariants.{Length}
use Rattle.wire_codec.specs.declared.fault.Fault.{Fault}
use Rattle.wire_codec.specs.declared.rules.LentContext.{LentContext}
use Rattle.wire_codec.specs.declared.version.Version.TheVariants.{Two}
use Rattle.wire_codec.specs.declared.listing.Listing.TheVariants.{Runs}
use Rattle.wire_codec.specs.Runs.{names_in, runs_of}
use Rattle.wire_codec.specs.Spelling.{context_bytes}
use Rattle.wire_codec.specs.Reading.{left_at, fault, context_at}
use Rattle.wire_codec.specs.Judging.{run_len, stray_from}
use Rattle.wire_codec.specs.Code.Lent.{context_as}
use Rattle.wire_codec.specs.Contexts.{IsShort, names_begin, judge_context, is_length, IsContextOf, HasContext, context_judgement_of, AsksForMore, TellsOfContext}
use Rattle.wire_codec.proofs.Steps.{IsBytes, ok_is, bind_ok, bind_err}
use Rattle.wire_codec.proofs.TwoWays.{Takes-ends}
use Rattle.wire_codec.proofs.Contexts.{FitsContext, context_reads}
use Rattle.wire_codec.proofs.RunNames.{names_of_runs}
use Rattle.wire_codec.proofs.Sites.{counts_of_two, entries_of_two}
use Rattle.wire_codec.proofs.Sizes.{length-context_bytes}
use Rattle.wire_codec.proofs.Strays.{stray_ok, stray_again, stray_faults}
use Rattle.wire_codec.proofs.WellFormed.{AreOriginals, stray_keeps, has_no_stray}
use Rattle.wire_codec.proofs.Going.{context_stays}

-- whether the undone names of a context that ends at `stop` are originals of it
abbrev strays : ContextData → ℕ → Result (Unit {0}) Fault
strays c stop = stray_from Runs c (names_begin c stop) (runs_of Runs c.entries)

pub context_takes : (bytes : List ℕ) (c : ContextData) (used : ℕ) → IsBytes bytes → judge_context bytes ≡ Ok (c, used)
    → IsContextOf bytes c used
unfolding judge_context
context_takes bytes c used fits e =
    let b = bind_ok (context_at Two (left_at 0 bytes)) _ (c, used) e in
    let x = b.0.0 in
    let m = b.0.1 in
    let kept = bind_ok (strays x m.at) (λ _. Ok (x, m.at)) (c, used) b.2 in
    let took = (context_reads Two).takes (left_at 0 bytes) m x fits b.1 in
    let originals : AreOriginals x x.entries =
    subst (AreOriginals x) (names_of_runs Runs x.entries) (stray_ok Runs x (names_begin x m.at) (runs_of Runs x.entries) kept.1) in
    let size : m.at ≡ length (context_bytes Two x) = (let place = took.0.place in omega (arith, place)) in
    let rest : drop m.at bytes ≡ m.bytes = ap (drop m.at) took.0.parts ∙ drop_at (context_bytes Two x) m.bytes m.at (sym size) in
    let is : IsContextOf bytes x m.at = record {
      is = record { is = took.1.is; stray = stray_keeps x originals; few = took.1.few };
      size = size;
      parts = took.0.parts ∙ ap (λ (t : List ℕ). context_bytes Two x ++ t) (sym rest);
    } in
    subst (λ (y : ContextData × ℕ). IsContextOf bytes y.0 y.1) (ok_is (x, m.at) (c, used) kept.2) is

fits_short : (c : ContextData) → IsShort c → FitsContext Two c
fits_short c h = record {
  is = h.is;
  few = h.few;
  counts = counts_of_two 0 c.counts h.is.counts;
  entries = entries_of_two c.entries h.is.entries;
}

pub context_again : (c : ContextData) (rest : List ℕ) → IsShort c
    → judge_context (context_bytes Two c ++ rest) ≡ Ok (c, length (context_bytes Two c))
unfolding judge_context
context_again c rest is =
    let stop = 0 + length (context_bytes Two c) in
    let originals : AreOriginals c (flat_map names_in (runs_of Runs c.entries)) =
    subst (AreOriginals c) (sym (names_of_runs Runs c.entries)) (has_no_stray c is.is.entries is.stray) in
    let kept : strays c stop ≡ Ok tt = stray_again Runs c (names_begin c stop) (runs_of Runs c.entries) originals in
    let ends : stop ≡ length (context_bytes Two c) = omega arith in
    rw ((context_reads Two).again c 0 rest (fits_short c is), kept) (ap (λ (n : ℕ). Ok (c, n)) ends)

-- a fault stays, whatever follows it, unless it is that the bytes end
pub context_bad_stays : (bytes more : List ℕ) (f : Fault) → judge_context bytes ≡ Err f → is_length f.cause ≡ false
    → judge_context (bytes ++ more) ≡ Err f
unfolding judge_context
context_bad_stays bytes more f e other =
    elim (bind_err (context_at Two (left_at 0 bytes)) _ f e) [
      | inl here ↦ rw ((context_stays Two).bad (left_at 0 bytes) f more here other) refl
      | inr b ↦ rw ((context_stays Two).good (left_at 0 bytes) b.0.1 b.0.0 more b.1) b.2
    ]

-- the greatest offset of a fault of a run, counted from the end
begins : (offset stop runs : ℕ) → runs ≤ stop → offset ≤ (stop - runs) + runs → offset ≤ stop
begins offset stop runs within h = omega (arith, within, h)

pub context_within : (bytes : List ℕ) (f : Fault) → IsBytes bytes → judge_context bytes ≡ Err f → f.offset ≤ length bytes
unfolding judge_context
context_within bytes f fits e =
    elim (bind_err (context_at Two (left_at 0 bytes)) _ f e) [
      | inl here ↦ omega (arith, (context_reads Two).faults (left_at 0 bytes) f fits here)
      | inr b ↦
          let x = b.0.0 in
          let m = b.0.1 in
          let runs = run_len Runs * length (runs_of Runs x.entries) in
          let took = ((context_reads Two).takes (left_at 0 bytes) m x fits b.1).0 in
          let ends = Takes-ends (left_at 0 bytes) m (context_bytes Two x) took in
          elim (bind_err (strays x m.at) (λ _. Ok (x, m.at)) f b.2) [
            | inl stray ↦
                let bound = stray_faults Runs x (names_begin x m.at) (runs_of Runs x.entries) f stray in
                let size = length-context_bytes Two x in
                let long : runs ≤ m.at = omega (arith, size, took.place) in
                let inside = begins f.offset m.at runs long bound in
                omega (arith, inside, ends)
            | inr on ↦ absurd (let no = on.2 in cc)
          ]
    ]

-- ---- what the answers say

pub context_only : (bytes : List ℕ) (c : ContextData) (rest : List ℕ) → IsShort c → bytes ≡ context_bytes Two c ++ rest
    → judge_context bytes ≡ Ok (c, length (context_bytes Two c))
context_only bytes c rest is e = ap judge_context e ∙ context_again c rest is

-- bytes that are refused begin with no context
none_there : (bytes : List ℕ) (f : Fault) → judge_context bytes ≡ Err f → ¬ HasContext bytes
none_there bytes f e has =
    let here = has.2 in
    let good = context_only bytes has.0 (drop has.1 bytes) here.is here.parts in
    absurd (let never = sym good ∙ e in cc)

pub context_tells : (bytes : List ℕ) (d : DecodedContext) → IsBytes bytes → AsksForMore d → context_judgement_of d ≡ judge_context bytes
    → TellsOfContext bytes d
context_tells bytes (decoded.Got vector used) fits asks e = context_takes bytes vector.set used fits (sym e)
context_tells bytes (decoded.More field) fits asks e = record {
  within = context_within bytes (fault Length field) fits (sym e);
  none = none_there bytes (fault Length field) (sym e);
}
context_tells bytes (decoded.Bad cause offset) fits asks e = record {
  other = asks;
  within = context_within bytes (fault cause offset) fits (sym e);
  never = λ more. none_there (bytes ++ more) (fault cause offset) (context_bad_stays bytes more (fault cause offset) (sym e) asks);
}

-- the counts of a context that was judged good
pub context_counts : (bytes : List ℕ) (judged : Result (LentContext × ℕ) Fault) → IsBytes bytes → context_as judged ≡ judge_context bytes
    → IfOk judged (λ p. AreCounts 0 p.0.counts)
context_counts bytes (Ok p) fits e = (context_takes bytes _ p.1 fits (sym e)).is.is.counts
context_counts bytes (Err f) fits e = tt

-- out of memory only where there is a context
pub judged_context : (bytes : List ℕ) (judged : Result (LentContext × ℕ) Fault) → IsBytes bytes → context_as judged ≡ judge_context bytes
    → IsOk judged → HasContext bytes
judged_context bytes (Ok p) fits e ok = (_, p.1, context_takes bytes _ p.1 fits (sym e))
judged_context bytes (Err f) fits e ok = absurd (let no = ok in cc)

-- the same of an answer that may be Memory
pub told_of : (bytes : List ℕ) (r : Result DecodedContext Memory) → IsBytes bytes → IfOk r AsksForMore
    → IfOk r (λ d. context_judgement_of d ≡ judge_context bytes) → IfOk r (TellsOfContext bytes)
told_of bytes (Ok d) fits asks e = context_tells bytes d fits asks e
told_of bytes (Err m) fits asks e = tt
