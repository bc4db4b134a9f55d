-- How many bytes the parts of messages have, at most.
use Rattle.std.proofs.Common.{ℕ, ◌+◌, ◌*◌, ◌≤◌, List, [], ◌∷◌, length, ap, arith}
use Rattle.std.specs.Prelude.{Contains}
use Rattle.std.specs.List.{flat_map}
use Rattle.std.proofs.Math.Nat.{mul-suc}
use Rattle.std.proofs.lemmas.List.{length-append}
use Rattle.std.proofs.lemmas.List.Concat.{flat_map-cons}
use Rattle.op_name.specs.declared.name.TheConstants.{SITES}
use Rattle.context_vector.specs.Contexts.{ContextData, IsContext}
use Rattle.context_diff.specs.Operations.{OpData}
use Rattle.context_diff.proofs.CallerLemmas.{contains_here, contains_later}
use Rattle.cot_site.specs.Sites.{AllFormed}
use Rattle.wire_codec.specs.declared.version.Version.TheVariants.{Two}
use Rattle.wire_codec.specs.Versions.{longest}
use Rattle.wire_codec.specs.Spelling.{body_bytes, frame}
use Rattle.wire_codec.specs.Judging.{count_len}
use Rattle.wire_codec.specs.States.{state_bytes}
use Rattle.wire_codec.proofs.CallerLemmas.{body_short, counts_few, fits_two, state_short}

-- pieces of at most k bytes each
pieces_short : {A : Type 0} (f : A → List ℕ) (k : ℕ) (xs : List A) → ((x : A) → Contains xs x → length (f x) ≤ k)
    → length (flat_map f xs) ≤ k * length xs
pieces_short f k [] each = omega arith
pieces_short f k (x ∷ xs) each =
    let rest = pieces_short f k xs (λ y at. each y (contains_later x xs y at)) in
    omega (
      arith,
      rest,
      each x (contains_here x xs),
      ap length (flat_map-cons f x xs),
      length-append (f x) (flat_map f xs),
      mul-suc k
          (length xs),
    )

-- ---- frames

-- the bytes of the longest frame
abbrev pub longest_frame : ℕ
longest_frame = 4 + longest Two

pub frames_short : (os : List OpData) → AllFormed os → length (flat_map (frame Two) os) ≤ longest_frame * length os
frames_short os formed =
    pieces_short (frame Two) longest_frame os (λ o at. one o (body_short Two o (formed o at).in_range (fits_two o (formed o at))))
  where
    one : (o : OpData) → length (body_bytes Two o) ≤ longest Two → length (frame Two o) ≤ longest_frame
    one o short = omega (arith, short)

-- ---- states

-- each undone name may be a run of its own
pub context_short : (c : ContextData) → IsContext c → length (state_bytes c) ≤ 6 + count_len Two * SITES + 12 * length c.entries
context_short c is =
    let few = counts_few 0 c.counts is.counts (omega arith) in
    omega (arith, few, state_short c)
