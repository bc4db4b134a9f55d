-- Runs of undone names, read one after the other as a loop does.
use Rattle.std.proofs.Common.{◌≡◌, ℕ, suc, ◌+◌, ◌<◌, ◌≤◌, Ok, Err, sym, subst, arith}
use Rattle.std.specs.Int.{w8, w16, w32, to_be_bytes, from_be_bytes}
use Rattle.wire_codec.specs.declared.fault.Fault.{Fault}
use Rattle.wire_codec.specs.declared.listing.Listing.{Listing}
use Rattle.wire_codec.specs.declared.listing.Listing.TheVariants.{Names, Runs, LongRuns}
use Rattle.wire_codec.specs.Runs.{RunData, run_of}
use Rattle.wire_codec.specs.Spelling.{run_bytes}
use Rattle.wire_codec.specs.Reading.{LeftData, Before, nothing_before, many, run_at, before_next}
use Rattle.wire_codec.specs.Judging.{run_len}
use Rattle.wire_codec.specs.Code.Elements.{elements}
use Rattle.wire_codec.specs.Code.Sections.{raw_run}
use Rattle.wire_codec.proofs.Steps.{IsBytes}
use Rattle.wire_codec.proofs.Numbers.{wide8, wide16, wide32}
use Rattle.wire_codec.proofs.RunReads.{IsRun, run_reads, length-run_bytes, AreListed, many_runs}
use Rattle.wire_codec.proofs.Elements.{IsUnderWay, begins, goes_on, ends, is_done}

made : ℕ → ℕ → ℕ → ℕ → RunData
made s n len g = run_of (record { site = s; number = n }) len g

same : (s t n m a b g h : ℕ) → s ≡ t → n ≡ m → a ≡ b → g ≡ h → made s n a g ≡ made t m b h
same s t n m a b g h p q r o = cc

run_back : (k : Listing) (before : Before) (r : RunData) → IsRun k before r → raw_run k (run_bytes k r) ≡ r
unfolding made
run_back Names before r h =
    same (from_be_bytes w8 (to_be_bytes w8 r.first.site)) r.first.site (from_be_bytes w32 (to_be_bytes w32 r.first.number)) r.first.number
    1 r.len (from_be_bytes w16 (to_be_bytes w16 r.generation)) r.generation
    (wide8.again r.first.site (let site = h.named.0 in omega (arith, site)))
    (wide32.again r.first.number (let number = h.named.1.1 in omega (arith, number)))
    (sym h.length.has)
    (wide16.again r.generation (let most = h.most in omega (arith, most)))
run_back Runs before r h =
    same (from_be_bytes w16 (to_be_bytes w16 r.first.site)) r.first.site (from_be_bytes w32 (to_be_bytes w32 r.first.number)) r.first.number
    (from_be_bytes w16 (to_be_bytes w16 r.len)) r.len (from_be_bytes w16 (to_be_bytes w16 r.generation)) r.generation
    (wide16.again r.first.site (let site = h.named.0 in omega (arith, site)))
    (wide32.again r.first.number (let number = h.named.1.1 in omega (arith, number)))
    (wide16.again r.len (let few = h.length.few in omega (arith, few)))
    (wide16.again r.generation (let most = h.most in omega (arith, most)))
run_back LongRuns before r h =
    same (from_be_bytes w16 (to_be_bytes w16 r.first.site)) r.first.site (from_be_bytes w32 (to_be_bytes w32 r.first.number)) r.first.number
    (from_be_bytes w32 (to_be_bytes w32 r.len)) r.len (from_be_bytes w16 (to_be_bytes w16 r.generation)) r.generation
    (wide16.again r.first.site (let site = h.named.0 in omega (arith, site)))
    (wide32.again r.first.number (let number = h.named.1.1 in omega (arith, number)))
    (wide32.again r.len (let numbered = h.length.numbered in omega (arith, numbered)))
    (wide16.again r.generation (let most = h.most in omega (arith, most)))

-- after i of so many runs
abbrev pub RunsUnderWay : Listing → ℕ → LeftData → ℕ → Before → LeftData → Type 0
RunsUnderWay k count start i before now = IsUnderWay (run_at k) before_next (raw_run k) (run_len k) count nothing_before start i before now

module _ (k : Listing) (count : ℕ) (start : LeftData) where
  pub runs_begin : RunsUnderWay k count start 0 nothing_before start
  runs_begin =
      begins (run_at k) before_next (raw_run k) (run_len k) (run_bytes k) (IsRun k) (run_reads k) (length-run_bytes k) (run_back k) count
      nothing_before start

  pub runs_go_on : (i : ℕ) (before : Before) (now m : LeftData) (r : RunData) → IsBytes start.bytes → i < count
      → run_at k before now ≡ Ok (r, m) → RunsUnderWay k count start i before now
      → RunsUnderWay k count start (i + 1) (before_next before r) m
  runs_go_on i before now m r fits lt h way =
      let more : suc i ≡ i + 1 = omega arith in
      subst (λ (j : ℕ). RunsUnderWay k count start j (before_next before r) m) more
      (goes_on (run_at k) before_next (raw_run k) (run_len k) (run_bytes k) (IsRun k) (run_reads k) (length-run_bytes k) (run_back k) count
      nothing_before start i before now m r fits lt h way)

  pub runs_end : (i : ℕ) (before : Before) (now : LeftData) (f : Fault) → i < count → run_at k before now ≡ Err f
      → RunsUnderWay k count start i before now → many (run_at k) before_next count nothing_before start ≡ Err f
  runs_end =
      ends (run_at k) before_next (raw_run k) (run_len k) (run_bytes k) (IsRun k) (run_reads k) (length-run_bytes k) (run_back k) count
      nothing_before start

  pub runs_done : (i : ℕ) (before : Before) (now : LeftData) → count ≤ i → RunsUnderWay k count start i before now
      → many (run_at k) before_next count nothing_before start ≡ Ok (elements (raw_run k) (run_len k) i start.bytes, now)
  runs_done =
      is_done (run_at k) before_next (raw_run k) (run_len k) (run_bytes k) (IsRun k) (run_reads k) (length-run_bytes k) (run_back k) count
      nothing_before start

  -- what was read are runs
  pub runs_are : (i : ℕ) (before : Before) (now : LeftData) → IsBytes start.bytes → count ≤ i → RunsUnderWay k count start i before now
      → AreListed k 0 (elements (raw_run k) (run_len k) i start.bytes)
  runs_are i before now fits le way =
      (many_runs k count start now (elements (raw_run k) (run_len k) i start.bytes) fits (runs_done i before now le way)).1
