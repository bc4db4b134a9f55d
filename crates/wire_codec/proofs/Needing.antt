-- What is asked for is needed: a state that the bytes begin with, once they go on, has at least as many bytes.
use Rattle.std.proofs.Common.{◌≡◌, ℕ, ◌+◌, ◌*◌, ◌<◌, ◌≤◌, ◌^◌, ltb, cond, List, ◌++◌, length, take, drop, Ok, Err, sym, ap, ◌∙◌, arith, inl, inr, ◌⊎◌}
use Rattle.std.specs.Int.{w16, w32, from_be_bytes}
use Rattle.std.proofs.lemmas.Bool.{ltb-true, ltb-false}
use Rattle.std.proofs.lemmas.List.{length-append, length-drop, take-append-le, drop-append-le}
use Rattle.wire_codec.specs.declared.version.Version.TheVariants.{Two}
use Rattle.wire_codec.specs.declared.listing.Listing.TheVariants.{LongRuns}
use Rattle.wire_codec.specs.Versions.{sites}
use Rattle.wire_codec.specs.Runs.{RunData}
use Rattle.context_vector.specs.Contexts.{ContextData}
use Rattle.wire_codec.specs.declared.cause.Cause.TheVariants.{Range}
use Rattle.wire_codec.specs.declared.fault.Unread.TheVariants.{More, Bad}
use Rattle.wire_codec.specs.Spelling.{counts_bytes, entries_bytes}
use Rattle.wire_codec.specs.Reading.{Found, fault}
use Rattle.wire_codec.specs.Judging.{count_len, run_len, length_of, stray_from}
use Rattle.wire_codec.specs.States.{judge_runs, judge_named, judge_counted, sites_of, judge_state, state_bytes}
use Rattle.wire_codec.proofs.Steps.{IsBytes, IsBytes-drop, IsBytes-take, cond_ok, cond_err}
use Rattle.wire_codec.proofs.Numbers.{wide32}
use Rattle.wire_codec.proofs.StateJudgement.{with_runs, runs_found, stray_done, runs_done, runs_bad, counts_read, counted}

asked : (n m : ℕ) → More n ≡ More m → n ≡ m
asked n m e = cc

-- ---- the undone names

runs_stop : (counts : List (ℕ × ℕ)) (begin stop : ℕ) (d : ContextData) (used : ℕ) (r : Found (List RunData))
    → judge_runs counts begin stop r ≡ Ok (d, used) → used ≡ stop
runs_stop counts begin stop d used r is =
    let read = runs_done counts begin stop d used r is in
    let c = with_runs counts read.0.0 in
    sym (stray_done c d stop used (stray_from LongRuns c begin read.0.0) read.2).2

runs_ask : (counts : List (ℕ × ℕ)) (begin stop m : ℕ) (r : Found (List RunData))
    → judge_runs counts begin stop r ≡ Err (More m) → ⊥
runs_ask counts begin stop m r is =
    let bad = runs_bad counts begin stop (More m) r is in
    let never : Bad bad.0 ≡ More m = bad.1 in
    cc

-- they end where their number says
named_stops : (counts : List (ℕ × ℕ)) (at : ℕ) (bytes : List ℕ) (d : ContextData) (used : ℕ) → judge_named counts at bytes ≡ Ok (d, used)
    → used ≡ at + (4 + run_len LongRuns * length_of bytes)
unfolding judge_named runs_found
named_stops counts at bytes d used e =
    let stop = at + (4 + run_len LongRuns * length_of bytes) in
    let four =
    cond_ok (ltb (length bytes) 4) (More (at + 4))
    (cond (ltb (length bytes) (4 + run_len LongRuns * length_of bytes)) (Err (More stop))
    (judge_runs counts (at + 4) stop (runs_found bytes at))) (d, used) e in
    let there =
    cond_ok (ltb (length bytes) (4 + run_len LongRuns * length_of bytes)) (More stop)
    (judge_runs counts (at + 4) stop (runs_found bytes at)) (d, used) four.1 in
    runs_stop counts (at + 4) stop d used (runs_found bytes at) there.1

-- more bytes are asked for up to their number, or, once that is there, up to their end
named_asks : (counts : List (ℕ × ℕ)) (at : ℕ) (bytes : List ℕ) (m : ℕ) → judge_named counts at bytes ≡ Err (More m)
    → ((length bytes < 4) × (m ≡ at + 4))
    ⊎ ((4 ≤ length bytes) × (length bytes < 4 + run_len LongRuns * length_of bytes) × (m ≡ at + (4 + run_len LongRuns * length_of bytes)))
unfolding judge_named runs_found
named_asks counts at bytes m e =
    let stop = at + (4 + run_len LongRuns * length_of bytes) in
    let last = judge_runs counts (at + 4) stop (runs_found bytes at) in
    elim (cond_err (ltb (length bytes) 4) (More (at + 4)) (More m)
    (cond (ltb (length bytes) (4 + run_len LongRuns * length_of bytes)) (Err (More stop)) last) e) [
      | inl few ↦ inl (ltb-true _ _ few.0, sym (asked (at + 4) m few.1))
      | inr four ↦ elim (cond_err (ltb (length bytes) (4 + run_len LongRuns * length_of bytes)) (More stop) (More m) last four.1) [
        | inl short ↦ inr (ltb-false _ _ four.0, ltb-true _ _ short.0, sym (asked stop m short.1))
        | inr there ↦ absurd (runs_ask counts (at + 4) stop m (runs_found bytes at) there.1)
      ]
    ]

-- ---- the whole state

after_counts : List ℕ → List ℕ
after_counts bytes = drop (count_len Two * sites_of bytes) (drop 2 bytes)

counted_stops : (at : ℕ) (rest : List ℕ) (d : ContextData) (used : ℕ) (r : Found (List (ℕ × ℕ))) → judge_counted at rest r ≡ Ok (d, used)
    → used ≡ at + (4 + run_len LongRuns * length_of rest)
counted_stops at rest d used (Ok x) e = named_stops x.0 at rest d used e
counted_stops at rest d used (Err f) e = absurd (let no = e in cc)

counted_asks : (at : ℕ) (rest : List ℕ) (m : ℕ) (r : Found (List (ℕ × ℕ))) → judge_counted at rest r ≡ Err (More m)
    → ((length rest < 4) × (m ≡ at + 4))
    ⊎ ((4 ≤ length rest) × (length rest < 4 + run_len LongRuns * length_of rest) × (m ≡ at + (4 + run_len LongRuns * length_of rest)))
counted_asks at rest m (Ok x) e = named_asks x.0 at rest m e
counted_asks at rest m (Err f) e = absurd (let no = e in cc)

state_stops : (bytes : List ℕ) (d : ContextData) (used : ℕ) → judge_state bytes ≡ Ok (d, used)
    → used ≡ (2 + count_len Two * sites_of bytes) + (4 + run_len LongRuns * length_of (after_counts bytes))
unfolding judge_state counts_read counted after_counts
state_stops bytes d used e =
    let n = sites_of bytes in
    let some =
    cond_ok (ltb (length bytes) 2) (More 2)
    (cond (ltb (sites Two) n) (Err (Bad (fault Range 0)))
    (cond (ltb (length bytes) (2 + count_len Two * n)) (Err (More (2 + count_len Two * n))) (counted bytes))) (d, used) e in
    let few =
    cond_ok (ltb (sites Two) n) (Bad (fault Range 0))
    (cond (ltb (length bytes) (2 + count_len Two * n)) (Err (More (2 + count_len Two * n))) (counted bytes)) (d, used) some.1 in
    let there = cond_ok (ltb (length bytes) (2 + count_len Two * n)) (More (2 + count_len Two * n)) (counted bytes) (d, used) few.1 in
    counted_stops (2 + count_len Two * n) (after_counts bytes) d used (counts_read bytes) there.1

-- what the whole bytes begin with has what their front asks for
pub state_needs : (bytes tail : List ℕ) (d : ContextData) (used m : ℕ) → judge_state bytes ≡ Err (More m)
    → judge_state (bytes ++ tail) ≡ Ok (d, used) → m ≤ used
unfolding judge_state counts_read counted after_counts
state_needs bytes tail d used m e good =
    let all = bytes ++ tail in
    let n = sites_of bytes in
    let stop = state_stops all d used good in
    let at = 2 + count_len Two * n in
    elim (cond_err (ltb (length bytes) 2) (More 2) (More m)
    (cond (ltb (sites Two) n) (Err (Bad (fault Range 0))) (cond (ltb (length bytes) at) (Err (More at)) (counted bytes))) e) [
      | inl none ↦ let one = asked 2 m none.1 in omega (arith, one, stop)
      | inr some ↦
          let long = ltb-false _ _ some.0 in
          let same : sites_of all ≡ n = ap (λ (t : List ℕ). from_be_bytes w16 t) (take-append-le 2 bytes tail long) in
          elim (cond_err (ltb (sites Two) n) (Bad (fault Range 0)) (More m) (cond (ltb (length bytes) at) (Err (More at)) (counted bytes))
          some.1) [
            | inl bad ↦ absurd (let no = bad.1 in cc)
            | inr few ↦ elim (cond_err (ltb (length bytes) at) (More at) (More m) (counted bytes) few.1) [
              | inl short ↦ let is = asked at m short.1 in omega (arith, is, stop, same)
              | inr there ↦
                  let enough = ltb-false _ _ there.0 in
                  let inner : drop 2 all ≡ drop 2 bytes ++ tail = drop-append-le 2 bytes tail long in
                  let rest : after_counts all ≡ after_counts bytes ++ tail =
                  ap (λ (k : ℕ). drop (count_len Two * k) (drop 2 all)) same
                  ∙ (ap (drop (count_len Two * n)) inner
                  ∙ drop-append-le (count_len Two * n) (drop 2 bytes) tail (omega (arith, enough, length-drop 2 bytes))) in
                  elim (counted_asks at (after_counts bytes) m (counts_read bytes) there.1) [
                    | inl number ↦ omega (arith, number.1, stop, same)
                    | inr ending ↦
                        let names : length_of (after_counts all) ≡ length_of (after_counts bytes) =
                        ap length_of rest ∙ ap (λ (t : List ℕ). from_be_bytes w32 t)
                        (take-append-le 4 (after_counts bytes) tail ending.0) in
                        omega (arith, ending.2, stop, same, names)
                  ]
            ]
          ]
    ]

-- no state has more bytes than numbers of 32 bits can ask for
pub state_bound : (bytes : List ℕ) (m : ℕ) → IsBytes bytes → judge_state bytes ≡ Err (More m) → m < 2 ^ 36
unfolding judge_state counts_read counted after_counts
state_bound bytes m fits e =
    let n = sites_of bytes in
    let at = 2 + count_len Two * n in
    elim (cond_err (ltb (length bytes) 2) (More 2) (More m)
    (cond (ltb (sites Two) n) (Err (Bad (fault Range 0))) (cond (ltb (length bytes) at) (Err (More at)) (counted bytes))) e) [
      | inl none ↦ let one = asked 2 m none.1 in omega (arith, one)
      | inr some ↦ elim (cond_err (ltb (sites Two) n) (Bad (fault Range 0)) (More m)
          (cond (ltb (length bytes) at) (Err (More at)) (counted bytes)) some.1) [
            | inl bad ↦ absurd (let no = bad.1 in cc)
            | inr few ↦
                let sites = ltb-false _ _ few.0 in
                elim (cond_err (ltb (length bytes) at) (More at) (More m) (counted bytes) few.1) [
                  | inl short ↦ let is = asked at m short.1 in omega (arith, is, sites)
                  | inr there ↦
                      let names : length_of (after_counts bytes) < 4294967296 =
                      wide32.below (take 4 (after_counts bytes))
                      (IsBytes-take 4 (after_counts bytes) (IsBytes-drop (count_len Two * n) (drop 2 bytes) (IsBytes-drop 2 bytes fits))) in
                      elim (counted_asks at (after_counts bytes) m (counts_read bytes) there.1) [
                        | inl number ↦ omega (arith, number.1, sites)
                        | inr ending ↦ omega (arith, ending.2, sites, names)
                      ]
                ]
          ]
    ]

-- a state has a byte
pub state_some : (c : ContextData) → 1 ≤ length (state_bytes c)
unfolding state_bytes
state_some c = omega (arith, length-append (counts_bytes Two c.counts) (entries_bytes LongRuns c.entries))
