-- Frames and states written out byte by byte, and what the rules say of them.
use Rattle.std.proofs.Common.{◌≡◌, ℕ, List, [], ◌∷◌, ◌++◌, Ok, Err, refl}
use Rattle.context_vector.specs.Contexts.{ContextData, empty}
use Rattle.context_diff.specs.Operations.{OpData, inserting}
use Rattle.wire_codec.specs.declared.cause.Cause.TheVariants.{Range, Order}
use Rattle.wire_codec.specs.declared.fault.Refused.TheVariants.{Bad}
use Rattle.wire_codec.specs.declared.version.Version.TheVariants.{One, Two}
use Rattle.wire_codec.specs.Runs.{names_from, runs_of}
use Rattle.wire_codec.specs.Spelling.{head_bytes, context_bytes, body_bytes, frame}
use Rattle.wire_codec.specs.Reading.{fault, name_at, insert_at, head_at, many, count_at, counts_at, next_run_at, runs_at, context_at, op_at}
use Rattle.wire_codec.specs.Judging.{stray_from, body_at, judge}
use Rattle.wire_codec.specs.States.{state_bytes}

-- ---- inserts of several characters

-- 0.1 writes `ab` into an empty text
abbrev pub writes_ab : OpData
writes_ab = inserting (record { site = 0; number = 1 }) 0 (97 ∷ 98 ∷ []) empty

-- its frame of version 1, if these are the bytes of its length
abbrev pub ab_with_length : ℕ → ℕ → List ℕ
ab_with_length high low =
    (0 ∷ 0 ∷ 0 ∷ 23 ∷ []) ++ (4 ∷ 0 ∷ 0 ∷ 0 ∷ 0 ∷ 1 ∷ 0 ∷ 0 ∷ 0 ∷ 0 ∷ [])
    ++ (high ∷ low ∷ 0 ∷ 0 ∷ 0 ∷ 97 ∷ 0 ∷ 0 ∷ 0 ∷ 98 ∷ 0 ∷ 0 ∷ 0 ∷ [])

pub ab_is_written : frame One writes_ab ≡ ab_with_length 0 2
unfolding head_bytes context_bytes body_bytes runs_of
ab_is_written = refl

pub ab_is_read : judge One (ab_with_length 0 2) ≡ Ok (writes_ab, 27)
unfolding name_at insert_at head_at many counts_at runs_at context_at op_at runs_of stray_from body_at judge
ab_is_read = refl

-- one character has another kind, and more than 256 have no frame
pub length_of_one_is_bad : judge One (ab_with_length 0 1) ≡ Err (Bad (fault Range 14))
unfolding name_at insert_at head_at many counts_at runs_at context_at op_at runs_of stray_from body_at judge
length_of_one_is_bad = refl

pub length_of_too_many_is_bad : judge One (ab_with_length 1 1) ≡ Err (Bad (fault Range 14))
unfolding name_at insert_at head_at many counts_at runs_at context_at op_at runs_of stray_from body_at judge
length_of_too_many_is_bad = refl

-- ---- version 2

-- 0.1 writes `a` into an empty text
pub a_is_written : frame Two (inserting (record { site = 0; number = 1 }) 0 (97 ∷ []) empty)
    ≡ (0 ∷ 0 ∷ 0 ∷ 19 ∷ []) ++ (1 ∷ 0 ∷ 0 ∷ 0 ∷ 0 ∷ 0 ∷ 1 ∷ 0 ∷ 0 ∷ 0 ∷ 0 ∷ 0 ∷ 0 ∷ 0 ∷ 97 ∷ []) ++ (0 ∷ 0 ∷ 0 ∷ 0 ∷ [])
unfolding head_bytes context_bytes body_bytes runs_of
a_is_written = refl

-- 0.2 writes `b` behind it
pub b_is_written : frame Two
    (inserting (record { site = 0; number = 2 }) 1 (98 ∷ []) (record { counts = (0, 1) ∷ []; entries = [] }))
    ≡ (0 ∷ 0 ∷ 0 ∷ 25 ∷ []) ++ (1 ∷ 0 ∷ 0 ∷ 0 ∷ 0 ∷ 0 ∷ 2 ∷ 0 ∷ 0 ∷ 0 ∷ 1 ∷ 0 ∷ 0 ∷ 0 ∷ 98 ∷ [])
    ++ (0 ∷ 1 ∷ 0 ∷ 0 ∷ 0 ∷ 0 ∷ 0 ∷ 1 ∷ 0 ∷ 0 ∷ [])
unfolding head_bytes context_bytes body_bytes runs_of
b_is_written = refl

-- 0.3 writes `c` where both are undone: their names are one run
abbrev pub both_undone : ContextData
both_undone = record {
  counts = (0, 2) ∷ [];
  entries = (record { site = 0; number = 1 }, 1) ∷ (record { site = 0; number = 2 }, 1) ∷ [];
}

abbrev pub writes_c : OpData
writes_c = inserting (record { site = 0; number = 3 }) 0 (99 ∷ []) both_undone

-- its bytes up to the number of runs, if the body has so many
abbrev pub c_before_runs : ℕ → List ℕ
c_before_runs long =
    (0 ∷ 0 ∷ 0 ∷ long ∷ []) ++ (1 ∷ 0 ∷ 0 ∷ 0 ∷ 0 ∷ 0 ∷ 3 ∷ 0 ∷ 0 ∷ 0 ∷ 0 ∷ 0 ∷ 0 ∷ 0 ∷ 99 ∷ [])
    ++ (0 ∷ 1 ∷ 0 ∷ 0 ∷ 0 ∷ 0 ∷ 0 ∷ 2 ∷ [])

-- so many names from this number on
abbrev pub run_bytes_from : ℕ → ℕ → List ℕ
run_bytes_from number len = 0 ∷ 0 ∷ 0 ∷ 0 ∷ 0 ∷ number ∷ 0 ∷ len ∷ 0 ∷ 1 ∷ []

pub c_is_written : frame Two writes_c ≡ c_before_runs 35 ++ (0 ∷ 1 ∷ []) ++ run_bytes_from 1 2
unfolding head_bytes context_bytes body_bytes runs_of
c_is_written = refl

pub c_is_read : judge Two (c_before_runs 35 ++ (0 ∷ 1 ∷ []) ++ run_bytes_from 1 2) ≡ Ok (writes_c, 39)
unfolding name_at insert_at head_at many count_at counts_at next_run_at runs_at context_at op_at names_from runs_of stray_from body_at judge
c_is_read = refl

-- a run that directly continues the one before has no frame
pub two_runs_for_one_are_bad :
    judge Two (c_before_runs 45 ++ (0 ∷ 2 ∷ []) ++ (run_bytes_from 1 1 ++ run_bytes_from 2 1)) ≡ Err (Bad (fault Order 39))
unfolding name_at insert_at head_at many count_at counts_at next_run_at runs_at context_at op_at names_from runs_of stray_from body_at judge
two_runs_for_one_are_bad = refl

-- version 1 lists both names
pub c_was_written : frame One writes_c
    ≡ (0 ∷ 0 ∷ 0 ∷ 36 ∷ []) ++ (1 ∷ 0 ∷ 0 ∷ 0 ∷ 0 ∷ 3 ∷ 0 ∷ 0 ∷ 0 ∷ 0 ∷ 0 ∷ 0 ∷ 0 ∷ 99 ∷ []) ++ (1 ∷ 0 ∷ 0 ∷ 0 ∷ 0 ∷ 2 ∷ [])
    ++ (0 ∷ 2 ∷ 0 ∷ 0 ∷ 0 ∷ 0 ∷ 1 ∷ 0 ∷ 1 ∷ 0 ∷ 0 ∷ 0 ∷ 0 ∷ 2 ∷ 0 ∷ 1 ∷ [])
unfolding head_bytes context_bytes body_bytes runs_of
c_was_written = refl

-- ---- states

pub no_members_are_written : state_bytes empty ≡ 0 ∷ 0 ∷ 0 ∷ 0 ∷ 0 ∷ 0 ∷ []
unfolding state_bytes runs_of
no_members_are_written = refl

pub both_undone_are_written : state_bytes both_undone
    ≡ (0 ∷ 1 ∷ 0 ∷ 0 ∷ 0 ∷ 0 ∷ 0 ∷ 2 ∷ []) ++ (0 ∷ 0 ∷ 0 ∷ 1 ∷ []) ++ (0 ∷ 0 ∷ 0 ∷ 0 ∷ 0 ∷ 1 ∷ 0 ∷ 0 ∷ 0 ∷ 2 ∷ 0 ∷ 1 ∷ [])
unfolding state_bytes runs_of
both_undone_are_written = refl
