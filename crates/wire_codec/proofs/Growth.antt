-- What more bytes behind the judged ones change: nothing, once there is a fault.
use Rattle.std.proofs.Common.{◌≡◌, ℕ, ◌+◌, ◌≤◌, ltb, false, cond, List, ◌++◌, length, take, drop, Result, Err, ap, ◌∙◌, arith, inl, inr}
use Rattle.std.specs.Int.{w32, from_be_bytes}
use Rattle.std.proofs.lemmas.Bool.{ltb-false, le-ltb, cond-true, cond-false}
use Rattle.std.proofs.lemmas.List.{length-append, length-drop, take-append-le, drop-append-le}
use Rattle.context_diff.specs.Operations.{OpData}
use Rattle.wire_codec.specs.declared.cause.Cause.TheVariants.{TooLong}
use Rattle.wire_codec.specs.declared.fault.Fault.{Fault}
use Rattle.wire_codec.specs.declared.fault.Refused.{Refused}
use Rattle.wire_codec.specs.declared.fault.Refused.TheVariants.{More, Bad}
use Rattle.wire_codec.specs.Reading.{left_at, fault}
use Rattle.wire_codec.specs.declared.version.Version.{Version}
use Rattle.wire_codec.specs.Versions.{longest}
use Rattle.wire_codec.specs.Judging.{length_of, body_at, judged, judge}
use Rattle.wire_codec.proofs.Steps.{cond_err}

pub bad_stays : (v : Version) (bytes more : List ℕ) (f : Fault) → judge v bytes ≡ Err (Bad f) → judge v (bytes ++ more) ≡ Err (Bad f)
unfolding judge
bad_stays v bytes more f e =
    let size = length_of bytes in
    let all = bytes ++ more in
    let total = length-append bytes more in
    let whole : Result (OpData × ℕ) Refused = judged (4 + size) (body_at v (left_at 4 (take size (drop 4 bytes)))) in
    let behind : Result (OpData × ℕ) Refused = cond (ltb (length bytes) (4 + size)) (Err (More (4 + size))) whole in
    elim (cond_err (ltb (length bytes) 4) (More 4) (Bad f) (cond (ltb (longest v) size) (Err (Bad (fault TooLong 0))) behind) e) [
      | inl never ↦ absurd (let is = never.1 in cc)
      | inr four ↦
          let long = ltb-false (length bytes) 4 four.0 in
          let four_all : ltb (length all) 4 ≡ false = le-ltb _ _ (omega (arith, long, total)) in
          let same : length_of all ≡ size = ap (from_be_bytes w32) (take-append-le 4 bytes more long) in
          elim (cond_err (ltb (longest v) size) (Bad (fault TooLong 0)) (Bad f) behind four.1) [
            | inl here ↦ cond-false _ _ _ four_all ∙ (cond-true _ _ _ (ap (λ (n : ℕ). ltb (longest v) n) same ∙ here.0) ∙ ap Err here.1)
            | inr short ↦ elim (cond_err (ltb (length bytes) (4 + size)) (More (4 + size)) (Bad f) whole short.1) [
              | inl never ↦ absurd (let is = never.1 in cc)
              | inr there ↦
                  let enough = ltb-false (length bytes) (4 + size) there.0 in
                  let short_all : ltb (longest v) (length_of all) ≡ false = ap (λ (n : ℕ). ltb (longest v) n) same ∙ short.0 in
                  let there_all : ltb (length all) (4 + length_of all) ≡ false = le-ltb _ _ (omega (arith, enough, total, same)) in
                  let body_long : size ≤ length (drop 4 bytes) = omega (arith, enough, length-drop 4 bytes) in
                  let text : take (length_of all) (drop 4 all) ≡ take size (drop 4 bytes) =
                  ap (λ (n : ℕ). take n (drop 4 all)) same
                  ∙ (ap (take size) (drop-append-le 4 bytes more long) ∙ take-append-le size (drop 4 bytes) more body_long) in
                  let good : judged (4 + length_of all) (body_at v (left_at 4 (take (length_of all) (drop 4 all)))) ≡ whole =
                  ap (λ (n : ℕ). judged (4 + n) (body_at v (left_at 4 (take (length_of all) (drop 4 all))))) same
                  ∙ ap (λ (t : List ℕ). judged (4 + size) (body_at v (left_at 4 t))) text in
                  cond-false _ _ _ four_all ∙ (cond-false _ _ _ short_all ∙ (cond-false _ _ _ there_all ∙ (good ∙ there.1)))
            ]
          ]
    ]
