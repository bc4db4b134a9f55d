use Rattle.std.proofs.Common.{◌≡◌, ◌≤◌, ◌++◌, ℕ, List, length, take, drop, sym, ap, ◌∙◌, arith}
use Rattle.std.proofs.lemmas.Bool.{true≢false}
use Rattle.std.proofs.lemmas.Bool.Decides.{Decides-eqb}
use Rattle.std.proofs.lemmas.List.{take-append-drop}
use Rattle.std.proofs.lemmas.Slice.Eq.{starts_is}
use Rattle.session_log.specs.Logs.{header}
use Rattle.session_log.proofs.HeaderFronts.{header_long}
use Rattle.session_log.proofs.Fronts.{goes_on, parts_of, would_go_on}
use Rattle.session_log.proofs.front.rest_after.Goals as goal

pub returns-then-starts_with-clause-some : goal.returns-then-starts_with-clause-some
returns-then-starts_with-clause-some c =
    let front = c.split_at-2.result.0.now in
    let wanted = c.split_at.result.1.now in
    let begins = (starts_is Decides-eqb wanted front c.starts_with.result c.starts_with.ensures.value).0 c.if-starts_with.true in
    goes_on c.args.come (header c.args.version) c.args.piece.now front c.split_at-2.result.1.now (drop (length front) wanted)
    (omega (arith, c.requires, header_long c.args.version))
    (parts_of c.min.result c.args.piece.now front c.split_at-2.result.1.now c.split_at-2.ensures.front c.split_at-2.ensures.back)
    (ap (drop c.args.come) (sym c.header.ensures.bytes) ∙ sym c.split_at.ensures.back ∙ begins)
    (omega (
      arith,
      c.split_at-2.ensures.front_len,
      c.min.ensures,
      c.split_at.ensures.back_len,
      c.header.ensures.long,
      header_long c.args.version,
    ))

pub returns-else-starts_with-clause-none : goal.returns-else-starts_with-clause-none
returns-else-starts_with-clause-none c = λ _ more rest e.
    let front = c.split_at-2.result.0.now in
    let wanted = c.split_at.result.1.now in
    let short : length front ≤ length (drop c.args.come (header c.args.version)) =
    omega (
      arith,
      c.split_at-2.ensures.front_len,
      c.min.ensures,
      ap length c.split_at.ensures.back,
      ap (λ (t : List ℕ). length (drop c.args.come t)) c.header.ensures.bytes,
    ) in
    let same =
    would_go_on c.args.come (header c.args.version) c.args.piece.now front c.split_at-2.result.1.now
    (parts_of c.min.result c.args.piece.now front c.split_at-2.result.1.now c.split_at-2.ensures.front c.split_at-2.ensures.back) short
    more rest e in
    let of_header : wanted ≡ drop c.args.come (header c.args.version) =
    c.split_at.ensures.back ∙ ap (drop c.args.come) c.header.ensures.bytes in
    let begins : wanted ≡ front ++ drop (length front) wanted =
    sym (take-append-drop (length front) wanted)
    ∙ ap (λ (t : List ℕ). t ++ drop (length front) wanted) (ap (take (length front)) of_header ∙ same) in
    let yes = (starts_is Decides-eqb wanted front c.starts_with.result c.starts_with.ensures.value).1 (drop (length front) wanted) begins in
    absurd (true≢false (sym yes ∙ c.if-starts_with.false))
