use Rattle.std.proofs.Common.{◌≡◌, ◌≤◌, ◌++◌, ℕ, List, [], take, drop, length, refl, true, rules, arith, subst}
use Rattle.std.proofs.lemmas.List.{take-append-le, length-take}
use Rattle.std.specs.Io.KnownBytes.{Consumes}
use Rattle.session_replay.specs.Readers.{Keeps}
use Rattle.cotpad_run.proofs.Scripts.{fed_on, same_kept, unread_there, memory_read}
use Rattle.cotpad_run.proofs.replay.read_on.Goals as goal

pub returns-in-Ok-eq0-clause-fed : goal.returns-in-Ok-eq0-clause-fed
returns-in-Ok-eq0-clause-fed g c = λ old held writes fed i few.
    let none : Consumes (g.S.Source.left c.args.source.now) (g.S.Source.left c.read.new.self) [] =
    subst (λ n. Consumes (g.S.Source.left c.args.source.now) (g.S.Source.left c.read.new.self) (take n c.read.new.buf))
    c.in-Ok-eq0.field-0-test c.in-Ok-eq0.ensures.bytes.0 in
    fed_on old _ _ _ _ held writes c.args.reader.now c.args.reader.now fed c.args.most 0 [] c.reports_are_there.ensures i few (omega arith)
    (omega arith) refl none (same_kept c.args.reader.now [] refl) (c.in-Ok-eq0.ensures.cause.well (refl {a = true}))

pub returns-in-Ok-feed-clause-fed : goal.returns-in-Ok-feed-clause-fed
returns-in-Ok-feed-clause-fed g c = λ old held writes fed i few.
    let given = c.in-Ok.given in
    let buf = c.read.new.buf in
    let rest : List ℕ = drop c.min-room.result c.args.piece.now in
    let within : given ≤ length buf = c.in-Ok.ensures.bound in
    let same : take given (buf ++ rest) ≡ take given buf = take-append-le given buf rest within in
    let on : (all written : List ℕ) → Keeps c.args.reader.now all written → Keeps c.feed.new.self (all ++ take given buf) written =
    λ all written k. subst (λ xs. Keeps c.feed.new.self (all ++ xs) written) same (c.in-Ok-feed.ensures.keeps all written k) in
    let piece : given ≤ length c.args.piece.now = search rules in
    fed_on old _ _ _ _ held writes c.args.reader.now c.feed.new.self fed c.args.most given (take given buf) c.reports_are_there.ensures i
    few (search rules) (omega (arith, piece, c.requires.short)) (omega (arith, length-take given buf, within)) c.in-Ok.ensures.bytes.0
    on (c.in-Ok.ensures.cause.well (refl {a = true}))

pub returns-in-Err-feed-clause-stopped : goal.returns-in-Err-feed-clause-stopped
returns-in-Err-feed-clause-stopped g c = λ old held writes fed i few.
    let given = c.in-Ok.given in
    let buf = c.read.new.buf in
    let within : given ≤ length buf = c.in-Ok.ensures.bound in
    let short : given ≤ c.args.most = search rules in
    let piece : given ≤ length c.args.piece.now = search rules in
    memory_read old _ _ _ _ held writes c.args.reader.now fed c.args.most (take given buf) c.reports_are_there.ensures i few
    (omega (arith, length-take given buf, within, short))
    (omega (arith, length-take given buf, within, piece, c.requires.short)) c.in-Ok.ensures.bytes.0
    (c.in-Ok.ensures.cause.well (refl {a = true}))

pub returns-in-Err-clause-stopped : goal.returns-in-Err-clause-stopped
returns-in-Err-clause-stopped g c =
    λ old held writes fed i few. unread_there old _ _ _ _ held writes c.args.reader.now fed c.reports_are_there.ensures i
    c.in-Err.ensures.bytes (c.in-Err.ensures.cause.failed (refl {a = true}))
