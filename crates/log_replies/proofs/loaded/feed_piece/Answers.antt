use Rattle.std.proofs.Common.{◌≡◌, ◌-◌, ◌≤◌, ◌∙◌, ap, arith, min, take, length}
use Rattle.std.proofs.lemmas.List.{take-append-le}
use Rattle.outside_io.specs.declared.reading.TheConstants.{MAX_INPUT}
use Rattle.log_replies.proofs.Logs.{feeds_more}
use Rattle.log_replies.proofs.loaded.feed_piece.Goals as goal

pub returns-in-Ok-feed-clause-feeds : goal.returns-in-Ok-feed-clause-feeds
returns-in-Ok-feed-clause-feeds g c = λ site left f.
    let buf = c.read.new.buf in
    let size : c.min-fits.result ≡ min c.in-Ok.given (MAX_INPUT - c.args.read) = c.min-fits.ensures in
    let within : c.min-fits.result ≤ length buf = omega (arith, size, c.in-Ok.ensures.bound) in
    feeds_more site left _ _ c.args.read c.in-Ok.given buf _ _ _ c.requires.limit c.in-Ok.ensures.bound c.in-Ok.ensures.bytes.0
    (take-append-le c.min-fits.result buf _ within ∙ ap (λ n. take n buf) size)
    c.in-Ok-feed.ensures.keeps c.in-Ok-feed.ensures.site f
