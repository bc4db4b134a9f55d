use Rattle.std.proofs.Common.{◌++◌, ◌∙◌, ap}
use Rattle.std.specs.Prelude.{codes, decimal}
use Rattle.log_replies.proofs.Traces.{three_written}
use Rattle.log_replies.proofs.addressing.refuse_place.Goals as goal

pub returns : goal.returns
returns c =
    let out = c.args.out.now.items in
    let first = c.in_ok-number.ensures.ok ∙ ap (λ n. out ++ (codes "refused place " ++ decimal n)) c.from.ensures in
    let second = c.in_ok-number-2.ensures.ok ∙ ap (λ n. c.number.new.out.items ++ (codes " " ++ decimal n)) c.from-2.ensures in
    three_written out (codes "refused place " ++ decimal c.args.place) (codes " " ++ decimal c.args.visible) (codes "\n")
    c.number.new.out.items
    c.number-2.new.out.items c.text.new.out.items first second c.in_ok-text.ensures.ok
