use Rattle.std.proofs.Common.{◌++◌, take, drop, ap, ◌∙◌}
use Rattle.std.specs.Prelude.{encode_utf8}
use Rattle.std.proofs.lemmas.List.{append-nil}
use Rattle.past_view.proofs.Turns.{on_ok}
use Rattle.past_view.proofs.player.put_char.Goals as goal

pub returns : goal.returns
returns c =
    let xs = c.args.text.now.items in
    on_ok c.put_chars.result
    (λ put. put ∙ ap (λ bs. take c.args.at xs ++ (bs ++ drop c.args.at xs)) (append-nil (encode_utf8 c.args.ch)))
    c.put_chars.ensures
