use Rattle.std.proofs.Common.{◌≡◌, sym, ◌∙◌, rules}
use Rattle.context_vector.specs.Equality.{list_eq_decides}
use Rattle.context_vector.proofs.vector.kept.kept_like.Goals as goal

pub returns-in_ok-clone-in-Some : goal.returns-in_ok-clone-in-Some
returns-in_ok-clone-in-Some c =
    let mine = c.names.result in let theirs = c.names-then-mark.result in
    let same : mine ≡ theirs = (list_eq_decides mine theirs).0 (sym c.is_same.ensures ∙ c.if-is_same.true) in
    search rules
