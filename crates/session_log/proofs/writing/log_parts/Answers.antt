use Rattle.std.proofs.Common.{ℕ, List, ◌++◌, ap, sym, subst, ◌∙◌, append_assoc}
use Rattle.wire_codec.specs.declared.version.Version.TheVariants.{Two}
use Rattle.cot_site.specs.Sites.{AllFormed}
use Rattle.session_log.specs.Logs.{header, frames}
use Rattle.session_log.proofs.writing.log_parts.Goals as goal
use Rattle.wire_codec.proofs.CallerLemmas.{front_on}

pub put_waiting-requires : goal.put_waiting-requires
put_waiting-requires c = subst AllFormed (sym c.pool.ensures) c.known.ensures.waiting

pub returns-clause-err : goal.returns-clause-err
returns-clause-err c =
    let old = c.args.out.now.items in
    let history = frames Two c.book.result.now.ops in
    front_on c.put_waiting.result old c.put_history.new.out.items c.put_waiting.new.out.items (header Two ++ history)
    (c.in_ok-put_history.ensures.ok
    ∙ ap (λ (t : List ℕ). t ++ history) (c.in_ok-extend_from_slice.ensures.items ∙ ap (λ (t : List ℕ). old ++ t) c.header.ensures.bytes)
    ∙ append_assoc old (header Two) history) c.put_waiting.ensures.err
