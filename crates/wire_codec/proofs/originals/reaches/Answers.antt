use Rattle.std.proofs.Common.{leb, ap, ◌∙◌, sym, ℕ}
use Rattle.wire_codec.specs.Code.Lent.{context_seen}
use Rattle.wire_codec.specs.Runs.{last_name}
use Rattle.wire_codec.proofs.Strays.{reach_of}
use Rattle.wire_codec.proofs.originals.reaches.Goals as goal

pub returns : goal.returns
returns c =
    ap (λ (n : ℕ). leb n c.args.known.count) c.last_number.ensures
    ∙ (ap (leb (last_name c.args.run.now).number) c.requires
    ∙ sym (reach_of (context_seen c.args.context.now) c.args.run.now c.known.ensures))
