use Rattle.std.specs.Int.{w16, to_be_bytes}
use Rattle.wire_codec.specs.declared.version.Version.TheVariants.{One}
use Rattle.wire_codec.specs.Spelling.{name_bytes}
use Rattle.wire_codec.specs.Code.Puts.{Puts}
use Rattle.wire_codec.proofs.RunWriting.{puts_then}
use Rattle.wire_codec.proofs.run_writing.put_single.Goals as goal

pub returns : goal.returns
returns c =
    let r = c.args.run.now in
    let name : Puts c.args.out.now c.put_name.new.out (name_bytes One r.first) = rw (← c.first.ensures) c.put_name.ensures in
    let generation : Puts c.put_name.new.out c.put.new.out (to_be_bytes w16 r.generation) =
    rw (← c.generation.ensures, ← c.to_be_bytes.ensures) c.put.ensures in
    puts_then c.args.out.now c.put_name.new.out c.put.new.out (name_bytes One r.first) (to_be_bytes w16 r.generation) name generation
