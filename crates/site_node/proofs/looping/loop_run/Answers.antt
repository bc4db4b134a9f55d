use Rattle.std.proofs.Common.{refl, arith, inl}
use Rattle.cot_site.specs.Sites.{state_of}
use Rattle.site_node.specs.declared.node.Node.TheVariants as node
use Rattle.site_node.proofs.Loopers.{between, looped_all, unlooped_all, unstarted}
use Rattle.site_node.proofs.looping.loop_run.Goals as goal

pub returns-in-Ok-clause-exchanged : goal.returns-in-Ok-clause-exchanged
returns-in-Ok-clause-exchanged g c =
    let linked =
    between (g.W.Wire.ends c.args.wire.now) (g.W.Wire.ends c.link_pair.new.self) (g.W.Wire.ends c.exchange-done.new.wire)
    (g.W.Wire.ends c.shut.new.self) (g.W.Wire.ends c.shut-in-Ok.new.self) c.in-Ok.ensures.linked c.shut.ensures.unlinked
    (c.shut.ensures.other_end 1 (λ e. omega (arith, e))) (c.shut-in-Ok.ensures.other_end 0 (λ e. omega (arith, e)))
    c.shut-in-Ok.ensures.unlinked in
    looped_all (g.W.Wire.ends c.args.wire.now) (g.W.Wire.ends c.link_pair.new.self) (g.W.Wire.ends c.exchange-done.new.wire)
    (g.W.Wire.ends c.shut-in-Ok.new.self) (state_of c.args.server.now) (state_of c.exchange-done.new.server) (state_of c.args.joiner.now)
    (state_of c.exchange-done.new.joiner) c.exchange-done.result linked c.exchange-done.ensures.exchanged

pub returns-in-Ok-clause-stopped : goal.returns-in-Ok-clause-stopped
returns-in-Ok-clause-stopped g c =
    let linked =
    between (g.W.Wire.ends c.args.wire.now) (g.W.Wire.ends c.link_pair.new.self) (g.W.Wire.ends c.exchange-done.new.wire)
    (g.W.Wire.ends c.shut.new.self) (g.W.Wire.ends c.shut-in-Ok.new.self) c.in-Ok.ensures.linked c.shut.ensures.unlinked
    (c.shut.ensures.other_end 1 (λ e. omega (arith, e))) (c.shut-in-Ok.ensures.other_end 0 (λ e. omega (arith, e)))
    c.shut-in-Ok.ensures.unlinked in
    unlooped_all (g.W.Wire.ends c.args.wire.now) (g.W.Wire.ends c.link_pair.new.self) (g.W.Wire.ends c.exchange-done.new.wire)
    (g.W.Wire.ends c.shut-in-Ok.new.self) (state_of c.args.server.now) (state_of c.exchange-done.new.server) (state_of c.args.joiner.now)
    (state_of c.exchange-done.new.joiner) c.exchange-done.result linked c.exchange-done.ensures.stopped

pub returns-in-Err-clause-stopped : goal.returns-in-Err-clause-stopped
returns-in-Err-clause-stopped g c =
    unstarted (g.W.Wire.ends c.args.wire.now) (g.W.Wire.ends c.link_pair.new.self) (state_of c.args.server.now)
    (state_of c.args.joiner.now) node.Link (c.in-Err.ensures.failed 0 (omega arith)) (c.in-Err.ensures.failed 1 (omega arith)) (inl refl)
