use Rattle.std.proofs.Common.{ℕ, ◌+◌, List, subst, take_all}
use Rattle.std.specs.List.{flat_map}
use Rattle.context_vector.proofs.CallerLemmas.{read_all, read_first, read_more}
use Rattle.wire_codec.specs.Spelling.{count_bytes}
use Rattle.wire_codec.specs.Judging.{count_len}
use Rattle.wire_codec.proofs.Sizes.{length-count}
use Rattle.wire_codec.specs.Code.Puts.{Puts}
use Rattle.wire_codec.proofs.Pushes.{site_in, put_more}
use Rattle.wire_codec.proofs.writing.put_each_count.Goals as goal

pub put_count-requires-clause-site : goal.put_count-requires-clause-site
put_count-requires-clause-site c =
    let i = c.loop-site.invariant.0 in
    let ps = c.args.counts in
    let p : ℕ × ℕ = (c.in-Some.site, c.in-Some.number) in
    site_in c.args.version ps i p c.requires.sites (read_first ps c.loop-site.left i p c.loop-site.invariant.1 c.in-Some.ensures.first)

pub loop-site-preserved : goal.loop-site-preserved
loop-site-preserved c =
    let v = c.args.version in
    let i = c.loop-site.invariant.0 in
    let ps = c.args.counts in
    let p : ℕ × ℕ = (c.in-Some.site, c.in-Some.number) in
    let here = read_first ps c.loop-site.left i p c.loop-site.invariant.1 c.in-Some.ensures.first in
    let put = put_more (count_bytes v) (count_len v) (length-count v) ps c.args.out.now i p c.loop-site.out c.put_count.new.out here
    c.loop-site.invariant.2 c.put_count.ensures in
    (i + 1, read_more ps c.loop-site.left c.next.new.self i c.loop-site.invariant.1 c.next.ensures.rest, put)

pub returns : goal.returns
returns c =
    let i = c.loop-site.invariant.0 in
    let ps = c.args.counts in
    let past = read_all ps c.loop-site.left i c.loop-site.invariant.1 c.in_default.ensures.first in
    subst (λ (qs : List (ℕ × ℕ)). Puts c.args.out.now c.loop-site.out (flat_map (count_bytes c.args.version) qs)) (take_all i ps past)
    c.loop-site.invariant.2.puts
