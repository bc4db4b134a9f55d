use Rattle.std.proofs.Common.{List, slice_get, ap, sym, ◌∙◌}
use Rattle.context_diff.specs.Operations.{OpData}
use Rattle.context_diff.specs.Histories.{members_in}
use Rattle.past_view.proofs.Plays.{moment_on}
use Rattle.past_view.proofs.playing.put_moment.Goals as goal

pub returns : goal.returns
returns c =
    let s = c.args.site.now in
    let cells = c.args.cells.now in
    moment_on s.history c.known.ensures.history s.forms c.known.ensures.forms c.args.i c.requires.there c.put_text.result c.in-Some.member
    cells.cells cells.text c.shown_len.result c.args.text.now c.args.out.now.items c.put_text.new.out.items c.requires.after
    (sym (c.in-Some.ensures ∙ ap (λ (h : List OpData). slice_get (members_in h) c.args.i) c.book.ensures))
    c.shown_len.ensures c.requires.shown c.put_text.ensures
