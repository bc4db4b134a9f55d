use Rattle.std.proofs.Common.{◌≡◌, ℕ, List, ◌++◌, ap, ◌∙◌}
use Rattle.context_diff.specs.Replays.{text_of}
use Rattle.cot_site.specs.Sites.{state_of}
use Rattle.past_view.specs.Pasts.{sub}
use Rattle.log_replies.proofs.PastReplies.{past_replied, past_refused}
use Rattle.log_replies.proofs.past.show_past.Goals as goal

pub returns-in-Ok : goal.returns-in-Ok
returns-in-Ok c =
    let past = text_of (sub c.args.site.now.history c.args.at.now.set) in
    let text : c.as_slice-text.result.now ≡ past =
    c.as_slice-text.ensures.value ∙ c.in-Ok.ensures.text ∙ ap (λ (xs : List ℕ). xs ++ past) c.new-text.ensures.items in
    past_replied c.args.at.now.set (state_of c.args.site.now) c.utf8_len.result c.as_slice-text.result.now c.args.out.now.items
    c.shown_lines.new.out.items c.in-Ok.ensures.closed text c.utf8_len.ensures c.in_ok-shown_lines-in-Ok.ensures.ok

pub returns : goal.returns
returns c =
    past_refused c.args.at.now.set (state_of c.args.site.now) c.in-Err.why c.args.out.now.items c.refuse_past.new.out.items
    c.in-Err.ensures.refused c.in_ok-refuse_past-in-Err.ensures.known c.in_ok-refuse_past-in-Err.ensures.line
