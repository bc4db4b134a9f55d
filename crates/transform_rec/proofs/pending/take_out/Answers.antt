use Rattle.std.proofs.Common.{◌≡◌, List, ◌∷◌, [], ◌++◌, sym, ap, ◌∙◌, arith}
use Rattle.op_name.specs.declared.member.Member.{Member}
use Rattle.context_diff.specs.Bases.{base_has}
use Rattle.transform_rec.proofs.Backwards.{walk_last, walk_taken, walk_past}
use Rattle.transform_rec.proofs.pending.take_out.Goals as goal

pub drop_member-requires-clause-last : goal.drop_member-requires-clause-last
drop_member-requires-clause-last c =
    let w = c.requires.walk.1 in
    let own = λ (y : Member). c.requires.own y ∙ ap (λ m. base_has c.args.book.now.ops m y) w.member in
    walk_last c.args.book.now.ops c.known.ensures.valid c.requires.walk.0 c.args.at.now c.args.rest.now.items _ c.args.i c.args.own.now.set
    c.member_at-x.result (omega arith) c.member_at-x.ensures.place own (sym c.is_between.ensures ∙ c.if-is_between.true) w

pub returns-then-is_between-clause-walk : goal.returns-then-is_between-clause-walk
returns-then-is_between-clause-walk c from w =
    let own = λ (y : Member). c.requires.own y ∙ ap (λ m. base_has c.args.book.now.ops m y) w.member in
    let long : c.push_reserved.new.self.items ≡ c.args.rest.now.items ++ (c.member_at-x.result ∷ []) =
    c.push_reserved.ensures.items ∙ ap (λ (l : List Member). l ++ (c.member_at-x.result ∷ [])) c.in_ok-reserve.ensures.items in
    walk_taken c.args.book.now.ops c.known.ensures.valid from c.args.at.now c.drop_member.new.at c.args.rest.now.items
    c.push_reserved.new.self.items _ c.args.i c.args.own.now.set c.member_at-x.result (omega arith) c.member_at-x.ensures.place own
    (sym c.is_between.ensures ∙ c.if-is_between.true) c.in_ok-drop_member.ensures.context c.drop_member.ensures.member long w

pub returns-clause-walk : goal.returns-clause-walk
returns-clause-walk c from w =
    let own = λ (y : Member). c.requires.own y ∙ ap (λ m. base_has c.args.book.now.ops m y) w.member in
    walk_past c.args.book.now.ops c.known.ensures.valid from c.args.at.now c.args.rest.now.items _ c.args.i c.args.own.now.set
    c.member_at-x.result (omega arith) c.member_at-x.ensures.place own (sym c.is_between.ensures ∙ c.if-is_between.false) w
