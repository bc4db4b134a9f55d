use Rattle.std.proofs.Common.{◌≡◌, ◌+◌, true, List, [], ◌∷◌, ◌++◌, ap, sym, subst, subst₂, ◌∙◌, arith, length}
use Rattle.std.specs.Prelude.{map, IfSome}
use Rattle.op_name.specs.declared.member.Member.{Member}
use Rattle.context_vector.specs.Contexts.{ContextData, raised, IsNextMember}
use Rattle.context_diff.specs.Operations.{OpData, member_of, context_of, is_original}
use Rattle.context_diff.specs.Histories.{context_of_all, all_cells, cells_in, IsNext}
use Rattle.context_diff.specs.Ops.{data_of}
use Rattle.context_diff.specs.Books.{BookData}
use Rattle.context_diff.specs.Code.Kept.{IsBook}
use Rattle.context_diff.specs.Code.Tallies.{counts_of, places_of, counted, placed}
use Rattle.context_diff.proofs.Tallies.{total_short}
use Rattle.context_diff.proofs.Complete.{complete, next_member}
use Rattle.context_diff.proofs.Judging.{lately_new}
use Rattle.context_diff.proofs.Kept.{book_push, seen_push}
use Rattle.context_diff.proofs.book.Book.push_counted.Goals as goal

pub add_reserved-requires-clause-next : goal.add_reserved-requires-clause-next
add_reserved-requires-clause-next c =
    let h = map data_of c.self.inside.ops.items in
    let ops : h ≡ c.args.self.now.ops = ap (λ (b : BookData). b.ops) c.self.view_is in
    let w = complete h c.self.invariant.valid in
    let next : IsNext h (data_of c.args.op) = subst (λ (k : List OpData). IsNext k (data_of c.args.op)) (sym ops) c.requires.next in
    let at = next_member h (context_of_all h) (data_of c.args.op) w.holds next in
    subst (λ (d : ContextData). IsNextMember d c.member-member.result) (sym c.self.invariant.members)
    (subst (λ (m : Member). IsNextMember (context_of_all h) m) (sym c.member-member.ensures.member) at)

pub push-requires-clause-short : goal.push-requires-clause-short
push-requires-clause-short c s =
    let h = map data_of c.self.inside.ops.items in
    let ops : h ≡ c.args.self.now.ops = ap (λ (b : BookData). b.ops) c.self.view_is in
    let size : all_cells h ≡ all_cells c.args.self.now.ops = ap all_cells ops in
    total_short h (complete h c.self.invariant.valid).formed s (counts_of c.self.inside.tallies s) (c.self.invariant.tallies s)
    c.cells-more.result (omega (arith, size, c.cells-more.ensures, c.requires.room.few))

pub invariant_of-self : goal.invariant_of-self
invariant_of-self c =
    let h = map data_of c.self.inside.ops.items in
    let o = data_of c.args.op in
    let ops : h ≡ c.args.self.now.ops = ap (λ (b : BookData). b.ops) c.self.view_is in
    let size : length h ≡ length c.args.self.now.ops = ap length ops in
    let next : IsNext h o = subst (λ (j : List OpData). IsNext j o) (sym ops) c.requires.next in
    let is : c.member-member.result ≡ member_of o = c.member-member.ensures.member in
    let place : c.len-place.result ≡ length h = c.len-place.ensures ∙ sym size in
    let counted_now : is_original o ≡ true → c.args.cells ≡ cells_in h (context_of o) =
    λ original. c.requires.counted original ∙ ap (λ (k : List OpData). cells_in k (context_of o)) (sym ops) in
    let kept = subst (λ n. IfSome c.kept_of-self-inside.result (λ l. (is_original o ≡ true) × (l.place ≡ n) × (l.cells ≡ c.args.cells)))
    place c.kept_of-self-inside.ensures in
    let book =
    book_push h c.self.inside.have.set c.self.inside.have.room.own c.add_reserved.new.self.room.own c.self.inside.cells
    (counts_of c.self.inside.tallies) (counts_of c.push.new.self) (places_of c.self.inside.tallies) (places_of c.push.new.self)
    c.self.inside.groups.entries c.note.new.groups.entries c.self.inside.last c.self.inside.earlier c.kept_of-self-inside.result o
    c.self.invariant next
    (λ s. c.push.ensures.counts s ∙ (λ i. counted (is i) (c.cells-more.ensures i) s (counts_of c.self.inside.tallies s)))
    (λ s. c.push.ensures.places s ∙ (λ i. placed (is i) (place i) s (places_of c.self.inside.tallies s)))
    (c.note.ensures h o (sym is) place)
    (lately_new h o next c.args.cells counted_now c.kept_of-self-inside.result kept)
    (omega (arith, size, c.requires.room.short)) (omega (arith, ap all_cells ops, c.requires.room.few)) c.add_reserved.ensures.own in
    subst₂ (λ (k : List OpData) (d : ContextData). IsBook k d c.add_reserved.new.self.room.own (c.self.inside.cells + c.cells-more.result)
    (counts_of c.push.new.self) (places_of c.push.new.self) c.note.new.groups.entries c.kept_of-self-inside.result c.self.inside.last)
    (sym (ap (map data_of) c.push_reserved.ensures.items ∙ seen_push c.self.inside.ops.items c.args.op))
    (sym (c.add_reserved.ensures.added ∙ ap (raised c.self.inside.have.set) is))
    (subst (λ n. IsBook (h ++ o ∷ []) (raised c.self.inside.have.set (member_of o)) c.add_reserved.new.self.room.own n
    (counts_of c.push.new.self) (places_of c.push.new.self) c.note.new.groups.entries c.kept_of-self-inside.result c.self.inside.last)
    (sym (ap (λ n. c.self.inside.cells + n) c.cells-more.ensures)) book)

pub returns : goal.returns
returns c =
    let ops : map data_of c.self.inside.ops.items ≡ c.args.self.now.ops = ap (λ (b : BookData). b.ops) c.self.view_is in
    ap (map data_of) c.push_reserved.ensures.items
    ∙ (seen_push c.self.inside.ops.items c.args.op ∙ ap (λ (j : List OpData). j ++ data_of c.args.op ∷ []) ops)
