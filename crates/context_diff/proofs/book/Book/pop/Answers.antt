use Rattle.std.proofs.Common.{◌≡◌, ℕ, ◌+◌, ◌-◌, false, ap, sym, subst, ◌∙◌, arith, length, length-append}
use Rattle.std.specs.Prelude.{map, None}
use Rattle.std.proofs.lemmas.Bool.{true≢false}
use Rattle.op_name.specs.declared.member.Member.{Member}
use Rattle.op_name.specs.Members.{IsMember}
use Rattle.context_vector.specs.Contexts.{ContextData}
use Rattle.context_vector.specs.Vectors.{IsLastMember}
use Rattle.context_diff.specs.Operations.{member_of, is_insert}
use Rattle.context_diff.specs.Histories.{is_known}
use Rattle.context_diff.specs.Ops.{data_of}
use Rattle.context_diff.specs.Books.{BookData}
use Rattle.context_diff.specs.Code.Kept.{IsBook}
use Rattle.context_diff.specs.Code.Tallies.{counts_of, places_of, without_last}
use Rattle.context_diff.proofs.Complete.{context_push}
use Rattle.context_diff.proofs.CellCounts.{all_cells_push}
use Rattle.context_diff.proofs.Kept.{book_before, book_pop, seen_pop}
use Rattle.context_diff.proofs.Books.{pop_last}
use Rattle.context_diff.proofs.Members.{formed_member, lowered_back}
use Rattle.context_diff.proofs.Valid.{valid_pop}
use Rattle.context_diff.proofs.book.Book.pop.Goals as goal

pub drop_last-requires-clause-member : goal.drop_last-requires-clause-member
drop_last-requires-clause-member c =
    let o = data_of c.in_ok-op.op in
    let book = book_before c.self.inside.ops.items c.pop.new.self.items c.pop.result c.in_ok-op.op c.self.inside.have.set
    c.self.inside.have.room.own c.self.inside.cells (counts_of c.self.inside.tallies) (places_of c.self.inside.tallies)
    c.self.inside.groups.entries c.self.inside.last c.self.inside.earlier c.self.invariant c.pop.ensures.items c.in_ok-op.was in
    let parts = valid_pop (map data_of c.pop.new.self.items) o book.valid in
    subst IsMember (sym c.as_member-member.ensures) (formed_member o parts.1.formed)

pub drop_last-requires-clause-last : goal.drop_last-requires-clause-last
drop_last-requires-clause-last c =
    let o = data_of c.in_ok-op.op in
    let book = book_before c.self.inside.ops.items c.pop.new.self.items c.pop.result c.in_ok-op.op c.self.inside.have.set
    c.self.inside.have.room.own c.self.inside.cells (counts_of c.self.inside.tallies) (places_of c.self.inside.tallies)
    c.self.inside.groups.entries c.self.inside.last c.self.inside.earlier c.self.invariant c.pop.ensures.items c.in_ok-op.was in
    subst (IsLastMember c.self.inside.have.set) (sym c.as_member-member.ensures)
    (pop_last (map data_of c.pop.new.self.items) o c.self.inside.have.set book.members)

pub drop_last-requires-clause-own : goal.drop_last-requires-clause-own
drop_last-requires-clause-own c =
    let whole = seen_pop c.self.inside.ops.items c.pop.new.self.items c.pop.result c.in_ok-op.op c.pop.ensures.items c.in_ok-op.was in
    let size : length (map data_of c.self.inside.ops.items) ≡ length (map data_of c.pop.new.self.items) + 1 = ap length whole
    ∙ simp length-append (omega arith) in
    c.self.invariant.in_place (omega arith)

pub overflow_sub-self : goal.overflow_sub-self
overflow_sub-self c =
    let book = book_before c.self.inside.ops.items c.pop.new.self.items c.pop.result c.in_ok-op.op c.self.inside.have.set
    c.self.inside.have.room.own c.self.inside.cells (counts_of c.self.inside.tallies) (places_of c.self.inside.tallies)
    c.self.inside.groups.entries c.self.inside.last c.self.inside.earlier c.self.invariant c.pop.ensures.items c.in_ok-op.was in
    omega (arith, c.cells.ensures, book.cells, all_cells_push (map data_of c.pop.new.self.items) (data_of c.in_ok-op.op))

pub invariant_of-self-2 : goal.invariant_of-self-2
invariant_of-self-2 c =
    let h = map data_of c.pop.new.self.items in
    let o = data_of c.in_ok-op.op in
    let book = book_before c.self.inside.ops.items c.pop.new.self.items c.pop.result c.in_ok-op.op c.self.inside.have.set
    c.self.inside.have.room.own c.self.inside.cells (counts_of c.self.inside.tallies) (places_of c.self.inside.tallies)
    c.self.inside.groups.entries c.self.inside.last c.self.inside.earlier c.self.invariant c.pop.ensures.items c.in_ok-op.was in
    let parts = valid_pop h o book.valid in
    let is : c.as_member-member.result ≡ member_of o = c.as_member-member.ensures in
    let unknown : is_known h c.as_member-member.result ≡ false = ap (is_known h) is ∙ parts.1.new in
    let less =
    book_pop h c.self.inside.have.set c.self.inside.have.room.own c.drop_last.new.self.room.own c.self.inside.cells
    (c.self.inside.cells - c.cells.result) (counts_of c.self.inside.tallies) (counts_of c.pop-2.new.self)
    (places_of c.self.inside.tallies) (places_of c.pop-2.new.self) c.self.inside.groups.entries c.forget.new.groups.entries
    c.self.inside.last c.self.inside.earlier o book c.drop_last.ensures.own (omega (arith, c.cells.ensures, book.cells, all_cells_push h o))
    (λ s. c.pop-2.ensures.counts s ∙ ap (λ (m : Member). without_last m s (counts_of c.self.inside.tallies s)) is)
    (λ s. c.pop-2.ensures.places s ∙ ap (λ (m : Member). without_last m s (places_of c.self.inside.tallies s)) is)
    (c.forget.ensures h o (sym is) unknown) in
    let back =
    lowered_back h o c.self.inside.have.set c.drop_last.new.self.set c.as_member-member.result parts.0 parts.1 is
    (book.members ∙ context_push h o) c.known.ensures c.drop_last.ensures.members in
    subst (λ (d : ContextData). IsBook h d c.drop_last.new.self.room.own (c.self.inside.cells - c.cells.result) (counts_of c.pop-2.new.self)
    (places_of c.pop-2.new.self) c.forget.new.groups.entries None None) (sym back) less

pub returns-clause-none : goal.returns-clause-none
returns-clause-none c =
    let whole = seen_pop c.self.inside.ops.items c.pop.new.self.items c.pop.result c.in_ok-op.op c.pop.ensures.items c.in_ok-op.was in
    let ops : map data_of c.self.inside.ops.items ≡ c.args.self.now.ops = ap (λ (b : BookData). b.ops) c.self.view_is in
    let size : length c.args.self.now.ops ≡ length (map data_of c.pop.new.self.items) + 1 =
    ap length (sym ops ∙ whole) ∙ simp length-append (omega arith) in
    (λ no. absurd (true≢false no), λ none. absurd (omega arith))

pub returns-clause-ops : goal.returns-clause-ops
returns-clause-ops c =
    let whole = seen_pop c.self.inside.ops.items c.pop.new.self.items c.pop.result c.in_ok-op.op c.pop.ensures.items c.in_ok-op.was in
    let ops : map data_of c.self.inside.ops.items ≡ c.args.self.now.ops = ap (λ (b : BookData). b.ops) c.self.view_is in
    sym ops ∙ whole
