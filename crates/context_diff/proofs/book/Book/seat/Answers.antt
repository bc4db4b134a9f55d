use Rattle.std.proofs.Common.{◌≡◌, List, ap, sym, subst, ◌∙◌}
use Rattle.std.specs.Prelude.{map}
use Rattle.std.specs.Map.{lookup}
use Rattle.op_name.specs.declared.member.Member.{Member}
use Rattle.op_name.specs.Members.{member_eq}
use Rattle.context_diff.specs.Code.Tallies.{place_at, places_of}
use Rattle.context_diff.specs.Operations.{OpData}
use Rattle.context_diff.specs.Ops.{data_of}
use Rattle.context_diff.specs.Books.{BookData}
use Rattle.context_diff.specs.Code.Kept.{IsPlaceOf}
use Rattle.context_diff.proofs.Complete.{complete}
use Rattle.context_diff.proofs.Placing.{original_place}
use Rattle.context_diff.proofs.book.Book.seat.Goals as goal

pub returns-in-Original : goal.returns-in-Original
returns-in-Original c =
    let h = map data_of c.self.inside.ops.items in
    let ops : h ≡ c.args.self.now.ops = ap (λ (b : BookData). b.ops) c.self.view_is in
    let n = c.in-Original.name in
    subst (λ (k : List OpData). IsPlaceOf k c.args.m.now c.place.result) ops
    (subst (λ (m : Member). IsPlaceOf h m c.place.result) (sym c.in-Original.is)
    (original_place h (complete h c.self.invariant.valid) n _ (c.self.invariant.placed n.site) c.place.result
    (c.place.ensures ∙ (λ i. place_at (places_of c.self.inside.tallies (c.name.view_is i).site) (c.name.view_is i).number))))

pub returns-in-Group : goal.returns-in-Group
returns-in-Group c =
    let h = map data_of c.self.inside.ops.items in
    let ops : h ≡ c.args.self.now.ops = ap (λ (b : BookData). b.ops) c.self.view_is in
    subst (λ (k : List OpData). IsPlaceOf k c.args.m.now c.place_of.result) ops
    (subst (IsPlaceOf h c.args.m.now) (sym c.place_of.ensures)
    (subst (λ (m : Member). IsPlaceOf h m (lookup (member_eq m) c.self.inside.groups.entries)) (sym c.in-Group.is)
    (c.self.invariant.groups c.in-Group.field-0 c.in-Group.field-1)))
