use Rattle.std.proofs.Common.{◌≡◌, ℕ, List, ap, sym, ◌∙◌, Bor}
use Rattle.std.specs.Prelude.{map, option_map, Option, Some, None, slice_get}
use Rattle.std.proofs.lemmas.Option.{slice_get-map}
use Rattle.op_name.specs.declared.member.Member.{Member}
use Rattle.context_diff.specs.Operations.{OpData, member_of}
use Rattle.context_diff.specs.Histories.{members_in}
use Rattle.context_diff.specs.Ops.{data_of}
use Rattle.context_diff.specs.Books.{BookData}
use Rattle.context_diff.specs.declared.op.Op.{Op}
use Rattle.context_diff.proofs.book.Book.member_at.Goals as goal

-- the member at a place is that of the operation there
named : (os : List Op) (h : List OpData) (i : ℕ) (r : Option (Bor Op)) → map data_of os ≡ h
    → option_map (λ (o : Bor Op). data_of o.now) r ≡ slice_get (map data_of os) i
    → option_map (λ (o : Bor Op). member_of (data_of o.now)) r ≡ slice_get (members_in h) i
named os h i None same at =
    ap (option_map member_of) at ∙ (sym (slice_get-map member_of (map data_of os) i)
    ∙ ap (λ (k : List OpData). slice_get (members_in k) i) same)
named os h i (Some o) same at =
    ap (option_map member_of) at ∙ (sym (slice_get-map member_of (map data_of os) i)
    ∙ ap (λ (k : List OpData). slice_get (members_in k) i) same)

pub returns-in-Some : goal.returns-in-Some
returns-in-Some c =
    let all =
    named c.as_slice.result.now c.args.self.now.ops c.args.place c.op_at.result
    (ap (map data_of) c.as_slice.ensures.value ∙ ap (λ (b : BookData). b.ops) c.self.view_is) c.op_at.ensures in
    ap (λ (m : Member). Some m) c.as_member.ensures ∙ (sym (ap (option_map (λ (o : Bor Op). member_of (data_of o.now))) c.in-Some.is) ∙ all)

pub returns-in-None : goal.returns-in-None
returns-in-None c =
    let all =
    named c.as_slice.result.now c.args.self.now.ops c.args.place c.op_at.result
    (ap (map data_of) c.as_slice.ensures.value ∙ ap (λ (b : BookData). b.ops) c.self.view_is) c.op_at.ensures in
    sym (ap (option_map (λ (o : Bor Op). member_of (data_of o.now))) c.in-None.is) ∙ all
