use Rattle.std.proofs.Common.{◌≡◌, ◌+◌, ◌<◌, ◌≤◌, List, [], length, get_or, position, None, refl, sym, ap, ◌∙◌, subst, arith}
use Rattle.std.proofs.lemmas.List.{take_all}
use Rattle.ttf_form.specs.Cells.{CellData}
use Rattle.tombstone_text.specs.Chunks.{flat}
use Rattle.tombstone_text.specs.Code.Cells.{is_sought}
use Rattle.tombstone_text.specs.Code.Chunks.{bodies}
use Rattle.tombstone_text.proofs.Bodies as body
use Rattle.tombstone_text.proofs.Searches as sought
use Rattle.tombstone_text.proofs.chunks.Chunks.first_place.Goals as goal

pub overflow_add-result : goal.overflow_add-result
overflow_add-result c =
    let lt : c.loop-i.i < length (bodies c.self.inside.list.items) =
    let t = c.loop-i-test.true in let l = c.len.ensures in omega (arith, body.bodies_long c.self.inside.list.items) in
    let chunk =
    sought.searched _ _ _ _ _ _ _ _ c.self.invariant.0 c.total.ensures.low lt c.loop-i.invariant.1
    (body.body_there _ _ _ lt c.index-chunk.ensures) refl in
    let found =
    sought.found_in (is_sought c.args.sought.now) (bodies c.self.inside.list.items) c.loop-i.i _ _ chunk.chunk_is
    (sym c.position.ensures ∙ c.in-Some.is) in
    record { fits = omega (arith, chunk.low, found.1) }

pub overflow_cast-result : goal.overflow_cast-result
overflow_cast-result c =
    let lt : c.loop-i.i < length (bodies c.self.inside.list.items) =
    let t = c.loop-i-test.true in let l = c.len.ensures in omega (arith, body.bodies_long c.self.inside.list.items) in
    let chunk =
    sought.searched _ _ _ _ _ _ _ _ c.self.invariant.0 c.total.ensures.low lt c.loop-i.invariant.1
    (body.body_there _ _ _ lt c.index-chunk.ensures) refl in
    let found =
    sought.found_in (is_sought c.args.sought.now) (bodies c.self.inside.list.items) c.loop-i.i _ _ chunk.chunk_is
    (sym c.position.ensures ∙ c.in-Some.is) in
    record { fits = omega (arith, chunk.low, found.1) }

pub returns-in-Some : goal.returns-in-Some
returns-in-Some c =
    let lt : c.loop-i.i < length (bodies c.self.inside.list.items) =
    let t = c.loop-i-test.true in let l = c.len.ensures in omega (arith, body.bodies_long c.self.inside.list.items) in
    let chunk =
    sought.searched _ _ _ _ _ _ _ _ c.self.invariant.0 c.total.ensures.low lt c.loop-i.invariant.1
    (body.body_there _ _ _ lt c.index-chunk.ensures) refl in
    let found =
    sought.found_in (is_sought c.args.sought.now) (bodies c.self.inside.list.items) c.loop-i.i _ _ chunk.chunk_is
    (sym c.position.ensures ∙ c.in-Some.is) in
    let within = ap (λ (s : List CellData). length s) chunk.chunk_is in
    sym (sought.placed_in (is_sought c.args.sought.now) (bodies c.self.inside.list.items) c.loop-i.i c.loop-i.start c.in-Some.at lt
    c.loop-i.invariant.1
    c.loop-i.invariant.2 found.0 (omega (arith, found.1)) (omega (arith, chunk.all, found.1)))
    ∙ ap (λ v. position (is_sought c.args.sought.now) v.cells) c.self.view_is

pub overflow_add-start : goal.overflow_add-start
overflow_add-start c =
    let lt : c.loop-i.i < length (bodies c.self.inside.list.items) =
    let t = c.loop-i-test.true in let l = c.len.ensures in omega (arith, body.bodies_long c.self.inside.list.items) in
    let chunk =
    sought.searched _ _ _ _ _ _ _ _ c.self.invariant.0 c.total.ensures.low lt c.loop-i.invariant.1
    (body.body_there _ _ _ lt c.index-chunk.ensures) refl in
    record { fits = omega (arith, chunk.low, c.len-start.ensures.len) }

pub loop-i-preserved : goal.loop-i-preserved
loop-i-preserved c =
    let lt : c.loop-i.i < length (bodies c.self.inside.list.items) =
    let t = c.loop-i-test.true in let l = c.len.ensures in omega (arith, body.bodies_long c.self.inside.list.items) in
    let chunk =
    sought.searched _ _ _ _ _ _ _ _ c.self.invariant.0 c.total.ensures.low lt c.loop-i.invariant.1
    (body.body_there _ _ _ lt c.index-chunk.ensures) refl in
    let none : position (is_sought c.args.sought.now) (get_or (bodies c.self.inside.list.items) c.loop-i.i []) ≡ None =
    ap (λ (s : List CellData). position (is_sought c.args.sought.now) s) (sym chunk.chunk_is)
    ∙ sym c.position.ensures ∙ c.in-None.is in
    let behind =
    sought.none_more (is_sought c.args.sought.now) (bodies c.self.inside.list.items) c.loop-i.i c.loop-i.start lt c.loop-i.invariant.1
    c.loop-i.invariant.2 none in
    let long : c.len-start.result ≡ length (get_or (bodies c.self.inside.list.items) c.loop-i.i []) =
    c.len-start.ensures.len ∙ ap (λ (s : List CellData). length s) chunk.chunk_is in (
      omega arith,
      omega (arith, chunk.behind, c.len-start.ensures.len),
      subst (λ k. sought.NoneBefore (is_sought c.args.sought.now) (flat (bodies c.self.inside.list.items)) (c.loop-i.start + k)) (sym long)
          behind,
    )

pub returns : goal.returns
returns c =
    let cs = (bodies c.self.inside.list.items) in
    let inv = c.loop-i.invariant in
    let start = inv.1 in
    let done : length cs ≤ c.loop-i.i =
    let t = c.loop-i-test.false in let l = c.len.ensures in omega (arith, body.bodies_long c.self.inside.list.items) in
    let all = ap (λ (ds : List (List CellData)). length (flat ds)) (take_all c.loop-i.i cs done) in
    sym (sought.none_at_all (is_sought c.args.sought.now) (flat cs) c.loop-i.start (start ∙ all) inv.2)
    ∙ ap (λ v. position (is_sought c.args.sought.now) v.cells) c.self.view_is
