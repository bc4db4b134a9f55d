use Rattle.std.proofs.Common.{◌≡◌, ℕ, ◌+◌, ◌<◌, List, [], ◌∷◌, ◌++◌, ap, sym, ◌∙◌, arith, length, take, take_all, get_or, append_assoc, append-nil, vec_len, vec_capacity}
use Rattle.std.specs.Prelude.{Some, None, slice_get}
use Rattle.std.proofs.lemmas.Result.{err_from_is_err_and}
use Rattle.op_name.specs.declared.member.Member.{Member}
use Rattle.context_diff.specs.Histories.{members_in}
use Rattle.context_diff.specs.Code.Places.{is_missing, members_at}
use Rattle.context_diff.proofs.Places.{members_of_places, members_at_more, members_at_some, members_at_none}
use Rattle.context_diff.proofs.PlaceSteps.{places_missing}
use Rattle.context_diff.proofs.gathering.difference.Goals as goal
use Rattle.context_diff.proofs.gathering.difference.Goals.{in-Some, in_default}

-- one more member appended
more : (old out : List Member) (ms : List Member) (ps : List ℕ) (i : ℕ) (m : Member) → i < length ps
    → out ≡ old ++ members_at ms (take i ps) → slice_get ms (get_or ps i 0) ≡ Some m
    → out ++ m ∷ [] ≡ old ++ members_at ms (take (i + 1) ps)
more old out ms ps i m less was at =
    ap (λ xs. xs ++ m ∷ []) was
    ∙ (append_assoc old (members_at ms (take i ps)) (m ∷ [])
    ∙ ap (λ xs. old ++ xs) (ap (λ ys. members_at ms (take i ps) ++ ys) (sym (members_at_some ms (get_or ps i 0) m at))
    ∙ sym (members_at_more ms ps i less)))

no_more : (old out : List Member) (ms : List Member) (ps : List ℕ) (i : ℕ) → i < length ps → out ≡ old ++ members_at ms (take i ps)
    → slice_get ms (get_or ps i 0) ≡ None → out ≡ old ++ members_at ms (take (i + 1) ps)
no_more old out ms ps i less was at =
    was ∙ ap (λ xs. old ++ xs) (sym
    (members_at_more ms ps i less ∙ (ap (λ ys. members_at ms (take i ps) ++ ys) (members_at_none ms (get_or ps i 0) at)
    ∙ append-nil (members_at ms (take i ps)))))

pub loop-place-preserved : goal.loop-place-preserved
loop-place-preserved c =
    let ms = members_in c.args.book.now.ops in
    let ps = c.deref-place-items.result.now in
    let i = c.loop-place.place-index in
    elim c.match-member_at.branch [
      | in-Some w ↦
          let at : slice_get ms (get_or ps i 0) ≡ Some w.in-Some.m = sym c.member_at.ensures ∙ w.in-Some.is in
          let items : c.match-member_at.out.items ≡ c.loop-place.out.items ++ w.in-Some.m ∷ [] =
          (λ j. (w.out-is j).items) ∙ w.push_reserved.ensures.items in
          let size : vec_len c.match-member_at.out ≡ vec_len c.loop-place.out + 1 =
          (λ j. vec_len (w.out-is j)) ∙ w.push_reserved.ensures.len in
          let room : vec_capacity c.match-member_at.out ≡ vec_capacity c.loop-place.out =
          (λ j. vec_capacity (w.out-is j)) ∙ w.push_reserved.ensures.capacity in (
            items ∙ more c.reserve.new.self.items c.loop-place.out.items ms ps i w.in-Some.m c.loop-place-test.true c.loop-place.invariant.0
                at,
            omega (arith, c.loop-place.invariant.1, c.loop-place-test.true),
          )
      | in_default w ↦
          let at : slice_get ms (get_or ps i 0) ≡ None = sym c.member_at.ensures ∙ w.in_default.is in
          let items : c.match-member_at.out.items ≡ c.loop-place.out.items = λ j. (w.out-is j).items in
          let size : vec_len c.match-member_at.out ≡ vec_len c.loop-place.out = λ j. vec_len (w.out-is j) in
          let room : vec_capacity c.match-member_at.out ≡ vec_capacity c.loop-place.out = λ j. vec_capacity (w.out-is j) in (
            items ∙ no_more c.reserve.new.self.items c.loop-place.out.items ms ps i c.loop-place-test.true c.loop-place.invariant.0 at,
            omega (arith, c.loop-place.invariant.1, c.loop-place-test.true),
          )
    ]

pub returns-in_err-reserve-clause-memory : goal.returns-in_err-reserve-clause-memory
returns-in_err-reserve-clause-memory c =
    let full = c.in_err-reserve.ensures.full in
    let some : 0 < length c.add_groups.new.places.items =
    omega (
      arith,
      full,
      c.len.ensures,
      c.sort_unstable.ensures.len,
      c.sort_unstable.new.self.ok.0,
      c.add_groups.new.places.ok.0,
      c.args.out.now.ok.1,
    ) in
    let missing = places_missing (members_in c.args.book.now.ops) c.args.from.now.set c.args.to.now.set c.add_groups.new.places.items
    c.in_ok-add_groups.ensures.places some in
    let failed = err_from_is_err_and c.from_residual-in_err-reserve.result c.from_residual-in_err-reserve.ensures.1 in
    rw failed.1 missing

pub returns-clause-appended : goal.returns-clause-appended
returns-clause-appended c =
    let h = c.args.book.now.ops in
    let ms = members_in h in
    let from = c.args.from.now.set in
    let to = c.args.to.now.set in
    let ps = c.deref-place-items.result.now in
    let i = c.loop-place.place-index in
    let all : members_at ms (take i ps) ≡ members_at ms c.sort_unstable.new.self.items =
    ap (members_at ms) (take_all i ps c.loop-place-test.false ∙ c.deref-place-items.ensures.value) in
    let whole = members_of_places ms (is_missing from to) c.add_groups.new.places.items c.sort_unstable.new.self.items
    c.in_ok-add_groups.ensures.places c.sort_unstable.ensures.permutation c.sort_unstable.ensures.sorted in
    c.loop-place.invariant.0 ∙ (λ j. c.reserve.ensures.items j ++ (all ∙ whole) j)
