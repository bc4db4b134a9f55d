use Rattle.std.proofs.Common.{vec_len, false, [], ◌∷◌, ◌++◌, refl, sym, ap, subst, ◌∙◌}
use Rattle.context_vector.specs.Contexts.{ContextData, has}
use Rattle.transform_rec.specs.Derived.{IsOnlyFormAt}
use Rattle.transform_rec.specs.Histories.{family_in}
use Rattle.transform_rec.proofs.Transformations.{bases_causal, over_history}
use Rattle.transform_rec.proofs.Keeping.{found_form, forms_kept}
use Rattle.transform_rec.proofs.WorkLists.{turn_waits, turn_added, turn_pushed, turn_handed, turn_form, turn_popped, turn_ended, nothing_left}
use Rattle.transform_rec.proofs.work_list.transform_with.Goals as goal

pub derives-requires : goal.derives-requires
derives-requires g c =
    record { causal = bases_causal g.B.Bases c.args.bases.now c.args.book.now.ops c.requires.bases c.known.ensures.valid }

pub returns-in-Some-clause-form : goal.returns-in-Some-clause-form
returns-in-Some-clause-form g c =
    subst (λ (d : ContextData). IsOnlyFormAt g.F.Include.over (family_in c.args.book.now.ops (g.B.Bases.base_form c.args.bases.now))
    c.args.m.now (has d) c.in-Some.form) c.in_ok-try_clone.ensures
    (found_form g.F.Include.over (family_in c.args.book.now.ops (g.B.Bases.base_form c.args.bases.now)) c.args.cache.now.entries
    (record { member = c.args.m.now; context = c.in_ok-try_clone.field-0.set }) c.in-Some.form c.requires.known
    (sym c.peek.ensures ∙ c.in-Some.is))

pub advance-requires-clause-waits : goal.advance-requires-clause-waits
advance-requires-clause-waits g c =
    let o = over_history g.B.Bases c.args.bases.now c.args.book.now.ops c.requires.bases c.derives.ensures.inclusion
    c.derives.ensures.family c.known.ensures.valid in
    turn_waits o c.args.m.now (has c.args.to.now.set) c.loop-x.stack.items c.in-Some-pop.x c.loop-x.current
    (record { at = c.loop-x.current.at; form = c.loop-x.current.form; rest = c.pop.new.self })
    (record { chain = c.loop-x.invariant.chain; root = c.loop-x.invariant.root })
    (record { key = refl; form = refl; rest = c.in-Some-pop.ensures.items })

pub loop-x-smaller-in-Some-2 : goal.loop-x-smaller-in-Some-2
loop-x-smaller-in-Some-2 g c =
    let o = over_history g.B.Bases c.args.bases.now c.args.book.now.ops c.requires.bases c.derives.ensures.inclusion
    c.derives.ensures.family c.known.ensures.valid in
    (turn_pushed o c.args.m.now (has c.args.to.now.set) c.loop-x.stack.items c.push_reserved.new.self.items c.in-Some-pop.x c.loop-x.current
    (record { at = c.loop-x.current.at; form = c.loop-x.current.form; rest = c.pop.new.self }) c.advance.new.pair c.in-Some-2.inner
    (record { chain = c.loop-x.invariant.chain; root = c.loop-x.invariant.root })
    (record { key = refl; form = refl; rest = c.in-Some-pop.ensures.items })
    (rw c.in-Some-2.is at c.in_ok-inner-in-Some-pop.ensures.same)
    (c.push_reserved.ensures.items ∙ ap (λ l. l ++ (c.advance.new.pair ∷ [])) c.in_ok-reserve-in-Some-2.ensures.items)
    (rw c.in-Some-2.is at c.in_ok-inner-in-Some-pop.ensures.begun)).1

pub loop-x-preserved-in-Some-2 : goal.loop-x-preserved-in-Some-2
loop-x-preserved-in-Some-2 g c =
    let o = over_history g.B.Bases c.args.bases.now c.args.book.now.ops c.requires.bases c.derives.ensures.inclusion
    c.derives.ensures.family c.known.ensures.valid in
    let r = turn_pushed o c.args.m.now (has c.args.to.now.set) c.loop-x.stack.items c.push_reserved.new.self.items c.in-Some-pop.x
    c.loop-x.current (record { at = c.loop-x.current.at; form = c.loop-x.current.form; rest = c.pop.new.self }) c.advance.new.pair
    c.in-Some-2.inner (record { chain = c.loop-x.invariant.chain; root = c.loop-x.invariant.root })
    (record { key = refl; form = refl; rest = c.in-Some-pop.ensures.items })
    (rw c.in-Some-2.is at c.in_ok-inner-in-Some-pop.ensures.same)
    (c.push_reserved.ensures.items ∙ ap (λ l. l ++ (c.advance.new.pair ∷ [])) c.in_ok-reserve-in-Some-2.ensures.items)
    (rw c.in-Some-2.is at c.in_ok-inner-in-Some-pop.ensures.begun) in
    record {
      chain = r.0.chain;
      root = r.0.root;
      known = c.advance.ensures.known;
      capacity =
          c.advance.ensures.capacity ∙ c.loop-x.invariant.capacity;
    }

pub loop-x-smaller-in-None-2 : goal.loop-x-smaller-in-None-2
loop-x-smaller-in-None-2 g c =
    let o = over_history g.B.Bases c.args.bases.now c.args.book.now.ops c.requires.bases c.derives.ensures.inclusion
    c.derives.ensures.family c.known.ensures.valid in
    (turn_added o c.args.m.now (has c.args.to.now.set) c.loop-x.stack.items c.in-Some-pop.x c.loop-x.current
    (record { at = c.loop-x.current.at; form = c.loop-x.current.form; rest = c.pop.new.self }) c.advance.new.pair
    (record { chain = c.loop-x.invariant.chain; root = c.loop-x.invariant.root })
    (record { key = refl; form = refl; rest = c.in-Some-pop.ensures.items })
    ((rw c.in-None-2.is at c.in_ok-inner-in-Some-pop.ensures.added) refl)).1

pub loop-x-preserved-in-None-2 : goal.loop-x-preserved-in-None-2
loop-x-preserved-in-None-2 g c =
    let o = over_history g.B.Bases c.args.bases.now c.args.book.now.ops c.requires.bases c.derives.ensures.inclusion
    c.derives.ensures.family c.known.ensures.valid in
    let r = turn_added o c.args.m.now (has c.args.to.now.set) c.loop-x.stack.items c.in-Some-pop.x c.loop-x.current
    (record { at = c.loop-x.current.at; form = c.loop-x.current.form; rest = c.pop.new.self }) c.advance.new.pair
    (record { chain = c.loop-x.invariant.chain; root = c.loop-x.invariant.root })
    (record { key = refl; form = refl; rest = c.in-Some-pop.ensures.items })
    ((rw c.in-None-2.is at c.in_ok-inner-in-Some-pop.ensures.added) refl) in
    record {
      chain = r.0.chain;
      root = r.0.root;
      known = c.advance.ensures.known;
      capacity =
          c.advance.ensures.capacity ∙ c.loop-x.invariant.capacity;
    }

pub handed-requires-clause-waits : goal.handed-requires-clause-waits
handed-requires-clause-waits g c =
    let o = over_history g.B.Bases c.args.bases.now c.args.book.now.ops c.requires.bases c.derives.ensures.inclusion
    c.derives.ensures.family c.known.ensures.valid in
    rw c.finished-at.ensures.key (turn_handed o c.args.m.now (has c.args.to.now.set) c.pop-in-None.new.self.items c.loop-x.stack.items
    c.loop-x.current c.in-Some-pop-2.outer (record { chain = c.loop-x.invariant.chain; root = c.loop-x.invariant.root })
    c.in-Some-pop-2.ensures.items)

pub handed-requires-clause-form : goal.handed-requires-clause-form
handed-requires-clause-form g c =
    let o = over_history g.B.Bases c.args.bases.now c.args.book.now.ops c.requires.bases c.derives.ensures.inclusion
    c.derives.ensures.family c.known.ensures.valid in
    let none =
    nothing_left c.loop-x.current.rest.items c.pop.new.self.items (vec_len c.loop-x.current.rest) c.in-None.ensures.items
    c.in-None.ensures.rest c.in-None.ensures.cases.0 in
    rw c.finished-at.ensures.key (rw c.finished-at.ensures.form
    (turn_form o c.args.m.now (has c.args.to.now.set) c.pop-in-None.new.self.items c.loop-x.stack.items c.loop-x.current
    c.in-Some-pop-2.outer (record { chain = c.loop-x.invariant.chain; root = c.loop-x.invariant.root }) c.in-Some-pop-2.ensures.items
    none))

pub loop-x-smaller : goal.loop-x-smaller
loop-x-smaller g c =
    let o = over_history g.B.Bases c.args.bases.now c.args.book.now.ops c.requires.bases c.derives.ensures.inclusion
    c.derives.ensures.family c.known.ensures.valid in
    (turn_popped o c.args.m.now (has c.args.to.now.set) c.pop-in-None.new.self.items c.loop-x.stack.items c.loop-x.current
    c.in-Some-pop-2.outer c.in_ok-current-in-Some-pop-2.current
    (record { chain = c.loop-x.invariant.chain; root = c.loop-x.invariant.root }) c.in-Some-pop-2.ensures.items
    (rw c.finished-at.ensures.key at c.in_ok-current-in-Some-pop-2.ensures.added)).1

pub loop-x-preserved : goal.loop-x-preserved
loop-x-preserved g c =
    let o = over_history g.B.Bases c.args.bases.now c.args.book.now.ops c.requires.bases c.derives.ensures.inclusion
    c.derives.ensures.family c.known.ensures.valid in
    let r = turn_popped o c.args.m.now (has c.args.to.now.set) c.pop-in-None.new.self.items c.loop-x.stack.items c.loop-x.current
    c.in-Some-pop-2.outer c.in_ok-current-in-Some-pop-2.current
    (record { chain = c.loop-x.invariant.chain; root = c.loop-x.invariant.root }) c.in-Some-pop-2.ensures.items
    (rw c.finished-at.ensures.key at c.in_ok-current-in-Some-pop-2.ensures.added) in
    record {
      chain = r.0.chain;
      root = r.0.root;
      known = c.handed.ensures.known;
      capacity =
          c.handed.ensures.capacity ∙ c.loop-x.invariant.capacity;
    }

pub returns-in-None-pop-clause-form : goal.returns-in-None-pop-clause-form
returns-in-None-pop-clause-form g c =
    let o = over_history g.B.Bases c.args.bases.now c.args.book.now.ops c.requires.bases c.derives.ensures.inclusion
    c.derives.ensures.family c.known.ensures.valid in
    let none =
    nothing_left c.loop-x.current.rest.items c.pop.new.self.items (vec_len c.loop-x.current.rest) c.in-None.ensures.items
    c.in-None.ensures.rest c.in-None.ensures.cases.0 in
    let last =
    nothing_left c.loop-x.stack.items c.pop-in-None.new.self.items (vec_len c.loop-x.stack) c.in-None-pop.ensures.items
    c.in-None-pop.ensures.rest c.in-None-pop.ensures.cases.0 in
    rw c.finished-at.ensures.form (turn_ended o c.args.m.now (has c.args.to.now.set) c.loop-x.stack.items c.loop-x.current
    (record { chain = c.loop-x.invariant.chain; root = c.loop-x.invariant.root }) last none).0

pub returns-in-None-pop-clause-known : goal.returns-in-None-pop-clause-known
returns-in-None-pop-clause-known g c =
    let o = over_history g.B.Bases c.args.bases.now c.args.book.now.ops c.requires.bases c.derives.ensures.inclusion
    c.derives.ensures.family c.known.ensures.valid in
    let none =
    nothing_left c.loop-x.current.rest.items c.pop.new.self.items (vec_len c.loop-x.current.rest) c.in-None.ensures.items
    c.in-None.ensures.rest c.in-None.ensures.cases.0 in
    let last =
    nothing_left c.loop-x.stack.items c.pop-in-None.new.self.items (vec_len c.loop-x.stack) c.in-None-pop.ensures.items
    c.in-None-pop.ensures.rest c.in-None-pop.ensures.cases.0 in
    forms_kept g.F.Include.over (family_in c.args.book.now.ops (g.B.Bases.base_form c.args.bases.now)) c.loop-x.cache
    c.keep.new.self.entries c.finished-at.result.0 c.finished-at.result.1 false c.loop-x.invariant.known
    (rw c.finished-at.ensures.key (rw c.finished-at.ensures.form
    (turn_ended o c.args.m.now (has c.args.to.now.set) c.loop-x.stack.items c.loop-x.current
    (record { chain = c.loop-x.invariant.chain; root = c.loop-x.invariant.root }) last none).1)) c.keep.ensures.entries
