use Rattle.std.proofs.Common.{◌≤◌, ℕ, ◌++◌, ◌∷◌, [], refl, sym, subst, ◌∙◌}
use Rattle.op_name.specs.declared.member.Member.{Member}
use Rattle.op_name.specs.declared.member.Member.TheVariants.{Original}
use Rattle.ttf_form.specs.Families.{total_by}
use Rattle.transform_rec.specs.Sets.{none, plus_all}
use Rattle.transform_rec.specs.Derived.{Deriving}
use Rattle.transform_rec.specs.Laws.{inclusion_of, family_of}
use Rattle.transform_rec.proofs.CallerLemmas.{derived_once}
use Rattle.form_rows.specs.RowSets.{Inertness}
use Rattle.form_rows.proofs.Choices.{beginning_source, last_listed}
use Rattle.form_rows.proofs.Counts.{row_apart}
use Rattle.form_rows.proofs.RowFirsts.{first_if}
use Rattle.form_rows.proofs.Growing.{rows_longer}
use Rattle.form_rows.proofs.rows.executed_form.Goals as goal

pub execute_apart-requires-clause-ready : goal.execute_apart-requires-clause-ready
execute_apart-requires-clause-ready g c =
    let d : Deriving g.row.F.Denot =
    record {
      inclusion = inclusion_of g.F.Include;
      laws = c.derives.ensures.inclusion;
      family =
          family_of g.B.Bases c.args.bases.now;
      known = c.derives.ensures.family;
    } in
    let n : Inertness g.F.Include.over g.F.Include.IsInert =
    record { law = g.met.F.Include.inert_law; kept = g.met.F.Include.inert_over; back = g.met.F.Exclude.inert_back } in
    let before = c.requires.ready.0 in
    let w = c.requires.ready.1 in
    let m : Member = Original c.args.name.now in
    let s = beginning_source d g.F.Include.IsInert n m before c.args.executed.now c.args.rows.now.rows w c.args.book.now.ops
    c.args.context.now.set c.source-row.result c.requires.members c.requires.covers c.requires.context c.source-row.ensures.row in
    (s.0, (before, s.1))

pub execute_apart-requires-clause-apart : goal.execute_apart-requires-clause-apart
execute_apart-requires-clause-apart g c fs added few =
    let d : Deriving g.row.F.Denot =
    record {
      inclusion = inclusion_of g.F.Include;
      laws = c.derives.ensures.inclusion;
      family =
          family_of g.B.Bases c.args.bases.now;
      known = c.derives.ensures.family;
    } in
    let n : Inertness g.F.Include.over g.F.Include.IsInert =
    record { law = g.met.F.Include.inert_law; kept = g.met.F.Include.inert_over; back = g.met.F.Exclude.inert_back } in
    let before = c.requires.ready.0 in
    let w = c.requires.ready.1 in
    let m : Member = Original c.args.name.now in
    let h = c.args.book.now.ops in
    let s = beginning_source d g.F.Include.IsInert n m before c.args.executed.now c.args.rows.now.rows w h c.args.context.now.set
    c.source-row.result c.requires.members c.requires.covers c.requires.context c.source-row.ensures.row in
    row_apart d g.F.Include.IsInert n g.F.Named.named g.met.F.Named.named_over c.requires.names c.args.context.now.set m c.requires.context
    h c.known.ensures.valid c.requires.inserts c.requires.covers s.0 before (sym c.requires.members ∙ w.whole) c.args.executed.now
    c.source-row.result s.1
    fs added (subst (λ (k : ℕ). total_by g.F.Include.extent fs ≤ k) c.lacked_cells-lacked.ensures few)

pub returns-clause-form : goal.returns-clause-form
returns-clause-form g c = λ before w.
    let d : Deriving g.row.F.Denot =
    record {
      inclusion = inclusion_of g.F.Include;
      laws = c.derives.ensures.inclusion;
      family =
          family_of g.B.Bases c.args.bases.now;
      known = c.derives.ensures.family;
    } in
    let n : Inertness g.F.Include.over g.F.Include.IsInert =
    record { law = g.met.F.Include.inert_law; kept = g.met.F.Include.inert_over; back = g.met.F.Exclude.inert_back } in
    let m : Member = Original c.args.name.now in
    let s = beginning_source d g.F.Include.IsInert n m before c.args.executed.now c.args.rows.now.rows w c.args.book.now.ops
    c.args.context.now.set c.source-row.result c.requires.members c.requires.covers c.requires.context c.source-row.ensures.row in
    let made = c.in_ok-form.ensures.form s.0 before s.1 in
    (made, λ h dh. derived_once d m (plus_all none before) h c.in_ok-form.form dh made)

pub returns-clause-first : goal.returns-clause-first
returns-clause-first g c = λ before w.
    let d : Deriving g.row.F.Denot =
    record {
      inclusion = inclusion_of g.F.Include;
      laws = c.derives.ensures.inclusion;
      family =
          family_of g.B.Bases c.args.bases.now;
      known = c.derives.ensures.family;
    } in
    let n : Inertness g.F.Include.over g.F.Include.IsInert =
    record { law = g.met.F.Include.inert_law; kept = g.met.F.Include.inert_over; back = g.met.F.Exclude.inert_back } in
    let m : Member = Original c.args.name.now in
    let s = beginning_source d g.F.Include.IsInert n m before c.args.executed.now c.args.rows.now.rows w c.args.book.now.ops
    c.args.context.now.set c.source-row.result c.requires.members c.requires.covers c.requires.context c.source-row.ensures.row in
    let at = c.in_ok-form.ensures.row s.0 before s.1 in
    first_if d g.F.Include.IsInert n g.F.Named.named g.met.F.Named.named_over c.requires.names m (before ++ m ∷ []) c.execute_apart.new.self
    c.first-first.result (last_listed d g.F.Include.IsInert n m before c.args.executed.now c.args.rows.now.rows w) at
    c.first-first.ensures

pub returns-clause-rows : goal.returns-clause-rows
returns-clause-rows g c = λ before w.
    let d : Deriving g.row.F.Denot =
    record {
      inclusion = inclusion_of g.F.Include;
      laws = c.derives.ensures.inclusion;
      family =
          family_of g.B.Bases c.args.bases.now;
      known = c.derives.ensures.family;
    } in
    let n : Inertness g.F.Include.over g.F.Include.IsInert =
    record { law = g.met.F.Include.inert_law; kept = g.met.F.Include.inert_over; back = g.met.F.Exclude.inert_back } in
    let m : Member = Original c.args.name.now in
    let s = beginning_source d g.F.Include.IsInert n m before c.args.executed.now c.args.rows.now.rows w c.args.book.now.ops
    c.args.context.now.set c.source-row.result c.requires.members c.requires.covers c.requires.context c.source-row.ensures.row in
    rows_longer g.F.Include.over g.F.Include.IsInert d.family before m c.args.rows.now.rows c.source-row.new.self.rows c.put.new.self.rows
    (record { last = c.args.name.now; row = c.execute_apart.new.self }) refl w.known c.source-row.ensures.left c.put.ensures.rows
    (c.in_ok-form.ensures.row s.0 before s.1)
