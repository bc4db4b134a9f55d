use Rattle.std.proofs.Common.{◌≡◌, ◌≤◌, ◌∙◌, ℕ, ◌+◌, false, List, [], Option, drop, sym, subst, ap, arith}
use Rattle.std.specs.Prelude.{IfSome}
use Rattle.ttf_form.specs.Families.{IsIn, total_by}
use Rattle.transform_rec.specs.Sets.{none, plus_all}
use Rattle.transform_rec.specs.Derived.{Derived, Deriving}
use Rattle.transform_rec.specs.Laws.{inclusion_of, family_of}
use Rattle.form_rows.specs.Names.{had_by}
use Rattle.form_rows.specs.RowSets.{form_after, row_after, taken_out, PassFits, TakingFits, Inertness, IsAdded, RowData}
use Rattle.form_rows.proofs.Followers.{forms_length}
use Rattle.form_rows.proofs.Looks.{caught_up}
use Rattle.form_rows.proofs.Sources.{taking_fits, passing_fits, source_form, source_row}
use Rattle.form_rows.proofs.row.Row.execute_apart.Goals as goal

pub catch_up-requires : goal.catch_up-requires
catch_up-requires g c =
    let d : Deriving g.row.F.Denot =
    record {
      inclusion = inclusion_of g.F.Include;
      laws = c.derives.ensures.inclusion;
      family =
          family_of g.B.Bases c.args.bases.now;
      known = c.derives.ensures.family;
    } in
    let n : Inertness g.F.Include.over g.F.Include.IsInert =
    record { law = g.met.F.Include.inert_law; kept = g.met.F.Include.inert_over; back = g.met.F.Exclude.inert_back } in
    let w = c.requires.ready.1.1 in
    let C = c.requires.ready.0 in
    let xs = c.requires.ready.1.0 in
    let size = forms_length d xs none c.args.executed.now w.executed in
    let within = w.row.within in
    omega arith

pub brought_over-requires-clause-apart : goal.brought_over-requires-clause-apart
brought_over-requires-clause-apart g c few f there =
    let e : c.catch_up.new.self.forms ≡ c.self.inside.forms = ap (λ (r : RowData g.row.F.Denot). r.forms) (sym c.self.view_is) in
    let told = c.are_few-apart.ensures few in
    let least = subst (λ (o : Option ℕ). IfSome o (λ most. (fs : List g.row.F.Denot)
    → IsAdded g.F.Include.IsInert (drop c.args.self.now.upto c.args.executed.now) c.args.self.now.forms fs
    → total_by g.F.Include.extent fs ≤ most → (k : g.row.F.Denot) → IsIn k fs
    → had_by g.F.Named.named c.args.context.now.set k ≡ false)) told.1.0 c.requires.apart in
    let total : total_by g.F.Include.extent c.catch_up.new.self.forms ≡ c.cells.result =
    ap (total_by g.F.Include.extent) e ∙ c.cells.ensures told.1.1.0 in
    least c.catch_up.new.self.forms c.in_ok-catch_up.ensures.forms (omega (arith, total, told.1.1.1)) f
    (subst (λ (l : List g.row.F.Denot). IsIn f l) (sym e) there)

pub brought_over-requires-clause-taking : goal.brought_over-requires-clause-taking
brought_over-requires-clause-taking g c =
    let d : Deriving g.row.F.Denot =
    record {
      inclusion = inclusion_of g.F.Include;
      laws = c.derives.ensures.inclusion;
      family =
          family_of g.B.Bases c.args.bases.now;
      known = c.derives.ensures.family;
    } in
    let n : Inertness g.F.Include.over g.F.Include.IsInert =
    record { law = g.met.F.Include.inert_law; kept = g.met.F.Include.inert_over; back = g.met.F.Exclude.inert_back } in
    let w = c.requires.ready.1.1 in
    let C = c.requires.ready.0 in
    let xs = c.requires.ready.1.0 in
    let at = caught_up d g.F.Include.IsInert n C xs c.args.executed.now c.args.self.now c.catch_up.new.self w.executed w.row
    c.in_ok-catch_up.ensures.forms c.in_ok-catch_up.ensures.upto in
    let all = c.in_ok-catch_up.ensures.upto ∙ forms_length d xs none c.args.executed.now w.executed in
    let e : c.catch_up.new.self.forms ≡ c.self.inside.forms = ap (λ (r : RowData g.row.F.Denot). r.forms) (sym c.self.view_is) in
    subst (λ (l : List g.row.F.Denot).
    TakingFits g.F.Include.over g.F.Exclude.back g.F.Include.place g.F.Include.extent (had_by g.F.Named.named c.args.context.now.set) []
    l) e
    (taking_fits d g.F.Include.IsInert n g.F.Exclude.back g.met.F.Exclude.back_over g.F.Named.named g.met.F.Named.named_over
    c.requires.names (g.met.B.Bases.total c.args.bases.now c.known.ensures) c.args.context.now.set c.args.m.now c.requires.context C xs
    c.args.executed.now c.args.self.now c.catch_up.new.self w at all)

pub brought_over-requires-clause-passing : goal.brought_over-requires-clause-passing
brought_over-requires-clause-passing g c =
    let d : Deriving g.row.F.Denot =
    record {
      inclusion = inclusion_of g.F.Include;
      laws = c.derives.ensures.inclusion;
      family =
          family_of g.B.Bases c.args.bases.now;
      known = c.derives.ensures.family;
    } in
    let n : Inertness g.F.Include.over g.F.Include.IsInert =
    record { law = g.met.F.Include.inert_law; kept = g.met.F.Include.inert_over; back = g.met.F.Exclude.inert_back } in
    let w = c.requires.ready.1.1 in
    let C = c.requires.ready.0 in
    let xs = c.requires.ready.1.0 in
    let at = caught_up d g.F.Include.IsInert n C xs c.args.executed.now c.args.self.now c.catch_up.new.self w.executed w.row
    c.in_ok-catch_up.ensures.forms c.in_ok-catch_up.ensures.upto in
    let all = c.in_ok-catch_up.ensures.upto ∙ forms_length d xs none c.args.executed.now w.executed in
    let e : c.catch_up.new.self.forms ≡ c.self.inside.forms = ap (λ (r : RowData g.row.F.Denot). r.forms) (sym c.self.view_is) in
    subst (λ (l : List g.row.F.Denot).
    PassFits g.F.Include.over g.F.Include.place g.F.Include.extent c.base.result
    (taken_out g.F.Include.over g.F.Exclude.back (had_by g.F.Named.named c.args.context.now.set) [] l)) e
    (passing_fits d g.F.Include.IsInert n g.F.Exclude.back g.met.F.Exclude.back_over g.F.Named.named g.met.F.Named.named_over
    c.requires.names (g.met.B.Bases.total c.args.bases.now c.known.ensures) c.args.context.now.set c.args.m.now c.requires.context C xs
    c.args.executed.now c.args.self.now c.catch_up.new.self w at all c.base.result c.base.ensures)

pub returns-clause-form : goal.returns-clause-form
returns-clause-form g c = λ C xs w.
    let d : Deriving g.row.F.Denot =
    record {
      inclusion = inclusion_of g.F.Include;
      laws = c.derives.ensures.inclusion;
      family =
          family_of g.B.Bases c.args.bases.now;
      known = c.derives.ensures.family;
    } in
    let n : Inertness g.F.Include.over g.F.Include.IsInert =
    record { law = g.met.F.Include.inert_law; kept = g.met.F.Include.inert_over; back = g.met.F.Exclude.inert_back } in
    let at = caught_up d g.F.Include.IsInert n C xs c.args.executed.now c.args.self.now c.catch_up.new.self w.executed w.row
    c.in_ok-catch_up.ensures.forms c.in_ok-catch_up.ensures.upto in
    let all = c.in_ok-catch_up.ensures.upto ∙ forms_length d xs none c.args.executed.now w.executed in
    let e : c.catch_up.new.self.forms ≡ c.self.inside.forms = ap (λ (r : RowData g.row.F.Denot). r.forms) (sym c.self.view_is) in
    let is : form_after g.F.Include.over c.base.result
    (taken_out g.F.Include.over g.F.Exclude.back (had_by g.F.Named.named c.args.context.now.set) [] c.catch_up.new.self.forms)
    ≡ c.in_ok-form.form
    = ap (λ (l : List g.row.F.Denot).
    form_after g.F.Include.over c.base.result
    (taken_out g.F.Include.over g.F.Exclude.back (had_by g.F.Named.named c.args.context.now.set) [] l)) e
    ∙ sym c.in_ok-form.ensures.form in
    subst (λ (f : g.row.F.Denot). Derived g.F.Include.over (family_of g.B.Bases c.args.bases.now) c.args.m.now (plus_all none xs) f) is
    (source_form d g.F.Include.IsInert n g.F.Exclude.back g.met.F.Exclude.back_over g.F.Named.named g.met.F.Named.named_over
    c.requires.names (g.met.B.Bases.total c.args.bases.now c.known.ensures) c.args.context.now.set c.args.m.now c.requires.context C xs
    c.args.executed.now c.args.self.now c.catch_up.new.self w at all c.base.result c.base.ensures)

pub returns-clause-row : goal.returns-clause-row
returns-clause-row g c = λ C xs w.
    let d : Deriving g.row.F.Denot =
    record {
      inclusion = inclusion_of g.F.Include;
      laws = c.derives.ensures.inclusion;
      family =
          family_of g.B.Bases c.args.bases.now;
      known = c.derives.ensures.family;
    } in
    let n : Inertness g.F.Include.over g.F.Include.IsInert =
    record { law = g.met.F.Include.inert_law; kept = g.met.F.Include.inert_over; back = g.met.F.Exclude.inert_back } in
    let at = caught_up d g.F.Include.IsInert n C xs c.args.executed.now c.args.self.now c.catch_up.new.self w.executed w.row
    c.in_ok-catch_up.ensures.forms c.in_ok-catch_up.ensures.upto in
    let all = c.in_ok-catch_up.ensures.upto ∙ forms_length d xs none c.args.executed.now w.executed in
    let e : c.catch_up.new.self.forms ≡ c.self.inside.forms = ap (λ (r : RowData g.row.F.Denot). r.forms) (sym c.self.view_is) in
    let made : c.brought_over.new.row
    ≡ row_after g.F.Include.over c.base.result
    (taken_out g.F.Include.over g.F.Exclude.back (had_by g.F.Named.named c.args.context.now.set) [] c.catch_up.new.self.forms)
    = c.in_ok-form.ensures.row ∙ sym
    (ap (λ (l : List g.row.F.Denot).
    row_after g.F.Include.over c.base.result
    (taken_out g.F.Include.over g.F.Exclude.back (had_by g.F.Named.named c.args.context.now.set) [] l)) e) in
    let upto : c.self.inside.upto + 1 ≡ c.catch_up.new.self.upto + 1 = ap (λ (r : RowData g.row.F.Denot). r.upto + 1) c.self.view_is in
    source_row d g.F.Include.IsInert n g.F.Exclude.back g.met.F.Exclude.back_over g.F.Named.named g.met.F.Named.named_over c.requires.names
    (g.met.B.Bases.total c.args.bases.now c.known.ensures) c.args.context.now.set c.args.m.now c.requires.context C xs
    c.args.executed.now c.args.self.now c.catch_up.new.self w at all c.base.result c.base.ensures
    (record { forms = c.brought_over.new.row; upto = c.self.inside.upto + 1 }) made upto
