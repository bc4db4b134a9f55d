use Rattle.std.proofs.Common.{◌∙◌, ◌-◌, ◌++◌, ◌∷◌, [], List, ap, sym, subst, length, length-append, arith}
use Rattle.std.specs.Prelude.{IfSome}
use Rattle.std.proofs.lemmas.List.{length-map}
use Rattle.op_name.specs.declared.member.Member.{Member}
use Rattle.op_name.specs.declared.member.Member.TheVariants.{Original}
use Rattle.context_vector.specs.Contexts.{ContextData, has, Within}
use Rattle.context_diff.specs.Operations.{OpData, member_of}
use Rattle.context_diff.specs.Ops.{data_of}
use Rattle.context_diff.specs.Bases.{base_has}
use Rattle.context_diff.specs.Histories.{members_in}
use Rattle.ttf_form.specs.Forms.{form_over, extent_of, IsInertForm}
use Rattle.transform_rec.specs.Sets.{none, plus_all}
use Rattle.transform_rec.specs.Derived.{IsOnlyFormAt}
use Rattle.transform_rec.specs.Family.{IsCausalFamily}
use Rattle.transform_rec.specs.Histories.{family_in}
use Rattle.transform_rec.proofs.CallerLemmas.{history_causal}
use Rattle.undo_group.specs.BaseForms.{base_form}
use Rattle.form_rows.specs.Names.{insert_of, AreNamed}
use Rattle.form_rows.specs.Kept.{AreRows, IsFormWith, IsLast, CoversAreInert, InsertsAreKept}
use Rattle.form_rows.proofs.Growing.{forms_count}
use Rattle.form_rows.proofs.TextForms.{text_names, text_covers, text_inserts, original_base, original_within}
use Rattle.form_rows.proofs.Counts.{last_member, last_there}
use Rattle.form_rows.proofs.Prefixes.{contains_at}
use Rattle.form_rows.proofs.originals.executed_original.Goals as goal

pub executed_form-requires-clause-causal : goal.executed_form-requires-clause-causal
executed_form-requires-clause-causal c =
    subst (λ (os : List OpData). IsCausalFamily (family_in os (base_form os))) (sym c.new-bases.ensures)
    (history_causal c.args.book.now.ops (base_form c.args.book.now.ops) c.known.ensures.valid)

pub executed_form-requires-clause-names : goal.executed_form-requires-clause-names
executed_form-requires-clause-names c =
    subst (λ (os : List OpData). AreNamed insert_of IsInertForm (family_in os (base_form os))) (sym c.new-bases.ensures)
    (text_names c.args.book.now.ops c.known.ensures.valid)

pub executed_form-requires-clause-members : goal.executed_form-requires-clause-members
executed_form-requires-clause-members c = ap members_in c.new-bases.ensures

pub executed_form-requires-clause-covers : goal.executed_form-requires-clause-covers
executed_form-requires-clause-covers c =
    subst (λ (os : List OpData). CoversAreInert IsInertForm (base_form os) c.args.book.now.ops) (sym c.new-bases.ensures)
    (text_covers c.args.book.now.ops c.known.ensures.valid)

pub executed_form-requires-clause-inserts : goal.executed_form-requires-clause-inserts
executed_form-requires-clause-inserts c =
    subst (λ (os : List OpData). InsertsAreKept IsInertForm extent_of (base_form os) c.args.book.now.ops) (sym c.new-bases.ensures)
    (text_inserts c.args.book.now.ops c.known.ensures.valid)

pub executed_form-requires-clause-last : goal.executed_form-requires-clause-last
executed_form-requires-clause-last c = record { op = data_of c.in-Some.op.now; at = sym c.in-Some.ensures; context = sym c.context.ensures }

pub executed_form-requires-clause-within : goal.executed_form-requires-clause-within
executed_form-requires-clause-within c =
    let o = data_of c.in-Some.op.now in
    let h = c.args.book.now.ops in
    subst (λ (k : ContextData). Within k c.args.book.now.have.set) (sym c.context.ensures)
    (original_within c.args.book.now.ops c.known.ensures.valid c.args.book.now.have.set c.known.ensures.have o c.args.name.now
    (contains_at h (length h - 1) o (sym c.in-Some.ensures))
    (last_member h c.requires.0 (Original c.args.name.now) o c.requires.1.whole (sym c.in-Some.ensures)))

pub executed_form-requires-clause-context : goal.executed_form-requires-clause-context
executed_form-requires-clause-context c y =
    let o = data_of c.in-Some.op.now in
    let h = c.args.book.now.ops in
    ap (λ (k : ContextData). has k y) c.context.ensures
    ∙ (original_base c.args.book.now.ops c.known.ensures.valid o c.args.name.now
    (contains_at h (length h - 1) o (sym c.in-Some.ensures))
    (last_member h c.requires.0 (Original c.args.name.now) o c.requires.1.whole (sym c.in-Some.ensures)) y
    ∙ ap (λ (os : List OpData). base_has os (Original c.args.name.now) y) (sym c.new-bases.ensures))

pub executed_form-requires-clause-short : goal.executed_form-requires-clause-short
executed_form-requires-clause-short c =
    let h = c.args.book.now.ops in
    let w = c.requires.1 in
    let size = forms_count form_over (family_in h (base_form h)) c.requires.0 none c.args.executed.now w.forms in
    let all = ap (λ (l : List Member). length l) w.whole ∙ length-append c.requires.0 (Original c.args.name.now ∷ []) in
    let ops = length-map h member_of in
    let short = c.known.ensures.short in
    omega (arith, size, all, ops, short)

pub executed_form-requires-clause-ready : goal.executed_form-requires-clause-ready
executed_form-requires-clause-ready c =
    let w = c.requires.1 in (
      c.requires.0,
      subst (λ (os : List OpData). IsLast form_over IsInertForm (family_in os (base_form os)) (Original c.args.name.now) c.requires.0
          c.args.executed.now c.args.rows.now.rows) (sym c.new-bases.ensures)
          (record { whole = w.whole; forms = w.forms; known = w.rows }),
    )

pub unreachable-requires : goal.unreachable-requires
unreachable-requires c =
    absurd (last_there c.args.book.now.ops c.requires.0 (Original c.args.name.now) c.requires.1.whole (sym c.in-None.ensures))

pub returns-in-Ok-clause-form : goal.returns-in-Ok-clause-form
returns-in-Ok-clause-form c = λ before w.
    let m : Member = Original c.args.name.now in
    let last =
    subst (λ (os : List OpData). IsLast form_over IsInertForm (family_in os (base_form os)) m before c.args.executed.now
    c.args.rows.now.rows) (sym c.new-bases.ensures) (record { whole = w.whole; forms = w.forms; known = w.rows }) in
    subst (λ (os : List OpData). IsOnlyFormAt form_over (family_in os (base_form os)) m (plus_all none before) c.in-Ok.made.0)
    c.new-bases.ensures (c.in-Ok.ensures.form before last)

pub returns-in-Ok-clause-first : goal.returns-in-Ok-clause-first
returns-in-Ok-clause-first c =
    let m : Member = Original c.args.name.now in
    let w = c.requires.1 in
    let last =
    subst (λ (os : List OpData). IsLast form_over IsInertForm (family_in os (base_form os)) m c.requires.0 c.args.executed.now
    c.args.rows.now.rows) (sym c.new-bases.ensures) (record { whole = w.whole; forms = w.forms; known = w.rows }) in
    subst (λ (os : List OpData). IfSome c.in-Ok.made.1 (IsFormWith form_over insert_of (family_in os (base_form os)) m)) c.new-bases.ensures
    (c.in-Ok.ensures.first c.requires.0 last)

pub returns-in-Ok-clause-rows : goal.returns-in-Ok-clause-rows
returns-in-Ok-clause-rows c =
    let h = c.args.book.now.ops in
    let m : Member = Original c.args.name.now in
    let w = c.requires.1 in
    let last =
    subst (λ (os : List OpData). IsLast form_over IsInertForm (family_in os (base_form os)) m c.requires.0 c.args.executed.now
    c.args.rows.now.rows) (sym c.new-bases.ensures) (record { whole = w.whole; forms = w.forms; known = w.rows }) in
    let kept = c.executed_form.new.rows.rows in
    subst (λ (l : List Member). AreRows form_over IsInertForm (family_in h (base_form h)) l kept) (sym w.whole)
    (subst (λ (os : List OpData). AreRows form_over IsInertForm (family_in os (base_form os)) (c.requires.0 ++ m ∷ []) kept)
    c.new-bases.ensures (c.in-Ok.ensures.rows c.requires.0 last))
