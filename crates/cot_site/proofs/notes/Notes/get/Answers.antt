use Rattle.std.proofs.Common.{◌≡◌, ◌∙◌, ◌∷◌, Contains, List, Some, get_or, sym, ap, subst, arith, length}
use Rattle.std.specs.List.{remove}
use mathlib.Core.Bool.{false≢true}
use Rattle.cot_site.specs.declared.notes.Note.{Note}
use Rattle.cot_site.specs.Code.Notes.{entries_of}
use Rattle.cot_site.proofs.Noted.{first_is, first_within, found_form, found_used, missed_form, missed_used, moved_among}
use Rattle.cot_site.proofs.notes.Notes.get.Goals as goal

pub returns-in_err-at-clause-form : goal.returns-in_err-at-clause-form
returns-in_err-at-clause-form c =
    c.from_residual.ensures ∙ sym (missed_form c.args.book.now.ops c.args.key.now c.args.self.now (sym c.in_err-at.ensures))

pub returns-in_err-at-clause-entries : goal.returns-in_err-at-clause-entries
returns-in_err-at-clause-entries c = sym (missed_used c.args.book.now.ops c.args.key.now c.args.self.now (sym c.in_err-at.ensures))

pub unreachable-requires : goal.unreachable-requires
unreachable-requires c =
    let within = first_within c.args.book.now.ops c.args.key.now c.args.self.now c.in_ok-at.at (sym c.in_ok-at.ensures) in
    false≢true (c.in-None.ensures.variant.1 (omega (arith, within, ap length c.self.view_is, c.self.inside.list.ok.0)))

pub returns-clause-form : goal.returns-clause-form
returns-clause-form c =
    let h = c.args.book.now.ops in
    let note = c.in-Some.note in
    let first = first_is h c.args.key.now c.args.self.now c.in_ok-at.at note (sym c.in_ok-at.ensures) in
    let read : note ≡ get_or c.args.self.now c.in_ok-at.at note =
    c.in-Some.ensures.value ∙ ap (λ (l : List Note). get_or l c.in_ok-at.at note) c.self.view_is in
    ap (λ (n : Note). Some n.form) read ∙ sym (found_form h c.args.key.now c.args.self.now c.in_ok-at.at note first)

pub returns-clause-entries : goal.returns-clause-entries
returns-clause-entries c =
    let h = c.args.book.now.ops in
    let note = c.in-Some.note in
    let i = c.in_ok-at.at in
    let first = first_is h c.args.key.now c.args.self.now i note (sym c.in_ok-at.ensures) in
    let read : note ≡ get_or c.args.self.now i note = c.in-Some.ensures.value ∙ ap (λ (l : List Note). get_or l i note) c.self.view_is in
    let rest = c.in-Some.ensures.items ∙ ap (λ (l : List Note). remove l i) c.self.view_is in
    ap (entries_of h) (c.push_front_reserved.ensures.items ∙ (λ j. read j ∷ rest j))
    ∙ sym (found_used h c.args.key.now c.args.self.now i note first)

pub returns-clause-among : goal.returns-clause-among
returns-clause-among c n there =
    let h = c.args.book.now.ops in
    let note = c.in-Some.note in
    let i = c.in_ok-at.at in
    let first = first_is h c.args.key.now c.args.self.now i note (sym c.in_ok-at.ensures) in
    let read : note ≡ get_or c.args.self.now i note = c.in-Some.ensures.value ∙ ap (λ (l : List Note). get_or l i note) c.self.view_is in
    let rest = c.in-Some.ensures.items ∙ ap (λ (l : List Note). remove l i) c.self.view_is in
    moved_among c.args.self.now i note first.within n
    (subst (λ (l : List Note). Contains l n) (c.push_front_reserved.ensures.items ∙ (λ j. read j ∷ rest j)) there)
