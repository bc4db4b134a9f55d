use Rattle.std.proofs.Common.{◌≡◌, ◌<◌, ◌∙◌, sym, subst, length}
use Rattle.std.specs.Prelude.{◌==◌, nat_lt, slice_get}
use Rattle.std.proofs.lemmas.Bool.{eq-eqb, ne_eqb}
use Rattle.context_vector.specs.Contexts.{has}
use Rattle.cot_site.specs.declared.notes.At.{At}
use Rattle.cot_site.specs.Code.Notes.{teller, set_at, knew}
use Rattle.cot_site.proofs.Noted.{by_first, by_second, has_before, has_own}
use Rattle.cot_site.proofs.notes.has_at.Goals as goal

pub returns-in-Before : goal.returns-in-Before
returns-in-Before c =
    let h = c.args.book.now.ops in
    let m = c.args.member.now in
    subst (λ (x : At). nat_lt c.args.place c.in-Before.end ≡ has (set_at h x) m) (sym c.in-Before.is)
    (sym (has_before h c.known.ensures.valid c.in-Before.end c.args.place m c.requires.there))

pub returns-then-place-own : goal.returns-then-place-own
returns-then-place-own c =
    let h = c.args.book.now.ops in
    let m = c.args.member.now in
    let i = c.args.place in
    let j = c.in-With.own in
    let told = subst (λ (x : At). teller x < length h) c.in-With.is c.requires.told in
    subst (λ (x : At). (i == j) ≡ has (set_at h x) m) (sym c.in-With.is)
    (by_first (i == j) (knew (slice_get h j) m) (eq-eqb i j c.if-place-own.true)
    ∙ sym (has_own h c.known.ensures.valid i j m c.requires.there told))

pub returns-else-place-own : goal.returns-else-place-own
returns-else-place-own c =
    let h = c.args.book.now.ops in
    let m = c.args.member.now in
    let i = c.args.place in
    let j = c.in-With.own in
    let told = subst (λ (x : At). teller x < length h) c.in-With.is c.requires.told in
    subst (λ (x : At). c.knew.result ≡ has (set_at h x) m) (sym c.in-With.is)
    (c.knew.ensures ∙ by_second (i == j) (knew (slice_get h j) m) (ne_eqb i j c.if-place-own.false)
    ∙ sym (has_own h c.known.ensures.valid i j m c.requires.there told))
