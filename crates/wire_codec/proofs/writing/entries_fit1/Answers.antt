use Rattle.std.proofs.Common.{◌≡◌, ◌↔◌, IsTrue, ltb, ℕ, ◌-◌, List, [], length, arith, refl, sym, ap, subst, ◌∙◌}
use Rattle.std.specs.List.{slice_get}
use Rattle.op_name.specs.NameData.{NameData}
use Rattle.wire_codec.specs.declared.version.Version.TheVariants.{One}
use Rattle.wire_codec.specs.Versions.{sites}
use Rattle.wire_codec.specs.Code.Puts.{EntriesIn}
use Rattle.wire_codec.proofs.LastSites.{entries_by_last, no_last}
use Rattle.wire_codec.proofs.writing.entries_fit1.Goals as goal

-- the place of the last one
last : {A : Type 0} (xs : List A) (at len : ℕ) → at ≡ len - 1 → len ≡ length xs → at ≡ length xs - 1
last xs at len is counted = is ∙ ap (λ (n : ℕ). n - 1) counted

pub returns-in-Some : goal.returns-in-Some
returns-in-Some c =
    let all = c.args.context.now.set.entries in
    let place = last all c.saturating_sub-last.result c.entries.result c.saturating_sub-last.ensures c.entries.ensures.entries in
    let same : c.in-Some.name.site ≡ c.name.inside.site =
    (let given = c.in-Some.name-is in let seen = c.name.view_is in grind (arith, given, seen)) in
    subst (λ (s : ℕ). IsTrue (ltb s (sites One)) ↔ EntriesIn One all) same
    (entries_by_last One all (c.in-Some.name, c.in-Some.field-0-1) c.known.ensures.entries
    (ap (λ (i : ℕ). slice_get all i) (sym place) ∙ (sym c.entry_at.ensures ∙ c.in-Some.is)))

pub returns-in-None : goal.returns-in-None
returns-in-None c =
    let all = c.args.context.now.set.entries in
    let place = last all c.saturating_sub-last.result c.entries.result c.saturating_sub-last.ensures c.entries.ensures.entries in
    let none : all ≡ [] = no_last all (ap (λ (i : ℕ). slice_get all i) (sym place) ∙ (sym c.entry_at.ensures ∙ c.in-None.is)) in
    (λ h. subst (λ (xs : List (NameData × ℕ)). EntriesIn One xs) (sym none) tt, λ h. refl)
