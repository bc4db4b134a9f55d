use Rattle.std.proofs.Common.{◌≡◌, ℕ, ◌-◌, List, [], length, refl, sym, ap, subst, ◌∙◌}
use Rattle.std.specs.List.{slice_get}
use Rattle.wire_codec.specs.declared.version.Version.TheVariants.{One}
use Rattle.wire_codec.specs.Code.Puts.{CountsIn}
use Rattle.wire_codec.proofs.LastSites.{counts_by_last, no_last}
use Rattle.wire_codec.proofs.writing.counts_fit1.Goals as goal

-- the place of the last one
last : {A : Type 0} (xs : List A) (at len : ℕ) → at ≡ len - 1 → len ≡ length xs → at ≡ length xs - 1
last xs at len is counted = is ∙ ap (λ (n : ℕ). n - 1) counted

pub returns-in-Some : goal.returns-in-Some
returns-in-Some c =
    let all = c.args.context.now.set.counts in
    let place = last all c.saturating_sub-last.result c.sites.result c.saturating_sub-last.ensures c.sites.ensures.sites in
    counts_by_last One all (c.in-Some.site, c.in-Some.field-0-1) c.known.ensures.counts
    (ap (λ (i : ℕ). slice_get all i) (sym place) ∙ (sym c.site_at.ensures ∙ c.in-Some.is))

pub returns-in-None : goal.returns-in-None
returns-in-None c =
    let all = c.args.context.now.set.counts in
    let place = last all c.saturating_sub-last.result c.sites.result c.saturating_sub-last.ensures c.sites.ensures.sites in
    let none : all ≡ [] = no_last all (ap (λ (i : ℕ). slice_get all i) (sym place) ∙ (sym c.site_at.ensures ∙ c.in-None.is)) in
    (λ h. subst (λ (xs : List (ℕ × ℕ)). CountsIn One xs) (sym none) tt, λ h. refl)
