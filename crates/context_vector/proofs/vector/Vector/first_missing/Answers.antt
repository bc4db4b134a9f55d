use Rattle.std.proofs.Common.{◌≡◌, ℕ, List, Some, None, refl, sym, ap, ◌∙◌}
use Rattle.std.specs.Prelude.{Option}
use mathlib.Core.Bool.{false≢true}
use Rattle.op_name.specs.NameData.{NameData}
use Rattle.context_vector.specs.Contexts.{count_in, entry_in}
use Rattle.context_vector.specs.Equality.{list_eq_decides}
use Rattle.context_vector.specs.Shortfalls.{first_short}
use Rattle.context_vector.specs.Vectors.{VectorData}
use Rattle.context_vector.specs.Code.Sharing.{data_of}
use Rattle.context_vector.specs.Code.Readers.{left_of}
use Rattle.context_vector.proofs.Sets.{short_original, short_group, none_missing, no_group_missing, missing_not_within}
use Rattle.context_vector.proofs.vector.Vector.first_missing.Goals as goal

-- the walks over the lists as they are read are those over what contracts see of them
sites_walked : (ps qs : List (ℕ × ℕ)) (v w : VectorData) (r : Option (ℕ × ℕ))
    → ps ≡ v.set.counts → qs ≡ w.set.counts → r ≡ first_short (count_in ps) qs → first_short (count_in v.set.counts) w.set.counts ≡ r
sites_walked ps qs v w r mine theirs walked =
    sym (walked ∙ (ap (λ xs. first_short (count_in xs) qs) mine ∙ ap (λ xs. first_short (count_in v.set.counts) xs) theirs))

names_walked : (es fs : List (NameData × ℕ)) (v w : VectorData) (r : Option (NameData × ℕ))
    → es ≡ v.set.entries → fs ≡ w.set.entries → r ≡ first_short (entry_in es) fs → first_short (entry_in v.set.entries) w.set.entries ≡ r
names_walked es fs v w r mine theirs walked =
    sym (walked ∙ (ap (λ xs. first_short (entry_in xs) fs) mine ∙ ap (λ xs. first_short (entry_in v.set.entries) xs) theirs))

short_site : (c : goal.In-Some)
    → first_short (count_in c.args.self.now.set.counts) c.args.other.now.set.counts ≡ Some (c.in-Some.site, c.in-Some.number)
short_site c =
    let v = c.args.self.now in
    let w = c.args.other.now in
    let mine = c.counts.ensures ∙ ap (λ (x : VectorData). x.set.counts) c.self.view_is in
    let theirs = c.counts-2.ensures ∙ ap (λ (x : VectorData). x.set.counts) c.other.view_is in
    let walked = c.first_short_site-original.ensures in
    sites_walked (left_of c.counts.result) (left_of c.counts-2.result) v w _ mine theirs walked ∙ c.in-Some.is

pub invariant_of-result : goal.invariant_of-result
invariant_of-result c =
    let v = c.args.self.now in
    let w = c.args.other.now in
    let found = short_original v.set w.set c.known-2.ensures (c.in-Some.site, c.in-Some.number) (short_site c) in found.1

pub returns-in-Some-clause-first : goal.returns-in-Some-clause-first
returns-in-Some-clause-first c =
    let v = c.args.self.now in
    let w = c.args.other.now in
    let found = short_original v.set w.set c.known-2.ensures (c.in-Some.site, c.in-Some.number) (short_site c) in found.0

pub returns-in-Some-clause-none : goal.returns-in-Some-clause-none
returns-in-Some-clause-none c =
    let v = c.args.self.now in
    let w = c.args.other.now in
    let found = short_original v.set w.set c.known-2.ensures (c.in-Some.site, c.in-Some.number) (short_site c) in
    (λ e. absurd (false≢true (sym e)), λ within. absurd (missing_not_within v.set w.set _ found.0 within))

pub returns-then-has_same_names-clause-none : goal.returns-then-has_same_names-clause-none
returns-then-has_same_names-clause-none c =
    let v = c.args.self.now in
    let w = c.args.other.now in
    let decides = list_eq_decides (data_of c.self.inside.lists).set.entries (data_of c.other.inside.lists).set.entries in
    let one = decides.0 (sym c.has_same_names.ensures ∙ c.if-has_same_names.true) in
    let same : v.set.entries ≡ w.set.entries =
    sym (ap (λ (x : VectorData). x.set.entries) c.self.view_is) ∙ (one ∙ ap (λ (x : VectorData). x.set.entries) c.other.view_is) in
    let mine = c.counts.ensures ∙ ap (λ (x : VectorData). x.set.counts) c.self.view_is in
    let theirs = c.counts-2.ensures ∙ ap (λ (x : VectorData). x.set.counts) c.other.view_is in
    let walked = c.first_short_site-original.ensures in
    let sites = sites_walked (left_of c.counts.result) (left_of c.counts-2.result) v w _ mine theirs walked ∙ c.in_default.is in
    let within = no_group_missing v.set w.set sites same in
    (λ e. within, λ h. refl)

no_site : (c : goal.In-Some-group) → first_short (count_in c.args.self.now.set.counts) c.args.other.now.set.counts ≡ None
no_site c =
    let v = c.args.self.now in
    let w = c.args.other.now in
    let mine = c.counts.ensures ∙ ap (λ (x : VectorData). x.set.counts) c.self.view_is in
    let theirs = c.counts-2.ensures ∙ ap (λ (x : VectorData). x.set.counts) c.other.view_is in
    let walked = c.first_short_site-original.ensures in
    sites_walked (left_of c.counts.result) (left_of c.counts-2.result) v w _ mine theirs walked ∙ c.in_default.is

short_name : (c : goal.In-Some-group)
    → first_short (entry_in c.args.self.now.set.entries) c.args.other.now.set.entries ≡ Some c.in-Some-group.group
short_name c =
    let v = c.args.self.now in
    let w = c.args.other.now in
    let mine = c.names.ensures ∙ ap (λ (x : VectorData). x.set.entries) c.self.view_is in
    let theirs = c.names-2.ensures ∙ ap (λ (x : VectorData). x.set.entries) c.other.view_is in
    names_walked c.names.result c.names-2.result v w _ mine theirs c.first_short_name-group.ensures ∙ c.in-Some-group.is

pub returns-in-Some-group-clause-first : goal.returns-in-Some-group-clause-first
returns-in-Some-group-clause-first c =
    let v = c.args.self.now in
    let w = c.args.other.now in
    let found = short_group v.set w.set c.known-2.ensures (no_site c) c.in-Some-group.group (short_name c) in found.0

pub returns-in-Some-group-clause-none : goal.returns-in-Some-group-clause-none
returns-in-Some-group-clause-none c =
    let v = c.args.self.now in
    let w = c.args.other.now in
    let found = short_group v.set w.set c.known-2.ensures (no_site c) c.in-Some-group.group (short_name c) in
    (λ e. absurd (false≢true (sym e)), λ within. absurd (missing_not_within v.set w.set _ found.0 within))

pub returns-in-Some-group-clause-range : goal.returns-in-Some-group-clause-range
returns-in-Some-group-clause-range c =
    let v = c.args.self.now in
    let w = c.args.other.now in
    let found = short_group v.set w.set c.known-2.ensures (no_site c) c.in-Some-group.group (short_name c) in found.1

pub returns-clause-none : goal.returns-clause-none
returns-clause-none c =
    let v = c.args.self.now in
    let w = c.args.other.now in
    let mine = c.names.ensures ∙ ap (λ (x : VectorData). x.set.entries) c.self.view_is in
    let theirs = c.names-2.ensures ∙ ap (λ (x : VectorData). x.set.entries) c.other.view_is in
    let names = names_walked c.names.result c.names-2.result v w _ mine theirs c.first_short_name-group.ensures ∙ c.in_default-group.is in
    let ours = c.counts.ensures ∙ ap (λ (x : VectorData). x.set.counts) c.self.view_is in
    let others = c.counts-2.ensures ∙ ap (λ (x : VectorData). x.set.counts) c.other.view_is in
    let walked = c.first_short_site-original.ensures in
    let sites = sites_walked (left_of c.counts.result) (left_of c.counts-2.result) v w _ ours others walked ∙ c.in_default.is in
    let within = none_missing v.set w.set sites names in
    (λ e. within, λ h. refl)
