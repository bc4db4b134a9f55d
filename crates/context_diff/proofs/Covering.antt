-- When a context covers its sites: a walk over the sites that it names decides it.
use Rattle.std.proofs.Common.{◌≡◌, ℕ, ◌<◌, ◌≤◌, true, List, refl, ap, sym, subst, ◌∙◌, arith, length}
use Rattle.std.specs.Prelude.{Some, slice_get}
use Rattle.op_name.specs.NameData.{NameData}
use Rattle.op_name.specs.declared.member.Member.TheVariants.{Original}
use Rattle.op_name.proofs.CallerLemmas.{same_parts}
use Rattle.context_vector.specs.Contexts.{ContextData, Within, AreCounts, count_of}
use Rattle.context_diff.specs.Operations.{OpData}
use Rattle.context_diff.specs.Histories.{is_known, LacksNothing, CoversSite, IsClosed}
use Rattle.context_diff.specs.Bases.{original_context}
use Rattle.context_diff.proofs.Raising.{has_original}
use Rattle.context_diff.proofs.Known.{known_member, original_holder}
use Rattle.context_diff.proofs.Complete.{IsComplete}
use Rattle.context_diff.proofs.Histories.{original_facts, context_is}
use Rattle.context_diff.proofs.Listings.{count_at, count_place, count_order}

-- a named original is in the history
pub named_known : (h : List OpData) (v : ContextData) → LacksNothing h v → AreCounts 0 v.counts → (i : ℕ) (p : ℕ × ℕ)
    → slice_get v.counts i ≡ Some p → is_known h (Original (record { site = p.0; number = p.1 })) ≡ true
named_known h v ready are i p at =
    let here = count_at 0 v.counts are i p at in
    let n : NameData = record { site = p.0; number = p.1 } in
    ready (Original n) (has_original v n here.least (omega (arith, here.count)))

-- a site is covered where the context of its last named original lies in the context
covers_from : (h : List OpData) → IsComplete h → (v : ContextData) (s : ℕ)
    → (1 ≤ count_of v s → Within (original_context h (record { site = s; number = count_of v s })) v) → CoversSite h v s
covers_from h w v s within o n at is site number =
    let known : is_known h (Original n) ≡ true = ap (is_known h) (sym is) ∙ known_member h o at in
    let low = (original_facts h w n known).number in
    let last : NameData = record { site = s; number = count_of v s } in
    let same : last ≡ n = same_parts last n (sym site) (sym number) in
    let inner : Within (original_context h n) v = subst (λ (x : NameData). Within (original_context h x) v) same (within (omega arith)) in
    subst (λ (c : ContextData). Within c v) (context_is h w o n at is known) inner

pub covers_to : (h : List OpData) (v : ContextData) (n : NameData) → CoversSite h v n.site → is_known h (Original n) ≡ true
    → n.number ≡ count_of v n.site → Within (original_context h n) v
covers_to h v n covers known last =
    let held = original_holder h n known in
    subst (λ (c : ContextData). Within c v) (sym held.context) (covers held.op n held.there held.is refl last)

covered_before : (h : List OpData) → IsComplete h → (v : ContextData) → AreCounts 0 v.counts → (i : ℕ)
    → ((j : ℕ) (p : ℕ × ℕ) → j < i → slice_get v.counts j ≡ Some p → Within (original_context h (record { site = p.0; number = p.1 })) v)
    → (r : ℕ) → ((j : ℕ) → slice_get v.counts j ≡ Some (r, count_of v r) → j < i) → CoversSite h v r
covered_before h w v are i done r early =
    covers_from h w v r (λ some.
    let place = count_place v.counts r some in
    done place.place (r, count_of v r) (early place.place place.at) place.at)

-- all sites that are named are covered: the context is closed
pub all_covered : (h : List OpData) → IsComplete h → (v : ContextData) → AreCounts 0 v.counts
    → ((j : ℕ) (p : ℕ × ℕ) → j < length v.counts → slice_get v.counts j ≡ Some p
    → Within (original_context h (record { site = p.0; number = p.1 })) v) → IsClosed h v
all_covered h w v are done s =
    covers_from h w v s (λ some.
    let place = count_place v.counts s some in
    done place.place (s, count_of v s) place.within place.at)

-- sites before the first one that isn't covered are covered
pub covered_below : (h : List OpData) → IsComplete h → (v : ContextData) → AreCounts 0 v.counts → (i : ℕ) (q : ℕ × ℕ)
    → slice_get v.counts i ≡ Some q
    → ((j : ℕ) (p : ℕ × ℕ) → j < i → slice_get v.counts j ≡ Some p → Within (original_context h (record { site = p.0; number = p.1 })) v)
    → (r : ℕ) → r < q.0 → CoversSite h v r
covered_below h w v are i q at done r less =
    covered_before h w v are i done r (λ j bt. count_order 0 v.counts are j i (r, count_of v r) q bt at less)

-- and that one isn't, so the context isn't closed
pub not_covered : (h : List OpData) (v : ContextData) → LacksNothing h v → AreCounts 0 v.counts → (i : ℕ) (q : ℕ × ℕ)
    → slice_get v.counts i ≡ Some q → (Within (original_context h (record { site = q.0; number = q.1 })) v → ⊥) → CoversSite h v q.0 → ⊥
not_covered h v ready are i q at fails covers =
    let here = count_at 0 v.counts are i q at in
    fails (covers_to h v (record { site = q.0; number = q.1 }) covers (named_known h v ready are i q at) (sym here.count))
