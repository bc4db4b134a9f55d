-- What a valid history gives: its originals know the earlier ones of their sites, contexts of one site lie in one another, and
-- the groups of an original stand behind it without gaps.
use Rattle.std.proofs.Common.{◌≡◌, ℕ, zero, suc, ◌+◌, ◌<◌, ◌≤◌, true, ◌⊎◌, inl, inr, List, refl, ap, sym, subst, ◌∙◌, arith, ◌≢◌}
use Rattle.std.specs.Prelude.{Contains}
use Rattle.std.proofs.lemmas.Bool.{cases_lt}
use Rattle.op_name.specs.declared.member.Member.TheVariants.{Original, Group}
use Rattle.op_name.specs.NameData.{NameData}
use Rattle.op_name.proofs.CallerLemmas.{same_parts}
use Rattle.context_vector.specs.Contexts.{ContextData, Within, IsContext, HasNoStray, has, count_of}
use Rattle.context_diff.specs.Operations.{OpData, inserting, deleting, undoing, member_of, context_of, is_original, IsWellFormed}
use Rattle.context_diff.specs.Histories.{is_known, context_of_all, LacksNothing, IsClosed}
use Rattle.context_diff.specs.Bases.{original_context}
use Rattle.context_diff.proofs.Raising.{has_original, has_number, has_group, has_generation}
use Rattle.context_diff.proofs.Known.{holder, original_holder}
use Rattle.context_diff.proofs.Complete.{IsComplete}

-- the context of an original of a history
pub record IsContextOf (h : List OpData) (n : NameData) (c : ContextData) : Type 0 where
  pub number : 1 ≤ n.number
  pub form : IsContext c
  pub own : count_of c n.site + 1 ≡ n.number
  pub stray : HasNoStray c
  pub ready : LacksNothing h c
  pub closed : IsClosed h c

context_facts : (h : List OpData) (o : OpData) → IsWellFormed o → LacksNothing h (context_of o)
    → (is_original o ≡ true → IsClosed h (context_of o)) → (n : NameData) → member_of o ≡ Original n → IsContextOf h n (context_of o)
context_facts h (inserting m p text c) f ready closed n is =
    let same : m ≡ n = cc in
    record {
      number = subst (λ (x : NameData). 1 ≤ x.number) same f.in_range.0.1;
      form = f.in_range.3;
      own = subst (λ (x : NameData). count_of c x.site + 1 ≡ x.number) same f.own;
      stray = f.stray;
      ready = ready;
      closed = closed refl;
    }
context_facts h (deleting m p c) f ready closed n is =
    let same : m ≡ n = cc in
    record {
      number = subst (λ (x : NameData). 1 ≤ x.number) same f.in_range.0.1;
      form = f.in_range.2;
      own = subst (λ (x : NameData). count_of c x.site + 1 ≡ x.number) same f.own;
      stray = f.stray;
      ready = ready;
      closed = closed refl;
    }
context_facts h (undoing a t g c) f ready closed n is = cc

pub original_facts : (h : List OpData) → IsComplete h → (n : NameData) → is_known h (Original n) ≡ true
    → IsContextOf h n (original_context h n)
original_facts h v n known =
    let held = original_holder h n known in
    subst (λ (c : ContextData). IsContextOf h n c) (sym held.context)
    (context_facts h held.op (v.formed held.op held.there) (v.ready held.op held.there) (v.closed held.op held.there) n held.is)

-- the context of an operation of a history is the one that the history gives for its name
pub context_is : (h : List OpData) → IsComplete h → (o : OpData) (n : NameData) → Contains h o → member_of o ≡ Original n
    → is_known h (Original n) ≡ true → original_context h n ≡ context_of o
context_is h v o n at is known =
    let held = original_holder h n known in
    held.context ∙ ap context_of (v.one held.op o held.there at (held.is ∙ sym is))

-- a group of a history: its original is there, its generation is at least 1, and the groups before it are there
pub record IsGroupOf (h : List OpData) (t : NameData) (g : ℕ) : Type 0 where
  pub generation : 1 ≤ g
  pub target : is_known h (Original t) ≡ true
  pub below : (k : ℕ) → 1 ≤ k → k ≤ g → is_known h (Group t k) ≡ true

group_target : (h : List OpData) (o : OpData) → IsWellFormed o → LacksNothing h (context_of o) → (t : NameData) (g : ℕ)
    → member_of o ≡ Group t g → is_known h (Original t) ≡ true
group_target h (inserting m p text c) f ready t g is = cc
group_target h (deleting m p c) f ready t g is = cc
group_target h (undoing a u k c) f ready t g is =
    let same : u ≡ t = cc in
    subst (λ (x : NameData). is_known h (Original x) ≡ true) same (ready (Original u) f.target.0)

pub group_facts : (h : List OpData) → IsComplete h → (t : NameData) (g : ℕ) → is_known h (Group t g) ≡ true → IsGroupOf h t g
group_facts h v t g known =
    let held = holder h (Group t g) known in
    let range = has_generation (context_of_all h) t g (v.holds (Group t g) ∙ known) in
    record {
      generation = range.0;
      target = group_target h held.op (v.formed held.op held.there) (v.ready held.op held.there) t g held.is;
      below = λ k low high. sym (v.holds (Group t k)) ∙ has_group (context_of_all h) t k low (omega arith);
    }

-- an original knows all earlier originals of its site
pub own_earlier : (h : List OpData) → IsComplete h → (n : NameData) → is_known h (Original n) ≡ true → (x : NameData) → x.site ≡ n.site
    → 1 ≤ x.number → x.number < n.number → has (original_context h n) (Original x) ≡ true
own_earlier h v n known x site low less =
    let facts = original_facts h v n known in
    let counts : count_of (original_context h n) x.site ≡ count_of (original_context h n) n.site =
    ap (count_of (original_context h n)) site in
    has_original (original_context h n) x low (omega (arith, facts.own))

-- an original knows none of its site from itself on
pub own_alone : (h : List OpData) → IsComplete h → (n : NameData) → is_known h (Original n) ≡ true → (x : NameData) → x.site ≡ n.site
    → has (original_context h n) (Original x) ≡ true → x.number < n.number
own_alone h v n known x site there =
    let facts = original_facts h v n known in
    let counts : count_of (original_context h n) x.site ≡ count_of (original_context h n) n.site =
    ap (count_of (original_context h n)) site in
    let range = has_number (original_context h n) x there in
    omega (arith, facts.own, range.1)

-- a closed context holds the context of the last original of each site
pub holds_last : (h : List OpData) (c : ContextData) → LacksNothing h c → IsClosed h c → (n : NameData) → 1 ≤ n.number
    → n.number ≡ count_of c n.site → Within (original_context h n) c
holds_last h c ready closed n low last =
    let there : has c (Original n) ≡ true = has_original c n low (omega arith) in
    let held = original_holder h n (ready (Original n) there) in
    subst (λ (d : ContextData). Within d c) (sym held.context) (closed n.site held.op n held.there held.is refl last)

-- the contexts of one site lie in one another
pub context_chain : (h : List OpData) → IsComplete h → (d : ℕ) (x n : NameData) → is_known h (Original n) ≡ true → x.site ≡ n.site
    → 1 ≤ x.number → x.number + suc d ≡ n.number → Within (original_context h x) (original_context h n)
context_chain h v zero x n known site low far =
    let facts = original_facts h v n known in
    let c = original_context h n in
    let last : NameData = record { site = n.site; number = count_of c n.site } in
    let same : x ≡ last = same_parts x last site (omega (arith, facts.own)) in
    subst (λ (y : NameData). Within (original_context h y) c) (sym same)
    (holds_last h c facts.ready facts.closed last (omega (arith, facts.own)) refl)
context_chain h v (suc d) x n known site low far =
    let facts = original_facts h v n known in
    let c = original_context h n in
    let last : NameData = record { site = n.site; number = count_of c n.site } in
    let there : has c (Original last) ≡ true = has_original c last (omega (arith, facts.own)) (omega arith) in
    let to_last = context_chain h v d x last (facts.ready (Original last) there) site low (omega (arith, facts.own)) in
    let from_last = holds_last h c facts.ready facts.closed last (omega (arith, facts.own)) refl in
    λ m e. from_last m (to_last m e)

-- of two originals of one site the one knows the other
pub related : (h : List OpData) → IsComplete h → (n m : NameData) → is_known h (Original n) ≡ true → is_known h (Original m) ≡ true → n ≢ m
    → n.site ≡ m.site → (has (original_context h n) (Original m) ≡ true) ⊎ (has (original_context h m) (Original n) ≡ true)
related h v n m known known' apart site =
    let low = (original_facts h v n known).number in
    let low' = (original_facts h v m known').number in
    elim (cases_lt n.number m.number) [
      | inl less ↦ inr (own_earlier h v m known' n site low less)
      | inr more ↦ elim (cases_lt m.number n.number) [
        | inl less ↦ inl (own_earlier h v n known m (sym site) low' less)
        | inr more' ↦ absurd (apart (same_parts n m site (omega arith)))
      ]
    ]
