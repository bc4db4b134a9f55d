-- One turn of the work on the stack: what it needs, and what it leaves.
use Rattle.std.proofs.Common.{◌≡◌, ℕ, ◌+◌, ◌-◌, ◌<◌, Bool, take, List, [], ◌∷◌, ◌++◌, refl, sym, ap, subst, ◌∙◌}
use Rattle.op_name.specs.declared.member.Member.{Member}
use Rattle.context_vector.specs.Contexts.{has}
use Rattle.form_cache.specs.Keys.{KeyData}
use Rattle.transform_rec.specs.Family.{Family}
use Rattle.transform_rec.specs.Derived.{IsOnlyFormAt}
use Rattle.transform_rec.specs.Histories.{family_in}
use Rattle.transform_rec.specs.declared.pending.Pending.{Pending}
use Rattle.transform_rec.specs.Code.Pending.{IsPending, IsWaiting, IsStep, IsBegun, IsChain, first}
use Rattle.transform_rec.proofs.Sets.{same_set}
use Rattle.transform_rec.proofs.Transformations.{OverHistory}
use Rattle.transform_rec.proofs.Chains.{popped, chain_map, chain_last, chain_push, chain_pop, first_push, work, list_work, falls_added, falls_pushed, falls_popped}
use Rattle.transform_rec.proofs.Steps.{form_ended}
use Rattle.transform_rec.proofs.Histories.{history_causal}

-- a list from which nothing could be taken
pub nothing_left : {A : Type 0} (xs ys : List A) (n : ℕ) → xs ≡ ys ++ [] → ys ≡ take (n - 1) xs → n ≡ 0 → xs ≡ []
nothing_left xs ys n whole rest none = whole ∙ ap (λ l. l ++ []) (rest ∙ ap (λ (k : ℕ). take (k - 1) xs) none)

module _ {F : Type 0} (o : OverHistory F) (m : Member) (T : Member → Bool) where
  abbrev family : Family F
  family = family_in o.history o.form

  -- the stack, with its last pair, which is on its way: all wait for one another, from m at T on
  pub record IsList (ps : List (Pending F)) (p : Pending F) : Type 0 where
    pub chain : IsChain o.inclusion.over family (λ S. IsPending o.inclusion.over family S p) T ps p.at.member
    pub root : first o.inclusion.over family ps p.at.member ≡ m

  -- less work is left
  abbrev pub Falls : List (Pending F) → Pending F → List (Pending F) → Pending F → Type 0
  Falls ps p qs q = list_work family qs + work family q < list_work family ps + work family p

  -- the pair q is p without the next member x of its rest
  pub record IsTaken (x : Member) (p q : Pending F) : Type 0 where
    pub key : q.at ≡ p.at
    pub form : q.form ≡ p.form
    pub rest : p.rest.items ≡ q.rest.items ++ (x ∷ [])

  waits_chain : (ps : List (Pending F)) (x : Member) (p q : Pending F) → IsList ps p → IsTaken x p q
      → IsChain o.inclusion.over family (λ S. IsWaiting o.inclusion.over family S x q) T ps p.at.member
  waits_chain ps x p q l t =
      chain_map o.inclusion.over family (λ S. IsPending o.inclusion.over family S p) (λ S. IsWaiting o.inclusion.over family S x q) ps T
      p.at.member (λ S w. popped o.inclusion.over family S x p q t.key t.form t.rest w) l.chain

  pub turn_waits : (ps : List (Pending F)) (x : Member) (p q : Pending F) → IsList ps p → IsTaken x p q
      → (S : Member → Bool) × IsWaiting o.inclusion.over family S x q
  turn_waits ps x p q l t =
      chain_last o.inclusion.over family (λ S. IsWaiting o.inclusion.over family S x q) ps T p.at.member (waits_chain ps x p q l t)

  -- a member is added
  moved : (ps : List (Pending F)) (x n : Member) (q r : Pending F) → IsStep o.inclusion.over family x q r → n ≡ q.at.member
      → IsChain o.inclusion.over family (λ S. IsWaiting o.inclusion.over family S x q) T ps n → first o.inclusion.over family ps n ≡ m
      → IsList ps r
  moved ps x n q r s e c root =
      let same : n ≡ r.at.member = e ∙ sym s.member in
      record {
        chain = subst (λ (y : Member). IsChain o.inclusion.over family (λ S. IsPending o.inclusion.over family S r) T ps y) same
            (chain_map o.inclusion.over family (λ S. IsWaiting o.inclusion.over family S x q) (λ S. IsPending o.inclusion.over family S r)
            ps T n (λ S w. s.way S w) c);
        root = subst (λ (y : Member). first o.inclusion.over family ps y ≡ m) same root;
      }

  pub turn_added : (ps : List (Pending F)) (x : Member) (p q r : Pending F) → IsList ps p → IsTaken x p q
      → IsStep o.inclusion.over family x q r → IsList ps r × Falls ps p ps r
  turn_added ps x p q r l t s =
      let w = turn_waits ps x p q l t in (
        moved ps x p.at.member q r s (sym (ap (λ (k : KeyData). k.member) t.key)) (waits_chain ps x p q l t) l.root,
        falls_added o.inclusion.over family (history_causal o.history o.form o.valid) ps x w.0 p q r t.key t.rest w.1 s,
      )

  -- a pair is pushed
  pub turn_pushed : (ps more : List (Pending F)) (x : Member) (p q q2 r : Pending F) → IsList ps p → IsTaken x p q → q2 ≡ q
      → more ≡ ps ++ (q2 ∷ []) → IsBegun o.inclusion.over family x q2 r → IsList more r × Falls ps p more r
  turn_pushed ps more x p q q2 r l t same long b =
      let begun : IsBegun o.inclusion.over family x q r = subst (λ (k : Pending F). IsBegun o.inclusion.over family x k r) same b in
      let grown : more ≡ ps ++ (q ∷ []) = long ∙ ap (λ (k : Pending F). ps ++ (k ∷ [])) same in
      let here : q.at.member ≡ p.at.member = ap (λ (k : KeyData). k.member) t.key in
      let waits : IsChain o.inclusion.over family (λ S. IsWaiting o.inclusion.over family S r.at.member q) T ps q.at.member =
      subst (λ (y : Member). IsChain o.inclusion.over family (λ S. IsWaiting o.inclusion.over family S y q) T ps q.at.member)
      (sym begun.member) (subst (λ (y : Member). IsChain o.inclusion.over family (λ S. IsWaiting o.inclusion.over family S x q) T ps y)
      (sym here) (waits_chain ps x p q l t)) in
      let chain = chain_push o.inclusion.over family (λ S. IsPending o.inclusion.over family S r) ps T q r.at.member waits begun.way in
      let root : first o.inclusion.over family (ps ++ (q ∷ [])) r.at.member ≡ m =
      first_push o.inclusion.over family ps q r.at.member ∙ (ap (first o.inclusion.over family ps) here ∙ l.root) in (
        subst (λ (ws : List (Pending F)). IsList ws r) (sym grown) (record { chain = chain; root = root }),
        falls_pushed o.inclusion.over family (history_causal o.history o.form o.valid) ps more x p q r t.key t.rest grown begun.way,
      )

  -- ---- a pair is finished

  parted : (ps more : List (Pending F)) (p q : Pending F) → IsList more p → more ≡ ps ++ (q ∷ [])
      → IsChain o.inclusion.over family (λ S. IsWaiting o.inclusion.over family S p.at.member q) T ps q.at.member
      × IsPending o.inclusion.over family (has q.at.context) p
  parted ps more p q l long =
      chain_pop o.inclusion.over family (λ S. IsPending o.inclusion.over family S p) ps T q p.at.member
      (subst (λ (ws : List (Pending F)). IsChain o.inclusion.over family (λ S. IsPending o.inclusion.over family S p) T ws p.at.member) long
      l.chain)

  pub turn_handed : (ps more : List (Pending F)) (p q : Pending F) → IsList more p → more ≡ ps ++ (q ∷ [])
      → (S : Member → Bool) × IsWaiting o.inclusion.over family S p.at.member q
  turn_handed ps more p q l long =
      chain_last o.inclusion.over family (λ S. IsWaiting o.inclusion.over family S p.at.member q) ps T q.at.member
      (parted ps more p q l long).0

  pub turn_form : (ps more : List (Pending F)) (p q : Pending F) → IsList more p → more ≡ ps ++ (q ∷ []) → p.rest.items ≡ []
      → IsOnlyFormAt o.inclusion.over family p.at.member (has q.at.context) p.form
  turn_form ps more p q l long none = (form_ended o (has q.at.context) p none (parted ps more p q l long).1).0

  pub turn_popped : (ps more : List (Pending F)) (p q r : Pending F) → IsList more p → more ≡ ps ++ (q ∷ [])
      → IsStep o.inclusion.over family p.at.member q r → IsList ps r × Falls more p ps r
  turn_popped ps more p q r l long s =
      let c = (parted ps more p q l long).0 in
      let w = turn_handed ps more p q l long in
      let root : first o.inclusion.over family ps q.at.member ≡ m =
      sym (first_push o.inclusion.over family ps q p.at.member)
      ∙ (sym (ap (λ (ws : List (Pending F)). first o.inclusion.over family ws p.at.member) long) ∙ l.root) in (
        moved ps p.at.member q.at.member q r s refl c root,
        falls_popped o.inclusion.over family (history_causal o.history o.form o.valid) ps more p.at.member w.0 p q r long w.1 s,
      )

  -- the last pair has the only form of m at T, also as the form of its key
  pub turn_ended : (ps : List (Pending F)) (p : Pending F) → IsList ps p → ps ≡ [] → p.rest.items ≡ []
      → IsOnlyFormAt o.inclusion.over family m T p.form × IsOnlyFormAt o.inclusion.over family p.at.member (has p.at.context) p.form
  turn_ended ps p l e none =
      let alone : IsPending o.inclusion.over family T p =
      subst (λ (ws : List (Pending F)). IsChain o.inclusion.over family (λ S. IsPending o.inclusion.over family S p) T ws p.at.member) e
      l.chain in
      let root : p.at.member ≡ m = sym (ap (λ (ws : List (Pending F)). first o.inclusion.over family ws p.at.member) e) ∙ l.root in
      let r = form_ended o T p none alone in (
        subst (λ (y : Member). IsOnlyFormAt o.inclusion.over family y T p.form) root r.0,
        subst (λ (S : Member → Bool). IsOnlyFormAt o.inclusion.over family p.at.member S p.form) (sym (same_set (has p.at.context) T r.1))
            r.0,
      )
