-- Stacks of pairs that wait for one another, and the greatest work that is left to them.
use Rattle.std.proofs.Common.{◌≡◌, ℕ, zero, suc, ◌+◌, ◌<◌, ◌≤◌, Bool, List, [], ◌∷◌, ◌++◌, length, reverse, refl, sym, ap, ap₂, subst, ◌∙◌, arith}
use Rattle.std.proofs.lemmas.List.{reverse-append, length-append, length-reverse}
use Rattle.op_name.specs.declared.member.Member.{Member}
use Rattle.context_vector.specs.Contexts.{has}
use Rattle.form_cache.specs.Keys.{KeyData}
use Rattle.transform_rec.specs.Sets.{plus, plus_all}
use Rattle.transform_rec.specs.Family.{Family, IsCausalFamily, size}
use Rattle.transform_rec.specs.Executing.{IsCausalFrom}
use Rattle.transform_rec.specs.declared.pending.Pending.{Pending}
use Rattle.transform_rec.specs.Code.Pending.{IsOnWay, IsPending, IsWaiting, IsStep, IsChain, first}
use Rattle.transform_rec.proofs.Sets.{same_set}
use Rattle.transform_rec.proofs.Families.{size_plus}

-- ---- chains

module _ {F : Type 0} (over : F → F → F) (b : Family F) where
  -- a pair whose next member was taken from its rest waits for it
  pub popped : (T : Member → Bool) (x : Member) (p q : Pending F) → q.at ≡ p.at → q.form ≡ p.form → p.rest.items ≡ q.rest.items ++ (x ∷ [])
      → IsPending over b T p → IsWaiting over b T x q
  popped T x p q key form rest w =
      let next : reverse p.rest.items ≡ x ∷ reverse q.rest.items = ap reverse rest ∙ reverse-append q.rest.items (x ∷ []) in
      let a = subst (λ (l : List Member). IsOnWay over b p.at.member T (has p.at.context) p.form l) next w in
      let f = subst (λ (k : F). IsOnWay over b p.at.member T (has p.at.context) k (x ∷ reverse q.rest.items)) (sym form) a in
      subst (λ (k : KeyData). IsOnWay over b k.member T (has k.context) q.form (x ∷ reverse q.rest.items)) (sym key) f

  pub chain_map : (P Q : (Member → Bool) → Type 0) (ps : List (Pending F)) (T : Member → Bool) (m : Member)
      → ((S : Member → Bool) → P S → Q S) → IsChain over b P T ps m → IsChain over b Q T ps m
  chain_map P Q [] T m h c = h T c
  chain_map P Q (p ∷ ps) T m h c = (c.0, chain_map P Q ps (has p.at.context) m h c.1)

  pub chain_last : (P : (Member → Bool) → Type 0) (ps : List (Pending F)) (T : Member → Bool) (m : Member) → IsChain over b P T ps m
      → (S : Member → Bool) × P S
  chain_last P [] T m c = (T, c)
  chain_last P (p ∷ ps) T m c = chain_last P ps (has p.at.context) m c.1

  pub first_push : (ps : List (Pending F)) (p : Pending F) (m : Member) → first over b (ps ++ (p ∷ [])) m ≡ first over b ps p.at.member
  first_push [] p m = refl
  first_push (q ∷ ps) p m = refl

  pub chain_push : (P : (Member → Bool) → Type 0) (ps : List (Pending F)) (T : Member → Bool) (p : Pending F) (m : Member)
      → IsChain over b (λ S. IsWaiting over b S m p) T ps p.at.member → P (has p.at.context) → IsChain over b P T (ps ++ (p ∷ [])) m
  chain_push P [] T p m c r = (c, r)
  chain_push P (q ∷ ps) T p m c r =
      (subst (λ (x : Member). IsWaiting over b T x q) (sym (first_push ps p m)) c.0, chain_push P ps (has q.at.context) p m c.1 r)

  pub chain_pop : (P : (Member → Bool) → Type 0) (ps : List (Pending F)) (T : Member → Bool) (p : Pending F) (m : Member)
      → IsChain over b P T (ps ++ (p ∷ [])) m → IsChain over b (λ S. IsWaiting over b S m p) T ps p.at.member × P (has p.at.context)
  chain_pop P [] T p m c = (c.0, c.1)
  chain_pop P (q ∷ ps) T p m c =
      let r = chain_pop P ps (has q.at.context) p m c.1 in
      ((subst (λ (x : Member). IsWaiting over b T x q) (first_push ps p m) c.0, r.0), r.1)

-- ---- the work that is left

unfoldable pub pow2 : ℕ → ℕ
pow2 zero = 1
pow2 (suc n) = pow2 n + pow2 n

-- the most turns that a pair takes, with n members in its context and r in its rest: each of the rest costs as many turns as
-- a pair whose target has n members, and one more
unfoldable pub left : ℕ → ℕ → ℕ
left n zero = 1
left n (suc r) = pow2 (suc n) + left (suc n) r

pow2_least : (n : ℕ) → 1 ≤ pow2 n
unfolding pow2
pow2_least zero = omega arith
pow2_least (suc n) = let ih = pow2_least n in omega arith

left_whole : (n r : ℕ) → left n r + pow2 (suc n) ≡ pow2 (suc (n + r)) + 1
unfolding left pow2
left_whole n zero = let e : n + 0 ≡ n = omega arith in rw e (omega arith)
left_whole n (suc r) =
    let ih = left_whole (suc n) r in
    let e : n + suc r ≡ suc n + r = omega arith in
    rw e (omega arith)

-- a pair's work is less than what it counts for in the one that waits for it
left_less : (n r : ℕ) → left n r < pow2 (suc (n + r))
unfolding pow2
left_less n r = let e = left_whole n r in let low = pow2_least n in omega arith

left_next : (n r : ℕ) → left n (suc r) ≡ pow2 (suc n) + left (suc n) r
unfolding left
left_next n r = refl

left_least : (n r : ℕ) → 1 ≤ left n r
unfolding left
left_least n zero = omega arith
left_least n (suc r) = let ih = left_least (suc n) r in omega arith

module _ {F : Type 0} (b : Family F) where
  unfoldable pub work : Pending F → ℕ
  work p = left (size b (has p.at.context)) (length p.rest.items)

  -- of a pair that waits: the work after the member that it waits for
  unfoldable pub later_work : Pending F → ℕ
  later_work p = left (suc (size b (has p.at.context))) (length p.rest.items)

  unfoldable pub list_work : List (Pending F) → ℕ
  list_work [] = 0
  list_work (p ∷ ps) = later_work p + list_work ps

  list_push : (ps : List (Pending F)) (p : Pending F) → list_work (ps ++ (p ∷ [])) ≡ list_work ps + later_work p
  unfolding list_work
  list_push [] p = omega arith
  list_push (q ∷ ps) p = let ih = list_push ps p in omega arith

module _ {F : Type 0} (over : F → F → F) (b : Family F) (c : IsCausalFamily b) where
  -- each member of a rest makes the set greater by one
  size_path : (rest : List Member) (C : Member → Bool) → IsCausalFrom b C rest → size b (plus_all C rest) ≡ size b C + length rest
  size_path [] C r = omega arith
  size_path (x ∷ xs) C r =
      let ih = size_path xs (plus C x) r.1 in
      let more = size_plus b c x C r.0.listed r.0.lacks in
      omega arith

  size_target : (T : Member → Bool) (p : Pending F) → IsPending over b T p → size b T ≡ size b (has p.at.context) + length p.rest.items
  size_target T p w =
      let same : size b (plus_all (has p.at.context) (reverse p.rest.items)) ≡ size b T =
      ap (size b) (same_set (plus_all (has p.at.context) (reverse p.rest.items)) T w.whole) in
      let path = size_path (reverse p.rest.items) (has p.at.context) w.path in
      let long = length-reverse p.rest.items in
      omega arith

  work_waits : (x : Member) (p q : Pending F) → q.at ≡ p.at → p.rest.items ≡ q.rest.items ++ (x ∷ [])
      → work b p ≡ pow2 (suc (size b (has q.at.context))) + later_work b q
  unfolding work later_work
  work_waits x p q key rest =
      let long : length p.rest.items ≡ suc (length q.rest.items) = ap length rest ∙ (length-append q.rest.items (x ∷ []) ∙ omega arith) in
      let here : left (size b (has p.at.context)) (length p.rest.items) ≡ left (size b (has q.at.context)) (suc (length q.rest.items)) =
      ap₂ (λ (k : KeyData) (n : ℕ). left (size b (has k.context)) n) (sym key) long in
      here ∙ left_next (size b (has q.at.context)) (length q.rest.items)

  work_step : (x : Member) (T : Member → Bool) (p q : Pending F) → IsWaiting over b T x p → IsStep over b x p q → work b q ≡ later_work b p
  unfolding work later_work
  work_step x T p q w s =
      let size_is : size b (has q.at.context) ≡ suc (size b (has p.at.context)) =
      ap (size b) (same_set (has q.at.context) (plus (has p.at.context) x) s.context)
      ∙ (size_plus b c x (has p.at.context) w.path.0.listed w.path.0.lacks ∙ omega arith) in
      ap₂ left size_is (ap length s.rest)

  work_begun : (p q : Pending F) → IsPending over b (has p.at.context) q → work b q < pow2 (suc (size b (has p.at.context)))
  unfolding work
  work_begun p q w =
      let size_is = size_target (has p.at.context) q w in
      subst (λ (n : ℕ). left (size b (has q.at.context)) (length q.rest.items) < pow2 (suc n)) (sym size_is)
      (left_less (size b (has q.at.context)) (length q.rest.items))

  -- the work falls where a member is added, where a pair is pushed, and where one is popped
  pub falls_added : (ps : List (Pending F)) (x : Member) (T : Member → Bool) (p q r : Pending F) → q.at ≡ p.at
      → p.rest.items ≡ q.rest.items ++ (x ∷ []) → IsWaiting over b T x q → IsStep over b x q r
      → list_work b ps + work b r < list_work b ps + work b p
  falls_added ps x T p q r key rest w s =
      let was = work_waits x p q key rest in
      let is = work_step x T q r w s in
      let low = pow2_least (suc (size b (has q.at.context))) in
      omega arith

  pub falls_pushed : (ps more : List (Pending F)) (x : Member) (p q r : Pending F) → q.at ≡ p.at → p.rest.items ≡ q.rest.items ++ (x ∷ [])
      → more ≡ ps ++ (q ∷ []) → IsPending over b (has q.at.context) r → list_work b more + work b r < list_work b ps + work b p
  falls_pushed ps more x p q r key rest long w =
      let was = work_waits x p q key rest in
      let less = work_begun q r w in
      let list : list_work b more ≡ list_work b ps + later_work b q = ap (list_work b) long ∙ list_push b ps q in
      omega arith

  work_least : (p : Pending F) → 1 ≤ work b p
  unfolding work
  work_least p = left_least (size b (has p.at.context)) (length p.rest.items)

  pub falls_popped : (ps more : List (Pending F)) (x : Member) (T : Member → Bool) (p q r : Pending F) → more ≡ ps ++ (q ∷ [])
      → IsWaiting over b T x q → IsStep over b x q r → list_work b ps + work b r < list_work b more + work b p
  falls_popped ps more x T p q r long w s =
      let is = work_step x T q r w s in
      let low = work_least p in
      let list : list_work b more ≡ list_work b ps + later_work b q = ap (list_work b) long ∙ list_push b ps q in
      omega arith
