-- Messages that grow by what is fed, and what is left to be fed.
use Rattle.std.proofs.Common.{◌≡◌, ℕ, zero, suc, ◌+◌, ◌≤◌, ◌<◌, List, [], ◌∷◌, ◌++◌, Some, None, refl, ap, sym, subst, ◌∙◌, arith, append_assoc, append-nil, add-one}
use Rattle.std.specs.Prelude.{drop, slice_get}
use Rattle.std.specs.List.{flat_map}
use Rattle.std.proofs.lemmas.Grind.{flat_map-append}
use Rattle.op_name.specs.declared.name.TheConstants.{SITES, NUMBERS}
use Rattle.op_name.specs.declared.member.Member.{Member}
use Rattle.op_name.specs.declared.member.Member.TheVariants.{Original, Group}
use Rattle.op_name.specs.NameData.{NameData}
use Rattle.context_vector.specs.Contexts.{AreCounts}
use Rattle.context_diff.specs.Operations.{OpData}
use Rattle.sha2.specs.declared.Sha256.{Sha256}
use Rattle.sha2.specs.Hashers.{Holds256}
use Rattle.log_listings.specs.Digests.{originals_from, groups_from, originals_of, groups_of, content_of, group_bytes}
use Rattle.log_listings.specs.Code.Hashing.{Feeds}

-- ---- one piece after the other

pub fed_nothing : (a : Sha256) → Feeds a a []
fed_nothing a m e = subst (Holds256 a) (sym (append-nil m)) e

pub fed_then : (a b c : Sha256) (x y : List ℕ) → Feeds a b x → Feeds b c y → Feeds a c (x ++ y)
fed_then a b c x y first second m e = subst (Holds256 c) (append_assoc m x y) (second (m ++ x) (first m e))

pub fed_same : (a b : Sha256) (x y : List ℕ) → x ≡ y → Feeds a b x → Feeds a b y
fed_same a b x y is f = subst (Feeds a b) is f

-- a front was fed, and the rest is left
pub record FeedsFront (old new : Sha256) (all rest : List ℕ) : Type 0 where
  pub front : List ℕ
  pub fed : Feeds old new front
  pub parts : front ++ rest ≡ all

pub front_none : (a : Sha256) (all : List ℕ) → FeedsFront a a all all
front_none a all = record { front = []; fed = fed_nothing a; parts = refl }

pub front_all : (a b : Sha256) (all rest : List ℕ) → FeedsFront a b all rest → rest ≡ [] → Feeds a b all
front_all a b all rest f none =
    fed_same a b f.front all (sym (append-nil f.front) ∙ (ap (λ x. f.front ++ x) (sym none) ∙ f.parts)) f.fed

front_more : (a b c : Sha256) (all x rest : List ℕ) → FeedsFront a b all (x ++ rest) → Feeds b c x → FeedsFront a c all rest
front_more a b c all x rest f fed = record {
  front = f.front ++ x;
  fed = fed_then a b c f.front x f.fed fed;
  parts = append_assoc f.front x rest ∙ f.parts;
}

-- ---- the contents of originals

abbrev pub counts_bytes : List OpData → List (ℕ × ℕ) → List ℕ
counts_bytes h ps = flat_map (content_of h) (flat_map originals_of ps)

counts_bytes-cons : (h : List OpData) (p : ℕ × ℕ) (ps : List (ℕ × ℕ))
    → counts_bytes h (p ∷ ps) ≡ flat_map (content_of h) (originals_of p) ++ counts_bytes h ps
counts_bytes-cons h p ps = flat_map-append (content_of h) (originals_of p) (flat_map originals_of ps)

-- one site more
pub site_fed : (h : List OpData) (old was new : Sha256) (all : List ℕ) (left less : List (ℕ × ℕ)) (p : ℕ × ℕ)
    → FeedsFront old was all (counts_bytes h left) → Some p ≡ slice_get left 0 → less ≡ drop 1 left
    → Feeds was new (flat_map (content_of h) (originals_of p)) → FeedsFront old new all (counts_bytes h less)
site_fed h old was new all [] less p f at rest fed = let none : Some p ≡ None = at in absurd (cc)
site_fed h old was new all (q ∷ qs) less p f at rest fed =
    let is : p ≡ q = let same : Some p ≡ Some q = at in cc in
    let parts : counts_bytes h (q ∷ qs) ≡ flat_map (content_of h) (originals_of p) ++ counts_bytes h less =
    counts_bytes-cons h q qs ∙ (ap (λ (x : ℕ × ℕ). flat_map (content_of h) (originals_of x) ++ counts_bytes h qs) (sym is)
    ∙ ap (λ (xs : List (ℕ × ℕ)). flat_map (content_of h) (originals_of p) ++ counts_bytes h xs) (sym rest)) in
    front_more old was new all (flat_map (content_of h) (originals_of p)) (counts_bytes h less)
    (subst (FeedsFront old was all) parts f) fed

pub none_left : {A : Type 0} (left : List A) → None ≡ slice_get left 0 → left ≡ []
none_left [] at = refl
none_left (x ∷ xs) at = let some : None ≡ Some x = at in absurd (cc)

-- what is left are counts, of sites from some one on
pub IsCountedRest : List (ℕ × ℕ) → Type 0
IsCountedRest left = (low : ℕ) × AreCounts low left

pub counted_rest : (low : ℕ) (left : List (ℕ × ℕ)) → AreCounts low left → IsCountedRest left
unfolding IsCountedRest
counted_rest low left a = (low, a)

pub counted_first : (left : List (ℕ × ℕ)) (p : ℕ × ℕ) → IsCountedRest left → Some p ≡ slice_get left 0
    → (p.0 < SITES) × (p.1 ≤ NUMBERS)
unfolding IsCountedRest
counted_first [] p a at = let none : Some p ≡ None = at in absurd (cc)
counted_first (q ∷ qs) p a at =
    let is : q ≡ p = let same : Some p ≡ Some q = at in cc in
    subst (λ (x : ℕ × ℕ). (x.0 < SITES) × (x.1 ≤ NUMBERS)) is (a.1.1, a.1.3)

pub counted_next : (left less : List (ℕ × ℕ)) → IsCountedRest left → less ≡ drop 1 left → IsCountedRest less
unfolding IsCountedRest
counted_next [] less a rest = subst (λ (xs : List (ℕ × ℕ)). (low : ℕ) × AreCounts low xs) (sym rest) a
counted_next (q ∷ qs) less a rest = subst (λ (xs : List (ℕ × ℕ)). (low : ℕ) × AreCounts low xs) (sym rest) (q.0 + 1, a.1.4)

-- ---- the originals of a site

originals_from-push : (s f k : ℕ) → originals_from s f (suc k) ≡ originals_from s f k ++ Original (record { site = s; number = f + k }) ∷ []
originals_from-push s f zero =
    let e : f ≡ f + 0 = omega arith in ap (λ (x : ℕ). Original (record { site = s; number = x }) ∷ []) e
originals_from-push s f (suc k) =
    let e : suc f + k ≡ f + suc k = omega arith in
    ap (λ (ms : List Member). Original (record { site = s; number = f }) ∷ ms) (originals_from-push s (suc f) k
    ∙ ap (λ (x : ℕ). originals_from s (suc f) k ++ Original (record { site = s; number = x }) ∷ []) e)

-- one original more
pub originals_more : (h : List OpData) (s k : ℕ)
    → flat_map (content_of h) (originals_from s 1 (k + 1))
    ≡ flat_map (content_of h) (originals_from s 1 k) ++ content_of h (Original (record { site = s; number = k + 1 }))
originals_more h s k =
    let e : 1 + k ≡ k + 1 = omega arith in
    ap (λ n. flat_map (content_of h) (originals_from s 1 n)) (add-one k)
    ∙ (ap (flat_map (content_of h)) (originals_from-push s 1 k)
    ∙ (flat_map-append (content_of h) (originals_from s 1 k) (Original (record { site = s; number = 1 + k }) ∷ [])
    ∙ (ap (λ (x : List ℕ). flat_map (content_of h) (originals_from s 1 k) ++ x)
    (append-nil (content_of h (Original (record { site = s; number = 1 + k }))))
    ∙ ap (λ (n : ℕ). flat_map (content_of h) (originals_from s 1 k) ++ content_of h (Original (record { site = s; number = n }))) e)))

-- ---- groups

abbrev pub entries_bytes : List OpData → List (NameData × ℕ) → List ℕ
entries_bytes h es = flat_map (content_of h) (flat_map groups_of es)

-- one name more
pub name_fed : (h : List OpData) (old was new : Sha256) (all : List ℕ) (left less : List (NameData × ℕ)) (e : NameData × ℕ)
    → FeedsFront old was all (entries_bytes h left) → Some e ≡ slice_get left 0 → less ≡ drop 1 left
    → Feeds was new (flat_map (content_of h) (groups_of e)) → FeedsFront old new all (entries_bytes h less)
name_fed h old was new all [] less e f at rest fed = let none : Some e ≡ None = at in absurd (cc)
name_fed h old was new all (q ∷ qs) less e f at rest fed =
    let is : e ≡ q = let same : Some e ≡ Some q = at in cc in
    let parts : entries_bytes h (q ∷ qs) ≡ flat_map (content_of h) (groups_of e) ++ entries_bytes h less =
    flat_map-append (content_of h) (groups_of q) (flat_map groups_of qs)
    ∙ (ap (λ (x : NameData × ℕ). flat_map (content_of h) (groups_of x) ++ entries_bytes h qs) (sym is)
    ∙ ap (λ (xs : List (NameData × ℕ)). flat_map (content_of h) (groups_of e) ++ entries_bytes h xs) (sym rest)) in
    front_more old was new all (flat_map (content_of h) (groups_of e)) (entries_bytes h less)
    (subst (FeedsFront old was all) parts f) fed

groups_from-push : (n : NameData) (f k : ℕ) → groups_from n f (suc k) ≡ groups_from n f k ++ Group n (f + k) ∷ []
groups_from-push n f zero = let e : f ≡ f + 0 = omega arith in ap (λ (x : ℕ). Group n x ∷ []) e
groups_from-push n f (suc k) =
    let e : suc f + k ≡ f + suc k = omega arith in
    ap (λ (ms : List Member). Group n f ∷ ms) (groups_from-push n (suc f) k
    ∙ ap (λ (x : ℕ). groups_from n (suc f) k ++ Group n x ∷ []) e)

-- one group more
pub groups_more : (h : List OpData) (n : NameData) (k : ℕ)
    → flat_map (content_of h) (groups_from n 1 (k + 1)) ≡ flat_map (content_of h) (groups_from n 1 k) ++ group_bytes n (k + 1)
groups_more h n k =
    let e : 1 + k ≡ k + 1 = omega arith in
    ap (λ i. flat_map (content_of h) (groups_from n 1 i)) (add-one k)
    ∙ (ap (flat_map (content_of h)) (groups_from-push n 1 k)
    ∙ (flat_map-append (content_of h) (groups_from n 1 k) (Group n (1 + k) ∷ [])
    ∙ (ap (λ (x : List ℕ). flat_map (content_of h) (groups_from n 1 k) ++ x) (append-nil (group_bytes n (1 + k)))
    ∙ ap (λ (i : ℕ). flat_map (content_of h) (groups_from n 1 k) ++ group_bytes n i) e)))

-- the pieces of a group
pub group_fed : (a b c d e : Sha256) (w x y z : List ℕ) → Feeds a b w → Feeds b c x → Feeds c d y → Feeds d e z
    → Feeds a e (w ++ ((x ++ y) ++ z))
group_fed a b c d e w x y z one two three four =
    fed_then a b e w ((x ++ y) ++ z) one (fed_then b d e (x ++ y) z (fed_then b c d x y two three) four)
