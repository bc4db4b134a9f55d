-- The members of a context, listed in their order.
use Rattle.std.proofs.Common.{◌≡◌, ℕ, zero, suc, ◌+◌, ◌<◌, ◌≤◌, Bool, true, false, List, [], ◌∷◌, ◌++◌, refl, ap, sym, subst, ◌∙◌, inl, inr, ◌⊎◌, arith}
use Rattle.std.specs.Prelude.{◌==◌, if◌then◌else◌}
use Rattle.std.specs.List.{flat_map}
use Rattle.std.proofs.lemmas.Bool.{cases_Bool, cases_eq, eq-eqb, ne_eqb, eqb-true}
use Rattle.std.proofs.lemmas.Bool.Decides.{nat_tests}
use Rattle.op_name.specs.declared.member.Member.{Member}
use Rattle.op_name.specs.declared.member.Member.TheVariants.{Original, Group}
use Rattle.op_name.specs.NameData.{NameData, name_eq, name_lt, IsBefore}
use Rattle.op_name.specs.Members.{member_lt}
use Rattle.op_name.proofs.CallerLemmas.{name_same, name_itself, name_transitive, name_less_other}
use Rattle.context_vector.specs.Contexts.{ContextData, IsContext, AreCounts, AreEntries, count_in, entry_in, has}
use Rattle.context_vector.proofs.CallerLemmas.{has_original, has_group, original_counted, group_entered}
use Rattle.context_diff.specs.Histories.{context_of_all}
use Rattle.context_diff.proofs.CallerLemmas.{complete, all_is_context}
use Rattle.ttf_form.specs.Families.{IsIn}
use Rattle.undo_group.specs.Laws.Members.{in_contains, contains_in}
use Rattle.log_listings.specs.Digests.{originals_from, groups_from, originals_of, groups_of, members_of}
use Rattle.log_listings.specs.Laws.{AreRising, MembersAreListed}

-- ---- lists of members

pub in_parts : {A : Type 0} (xs ys : List A) (x : A) → IsIn x (xs ++ ys) → IsIn x xs ⊎ IsIn x ys
in_parts [] ys x i = inr i
in_parts (z ∷ zs) ys x (inl e) = inl (inl e)
in_parts (z ∷ zs) ys x (inr i) = elim (in_parts zs ys x i) [ inl j ↦ inl (inr j) | inr j ↦ inr j ]

pub in_first : {A : Type 0} (xs ys : List A) (x : A) → IsIn x xs → IsIn x (xs ++ ys)
in_first [] ys x i = absurd i
in_first (z ∷ zs) ys x (inl e) = inl e
in_first (z ∷ zs) ys x (inr i) = inr (in_first zs ys x i)

pub in_second : {A : Type 0} (xs ys : List A) (x : A) → IsIn x ys → IsIn x (xs ++ ys)
in_second [] ys x i = i
in_second (z ∷ zs) ys x i = inr (in_second zs ys x i)

rising-append : (xs ys : List Member) → AreRising xs → AreRising ys
    → ((m k : Member) → IsIn m xs → IsIn k ys → member_lt m k ≡ true) → AreRising (xs ++ ys)
rising-append [] ys a b across = b
rising-append (x ∷ xs) ys a b across = (
  λ k there. elim (in_parts xs ys k (contains_in k (xs ++ ys) there)) [
    | inl i ↦ a.0 k (in_contains k xs i)
    | inr i ↦ across x k (inl refl) i
  ],
  rising-append xs ys a.1 b (λ m k i j. across m k (inr i) j),
)

-- ---- the originals of one site

-- a member of the list is the original of the site with one of these numbers
pub record IsNumbered (s low high : ℕ) (m : Member) : Type 0 where
  pub number : ℕ
  pub is : m ≡ Original (record { site = s; number = number })
  pub from : low ≤ number
  pub below : number < high

in_numbers : (s f k : ℕ) (m : Member) → IsIn m (originals_from s f k) → IsNumbered s f (f + k) m
in_numbers s f zero m i = absurd i
in_numbers s f (suc k) m (inl e) = record { number = f; is = e; from = omega arith; below = omega arith }
in_numbers s f (suc k) m (inr i) =
    let r = in_numbers s (suc f) k m i in
    record { number = r.number; is = r.is; from = omega (arith, r.from); below = omega (arith, r.below) }

numbers_in : (s f k n : ℕ) → f ≤ n → n < f + k → IsIn (Original (record { site = s; number = n })) (originals_from s f k)
numbers_in s f zero n from below = absurd (omega (arith, from, below))
numbers_in s f (suc k) n from below = elim (cases_eq n f) [
  | inl e ↦ inl (ap (λ (x : ℕ). Original (record { site = s; number = x })) e)
  | inr ne ↦ inr (numbers_in s (suc f) k n (omega (arith, from, ne)) (omega (arith, below)))
]

numbers_rise : (s f k : ℕ) → AreRising (originals_from s f k)
numbers_rise s f zero = tt
numbers_rise s f (suc k) = (
  λ m there.
      let r = in_numbers s (suc f) k m (contains_in m (originals_from s (suc f) k) there) in
      subst (λ (x : Member). member_lt (Original (record { site = s; number = f })) x ≡ true) (sym r.is)
      (less f r.number (omega (arith, r.from))),
  numbers_rise s (suc f) k,
)
  where
    less : (a b : ℕ) → a < b → name_lt (record { site = s; number = a }) (record { site = s; number = b }) ≡ true
    less a b lt = grind (arith, nat_tests)

-- ---- the originals of all sites

abbrev all_originals : List (ℕ × ℕ) → List Member
all_originals ps = flat_map originals_of ps

-- a member of the list is an original of a site from `low` on, with a number up to the count of its site
pub record IsCounted (low : ℕ) (counts : List (ℕ × ℕ)) (m : Member) : Type 0 where
  pub name : NameData
  pub is : m ≡ Original name
  pub site : low ≤ name.site
  pub first : 1 ≤ name.number
  pub last : name.number ≤ count_in counts name.site

in_originals : (low : ℕ) (ps : List (ℕ × ℕ)) (m : Member) → AreCounts low ps → IsIn m (all_originals ps) → IsCounted low ps m
in_originals low [] m a i = absurd i
in_originals low (p ∷ ps) m a i = elim (in_parts (originals_of p) (all_originals ps) m i) [
  | inl here ↦
      let r = in_numbers p.0 1 p.1 m here in
      let count : count_in (p ∷ ps) p.0 ≡ p.1 = ap (λ (b : Bool). if b then p.1 else count_in ps p.0) (eq-eqb p.0 p.0 refl) in
      record {
        name = record { site = p.0; number = r.number };
        is = r.is;
        site = a.0;
        first = r.from;
        last = omega (arith, r.below, count);
      }
  | inr later ↦
      let r = in_originals (p.0 + 1) ps m a.4 later in
      let other : (p.0 == r.name.site) ≡ false = ne_eqb p.0 r.name.site (λ e. omega (arith, e, r.site)) in
      let count : count_in (p ∷ ps) r.name.site ≡ count_in ps r.name.site =
      ap (λ (b : Bool). if b then p.1 else count_in ps r.name.site) other in
      record { name = r.name; is = r.is; site = omega (arith, r.site, a.0); first = r.first; last = omega (arith, r.last, count) }
]

originals_in : (ps : List (ℕ × ℕ)) (n : NameData) → 1 ≤ n.number → n.number ≤ count_in ps n.site → IsIn (Original n) (all_originals ps)
originals_in [] n first last = absurd (omega (arith, first, last))
originals_in (p ∷ ps) n first last = elim (cases_Bool (p.0 == n.site)) [
  | inl same ↦
      let count : count_in (p ∷ ps) n.site ≡ p.1 = ap (λ (b : Bool). if b then p.1 else count_in ps n.site) same in
      let site : p.0 ≡ n.site = eqb-true p.0 n.site same in
      in_first (originals_of p) (all_originals ps) (Original n)
      (subst (λ (s : ℕ). IsIn (Original (record { site = s; number = n.number })) (originals_of p)) site
      (numbers_in p.0 1 p.1 n.number first (omega (arith, last, count))))
  | inr other ↦
      let count : count_in (p ∷ ps) n.site ≡ count_in ps n.site =
      ap (λ (b : Bool). if b then p.1 else count_in ps n.site) other in
      in_second (originals_of p) (all_originals ps) (Original n) (originals_in ps n first (omega (arith, last, count)))
]

originals_rise : (low : ℕ) (ps : List (ℕ × ℕ)) → AreCounts low ps → AreRising (all_originals ps)
originals_rise low [] a = tt
originals_rise low (p ∷ ps) a =
    rising-append (originals_of p) (all_originals ps) (numbers_rise p.0 1 p.1) (originals_rise (p.0 + 1) ps a.4) (λ m k i j.
    let r = in_numbers p.0 1 p.1 m i in
    let q = in_originals (p.0 + 1) ps k a.4 j in
    subst (λ (x : Member). member_lt x k ≡ true) (sym r.is)
    (subst (λ (x : Member). member_lt (Original (record { site = p.0; number = r.number })) x ≡ true) (sym q.is)
    (less (record { site = p.0; number = r.number }) q.name (omega (arith, q.site)))))
  where
    less : (a b : NameData) → a.site < b.site → name_lt a b ≡ true
    less a b lt = grind (arith, nat_tests)

-- ---- the groups of one name

-- a member of the list is the group of the name at one of these generations
pub record IsAt (n : NameData) (low high : ℕ) (m : Member) : Type 0 where
  pub generation : ℕ
  pub is : m ≡ Group n generation
  pub from : low ≤ generation
  pub below : generation < high

in_generations : (n : NameData) (f k : ℕ) (m : Member) → IsIn m (groups_from n f k) → IsAt n f (f + k) m
in_generations n f zero m i = absurd i
in_generations n f (suc k) m (inl e) = record { generation = f; is = e; from = omega arith; below = omega arith }
in_generations n f (suc k) m (inr i) =
    let r = in_generations n (suc f) k m i in
    record { generation = r.generation; is = r.is; from = omega (arith, r.from); below = omega (arith, r.below) }

generations_in : (n : NameData) (f k g : ℕ) → f ≤ g → g < f + k → IsIn (Group n g) (groups_from n f k)
generations_in n f zero g from below = absurd (omega (arith, from, below))
generations_in n f (suc k) g from below = elim (cases_eq g f) [
  | inl e ↦ inl (ap (λ (x : ℕ). Group n x) e)
  | inr ne ↦ inr (generations_in n (suc f) k g (omega (arith, from, ne)) (omega (arith, below)))
]

generations_rise : (n : NameData) (f k : ℕ) → AreRising (groups_from n f k)
generations_rise n f zero = tt
generations_rise n f (suc k) = (
  λ m there.
      let r = in_generations n (suc f) k m (contains_in m (groups_from n (suc f) k) there) in
      subst (λ (x : Member). member_lt (Group n f) x ≡ true) (sym r.is) (less f r.generation (omega (arith, r.from))),
  generations_rise n (suc f) k,
)
  where
    less : (a b : ℕ) → a < b → member_lt (Group n a) (Group n b) ≡ true
    less a b lt = grind (arith, nat_tests)

-- ---- the groups of all names

abbrev all_groups : List (NameData × ℕ) → List Member
all_groups es = flat_map groups_of es

-- a name before the first one is before all
before_all : (n : NameData) (es : List (NameData × ℕ)) (m : NameData) → AreEntries es → IsBefore n es → 1 ≤ entry_in es m
    → name_lt n m ≡ true
before_all n [] m a before some = absurd (omega (arith, some))
before_all n (e ∷ es) m a before some = elim (cases_Bool (name_eq e.0 m)) [
  | inl same ↦ subst (λ (x : NameData). name_lt n x ≡ true) (name_same e.0 m same) before
  | inr other ↦
      let entry : entry_in (e ∷ es) m ≡ entry_in es m = ap (λ (b : Bool). if b then e.1 else entry_in es m) other in
      name_transitive n e.0 m before (before_all e.0 es m a.4 a.3 (omega (arith, some, entry)))
]

-- a member of the list is a group of a name, up to the generation of its name
pub record IsEntered (entries : List (NameData × ℕ)) (m : Member) : Type 0 where
  pub name : NameData
  pub generation : ℕ
  pub is : m ≡ Group name generation
  pub first : 1 ≤ generation
  pub last : generation ≤ entry_in entries name

in_groups : (es : List (NameData × ℕ)) (m : Member) → AreEntries es → IsIn m (all_groups es) → IsEntered es m
in_groups [] m a i = absurd i
in_groups (e ∷ es) m a i = elim (in_parts (groups_of e) (all_groups es) m i) [
  | inl here ↦
      let r = in_generations e.0 1 e.1 m here in
      let entry : entry_in (e ∷ es) e.0 ≡ e.1 = ap (λ (b : Bool). if b then e.1 else entry_in es e.0) (name_itself e.0) in
      record { name = e.0; generation = r.generation; is = r.is; first = r.from; last = omega (arith, r.below, entry) }
  | inr later ↦
      let r = in_groups es m a.4 later in
      let less : name_lt e.0 r.name ≡ true = before_all e.0 es r.name a.4 a.3 (omega (arith, r.first, r.last)) in
      let entry : entry_in (e ∷ es) r.name ≡ entry_in es r.name =
      ap (λ (b : Bool). if b then e.1 else entry_in es r.name) (name_less_other e.0 r.name less) in
      record { name = r.name; generation = r.generation; is = r.is; first = r.first; last = omega (arith, r.last, entry) }
]

groups_in : (es : List (NameData × ℕ)) (n : NameData) (g : ℕ) → 1 ≤ g → g ≤ entry_in es n → IsIn (Group n g) (all_groups es)
groups_in [] n g first last = absurd (omega (arith, first, last))
groups_in (e ∷ es) n g first last = elim (cases_Bool (name_eq e.0 n)) [
  | inl same ↦
      let entry : entry_in (e ∷ es) n ≡ e.1 = ap (λ (b : Bool). if b then e.1 else entry_in es n) same in
      in_first (groups_of e) (all_groups es) (Group n g)
      (subst (λ (x : NameData). IsIn (Group x g) (groups_of e)) (name_same e.0 n same)
      (generations_in e.0 1 e.1 g first (omega (arith, last, entry))))
  | inr other ↦
      let entry : entry_in (e ∷ es) n ≡ entry_in es n = ap (λ (b : Bool). if b then e.1 else entry_in es n) other in
      in_second (groups_of e) (all_groups es) (Group n g) (groups_in es n g first (omega (arith, last, entry)))
]

groups_rise : (es : List (NameData × ℕ)) → AreEntries es → AreRising (all_groups es)
groups_rise [] a = tt
groups_rise (e ∷ es) a =
    rising-append (groups_of e) (all_groups es) (generations_rise e.0 1 e.1) (groups_rise es a.4) (λ m k i j.
    let r = in_generations e.0 1 e.1 m i in
    let q = in_groups es k a.4 j in
    let before : name_lt e.0 q.name ≡ true = before_all e.0 es q.name a.4 a.3 (omega (arith, q.first, q.last)) in
    subst (λ (x : Member). member_lt x k ≡ true) (sym r.is)
    (subst (λ (x : Member). member_lt (Group e.0 r.generation) x ≡ true) (sym q.is) (less e.0 q.name r.generation q.generation before)))
  where
    less : (a b : NameData) (g h : ℕ) → name_lt a b ≡ true → member_lt (Group a g) (Group b h) ≡ true
    less a b g h lt = grind (arith, nat_tests)

-- ---- all members

pub members_rise : (c : ContextData) → IsContext c → AreRising (members_of c)
members_rise c is =
    rising-append (all_originals c.counts) (all_groups c.entries) (originals_rise 0 c.counts is.counts) (groups_rise c.entries is.entries)
    (λ m k i j.
    let r = in_originals 0 c.counts m is.counts i in
    let q = in_groups c.entries k is.entries j in
    subst (λ (x : Member). member_lt x k ≡ true) (sym r.is)
    (subst (λ (x : Member). member_lt (Original r.name) x ≡ true) (sym q.is) refl))

pub listed_has : (c : ContextData) → IsContext c → (m : Member) → IsIn m (members_of c) → has c m ≡ true
listed_has c is m i = elim (in_parts (all_originals c.counts) (all_groups c.entries) m i) [
  | inl j ↦
      let r = in_originals 0 c.counts m is.counts j in
      ap (has c) r.is ∙ has_original c r.name r.first r.last
  | inr j ↦
      let r = in_groups c.entries m is.entries j in
      ap (has c) r.is ∙ has_group c r.name r.generation r.first r.last
]

pub has_listed : (c : ContextData) (m : Member) → has c m ≡ true → IsIn m (members_of c)
has_listed c (Original n) e =
    let r = original_counted c n e in
    in_first (all_originals c.counts) (all_groups c.entries) (Original n) (originals_in c.counts n r.0 r.1)
has_listed c (Group n g) e =
    let r = group_entered c n g e in
    in_second (all_originals c.counts) (all_groups c.entries) (Group n g) (groups_in c.entries n g r.0 r.1)

pub members_are_listed : MembersAreListed
members_are_listed h v =
    let c : ContextData = context_of_all h in
    let is : IsContext c = all_is_context h v in (
      members_rise c is,
      λ m. (
        λ there. sym ((complete h v).holds m) ∙ listed_has c is m (contains_in m (members_of c) there),
        λ known. in_contains m (members_of c) (has_listed c m ((complete h v).holds m ∙ known)),
      ),
    )
