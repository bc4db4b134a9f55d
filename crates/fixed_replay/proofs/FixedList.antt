-- The fixed list: all members of a family sorted by rank, site and generation. It is causal, and its inserts are in their
-- fixed order.
use Rattle.std.proofs.Common.{◌≡◌, ◌≢◌, ℕ, ◌<◌, Bool, true, false, nat_lt, ◌||◌, ◌&&◌, ◌==◌, List, [], ◌∷◌, ◌++◌, ◌⊎◌, inl, inr, refl, ap, sym, ◌∙◌, subst, subst₂, arith}
use Rattle.transform_rec.proofs.CallerLemmas.{in_left, in_right, IsRising, Forms, run, At, run_forms, any_order, sorted_run}
use Rattle.op_name.proofs.CallerLemmas.{member_cases}
use Rattle.std.proofs.lemmas.Bool.Decides.{nat_tests}
use Rattle.op_name.specs.NameData.{NameData}
use Rattle.op_name.specs.declared.member.Member.{Member}
use Rattle.op_name.specs.declared.member.Member.TheVariants.{Original, Group}
use Rattle.op_name.specs.Members.{target_of}
use Rattle.context_diff.specs.Replays.{Insertion, is_earlier, sort_by, replay}
use Rattle.ttf_form.specs.declared.ins.Ins.{Ins}
use Rattle.ttf_form.specs.declared.form.Form.{Form}
use Rattle.ttf_form.specs.declared.form.Form.TheVariants.{Ins as Insert, Cover as Covered}
use Rattle.ttf_form.specs.Forms.{ins_extent}
use Rattle.ttf_form.specs.Cells.{CellData, cells_of}
use Rattle.transform_rec.specs.Sets.{none}
use Rattle.transform_rec.specs.Lists.{IsIn, AreApart, SameElements}
use Rattle.transform_rec.specs.Family.{Family, IsCausalFamily}
use Rattle.transform_rec.specs.Derived.{IsFamily}
use Rattle.transform_rec.specs.Executing.{Setting, HasOwnNames, IsCausalFrom}
use Rattle.fixed_replay.proofs.Families.{HasRanks, HasGroups, generation_of, is_sooner}
use Rattle.fixed_replay.proofs.Elements.{not_both}
use Rattle.fixed_replay.proofs.Sorting.{AreComparable, in-sort_by, sort_by-in, sort_by-sorted, sorted_once}
use Rattle.fixed_replay.proofs.SameText.{earlier_asym, earlier_trans}
use Rattle.fixed_replay.specs.Insertions.{inserted_by, insertions_of}
use Rattle.fixed_replay.proofs.Editor.{form_inclusion, form_table, setting_of, insert_owner}
use Rattle.fixed_replay.proofs.Walk.{replay_along}

first_trans : (a b c : ℕ) (p q r : Bool) → (p ≡ true → q ≡ true → r ≡ true) → (nat_lt a b || ((a == b) && p)) ≡ true
    → (nat_lt b c || ((b == c) && q)) ≡ true → (nat_lt a c || ((a == c) && r)) ≡ true
first_trans a b c p q r f h k = grind (arith, nat_tests)

less_trans : (a b c : ℕ) → nat_lt a b ≡ true → nat_lt b c ≡ true → nat_lt a c ≡ true
less_trans a b c h k = grind (arith, nat_tests)

module _ (rank : NameData → ℕ) where
  pub sooner_asym : (x y : Member) → is_sooner rank x y ≡ true → is_sooner rank y x ≡ false
  sooner_asym x y h =
      keys_asym (rank (target_of x)) (rank (target_of y)) (target_of x).site (target_of y).site (generation_of x) (generation_of y) h
    where
      keys_asym : (a b s t g h : ℕ) → (nat_lt a b || ((a == b) && (nat_lt s t || ((s == t) && nat_lt g h)))) ≡ true
          → (nat_lt b a || ((b == a) && (nat_lt t s || ((t == s) && nat_lt h g)))) ≡ false
      keys_asym a b s t g h e = grind (arith, nat_tests)

  pub sooner_trans : (x y z : Member) → is_sooner rank x y ≡ true → is_sooner rank y z ≡ true → is_sooner rank x z ≡ true
  sooner_trans x y z h k =
      first_trans (rank (target_of x)) (rank (target_of y)) (rank (target_of z)) (behind x y) (behind y z) (behind x z)
      (first_trans (target_of x).site (target_of y).site (target_of z).site (nat_lt (generation_of x) (generation_of y))
      (nat_lt (generation_of y) (generation_of z)) (nat_lt (generation_of x) (generation_of z))
      (less_trans (generation_of x) (generation_of y) (generation_of z)))
      h k
    where
      behind : Member → Member → Bool
      behind u v =
          nat_lt (target_of u).site (target_of v).site
          || (((target_of u).site == (target_of v).site) && nat_lt (generation_of u) (generation_of v))

  sooner_by_rank : (x y : Member) → rank (target_of x) < rank (target_of y) → is_sooner rank x y ≡ true
  sooner_by_rank x y h =
      keys_by_rank (rank (target_of x)) (rank (target_of y))
      (nat_lt (target_of x).site (target_of y).site
      || (((target_of x).site == (target_of y).site) && nat_lt (generation_of x) (generation_of y))) h
    where
      keys_by_rank : (a b : ℕ) (r : Bool) → a < b → (nat_lt a b || ((a == b) && r)) ≡ true
      keys_by_rank a b r h = grind (arith, nat_tests)

  sooner_by_generation : (x y : Member) → target_of x ≡ target_of y → generation_of x < generation_of y → is_sooner rank x y ≡ true
  sooner_by_generation x y e h =
      keys_by_generation (rank (target_of x)) (rank (target_of y)) (target_of x).site (target_of y).site (generation_of x) (generation_of y)
      (ap rank e) (ap (λ (n : NameData). n.site) e) h
    where
      keys_by_generation : (a b s t g h : ℕ) → a ≡ b → s ≡ t → g < h
          → (nat_lt a b || ((a == b) && (nat_lt s t || ((s == t) && nat_lt g h)))) ≡ true
      keys_by_generation a b s t g h e f l = grind (arith, nat_tests)

  -- of two members with different keys one is sooner
  sooner_or : (x y : Member) → ((rank (target_of x) ≡ rank (target_of y)) → ((target_of x).site ≡ (target_of y).site)
      → generation_of x ≢ generation_of y) → (is_sooner rank x y ≡ true) ⊎ (is_sooner rank y x ≡ true)
  sooner_or x y h =
      keys_or (rank (target_of x)) (rank (target_of y)) (target_of x).site (target_of y).site (generation_of x) (generation_of y) h
    where
      keys_or : (a b s t g h : ℕ) → (a ≡ b → s ≡ t → g ≢ h)
          → ((nat_lt a b || ((a == b) && (nat_lt s t || ((s == t) && nat_lt g h)))) ≡ true)
          ⊎ ((nat_lt b a || ((b == a) && (nat_lt t s || ((t == s) && nat_lt h g)))) ≡ true)
      keys_or a b s t g h e = grind (arith, nat_tests)

module _ {F : Type 0} (b : Family F) (c : IsCausalFamily b) (rank : NameData → ℕ) (ranks : HasRanks b rank) (groups : HasGroups b) where
  target_listed : (x : Member) → IsIn x b.members → IsIn (Original (target_of x)) b.members
  target_listed (Original n) i = i
  target_listed (Group t g) i = c.listed (Group t g) (Original t) i (groups.target t g i)

  -- what an original sees is sooner
  original_kept : (n : NameData) (y : Member) → IsIn (Original n) b.members → b.context (Original n) y ≡ true → rank (target_of y) < rank n
  original_kept n (Original m) i h = ranks.grows n m i h
  original_kept n (Group t g) i h = ranks.grows n t i (groups.stray (Original n) t g i h)

  -- what a member sees is sooner
  pub sooner_kept : (x y : Member) → IsIn x b.members → b.context x y ≡ true → is_sooner rank y x ≡ true
  sooner_kept (Original n) y i h = sooner_by_rank rank y (Original n) (original_kept n y i h)
  sooner_kept (Group t g) y i h = by_part (groups.before t g y i h)
    where
      by_part : (b.context (Original t) y ≡ true) ⊎ ((y ≡ Original t) ⊎ ((k : ℕ) × (y ≡ Group t k) × (k < g)))
          → is_sooner rank y (Group t g) ≡ true
      by_part (inl e) = sooner_by_rank rank y (Group t g) (original_kept t y (target_listed (Group t g) i) e)
      by_part (inr (inl e)) =
          subst (λ (z : Member). is_sooner rank z (Group t g) ≡ true) (sym e)
          (sooner_by_generation rank (Original t) (Group t g) refl (groups.positive t g i))
      by_part (inr (inr k)) =
          subst (λ (z : Member). is_sooner rank z (Group t g) ≡ true) (sym k.1)
          (sooner_by_generation rank (Group t k.0) (Group t g) refl k.2)

  -- two members with the same rank, site and generation are one
  same_key : (x y : Member) → IsIn x b.members → IsIn y b.members → rank (target_of x) ≡ rank (target_of y)
      → (target_of x).site ≡ (target_of y).site → target_of x ≡ target_of y
  same_key x y i j r s = elim (member_cases (Original (target_of x)) (Original (target_of y))) [
    | inl e ↦ ap target_of e
    | inr ne ↦ absurd (ranks.apart (target_of x) (target_of y) (target_listed x i) (target_listed y j)
        (λ (e : target_of x ≡ target_of y). ne (ap Original e)) r s)
  ]

  same_member : (x y : Member) → IsIn x b.members → IsIn y b.members → target_of x ≡ target_of y → generation_of x ≡ generation_of y → x ≡ y
  same_member (Original n) (Original m) i j e g = ap Original e
  same_member (Original n) (Group t k) i j e g = let p = groups.positive t k j in absurd (omega arith)
  same_member (Group t k) (Original n) i j e g = let p = groups.positive t k i in absurd (omega arith)
  same_member (Group t k) (Group u l) i j e g = λ o. Group (e o) (g o)

  members_comparable : (xs : List Member) → ((x : Member) → IsIn x xs → IsIn x b.members) → AreApart xs → AreComparable (is_sooner rank) xs
  members_comparable [] l a = tt
  members_comparable (x ∷ xs) l a = (
    λ z i. sooner_or rank x z (λ r s g.
        a.0 z i (same_member x z (l x (inl refl)) (l z (inr i)) (same_key x z (l x (inl refl)) (l z (inr i)) r s) g)),
    members_comparable xs (λ z i. l z (inr i)) a.1,
  )

  abbrev pub fixed_list : List Member
  fixed_list = sort_by (is_sooner rank) b.members

  pub fixed_rising : IsRising (is_sooner rank) fixed_list
  fixed_rising =
      sort_by-sorted (is_sooner rank) (sooner_asym rank) (sooner_trans rank) b.members (members_comparable b.members (λ z i. i) c.distinct)

  pub fixed_same : SameElements fixed_list b.members
  fixed_same = record { forth = λ z i. in-sort_by (is_sooner rank) z b.members i; back = λ z i. sort_by-in (is_sooner rank) z b.members i }

  pub fixed_run : IsCausalFrom b none fixed_list
  fixed_run =
      sorted_run b c (is_sooner rank) (λ x y h k. not_both k (sooner_asym rank x y h)) sooner_kept fixed_list fixed_rising fixed_same

-- an insertion of the list with the member that it is of
pub record IsInserted (b : Family Form) (rank : NameData → ℕ) (xs : List Member) (i : Insertion) : Type 0 where
  pub member : Member
  pub ins : Ins
  pub there : IsIn member xs
  pub form : b.form member ≡ Insert ins
  pub is : i ≡ record {
    name = ins.name;
    place = ins.place;
    len = ins_extent ins;
    rank = rank (target_of member);
    sees =
        λ n. b.context member (Original n);
  }

inserted_first : (b : Family Form) (rank : NameData → ℕ) (x : Member) (xs : List Member) (i : Insertion) (f : Form) → b.form x ≡ f
    → (IsIn i (insertions_of b rank xs) → IsInserted b rank xs i)
    → IsIn i (inserted_by f (rank (target_of x)) (λ n. b.context x (Original n)) ++ insertions_of b rank xs) → IsInserted b rank (x ∷ xs) i
inserted_first b rank x xs i (Insert a) e ih (inl p) = record { member = x; ins = a; there = inl refl; form = e; is = p }
inserted_first b rank x xs i (Insert a) e ih (inr j) =
    let r = ih j in record { member = r.member; ins = r.ins; there = inr r.there; form = r.form; is = r.is }
inserted_first b rank x xs i (Covered c) e ih j =
    let r = ih j in record { member = r.member; ins = r.ins; there = inr r.there; form = r.form; is = r.is }

pub in-insertions_of : (b : Family Form) (rank : NameData → ℕ) (xs : List Member) (i : Insertion) → IsIn i (insertions_of b rank xs)
    → IsInserted b rank xs i
in-insertions_of b rank [] i j = absurd j
in-insertions_of b rank (x ∷ xs) i j = inserted_first b rank x xs i (b.form x) refl (in-insertions_of b rank xs i) j

pub insertions_of-in : (b : Family Form) (rank : NameData → ℕ) (xs : List Member) (x : Member) (a : Ins) → IsIn x xs → b.form x ≡ Insert a
    → IsIn (record { name = a.name; place = a.place; len = ins_extent a; rank = rank (target_of x); sees = λ n. b.context x (Original n) })
    (insertions_of b rank xs)
insertions_of-in b rank [] x a i e = absurd i
insertions_of-in b rank (y ∷ ys) x a (inl p) e =
    in_left _ (inserted_by (b.form y) (rank (target_of y)) (λ n. b.context y (Original n))) (insertions_of b rank ys)
    (subst (λ (z : Member). IsIn (record
    { name = a.name; place = a.place; len = ins_extent a; rank = rank (target_of x); sees = λ n. b.context x (Original n) })
    (inserted_by (b.form z) (rank (target_of z)) (λ n. b.context z (Original n)))) p (rw e (inl refl)))
insertions_of-in b rank (y ∷ ys) x a (inr i) e =
    in_right _ (inserted_by (b.form y) (rank (target_of y)) (λ n. b.context y (Original n))) (insertions_of b rank ys)
    (insertions_of-in b rank ys x a i e)

module _ (b : Family Form) (known : IsFamily form_inclusion b) (own_names : HasOwnNames form_table b) (rank : NameData → ℕ)
    (ranks : HasRanks b rank) (groups : HasGroups b) where
  abbrev w : Setting Form (List CellData)
  w = setting_of b known own_names

  keys_earlier : (k l s t : ℕ) → (nat_lt k l || ((k == l) && (nat_lt s t || ((s == t) && nat_lt 0 0)))) ≡ true
      → (nat_lt k l || ((k == l) && nat_lt s t)) ≡ true
  keys_earlier k l s t h = grind (arith, nat_tests)

  -- sorted members have sorted inserts
  earlier_from : (i j : Insertion) (x y : Member) (a d : Ins) → IsIn x b.members → IsIn y b.members → b.form x ≡ Insert a
      → b.form y ≡ Insert d
      → i ≡ record { name = a.name; place = a.place; len = ins_extent a; rank = rank (target_of x); sees = λ n. b.context x (Original n) }
      → j ≡ record { name = d.name; place = d.place; len = ins_extent d; rank = rank (target_of y); sees = λ n. b.context y (Original n) }
      → is_sooner rank x y ≡ true → is_earlier i j ≡ true
  earlier_from i j x y a d l m e f p q h =
      let x_is = insert_owner b own_names x a l e in
      let y_is = insert_owner b own_names y d m f in
      let keys : is_sooner rank (Original a.name) (Original d.name) ≡ true =
      subst₂ (λ (u v : Member). is_sooner rank u v ≡ true) x_is y_is h in
      let named : (nat_lt (rank a.name) (rank d.name) || ((rank a.name == rank d.name) && nat_lt a.name.site d.name.site)) ≡ true =
      keys_earlier (rank a.name) (rank d.name) a.name.site d.name.site keys in
      subst₂ (λ (u v : Insertion). is_earlier u v ≡ true) (sym p) (sym q)
      (subst₂ (λ (u v : Member). (nat_lt (rank (target_of u)) (rank (target_of v))
      || ((rank (target_of u) == rank (target_of v)) && nat_lt a.name.site d.name.site)) ≡ true) (sym x_is) (sym y_is) named)

  rising_first : (x : Member) (xs : List Member) (f : Form) → b.form x ≡ f → ((z : Member) → IsIn z (x ∷ xs) → IsIn z b.members)
      → IsRising (is_sooner rank) (x ∷ xs) → IsRising is_earlier (insertions_of b rank xs)
      → IsRising is_earlier (inserted_by f (rank (target_of x)) (λ n. b.context x (Original n)) ++ insertions_of b rank xs)
  rising_first x xs (Insert a) e l r ih = (
    λ z i. let q =
        in-insertions_of b rank xs z i in
        earlier_from (record {
          name = a.name;
          place = a.place;
          len = ins_extent a;
          rank = rank (target_of x);
          sees =
              λ n. b.context x (Original n);
        }) z x
        q.member a q.ins (l x (inl refl)) (l q.member (inr q.there)) e q.form refl q.is (r.0 q.member q.there),
    ih,
  )
  rising_first x xs (Covered c) e l r ih = ih

  pub rising_inserts : (xs : List Member) → ((z : Member) → IsIn z xs → IsIn z b.members) → IsRising (is_sooner rank) xs
      → IsRising is_earlier (insertions_of b rank xs)
  rising_inserts [] l r = tt
  rising_inserts (x ∷ xs) l r = rising_first x xs (b.form x) refl l r (rising_inserts xs (λ z i. l z (inr i)) r.1)

  moved_inserts : (xs ys : List Member) → ((z : Member) → IsIn z xs → IsIn z ys) → (i : Insertion) → IsIn i (insertions_of b rank xs)
      → IsIn i (insertions_of b rank ys)
  moved_inserts xs ys h i j =
      let r = in-insertions_of b rank xs i j in
      subst (λ (o : Insertion). IsIn o (insertions_of b rank ys)) (sym r.is)
      (insertions_of-in b rank ys r.member r.ins (h r.member r.there) r.form)

  -- the replay of the inserts in their fixed order gives the cells of the forms executed along the family's list
  pub fixed_cells : (zs : List Insertion) → IsRising is_earlier zs → SameElements zs (insertions_of b rank b.members) → (fs : List Form)
      → At w none [] → Forms w none b.members fs → replay [] [] zs ≡ cells_of (run w [] fs)
  fixed_cells zs rising same fs st df =
      let list = fixed_list b known.causal rank ranks groups in
      let list_same = fixed_same b known.causal rank ranks groups in
      let gs = run_forms w list none (fixed_run b known.causal rank ranks groups) in
      let order = any_order w b.members list none [] fs gs.0 st (record { forth = list_same.back; back = list_same.forth }) df gs.1 in
      let inserts : zs ≡ insertions_of b rank list = sorted_once is_earlier earlier_asym earlier_trans zs (insertions_of b rank list) rising
      (rising_inserts list list_same.forth (fixed_rising b known.causal rank ranks groups))
      (record {
        forth = λ z i. moved_inserts b.members list list_same.back z (same.forth z i);
        back =
            λ z i. same.back z (moved_inserts list b.members list_same.forth z i);
      }) in
      ap (replay [] []) inserts ∙ (replay_along b known own_names rank list gs.0 st gs.1 ∙ ap cells_of (sym order))
