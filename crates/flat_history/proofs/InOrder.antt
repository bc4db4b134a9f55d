-- The replay of a valid history's inserts in their own order, whatever their ranks: it gives the same cells.
use Rattle.std.proofs.Common.{◌≡◌, ℕ, zero, suc, Bool, true, false, List, [], ◌∷◌, ◌++◌, if◌then◌else◌, filter, length, inl, inr, refl, ap, ap₂, sym, ◌∙◌, append_assoc, append-nil}
use Rattle.op_name.specs.NameData.{NameData}
use Rattle.op_name.specs.declared.member.Member.TheVariants.{Original, Group}
use Rattle.context_vector.specs.Contexts.{ContextData, has}
use Rattle.context_diff.specs.Operations.{OpData, inserting, deleting, undoing}
use Rattle.context_diff.specs.Histories.{members_in, is_known, IsValid}
use Rattle.context_diff.specs.Gaps.{Gap}
use Rattle.context_diff.specs.Replays.{Cell, Insertion, run_of, cells_from, narrow_over, narrowed_by, narrowed, gap_of, put, replay, replay_of, seen}
use Rattle.std.specs.Prelude.{nat_lt}
use Rattle.std.proofs.lemmas.Bool.{or_left, or_right}
use Rattle.op_name.specs.Members.{member_eq}
use Rattle.context_diff.proofs.CallerLemmas.{member_itself}
use Rattle.ttf_form.specs.declared.form.Form.{Form}
use Rattle.ttf_form.specs.declared.form.Form.TheVariants.{Ins as Insert, Cover as Covered}
use Rattle.ttf_form.specs.Families.{IsIn}
use Rattle.transform_rec.specs.Sets.{none}
use Rattle.transform_rec.specs.Family.{Family}
use Rattle.ttf_form.specs.Forms.{form_over}
use Rattle.transform_rec.specs.Histories.{family_in}
use Rattle.transform_rec.proofs.CallerLemmas.{computed_forms, filter-append}
use Rattle.undo_group.specs.BaseForms.{AreBaseForms, base_form, group_form, original_form}
use Rattle.undo_group.specs.Laws.Forms.{base_forms_hold}
use Rattle.undo_group.specs.Laws.Inserts.{context_of_original}
use Rattle.fixed_replay.specs.Insertions.{inserted_by, insertions_of}
use Rattle.fixed_replay.proofs.CallerLemmas.{computed_executed, executed_replayed, gap_of_whole, any_list_replayed}

-- an insert without its rank
abbrev pub insertion : NameData → ℕ → List ℕ → ContextData → Insertion
insertion n p text c = record { name = n; place = p; len = length text; rank = 0; sees = λ m. has c (Original m) }

-- the inserts of a history in its order, without their ranks
abbrev pub in_order : List OpData → List Insertion
in_order [] = []
in_order (inserting n p text c ∷ os) = insertion n p text c ∷ in_order os
in_order (deleting n p c ∷ os) = in_order os
in_order (undoing a t g c ∷ os) = in_order os

pub in_order-append : (h l : List OpData) → in_order (h ++ l) ≡ in_order h ++ in_order l
in_order-append [] l = refl
in_order-append (inserting n p text c ∷ os) l = ap (λ (xs : List Insertion). insertion n p text c ∷ xs) (in_order-append os l)
in_order-append (deleting n p c ∷ os) l = in_order-append os l
in_order-append (undoing a t g c ∷ os) l = in_order-append os l

-- each is of an operation of the history
pub in_order_known : (os : List OpData) (x : Insertion) → IsIn x (in_order os) → is_known os (Original x.name) ≡ true
in_order_known [] x i = absurd i
in_order_known (inserting n p text c ∷ os) x (inl e) =
    or_left (member_eq (Original n) (Original x.name)) (is_known os (Original x.name))
    (ap (λ (y : Insertion). member_eq (Original n) (Original y.name)) e ∙ member_itself (Original n))
in_order_known (inserting n p text c ∷ os) x (inr i) =
    or_right (member_eq (Original n) (Original x.name)) (is_known os (Original x.name)) (in_order_known os x i)
in_order_known (deleting n p c ∷ os) x i =
    or_right (member_eq (Original n) (Original x.name)) (is_known os (Original x.name)) (in_order_known os x i)
in_order_known (undoing a t g c ∷ os) x i = in_order_known os x i

-- and what each sees is a context of an operation of the history
pub in_order_sees : (os : List OpData) (x : Insertion) → IsIn x (in_order os)
    → (n : NameData) × (p : ℕ) × (text : List ℕ) × (c : ContextData) × IsIn (inserting n p text c) os × (x ≡ insertion n p text c)
in_order_sees [] x i = absurd i
in_order_sees (inserting n p text c ∷ os) x (inl e) = (n, p, text, c, inl refl, e)
in_order_sees (inserting n p text c ∷ os) x (inr i) = let r = in_order_sees os x i in (r.0, r.1, r.2, r.3, inr r.4, r.5)
in_order_sees (deleting n p c ∷ os) x i = let r = in_order_sees os x i in (r.0, r.1, r.2, r.3, inr r.4, r.5)
in_order_sees (undoing a t g c ∷ os) x i = let r = in_order_sees os x i in (r.0, r.1, r.2, r.3, inr r.4, r.5)

-- ---- what the members of a history insert

group_inserts : (f : Form) (t : NameData) (g rank : ℕ) (sees : NameData → Bool) → inserted_by (group_form f t g) rank sees ≡ []
group_inserts (Insert a) t g rank sees = refl
group_inserts (Covered c) t g rank sees = refl

module _ (h : List OpData) (v : IsValid h) where
  abbrev b : Family Form
  b = family_in h (base_form h)

  forms : AreBaseForms h (base_form h)
  forms = base_forms_hold h v

  -- what a member sees
  abbrev sees_of : NameData → NameData → Bool
  sees_of n m = b.context (Original n) (Original m)

  insert_is : (n : NameData) (p : ℕ) (text : List ℕ) (c : ContextData) → IsIn (inserting n p text c) h
      → inserted_by (b.form (Original n)) 0 (sees_of n) ≡ insertion n p text c ∷ []
  insert_is n p text c i =
      let f = forms.inserts n p text c i in
      let sees : (m : NameData) → sees_of n m ≡ has c (Original m) =
      λ m. context_of_original h v (inserting n p text c) n i refl (Original m) in
      ap (λ (x : Form). inserted_by x 0 (sees_of n)) f.is
      ∙ (λ j. record { name = f.name j; place = f.place j; len = f.len j; rank = 0; sees = λ m. sees m j } ∷ [])

  delete_is : (n : NameData) (p : ℕ) (c : ContextData) → IsIn (deleting n p c) h → inserted_by (b.form (Original n)) 0 (sees_of n) ≡ []
  delete_is n p c i = ap (λ (x : Form). inserted_by x 0 (sees_of n)) (forms.deletes n p c i).is

  pub in_order_is : (os : List OpData) → ((o : OpData) → IsIn o os → IsIn o h) → insertions_of b (λ n. 0) (members_in os) ≡ in_order os
  in_order_is [] all = refl
  in_order_is (inserting n p text c ∷ os) all =
      ap₂ (λ (xs ys : List Insertion). xs ++ ys) (insert_is n p text c (all (inserting n p text c) (inl refl)))
      (in_order_is os (λ o i. all o (inr i)))
  in_order_is (deleting n p c ∷ os) all =
      ap₂ (λ (xs ys : List Insertion). xs ++ ys) (delete_is n p c (all (deleting n p c) (inl refl)))
      (in_order_is os (λ o i. all o (inr i)))
  in_order_is (undoing a t g c ∷ os) all =
      ap₂ (λ (xs ys : List Insertion). xs ++ ys)
      (group_inserts (original_form h t) t g 0 (λ (m : NameData). b.context (Group t g) (Original m)))
      (in_order_is os (λ o i. all o (inr i)))

  -- the replay in the history's own order is its fixed replay
  pub replayed_in_order : replay [] [] (in_order h) ≡ replay_of h
  replayed_in_order =
      let fs = computed_forms form_over b (members_in h) none in
      let df = computed_executed h v (base_form h) forms in
      ap (replay [] []) (sym (in_order_is h (λ o i. i)))
      ∙ (any_list_replayed h (base_form h) (λ n. 0) (members_in h) fs v forms df
      ∙ (executed_replayed h v (base_form h) forms fs df).cells)

-- ---- replays one after the other

pub replay-append : (earlier : List Insertion) (cells : List Cell) (os ps : List Insertion)
    → replay earlier cells (os ++ ps) ≡ replay (earlier ++ os) (replay earlier cells os) ps
unfolding replay
replay-append earlier cells [] ps = ap (λ (es : List Insertion). replay es cells ps) (sym (append-nil earlier))
replay-append earlier cells (o ∷ os) ps =
    replay-append (earlier ++ o ∷ []) (put o earlier cells) os ps
    ∙ ap (λ (es : List Insertion). replay es (replay (earlier ++ o ∷ []) (put o earlier cells) os) ps) (append_assoc earlier (o ∷ []) os)

-- the replay of a longer history is that of the shorter one, and then the inserts that came
pub replay_later : (h l : List OpData) → IsValid h → IsValid (h ++ l)
    → replay_of (h ++ l) ≡ replay (in_order h) (replay_of h) (in_order l)
replay_later h l v w =
    sym (replayed_in_order (h ++ l) w)
    ∙ (ap (replay [] []) (in_order-append h l)
    ∙ (replay-append [] [] (in_order h) (in_order l)
    ∙ ap (λ (cells : List Cell). replay (in_order h) cells (in_order l)) (replayed_in_order h v)))

-- ---- what an insert sees narrows nothing

narrowed_by_seen : (o x : Insertion) (g : Gap Cell) → o.sees x.name ≡ true → narrowed_by o x g ≡ g
narrowed_by_seen o x g e = ap (λ (b : Bool). if b then g else narrow_over (nat_lt x.name.site o.name.site) x g) e

narrowed_past : (o : Insertion) (xs ys : List Insertion) (g : Gap Cell) → ((x : Insertion) → IsIn x xs → o.sees x.name ≡ true)
    → narrowed o (xs ++ ys) g ≡ narrowed o ys g
unfolding narrowed
narrowed_past o [] ys g all = refl
narrowed_past o (x ∷ xs) ys g all =
    ap (narrowed o (xs ++ ys)) (narrowed_by_seen o x g (all x (inl refl))) ∙ narrowed_past o xs ys g (λ z i. all z (inr i))

-- each of these inserts sees all of the others
abbrev pub SeeAll : List Insertion → List Insertion → Type 0
SeeAll os xs = (o x : Insertion) → IsIn o os → IsIn x xs → o.sees x.name ≡ true

put_past : (o : Insertion) (xs ys zs : List Insertion) (cells : List Cell) → ((x : Insertion) → IsIn x xs → o.sees x.name ≡ true)
    → ((y : Insertion) → IsIn y ys → o.sees y.name ≡ true) → put o (xs ++ zs) cells ≡ put o (ys ++ zs) cells
unfolding narrowed
put_past o xs ys zs cells seen_x seen_y =
    let e : gap_of o (xs ++ zs) cells ≡ gap_of o (ys ++ zs) cells =
    narrowed_past o xs zs _ seen_x ∙ sym (narrowed_past o ys zs _ seen_y) in
    ap (λ (g : Gap Cell). g.before ++ (g.between ++ (cells_from o ++ g.behind))) e

-- inserts that see all earlier ones are put alike, whichever these are
pub replay_past : (xs ys zs : List Insertion) (cells : List Cell) (os : List Insertion) → SeeAll os xs → SeeAll os ys
    → replay (xs ++ zs) cells os ≡ replay (ys ++ zs) cells os
unfolding replay
replay_past xs ys zs cells [] all_x all_y = refl
replay_past xs ys zs cells (o ∷ os) all_x all_y =
    let one = put_past o xs ys zs cells (λ x i. all_x o x (inl refl) i) (λ y i. all_y o y (inl refl) i) in
    let next = put o (ys ++ zs) cells in
    ap₂ (λ (es : List Insertion) (cs : List Cell). replay es cs os) (append_assoc xs zs (o ∷ [])) one
    ∙ (replay_past xs ys (zs ++ o ∷ []) next os (λ p x i j. all_x p x (inr i) j) (λ p y i j. all_y p y (inr i) j)
    ∙ ap (λ (es : List Insertion). replay es next os) (sym (append_assoc ys zs (o ∷ []))))

-- ---- cells that come later, among those that a context sees

run_unseen : (sees : NameData → Bool) (n : NameData) (first k : ℕ) → sees n ≡ false → seen sees (run_of n first k) ≡ []
run_unseen sees n first zero e = refl
run_unseen sees n first (suc k) e = rw e (run_unseen sees n (suc first) k e)

filter_out : (p : Cell → Bool) (a b n c : List Cell) → filter p n ≡ [] → filter p (a ++ (b ++ (n ++ c))) ≡ filter p (a ++ (b ++ c))
filter_out p a b n c e =
    filter-append p a (b ++ (n ++ c))
    ∙ (ap (λ (xs : List Cell). filter p a ++ xs)
    (filter-append p b (n ++ c)
    ∙ (ap (λ (xs : List Cell). filter p b ++ xs) (filter-append p n c ∙ ap (λ (xs : List Cell). xs ++ filter p c) e)
    ∙ sym (filter-append p b c)))
    ∙ sym (filter-append p a (b ++ c)))

put_unseen : (sees : NameData → Bool) (o : Insertion) (earlier : List Insertion) (cells : List Cell) → sees o.name ≡ false
    → seen sees (put o earlier cells) ≡ seen sees cells
put_unseen sees o earlier cells e =
    let g = gap_of o earlier cells in
    filter_out (λ d. sees d.0) g.before g.between (cells_from o) g.behind (run_unseen sees o.name 0 o.len e)
    ∙ ap (seen sees) (gap_of_whole o earlier cells)

-- the cells of inserts that a context hasn't aren't seen
pub replay_unseen : (sees : NameData → Bool) (earlier : List Insertion) (cells : List Cell) (os : List Insertion)
    → ((o : Insertion) → IsIn o os → sees o.name ≡ false) → seen sees (replay earlier cells os) ≡ seen sees cells
unfolding replay
replay_unseen sees earlier cells [] out = refl
replay_unseen sees earlier cells (o ∷ os) out =
    replay_unseen sees (earlier ++ o ∷ []) (put o earlier cells) os (λ p i. out p (inr i))
    ∙ put_unseen sees o earlier cells (out o (inl refl))
