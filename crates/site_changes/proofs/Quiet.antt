-- A cell that no later operation touched is shown exactly if it was.
use Rattle.std.proofs.Common.{◌≡◌, ℕ, zero, suc, max, Bool, true, List, [], ◌∷◌, ◌++◌, take, drop, inl, inr, refl, ap, ap₂, sym, ◌∙◌, subst, arith, take-append-drop}
use Rattle.std.specs.Prelude.{Some, None, slice_get, ◌&&◌, ◌||◌, not}
use Rattle.std.specs.List.{list_any}
use Rattle.std.proofs.lemmas.Bool.{cases_Bool}
use Rattle.op_name.specs.NameData.{NameData, name_eq}
use Rattle.op_name.specs.declared.member.Member.TheVariants.{Original}
use Rattle.op_name.specs.Members.{is_even, target_of}
use Rattle.op_name.proofs.CallerLemmas.{name_same}
use Rattle.context_vector.specs.Contexts.{ContextData, has, entry_of}
use Rattle.context_diff.specs.Operations.{OpData, inserting, deleting, undoing, member_of}
use Rattle.context_diff.specs.Histories.{context_of_all, generation_in, IsValid}
use Rattle.context_diff.specs.Replays.{Cell}
use Rattle.context_diff.proofs.CallerLemmas.{generation_is, holder}
use Rattle.ttf_form.specs.Cells.{CellData, cell_key, cell_shown, cells_of}
use Rattle.ttf_form.specs.Families.{IsIn}
use Rattle.undo_group.specs.Laws.Members.{contains_in, in_contains, known_as}
use Rattle.transform_rec.proofs.CallerLemmas.{in_cases}
use Rattle.fixed_replay.specs.Replayed.{IsReplayed}
use Rattle.touched_cells.specs.Touched.{name_touched, Bears, ArePlacesTouched}
use Rattle.site_changes.specs.Code.Marks.{is_in_force_at, was_shown, IsQuietBut}
use Rattle.site_changes.proofs.Apart.{replay_known}
use Rattle.site_changes.proofs.ShownBefore.{first_valid, holds}

-- ---- lists

any_alike : {A : Type 0} (p q : A → Bool) (xs : List A) → ((x : A) → IsIn x xs → p x ≡ q x) → list_any p xs ≡ list_any q xs
any_alike p q [] h = refl
any_alike p q (x ∷ xs) h = ap₂ (λ (a b : Bool). a || b) (h x (inl refl)) (any_alike p q xs (λ y i. h y (inr i)))

key_in : (d : CellData) (ds : List CellData) → IsIn d ds → IsIn (cell_key d) (cells_of ds)
key_in d [] i = absurd i
key_in d (x ∷ xs) (inl e) = inl (ap cell_key e)
key_in d (x ∷ xs) (inr i) = inr (key_in d xs i)

got_in : (ds : List CellData) (p : ℕ) (d : CellData) → slice_get ds p ≡ Some d → IsIn d ds
got_in [] p d e = let none : None ≡ Some d = e in cc
got_in (x ∷ xs) zero d e = let is : x ≡ d = cc in inl (sym is)
got_in (x ∷ xs) (suc p) d e = inr (got_in xs p d e)

-- ---- generations

pub generation-append : (k r : List OpData) (t : NameData) → generation_in (k ++ r) t ≡ max (generation_in k t) (generation_in r t)
generation-append [] r t = omega arith
generation-append (o ∷ os) r t = rw (generation-append os r t) (omega arith)

-- operations that touch nothing of a name neither undo nor redo it
no_generation : (r : List OpData) (t : NameData) → ((o : OpData) → IsIn o r → name_touched o ≡ t → ⊥) → generation_in r t ≡ 0
no_generation [] t none = refl
no_generation (inserting n p text c ∷ os) t none = let rest = no_generation os t (λ o i. none o (inr i)) in omega arith
no_generation (deleting n p c ∷ os) t none = let rest = no_generation os t (λ o i. none o (inr i)) in omega arith
no_generation (undoing a n g c ∷ os) t none =
    let rest = no_generation os t (λ o i. none o (inr i)) in
    elim (cases_Bool (name_eq n t)) [
      | inl e ↦ absurd (none (undoing a n g c) (inl refl) (name_same n t e))
      | inr e ↦ rw e (omega arith)
    ]

-- ---- cells

module _ (k r : List OpData) (v : IsValid (k ++ r)) (cs : List CellData) (re : IsReplayed (k ++ r) cs) where
  abbrev at : ContextData
  at = context_of_all k

  -- what the later operations don't touch is as the first ones left it
  entry_is : (t : NameData) → ((o : OpData) → IsIn o r → name_touched o ≡ t → ⊥) → entry_of at t ≡ generation_in (k ++ r) t
  entry_is t none =
      let whole = generation-append k r t in
      let rest = no_generation r t none in
      let first = generation_is k (first_valid k r v) t in
      omega arith

  there : (o : OpData) (n : NameData) → member_of o ≡ Original n → IsIn o (k ++ r) → ((q : OpData) → IsIn q r → name_touched q ≡ n → ⊥)
      → has at (Original n) ≡ true
  there o n is i none = elim (in_cases o k r i) [
    | inl j ↦ holds k r v (Original n) ∙ known_as o (Original n) k j is
    | inr j ↦ absurd (none o j (ap target_of is))
  ]

  module _ (d : CellData) (i : IsIn d cs) (free : (o : OpData) → IsIn o r → Bears d (name_touched o) → ⊥) where
    no_name : (o : OpData) → IsIn o r → name_touched o ≡ d.name → ⊥
    no_name o j e = free o j (inl (sym e))

    no_deleter : (e : NameData × ℕ) → IsIn e d.deleters → (o : OpData) → IsIn o r → name_touched o ≡ e.0 → ⊥
    no_deleter e a o j is = free o j (inr (e.1, subst (λ (n : NameData). IsIn (n, e.1) d.deleters) (sym is) a))

    force_is : is_in_force_at at d.name ≡ is_even d.generation
    force_is =
        let known = replay_known (k ++ r) v (cell_key d) (subst (λ (ks : List Cell). IsIn (cell_key d) ks) re.cells (key_in d cs i)) in
        let held = holder (k ++ r) (Original d.name) known in
        let its = there held.op d.name held.is (contains_in held.op (k ++ r) held.there) no_name in
        ap₂ (λ (a : Bool) (g : ℕ). a && is_even g) its (entry_is d.name no_name ∙ sym (re.generations d i))

    deleter_is : (e : NameData × ℕ) → IsIn e d.deleters → is_in_force_at at e.0 ≡ is_even e.1
    deleter_is e a =
        let listed = (re.deleters d i e.0 e.1).0 a in
        let o = deleting e.0 listed.0.place listed.0.context in
        let its = there o e.0 refl listed.0.there (no_deleter e a) in
        ap₂ (λ (b : Bool) (g : ℕ). b && is_even g) its (entry_is e.0 (no_deleter e a) ∙ sym listed.1)

    pub untouched : was_shown at d ≡ cell_shown d
    untouched =
        ap₂ (λ (a b : Bool). a && not b) force_is
        (any_alike (λ e. is_in_force_at at e.0) (λ e. is_even e.1) d.deleters deleter_is)

-- where all cells that the later operations touched stand at some of the places, all others are shown exactly if they were
pub quiet_but : (h : List OpData) → IsValid h → (n : ℕ) (cs : List CellData) → IsReplayed h cs → (ps : List ℕ) → ArePlacesTouched h n cs ps
    → IsQuietBut (context_of_all (take n h)) cs ps
quiet_but h v n cs re ps are p d at out =
    let whole = take-append-drop n h in
    untouched (take n h) (drop n h) (subst IsValid (sym whole) v) cs (subst (λ (x : List OpData). IsReplayed x cs) (sym whole) re) d
    (got_in cs p d at)
    (λ o i b. out ((are.exact p).1 (record {
      op = o;
      late = in_contains o (drop n h) i;
      bearer = record { cell = d; there = at; bears = b };
    })))
