-- A checkpoint is opened as a valid history, whose members are what it tells.
use Rattle.std.proofs.Common.{◌≡◌, ℕ, zero, suc, ◌+◌, ◌≤◌, Bool, true, false, inl, inr, List, [], ◌∷◌, ◌++◌, length, if◌then◌else◌, refl, ap, ap₂, sym, ◌∙◌, subst, subst₂, arith, append_assoc, append-nil}
use Rattle.std.specs.Prelude.{◌==◌, ◌&&◌, nat_le}
use Rattle.std.proofs.lemmas.Bool.{false≢true, false_from_ne_true, cases_Bool, eq-eqb}
use Rattle.std.proofs.lemmas.Bool.Decides.{nat_tests}
use Rattle.op_name.specs.declared.member.TheConstants.{GENERATIONS}
use Rattle.op_name.specs.declared.member.Member.{Member}
use Rattle.op_name.specs.declared.member.Member.TheVariants.{Original, Group}
use Rattle.op_name.specs.NameData.{NameData, IsName, IsBefore, name_eq, name_lt}
use Rattle.op_name.proofs.CallerLemmas.{name_itself, name_same, name_transitive, name_less_other}
use Rattle.context_vector.specs.Contexts.{ContextData, HasNoStray, AreEntries, has, count_in, count_of, entry_in, entry_of, empty, raised}
use Rattle.context_vector.proofs.CallerLemmas.{entry_put}
use Rattle.context_diff.specs.declared.op.TheConstants.{UNDO_ENTRIES}
use Rattle.context_diff.specs.Operations.{OpData, member_of, context_of, cells_put}
use Rattle.context_diff.specs.Histories.{is_known, context_after, context_of_all, cells_in, all_cells, IsNext, IsValid, IsValidAfter}
use Rattle.context_diff.proofs.CallerLemmas.{complete, group_facts, all_is_context, known_member, context_push, valid_push, has_original, has_number, has_group, has_generation}
use Rattle.ttf_form.specs.Families.{IsIn}
use Rattle.flat_history.specs.Checkpoints.{Placed, inserted, deleted, name_of, cells_of as cells_by, Checkpoint, made_in, with_placed, with_all_placed, flat_originals, entry_at, flat_undo, flat_undos, flat_groups, history_of, IsNextPlaced, ArePlaced, IsCheckpoint}
use Rattle.flat_history.proofs.Judged.{all_cells-append, cells_in_whole}

-- ---- an original of a checkpoint as an operation

pub made_member : (c : ContextData) (e : Placed) → member_of (made_in c e) ≡ Original (name_of e)
made_member c (inserted n p text) = refl
made_member c (deleted n p) = refl

made_cells : (c : ContextData) (e : Placed) → cells_put (made_in c e) ≡ cells_by e
made_cells c (inserted n p text) = refl
made_cells c (deleted n p) = refl

-- the members of a valid history name no stray
pub all_stray : (h : List OpData) → IsValid h → HasNoStray (context_of_all h)
all_stray h v n g e =
    let w = complete h v in
    w.holds (Original n) ∙ (group_facts h w n g (sym (w.holds (Group n g)) ∙ e)).target

-- the next one of a site isn't among the members
next_new : (h : List OpData) → IsValid h → (n : NameData) → count_of (context_of_all h) n.site + 1 ≡ n.number
    → is_known h (Original n) ≡ false
next_new h v n own =
    sym ((complete h v).holds (Original n))
    ∙ false_from_ne_true (has (context_of_all h) (Original n))
    (λ e. let r = has_number (context_of_all h) n e in absurd (omega (arith, r.1, own)))

-- all that is there is in the context of all members
whole : (h : List OpData) → IsValid h → cells_in h (context_of_all h) ≡ all_cells h
whole h v = cells_in_whole h (context_of_all h) (λ o at. (complete h v).holds (member_of o) ∙ known_member h o at)

few_entries : (es : List (NameData × ℕ)) → es ≡ [] → length es ≤ UNDO_ENTRIES
few_entries es e = let none = ap length e in omega arith

-- an original made after all of a history without undos
pub placed_next : (h : List OpData) → IsValid h → (context_of_all h).entries ≡ [] → (e : Placed)
    → IsNextPlaced (context_of_all h) (all_cells h) e → IsNext h (made_in (context_of_all h) e)
placed_next h v bare (inserted n p text) next =
    let c = context_of_all h in
    let w = complete h v in
    record {
      formed = record {
        in_range = (next.0, next.3, next.2, all_is_context h v, few_entries c.entries bare);
        own = next.1;
        target = tt;
        stray = all_stray h v;
      };
      new = next_new h v n next.1;
      ready = λ m e. sym (w.holds m) ∙ e;
      closed = λ original s o x at is site number m e. w.holds m ∙ w.ready o at m e;
      placed = let all = whole h v in omega (arith, next.4);
    }
placed_next h v bare (deleted n p) next =
    let c = context_of_all h in
    let w = complete h v in
    record {
      formed = record {
        in_range = (next.0, next.2, all_is_context h v, few_entries c.entries bare);
        own = next.1;
        target = tt;
        stray = all_stray h v;
      };
      new = next_new h v n next.1;
      ready = λ m e. sym (w.holds m) ∙ e;
      closed = λ original s o x at is site number m e. w.holds m ∙ w.ready o at m e;
      placed = let all = whole h v in omega (arith, next.3);
    }

originals_valid : (es : List Placed) (h : List OpData) → IsValid h → (context_of_all h).entries ≡ []
    → ArePlaced (context_of_all h) (all_cells h) es → IsValidAfter h (flat_originals (context_of_all h) es)
originals_valid [] h v bare are = tt
originals_valid (e ∷ es) h v bare are =
    let c = context_of_all h in
    let o = made_in c e in
    let next = placed_next h v bare e are.0 in
    let context : context_of_all (h ++ o ∷ []) ≡ with_placed c e = context_push h o ∙ ap (raised c) (made_member c e) in
    let put : cells_put o ≡ cells_by e = made_cells c e in
    let parts = all_cells-append h (o ∷ []) in
    let cells : all_cells (h ++ o ∷ []) ≡ all_cells h + cells_by e = omega arith in
    let rest : ArePlaced (context_of_all (h ++ o ∷ [])) (all_cells (h ++ o ∷ [])) es =
    subst₂ (λ (d : ContextData) (k : ℕ). ArePlaced d k es) (sym context) (sym cells) are.1 in
    let later =
    originals_valid es (h ++ o ∷ []) (valid_push h o v next) (ap (λ (d : ContextData). d.entries) context ∙ bare) rest in
    (next, subst (λ (d : ContextData). IsValidAfter (h ++ o ∷ []) (flat_originals d es)) context later)

-- ---- the undo that follows

entry_is : (t : NameData) (g : ℕ) → entry_in (entry_at t g) t ≡ g
entry_is t zero = refl
entry_is t (suc g) = ap (λ (b : Bool). if b then suc g else 0) (name_itself t)

entry_named : (t n : NameData) (g k : ℕ) → 1 ≤ k → k ≤ entry_in (entry_at t g) n → (t ≡ n) × (k ≤ g)
entry_named t n zero k low high = absurd (omega arith)
entry_named t n (suc g) k low high = elim (cases_Bool (name_eq t n)) [
  | inl same ↦ let most : k ≤ suc g = subst (λ (b : Bool). k ≤ (if b then suc g else 0)) same high in (name_same t n same, most)
  | inr other ↦ let none : k ≤ 0 = subst (λ (b : Bool). k ≤ (if b then suc g else 0)) other high in absurd (omega arith)
]

site_named : (s k r x : ℕ) → 1 ≤ x → x ≤ (if s == r then k else 0) → (s ≡ r) × (x ≤ k)
site_named s k r x low high = (grind (arith, nat_tests), grind (arith, nat_tests))

entries_are : (t : NameData) (g : ℕ) → IsName t.site t.number → g ≤ GENERATIONS → AreEntries (entry_at t g)
entries_are t zero name most = tt
entries_are t (suc g) name most = (name, omega arith, most, tt, tt)

entries_few : (t : NameData) (g : ℕ) → length (entry_at t g) ≤ UNDO_ENTRIES
entries_few t zero = omega arith
entries_few t (suc g) = omega arith

module _ (h : List OpData) (v : IsValid h) (t : NameData) (g : ℕ) (name : IsName t.site t.number) (most : suc g ≤ GENERATIONS)
    (there : has (context_of_all h) (Original t) ≡ true) (entry : entry_of (context_of_all h) t ≡ g) where
  abbrev undo_context : ContextData
  undo_context = context_of (flat_undo t g)

  own_count : count_of undo_context t.site ≡ t.number
  own_count = ap (λ (b : Bool). if b then t.number else 0) (eq-eqb t.site t.site refl)

  has_target : has undo_context (Original t) ≡ true
  has_target = let same = own_count in has_original undo_context t name.1 (omega arith)

  undo_has : (m : Member) → has undo_context m ≡ true → has (context_of_all h) m ≡ true
  undo_has (Original n) e =
      let r = has_number undo_context n e in
      let q = site_named t.site t.number n.site n.number r.0 r.1 in
      let last = has_number (context_of_all h) t there in
      let counts : count_of (context_of_all h) t.site ≡ count_of (context_of_all h) n.site = ap (count_of (context_of_all h)) q.0 in
      has_original (context_of_all h) n r.0 (omega (arith, q.1, last.1))
  undo_has (Group n k) e =
      let r = has_generation undo_context n k e in
      let q = entry_named t n g k r.0 r.1 in
      let entries : entry_of (context_of_all h) t ≡ entry_of (context_of_all h) n = ap (entry_of (context_of_all h)) q.0 in
      has_group (context_of_all h) n k r.0 (omega (arith, q.1))

  undo_stray : HasNoStray undo_context
  undo_stray n k e =
      let r = has_generation undo_context n k e in
      let q = entry_named t n g k r.0 r.1 in
      subst (λ (x : NameData). has undo_context (Original x) ≡ true) q.0 has_target

  pub undo_next : IsNext h (flat_undo t g)
  undo_next = record {
    formed = record {
      in_range = (
        omega arith,
        name,
        omega arith,
        most,
        record { counts = (omega arith, name.0, name.1, name.2, tt); entries = entries_are t g name (omega arith) },
        entries_few t g,
      );
      own = tt;
      target = (has_target, let e = entry_is t g in omega arith);
      stray = undo_stray;
    };
    new =
        sym ((complete h v).holds (Group t (suc g)))
        ∙ false_from_ne_true (has (context_of_all h) (Group t (suc g)))
        (λ e. let r = has_generation (context_of_all h) t (suc g) e in absurd (omega (arith, r.1)));
    ready = λ m e. sym ((complete h v).holds m) ∙ undo_has m e;
    closed = λ e. absurd (false≢true e);
    placed = tt;
  }

-- ---- the undos of one original

-- the history k is h with the undos of t up to g
record IsUndoneTo (h : List OpData) (t : NameData) (g : ℕ) (k : List OpData) : Type 0 where
  valid : IsValid k
  counts : (context_of_all k).counts ≡ (context_of_all h).counts
  entry : (n : NameData) → entry_of (context_of_all k) n ≡ entry_of (context_of_all h) n + (if name_eq t n then g else 0)

-- where the counts are the same, the same originals are there
pub same_original : (c d : ContextData) (n : NameData) → c.counts ≡ d.counts → has c (Original n) ≡ has d (Original n)
same_original c d n e = ap (λ (ps : List (ℕ × ℕ)). nat_le 1 n.number && nat_le n.number (count_in ps n.site)) e

own_entry : (t : NameData) (a g : ℕ) → a + (if name_eq t t then g else 0) ≡ a + g
own_entry t a g = ap (λ (b : Bool). a + (if b then g else 0)) (name_itself t)

next_entry : (t n : NameData) (g a b : ℕ) → (t ≡ n → a ≡ 0) → b ≡ a + (if name_eq t n then g else 0)
    → (if name_eq t n then suc g else b) ≡ a + (if name_eq t n then suc g else 0)
next_entry t n g a b none is = elim (cases_Bool (name_eq t n)) [
  | inl same ↦ let zero_there = none (name_same t n same) in rw same (omega arith)
  | inr other ↦ let now : b ≡ a + 0 = rw other at is in rw other now
]

undos_valid : (t : NameData) → IsName t.site t.number → (h : List OpData) → IsValid h → has (context_of_all h) (Original t) ≡ true
    → entry_of (context_of_all h) t ≡ 0 → (g : ℕ) → g ≤ GENERATIONS → IsUndoneTo h t g (h ++ flat_undos t g)
undos_valid t name h v there none zero most =
    subst (IsUndoneTo h t 0) (sym (append-nil h))
    (record { valid = v; counts = refl; entry = λ n. nothing (name_eq t n) (entry_of (context_of_all h) n) })
  where
    nothing : (b : Bool) (a : ℕ) → a ≡ a + (if b then 0 else 0)
    nothing true a = omega arith
    nothing false a = omega arith
undos_valid t name h v there none (suc g) most =
    let r = undos_valid t name h v there none g (omega arith) in
    let k = h ++ flat_undos t g in
    let u = flat_undo t g in
    let known = same_original (context_of_all k) (context_of_all h) t r.counts ∙ there in
    let own = own_entry t (entry_of (context_of_all h) t) g in
    let entry : entry_of (context_of_all k) t ≡ g =
    (r.entry t ∙ own) ∙ (let sum : entry_of (context_of_all h) t + g ≡ g = omega arith in sum) in
    let next = undo_next k r.valid t g name most known entry in
    let context : context_of_all (k ++ u ∷ []) ≡ raised (context_of_all k) (Group t (suc g)) = context_push k u in
    subst (IsUndoneTo h t (suc g)) (append_assoc h (flat_undos t g) (u ∷ [])) (record {
      valid = valid_push k u r.valid next;
      counts = ap (λ (c : ContextData). c.counts) context ∙ r.counts;
      entry = λ n.
          ap (λ (c : ContextData). entry_of c n) context
          ∙ (entry_put t (suc g) (context_of_all k).entries n
          ∙ next_entry t n g (entry_of (context_of_all h) n) (entry_of (context_of_all k) n)
          (λ e. ap (entry_of (context_of_all h)) (sym e) ∙ none) (r.entry n));
    })

-- ---- the undos of all names

-- names that rise are before all that follow
later_less : (n : NameData) (es : List (NameData × ℕ)) → IsBefore n es → AreEntries es → (e : NameData × ℕ) → IsIn e es
    → name_lt n e.0 ≡ true
later_less n [] before are e i = absurd i
later_less n (f ∷ fs) before are e (inl is) = ap (λ (x : NameData × ℕ). name_lt n x.0) is ∙ before
later_less n (f ∷ fs) before are e (inr i) = name_transitive n f.0 e.0 before (later_less f.0 fs are.3 are.4 e i)

pub later_other : (n : NameData) (es : List (NameData × ℕ)) → IsBefore n es → AreEntries es → (e : NameData × ℕ) → IsIn e es
    → name_eq n e.0 ≡ false
later_other n es before are e i = name_less_other n e.0 (later_less n es before are e i)

same_names : (n m : NameData) → name_eq n m ≡ name_eq m n
same_names n m = grind (arith, nat_tests)

not_entered : (n : NameData) (es : List (NameData × ℕ)) → ((e : NameData × ℕ) → IsIn e es → name_eq n e.0 ≡ false) → entry_in es n ≡ 0
not_entered n [] none = refl
not_entered n (e ∷ es) none =
    ap (λ (b : Bool). if b then e.1 else entry_in es n) (same_names e.0 n ∙ none e (inl refl)) ∙ not_entered n es (λ f i. none f (inr i))

record AreUndone (h : List OpData) (es : List (NameData × ℕ)) (k : List OpData) : Type 0 where
  valid : IsValid k
  counts : (context_of_all k).counts ≡ (context_of_all h).counts
  entry : (n : NameData) → entry_of (context_of_all k) n ≡ entry_of (context_of_all h) n + entry_in es n

first_entry : (n m : NameData) (g a b rest : ℕ) → (n ≡ m → rest ≡ 0) → b ≡ a + (if name_eq n m then g else 0)
    → b + rest ≡ a + (if name_eq n m then g else rest)
first_entry n m g a b rest none is = elim (cases_Bool (name_eq n m)) [
  | inl same ↦ let zero_there = none (name_same n m same) in let now : b ≡ a + g = rw same at is in rw same (omega arith)
  | inr other ↦ let now : b ≡ a + 0 = rw other at is in rw other (omega arith)
]

groups_valid : (es : List (NameData × ℕ)) → AreEntries es → (h : List OpData) → IsValid h
    → ((e : NameData × ℕ) → IsIn e es → has (context_of_all h) (Original e.0) ≡ true)
    → ((e : NameData × ℕ) → IsIn e es → entry_of (context_of_all h) e.0 ≡ 0) → AreUndone h es (h ++ flat_groups es)
groups_valid [] are h v there none =
    subst (AreUndone h []) (sym (append-nil h)) (record { valid = v; counts = refl; entry = λ n. omega arith })
groups_valid (e ∷ es) are h v there none =
    let r = undos_valid e.0 are.0 h v (there e (inl refl)) (none e (inl refl)) e.1 are.2 in
    let k = h ++ flat_undos e.0 e.1 in
    let apart = later_other e.0 es are.3 are.4 in
    let q =
    groups_valid es are.4 k r.valid
    (λ f i. same_original (context_of_all k) (context_of_all h) f.0 r.counts ∙ there f (inr i))
    (λ f i.
    r.entry f.0
    ∙ (ap₂ (λ (a : ℕ) (b : Bool). a + (if b then e.1 else 0)) (none f (inr i)) (apart f i) ∙ (let z : 0 + 0 ≡ 0 = omega arith in z))) in
    subst (AreUndone h (e ∷ es)) (append_assoc h (flat_undos e.0 e.1) (flat_groups es)) (record {
      valid = q.valid;
      counts = q.counts ∙ r.counts;
      entry = λ n.
          q.entry n
          ∙ first_entry e.0 n e.1 (entry_of (context_of_all h) n) (entry_of (context_of_all k) n) (entry_in es n)
          (λ is. ap (entry_in es) (sym is) ∙ not_entered e.0 es apart) (r.entry n);
    })

-- ---- the whole checkpoint

originals_context : (es : List Placed) (c d : ContextData) → context_after c (flat_originals d es) ≡ with_all_placed c es
originals_context [] c d = refl
originals_context (inserted n p text ∷ es) c d = originals_context es (raised c (Original n)) (raised d (Original n))
originals_context (deleted n p ∷ es) c d = originals_context es (raised c (Original n)) (raised d (Original n))

placed_entries : (es : List Placed) (c : ContextData) → (with_all_placed c es).entries ≡ c.entries
placed_entries [] c = refl
placed_entries (e ∷ es) c = placed_entries es (with_placed c e)

module _ (p : Checkpoint) (is : IsCheckpoint p) where
  abbrev originals : List OpData
  originals = flat_originals empty p.originals

  pub flat_originals_valid : IsValid originals
  flat_originals_valid = originals_valid p.originals [] tt refl is.originals

  context_is : context_of_all originals ≡ with_all_placed empty p.originals
  context_is = originals_context p.originals empty empty

  none_undone : (n : NameData) → entry_of (context_of_all originals) n ≡ 0
  none_undone n =
      ap (λ (es : List (NameData × ℕ)). entry_in es n) (ap (λ (c : ContextData). c.entries) context_is ∙ placed_entries p.originals empty)

  whole_checkpoint : AreUndone originals p.undone (history_of p)
  whole_checkpoint =
      groups_valid p.undone is.undone originals flat_originals_valid
      (λ e i. ap (λ (c : ContextData). has c (Original e.0)) context_is ∙ is.known e i) (λ e i. none_undone e.0)

  -- the history is valid
  pub checkpoint_valid : IsValid (history_of p)
  checkpoint_valid = whole_checkpoint.valid

  -- it has the originals of the checkpoint
  pub checkpoint_counts : (context_of_all (history_of p)).counts ≡ (with_all_placed empty p.originals).counts
  checkpoint_counts = whole_checkpoint.counts ∙ ap (λ (c : ContextData). c.counts) context_is

  -- and each name is undone as often as the checkpoint says
  pub checkpoint_entries : (n : NameData) → entry_of (context_of_all (history_of p)) n ≡ entry_in p.undone n
  checkpoint_entries n =
      let r = whole_checkpoint.entry n in
      let z = none_undone n in
      omega arith
