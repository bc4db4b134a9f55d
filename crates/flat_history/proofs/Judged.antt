-- After two histories with the same members, an operation that was made after all of these is judged alike, whatever else came.
use Rattle.std.proofs.Common.{◌≡◌, ℕ, ◌+◌, max, Bool, true, false, inl, inr, List, [], ◌∷◌, ◌++◌, if◌then◌else◌, refl, ap, ap₂, sym, ◌∙◌, subst, arith, append_assoc, append-nil}
use Rattle.std.specs.Prelude.{Contains, ◌||◌}
use Rattle.std.proofs.lemmas.Bool.{false≢true}
use Rattle.std.proofs.lemmas.List.Elements.{Contains-append_right, Contains-append_cases}
use Rattle.op_name.specs.NameData.{NameData}
use Rattle.op_name.specs.declared.member.Member.{Member}
use Rattle.context_vector.specs.Contexts.{ContextData, has}
use Rattle.context_diff.specs.Operations.{OpData, inserting, deleting, undoing, member_of, context_of, is_original, cells_put}
use Rattle.context_diff.specs.Histories.{is_known, generation_in, CoversSite, cells_in, all_cells, HasPlace, IsNext, IsValid, IsValidAfter}
use Rattle.context_diff.proofs.CallerLemmas.{IsComplete, complete, known_append, known_member, contains_here, contains_later, valid_parts}
use Rattle.flat_history.specs.Alike.{IsMadeAfter, AreMadeAfter, AreJudgedAlike}

-- ---- counts of two histories one after the other

pub generation-append : (h l : List OpData) (t : NameData) → generation_in (h ++ l) t ≡ max (generation_in h t) (generation_in l t)
generation-append [] l t = omega arith
generation-append (o ∷ os) l t = let rest = generation-append os l t in omega arith

pub all_cells-append : (h l : List OpData) → all_cells (h ++ l) ≡ all_cells h + all_cells l
all_cells-append [] l = omega arith
all_cells-append (o ∷ os) l = let rest = all_cells-append os l in omega arith

pub cells_in-append : (h l : List OpData) (c : ContextData) → cells_in (h ++ l) c ≡ cells_in h c + cells_in l c
cells_in-append [] l c = omega arith
cells_in-append (o ∷ os) l c = let rest = cells_in-append os l c in omega arith

-- a context that has all members has all cells
pub cells_in_whole : (h : List OpData) (c : ContextData) → ((o : OpData) → Contains h o → has c (member_of o) ≡ true)
    → cells_in h c ≡ all_cells h
cells_in_whole [] c all = refl
cells_in_whole (o ∷ os) c all =
    let here = all o (contains_here o os) in
    let rest = cells_in_whole os c (λ p at. all p (contains_later o os p at)) in
    ap₂ (λ (b : Bool) (n : ℕ). (if b then cells_put o else 0) + n) here rest

-- ---- what a verdict asks

-- a context that has all members of a valid history covers all that its operations were made after
covers_on : (h k l : List OpData) → IsComplete k → (c : ContextData) → ((m : Member) → is_known k m ≡ true → has c m ≡ true) → (s : ℕ)
    → CoversSite (h ++ l) c s → CoversSite (k ++ l) c s
covers_on h k l w c all s covered o n at is site number =
    elim (Contains-append_cases k l o at) [
      | inl old ↦ λ m e. all m (w.ready o old m e)
      | inr new ↦ covered o n (Contains-append_right h l o new) is site number
    ]

holders_on : (h k l : List OpData) (o : OpData) → is_known h (member_of o) ≡ false → (p : OpData) → member_of p ≡ member_of o
    → Contains (h ++ l) p → Contains (k ++ l) p
holders_on h k l o new p is at =
    elim (Contains-append_cases h l p at) [
      | inl old ↦ absurd (false≢true (sym new ∙ (ap (is_known h) (sym is) ∙ known_member h p old)))
      | inr later ↦ Contains-append_right k l p later
    ]

module _ (h k : List OpData) (v : IsValid h) (w : IsValid k) (members : (m : Member) → is_known h m ≡ is_known k m)
    (generations : (t : NameData) → generation_in h t ≡ generation_in k t) (count : all_cells h ≡ all_cells k) where
  pub judged : (l : List OpData) (o : OpData) → IsMadeAfter h o → AreJudgedAlike (h ++ l) (k ++ l) o
  judged l o after =
      let c = context_of o in
      let new : is_known k (member_of o) ≡ false = sym (members (member_of o)) ∙ after.new in
      let all : is_original o ≡ true → (m : Member) → is_known k m ≡ true → has c m ≡ true =
      λ e m known. after.covers e m (members m ∙ known) in
      record {
        members = λ m. known_append h l m ∙ (ap (λ (b : Bool). b || is_known l m) (members m) ∙ sym (known_append k l m));
        generations = λ t.
            generation-append h l t
            ∙ (ap (λ (g : ℕ). max g (generation_in l t)) (generations t) ∙ sym (generation-append k l t));
        holders = λ p is. (holders_on h k l o after.new p is, holders_on k h l o new p is);
        covered = λ e s. (
          covers_on h k l (complete k w) c (all e) s,
          covers_on k h l (complete h v) c (after.covers e) s,
        );
        cells = λ e.
            cells_in-append h l c
            ∙ (ap (λ (n : ℕ). n + cells_in l c)
            (cells_in_whole h c (λ p at. after.covers e (member_of p) (known_member h p at))
            ∙ (count ∙ sym (cells_in_whole k c (λ p at. all e (member_of p) (known_member k p at)))))
            ∙ sym (cells_in-append k l c));
      }

-- ---- what is next

place_by : (g q : List OpData) (o : OpData) → (is_original o ≡ true → cells_in g (context_of o) ≡ cells_in q (context_of o)) → HasPlace g o
    → HasPlace q o
place_by g q (inserting n p text c) same fits = let e = same refl in omega arith
place_by g q (deleting n p c) same fits = let e = same refl in omega arith
place_by g q (undoing a t k c) same fits = tt

judged_next : (g q : List OpData) (o : OpData) → AreJudgedAlike g q o → IsNext g o → IsNext q o
judged_next g q o alike next = record {
  formed = next.formed;
  new = sym (alike.members (member_of o)) ∙ next.new;
  ready = λ m e. sym (alike.members m) ∙ next.ready m e;
  closed = λ e s. (alike.covered e s).0 (next.closed e s);
  placed = place_by g q o alike.cells next.placed;
}

pub valid_join : (b os ps : List OpData) → IsValidAfter b os → IsValidAfter (b ++ os) ps → IsValidAfter b (os ++ ps)
valid_join b [] ps v w = subst (λ (h : List OpData). IsValidAfter h ps) (append-nil b) w
valid_join b (o ∷ os) ps v w =
    (v.0, valid_join (b ++ o ∷ []) os ps v.1 (subst (λ (h : List OpData). IsValidAfter h ps) (sym (append_assoc b (o ∷ []) os)) w))

-- where each later operation is judged alike, they may follow the one history if they may follow the other
later_valid : (h k : List OpData) → ((l : List OpData) (o : OpData) → IsMadeAfter h o → AreJudgedAlike (h ++ l) (k ++ l) o)
    → (l os : List OpData) → AreMadeAfter h os → IsValidAfter (h ++ l) os → IsValidAfter (k ++ l) os
later_valid h k alike l [] after v = tt
later_valid h k alike l (o ∷ os) after v =
    let here = alike l o (after o (contains_here o os)) in
    let rest : IsValidAfter (h ++ (l ++ o ∷ [])) os =
    subst (λ (g : List OpData). IsValidAfter g os) (append_assoc h l (o ∷ [])) v.1 in
    let next = later_valid h k alike (l ++ o ∷ []) os (λ p at. after p (contains_later o os p at)) rest in
    (judged_next (h ++ l) (k ++ l) o here v.0, subst (λ (g : List OpData). IsValidAfter g os) (sym (append_assoc k l (o ∷ []))) next)

pub valid_on : (h k : List OpData) → IsValid k → ((l : List OpData) (o : OpData) → IsMadeAfter h o → AreJudgedAlike (h ++ l) (k ++ l) o)
    → (l : List OpData) → AreMadeAfter h l → IsValid (h ++ l) → IsValid (k ++ l)
valid_on h k w alike l after v =
    let later : IsValidAfter (h ++ []) l =
    subst (λ (g : List OpData). IsValidAfter g l) (sym (append-nil h)) (valid_parts h l v).1 in
    let moved = later_valid h k alike [] l after later in
    valid_join [] k l w (subst (λ (g : List OpData). IsValidAfter g l) (append-nil k) moved)
