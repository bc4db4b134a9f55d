-- Histories that are alike stay so when operations follow that were made after all of their members.
use Rattle.std.proofs.Common.{◌≡◌, ◌↔◌, ℕ, ◌+◌, Bool, true, false, inl, inr, List, [], ◌∷◌, ◌++◌, if◌then◌else◌, refl, ap, sym, ◌∙◌, append-nil}
use Rattle.std.specs.Prelude.{◌||◌, slice_index_or}
use Rattle.std.proofs.lemmas.Bool.{false≢true, cases_Bool, false_from_ne_true, or_parts}
use Rattle.op_name.specs.NameData.{NameData, name_eq}
use Rattle.op_name.specs.declared.member.Member.{Member}
use Rattle.op_name.specs.declared.member.Member.TheVariants.{Original}
use Rattle.context_vector.specs.Contexts.{has}
use Rattle.context_diff.specs.Operations.{OpData, inserting, deleting, undoing, member_of, context_of}
use Rattle.context_diff.specs.Histories.{is_known, all_cells, IsValid}
use Rattle.context_diff.specs.Replays.{Cell, Insertion, replay, replay_of, seen, stands_at, character_in}
use Rattle.context_diff.proofs.CallerLemmas.{complete, holder, known_append}
use Rattle.ttf_form.specs.Families.{IsIn}
use Rattle.transform_rec.proofs.CallerLemmas.{in_cases, in_left, in_right}
use Rattle.undo_group.specs.Laws.Members.{in_contains}
use Rattle.fixed_replay.specs.Replayed.{IsDeleter}
use Rattle.flat_history.specs.Alike.{AreAlike, IsMadeAfter, AreMadeAfter, AreJudgedAlike}
use Rattle.flat_history.proofs.InOrder.{in_order, in_order_known, in_order_sees, replay_later, SeeAll, replay_past, replay_unseen}
use Rattle.flat_history.proofs.Judged.{judged, valid_on, all_cells-append}
use Rattle.flat_history.proofs.Alike.{alike_from}

-- ---- characters of two histories one after the other

character_none : (l : List OpData) (c : Cell) → is_known l (Original c.0) ≡ false → character_in l c ≡ 0
character_none [] c e = refl
character_none (inserting n p text k ∷ os) c e =
    let r = or_parts (name_eq n c.0) (is_known os (Original c.0)) e in
    ap (λ (b : Bool). if b then slice_index_or text c.1 0 else character_in os c) r.0 ∙ character_none os c r.1
character_none (deleting n p k ∷ os) c e = character_none os c (or_parts (name_eq n c.0) (is_known os (Original c.0)) e).1
character_none (undoing a t g k ∷ os) c e = character_none os c e

character_old : (h l : List OpData) (c : Cell) → is_known l (Original c.0) ≡ false → character_in (h ++ l) c ≡ character_in h c
character_old [] l c e = character_none l c e
character_old (inserting n p text k ∷ os) l c e =
    ap (λ (x : ℕ). if name_eq n c.0 then slice_index_or text c.1 0 else x) (character_old os l c e)
character_old (deleting n p k ∷ os) l c e = character_old os l c e
character_old (undoing a t g k ∷ os) l c e = character_old os l c e

character_new : (h l : List OpData) (c : Cell) → is_known h (Original c.0) ≡ false → character_in (h ++ l) c ≡ character_in l c
character_new [] l c e = refl
character_new (inserting n p text k ∷ os) l c e =
    let r = or_parts (name_eq n c.0) (is_known os (Original c.0)) e in
    ap (λ (b : Bool). if b then slice_index_or text c.1 0 else character_in (os ++ l) c) r.0 ∙ character_new os l c r.1
character_new (deleting n p k ∷ os) l c e = character_new os l c (or_parts (name_eq n c.0) (is_known os (Original c.0)) e).1
character_new (undoing a t g k ∷ os) l c e = character_new os l c e

-- ---- operations that were made after a history

-- no member of the history is theirs
pub fresh : (h l : List OpData) → AreMadeAfter h l → (m : Member) → is_known h m ≡ true → is_known l m ≡ false
fresh h l after m known =
    false_from_ne_true (is_known l m) (λ e.
    let held = holder l m e in
    false≢true (sym (after held.op held.there).new ∙ (ap (is_known h) held.is ∙ known)))

-- their inserts see all of its
sees_history : (h l : List OpData) → AreMadeAfter h l → SeeAll (in_order l) (in_order h)
sees_history h l after o x i j =
    let r = in_order_sees l o i in
    let op = inserting r.0 r.1 r.2 r.3 in
    let seen_there : has r.3 (Original x.name) ≡ true =
    (after op (in_contains op l r.4)).covers refl (Original x.name) (in_order_known h x j) in
    ap (λ (y : Insertion). y.sees x.name) r.5 ∙ seen_there

module _ (h l : List OpData) (v : IsValid h) (w : IsValid (h ++ l)) (after : AreMadeAfter h l) where
  -- an operation of the history sees no cell of theirs
  old_seen : (o : OpData) → IsIn o h
      → seen (λ m. has (context_of o) (Original m)) (replay_of (h ++ l)) ≡ seen (λ m. has (context_of o) (Original m)) (replay_of h)
  old_seen o i =
      let sees : NameData → Bool = λ m. has (context_of o) (Original m) in
      ap (seen sees) (replay_later h l v w)
      ∙ replay_unseen sees (in_order h) (replay_of h) (in_order l) (λ x j.
      false_from_ne_true (sees x.name) (λ e.
      false≢true (sym (fresh h l after (Original x.name) ((complete h v).ready o (in_contains o h i) (Original x.name) e))
      ∙ in_order_known l x j)))

  deleter_old : (c : Cell) (n : NameData) → IsDeleter h c n → IsDeleter (h ++ l) c n
  deleter_old c n r = record {
    place = r.place;
    context = r.context;
    there = in_left (deleting n r.place r.context) h l r.there;
    hit = ap (λ (cs : List Cell). stands_at r.place cs c) (old_seen (deleting n r.place r.context) r.there) ∙ r.hit;
  }

module _ (h k : List OpData) (v : IsValid h) (w : IsValid k) (alike : AreAlike h k) (l : List OpData) (after : AreMadeAfter h l) where
  pub after_other : AreMadeAfter k l
  after_other o at = record {
    new = sym (alike.members (member_of o)) ∙ (after o at).new;
    covers = λ e m known. (after o at).covers e m (alike.members m ∙ known);
  }

  cells_on : IsValid (h ++ l) → IsValid (k ++ l) → replay_of (h ++ l) ≡ replay_of (k ++ l)
  cells_on vl wl =
      let later = in_order l in
      replay_later h l v vl
      ∙ (ap (λ (cs : List Cell). replay (in_order h) cs later) alike.cells
      ∙ (ap (λ (es : List Insertion). replay es (replay_of k) later) (sym (append-nil (in_order h)))
      ∙ (replay_past (in_order h) (in_order k) [] (replay_of k) later (sees_history h l after) (sees_history k l after_other)
      ∙ (ap (λ (es : List Insertion). replay es (replay_of k) later) (append-nil (in_order k)) ∙ sym (replay_later k l w wl)))))

  character_on : (c : Cell) → character_in (h ++ l) c ≡ character_in (k ++ l) c
  character_on c = elim (cases_Bool (is_known h (Original c.0))) [
    | inl old ↦
        let out = fresh h l after (Original c.0) old in
        character_old h l c out ∙ (alike.character c ∙ sym (character_old k l c out))
    | inr new ↦ character_new h l c new ∙ sym (character_new k l c (sym (alike.members (Original c.0)) ∙ new))
  ]

-- the deletes of the history hit the cells that they hit before, and later ones those of equal cells
deleter_on : (h k l : List OpData) → IsValid h → IsValid k → AreMadeAfter h l → AreMadeAfter k l → IsValid (h ++ l) → IsValid (k ++ l)
    → replay_of (h ++ l) ≡ replay_of (k ++ l) → (c : Cell) (n : NameData) → (IsDeleter h c n → IsDeleter k c n) → IsDeleter (h ++ l) c n
    → IsDeleter (k ++ l) c n
deleter_on h k l v w after after' vl wl cells c n old r =
    let o : OpData = deleting n r.place r.context in
    elim (in_cases o h l r.there) [
      | inl i ↦
          let hit = ap (λ (cs : List Cell). stands_at r.place cs c) (sym (old_seen h l v vl after o i)) ∙ r.hit in
          deleter_old k l w wl after' c n (old (record { place = r.place; context = r.context; there = i; hit = hit }))
      | inr i ↦ record {
        place = r.place;
        context = r.context;
        there = in_right o k l i;
        hit = ap (λ (cs : List Cell). stands_at r.place (seen (λ m. has r.context (Original m)) cs) c) (sym cells) ∙ r.hit;
      }
    ]

module _ (h k : List OpData) (v : IsValid h) (w : IsValid k) (alike : AreAlike h k) where
  pub judged_on : (l : List OpData) (o : OpData) → IsMadeAfter h o → AreJudgedAlike (h ++ l) (k ++ l) o
  judged_on = judged h k v w alike.members alike.generations alike.count

  judged_back : (l : List OpData) (o : OpData) → IsMadeAfter k o → AreJudgedAlike (k ++ l) (h ++ l) o
  judged_back = judged k h w v (λ m. sym (alike.members m)) (λ t. sym (alike.generations t)) (sym alike.count)

  -- later operations may follow the one exactly if they may follow the other
  pub both_valid : (l : List OpData) → AreMadeAfter h l → IsValid (h ++ l) ↔ IsValid (k ++ l)
  both_valid l after = (
    valid_on h k w judged_on l after,
    valid_on k h v judged_back l (after_other h k v w alike l after),
  )

  -- and then both show the same
  pub alike_on : (l : List OpData) → AreMadeAfter h l → IsValid (h ++ l) → AreAlike (h ++ l) (k ++ l)
  alike_on l after vl =
      let wl = (both_valid l after).0 vl in
      let after' = after_other h k v w alike l after in
      let cells = cells_on h k v w alike l after vl wl in
      alike_from (h ++ l) (k ++ l) vl wl
      (λ m. known_append h l m ∙ (ap (λ (b : Bool). b || is_known l m) (alike.members m) ∙ sym (known_append k l m)))
      (all_cells-append h l ∙ (ap (λ (n : ℕ). n + all_cells l) alike.count ∙ sym (all_cells-append k l)))
      cells
      (λ c n. (
        deleter_on h k l v w after after' vl wl cells c n (alike.deleters c n).0,
        deleter_on k h l w v after' after wl vl (sym cells) c n (alike.deleters c n).1,
      ))
      (character_on h k v w alike l after)
