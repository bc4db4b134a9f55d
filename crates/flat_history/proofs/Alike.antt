-- Two valid histories with the same members, cells and deletes of each cell, and the same characters, are alike.
use Rattle.std.proofs.Common.{◌≡◌, ◌↔◌, true, List, filter, map, encode_utf8_all, refl, ap, sym, ◌∙◌}
use Rattle.std.specs.Prelude.{not, ◌&&◌}
use Rattle.std.specs.List.{list_any}
use Rattle.std.specs.Cmp.{both_ways as same_bool}
use Rattle.std.proofs.lemmas.Bool.{and_parts, and_from}
use Rattle.op_name.specs.NameData.{NameData}
use Rattle.op_name.specs.declared.member.Member.{Member}
use Rattle.context_vector.specs.Contexts.{ContextData, entry_of}
use Rattle.context_vector.proofs.CallerLemmas.{same_context}
use Rattle.context_diff.specs.Operations.{OpData, inserting, deleting, undoing}
use Rattle.context_diff.specs.Histories.{is_known, generation_in, in_force, context_of_all, all_cells, IsValid}
use Rattle.context_diff.specs.Replays.{Cell, replay_of, hits, covers, is_shown, shown, character_in, characters_of}
use Rattle.context_diff.proofs.CallerLemmas.{complete, all_is_context, generation_is}
use Rattle.ttf_form.specs.Families.{IsIn}
use Rattle.fixed_replay.specs.Replayed.{IsDeleter}
use Rattle.fixed_replay.proofs.CallerLemmas.{any_in, in_any, not_both}
use Rattle.op_name.specs.Members.{is_even}
use Rattle.flat_history.specs.Alike.{AreAlike}

-- the same members make one context
pub one_context : (h k : List OpData) → IsValid h → IsValid k → ((m : Member) → is_known h m ≡ is_known k m)
    → context_of_all h ≡ context_of_all k
one_context h k v w members =
    same_context (context_of_all h) (context_of_all k) (all_is_context h v) (all_is_context k w) (λ m.
    (complete h v).holds m ∙ (members m ∙ sym ((complete k w).holds m)))

-- ---- what is shown

-- a delete of the list that covers a cell is a deleter in force
deleter_of : (h : List OpData) (c : Cell) (o : OpData) → IsIn o h → covers h c o ≡ true
    → (n : NameData) × IsDeleter h c n × (in_force h n ≡ true)
deleter_of h c (inserting n p text k) i e = not_both e refl
deleter_of h c (deleting n p k) i e =
    let r = and_parts (in_force h n) (hits h (deleting n p k) c) e in
    (n, record { place = p; context = k; there = i; hit = r.1 }, r.0)
deleter_of h c (undoing a t g k) i e = not_both e refl

covered_to : (h k : List OpData) (c : Cell) → ((t : NameData) → generation_in h t ≡ generation_in k t)
    → ((n : NameData) → IsDeleter h c n → IsDeleter k c n) → list_any (covers h c) h ≡ true → list_any (covers k c) k ≡ true
covered_to h k c generations deleters e =
    let r = any_in (covers h c) h e in
    let d = deleter_of h c r.0 r.1 r.2 in
    let q = deleters d.0 d.1 in
    let force : in_force k d.0 ≡ true = ap is_even (sym (generations d.0)) ∙ d.2 in
    in_any (covers k c) (deleting d.0 q.place q.context) k q.there
    (and_from (in_force k d.0) (hits k (deleting d.0 q.place q.context) c) force q.hit)

shown_alike : (h k : List OpData) → ((t : NameData) → generation_in h t ≡ generation_in k t)
    → ((c : Cell) (n : NameData) → IsDeleter h c n ↔ IsDeleter k c n) → (c : Cell) → is_shown h c ≡ is_shown k c
shown_alike h k generations deleters c =
    let covered : list_any (covers h c) h ≡ list_any (covers k c) k =
    same_bool (list_any (covers h c) h) (list_any (covers k c) k)
    (covered_to h k c generations (λ n. (deleters c n).0))
    (covered_to k h c (λ t. sym (generations t)) (λ n. (deleters c n).1)) in
    λ i. is_even (generations c.0 i) && not (covered i)

-- ---- all together

pub alike_from : (h k : List OpData) → IsValid h → IsValid k → ((m : Member) → is_known h m ≡ is_known k m)
    → all_cells h ≡ all_cells k → replay_of h ≡ replay_of k → ((c : Cell) (n : NameData) → IsDeleter h c n ↔ IsDeleter k c n)
    → ((c : Cell) → character_in h c ≡ character_in k c) → AreAlike h k
alike_from h k v w members count cells deleters character =
    let context = one_context h k v w members in
    let generations : (t : NameData) → generation_in h t ≡ generation_in k t =
    λ t. generation_is h v t ∙ (ap (λ (c : ContextData). entry_of c t) context ∙ sym (generation_is k w t)) in
    let each = shown_alike h k generations deleters in
    let shows : shown h ≡ shown k = λ i. filter (λ (c : Cell). each c i) (cells i) in
    let characters : characters_of h ≡ characters_of k = λ i. map (λ (c : Cell). character c i) (shows i) in
    record {
      members = members;
      context = context;
      generations = generations;
      count = count;
      cells = cells;
      deleters = deleters;
      is_shown = each;
      shown = shows;
      character = character;
      characters = characters;
      text = ap encode_utf8_all characters;
    }
