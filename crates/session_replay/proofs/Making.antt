-- What is drawn for a site is an operation of its own: no event of a generated session is refused.
use Rattle.std.proofs.Common.{◌≡◌, ℕ, suc, ◌+◌, ◌%◌, ◌<◌, ◌≤◌, Bool, true, false, inl, inr, List, [], ◌∷◌, length, map, Result, Ok, Err, refl, ap, sym, ◌∙◌, arith, get_or}
use Rattle.std.specs.Prelude.{Option, Some, None, filter, ◌==◌, nat_lt, if◌then◌else◌}
use Rattle.std.specs.Char.{IsScalar}
use Rattle.std.proofs.Math.Nat.{mod-lt}
use Rattle.std.proofs.Math.Utf8.{low_scalar}
use Rattle.std.proofs.lemmas.Bool.{cases_Bool, cases_lt, lt-ltb, le-ltb}
use Rattle.std.proofs.lemmas.Bool.Decides.{nat_tests}
use Rattle.std.proofs.lemmas.Option.{slice_get-get_or}
use Rattle.std.proofs.lemmas.List.{length-map}
use Rattle.op_name.specs.NameData.{NameData}
use Rattle.op_name.specs.declared.member.Member.TheVariants.{Original}
use Rattle.op_name.specs.declared.name.TheConstants.{SITES, NUMBERS}
use Rattle.op_name.specs.declared.member.TheConstants.{GENERATIONS}
use Rattle.context_vector.proofs.CallerLemmas.{has_original}
use Rattle.context_diff.specs.Operations.{OpData, inserting, deleting, undoing, member_of}
use Rattle.op_name.specs.Members.{is_even}
use Rattle.context_diff.specs.Histories.{is_known, generation_in, context_of_all, all_cells, IsNext, IsValid}
use Rattle.context_diff.specs.Replays.{Cell, replay_of, is_shown, shown, characters_of}
use Rattle.context_diff.specs.declared.op.TheConstants.{PLACES}
use Rattle.context_diff.proofs.CallerLemmas.{complete, all_is_context, named_few}
use Rattle.site_answers.specs.declared.local.Local.{Local}
use Rattle.site_answers.specs.declared.local.Local.TheVariants.{PlaceOut, Unknown, NotInForce, InForce, GenerationFull, NumberFull}
use Rattle.cot_site.specs.States.{State}
use Rattle.op_name.specs.Lists.{places_from}
use Rattle.cot_site.specs.Views.{shown_places_of}
use Rattle.cot_site.specs.Commands.{place_of_shown, place_behind, count_made, next_name, in_context, numbered, turned, local_insert, local_delete, local_undo, local_redo}
use Rattle.cot_site.proofs.CallerLemmas.{local_insert_next, local_delete_next, local_undo_next, local_redo_next, behind_named, cells_few, in_context_made, shown_named}
use Rattle.session_replay.specs.declared.draws.Draw.{Draw}
use Rattle.session_replay.specs.declared.generator.TheConstants.{MAX_EVENTS}
use Rattle.session_replay.specs.Generating.{names_of, drawn_target, drawn_turn, drawn_insert, drawn_operation}
use Rattle.session_replay.proofs.Names.{name_counted}
use Rattle.session_replay.proofs.Room.{few_numbers, few_generations}

-- an operation that may come next at the site; an original of it has the site's number
pub record Makes (s : State) (r : Result OpData Local) : Type 0 where
  pub op : OpData
  pub is : r ≡ Ok op
  pub next : IsNext s.history op
  pub own : (n : NameData) → member_of op ≡ Original n → n.site ≡ s.number

-- a site with a valid history of at most 10,000 operations
pub record HasRoom (s : State) : Type 0 where
  pub valid : IsValid s.history
  pub site : s.number < SITES
  pub few : length s.history ≤ MAX_EVENTS

-- ---- shown places

pub places_number : (test : Cell → Bool) (n : ℕ) (cs : List Cell) → length (places_from test n cs) ≡ length (filter test cs)
places_number test n [] = refl
places_number test n (c ∷ cs) =
    elim (cases_Bool (test c)) [
      | inl so ↦ rw so (ap suc (places_number test (suc n) cs))
      | inr isnt ↦ rw isnt (places_number test (suc n) cs)
    ]

shown_number : (h : List OpData) → length (shown_places_of h) ≡ length (shown h)
shown_number h = places_number (is_shown h) 0 (replay_of h)

-- so few cells that each place is one that an operation may name
few_cells : (s : State) → HasRoom s → all_cells s.history ≤ PLACES
few_cells s room = omega (arith, cells_few s.history room.valid, room.few)

-- ---- inserts and deletes

numbered_made : (s : State) (o : OpData) → HasRoom s → numbered s o ≡ Ok o
numbered_made s o room =
    ap (λ (b : Bool). if b then in_context (context_of_all s.history) o else Err NumberFull)
    (lt-ltb (count_made s) NUMBERS (omega (arith, few_numbers s.history room.valid s.number, room.few)))
    ∙ in_context_made (context_of_all s.history) o (omega (arith, named_few s.history, room.few))

own_name : (s : State) (n : NameData) → Original (next_name s) ≡ Original n → n.site ≡ s.number
own_name s n is = let same : next_name s ≡ n = cc in ap (λ (x : NameData). x.site) (sym same)

pub insert_makes : (s : State) → HasRoom s → (v ch : ℕ) → v ≤ length (shown s.history) → IsScalar ch → Makes s (local_insert s v ch)
insert_makes s room v ch within scalar = record {
  op = o;
  is = is;
  next = local_insert_next s room.valid room.site o v ch scalar is;
  own = own_name s;
}
  where
    places : List ℕ
    places = 0 ∷ map suc (shown_places_of s.history)

    place : ℕ
    place = get_or places v 0

    at : place_behind s.history v ≡ Some place
    at =
        behind_named s.history (few_cells s room) v
        ∙ slice_get-get_or places v 0 (omega (arith, within, length-map (shown_places_of s.history) suc, shown_number s.history))

    o : OpData
    o = inserting (next_name s) place (ch ∷ []) (context_of_all s.history)

    is : local_insert s v ch ≡ Ok o
    is =
        ap (λ (q : Option ℕ). elim q as (λ _. Result OpData Local) [
          | None ↦ Err (PlaceOut v (length (characters_of s.history)))
          | Some p ↦
              numbered s (inserting (next_name s) p (ch ∷ []) (context_of_all s.history))
        ]) at
        ∙ numbered_made s o room

pub delete_makes : (s : State) → HasRoom s → (v : ℕ) → v < length (shown s.history) → Makes s (local_delete s v)
delete_makes s room v within = record {
  op = o;
  is = is;
  next = local_delete_next s room.valid room.site o v is;
  own = own_name s;
}
  where
    place : ℕ
    place = get_or (shown_places_of s.history) v 0

    at : place_of_shown s.history v ≡ Some place
    at =
        shown_named s.history (few_cells s room) v
        ∙ slice_get-get_or (shown_places_of s.history) v 0 (omega (arith, within, shown_number s.history))

    o : OpData
    o = deleting (next_name s) place (context_of_all s.history)

    is : local_delete s v ≡ Ok o
    is =
        ap (λ (q : Option ℕ). elim q as (λ _. Result OpData Local) [
          | None ↦ Err (PlaceOut v (length (characters_of s.history)))
          | Some p ↦
              numbered s (deleting (next_name s) p (context_of_all s.history))
        ]) at
        ∙ numbered_made s o room

-- ---- undos and redos

module _ (s : State) (room : HasRoom s) (t : NameData) (known : is_known s.history (Original t) ≡ true) where
  abbrev reached : ℕ
  reached = generation_in s.history t

  abbrev turn : OpData
  turn = undoing s.number t (reached + 1) (context_of_all s.history)

  turn_made : turned s t ≡ Ok turn
  turn_made = in_context_made (context_of_all s.history) turn (omega (arith, named_few s.history, room.few))

  turn_owns : (n : NameData) → member_of turn ≡ Original n → n.site ≡ s.number
  turn_owns n is = absurd cc

  undo_made : is_even reached ≡ true → local_undo s t ≡ Ok turn
  undo_made even =
      ap (λ (b : Bool). if b then (if is_even reached then turned s t else Err (NotInForce reached)) else Err (Unknown t)) known
      ∙ (ap (λ (b : Bool). if b then turned s t else Err (NotInForce reached)) even
      ∙ turn_made)

  below_limit : (reached == GENERATIONS) ≡ false
  below_limit = grind (arith, nat_tests, few_generations s.history room.valid t, room.few)

  redo_made : is_even reached ≡ false → local_redo s t ≡ Ok turn
  redo_made odd =
      let last : Result OpData Local = if reached == GENERATIONS then Err GenerationFull else turned s t in
      ap (λ (b : Bool). if b then (if is_even reached then Err (InForce reached) else last) else Err (Unknown t)) known
      ∙ (ap (λ (b : Bool). if b then Err (InForce reached) else last) odd
      ∙ (ap (λ (b : Bool). if b then Err GenerationFull else turned s t) below_limit
      ∙ turn_made))

  pub turn_makes : Makes s (drawn_turn s t)
  turn_makes =
      elim (cases_Bool (is_even reached)) [
        | inl even ↦ record {
          op = turn;
          is = ap (λ (b : Bool). if b then local_undo s t else local_redo s t) even ∙ undo_made even;
          next = local_undo_next s room.valid room.site turn t (undo_made even);
          own = turn_owns;
        }
        | inr odd ↦ record {
          op = turn;
          is = ap (λ (b : Bool). if b then local_undo s t else local_redo s t) odd ∙ redo_made odd;
          next = local_redo_next s room.valid room.site turn t (redo_made odd);
          own = turn_owns;
        }
      ]

-- ---- what is drawn

target_known : (s : State) → IsValid s.history → (place : ℕ) (t : NameData) → drawn_target s place ≡ Some t
    → is_known s.history (Original t) ≡ true
target_known s valid place t at =
    let c = context_of_all s.history in
    let counted = name_counted 0 c.counts (all_is_context s.history valid).counts (place % length (names_of s.history)) t at in
    sym ((complete s.history valid).holds (Original t)) ∙ has_original c t counted.least counted.most

letter_scalar : (n : ℕ) → IsScalar (97 + n % 26)
letter_scalar n = let less = mod-lt n {m = 26} (omega arith) in low_scalar (97 + n % 26) (omega (arith, less))

drawn_insert_makes : (s : State) (r : Draw) → HasRoom s → Makes s (drawn_insert s r)
drawn_insert_makes s r room =
    let visible = length (shown s.history) in
    let less = mod-lt r.place {m = visible + 1} (omega arith) in
    insert_makes s room (r.place % (visible + 1)) (97 + r.letter % 26) (omega (arith, less)) (letter_scalar r.letter)

pub drawn_makes : (s : State) (r : Draw) → HasRoom s → Makes s (drawn_operation s r)
drawn_makes s r room =
    elim (cases_Bool (nat_lt (r.kind % 16) 10)) [
      | inl inserts ↦ rw inserts (drawn_insert_makes s r room)
      | inr others ↦ elim (cases_Bool (nat_lt (r.kind % 16) 13)) [
        | inl deletes ↦ elim (cases_lt 0 visible) [
          | inl some ↦ rw (others, deletes, lt-ltb 0 visible some)
              (delete_makes s room (r.place % visible) (mod-lt r.place {m = visible} some))
          | inr none ↦ rw (others, deletes, le-ltb 0 visible none) (drawn_insert_makes s r room)
        ]
        | inr turns ↦ rw (others, turns) (from (drawn_target s r.place) refl)
      ]
    ]
  where
    visible : ℕ
    visible = length (shown s.history)

    from : (q : Option NameData) → drawn_target s r.place ≡ q
        → Makes s (elim q as (λ _. Result OpData Local) [ None ↦ drawn_insert s r | Some t ↦ drawn_turn s t ])
    from None at = drawn_insert_makes s r room
    from (Some t) at = turn_makes s room t (target_known s room.valid r.place t at)
