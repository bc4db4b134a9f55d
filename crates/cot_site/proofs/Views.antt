-- What is shown of the cells of a history is what the history shows.
use Rattle.std.proofs.Common.{◌≡◌, ◌<◌, ◌≤◌, ◌↔◌, ℕ, suc, Bool, inl, inr, List, [], ◌∷◌, Option, Some, None, IsSome, IsNone, is_some, true, false, length, map, option_map, refl, ap, sym, ◌∙◌, true≢false, arith}
use Rattle.std.proofs.lemmas.Option.{slice_get-map, slice_get_cases, slice_get_past}
use Rattle.std.specs.Prelude.{filter, if◌then◌else◌, slice_get}
use Rattle.context_diff.specs.Operations.{OpData}
use Rattle.context_diff.specs.Replays.{Cell, is_shown, shown, character_in, characters_of, text_of}
use Rattle.ttf_form.specs.Cells.{CellData, cell_key, cell_shown}
use Rattle.ttf_form.specs.Families.{IsIn}
use Rattle.visible_view.specs.View.{shown_cells, shown_places, shown_text}
use Rattle.fixed_replay.specs.Replayed.{IsReplayed, AreCharacters}
use Rattle.fixed_replay.proofs.CallerLemmas.{replayed_shown, replayed_characters, replayed_text}
use Rattle.cot_site.specs.States.{State}
use Rattle.cot_site.specs.Views.{shown_places_of, cells_view, history_view}
use Rattle.op_name.specs.Lists.{places_from}
use Rattle.std.proofs.lemmas.List.{length-map}

pub shown_count : (h : List OpData) (cs : List CellData) → IsReplayed h cs → length (shown_cells cs) ≡ length (shown h)
shown_count h cs is = sym (length-map (filter cell_shown cs) cell_key) ∙ ap length (replayed_shown h cs is)

-- the places of what passes, cell by cell
same_places : (p : Cell → Bool) (cs : List CellData) (n : ℕ) → ((d : CellData) → IsIn d cs → cell_shown d ≡ p (cell_key d))
    → places_from cell_shown n cs ≡ places_from p n (map cell_key cs)
same_places p [] n same = refl
same_places p (c ∷ cs) n same =
    let rest = same_places p cs (suc n) (λ d i. same d (inr i)) in
    let head = same c (inl refl) in
    λ i. if head i then n ∷ rest i else rest i

pub places_are : (h : List OpData) (cs : List CellData) → IsReplayed h cs → shown_places cs ≡ shown_places_of h
places_are h cs is = same_places (is_shown h) cs 0 is.shown ∙ ap (places_from (is_shown h) 0) is.cells

pub text_is : (h : List OpData) (cs : List CellData) (ts : List ℕ) → IsReplayed h cs → AreCharacters h cs ts → shown_text cs ts ≡ text_of h
text_is h cs ts is are = replayed_text h cs is ts are

-- the cells of a state's history are seen as the history says
pub view_is : (s : State) (cs : List CellData) → IsReplayed s.history cs → cells_view s.history cs ≡ history_view s
view_is s cs is =
    let places = places_are s.history cs is in
    let characters = replayed_characters s.history cs is in
    λ i. record { places = places i; characters = characters i }

-- as many characters are shown as cells
pub character_count : (h : List OpData) → length (shown h) ≡ length (characters_of h)
character_count h = sym (length-map (shown h) (character_in h))

same_name : (o : Option CellData) → option_map (λ (c : CellData). c.name) o ≡ option_map (λ (d : Cell). d.0) (option_map cell_key o)
same_name None = refl
same_name (Some c) = refl

-- the v-th shown cell has the name that the history shows there
pub shown_name : (h : List OpData) (cs : List CellData) (v : ℕ) → IsReplayed h cs
    → option_map (λ (c : CellData). c.name) (slice_get (shown_cells cs) v) ≡ option_map (λ (d : Cell). d.0) (slice_get (shown h) v)
shown_name h cs v is =
    same_name (slice_get (shown_cells cs) v)
    ∙ ap (λ (o : Option Cell). option_map (λ (d : Cell). d.0) o)
    (sym (slice_get-map cell_key (shown_cells cs) v) ∙ ap (λ (ds : List Cell). slice_get ds v) (replayed_shown h cs is))

-- nothing stands at a place exactly from the end on
pub none_past : {A B : Type 0} (f : A → B) (xs : List A) (v : ℕ) (o : Option B) → o ≡ option_map f (slice_get xs v)
    → IsNone o ↔ (length xs ≤ v)
none_past {A} {B} f xs v o e = (
  λ none. elim (slice_get_cases xs v).1 [
    | inl there ↦ absurd (true≢false (sym (ap (λ (r : Option B). is_some r) (e ∙ ap (λ (r : Option A). option_map f r) there.2)) ∙ none))
    | inr past ↦ past.0
  ],
  λ past. ap (λ (r : Option B). is_some r) (e ∙ ap (λ (r : Option A). option_map f r) (slice_get_past xs v past)),
)

pub no_name : (cs : List CellData) (v : ℕ) (o : Option ℕ) → IsSome o ↔ (v < length (shown_cells cs)) → o ≡ None
    → None ≡ option_map (λ (c : CellData). c.name) (slice_get (shown_cells cs) v)
no_name cs v o found none = elim (slice_get_cases (shown_cells cs) v).1 [
  | inl there ↦ absurd (true≢false (sym (found.1 there.1) ∙ ap (λ (r : Option ℕ). is_some r) none))
  | inr past ↦ sym (ap (λ (r : Option CellData). option_map (λ (c : CellData). c.name) r) past.1)
]

-- there are no more places of cells that pass than cells
pub places_few : (test : Cell → Bool) (n : ℕ) (cs : List Cell) → length (places_from test n cs) ≤ length cs
places_few test n [] = omega arith
places_few test n (c ∷ cs) =
    elim (test c) as (λ (b : Bool). length (if b then n ∷ places_from test (suc n) cs else places_from test (suc n) cs) ≤ suc (length cs)) [
      | true ↦ omega (arith, places_few test (suc n) cs)
      | false ↦ omega (arith, places_few test (suc n) cs)
    ]
