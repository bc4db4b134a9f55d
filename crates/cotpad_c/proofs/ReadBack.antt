-- An anchor that has a place at a site is read back as the anchor that was told.
use Rattle.std.proofs.Common.{◌≡◌, ℕ, ◌<◌, ◌≤◌, true, false, Bool, ◌||◌, if◌then◌else◌, nat_lt, List, [], ◌∷◌, Option, Some, None, option_map, length, map, inl, inr, refl, sym, ap, ap₂, ◌∙◌, subst, arith, true≢false}
use Rattle.std.specs.Prelude.{Contains}
use Rattle.std.proofs.lemmas.Bool.{cases_Bool, and_parts, ltb-true}
use Rattle.std.proofs.lemmas.Bool.Decides.{nat_tests}
use Rattle.std.proofs.lemmas.Option.{none-some}
use Rattle.op_name.specs.NameData.{NameData, IsName, name_eq}
use Rattle.op_name.specs.declared.limits.TheConstants.{LETTERS}
use Rattle.op_name.specs.declared.name.TheConstants.{SITES, NUMBERS}
use Rattle.op_name.proofs.CallerLemmas.{name_same}
use Rattle.context_diff.specs.Operations.{OpData, inserting, deleting, undoing, IsWellFormed}
use Rattle.context_diff.specs.Histories.{IsValid}
use Rattle.context_diff.specs.Replays.{Cell}
use Rattle.context_diff.proofs.CallerLemmas.{complete, contains_here, contains_later}
use Rattle.tombstone_text.specs.declared.cell.CellId.{CellId}
use Rattle.site_anchors.specs.declared.anchors.Anchor.{Anchor}
use Rattle.site_anchors.specs.declared.anchors.Anchor.TheVariants.{Start, End, After, Before}
use Rattle.site_anchors.specs.Anchors.{cell_at, puts, has_cell, shown_before, shown_up_to, where_had, place_told}
use Rattle.cotpad_c.specs.declared.kinds.TheConstants.{AFTER, BEFORE}
use Rattle.cotpad_c.specs.declared.anchors.CotpadAnchor.{CotpadAnchor}
use Rattle.cotpad_c.specs.Anchors.{is_cell, cell_told, cell_given, anchor_told, anchor_given, place_number, place_of_any, places_given}
use Rattle.cotpad_c.specs.Code.{nowhere, anchor_or, anchor_or_nowhere}

-- the numbers of a cell are in their ranges
record Fits (c : Cell) : Type 0 where
  name : IsName c.0.site c.0.number
  offset : c.1 < LETTERS

-- those of a cell that an operation puts
put_fits : (o : OpData) (c : Cell) → IsWellFormed o → puts c o ≡ true → Fits c
put_fits (inserting n p text k) c f is =
    let parts = and_parts (name_eq n c.0) (nat_lt c.1 (length text)) is in
    let below : c.1 < length text = ltb-true c.1 (length text) parts.1 in
    let most : length text ≤ LETTERS = f.in_range.2.most in
    record {
      name = subst (λ (m : NameData). IsName m.site m.number) (name_same n c.0 parts.0) f.in_range.0;
      offset = omega (arith, below, most);
    }
put_fits (deleting n p k) c f is = absurd (grind (arith, nat_tests, is))
put_fits (undoing a t g k) c f is = absurd (true≢false (sym is))

-- those of each cell of a history
had_fits : (h : List OpData) (c : Cell) → ((o : OpData) → Contains h o → IsWellFormed o) → has_cell h c ≡ true → Fits c
had_fits [] c formed has = absurd (true≢false (sym has))
had_fits (o ∷ os) c formed has = elim (cases_Bool (puts c o)) [
  | inl hit ↦ put_fits o c (formed o (contains_here o os)) hit
  | inr miss ↦ had_fits os c (λ p there. formed p (contains_later o os p there)) (sym (ap (λ (b : Bool). b || has_cell os c) miss) ∙ has)
]

-- a cell that has a place is had
told_had : (h : List OpData) (c : Cell) (n v : ℕ) → where_had h c n ≡ Some v → has_cell h c ≡ true
told_had h c n v is = elim (cases_Bool (has_cell h c)) [
  | inl has ↦ has
  | inr lacks ↦ absurd (none-some v (sym (ap (λ (b : Bool). if b then Some n else None) lacks) ∙ is))
]

-- and read back
cell_back : (h : List OpData) (k : ℕ) (id : CellId) → IsValid h → has_cell h (cell_at id) ≡ true → cell_given (cell_told k id) ≡ Some id
cell_back h k id valid has =
    let fits = had_fits h (cell_at id) (complete h valid).formed has in
    let site : id.name.site < SITES = fits.name.0 in
    let least : 1 ≤ id.name.number = fits.name.1 in
    let most : id.name.number ≤ NUMBERS = fits.name.2 in
    let offset : id.offset < LETTERS = fits.offset in
    let is : is_cell (cell_told k id) ≡ true = grind (arith, nat_tests, site, least, most, offset) in
    ap (λ (b : Bool). if b then Some id else None) is

pub read_back : (h : List OpData) (a : Anchor) (v : ℕ) → IsValid h → place_told h a ≡ Some v → anchor_given (anchor_told a) ≡ Some a
read_back h Start v valid told = refl
read_back h End v valid told = refl
read_back h (After id) v valid told =
    ap (option_map (λ i. After i)) (cell_back h AFTER id valid (told_had h (cell_at id) (shown_up_to h (cell_at id)) v told))
read_back h (Before id) v valid told =
    ap (option_map (λ i. Before i)) (cell_back h BEFORE id valid (told_had h (cell_at id) (shown_before h (cell_at id)) v told))

-- ---- many anchors

-- no history has the cell that stands for what is no anchor
nowhere_lacks : (h : List OpData) → IsValid h → has_cell h (cell_at nowhere) ≡ false
nowhere_lacks h valid = elim (cases_Bool (has_cell h (cell_at nowhere))) [
  | inl has ↦ let past = (had_fits h (cell_at nowhere) (complete h valid).formed has).offset in absurd (omega (arith, past))
  | inr lacks ↦ lacks
]

-- so the anchor that stands for it has no place
no_place : (h : List OpData) (o : Option Anchor) → IsValid h → place_told h (anchor_or o) ≡ place_of_any h o
no_place h None valid =
    ap (λ (b : Bool). if b then Some (shown_up_to h (cell_at nowhere)) else None) (nowhere_lacks h valid)
no_place h (Some a) valid = refl

-- what is read of the places of all of them
pub many_told : (h : List OpData) (given : List CotpadAnchor) → IsValid h
    → map place_number (map (place_told h) (map anchor_or_nowhere given)) ≡ places_given h given
many_told h [] valid = refl
many_told h (a ∷ others) valid =
    ap₂ (λ (o : Option ℕ) (vs : List ℕ). place_number o ∷ vs) (no_place h (anchor_given a) valid) (many_told h others valid)
