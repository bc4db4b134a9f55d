-- The forms of a valid history, executed in its order, give its fixed replay, shown as the history says.
use Rattle.std.proofs.Common.{◌≡◌, ℕ, true, false, List, [], ◌∷◌, map, filter, encode_utf8_all, inl, inr, refl, ap, sym, subst, ◌∙◌}
use Rattle.std.proofs.lemmas.Bool.{cases_Bool}
use Rattle.op_name.specs.NameData.{NameData}
use Rattle.op_name.specs.declared.member.Member.{Member}
use Rattle.context_diff.specs.Operations.{OpData}
use Rattle.context_diff.specs.Histories.{members_in, IsValid}
use Rattle.context_diff.specs.Replays.{fixed_order, insertions_in, is_earlier, replay, is_shown, shown, character_in, characters_of, text_of}
use Rattle.ttf_form.specs.declared.form.Form.{Form}
use Rattle.ttf_form.specs.Forms.{form_over}
use Rattle.ttf_form.specs.Cells.{CellData, cell_key, cells_of, applied, cell_shown, chars_where}
use Rattle.ttf_form.specs.Families.{IsIn}
use Rattle.transform_rec.specs.Sets.{none}
use Rattle.transform_rec.specs.Executing.{AreFormsFrom, executed, deriving_of}
use Rattle.transform_rec.specs.Histories.{family_in}
use Rattle.transform_rec.proofs.CallerLemmas.{computed_forms, computed_list, At, empty_state, any_order, book_run}
use Rattle.transform_rec.specs.Lists.{SameElements}
use Rattle.undo_group.specs.BaseForms.{AreBaseForms}
use Rattle.fixed_replay.specs.Replayed.{IsReplayed, AreCharacters, ShowsTheText}
use Rattle.fixed_replay.specs.Insertions.{insertions_of}
use Rattle.fixed_replay.proofs.Characters.{characters_beside}
use Rattle.fixed_replay.proofs.Walk.{replay_along}
use Rattle.fixed_replay.proofs.Editor.{setting_of}
use Rattle.fixed_replay.proofs.Sorting.{sort_by-sorted}
use Rattle.fixed_replay.proofs.SameText.{earlier_asym, earlier_trans, insertions_comparable}
use Rattle.fixed_replay.proofs.ValidOriginals.{rank_in, told_apart}
use Rattle.fixed_replay.proofs.FixedList.{fixed_cells}
use Rattle.fixed_replay.proofs.Reading.{replayed}
use Rattle.fixed_replay.proofs.ValidFamilies.{valid_family, valid_own_names, valid_ranks, valid_groups, valid_is_family, same_inserts}

pub executed_replayed : (h : List OpData) → IsValid h → (form : Member → Form) → AreBaseForms h form → (fs : List Form)
    → AreFormsFrom form_over (family_in h form) none (members_in h) fs → IsReplayed h (executed applied [] fs)
executed_replayed h v form forms fs df =
    let b = family_in h form in
    let known = valid_family h v form forms in
    let own = valid_own_names h v form forms in
    let w = setting_of b known own in
    let st : At w none [] = empty_state w [] refl in
    let rising = sort_by-sorted is_earlier earlier_asym earlier_trans (insertions_in h) (insertions_comparable h (told_apart h v)) in
    let cells =
    fixed_cells b known own (rank_in h v) (valid_ranks h v form forms) (valid_groups h v form forms) (fixed_order h) rising
    (same_inserts h v form forms) fs st df in
    replayed b known own (valid_groups h v form forms) h (valid_is_family h v form forms) fs st df (sym cells)

-- the computed forms of a history are its forms
pub computed_executed : (h : List OpData) → IsValid h → (form : Member → Form) → AreBaseForms h form
    → AreFormsFrom form_over (family_in h form) none (members_in h) (computed_forms form_over (family_in h form) (members_in h) none)
computed_executed h v form forms =
    let b = family_in h form in
    let known = valid_family h v form forms in
    computed_list (deriving_of (setting_of b known (valid_own_names h v form forms))) (members_in h) none (book_run b known.causal)

pub history_forms : (h : List OpData) → IsValid h → (form : Member → Form) → AreBaseForms h form
    → (fs : List Form) × AreFormsFrom form_over (family_in h form) none (members_in h) fs
history_forms h v form forms = (computed_forms form_over (family_in h form) (members_in h) none, computed_executed h v form forms)

-- whatever causal order the members are executed in
pub any_order_replayed : (h : List OpData) → IsValid h → (form : Member → Form) → AreBaseForms h form → (ms : List Member) (fs : List Form)
    → SameElements ms (members_in h) → AreFormsFrom form_over (family_in h form) none ms fs → IsReplayed h (executed applied [] fs)
any_order_replayed h v form forms ms fs same df =
    let b = family_in h form in
    let known = valid_family h v form forms in
    let own = valid_own_names h v form forms in
    let w = setting_of b known own in
    let gs = history_forms h v form forms in
    let one = any_order w ms (members_in h) none [] fs gs.0 (empty_state w [] refl) same df gs.1 in
    subst (λ (cs : List CellData). IsReplayed h cs) (sym one) (executed_replayed h v form forms gs.0 gs.1)

-- the replay along any causal list
pub any_list_replayed : (h : List OpData) (form : Member → Form) (rank : NameData → ℕ) (ms : List Member) (fs : List Form) → IsValid h
    → AreBaseForms h form → AreFormsFrom form_over (family_in h form) none ms fs
    → replay [] [] (insertions_of (family_in h form) rank ms) ≡ cells_of (executed applied [] fs)
any_list_replayed h form rank ms fs v forms df =
    let b = family_in h form in
    let known = valid_family h v form forms in
    let own = valid_own_names h v form forms in
    let w = setting_of b known own in
    replay_along b known own rank ms fs (empty_state w [] refl) df

-- ---- what is shown of such cells

shown_part : (h : List OpData) (all cs : List CellData) → IsReplayed h all → ((d : CellData) → IsIn d cs → IsIn d all)
    → map cell_key (filter cell_shown cs) ≡ filter (is_shown h) (cells_of cs)
shown_part h all [] r i = refl
shown_part h all (d ∷ ds) r i =
    let ih = shown_part h all ds r (λ e j. i e (inr j)) in
    let same = r.shown d (i d (inl refl)) in
    elim (cases_Bool (cell_shown d)) [
      | inl k ↦ let l : is_shown h (cell_key d) ≡ true = sym same ∙ k in rw (k, l, ih) refl
      | inr k ↦ let l : is_shown h (cell_key d) ≡ false = sym same ∙ k in rw (k, l, ih) refl
    ]

pub replayed_shown : (h : List OpData) (cs : List CellData) → IsReplayed h cs → cells_of (filter cell_shown cs) ≡ shown h
replayed_shown h cs r = shown_part h cs cs r (λ d i. i) ∙ ap (filter (is_shown h)) r.cells

pub replayed_characters : (h : List OpData) (cs : List CellData) → IsReplayed h cs
    → map (character_in h) (cells_of (filter cell_shown cs)) ≡ characters_of h
replayed_characters h cs r = ap (map (character_in h)) (replayed_shown h cs r)

pub replayed_chars_beside : (h : List OpData) (cs : List CellData) → IsReplayed h cs → (ts : List ℕ) → AreCharacters h cs ts
    → chars_where cell_shown cs ts ≡ characters_of h
replayed_chars_beside h cs r ts is = characters_beside h cell_shown cs ts is ∙ replayed_characters h cs r

pub replayed_text : (h : List OpData) (cs : List CellData) → IsReplayed h cs → (ts : List ℕ) → AreCharacters h cs ts
    → encode_utf8_all (chars_where cell_shown cs ts) ≡ text_of h
replayed_text h cs r ts is = ap encode_utf8_all (replayed_chars_beside h cs r ts is)

pub shows_the_text : (h : List OpData) (cs : List CellData) → IsReplayed h cs → ShowsTheText h cs
shows_the_text h cs r = record {
  cells = replayed_shown h cs r;
  characters = replayed_characters h cs r;
  beside = replayed_chars_beside h cs r;
  text = replayed_text h cs r;
}
