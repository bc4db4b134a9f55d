-- The past text of two stretches of cells, one after the other, and undone names whose original a set hasn't.
use Rattle.std.proofs.Common.{◌≡◌, ℕ, ◌+◌, ◌<◌, ◌≤◌, Bool, true, false, if◌then◌else◌, List, [], ◌∷◌, ◌++◌, length, map, take, drop, get_or, encode_utf8_all, inl, inr, refl, sym, ap, ap₂, ◌∙◌, arith}
use Rattle.std.specs.Prelude.{Some, None, slice_get}
use Rattle.std.proofs.lemmas.Bool.{cases_Bool}
use Rattle.std.proofs.lemmas.List.{length-take-le, take_more, get_or-drop, drop-drop}
use Rattle.std.proofs.lemmas.Option.{get_or_from_slice_get}
use Rattle.std.proofs.lemmas.Str.{encodes-append}
use Rattle.op_name.specs.NameData.{NameData, name_eq}
use Rattle.op_name.specs.declared.member.Member.TheVariants.{Original}
use Rattle.op_name.proofs.CallerLemmas.{name_same}
use Rattle.context_vector.specs.Contexts.{ContextData, HasNoStray, has, entry_in}
use Rattle.context_diff.proofs.CallerLemmas.{has_generation}
use Rattle.ttf_form.specs.Cells.{CellData, chars_where}
use Rattle.ttf_form.specs.Laws.Texts.{chars_where-append}
use Rattle.tombstone_text.specs.Chunks.{flat, joined}
use Rattle.tombstone_text.proofs.CallerLemmas.{beside_count, beside_taken}
use Rattle.visible_view.proofs.CallerLemmas.{flat_more, joined_more}
use Rattle.past_view.specs.Pasts.{first_stray}
use Rattle.past_view.specs.Code.PastCells.{is_past, past_text}

past_text-append : (c : ContextData) (xs ys : List CellData) (ts us : List ℕ) → length ts ≡ length xs
    → past_text c (xs ++ ys) (ts ++ us) ≡ past_text c xs ts ++ past_text c ys us
past_text-append c xs ys ts us long =
    ap encode_utf8_all (chars_where-append (is_past c) xs ys ts us long)
    ∙ encodes-append (chars_where (is_past c) xs ts) (chars_where (is_past c) ys us)

-- one cell more of a chunk, with its character
pub past_text_more : (c : ContextData) (xs : List CellData) (ts : List ℕ) (k : ℕ) (x : CellData) (t : ℕ) → length ts ≡ length xs
    → k < length xs → x ≡ get_or xs k x → t ≡ get_or ts k t
    → past_text c (take (k + 1) xs) (take (k + 1) ts) ≡ past_text c (take k xs) (take k ts) ++ past_text c (x ∷ []) (t ∷ [])
past_text_more c xs ts k x t long lt is at =
    let few = length-take-le k xs (omega (arith, lt)) in
    let beside = length-take-le k ts (omega (arith, lt, long)) in
    ap₂ (past_text c) (take_more xs k x lt ∙ ap (λ (y : CellData). take k xs ++ y ∷ []) (sym is))
    (take_more ts k t (omega (arith, lt, long)) ∙ ap (λ (y : ℕ). take k ts ++ y ∷ []) (sym at))
    ∙ past_text-append c (take k xs) (x ∷ []) (take k ts) (t ∷ []) (omega (arith, few, beside))

-- where so many cells of a chunk were read, the first that is left stands at that place, and those behind it are left next
pub left_first : (xs left : List CellData) (k : ℕ) (x : CellData) → left ≡ drop k xs → slice_get left 0 ≡ Some x → x ≡ get_or xs k x
left_first xs left k x e at =
    let same : k + 0 ≡ k = omega arith in
    sym (get_or_from_slice_get left 0 x x at) ∙ ap (λ (l : List CellData). get_or l 0 x) e ∙ get_or-drop k xs 0 x
    ∙ ap (λ n. get_or xs n x) same

pub left_rest : (xs left new : List CellData) (k : ℕ) → left ≡ drop k xs → new ≡ drop 1 left → new ≡ drop (k + 1) xs
left_rest xs left new k e less = less ∙ ap (λ (l : List CellData). drop 1 l) e ∙ drop-drop 1 k xs

-- one chunk more, with its characters
pub past_chunk_more : (c : ContextData) (cs : List (List CellData)) (ts : List (List ℕ)) (i : ℕ) → map length ts ≡ map length cs
    → i < length cs
    → past_text c (flat (take (i + 1) cs)) (joined (take (i + 1) ts))
    ≡ past_text c (flat (take i cs)) (joined (take i ts)) ++ past_text c (get_or cs i []) (get_or ts i [])
past_chunk_more c cs ts i beside lt =
    ap₂ (past_text c) (flat_more cs i lt) (joined_more ts i (omega (arith, lt, beside_count ts cs beside)))
    ∙ past_text-append c (flat (take i cs)) (get_or cs i []) (joined (take i ts)) (get_or ts i []) (beside_taken ts cs i beside)

-- ---- undone names that are read from the front

pub stray_here : (c : ContextData) (left : List (NameData × ℕ)) (x : NameData × ℕ) → Some x ≡ slice_get left 0
    → has c (Original x.0) ≡ false → first_stray c left ≡ Some x.0
stray_here c [] x at e = let none : Some x ≡ None = at in absurd (cc)
stray_here c (y ∷ ys) x at e =
    let is : x ≡ y = let same : Some x ≡ Some y = at in cc in
    let out : has c (Original y.0) ≡ false = ap (λ (z : NameData × ℕ). has c (Original z.0)) (sym is) ∙ e in
    ap (λ (b : Bool). if b then first_stray c ys else Some y.0) out ∙ ap (λ (z : NameData × ℕ). Some z.0) (sym is)

pub stray_next : (c : ContextData) (left new : List (NameData × ℕ)) (x : NameData × ℕ) → Some x ≡ slice_get left 0 → new ≡ drop 1 left
    → has c (Original x.0) ≡ true → first_stray c left ≡ first_stray c new
stray_next c [] new x at less e = let none : Some x ≡ None = at in absurd (cc)
stray_next c (y ∷ ys) new x at less e =
    let is : x ≡ y = let same : Some x ≡ Some y = at in cc in
    let there : has c (Original y.0) ≡ true = ap (λ (z : NameData × ℕ). has c (Original z.0)) (sym is) ∙ e in
    ap (λ (b : Bool). if b then first_stray c ys else Some y.0) there ∙ ap (first_stray c) (sym less)

pub stray_end : (c : ContextData) (left : List (NameData × ℕ)) → None ≡ slice_get left 0 → first_stray c left ≡ None
stray_end c [] at = refl
stray_end c (y ∷ ys) at = let some : None ≡ Some y = at in absurd (cc)

none_stray : (c : ContextData) (es : List (NameData × ℕ)) → first_stray c es ≡ None → (n : NameData) → 1 ≤ entry_in es n
    → has c (Original n) ≡ true
none_stray c [] e n some = absurd (omega arith)
none_stray c (y ∷ ys) e n some = elim (cases_Bool (has c (Original y.0))) [
  | inl there ↦
      let rest : first_stray c ys ≡ None = sym (ap (λ (b : Bool). if b then first_stray c ys else Some y.0) there) ∙ e in
      elim (cases_Bool (name_eq y.0 n)) [
        | inl same ↦ ap (λ (m : NameData). has c (Original m)) (sym (name_same y.0 n same)) ∙ there
        | inr other ↦
            let skip : entry_in (y ∷ ys) n ≡ entry_in ys n = ap (λ (b : Bool). if b then y.1 else entry_in ys n) other in
            none_stray c ys rest n (omega (arith, skip, some))
      ]
  | inr out ↦
      let found : Some y.0 ≡ None = sym (ap (λ (b : Bool). if b then first_stray c ys else Some y.0) out) ∙ e in
      absurd (cc)
]

-- where no undone name is stray, each undo entry has its original
pub no_stray : (c : ContextData) → first_stray c c.entries ≡ None → HasNoStray c
no_stray c e n g there =
    let range = has_generation c n g there in
    none_stray c c.entries e n (omega (arith, range.0, range.1))
