-- Cells of a history that a context lacks.
use Rattle.std.proofs.Common.{◌≡◌, ℕ, zero, suc, ◌+◌, ◌-◌, ◌<◌, ◌≤◌, Bool, true, false, not, ◌&&◌, List, [], ◌∷◌, inl, inr, if◌then◌else◌, take, length, refl, sym, ap, ◌∙◌, subst, arith}
use Rattle.std.specs.Prelude.{Some, Contains, slice_get}
use Rattle.std.proofs.lemmas.Bool.{cases_Bool, both_ways}
use Rattle.std.proofs.lemmas.List.{take_all}
use Rattle.std.proofs.lemmas.Option.{same_Some, slice_get_within, get_or_from_slice_get}
use Rattle.context_vector.specs.Contexts.{ContextData, has}
use Rattle.context_diff.specs.Operations.{OpData, inserting, deleting, undoing, member_of, context_of, cells_put, is_insert}
use Rattle.context_diff.specs.Histories.{context_of_all, cells_in, is_known, IsValid}
use Rattle.context_diff.proofs.CallerLemmas.{complete}
use Rattle.ttf_form.specs.Families.{IsIn}
use Rattle.undo_group.specs.Laws.Members.{contains_in, in_contains, known_as, placed_in}
use Rattle.form_rows.specs.Firsts.{IsLastContext}
use Rattle.form_rows.specs.Lacking.{all_but_last, lacking}

-- an insert of a valid history puts at least one cell
pub some_put : (h : List OpData) → IsValid h → (o : OpData) → IsIn o h → is_insert o ≡ true → 1 ≤ cells_put o
some_put h v (inserting n p text c) i e =
    ((complete h v).formed (inserting n p text c) (in_contains (inserting n p text c) h i)).in_range.2.some
some_put h v (deleting n p c) i e = absurd (both_ways false refl e)
some_put h v (undoing a t g c) i e = absurd (both_ways false refl e)

-- an operation that is no insert puts none
pub none_put : (o : OpData) → is_insert o ≡ false → cells_put o ≡ 0
none_put (inserting n p text c) e = absurd (both_ways true e refl)
none_put (deleting n p c) e = refl
none_put (undoing a t g c) e = refl

-- what a context lacks of one operation
abbrev pub lacked_of : ContextData → OpData → ℕ
lacked_of c o = if has c (member_of o) then 0 else cells_put o

pub lacked_none : (c : ContextData) (o : OpData) → has c (member_of o) ≡ true → lacked_of c o ≡ 0
lacked_none c o e = ap (λ (b : Bool). if b then 0 else cells_put o) e

pub lacked_all : (c : ContextData) (o : OpData) → has c (member_of o) ≡ false → lacked_of c o ≡ cells_put o
lacked_all c o e = ap (λ (b : Bool). if b then 0 else cells_put o) e

pub lacked_cover : (c : ContextData) (o : OpData) → is_insert o ≡ false → lacked_of c o ≡ 0
lacked_cover c o e = elim (cases_Bool (has c (member_of o))) [
  | inl there ↦ lacked_none c o there
  | inr out ↦ lacked_all c o out ∙ none_put o e
]

-- an insert that the context lacks, and any other operation
pub lacked_insert : (c : ContextData) (o : OpData) → (is_insert o && not (has c (member_of o))) ≡ true → lacked_of c o ≡ cells_put o
lacked_insert c o e = elim (cases_Bool (has c (member_of o))) [
  | inl there ↦ absurd (both_ways (is_insert o && not (has c (member_of o)))
      (ap (λ (b : Bool). is_insert o && not b) there ∙ and_false (is_insert o)) e)
  | inr out ↦ lacked_all c o out
]
  where
    and_false : (b : Bool) → (b && false) ≡ false
    and_false true = refl
    and_false false = refl

pub lacked_other : (c : ContextData) (o : OpData) → (is_insert o && not (has c (member_of o))) ≡ false → lacked_of c o ≡ 0
lacked_other c o e = elim (cases_Bool (is_insert o)) [
  | inl insert ↦ elim (cases_Bool (has c (member_of o))) [
    | inl there ↦ lacked_none c o there
    | inr out ↦ absurd (both_ways (is_insert o && not (has c (member_of o))) e
        (ap (λ (b : Bool). b && not (has c (member_of o))) insert ∙ ap not out))
  ]
  | inr cover ↦ lacked_cover c o cover
]

nothing_behind : (n : ℕ) → n ≡ n + 0
nothing_behind n = omega arith

nothing_more : (n : ℕ) → n ≡ 0 + n
nothing_more n = omega arith

one_or_other : (c a : Bool) (n : ℕ) → a ≡ true → (if a then n else 0) ≡ (if c then n else 0) + (if c then 0 else n)
one_or_other true a n h = ap (λ (b : Bool). if b then n else 0) h ∙ nothing_behind n
one_or_other false a n h = ap (λ (b : Bool). if b then n else 0) h ∙ nothing_more n

pub lacking_rest : (h : List OpData) (a c : ContextData) → ((o : OpData) → IsIn o h → has a (member_of o) ≡ true)
    → cells_in h a ≡ cells_in h c + lacking h c
lacking_rest [] a c k = refl
lacking_rest (o ∷ os) a c k =
    let ih = lacking_rest os a c (λ p i. k p (inr i)) in
    let one = one_or_other (has c (member_of o)) (has a (member_of o)) (cells_put o) (k o (inl refl)) in
    omega (arith, ih, one)

pub lacking_none : (h : List OpData) (c : ContextData) → ((o : OpData) → IsIn o h → is_insert o ≡ true → 1 ≤ cells_put o)
    → lacking h c ≡ 0 → (o : OpData) → IsIn o h → is_insert o ≡ true → has c (member_of o) ≡ true
lacking_none [] c some e o i h = absurd i
lacking_none (p ∷ ps) c some e o (inl same) h =
    subst (λ (q : OpData). has c (member_of q) ≡ true) (sym same)
    (elim (cases_Bool (has c (member_of p))) [
      | inl there ↦ there
      | inr out ↦ absurd (omega (arith, e, lacked_all c p out, some p (inl refl) (ap is_insert (sym same) ∙ h)))
    ])
lacking_none (p ∷ ps) c some e o (inr i) h = lacking_none ps c (λ q j. some q (inr j)) (omega (arith, e)) o i h

-- one operation more, of which it lacks so many cells
pub lacking_step : (h : List OpData) (c : ContextData) (i j : ℕ) → i ≡ j + 1 → i ≤ length h → (n : ℕ)
    → ((o : OpData) → slice_get h j ≡ Some o → n ≡ lacked_of c o) → lacking (take i h) c ≡ lacking (take j h) c + n
lacking_step [] c i j e le n told = absurd (omega arith)
lacking_step (o ∷ os) c i zero e le n told =
    let one : i ≡ suc zero = omega arith in
    ap (λ (k : ℕ). lacking (take k (o ∷ os)) c) one ∙ omega (arith, told o refl)
lacking_step (o ∷ os) c i (suc j) e le n told =
    let more : i ≡ suc (suc j) = omega arith in
    let long : i ≤ suc (length os) = le in
    let ih = lacking_step os c (suc j) j (omega arith) (omega arith) n told in
    let rest : lacked_of c o + lacking (take (suc j) os) c ≡ (lacked_of c o + lacking (take j os) c) + n = omega (arith, ih) in
    ap (λ (k : ℕ). lacking (take k (o ∷ os)) c) more ∙ rest

-- what a context lacks of a whole valid history
pub lacking_whole : (h : List OpData) → IsValid h → (a c : ContextData) → a ≡ context_of_all h → (x y s : ℕ) → x ≡ cells_in h a
    → y ≡ cells_in h c → s ≡ x - y → s ≡ lacking h c
lacking_whole h v a c is x y s ex ey es =
    let all : (o : OpData) → IsIn o h → has a (member_of o) ≡ true = λ o i.
    ap (λ (l : ContextData). has l (member_of o)) is ∙ ((complete h v).holds (member_of o) ∙ known_as o (member_of o) h i refl) in
    let rest = lacking_rest h a c all in
    omega (arith, rest)

-- an operation of a valid history isn't in its own context
last_lacks : (h : List OpData) → IsValid h → (o : OpData) → IsIn o h → has (context_of o) (member_of o) ≡ false
last_lacks h v o i =
    let p = placed_in h v o i in
    elim (cases_Bool (has (context_of o) (member_of o))) [
      | inl there ↦ absurd (both_ways (is_known p.before (member_of o)) p.next.new (p.next.ready (member_of o) there))
      | inr out ↦ out
    ]

pub contains_at : {A : Type 0} (xs : List A) (i : ℕ) (x : A) → slice_get xs i ≡ Some x → Contains xs x
contains_at xs i x at = (i, slice_get_within xs i x at, get_or_from_slice_get xs i x x at)

-- what the context of the last operation lacks before it, where s is what it lacks of the whole history, and n what that one puts
pub lacking_before : (h : List OpData) → IsValid h → (c : ContextData) → IsLastContext h c → (n : ℕ)
    → ((o : OpData) → slice_get h (length h - 1) ≡ Some o → n ≡ cells_put o) → (s r : ℕ) → s ≡ lacking h c → r ≡ s - n
    → r ≡ lacking (all_but_last h) c
lacking_before h v c last n told s r es er =
    let within : length h - 1 < length h = slice_get_within h (length h - 1) last.op last.at in
    let lacks : has c (member_of last.op) ≡ false =
    ap (λ (k : ContextData). has k (member_of last.op)) (sym last.context)
    ∙ last_lacks h v last.op (contains_in last.op h (contains_at h (length h - 1) last.op last.at)) in
    let whole : take (length h) h ≡ h = take_all (length h) h (omega arith) in
    let step = lacking_step h c (length h) (length h - 1) (omega arith) (omega arith) n (λ o at.
    let same : last.op ≡ o = same_Some last.op o (sym last.at ∙ at) in
    told o at ∙ sym (lacked_all c o (ap (λ (p : OpData). has c (member_of p)) (sym same) ∙ lacks))) in
    let all : lacking (take (length h) h) c ≡ lacking h c = ap (λ (k : List OpData). lacking k c) whole in
    omega (arith, step, all, es, er)
