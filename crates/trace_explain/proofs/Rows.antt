-- Rows of lines: what the lines of a listing are about.
use Rattle.std.proofs.Common.{◌≡◌, ℕ, zero, suc, ◌+◌, ◌-◌, ◌≤◌, Bool, List, [], ◌∷◌, ◌++◌, length, inl, inr, refl, sym, ap, subst, ◌∙◌, arith, append_assoc}
use Rattle.std.specs.Prelude.{Option, Some, None, slice_get, if◌then◌else◌}
use Rattle.std.proofs.lemmas.Bool.{cases_Bool}
use Rattle.std.proofs.lemmas.List.{length-append}
use Rattle.op_name.specs.declared.member.Member.{Member}
use Rattle.context_vector.specs.Contexts.{ContextData, IsContext}
use Rattle.context_diff.specs.Operations.{OpData}
use Rattle.context_diff.specs.Histories.{IsValid}
use Rattle.context_diff.specs.Differences.{LastMayBeTakenOut}
use Rattle.form_cache.specs.Keys.{KeyData, key_eq, key_eq_decides}
use Rattle.ttf_form.specs.Forms.{form_over}
use Rattle.undo_group.specs.BaseForms.{base_form}
use Rattle.trace_explain.specs.declared.line.TraceLine.{TraceLine}
use Rattle.trace_explain.specs.declared.listing.Listed.{Listed}
use Rattle.trace_explain.specs.declared.row.Row.{Row}
use Rattle.trace_explain.specs.Traces.{AreLines, IsLine, IsRowOf, IsTrace, pair, context_before}
use Rattle.trace_explain.specs.Listings.{ListingData, IsTraceOf, Lists, base_line, based, left_of, no_lines, over_of, step_line, stepped, with_line}
use Rattle.trace_explain.specs.Listings.Lists.{there, at_base, by_step}
use Rattle.trace_explain.specs.Code.Tasks.{IsPair}
use Rattle.trace_explain.proofs.Smaller.{IsSmaller, smaller}
use Rattle.trace_explain.proofs.Turned.{same_Some}

-- ---- places of lists

get_left : {A : Type 0} (xs ys : List A) (i : ℕ) (x : A) → slice_get xs i ≡ Some x → slice_get (xs ++ ys) i ≡ Some x
get_left [] ys i x e = cc
get_left (y ∷ xs) ys zero x e = e
get_left (y ∷ xs) ys (suc i) x e = get_left xs ys i x e

get_end : {A : Type 0} (xs : List A) (x : A) → slice_get (xs ++ x ∷ []) (length xs) ≡ Some x
get_end [] x = refl
get_end (y ∷ xs) x = get_end xs x

pub row_left : (rows more : List Row) (n : ℕ) (r : Row) → IsRowOf rows n r → IsRowOf (rows ++ more) n r
row_left rows more n r i = (i.0, get_left rows more (n - 1) r i.1)

pub row_end : (rows : List Row) (n : ℕ) (r : Row) → n ≡ length rows + 1 → IsRowOf (rows ++ r ∷ []) n r
row_end rows n r e =
    let place : n - 1 ≡ length rows = omega arith in
    (omega arith, subst (λ (j : ℕ). slice_get (rows ++ r ∷ []) j ≡ Some r) (sym place) (get_end rows r))

-- ---- one line more

lines_more : (h : List OpData) (start : List Row) (ls : List TraceLine) (rows : List Row) (l : TraceLine) (r : Row)
    → AreLines h start ls rows → IsLine h rows l r → AreLines h start (ls ++ l ∷ []) (rows ++ r ∷ [])
lines_more h start [] rows l r e i = (r, subst (λ (x : List Row). IsLine h x l r) e i, ap (λ (x : List Row). x ++ r ∷ []) e)
lines_more h start (k ∷ ls) rows l r a i = (a.0, a.1, lines_more h (start ++ a.0 ∷ []) ls rows l r a.2 i)

-- the row of a listed pair
abbrev pub row_of : KeyData → Listed → Row
row_of k a = record { at = k; form = a.form }

-- the rows are those of the listing's lines, and each pair that is listed has its row
pub record AreRows (h : List OpData) (l : ListingData) (rows : List Row) : Type 0 where
  pub lines : AreLines h [] l.lines rows
  pub many : length rows ≡ length l.lines
  pub at : (k : KeyData) (a : Listed) → l.at k ≡ Some a → IsRowOf rows a.number (row_of k a)

rows_more : (h : List OpData) (l : ListingData) (rows : List Row) (k : KeyData) (line : TraceLine) (a : Listed) → AreRows h l rows
    → a.number ≡ length l.lines + 1 → IsLine h rows line (row_of k a) → AreRows h (with_line l k line a) (rows ++ row_of k a ∷ [])
rows_more h l rows k line a r n i = record {
  lines = lines_more h [] l.lines rows line (row_of k a) r.lines i;
  many = length-append rows (row_of k a ∷ []) ∙ (ap (λ (j : ℕ). j + 1) r.many ∙ sym (length-append l.lines (line ∷ [])));
  at = λ q b e. elim (cases_Bool (key_eq k q)) [
    | inl t ↦
        let here : Some a ≡ Some b = sym (ap (λ (c : Bool). if c then Some a else l.at q) t) ∙ e in
        subst (λ (p : KeyData). IsRowOf (rows ++ row_of k a ∷ []) b.number (row_of p b)) ((key_eq_decides k q).0 t)
        (subst (λ (c : Listed). IsRowOf (rows ++ row_of k a ∷ []) c.number (row_of k c)) (same_Some a b here)
        (row_end rows a.number (row_of k a) (n ∙ ap (λ (j : ℕ). j + 1) (sym r.many))))
    | inr t ↦ row_left rows (row_of k a ∷ []) b.number (row_of q b) (r.at q b (sym (ap (λ (c : Bool). if c then Some a else l.at q) t) ∙ e))
  ];
}

-- ---- listing

-- after a pair was listed from a listing with these rows
pub record AreLonger (h : List OpData) (k : KeyData) (n : ListingData) (a : Listed) (rows : List Row) : Type 0 where
  pub more : List Row
  pub rows_are : AreRows h n (rows ++ more)
  pub here : IsRowOf (rows ++ more) a.number (row_of k a)

no_more : (rows : List Row) → rows ++ [] ≡ rows
no_more [] = refl
no_more (r ∷ rows) = ap (λ (l : List Row). r ∷ l) (no_more rows)

module _ (law : LastMayBeTakenOut) (h : List OpData) (v : IsValid h) where
  longer_by : (k : KeyData) (l : ListingData) (rows more : List Row) (line : TraceLine) (a : Listed) (n : ListingData) (b : Listed)
      → AreRows h l (rows ++ more) → a.number ≡ length l.lines + 1 → IsLine h (rows ++ more) line (row_of k a) → n ≡ with_line l k line a
      → b ≡ a → AreLonger h k n b rows
  longer_by k l rows more line a n b r e i p q =
      let all = rows_more h l (rows ++ more) k line a r e i in
      let whole : (rows ++ more) ++ row_of k a ∷ [] ≡ rows ++ (more ++ row_of k a ∷ []) = append_assoc rows more (row_of k a ∷ []) in
      let end = row_end (rows ++ more) a.number (row_of k a) (e ∙ ap (λ (j : ℕ). j + 1) (sym r.many)) in
      subst (λ (c : Listed). AreLonger h k n c rows) (sym q) (subst (λ (m : ListingData). AreLonger h k m a rows) (sym p) (record {
        more = more ++ row_of k a ∷ [];
        rows_are = subst (λ (x : List Row). AreRows h (with_line l k line a) x) whole all;
        here = subst (λ (x : List Row). IsRowOf x a.number (row_of k a)) whole end;
      }))

  -- the line of a step
  step_right : (k : KeyData) (x : Member) (rows : List Row) (left over : Listed) (l : ListingData) → IsSmaller h k x
      → IsRowOf rows left.number (row_of (left_of k x) left) → IsRowOf rows over.number (row_of (over_of k x) over)
      → IsLine h rows (step_line h k left over) (row_of k (stepped h l left over))
  step_right k x rows left over l s a b = (
    row_of (left_of k x) left,
    row_of (over_of k x) over,
    a,
    b,
    record { member = refl; equal = refl; other = λ e. s.other (sym e); lacks = s.over.lacks; form = refl },
    λ i. record { at = pair k.member (s.again i); form = form_over left.form over.form },
  )

  pub longer : {l : ListingData} {k : KeyData} {n : ListingData} {a : Listed} → Lists h l k n a → IsContext k.context → IsPair h k
      → (rows : List Row) → AreRows h l rows → AreLonger h k n a rows
  longer {l = l} {k = k} {a = a} (there e p) is add rows r =
      subst (λ (m : ListingData). AreLonger h k m a rows) (sym p) (record {
        more = [];
        rows_are = subst (λ (x : List Row). AreRows h l x) (sym (no_more rows)) r;
        here = subst (λ (x : List Row). IsRowOf x a.number (row_of k a)) (sym (no_more rows)) (r.at k a e);
      })
  longer {l = l} {k = k} {n = n} {a = a} (at_base none c p q) is add rows r =
      longer_by k l rows [] (base_line h k) (based h l k) n a (subst (λ (x : List Row). AreRows h l x) (sym (no_more rows)) r) refl
      (add.known, refl, λ i. record { at = pair k.member (c i); form = base_form h k.member }) p q
  longer {l = l} {k = k} {n = n} {a = a} (by_step x one two left over none c last f g p q) is add rows r =
      let s = smaller law h v k is add x last in
      let first = longer f s.context s.left rows r in
      let second = longer g s.context s.over (rows ++ first.more) first.rows_are in
      let whole : (rows ++ first.more) ++ second.more ≡ rows ++ (first.more ++ second.more) = append_assoc rows first.more second.more in
      let left_row = row_left (rows ++ first.more) second.more left.number (row_of (left_of k x) left) first.here in
      let line = step_right k x ((rows ++ first.more) ++ second.more) left over two s left_row second.here in
      longer_by k two rows (first.more ++ second.more) (step_line h k left over) (stepped h two left over) n a
      (subst (λ (z : List Row). AreRows h two z) whole second.rows_are) refl
      (subst (λ (z : List Row). IsLine h z (step_line h k left over) (row_of k (stepped h two left over))) whole line) p q

-- ---- the last line

not_listed : {o : Option Listed} (a : Listed) → o ≡ Some a → o ≡ None → ⊥
not_listed a e f = cc

nothing_listed : (a : Listed) → ◌≡◌ {A = Option Listed} None (Some a) → ⊥
nothing_listed a e = cc

pub last_part : (xs : List Row) (r : Row) → 1 ≤ length xs → slice_get xs (length xs - 1) ≡ Some r
    → (front : List Row) × (xs ≡ front ++ r ∷ [])
last_part [] r l e = absurd (omega arith)
last_part (x ∷ []) r l e = ([], ap (λ (y : Row). y ∷ []) (same_Some x r e))
last_part (x ∷ (y ∷ ys)) r l e =
    let next : length (x ∷ (y ∷ ys)) - 1 ≡ suc (length (y ∷ ys) - 1) = omega arith in
    let there : slice_get (y ∷ ys) (length (y ∷ ys) - 1) ≡ Some r = subst (λ (j : ℕ). slice_get (x ∷ (y ∷ ys)) j ≡ Some r) next e in
    let rest = last_part (y ∷ ys) r (omega arith) there in
    (x ∷ rest.0, ap (λ (z : List Row). x ∷ z) rest.1)

number_is : (h : List OpData) {l : ListingData} {k : KeyData} {n : ListingData} {a : Listed} → l.at k ≡ None → Lists h l k n a
    → a.number ≡ length n.lines
number_is h {a = a} none (there e p) = absurd (not_listed a e none)
number_is h {l = l} {k = k} {n = n} {a = a} none (at_base none' c p q) =
    ap (λ (b : Listed). b.number) q ∙ (sym (length-append l.lines (base_line h k ∷ [])) ∙ ap (λ (m : ListingData). length m.lines) (sym p))
number_is h {k = k} {n = n} {a = a} none (by_step x one two left over none' c last f g p q) =
    ap (λ (b : Listed). b.number) q
    ∙ (sym (length-append two.lines (step_line h k left over ∷ [])) ∙ ap (λ (m : ListingData). length m.lines) (sym p))

no_rows : (h : List OpData) → AreRows h no_lines []
no_rows h = record { lines = refl; many = refl; at = λ k a e. absurd (nothing_listed a e) }

-- what the listing rule gives is a trace
pub listed_trace : LastMayBeTakenOut → (h : List OpData) → IsValid h → (m : Member) → IsContext (context_before h m)
    → IsPair h (pair m (context_before h m)) → (lines : List TraceLine) → IsTraceOf h m lines → IsTrace h m lines
listed_trace law h v m is add lines t =
    let all = longer law h v t.listed is add [] (no_rows h) in
    let number = number_is h refl t.listed in
    let many = all.rows_are.many in
    let here = all.here in
    let last : slice_get all.more (length all.more - 1) ≡ Some (row_of (pair m (context_before h m)) t.last) =
    subst (λ (j : ℕ). slice_get all.more (j - 1) ≡ Some (row_of (pair m (context_before h m)) t.last)) (number ∙ sym many) here.1 in
    let low : 1 ≤ length all.more = let one = here.0 in omega arith in
    let part = last_part all.more _ low last in
    record {
      earlier = part.0;
      last = row_of (pair m (context_before h m)) t.last;
      right = subst (λ (ls : List TraceLine). AreLines h [] ls (part.0 ++ row_of (pair m (context_before h m)) t.last ∷ []))
          (sym t.lines_are) (subst (λ (rows : List Row). AreLines h [] t.whole.lines rows) part.1 all.rows_are.lines);
      executed = refl;
    }

pub trace_of_listed : (h : List OpData) (m : Member) (l n : ListingData) (c : ContextData) (a : Listed) → l ≡ no_lines
    → c ≡ context_before h m → Lists h l (pair m c) n a → IsTraceOf h m n.lines
trace_of_listed h m l n c a e f g = record {
  whole = n;
  last = a;
  listed = subst (λ (d : ContextData). Lists h no_lines (pair m d) n a) f (subst (λ (x : ListingData). Lists h x (pair m c) n a) e g);
  lines_are = refl;
}
