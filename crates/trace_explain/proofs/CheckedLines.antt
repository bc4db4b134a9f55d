-- Lines that are checked one after the other.
use Rattle.std.proofs.Common.{◌≡◌, Bool, ℕ, ◌+◌, ◌<◌, ◌≤◌, List, [], ◌∷◌, ◌++◌, length, get_or, drop, sym, ap, subst, ◌∙◌, arith}
use Rattle.std.specs.Prelude.{Result, Ok, Err, IfOk, OnErr}
use Rattle.std.proofs.lemmas.List.{drop_more, drop_all, length-append}
use Rattle.op_name.specs.declared.member.Member.{Member}
use Rattle.context_vector.specs.Contexts.{has, raised}
use Rattle.context_vector.specs.Vectors.{VectorData}
use Rattle.context_diff.specs.Operations.{OpData}
use Rattle.context_diff.specs.Histories.{context_of_all, is_known, IsValid}
use Rattle.context_diff.proofs.CallerLemmas.{have_known}
use Rattle.trace_explain.specs.declared.line.TraceLine.{TraceLine}
use Rattle.trace_explain.specs.declared.line.TraceLine.TheVariants.{Base, Step}
use Rattle.trace_explain.specs.declared.row.Row.{Row}
use Rattle.trace_explain.specs.Traces.{AreLines, IsLine, IsRowOf, IsTrace, context_before, pair}
use Rattle.trace_explain.specs.Code.Tasks.{IsFormAt}
use Rattle.trace_explain.specs.Code.Checked.{AreDerivedRows, EndsAt}
use Rattle.trace_explain.proofs.Turned.{same_Some}
use Rattle.trace_explain.proofs.OneTrace.{last_once}
use Rattle.trace_explain.proofs.Rows.{last_part, row_end}
use Rattle.trace_explain.proofs.ExecutedForms.{derived_end, derived_none}

-- a line says one thing
line_once : (h : List OpData) (rows : List Row) (l : TraceLine) (r q : Row) → IsLine h rows l r → IsLine h rows l q → r ≡ q
line_once h rows (Base m f) r q i j = i.2 ∙ sym j.2
line_once h rows (Step left over m f) r q i j =
    let a : i.0 ≡ j.0 = same_Some i.0 j.0 (sym i.2.1 ∙ j.2.1) in
    let b : i.1 ≡ j.1 = same_Some i.1 j.1 (sym i.3.1 ∙ j.3.1) in
    i.5 ∙ ((λ t. record { at = pair m (raised (a t).at.context (b t).at.member); form = f }) ∙ sym j.5)

-- the first lines are right, with these rows: all lines are right exactly if the others are, after these rows
pub record AreRightUpTo (h : List OpData) (lines : List TraceLine) (rows : List Row) (i : ℕ) : Type 0 where
  pub derived : AreDerivedRows h rows
  pub forth : (all : List Row) → AreLines h rows (drop i lines) all → AreLines h [] lines all
  pub back : (all : List Row) → AreLines h [] lines all → AreLines h rows (drop i lines) all
  pub few : length rows ≤ i

module _ (h : List OpData) (lines : List TraceLine) where
  pub right_first : (rows : List Row) → rows ≡ [] → AreRightUpTo h lines rows 0
  right_first rows e =
      subst (λ (x : List Row). AreRightUpTo h lines x 0) (sym e)
      (record { derived = derived_none h; forth = λ all a. a; back = λ all a. a; few = omega arith })

  next_line : (i : ℕ) (l : TraceLine) → i < length lines → l ≡ get_or lines i l → drop i lines ≡ l ∷ drop (i + 1) lines
  next_line i l less e = drop_more lines i l less ∙ ap (λ (x : TraceLine). x ∷ drop (i + 1) lines) (sym e)

  pub right_next : (rows more : List Row) (i : ℕ) (l : TraceLine) (r : Row) → i < length lines → l ≡ get_or lines i l
      → AreRightUpTo h lines rows i → IsLine h rows l r → IsFormAt h r.at r.form → more ≡ rows ++ r ∷ [] → AreRightUpTo h lines more (i + 1)
  right_next rows more i l r less e w line d p =
      let next = next_line i l less e in
      subst (λ (x : List Row). AreRightUpTo h lines x (i + 1)) (sym p) (record {
        derived = derived_end h rows r w.derived d;
        forth = λ all a. w.forth all (subst (λ (x : List TraceLine). AreLines h rows x all) (sym next) (r, line, a));
        back = λ all a.
            let b = subst (λ (x : List TraceLine). AreLines h rows x all) next (w.back all a) in
            subst (λ (q : Row). AreLines h (rows ++ q ∷ []) (drop (i + 1) lines) all) (line_once h rows l b.0 r b.1 line) b.2;
        few = omega (arith, length-append rows (r ∷ []), w.few);
      })

  pub wrong_line : (m : Member) (rows : List Row) (i : ℕ) (l : TraceLine) → i < length lines → l ≡ get_or lines i l
      → AreRightUpTo h lines rows i → ((r : Row) → IsLine h rows l r → ⊥) → IsTrace h m lines → ⊥
  wrong_line m rows i l less e w wrong t =
      let b = subst (λ (x : List TraceLine). AreLines h rows x (t.earlier ++ t.last ∷ [])) (next_line i l less e)
      (w.back (t.earlier ++ t.last ∷ []) t.right) in
      wrong b.0 b.1

  pub right_to_end : (m : Member) (rows : List Row) (i : ℕ) → length lines ≤ i → AreRightUpTo h lines rows i → EndsAt h m rows
      → IsTrace h m lines
  right_to_end m rows i past w e = record {
    earlier = e.earlier;
    last = e.last;
    right = w.forth (e.earlier ++ e.last ∷ [])
        (subst (λ (x : List TraceLine). AreLines h rows x (e.earlier ++ e.last ∷ [])) (sym (drop_all i lines past)) (sym e.whole));
    executed = e.executed;
  }

  pub right_from_end : (m : Member) (rows : List Row) (i : ℕ) → length lines ≤ i → AreRightUpTo h lines rows i → IsTrace h m lines
      → EndsAt h m rows
  right_from_end m rows i past w t = record {
    earlier = t.earlier;
    last = t.last;
    whole = sym (subst (λ (x : List TraceLine). AreLines h rows x (t.earlier ++ t.last ∷ [])) (drop_all i lines past)
        (w.back (t.earlier ++ t.last ∷ []) t.right));
    executed = t.executed;
  }

-- ---- the last row

pub ends_row : (h : List OpData) (m : Member) (rows : List Row) (e : EndsAt h m rows) → IsRowOf rows (length rows) e.last
ends_row h m rows e =
    subst (λ (x : List Row). IsRowOf x (length x) e.last) (sym e.whole)
    (row_end e.earlier (length (e.earlier ++ e.last ∷ [])) e.last (length-append e.earlier (e.last ∷ [])))

pub ends_from : (h : List OpData) (m : Member) (rows : List Row) (r : Row) → IsRowOf rows (length rows) r
    → r.at ≡ pair m (context_before h m) → EndsAt h m rows
ends_from h m rows r i e = let part = last_part rows r i.0 i.1 in record { earlier = part.0; last = r; whole = part.1; executed = e }

pub ends_at_row : (h : List OpData) (m : Member) (rows : List Row) (r : Row) → IsRowOf rows (length rows) r → EndsAt h m rows
    → r.at ≡ pair m (context_before h m)
ends_at_row h m rows r i e =
    let part = last_part rows r i.0 i.1 in
    subst (λ (q : Row). q.at ≡ pair m (context_before h m)) (last_once e.earlier part.0 e.last r (sym e.whole ∙ part.1)) e.executed

-- what a book has
pub known_from : (h : List OpData) (have v : VectorData) (m : Member) (b : Bool) → IsValid h → have.set ≡ context_of_all h → v ≡ have
    → b ≡ has v.set m → b ≡ is_known h m
known_from h have v m b valid members e t = t ∙ (ap (λ (w : VectorData). has w.set m) e ∙ have_known h have.set valid members m)

-- a fact holds where an error is answered, too
pub on_err_of : {A E P : Type 0} (r : Result A E) → P → OnErr r P
on_err_of (Ok x) p = tt
on_err_of (Err e) p = p

-- a fact about the value of a result, from another one
pub if_ok_map : {A E : Type 0} (r : Result A E) (P Q : A → Type 0) → ((x : A) → P x → Q x) → IfOk r P → IfOk r Q
if_ok_map (Ok x) P Q f p = f x p
if_ok_map (Err e) P Q f p = p
