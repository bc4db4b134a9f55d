-- Rows of a family are rows of a family that holds it, and over a list with one member more.
use Rattle.std.proofs.Common.{◌≡◌, ℕ, zero, suc, ◌+◌, Bool, ◌⊎◌, inl, inr, List, [], ◌∷◌, ◌++◌, Contains, length, take, refl, sym, ap, subst, arith, length-append}
use Rattle.std.specs.Prelude.{Option, Some, None, IfSome, slice_get}
use Rattle.std.proofs.lemmas.List.{take-append-le}
use Rattle.std.proofs.lemmas.Option.{none-some}
use Rattle.op_name.specs.declared.member.Member.{Member}
use Rattle.op_name.specs.declared.member.Member.TheVariants.{Original}
use Rattle.context_diff.specs.Operations.{OpData}
use Rattle.ttf_form.specs.Families.{IsIn}
use Rattle.transform_rec.specs.Sets.{none, IsSubset, plus, plus_all}
use Rattle.transform_rec.specs.Family.{Family}
use Rattle.transform_rec.specs.Derived.{Derived, Holds}
use Rattle.transform_rec.specs.Derived.Derived.{at_base, by_step}
use Rattle.transform_rec.proofs.CallerLemmas.{in_left, in_right, same_set, plus_same, derived_moves}
use Rattle.transform_rec.specs.Executing.{AreFormsFrom}
use Rattle.form_rows.specs.Firsts.{AreFirstMembers}
use Rattle.form_rows.specs.RowSets.{IsRow, RowData, IsRowAt}
use Rattle.form_rows.specs.Kept.{IsAuthorRow, AreRows}
use Rattle.form_rows.specs.declared.first_members.FirstMembers.{FirstMembers}
use Rattle.form_rows.specs.declared.rows.AuthorRow.{AuthorRow}

stays_at : {A : Type 0} (xs ys : List A) (i : ℕ) (x : A) → slice_get xs i ≡ Some x → slice_get (xs ++ ys) i ≡ Some x
stays_at [] ys i x at = absurd (none-some x at)
stays_at (z ∷ zs) ys zero x at = at
stays_at (z ∷ zs) ys (suc i) x at = stays_at zs ys i x at

module _ {F : Type 0} (over : F → F → F) (IsInert : F → Type 0) (b c : Family F) (h : Holds b c) where
  derived_member : (m : Member) (C : Member → Bool) (f : F) → Derived over b m C f → IsIn m b.members
  derived_member m C f (at_base i s e) = i
  derived_member m C f (by_step D x g k i ne l s dg dk e) = derived_member m D g dg

  still_inert : (x : Member) (C : Member → Bool) (k : F) → Derived over b x C k → IsInert (b.form x) → IsInert (c.form x)
  still_inert x C k dk i = subst IsInert (h.form x (derived_member x C k dk)) i

  still_kept : (x : Member) (C : Member → Bool) (k : F) → Derived over b x C k → (IsInert (b.form x) → ⊥) → IsInert (c.form x) → ⊥
  still_kept x C k dk o i = o (subst IsInert (sym (h.form x (derived_member x C k dk))) i)

  row_grows : (xs : List Member) (C : Member → Bool) (fs : List F) → IsRow over IsInert b C xs fs → IsRow over IsInert c C xs fs
  row_grows [] C [] r = tt
  row_grows [] C (f ∷ fs) r = absurd r
  row_grows (x ∷ xs) C [] (inl a) = inl (a.0, row_grows xs C [] a.1)
  row_grows (x ∷ xs) C [] (inr q) =
      inr ((still_inert x C q.0.1.0 q.0.1.1 q.0.0, (q.0.1.0, derived_moves over b c h x C q.0.1.0 q.0.1.1)), row_grows xs (plus C x) [] q.1)
  row_grows (x ∷ xs) C (f ∷ fs) (inl a) = inl (a.0, row_grows xs C (f ∷ fs) a.1)
  row_grows (x ∷ xs) C (f ∷ fs) (inr (inl q)) =
      inr (inl (
        (still_inert x C q.0.1.0 q.0.1.1 q.0.0, (q.0.1.0, derived_moves over b c h x C q.0.1.0 q.0.1.1)),
        row_grows xs (plus C x) (f ∷ fs) q.1,
      ))
  row_grows (x ∷ xs) C (f ∷ fs) (inr (inr r)) =
      inr (inr ((still_kept x C f r.0.1 r.0.0, derived_moves over b c h x C f r.0.1), row_grows xs (plus C x) fs r.1))

  pub rows_grow : (xs : List Member) (rows : List (AuthorRow F)) → ((z : Member) → IsIn z xs → IsIn z b.members)
      → AreRows over IsInert b xs rows → AreRows over IsInert c xs rows
  rows_grow xs rows listed are k i =
      let a = are k i in
      let x : Member = Original k.last in
      let same =
      same_set (plus (b.context x) x) (plus (c.context x) x)
      (plus_same (b.context x) (c.context x) x (h.context x (listed x a.listed))) in
      let at = a.row in
      record {
        listed = a.listed;
        row = subst (λ (C : Member → Bool). IsRowAt over IsInert c C xs k.row) same
            (record { within = at.within; part = at.part; row = row_grows (take k.row.upto xs) (plus (b.context x) x) k.row.forms at.row });
      }

module _ {F : Type 0} (over : F → F → F) (IsInert : F → Type 0) (b : Family F) where
  row_longer : (C : Member → Bool) (xs : List Member) (m : Member) (r : RowData F) → IsRowAt over IsInert b C xs r
      → IsRowAt over IsInert b C (xs ++ m ∷ []) r
  row_longer C xs m r at =
      let size : length (xs ++ m ∷ []) ≡ length xs + 1 = length-append xs (m ∷ []) in
      let low = at.within in
      let same : take r.upto (xs ++ m ∷ []) ≡ take r.upto xs = take-append-le r.upto xs (m ∷ []) low in
      record {
        within = omega arith;
        part = subst (λ (l : List Member). IsSubset C (plus_all none l)) (sym same) at.part;
        row = subst (λ (l : List Member). IsRow over IsInert b C l r.forms) (sym same) at.row;
      }

  -- the rows over one member more
  pub rows_stay : (xs : List Member) (m : Member) (rows : List (AuthorRow F)) → AreRows over IsInert b xs rows
      → AreRows over IsInert b (xs ++ m ∷ []) rows
  rows_stay xs m rows are k i =
      let a = are k i in
      record {
        listed = in_left (Original k.last) xs (m ∷ []) a.listed;
        row =
            row_longer (plus (b.context (Original k.last)) (Original k.last)) xs m k.row a.row;
      }

  -- the rows after one more operation: those that were left, and that of its author
  pub rows_longer : (xs : List Member) (m : Member) (old left new : List (AuthorRow F)) (own : AuthorRow F) → m ≡ Original own.last
      → AreRows over IsInert b xs old
      → ((k : AuthorRow F) → Contains left k → Contains old k) → ((k : AuthorRow F) → Contains new k → Contains left k ⊎ (own ≡ k))
      → IsRowAt over IsInert b (plus (b.context m) m) (xs ++ m ∷ []) own.row → AreRows over IsInert b (xs ++ m ∷ []) new
  rows_longer xs m old left new own is are fewer more at k i =
      elim (more k i) [
        | inl j ↦ let a = are k (fewer k j) in
            record {
              listed = in_left (Original k.last) xs (m ∷ []) a.listed;
              row =
                  row_longer (plus (b.context (Original k.last)) (Original k.last)) xs m k.row a.row;
            }
        | inr e ↦ subst (λ (l : AuthorRow F). IsAuthorRow over IsInert b (xs ++ m ∷ []) l) e (record {
          listed = subst (λ (y : Member). IsIn y (xs ++ m ∷ [])) is (in_right m xs (m ∷ []) (inl refl));
          row = subst (λ (y : Member). IsRowAt over IsInert b (plus (b.context y) y) (xs ++ m ∷ []) own.row) is at;
        })
      ]

-- first members that were found are so in a longer history
pub firsts_grow : (h : List OpData) (o : OpData) (f : Option FirstMembers) → IfSome f (AreFirstMembers h)
    → IfSome f (AreFirstMembers (h ++ o ∷ []))
firsts_grow h o None are = are
firsts_grow h o (Some f) are =
    let within = are.within in
    let same : take f.upto (h ++ o ∷ []) ≡ take f.upto h = take-append-le f.upto h (o ∷ []) within in
    let size : length (h ++ o ∷ []) ≡ length h + 1 = length-append h (o ∷ []) in
    record {
      op = are.op;
      at = stays_at h (o ∷ []) f.place are.op are.at;
      inserts = λ p there insert. are.inserts p (subst (λ (l : List OpData). IsIn p l) same there) insert;
      within = omega (arith, within, size);
    }

-- there are as many executed forms as members
pub forms_count : {F : Type 0} (over : F → F → F) (b : Family F) (xs : List Member) (C : Member → Bool) (fs : List F)
    → AreFormsFrom over b C xs fs → length fs ≡ length xs
forms_count over b [] C [] r = refl
forms_count over b [] C (f ∷ fs) r = absurd r
forms_count over b (x ∷ xs) C [] r = absurd r
forms_count over b (x ∷ xs) C (f ∷ fs) r = ap suc (forms_count over b xs (plus C x) fs r.1)
