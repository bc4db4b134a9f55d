-- What one turn of the work does.
use Rattle.std.proofs.Common.{◌≡◌, ◌≢◌, ℕ, zero, suc, ◌+◌, ◌<◌, ◌≤◌, Bool, List, [], ◌∷◌, ◌++◌, inl, inr, refl, sym, ap, subst, ◌∙◌, arith}
use Rattle.std.specs.Prelude.{Option, Some, None, length, if◌then◌else◌}
use Rattle.std.proofs.lemmas.Bool.{cases_Bool}
use Rattle.op_name.specs.declared.member.Member.{Member}
use Rattle.context_vector.specs.Contexts.{has}
use Rattle.context_vector.specs.Vectors.{lowered}
use Rattle.context_diff.specs.Operations.{OpData}
use Rattle.context_diff.specs.Bases.{base_context_of}
use Rattle.form_cache.specs.Keys.{KeyData, key_eq, key_eq_decides}
use Rattle.ttf_form.specs.Forms.{form_over}
use Rattle.transform_rec.specs.Family.{size}
use Rattle.transform_rec.specs.Histories.{family_in}
use Rattle.undo_group.specs.BaseForms.{base_form}
use Rattle.ttf_form.specs.declared.form.Form.{Form}
use Rattle.context_vector.specs.Contexts.{ContextData}
use Rattle.trace_explain.specs.Traces.{pair}
use Rattle.trace_explain.specs.declared.line.TraceLine.{TraceLine}
use Rattle.trace_explain.specs.declared.line.TraceLine.TheVariants.{Base, Step}
use Rattle.trace_explain.specs.declared.listing.Listed.{Listed}
use Rattle.trace_explain.specs.declared.work.Task.{Task}
use Rattle.trace_explain.specs.declared.work.Task.TheVariants.{List as Want, Join}
use Rattle.trace_explain.specs.Listings.{ListingData, IsLastBetween, Lists, base_line, based, left_of, listed_next, no_lines, over_of, step_line, stepped, with_base, with_line, with_step}
use Rattle.trace_explain.specs.Listings.Lists.{there, at_base, by_step}
use Rattle.trace_explain.specs.Code.Tasks.{turns_of, WorkData, AreDerived, CanBeDone, Gives, IsFormAt, IsPair, IsTurn, IsJoined, turns, all_turns}
use Rattle.undo_group.specs.Bounds.{IsShortHistory}
use Rattle.trace_explain.proofs.Smaller.{IsSmaller, smaller_size}
use Rattle.trace_explain.proofs.DerivedForms.{base_derived, joined_derived}

-- ---- the turns that a pair takes

pub turns_least : (n : ℕ) → 1 ≤ turns n
unfolding turns
turns_least zero = omega arith
turns_least (suc n) = let r = turns_least n in omega arith

turns_more : (a b : ℕ) → a ≤ b → turns a ≤ turns b
unfolding turns
turns_more zero b l = turns_least b
turns_more (suc a) zero l = absurd (omega arith)
turns_more (suc a) (suc b) l = let r = turns_more a b (omega arith) in omega arith

turns_fall : (a b : ℕ) → a < b → turns a + turns a + 2 ≤ turns b
unfolding turns
turns_fall a zero l = absurd (omega arith)
turns_fall a (suc b) l = let r = turns_more a b (omega arith) in omega arith

-- ---- one line more

pub same_Some : {A : Type 0} (x y : A) → Some x ≡ Some y → x ≡ y
same_Some x y e = cc

pub derived_more : (h : List OpData) (l : ListingData) (k : KeyData) (line : TraceLine) (a : Listed) → AreDerived h l → IsFormAt h k a.form
    → AreDerived h (with_line l k line a)
derived_more h l k line a d f q b e =
    elim (cases_Bool (key_eq k q)) [
      | inl t ↦
          let here : Some a ≡ Some b = sym (ap (λ (c : Bool). if c then Some a else l.at q) t) ∙ e in
          subst (λ (r : KeyData). IsFormAt h r b.form) ((key_eq_decides k q).0 t)
          (subst (λ (c : Listed). IsFormAt h k c.form) (same_Some a b here) f)
      | inr t ↦ d q b (sym (ap (λ (c : Bool). if c then Some a else l.at q) t) ∙ e)
    ]

-- ---- turns

module _ (h : List OpData) (s : IsShortHistory h) where
  pub turn_found : (k : KeyData) (old new : WorkData) (l : ListingData) (a : Listed) → AreDerived h l
      → CanBeDone h (Want k ∷ old.tasks) old.done → l.at k ≡ Some a → new ≡ record { tasks = old.tasks; done = a ∷ old.done }
      → IsTurn h (Want k) old l new l
  turn_found k old new l a d can e n =
      subst (λ (w : WorkData). IsTurn h (Want k) old l w l) (sym n) (record {
        derived = d;
        can = can.1 a (d k a e);
        gives = λ end b g. (l, a, there e refl, g);
        less = let low = turns_least (size (family_in h (base_form h)) (has k.context)) in omega arith;
      })

  pub turn_based : (k : KeyData) (old new : WorkData) (l n : ListingData) → AreDerived h l → CanBeDone h (Want k ∷ old.tasks) old.done
      → l.at k ≡ None → k.context ≡ base_context_of h k.member → n ≡ with_base h l k
      → new ≡ record { tasks = old.tasks; done = based h l k ∷ old.done } → IsTurn h (Want k) old l new n
  turn_based k old new l n d can none e p q =
      let f : IsFormAt h k (base_form h k.member) = base_derived h s.valid k can.0.known e in
      subst (λ (w : WorkData). IsTurn h (Want k) old l w n) (sym q)
      (subst (λ (m : ListingData). IsTurn h (Want k) old l (record { tasks = old.tasks; done = based h l k ∷ old.done }) m) (sym p)
      (record {
        derived = derived_more h l k (base_line h k) (based h l k) d f;
        can = can.1 (based h l k) f;
        gives = λ end b g. (with_base h l k, based h l k, at_base none e refl refl, g);
        less = let low = turns_least (size (family_in h (base_form h)) (has k.context)) in omega arith;
      }))

  pub turn_split : (k : KeyData) (x : Member) (old new : WorkData) (l : ListingData) → AreDerived h l
      → CanBeDone h (Want k ∷ old.tasks) old.done → l.at k ≡ None → k.context ≢ base_context_of h k.member → IsLastBetween h k x
      → IsSmaller h k x
      → new ≡ record { tasks = Want (left_of k x) ∷ (Want (over_of k x) ∷ (Join k x ∷ old.tasks)); done = old.done }
      → IsTurn h (Want k) old l new l
  turn_split k x old new l d can none more last small n =
      subst (λ (w : WorkData). IsTurn h (Want k) old l w l) (sym n) (record {
        derived = d;
        can = (
          small.left,
          λ a da. (
            small.over,
            λ b db. (record { left = da; over = db; other = small.other; whole = small.whole }, λ e de. can.1 e de),
          ),
        );
        gives = λ end e g. (
          with_step h g.3.0 k g.1 g.3.1,
          stepped h g.3.0 g.1 g.3.1,
          by_step x g.0 g.3.0 g.1 g.3.1 none more last g.2 g.3.2 refl refl,
          g.3.3,
        );
        less = let fall =
            turns_fall (size (family_in h (base_form h)) (has (lowered k.context x))) (size (family_in h (base_form h)) (has k.context))
            (smaller_size h k x small) in omega arith;
      })

  pub turn_joined : (k : KeyData) (x : Member) (a b : Listed) (done : List Listed) (old new : WorkData) (l n : ListingData) → AreDerived h l
      → old.done ≡ b ∷ (a ∷ done) → CanBeDone h (Join k x ∷ old.tasks) old.done → n ≡ with_step h l k a b
      → new ≡ record { tasks = old.tasks; done = stepped h l a b ∷ done } → IsTurn h (Join k x) old l new n
  turn_joined k x a b done old new l n d two can p q =
      let here : CanBeDone h (Join k x ∷ old.tasks) (b ∷ (a ∷ done)) =
      subst (λ (ls : List Listed). CanBeDone h (Join k x ∷ old.tasks) ls) two can in
      let f : IsFormAt h k (form_over a.form b.form) = joined_derived h s k x a.form b.form here.0 in
      subst (λ (w : WorkData). IsTurn h (Join k x) old l w n) (sym q)
      (subst (λ (m : ListingData). IsTurn h (Join k x) old l (record { tasks = old.tasks; done = stepped h l a b ∷ done }) m) (sym p)
      (record {
        derived = derived_more h l k (step_line h k a b) (stepped h l a b) d f;
        can = here.1 (stepped h l a b) f;
        gives = λ end e g. subst (λ (ls : List Listed). Gives h (Join k x ∷ old.tasks) l ls end e) (sym two) g;
        less = omega arith;
      }))

  -- the two lines that a step needs are there
  pub has_two : (k : KeyData) (x : Member) (ts : List Task) (done : List Listed) → CanBeDone h (Join k x ∷ ts) done → 2 ≤ length done
  has_two k x ts [] can = absurd can
  has_two k x ts (b ∷ []) can = absurd can
  has_two k x ts (b ∷ (a ∷ done)) can = omega arith

  -- what the step of the two lines that were put last includes
  pub joined_forms : (k : KeyData) (x : Member) (a b : Listed) (ts : List Task) (done rest : List Listed) → done ≡ b ∷ (a ∷ rest)
      → CanBeDone h (Join k x ∷ ts) done → IsJoined h k x a.form b.form
  joined_forms k x a b ts done rest two can =
      let here : CanBeDone h (Join k x ∷ ts) (b ∷ (a ∷ rest)) = subst (λ (ls : List Listed). CanBeDone h (Join k x ∷ ts) ls) two can in
      here.0

-- the listing after a line was pushed
pub pushed : (l n : ListingData) (k : KeyData) (line : TraceLine) (a : Listed) → n.lines ≡ l.lines ++ line ∷ []
    → ((q : KeyData) → n.at q ≡ (if key_eq k q then Some a else l.at q)) → n ≡ with_line l k line a
pushed l n k line a e f = λ i. record { lines = e i; at = λ q. f q i }

pub base_pushed : (h : List OpData) (l n : ListingData) (k : KeyData) (m : Member) (f : Form) (a : Listed) → m ≡ k.member
    → f ≡ base_form h m → a ≡ listed_next l f → n.lines ≡ l.lines ++ Base m f ∷ []
    → ((q : KeyData) → n.at q ≡ (if key_eq k q then Some a else l.at q)) → n ≡ with_base h l k
base_pushed h l n k m f a em ef ea lines at =
    let form : f ≡ base_form h k.member = ef ∙ ap (base_form h) em in
    let listed : a ≡ based h l k = ea ∙ ap (listed_next l) form in
    pushed l n k (Base m f) a lines at ∙ (λ i. with_line l k (Base (em i) (form i)) (listed i))

pub step_pushed : (h : List OpData) (l n : ListingData) (k : KeyData) (a b : Listed) (m : Member) (f : Form) (e : Listed) → m ≡ k.member
    → f ≡ form_over a.form b.form → e ≡ listed_next l f → n.lines ≡ l.lines ++ Step a.number b.number m f ∷ []
    → ((q : KeyData) → n.at q ≡ (if key_eq k q then Some e else l.at q)) → n ≡ with_step h l k a b
step_pushed h l n k a b m f e em ef ee lines at =
    let listed : e ≡ stepped h l a b = ee ∙ ap (listed_next l) ef in
    pushed l n k (Step a.number b.number m f) e lines at ∙ (λ i. with_line l k (Step a.number b.number (em i) (ef i)) (listed i))

-- the work after a line was put
pub line_put : (old mid new : WorkData) (a b : Listed) (done : List Listed) → mid.tasks ≡ old.tasks → mid.done ≡ done → a ≡ b
    → new ≡ record { tasks = mid.tasks; done = a ∷ mid.done } → new ≡ record { tasks = old.tasks; done = b ∷ done }
line_put old mid new a b done t d e n = n ∙ (λ i. record { tasks = t i; done = e i ∷ d i })

-- the work after the tasks of a step were put
pub tasks_put : (k : KeyData) (x m : Member) (c d : ContextData) (old one two new : WorkData) → m ≡ k.member → c ≡ lowered k.context x
    → d ≡ lowered k.context x → one ≡ record { tasks = Join k x ∷ old.tasks; done = old.done }
    → two ≡ record { tasks = Want (pair x d) ∷ one.tasks; done = one.done }
    → new ≡ record { tasks = Want (pair m c) ∷ two.tasks; done = two.done }
    → new ≡ record { tasks = Want (left_of k x) ∷ (Want (over_of k x) ∷ (Join k x ∷ old.tasks)); done = old.done }
tasks_put k x m c d old one two new em ec ed e1 e2 e3 =
    e3
    ∙ ((λ i. record { tasks = Want (pair (em i) (ec i)) ∷ (e2 i).tasks; done = (e2 i).done })
    ∙ (λ i. record { tasks = Want (left_of k x) ∷ (Want (pair x (ed i)) ∷ (e1 i).tasks); done = (e1 i).done }))

pub last_of_key : (h : List OpData) (k : KeyData) (m x : Member) (c : ContextData) → m ≡ k.member → c ≡ k.context
    → IsLastBetween h (pair m c) x → IsLastBetween h k x
last_of_key h k m x c e f l = subst (λ (q : KeyData). IsLastBetween h q x) (λ i. record { member = e i; context = f i }) l

-- ---- the loop of turns

module _ (h : List OpData) where
  pub work_first : (l : ListingData) (k : KeyData) (made work : WorkData) → made ≡ record { tasks = []; done = [] }
      → work ≡ record { tasks = Want k ∷ made.tasks; done = made.done } → IsPair h k
      → CanBeDone h work.tasks work.done × ((end : ListingData) (e : Listed) → Gives h work.tasks l work.done end e → Lists h l k end e)
  work_first l k made work e f pair_added =
      let is : work ≡ record { tasks = Want k ∷ []; done = [] } = f ∙ (λ i. record { tasks = Want k ∷ (e i).tasks; done = (e i).done }) in (
        subst (λ (w : WorkData). CanBeDone h w.tasks w.done) (sym is) (pair_added, λ a d. (a, refl)),
        λ end a g. only l k end a (subst (λ (w : WorkData). Gives h w.tasks l w.done end a) is g),
      )
    where
      one_line : (a b : Listed) → ◌≡◌ {A = List Listed} (a ∷ []) (b ∷ []) → a ≡ b
      one_line a b e = cc

      only : (l : ListingData) (k : KeyData) (end : ListingData) (a : Listed) → Gives h (Want k ∷ []) l [] end a → Lists h l k end a
      only l k end a g =
          subst (λ (n : ListingData). Lists h l k n a) (sym g.3.0) (subst (λ (b : Listed). Lists h l k g.0 b) (one_line g.1 a g.3.1) g.2)

  pub taken_can : (t : Task) (ts us : List Task) (done left : List Listed) → ts ≡ t ∷ us → left ≡ done → CanBeDone h ts done
      → CanBeDone h (t ∷ us) left
  taken_can t ts us done left e f c =
      subst (λ (ls : List Listed). CanBeDone h (t ∷ us) ls) (sym f) (subst (λ (xs : List Task). CanBeDone h xs done) e c)

  pub taken_gives : (l n : ListingData) (a : Listed) (t : Task) (ts us : List Task) (done left : List Listed) → ts ≡ t ∷ us → left ≡ done
      → Gives h (t ∷ us) l left n a → Gives h ts l done n a
  taken_gives l n a t ts us done left e f g =
      subst (λ (xs : List Task). Gives h xs l done n a) (sym e) (subst (λ (ls : List Listed). Gives h (t ∷ us) l ls n a) f g)

  pub fewer_turns : (t : Task) (ts us : List Task) (m : ℕ) → ts ≡ t ∷ us → m < turns_of h t + all_turns h us → m < all_turns h ts
  fewer_turns t ts us m e less = subst (λ (xs : List Task). m < all_turns h xs) (sym e) less

  pub work_ended : (l n : ListingData) (k : KeyData) (ts : List Task) (done : List Listed) → ts ≡ [] → CanBeDone h ts done
      → ((end : ListingData) (e : Listed) → Gives h ts n done end e → Lists h l k end e) → (a : Listed) × Lists h l k n a
  work_ended l n k ts done e c g =
      let last = subst (λ (xs : List Task). CanBeDone h xs done) e c in
      (last.0, g n last.0 (subst (λ (xs : List Task). Gives h xs n done n last.0) (sym e) (refl, last.1)))

pub no_line_derived : (h : List OpData) (l : ListingData) → l ≡ no_lines → AreDerived h l
no_line_derived h l e k a t = absurd (nothing a (sym (ap (λ (m : ListingData). m.at k) e) ∙ t))
  where
    nothing : (a : Listed) → ◌≡◌ {A = Option Listed} None (Some a) → ⊥
    nothing a e = cc
