-- What is left to be listed: a stack of tasks, and the lines of the pairs that were listed for them.
use Rattle.std.specs.Prelude.{◌≡◌, ◌≢◌, ℕ, zero, suc, ◌+◌, ◌<◌, List, [], ◌∷◌, Some}
use Rattle.op_name.specs.declared.member.Member.{Member}
use Rattle.context_vector.specs.Contexts.{has}
use Rattle.context_vector.specs.Vectors.{lowered}
use Rattle.context_diff.specs.Operations.{OpData}
use Rattle.ttf_form.specs.declared.form.Form.{Form}
use Rattle.ttf_form.specs.Forms.{form_over}
use Rattle.form_cache.specs.Keys.{KeyData}
use Rattle.transform_rec.specs.Sets.{SameSet, plus}
use Rattle.transform_rec.specs.Derived.{Derived}
use Rattle.transform_rec.specs.Family.{size}
use Rattle.transform_rec.specs.Histories.{family_in, MayBeAddedTo}
use Rattle.undo_group.specs.BaseForms.{base_form}
use Rattle.trace_explain.specs.declared.listing.Listed.{Listed}
use Rattle.trace_explain.specs.declared.work.Task.{Task}
use Rattle.trace_explain.specs.declared.work.Task.TheVariants.{List as Want, Join}
use Rattle.trace_explain.specs.Listings.{ListingData, Lists, left_of, over_of, stepped, with_step}

-- the tasks that are left, the first one first, and the lines that were listed for them, the last one first
pub record WorkData : Type 0 where
  pub tasks : List Task
  pub done : List Listed

-- the most turns that it takes to list a pair with so many members in its context
unfoldable pub turns : ℕ → ℕ
turns zero = 1
turns (suc n) = turns n + turns n + 2

module _ (h : List OpData) where
  -- f is a derived form of the pair's member at the pair's context
  abbrev pub IsFormAt : KeyData → Form → Type 0
  IsFormAt k f = Derived form_over (family_in h (base_form h)) k.member (has k.context) f

  -- the pair's member may be added to its context
  abbrev pub IsPair : KeyData → Type 0
  IsPair k = MayBeAddedTo h k.context k.member

  -- each listed form is a derived form
  abbrev pub AreDerived : ListingData → Type 0
  AreDerived l = (k : KeyData) (a : Listed) → l.at k ≡ Some a → IsFormAt k a.form

  -- f and g are derived forms of the pair's member and of x at the context without x, and x is another member
  pub record IsJoined (k : KeyData) (x : Member) (f g : Form) : Type 0 where
    pub left : IsFormAt (left_of k x) f
    pub over : IsFormAt (over_of k x) g
    pub other : k.member ≢ x
    pub whole : SameSet (has k.context) (plus (has (lowered k.context x)) x)

  -- the tasks, the first one first, can be done with these lines at hand, the last one first, and leave one line
  abbrev pub CanBeDone : List Task → List Listed → Type 0
  CanBeDone [] done = (a : Listed) × (done ≡ a ∷ [])
  CanBeDone (Want k ∷ ts) done = IsPair k × ((a : Listed) → IsFormAt k a.form → CanBeDone ts (a ∷ done))
  CanBeDone (Join k x ∷ ts) [] = ⊥
  CanBeDone (Join k x ∷ ts) (b ∷ []) = ⊥
  CanBeDone (Join k x ∷ ts) (b ∷ (a ∷ done)) =
      IsJoined k x a.form b.form × ((e : Listed) → IsFormAt k e.form → CanBeDone ts (e ∷ done))

  -- once the tasks are done from the one listing, with these lines at hand, there is the other one, and this line
  abbrev pub Gives : List Task → ListingData → List Listed → ListingData → Listed → Type 0
  Gives [] l done n e = (n ≡ l) × (done ≡ e ∷ [])
  Gives (Want k ∷ ts) l done n e = (mid : ListingData) × (a : Listed) × Lists h l k mid a × Gives ts mid (a ∷ done) n e
  Gives (Join k x ∷ ts) l [] n e = ⊥
  Gives (Join k x ∷ ts) l (b ∷ []) n e = ⊥
  Gives (Join k x ∷ ts) l (b ∷ (a ∷ done)) n e = Gives ts (with_step h l k a b) (stepped h l a b ∷ done) n e

  -- the most turns that the tasks take
  abbrev pub turns_of : Task → ℕ
  turns_of (Want k) = turns (size (family_in h (base_form h)) (has k.context))
  turns_of (Join k x) = 1

  abbrev pub all_turns : List Task → ℕ
  all_turns [] = 0
  all_turns (t ∷ ts) = turns_of t + all_turns ts

  -- a task was done: the tasks that are left can be done, they give what was to be given, and they take fewer turns
  pub record IsTurn (t : Task) (old : WorkData) (l : ListingData) (new : WorkData) (n : ListingData) : Type 0 where
    pub derived : AreDerived n
    pub can : CanBeDone new.tasks new.done
    pub gives : (end : ListingData) (e : Listed) → Gives new.tasks n new.done end e → Gives (t ∷ old.tasks) l old.done end e
    pub less : all_turns new.tasks < turns_of t + all_turns old.tasks
