-- One verdict over two histories after which an operation is judged alike.
use Rattle.std.proofs.Common.{◌≡◌, ℕ, true, inl, inr, List, refl, sym, ◌∙◌, arith}
use Rattle.std.specs.Prelude.{Some, None, Option}
use Rattle.op_name.specs.NameData.{NameData}
use Rattle.op_name.specs.declared.member.Member.TheVariants.{Original}
use Rattle.context_diff.specs.Operations.{OpData, inserting, deleting, undoing, member_of, context_of, is_original, IsWellFormed}
use Rattle.context_diff.specs.Histories.{LacksNothing, HasPlace, IsValid}
use Rattle.site_answers.specs.declared.verdict.Verdict.{Verdict}
use Rattle.site_answers.specs.declared.verdict.Verdict.TheVariants.{Repeat, Forged, Waits, NotClosed, PlaceOut, Integrated}
use Rattle.flat_history.specs.Alike.{AreJudgedAlike}
use Rattle.cot_site.specs.Verdicts.{verdict_of, IsRepeat, HasOther, IsForgery, IsNew, place_in, IsVerdict}
use Rattle.cot_site.proofs.CallerLemmas.{verdicts_exact}

-- the same the other way round
pub alike_back : (g q : List OpData) (o : OpData) → AreJudgedAlike g q o → AreJudgedAlike q g o
alike_back g q o a = record {
  members = λ m. sym (a.members m);
  generations = λ t. sym (a.generations t);
  holders = λ p is. ((a.holders p is).1, (a.holders p is).0);
  covered = λ e s. ((a.covered e s).1, (a.covered e s).0);
  cells = λ e. sym (a.cells e);
}

repeat_on : (g q : List OpData) (o : OpData) → AreJudgedAlike g q o → IsRepeat g o → IsRepeat q o
repeat_on g q (inserting n p text c) a r = (a.holders (inserting n p text c) refl).0 r
repeat_on g q (deleting n p c) a r = (a.holders (deleting n p c) refl).0 r
repeat_on g q (undoing u t k c) a r = let same = a.generations t in omega arith

other_on : (g q : List OpData) (o : OpData) (n : NameData) → AreJudgedAlike g q o → member_of o ≡ Original n → HasOther g o n
    → HasOther q o n
other_on g q o n a name r = record {
  other = r.other;
  there = (a.holders r.other (r.same_name ∙ sym name)).0 r.there;
  same_name = r.same_name;
  differs = r.differs;
}

forgery_on : (g q w : List OpData) (o : OpData) (n : NameData) → AreJudgedAlike g q o → IsForgery g w o n → IsForgery q w o n
forgery_on g q w o n a r = record { name = r.name; known = elim r.known [ inl x ↦ inl (other_on g q o n a r.name x) | inr x ↦ inr x ] }

new_on : (g q w : List OpData) (o : OpData) → AreJudgedAlike g q o → IsNew g w o → IsNew q w o
new_on g q w o a r = record {
  no_repeat = λ x. r.no_repeat (repeat_on q g o (alike_back g q o a) x);
  no_forgery = λ n x. r.no_forgery n (forgery_on q g w o n (alike_back g q o a) x);
}

ready_on : (g q : List OpData) (o : OpData) → AreJudgedAlike g q o → LacksNothing g (context_of o) → LacksNothing q (context_of o)
ready_on g q o a r m e = sym (a.members m) ∙ r m e

place_on : (g q : List OpData) (o : OpData) → AreJudgedAlike g q o → HasPlace g o → HasPlace q o
place_on g q (inserting n p text c) a fits = let same = a.cells refl in omega arith
place_on g q (deleting n p c) a fits = let same = a.cells refl in omega arith
place_on g q (undoing u t k c) a fits = tt

-- what names a place is an original
placed_original : (o : OpData) (p : ℕ) → place_in o ≡ Some p → is_original o ≡ true
placed_original (inserting n q text c) p e = refl
placed_original (deleting n q c) p e = refl
placed_original (undoing a t g c) p e = absurd (none_some p e)
  where
    none_some : (p : ℕ) → ◌≡◌ {A = Option ℕ} None (Some p) → ⊥
    none_some p e = cc

-- the words of a verdict over the one history are those over the other
verdict_on : (g q w : List OpData) (o : OpData) → AreJudgedAlike g q o → (v : Verdict) → IsVerdict g w o v → IsVerdict q w o v
verdict_on g q w o a Repeat r = repeat_on g q o a r
verdict_on g q w o a (Forged n) r = (λ x. r.0 (repeat_on q g o (alike_back g q o a) x), forgery_on g q w o n a r.1)
verdict_on g q w o a (Waits m) r = (
  new_on g q w o a r.0,
  record {
    named = r.1.named;
    missing = sym (a.members m) ∙ r.1.missing;
    first = λ x named missing. r.1.first x named (a.members x ∙ missing);
  },
)
verdict_on g q w o a (NotClosed s) r = (
  new_on g q w o a r.0,
  ready_on g q o a r.1,
  r.2,
  record {
    open_site = λ x. r.3.open_site ((a.covered r.2 s).1 x);
    first = λ z less. (a.covered r.2 z).0 (r.3.first z less);
  },
)
verdict_on g q w o a (PlaceOut p k) r =
    let original = placed_original o p r.4 in (
      new_on g q w o a r.0,
      ready_on g q o a r.1,
      λ s. (a.covered original s).0 (r.2 s),
      λ fits. r.3 (place_on q g o (alike_back g q o a) fits),
      r.4,
      r.5 ∙ a.cells original,
    )
verdict_on g q w o a Integrated r = (
  new_on g q w o a r.0,
  ready_on g q o a r.1,
  λ e s. (a.covered e s).0 (r.2 e s),
  place_on g q o a r.3,
)

-- so there is one verdict
pub one_verdict : (g q w : List OpData) (o : OpData) → IsValid g → IsValid q → IsWellFormed o → AreJudgedAlike g q o
    → verdict_of g w o ≡ verdict_of q w o
one_verdict g q w o vg vq formed a =
    let v = verdict_of g w o in
    (verdicts_exact q w o v vq formed).0 (verdict_on g q w o a v ((verdicts_exact g w o v vg formed).1 refl))
