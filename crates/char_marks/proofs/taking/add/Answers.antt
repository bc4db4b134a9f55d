use Rattle.std.proofs.Common.{rules, ◌≡◌, List, sym, ◌∙◌, subst, arith}
use Rattle.op_name.specs.NameData.{NameData}
use Rattle.char_marks.specs.Marks.{KeptData, AreRising, put_kept}
use Rattle.char_marks.specs.Covered.{AreFit}
use Rattle.char_marks.specs.Code.Kept.{GoesTo}
use Rattle.char_marks.proofs.Finding.{put_there, place_within}
use Rattle.char_marks.proofs.Growth.{fit_put}
use Rattle.char_marks.proofs.Keeping.{rising_put}
use Rattle.char_marks.proofs.taking.add.Goals as goal

pub insert-requires : goal.insert-requires
insert-requires c =
    let ks = c.args.kept.now.items in
    let i = c.place_by_name-place.result in
    let goes : GoesTo ks c.args.name.now i =
    subst (λ (l : List KeptData). GoesTo l c.args.name.now i) c.as_slice.ensures.value c.place_by_name-place.ensures in
    omega (arith, place_within ks c.args.name.now i goes, c.args.kept.now.ok.0)

-- the marks are those from before with the new one
put : (c : goal.In_ok-insert) → c.insert.new.self.items ≡ put_kept c.args.one c.args.kept.now.items
put c =
    let ks = c.args.kept.now.items in
    let i = c.place_by_name-place.result in
    let goes : GoesTo ks c.args.name.now i =
    subst (λ (l : List KeptData). GoesTo l c.args.name.now i) c.as_slice.ensures.value c.place_by_name-place.ensures in
    c.in_ok-insert.ensures.items
    ∙ put_there c.args.one ks i (subst (λ (n : NameData). GoesTo ks n i) c.requires.name goes)

pub returns-clause-ok : goal.returns-clause-ok
returns-clause-ok c = put c

pub returns-clause-rising : goal.returns-clause-rising
returns-clause-rising c =
    subst AreRising (sym (put c)) (rising_put c.args.one c.args.kept.now.items c.requires.rising c.requires.new)

pub returns-clause-fit : goal.returns-clause-fit
returns-clause-fit c =
    λ h fits fit. subst (λ (l : List KeptData). AreFit h l) (sym (put c)) (fit_put h c.args.one c.args.kept.now.items fits fit)

pub returns-in_err-insert-clause-fit : goal.returns-in_err-insert-clause-fit
returns-in_err-insert-clause-fit c =
    let same : c.insert.new.self.items ≡ c.args.kept.now.items = search rules in
    λ h fits fit. subst (λ (l : List KeptData). AreFit h l) (sym same) fits
