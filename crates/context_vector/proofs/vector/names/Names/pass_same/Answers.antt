use Rattle.std.proofs.Common.{◌≡◌, ◌++◌, length, length-append, arith, sym, ap, subst, ◌∙◌}
use Rattle.context_vector.specs.Contexts.{entry_in, AreEntries}
use Rattle.context_vector.specs.Equality.{list_eq_decides}
use Rattle.context_vector.specs.Shortfalls.{first_short}
use Rattle.context_vector.specs.Code.Readers.{left_of}
use Rattle.context_vector.specs.Code.Words.{left_in, entries_in, AreWords}
use Rattle.context_vector.proofs.Words.{entries_append}
use Rattle.context_vector.proofs.UndoneWords.{words_passed}
use Rattle.context_vector.proofs.WordReading.{left_done, words_back, still_left}
use Rattle.context_vector.proofs.vector.names.Names.pass_same.Goals as goal
use Rattle.context_vector.proofs.vector.names.Names.pass_same.Goals.{After-pass_same}

-- what is left of both are entries
mine_are : (c : After-pass_same) → let mine = c.self.inside in
    AreEntries (left_in mine.high.now mine.word.key mine.word.place mine.word.digits (left_of c.pass_same.new.mine))
mine_are c =
    let mine = c.self.inside in
    let same = c.pass_same.ensures in
    let ws = left_of c.pass_same.new.mine in
    still_left mine.high.now mine.word.key mine.word.place mine.word.digits (left_of mine.words) same.0 ws
    c.if-self-eq0.true same.1 c.self.invariant.3

theirs_are : (c : After-pass_same) → let theirs = c.other.inside in
    AreEntries (left_in theirs.high.now theirs.word.key theirs.word.place theirs.word.digits (left_of c.pass_same.new.theirs))
theirs_are c =
    let theirs = c.other.inside in
    let same = c.pass_same.ensures in
    let vs = left_of c.pass_same.new.theirs in
    still_left theirs.high.now theirs.word.key theirs.word.place theirs.word.digits (left_of theirs.words) same.0 vs
    c.if-other-eq0.true same.2 c.other.invariant.3

pub invariant_of-self : goal.invariant_of-self
invariant_of-self c =
    let same = c.pass_same.ensures in (
      c.self.invariant.0,
      words_back 0 same.0 (left_of c.pass_same.new.mine) (subst (AreWords 0) same.1 c.self.invariant.1),
      c.self.invariant.2,
      mine_are (goal.at.invariant_of-self c).After-pass_same,
    )

pub invariant_of-other : goal.invariant_of-other
invariant_of-other c =
    let same = c.pass_same.ensures in (
      c.other.invariant.0,
      words_back 0 same.0 (left_of c.pass_same.new.theirs) (subst (AreWords 0) same.2 c.other.invariant.1),
      c.other.invariant.2,
      theirs_are (goal.at.invariant_of-other c).After-pass_same,
    )

pub returns-then-are_equal-clause-mine : goal.returns-then-are_equal-clause-mine
returns-then-are_equal-clause-mine c = mine_are (goal.at.returns-then-are_equal-clause-mine c).After-pass_same

pub returns-then-are_equal-clause-theirs : goal.returns-then-are_equal-clause-theirs
returns-then-are_equal-clause-theirs c = theirs_are (goal.at.returns-then-are_equal-clause-theirs c).After-pass_same

-- what was and what is left of both, over one second list
had : (c : After-pass_same) →
    entries_in c.self.inside.high.now (c.pass_same.ensures.0 ++ left_of c.pass_same.new.mine) ≡ c.args.self.now
had c =
    let mine = c.self.inside in
    let hs = mine.high.now in
    ap (entries_in hs) (sym c.pass_same.ensures.1)
    ∙ (sym (left_done hs mine.word.key mine.word.place mine.word.digits (left_of mine.words) c.if-self-eq0.true) ∙ c.self.view_is)

wanted : (c : After-pass_same) →
    entries_in c.other.inside.high.now (c.pass_same.ensures.0 ++ left_of c.pass_same.new.theirs) ≡ c.args.other.now
wanted c =
    let theirs = c.other.inside in
    let is = theirs.high.now in
    ap (entries_in is) (sym c.pass_same.ensures.2)
    ∙ (sym (left_done is theirs.word.key theirs.word.place theirs.word.digits (left_of theirs.words) c.if-other-eq0.true) ∙ c.other.view_is)

had_left : (c : After-pass_same) → let mine = c.self.inside in let ws = left_of c.pass_same.new.mine in
    left_in mine.high.now mine.word.key mine.word.place mine.word.digits ws ≡ entries_in mine.high.now ws
had_left c =
    let mine = c.self.inside in
    left_done mine.high.now mine.word.key mine.word.place mine.word.digits (left_of c.pass_same.new.mine) c.if-self-eq0.true

wanted_left : (c : After-pass_same) → let theirs = c.other.inside in let vs = left_of c.pass_same.new.theirs in
    left_in theirs.high.now theirs.word.key theirs.word.place theirs.word.digits vs ≡ entries_in theirs.high.now vs
wanted_left c =
    let theirs = c.other.inside in
    left_done theirs.high.now theirs.word.key theirs.word.place theirs.word.digits (left_of c.pass_same.new.theirs) c.if-other-eq0.true

pub returns-then-are_equal-clause-short : goal.returns-then-are_equal-clause-short
returns-then-are_equal-clause-short c =
    let at = (goal.at.returns-then-are_equal-clause-short c).After-pass_same in
    let xs = c.pass_same.ensures.0 in
    let ws = left_of c.pass_same.new.mine in
    let vs = left_of c.pass_same.new.theirs in
    let hs = c.self.inside.high.now in
    let is = c.other.inside.high.now in
    let above : hs ≡ is = (list_eq_decides hs is).0 (sym c.are_equal.ensures ∙ c.if-are_equal.true) in
    let rise = subst (AreWords 0) c.pass_same.ensures.2 c.other.invariant.1 in
    (λ j. first_short (entry_in (had_left at j)) ((wanted_left at ∙ ap (λ ys. entries_in ys vs) (sym above)) j))
    ∙ (words_passed xs ws vs hs rise
    ∙ (λ j. first_short (entry_in (had at j)) ((ap (λ ys. entries_in ys (xs ++ vs)) above ∙ wanted at) j)))

pub returns-then-are_equal-clause-less : goal.returns-then-are_equal-clause-less
returns-then-are_equal-clause-less c =
    let at = (goal.at.returns-then-are_equal-clause-less c).After-pass_same in
    let xs = c.pass_same.ensures.0 in
    let ws = left_of c.pass_same.new.mine in
    let vs = left_of c.pass_same.new.theirs in
    let hs = c.self.inside.high.now in
    let is = c.other.inside.high.now in
    let mine = ap length (sym (entries_append hs xs ws) ∙ had at) in
    let theirs = ap length (sym (entries_append is xs vs) ∙ wanted at) in
    omega (
      arith,
      mine,
      theirs,
      length-append (entries_in hs xs) (entries_in hs ws),
      length-append (entries_in is xs) (entries_in is vs),
      ap length (had_left at),
      ap length (wanted_left at),
    )
