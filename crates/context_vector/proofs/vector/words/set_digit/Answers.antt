use Rattle.std.proofs.Common.{◌≡◌, ◌≢◌, ℕ, set, sym, ap, subst, ◌∙◌, arith}
use Rattle.std.specs.Prelude.{nat_lt}
use Rattle.std.specs.List.{insert}
use Rattle.context_vector.specs.Contexts.{count_in}
use Rattle.context_vector.specs.Code.Places.{IsPlace, IsGap}
use Rattle.context_vector.specs.Code.Words.{word_key, place_in, with_digit}
use Rattle.context_vector.proofs.Counts.{count_in_gap}
use Rattle.context_vector.proofs.Digits.{still_empty, not_empty}
use Rattle.context_vector.proofs.Words.{word_at_place, set_removed, set_placed, set_absent, set_inserted}
use Rattle.context_vector.proofs.vector.words.set_digit.Goals as goal
use Rattle.context_vector.proofs.vector.words.set_digit.Goals.{In-Err, After-with-word}

-- the place of the word, or the gap for it, and the word with the digit
placed : (c : After-with-word) → IsPlace c.args.words.now.items (word_key c.args.name.now) c.in-Ok.at
placed c =
    let at = subst (λ ws. IsPlace ws c.seat_of-key.result.0 c.in-Ok.at) c.as_slice.ensures.value c.in-Ok.ensures.found in
    subst (λ k. IsPlace c.args.words.now.items k c.in-Ok.at) c.seat_of-key.ensures.key at

written : (c : After-with-word) → let k = word_key c.args.name.now in
    c.with-word.result ≡ (k, with_digit (count_in c.args.words.now.items k) (place_in c.args.name.now) c.args.digit)
written c =
    let ws = c.args.words.now.items in
    let k = word_key c.args.name.now in
    let had = c.index.result.now in
    let key : had.0 ≡ k = ap (λ (p : ℕ × ℕ). p.0) c.index.ensures ∙ (placed c).key had in
    let digits : had.1 ≡ count_in ws k =
    ap (λ (p : ℕ × ℕ). p.1) c.index.ensures ∙ sym (word_at_place ws k c.in-Ok.at had c.requires.rising (placed c)) in
    c.with-word.ensures ∙ (λ j. (key j, with_digit (digits j) (c.seat_of-key.ensures.place j) c.args.digit))

gap : (c : In-Err) → IsGap nat_lt c.args.words.now.items (word_key c.args.name.now) c.in-Err.field-0
gap c =
    let at = subst (λ ws. IsGap nat_lt ws c.seat_of-key.result.0 c.in-Err.field-0) c.as_slice.ensures.value c.in-Err.ensures.absent in
    subst (λ k. IsGap nat_lt c.args.words.now.items k c.in-Err.field-0) c.seat_of-key.ensures.key at

none : (c : In-Err) → count_in c.args.words.now.items (word_key c.args.name.now) ≡ 0
none c = count_in_gap c.args.words.now.items (word_key c.args.name.now) c.in-Err.field-0 (gap c)

-- room was made for a word that isn't there
pub unreachable-requires : goal.unreachable-requires
unreachable-requires c =
    let room = c.requires.room (none (goal.at.unreachable-requires c).In-Err) (omega (arith, c.if-digit-eq0.false)) in
    omega (arith, c.in-Err-insert.ensures.full, room)

pub returns-then-digits-eq0 : goal.returns-then-digits-eq0
returns-then-digits-eq0 c =
    let before = (goal.at.returns-then-digits-eq0 c).After-with-word in
    let n = c.args.name.now in
    let ws = c.args.words.now.items in
    let word = with_digit (count_in ws (word_key n)) (place_in n) c.args.digit in
    let none : word ≡ 0 = ap (λ (p : ℕ × ℕ). p.1) (sym (written before)) ∙ (sym c.digits.ensures ∙ c.if-digits-eq0.true) in
    c.remove.ensures.items ∙ set_removed ws (word_key n) word c.in-Ok.at c.requires.rising (placed before) none

pub returns-else-digits-eq0 : goal.returns-else-digits-eq0
returns-else-digits-eq0 c =
    let before = (goal.at.returns-else-digits-eq0 c).After-with-word in
    let n = c.args.name.now in
    let ws = c.args.words.now.items in
    let word = with_digit (count_in ws (word_key n)) (place_in n) c.args.digit in
    let some : word ≢ 0 =
    λ none. c.if-digits-eq0.false (c.digits.ensures ∙ (ap (λ (p : ℕ × ℕ). p.1) (written before) ∙ none)) in
    ap (λ w. set ws c.in-Ok.at w) (written before) ∙ set_placed ws (word_key n) word c.in-Ok.at c.requires.rising (placed before) some

pub returns-in-Err : goal.returns-in-Err
returns-in-Err c =
    let n = c.args.name.now in
    let had = count_in c.args.words.now.items (word_key n) in
    let before = (goal.at.returns-in-Err c).In-Err in
    let ws = c.args.words.now.items in
    set_absent ws (word_key n) (with_digit had (place_in n) c.args.digit) c.in-Err.field-0 c.requires.rising (gap before)
    (still_empty had (place_in n) c.args.digit (none before) c.if-digit-eq0.true)

pub returns-in-Ok-insert : goal.returns-in-Ok-insert
returns-in-Ok-insert c =
    let ws = c.args.words.now.items in
    let n = c.args.name.now in
    let had = count_in ws (word_key n) in
    let before = (goal.at.returns-in-Ok-insert c).In-Err in
    let key = ap (λ (p : ℕ × ℕ). p.0) c.new.ensures ∙ c.seat_of-key.ensures.key in
    let digits = ap (λ (p : ℕ × ℕ). p.1) c.new.ensures ∙ sym (none before) in
    let word : c.with.result ≡ (word_key n, with_digit had (place_in n) c.args.digit) =
    c.with.ensures ∙ (λ j. (key j, with_digit (digits j) (c.seat_of-key.ensures.place j) c.args.digit)) in
    c.in-Ok-insert.ensures.items
    ∙ (ap (λ w. insert ws c.in-Err.field-0 w) word
    ∙ set_inserted ws (word_key n) (with_digit had (place_in n) c.args.digit) c.in-Err.field-0 (gap before)
    (not_empty had (place_in n) c.args.digit c.requires.digit c.if-digit-eq0.false))
