use Rattle.std.proofs.Common.{◌≡◌, ◌<◌, ◌≤◌, ℕ, length, if◌then◌else◌, sym, ap, subst, ◌∙◌, arith}
use Rattle.std.specs.Prelude.{◌==◌}
use Rattle.op_name.specs.declared.member.TheConstants.{GENERATIONS}
use Rattle.context_vector.specs.Contexts.{count_in, entry_in}
use Rattle.context_vector.specs.Marks.{weight, mark_of}
use Rattle.context_vector.specs.Code.Undone.{UndoneData, set_entry}
use Rattle.context_vector.specs.Code.Words.{word_key, place_in, with_digit, high_of, set_word, words_with, entries_in, AreUndone}
use Rattle.context_vector.proofs.Entries.{length_at_most}
use Rattle.context_vector.proofs.Marks.{weight_within, mark_below}
use Rattle.context_vector.proofs.Undone.{mark_set}
use Rattle.context_vector.proofs.UndoneWords.{above_no_word, above_high, words_set, undone_set, length_set}
use Rattle.context_vector.proofs.vector.undone.Undone.set.Goals as goal
use Rattle.context_vector.proofs.vector.undone.Undone.set.Goals.{After-known, After-put_generation}

-- there is room in both lists where the generation rises
room : (c : After-known) → let inside = c.self.inside in
    entry_in (entries_in inside.high.items inside.words.items) c.args.name.now < c.args.generation → 1 ≤ c.args.self.now.spare
room c more = c.requires (subst (λ (u : UndoneData). entry_in u.items c.args.name.now < c.args.generation) c.self.view_is more)

pub set_digit-requires-clause-room : goal.set_digit-requires-clause-room
set_digit-requires-clause-room c none some =
    let inside = c.self.inside in
    let more = above_no_word c.args.name.now c.args.generation inside.words.items inside.high.items c.self.invariant.0.words
    (omega (arith, c.known.ensures.2)) none (omega (arith, some, c.low_of.ensures.low)) in
    omega (arith, room (goal.at.set_digit-requires-clause-room c).After-known more, ap (λ (u : UndoneData). u.spare) c.self.view_is)

pub put_generation-requires-clause-room : goal.put_generation-requires-clause-room
put_generation-requires-clause-room c greater =
    let inside = c.self.inside in
    let more = above_high c.args.name.now c.args.generation inside.words.items inside.high.items c.self.invariant.0.words
    (omega (arith, c.known.ensures.2)) (omega (arith, greater, c.high_of.ensures)) in
    omega (arith, room (goal.at.put_generation-requires-clause-room c).After-known more, ap (λ (u : UndoneData). u.spare) c.self.view_is)

-- the generation that the name had
had : (c : After-known) → let inside = c.self.inside in
    c.entry-had.result ≡ entry_in (entries_in inside.high.items inside.words.items) c.args.name.now
had c = c.entry-had.ensures ∙ ap (λ (u : UndoneData). entry_in u.items c.args.name.now) (sym c.self.view_is)

-- both lists after the write
words_now : (c : After-put_generation) →
    c.set_digit.new.words.items ≡ words_with c.args.name.now c.args.generation c.self.inside.words.items
unfolding words_with
words_now c =
    let n = c.args.name.now in
    let ws = c.self.inside.words.items in
    c.set_digit.ensures ∙ ap (λ d. set_word (word_key n) (with_digit (count_in ws (word_key n)) (place_in n) d) ws) c.low_of.ensures.low

high_now : (c : After-put_generation) →
    c.put_generation.new.list.items ≡ set_entry c.args.name.now (high_of c.args.generation) c.self.inside.high.items
high_now c = c.put_generation.ensures ∙ ap (λ h. set_entry c.args.name.now h c.self.inside.high.items) c.high_of.ensures

names_now : (c : After-put_generation) → let inside = c.self.inside in
    entries_in c.put_generation.new.list.items c.set_digit.new.words.items
    ≡ set_entry c.args.name.now c.args.generation (entries_in inside.high.items inside.words.items)
names_now c =
    let most : c.args.generation ≤ GENERATIONS = omega (arith, c.ranges.generation.fits) in
    (λ j. entries_in (high_now c j) (words_now c j))
    ∙ words_set c.args.name.now c.args.generation c.self.inside.words.items c.self.inside.high.items c.self.invariant.0 c.known.ensures most

pub overflow_sub-self : goal.overflow_sub-self
overflow_sub-self c =
    let n = c.args.name.now in
    let es = entries_in c.self.inside.high.items c.self.inside.words.items in
    let weighed = c.weight.ensures.weight ∙ ap (weight n) (had (goal.at.overflow_sub-self c).After-known) in
    omega (arith, c.self.invariant.1, weighed, weight_within n es)

pub overflow_add-self : goal.overflow_add-self
overflow_add-self c =
    record { fits = omega (arith, c.self.invariant.1, mark_below _ c.self.invariant.0.entries, c.weight-2.ensures.range) }

pub len_after-self-inside-requires-clause-most : goal.len_after-self-inside-requires-clause-most
len_after-self-inside-requires-clause-most c = omega (arith, c.self.invariant.2, length_at_most _ c.self.invariant.0.entries)

pub invariant_of-self : goal.invariant_of-self
invariant_of-self c =
    let at = (goal.at.invariant_of-self c).After-put_generation in
    let n = c.args.name.now in
    let g = c.args.generation in
    let ws = c.self.inside.words.items in
    let hs = c.self.inside.high.items in
    let es = entries_in hs ws in
    let most : g ≤ GENERATIONS = omega (arith, c.ranges.generation.fits) in
    let was = had (goal.at.invariant_of-self c).After-known in
    let weighed = c.weight.ensures.weight ∙ ap (weight n) was in
    let one_for = λ (x : ℕ). let k : ℕ = if x == 0 then 0 else 1 in k in
    let counted : one_for c.entry-had.result ≡ one_for (entry_in es n) = ap one_for was in
    let marked = mark_set n g es c.self.invariant.0.entries in
    let listed = length_set n g es c.self.invariant.0.entries in (
      subst (λ vs. AreUndone vs c.put_generation.new.list.items) (sym (words_now at))
          (subst (AreUndone (words_with n g ws)) (sym (high_now at)) (undone_set n g ws hs c.self.invariant.0 c.known.ensures most)),
      omega (arith, c.self.invariant.1, weighed, weight_within n es, marked, c.weight-2.ensures.weight, ap mark_of (names_now at)),
      omega (arith, c.self.invariant.2, c.len_after-self-inside.ensures, counted, listed, ap length (names_now at)),
    )

pub returns : goal.returns
returns c =
    let n = c.args.name.now in
    let g = c.args.generation in
    names_now (goal.at.returns c).After-put_generation ∙ ap (λ (u : UndoneData). set_entry n g u.items) c.self.view_is
