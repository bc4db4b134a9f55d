-- Sites with few operations have no message that is too long.
use Rattle.std.proofs.Common.{ℕ, ◌+◌, ◌*◌, ◌≤◌, inl, inr, Bool, List, length, ap, arith}
use Rattle.std.specs.Prelude.{not}
use Rattle.std.specs.List.{flat_map}
use Rattle.std.proofs.lemmas.List.{length-append}
use Rattle.std.proofs.lemmas.List.Sums.{length-filter, count_by-le-length}
use Rattle.op_name.specs.declared.member.Member.{Member}
use Rattle.op_name.specs.declared.name.TheConstants.{SITES}
use Rattle.context_vector.specs.Contexts.{ContextData, has}
use Rattle.context_diff.specs.Operations.{OpData, member_of}
use Rattle.context_diff.specs.Histories.{context_of_all, is_known, IsValid}
use Rattle.context_diff.proofs.CallerLemmas.{all_is_context, named_few}
use Rattle.cot_site.specs.States.{State}
use Rattle.wire_codec.specs.declared.version.Version.TheVariants.{Two}
use Rattle.wire_codec.specs.Spelling.{frame}
use Rattle.wire_codec.specs.Judging.{count_len}
use Rattle.wire_codec.specs.States.{state_bytes}
use Rattle.peer_exchange.specs.Joins.{unseen}
use Rattle.peer_exchange.specs.Measuring.{head}
use Rattle.peer_exchange.specs.Messages.{end_mark, first_message, third_message, second_message}
use Rattle.peer_exchange.specs.Exchanges.{IsQuiet}
use Rattle.peer_exchange.specs.Lengths.{few_operations, HasLongSecond, HasLongThird, ShortHistoriesHaveShortMessages}
use Rattle.peer_exchange.proofs.Exchanging.{answered_is, closed_is, IsReplied}
use Rattle.peer_exchange.proofs.Sent.{lacked_formed}
use Rattle.peer_exchange.proofs.Sizes.{longest_frame, frames_short, context_short}
use Rattle.peer_exchange.proofs.TakenOps.{new_operations_are_appended}
use Rattle.peer_exchange.proofs.Unrefused.{lacked_are_new}

-- what is lacking is no more than all
unseen_few : (k : Member → Bool) (os : List OpData) → length (unseen k os) ≤ length os
unseen_few k os =
    let test : OpData → Bool = λ o. not (k (member_of o)) in
    omega (arith, length-filter test os, count_by-le-length test os)

-- ---- messages by the number of operations of the histories

-- a head, a count for each site, and a run for each operation
abbrev longest_first : ℕ → ℕ
longest_first n = 14 + count_len Two * SITES + 12 * n

-- a frame for each operation, and the end mark
abbrev longest_third : ℕ → ℕ
longest_third n = longest_frame * n + 4

first_short : (h : List OpData) → IsValid h → length (first_message h) ≤ longest_first (length h)
first_short h v =
    let c = context_of_all h in
    omega (arith, context_short c (all_is_context h v), named_few h, length-append head (state_bytes c))

third_short : (h : List OpData) (c : ContextData) → IsValid h → length (third_message h c) ≤ longest_third (length h)
third_short h c v =
    let os = unseen (has c) h in
    omega (arith, frames_short os (lacked_formed c h v), unseen_few (has c) h, length-append (flat_map (frame Two) os) end_mark)

second_short : (h : List OpData) (c : ContextData) → IsValid h
    → length (second_message h c) ≤ longest_first (length h) + longest_third (length h)
second_short h c v = omega (arith, first_short h v, third_short h c v, length-append (first_message h) (third_message h c))

-- ---- an exchange

-- what the joiner has after it took in what it lacked
after_few : (s t t' : State) → IsQuiet s → IsQuiet t → (third : List ℕ) (took sent : ℕ) → IsReplied s.history t.history t t' third took sent
    → length t'.history ≤ length s.history + length t.history
after_few s t t' qs qt third took sent reply =
    let os = unseen (is_known t.history) s.history in
    let is =
    new_operations_are_appended t t' os qt.sound.history qt.none (lacked_are_new t.history s.history qs.sound.history) reply.takes in
    omega (arith, ap (λ (u : State). length u.history) is, length-append t.history os, unseen_few (is_known t.history) s.history)

no_long_second : (s t : State) → IsQuiet s → length s.history ≤ few_operations → HasLongSecond s t → ⊥
no_long_second s t qs few l =
    absurd (omega (arith, l.long, ap length l.answered.appended, second_short s.history l.answered.state qs.sound.history, few))

no_long_third : (s t : State) → IsQuiet s → IsQuiet t → length s.history + length t.history ≤ few_operations → HasLongThird s t → ⊥
no_long_third s t qs qt few l =
    let answered = answered_is s.history t.history l.second l.count qs.sound.history qt.sound.history l.answered in
    let reply =
    closed_is s.history t.history t l.after l.second l.third l.counts.0 l.counts.1 qs.sound.history qt.sound answered.0 l.closed in
    let all = after_few s t l.after qs qt l.third l.counts.0 l.counts.1 reply in
    absurd (omega (arith, l.long, ap length l.closed.appended, third_short l.after.history l.closed.state reply.valid, all, few))

pub short_histories_have_short_messages : ShortHistoriesHaveShortMessages
short_histories_have_short_messages s t qs qt few (inl long) = absurd (omega (arith, long, few, first_short t.history qt.sound.history))
short_histories_have_short_messages s t qs qt few (inr (inl long)) = no_long_second s t qs (omega (arith, few)) long
short_histories_have_short_messages s t qs qt few (inr (inr long)) = no_long_third s t qs qt few long
