-- A message tells one state, and has one list of operations.
use Rattle.std.proofs.Common.{◌≡◌, ℕ, List, [], ◌∷◌, ◌++◌, length, drop, Result, Ok, refl, ap, sym, subst, ◌∙◌, append_assoc}
use Rattle.std.proofs.Common.{append-nil, arith}
use Rattle.std.specs.List.{flat_map}
use Rattle.std.proofs.lemmas.Bool.{false≢true}
use Rattle.std.proofs.lemmas.List.{drop_at}
use Rattle.op_name.specs.declared.member.Member.TheVariants.{Original, Group}
use Rattle.context_vector.specs.Contexts.{ContextData}
use Rattle.context_vector.proofs.CallerLemmas.{length_at_most}
use Rattle.context_diff.specs.Operations.{OpData}
use Rattle.context_diff.specs.Histories.{context_of_all, IsValid}
use Rattle.context_diff.proofs.CallerLemmas.{all_is_context, base_listed, complete, contains_here, group_has_target}
use Rattle.wire_codec.specs.declared.version.Version.TheVariants.{Two}
use Rattle.wire_codec.specs.declared.fault.Unread.{Unread}
use Rattle.wire_codec.specs.Spelling.{frame}
use Rattle.wire_codec.specs.States.{IsState, state_bytes, judge_state}
use Rattle.wire_codec.proofs.CallerLemmas.{fits_two, frame_once, state_again}
use Rattle.peer_exchange.specs.Measuring.{head}
use Rattle.peer_exchange.specs.Messages.{end_mark, telling, first_message, IsFirst, IsSecond, IsThird}
use Rattle.peer_exchange.specs.Code.Receiving.{no_frame}
use Rattle.peer_exchange.specs.Exchanges.{MessagesTellOneThing}
use Rattle.peer_exchange.proofs.Receivings.{first_frame, frame_says}
use Rattle.peer_exchange.proofs.Wholes.{behind_frame}

-- what a valid history has is a state
pub history_is_state : (h : List OpData) → IsValid h → IsState (context_of_all h)
history_is_state h v =
    let w = complete h v in
    let is = all_is_context h v in
    record {
      is = is;
      stray = λ t g there.
          let known = sym (w.holds (Group t g)) ∙ there in
          w.holds (Original t) ∙ base_listed h w (Group t g) (Original t) (group_has_target h t g known);
      few = omega (arith, length_at_most (context_of_all h).entries is.entries);
    }

-- two states, with whatever follows them
one_state : (c d : ContextData) (x y : List ℕ) → IsState c → IsState d → telling c ++ x ≡ telling d ++ y → (c ≡ d) × (x ≡ y)
one_state c d x y is js e =
    let behind : state_bytes c ++ x ≡ state_bytes d ++ y =
    ap (drop 8) (sym (append_assoc head (state_bytes c) x) ∙ (e ∙ append_assoc head (state_bytes d) y)) in
    let read : ◌≡◌ {A = Result (ContextData × ℕ) Unread} (Ok (c, length (state_bytes c))) (Ok (d, length (state_bytes d))) =
    sym (state_again c x is) ∙ (ap judge_state behind ∙ state_again d y js) in
    let both : ◌≡◌ {A = ContextData × ℕ} (c, length (state_bytes c)) (d, length (state_bytes d)) = cc in
    let size : length (state_bytes c) ≡ length (state_bytes d) = ap (λ (p : ContextData × ℕ). p.1) both in (
      ap (λ (p : ContextData × ℕ). p.0) both,
      sym (drop_at (state_bytes c) x (length (state_bytes c)) refl)
          ∙ (ap (drop (length (state_bytes c))) behind ∙ drop_at (state_bytes d) y (length (state_bytes c)) (sym size)),
    )

one_third : (bytes : List ℕ) (os ps : List OpData) → IsThird bytes os → IsThird bytes ps → os ≡ ps
one_third bytes [] [] is js = refl
one_third bytes [] (p ∷ ps) is js = absurd (false≢true (sym (frame_says bytes p ps js) ∙ ap no_frame is.parts))
one_third bytes (o ∷ os) [] is js = absurd (false≢true (sym (frame_says bytes o os is) ∙ ap no_frame js.parts))
one_third bytes (o ∷ os) (p ∷ ps) is js =
    let well = is.formed o (contains_here o os) in
    let also = js.formed p (contains_here p ps) in
    let same : o ≡ p =
    frame_once Two o p (flat_map (frame Two) os ++ end_mark) (flat_map (frame Two) ps ++ end_mark) well (fits_two o well) also
    (fits_two p also) (sym (first_frame bytes o os is) ∙ first_frame bytes p ps js) in
    let later : IsThird (drop (length (frame Two o)) bytes) ps =
    subst (λ (x : OpData). IsThird (drop (length (frame Two x)) bytes) ps) (sym same) (behind_frame bytes p ps js) in
    let rest = one_third (drop (length (frame Two o)) bytes) os ps (behind_frame bytes o os is) later in
    λ i. same i ∷ rest i

one_first : (bytes : List ℕ) (c d : ContextData) → IsFirst bytes c → IsFirst bytes d → c ≡ d
one_first bytes c d is js =
    (one_state c d [] [] is.is js.is (append-nil (telling c) ∙ (sym is.parts ∙ (js.parts ∙ sym (append-nil (telling d)))))).0

one_second : (bytes : List ℕ) (c d : ContextData) (os ps : List OpData) → IsSecond bytes c os → IsSecond bytes d ps → (c ≡ d) × (os ≡ ps)
one_second bytes c d os ps is js =
    let both =
    one_state c d (flat_map (frame Two) os ++ end_mark) (flat_map (frame Two) ps ++ end_mark) is.is js.is (sym is.parts ∙ js.parts) in (
      both.0,
      one_third (flat_map (frame Two) os ++ end_mark) os ps (record { formed = is.formed; parts = refl })
          (record { formed = js.formed; parts = both.1 }),
    )

pub messages_tell_one_thing : MessagesTellOneThing
messages_tell_one_thing = record {
  first = one_first;
  state = λ bytes c d os ps is js. (one_second bytes c d os ps is js).0;
  second = λ bytes c d os ps is js. (one_second bytes c d os ps is js).1;
  third = one_third;
}

-- the first message of a valid history tells what it has, and nothing else
pub first_of : (h : List OpData) → IsValid h → IsFirst (first_message h) (context_of_all h)
first_of h v = record { is = history_is_state h v; parts = refl }
