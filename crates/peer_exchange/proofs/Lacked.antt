-- What a state lacks of a list of operations, one after the other.
use Rattle.std.proofs.Common.{◌≡◌, ℕ, suc, ◌+◌, ◌≤◌, Bool, List, [], ◌∷◌, ◌++◌, length, take, sym, ap, ◌∙◌, append_assoc, arith}
use Rattle.std.specs.Prelude.{Some, slice_get, not}
use Rattle.std.specs.List.{flat_map}
use Rattle.std.proofs.Math.Seq.{take-suc}
use Rattle.std.proofs.lemmas.Option.{slice_get_within, get_or_from_slice_get}
use Rattle.std.proofs.lemmas.List.{length-append, take_all}
use Rattle.std.proofs.lemmas.List.Elements.{filter-append}
use Rattle.std.proofs.lemmas.Grind.{flat_map-append}
use Rattle.op_name.specs.declared.member.Member.{Member}
use Rattle.context_vector.specs.Contexts.{ContextData, has}
use Rattle.context_diff.specs.Operations.{OpData, member_of}
use Rattle.wire_codec.specs.declared.version.Version.TheVariants.{Two}
use Rattle.wire_codec.specs.Spelling.{frame}
use Rattle.peer_exchange.specs.Joins.{unseen}
use Rattle.peer_exchange.specs.Messages.{lacked_frames}

lacked_next : (knows : Member → Bool) (os : List OpData) (i : ℕ) (o : OpData) → slice_get os i ≡ Some o
    → unseen knows (take (i + 1) os) ≡ unseen knows (take i os) ++ unseen knows (o ∷ [])
lacked_next knows os i o at =
    let next : i + 1 ≡ suc i = omega arith in
    let parts : take (suc i) os ≡ take i os ++ o ∷ [] =
    take-suc os i o (slice_get_within os i o at) ∙ ap (λ (x : OpData). take i os ++ x ∷ []) (get_or_from_slice_get os i o o at) in
    ap (λ (k : ℕ). unseen knows (take k os)) next
    ∙ (ap (unseen knows) parts ∙ filter-append (λ x. not (knows (member_of x))) (take i os) (o ∷ []))

pub count_more : (state : ContextData) (os : List OpData) (i : ℕ) (o : OpData) (now more new : ℕ) → slice_get os i ≡ Some o
    → now ≡ length (unseen (has state) (take i os))
    → more ≡ length (unseen (has state) (o ∷ [])) → new ≡ now + more → new ≡ length (unseen (has state) (take (i + 1) os))
count_more state os i o now more new at is one sum =
    omega (
      arith,
      sum,
      is,
      one,
      ap length (lacked_next (has state) os i o at),
      length-append (unseen (has state) (take i os))
          (unseen (has state) (o ∷ [])),
    )

pub frames_more : (state : ContextData) (os : List OpData) (i : ℕ) (o : OpData) (old now new : List ℕ) → slice_get os i ≡ Some o
    → now ≡ old ++ lacked_frames state (take i os)
    → new ≡ now ++ lacked_frames state (o ∷ []) → new ≡ old ++ lacked_frames state (take (i + 1) os)
frames_more state os i o old now new at is more =
    more
    ∙ (ap (λ (t : List ℕ). t ++ lacked_frames state (o ∷ [])) is
    ∙ (append_assoc old (lacked_frames state (take i os)) (lacked_frames state (o ∷ []))
    ∙ ap (λ (t : List ℕ). old ++ t) (sym (ap (flat_map (frame Two)) (lacked_next (has state) os i o at)
    ∙ flat_map-append (frame Two) (unseen (has state) (take i os)) (unseen (has state) (o ∷ []))))))

pub count_all : (state : ContextData) (os : List OpData) (i now : ℕ) → now ≡ length (unseen (has state) (take i os)) → length os ≤ i
    → now ≡ length (unseen (has state) os)
count_all state os i now is past = is ∙ ap (λ (xs : List OpData). length (unseen (has state) xs)) (take_all i os past)

pub frames_all : (state : ContextData) (os : List OpData) (i : ℕ) (old now : List ℕ) → now ≡ old ++ lacked_frames state (take i os)
    → length os ≤ i → now ≡ old ++ lacked_frames state os
frames_all state os i old now is past = is ∙ ap (λ (xs : List OpData). old ++ lacked_frames state xs) (take_all i os past)
