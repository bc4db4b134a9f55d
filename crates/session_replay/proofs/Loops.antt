-- Steps of a line that go over a text, over messages, or over sites: the first part and the rest.
use Rattle.std.proofs.Common.{◌≡◌, ℕ, zero, suc, ◌+◌, ◌-◌, ◌<◌, ◌≤◌, if◌then◌else◌, min, Bool, true, false, inl, inr, List, [], ◌∷◌, ◌++◌, refl, sym, ap, ◌∙◌, length, take, drop, get_or, append-nil, length-drop, arith}
use Rattle.std.specs.Prelude.{Option, Some, None, Result, Ok, Err, slice_get, nat_lt}
use Rattle.std.specs.Result.{is_ok}
use Rattle.std.proofs.Math.Seq.{drop-cons}
use Rattle.std.proofs.lemmas.List.{drop_all, take_min, length-take}
use Rattle.std.proofs.lemmas.Option.{slice_get_within, slice_get-get_or, none-some}
use Rattle.std.proofs.lemmas.Bool.{cases_lt, true≢false, false≢true}
use Rattle.context_diff.specs.Operations.{OpData}
use Rattle.cot_site.specs.Commands.{local_run}
use Rattle.site_answers.specs.declared.local.Local.{Local}
use Rattle.script_text.specs.Report.{raw_bad_text, raw_more_text}
use Rattle.wire_codec.specs.Causes.{cause_word}
use Rattle.wire_codec.specs.Judging.{judge, judged, length_of}
use Rattle.wire_codec.specs.Versions.{longest}
use Rattle.wire_codec.specs.declared.version.Version.{Version}
use Rattle.wire_codec.specs.declared.fault.Fault.{Fault}
use Rattle.wire_codec.specs.declared.fault.Refused.{Refused}
use Rattle.wire_codec.specs.declared.fault.Refused.TheVariants.{More, Bad}
use Rattle.session_replay.specs.Steps.{Step, last_of}
use Rattle.session_replay.specs.Sessions.{SessionData, site_at, given, given_all, synced, new_site, new_sites}
use Rattle.session_replay.specs.Code.Doing.{frame_bytes}
use Rattle.session_replay.specs.Code.Typing.{parts}
use Rattle.session_replay.proofs.Typing.{parts_next, parts_none}
use Rattle.session_replay.specs.LineSteps.{commanded, typed, typed_in, typed_on, framed, framed_on, raw_word, told}

-- the line of bytes that begin with no frame of this version
abbrev pub refused_frame : Version → ℕ → Refused → List ℕ
refused_frame v i (More least) = raw_more_text (raw_word v) i least
refused_frame v i (Bad f) = raw_bad_text (raw_word v) i (cause_word f.cause) f.offset

-- ---- a text

typed_any : (next : SessionData → List (Step SessionData)) (i : ℕ) (d : SessionData) (r : Result OpData Local)
    → (left : List (Step SessionData)) × (typed_on next i r d ≡ commanded i r d ++ left)
typed_any next i d (Ok o) = (next (last_of d (commanded i (Ok o) d)), refl)
typed_any next i d (Err why) = ([], sym (append-nil (commanded i (Err why) d)))

typed_next : (next : SessionData → List (Step SessionData)) (i : ℕ) (d now : SessionData) (r : Result OpData Local) → is_ok r ≡ true
    → now ≡ last_of d (commanded i r d) → typed_on next i r d ≡ commanded i r d ++ next now
typed_next next i d now (Ok o) ok at = ap (λ x. commanded i (Ok o) d ++ next x) (sym at)
typed_next next i d now (Err why) ok at = absurd (false≢true ok)

typed_end : (next : SessionData → List (Step SessionData)) (i : ℕ) (d : SessionData) (r : Result OpData Local) → is_ok r ≡ false
    → typed_on next i r d ≡ commanded i r d ++ []
typed_end next i d (Ok o) not_ok = absurd (true≢false not_ok)
typed_end next i d (Err why) not_ok = sym (append-nil (commanded i (Err why) d))

-- what a text begins with: a part of so many characters, or all of a shorter one
pub record IsCut (size : ℕ) (text part behind : List ℕ) : Type 0 where
  pub least : 1 ≤ size
  pub some : 0 < length text
  pub front : part ≡ take size text
  pub back : behind ≡ drop size text

pub cut_at : (size k : ℕ) (text part behind : List ℕ) → 1 ≤ size → 0 < length text → k ≡ min size (length text) → part ≡ take k text
    → behind ≡ drop k text → IsCut size text part behind
cut_at size k text part behind least some at front back = record {
  least = least;
  some = some;
  front = front ∙ ap (λ n. take n text) at ∙ take_min size text;
  back = back ∙ ap (λ n. drop n text) at ∙ drop_min;
}
  where
    drop_min : drop (min size (length text)) text ≡ drop size text
    drop_min =
        elim (cases_lt size (length text)) [
          | inl more ↦ ap (λ n. drop n text) (omega (arith, more))
          | inr all ↦
              drop_all (min size (length text)) text (omega (arith, all)) ∙ sym (drop_all size text all)
        ]

-- what is cut off may be the text of an insert
pub cut_fits : (size : ℕ) (text part behind : List ℕ) → IsCut size text part behind → (1 ≤ length part) × (length part ≤ size)
    × (length behind < length text)
cut_fits size text part behind cut =
    let long = length-take size text in
    let left = length-drop size text in
    let least = cut.least in
    let some = cut.some in
    let part_is : length part ≡ length (take size text) = ap length cut.front in
    let behind_is : length behind ≡ length (drop size text) = ap length cut.back in
    (omega (arith, long, part_is, least, some), omega (arith, long, part_is), omega (arith, left, behind_is, least, some))

module _ (size i v : ℕ) (text part behind : List ℕ) (d : SessionData) (cut : IsCut size text part behind) where
  abbrev answer : Result OpData Local
  answer = local_run (site_at d i) v part

  abbrev rest : SessionData → List (Step SessionData)
  rest now = typed i (v + length part) (parts size behind) now

  typed_at : typed i v (parts size text) d ≡ typed_on rest i answer d
  unfolding typed_in
  typed_at =
      ap (λ ps. typed i v ps d)
      (parts_next size text cut.least cut.some
      ∙ ap (λ p. p ∷ parts size (drop size text)) (sym cut.front)
      ∙ ap (λ t. part ∷ parts size t) (sym cut.back))

  -- the first part of a text and, if it was inserted, what is left then
  pub typed_more : (now : SessionData) → true ≡ is_ok answer → now ≡ last_of d (commanded i answer d)
      → typed i v (parts size text) d ≡ commanded i answer d ++ rest now
  typed_more now ok at = typed_at ∙ typed_next rest i d now answer (sym ok) at

  pub typed_last : false ≡ is_ok answer → typed i v (parts size text) d ≡ commanded i answer d ++ []
  typed_last not_ok = typed_at ∙ typed_end rest i d answer (sym not_ok)

  pub typed_part : (left : List (Step SessionData)) × (typed i v (parts size text) d ≡ commanded i answer d ++ left)
  typed_part = let any = typed_any rest i d answer in (any.0, typed_at ∙ any.1)

pub typed_none : (size i v : ℕ) (text : List ℕ) (d : SessionData) → length text ≡ 0 → typed i v (parts size text) d ≡ []
unfolding typed_in
typed_none size i v text d none = ap (λ ps. typed i v ps d) (parts_none size text none)

-- ---- messages

-- the message of a number and those after it
pub given_more : (i k : ℕ) (os : List OpData) (d : SessionData) (o : OpData) → slice_get os k ≡ Some o
    → given_all i (drop k os) d ≡ given true i o d ++ given_all i (drop (k + 1) os) (last_of d (given true i o d))
unfolding given_all
given_more i k os d o at =
    let within : k < length os = slice_get_within os k o at in
    let both : Some (get_or os k o) ≡ Some o = sym (slice_get-get_or os k o within) ∙ at in
    let here : get_or os k o ≡ o = cc in
    let next : suc k ≡ k + 1 = omega arith in
    let cut : drop k os ≡ o ∷ drop (k + 1) os =
    drop-cons os k o within ∙ ap (λ p. p ∷ drop (suc k) os) here ∙ ap (λ n. o ∷ drop n os) next in
    ap (λ ps. given_all i ps d) cut

pub given_none : (i : ℕ) (os : List OpData) (d : SessionData) (k : ℕ) → length os ≤ k → given_all i (drop k os) d ≡ []
unfolding given_all
given_none i os d k past = ap (λ ps. given_all i ps d) (drop_all k os past)

-- the message of a number
pub message_there : (os : List OpData) (k : ℕ) → k < length os → (o : OpData) × (slice_get os k ≡ Some o)
message_there [] k within = absurd (omega (arith, within))
message_there (p ∷ ps) zero within = (p, refl)
message_there (p ∷ ps) (suc k) within = message_there ps k (omega (arith, within))

-- ---- sites

-- the site of a number and those after it
pub synced_more : (i n : ℕ) (d : SessionData) → i < n
    → synced i (n - i) d ≡ given_all i d.messages d ++ synced (i + 1) (n - (i + 1)) (last_of d (given_all i d.messages d))
unfolding synced
synced_more i n d within =
    let count : n - i ≡ suc (n - (i + 1)) = omega (arith, within) in
    let next : suc i ≡ i + 1 = omega arith in
    ap (λ k. synced i k d) count ∙ ap (λ k. given_all i d.messages d ++ synced k (n - (i + 1)) (last_of d (given_all i d.messages d))) next

pub synced_none : (i n : ℕ) (d : SessionData) → n ≤ i → synced i (n - i) d ≡ []
unfolding synced
synced_none i n d past =
    let none : n - i ≡ 0 = omega (arith, past) in
    ap (λ k. synced i k d) none

sites_push : (i n : ℕ) → new_sites i (suc n) ≡ new_sites i n ++ new_site (i + n) ∷ []
unfolding new_sites
sites_push i zero = let same : i ≡ i + 0 = omega arith in ap (λ k. new_site k ∷ []) same
sites_push i (suc n) =
    let same : suc i + n ≡ i + suc n = omega arith in
    ap (λ xs. new_site i ∷ xs) (sites_push (suc i) n ∙ ap (λ k. new_sites (suc i) n ++ new_site k ∷ []) same)

-- one more site
pub sites_more : (n : ℕ) → new_sites 0 (n + 1) ≡ new_sites 0 n ++ new_site n ∷ []
sites_more n =
    let next : n + 1 ≡ suc n = omega arith in
    let same : 0 + n ≡ n = omega arith in
    ap (new_sites 0) next ∙ sites_push 0 n ∙ ap (λ k. new_sites 0 n ++ new_site k ∷ []) same

pub sites_none : new_sites 0 0 ≡ []
unfolding new_sites
sites_none = refl

-- ---- frames

judged_used : (used : ℕ) (r : Result OpData Fault) (p : OpData × ℕ) → judged used r ≡ Ok p → used ≡ p.1
judged_used used (Ok o) p e = let same : (o, used) ≡ p = cc in ap (λ (q : OpData × ℕ). q.1) same
judged_used used (Err f) p e = absurd cc

used_of : (a b c : Bool) (x y z : Refused) (used : ℕ) (r : Result OpData Fault) (p : OpData × ℕ)
    → ◌≡◌ {A = Result (OpData × ℕ) Refused} (if a then Err x else if b then Err y else if c then Err z else judged (4 + used) r) (Ok p)
    → 0 < p.1
used_of true b c x y z used r p e = absurd cc
used_of false true c x y z used r p e = absurd cc
used_of false false true x y z used r p e = absurd cc
used_of false false false x y z used r p e = omega (arith, judged_used (4 + used) r p e)

-- what is judged to be a frame has bytes
used_some : (v : Version) (bytes : List ℕ) (p : OpData × ℕ) → judge v bytes ≡ Ok p → 0 < p.1
unfolding judge
used_some v bytes p e =
    used_of (nat_lt (length bytes) 4) (nat_lt (longest v) (length_of bytes)) (nat_lt (length bytes) (4 + length_of bytes)) _ _ _
    (length_of bytes) _ p e

-- as many frames as bytes are enough
framed_enough : (v : Version) (n m i : ℕ) (bytes : List ℕ) (d : SessionData) → length bytes ≤ n → length bytes ≤ m
    → framed v n i bytes d ≡ framed v m i bytes d
unfolding framed
framed_enough v n m i [] d few less = both n m
  where
    none : (k : ℕ) → framed v k i [] d ≡ []
    none zero = refl
    none (suc k) = refl

    both : (k l : ℕ) → framed v k i [] d ≡ framed v l i [] d
    both k l = none k ∙ sym (none l)
framed_enough v zero m i (b ∷ bs) d few less = absurd (omega (arith, few))
framed_enough v (suc n) zero i (b ∷ bs) d few less = absurd (omega (arith, less))
framed_enough v (suc n) (suc m) i (b ∷ bs) d few less = from (λ xs e k l. framed_enough v n m i xs e k l) (judge v (b ∷ bs)) refl
  where
    from : ((xs : List ℕ) (e : SessionData) → length xs ≤ n → length xs ≤ m → framed v n i xs e ≡ framed v m i xs e)
        → (r : Result (OpData × ℕ) Refused) → judge v (b ∷ bs) ≡ r
        → framed_on (framed v n i) v i (b ∷ bs) r d ≡ framed_on (framed v m i) v i (b ∷ bs) r d
    from again (Err (More least)) is = refl
    from again (Err (Bad f)) is = refl
    from again (Ok p) is =
        let some = used_some v (b ∷ bs) p is in
        let left : length (drop p.1 (b ∷ bs)) ≤ length bs = omega (arith, some, length-drop p.1 (b ∷ bs)) in
        ap (λ es. given false i p.0 d ++ es)
        (again (drop p.1 (b ∷ bs)) (last_of d (given false i p.0 d)) (omega (arith, left, few)) (omega (arith, left, less)))

framed_is : (v : Version) (i : ℕ) (bytes : List ℕ) (d : SessionData) → 0 < length bytes
    → (n : ℕ) × (length bytes ≡ suc n) × (framed v (length bytes) i bytes d ≡ framed_on (framed v n i) v i bytes (judge v bytes) d)
unfolding framed
framed_is v i [] d some = absurd (omega (arith, some))
framed_is v i (b ∷ bs) d some = (length bs, refl, refl)

no_fuel : (v : Version) (i : ℕ) (bytes : List ℕ) (d : SessionData) → framed v 0 i bytes d ≡ []
unfolding framed
no_fuel v i [] d = refl
no_fuel v i (b ∷ bs) d = refl

one_is : (v : Version) (i : ℕ) (bytes : List ℕ) (d : SessionData) → 0 < length bytes
    → framed v 1 i bytes d ≡ framed_on (framed v 0 i) v i bytes (judge v bytes) d
unfolding framed
one_is v i [] d some = absurd (omega (arith, some))
one_is v i (b ∷ bs) d some = refl

-- the first frame
pub one_frame : (v : Version) (i : ℕ) (bytes : List ℕ) (d : SessionData) (o : OpData) (used : ℕ) → 0 < length bytes
    → Ok (o, used) ≡ judge v bytes
    → framed v 1 i bytes d ≡ given false i o d
one_frame v i bytes d o used some is =
    one_is v i bytes d some
    ∙ ap (λ r. framed_on (framed v 0 i) v i bytes r d) (sym is)
    ∙ ap (λ es. given false i o d ++ es) (no_fuel v i (drop used bytes) (last_of d (given false i o d)))
    ∙ append-nil (given false i o d)

-- no frame
pub one_refused : (v : Version) (i : ℕ) (bytes : List ℕ) (d : SessionData) (r : Refused) → 0 < length bytes → Err r ≡ judge v bytes
    → framed v 1 i bytes d ≡ told (refused_frame v i r) d
one_refused v i bytes d (More least) some is = one_is v i bytes d some ∙ ap (λ r. framed_on (framed v 0 i) v i bytes r d) (sym is)
one_refused v i bytes d (Bad f) some is = one_is v i bytes d some ∙ ap (λ r. framed_on (framed v 0 i) v i bytes r d) (sym is)

-- the first frame, and those after it
pub frames_on : (v : Version) (i : ℕ) (bytes : List ℕ) (d now : SessionData) (used : ℕ) → 0 < length bytes
    → Some used ≡ frame_bytes (judge v bytes)
    → now ≡ last_of d (framed v 1 i bytes d)
    → framed v (length bytes) i bytes d ≡ framed v 1 i bytes d ++ framed v (length (drop used bytes)) i (drop used bytes) now
frames_on v i bytes d now used some is at = from (judge v bytes) refl
  where
    from : (r : Result (OpData × ℕ) Refused) → judge v bytes ≡ r
        → framed v (length bytes) i bytes d ≡ framed v 1 i bytes d ++ framed v (length (drop used bytes)) i (drop used bytes) now
    from (Err r) e = absurd (none-some used (sym (is ∙ ap frame_bytes e)))
    from (Ok p) e =
        let both : Some used ≡ Some p.1 = is ∙ ap frame_bytes e in
        let same : used ≡ p.1 = cc in
        let pair : Ok (p.0, used) ≡ judge v bytes = ap (λ n. Ok (p.0, n)) same ∙ sym e in
        let one = one_frame v i bytes d p.0 used some pair in
        let first = framed_is v i bytes d some in
        let n = first.0 in
        let begun = used_some v bytes p e in
        let left : length (drop used bytes) ≤ n = omega (arith, begun, same, first.1, length-drop used bytes) in
        let later : last_of d (given false i p.0 d) ≡ now = ap (last_of d) (sym one) ∙ sym at in
        first.2
        ∙ ap (λ r. framed_on (framed v n i) v i bytes r d) (sym pair)
        ∙ ap (λ es. given false i p.0 d ++ es)
        (framed_enough v n (length (drop used bytes)) i (drop used bytes) (last_of d (given false i p.0 d)) left (omega arith))
        ∙ ap (λ x. given false i p.0 d ++ framed v (length (drop used bytes)) i (drop used bytes) x) later
        ∙ ap (λ es. es ++ framed v (length (drop used bytes)) i (drop used bytes) now) (sym one)

-- nothing follows bytes that begin with no frame
pub frames_end : (v : Version) (i : ℕ) (bytes : List ℕ) (d : SessionData) → 0 < length bytes → None ≡ frame_bytes (judge v bytes)
    → framed v (length bytes) i bytes d ≡ framed v 1 i bytes d ++ []
frames_end v i bytes d some is = from (judge v bytes) refl
  where
    from : (r : Result (OpData × ℕ) Refused) → judge v bytes ≡ r → framed v (length bytes) i bytes d ≡ framed v 1 i bytes d ++ []
    from (Ok p) e = absurd (none-some p.1 (is ∙ ap frame_bytes e))
    from (Err (More least)) e =
        let first = framed_is v i bytes d some in
        first.2 ∙ ap (λ r. framed_on (framed v first.0 i) v i bytes r d) e
        ∙ sym (append-nil _ ∙ one_refused v i bytes d (More least) some (sym e))
    from (Err (Bad f)) e =
        let first = framed_is v i bytes d some in
        first.2 ∙ ap (λ r. framed_on (framed v first.0 i) v i bytes r d) e
        ∙ sym (append-nil _ ∙ one_refused v i bytes d (Bad f) some (sym e))

-- the first frame is the first part
pub frames_part : (v : Version) (i : ℕ) (bytes : List ℕ) (d : SessionData) → 0 < length bytes
    → (left : List (Step SessionData)) × (framed v (length bytes) i bytes d ≡ framed v 1 i bytes d ++ left)
frames_part v i bytes d some = from (frame_bytes (judge v bytes)) refl
  where
    from : (r : Option ℕ) → frame_bytes (judge v bytes) ≡ r
        → (left : List (Step SessionData)) × (framed v (length bytes) i bytes d ≡ framed v 1 i bytes d ++ left)
    from None e = ([], frames_end v i bytes d some (sym e))
    from (Some used) e = (
      framed v (length (drop used bytes)) i (drop used bytes) (last_of d (framed v 1 i bytes d)),
      frames_on v i bytes d (last_of d (framed v 1 i bytes d)) used some (sym e) refl,
    )

-- a frame has bytes
pub frame_begun : (v : Version) (bytes : List ℕ) (used : ℕ) → Some used ≡ frame_bytes (judge v bytes) → 0 < used
frame_begun v bytes used is = from (judge v bytes) refl
  where
    from : (r : Result (OpData × ℕ) Refused) → judge v bytes ≡ r → 0 < used
    from (Err r) e = absurd (none-some used (sym (is ∙ ap frame_bytes e)))
    from (Ok p) e =
        let both : Some used ≡ Some p.1 = is ∙ ap frame_bytes e in
        let same : used ≡ p.1 = cc in
        omega (arith, used_some v bytes p e)

pub framed_none : (v : Version) (i : ℕ) (bytes : List ℕ) (d : SessionData) → length bytes ≡ 0 → framed v (length bytes) i bytes d ≡ []
unfolding framed
framed_none v i [] d none = refl
framed_none v i (b ∷ bs) d none = absurd (omega (arith, none))
