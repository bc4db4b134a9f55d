-- Passing over the frames of a log: what was passed over is the front of the log, and of one log only.
use Rattle.std.proofs.Common.{◌≡◌, ◌≢◌, ℕ, ◌+◌, ◌<◌, List, [], ◌∷◌, ◌++◌, Result, Ok, Err, refl, ap, sym, subst, ◌∙◌, length, drop, append_assoc, append-nil, arith, inl, inr}
use Rattle.std.specs.Prelude.{true, false, Option, Some, None}
use Rattle.std.specs.Option.{is_some}
use Rattle.std.proofs.lemmas.Bool.{true≢false, false≢true}
use Rattle.std.proofs.lemmas.Grind.{flat_map-append}
use Rattle.std.proofs.lemmas.List.{length-append, append_cancel_left}
use Rattle.std.proofs.lemmas.List.Elements.{Contains-append_cases, Contains-append_right}
use Rattle.context_diff.specs.Operations.{OpData, IsWellFormed}
use Rattle.context_diff.proofs.CallerLemmas.{contains_cases, contains_here, contains_later, contains_none}
use Rattle.wire_codec.specs.declared.fault.Fault.{Fault}
use Rattle.wire_codec.specs.declared.fault.Refused.{Refused}
use Rattle.wire_codec.specs.declared.fault.Refused.TheVariants.{More, Bad}
use Rattle.wire_codec.specs.declared.version.Version.{Version}
use Rattle.wire_codec.specs.Versions.{Fits}
use Rattle.wire_codec.specs.Reading.{fault}
use Rattle.wire_codec.specs.Spelling.{frame}
use Rattle.wire_codec.specs.Judging.{judge}
use Rattle.wire_codec.proofs.CallerLemmas.{judge_again, frame_once}
use Rattle.cot_site.specs.Sites.{AllFormed}
use Rattle.cot_site.proofs.CallerLemmas.{held_formed}
use Rattle.session_log.specs.declared.headers.TheConstants.{HEADER_LEN}
use Rattle.session_log.specs.declared.log_bad.LogBad.{LogBad}
use Rattle.session_log.specs.declared.log_bad.LogBad.TheVariants as bad
use Rattle.session_log.specs.Logs.{header, frames, AllFit, BeginsWith, offset_after, IsLogOf}
use Rattle.session_log.specs.Readings.{HasOperation, IsUnread}
use Rattle.session_log.specs.Code.Passing.{LeftData, PassesOver, Steps, HasNoStep}
use Rattle.session_log.proofs.HeaderFronts.{one_header}

-- ---- one operation more

pub frames_push : (v : Version) (os : List OpData) (o : OpData) → frames v (os ++ o ∷ []) ≡ frames v os ++ frame v o
frames_push v os o = flat_map-append (frame v) os (o ∷ []) ∙ ap (λ (t : List ℕ). frames v os ++ t) (append-nil (frame v o))

pub offset_push : (v : Version) (os : List OpData) (o : OpData) → offset_after v (os ++ o ∷ []) ≡ offset_after v os + length (frame v o)
offset_push v os o = omega (arith, ap length (frames_push v os o), length-append (frames v os) (frame v o))

pub none_formed : AllFormed []
none_formed o there = absurd (contains_none o there)

pub none_fit : (v : Version) → AllFit v []
none_fit v o there = absurd (contains_none o there)

pub formed_back : (fs bs : List OpData) → AllFormed (fs ++ bs) → AllFormed bs
formed_back fs bs all o there = all o (Contains-append_right fs bs o there)

pub fit_back : (v : Version) (fs bs : List OpData) → AllFit v (fs ++ bs) → AllFit v bs
fit_back v fs bs all o there = all o (Contains-append_right fs bs o there)

pub formed_append : (fs bs : List OpData) → AllFormed fs → AllFormed bs → AllFormed (fs ++ bs)
formed_append fs bs all some o there = elim (Contains-append_cases fs bs o there) [
  | inl here ↦ all o here
  | inr there ↦ some o there
]

pub fit_append : (v : Version) (fs bs : List OpData) → AllFit v fs → AllFit v bs → AllFit v (fs ++ bs)
fit_append v fs bs all some o there = elim (Contains-append_cases fs bs o there) [
  | inl here ↦ all o here
  | inr there ↦ some o there
]

one_fits : (v : Version) (o : OpData) → Fits v o → AllFit v (o ∷ [])
one_fits v o fits p there = elim (contains_cases o [] p there) [
  | inl same ↦ subst (Fits v) same fits
  | inr later ↦ absurd (contains_none p later)
]

pub begins_next : (v : Version) (all left next : List ℕ) (ops : List OpData) (o : OpData) → BeginsWith v all ops left
    → left ≡ frame v o ++ next → IsWellFormed o → Fits v o → BeginsWith v all (ops ++ o ∷ []) next
begins_next v all left next ops o b is well fits = record {
  formed = held_formed ops o b.formed well;
  fits = fit_append v ops (o ∷ []) b.fits (one_fits v o fits);
  parts = b.parts ∙ ap (λ (t : List ℕ). header v ++ t)
      (ap (λ (t : List ℕ). frames v ops ++ t) is ∙ sym (append_assoc (frames v ops) (frame v o) next)
      ∙ ap (λ (t : List ℕ). t ++ next) (sym (frames_push v ops o)));
}

-- these operations were passed over
pub record IsPassed (bytes : List ℕ) (os : List OpData) (left : LeftData) : Type 0 where
  pub begins : BeginsWith left.version bytes os left.bytes
  pub place : left.offset ≡ offset_after left.version os

pub passed_first : (bytes : List ℕ) (left : LeftData) → bytes ≡ header left.version ++ left.bytes → left.offset ≡ HEADER_LEN
    → IsPassed bytes [] left
passed_first bytes left parts place = record {
  begins = record { formed = none_formed; fits = none_fit left.version; parts = parts };
  place = place;
}

pub passed_more : (bytes : List ℕ) (os : List OpData) (o : OpData) (old new : LeftData) → IsPassed bytes os old → PassesOver old o new
    → IsPassed bytes (os ++ o ∷ []) new
passed_more bytes os o old new w step =
    let f = step.is_frame in
    let begins : BeginsWith old.version bytes (os ++ o ∷ []) new.bytes =
    subst (BeginsWith old.version bytes (os ++ o ∷ [])) (sym step.bytes)
    (begins_next old.version bytes old.bytes (drop step.used old.bytes) os o w.begins f.parts f.well f.fits) in
    let place : new.offset ≡ offset_after old.version (os ++ o ∷ []) =
    omega (arith, step.offset, w.place, f.size, offset_push old.version os o) in
    record {
      begins = subst (λ (v : Version). BeginsWith v bytes (os ++ o ∷ []) new.bytes) (sym step.version) begins;
      place = place ∙ ap (λ (v : Version). offset_after v (os ++ o ∷ [])) (sym step.version);
    }

pub passed_begins : (bytes : List ℕ) (os : List OpData) (left : LeftData) → IsPassed bytes os left → left.bytes ≡ []
    → BeginsWith left.version bytes os []
passed_begins bytes os left w none = subst (BeginsWith left.version bytes os) none w.begins

pub passed_end : (bytes : List ℕ) (os : List OpData) (left : LeftData) → IsPassed bytes os left → left.bytes ≡ [] → IsLogOf bytes os
passed_end bytes os left w none = record { version = left.version; begins = passed_begins bytes os left w none }

-- the operation that was passed over last is there
pub has_operation : (bytes : List ℕ) (os : List OpData) (o : OpData) (old new : LeftData) → IsPassed bytes os old → PassesOver old o new
    → HasOperation bytes
has_operation bytes os o old new w step = record {
  version = new.version;
  before = os;
  op = o;
  rest = new.bytes;
  begins = (passed_more bytes os o old new w step).begins;
}

-- a step leaves fewer bytes
pub fewer : (o : OpData) (old new : LeftData) → PassesOver old o new → length new.bytes < length old.bytes
fewer o old new step =
    let f = step.is_frame in
    omega (arith, ap length f.parts, ap length step.bytes, length-append (frame old.version o) (drop step.used old.bytes))

-- a step, as it is told without its operation
pub passed_on : (bytes : List ℕ) (old new : LeftData) (r : Option OpData) → ((os : List OpData) × IsPassed bytes os old) → Steps old r new
    → is_some r ≡ true → (os : List OpData) × IsPassed bytes os new
passed_on bytes old new None w step some = absurd (false≢true some)
passed_on bytes old new (Some o) w step some = (w.0 ++ o ∷ [], passed_more bytes w.0 o old new w.1 step)

pub passed_all : (bytes : List ℕ) (old new : LeftData) (r : Option OpData) → ((os : List OpData) × IsPassed bytes os old) → Steps old r new
    → is_some r ≡ false → (os : List OpData) × IsLogOf bytes os
passed_all bytes old new None w step none = (w.0, passed_end bytes w.0 old w.1 step.0)
passed_all bytes old new (Some o) w step none = absurd (true≢false none)

pub fewer_left : (old new : LeftData) (r : Option OpData) → Steps old r new → is_some r ≡ true → length new.bytes < length old.bytes
fewer_left old new None step some = absurd (false≢true some)
fewer_left old new (Some o) step some = fewer o old new step

-- why there is no step is why the bytes are not read
pub unread : (bytes : List ℕ) (os : List OpData) (left : LeftData) (why : LogBad) → IsPassed bytes os left → HasNoStep left why
    → IsUnread bytes why
unread bytes os left bad.Header w no_step = absurd no_step
unread bytes os left (bad.Cut offset) w (some, needed, place) = record {
  version = left.version;
  before = os;
  rest = left.bytes;
  begins = w.begins;
  some = some;
  needed = needed.0;
  judged = needed.1;
  place = place ∙ w.place;
}
unread bytes os left (bad.Bad offset cause) w (within, judged, place) = record {
  version = left.version;
  before = os;
  rest = left.bytes;
  begins = w.begins;
  within = within;
  judged = judged;
  place = place ∙ ap (λ (n : ℕ). n + within) w.place;
}
unread bytes os left (bad.Refused offset member verdict) w no_step = absurd no_step
unread bytes os left bad.Memory w (used, there) =
    let next : LeftData = record { version = left.version; offset = left.offset + used; bytes = drop used left.bytes } in
    has_operation bytes os there.op left next w
    (record { used = used; is_frame = there.is; version = refl; offset = refl; bytes = refl })

-- ---- what comes after operations

-- what begins with a frame is judged good
pub good_not_err : (v : Version) (o : OpData) (rest : List ℕ) (why : Refused) → IsWellFormed o → Fits v o
    → judge v (frame v o ++ rest) ≡ Err why → ⊥
good_not_err v o rest why well fits e = never (length (frame v o)) (sym (judge_again v o rest well fits) ∙ e)
  where
    never : (n : ℕ) → ◌≡◌ {A = Result (OpData × ℕ) Refused} (Ok (o, n)) (Err why) → ⊥
    never n both = cc

-- after these operations come the others, and then what begins with no frame
pub record Continues (v : Version) (fs gs : List OpData) (q r : List ℕ) : Type 0 where
  pub others : List OpData
  pub parts : gs ≡ fs ++ others
  pub formed : AllFormed others
  pub fits : AllFit v others
  pub left_is : q ≡ frames v others ++ r

continues_by : (v : Version) (fs gs : List OpData) (q r : List ℕ) (e : Refused) → AllFormed fs → AllFit v fs → AllFormed gs → AllFit v gs
    → frames v fs ++ q ≡ frames v gs ++ r → judge v r ≡ Err e → Continues v fs gs q r
continues_by v [] gs q r e all fit some fits is at_r =
    record { others = gs; parts = refl; formed = some; fits = fits; left_is = is }
continues_by v (f ∷ fs) [] q r e all fit some fits is at_r =
    absurd (good_not_err v f (frames v fs ++ q) e (all f (contains_here f fs)) (fit f (contains_here f fs))
    (ap (judge v) (sym (append_assoc (frame v f) (frames v fs) q) ∙ is) ∙ at_r))
continues_by v (f ∷ fs) (g ∷ gs) q r e all fit some fits is at_r =
    let whole : frame v f ++ (frames v fs ++ q) ≡ frame v g ++ (frames v gs ++ r) =
    sym (append_assoc (frame v f) (frames v fs) q) ∙ is ∙ append_assoc (frame v g) (frames v gs) r in
    let same : f ≡ g =
    frame_once v f g (frames v fs ++ q) (frames v gs ++ r) (all f (contains_here f fs)) (fit f (contains_here f fs))
    (some g (contains_here g gs)) (fits g (contains_here g gs)) whole in
    let later : frames v fs ++ q ≡ frames v gs ++ r =
    append_cancel_left (frame v g) (frames v fs ++ q) (frames v gs ++ r)
    (ap (λ (x : OpData). frame v x ++ (frames v fs ++ q)) (sym same) ∙ whole) in
    let c =
    continues_by v fs gs q r e (λ x c. all x (contains_later f fs x c)) (λ x c. fit x (contains_later f fs x c))
    (λ x c. some x (contains_later g gs x c)) (λ x c. fits x (contains_later g gs x c)) later at_r in
    record {
      others = c.others;
      parts = ap (λ (x : OpData). x ∷ gs) (sym same) ∙ ap (λ (xs : List OpData). f ∷ xs) c.parts;
      formed = c.formed;
      fits = c.fits;
      left_is = c.left_is;
    }

-- one version has its header in front
pub same_version : (v w : Version) (bytes : List ℕ) (fs gs : List OpData) (q r : List ℕ) → BeginsWith v bytes fs q → BeginsWith w bytes gs r
    → v ≡ w
same_version v w bytes fs gs q r u b = one_header v w (frames v fs ++ q) (frames w gs ++ r) (sym u.parts ∙ b.parts)

pub begins_as : (v w : Version) (bytes : List ℕ) (gs : List OpData) (r : List ℕ) → v ≡ w → BeginsWith w bytes gs r → BeginsWith v bytes gs r
begins_as v w bytes gs r same = subst (λ (x : Version). BeginsWith x bytes gs r) (sym same)

pub continues : (v w : Version) (bytes : List ℕ) (fs gs : List OpData) (q r : List ℕ) (e : Refused) → BeginsWith v bytes fs q
    → BeginsWith w bytes gs r → judge w r ≡ Err e → Continues v fs gs q r
continues v w bytes fs gs q r e u b at_r =
    let same = same_version v w bytes fs gs q r u b in
    let c = begins_as v w bytes gs r same b in
    continues_by v fs gs q r e u.formed u.fits c.formed c.fits
    (append_cancel_left (header v) (frames v fs ++ q) (frames v gs ++ r) (sym u.parts ∙ c.parts))
    (ap (λ (x : Version). judge x r) same ∙ at_r)

-- nothing is no whole frame
pub nothing_needs : (v : Version) → judge v [] ≡ Err (More 4)
unfolding judge
nothing_needs v = refl

-- a log goes on with the operations that it begins with
pub log_continues : (v : Version) (bytes : List ℕ) (fs ops : List OpData) (q : List ℕ) → BeginsWith v bytes fs q → IsLogOf bytes ops
    → Continues v fs ops q []
log_continues v bytes fs ops q u log =
    continues v log.version bytes fs ops q [] (More 4) u log.begins (nothing_needs log.version)

-- and is one of the version whose header stands first
pub log_as : (v : Version) (bytes : List ℕ) (fs ops : List OpData) (q : List ℕ) → BeginsWith v bytes fs q → IsLogOf bytes ops
    → BeginsWith v bytes ops []
log_as v bytes fs ops q u log =
    begins_as v log.version bytes ops [] (same_version v log.version bytes fs ops q [] u log.begins) log.begins

-- ---- the laws of reading

pub one_log : (bytes : List ℕ) (a b : List OpData) → IsLogOf bytes a → IsLogOf bytes b → a ≡ b
one_log bytes a b log_a log_b =
    let v = log_b.version in
    let f = log_continues v bytes b a [] log_b.begins log_a in
    f.parts ∙ (ap (λ (xs : List OpData). b ++ xs) (none v f.others f.left_is) ∙ append-nil b)
  where
    none : (v : Version) (os : List OpData) → [] ≡ frames v os ++ [] → os ≡ []
    none v [] e = refl
    none v (o ∷ os) e =
        absurd (omega (arith, ap length e, length-append (frame v o ++ frames v os) [], length-append (frame v o) (frames v os)))

-- what is left of a log, if there is something, begins with a frame
left_good : (v : Version) (os : List OpData) (rest : List ℕ) (why : Refused) → AllFormed os → AllFit v os → rest ≡ frames v os ++ []
    → rest ≢ [] → judge v rest ≡ Err why → ⊥
left_good v [] rest why all fits is some e = some is
left_good v (o ∷ os) rest why all fits is some e =
    good_not_err v o (frames v os ++ []) why (all o (contains_here o os)) (fits o (contains_here o os))
    (ap (judge v) (sym (append_assoc (frame v o) (frames v os) []) ∙ sym is) ∙ e)

-- nothing is no fault
nothing_bad : (v : Version) (f : Fault) → judge v [] ≡ Err (Bad f) → ⊥
unfolding judge
nothing_bad v f e = cc

pub log_no_fault : (bytes : List ℕ) (os : List OpData) (why : LogBad) → IsLogOf bytes os → why ≢ bad.Memory → ¬ IsUnread bytes why
log_no_fault bytes os bad.Header log apart u = u log.version (frames log.version os ++ []) log.begins.parts
log_no_fault bytes os (bad.Cut offset) log apart u =
    let f = log_continues u.version bytes u.before os u.rest u.begins log in
    left_good u.version f.others u.rest (More u.needed) f.formed f.fits f.left_is u.some u.judged
log_no_fault bytes os (bad.Bad offset cause) log apart u =
    let f = log_continues u.version bytes u.before os u.rest u.begins log in
    left_good u.version f.others u.rest (Bad (fault cause u.within)) f.formed f.fits f.left_is
    (λ none. nothing_bad u.version (fault cause u.within) (ap (judge u.version) (sym none) ∙ u.judged)) u.judged
log_no_fault bytes os (bad.Refused offset member verdict) log apart u = u
log_no_fault bytes os bad.Memory log apart u = apart refl
