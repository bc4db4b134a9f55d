-- The end of a log: why there is no site, or that there is.
use Rattle.std.proofs.Common.{◌≡◌, ◌≢◌, ℕ, ◌+◌, ◌-◌, ◌<◌, ◌≤◌, List, [], ◌++◌, ◌⊎◌, inl, inr, Bool, cond, ltb, refl, ap, sym, subst, ◌∙◌, length, append-nil, arith}
use Rattle.std.specs.Option.{is_some}
use Rattle.std.specs.Prelude.{Option, Some, None, true, false}
use Rattle.std.proofs.lemmas.Bool.{ltb-true, ltb-false, true≢false, false≢true}
use Rattle.std.proofs.lemmas.List.{length-append, nil_from_length}
use Rattle.std.proofs.lemmas.Option.{none-some}
use Rattle.wire_codec.specs.declared.version.Version.{Version}
use Rattle.cot_site.specs.States.{State}
use Rattle.session_log.specs.declared.headers.TheConstants.{HEADER_LEN}
use Rattle.session_log.specs.declared.log_bad.LogBad.{LogBad}
use Rattle.session_log.specs.declared.log_bad.LogBad.TheVariants as bad
use Rattle.session_log.specs.Logs.{header, BeginsWith, IsLogOf}
use Rattle.session_log.specs.Readings.{IsUnread}
use Rattle.session_log.specs.Loadings.{IsLoaded, IsUnloaded}
use Rattle.session_log.specs.ReaderData.{ReaderData, reader_of}
use Rattle.session_log.specs.Readers.{IsFaultOf, AreTakenTo, HasRead, KeepsOf, Keeps}
use Rattle.session_log.specs.Code.Steps.{end_fault}
use Rattle.session_log.proofs.HeaderFronts.{header_long}
use Rattle.session_log.proofs.Steps.{fault_on, at_left}

-- why bytes are not read is why they are not loaded
pub unloaded : (site : ℕ) (all : List ℕ) (why : LogBad) → why ≢ bad.Memory → IsUnread all why → IsUnloaded site all why
unloaded site all bad.Header apart u = u
unloaded site all (bad.Cut offset) apart u = u
unloaded site all (bad.Bad offset cause) apart u = u
unloaded site all (bad.Refused offset member verdict) apart u = absurd u
unloaded site all bad.Memory apart u = absurd (apart refl)

-- what a reader keeps whose fault is this, or that has none
pub kept_at : (r : ReaderData) (all : List ℕ) (fault : Option LogBad) → r.fault ≡ fault → Keeps r all → KeepsOf r all fault
kept_at r all fault is k = subst (KeepsOf r all) is k.kept

is_some_of : (f : Option LogBad) → is_some f ≡ true → (why : LogBad) × (f ≡ Some why)
is_some_of None e = absurd (false≢true e)
is_some_of (Some why) e = (why, refl)

pub is_none_of : (f : Option LogBad) → is_some f ≡ false → f ≡ None
is_none_of None e = refl
is_none_of (Some why) e = absurd (true≢false e)

-- a fault that was met stays the fault
pub still_fault : (n : ℕ) (v : Version) (fed : ℕ) (left : List ℕ) (s : State) (refused f : Option LogBad) (spent : Bool) (old : ReaderData)
    (piece : List ℕ)
    → reader_of n v fed left s refused f spent ≡ old → is_some f ≡ true
    → (all : List ℕ) → Keeps old all → Keeps (reader_of n v (fed + length piece) left s refused f spent) (all ++ piece)
still_fault n v fed left s refused f spent old piece view some all k =
    let r = reader_of n v fed left s refused f spent in
    let new = reader_of n v (fed + length piece) left s refused f spent in
    let here : Keeps r all = subst (λ (x : ReaderData). Keeps x all) (sym view) k in
    let w = is_some_of f some in
    record {
      live = here.live;
      fed = ap (λ (m : ℕ). m + length piece) here.fed ∙ sym (length-append all piece);
      kept = subst (KeepsOf new (all ++ piece)) (sym w.1) (fault_on all piece w.0 (kept_at r all (Some w.0) w.1 here));
    }

-- without one, what the piece leaves is kept
pub fed_on : (n : ℕ) (v : Version) (fed : ℕ) (left : List ℕ) (s : State) (refused f : Option LogBad) (spent : Bool) (old : ReaderData)
    (piece : List ℕ)
    → reader_of n v fed left s refused f spent ≡ old → is_some f ≡ false → spent ≡ false
    → (turned : Version) (fed_then : ℕ) (left_then : List ℕ) (t : State) (now why : Option LogBad)
    → ((all : List ℕ) → Keeps (reader_of n v fed left s refused None false) all
    → Keeps (reader_of n turned fed_then left_then t now why false) (all ++ piece))
    → (all : List ℕ) → Keeps old all → Keeps (reader_of n turned fed_then left_then t now why spent) (all ++ piece)
fed_on n v fed left s refused f spent old piece view none live turned fed_then left_then t now why goes all k =
    let same : old ≡ reader_of n v fed left s refused None false =
    sym view ∙ ap (λ (x : Option LogBad). reader_of n v fed left s refused x spent) (is_none_of f none)
    ∙ ap (reader_of n v fed left s refused None) live in
    subst (λ (b : Bool). Keeps (reader_of n turned fed_then left_then t now why b) (all ++ piece)) (sym live)
    (goes all (subst (λ (x : ReaderData). Keeps x all) same k))

-- a fault of the bytes
fault_of : (r : ReaderData) (all : List ℕ) (why : LogBad) → r.fault ≡ Some why → Keeps r all → IsFaultOf all why
fault_of r all why is k = kept_at r all (Some why) is k

pub ends_faulty : (r : ReaderData) (all : List ℕ) (why : LogBad) → r.fault ≡ Some why → Keeps r all → IsUnloaded r.site all why
ends_faulty r all why is k =
    let f = fault_of r all why is k in
    unloaded r.site all why f.0 (subst (λ (t : List ℕ). IsUnread t why) (append-nil all) (f.1 []))

pub faulty_apart : (r : ReaderData) (all : List ℕ) (why : LogBad) → r.fault ≡ Some why → Keeps r all → why ≢ bad.Memory
faulty_apart r all why is k = (fault_of r all why is k).0

-- the header isn't whole
pub ends_early : (r : ReaderData) (all : List ℕ) → r.fed < HEADER_LEN → Keeps r all → IsUnread all bad.Header
ends_early r all few k v rest e = omega (arith, few, k.fed, ap length e, header_long v, length-append (header v) rest)

-- the header and each whole frame were read
has_read : (r : ReaderData) (all : List ℕ) → r.fault ≡ None → HEADER_LEN ≤ r.fed → Keeps r all → HasRead r all
has_read r all is enough k = elim (kept_at r all None is k) [
  | inl awaits ↦ absurd (let few = awaits.few in let count = k.fed in omega (arith, few, count, enough))
  | inr has ↦ has
]

-- the last frame is cut
pub ends_cut : (r : ReaderData) (all : List ℕ) → r.fault ≡ None → HEADER_LEN ≤ r.fed → 0 < length r.left → Keeps r all
    → IsUnloaded r.site all (bad.Cut (r.fed - length r.left))
ends_cut r all is enough some k =
    let h = has_read r all is enough k in
    let t = h.taken in
    record {
      version = r.version;
      before = t.ops;
      rest = r.left;
      begins = t.begins;
      some = λ none. let zero_long = ap length none in omega (arith, some, zero_long);
      needed = h.needs.0;
      judged = h.needs.1;
      place = omega (arith, k.fed, at_left r.version all r.left t.ops t.begins);
    }

-- nothing is left: the bytes are a log
ends_log : (r : ReaderData) (all : List ℕ) → r.left ≡ [] → (h : HasRead r all) → IsLogOf all h.taken.ops
ends_log r all none h = record {
  version = r.version;
  begins = subst (λ (t : List ℕ). BeginsWith r.version all h.taken.ops t) none h.taken.begins;
}

pub ends_refused : (r : ReaderData) (all : List ℕ) (why : LogBad) → r.fault ≡ None → HEADER_LEN ≤ r.fed → r.left ≡ []
    → r.refused ≡ Some why → Keeps r all → (why ≢ bad.Memory) × IsUnloaded r.site all why
ends_refused r all why is enough none refused k =
    let h = has_read r all is enough k in
    let t = h.taken in
    let f = subst (λ (x : Option LogBad). AreTakenTo r.site all t.ops r.state x) refused t.taken in
    let log = subst (λ (x : List ℕ). IsLogOf x t.ops) (sym (append-nil all)) (ends_log r all none h) in
    (f.0, subst (λ (x : List ℕ). IsUnloaded r.site x why) (append-nil all) (f.1 [] t.ops log))

pub ends_loaded : (r : ReaderData) (all : List ℕ) → r.fault ≡ None → HEADER_LEN ≤ r.fed → r.left ≡ [] → r.refused ≡ None → Keeps r all
    → IsLoaded r.site all r.state
ends_loaded r all is enough none accepted k =
    let h = has_read r all is enough k in
    let t = h.taken in
    let f = subst (λ (x : Option LogBad). AreTakenTo r.site all t.ops r.state x) accepted t.taken in
    record { ops = t.ops; log = ends_log r all none h; taken = f.0; state = f.1 }

-- ---- all of it together

tests_some : (a b : Bool) (x y why : LogBad) → ◌≡◌ {A = Option LogBad} (cond a (Some x) (cond b (Some y) None)) (Some why)
    → ((a ≡ true) × (x ≡ why)) ⊎ ((a ≡ false) × (b ≡ true) × (y ≡ why))
tests_some true b x y why e = let same : x ≡ why = cc in inl (refl, same)
tests_some false true x y why e = let same : y ≡ why = cc in inr (refl, refl, same)
tests_some false false x y why e = absurd (let no = e in cc)

tests_none : (a b : Bool) (x y : LogBad) → ◌≡◌ {A = Option LogBad} (cond a (Some x) (cond b (Some y) None)) None → (a ≡ false) × (b ≡ false)
tests_none true b x y e = absurd (let no = e in cc)
tests_none false true x y e = absurd (let no = e in cc)
tests_none false false x y e = (refl, refl)

-- the fault at the end is why nothing is loaded
pub end_some : (r : ReaderData) (all : List ℕ) (why : LogBad) → Keeps r all → end_fault r.spent r.fault r.fed (length r.left) ≡ Some why
    → (why ≢ bad.Memory) × IsUnloaded r.site all why
end_some r all why k e = from r.fault refl (ap (λ (b : Bool). end_fault b r.fault r.fed (length r.left)) (sym k.live) ∙ e) where
  early : r.fed < HEADER_LEN → bad.Header ≡ why → (why ≢ bad.Memory) × IsUnloaded r.site all why
  early few is =
      subst (λ (w : LogBad). (w ≢ bad.Memory) × IsUnloaded r.site all w) is
      ((λ no. let never : bad.Header ≡ bad.Memory = no in cc), ends_early r all few k)

  cut : r.fault ≡ None → HEADER_LEN ≤ r.fed → 0 < length r.left → bad.Cut (r.fed - length r.left) ≡ why
      → (why ≢ bad.Memory) × IsUnloaded r.site all why
  cut none enough some is =
      subst (λ (w : LogBad). (w ≢ bad.Memory) × IsUnloaded r.site all w) is
      ((λ no. let never : bad.Cut (r.fed - length r.left) ≡ bad.Memory = no in cc), ends_cut r all none enough some k)

  from : (f : Option LogBad) → r.fault ≡ f → end_fault false f r.fed (length r.left) ≡ Some why
      → (why ≢ bad.Memory) × IsUnloaded r.site all why
  from (Some w) is e =
      let same : w ≡ why = cc in
      let faulty = is ∙ ap (λ (x : LogBad). Some x) same in
      (faulty_apart r all why faulty k, ends_faulty r all why faulty k)
  from None is e =
      elim (tests_some (ltb r.fed HEADER_LEN) (ltb 0 (length r.left)) bad.Header (bad.Cut (r.fed - length r.left)) why e) [
        | inl few ↦ early (ltb-true r.fed HEADER_LEN few.0) few.1
        | inr some ↦ cut is (ltb-false r.fed HEADER_LEN some.0) (ltb-true 0 (length r.left) some.1) some.2
      ]

-- without one, the bytes are a log
pub record IsWhole (r : ReaderData) : Type 0 where
  pub none : r.fault ≡ None
  pub enough : HEADER_LEN ≤ r.fed
  pub nothing : r.left ≡ []

pub end_none : (r : ReaderData) (all : List ℕ) → Keeps r all → end_fault r.spent r.fault r.fed (length r.left) ≡ None → IsWhole r
end_none r all k e = from r.fault refl (ap (λ (b : Bool). end_fault b r.fault r.fed (length r.left)) (sym k.live) ∙ e) where
  from : (f : Option LogBad) → r.fault ≡ f → end_fault false f r.fed (length r.left) ≡ None → IsWhole r
  from (Some w) is e = absurd (none-some w (sym e))
  from None is e =
      let both = tests_none (ltb r.fed HEADER_LEN) (ltb 0 (length r.left)) bad.Header (bad.Cut (r.fed - length r.left)) e in
      let zero_long = ltb-false 0 (length r.left) both.1 in
      record { none = is; enough = ltb-false r.fed HEADER_LEN both.0; nothing = nil_from_length r.left (omega (arith, zero_long)) }

-- the end, where there is no site
pub ends_err : (r : ReaderData) (all : List ℕ) (f : Option LogBad) (why : LogBad) → f ≡ end_fault r.spent r.fault r.fed (length r.left)
    → (f ≡ Some why) ⊎ ((f ≡ None) × (r.refused ≡ Some why)) → Keeps r all → (why ≢ bad.Memory) × IsUnloaded r.site all why
ends_err r all f why is (inl e) k = end_some r all why k (sym is ∙ e)
ends_err r all f why is (inr (e, refused)) k =
    let w = end_none r all k (sym is ∙ e) in
    ends_refused r all why w.none w.enough w.nothing refused k

-- and where there is one
pub ends_ok : (r : ReaderData) (all : List ℕ) (f : Option LogBad) → f ≡ end_fault r.spent r.fault r.fed (length r.left) → f ≡ None
    → r.refused ≡ None → Keeps r all → IsLoaded r.site all r.state
ends_ok r all f is e accepted k =
    let w = end_none r all k (sym is ∙ e) in
    ends_loaded r all w.none w.enough w.nothing accepted k

-- the same, of a reader of these parts
pub finish_err : (n : ℕ) (v : Version) (fed rest : ℕ) (left : List ℕ) (s : State) (refused f : Option LogBad) (spent : Bool)
    (old : ReaderData)
    (at : Option LogBad) (why : LogBad) → reader_of n v fed left s refused f spent ≡ old
    → at ≡ end_fault spent f fed rest → rest ≡ length left → (at ≡ Some why) ⊎ ((at ≡ None) × (refused ≡ Some why)) → (all : List ℕ)
    → Keeps old all → IsUnloaded old.site all why
finish_err n v fed rest left s refused f spent old at why view is long e all k =
    let r = reader_of n v fed left s refused f spent in
    subst (λ (x : ReaderData). IsUnloaded x.site all why) view
    (ends_err r all at why (is ∙ ap (end_fault spent f fed) long) e (subst (λ (x : ReaderData). Keeps x all) (sym view) k)).1

pub finish_ok : (n : ℕ) (v : Version) (fed rest : ℕ) (left : List ℕ) (s t : State) (refused f : Option LogBad) (spent : Bool)
    (old : ReaderData)
    (at : Option LogBad) → reader_of n v fed left s refused f spent ≡ old
    → at ≡ end_fault spent f fed rest → rest ≡ length left → at ≡ None → refused ≡ None → t ≡ s → (all : List ℕ) → Keeps old all
    → IsLoaded old.site all t
finish_ok n v fed rest left s t refused f spent old at view is long e accepted same all k =
    let r = reader_of n v fed left s refused f spent in
    subst (IsLoaded old.site all) (sym same)
    (subst (λ (x : ReaderData). IsLoaded x.site all s) view
    (ends_ok r all at (is ∙ ap (end_fault spent f fed) long) e accepted (subst (λ (x : ReaderData). Keeps x all) (sym view) k)))
