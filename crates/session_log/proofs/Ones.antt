-- What a reader keeps decides what loading gives: any bytes of which it keeps that give the same, whatever follows.
use Rattle.std.proofs.Common.{◌≡◌, ℕ, ◌+◌, List, [], ◌∷◌, ◌++◌, Err, inl, inr, refl, ap, sym, subst, ◌∙◌, length, take, append_assoc, arith}
use Rattle.std.specs.Prelude.{Option, Some, None}
use Rattle.std.proofs.lemmas.Bool.{false≢true}
use Rattle.std.proofs.lemmas.Grind.{flat_map-append}
use Rattle.std.proofs.lemmas.List.{length-append}
use Rattle.context_diff.specs.Operations.{OpData}
use Rattle.wire_codec.specs.declared.fault.Refused.{Refused}
use Rattle.wire_codec.specs.declared.fault.Refused.TheVariants.{More, Bad}
use Rattle.wire_codec.specs.declared.version.Version.{Version}
use Rattle.wire_codec.specs.Reading.{fault}
use Rattle.wire_codec.specs.Spelling.{frame}
use Rattle.wire_codec.specs.Judging.{judge}
use Rattle.cot_site.specs.Sites.{AllFormed}
use Rattle.cot_site.specs.States.{State}
use Rattle.session_log.specs.declared.log_bad.LogBad.{LogBad}
use Rattle.session_log.specs.declared.log_bad.LogBad.TheVariants as bad
use Rattle.session_log.specs.Logs.{header, frames, AllFit, BeginsWith, offset_after, IsLogOf}
use Rattle.session_log.specs.Laws.{LogsHaveNoFault, OneRefusal, OneLoading}
use Rattle.session_log.specs.Loadings.{first_refusal, verdicts_after, after_all, AreTakenIn, new_state, IsLoaded, IsUnloaded}
use Rattle.session_log.specs.ReaderData.{ReaderData}
use Rattle.session_log.specs.Readers.{IsFaultOf, AreTakenTo, HasTaken, HasRead, AwaitsHeader, KeepsOf, Keeps}
use Rattle.session_log.proofs.Frames.{fit_append, formed_append, continues, log_continues, begins_as, same_version}
use Rattle.session_log.proofs.TakingIn.{after-append, taken-append, taken_back}
use Rattle.session_log.proofs.Refusals.{comes_later}
use Rattle.session_log.proofs.Steps.{begins_on, at_left}
use Rattle.session_log.proofs.Endings.{kept_at, unloaded}

-- ---- two lists of bytes of which the same is kept

-- bytes that begin with these operations, and then with those that come after others elsewhere
moved : (v : Version) (b left : List ℕ) (gs others : List OpData) (rest more : List ℕ) → BeginsWith v b gs left
    → AllFormed others → AllFit v others → left ++ more ≡ frames v others ++ rest → BeginsWith v (b ++ more) (gs ++ others) rest
moved v b left gs others rest more y formed fits is = record {
  formed = formed_append gs others y.formed formed;
  fits = fit_append v gs others y.fits fits;
  parts = (begins_on v b left gs more y).parts
      ∙ ap (λ (t : List ℕ). header v ++ t)
      (ap (λ (t : List ℕ). frames v gs ++ t) is ∙ sym (append_assoc (frames v gs) (frames v others) rest)
      ∙ ap (λ (t : List ℕ). t ++ rest) (sym (flat_map-append (frame v) gs others)));
}

-- where both have the same length, what comes after has the same offset
same_offset : (v : Version) (a b left : List ℕ) (fs gs others : List OpData) → length a ≡ length b → BeginsWith v a fs left
    → BeginsWith v b gs left → offset_after v (fs ++ others) ≡ offset_after v (gs ++ others)
same_offset v a b left fs gs others same x y =
    omega (
      arith,
      same,
      at_left v a left fs x,
      at_left v b left gs y,
      ap length (flat_map-append (frame v) fs others),
      ap length (flat_map-append (frame v) gs others),
      length-append (frames v fs) (frames v others),
      length-append (frames v gs) (frames v others),
    )

-- where the one goes on to what begins with no frame, the other does so at the same offset
moved_to : (v w : Version) (a b left : List ℕ) (fs gs before : List OpData) (more rest : List ℕ) (e : Refused) → length a ≡ length b
    → BeginsWith v a fs left → BeginsWith v b gs left → BeginsWith w (a ++ more) before rest → judge w rest ≡ Err e
    → (there : List OpData) × BeginsWith w (b ++ more) there rest × (offset_after w before ≡ offset_after w there)
moved_to v w a b left fs gs before more rest e same x y begins stops =
    let on = begins_on v a left fs more x in
    let c = continues v w (a ++ more) fs before (left ++ more) rest e on begins stops in
    let version : v ≡ w = same_version v w (a ++ more) fs before (left ++ more) rest on begins in
    let there = gs ++ c.others in
    let place : offset_after v before ≡ offset_after v there =
    ap (offset_after v) c.parts ∙ same_offset v a b left fs gs c.others same x y in (
      there,
      begins_as w v (b ++ more) there rest (sym version) (moved v b left gs c.others rest more y c.formed c.fits c.left_is),
      subst (λ (z : Version). offset_after z before ≡ offset_after z there) version place,
    )

-- the log of the one is the log of the other, of the same version, with its own operations first
record IsLogToo (v : Version) (b : List ℕ) (fs gs ops : List OpData) (more : List ℕ) : Type 0 where
  pub others : List OpData
  pub parts : ops ≡ fs ++ others
  pub begins : BeginsWith v (b ++ more) (gs ++ others) []

log_too : (v : Version) (a b left : List ℕ) (fs gs ops : List OpData) (more : List ℕ) → BeginsWith v a fs left → BeginsWith v b gs left
    → IsLogOf (a ++ more) ops → IsLogToo v b fs gs ops more
log_too v a b left fs gs ops more x y log =
    let f = log_continues v (a ++ more) fs ops (left ++ more) (begins_on v a left fs more x) log in
    record {
      others = f.others;
      parts = f.parts;
      begins = moved v b left gs f.others [] more y f.formed f.fits f.left_is;
    }

loaded_read : OneLoading → (site : ℕ) (v : Version) (a b left : List ℕ) (s : State) (refused : Option LogBad) (more : List ℕ) (t : State)
    → HasTaken site v a left s refused → HasTaken site v b left s refused → IsLoaded site (a ++ more) t → IsLoaded site (b ++ more) t
loaded_read one site v a b left s refused more t x y l = from refused x.taken y.taken where
  too : IsLogToo v b x.ops y.ops l.ops more
  too = log_too v a b left x.ops y.ops l.ops more x.begins y.begins l.log

  from : (r : Option LogBad) → AreTakenTo site a x.ops s r → AreTakenTo site b y.ops s r → IsLoaded site (b ++ more) t
  from None p q =
      let all = subst (AreTakenIn (new_state site)) too.parts l.taken in
      let rest = subst (λ (z : State). AreTakenIn z too.others) (sym p.1 ∙ q.1) (taken_back (new_state site) x.ops too.others all) in
      record {
        ops = y.ops ++ too.others;
        log = record { version = v; begins = too.begins };
        taken = taken-append (new_state site) y.ops too.others q.0 rest;
        state = l.state ∙ ap (after_all (new_state site)) too.parts ∙ after-append (new_state site) x.ops too.others
            ∙ ap (λ (z : State). after_all z too.others) (sym p.1 ∙ q.1) ∙ sym (after-append (new_state site) y.ops too.others);
      }
  from (Some why) p q = absurd ((one site (a ++ more) t l).1 why p.0 (p.1 more l.ops l.log))

-- why the one isn't loaded is why the other isn't
unloaded_read : OneRefusal → (site : ℕ) (v : Version) (a b left : List ℕ) (s : State) (refused : Option LogBad) (more : List ℕ) (w : LogBad)
    → length a ≡ length b → HasTaken site v a left s refused → HasTaken site v b left s refused → IsUnloaded site (a ++ more) w
    → IsUnloaded site (b ++ more) w
unloaded_read one site v a b left s refused more bad.Header same x y u =
    absurd (u v (frames v x.ops ++ (left ++ more)) (begins_on v a left x.ops more x.begins).parts)
unloaded_read one site v a b left s refused more (bad.Cut offset) same x y u =
    let m = moved_to v u.version a b left x.ops y.ops u.before more u.rest (More u.needed) same x.begins y.begins u.begins u.judged in
    record {
      version = u.version;
      before = m.0;
      rest = u.rest;
      begins = m.1;
      some = u.some;
      needed = u.needed;
      judged = u.judged;
      place = u.place ∙ m.2;
    }
unloaded_read one site v a b left s refused more (bad.Bad offset cause) same x y u =
    let e = Bad (fault cause u.within) in
    let m = moved_to v u.version a b left x.ops y.ops u.before more u.rest e same x.begins y.begins u.begins u.judged in
    record {
      version = u.version;
      before = m.0;
      rest = u.rest;
      begins = m.1;
      within = u.within;
      judged = u.judged;
      place = u.place ∙ ap (λ (n : ℕ). n + u.within) m.2;
    }
unloaded_read one site v a b left s refused more (bad.Refused offset member verdict) same x y u = from refused x.taken y.taken where
  too : IsLogToo v b x.ops y.ops (u.before ++ u.op ∷ u.behind) more
  too = log_too v a b left x.ops y.ops (u.before ++ u.op ∷ u.behind) more x.begins y.begins u.log

  version : v ≡ u.log.version
  version =
      same_version v u.log.version (a ++ more) x.ops (u.before ++ u.op ∷ u.behind) (left ++ more) []
      (begins_on v a left x.ops more x.begins)
      u.log.begins

  from : (r : Option LogBad) → AreTakenTo site a x.ops s r → AreTakenTo site b y.ops s r
      → IsUnloaded site (b ++ more) (bad.Refused offset member verdict)
  from None p q =
      let l = comes_later (new_state site) x.ops u.before too.others u.op u.behind (record { member = member; verdict = verdict }) p.0
      (sym too.parts) u.first in
      let rest =
      subst (λ (z : State). AreTakenIn z l.between) (sym p.1 ∙ q.1)
      (taken_back (new_state site) x.ops l.between (subst (AreTakenIn (new_state site)) l.parts u.taken)) in
      let there : after_all (new_state site) u.before ≡ after_all (new_state site) (y.ops ++ l.between) =
      ap (after_all (new_state site)) l.parts ∙ after-append (new_state site) x.ops l.between
      ∙ ap (λ (z : State). after_all z l.between) (sym p.1 ∙ q.1) ∙ sym (after-append (new_state site) y.ops l.between) in
      record {
        before = y.ops ++ l.between;
        op = u.op;
        behind = u.behind;
        log = record {
          version = v;
          begins =
              subst (λ (os : List OpData). BeginsWith v (b ++ more) os [])
              (ap (λ (os : List OpData). y.ops ++ os) l.others_are ∙ sym (append_assoc y.ops l.between (u.op ∷ u.behind))) too.begins;
        };
        place = u.place ∙ ap (λ (z : Version). offset_after z u.before) (sym version) ∙ ap (offset_after v) l.parts
            ∙ same_offset v a b left x.ops y.ops l.between same x.begins y.begins;
        taken = taken-append (new_state site) y.ops l.between q.0 rest;
        first = ap (λ (z : State). first_refusal (verdicts_after z u.op)) (sym there) ∙ u.first;
      }
  from (Some why) p q =
      let w = bad.Refused offset member verdict in
      let same : w ≡ why =
      one site (a ++ more) w why (λ e. let no : w ≡ bad.Memory = e in cc) p.0 u (p.1 more (u.before ++ u.op ∷ u.behind) u.log) in
      subst (IsUnloaded site (b ++ more)) (sym same) (q.1 more (y.ops ++ too.others) (record { version = v; begins = too.begins }))
unloaded_read one site v a b left s refused more bad.Memory same x y u =
    let too = log_too v a b left x.ops y.ops u.0 more x.begins y.begins u.1 in
    (y.ops ++ too.others, record { version = v; begins = too.begins })

-- ---- what is kept

same_front : (r : ReaderData) (a b : List ℕ) → length a ≡ length b → AwaitsHeader r a → AwaitsHeader r b → a ≡ b
same_front r a b same x y = x.front ∙ ap (λ (n : ℕ). take n (header r.version)) same ∙ sym y.front

apart_fronts : (r : ReaderData) (a b : List ℕ) → AwaitsHeader r a → HasRead r b → ⊥
apart_fronts r a b x y = false≢true (sym x.unread ∙ y.read)

same_length : (r : ReaderData) (a b : List ℕ) → Keeps r a → Keeps r b → length a ≡ length b
same_length r a b x y = sym x.fed ∙ y.fed

pub one_loaded_on : LogsHaveNoFault → OneLoading → (r : ReaderData) (a b more : List ℕ) (s : State) → Keeps r a → Keeps r b
    → IsLoaded r.site (a ++ more) s → IsLoaded r.site (b ++ more) s
one_loaded_on none one r a b more s ka kb l = from r.fault (kept_at r a r.fault refl ka) (kept_at r b r.fault refl kb) where
  from : (f : Option LogBad) → KeepsOf r a f → KeepsOf r b f → IsLoaded r.site (b ++ more) s
  from None (inl x) (inl y) = subst (λ (t : List ℕ). IsLoaded r.site (t ++ more) s) (same_front r a b (same_length r a b ka kb) x y) l
  from None (inl x) (inr y) = absurd (apart_fronts r a b x y)
  from None (inr x) (inl y) = absurd (apart_fronts r b a y x)
  from None (inr x) (inr y) = loaded_read one r.site r.version a b r.left r.state r.refused more s x.taken y.taken l
  from (Some why) f g = absurd (none (a ++ more) l.ops why l.log f.0 (f.1 more))

-- bytes that have a fault are no log, so memory isn't why they are not loaded
faulty_one : LogsHaveNoFault → OneRefusal → (site : ℕ) (a more : List ℕ) (why w : LogBad) → IsFaultOf a why → IsUnloaded site (a ++ more) w
    → w ≡ why
faulty_one none one site a more why bad.Memory f u = absurd (none (a ++ more) u.0 why u.1 f.0 (f.1 more))
faulty_one none one site a more why bad.Header f u =
    one site (a ++ more) bad.Header why (λ e. let no : bad.Header ≡ bad.Memory = e in cc) f.0 u
    (unloaded site (a ++ more) why f.0 (f.1 more))
faulty_one none one site a more why (bad.Cut o) f u =
    one site (a ++ more) (bad.Cut o) why (λ e. let no : bad.Cut o ≡ bad.Memory = e in cc) f.0 u
    (unloaded site (a ++ more) why f.0 (f.1 more))
faulty_one none one site a more why (bad.Bad o c) f u =
    one site (a ++ more) (bad.Bad o c) why (λ e. let no : bad.Bad o c ≡ bad.Memory = e in cc) f.0 u
    (unloaded site (a ++ more) why f.0 (f.1 more))
faulty_one none one site a more why (bad.Refused o m v) f u =
    one site (a ++ more) (bad.Refused o m v) why (λ e. let no : bad.Refused o m v ≡ bad.Memory = e in cc) f.0 u
    (unloaded site (a ++ more) why f.0 (f.1 more))

pub one_unloaded_on : LogsHaveNoFault → OneRefusal → (r : ReaderData) (a b more : List ℕ) (w : LogBad) → Keeps r a → Keeps r b
    → IsUnloaded r.site (a ++ more) w → IsUnloaded r.site (b ++ more) w
one_unloaded_on none one r a b more w ka kb u = from r.fault (kept_at r a r.fault refl ka) (kept_at r b r.fault refl kb) where
  from : (f : Option LogBad) → KeepsOf r a f → KeepsOf r b f → IsUnloaded r.site (b ++ more) w
  from None (inl x) (inl y) = subst (λ (t : List ℕ). IsUnloaded r.site (t ++ more) w) (same_front r a b (same_length r a b ka kb) x y) u
  from None (inl x) (inr y) = absurd (apart_fronts r a b x y)
  from None (inr x) (inl y) = absurd (apart_fronts r b a y x)
  from None (inr x) (inr y) =
      unloaded_read one r.site r.version a b r.left r.state r.refused more w (same_length r a b ka kb) x.taken y.taken u
  from (Some why) f g =
      subst (IsUnloaded r.site (b ++ more)) (sym (faulty_one none one r.site a more why w f u))
      (unloaded r.site (b ++ more) why g.0 (g.1 more))
