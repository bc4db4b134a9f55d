-- One reason at most refuses a log.
use Rattle.std.proofs.Common.{◌≡◌, ◌≢◌, ℕ, List, [], ◌∷◌, ◌++◌, ◌⊎◌, inl, inr, Result, Err, refl, ap, sym, subst, ◌∙◌, append_assoc, append-nil}
use Rattle.std.specs.Prelude.{◌+◌, Option, Some}
use Rattle.std.proofs.lemmas.Option.{none-some}
use Rattle.context_diff.specs.Operations.{OpData}
use Rattle.context_diff.proofs.CallerLemmas.{contains_here}
use Rattle.wire_codec.specs.declared.cause.Cause.{Cause}
use Rattle.wire_codec.specs.declared.fault.Fault.{Fault}
use Rattle.wire_codec.specs.declared.fault.Refused.{Refused}
use Rattle.wire_codec.specs.declared.fault.Refused.TheVariants.{More, Bad}
use Rattle.wire_codec.specs.declared.version.Version.{Version}
use Rattle.wire_codec.specs.Reading.{fault}
use Rattle.wire_codec.specs.Spelling.{frame}
use Rattle.wire_codec.specs.Judging.{judge}
use Rattle.site_answers.specs.declared.release.Release.{Release}
use Rattle.cot_site.specs.Sites.{AllFormed}
use Rattle.cot_site.specs.States.{State}
use Rattle.session_log.specs.declared.log_bad.LogBad.{LogBad}
use Rattle.session_log.specs.declared.log_bad.LogBad.TheVariants as bad
use Rattle.session_log.specs.Logs.{frames, AllFit, BeginsWith, offset_after}
use Rattle.session_log.specs.Readings.{IsCutAt, IsFaultyAt, IsUnread}
use Rattle.session_log.specs.Loadings.{first_refusal, verdicts_after, after_one, after_all, AreTakenIn, new_state, IsFirstRefusal, IsUnloaded}
use Rattle.session_log.proofs.Frames.{good_not_err, continues, same_version, log_no_fault, one_log}
use Rattle.session_log.proofs.TakingIn.{taken_one}

-- ---- faults

-- both are of the same version, and stop after the same operations, at the same rest
record IsSame (v w : Version) (fs gs : List OpData) (r q : List ℕ) : Type 0 where
  pub version : v ≡ w
  pub ops : fs ≡ gs
  pub same_rest : r ≡ q

stops : (v w : Version) (bytes : List ℕ) (fs gs : List OpData) (r q : List ℕ) (a b : Refused) → BeginsWith v bytes fs r
    → BeginsWith w bytes gs q → judge v r ≡ Err a → judge w q ≡ Err b → IsSame v w fs gs r q
stops v w bytes fs gs r q a b x y at_r at_q =
    let c = continues v w bytes fs gs r q b x y at_q in
    from c.others c.parts c.formed c.fits c.left_is
  where
    same : v ≡ w
    same = same_version v w bytes fs gs r q x y

    from : (others : List OpData) → gs ≡ fs ++ others → AllFormed others → AllFit v others → r ≡ frames v others ++ q
        → IsSame v w fs gs r q
    from [] parts formed fits left = record { version = same; ops = sym (parts ∙ append-nil fs); same_rest = left }
    from (o ∷ os) parts formed fits left =
        absurd (good_not_err v o (frames v os ++ q) a (formed o (contains_here o os)) (fits o (contains_here o os))
        (ap (judge v) (sym (append_assoc (frame v o) (frames v os) q) ∙ sym left) ∙ at_r))

-- the offset after the same operations is the same
same_place : (v w : Version) (fs gs : List OpData) → v ≡ w → fs ≡ gs → offset_after v fs ≡ offset_after w gs
same_place v w fs gs version ops = ap (λ (x : Version). offset_after x fs) version ∙ ap (offset_after w) ops

-- of one rest one answer is given
judged_same : (v w : Version) (r q : List ℕ) (a b : Refused) → v ≡ w → r ≡ q → judge v r ≡ Err a → judge w q ≡ Err b → a ≡ b
judged_same v w r q a b version same at_r at_q =
    let both : ◌≡◌ {A = Result (OpData × ℕ) Refused} (Err a) (Err b) =
    sym at_r ∙ ap (λ (x : Version). judge x r) version ∙ ap (judge w) same ∙ at_q in
    cc

cut_once : (bytes : List ℕ) (x y : ℕ) → IsCutAt bytes x → IsCutAt bytes y → x ≡ y
cut_once bytes x y u v =
    let same =
    stops u.version v.version bytes u.before v.before u.rest v.rest (More u.needed) (More v.needed) u.begins v.begins u.judged v.judged in
    u.place ∙ same_place u.version v.version u.before v.before same.version same.ops ∙ sym v.place

cut_not_faulty : (bytes : List ℕ) (x y : ℕ) (c : Cause) → IsCutAt bytes x → IsFaultyAt bytes y c → ⊥
cut_not_faulty bytes x y c u v =
    let no = Bad (fault c v.within) in
    let same = stops u.version v.version bytes u.before v.before u.rest v.rest (More u.needed) no u.begins v.begins u.judged v.judged in
    let both : More u.needed ≡ Bad (fault c v.within) =
    judged_same u.version v.version u.rest v.rest (More u.needed) no same.version same.same_rest u.judged v.judged in
    cc

faulty_once : (bytes : List ℕ) (x y : ℕ) (c d : Cause) → IsFaultyAt bytes x c → IsFaultyAt bytes y d → bad.Bad x c ≡ bad.Bad y d
faulty_once bytes x y c d u v =
    let e = Bad (fault c u.within) in
    let f = Bad (fault d v.within) in
    let same = stops u.version v.version bytes u.before v.before u.rest v.rest e f u.begins v.begins u.judged v.judged in
    let both : Bad (fault c u.within) ≡ Bad (fault d v.within) =
    judged_same u.version v.version u.rest v.rest e f same.version same.same_rest u.judged v.judged in
    let one : fault c u.within ≡ fault d v.within = cc in
    let place : x ≡ y =
    u.place ∙ ap (λ (n : ℕ). n + u.within) (same_place u.version v.version u.before v.before same.version same.ops)
    ∙ ap (λ (f : Fault). offset_after v.version v.before + f.offset) one ∙ sym v.place in
    ap (λ (n : ℕ). bad.Bad n c) place ∙ ap (λ (f : Fault). bad.Bad y f.cause) one

-- a header stands first where something was read
headed : (v : Version) (bytes : List ℕ) (fs : List OpData) (r : List ℕ) → IsUnread bytes bad.Header → BeginsWith v bytes fs r → ⊥
headed v bytes fs r none begins = none v (frames v fs ++ r) begins.parts

pub one_fault : (bytes : List ℕ) (a b : LogBad) → a ≢ bad.Memory → b ≢ bad.Memory → IsUnread bytes a → IsUnread bytes b → a ≡ b
one_fault bytes bad.Header bad.Header p q u v = refl
one_fault bytes bad.Header (bad.Cut y) p q u v = absurd (headed v.version bytes v.before v.rest u v.begins)
one_fault bytes bad.Header (bad.Bad y d) p q u v = absurd (headed v.version bytes v.before v.rest u v.begins)
one_fault bytes (bad.Cut x) bad.Header p q u v = absurd (headed u.version bytes u.before u.rest v u.begins)
one_fault bytes (bad.Cut x) (bad.Cut y) p q u v = ap (λ (n : ℕ). bad.Cut n) (cut_once bytes x y u v)
one_fault bytes (bad.Cut x) (bad.Bad y d) p q u v = absurd (cut_not_faulty bytes x y d u v)
one_fault bytes (bad.Bad x c) bad.Header p q u v = absurd (headed u.version bytes u.before u.rest v u.begins)
one_fault bytes (bad.Bad x c) (bad.Cut y) p q u v = absurd (cut_not_faulty bytes y x c v u)
one_fault bytes (bad.Bad x c) (bad.Bad y d) p q u v = faulty_once bytes x y c d u v
one_fault bytes (bad.Refused x m w) b p q u v = absurd u
one_fault bytes bad.Memory b p q u v = absurd (p refl)
one_fault bytes bad.Header (bad.Refused y m w) p q u v = absurd v
one_fault bytes (bad.Cut x) (bad.Refused y m w) p q u v = absurd v
one_fault bytes (bad.Bad x c) (bad.Refused y m w) p q u v = absurd v
one_fault bytes bad.Header bad.Memory p q u v = absurd (q refl)
one_fault bytes (bad.Cut x) bad.Memory p q u v = absurd (q refl)
one_fault bytes (bad.Bad x c) bad.Memory p q u v = absurd (q refl)

-- ---- refused operations

record IsSameStop (fs gs : List OpData) (f g : OpData) : Type 0 where
  pub ops : fs ≡ gs
  pub op : f ≡ g

abbrev refusal_at : State → OpData → Option Release
refusal_at s o = first_refusal (verdicts_after s o)

-- the operation that is refused comes after those that were taken in
pub record ComesLater (fs before others : List OpData) (o : OpData) (after : List OpData) : Type 0 where
  pub between : List OpData
  pub parts : before ≡ fs ++ between
  pub others_are : others ≡ between ++ o ∷ after

pub comes_later : (s : State) (fs before others : List OpData) (o : OpData) (after : List OpData) (r : Release) → AreTakenIn s fs
    → fs ++ others ≡ before ++ o ∷ after → first_refusal (verdicts_after (after_all s before) o) ≡ Some r
    → ComesLater fs before others o after
comes_later s [] before others o after r all is first = record { between = before; parts = refl; others_are = is }
comes_later s (f ∷ fs) [] others o after r all is first =
    let same : f ≡ o = cc in absurd (none-some r (sym all.0 ∙ (ap (λ (x : OpData). first_refusal (verdicts_after s x)) same ∙ first)))
comes_later s (f ∷ fs) (b ∷ before) others o after r all is first =
    let same : f ≡ b = cc in
    let rest : fs ++ others ≡ before ++ o ∷ after = cc in
    let first_f = subst (λ (x : OpData). first_refusal (verdicts_after (after_all (after_one s x) before) o) ≡ Some r) (sym same) first in
    let l = comes_later (after_one s f) fs before others o after r all.1 rest first_f in
    record {
      between = l.between;
      parts =
          ap (λ (x : OpData). x ∷ before) (sym same) ∙ ap (λ (xs : List OpData). f ∷ xs) l.parts;
      others_are = l.others_are;
    }

refused_once : (s : State) (fs gs : List OpData) (f g : OpData) (xs ys : List OpData) (a b : Release) → fs ++ f ∷ xs ≡ gs ++ g ∷ ys
    → AreTakenIn s fs → refusal_at (after_all s fs) f ≡ Some a → AreTakenIn s gs → refusal_at (after_all s gs) g ≡ Some b
    → IsSameStop fs gs f g
refused_once s fs gs f g xs ys a b e tf rf tg rg =
    let l = comes_later s fs gs (f ∷ xs) g ys b tf e rg in
    from l.between l.parts l.others_are
  where
    from : (between : List OpData) → gs ≡ fs ++ between → f ∷ xs ≡ between ++ g ∷ ys → IsSameStop fs gs f g
    from [] parts are = let same : f ≡ g = cc in record { ops = sym (parts ∙ append-nil fs); op = same }
    from (h ∷ bs) parts are =
        let same : f ≡ h = cc in
        absurd (none-some a (sym (taken_one s fs h bs (subst (AreTakenIn s) parts tg))
        ∙ (ap (refusal_at (after_all s fs)) (sym same) ∙ rf)))

-- which operation was refused, by its offset and release
abbrev RefusedAs : ℕ → List ℕ → LogBad → Type 0
RefusedAs site bytes why = (offset : ℕ) × (r : Release) × (why ≡ bad.Refused offset r.member r.verdict) × IsFirstRefusal site bytes offset r

refused_same : (site : ℕ) (bytes : List ℕ) (x y : ℕ) (a b : Release) → IsFirstRefusal site bytes x a → IsFirstRefusal site bytes y b
    → (x ≡ y) × (a ≡ b)
refused_same site bytes x y a b u v =
    let whole = one_log bytes (u.before ++ u.op ∷ u.behind) (v.before ++ v.op ∷ v.behind) u.log v.log in
    let same = refused_once (new_state site) u.before v.before u.op v.op u.behind v.behind a b whole u.taken u.first v.taken v.first in
    let both : Some a ≡ Some b =
    sym u.first ∙ ap (λ (os : List OpData). refusal_at (after_all (new_state site) os) u.op) same.ops
    ∙ ap (refusal_at (after_all (new_state site) v.before)) same.op ∙ v.first in
    let one : a ≡ b = cc in
    let version : u.log.version ≡ v.log.version =
    same_version u.log.version v.log.version bytes (u.before ++ u.op ∷ u.behind) (v.before ++ v.op ∷ v.behind) [] [] u.log.begins
    v.log.begins in
    (u.place ∙ same_place u.log.version v.log.version u.before v.before version same.ops ∙ sym v.place, one)

split : (site : ℕ) (bytes : List ℕ) (why : LogBad) → why ≢ bad.Memory → IsUnloaded site bytes why
    → IsUnread bytes why ⊎ RefusedAs site bytes why
split site bytes bad.Header p u = inl u
split site bytes (bad.Cut x) p u = inl u
split site bytes (bad.Bad x c) p u = inl u
split site bytes (bad.Refused x m w) p u = inr (x, record { member = m; verdict = w }, refl, u)
split site bytes bad.Memory p u = absurd (p refl)

pub one_refusal : (site : ℕ) (bytes : List ℕ) (a b : LogBad) → a ≢ bad.Memory → b ≢ bad.Memory → IsUnloaded site bytes a
    → IsUnloaded site bytes b → a ≡ b
one_refusal site bytes a b p q u v = from (split site bytes a p u) (split site bytes b q v)
  where
    from : IsUnread bytes a ⊎ RefusedAs site bytes a → IsUnread bytes b ⊎ RefusedAs site bytes b → a ≡ b
    from (inl f) (inl g) = one_fault bytes a b p q f g
    from (inl f) (inr (y, s, e, w)) = absurd (log_no_fault bytes (w.before ++ w.op ∷ w.behind) a w.log p f)
    from (inr (x, r, d, w)) (inl g) = absurd (log_no_fault bytes (w.before ++ w.op ∷ w.behind) b w.log q g)
    from (inr (x, r, d, w)) (inr (y, s, e, z)) =
        let same = refused_same site bytes x y r s w z in
        d ∙ ap (λ (n : ℕ). bad.Refused n r.member r.verdict) same.0 ∙ ap (λ (t : Release). bad.Refused y t.member t.verdict) same.1 ∙ sym e
