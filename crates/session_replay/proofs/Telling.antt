-- No line of a release says `waits`: which lines begin as those do, and that theirs have the word of their verdict.
use Rattle.std.proofs.Common.{◌≡◌, ◌≢◌, ℕ, ◌<◌, Bool, false, inl, inr, List, [], ◌∷◌, ◌++◌, refl, ap, sym, subst, ◌∙◌, map, set, drop, get_or, decimal, codes, arith}
use Rattle.std.specs.Prelude.{Contains, nat_eq, slice_index_or, if◌then◌else◌}
use Rattle.std.specs.Str.Parse.{AllDigits}
use Rattle.std.proofs.lemmas.Bool.{cases_Bool, false≢true}
use Rattle.std.proofs.lemmas.Fmt.{decimal_is_IsNumeral}
use Rattle.std.proofs.lemmas.Str.Parse.{digit_from_value}
use Rattle.op_name.specs.declared.name.TheConstants.{SITES}
use Rattle.op_name.specs.declared.member.Member.{Member}
use Rattle.context_diff.specs.Operations.{OpData, member_of}
use Rattle.context_diff.proofs.CallerLemmas.{contains_cases, contains_here, contains_later, contains_none}
use Rattle.site_answers.specs.declared.verdict.Verdict.{Verdict}
use Rattle.site_answers.specs.declared.verdict.Verdict.TheVariants.{Repeat, Forged, Waits, NotClosed, PlaceOut, Integrated}
use Rattle.site_answers.specs.Words.{verdict_text}
use Rattle.cot_site.specs.States.{State, Released}
use Rattle.cot_site.specs.Releases.{IsSound}
use Rattle.script_text.specs.declared.report.event.Event.TheVariants.{Give, Free}
use Rattle.script_text.specs.Verdicts.{verdict_line_text}
use Rattle.session_replay.specs.Steps.{Step}
use Rattle.session_replay.specs.Sessions.{SessionData, at_site, free_step, is_silent, told_verdict}
use Rattle.session_replay.specs.Laws.{IsNoWaitingRelease}
use Rattle.session_replay.proofs.Every.{Every}

-- ---- other lines

-- the line of a release begins with the letter f
pub no_release : (w : List ℕ) → nat_eq (slice_index_or w 0 0) 102 ≡ false → IsNoWaitingRelease w
no_release w other site m missing small same = false≢true (sym other ∙ ap (λ x. nat_eq (slice_index_or x 0 0) 102) same)

-- so what a delivery tells is none
pub no_release_given : (many : Bool) (o : OpData) (v : Verdict) (site : ℕ) → IsNoWaitingRelease (told_verdict many o v site)
no_release_given many o v site =
    elim (cases_Bool (is_silent many v)) [
      | inl silent ↦ subst IsNoWaitingRelease (sym (ap (λ (b : Bool). if b then [] else line) silent)) (no_release [] refl)
      | inr told ↦ subst IsNoWaitingRelease (sym (ap (λ (b : Bool). if b then [] else line) told)) (no_release line refl)
    ]
  where
    line : List ℕ
    line = verdict_line_text Give site (member_of o) v

-- ---- words after a number

abbrev NoBlank : List ℕ → Type 0
NoBlank [] = Unit {0}
NoBlank (x ∷ xs) = (x ≢ 32) × NoBlank xs

digits_no_blank : (ds : List ℕ) → AllDigits 10 ds → NoBlank ds
digits_no_blank [] are = tt
digits_no_blank (d ∷ ds) are = (λ e. omega (arith, digit_from_value d are.0, e), digits_no_blank ds are.1)

decimal_no_blank : (n : ℕ) → n < SITES → NoBlank (decimal n)
decimal_no_blank n small = digits_no_blank (decimal n) (decimal_is_IsNumeral n (omega (arith, small))).0.1

-- what follows the first blank
after_blank : (a b xs ys : List ℕ) → NoBlank a → NoBlank b → a ++ 32 ∷ xs ≡ b ++ 32 ∷ ys → xs ≡ ys
after_blank [] [] xs ys none also same = ap (drop 1) same
after_blank [] (y ∷ b) xs ys none also same = absurd (also.0 (sym (ap (λ (zs : List ℕ). get_or zs 0 0) same)))
after_blank (x ∷ a) [] xs ys none also same = absurd (none.0 (ap (λ (zs : List ℕ). get_or zs 0 0) same))
after_blank (x ∷ a) (y ∷ b) xs ys none also same = after_blank a b xs ys none.1 also.1 (ap (drop 1) same)

-- ---- lines of releases

-- the words of this verdict begin with the letter w
abbrev begins_as_waiting : Member → Verdict → Bool
begins_as_waiting m v = nat_eq (slice_index_or (verdict_text m v ++ codes "\n") 0 0) 119

other_verdict : (m : Member) (v : Verdict) → ((missing : Member) → ¬ (v ≡ Waits missing)) → begins_as_waiting m v ≡ false
other_verdict m Repeat other = refl
other_verdict m (Forged n) other = refl
other_verdict m (Waits missing) other = absurd (other missing refl)
other_verdict m (NotClosed s) other = refl
other_verdict m (PlaceOut p k) other = refl
other_verdict m Integrated other = refl

no_waiting : (n : ℕ) (k : Member) (v : Verdict) → n < SITES → ((missing : Member) → ¬ (v ≡ Waits missing))
    → IsNoWaitingRelease (verdict_line_text Free n k v)
no_waiting n k v few other site m missing small same =
    let words : verdict_text k v ++ codes "\n" ≡ verdict_text m (Waits missing) ++ codes "\n" =
    after_blank (decimal n) (decimal site) _ _ (decimal_no_blank n few) (decimal_no_blank site small) (ap (drop 5) same)
    in
    false≢true (sym (other_verdict k v other) ∙ ap (λ (x : List ℕ). nat_eq (slice_index_or x 0 0) 119) words)

-- the lines of these releases, as steps of a session
pub releases_told : (sites : List State) (ms : List OpData) (i : ℕ) (rs : List Released) → Every IsSound (map free_step rs)
    → ((r : Released) (missing : Member) → Contains rs r → ¬ (r.verdict ≡ Waits missing))
    → (e : Step SessionData) → Contains (at_site sites ms i (map free_step rs)) e → IsNoWaitingRelease e.written
releases_told sites ms i [] sound other e at = absurd (contains_none e at)
releases_told sites ms i (r ∷ rs) sound other e at =
    elim (contains_cases first (at_site sites ms i (map free_step rs)) e at) [
      | inl same ↦
          subst (λ (x : Step SessionData). IsNoWaitingRelease x.written) same
          (no_waiting r.after.number (member_of r.op) r.verdict sound.0.number (λ missing. other r missing (contains_here r rs)))
      | inr later ↦ releases_told sites ms i rs sound.1 (λ q missing there. other q missing (contains_later r rs q there)) e later
    ]
  where
    first : Step SessionData
    first = record { written = (free_step r).written; after = record { sites = set sites i r.after; messages = ms } }
