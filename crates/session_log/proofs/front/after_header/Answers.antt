use Rattle.std.proofs.Common.{◌≡◌, ◌++◌, ℕ, List, refl, ap, sym, ◌∙◌, inl, inr, take, append_assoc}
use Rattle.wire_codec.specs.declared.version.Version.{Version}
use Rattle.session_log.specs.Logs.{header}
use Rattle.session_log.proofs.HeaderFronts.{fronts_same, one_front}
use Rattle.session_log.proofs.front.after_header.Goals as goal

-- the byte that tells the version came before
pub returns-then-come-gt-VERSION_AT-clause-none : goal.returns-then-come-gt-VERSION_AT-clause-none
returns-then-come-gt-VERSION_AT-clause-none c = λ _ v more rest e.
    let version = c.args.version in
    let front = take c.args.come (header version) in
    let same : version ≡ v =
    one_front version v c.args.come (c.args.piece.now ++ more) rest c.if-come-gt-VERSION_AT.true c.requires
    (sym (append_assoc front c.args.piece.now more) ∙ e) in
    c.in_default.ensures.none refl more rest (e ∙ ap (λ (w : Version). header w ++ rest) (sym same))

pub returns-in_err-rest-clause-none : goal.returns-in_err-rest-clause-none
returns-in_err-rest-clause-none c = λ _ v more rest e.
    let fronts = fronts_same c.other_than-other.result c.args.version c.args.come c.if-come-gt-VERSION_AT.false in
    elim (c.other_than-other.ensures v) [
      | inl own ↦ c.in_default.ensures.none refl more rest (e ∙ ap (λ (w : Version). header w ++ rest) own)
      | inr there ↦ c.in_err-rest.ensures.none refl more rest
          (ap (λ (t : List ℕ). (t ++ c.args.piece.now) ++ more) fronts ∙ e ∙ ap (λ (w : Version). header w ++ rest) there)
    ]

pub returns-clause-front : goal.returns-clause-front
returns-clause-front c = fronts_same c.args.version c.other_than-other.result c.args.come c.if-come-gt-VERSION_AT.false
