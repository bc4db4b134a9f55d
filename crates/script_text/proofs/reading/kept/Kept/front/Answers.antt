use Rattle.std.proofs.Common.{◌≡◌, ℕ, List, [], ◌∷◌, take, drop, sym, ap, ◌∙◌, arith, refl, true, false}
use Rattle.script_text.specs.Code.Keeping.{kept_of, lines_cut}
use Rattle.script_text.proofs.KeptLines.{cut_more, cut_last, cut_none, first_of, none_of}
use Rattle.script_text.proofs.reading.kept.Kept.front.Goals as goal

pub returns-in-Some : goal.returns-in-Some
returns-in-Some c =
    let n = c.in-Some.len.now in
    let bytes = c.self.inside.bytes.items in
    let ended : c.self.inside.ended.items ≡ n ∷ drop 1 c.self.inside.ended.items =
    first_of n c.self.inside.ended.items (omega (arith, c.in-Some.ensures.variant.0 refl, c.self.inside.ended.ok.0))
    c.in-Some.ensures.lookup in (
      record { bytes = take (kept_of n) bytes; len = n; ended = true },
      lines_cut (drop (kept_of n) bytes) (drop 1 c.self.inside.ended.items) c.self.inside.last,
      rw (← c.self.view_is) (ap (λ (ns : List ℕ). lines_cut bytes ns c.self.inside.last) ended
          ∙ cut_more bytes n (drop 1 c.self.inside.ended.items) c.self.inside.last),
      rw (c.first.ensures, c.kept_of.ensures, c.as_slice.ensures) refl,
      refl,
    )

pub returns-in-None : goal.returns-in-None
returns-in-None c =
    let bytes = c.self.inside.bytes.items in
    let none : c.self.inside.ended.items ≡ [] =
    none_of c.self.inside.ended.items _ c.in-None.ensures.variant.1 c.self.inside.ended.ok.0 in (
      record { bytes = bytes; len = c.self.inside.last; ended = false },
      [],
      rw (← c.self.view_is) (ap (λ (ns : List ℕ). lines_cut bytes ns c.self.inside.last) none
          ∙ cut_last bytes c.self.inside.last c.if-self-gt0.true),
      sym c.as_slice-in-None.ensures,
      refl,
    )

pub returns-in-None-2 : goal.returns-in-None-2
returns-in-None-2 c =
    let bytes = c.self.inside.bytes.items in
    let none : c.self.inside.ended.items ≡ [] = none_of c.self.inside.ended.items _ c.in-None.ensures.variant.1 c.self.inside.ended.ok.0 in
    let zero : c.self.inside.last ≡ 0 = omega (arith, c.if-self-gt0.false) in
    rw (← c.self.view_is) (ap (λ (ns : List ℕ). lines_cut bytes ns c.self.inside.last) none
    ∙ (ap (λ (n : ℕ). lines_cut bytes [] n) zero ∙ cut_none bytes))
