use Rattle.std.proofs.Common.{◌≡◌, ℕ, List, [], drop, sym, ap, ◌∙◌, arith}
use Rattle.script_text.specs.Code.Keeping.{kept_len, lines_cut}
use Rattle.script_text.proofs.KeptLines.{kept_front, kept_dropped, none_kept, cut_more, drop_last, empty_of}
use Rattle.script_text.proofs.reading.kept.Kept.drop_front.Goals as goal

pub advance-requires : goal.advance-requires
advance-requires c =
    let front =
    kept_front c.in-Some.len c.pop_front.new.self.items c.self.inside.bytes.items c.self.inside.last
    (c.self.invariant ∙ ap (λ (ns : List ℕ). kept_len ns c.self.inside.last) c.in-Some.ensures.items) in
    omega (arith, front, c.kept_of.ensures)

pub invariant_of-self : goal.invariant_of-self
invariant_of-self c =
    rw (c.advance.ensures.items, c.kept_of.ensures)
    (kept_dropped c.in-Some.len c.pop_front.new.self.items c.self.inside.bytes.items c.self.inside.last
    (c.self.invariant ∙ ap (λ (ns : List ℕ). kept_len ns c.self.inside.last) c.in-Some.ensures.items))

pub invariant_of-self-in-None : goal.invariant_of-self-in-None
invariant_of-self-in-None c =
    let none : c.pop_front.new.self.items ≡ [] =
    empty_of c.pop_front.new.self.items (omega (arith, c.in-None.ensures.cases.1, c.pop_front.new.self.ok.0)) in
    rw (c.clear.ensures.items, none) (sym none_kept)

pub returns-in-Some : goal.returns-in-Some
returns-in-Some c =
    rw (← c.self.view_is, c.advance.ensures.items, c.kept_of.ensures)
    (sym (ap (λ (ns : List ℕ). drop 1 (lines_cut c.self.inside.bytes.items ns c.self.inside.last)) c.in-Some.ensures.items
    ∙ ap (drop 1) (cut_more c.self.inside.bytes.items c.in-Some.len c.pop_front.new.self.items c.self.inside.last)))

pub returns-in-None : goal.returns-in-None
unfolding lines_cut
returns-in-None c =
    let none : c.pop_front.new.self.items ≡ [] =
    empty_of c.pop_front.new.self.items (omega (arith, c.in-None.ensures.cases.1, c.pop_front.new.self.ok.0)) in
    rw (← c.self.view_is, c.clear.ensures.items, none)
    (sym (ap (λ (ns : List ℕ). drop 1 (lines_cut c.self.inside.bytes.items ns c.self.inside.last)) (c.in-None.ensures.items ∙ none)
    ∙ drop_last c.self.inside.bytes.items c.self.inside.last))
