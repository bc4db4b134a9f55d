use Rattle.std.proofs.Common.{ℕ, ◌≤◌, List, length, map, replicate, sym, ap, ◌∙◌, subst, arith}
use Rattle.ttf_form.specs.Cells.{CellData, bare_cells, put_in}
use Rattle.ttf_form.specs.Laws.Cells.{length-bare}
use Rattle.ttf_form.specs.Laws.Lists.{map-put, length-put}
use Rattle.tombstone_text.specs.Chunks.{flag_of}
use Rattle.tombstone_text.specs.Code.Spans.{cells_in}
use Rattle.tombstone_text.specs.declared.chunk.TheConstants.{FULL}
use Rattle.tombstone_text.proofs.Runs.{flags_bare}
use Rattle.tombstone_text.proofs.chunk.Chunk.put_all.Goals as goal

pub invariant_of-self : goal.invariant_of-self
invariant_of-self c =
    let a = c.args.ins.now in
    let p = c.args.at in
    let xs = cells_in c.self.inside.spans.items in
    let ts = c.self.inside.text.items in
    let beside = c.self.invariant.long in
    let within : p ≤ length xs = omega (arith, c.requires.within, ap (λ s. length s.cells) c.self.view_is) in
    let cells = ap (λ (s : List CellData). length s) c.put.ensures.cells in
    let text = ap (λ (s : List ℕ). length s) c.put_text.ensures in
    let more = length-put p (bare_cells a) xs within in
    let chars = length-put p c.args.text.now ts (omega (arith, within, beside)) in
    let most : length (put_in p (bare_cells a) xs) ≤ FULL =
    omega (arith, more, length-bare a, c.requires.room, ap (λ s. s.room) c.self.view_is, ap (λ s. length s.cells) c.self.view_is) in
    record {
      filled = c.put.ensures.filled;
      flags_are =
          c.put_shown.ensures ∙ ap (λ (fs : List ℕ). put_in p (replicate c.from.result 1) fs) c.self.invariant.flags_are
          ∙ ap (λ (n : ℕ). put_in p (replicate n 1) (map flag_of xs)) c.from.ensures
          ∙ ap (λ (fs : List ℕ). put_in p fs (map flag_of xs)) (sym (flags_bare a.name a.len 0 a.len))
          ∙ sym (map-put flag_of p (bare_cells a) xs) ∙ ap (λ (s : List CellData). map flag_of s) (sym c.put.ensures.cells);
      long = omega (arith, cells, text, more, chars, beside, length-bare a, c.requires.text);
      most = subst (λ (s : List CellData). length s ≤ FULL) (sym c.put.ensures.cells) most;
    }

pub returns-clause-long : goal.returns-clause-long
returns-clause-long c =
    let a = c.args.ins.now in
    let p = c.args.at in
    let xs = cells_in c.self.inside.spans.items in
    let ts = c.self.inside.text.items in
    let beside = c.self.invariant.long in
    let seen = ap (λ s. length s.cells) c.self.view_is in
    let cells = ap (λ (s : List CellData). length s) c.put.ensures.cells in
    let text = ap (λ (s : List ℕ). length s) c.put_text.ensures in
    let more = length-put p (bare_cells a) xs (omega (arith, seen, c.requires.within)) in
    let chars = length-put p c.args.text.now ts (omega (arith, seen, c.requires.within, beside)) in
    omega (arith, cells, text, more, chars, beside, c.requires.text, length-bare a)
