use Rattle.std.proofs.Common.{◌+◌, ℕ, inr, ap, sym, subst, ◌∙◌, length}
use Rattle.cot_site.specs.Sites.{state_of}
use Rattle.session_log.specs.ReaderData.{ReaderData, reader_of}
use Rattle.session_log.specs.Readers.{GoesPastHeader}
use Rattle.session_log.proofs.Endings.{is_none_of, still_fault, fed_on}
use Rattle.session_log.proofs.On.{goes_on_by}
use Rattle.session_log.proofs.reader.LogReader.feed.Goals as goal

pub returns-then-is_some-clause-keeps : goal.returns-then-is_some-clause-keeps
returns-then-is_some-clause-keeps c =
    let r = c.self.inside in
    let v = r.frames.version in
    let left = r.frames.stream.left in
    still_fault r.number v r.fed left (state_of r.intake.site) r.intake.refused r.fault r.spent c.args.self.now c.args.piece.now
    c.self.view_is (sym c.is_some.ensures ∙ c.if-is_some.true)

pub returns-then-is_some-clause-load_on : goal.returns-then-is_some-clause-load_on
returns-then-is_some-clause-load_on c =
    let r = c.self.inside in
    let v = r.frames.version in
    let left = r.frames.stream.left in
    goes_on_by c.what_is_kept_decides.ensures c.args.self.now
    (reader_of r.number v (r.fed + length c.args.piece.now) left (state_of r.intake.site) r.intake.refused r.fault r.spent)
    c.args.piece.now
    (ap (λ (x : ReaderData). x.site) c.self.view_is)
    (still_fault r.number v r.fed left (state_of r.intake.site) r.intake.refused r.fault r.spent c.args.self.now c.args.piece.now
    c.self.view_is (sym c.is_some.ensures ∙ c.if-is_some.true))

pub returns-in-Ok-clause-keeps : goal.returns-in-Ok-clause-keeps
returns-in-Ok-clause-keeps c =
    let r = c.self.inside in
    let v = r.frames.version in
    let left = r.frames.stream.left in
    let intake = c.read_piece.new.intake in
    fed_on r.number v r.fed left (state_of r.intake.site) r.intake.refused r.fault r.spent c.args.self.now c.args.piece.now
    c.self.view_is (sym c.is_some.ensures ∙ c.if-is_some.false) c.if-self.false
    c.read_piece.new.frames.version (r.fed + length c.args.piece.now) c.read_piece.new.frames.stream.left (state_of intake.site)
    intake.refused c.in-Ok.fault
    (λ all k. c.in-Ok.ensures.keeps r.number all k)

pub returns-in-Ok-clause-load_on : goal.returns-in-Ok-clause-load_on
returns-in-Ok-clause-load_on c =
    let r = c.self.inside in
    let v = r.frames.version in
    let left = r.frames.stream.left in
    let intake = c.read_piece.new.intake in
    goes_on_by c.what_is_kept_decides.ensures c.args.self.now
    (reader_of r.number c.read_piece.new.frames.version (r.fed + length c.args.piece.now) c.read_piece.new.frames.stream.left
    (state_of intake.site) intake.refused
    c.in-Ok.fault r.spent) c.args.piece.now
    (ap (λ (x : ReaderData). x.site) c.self.view_is)
    (fed_on r.number v r.fed left (state_of r.intake.site) r.intake.refused r.fault r.spent c.args.self.now c.args.piece.now
    c.self.view_is (sym c.is_some.ensures ∙ c.if-is_some.false) c.if-self.false
    c.read_piece.new.frames.version (r.fed + length c.args.piece.now) c.read_piece.new.frames.stream.left (state_of intake.site)
    intake.refused c.in-Ok.fault
    (λ all k. c.in-Ok.ensures.keeps r.number all k))

pub returns-in-Err-clause-needed : goal.returns-in-Err-clause-needed
returns-in-Err-clause-needed c =
    let r = c.self.inside in
    inr (
      ap (λ (x : ReaderData). x.fault) (sym c.self.view_is) ∙ is_none_of r.fault (sym c.is_some.ensures ∙ c.if-is_some.false),
      subst (λ (n : ℕ). GoesPastHeader n c.args.piece.now) (ap (λ (x : ReaderData). x.fed) c.self.view_is) c.in-Err.ensures.needed,
    )
