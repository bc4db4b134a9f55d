use Rattle.std.proofs.Common.{◌≡◌, ◌≢◌, None, false, ℕ, ◌+◌, List, ◌++◌, refl, ap, sym, subst, ◌∙◌, length, take}
use Rattle.std.proofs.lemmas.List.{length-append}
use Rattle.wire_codec.specs.declared.version.Version.{Version}
use Rattle.wire_codec.proofs.CallerLemmas.{on_err}
use Rattle.cot_site.specs.Sites.{state_of}
use Rattle.session_log.specs.Logs.{header}
use Rattle.session_log.specs.ReaderData.{reader_of}
use Rattle.session_log.specs.Readers.{HasTaken, Keeps}
use Rattle.session_log.proofs.Pieces.{goes_through, turned, turned_keeps, turned_counts, turned_version, keeps_fault, none_left, some_left, keeps_header, counted_header, whole_header, past_header, reads_on, ends_turned, counted_on}
use Rattle.session_log.proofs.reader.read_piece.Goals as goal

pub returns-in-None-clause-keeps : goal.returns-in-None-clause-keeps
returns-in-None-clause-keeps c = λ site all k.
    let piece = c.args.piece.now in
    let v = c.args.frames.now.version in
    keeps_fault site v c.args.before c.args.frames.now.stream.left (state_of c.args.intake.now.site) c.args.intake.now.refused all piece k
    (subst (λ (n : ℕ). (w : Version) (more rest : List ℕ) → (take n (header v) ++ piece) ++ more ≢ header w ++ rest) c.min.ensures
    (c.in-None.ensures.none refl))

-- ---- no byte comes after the header

pub returns-then-is_empty-clause-keeps : goal.returns-then-is_empty-clause-keeps
returns-then-is_empty-clause-keeps c = λ site all k.
    let piece = c.args.piece.now in
    let rest = c.in-Some.rest.now in
    let v = c.args.frames.now.version in
    let w = c.in-Some.told in
    let old = c.args.frames.now.stream in
    let new = c.turn.new.self.stream in
    let s = state_of c.args.intake.now.site in
    let refused = c.args.intake.now.refused in
    let told = c.in_ok-turn-in-Some.ensures in
    let goes = goes_through w c.min.result c.args.before piece rest c.min.ensures c.in-Some.ensures.some in
    let t = turned v w c.min.result c.args.before old new c.min.ensures c.in-Some.ensures.front told.fresh told.stays in
    let now = turned_keeps site v w c.args.before old new s refused all t k in
    subst (λ (x : Version). Keeps (reader_of site x (c.args.before + length piece) new.left s refused None false) (all ++ piece))
    (sym told.told)
    (keeps_header site w c.args.before new.left s refused all piece rest now goes
    (none_left rest (sym c.is_empty.ensures ∙ c.if-is_empty.true)))

pub returns-then-is_empty-clause-counted : goal.returns-then-is_empty-clause-counted
returns-then-is_empty-clause-counted c = λ none.
    let piece = c.args.piece.now in
    let rest = c.in-Some.rest.now in
    let v = c.args.frames.now.version in
    let w = c.in-Some.told in
    let told = c.in_ok-turn-in-Some.ensures in
    let old = c.args.frames.now.stream in
    let new = c.turn.new.self.stream in
    let goes = goes_through w c.min.result c.args.before piece rest c.min.ensures c.in-Some.ensures.some in
    let t = turned v w c.min.result c.args.before old new c.min.ensures c.in-Some.ensures.front told.fresh told.stays in
    counted_header w c.args.before new piece rest (turned_counts v w c.args.before old new t c.requires.counted) goes
    (none_left rest (sym c.is_empty.ensures ∙ c.if-is_empty.true))

-- ---- some bytes come after it

pub returns-in_err-feed-in-Some-clause-needed : goal.returns-in_err-feed-in-Some-clause-needed
returns-in_err-feed-in-Some-clause-needed c =
    let piece = c.args.piece.now in
    let rest = c.in-Some.rest.now in
    let w = c.in-Some.told in
    let goes = goes_through w c.min.result c.args.before piece rest c.min.ensures c.in-Some.ensures.some in
    on_err c.from_residual-in_err-feed-in-Some.result
    (past_header w c.args.before piece rest c.in_err-feed-in-Some.ensures.needed goes)

pub take_frames-requires-clause-header : goal.take_frames-requires-clause-header
take_frames-requires-clause-header c =
    let piece = c.args.piece.now in
    let rest = c.in-Some.rest.now in
    let w = c.in-Some.told in
    let goes = goes_through w c.min.result c.args.before piece rest c.min.ensures c.in-Some.ensures.some in
    whole_header w c.args.before piece rest (some_left rest (sym c.is_empty.ensures ∙ c.if-is_empty.false)) goes

pub take_frames-requires-clause-counted : goal.take_frames-requires-clause-counted
take_frames-requires-clause-counted c =
    let piece = c.args.piece.now in
    let rest = c.in-Some.rest.now in
    let v = c.args.frames.now.version in
    let w = c.in-Some.told in
    let told = c.in_ok-turn-in-Some.ensures in
    let old = c.args.frames.now.stream in
    let new = c.turn.new.self.stream in
    let goes = goes_through w c.min.result c.args.before piece rest c.min.ensures c.in-Some.ensures.some in
    let t = turned v w c.min.result c.args.before old new c.min.ensures c.in-Some.ensures.front told.fresh told.stays in
    let enough = whole_header w c.args.before piece rest (some_left rest (sym c.is_empty.ensures ∙ c.if-is_empty.false)) goes in
    counted_on w c.args.before new c.feed.new.self piece rest (turned_counts v w c.args.before old new t c.requires.counted)
    c.in-Some.ensures.bytes c.in_ok-feed-in-Some.ensures.ok goes enough

pub returns-in_ok-feed-in-Some-clause-needed : goal.returns-in_ok-feed-in-Some-clause-needed
returns-in_ok-feed-in-Some-clause-needed c =
    let piece = c.args.piece.now in
    let rest = c.in-Some.rest.now in
    let w = c.in-Some.told in
    let goes = goes_through w c.min.result c.args.before piece rest c.min.ensures c.in-Some.ensures.some in
    on_err c.take_frames.result
    (past_header w c.args.before piece rest (some_left rest (sym c.is_empty.ensures ∙ c.if-is_empty.false)) goes)

pub returns-in_ok-feed-in-Some-clause-keeps : goal.returns-in_ok-feed-in-Some-clause-keeps
returns-in_ok-feed-in-Some-clause-keeps c = λ site all k.
    let piece = c.args.piece.now in
    let rest = c.in-Some.rest.now in
    let v = c.args.frames.now.version in
    let w = c.in-Some.told in
    let told = c.in_ok-turn-in-Some.ensures in
    let old = c.args.frames.now.stream in
    let new = c.turn.new.self.stream in
    let feeds = c.in_ok-feed-in-Some.ensures.ok in
    let s = state_of c.args.intake.now.site in
    let refused = c.args.intake.now.refused in
    let fed = c.args.before + length piece in
    let goes = goes_through w c.min.result c.args.before piece rest c.min.ensures c.in-Some.ensures.some in
    let t = turned v w c.min.result c.args.before old new c.min.ensures c.in-Some.ensures.front told.fresh told.stays in
    let now = turned_keeps site v w c.args.before old new s refused all t k in
    let enough = whole_header w c.args.before piece rest (some_left rest (sym c.is_empty.ensures ∙ c.if-is_empty.false)) goes in
    let count : fed ≡ length (all ++ piece) = ap (λ (n : ℕ). n + length piece) k.fed ∙ sym (length-append all piece) in
    let read : HasTaken site w (all ++ piece) c.feed.new.self.left s refused =
    subst (λ (x : List ℕ). HasTaken site w (all ++ piece) x s refused) (sym feeds.left)
    (reads_on site w c.args.before new.left s refused all piece rest now goes enough) in
    let version : c.feed.new.self.version ≡ w = feeds.version ∙ turned_version v w c.args.before old new t c.requires.version in
    ends_turned site c.turn.new.self.version w fed c.take_frames.new.frames (state_of c.take_frames.new.intake.site)
    c.take_frames.new.intake.refused (all ++ piece) c.take_frames.result count enough (c.take_frames.ensures.version ∙ version) told.told
    (c.take_frames.ensures.ends site (all ++ piece) count
    (subst (λ (x : Version). HasTaken site x (all ++ piece) c.feed.new.self.left s refused) (sym version) read))
