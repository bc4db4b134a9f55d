use Rattle.std.proofs.Common.{◌∙◌, ap, sym, subst, length, arith}
use Rattle.session_replay.specs.Sessions.{SessionData}
use Rattle.session_replay.specs.Generating.{Plan, generated, counts_of, all_counted, NothingWaits, HaveTheSame, ShowTheSame}
use Rattle.session_replay.proofs.Gathering.{IsPlan, all_made, all_sites, all_quiet, all_same, all_show}
use Rattle.session_replay.proofs.Tallies.{counted}
use Rattle.session_replay.proofs.generator.generate.Goals as goal

pub into_generated-requires : goal.into_generated-requires
into_generated-requires c =
    let p : Plan =
    record { start = c.args.start; events = c.args.events; window = c.args.window; sites = c.args.sites; syncs = c.args.syncs } in
    let is : IsPlan p = record { events = c.requires.events; sites = omega (arith, c.requires.sites.0); most_sites = c.requires.sites.1 } in
    omega (arith, c.requires.events, all_made p is, ap (λ (d : SessionData). length d.messages) c.in_ok-session.ensures)

pub returns-clause-number : goal.returns-clause-number
returns-clause-number c =
    let p : Plan =
    record { start = c.args.start; events = c.args.events; window = c.args.window; sites = c.args.sites; syncs = c.args.syncs } in
    let is : IsPlan p = record { events = c.requires.events; sites = omega (arith, c.requires.sites.0); most_sites = c.requires.sites.1 } in
    ap length (c.into_generated.ensures.sites ∙ ap (λ (d : SessionData). d.sites) c.in_ok-session.ensures) ∙ all_sites p is

pub returns-clause-counted : goal.returns-clause-counted
returns-clause-counted c =
    let p : Plan =
    record { start = c.args.start; events = c.args.events; window = c.args.window; sites = c.args.sites; syncs = c.args.syncs } in
    let is : IsPlan p = record { events = c.requires.events; sites = omega (arith, c.requires.sites.0); most_sites = c.requires.sites.1 } in
    ap all_counted (c.into_generated.ensures.counts ∙ ap (λ (d : SessionData). counts_of d.messages) c.in_ok-session.ensures)
    ∙ (counted (generated p).messages ∙ all_made p is)

pub returns-clause-quiet : goal.returns-clause-quiet
returns-clause-quiet c =
    let p : Plan =
    record { start = c.args.start; events = c.args.events; window = c.args.window; sites = c.args.sites; syncs = c.args.syncs } in
    let is : IsPlan p = record { events = c.requires.events; sites = omega (arith, c.requires.sites.0); most_sites = c.requires.sites.1 } in
    subst NothingWaits (sym (c.into_generated.ensures.sites ∙ ap (λ (d : SessionData). d.sites) c.in_ok-session.ensures)) (all_quiet p is)

pub returns-clause-same : goal.returns-clause-same
returns-clause-same c =
    let p : Plan =
    record { start = c.args.start; events = c.args.events; window = c.args.window; sites = c.args.sites; syncs = c.args.syncs } in
    let is : IsPlan p = record { events = c.requires.events; sites = omega (arith, c.requires.sites.0); most_sites = c.requires.sites.1 } in
    λ syncs. subst HaveTheSame (sym (c.into_generated.ensures.sites ∙ ap (λ (d : SessionData). d.sites) c.in_ok-session.ensures))
    (all_same p is syncs)

pub returns-clause-texts : goal.returns-clause-texts
returns-clause-texts c =
    let p : Plan =
    record { start = c.args.start; events = c.args.events; window = c.args.window; sites = c.args.sites; syncs = c.args.syncs } in
    let is : IsPlan p = record { events = c.requires.events; sites = omega (arith, c.requires.sites.0); most_sites = c.requires.sites.1 } in
    λ syncs. subst ShowTheSame (sym (c.into_generated.ensures.sites ∙ ap (λ (d : SessionData). d.sites) c.in_ok-session.ensures))
    (all_show p is syncs)
