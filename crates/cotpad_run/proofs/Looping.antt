-- What two exchanges over the pair leave, and what is written of them, is an answer.
use Rattle.std.proofs.Common.{◌≡◌, ℕ, List, [], ◌∷◌, refl, sym, ap, subst, ◌∙◌, inl, inr}
use Rattle.std.specs.Prelude.{Result, Ok, Err, IfOk, IfErr}
use Rattle.outside_io.specs.Ends.{End}
use Rattle.cot_site.specs.States.{State}
use Rattle.peer_exchange.specs.declared.peer.Peer.{Peer}
use Rattle.peer_exchange.specs.Joins.{AnyExchangesMeet}
use Rattle.peer_exchange.specs.Exchanges.{UnrefusedCallsJoin, AgreeingSitesMeet, SecondExchangesAreEmpty}
use Rattle.peer_exchange.specs.Lengths.{ShortHistoriesHaveShortMessages}
use Rattle.session_replay.specs.Sessions.{site_at}
use Rattle.session_replay.specs.Generating.{SitesStayAlone}
use Rattle.site_node.specs.declared.node.Node.{Node}
use Rattle.site_node.specs.declared.node.Node.TheVariants as node
use Rattle.site_node.specs.Pairs.{IsTelling, IsLooped, IsUnlooped}
use Rattle.site_node.specs.Stops.{OnlyLinkFails}
use Rattle.log_replies.specs.declared.status.Status.{Status}
use Rattle.log_replies.specs.declared.status.Status.TheVariants.{Done, Refused, Words, ReadFault, WriteFault, Memory, LinkFault, PeerRefused}
use Rattle.log_replies.specs.Outside.{Outside, IsWritten, IsCutOff}
use Rattle.cotpad_run.specs.Generating.{alike}
use Rattle.cotpad_run.specs.Looping.{server_of, joiner_of, pair_of, AreLooped, AreLinked, AreJoined, IsParted, IsLooping, IsLoopTold, loop_text}
use Rattle.cotpad_run.specs.Wired.{Wired}
use Rattle.cotpad_run.specs.Code.Looping.{AreBothLooped, IsLeftAfter, IsLoopEnded}
use Rattle.cotpad_run.specs.Code.Stopping.{IsStopTold}
use Rattle.cotpad_run.proofs.Meetings.{no_link}
use Rattle.cotpad_run.proofs.Pairs.{outcome, pair_apart, talks, never_left}

-- the sites of the generated session
pub first_is : (start : ℕ) (sites : List State) (s t : State) → sites ≡ (pair_of start).sites → sites ≡ s ∷ t ∷ [] → s ≡ server_of start
first_is start sites s t is pair = ap (λ xs. site_at (record { sites = xs; messages = [] }) 0) (sym pair ∙ is)

pub second_is : (start : ℕ) (sites : List State) (s t : State) → sites ≡ (pair_of start).sites → sites ≡ s ∷ t ∷ [] → t ≡ joiner_of start
second_is start sites s t is pair = ap (λ xs. site_at (record { sites = xs; messages = [] }) 1) (sym pair ∙ is)

-- what the exchanges of the two sites left
pub record Loop (start : ℕ) (s t j k : State) (r : Result ((ℕ × ℕ) × (ℕ × ℕ)) Node) (before after : Wired) : Type 0 where
  pub server : s ≡ server_of start
  pub joiner : j ≡ joiner_of start
  pub looped : IfOk r (λ counts. AreBothLooped s t j k counts.0 counts.1 before.ends after.ends)
  pub stopped : IfErr r (λ why. IsLeftAfter s t j k why before.ends after.ends)
  pub cause : OnlyLinkFails before.faults after.faults r
  pub link : AreLinked before after

are_looped : (start : ℕ) (s t j k : State) (once twice : ℕ × ℕ) (old new : ℕ → End) → s ≡ server_of start → j ≡ joiner_of start
    → AreBothLooped s t j k once twice old new
    → AreLooped start once twice (alike t (t ∷ k ∷ [])) old new
are_looped start s t j k once twice old new server joiner both =
    let b = subst (λ x. AreBothLooped x t (joiner_of start) k once twice old new) server
    (subst (λ y. AreBothLooped s t y k once twice old new) joiner both) in
    record {
      server = b.server;
      joiner = b.joiner;
      last_server = t;
      last_joiner = k;
      between = b.between;
      first = b.first;
      second = b.second;
      shown = refl;
    }

parted : (start : ℕ) (s t j k : State) (why : Node) (old new : ℕ → End) → IsLeftAfter s t j k why old new → s ≡ server_of start
    → j ≡ joiner_of start → IsParted start why old new
parted start s t j k why old new (inl first) server joiner =
    inl (
      t,
      k,
      subst (λ x. IsUnlooped x t (joiner_of start) k why old new) server
          (subst (λ y. IsUnlooped s t y k why old new) joiner first),
    )
parted start s t j k why old new (inr midway) server joiner = inr (record {
  server = midway.server;
  joiner = midway.joiner;
  last_server = t;
  last_joiner = k;
  once = midway.once;
  between = midway.between;
  first = subst (λ x. IsLooped x midway.server (joiner_of start) midway.joiner midway.once old midway.between) server
      (subst (λ y. IsLooped s midway.server y midway.joiner midway.once old midway.between) joiner midway.first);
  second = midway.second;
})

joined_by : (start : ℕ) (s t j k : State) (counts : (ℕ × ℕ) × (ℕ × ℕ)) (before after : Wired) → Loop start s t j k (Ok counts) before after
    → AreJoined start before after
joined_by start s t j k counts before after m = record {
  once = counts.0;
  twice = counts.1;
  equal = alike t (t ∷ k ∷ []);
  looped = are_looped start s t j k counts.0 counts.1 before.ends after.ends m.server m.joiner m.looped;
  link = m.link;
  faultless = m.cause.well refl;
}

pub loop_answered : (start : ℕ) (s t j k : State) (r : Result ((ℕ × ℕ) × (ℕ × ℕ)) Node) (old new : Outside) (before after : Wired)
    (status : Status)
    → Loop start s t j k r before after → IsLoopEnded t k r old new status → IsLooping start old new before after status
unfolding joined_by
loop_answered start s t j k (Ok counts) old new before after Done m told =
    record { joined = joined_by start s t j k counts before after m; written = told }
loop_answered start s t j k (Ok counts) old new before after Refused m told = absurd told
loop_answered start s t j k (Ok counts) old new before after Words m told = absurd told
loop_answered start s t j k (Ok counts) old new before after ReadFault m told = absurd told
loop_answered start s t j k (Ok counts) old new before after WriteFault m told =
    inl (record { joined = joined_by start s t j k counts before after m; cut_off = told })
loop_answered start s t j k (Ok counts) old new before after Memory m told = record {
  link = inr (
    m.link,
    inl (
      counts.0,
      counts.1,
      alike t (t ∷ k ∷ []),
      are_looped start s t j k counts.0 counts.1 before.ends after.ends m.server m.joiner m.looped,
    ),
  );
  faultless = m.cause.well refl;
  held = told.0;
  write_faults = told.1;
}
loop_answered start s t j k (Ok counts) old new before after LinkFault m told = absurd told
loop_answered start s t j k (Ok counts) old new before after PeerRefused m told = absurd told
loop_answered start s t j k (Err why) old new before after Done m told = absurd told
loop_answered start s t j k (Err why) old new before after Refused m told = absurd told
loop_answered start s t j k (Err why) old new before after Words m told = absurd told
loop_answered start s t j k (Err why) old new before after ReadFault m told = absurd told
loop_answered start s t j k (Err why) old new before after WriteFault m (refusal, is, cut_off) = inr (record {
  why = refusal;
  stopped =
      subst (λ n. IsParted start n before.ends after.ends) is (parted start s t j k why before.ends after.ends m.stopped m.server m.joiner);
  link = m.link;
  cut_off = cut_off;
  faultless = m.cause.other why refl (no_link why refusal is);
})
loop_answered start s t j k (Err why) old new before after Memory m (other, kept) = record {
  link = inr (m.link, inr (why, other, parted start s t j k why before.ends after.ends m.stopped m.server m.joiner));
  faultless = m.cause.other why refl other;
  held = kept.held;
  write_faults = kept.write_faults;
}
loop_answered start s t j k (Err why) old new before after LinkFault m (is, kept) = record {
  stopped =
      subst (λ n. IsParted start n before.ends after.ends) is (parted start s t j k why before.ends after.ends m.stopped m.server m.joiner);
  link = m.link;
  fault = m.cause.link (ap Err is);
  held = kept.held;
  write_faults = kept.write_faults;
}
loop_answered start s t j k (Err why) old new before after PeerRefused m (refusal, is, written) = record {
  why = refusal;
  stopped =
      subst (λ n. IsParted start n before.ends after.ends) is (parted start s t j k why before.ends after.ends m.stopped m.server m.joiner);
  link = m.link;
  written = written;
  faultless = m.cause.other why refl (no_link why refusal is);
}

of_pair : (start : ℕ) (s t j k : State) (counts : (ℕ × ℕ) × (ℕ × ℕ)) (before after : Wired) → Loop start s t j k (Ok counts) before after
    → AreBothLooped (server_of start) t (joiner_of start) k counts.0 counts.1 before.ends after.ends
of_pair start s t j k counts before after m =
    subst (λ x. AreBothLooped x t (joiner_of start) k counts.0 counts.1 before.ends after.ends) m.server
    (subst (λ y. AreBothLooped s t y k counts.0 counts.1 before.ends after.ends) m.joiner m.looped)

-- over a wire that tells its bytes nothing is refused
never_refused : SitesStayAlone → UnrefusedCallsJoin → AnyExchangesMeet → ShortHistoriesHaveShortMessages
    → (start : ℕ) (s t j k : State) (why : Node) (refusal : Peer) (before after : Wired)
    → Loop start s t j k (Err why) before after → why ≡ node.Peer refusal → IsTelling before.ends → ⊥
never_refused stay join any short start s t j k why refusal before after m is telling =
    never_left join any short (server_of start) t (joiner_of start) k refusal before.ends after.ends (pair_apart stay start) telling
    (subst (λ x. IsLeftAfter x t (joiner_of start) k (node.Peer refusal) before.ends after.ends) m.server
    (subst (λ y. IsLeftAfter s t y k (node.Peer refusal) before.ends after.ends) m.joiner
    (subst (λ n. IsLeftAfter s t j k n before.ends after.ends) is m.stopped)))

-- and the summary is of all that each site made
pub loop_told : SitesStayAlone → UnrefusedCallsJoin → AgreeingSitesMeet → SecondExchangesAreEmpty → AnyExchangesMeet
    → ShortHistoriesHaveShortMessages
    → (start : ℕ) (s t j k : State) (r : Result ((ℕ × ℕ) × (ℕ × ℕ)) Node) (old new : Outside) (before after : Wired) (status : Status)
    → Loop start s t j k r before after → IsLoopEnded t k r old new status → IsTelling before.ends
    → IsLoopTold start old new before after status
loop_told stay join meet empty any short start s t j k (Ok counts) old new before after Done m told telling =
    let both = of_pair start s t j k counts before after m in
    let is = outcome join meet empty (server_of start) (joiner_of start) t k counts.0 counts.1 before.ends after.ends
    (pair_apart stay start) telling both in
    record {
      talks = talks start t k counts.0 counts.1 before.ends after.ends telling both;
      written = subst (λ text. IsWritten text old new) (λ i. loop_text (is.once_is i) (is.twice_is i) (is.shown i)) told;
    }
loop_told stay join meet empty any short start s t j k (Ok counts) old new before after Refused m told telling = tt
loop_told stay join meet empty any short start s t j k (Ok counts) old new before after Words m told telling = tt
loop_told stay join meet empty any short start s t j k (Ok counts) old new before after ReadFault m told telling = tt
loop_told stay join meet empty any short start s t j k (Ok counts) old new before after WriteFault m told telling =
    let both = of_pair start s t j k counts before after m in
    let is = outcome join meet empty (server_of start) (joiner_of start) t k counts.0 counts.1 before.ends after.ends
    (pair_apart stay start) telling both in
    record {
      talks = talks start t k counts.0 counts.1 before.ends after.ends telling both;
      cut_off = subst (λ text. IsCutOff text old new) (λ i. loop_text (is.once_is i) (is.twice_is i) (is.shown i)) told;
    }
loop_told stay join meet empty any short start s t j k (Ok counts) old new before after Memory m told telling = tt
loop_told stay join meet empty any short start s t j k (Ok counts) old new before after LinkFault m told telling = tt
loop_told stay join meet empty any short start s t j k (Ok counts) old new before after PeerRefused m told telling = absurd told
loop_told stay join meet empty any short start s t j k (Err why) old new before after Done m told telling = absurd told
loop_told stay join meet empty any short start s t j k (Err why) old new before after Refused m told telling = tt
loop_told stay join meet empty any short start s t j k (Err why) old new before after Words m told telling = tt
loop_told stay join meet empty any short start s t j k (Err why) old new before after ReadFault m told telling = tt
loop_told stay join meet empty any short start s t j k (Err why) old new before after WriteFault m (refusal, is, cut_off) telling =
    absurd (never_refused stay join any short start s t j k why refusal before after m is telling)
loop_told stay join meet empty any short start s t j k (Err why) old new before after Memory m told telling = tt
loop_told stay join meet empty any short start s t j k (Err why) old new before after LinkFault m told telling = tt
loop_told stay join meet empty any short start s t j k (Err why) old new before after PeerRefused m (refusal, is, written) telling =
    never_refused stay join any short start s t j k why refusal before after m is telling

pub told_of_stop : (server joiner : State) (r : Result ((ℕ × ℕ) × (ℕ × ℕ)) Node) (why : Node) (old new : Outside) (status : Status)
    → r ≡ Err why → IsStopTold why old new status
    → IsLoopEnded server joiner r old new status
told_of_stop server joiner r why old new status is told = subst (λ x. IsLoopEnded server joiner x old new status) (sym is) told
