-- What holds of the sessions that scripts come by.
use Rattle.std.specs.Prelude.{◌≡◌, false, List, Contains}
use Rattle.op_name.specs.declared.member.Member.{Member}
use Rattle.context_diff.specs.Operations.{OpData, member_of, context_of}
use Rattle.context_diff.specs.Histories.{is_known, LacksFirst}
use Rattle.cot_site.specs.States.{State, IsSettled}
use Rattle.cot_site.specs.Releases.{IsSound as IsSoundSite}
use Rattle.cot_site.specs.Sites.{AllFormed}
use Rattle.session_replay.specs.Sessions.{SessionData}

-- each history is valid, and all that waits and all messages are well formed
pub record IsSound (d : SessionData) : Type 0 where
  pub sites : (s : State) → Contains d.sites s → IsSoundSite s
  pub messages : AllFormed d.messages

-- no site has an operation that is ready
abbrev pub AreSettled : SessionData → Type 0
AreSettled d = (s : State) → Contains d.sites s → IsSettled s

-- the operation waits for a member of its context, the first in the order of members that the history lacks
pub record WaitsFor (h : List OpData) (o : OpData) : Type 0 where
  pub missing : Member
  pub first : LacksFirst h (context_of o) missing
  pub new : is_known h (member_of o) ≡ false
