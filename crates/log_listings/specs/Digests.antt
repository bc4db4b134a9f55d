-- What `digest` writes: hashes of a history and of its text.
use Rattle.std.specs.Prelude.{ℕ, zero, suc, List, [], ◌∷◌, ◌++◌, codes, decimal, length}
use Rattle.std.specs.Int.{w16, w32, to_be_bytes}
use Rattle.std.specs.List.{flat_map}
use Rattle.std.specs.Option.{option_map_or}
use Rattle.op_name.specs.NameData.{NameData}
use Rattle.op_name.specs.declared.member.Member.{Member}
use Rattle.op_name.specs.declared.member.Member.TheVariants.{Original, Group}
use Rattle.context_vector.specs.Contexts.{ContextData}
use Rattle.context_diff.specs.Operations.{OpData}
use Rattle.context_diff.specs.Histories.{context_of_all}
use Rattle.context_diff.specs.Replays.{text_of}
use Rattle.wire_codec.specs.declared.version.Version.TheVariants.{Two}
use Rattle.wire_codec.specs.Spelling.{name_bytes, frame}
use Rattle.hex.specs.Hex.{encode_lower}
use Rattle.sha2.specs.Sha256.{sha256}
use Rattle.cot_site.specs.States.{State}
use Rattle.script_text.specs.Report.{Report}
use Rattle.log_replies.specs.Replies.{RepliesToLog, accepting}
use Rattle.log_listings.specs.Originals.{original_in}

-- ---- the members of a set in their order

-- a site's originals from this number on, so many of them
abbrev pub originals_from : ℕ → ℕ → ℕ → List Member
originals_from s first zero = []
originals_from s first (suc k) = Original (record { site = s; number = first }) ∷ originals_from s (suc first) k

-- the groups of a name from this generation on, so many of them
abbrev pub groups_from : NameData → ℕ → ℕ → List Member
groups_from n first zero = []
groups_from n first (suc k) = Group n first ∷ groups_from n (suc first) k

-- the originals that a site has by its count, and the groups that a name has by its greatest generation
abbrev pub originals_of : ℕ × ℕ → List Member
originals_of p = originals_from p.0 1 p.1

abbrev pub groups_of : NameData × ℕ → List Member
groups_of e = groups_from e.0 1 e.1

-- the members of a context, in the order of members: originals by site and number, then groups by name and generation
abbrev pub members_of : ContextData → List Member
members_of c = flat_map originals_of c.counts ++ flat_map groups_of c.entries

-- ---- their contents

-- a group, whoever made it: spelled as a frame, four bytes of length, which are 8, and then its name in version 2 and its generation
abbrev pub group_bytes : NameData → ℕ → List ℕ
group_bytes n g = to_be_bytes w32 8 ++ (name_bytes Two n ++ to_be_bytes w16 g)

-- what a member of the history is: the frame of an original in version 2, or a group. No frame begins as a group does
abbrev pub content_of : List OpData → Member → List ℕ
content_of h (Original n) = option_map_or (frame Two) (original_in h n) []
content_of h (Group n g) = group_bytes n g

-- the history as bytes: the contents of its members, in the order of members, and not of their arrival
unfoldable pub history_bytes : List OpData → List ℕ
history_bytes h = flat_map (content_of h) (members_of (context_of_all h))

-- ---- the reply

-- the SHA-256 of bytes, in 64 digits
abbrev pub hash_text : List ℕ → List ℕ
hash_text bytes = encode_lower (sha256 bytes)

-- `operations N`, `history HEX` and `text HEX`, each with a line feed
abbrev pub digest_text : List OpData → List ℕ
digest_text h =
    codes "operations " ++ (decimal (length h)
    ++ (codes "\nhistory " ++ (hash_text (history_bytes h)
    ++ (codes "\ntext " ++ (hash_text (text_of h) ++ codes "\n")))))

abbrev pub digest_reply : State → Report
digest_reply s = accepting (digest_text s.history)

-- `digest`: the log is loaded as site 0
abbrev pub IsDigested : List ℕ → Report → Type 0
IsDigested = RepliesToLog 0 digest_reply
