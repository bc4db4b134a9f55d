-- The sites of a generated session, as their texts are written.
use Rattle.std.specs.Prelude.{ℕ, List, ◌++◌, slice_index_or}
use Rattle.cot_site.specs.States.{State}
use Rattle.session_replay.specs.Sessions.{new_site}
use Rattle.log_replies.specs.Replies.{shown_reply}
use Rattle.cotpad_run.specs.Generating.{alike, equal_text}

-- the site of number 0
abbrev pub first_of : List State → State
first_of sites = slice_index_or sites 0 (new_site 0)

-- how many sites show the text of the first one, and the lines of that text
abbrev pub shown_of : List State → List ℕ
shown_of sites = equal_text (alike (first_of sites) sites) ++ (shown_reply (first_of sites)).written
