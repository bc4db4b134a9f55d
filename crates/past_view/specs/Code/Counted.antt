-- What is counted in the bytes of a text, and where it stands.
use Rattle.std.specs.Prelude.{◌≡◌, ℕ, ◌+◌, ◌<◌, ◌≤◌, Bool, true, List, length, take, slice_index}
use Rattle.std.specs.List.{count_by}
use Rattle.lane_rank.specs.Texts.{is_newline, starts_char, newlines_of, starts_of}
use Rattle.past_view.specs.declared.counted.Counted.{Counted}
use Rattle.past_view.specs.declared.counted.Counted.TheVariants.{Characters, LineFeeds}

-- the bytes that are counted
abbrev pub counts : Counted → ℕ → Bool
counts Characters = starts_char
counts LineFeeds = is_newline

-- at i stands a byte that passes, after k others
pub record IsNth (p : ℕ → Bool) (bs : List ℕ) (k : ℕ) (i : ℕ) : Type 0 where
  pub within : i < length bs
  pub passes : p (slice_index bs i) ≡ true
  pub before : count_by p (take i bs) ≡ k

-- v characters end at i: as many bytes before it start one, and it starts the next or is the end
pub record IsPlaceEnd (bs : List ℕ) (v : ℕ) (i : ℕ) : Type 0 where
  pub within : i ≤ length bs
  pub before : starts_of (take i bs) ≡ v
  pub next : i < length bs → starts_char (slice_index bs i) ≡ true

-- the line begins at i: as many line feeds stand before it, and it is the front or stands right after one
pub record IsLineStart (bs : List ℕ) (line : ℕ) (i : ℕ) : Type 0 where
  pub within : i ≤ length bs
  pub before : newlines_of (take i bs) ≡ line
  pub after : (k : ℕ) → k + 1 ≡ i → is_newline (slice_index bs k) ≡ true

-- the first line ends at i: no line feed stands before it, and it has one or is the end
pub record IsLineEnd (bs : List ℕ) (i : ℕ) : Type 0 where
  pub within : i ≤ length bs
  pub before : newlines_of (take i bs) ≡ 0
  pub next : i < length bs → is_newline (slice_index bs i) ≡ true
