-- The elements of the two lists of a context, as they lie in bytes.
use Rattle.std.specs.Prelude.{ℕ, List, take, drop}
use Rattle.std.specs.Int.{w16, w32, from_be_bytes}
use Rattle.op_name.specs.NameData.{NameData}
use Rattle.wire_codec.specs.declared.version.Version.{Version}
use Rattle.wire_codec.specs.declared.version.Version.TheVariants.{One, Two}
use Rattle.wire_codec.specs.declared.listing.Listing.{Listing}
use Rattle.wire_codec.specs.declared.listing.Listing.TheVariants.{Names, Runs, LongRuns}
use Rattle.wire_codec.specs.Versions.{site_width, site_len}
use Rattle.wire_codec.specs.Runs.{RunData, run_of}

-- a site with its count
abbrev pub raw_count : Version → List ℕ → ℕ × ℕ
raw_count v bytes = (from_be_bytes (site_width v) (take (site_len v) bytes), from_be_bytes w32 (drop (site_len v) bytes))

-- a name
abbrev pub raw_name : Version → List ℕ → NameData
raw_name v bytes =
    record { site = from_be_bytes (site_width v) (take (site_len v) bytes); number = from_be_bytes w32 (drop (site_len v) bytes) }

-- a run, of which only some listings say the length
abbrev pub raw_run : Listing → List ℕ → RunData
raw_run Names bytes = run_of (raw_name One (take 5 bytes)) 1 (from_be_bytes w16 (drop 5 bytes))
raw_run Runs bytes =
    run_of (raw_name Two (take 6 bytes)) (from_be_bytes w16 (take 2 (drop 6 bytes))) (from_be_bytes w16 (drop 2 (drop 6 bytes)))
raw_run LongRuns bytes =
    run_of (raw_name Two (take 6 bytes)) (from_be_bytes w32 (take 4 (drop 6 bytes))) (from_be_bytes w16 (drop 4 (drop 6 bytes)))
