use Rattle.std.proofs.Common.{◌≡◌, ◌+◌, ◌*◌, ◌≤◌, ℕ, List, ◌++◌, length, refl, sym, ap, subst, ◌∙◌, arith}
use Rattle.std.specs.Int.{w32, byte_len, to_be_bytes}
use Rattle.op_name.specs.NameData.{NameData}
use Rattle.context_vector.specs.Contexts.{ContextData}
use Rattle.context_diff.specs.Operations.{context_of}
use Rattle.context_diff.specs.Ops.{data_of}
use Rattle.wire_codec.specs.declared.version.Version.{Version}
use Rattle.wire_codec.specs.declared.listing.Listing.{Listing}
use Rattle.wire_codec.specs.Versions.{sites}
use Rattle.wire_codec.specs.Runs.{runs_of, runs_width, listing_of, version_of}
use Rattle.wire_codec.specs.Spelling.{head_of, head_bytes, counts_bytes, entries_bytes, body_bytes}
use Rattle.wire_codec.specs.Judging.{count_len, run_len, runs_in}
use Rattle.wire_codec.specs.Code.Puts.{HasRoom, CountsIn, EntriesIn, head_len, context_len}
use Rattle.wire_codec.proofs.Contexts.{counts_most, context_in_range}
use Rattle.wire_codec.proofs.RunNames.{length-runs}
use Rattle.wire_codec.proofs.Sites.{fits_to}
use Rattle.wire_codec.proofs.Sizes.{body_size, length-head_bytes, length-counts_bytes, runs_width_two, sites_of_frames, frame_pieces}
use Rattle.wire_codec.proofs.Pushes.{four_pieces}
use Rattle.wire_codec.proofs.writing.encode_in.Goals.{After-count-runs}
use Rattle.wire_codec.proofs.writing.encode_in.Goals as goal

-- the runs that were counted are those of the operation
counted : (c : After-count-runs) → c.count-runs.result ≡ length (runs_in c.args.version (data_of c.args.op.now))
counted c =
    let named : c.as_slice.result.now ≡ (context_of (data_of c.args.op.now)).entries =
    c.as_slice.ensures.value ∙ (c.in_ok-entries.ensures ∙ ap (λ (x : ContextData). x.entries) c.context.ensures) in
    c.count-runs.ensures
    ∙ (ap (λ (k : Listing). length (runs_of k c.as_slice.result.now)) c.listing.ensures
    ∙ ap (λ (es : List (NameData × ℕ)). length (runs_of (listing_of c.args.version) es)) named)

pub body_len-body-requires : goal.body_len-body-requires
body_len-body-requires c =
    let o = data_of c.args.op.now in
    let range = context_in_range o c.requires.well.in_range in
    omega (arith, counted c, length-runs (listing_of c.args.version) (context_of o).entries, range.1)

pub put_head-requires-clause-fits : goal.put_head-requires-clause-fits
put_head-requires-clause-fits c = (fits_to c.args.version (data_of c.args.op.now) c.requires.fits).own

pub put_counts-requires-clause-room : goal.put_counts-requires-clause-room
put_counts-requires-clause-room c =
    let o = data_of c.args.op.now in
    let v = c.args.version in
    let room = c.in_ok-reserve.ensures.ok in
    let size = c.body_len-body.ensures in
    let l1 = c.put.ensures.len in
    let k1 = c.put.ensures.capacity in
    let wide : length c.to_be_bytes.result ≡ 4 = rw (c.to_be_bytes.ensures) refl in
    let l2 = c.put_head.ensures.len in
    let k2 = c.put_head.ensures.capacity in
    let head = length-head_bytes v (head_of o) in
    let counts : count_len v * length c.context-2.result.now.set.counts ≡ count_len v * length (context_of o).counts =
    ap (λ (x : ContextData). count_len v * length x.counts) c.context-2.ensures in
    omega (arith, room, size, l1, k1, wide, l2, k2, head, counts)

pub put_counts-requires-clause-few : goal.put_counts-requires-clause-few
put_counts-requires-clause-few c =
    let o = data_of c.args.op.now in
    let range = context_in_range o c.requires.well.in_range in
    subst (λ (x : ContextData). length x.counts ≤ sites c.args.version) (sym c.context-2.ensures)
    (counts_most c.args.version (context_of o).counts (range.0.counts, (fits_to c.args.version o c.requires.fits).counts))

pub put_counts-requires-clause-sites : goal.put_counts-requires-clause-sites
put_counts-requires-clause-sites c =
    subst (λ (x : ContextData). CountsIn c.args.version x.counts) (sym c.context-2.ensures)
    (fits_to c.args.version (data_of c.args.op.now) c.requires.fits).counts

pub put_names-requires-clause-room : goal.put_names-requires-clause-room
put_names-requires-clause-room c =
    let o = data_of c.args.op.now in
    let v = c.args.version in
    let room = c.in_ok-reserve.ensures.ok in
    let size = c.body_len-body.ensures in
    let l1 = c.put.ensures.len in
    let k1 = c.put.ensures.capacity in
    let wide : length c.to_be_bytes.result ≡ 4 = rw (c.to_be_bytes.ensures) refl in
    let l2 = c.put_head.ensures.len in
    let k2 = c.put_head.ensures.capacity in
    let head = length-head_bytes v (head_of o) in
    let l3 = c.put_counts.ensures.len in
    let k3 = c.put_counts.ensures.capacity in
    let listed = length-counts_bytes v c.context-2.result.now.set.counts in
    let counts : count_len v * length c.context-2.result.now.set.counts ≡ count_len v * length (context_of o).counts =
    ap (λ (x : ContextData). count_len v * length x.counts) c.context-2.ensures in
    let two = runs_width_two v in
    subst (λ (k : Listing). HasRoom c.put_counts.new.out (byte_len (runs_width k) + run_len k * c.count-runs.result))
    (sym c.listing-2.ensures)
    (omega (arith, room, size, l1, k1, wide, l2, k2, head, l3, k3, listed, counts, two))

pub put_names-requires-clause-sites : goal.put_names-requires-clause-sites
put_names-requires-clause-sites c =
    let o = data_of c.args.op.now in
    let v = c.args.version in
    let fit = (fits_to v o c.requires.fits).entries in
    let named : c.as_slice-2.result.now ≡ (context_of o).entries =
    c.as_slice-2.ensures.value ∙ (c.in_ok-entries.ensures ∙ ap (λ (x : ContextData). x.entries) c.context.ensures) in
    let of_version : version_of c.listing-2.result ≡ v = ap version_of c.listing-2.ensures ∙ sites_of_frames v in
    subst (λ (u : Version). EntriesIn u c.as_slice-2.result.now) (sym of_version)
    (subst (λ (es : List (NameData × ℕ)). EntriesIn v es) (sym named) fit)

pub returns-clause-ok : goal.returns-clause-ok
returns-clause-ok c =
    let o = data_of c.args.op.now in
    let v = c.args.version in
    let start = c.args.out.now.items in
    let runs : c.count-runs.result ≡ length (runs_in v o) =
    c.count-runs.ensures
    ∙ (ap (λ (k : Listing). length (runs_of k c.as_slice.result.now)) c.listing.ensures
    ∙ ap (λ (es : List (NameData × ℕ)). length (runs_of (listing_of v) es))
    (c.as_slice.ensures.value ∙ (c.in_ok-entries.ensures ∙ ap (λ (x : ContextData). x.entries) c.context.ensures))) in
    let long : c.body_len-body.result ≡ length (body_bytes v o) =
    c.body_len-body.ensures ∙ (ap (λ (n : ℕ). head_len v (head_of o) + context_len v (context_of o) n) runs ∙ sym (body_size v o)) in
    let size : c.put.new.out.items ≡ start ++ to_be_bytes w32 (length (body_bytes v o)) =
    c.put.ensures.items ∙ (ap (λ (t : List ℕ). t ++ c.to_be_bytes.result) c.in_ok-reserve.ensures.items
    ∙ ap (λ (t : List ℕ). start ++ t) (c.to_be_bytes.ensures ∙ ap (to_be_bytes w32) long)) in
    let counts : c.put_counts.new.out.items ≡ c.put_head.new.out.items ++ counts_bytes v (context_of o).counts =
    c.put_counts.ensures.items ∙ ap (λ (x : ContextData). c.put_head.new.out.items ++ counts_bytes v x.counts) c.context-2.ensures in
    let names : c.put_names.new.out.items ≡ c.put_counts.new.out.items ++ entries_bytes (listing_of v) (context_of o).entries =
    c.put_names.ensures.items
    ∙ (ap (λ (k : Listing). c.put_counts.new.out.items ++ entries_bytes k c.as_slice-2.result.now) c.listing-2.ensures
    ∙ ap (λ (es : List (NameData × ℕ)). c.put_counts.new.out.items ++ entries_bytes (listing_of v) es)
    (c.as_slice-2.ensures.value ∙ (c.in_ok-entries.ensures ∙ ap (λ (x : ContextData). x.entries) c.context.ensures))) in
    four_pieces start c.put.new.out.items c.put_head.new.out.items c.put_counts.new.out.items c.put_names.new.out.items
    (to_be_bytes w32 (length (body_bytes v o))) (head_bytes v (head_of o)) (counts_bytes v (context_of o).counts)
    (entries_bytes (listing_of v) (context_of o).entries)
    size c.put_head.ensures.items counts names
    ∙ ap (λ (t : List ℕ). start ++ t) (frame_pieces v o)
