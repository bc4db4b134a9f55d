use Rattle.std.proofs.Common.{◌≡◌, ℕ, List, ◌++◌, length, sym, ap, subst, ◌∙◌, append_assoc, arith}
use Rattle.op_name.specs.NameData.{NameData}
use Rattle.context_vector.proofs.CallerLemmas.{length_at_most}
use Rattle.wire_codec.specs.declared.version.Version.TheVariants.{Two}
use Rattle.wire_codec.specs.declared.listing.Listing.TheVariants.{Runs}
use Rattle.wire_codec.specs.Runs.{runs_of}
use Rattle.wire_codec.specs.Spelling.{counts_bytes, entries_bytes, context_bytes}
use Rattle.wire_codec.specs.Code.Puts.{EntriesIn}
use Rattle.wire_codec.proofs.Contexts.{counts_most}
use Rattle.wire_codec.proofs.RunNames.{length-runs}
use Rattle.wire_codec.proofs.Sites.{counts_of_two, entries_of_two}
use Rattle.wire_codec.proofs.Sizes.{length-counts_bytes}
use Rattle.wire_codec.proofs.lone_contexts.encode_context.Goals as goal

pub count-runs-requires : goal.count-runs-requires
count-runs-requires c =
    let named = ap length (c.as_slice.ensures.value ∙ c.in_ok-entries.ensures) in
    omega (arith, named, length_at_most c.args.context.now.set.entries c.known.ensures.entries)

pub context_len-requires : goal.context_len-requires
context_len-requires c =
    let named = ap (λ (es : List (NameData × ℕ)). length (runs_of Runs es)) (c.as_slice.ensures.value ∙ c.in_ok-entries.ensures) in
    let counted = c.count-runs.ensures in
    omega (arith, counted, named, length-runs Runs c.args.context.now.set.entries)

pub put_counts-requires-clause-few : goal.put_counts-requires-clause-few
put_counts-requires-clause-few c =
    let ps = c.args.context.now.set.counts in
    counts_most Two ps (c.known.ensures.counts, counts_of_two 0 ps c.known.ensures.counts)

pub put_counts-requires-clause-sites : goal.put_counts-requires-clause-sites
put_counts-requires-clause-sites c = counts_of_two 0 c.args.context.now.set.counts c.known.ensures.counts

pub put_names-requires-clause-room : goal.put_names-requires-clause-room
put_names-requires-clause-room c =
    let room = c.in_ok-reserve.ensures.ok in
    let size = c.context_len.ensures in
    let listed = length-counts_bytes Two c.args.context.now.set.counts in
    let l = c.put_counts.ensures.len in
    let k = c.put_counts.ensures.capacity in
    omega (arith, room, size, listed, l, k)

pub put_names-requires-clause-sites : goal.put_names-requires-clause-sites
put_names-requires-clause-sites c =
    subst (λ (es : List (NameData × ℕ)). EntriesIn Two es) (sym (c.as_slice-2.ensures.value ∙ c.in_ok-entries.ensures))
    (entries_of_two c.args.context.now.set.entries c.known.ensures.entries)

pub returns-clause-ok : goal.returns-clause-ok
unfolding context_bytes
returns-clause-ok c =
    let start = c.args.out.now.items in
    let counts = counts_bytes Two c.args.context.now.set.counts in
    let named = entries_bytes Runs c.args.context.now.set.entries in
    let first : c.put_counts.new.out.items ≡ start ++ counts =
    c.put_counts.ensures.items ∙ ap (λ (t : List ℕ). t ++ counts) c.in_ok-reserve.ensures.items in
    let second : c.put_names.new.out.items ≡ c.put_counts.new.out.items ++ named =
    c.put_names.ensures.items ∙ ap (λ es. c.put_counts.new.out.items ++ entries_bytes Runs es)
    (c.as_slice-2.ensures.value ∙ c.in_ok-entries.ensures) in
    second ∙ (ap (λ (t : List ℕ). t ++ named) first ∙ append_assoc start counts named)
