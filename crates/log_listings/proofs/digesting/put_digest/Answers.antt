use Rattle.std.proofs.Common.{◌≡◌, ◌++◌, List, ℕ, ap, ◌∙◌, length}
use Rattle.std.specs.Prelude.{codes, decimal}
use Rattle.hex.specs.Hex.{encode_lower}
use Rattle.sha2.specs.Sha256.{sha256}
use Rattle.context_diff.specs.Operations.{OpData}
use Rattle.context_diff.specs.Replays.{text_of}
use Rattle.log_listings.specs.Digests.{history_bytes, hash_text}
use Rattle.log_listings.proofs.Appending.{then, where_well}
use Rattle.log_listings.proofs.digesting.put_digest.Goals as goal

pub returns : goal.returns
returns c =
    let h = c.args.site.now.history in
    let out = c.args.out.now.items in
    let one = c.number.new.out.items in
    let two = c.put_hash.new.out.items in
    let three = c.put_hash-2.new.out.items in
    let end = c.text.new.out.items in
    let count : one ≡ out ++ (codes "operations " ++ decimal (length h)) =
    c.in_ok-number.ensures.ok
    ∙ ap (λ (n : ℕ). out ++ (codes "operations " ++ decimal n))
    (c.from.ensures ∙ (c.len.ensures ∙ ap (λ (k : List OpData). length k) c.book-2.ensures)) in
    let history : two ≡ one ++ (codes "\nhistory " ++ hash_text (history_bytes h)) =
    c.in_ok-put_hash.ensures
    ∙ ap (λ (d : List ℕ). one ++ (codes "\nhistory " ++ encode_lower d))
    (c.in_ok-history.ensures ∙ ap (λ (k : List OpData). sha256 (history_bytes k)) c.book.ensures) in
    let text : three ≡ two ++ (codes "\ntext " ++ hash_text (text_of h)) =
    c.in_ok-put_hash-2.ensures ∙ ap (λ (d : List ℕ). two ++ (codes "\ntext " ++ encode_lower d)) c.in_ok-text.ensures in
    where_well c.text.result (λ put.
    then out (codes "operations " ++ decimal (length h)) _ one end count
    (then one (codes "\nhistory " ++ hash_text (history_bytes h)) _ two end history
    (then two (codes "\ntext " ++ hash_text (text_of h)) (codes "\n") three end text put)))
    c.text.ensures.ok
