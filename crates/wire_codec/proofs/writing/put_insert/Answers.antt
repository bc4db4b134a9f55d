use Rattle.std.proofs.Common.{◌≡◌, ℕ, ◌++◌, length, refl, ap, ◌∙◌, arith}
use Rattle.std.specs.Int.{w8, w32, to_be_bytes}
use Rattle.std.proofs.lemmas.List.{length-append}
use Rattle.wire_codec.specs.Spelling.{insert_kind, name_bytes, text_bytes, head_bytes}
use Rattle.wire_codec.proofs.Pushes.{four_pieces}
use Rattle.wire_codec.proofs.writing.put_insert.Goals as goal

pub returns : goal.returns
unfolding head_bytes
returns c =
    let kind : c.put_insert_kind.new.out.items ≡ c.args.out.now.items ++ to_be_bytes w8 (insert_kind (length c.args.text.now)) =
    c.put_insert_kind.ensures.items
    ∙ ap (λ (n : ℕ). c.args.out.now.items ++ to_be_bytes w8 (insert_kind n)) c.len.ensures in
    let place : c.put.new.out.items ≡ c.put_name.new.out.items ++ to_be_bytes w32 c.args.place =
    rw (← c.to_be_bytes.ensures) c.put.ensures.items in
    let wide : length c.to_be_bytes.result ≡ 4 = rw (c.to_be_bytes.ensures) refl in
    let long =
    length-append (name_bytes c.args.version c.args.name.now) (to_be_bytes w32 c.args.place ++ text_bytes c.args.text.now) in
    let l1 = c.put_insert_kind.ensures.len in
    let l2 = c.put_name.ensures.len in
    let l3 = c.put.ensures.len in
    let l4 = c.put_text.ensures.len in
    let k1 = c.put_insert_kind.ensures.capacity in
    let k2 = c.put_name.ensures.capacity in
    let k3 = c.put.ensures.capacity in
    let k4 = c.put_text.ensures.capacity in
    record {
      items = four_pieces c.args.out.now.items c.put_insert_kind.new.out.items c.put_name.new.out.items c.put.new.out.items
          c.put_text.new.out.items
          (to_be_bytes w8 (insert_kind (length c.args.text.now))) (name_bytes c.args.version c.args.name.now) (to_be_bytes w32 c.args.place)
          (text_bytes c.args.text.now)
          kind c.put_name.ensures.items place c.put_text.ensures.items;
      len = omega (arith, l1, l2, l3, l4, wide, long);
      capacity = omega (arith, k1, k2, k3, k4);
    }
