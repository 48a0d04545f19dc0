use Rattle.std.proofs.Common.{◌≡◌, ◌++◌, length, map, sym, ◌∙◌, rules}
use Rattle.std.specs.List.{flat_map, enumerate_from}
use Rattle.std.specs.String.{string_bytes}
use Rattle.formats.specs.Parts.{ended}
use Rattle.bid_record.specs.Lines.{imp_line, end_line, record_front, record_rest}
use Rattle.bid_record.proofs.Pieces.{in_pieces, three}
use Rattle.bid_record.proofs.write.write_record.Goals as goal

pub returns : goal.returns
returns c =
    let r = c.args.day.now in
    let imps = flat_map ended (map imp_line (enumerate_from 0 r.imps)) in
    let written : c.from.result ≡ record_front r ++ record_rest r =
    three c.from.result (string_bytes c.new-out.result) (string_bytes c.push_record_front.new.out) (string_bytes c.push_imps.new.out) (string_bytes c.push_end_line.new.out)
    (record_front r) imps (ended (end_line (length r.imps)))
    (search rules) (search rules) (search rules) (search rules) (search rules) in
    written ∙ sym (in_pieces r)
