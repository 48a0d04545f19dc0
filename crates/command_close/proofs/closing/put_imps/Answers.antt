-- The lines of the impressions, and the last one.
use Rattle.std.proofs.Common.{length, map}
use Rattle.std.specs.List.{enumerate_from, flat_map}
use Rattle.adx_io.specs.TalkState.{state_of}
use Rattle.bid_record.specs.Lines.{end_line, imp_line}
use Rattle.formats.specs.Parts.{ended}
use Rattle.command_close.proofs.Steps.{stops_first, unwritten_more, written_more}
use Rattle.command_close.proofs.closing.put_imps.Goals as goal

pub returns-in-Ok-push_end_line-clause-puts : goal.returns-in-Ok-push_end_line-clause-puts
returns-in-Ok-push_end_line-clause-puts g c =
    let before = state_of c.args.talk.now in
    let mid = state_of c.put_lines.new.talk in
    written_more before.held mid.held before.out mid.out _ (flat_map ended (map imp_line (enumerate_from 0 c.args.imps.now))) (ended (end_line (length c.args.imps.now))) c.in-Ok.ensures.puts c.in-Ok-push_end_line.ensures

pub returns-in-Err-push_end_line-clause-puts : goal.returns-in-Err-push_end_line-clause-puts
returns-in-Err-push_end_line-clause-puts g c =
    let before = state_of c.args.talk.now in
    let mid = state_of c.put_lines.new.talk in
    unwritten_more before.held mid.held before.out mid.out (flat_map ended (map imp_line (enumerate_from 0 c.args.imps.now))) (ended (end_line (length c.args.imps.now))) c.in-Ok.ensures.puts

pub returns-in-Err-clause-puts : goal.returns-in-Err-clause-puts
returns-in-Err-clause-puts g c =
    let before = state_of c.args.talk.now in
    let mid = state_of c.put_lines.new.talk in
    stops_first before.held mid.held before.out (flat_map ended (map imp_line (enumerate_from 0 c.args.imps.now))) (ended (end_line (length c.args.imps.now))) c.in-Err.stop c.in-Err.ensures.puts
