-- The lines of the betas, and the last one.
use Rattle.std.proofs.Common.{map}
use Rattle.std.specs.List.{enumerate_from, flat_map}
use Rattle.adx_io.specs.TalkState.{state_of}
use Rattle.dual_cert.specs.Lines.{beta_line, bound_line}
use Rattle.formats.specs.Parts.{ended}
use Rattle.command_close.proofs.Steps.{stops_first, unwritten_more, written_more}
use Rattle.command_close.proofs.closing.put_betas.Goals as goal

pub returns-in-Ok-push_bound_line-clause-puts : goal.returns-in-Ok-push_bound_line-clause-puts
returns-in-Ok-push_bound_line-clause-puts g c =
    let before = state_of c.args.talk.now in
    let mid = state_of c.put_lines.new.talk in
    written_more before.held mid.held before.out mid.out _ (flat_map ended (map beta_line (enumerate_from 0 c.args.betas.now))) (ended (bound_line c.args.bound)) c.in-Ok.ensures.puts c.in-Ok-push_bound_line.ensures

pub returns-in-Err-push_bound_line-clause-puts : goal.returns-in-Err-push_bound_line-clause-puts
returns-in-Err-push_bound_line-clause-puts g c =
    let before = state_of c.args.talk.now in
    let mid = state_of c.put_lines.new.talk in
    unwritten_more before.held mid.held before.out mid.out (flat_map ended (map beta_line (enumerate_from 0 c.args.betas.now))) (ended (bound_line c.args.bound)) c.in-Ok.ensures.puts

pub returns-in-Err-clause-puts : goal.returns-in-Err-clause-puts
returns-in-Err-clause-puts g c =
    let before = state_of c.args.talk.now in
    let mid = state_of c.put_lines.new.talk in
    stops_first before.held mid.held before.out (flat_map ended (map beta_line (enumerate_from 0 c.args.betas.now))) (ended (bound_line c.args.bound)) c.in-Err.stop c.in-Err.ensures.puts
