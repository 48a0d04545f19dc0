-- Words in plain spelling do what they ask for.
use Rattle.std.proofs.Common.{false, inl, inr, true}
use Rattle.command_archive.proofs.Statuses.{list_fault, list_passed, put_fault, put_passed}
use Rattle.command_check.proofs.Ended.{accepted_input}
use Rattle.command_check.proofs.OneAnswer.{one_answer}
use Rattle.command_close.proofs.OneDocument.{one_document}
use Rattle.command_close.proofs.OneGuarantee.{one_guarantee}
use Rattle.adx_commands.proofs.ConnOutputs.{has_one_output as has_one_exchange}
use Rattle.command_day.proofs.OneOutput.{has_one_output, took_of_whole}
use Rattle.command_day.proofs.SomeOutput.{has_outputs}
use Rattle.command_words.specs.declared.command.Command.{Command}
use Rattle.adx_commands.proofs.Commands.{plain_does}
use Rattle.adx_commands.proofs.Outputs.{day_output, exchange_output}
use Rattle.adx_commands.proofs.PlainWords.{plain_bidder, plain_check, plain_close, plain_connection, plain_day, plain_generated, plain_list, plain_notices, plain_put, plain_ratio, plain_reconcile}
use Rattle.adx_commands.proofs.Words.{does_words}
use Rattle.adx_commands.proofs.command.adx.Goals as goal

pub returns-clause-day_output : goal.returns-clause-day_output
returns-clause-day_output g c = λ day.
    let plain = plain_day c.args.words.now day in
    day_output g.D.Disk c.args.disk.now c.run_words.new.disk g.S.Source g.K.Sink c.args.source.now c.run_words.new.source c.args.sink.now c.run_words.new.sink c.run_words.result (plain_does c.run_words.ensures.does (Command.Day plain.0) plain.1).by_run

pub returns-clause-day_kept : goal.returns-clause-day_kept
returns-clause-day_kept g c = λ day.
    let plain = plain_day c.args.words.now day in (plain_does c.run_words.ensures.does (Command.Day plain.0) plain.1).by_run

pub returns-clause-connection_output : goal.returns-clause-connection_output
returns-clause-connection_output g c = λ connection.
    let plain = plain_connection c.args.words.now connection in
    exchange_output g.D.Disk c.args.disk.now c.run_words.new.disk g.S.Source g.K.Sink c.args.source.now c.run_words.new.source c.args.sink.now c.run_words.new.sink c.run_words.result (plain_does c.run_words.ensures.does (Command.Connection plain.0) plain.1).by_run

pub returns-clause-connection_kept : goal.returns-clause-connection_kept
returns-clause-connection_kept g c = λ connection.
    let plain = plain_connection c.args.words.now connection in (plain_does c.run_words.ensures.does (Command.Connection plain.0) plain.1).by_run

pub returns-clause-bidder : goal.returns-clause-bidder
returns-clause-bidder g c = λ bidder. (plain_does c.run_words.ensures.does Command.Bidder (plain_bidder c.args.words.now bidder)).by_run

pub returns-clause-generated : goal.returns-clause-generated
returns-clause-generated g c = λ seed asks generated.
    (plain_does c.run_words.ensures.does (Command.Generate seed asks) (plain_generated c.args.words.now seed asks generated)).by_run

pub returns-clause-notices : goal.returns-clause-notices
returns-clause-notices g c = λ notices.
    let plain = plain_notices c.args.words.now notices in (plain_does c.run_words.ensures.does (Command.Notices plain.0) plain.1).by_run

pub returns-clause-close : goal.returns-clause-close
returns-clause-close g c = λ close.
    let plain = plain_close c.args.words.now close in (plain_does c.run_words.ensures.does (Command.Close plain.0 false) plain.1).by_run

pub returns-clause-ratio : goal.returns-clause-ratio
returns-clause-ratio g c = λ ratio.
    let plain = plain_ratio c.args.words.now ratio in (plain_does c.run_words.ensures.does (Command.Close plain.0 true) plain.1).by_run

pub returns-clause-check : goal.returns-clause-check
returns-clause-check g c = λ check. (plain_does c.run_words.ensures.does Command.Check (plain_check c.args.words.now check)).by_run

pub returns-clause-accepted : goal.returns-clause-accepted
returns-clause-accepted g c = λ check is.
    accepted_input (g.S.Source.tape c.args.source.now) (g.S.Source.tape c.run_words.new.source) (g.K.Sink.held c.args.sink.now) (g.K.Sink.held c.run_words.new.sink) c.run_words.result
    (plain_does c.run_words.ensures.does Command.Check (plain_check c.args.words.now check)).by_run is

pub returns-clause-archive_put : goal.returns-clause-archive_put
returns-clause-archive_put g c = λ put.
    let plain = plain_put c.args.words.now put in (plain_does c.run_words.ensures.does (Command.ArchivePut plain.0) plain.1).by_run

pub returns-clause-archive_list : goal.returns-clause-archive_list
returns-clause-archive_list g c = λ q list.
    let plain = plain_list c.args.words.now q list in (plain_does c.run_words.ensures.does (Command.ArchiveList plain.0 q.seat q.cid q.first q.last) plain.1).by_run

pub returns-clause-reconcile : goal.returns-clause-reconcile
returns-clause-reconcile g c = λ name reconcile.
    let plain = plain_reconcile c.args.words.now name reconcile in (plain_does c.run_words.ensures.does (Command.Reconcile plain.0 name) plain.1).by_run

pub returns-clause-words : goal.returns-clause-words
returns-clause-words g c =
    does_words g.S.Source g.K.Sink g.D.Disk g.P.Keeper (record {
      source = c.args.source.now;
      source_now = c.run_words.new.source;
      sink = c.args.sink.now;
      sink_now = c.run_words.new.sink;
      disk = c.args.disk.now;
      disk_now = c.run_words.new.disk;
      keeper = c.args.keeper.now;
      keeper_now = c.run_words.new.keeper;
    }) c.run_words.result c.args.words.now c.run_words.ensures.does

pub returns-clause-outputs : goal.returns-clause-outputs
returns-clause-outputs g c = has_outputs

pub returns-clause-one_output : goal.returns-clause-one_output
returns-clause-one_output g c = has_one_output

pub returns-clause-prefixes : goal.returns-clause-prefixes
returns-clause-prefixes g c = took_of_whole

pub returns-clause-one_exchange : goal.returns-clause-one_exchange
returns-clause-one_exchange g c = has_one_exchange

pub returns-clause-one_answer : goal.returns-clause-one_answer
returns-clause-one_answer g c = one_answer

pub returns-clause-one_document : goal.returns-clause-one_document
returns-clause-one_document g c = one_document

pub returns-clause-one_guarantee : goal.returns-clause-one_guarantee
returns-clause-one_guarantee g c = one_guarantee

pub returns-clause-keeper_fault : goal.returns-clause-keeper_fault
returns-clause-keeper_fault g c = λ words is. elim words [
  | inl put ↦
      put_fault g.S.Source g.K.Sink g.P.Keeper c.args.source.now c.run_words.new.source c.args.sink.now c.run_words.new.sink c.args.keeper.now c.run_words.new.keeper c.run_words.result
      (let plain = plain_put c.args.words.now put in (plain_does c.run_words.ensures.does (Command.ArchivePut plain.0) plain.1).by_run) is
  | inr (q, list) ↦
      list_fault g.P.Keeper q c.args.keeper.now c.run_words.new.keeper (g.K.Sink.held c.args.sink.now) (g.K.Sink.held c.run_words.new.sink) c.run_words.result
      (let plain = plain_list c.args.words.now q list in (plain_does c.run_words.ensures.does (Command.ArchiveList plain.0 q.seat q.cid q.first q.last) plain.1).by_run) is
]

pub returns-clause-keeper_passed : goal.returns-clause-keeper_passed
returns-clause-keeper_passed g c = λ words never unput. elim words [
  | inl put ↦
      put_passed g.S.Source g.K.Sink g.P.Keeper c.args.source.now c.run_words.new.source c.args.sink.now c.run_words.new.sink c.args.keeper.now c.run_words.new.keeper c.run_words.result
      (let plain = plain_put c.args.words.now put in (plain_does c.run_words.ensures.does (Command.ArchivePut plain.0) plain.1).by_run) never unput
  | inr (q, list) ↦
      list_passed g.P.Keeper q c.args.keeper.now c.run_words.new.keeper (g.K.Sink.held c.args.sink.now) (g.K.Sink.held c.run_words.new.sink) c.run_words.result
      (let plain = plain_list c.args.words.now q list in (plain_does c.run_words.ensures.does (Command.ArchiveList plain.0 q.seat q.cid q.first q.last) plain.1).by_run) never unput
]
