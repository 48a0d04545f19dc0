-- A new disk in memory is empty.
use Rattle.adx_commands.specs.Exchanges.{LeavesDay as LeavesExchange, conn_command}
use Rattle.command_day.specs.Days.{day_command}
use Rattle.adx_commands.specs.Anew.{byte_disk}
use Rattle.adx_commands.specs.Commands.{KeepsDay, KeepsRoster}
use Rattle.adx_commands.proofs.Beginnings.{generated_anew, nothing_for_nothing, run_anew, table_anew}
use Rattle.adx_commands.proofs.Words.{words_anew}
use Rattle.adx_commands.proofs.anew.adx_in_memory.Goals as goal

pub returns-clause-day_kept : goal.returns-clause-day_kept
returns-clause-day_kept g c = λ day.
    run_anew g.S.Source g.K.Sink (KeepsDay byte_disk) day_command c.args.source.now c.adx.new.source c.args.sink.now c.adx.new.sink c.new-disk.result c.adx.new.disk c.adx.result c.new-disk.ensures (c.adx.ensures.day_kept day)

pub returns-clause-connection_kept : goal.returns-clause-connection_kept
returns-clause-connection_kept g c = λ connection.
    run_anew g.S.Source g.K.Sink (KeepsRoster (LeavesExchange byte_disk)) conn_command c.args.source.now c.adx.new.source c.args.sink.now c.adx.new.sink c.new-disk.result c.adx.new.disk c.adx.result c.new-disk.ensures (c.adx.ensures.connection_kept connection)

pub returns-clause-generated : goal.returns-clause-generated
returns-clause-generated g c = λ seed asks generated.
    generated_anew c.new-disk.result c.adx.new.disk seed asks (g.K.Sink.held c.args.sink.now) (g.K.Sink.held c.adx.new.sink) c.adx.result c.new-disk.ensures (c.adx.ensures.generated seed asks generated)

pub returns-clause-generated_table : goal.returns-clause-generated_table
returns-clause-generated_table g c = λ seed asks generated done.
    table_anew seed asks (g.K.Sink.held c.args.sink.now) (g.K.Sink.held c.adx.new.sink) c.adx.result
    (generated_anew c.new-disk.result c.adx.new.disk seed asks (g.K.Sink.held c.args.sink.now) (g.K.Sink.held c.adx.new.sink) c.adx.result c.new-disk.ensures (c.adx.ensures.generated seed asks generated)) done

pub returns-clause-empty : goal.returns-clause-empty
returns-clause-empty g c = nothing_for_nothing

pub returns-clause-words : goal.returns-clause-words
returns-clause-words g c =
    words_anew g.S.Source g.K.Sink g.P.Keeper c.args.source.now c.adx.new.source c.args.sink.now c.adx.new.sink c.args.keeper.now c.adx.new.keeper c.new-disk.result c.adx.new.disk c.adx.result c.args.words.now
    c.new-disk.ensures c.adx.ensures.words
