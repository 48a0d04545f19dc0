-- The table was put, or a prefix of it.
use Rattle.std.proofs.Common.{◌≡◌, ◌∙◌, ◌++◌, ℕ, List, Err, ap, subst}
use Rattle.adx_desk.specs.Histories.{DeskTerms}
use Rattle.adx_io.specs.Streams.{Took}
use Rattle.answer_lines.specs.Table.{closing_table}
use Rattle.history_runs.specs.Script.{terms_by}
use Rattle.command_gen.specs.Taking.{PutsOutput}
use Rattle.command_gen.proofs.Putting.{table_failed}
use Rattle.command_gen.proofs.generated.tell_table.Goals as goal

pub push_books-requires : goal.push_books-requires
push_books-requires g c = ap (λ (t : DeskTerms). t.day) c.requires.terms

pub returns-in-Ok-put_output-clause-tells : goal.returns-in-Ok-put_output-clause-tells
returns-in-Ok-put_output-clause-tells g c =
    let roster = c.args.roster.now in
    let table = closing_table roster.campaigns (terms_by roster) c.args.desk.now.desk.history in
    let is : c.as_str.result.now ≡ table = c.as_str.ensures.value ∙ c.in-Ok.ensures ∙ ap (λ (b : List ℕ). b ++ table) c.new-out.ensures.bytes in
    subst (Took (g.K.Sink.held c.args.sink.now) (g.K.Sink.held c.put_output.new.sink)) is c.in-Ok-put_output.ensures.puts

pub returns-in-Ok-clause-tells : goal.returns-in-Ok-clause-tells
returns-in-Ok-clause-tells g c =
    let roster = c.args.roster.now in
    let table = closing_table roster.campaigns (terms_by roster) c.args.desk.now.desk.history in
    let is : c.as_str.result.now ≡ table = c.as_str.ensures.value ∙ c.in-Ok.ensures ∙ ap (λ (b : List ℕ). b ++ table) c.new-out.ensures.bytes in
    table_failed roster c.args.desk.now.desk.history (g.K.Sink.held c.args.sink.now) (g.K.Sink.held c.put_output.new.sink) c.in-Err-put_output.stop
    (subst (λ (b : List ℕ). PutsOutput (g.K.Sink.held c.args.sink.now) (g.K.Sink.held c.put_output.new.sink) b (Err c.in-Err-put_output.stop)) is c.in-Err-put_output.ensures.puts)
