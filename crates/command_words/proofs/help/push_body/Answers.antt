-- The texts one after another.
use Rattle.std.proofs.Common.{List, ℕ, ◌++◌, codes, string_bytes}
use Rattle.command_words.specs.Helps.{help_body}
use Rattle.command_words.specs.Rows.{help_in}
use Rattle.command_words.proofs.HelpTexts.{one_by_one, three_written, written_so}
use Rattle.command_words.proofs.help.push_body.Goals as goal

pub returns : goal.returns
returns c =
    let help = c.args.help.now in
    let first : List ℕ = codes "\n\n" ++ help.0.now ++ codes "\n\nstatus:\n" in
    let last : List ℕ = codes "\nexample:\n  " ++ help.2.now ++ codes "\n" in
    written_so c.push_between-2.result (string_bytes c.args.out.now) (string_bytes c.push_between-2.new.out) (first ++ (help.1.now ++ last)) (help_body (help_in help))
    (one_by_one first help.1.now (codes "\nexample:\n  ") help.2.now (codes "\n"))
    (three_written c.push_between-2.result (string_bytes c.args.out.now) (string_bytes c.push_between.new.out) (string_bytes c.push.new.out) (string_bytes c.push_between-2.new.out)
    first help.1.now last c.in_ok-push_between.ensures c.in_ok-push.ensures c.push_between-2.ensures)
