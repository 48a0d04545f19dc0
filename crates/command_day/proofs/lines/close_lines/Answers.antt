-- What closes the script was put.
use Rattle.std.proofs.Common.{◌≡◌, ◌++◌, inl, subst, string_bytes}
use Rattle.history_runs.specs.Script.{closing}
use Rattle.command_day.proofs.lines.close_lines.Goals as goal

pub returns-in-Ok-clause-puts : goal.returns-in-Ok-clause-puts
returns-in-Ok-clause-puts g c =
    let out = string_bytes c.push_close.new.out in
    inl (
      c.end_of.result,
      out,
      c.end_of.ensures,
      (λ piece known. subst (λ old. out ≡ old ++ closing c.args.roster.now c.args.number piece c.args.desk.now.desk.history) c.requires.unwritten (c.in-Ok.ensures piece known)),
      c.put_end.ensures.puts,
    )
