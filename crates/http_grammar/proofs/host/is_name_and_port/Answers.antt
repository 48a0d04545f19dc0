-- Marks and then nothing or a port are a name and a port.
use Rattle.std.proofs.Common.{take, refl}
use Rattle.http_grammar.proofs.Hosts.{cut_at}
use Rattle.http_grammar.proofs.Marks.{marks_name}
use Rattle.http_grammar.proofs.host.is_name_and_port.Goals as goal

pub returns-then-is_port : goal.returns-then-is_port
returns-then-is_port c =
    let value = c.args.value.now in (
      (λ e. (
        take c.marks_in.result value,
        c.split_at.result.1.now,
        marks_name value c.marks_in.result c.marks_in.ensures.within c.marks_in.ensures.marks,
        c.is_port.ensures.0 c.if-is_port.true,
        cut_at value (take c.marks_in.result value) c.split_at.result.1.now c.marks_in.result refl c.split_at.ensures.back,
      )),
      (λ h. refl),
    )
