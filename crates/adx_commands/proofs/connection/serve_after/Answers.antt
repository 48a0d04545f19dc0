-- What the connection's end is for the run, and what is left in the source.
use Rattle.std.proofs.Common.{ℕ, subst}
use Rattle.adx_commands.specs.ConnSteps.{EndsConn}
use Rattle.adx_commands.proofs.ConnEnds.{conn_causes}
use Rattle.adx_commands.proofs.connection.serve_after.Goals as goal

pub returns-clause-ends : goal.returns-clause-ends
returns-clause-ends g c =
    let rest = c.serve_rest-end in record {
      end = rest.result;
      pending = rest.new.buffer.pending;
      few = rest.ensures.ahead;
      read_out = rest.ensures.read_out;
      serves = rest.ensures.serves;
      ends = subst (λ (n : ℕ). EndsConn rest.result n c.result_of.result) c.faults.ensures.faults c.result_of.ensures;
    }

pub returns-clause-causes : goal.returns-clause-causes
returns-clause-causes g c =
    conn_causes _ _ c.serve_rest-end.result c.faults.result c.result_of.result c.result_of.ensures c.serve_rest-end.ensures.causes
