-- What the parser found is the head that the bytes begin with.
use Rattle.std.proofs.Common.{arith}
use Rattle.http_grammar.proofs.FirstRequests.{few_fields}
use Rattle.http_grammar.proofs.parts.first_request.Goals as goal

pub returns-in-Ok-Complete-clause-exact : goal.returns-in-Ok-Complete-clause-exact
returns-in-Ok-Complete-clause-exact c =
    let of = (rw c.in-Ok-Complete.field-0-is at c.in-Ok-Complete.ensures.complete) in
    let within = (rw c.in-Ok-Complete.field-0-is at c.in-Ok-Complete.ensures.within) in
    let at = of.1 in record {
      h = of.0;
      reads = at.reads;
      long = at.len;
      few =
          let f = few_fields c.args.bytes.now c.parse_request.new.headers c.in-Ok-Complete.found.headers of.0.fields at.fields within.section.count_fits in
          omega (arith, f, c.parse_request.auto.headers);
      judges = c.parts_at.ensures.judges of.0 at;
    }
