use Rattle.bid_record.proofs.Texts.{bare_name_found, bare_name_fails}
use Rattle.bid_record.proofs.text.bare_name.Goals as goal

pub returns-in-Ok : goal.returns-in-Ok
returns-in-Ok c = bare_name_found c.args.bytes.now c.args.run.now c.args.rest.now c.in-Ok.name c.requires.whole c.requires.bare c.in-Ok.ensures

pub returns-in-Err : goal.returns-in-Err
returns-in-Err c = bare_name_fails c.in-Err.misfit c.args.bytes.now c.args.run.now c.args.rest.now c.requires.whole c.requires.bare c.in-Err.ensures
