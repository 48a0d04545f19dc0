-- An entry that may follow has a spelling.
use Rattle.adx_desk.proofs.Spelled.{spelled}
use Rattle.adx_desk.proofs.journaled_day.JournaledDay.take_room.Goals as goal

pub put_planned-requires : goal.put_planned-requires
put_planned-requires c = spelled c.args.self.now.desk.terms.day c.args.self.now.desk.history c.args.entry.now c.requires
