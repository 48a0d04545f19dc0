use Rattle.day_rules.proofs.Campaigns.{day_meters}
use Rattle.day_rules.proofs.meter_laws.day_meters_law.Goals as goal

pub returns : goal.returns
returns c = record { meters = λ terms day. day_meters terms c.args._history.now day }
