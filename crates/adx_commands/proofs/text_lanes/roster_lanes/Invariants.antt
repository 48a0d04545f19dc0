-- The lanes so far lead to the first bidders.
use Rattle.std.proofs.Common.{take}
use Rattle.adx_commands.specs.RosterLinks.{AreLanesTo, texts_of}
use Rattle.adx_commands.proofs.text_lanes.roster_lanes.Given as goal

abbrev pub invariant-loop-place : goal.invariant-loop-place
invariant-loop-place l = AreLanesTo (take l.place-index l.roster.bidders) (texts_of (take l.place-index l.roster.bidders) l.roster.replies) l.lanes.items
