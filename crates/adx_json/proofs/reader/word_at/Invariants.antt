use Rattle.adx_json.proofs.ReadItems.{WordSoFar}
use Rattle.adx_json.proofs.reader.word_at.Given as goal

abbrev pub invariant-loop-wanted : goal.invariant-loop-wanted
invariant-loop-wanted l = WordSoFar l.bytes l.word l.left l.wanted-index
