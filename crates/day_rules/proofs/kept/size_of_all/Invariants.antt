use Rattle.std.proofs.Common.{◌≡◌, ◌≤◌, ◌*◌, take}
use Rattle.day_rules.specs.KeptTexts.{sizes_of}
use Rattle.day_rules.proofs.kept.size_of_all.Given as goal

abbrev pub invariant-loop-texts : goal.invariant-loop-texts
invariant-loop-texts l = record {
  value : l.sum ≡ sizes_of (take l.texts-index l.kept);
  small : l.sum ≤ l.texts-index * 33024;
}
