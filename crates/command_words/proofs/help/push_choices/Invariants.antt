use Rattle.std.proofs.Common.{◌≡◌, ◌++◌, take}
use Rattle.std.specs.String.{string_bytes}
use Rattle.std.specs.List.{flat_map}
use Rattle.command_words.specs.Helps.{choice_text}
use Rattle.command_words.specs.Rows.{choice_in}
use Rattle.command_words.proofs.help.push_choices.Given as goal

abbrev pub invariant-loop-choice : goal.invariant-loop-choice
invariant-loop-choice l = string_bytes l.out ≡ string_bytes l.fn.out ++ flat_map (λ c. choice_text (choice_in c)) (take l.choice-index l.choices)
