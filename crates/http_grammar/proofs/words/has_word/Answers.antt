-- The elements are the parts between commas, and each is tested.
use Rattle.std.proofs.Common.{rules, tests}
use Rattle.std.proofs.lemmas.Iterator.Search.{any_from_yields_List}
use Rattle.std.proofs.lemmas.Iterator.Splits.{YieldsList-from_slice_split}
use Rattle.http_grammar.specs.Fields.{is_comma, is_element}
use Rattle.http_grammar.proofs.words.has_word.Goals as goal

pub returns : goal.returns
returns c =
    any_from_yields_List (is_element c.args.word.now) _ _ c.any.result c.any.ensures.ran
    (YieldsList-from_slice_split _ is_comma c.args.value.now c.split.ensures.rest c.split.ensures.done c.split.ensures.closure (λ x b q k. search (rules, tests)))
    (λ x b q k. search (rules, tests))
