-- Which fault stands for want of memory.
use Rattle.std.specs.Prelude.{Bool, true, false}
use Rattle.rtb_response.specs.declared.fault.AnswerFault.{AnswerFault}
use Rattle.rtb_response.specs.declared.fault.AnswerFault.TheVariants.{NoId, OtherId, OtherCurrency, BadField, TooManyBids, OutOfMemory}

-- the fault is that memory ran out
abbrev pub lacks_memory : AnswerFault → Bool
lacks_memory NoId = false
lacks_memory OtherId = false
lacks_memory OtherCurrency = false
lacks_memory (BadField field) = false
lacks_memory TooManyBids = false
lacks_memory OutOfMemory = true
