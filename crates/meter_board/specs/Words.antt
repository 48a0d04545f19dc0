-- What clauses read of a board and of a reader. This project's own.
use Rattle.std.specs.Prelude.{◌≡◌, List}
use Rattle.logbook.specs.Pages.{Book}
use Rattle.day_rules.specs.declared.step.MeterStep.{MeterStep}
use Rattle.meter_board.specs.declared.board.StepBoard.{StepBoard}
use Rattle.meter_board.specs.declared.reader.MeterReader.{MeterReader}

-- the steps that the board took in
-- Example: a board that took in three steps and published two; a reader that heard of it then has seen two.
abbrev pub taken : {R : Type 0} → StepBoard R → List MeterStep
taken board = board.front.seen.log

-- the steps that readers are shown
abbrev pub published : {R : Type 0} → StepBoard R → List MeterStep
published board = board.writer.desk.shown.value.seen.log

-- the steps that a reader has seen or heard of
abbrev pub seen : MeterReader → List MeterStep
seen reader = reader.last.seen.log

-- which list of steps a board shows, and which one a reader reads
abbrev pub list_of : {R : Type 0} → StepBoard R → Book
list_of board = board.front.seen.book

-- which list of steps a reader reads
abbrev pub list_read : MeterReader → Book
list_read reader = reader.last.seen.book

-- the reader is one of the board's
abbrev pub IsOf : {R : Type 0} → MeterReader → StepBoard R → Type 0
IsOf reader board = list_read reader ≡ list_of board

-- a call leaves which board it is
abbrev pub IsSameBoard : {R : Type 0} → StepBoard R → StepBoard R → Type 0
IsSameBoard before now = list_of now ≡ list_of before
