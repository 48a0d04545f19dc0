-- What follows of what a day of an exchange on a connection means. This project's own.
use Rattle.std.specs.Prelude.{◌≡◌, List, ℕ, Option, Some, None}
use Rattle.command_day.specs.Days.{IsWhole}
use Rattle.deal_floor.specs.declared.roster.Roster.{Roster}
use Rattle.adx_commands.specs.Exchanges.{Day, conn_command, was_given_up, was_served, was_unbegun}

-- The two days differ in nothing that an output is fixed by beside its input: why they weren't opened, or the steps that the
-- messages made, with the histories at which they were made.
abbrev pub AreAlikeDays : Day → Day → Type 0
AreAlikeDays was_unbegun was_unbegun = Unit {0}
AreAlikeDays was_unbegun other = ⊥
AreAlikeDays (was_given_up why) (was_given_up why_other) = why ≡ why_other
AreAlikeDays (was_given_up why) other = ⊥
AreAlikeDays (was_served start lanes course) (was_served start_other lanes_other course_other) = course.steps ≡ course_other.steps
AreAlikeDays (was_served start lanes course) other = ⊥

-- the same of the days of first lines
abbrev pub AreAlike : Option (Roster × Day) → Option (Roster × Day) → Type 0
AreAlike None None = Unit {0}
AreAlike None (Some other) = ⊥
AreAlike (Some course) None = ⊥
AreAlike (Some (r, day)) (Some (r_other, day_other)) = AreAlikeDays day day_other

-- an input has no two outputs for days that are alike, whatever their bidders were
abbrev pub HasOneOutput : Type 0
HasOneOutput =
    (course other : Option (Roster × Day)) (input out out_other : List ℕ) → AreAlike course other
    → IsWhole (conn_command course) input out → IsWhole (conn_command other) input out_other → out ≡ out_other
