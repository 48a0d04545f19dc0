-- What of a shared desk goes from thread to thread: a desk does where its disk does, and with it a pass and the shared
-- desk. The prover writes no such lemma for a struct with a `Snapshot` field, as the day and the desk are, and none for
-- one that has such a struct as a field.
use denote.RattleType.{RattleType}
use denote.Param.Send.{IsSend, IsSync, sendable, view_send, recorded_send, struct_send}
use denote.Struct.Declared.{shape}
use Rattle.std.proofs.Crossing.{crosses}
use Rattle.std.proofs.alloc.Global.TheSendSync as heap
use Rattle.indexmap.proofs.map.IndexMap.TheSendSync as map
use Rattle.day_journal.specs.declared.disk.Disk as Disk
use Rattle.day_journal.specs.contracts.memory_disk.MemoryDisk as MemoryDisk
use Rattle.day_journal.specs.contracts.memory_disk.MemoryDiskDisk.TheImpl as memory
use Rattle.day_journal.proofs.memory_disk.MemoryDisk.TheSendSync as memory_disk
use Rattle.adx_io.proofs.frame.Frame.TheSendSync as frame
use Rattle.day_rules.proofs.entry.Entry.TheSendSync as entry
use Rattle.day_rules.proofs.step.MeterStep.TheSendSync as step
use Rattle.day_journal.proofs.journal.Journal.TheSendSync as journal
use Rattle.day_machine.proofs.ledger.Ledger.TheSendSync as ledger
use Rattle.day_machine.proofs.changes.Changes.TheSendSync as changes
use Rattle.day_machine.specs.contracts.day.Day as Day
use Rattle.day_machine.specs.contracts.day.Day.TheInside as in_day
use Rattle.day_machine.specs.contracts.metered.MeteredDay as Metered
use Rattle.day_machine.specs.contracts.metered.MeteredDay.TheInside as in_metered
use Rattle.adx_desk.specs.contracts.journaled_day.JournaledDay as Journaled
use Rattle.adx_desk.specs.contracts.journaled_day.JournaledDay.TheInside as in_journaled
use Rattle.adx_desk.specs.contracts.desk.Desk as Desk
use Rattle.adx_desk.specs.contracts.desk.Desk.TheInside as in_desk
use Rattle.day_rules.specs.contracts.answer.Answer as Answer
use Rattle.day_rules.proofs.answer.Answer.TheSendSync as answer
use Rattle.std.specs.contracts.option.Option as Option
use Rattle.shared_desk.specs.contracts.shared_desk.SharedDesk as SharedDesk
use Rattle.turnstile.proofs.pass.Pass.TheSendSync as pass
use Rattle.turnstile.proofs.turnstile.Turnstile.TheSendSync as turnstile

-- the fields in their order: allocator, limits, ledger at the opening, history, ledger, ids, changes, totals
day_fields : IsSend in_day.the_row
day_fields = recorded_send in_day.the_field.row _ _ in_day.the_type.to_one
    (struct_send (shape in_day.the_type) (
      heap.the_field_send,
      (
        search sendable,
        (
          search (crosses, sendable),
          (
            search (entry.the_send, crosses, sendable) depth 12,
            (
              search (ledger.the_send, sendable),
              (
                search (map.the_send, crosses, sendable) depth 16,
                (search (changes.the_send, crosses, sendable) depth 12, (search sendable depth 20, tt)),
              ),
            ),
          ),
        ),
      ),
    ))

day_send : IsSend Day.the_row
day_send = view_send _ _ _ _ _ day_fields

-- the day, its meters, and the step of each entry
metered_fields : IsSend in_metered.the_row
metered_fields = recorded_send in_metered.the_field.row _ _ in_metered.the_type.to_one
    (struct_send (shape in_metered.the_type) (day_send, (search sendable depth 20, (search (step.the_send, crosses, sendable) depth 12, tt))))

metered_send : IsSend Metered.the_row
metered_send = view_send _ _ _ _ _ metered_fields

-- that day, the roster's digest, the journal, and two counts
journaled_fields : IsSend in_journaled.the_row
journaled_fields = recorded_send in_journaled.the_field.row _ _ in_journaled.the_type.to_one
    (struct_send (shape in_journaled.the_type) (metered_send, (search sendable, (search (journal.the_send, sendable), (search sendable, (search sendable, tt))))))

journaled_send : IsSend Journaled.the_row
journaled_send = view_send _ _ _ _ _ journaled_fields

module _ (D : RattleType) (g : Disk.Ghosts D.Denot) (s : IsSend D) where
  -- allocator, that day, two frames, the disk, and what it was before and behind the opening
  desk_fields : IsSend (in_desk.the_row D g)
  desk_fields = recorded_send (in_desk.the_field D g).row _ _ (in_desk.the_type D g).to_one
      (struct_send (shape (in_desk.the_type D g)) (
        heap.the_field_send,
        (
          journaled_send,
          (
            frame.the_send,
            (
              frame.the_send,
              (search (s, sendable), (search (crosses, sendable), (search (crosses, sendable), tt))),
            ),
          ),
        ),
      ))

  pub desk_send : IsSend (Desk.the_row D g)
  desk_send = view_send _ _ _ _ _ desk_fields

-- at each disk, since `search` finds no disk's ghost members in a row
pub memory_desk_send : IsSend (Desk.the_row MemoryDisk.the_row memory.ghosts)
memory_desk_send = desk_send MemoryDisk.the_row memory.ghosts memory_disk.the_send

-- with `search sharing depth 12` a pass, a shared desk and a closure over them cross threads; over another disk list its `desk_send` too
pub ruleset sharing = (pass.the_send, turnstile.the_sync, memory_desk_send, sendable)

pub memory_shared_sync : IsSync (SharedDesk.the_row MemoryDisk.the_row memory.ghosts)
memory_shared_sync = search (turnstile.the_sync, memory_desk_send, sendable) depth 12

-- what a call answers crosses too; for a tuple of a pass and an answer list this, `both` and `sharing`
pub answered_send : IsSend (Option.the_row Answer.the_row)
answered_send = search (sharing, answer.the_send) depth 12

pub both : {A B : Type 0} → A → B → A × B
both a b = (a, b)
