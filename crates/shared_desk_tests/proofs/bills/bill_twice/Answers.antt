-- A pass and a shared desk over a disk in memory go from thread to thread.
use Rattle.shared_desk.proofs.Crossing.{sharing, memory_shared_sync, answered_send, both}
use Rattle.shared_desk_tests.proofs.bills.bill_twice.Goals as goal

pub join-requires-send-F : goal.join-requires-send-F
join-requires-send-F g c κs within = search (both, memory_shared_sync, sharing) depth 16

pub join-requires-send-A : goal.join-requires-send-A
join-requires-send-A g c κs within = search (both, answered_send, sharing) depth 12
