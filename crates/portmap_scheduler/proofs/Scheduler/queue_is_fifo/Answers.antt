use Rattle.portmap_scheduler.specs.Runs.{PendingQueue, Queue}
use Rattle.portmap_scheduler.proofs.Turns.{comes_in_order}
use Rattle.portmap_scheduler.proofs.Scheduler.queue_is_fifo.Goals as goal

pub returns-clause-queue : goal.returns-clause-queue
returns-clause-queue g c = comes_in_order Queue

pub returns-clause-pending : goal.returns-clause-pending
returns-clause-pending g c = comes_in_order PendingQueue
