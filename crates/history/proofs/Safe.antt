-- No history of a snapshot breaks the promise.
use Rattle.std.proofs.Common.{refl}
use Rattle.history.specs.Machine.{made}
use Rattle.history.specs.Promise.{CrashSafe, AnswersAreTheMachines}
use Rattle.history.proofs.Cuts.{cut_step, again}
use Rattle.history.proofs.Histories.{CallSteps}
use Rattle.history.proofs.Makings.{unmade}
use Rattle.history.proofs.Merging.{core_step_merge, merge_flushes}
use Rattle.history.proofs.OriginWrites.{core_write_origin}
use Rattle.history.proofs.Promised.{protected}
use Rattle.history.proofs.Reading.{core_read_origin, core_read_view, core_flush}
use Rattle.history.proofs.Reopening.{core_reopen}
use Rattle.history.proofs.SnapshotWrites.{core_write_snapshot, core_write_merging}
use Rattle.history.proofs.Starting.{starts}
use Rattle.history.proofs.Step.{step}

-- each call keeps pair and machine together
every_call : CallSteps
every_call = step core_read_origin core_read_view core_write_origin core_write_snapshot core_write_merging core_flush core_step_merge core_reopen

pub crash_safe : CrashSafe
crash_safe c d start origin cow was_made =
    let x = starts c d start origin cow was_made in
    (x.0, x.1, protected (made x.0 start.disks) start every_call (λ m w after inv cut. cut_step m w after cut inv) again unmade merge_flushes x.2 refl (λ s. refl), x.3)

pub machine_answers : AnswersAreTheMachines
machine_answers c d start w h origin cow was_made =
    let x = crash_safe c d start origin cow was_made in
    let y = x.2.along h in
    (x.0, x.1, y.0, y.1)
