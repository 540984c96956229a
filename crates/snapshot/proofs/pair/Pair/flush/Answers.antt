use Rattle.device.specs.Disk.{good}
use Rattle.device.proofs.Steps.{same, ◌⨾◌, called, ends_as}
use Rattle.exceptions.specs.Listed.{listed}
use Rattle.history.specs.History.{nothing, replied}
use Rattle.history.specs.Steps.{plain}
use Rattle.snapshot.specs.Pairs.{memory, remembered}
use Rattle.snapshot.proofs.Begun.{begun, flushed_last, origin_passed, store_passed}
use Rattle.snapshot.proofs.pair.Pair.flush.Goals as goal

pub returns-in_err-flush : goal.returns-in_err-flush
returns-in_err-flush g c =
    let m = remembered c.args.self.now in
    let refusal = origin_passed c.from_residual-in_err-flush.result tt _ c.from_residual-in_err-flush.ensures.1 in
    record {
      offered = tt;
      ran = ends_as (λ i. record { answer = replied (λ _. nothing) (refusal i); memory = m; mode = plain })
          (same (begun (λ _. nothing) m plain _ c.in_ok-test_flush.ensures) ⨾ called c.in_err-flush.ensures);
    }

pub returns-in_err-flush-2 : goal.returns-in_err-flush-2
returns-in_err-flush-2 g c =
    let self = c.args.self.now in
    let m = remembered self in
    let refusal = store_passed c.from_residual-in_err-flush-2.result tt _ c.from_residual-in_err-flush-2.ensures.1 in
    let rest = c.in_err-flush-2.ensures.rest in
    record {
      offered = tt;
      ran = ends_as (λ i. record { answer = replied (λ _. nothing) (refusal i); memory = memory self.held (rest i).size (listed (rest i).table); mode = plain })
          (same (begun (λ _. nothing) m plain _ c.in_ok-test_flush.ensures) ⨾ called c.in_ok-flush.ensures ⨾ flushed_last c.in_err-flush-2.ensures.call);
    }

pub returns : goal.returns
returns g c =
    let self = c.args.self.now in
    let m = remembered self in
    let rest = c.in_ok-flush-2.ensures.rest in
    record {
      offered = tt;
      ran = ends_as (λ i. record { answer = good nothing; memory = memory self.held (rest i).size (listed (rest i).table); mode = plain })
          (same (begun (λ _. nothing) m plain _ c.in_ok-test_flush.ensures) ⨾ called c.in_ok-flush.ensures ⨾ flushed_last c.in_ok-flush-2.ensures.call);
    }
