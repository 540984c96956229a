use Rattle.std.proofs.Common.{◌≡◌, ◌+◌, ◌-◌, false, leb, length, vec_items, sym, refl, ap, ◌∙◌, arith}
use Rattle.std.specs.Option.{ok_or}
use Rattle.device.proofs.Steps.{same, ◌⨾◌, ends, ends_as}
use Rattle.layout.specs.Chunks.{per_area}
use Rattle.store.specs.Judge.{width}
use Rattle.store.specs.Scanning.{scanning, parsed}
use Rattle.store.specs.declared.fault.StoreFault.TheVariants.{TooMany}
use Rattle.store.specs.Answers.{told_spot}
use Rattle.store.proofs.Exits.{scan_passed_up, not_good}
use Rattle.store.proofs.Calls.{taken}
use Rattle.store.proofs.Scans.{got, so, none_judged, scanning_none, at_end, at_many, at_damage, at_next, at_last, closes}
use Rattle.store.proofs.scan.scan.Goals as goal
use Rattle.store.proofs.scan.scan.Goals.{else-areas-test, then-areas-test+in_ok-read_sectors+then-loop-entry-test+then-e-eq0}

pub areas-init : goal.areas-init
areas-init g c = (refl, same (ap (scanning c.args.shape 65 0) (sym c.requires.empty)))

pub returns-in_err-read_sectors : goal.returns-in_err-read_sectors
returns-in_err-read_sectors g c =
    let call = ends_as (scan_passed_up c.from_residual.result _ _ _ c.from_residual.ensures.1)
    (got c.args.shape c.areas.area _ c.area_sector.result c.areas.bytes c.areas.invariant.1 c.areas-test.true c.area_sector.ensures.place (c.areas.auto.bytes ∙ c.requires.area) c.in_err-read_sectors.ensures) in
    record { call = call; size = not_good c.from_residual.result _ c.from_residual.ensures.0 }

pub loop-entry-init : goal.loop-entry-init
loop-entry-init g c =
    let s = c.args.shape in
    let bytes = c.read_sectors.new.buffer in
    let here = got s c.areas.area _ c.area_sector.result c.areas.bytes c.areas.invariant.1 c.areas-test.true c.area_sector.ensures.place (c.areas.auto.bytes ∙ c.requires.area) c.in_ok-read_sectors.ensures in
    (c.areas.invariant.0, so s c.areas.area bytes here (none_judged s c.areas.area bytes (vec_items c.areas.table.items)))

pub returns-then-is_full : goal.returns-then-is_full
returns-then-is_full g c =
    let at = c.loop-entry in
    record { call = ends (so c.args.shape c.areas.area c.read_sectors.new.buffer at.invariant.1 (at_many c.args.shape c.areas.area c.read_sectors.new.buffer at.entry _ c.entry_at-e.ensures (omega arith) c.if-e-eq0.false (sym c.if-is_full.ensures))); size = tt }

pub returns-then-is_damaged : goal.returns-then-is_damaged
returns-then-is_damaged g c =
    let at = c.loop-entry in
    record { call = ends (so c.args.shape c.areas.area c.read_sectors.new.buffer at.invariant.1 (at_damage c.args.shape c.areas.area c.read_sectors.new.buffer at.entry _ c.entry_at-e.ensures (omega arith) c.if-e-eq0.false (sym c.if-is_full.ensures) (sym c.is_damaged.ensures.damaged ∙ c.if-is_damaged.true))); size = tt }

pub loop-entry-preserved : goal.loop-entry-preserved
loop-entry-preserved g c =
    let s = c.args.shape in
    let at = c.loop-entry in
    let es = vec_items at.table.items in
    let e = c.entry_at-e.result in
    let room : leb 2048 (length es) ≡ false = sym c.if-is_full.ensures in
    let small = c.is_damaged.ensures.small c.if-is_damaged.false in
    let pushed = taken es e c.push.ensures.list c.push.ensures.answer room small.0 small.1 in
    let on = at_next s c.areas.area c.read_sectors.new.buffer at.entry es c.entry_at-e.ensures (omega arith) c.if-e-eq0.false room (sym c.is_damaged.ensures.damaged ∙ c.if-is_damaged.false) in
    (at.invariant.0, so s c.areas.area c.read_sectors.new.buffer at.invariant.1 (on ∙ ap (parsed s c.areas.area c.read_sectors.new.buffer (per_area (width s) - (at.entry + 1)) (at.entry + 1)) (sym pushed)))

pub areas-preserved : goal.areas-preserved
areas-preserved g c =
    let s = c.args.shape in
    let at = c.loop-entry in
    (at.invariant.0, so s c.areas.area c.read_sectors.new.buffer at.invariant.1 (at_last s c.areas.area c.read_sectors.new.buffer at.entry _ (omega arith)))

pub returns-clause-call : goal.returns-clause-call
returns-clause-call g c =
    elim c.areas-test.branch [
      | else-areas-test w ↦
          closes (c.areas.invariant.1 ⨾ same (scanning_none c.args.shape c.areas.area _ w.areas-test.false))
          (ap (λ r. told_spot r (vec_items c.areas-test.table.items) c.areas-test.bytes) (c.ok_or.ensures.value ∙ ap (λ o. ok_or o TooMany) (w.end-is ∙ c.areas.invariant.0))) (ap g.D.Device.disk (sym w.device-is))
      | then-areas-test+in_ok-read_sectors+then-loop-entry-test+then-e-eq0 w ↦
          let s = c.args.shape in
          let bytes = w.read_sectors.new.buffer in
          let end = c.ok_or.ensures.value ∙ ap (λ o. ok_or o TooMany) w.end-is in
          closes (so s c.areas.area bytes w.loop-entry.invariant.1 (at_end s c.areas.area bytes w.loop-entry.entry _ w.entry_at-e.ensures (omega arith) w.if-e-eq0.true))
          (λ i. told_spot (end i) (vec_items (w.table-is i).items) (w.bytes-is i)) (ap g.D.Device.disk (sym w.device-is))
    ]
