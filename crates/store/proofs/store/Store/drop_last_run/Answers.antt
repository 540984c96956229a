use Rattle.std.proofs.Common.{◌≡◌, ◌-◌, length, take, vec_items, refl, ap, ◌∙◌, arith}
use Rattle.device.specs.Disk.{good}
use Rattle.device.proofs.Steps.{same, ◌⨾◌, ran, ends_as}
use Rattle.layout.specs.Chunks.{sectors}
use Rattle.exceptions.specs.Table.{last_run}
use Rattle.store.proofs.Exits.{passed_up, refused_case}
use Rattle.store.proofs.Calls.{drop_on, dropped}
use Rattle.store.proofs.store.Store.drop_last_run.Goals as goal

pub returns-in_err-drop_to : goal.returns-in_err-drop_to
returns-in_err-drop_to g c =
    let self = c.args.self.now in
    let table = vec_items self.table.items in
    let n = sectors self.size in
    let left : c.len-n.result - c.last_run-run.result ≡ length table - last_run n table = omega (arith, c.len-n.ensures, c.last_run-run.ensures.run) in
    record {
      call = ends_as (passed_up c.from_residual.result _ _ c.from_residual.ensures.1) (same (drop_on n table (omega arith)) ⨾ ran _ (dropped n table left c.in_err-drop_to.ensures));
      size = refl;
      table = refused_case c.from_residual.result _ c.from_residual.ensures.0 refl;
    }

pub returns : goal.returns
returns g c =
    let self = c.args.self.now in
    let table = vec_items self.table.items in
    let n = sectors self.size in
    let left : c.len-n.result - c.last_run-run.result ≡ length table - last_run n table = omega (arith, c.len-n.ensures, c.last_run-run.ensures.run) in
    record { call = ends_as (ap good (c.truncate.ensures ∙ ap (λ k. take k table) left)) (same (drop_on n table (omega arith)) ⨾ ran _ (dropped n table left c.in_ok-drop_to.ensures)); size = refl; table = tt }
