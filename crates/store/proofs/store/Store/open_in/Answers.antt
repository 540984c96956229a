use Rattle.std.proofs.Common.{vec_items, ap, ◌∙◌}
use Rattle.device.proofs.Steps.{◌⨾◌, ran, ends, ends_as}
use Rattle.store.proofs.Exits.{passed, refused_case}
use Rattle.store.proofs.store.Store.open_in.Goals as goal

pub returns-in_err-shape : goal.returns-in_err-shape
returns-in_err-shape g c =
    let failed = c.from_residual.ensures.0 in
    record {
      call = ends_as (passed c.from_residual.result _ _ c.from_residual.ensures.1) (ran _ c.in_err-shape.ensures.call);
      size = refused_case c.from_residual.result _ failed (ap (λ s. s.size) c.in_err-shape.ensures.rest);
      table = refused_case c.from_residual.result _ failed (ap (λ s. vec_items s.table.items) c.in_err-shape.ensures.rest ∙ c.requires.empty);
    }

pub returns : goal.returns
returns g c = record { call = ends (ran _ c.in_ok-shape.ensures.call ⨾ ran _ c.in_default.ensures); size = tt; table = tt }

pub returns-in-Err : goal.returns-in-Err
returns-in-Err g c =
    record { call = ends (ran _ c.in_ok-shape.ensures.call ⨾ ran _ c.in-Err.ensures); size = ap (λ s. s.size) c.in_ok-shape.ensures.rest; table = c.clear.ensures }
