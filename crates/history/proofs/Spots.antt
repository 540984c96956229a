-- Where a sector of the view stands, by the chunks that have diverged.
use Rattle.std.proofs.Common.{◌≡◌, ℕ, true, false, Some, None, sym, ap, ◌∙◌, ⊎_elim}
use Rattle.std.proofs.lemmas.Bool.{cases_Bool}
use Rattle.device.specs.Plans.{Disks, side}
use Rattle.layout.specs.Chunks.{sectors, per_area, in_copy}
use Rattle.exceptions.specs.Table.{has_old, lookup}
use Rattle.recovery.specs.Readings.{image}
use Rattle.history.specs.Steps.{spot_at}
use Rattle.history.specs.Machine.{Plain, chunk_of, diverged_at, table_of, reads_at}
use Rattle.history.proofs.Placing.{has_chunk_old}
use Rattle.history.proofs.Tables.{lookup_none, lookup_known, lookup_has}

module _ (p : Plain) (s : ℕ) where
  -- a chunk that has diverged stands in the table
  pub in_table : diverged_at p s ≡ has_old (table_of p) (chunk_of p s)
  in_table = has_chunk_old (per_area (sectors p.chunk)) 0 p.diverged (chunk_of p s)

  -- a chunk that has not diverged has no copy, and one that has has one
  pub no_copy : diverged_at p s ≡ false → lookup (table_of p) (chunk_of p s) ≡ None
  no_copy h = lookup_none (table_of p) (chunk_of p s) (sym in_table ∙ h)

  pub a_copy : diverged_at p s ≡ true → (k : ℕ) × (lookup (table_of p) (chunk_of p s) ≡ Some k)
  a_copy h = lookup_known (table_of p) (chunk_of p s) (sym in_table ∙ h)

  pub copy_diverged : (k : ℕ) → lookup (table_of p) (chunk_of p s) ≡ Some k → diverged_at p s ≡ true
  copy_diverged k is = in_table ∙ lookup_has (table_of p) (chunk_of p s) k is

  pub uncopied : lookup (table_of p) (chunk_of p s) ≡ None → diverged_at p s ≡ false
  uncopied is = ⊎_elim (λ div. cc (a_copy div).1) (λ out. out) (cases_Bool (diverged_at p s))

  -- so it reads from the origin, or from its copy
  pub reads_origin : (d : Disks) → lookup (table_of p) (chunk_of p s) ≡ None → reads_at d p.chunk (table_of p) s ≡ image d.origin s
  reads_origin d is = ap (λ o. image (side (spot_at (sectors p.chunk) s o).side d) (spot_at (sectors p.chunk) s o).sector) is

  pub reads_copy : (d : Disks) (k : ℕ) → lookup (table_of p) (chunk_of p s) ≡ Some k → reads_at d p.chunk (table_of p) s ≡ image d.cow (in_copy (sectors p.chunk) k s)
  reads_copy d k is = ap (λ o. image (side (spot_at (sectors p.chunk) s o).side d) (spot_at (sectors p.chunk) s o).sector) is
