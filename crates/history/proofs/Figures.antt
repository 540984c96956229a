-- The figures that the machine has are those that a pair tells.
use Rattle.std.proofs.Common.{◌≡◌, ℕ, zero, suc, ◌*◌, Bool, true, false, cond, length, is_some, refl, ap, ◌∙◌}
use Rattle.layout.specs.Chunks.{sectors, per_area}
use Rattle.exceptions.specs.Table.{metadata}
use Rattle.history.specs.Steps.{closed, serving, invalid, Mode, plain, merging, open_state, own_figures, figures_of, status}
use Rattle.history.specs.Machine.{Plain, Machine, table_of, state_while_open, metadata_of, state_alone, figures_while_open, figures_by, ground_of, memory_of}
use Rattle.history.proofs.Placing.{length_placed, next_placed}

same_state : (mode : Mode) → open_state mode ≡ state_while_open mode
same_state plain = refl
same_state merging = refl

same_metadata : (c n : ℕ) → metadata c n ≡ metadata_of c n
same_metadata c zero = refl
same_metadata c (suc n) = refl

module _ (p : Plain) (mode : Mode) where
  -- of a pair that serves
  pub serving_figures : figures_of (open_state mode) p.chunk (table_of p) ≡ figures_while_open p mode
  serving_figures i =
      let c = sectors p.chunk in
      let many : length (table_of p) ≡ length p.diverged = length_placed (per_area c) 0 p.diverged in
      record {
        state = same_state mode i;
        exceptions = many i;
        allocated = next_placed p.chunk p.diverged i * c;
        metadata = (ap (metadata c) many ∙ same_metadata c (length p.diverged)) i;
      }

-- of any pair
pub status_is : (m : Machine) → status m.mode (ground_of m) (memory_of m) ≡ figures_by m
status_is m = ap (cond (is_some m.pending) _) (go m.opened m.plain.void)
  where
    p : Plain
    p = m.plain

    go : (o v : Bool) → own_figures m.mode (cond o (cond v invalid (serving p.chunk (table_of p))) closed) ≡ cond o (cond v (state_alone 3) (figures_while_open p m.mode)) (state_alone 0)
    go true true = refl
    go true false = serving_figures p m.mode
    go false v = refl
