-- A chunk without a copy is copied and entered, before a write to it.
use Rattle.std.proofs.Common.{◌≡◌, ℕ, ◌+◌, ◌*◌, ◌/◌, ◌%◌, ◌<◌, ◌≤◌, true, false, eqb, List, [], length, Some, sym, ap, ◌∙◌, subst, inl, ⊎_elim, mod-lt, div-add-mod', arith}
use Rattle.std.proofs.lemmas.Bool.{and_parts, eqb-true}
use Rattle.device.specs.Disk.{Bytes, Disk, Told}
use Rattle.device.specs.Plans.{Runs, both, origin, cow, Disks, with_side, then, gathering, spreading}
use Rattle.layout.specs.declared.exception.Exception.{Exception}
use Rattle.layout.specs.Chunks.{sectors, is_data, in_copy}
use Rattle.exceptions.specs.Table.{entries_at_most, lookup, room}
use Rattle.store.specs.Steps.{shape_of, enter}
use Rattle.recovery.specs.Readings.{image, gathered}
use Rattle.recovery.proofs.Finds.{sectors_within}
use Rattle.recovery.proofs.Gathered.{part, Long, length_gathered, part_gathered}
use Rattle.history.specs.Faults.{Fault, Moves, at_side, in_store}
use Rattle.history.specs.Steps.{sizes, serving, ground, copying}
use Rattle.history.specs.Machine.{Plain, has_chunk, chunk_of, diverged_at, table_of}
use Rattle.history.proofs.Copying.{in_whole_chunk, free_covers, free_up, Parts}
use Rattle.history.proofs.Ends.{Up, turned_off}
use Rattle.history.proofs.Entering.{entered_both}
use Rattle.history.proofs.Fairs.{chunk_on}
use Rattle.history.proofs.Invariant.{Covers, covers_fewer, cut_fewer}
use Rattle.history.proofs.Reading.{alive}
use Rattle.history.proofs.Sides.{WentOff, reads_chunk, asked_then, Spreads, spread_off, spread_on, spreads_then}
use Rattle.history.proofs.Tables.{room_free}
use Rattle.history.proofs.Through.{at_data}
use Rattle.history.proofs.Wholes.{wholes_stay}

module _ (p : Plain) (valid : p.void ≡ false) (d : Disks) (up : Up p (serving p.chunk (table_of p)) d) (s : ℕ) (here : s < p.size.origin) (out : diverged_at p s ≡ false) (k : ℕ) (free : room entries_at_most (sectors p.chunk) (p.size.cow / sectors p.chunk) (table_of p) ≡ Some k) where
  -- nothing of the machine's disks has changed
  still : {t : Told Fault (List Exception)} {e : Disks} → WentOff t e → Covers p e → Parts p s t e
  still w cover = turned_off w (λ x cut. inl (covers_fewer cover (cut_fewer cut.origin) (cut_fewer cut.cow)))

  place : (is_data (sectors p.chunk) k ≡ true) × (k < p.size.cow / sectors p.chunk) × ((j : ℕ) → lookup (table_of p) j ≡ Some k → ⊥)
  place = room_free p.size p.chunk (table_of p) (up.stands valid).listed k free

  chunk_here : chunk_of p s * sectors p.chunk + sectors p.chunk ≤ d.origin.count
  chunk_here =
      let whole = eqb-true _ _ (and_parts (eqb (p.size.origin % sectors p.chunk) 0) _ (up.stands valid).listed.shape).0 in
      subst (λ z. chunk_of p s * sectors p.chunk + sectors p.chunk ≤ z.origin) (sym up.agrees.sectors) (chunk_on p.chunk p.size.origin (chunk_of p s) (in_whole_chunk p.chunk p.size.origin s whole here))

  place_here : k * sectors p.chunk + sectors p.chunk ≤ d.cow.count
  place_here = subst (λ z. k * sectors p.chunk + sectors p.chunk ≤ z.cow) (sym up.agrees.sectors) (chunk_on p.chunk p.size.cow k place.1)

  -- what is read of the origin
  abbrev bytes : Bytes
  bytes = gathered (image d.origin) (chunk_of p s * sectors p.chunk) (sectors p.chunk) []

  long : Long (image d.origin) (chunk_of p s * sectors p.chunk) (sectors p.chunk)
  long i l = (alive p d _ up).long origin _ (let h = chunk_here in omega arith)

  -- ENTERING WHAT WAS COPIED

  module _ (w : Disk) (same : w.count ≡ d.cow.count) (there : (i : ℕ) → i < sectors p.chunk → image w (k * sectors p.chunk + i) ≡ part bytes i) where
    filled : (t : ℕ) → t < p.size.origin → chunk_of p t ≡ chunk_of p s → image w (in_copy (sectors p.chunk) k t) ≡ (p.view t).latest
    filled t l is =
        let n = sectors p.chunk in
        let low : t % n < n = mod-lt t (sectors_within p.chunk).0 in
        let at : chunk_of p s * n + t % n ≡ t = ap (λ x. x * n + t % n) (sym is) ∙ div-add-mod' t n in
        there (t % n) low ∙ part_gathered (image d.origin) n (chunk_of p s * n) (t % n) long low ∙ ap (image d.origin) at
        ∙ up.agrees.origin t l ∙ sym (ap (λ q. q.latest) (up.covers.shared valid t l (ap (λ x. has_chunk p.diverged x) is ∙ out)))

  -- THE STEPS

  abbrev entering_plan : Moves (List Exception)
  entering_plan = in_store (enter (shape_of (sizes d) p.chunk) (table_of p) (chunk_of p s))

  abbrev writing_plan : Bytes → Moves (List Exception)
  writing_plan b = then (at_side cow (spreading (k * sectors p.chunk) (sectors p.chunk) b)) (λ _. entering_plan)

  size_long : length bytes ≡ 512 * sectors p.chunk
  size_long = length_gathered (image d.origin) (sectors p.chunk) (chunk_of p s * sectors p.chunk) long

  with_sizes : {e e' : Disks} {t : Told Fault (List Exception)} → Runs both entering_plan e t e' → Runs both (in_store (enter (shape_of p.size p.chunk) (table_of p) (chunk_of p s))) e t e'
  with_sizes {e} {e'} {t} r = subst (λ z. Runs both (in_store (enter (shape_of z p.chunk) (table_of p) (chunk_of p s))) e t e') up.agrees.sectors r

  writing_parts : {t : Told Fault (List Exception)} {e : Disks} → Runs both (writing_plan bytes) d t e → Parts p s t e
  writing_parts {t} {e} r = by (spreads_then cow (sectors p.chunk) (k * sectors p.chunk) bytes entering_plan (alive p d _ up) place_here size_long r)
    where
      by : Spreads cow d (k * sectors p.chunk) (sectors p.chunk) bytes entering_plan t e → Parts p s t e
      by (spread_off w same off left gains) = still off (subst (Covers p) (sym left) (free_covers p valid d _ up k place.0 place.2 bytes w same gains))
      by (spread_on w same g run rest) =
          let up₁ = free_up p valid d _ up k place.0 place.2 bytes w same g.gains g.else g.on (and_parts d.origin.on d.cow.on up.agrees.on).0 (wholes_stay run up.whole) in
          entered_both p valid (with_side cow d w) up₁ s here out k free (filled w same g.here) (with_sizes rest)

  -- through the store the place is written as it stands
  copying_is : copying (ground d) p.chunk (table_of p) (chunk_of p s) k ≡ then (at_side origin (gathering (chunk_of p s * sectors p.chunk) (sectors p.chunk) [])) writing_plan
  copying_is =
      let on_cow : k < (sizes d).cow / sectors p.chunk = subst (λ z. k < z.cow / sectors p.chunk) (sym up.agrees.sectors) place.1 in
      λ i. then (at_side origin (gathering (chunk_of p s * sectors p.chunk) (sectors p.chunk) [])) (λ b. then (at_data (sizes d) p.chunk k (spreading (k * sectors p.chunk) (sectors p.chunk) b) place.0 on_cow i) (λ _. entering_plan))

  pub parts : {t : Told Fault (List Exception)} {e : Disks} → Runs both (copying (ground d) p.chunk (table_of p) (chunk_of p s) k) d t e → Parts p s t e
  parts {t} {e} r =
      let n = sectors p.chunk in
      ⊎_elim
      (λ off. still off.0 (covers_fewer up.covers off.1.origin off.1.cow))
      writing_parts
      (asked_then (at_side origin (gathering (chunk_of p s * n) n [])) writing_plan (λ u y z. reads_chunk origin n (chunk_of p s * n) (alive p d _ up) chunk_here z) (subst (λ q. Runs both q d t e) copying_is r))
