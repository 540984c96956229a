-- Dropping the end of a list, wherever it breaks off.
use Rattle.std.proofs.Common.{◌≡◌, ℕ, zero, suc, ◌+◌, ◌-◌, ◌*◌, ◌/◌, ◌%◌, ◌<◌, ◌≤◌, max, ◌⊎◌, List, length, get_or, take, drop, sym, refl, ap, ◌∙◌, subst, inl, inr, ⊎_elim, le_refl, mod-lt, mul_assoc, arith, length-drop, length-take}
use Rattle.std.specs.List.{AllByRecursion}
use Rattle.std.proofs.ByRecursion.{All-take}
use Rattle.std.proofs.lemmas.List.{take_all}
use Rattle.std.proofs.lemmas.Bool.{cases_lt}
use Rattle.device.specs.Disk.{Bytes, Disk, put, settled, good}
use Rattle.device.specs.Plans.{Runs, one}
use Rattle.device.proofs.Possible.{last_has}
use Rattle.device.proofs.Uses.{over as run_over}
use Rattle.layout.specs.declared.chunk.ChunkSize.{ChunkSize}
use Rattle.layout.specs.declared.exception.Exception.{Exception}
use Rattle.layout.specs.Chunks.{sectors, per_area, area_start, area_place}
use Rattle.layout.specs.Entries.{nothing, entry_from, nth_entry, pic, Fits}
use Rattle.layout.proofs.Back.{read_back}
use Rattle.store.specs.Image.{Sizes}
use Rattle.store.specs.Steps.{shape_of, finished, flushing, unwinding, dropping}
use Rattle.recovery.specs.Readings.{Image, image, area_bytes}
use Rattle.recovery.specs.Holding.{Holds}
use Rattle.recovery.specs.Standing.{Within, ValidHeader, Standing, Listed, Legible, Lies}
use Rattle.recovery.specs.Breaks.{AfterDropping, DroppingBreaks, DroppingLies, DroppingStands}
use Rattle.recovery.proofs.Allowed.{Writes, on_good, run_within, flushed_writes, cut_within}
use Rattle.recovery.proofs.Finds.{sectors_within, finds_what_it_holds}
use Rattle.recovery.proofs.Legible.{pic_small}
use Rattle.recovery.proofs.Pictures.{pic_past}
use Rattle.recovery.proofs.Places.{same_sector, same_area, not_header, placed, placed_at}
use Rattle.recovery.proofs.Prefixes.{long_take, item_take, listed_take, pic_take}
use Rattle.recovery.proofs.Sectors.{Small}
use Rattle.recovery.proofs.Sheets.{length_pic, entry_in_area}
use Rattle.recovery.proofs.Stand.{standing_lies, held_opens}
use Rattle.recovery.proofs.Zeros.{settled_single, put_here, put_elsewhere, flushed_good, written_good, then_good}

module _ (z : Sizes) (size : ChunkSize) (es : List Exception) (k : ℕ) where
  -- with the drop under way, a sector shows the whole list or its beginning
  record Mixed (at : ℕ) (b : Bytes) : Type 0 where
    head : at ≡ 0 → ValidHeader size b
    areas : (a q : ℕ) → q < sectors size → per_area (sectors size) * a ≤ length es → at ≡ area_start (sectors size) a + q → (b ≡ pic es (sectors size * a + q)) ⊎ (b ≡ pic (take k es) (sectors size * a + q))

  some : 0 < sectors size
  some = (sectors_within size).0

  sector_mixed : (j : ℕ) → Mixed (area_place (sectors size) j) (pic (take k es) j)
  sector_mixed j = record {
    head = λ e. absurd (not_header (sectors size) _ _ (mod-lt j some) e);
    areas = λ a q l le at.
        let area = same_area (sectors size) (j / sectors size) (j % sectors size) a q (mod-lt j some) l at in
        let sector = same_sector (sectors size) (j / sectors size) (j % sectors size) a q (mod-lt j some) l at in
        inr (ap (pic (take k es)) (sym (placed (sectors size) j some) ∙ (λ i. sectors size * area i + sector i)));
  }

  unwinding_writes : (j n : ℕ) → Writes Mixed (unwinding (sectors size) (take k es) j n)
  unwinding_writes j zero = tt
  unwinding_writes j (suc n) = (sector_mixed (j + n), on_good Mixed (λ _. unwinding (sectors size) (take k es) j n) (λ _. unwinding_writes j n))

  dropping_writes : (n : ℕ) → Writes Mixed (dropping (sectors size) (take k es) n)
  dropping_writes n = flushed_writes Mixed (unwinding (sectors size) (take k es) _ _) (unwinding_writes _ _)

  -- AFTER THE CUT

  module _ (m : Image) (all : (s : ℕ) → Mixed s (m s)) where
    -- sector j of the areas, while it is one of the list's
    chosen : (j : ℕ) → 32 * j ≤ length es → (m (area_place (sectors size) j) ≡ pic es j) ⊎ (m (area_place (sectors size) j) ≡ pic (take k es) j)
    chosen j h =
        let flat = mul_assoc 32 (sectors size) (j / sectors size) in
        let at = placed (sectors size) j some in
        ⊎_elim (λ e. inl (e ∙ ap (pic es) at)) (λ e. inr (e ∙ ap (pic (take k es)) at)) ((all (area_place (sectors size) j)).areas (j / sectors size) (j % sectors size) (mod-lt j some) (omega arith) refl)

    -- sectors that the beginning fills show the list anyway
    shown : (j : ℕ) → 32 * j ≤ length es → (m (area_place (sectors size) j) ≡ pic es j) ⊎ ((k / 32 ≤ j) × (m (area_place (sectors size) j) ≡ pic (take k es) j))
    shown j h = ⊎_elim (λ below. inl (⊎_elim (λ e. e) (λ e. e ∙ pic_take es k j below) (chosen j h))) (λ above. ⊎_elim inl (λ e. inr (above, e)) (chosen j h)) (cases_lt j (k / 32))

    -- the first sector below u that shows the beginning alone
    record First (u : ℕ) : Type 0 where
      at : ℕ
      below : at < u
      past : k / 32 ≤ at
      is : m (area_place (sectors size) at) ≡ pic (take k es) at
      before : (h : ℕ) → h < at → m (area_place (sectors size) h) ≡ pic es h

    first : (u : ℕ) → u ≤ length es / 32 + 1 → ((j : ℕ) → j < u → m (area_place (sectors size) j) ≡ pic es j) ⊎ First u
    first zero h = inl (λ j l. absurd (omega arith))
    first (suc u) h =
        ⊎_elim
        (λ none. ⊎_elim (λ e. inl (λ j l. ⊎_elim (λ lt. none j lt) (λ ge. let same : j ≡ u = omega arith in ap (λ i. m (area_place (sectors size) i)) same ∙ e ∙ ap (pic es) (sym same)) (cases_lt j u))) (λ e. inr (record { at = u; below = omega arith; past = e.0; is = e.1; before = none })) (shown u (omega arith)))
        (λ f. inr (record { at = f.at; below = let b = f.below in omega arith; past = f.past; is = f.is; before = f.before }))
        (first u (omega arith))

    sector_long : (a q : ℕ) → q < sectors size → per_area (sectors size) * a ≤ length es → length (m (area_start (sectors size) a + q)) ≡ 512
    sector_long a q l le = ⊎_elim (λ e. ap length e ∙ length_pic es _) (λ e. ap length e ∙ length_pic (take k es) _) ((all _).areas a q l le refl)

    -- entry p of the areas, in its sector
    module _ (a i : ℕ) (inside : i < per_area (sectors size)) (le : per_area (sectors size) * a ≤ length es) where
      flat : 32 * (sectors size * a + i / 32) + i % 32 ≡ per_area (sectors size) * a + i
      flat = let h = mul_assoc 32 (sectors size) a in omega arith

      in_sector : nth_entry (area_bytes (shape_of z size) m a) i ≡ entry_from (m (area_place (sectors size) (sectors size * a + i / 32))) (16 * (i % 32))
      in_sector =
          entry_in_area (shape_of z size) m a (λ q l. sector_long a q l le) i inside ∙ ap (λ t. entry_from (m t) (16 * (i % 32))) (placed_at (sectors size) a (i / 32) _ (omega arith) refl)

      reads_as : (list : List Exception) → AllByRecursion Fits list → m (area_place (sectors size) (sectors size * a + i / 32)) ≡ pic list (sectors size * a + i / 32) → per_area (sectors size) * a + i < length list → nth_entry (area_bytes (shape_of z size) m a) i ≡ get_or list (per_area (sectors size) * a + i) nothing
      reads_as list fits is h =
          let f = flat in
          let lt : i % 32 < length (take 32 (drop (32 * (sectors size * a + i / 32)) list)) = simp (length-take, length-drop) (omega arith) in
          in_sector ∙ ap (λ l. entry_from l (16 * (i % 32))) is ∙ read_back.here list (sectors size * a + i / 32) (i % 32) nothing fits lt ∙ ap (λ p. get_or list p nothing) f

      reads_end : (list : List Exception) → m (area_place (sectors size) (sectors size * a + i / 32)) ≡ pic list (sectors size * a + i / 32) → length list ≤ per_area (sectors size) * a + i → (nth_entry (area_bytes (shape_of z size) m a) i).new ≡ 0
      reads_end list is h =
          let f = flat in
          let ge : length (take 32 (drop (32 * (sectors size * a + i / 32)) list)) ≤ i % 32 = simp (length-take, length-drop) (omega arith) in
          ap (λ x. x.new) (in_sector ∙ ap (λ l. entry_from l (16 * (i % 32))) is ∙ read_back.past list (sectors size * a + i / 32) (i % 32) ge (omega arith))

    module _ (few : k ≤ length es) (listed : Listed z size es) where
      -- no sector shows the beginning alone: the whole list stands
      all_shown : ((j : ℕ) → j < length es / 32 + 1 → m (area_place (sectors size) j) ≡ pic es j) → (s : ℕ) → Standing (shape_of z size) es s (m s)
      all_shown none s = record {
        head = (all s).head;
        areas = λ a q l le at.
            let j = sectors size * a + q in
            let kept = long_take es k few in
            ⊎_elim
            (λ lt. ap m (at ∙ placed_at (sectors size) a q j l refl) ∙ none j lt)
            (λ ge. ⊎_elim (λ e. e) (λ e. e ∙ pic_past (take k es) j (omega arith) ∙ sym (pic_past es j (omega arith))) ((all s).areas a q l le at))
            (cases_lt j (length es / 32 + 1));
      }

      -- a sector shows the beginning alone: the list ends there
      holds : (f : First (length es / 32 + 1)) → Holds (shape_of z size) m (take (max k (32 * f.at)) es)
      holds f = record { entries = entries; end = end }
        where
          within : max k (32 * f.at) ≤ length es
          within = let b = f.below in omega arith

          entries : (a q : ℕ) → q < per_area (sectors size) → per_area (sectors size) * a + q < length (take (max k (32 * f.at)) es) → nth_entry (area_bytes (shape_of z size) m a) q ≡ get_or (take (max k (32 * f.at)) es) (per_area (sectors size) * a + q) nothing
          entries a q inside h =
              let p = per_area (sectors size) * a + q in
              let j = sectors size * a + q / 32 in
              let long = long_take es (max k (32 * f.at)) within in
              let all_in = within in
              let here : p < max k (32 * f.at) = omega arith in
              let le : per_area (sectors size) * a ≤ length es = omega arith in
              let fl = flat a q inside le in
              let back = sym (item_take es (max k (32 * f.at)) within p here) in
              ⊎_elim
              (λ low.
              let kept = long_take es k few in
              ⊎_elim
              (λ e. reads_as a q inside le es listed.fits e (omega arith) ∙ back)
              (λ e. reads_as a q inside le (take k es) (All-take Fits k es listed.fits) e (subst (λ n. p < n) (sym kept) low) ∙ item_take es k few p low ∙ back)
              (chosen j (omega arith)))
              (λ high. let under : j < f.at = omega (arith, high) in reads_as a q inside le es listed.fits (f.before j under) (omega arith) ∙ back)
              (cases_lt p k)

          end : (a q : ℕ) → q < per_area (sectors size) → per_area (sectors size) * a + q ≡ length (take (max k (32 * f.at)) es) → (nth_entry (area_bytes (shape_of z size) m a) q).new ≡ 0
          end a q inside is =
              let j = sectors size * a + q / 32 in
              let long = long_take es (max k (32 * f.at)) within in
              let all_in = within in
              let kept = long_take es k few in
              let le : per_area (sectors size) * a ≤ length es = omega arith in
              let fl = flat a q inside le in
              let over = f.past in
              let same : j ≡ f.at = omega arith in
              reads_end a q inside le (take k es) (ap (λ i. m (area_place (sectors size) i)) same ∙ f.is ∙ ap (pic (take k es)) (sym same)) (omega arith)

      -- whatever a sector shows, it holds bytes
      legible : (i : ℕ) → i ≤ length es → Legible size (take i es) m
      legible i within a q l le =
          let long = long_take es i within in
          ⊎_elim (λ e. subst Small (sym e) (pic_small es _)) (λ e. subst Small (sym e) (pic_small (take k es) _)) ((all _).areas a q l (omega arith) refl)

      mixed_lies : AfterDropping Lies z size es k m
      mixed_lies =
          ⊎_elim
          (λ none. (length es, few, le_refl _, subst (λ l. Lies z size l m) (sym (take_all (length es) es (le_refl _))) (standing_lies z size es m listed (all_shown none))))
          (λ f.
          let within : max k (32 * f.at) ≤ length es = let b = f.below in omega arith in
          let l = listed_take es (max k (32 * f.at)) within z size listed in
          (max k (32 * f.at), omega arith, within, record { finds = held_opens z size _ m listed.shape ((all 0).head refl) (finds_what_it_holds _ m _ (holds f) l.sound); bytes = legible _ within }))
          (first (length es / 32 + 1) (le_refl _))

pub dropping_lies : DroppingLies
dropping_lies z size es k d e after t stands few r cut =
    let before : Within (Mixed z size es k) d = λ s b has. let here = stands.sectors s b has in record { head = here.head; areas = λ a q l le at. inl (here.areas a q l le at) } in
    mixed_lies z size es k (image after) (cut_within _ (run_within _ (dropping_writes z size es k (length es)) r before) cut) few stands.listed

pub dropping_breaks : DroppingBreaks
dropping_breaks z size es k d e after t stands few r cut = let l = dropping_lies z size es k d e after t stands few r cut in (l.0, l.1, l.2, l.3.finds)

-- GOOD

-- sectors of areas that stand in one place are the same
same_place : (c j h : ℕ) → 0 < c → area_place c j ≡ area_place c h → j ≡ h
same_place c j h some is =
    let area = same_area c (j / c) (j % c) (h / c) (h % c) (mod-lt j some) (mod-lt h some) is in
    let sector = same_sector c (j / c) (j % c) (h / c) (h % c) (mod-lt j some) (mod-lt h some) is in
    sym (placed c j some) ∙ (λ i. c * area i + sector i) ∙ placed c h some

module _ (c : ℕ) (list : List Exception) (some : 0 < c) where
  -- a good unwinding leaves other sectors as they were, and its own with their pictures
  unwound_elsewhere : (n j : ℕ) {d e : Disk} → Runs one (unwinding c list j n) d (good tt) e → (s : ℕ) → ((h : ℕ) → j ≤ h → h < j + n → s ≡ area_place c h → ⊥) → image e s ≡ image d s
  unwound_elsewhere zero j r s out = ap (λ y. image y s) (run_over r).1
  unwound_elsewhere (suc n) j {d} r s out =
      let w = written_good r in
      unwound_elsewhere n j w.1 s (λ h le lt. out h le (omega arith)) ∙ put_elsewhere d _ _ w.0 s (out (j + n) (omega arith) (omega arith))

  unwound : (n j : ℕ) {d e : Disk} → Runs one (unwinding c list j n) d (good tt) e → (h : ℕ) → j ≤ h → h < j + n → image e (area_place c h) ≡ pic list h
  unwound zero j r h le lt = absurd (omega arith)
  unwound (suc n) j {d} r h le lt =
      let w = written_good r in
      ⊎_elim
      (λ below. unwound n j w.1 h le below)
      (λ above.
      let same : h ≡ j + n = omega (arith, above) in
      unwound_elsewhere n j w.1 _ (λ g l u is. let e = same_place c h g some is in omega arith) ∙ ap (λ i. image (put d (area_place c (j + n)) (pic list (j + n)) w.0) (area_place c i)) same ∙ put_here d _ _ w.0 ∙ ap (pic list) (sym same))
      (cases_lt h (j + n))

pub dropping_stands : DroppingStands
dropping_stands z size es k d e stands less r =
    let c = sectors size in
    let kept = take k es in
    let size_k = long_take es k (omega arith) in
    let a = then_good (unwinding c kept (length kept / 32) ((length es - 1) / 32 + 1 - length kept / 32)) (λ _. flushing finished) r in
    let mid = a.1 in
    let is : e ≡ settled mid = (run_over (flushed_good a.3)).1 in
    let low = length kept / 32 in
    let high = (length es - 1) / 32 + 1 in
    let some = (sectors_within size).0 in
    let standing : (t : ℕ) → Standing (shape_of z size) kept t (image mid t) = λ t.
    let was = stands.sectors t (image d t) (last_has (d.cells t)) in
    record {
      head = λ at. subst (ValidHeader size) (sym (unwound_elsewhere c kept some _ low a.2 t (λ h l u there. not_header c (h / c) (h % c) (mod-lt h some) (sym there ∙ at)))) (was.head at);
      areas = λ b q l le at.
          let j = c * b + q in
          let place : t ≡ area_place c j = at ∙ placed_at c b q j l refl in
          let old = was.areas b q l (omega arith) at in
          let untouched : ((h : ℕ) → low ≤ h → h < low + (high - low) → j ≡ h → ⊥) → image mid t ≡ pic es j = λ out. unwound_elsewhere c kept some _ low a.2 t (λ h lo hi there. out h lo hi (same_place c j h some (sym place ∙ there))) ∙ old in
          ⊎_elim
          (λ before. untouched (λ h lo hi e. omega arith) ∙ sym (pic_take es k j (omega (arith, before))))
          (λ from.
          ⊎_elim
          (λ inside. ap (image mid) place ∙ unwound c kept some _ low a.2 j from (omega (arith, inside, from)))
          (λ past. untouched (λ h lo hi e. omega (arith, past)) ∙ pic_past es j (omega (arith, past)) ∙ sym (pic_past kept j (omega (arith, past))))
          (cases_lt j high))
          (cases_lt j low);
    } in
    record { listed = listed_take es k (omega arith) z size stands.listed; single = λ x has. settled_single mid 0 x is has; sectors = λ t x has. subst (Standing (shape_of z size) kept t) (ap (λ y. image y t) (sym is) ∙ settled_single mid t x is has) (standing t) }
