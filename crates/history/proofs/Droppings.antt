-- The last run leaves the list of the COW device.
use Rattle.std.proofs.Common.{◌≡◌, ℕ, zero, suc, ◌+◌, ◌-◌, ◌*◌, ◌/◌, ◌%◌, ◌<◌, ◌≤◌, true, List, [], ◌∷◌, length, refl, ap, ◌∙◌, subst, mod-lt, mul_assoc, arith}
use Rattle.device.specs.Disk.{Disk, writes, flushes, Told, good, refused, Refusal, refusal, Cut}
use Rattle.device.specs.Plans.{Runs, one, both, cow, Disks, with_side, raised}
use Rattle.layout.specs.declared.chunk.ChunkSize.{ChunkSize}
use Rattle.layout.specs.declared.exception.Exception.{Exception}
use Rattle.layout.specs.Chunks.{sectors, area_place}
use Rattle.layout.specs.Entries.{pic}
use Rattle.exceptions.specs.Table.{last_run, without_run}
use Rattle.store.specs.Image.{Sizes}
use Rattle.store.specs.Refusals.{StoreRefusal, up}
use Rattle.store.specs.Steps.{finished, flushing, unwinding, dropping, drop_run}
use Rattle.recovery.specs.Breaks.{AfterDropping}
use Rattle.recovery.specs.Data.{DataKept}
use Rattle.recovery.specs.Readings.{image}
use Rattle.recovery.specs.Standing.{Listed, Stands, Lies}
use Rattle.recovery.proofs.Calls.{Did, went, broke, did, drop_stands, drop_leaves}
use Rattle.recovery.proofs.Datas.{calls_keep_data}
use Rattle.recovery.proofs.Drops.{dropping_lies}
use Rattle.recovery.proofs.Finds.{sectors_within}
use Rattle.recovery.proofs.Learns.{area_sector_on}
use Rattle.recovery.proofs.Places.{placed}
use Rattle.recovery.proofs.Sheets.{length_pic}
use Rattle.recovery.proofs.Stand.{standing_lies}
use Rattle.history.specs.Faults.{Fault, store_up, in_store}
use Rattle.history.proofs.Fair.{Fair, Fared, fine, lost, fares, asks_fair, then_fair}
use Rattle.history.proofs.Sides.{Live, WentOff, passed_off}
use Rattle.history.proofs.Splits.{At, at_store}

-- FAIRNESS

-- sector j of the areas is on the device, as far as a list reaches
area_place_on : (z : Sizes) (size : ChunkSize) (es : List Exception) → Listed z size es → (j : ℕ) → 32 * j ≤ length es → area_place (sectors size) j < z.cow
area_place_on z size es l j h =
    let c = sectors size in
    let some = (sectors_within size).0 in
    let at = placed c j some in
    let flat = mul_assoc 32 c (j / c) in
    area_sector_on z size es l.shape l.sound (j / c) (j % c) (omega arith) (mod-lt j some)

unwinding_fair : (n c : ℕ) (list : List Exception) (j m : ℕ) → ((h : ℕ) → j ≤ h → h < j + m → area_place c h < n) → Fair n (unwinding c list j m)
unwinding_fair n c list j zero on = tt
unwinding_fair n c list j (suc m) on =
    asks_fair n (writes (area_place c (j + m)) (pic list (j + m))) (λ _. unwinding c list j m) (length_pic list (j + m), on (j + m) (omega arith) (omega arith)) (λ b _. unwinding_fair n c list j m (λ h low high. on h low (omega arith)))

dropping_fair : (z : Sizes) (size : ChunkSize) (es kept : List Exception) → Listed z size es → Fair z.cow (dropping (sectors size) kept (length es))
dropping_fair z size es kept l =
    then_fair z.cow (unwinding (sectors size) kept (length kept / 32) ((length es - 1) / 32 + 1 - length kept / 32)) (λ _. flushing finished)
    (unwinding_fair z.cow (sectors size) kept _ _ (λ h low high. area_place_on z size es l h (omega arith)))
    (λ _. asks_fair z.cow flushes (λ _. finished) tt (λ b _. tt))

-- THE DROP

-- the shorter list stands on the COW device, or a device went; either way copies keep their bytes
pub data Dropped (z : Sizes) (size : ChunkSize) (es : List Exception) (d : Disks) (t : Told Fault (List Exception)) (e : Disks) : Type 0 where
  drops_good : (w : Disk) → t ≡ good (without_run (sectors size) es) → e ≡ with_side cow d w → w.on ≡ true → Stands z size (without_run (sectors size) es) w → DataKept (sectors size) d.cow w → Dropped z size es d t e
  drops_off : (w : Disk) → WentOff t e → e ≡ with_side cow d w → DataKept (sectors size) d.cow w → ((after : Disk) → Cut w after → AfterDropping Lies z size es (length es - last_run (sectors size) es) (image after)) → Dropped z size es d t e

pub drops : (z : Sizes) (size : ChunkSize) (es : List Exception) {d e : Disks} {t : Told Fault (List Exception)} → 0 < length es → z.cow ≡ d.cow.count → Live d → Stands z size es d.cow → Runs both (in_store (drop_run (sectors size) es)) d t e → Dropped z size es d t e
drops z size [] some same l stands r = absurd (omega arith)
drops z size (x ∷ xs) {d} {e} {t} some same l stands r = by (did (dropping c left (length es)) left a.answer d.cow a.disk a.ran)
  where
    c : ℕ
    c = sectors size

    es : List Exception
    es = x ∷ xs

    left : List Exception
    left = without_run c es

    a : At StoreRefusal (List Exception) cow (drop_run c es) store_up d t e
    a = at_store (drop_run c es) r

    fared : {u : Told Refusal (Unit {0})} → Runs one (dropping c left (length es)) d.cow u a.disk → Fared u a.disk
    fared q = fares (subst (λ n. Fair n (dropping c left (length es))) same (dropping_fair z size es left stands.listed)) (l.long cow) (l.on cow) q

    data_kept : DataKept c d.cow a.disk
    data_kept = calls_keep_data.dropping size es d.cow a.disk a.answer a.ran

    good_drop : a.answer ≡ good left → Fared {A = Unit {0}} (good tt) a.disk → Dropped z size es d t e
    good_drop is (fine u same up_on long) = drops_good a.disk (a.told ∙ ap (raised store_up) is) a.left up_on (drop_stands z size es left d.cow a.disk stands (subst (λ y. Runs one (drop_run c es) d.cow y a.disk) is a.ran)) data_kept
    good_drop is (lost q wrong off) = cc

    broken_drop : (f : Refusal) → a.answer ≡ refused (up f) → Fared {A = Unit {0}} (refused f) a.disk → Dropped z size es d t e
    broken_drop f is (fine u wrong up_on long) = cc
    broken_drop f is (lost q lost_is off) =
        let three_is : f ≡ refusal 3 q = cc in
        drops_off a.disk
        (passed_off cow store_up (up (refusal 3 q)) d a.disk refl a.told a.left (is ∙ ap (λ y. refused (up y)) three_is) off)
        a.left data_kept
        (λ after cut. drop_leaves standing_lies dropping_lies z size es d.cow a.disk after a.answer stands a.ran cut)

    by : Did (dropping c left (length es)) left a.answer d.cow a.disk → Dropped z size es d t e
    by (went q is) = good_drop is (fared q)
    by (broke f q is) = broken_drop f is (fared q)
