-- Entering writes its entry only once all data lasts.
use Rattle.std.proofs.Common.{◌≡◌, ℕ, ◌+◌, ◌/◌, Bool, true, false, ◌⊎◌, length, sym, refl, ◌∙◌, subst, inl, inr}
use Rattle.std.specs.List.{ContainsAt as Has}
use Rattle.device.specs.Disk.{Bytes, Disk, Fate, possibilities, flushes, passes, leaves, stands as power, settled, Told, good, refused, Refusal}
use Rattle.device.specs.Plans.{Runs, one, Steps, onward}
use Rattle.device.specs.Sectors.{only}
use Rattle.device.proofs.Uses.{Went, went_on, left_in, was_refused, went, over as run_over, halves}
use Rattle.layout.specs.Chunks.{sectors, per_area, area_place}
use Rattle.layout.specs.Entries.{pic}
use Rattle.exceptions.specs.Table.{fills_area}
use Rattle.store.specs.Steps.{shape_of, flushing, storing, preparing}
use Rattle.recovery.specs.Readings.{image}
use Rattle.recovery.specs.Standing.{Within, Standing}
use Rattle.recovery.specs.Breaks.{more, EnteringOrder}
use Rattle.recovery.specs.Data.{IsData}
use Rattle.recovery.proofs.Allowed.{run_within, by_way}
use Rattle.recovery.proofs.Enters.{preparing_writes}
use Rattle.recovery.proofs.Finds.{sectors_within}
use Rattle.recovery.proofs.Keeps.{quiet_keeps, preparing_quiet, entry_quiet}

-- a device that is gone passes no flush
flush_on : (on : Bool) (f : Fate) → power flushes on f ≡ passes → on ≡ true
flush_on true f is = refl
flush_on false f is = cc

pub entering_order : EnteringOrder
entering_order z size es x d e t stands listed r =
    let h = halves before (λ u. onward u (λ _. flushing entry)) r in
    by h.mid h.between h.first h.rest
  where
    c : ℕ
    c = sectors size

    before : Steps
    before = preparing (fills_area c (length es)) c (length es / per_area c + 1)

    entry : Steps
    entry = storing (area_place c (length es / 32)) (pic (more es x) (length es / 32))

    Old : Disk → Type 0
    Old y = Within (Standing (shape_of z size) es) y

    Lasting : Type 0
    Lasting = (s : ℕ) (b : Bytes) → IsData c s → Has (possibilities (e.cells s)) b → b ≡ image d s

    prepared : (u : Told Refusal (Unit {0})) (mid : Disk) → Runs one before d u mid → Old mid
    prepared u mid first = run_within _ (preparing_writes z size es x (fills_area c (length es))) first stands.sectors

    lasting : (u : Told Refusal (Unit {0})) (mid : Disk) → Runs one before d u mid → mid.on ≡ true → Runs one entry (settled mid) t e → Lasting
    lasting u mid first on q s b is has =
        let kept = quiet_keeps c entry t (settled mid) e (entry_quiet c (sectors_within size).0 (more es x) (length es)) q in
        sym (only (kept.possible s b is has)) ∙ (quiet_keeps c before u d mid (preparing_quiet c (sectors_within size).0 (fills_area c (length es)) _) first).reads s is on

    flushed : (mid : Disk) → Runs one before d (good tt) mid → Went {B = Unit {0}} one tt flushes (λ _. entry) mid t e → Old e ⊎ Lasting
    flushed mid first (went_on f is q) = inr (lasting (good tt) mid first (flush_on mid.on f is) q)
    flushed mid first (left_in f is a y) = inl (subst Old (sym y) (by_way _ leaves flushes mid f tt (prepared (good tt) mid first)))
    flushed mid first (was_refused f n p is a y) = inl (subst Old (sym y) (prepared (good tt) mid first))

    by : (u : Told Refusal (Unit {0})) (mid : Disk) → Runs one before d u mid → Runs one (onward u (λ _. flushing entry)) mid t e → Old e ⊎ Lasting
    by (refused f) mid first q = inl (subst Old (sym (run_over q).1) (prepared (refused f) mid first))
    by (good tt) mid first q = flushed mid first (went q)
