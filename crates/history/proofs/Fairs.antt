-- The store's steps name sectors of its device.
use Rattle.std.proofs.Common.{◌≡◌, ℕ, ◌+◌, ◌*◌, ◌/◌, ◌%◌, ◌<◌, ◌≤◌, Bool, true, false, not, ◌&&◌, ltb, List, length, replicate, Some, None, Option, sym, refl, ap, ◌∙◌, ⊎_elim, mul-le-mul_right, mod-lt, mul_assoc, mul_comm, le-div_iff_mul-le, mul-one, mul-add, arith}
use native.Mathlib.Nat.{div-add-mod}
use Rattle.std.proofs.lemmas.Bool.{cases_Bool, and_parts, not-false, not-true, ltb-true, cond-false}
use Rattle.device.specs.Disk.{Bytes, writes, flushes}
use Rattle.device.specs.Plans.{then, Steps, zeroing}
use Rattle.layout.specs.declared.chunk.ChunkSize.{ChunkSize}
use Rattle.layout.specs.declared.chunk.ChunkSize.TheVariants.{One, Two, Four, Eight, Sixteen}
use Rattle.layout.specs.declared.exception.Exception.{Exception}
use Rattle.layout.specs.Chunks.{sectors, per_area, area_chunk, area_start, area_place}
use Rattle.layout.specs.Entries.{pic}
use Rattle.layout.specs.Headers.{header}
use Rattle.exceptions.specs.Table.{entries_at_most, fills_area, next_place, has_room, room}
use Rattle.store.specs.Image.{Sizes}
use Rattle.store.specs.Steps.{finished, writing, flushing, storing, making, preparing, entering, spoiling}
use Rattle.recovery.specs.Standing.{Listed}
use Rattle.recovery.proofs.Finds.{sectors_within}
use Rattle.recovery.proofs.Learns.{area_sector_on}
use Rattle.recovery.proofs.Listing.{roomy, next_on}
use Rattle.recovery.proofs.Places.{placed}
use Rattle.recovery.proofs.Sheets.{length_pic}
use Rattle.history.proofs.Fair.{Fair, asks_fair, then_fair, zeroing_fair}

-- a header is one sector
pub header_long : (valid : Bool) (size : ChunkSize) → length (header valid (sectors size)) ≡ 512
header_long true One = refl
header_long true Two = refl
header_long true Four = refl
header_long true Eight = refl
header_long true Sixteen = refl
header_long false One = refl
header_long false Two = refl
header_long false Four = refl
header_long false Eight = refl
header_long false Sixteen = refl

pub writing_fair : (n s : ℕ) (bytes : Bytes) (k : Steps) → length bytes ≡ 512 → s < n → Fair n k → Fair n (writing s bytes k)
writing_fair n s bytes k long here rest = asks_fair n (writes s bytes) (λ _. k) (long, here) (λ _ _. rest)

pub flushing_fair : (n : ℕ) (k : Steps) → Fair n k → Fair n (flushing k)
flushing_fair n k rest = asks_fair n flushes (λ _. k) tt (λ _ _. rest)

-- making names sectors of the device
pub making_fair : (n : ℕ) (size : ChunkSize) → 3 ≤ n / sectors size → Fair n (making (sectors size))
making_fair n size room =
    let c = sectors size in
    let some = (sectors_within size).0 in
    let wide : 3 * c ≤ n = (le-div_iff_mul-le some).0 room in
    let first_area : area_start c 0 ≡ c = omega arith in
    let head = flushing_fair n (storing 0 (header true c)) (writing_fair n 0 (header true c) (flushing finished) (header_long true size) (omega arith) (flushing_fair n finished tt)) in
    let area = then_fair n (zeroing (area_start c 0) c) (λ _. flushing (storing 0 (header true c))) (zeroing_fair n c (area_start c 0) (omega arith)) (λ _. head) in
    writing_fair n 0 (replicate 512 0) (flushing (then (zeroing (area_start c 0) c) (λ _. flushing (storing 0 (header true c))))) refl (omega arith)
    (flushing_fair n (then (zeroing (area_start c 0) c) (λ _. flushing (storing 0 (header true c)))) area)

pub spoiling_fair : (n : ℕ) (size : ChunkSize) → 0 < n → Fair n (spoiling (sectors size))
spoiling_fair n size some = writing_fair n 0 (header false (sectors size)) (flushing finished) (header_long false size) some (flushing_fair n finished tt)

-- where there is room, at any limit, an exception that fills its area has the next area on the device
pub room_area : (limit c chunks : ℕ) (es : List Exception) (p : ℕ) → room limit c chunks es ≡ Some p → fills_area c (length es) ≡ true → area_chunk c (length es / per_area c + 1) < chunks
room_area limit c chunks es p is fills =
    ⊎_elim
    (λ has.
    let rest = (and_parts (ltb (next_place c es) chunks) _ has).1 in
    let area = (and_parts (not (fills_area c (length es) && not (ltb (area_chunk c (length es / per_area c + 1)) chunks))) _ rest).0 in
    ltb-true _ _ (not-false _ (sym (ap (λ b. b && not (ltb (area_chunk c (length es / per_area c + 1)) chunks)) fills) ∙ not-true _ area)))
    (λ none. absurd (let z : ◌≡◌ {A = Option ℕ} None (Some p) = sym (cond-false (has_room limit c chunks (length es) (next_place c es)) _ _ none) ∙ is in let o : ◌≡◌ {A = ℕ} 0 1 = cc in omega arith))
    (cases_Bool (has_room limit c chunks (length es) (next_place c es)))

-- a chunk that is on a device, sector by sector
pub chunk_on : (size : ChunkSize) (n k : ℕ) → k < n / sectors size → k * sectors size + sectors size ≤ n
chunk_on size n k h =
    let c = sectors size in
    let whole : (k + 1) * c ≤ (n / c) * c = mul-le-mul_right c (let up : k + 1 ≤ n / c = omega arith in up) in
    omega (arith, mul_comm (k + 1) c, mul-add c k 1, mul-one c, mul_comm c k, mul_comm (n / c) c, div-add-mod n c)

-- the sector of a new entry
module _ (z : Sizes) (size : ChunkSize) (es list : List Exception) (p : ℕ) (listed : Listed z size es) (is : room entries_at_most (sectors size) (z.cow / sectors size) es ≡ Some p) where
  entry_on : area_place (sectors size) (length es / 32) < z.cow
  entry_on =
      let c = sectors size in
      let some = (sectors_within size).0 in
      let flat = mul_assoc 32 c (length es / 32 / c) in
      let whole = placed c (length es / 32) some in
      let below = mod-lt (length es / 32) some in
      area_sector_on z size es listed.shape listed.sound (length es / 32 / c) (length es / 32 % c) (omega arith) below

  preparing_fair : (b : Bool) → fills_area (sectors size) (length es) ≡ b → Fair z.cow (preparing b (sectors size) (length es / per_area (sectors size) + 1))
  preparing_fair true fills = zeroing_fair z.cow (sectors size) _ (chunk_on size z.cow _ (next_on (roomy (sectors size) _ es p is) fills))
  preparing_fair false fills = tt

  pub entering_fair : Fair z.cow (entering (sectors size) list (length es))
  entering_fair =
      let c = sectors size in
      let entry = storing (area_place c (length es / 32)) (pic list (length es / 32)) in
      then_fair z.cow (preparing (fills_area c (length es)) c (length es / per_area c + 1)) (λ _. flushing entry) (preparing_fair (fills_area c (length es)) refl)
      (λ _. flushing_fair z.cow entry (writing_fair z.cow _ _ (flushing finished) (length_pic list (length es / 32)) entry_on (flushing_fair z.cow finished tt)))
