-- The sectors of a list that an opening found, once cleaned, are its pictures.
use Rattle.std.proofs.Common.{◌≡◌, ℕ, ◌+◌, ◌-◌, ◌*◌, ◌/◌, ◌%◌, ◌<◌, ◌≤◌, List, [], ◌++◌, length, get_or, take, drop, replicate, sym, ap, ◌∙◌, ap₂, ⊎_elim, append-nil, mul_assoc, arith, length-drop, length-take, take_all, take-take}
use lib.Seq.{take-append-add, drop-append-le, drop-append-add}
use Rattle.std.proofs.lemmas.List.{length-take-le, drop-take, take-replicate, drop-replicate}
use Rattle.std.proofs.lemmas.Bool.{cases_lt}
use Rattle.device.specs.Disk.{Bytes}
use Rattle.layout.specs.declared.exception.Exception.{Exception}
use Rattle.layout.specs.Chunks.{per_area, area_start}
use Rattle.layout.specs.Entries.{nothing, entry_from, pic}
use Rattle.store.specs.declared.shape.Shape.{Shape}
use Rattle.store.specs.Image.{cleaned}
use Rattle.store.specs.Judge.{width}
use Rattle.recovery.specs.Readings.{Image, area_bytes}
use Rattle.recovery.proofs.Learns.{Learnt}
use Rattle.recovery.proofs.Sectors.{Small, sector_pic}
use Rattle.recovery.proofs.Sheets.{length_area, sector_of_area, entry_in_area}

-- sector q of cleaned bytes, from the one with the end entry on
piece : (l b : Bytes) (c p q : ℕ) → length l ≡ 512 * c → p < 32 * c → q < c → p < 32 * q + 32 → take 512 (drop (512 * q) l) ≡ b → take 512 (drop (512 * q) (cleaned l p)) ≡ take (16 * (p - 32 * q)) b ++ replicate (512 - 16 * (p - 32 * q)) 0
piece l b c p q size inside low high is =
    let front : length (take (16 * p) l) ≡ 16 * p = length-take-le (16 * p) l (omega arith) in
    let zs : Bytes = replicate (length l - 16 * p) 0 in
    ⊎_elim
    (λ past.
    let none : p - 32 * q ≡ 0 = omega (arith, past) in
    let at : 512 * q ≡ length (take (16 * p) l) + (512 * q - 16 * p) = omega (arith, past) in
    ap (λ n. take 512 (drop n (take (16 * p) l ++ zs))) at
    ∙ ap (take 512) (drop-append-add (take (16 * p) l) zs (512 * q - 16 * p) ∙ drop-replicate (512 * q - 16 * p) (length l - 16 * p) 0)
    ∙ take-replicate 512 _ 0 (omega (arith, past))
    ∙ ap (λ n. take (16 * n) b ++ replicate (512 - 16 * n) 0) (sym none))
    (λ here.
    let n = 16 * (p - 32 * q) in
    let whole : 16 * p ≡ 512 * q + n = omega (arith, here) in
    let left : drop (512 * q) (take (16 * p) l) ≡ take n (drop (512 * q) l) = ap (λ k. drop (512 * q) (take k l)) whole ∙ drop-take (512 * q) n l in
    let rest = length-drop (512 * q) l in
    let long : length (take n (drop (512 * q) l)) ≡ n = length-take-le n (drop (512 * q) l) (omega (arith, here)) in
    let all : 512 ≡ length (take n (drop (512 * q) l)) + (512 - n) = omega (arith, here) in
    ap (take 512) (drop-append-le (512 * q) (take (16 * p) l) zs (omega (arith, here)) ∙ ap (λ f. f ++ zs) left)
    ∙ ap (λ k. take k (take n (drop (512 * q) l) ++ zs)) all
    ∙ take-append-add (take n (drop (512 * q) l)) zs (512 - n)
    ∙ ap₂ ◌++◌ (sym (take-take n 512 (drop (512 * q) l) (omega (arith, here))) ∙ ap (take n) is) (take-replicate (512 - n) _ 0 (omega (arith, here))))
    (cases_lt p (32 * q))

module _ (s : Shape) (m : Image) (es : List Exception) (a p : ℕ) (learnt : Learnt s m es) (size : length es ≡ per_area (width s) * a + p) (inside : p < per_area (width s)) (long : (b q : ℕ) → per_area (width s) * b ≤ length es → q < width s → length (m (area_start (width s) b + q)) ≡ 512) (small : (b q : ℕ) → per_area (width s) * b ≤ length es → q < width s → Small (m (area_start (width s) b + q))) where
  -- a sector that reads as entries of the list, with zeros after them
  reads_pic : (b q n : ℕ) → per_area (width s) * b ≤ length es → q < width s → length (take 32 (drop (32 * (width s * b + q)) es)) ≡ n → take (16 * n) (m (area_start (width s) b + q)) ++ replicate (512 - 16 * n) 0 ≡ pic es (width s * b + q)
  reads_pic b q n here l count =
      let few = length-take 32 (drop (32 * (width s * b + q)) es) in
      let rest = length-drop (32 * (width s * b + q)) es in
      let flat = mul_assoc 32 (width s) b in
      sector_pic es (width s * b + q) n (m (area_start (width s) b + q)) count (long b q here l) (small b q here l)
      (λ r h.
      let k = 32 * q + r in
      let sector : q ≡ k / 32 = omega (arith, few) in
      let place : r ≡ k % 32 = omega (arith, few) in
      let at : per_area (width s) * b + k ≡ 32 * (width s * b + q) + r = omega arith in
      (λ i. entry_from (m (area_start (width s) b + sector i)) (16 * place i))
      ∙ sym (entry_in_area s m b (λ q l. long b q here l) k (omega (arith, few)))
      ∙ learnt.entries b k (omega (arith, few)) (omega (arith, few, rest))
      ∙ ap (λ i. get_or es i nothing) at)

  -- a sector before the one with the end entry
  pub before_end : (b q : ℕ) → q < width s → per_area (width s) * b + 32 * q + 32 ≤ length es → m (area_start (width s) b + q) ≡ pic es (width s * b + q)
  before_end b q l h =
      let flat = mul_assoc 32 (width s) b in
      let count : length (take 32 (drop (32 * (width s * b + q)) es)) ≡ 32 = length-take-le 32 (drop (32 * (width s * b + q)) es) (let rest = length-drop (32 * (width s * b + q)) es in omega arith) in
      sym (append-nil (m (area_start (width s) b + q)))
      ∙ ap (λ x. x ++ []) (sym (take_all 512 (m (area_start (width s) b + q)) (omega (arith, long b q (omega arith) l))))
      ∙ reads_pic b q 32 (omega arith) l count

  -- a cleaned sector, from the one with the end entry on
  pub from_end : (q : ℕ) → q < width s → p < 32 * q + 32 → take 512 (drop (512 * q) (cleaned (area_bytes s m a) p)) ≡ pic es (width s * a + q)
  from_end q l h =
      let flat = mul_assoc 32 (width s) a in
      let rest = length-drop (32 * (width s * a + q)) es in
      let few = length-take 32 (drop (32 * (width s * a + q)) es) in
      let count : length (take 32 (drop (32 * (width s * a + q)) es)) ≡ p - 32 * q = omega arith in
      piece (area_bytes s m a) (m (area_start (width s) a + q)) (width s) p q (length_area s m a (λ q l. long a q (omega arith) l)) inside l h (sector_of_area s m a (λ q l. long a q (omega arith) l) q l) ∙ reads_pic a q (p - 32 * q) (omega arith) l count
