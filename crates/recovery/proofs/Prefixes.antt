-- A list's beginning: an opening takes it too, and its pictures.
use Rattle.std.proofs.Common.{◌≡◌, ℕ, ◌+◌, ◌-◌, ◌*◌, ◌/◌, ◌<◌, ◌≤◌, List, length, get_or, take, drop, sym, ap, ◌∙◌, ap₂, arith, take-take}
use Rattle.std.specs.List.{flat_map}
use Rattle.std.proofs.lemmas.List.{drop-take, get_or-take, length-take-le}
use Rattle.std.proofs.ByRecursion.{All-take}
use Rattle.layout.specs.declared.chunk.ChunkSize.{ChunkSize}
use Rattle.layout.specs.declared.exception.Exception.{Exception}
use Rattle.layout.specs.Chunks.{per_area}
use Rattle.layout.specs.Entries.{nothing, entry, padded, pic, Fits}
use Rattle.store.specs.declared.shape.Shape.{Shape}
use Rattle.store.specs.Image.{Sizes}
use Rattle.store.specs.Judge.{width, damaged}
use Rattle.recovery.specs.Holding.{Sound}
use Rattle.recovery.specs.Standing.{Listed}

module _ (es : List Exception) (i : ℕ) (few : i ≤ length es) where
  pub long_take : length (take i es) ≡ i
  long_take = length-take-le i es few

  pub item_take : (p : ℕ) → p < i → get_or (take i es) p nothing ≡ get_or es p nothing
  item_take p h = get_or-take i es p nothing h

  sound_take : (s : Shape) → Sound s es → Sound s (take i es)
  sound_take s ok = record {
    few = let l = long_take in omega (arith, ok.few);
    some = λ p h z. let l = long_take in ok.some p (omega arith) (ap (λ x. x.new) (sym (item_take p (omega arith))) ∙ z);
    whole = λ a k inside h.
        let l = long_take in
        let p = per_area (width s) * a + k in
        ap₂ (damaged s a k) (take-take p i es (omega arith)) (item_take p (omega arith)) ∙ ok.whole a k inside (omega arith);
  }

  pub listed_take : (z : Sizes) (size : ChunkSize) → Listed z size es → Listed z size (take i es)
  listed_take z size l = record { shape = l.shape; sound = sound_take _ l.sound; fits = All-take Fits i es l.fits }

-- sectors that a beginning fills are the same
pub pic_take : (es : List Exception) (k j : ℕ) → j < k / 32 → pic (take k es) j ≡ pic es j
pic_take es k j h =
    let room : 32 * j + (k - 32 * j) ≡ k = omega arith in
    ap (λ l. padded (flat_map entry l)) (ap (λ n. take 32 (drop (32 * j) (take n es))) (sym room) ∙ ap (take 32) (drop-take (32 * j) (k - 32 * j) es) ∙ take-take 32 (k - 32 * j) (drop (32 * j) es) (omega arith))
