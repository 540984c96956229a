-- The scan, one area and one entry further on.
use Rattle.std.proofs.Common.{◌≡◌, ℕ, suc, ◌+◌, ◌-◌, ◌*◌, ◌<◌, ◌≤◌, true, false, cond, eqb, leb, List, [], ◌∷◌, ◌++◌, length, sym, ap, ◌∙◌, subst, arith}
use Rattle.std.proofs.lemmas.Bool.{eq-eqb, ne_eqb, cond-true, cond-false}
use Rattle.device.specs.Disk.{Bytes, Disk, Told, refused, Refusal}
use Rattle.device.specs.Plans.{Plan, done, bind, onward, raised, gathering, Filled, reading_into, one, Runs}
use Rattle.device.proofs.Gathers.{handed_by, read_gathers}
use Rattle.device.proofs.Steps.{Comes, same, still, ends_as, ◌⨾◌, ran}
use Rattle.layout.specs.declared.exception.Exception.{Exception}
use Rattle.layout.specs.Chunks.{per_area, area_start}
use Rattle.layout.specs.Entries.{nth_entry}
use Rattle.store.specs.declared.shape.Shape.{Shape}
use Rattle.store.specs.Judge.{width, damaged}
use Rattle.store.specs.Refusals.{StoreRefusal, because, up}
use Rattle.store.specs.Scanning.{Parsed, full, over, many, wrong, judged, parsed, Ending, concluded, scanning}

-- what an area came to, and then the next areas
abbrev pub ruling : Shape → ℕ → Bytes → Parsed → Plan (Unit {0}) (Told StoreRefusal Ending)
ruling s a bytes p = concluded done a bytes p (scanning s (65 - (a + 1)) (a + 1))

-- an area was read, and the rest of the scan goes by its bytes from entry k on, after the exceptions es
abbrev pub judging : Shape → ℕ → Bytes → ℕ → List Exception → Plan (Unit {0}) (Told StoreRefusal Ending)
judging s a bytes k es = ruling s a bytes (parsed s a bytes (per_area (width s) - k) k es)

abbrev pub scanning_on : Shape → ℕ → List Exception → Told Refusal Bytes → Plan (Unit {0}) (Told StoreRefusal Ending)
scanning_on s a es t = onward (raised up t) (λ bytes. ruling s a bytes (parsed s a bytes (per_area (width s)) 0 es))

module _ (s : Shape) (a : ℕ) (es : List Exception) where
  scanning_more : a < 65 → scanning s (65 - a) a es ≡ bind (gathering (area_start (width s) a) (width s) []) (scanning_on s a es)
  unfolding scanning
  scanning_more h = let one_less : 65 - a ≡ suc (65 - (a + 1)) = omega arith in ap (λ m. scanning s m a es) one_less

  pub scanning_none : 65 ≤ a → scanning s (65 - a) a es ≡ done (refused (because 14 0 0))
  unfolding scanning
  scanning_none h = let none : 65 - a ≡ 0 = omega arith in ap (λ m. scanning s m a es) none

-- area a has been read, and then its entries have been looked at up to some place
module _ {p₀ : Plan (Unit {0}) (Told StoreRefusal Ending)} {d₀ : Disk} (s : Shape) (a : ℕ) where
  pub got : (es : List Exception) (first : ℕ) (buffer : Bytes) {f : Filled} {d d' : Disk} → Comes one p₀ d₀ (scanning s (65 - a) a es) d → a < 65 → first ≡ area_start (width s) a → length buffer ≡ 512 * width s → Runs one (reading_into first buffer) d f d' → Comes one p₀ d₀ (scanning_on s a es (handed_by f)) d'
  got es first buffer {f} {d} {d'} inv h is long r =
      inv ⨾ same (scanning_more s a es h) ⨾ ran _ (subst (λ n. Runs one (gathering n (width s) []) d (handed_by f) d') is (read_gathers first buffer (width s) long r))

  pub so : (bytes : Bytes) {d : Disk} {p q : Parsed} → Comes one p₀ d₀ (ruling s a bytes p) d → p ≡ q → Comes one p₀ d₀ (ruling s a bytes q) d
  so bytes inv e = inv ⨾ same (ap (ruling s a bytes) e)

pub none_judged : (s : Shape) (a : ℕ) (bytes : Bytes) (es : List Exception) → parsed s a bytes (per_area (width s)) 0 es ≡ parsed s a bytes (per_area (width s) - 0) 0 es
none_judged s a bytes es = let same : per_area (width s) ≡ per_area (width s) - 0 = omega arith in ap (λ n. parsed s a bytes n 0 es) same

pub closes : {p₀ : Plan (Unit {0}) (Told StoreRefusal Ending)} {d₀ d d' : Disk} {x y : Told StoreRefusal Ending} → Comes one p₀ d₀ (done x) d → y ≡ x → d ≡ d' → Runs one p₀ d₀ y d'
closes c e f = ends_as e (c ⨾ still f)

module _ (s : Shape) (a : ℕ) (bytes : Bytes) (k : ℕ) (es : List Exception) {e : Exception} (is : e ≡ nth_entry bytes k) (h : k < per_area (width s)) where
  step : parsed s a bytes (per_area (width s) - k) k es ≡ judged s a k es e (parsed s a bytes (per_area (width s) - (k + 1)) (k + 1) (es ++ (e ∷ [])))
  step =
      let one_less : per_area (width s) - k ≡ suc (per_area (width s) - (k + 1)) = omega arith in
      ap (λ m. parsed s a bytes m k es) one_less ∙ ap (λ x. judged s a k es x (parsed s a bytes (per_area (width s) - (k + 1)) (k + 1) (es ++ (x ∷ [])))) (sym is)

  pub at_end : e.new ≡ 0 → parsed s a bytes (per_area (width s) - k) k es ≡ over es k
  at_end z = step ∙ cond-true (eqb e.new 0) _ _ (eq-eqb _ _ z)

  module _ (some : e.new ≡ 0 → ⊥) where
    begun : parsed s a bytes (per_area (width s) - k) k es ≡ cond (leb 2048 (length es)) many (cond (damaged s a k es e) (wrong k) (parsed s a bytes (per_area (width s) - (k + 1)) (k + 1) (es ++ (e ∷ []))))
    begun = step ∙ cond-false (eqb e.new 0) _ _ (ne_eqb _ _ some)

    pub at_many : leb 2048 (length es) ≡ true → parsed s a bytes (per_area (width s) - k) k es ≡ many
    at_many l = begun ∙ cond-true (leb 2048 (length es)) _ _ l

    pub at_damage : leb 2048 (length es) ≡ false → damaged s a k es e ≡ true → parsed s a bytes (per_area (width s) - k) k es ≡ wrong k
    at_damage l d = begun ∙ cond-false (leb 2048 (length es)) _ _ l ∙ cond-true (damaged s a k es e) _ _ d

    pub at_next : leb 2048 (length es) ≡ false → damaged s a k es e ≡ false → parsed s a bytes (per_area (width s) - k) k es ≡ parsed s a bytes (per_area (width s) - (k + 1)) (k + 1) (es ++ (e ∷ []))
    at_next l d = begun ∙ cond-false (leb 2048 (length es)) _ _ l ∙ cond-false (damaged s a k es e) _ _ d

pub at_last : (s : Shape) (a : ℕ) (bytes : Bytes) (k : ℕ) (es : List Exception) → per_area (width s) ≤ k → parsed s a bytes (per_area (width s) - k) k es ≡ full es
at_last s a bytes k es h = let none : per_area (width s) - k ≡ 0 = omega arith in ap (λ m. parsed s a bytes m k es) none
