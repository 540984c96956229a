-- One sector of many bytes, read and written, and a write of a plain device.
use Rattle.std.specs.Prelude.{◌≡◌, ℕ, ◌+◌, ◌-◌, ◌*◌, ◌/◌, ◌%◌, ◌^◌, ◌<◌, ◌≤◌, Bool, true, false, cond, [], ◌∷◌, ◌++◌, length, take, drop, ◌==◌, nat_lt, refl}
use Rattle.std.proofs.Common.{sym, ap, ◌∙◌, append_assoc, ⊎_elim, arith, take-append-drop, length-take, length-drop, length-append, drop-drop, length-take-le, eqb-true, ltb-true}
use Rattle.std.proofs.Math.Seq.{drop-append-add}
use Rattle.std.specs.List.{ContainsAt as Has}
use Rattle.std.proofs.lemmas.List.{take_at, drop_at, length-replicate, take-append-le, drop-append-le}
use Rattle.std.proofs.ByRecursion.{has_push_cases}
use Rattle.std.proofs.lemmas.Bool.{eq-eqb, ne_eqb, cond-true, cond-false, cases_eq, cases_lt, and_parts}
use Rattle.device.specs.Disk.{Bytes, Whole, writes, passes, put, good, Calmly, calm}
use Rattle.device.specs.Plain.{nth_sector, with_sector, fit, sectors_of, sector_of, plain}
use Rattle.device.specs.Ways.{way_here, calm_by}

front : (b : ℕ) (xs ys : Bytes) → b + 512 ≤ length xs → take 512 (drop b (xs ++ ys)) ≡ take 512 (drop b xs)
front b xs ys h =
    let inside : 512 ≤ length (drop b xs) = simp length-drop (omega arith) in
    ap (take 512) (drop-append-le b xs ys (omega arith)) ∙ take-append-le 512 (drop b xs) ys inside

module _ (all : Bytes) (s : ℕ) (bytes : Bytes) (long : length bytes ≡ 512) (within : 512 * s + 512 ≤ length all) where
  head_long : length (take (512 * s) all) ≡ 512 * s
  head_long = length-take-le (512 * s) all (omega arith)

  sector_same : nth_sector (with_sector all s bytes) s ≡ bytes
  sector_same = ap (take 512) (drop_at (take (512 * s) all) _ (512 * s) head_long) ∙ take_at bytes _ 512 long

  sector_below : (t : ℕ) → t < s → nth_sector (with_sector all s bytes) t ≡ nth_sector all t
  sector_below t h =
      let inside : 512 * t + 512 ≤ length (take (512 * s) all) = omega (arith, head_long) in
      front (512 * t) (take (512 * s) all) _ inside ∙ sym (front (512 * t) (take (512 * s) all) (drop (512 * s) all) inside) ∙ ap (λ l. nth_sector l t) (take-append-drop (512 * s) all)

  sector_above : (t : ℕ) → s < t → nth_sector (with_sector all s bytes) t ≡ nth_sector all t
  sector_above t h =
      let two = take (512 * s) all ++ bytes in
      let two_long : length two ≡ 512 * s + 512 = length-append (take (512 * s) all) bytes ∙ omega (arith, head_long) in
      let n = 512 * t - (512 * s + 512) in
      let far : 512 * t ≡ length two + n = omega arith in
      let back : (512 * s + 512) + n ≡ 512 * t = omega arith in
      ap (take 512) (ap (drop (512 * t)) (sym (append_assoc (take (512 * s) all) bytes _)) ∙ ap (λ m. drop m (two ++ drop (512 * s + 512) all)) far ∙ drop-append-add two _ n ∙ drop-drop n (512 * s + 512) all ∙ ap (λ m. drop m all) back)

  sector_after : (t : ℕ) → nth_sector (with_sector all s bytes) t ≡ cond (t == s) bytes (nth_sector all t)
  sector_after t =
      ⊎_elim
      (λ e. ap (nth_sector (with_sector all s bytes)) e ∙ sector_same ∙ sym (cond-true (t == s) _ _ (eq-eqb t s e)))
      (λ ne. ⊎_elim (λ lt. sector_below t lt) (λ ge. sector_above t (omega (arith, ge, ne))) (cases_lt t s) ∙ sym (cond-false (t == s) _ _ (ne_eqb t s ne)))
      (cases_eq t s)

  with_sector_long : length (with_sector all s bytes) ≡ length all
  with_sector_long = simp (length-append, length-drop) (omega (arith, head_long))

-- PLAIN DEVICES

module _ (n : ℕ) (is : fit n ≡ true) where
  whole_sectors : (0 < n) × ((n % 512 ≡ 0) × (n < 512 * 2 ^ 32))
  whole_sectors =
      let a = and_parts (nat_lt 0 n) _ is in
      let b = and_parts (n % 512 == 0) _ a.1 in
      (ltb-true 0 n a.0, (eqb-true (n % 512) 0 b.0, ltb-true n (512 * 2 ^ 32) b.1))

  pub sectors_fit : 512 * sectors_of n ≡ n
  sectors_fit = ap (λ k. 512 * k) (cond-true (fit n) (n / 512) 1 is) ∙ omega (arith, whole_sectors)

module _ (all : Bytes) (is : fit (length all) ≡ true) where
  pub inside_fit : (s : ℕ) → s < sectors_of (length all) → 512 * s + 512 ≤ length all
  inside_fit s h = omega (arith, sectors_fit (length all) is)

  plain_put : (s : ℕ) (bytes : Bytes) → length bytes ≡ 512 → s < sectors_of (length all) → plain (with_sector all s bytes) ≡ put (plain all) s bytes calm
  plain_put s bytes long h =
      let within = inside_fit s h in
      let same : length (with_sector all s bytes) ≡ length all = with_sector_long all s bytes long within in
      let latest : (t : ℕ) → sector_of (with_sector all s bytes) t ≡ cond (t == s) bytes (sector_of all t) =
      λ t. cond-true (fit (length (with_sector all s bytes))) _ _ (ap fit same ∙ is) ∙ sector_after all s bytes long within t ∙ ap (cond (t == s) bytes) (sym (cond-true (fit (length all)) _ _ is)) in
      λ i. record { count = sectors_of (same i); cells = λ t. record { older = []; latest = latest t i }; on = fit (same i) }

  pub plain_writes : {s : ℕ} {bytes all' : Bytes} → length bytes ≡ 512 → s < sectors_of (length all) → all' ≡ with_sector all s bytes → Calmly (writes s bytes) (plain all) (good []) (plain all')
  plain_writes {s} {bytes} long h after =
      calm_by passes (way_here (length bytes) s (plain all) _ long h ∙ cond-true (fit (length all)) _ _ is) refl (ap plain after ∙ plain_put s bytes long h)

-- the only possibility
pub only : {x b : Bytes} → Has (x ∷ []) b → x ≡ b
only {x} {b} h = ⊎_elim (λ none. absurd (let z : ◌<◌ none.0 0 = none.1 in omega arith)) (λ e. e) (has_push_cases [] x b h)

pub plain_whole : (all : Bytes) → Whole (plain all)
plain_whole all = go (fit (length all)) refl
  where
    long : (b : Bool) → fit (length all) ≡ b → (s : ℕ) → s < sectors_of (length all) → length (sector_of all s) ≡ 512
    long true is s h = let within = inside_fit all is s h in ap length (cond-true (fit (length all)) _ _ is) ∙ simp (length-take, length-drop) (omega arith)
    long false is s h = ap length (cond-false (fit (length all)) _ _ is) ∙ length-replicate {A = ℕ} 512 0

    counted : (b : Bool) → fit (length all) ≡ b → (0 < sectors_of (length all)) × (sectors_of (length all) < 2 ^ 32)
    counted true is = omega (arith, whole_sectors (length all) is, sectors_fit (length all) is)
    counted false is = let e : sectors_of (length all) ≡ 1 = cond-false (fit (length all)) _ _ is in omega arith

    go : (b : Bool) → fit (length all) ≡ b → Whole (plain all)
    go b is = record { some = (counted b is).0; few = (counted b is).1; long = λ s x h has. ap length (sym (only has)) ∙ long b is s h }
