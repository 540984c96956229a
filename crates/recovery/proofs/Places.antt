-- Where the sectors of areas stand: no two in one place, and none at the header.
use Rattle.std.proofs.Common.{◌≡◌, ℕ, ◌+◌, ◌-◌, ◌*◌, ◌/◌, ◌%◌, ◌<◌, ◌≤◌, sym, ap, ◌∙◌, ap₂, ⊎_elim, mul-le-mul_right, mod-lt, mul_comm, mul-le-mul_left, mul-zero, mul-one, mul-add, arith}
use native.Mathlib.Nat.{eq_of_mul-eq-mul_left, div-add-mod, mul-sub}
use Rattle.std.proofs.lemmas.Bool.{cases_lt}
use lib.Arith.{digits_div, digits_mod}
use Rattle.layout.specs.Chunks.{per_area, area_chunk, area_start, area_place}

module _ (c a q a' q' : ℕ) (h : q < c) (h' : q' < c) (is : area_start c a + q ≡ area_start c a' + q') where
  pub same_sector : q ≡ q'
  same_sector = sym (digits_mod (area_chunk c a) h) ∙ ap (λ n. n % c) is ∙ digits_mod (area_chunk c a') h'

  pub same_area : a ≡ a'
  same_area =
      let chunk : area_chunk c a ≡ area_chunk c a' = sym (digits_div (area_chunk c a) h) ∙ ap (λ n. n / c) is ∙ digits_div (area_chunk c a') h' in
      eq_of_mul-eq-mul_left (per_area c + 1) (omega arith) a a' (omega arith)

pub not_header : (c a q : ℕ) → q < c → area_start c a + q ≡ 0 → ⊥
not_header c a q h is = let le : 1 * c ≤ area_chunk c a * c = mul-le-mul_right c (omega arith) in omega arith

-- sector j of all areas' sectors, by its area and its place there
pub placed : (c j : ℕ) → 0 < c → c * (j / c) + j % c ≡ j
placed c j h = div-add-mod j c

-- exception n is the last of its area where the next area begins with exception n + 1
module _ (e a n : ℕ) (some : 0 < e) (is : e * a ≡ n + 1) where
  pos : 0 < a
  pos = ⊎_elim (λ h. h) (λ none. absurd (let zero_times : e * a ≡ e * 0 = ap (λ k. e * k) (let z : a ≡ 0 = omega arith in z) in omega (arith, zero_times, mul-zero e))) (cases_lt 0 a)

  split : n ≡ (a - 1) * e + (e - 1)
  split =
      let le : e * 1 ≤ e * a = mul-le-mul_left e pos in
      omega (arith, mul_comm (a - 1) e, mul-sub e a 1, mul-one e)

  pub fills_mod : n % e ≡ e - 1
  fills_mod = ap (λ k. k % e) split ∙ digits_mod (a - 1) (omega arith)

  pub fills_div : n / e + 1 ≡ a
  fills_div =
      let low : n / e ≡ a - 1 = ap (λ k. k / e) split ∙ digits_div (a - 1) (omega arith) in
      omega (arith, pos)

-- the next area lies past a list
pub beyond : (e n a : ℕ) → 0 < e → n / e + 1 ≡ a → e * a ≤ n → ⊥
beyond e n a some is h =
    let same : e * a ≡ e * (n / e + 1) = ap (λ k. e * k) (sym is) in
    omega (arith, mul-add e (n / e) 1, mul-one e, div-add-mod n e, mod-lt n some)

-- sector j, by its area and its place there, is where it is placed
pub placed_at : (c a q j : ℕ) → q < c → c * a + q ≡ j → area_start c a + q ≡ area_place c j
placed_at c a q j h is =
    let flat : a * c + q ≡ j = ap (λ k. k + q) (mul_comm a c) ∙ is in
    let area : a ≡ j / c = sym (digits_div a h) ∙ ap (λ k. k / c) flat in
    let sector : q ≡ j % c = sym (digits_mod a h) ∙ ap (λ k. k % c) flat in
    ap₂ (λ x y. area_start c x + y) area sector
