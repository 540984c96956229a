-- What std says of a number's bytes is `le`, at each width.
use Rattle.std.proofs.Common.{◌≡◌, ℕ, zero, suc, ◌/◌, ◌%◌, ◌^◌, ◌∷◌, sym, refl, ap, ◌∙◌, ap₂, pow-suc}
use Rattle.std.proofs.Math.Nat.{div-one, div-div-eq-div-mul}
use Rattle.std.specs.Int.{Width, byte_len, byte_at, bytes_low_first, to_le_bytes}
use Rattle.layout.specs.Numbers.{le}

byte_at-le : (i n : ℕ) → byte_at i n ≡ n / 256 ^ i % 256
byte_at-le zero n = ap (λ m. m % 256) (sym (div-one n))
byte_at-le (suc i) n = refl

bytes_low_first-le : (i k n : ℕ) → bytes_low_first i k n ≡ le k (n / 256 ^ i)
bytes_low_first-le i zero n = refl
bytes_low_first-le i (suc k) n =
    let next : n / 256 ^ suc i ≡ n / 256 ^ i / 256 = ap (λ m. n / m) (pow-suc 256 i) ∙ sym (div-div-eq-div-mul n (256 ^ i) 256) in
    ap₂ (λ b bs. b ∷ bs) (byte_at-le i n) (bytes_low_first-le (suc i) k n ∙ ap (le k) next)

pub to_le_bytes-le : (w : Width) (n : ℕ) → to_le_bytes w n ≡ le (byte_len w) n
to_le_bytes-le w n = bytes_low_first-le 0 (byte_len w) n ∙ ap (le (byte_len w)) (div-one n)
