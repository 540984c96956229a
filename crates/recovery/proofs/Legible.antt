-- What a store writes into its areas are bytes.
use Rattle.std.proofs.Common.{◌≡◌, ℕ, zero, suc, ◌+◌, ◌-◌, ◌*◌, ◌/◌, ◌<◌, List, [], ◌∷◌, ◌++◌, length, take, drop, replicate, subst, arith}
use Rattle.std.specs.List.{flat_map}
use Rattle.std.proofs.ByRecursion.{All-append, All-take, All-drop}
use Rattle.device.specs.Disk.{Bytes}
use Rattle.layout.specs.declared.exception.Exception.{Exception}
use Rattle.layout.specs.Entries.{entry, pic}
use Rattle.layout.specs.Numbers.{le}
use Rattle.store.specs.Image.{cleaned}
use Rattle.store.specs.Scanning.{Ending}
use Rattle.store.specs.Steps.{cleaning}
use Rattle.recovery.specs.Readings.{Image, gathered}
use Rattle.recovery.proofs.Allowed.{Writes, cleaning_writes}
use Rattle.recovery.proofs.Sectors.{Small}

joined_small : (xs ys : Bytes) → Small xs → Small ys → Small (xs ++ ys)
joined_small = All-append (λ b. b < 256)

zeros_small : (n : ℕ) → Small (replicate n 0)
zeros_small zero = tt
zeros_small (suc n) = (omega arith, zeros_small n)

-- PICTURES

number_small : (w n : ℕ) → Small (le w n)
number_small zero n = tt
number_small (suc w) n = (omega arith, number_small w (n / 256))

entries_small : (es : List Exception) → Small (flat_map entry es)
entries_small [] = tt
entries_small (x ∷ xs) = joined_small (entry x) (flat_map entry xs) (joined_small (le 8 x.old) (le 8 x.new) (number_small 8 x.old) (number_small 8 x.new)) (entries_small xs)

pub pic_small : (es : List Exception) (j : ℕ) → Small (pic es j)
pic_small es j = let part = take 32 (drop (32 * j) es) in joined_small (flat_map entry part) (replicate (512 - length (flat_map entry part)) 0) (entries_small part) (zeros_small _)

-- CLEANING

pub gathered_small : (m : Image) (n s : ℕ) (sofar : Bytes) → Small sofar → ((q : ℕ) → q < n → Small (m (s + q))) → Small (gathered m s n sofar)
gathered_small m zero s sofar h each = h
gathered_small m (suc n) s sofar h each =
    let here : s + 0 ≡ s = omega arith in
    gathered_small m n (s + 1) (sofar ++ m s) (joined_small sofar (m s) h (subst (λ t. Small (m t)) here (each 0 (omega arith))))
    (λ q l. let at : s + suc q ≡ (s + 1) + q = omega arith in subst (λ t. Small (m t)) at (each (suc q) (omega arith)))

-- where bytes are allowed, cleaning writes what is allowed
pub cleaning_small : (A : ℕ → Bytes → Type 0) → ((s : ℕ) (b : Bytes) → Small b → A s b) → (c : ℕ) (x : Ending) → Small x.bytes → Writes A (cleaning c x)
cleaning_small A ok c x h =
    let clean : Small (cleaned x.bytes x.place) = joined_small (take (16 * x.place) x.bytes) _ (All-take _ (16 * x.place) x.bytes h) (zeros_small _) in
    let rest : Small (drop (512 * (x.place / 32)) (cleaned x.bytes x.place)) = All-drop _ _ _ clean in
    cleaning_writes A c x (λ i l. ok _ _ (All-take _ 512 _ (All-drop _ (512 * i) _ rest)))
