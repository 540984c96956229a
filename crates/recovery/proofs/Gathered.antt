-- The bytes of several sectors read in a row, and their parts.
use Rattle.std.proofs.Common.{◌≡◌, ℕ, zero, suc, ◌+◌, ◌-◌, ◌*◌, ◌<◌, ◌≤◌, [], ◌++◌, length, take, drop, sym, refl, ap, ◌∙◌, ap₂, append_assoc, append-nil, arith, length-append, take-take}
use Rattle.std.specs.List.{between}
use Rattle.std.proofs.lemmas.List.{take_at, drop_at, drop-drop}
use Rattle.std.proofs.lemmas.Slice.{between_is}
use Rattle.device.specs.Disk.{Bytes}
use Rattle.layout.specs.Entries.{entry_from}
use Rattle.layout.specs.Numbers.{value}
use Rattle.recovery.specs.Readings.{Image, gathered}

-- part i of some bytes, one sector long
abbrev pub part : Bytes → ℕ → Bytes
part bytes i = take 512 (drop (512 * i) bytes)

-- what is there already stands in front
gathered_front : (m : Image) (n s : ℕ) (sofar : Bytes) → gathered m s n sofar ≡ sofar ++ gathered m s n []
gathered_front m zero s sofar = sym (append-nil sofar)
gathered_front m (suc n) s sofar = gathered_front m n (s + 1) (sofar ++ m s) ∙ append_assoc sofar (m s) (gathered m (s + 1) n []) ∙ ap (λ b. sofar ++ b) (sym (gathered_front m n (s + 1) (m s)))

-- n sectors from s on have 512 bytes each
abbrev pub Long : Image → ℕ → ℕ → Type 0
Long m s n = (i : ℕ) → i < n → length (m (s + i)) ≡ 512

first_long : (m : Image) (n s : ℕ) → Long m s (suc n) → length (m s) ≡ 512
first_long m n s long = ap (λ t. length (m t)) (let z : s ≡ s + 0 = omega arith in z) ∙ long 0 (omega arith)

rest_long : (m : Image) (n s : ℕ) → Long m s (suc n) → Long m (s + 1) n
rest_long m n s long i l = ap (λ t. length (m t)) (let z : s + 1 + i ≡ s + suc i = omega arith in z) ∙ long (suc i) (omega arith)

-- their bytes, and each part of them
pub length_gathered : (m : Image) (n s : ℕ) → Long m s n → length (gathered m s n []) ≡ 512 * n
length_gathered m zero s long = refl
length_gathered m (suc n) s long =
    let here = first_long m n s long in
    let later = length_gathered m n (s + 1) (rest_long m n s long) in
    ap length (gathered_front m n (s + 1) (m s)) ∙ length-append (m s) (gathered m (s + 1) n []) ∙ omega arith

pub part_gathered : (m : Image) (n s i : ℕ) → Long m s n → i < n → part (gathered m s n []) i ≡ m (s + i)
part_gathered m zero s i long l = absurd (omega arith)
part_gathered m (suc n) s zero long l =
    ap (take 512) (gathered_front m n (s + 1) (m s)) ∙ take_at (m s) (gathered m (s + 1) n []) 512 (first_long m n s long) ∙ ap m (let z : s ≡ s + 0 = omega arith in z)
part_gathered m (suc n) s (suc i) long l =
    let past : drop (512 * suc i) (m s ++ gathered m (s + 1) n []) ≡ drop (512 * i) (gathered m (s + 1) n []) =
    ap (λ k. drop k (m s ++ gathered m (s + 1) n [])) (let z : 512 * suc i ≡ 512 + 512 * i = omega arith in z) ∙ sym (drop-drop (512 * i) 512 _) ∙ ap (drop (512 * i)) (drop_at (m s) (gathered m (s + 1) n []) 512 (first_long m n s long)) in
    ap (λ b. take 512 (drop (512 * suc i) b)) (gathered_front m n (s + 1) (m s)) ∙ ap (take 512) past ∙ part_gathered m n (s + 1) i (rest_long m n s long) (omega arith) ∙ ap m (let z : s + 1 + i ≡ s + suc i = omega arith in z)

-- an entry inside a part of some bytes
part_between : (l : Bytes) (k i j : ℕ) → i ≤ j → j ≤ 512 → between i j (take 512 (drop k l)) ≡ between (k + i) (k + j) l
part_between l k i j le few =
    let span : j - i ≡ k + j - (k + i) = omega arith in
    between_is (take 512 (drop k l)) i j ∙ ap (drop i) (take-take j 512 (drop k l) few) ∙ sym (between_is (drop k l) i j) ∙ ap₂ (λ n r. take n r) span (drop-drop i k l)

pub entry_by : (b b' : Bytes) (i i' : ℕ) → between i (i + 8) b ≡ between i' (i' + 8) b' → between (i + 8) (i + 8 + 8) b ≡ between (i' + 8) (i' + 8 + 8) b' → entry_from b i ≡ entry_from b' i'
entry_by b b' i i' old new = λ j. record { old = value (old j); new = value (new j) }

pub part_entry : (l : Bytes) (k i : ℕ) → i + 16 ≤ 512 → entry_from (take 512 (drop k l)) i ≡ entry_from l (k + i)
part_entry l k i few =
    let a : k + (i + 8) ≡ k + i + 8 = omega arith in
    let b : k + (i + 8 + 8) ≡ k + i + 8 + 8 = omega arith in
    entry_by (take 512 (drop k l)) l i (k + i) (part_between l k i (i + 8) (omega arith) (omega arith) ∙ ap (λ n. between (k + i) n l) a) (part_between l k (i + 8) (i + 8 + 8) (omega arith) (omega arith) ∙ ap₂ (λ n m. between n m l) a b)
