-- Bytes written part by part.
use Rattle.std.proofs.Common.{◌≡◌, ℕ, ◌*◌, ◌≤◌, Bool, List, [], ◌∷◌, ◌++◌, length, take, replicate, refl, ap, ◌∙◌, arith}
use Rattle.std.proofs.lemmas.List.{length-take-le}
use borrow.Rule.Slice.PartMut.{put_mid}
use Rattle.std.specs.List.{flat_map}
use Rattle.layout.specs.declared.exception.Exception.{Exception}
use Rattle.layout.specs.Entries.{entry}
use Rattle.layout.specs.Headers.{magic, flag, header}
use Rattle.layout.specs.Numbers.{le}

pub header_made : {p q r s : List ℕ} (valid : Bool) (chunk : ℕ) → p ≡ magic → q ≡ le 4 (flag valid) → r ≡ le 4 1 → s ≡ le 4 chunk → put_mid 12 4 (put_mid 8 4 (put_mid 4 4 (p ++ replicate 508 0) q) r) s ≡ header valid chunk
header_made valid chunk a b c d = λ i. put_mid 12 4 (put_mid 8 4 (put_mid 4 4 (a i ++ replicate 508 0) (b i)) (c i)) (d i)

pub entry_made : {p q : List ℕ} (e : Exception) → p ≡ le 8 e.old → q ≡ le 8 e.new → put_mid 8 8 (p ++ replicate 8 0) q ≡ entry e
entry_made e a b = λ i. put_mid 8 8 (a i ++ replicate 8 0) (b i)

pub length_entries : (es : List Exception) → length (flat_map entry es) ≡ 16 * length es
length_entries [] = refl
length_entries (e ∷ es) = let h = length_entries es in omega arith

pub length_entries-take : (es : List Exception) (k : ℕ) → k ≤ length es → length (flat_map entry (take k es)) ≡ 16 * k
length_entries-take es k h = length_entries (take k es) ∙ ap (λ n. 16 * n) (length-take-le k es h)
