-- Pictures of lists that differ in one exception, or are too short.
use Rattle.std.proofs.Common.{◌≡◌, ℕ, ◌+◌, ◌*◌, ◌/◌, ◌<◌, ◌≤◌, List, [], ◌∷◌, length, take, drop, replicate, sym, ap, ◌∙◌, ⊎_elim, arith, length-append, length-drop}
use lib.Seq.{take-append-le, drop-append-le}
use Rattle.std.specs.List.{flat_map}
use Rattle.std.proofs.lemmas.List.{drop_all}
use Rattle.std.proofs.lemmas.Bool.{cases_lt}
use Rattle.layout.specs.declared.exception.Exception.{Exception}
use Rattle.layout.specs.Entries.{entry, padded, pic}
use Rattle.recovery.specs.Breaks.{more}

-- past the end of a list there are zeros
pub pic_past : (es : List Exception) (j : ℕ) → length es ≤ 32 * j → pic es j ≡ replicate 512 0
pic_past es j h = ap (λ l. padded (flat_map entry (take 32 l))) (drop_all (32 * j) es h)

pub length_more : (es : List Exception) (x : Exception) → length (more es x) ≡ length es + 1
length_more es x = length-append es (x ∷ [])

-- one more exception shows in its own sector alone
module _ (es : List Exception) (x : Exception) (j : ℕ) where
  pic_before : j < length es / 32 → pic (more es x) j ≡ pic es j
  pic_before lt =
      let room : 32 ≤ length (drop (32 * j) es) = simp length-drop (omega arith) in
      ap (λ l. padded (flat_map entry l)) (ap (take 32) (drop-append-le (32 * j) es (x ∷ []) (omega arith)) ∙ take-append-le 32 (drop (32 * j) es) (x ∷ []) room)

  pic_after : length es / 32 < j → pic (more es x) j ≡ pic es j
  pic_after gt = pic_past (more es x) j (let l = length_more es x in omega arith) ∙ sym (pic_past es j (omega arith))

  pub pic_more : (j ≡ length es / 32 → ⊥) → pic (more es x) j ≡ pic es j
  pic_more ne = ⊎_elim pic_before (λ ge. pic_after (omega (arith, ge, ne))) (cases_lt j (length es / 32))
