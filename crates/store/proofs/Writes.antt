-- Plans written another way, and the plans of loops one turn at a time.
use Rattle.std.proofs.Common.{◌≡◌, ℕ, suc, ◌+◌, ◌-◌, ◌*◌, ◌/◌, ◌<◌, ◌≤◌, true, false, List, [], ◌++◌, length, take, drop, replicate, refl, sym, ap, ◌∙◌, subst, ap₂, subst₂, append-nil, arith, length-append, length-drop, length-take-le}
use borrow.Rule.Slice.PartMut.{put_mid}
use lib.ListN.{length-replicate}
use Rattle.std.proofs.lemmas.List.{drop_all, take_all}
use Rattle.std.proofs.lemmas.Bool.{cond-true, cond-false}
use Rattle.device.specs.Disk.{Bytes, Disk, Told, good, refused, Refusal, writes, Called}
use Rattle.device.specs.Plans.{Runs, one, call, bind, onward, then, Steps, zeroing, spreading, writing_from}
use Rattle.device.proofs.Gathers.{writes_spread}
use Rattle.layout.specs.declared.exception.Exception.{Exception}
use Rattle.layout.specs.declared.chunk.ChunkSize.{ChunkSize}
use Rattle.layout.specs.Chunks.{sectors, area_start, area_place}
use Rattle.layout.specs.Entries.{pic}
use Rattle.store.specs.Image.{all_zero, cleaned}
use Rattle.store.specs.Scanning.{Ending}
use Rattle.store.specs.Steps.{finished, writing, flushing, storing, unwinding, dropping, cleaning}

pub written : (s : ℕ) (bytes : Bytes) {s' : ℕ} {bytes' : Bytes} {d e : Disk} {t : Told Refusal Bytes} → s ≡ s' → bytes ≡ bytes' → Called (writes s bytes) d t e → Called (writes s' bytes') d t e
written s bytes {d = d} {e = e} {t = t} a b r = subst₂ (λ x y. Called (writes x y) d t e) a b r

-- one sector made to last is so many sectors made to last
onward_onward : (k : Steps) (t : Told Refusal Bytes) → bind (onward t (λ _. finished)) (λ u. onward u (λ _. k)) ≡ onward t (λ _. k)
onward_onward k (good b) = refl
onward_onward k (refused f) = refl

storing_one : (s : ℕ) (bytes : Bytes) → length bytes ≡ 512 → then (spreading s 1 bytes) (λ _. flushing finished) ≡ storing s bytes
storing_one s bytes long = λ i. call tt (writes s (take_all 512 bytes (omega (arith, long)) i)) (λ t. onward_onward (flushing finished) t i)

module _ {d e : Disk} {t : Told Refusal (Unit {0})} where
  pub zeroed : (s n : ℕ) {s' n' : ℕ} → s ≡ s' → n ≡ n' → Runs one (zeroing s n) d t e → Runs one (zeroing s' n') d t e
  zeroed s n a b r = subst₂ (λ x y. Runs one (zeroing x y) d t e) a b r

  pub spread : (s : ℕ) (bytes : Bytes) (s' : ℕ) (bytes' : Bytes) (n : ℕ) → s ≡ s' → bytes ≡ bytes' → length bytes' ≡ 512 * n → Runs one (then (writing_from s bytes) (λ _. flushing finished)) d t e → Runs one (then (spreading s' n bytes') (λ _. flushing finished)) d t e
  spread s bytes s' bytes' n a b long r = subst (λ p. Runs one (then p (λ _. flushing finished)) d t e) (ap₂ writing_from a b ∙ writes_spread s' bytes' n long) r

  pub stored : (s : ℕ) (bytes : Bytes) (s' : ℕ) (bytes' : Bytes) → s ≡ s' → bytes ≡ bytes' → length bytes' ≡ 512 → Runs one (then (writing_from s bytes) (λ _. flushing finished)) d t e → Runs one (storing s' bytes') d t e
  stored s bytes s' bytes' a b long r = subst (λ p. Runs one p d t e) (storing_one s' bytes' long) (spread s bytes s' bytes' 1 a b (omega (arith, long)) r)

-- sectors downwards, from one above the highest
module _ (c : ℕ) (kept : List Exception) (low j : ℕ) where
  pub unwinding_more : low < j → unwinding c kept low (j - low) ≡ writing (area_place c (j - 1)) (pic kept (j - 1)) (unwinding c kept low (j - 1 - low))
  unwinding_more h =
      let turn : j - low ≡ suc (j - 1 - low) = omega arith in
      let at : low + (j - 1 - low) ≡ j - 1 = omega arith in
      ap (unwinding c kept low) turn ∙ ap (λ k. writing (area_place c k) (pic kept k) (unwinding c kept low (j - 1 - low))) at

  pub unwinding_none : j ≤ low → unwinding c kept low (j - low) ≡ finished
  unwinding_none h = let none : j - low ≡ 0 = omega arith in ap (unwinding c kept low) none

-- the steps of dropping, by the list that is kept and the sectors between
pub dropping_from : (c : ℕ) (es kept : List Exception) (left low high : ℕ) → left < length es → kept ≡ take left es → low ≡ left / 32 → high ≡ (length es - 1) / 32 + 1 → dropping c (take left es) (length es) ≡ then (unwinding c kept low (high - low)) (λ _. flushing finished)
dropping_from c es kept left low high less is a b =
    let first : length (take left es) / 32 ≡ low = ap (λ k. k / 32) (length-take-le left es (omega (arith, less))) ∙ sym a in
    λ i. then (unwinding c (sym is i) (first i) (sym b i - first i)) (λ _. flushing finished)

-- CLEANING

pub length_cleaned : (bytes : Bytes) (k : ℕ) → 16 * k ≤ length bytes → length (cleaned bytes k) ≡ length bytes
length_cleaned bytes k h = length-append (take (16 * k) bytes) _ ∙ ap₂ (λ a b. a + b) (length-take-le (16 * k) bytes h) (length-replicate {A = ℕ} (length bytes - 16 * k) 0) ∙ omega arith

module _ (c : ℕ) (e : Ending) where
  pub cleaning_none : all_zero (drop (16 * e.place) e.bytes) ≡ true → cleaning c e ≡ finished
  cleaning_none h = cond-true (all_zero (drop (16 * e.place) e.bytes)) _ _ h

  pub cleaning_some : all_zero (drop (16 * e.place) e.bytes) ≡ false → cleaning c e ≡ then (spreading (area_start c e.area + e.place / 32) (c - e.place / 32) (drop (512 * (e.place / 32)) (cleaned e.bytes e.place))) (λ _. flushing finished)
  cleaning_some h = cond-false (all_zero (drop (16 * e.place) e.bytes)) _ _ h

-- cleaning, with the size of chunks written another way
pub resized : {a b : ChunkSize} (x : Ending) {d e : Disk} {t : Told Refusal (Unit {0})} → a ≡ b → Runs one (cleaning (sectors a) x) d t e → Runs one (cleaning (sectors b) x) d t e
resized x {d} {e} {t} is r = subst (λ size. Runs one (cleaning (sectors size) x) d t e) is r

-- the part of a slice from a place on
pub rest_all : {X : Type 0} (a : ℕ) (xs : List X) → take (length xs - a) (drop a xs) ≡ drop a xs
rest_all a xs = take_all (length xs - a) (drop a xs) (simp length-drop (omega arith))

pub cleared : (bytes ys : Bytes) (k : ℕ) → ys ≡ replicate (length (take (length bytes - 16 * k) (drop (16 * k) bytes))) 0 → put_mid (16 * k) (length bytes - 16 * k) bytes ys ≡ cleaned bytes k
cleared bytes ys k is =
    let size : length (take (length bytes - 16 * k) (drop (16 * k) bytes)) ≡ length bytes - 16 * k = ap length (rest_all (16 * k) bytes) ∙ length-drop (16 * k) bytes in
    let none : drop (length bytes - 16 * k) (drop (16 * k) bytes) ≡ [] = drop_all _ (drop (16 * k) bytes) (simp length-drop (omega arith)) in
    ap₂ (λ y z. take (16 * k) bytes ++ (y ++ z)) (is ∙ ap (λ n. replicate {A = ℕ} n 0) size) none ∙ ap (λ l. take (16 * k) bytes ++ l) (append-nil _)

-- the sectors from the end entry's on
module _ (c : ℕ) (bytes : Bytes) (place : ℕ) (size : length bytes ≡ 512 * c) (inside : place < 32 * c) where
  pub tail_long : length (drop (512 * (place / 32)) (cleaned bytes place)) ≡ 512 * (c - place / 32)
  tail_long = let h = length_cleaned bytes place (omega arith) in simp length-drop (omega arith)

  pub tail_is : {now : Bytes} → now ≡ cleaned bytes place → take (length now - 512 * (place / 32)) (drop (512 * (place / 32)) now) ≡ drop (512 * (place / 32)) (cleaned bytes place)
  tail_is {now} is = rest_all (512 * (place / 32)) now ∙ ap (drop (512 * (place / 32))) is
