-- What the data calls of a store write, and what they leave when they are good.
use Rattle.std.proofs.Common.{◌≡◌, ℕ, zero, suc, ◌+◌, ◌*◌, ◌/◌, ◌%◌, ◌<◌, Bool, true, false, cond, eqb, List, [], ◌∷◌, ◌++◌, length, drop, sym, refl, ap, ◌∙◌, subst, mod-lt}
use lib.Arith.{digits_div}
use Rattle.std.proofs.lemmas.Bool.{and_parts}
use Rattle.device.specs.Disk.{Bytes, Disk, Fate, Op, reads, writes, Way, passes, leaves, refuses, way, told_by, after_by, Told, good, refused, Refusal, refusal}
use Rattle.device.specs.Plans.{Plan, done, run, ended, Runs, one, bind, onward, raised, lifted, spreading, Filled, filling, reading_into}
use Rattle.device.proofs.Steps.{never}
use Rattle.device.proofs.Uses.{Went, went_on, left_in, was_refused, went, over as run_over, not_good, halves}
use Rattle.layout.specs.Chunks.{is_data, in_copy}
use Rattle.store.specs.declared.shape.Shape.{Shape}
use Rattle.store.specs.Judge.{width, on_data}
use Rattle.store.specs.Refusals.{StoreRefusal, StoreSteps, because, up, asking}
use Rattle.store.specs.Steps.{finished, flushing, data_test, data_read, data_write, only_call, at_chunk, copy_read, copy_write, chunk_read, chunk_write}
use Rattle.recovery.specs.Readings.{image}
use Rattle.recovery.specs.Data.{IsData}
use Rattle.recovery.proofs.Allowed.{Allowed, Writes, on_good, then_writes, spreading_writes}
use Rattle.recovery.proofs.Finds.{sectors_within}
use Rattle.recovery.proofs.Gathered.{part}
use Rattle.recovery.proofs.Zeros.{put_here, spread_here}

-- WHERE THEY WRITE

-- the sectors of a data chunk are data sectors
pub chunk_data : (s : Shape) (k i : ℕ) → i < width s → is_data (width s) k ≡ true → IsData (width s) (k * width s + i)
chunk_data s k i l is = ap (is_data (width s)) (digits_div k l) ∙ is

copy_data : (s : Shape) (k at : ℕ) → is_data (width s) k ≡ true → IsData (width s) (in_copy (width s) k at)
copy_data s k at is = chunk_data s k (at % width s) (mod-lt at (sectors_within s.size).0) is

module _ (A : ℕ → Bytes → Type 0) where
  -- steps where a test is passed
  tested_writes : {X : Type 0} (b : Bool) (p : Plan (Unit {0}) X) (x : X) → (b ≡ true → Writes A p) → Writes A (cond b p (done x))
  tested_writes true p x ok = ok refl
  tested_writes false p x ok = tt

  -- a plan of its own for each good answer
  onward_writes : {F X Y : Type 0} (t : Told F X) (k : X → Plan (Unit {0}) (Told F Y)) → ((x : X) → Writes A (k x)) → Writes A (onward t k)
  onward_writes (good x) k ok = ok x
  onward_writes (refused f) k ok = tt

  pub flush_writes : Writes A (flushing finished)
  flush_writes = (tt, on_good A (λ _. finished) (λ _. tt))

  pub data_read_writes : (s : Shape) (at len : ℕ) → Writes A (data_read s at len)
  data_read_writes s at len = onward_writes (data_test s at len) _ (λ _. (tt, λ t. onward_writes (raised up t) _ (λ b. tt)))

  -- the write comes only after the tests
  pub data_write_writes : (s : Shape) (at : ℕ) (bytes : Bytes) → (IsData (width s) at → A at bytes) → Writes A (data_write s at bytes)
  data_write_writes s at bytes ok = by (eqb (length bytes) 512) (on_data s (at / width s)) refl
    where
      by : (long on : Bool) → on_data s (at / width s) ≡ on → Writes A (onward (cond long (cond on (good (tt {0})) (refused (because 2 at 0))) (refused (because 1 0 0))) (λ _. asking (writes at bytes) (λ _. done (good (tt {0})))))
      by true true on = (ok (and_parts (is_data (width s) (at / width s)) _ on).0, λ t. onward_writes (raised up t) _ (λ b. tt))
      by true false on = tt
      by false on is = tt

  call_writes : (o : Op) → Allowed A o → Writes A (only_call o)
  call_writes o ok = (ok, λ t. onward_writes t _ (λ b. tt))

  chunk_writes : {X : Type 0} (s : Shape) (k : ℕ) (p : Plan (Unit {0}) (Told Refusal X)) → (is_data (width s) k ≡ true → Writes A p) → Writes A (at_chunk s k p)
  chunk_writes s k p ok = tested_writes (on_data s k) (lifted up p) (refused (because 2 k 0)) (λ on. then_writes A p (λ t. done (raised up t)) (ok (and_parts (is_data (width s) k) _ on).0) (λ t. tt))

  pub copy_read_writes : (s : Shape) (k at len : ℕ) → Writes A (copy_read s k at len)
  copy_read_writes s k at len = let o = reads len (in_copy (width s) k at) in chunk_writes s k (only_call o) (λ is. call_writes o tt)

  pub copy_write_writes : (s : Shape) (k at : ℕ) (bytes : Bytes) → (IsData (width s) (in_copy (width s) k at) → A (in_copy (width s) k at) bytes) → Writes A (copy_write s k at bytes)
  copy_write_writes s k at bytes ok = let o = writes (in_copy (width s) k at) bytes in chunk_writes s k (only_call o) (λ is. call_writes o (ok (copy_data s k at is)))

  filling_writes : (n s : ℕ) (front rest : Bytes) → Writes A (filling s n front rest)
  filling_writes zero s front rest = tt
  filling_writes (suc n) s front rest = (tt, after (λ b. filling_writes n (s + 1) (front ++ b) (drop 512 rest)))
    where
      after : ((b : Bytes) → Writes A (filling (s + 1) n (front ++ b) (drop 512 rest))) → (t : Told Refusal Bytes) → Writes A (elim t as (λ _. Plan (Unit {0}) Filled) [ good b ↦ filling (s + 1) n (front ++ b) (drop 512 rest) | refused f ↦ done (record { answer = refused f; buffer = front ++ rest }) ])
      after on (good b) = on b
      after on (refused f) = tt

  reading_writes : (s : ℕ) (buffer : Bytes) → Writes A (reading_into s buffer)
  reading_writes s buffer = let n = length buffer in tested_writes (eqb (n % 512) 0) (filling s (n / 512) [] buffer) (record { answer = refused (refusal 1 0); buffer = buffer }) (λ whole. filling_writes (n / 512) s [] buffer)

  pub chunk_read_writes : (s : Shape) (k : ℕ) (buffer : Bytes) → Writes A (chunk_read s k buffer)
  chunk_read_writes s k buffer =
      let read : Plan (Unit {0}) (Told StoreRefusal (Unit {0}) × Bytes) = bind (reading_into (k * width s) buffer) (λ f. done (raised up f.answer, f.buffer)) in
      tested_writes (eqb (length buffer) (512 * width s)) (cond (on_data s k) read (done (refused (because 2 k 0), buffer))) (refused (because 1 0 0), buffer)
      (λ long. tested_writes (on_data s k) read (refused (because 2 k 0), buffer) (λ on. then_writes A (reading_into (k * width s) buffer) (λ f. done (raised up f.answer, f.buffer)) (reading_writes (k * width s) buffer) (λ f. tt)))

  pub chunk_write_writes : (s : Shape) (k : ℕ) (bytes : Bytes) → ((i : ℕ) → i < width s → IsData (width s) (k * width s + i) → A (k * width s + i) (part bytes i)) → Writes A (chunk_write s k bytes)
  chunk_write_writes s k bytes ok =
      let p = spreading (k * width s) (width s) bytes in
      tested_writes (eqb (length bytes) (512 * width s)) (at_chunk s k p) (refused (because 1 0 0)) (λ long. chunk_writes s k p (λ is. spreading_writes A (width s) (k * width s) bytes (λ i l. ok i l (chunk_data s k i l is))))

-- WHERE THEY ARE GOOD

-- no answer is good and refused
pub never_good : {F X Y : Type 0} {x : X} {f : F} → ◌≡◌ {A = Told F X} (good x) (refused f) → Y
never_good h = cc

-- a test was passed
test_good : {X : Type 0} {d e : Disk} {x : X} (b : Bool) (p : StoreSteps X) (f : StoreRefusal) → Runs one (cond b p (done (refused f))) d (good x) e → (b ≡ true) × Runs one p d (good x) e
test_good true p f r = (refl, r)
test_good false p f r = never_good (run_over r).0

-- a call that was good on a data chunk was so on the device
chunk_good : {X : Type 0} (s : Shape) (k : ℕ) (p : Plan (Unit {0}) (Told Refusal X)) {d e : Disk} {x : X} → Runs one (at_chunk s k p) d (good x) e → (is_data (width s) k ≡ true) × Runs one p d (good x) e
chunk_good {X} s k p {d} {e} {x} r =
    let g = test_good (on_data s k) (lifted up p) (because 2 k 0) r in
    let h = halves p (λ t. done (raised up t)) g.1 in
    ((and_parts (is_data (width s) k) _ g.0).0, by h.mid h.between h.first h.rest)
  where
    by : (t : Told Refusal X) (mid : Disk) → Runs one p d t mid → Runs one (done (raised up t)) mid (good x) e → Runs one p d (good x) e
    by (good y) mid first q = let o = run_over q in let same : y ≡ x = cc in subst (λ z. Runs one p d (good x) z) (sym o.1) (subst (λ y. Runs one p d (good y) mid) same first)
    by (refused f) mid first q = never_good (run_over q).0

-- a good write alone
write_good : {s : ℕ} {bytes x : Bytes} {d e : Disk} → Runs one (only_call (writes s bytes)) d (good x) e → image e s ≡ bytes
write_good {s} {bytes} {x} {d} {e} r = by (went r)
  where
    by : Went {B = Bytes} one tt (writes s bytes) (λ b. done (good b)) d (good x) e → image e s ≡ bytes
    by (went_on f is q) = ap (λ y. image y s) (run_over q).1 ∙ put_here d s bytes f
    by (left_in f is a y) = not_good a
    by (was_refused f m n is a y) = not_good a

pub copy_write_good : (s : Shape) (k at : ℕ) (bytes x : Bytes) {d e : Disk} → Runs one (copy_write s k at bytes) d (good x) e → IsData (width s) (in_copy (width s) k at) × (image e (in_copy (width s) k at) ≡ bytes)
copy_write_good s k at bytes x r = let g = chunk_good s k _ r in (copy_data s k at g.0, write_good g.1)

pub chunk_write_good : (s : Shape) (k : ℕ) (bytes : Bytes) {d e : Disk} → Runs one (chunk_write s k bytes) d (good tt) e → (is_data (width s) k ≡ true) × ((i : ℕ) → i < width s → image e (k * width s + i) ≡ part bytes i)
chunk_write_good s k bytes r =
    let g = chunk_good s k _ (test_good (eqb (length bytes) (512 * width s)) _ (because 1 0 0) r).1 in
    (g.0, spread_here (width s) (k * width s) bytes g.1)

pub data_write_good : (s : Shape) (at : ℕ) (bytes : Bytes) {d e : Disk} → Runs one (data_write s at bytes) d (good tt) e → IsData (width s) at × (image e at ≡ bytes)
data_write_good s at bytes {d} {e} r = by (eqb (length bytes) 512) (on_data s (at / width s)) refl r
  where
    last : Bytes → StoreSteps (Unit {0})
    last b = done (good tt)

    went_by : (w : Way) (f : Fate) → Runs one (onward (raised up (told_by w (writes at bytes) d)) last) (after_by w (writes at bytes) d f) (good tt) e → image e at ≡ bytes
    went_by passes f q = ap (λ y. image y at) (run_over q).1 ∙ put_here d at bytes f
    went_by leaves f q = never_good (run_over q).0
    went_by (refuses n p) f q = never_good (run_over q).0

    asked : (fs : List Fate) → run one (asking (writes at bytes) last) fs d ≡ ended (good tt) e → image e at ≡ bytes
    asked [] h = never h
    asked (f ∷ fs) h = went_by (way (writes at bytes) d f) f (record { fates = fs; comes = h })

    by : (long on : Bool) → on_data s (at / width s) ≡ on → Runs one (onward (cond long (cond on (good (tt {0})) (refused (because 2 at 0))) (refused (because 1 0 0))) (λ _. asking (writes at bytes) last)) d (good tt) e → IsData (width s) at × (image e at ≡ bytes)
    by true true on q = ((and_parts (is_data (width s) (at / width s)) _ on).0, asked q.fates q.comes)
    by true false on q = never_good (run_over q).0
    by false on is q = never_good (run_over q).0
