-- What steps at one device leave: a read, a write, a flush; a chunk read, a chunk written.
use Rattle.std.proofs.Common.{◌≡◌, ℕ, zero, suc, ◌+◌, ◌*◌, ◌<◌, ◌≤◌, true, false, ◌⊎◌, [], ◌++◌, length, sym, refl, ap, ◌∙◌, subst, inl, inr, arith}
use Rattle.std.specs.List.{ContainsAt as Has}
use Rattle.device.specs.Disk.{Bytes, Disk, Op, reads, writes, flushes, possibilities, settled, Told, good, refused, Refusal, refusal}
use Rattle.device.specs.Plans.{Plan, done, call, Runs, one, onward, gathering, spreading}
use Rattle.device.proofs.Uses.{Went, went_on, left_in, was_refused, went, over as run_over, count_stays, not_good}
use Rattle.recovery.specs.Readings.{image, gathered}
use Rattle.recovery.specs.Standing.{Within}
use Rattle.recovery.proofs.Allowed.{Allowed, Writes, run_within, spreading_writes}
use Rattle.recovery.proofs.Gathered.{part}
use Rattle.recovery.proofs.Zeros.{spread_elsewhere, spread_here, put_here, put_elsewhere}
use Rattle.store.specs.Steps.{only_call}
use Rattle.history.proofs.Fair.{Fared, fine, lost, fares, Readable, asks_fair, spreading_fair, gathering_fair}
use Rattle.history.proofs.Invariant.{Fewer}

-- steps that write nothing lose possibilities at most
pub quiet_fewer : {A : Type 0} {p : Plan (Unit {0}) A} {d e : Disk} {t : A} → ((B : ℕ → Bytes → Type 0) → Writes B p) → Runs one p d t e → Fewer d e
quiet_fewer {d = d} quiet r = record { count = count_stays r; possible = run_within (λ s b. Has (possibilities (d.cells s)) b) (quiet _) r (λ s b has. has) }

only_writes : (B : ℕ → Bytes → Type 0) (o : Op) → Allowed B o → Writes B (only_call o)
only_writes B o ok = (ok, λ t. ends t)
  where
    ends : (t : Told Refusal Bytes) → Writes B (onward t (λ b. done (good b)))
    ends (good b) = tt
    ends (refused r) = tt

-- how steps on a device end: good, with answer a and G of what they leave; or the device went, and O of what is left
pub data OnOne {A : Type 0} (G O : Disk → Type 0) (a : A) (t : Told Refusal A) (e : Disk) : Type 0 where
  one_good : t ≡ good a → G e → OnOne G O a t e
  one_off : (p : ℕ) → t ≡ refused (refusal 3 p) → e.on ≡ false → O e → OnOne G O a t e

-- READS

-- what steps that write nothing come to: the bytes that are wanted, and device n; or the device went
abbrev pub Asked : Disk → Bytes → Disk → Told Refusal Bytes → Disk → Type 0
Asked d want n = OnOne (λ e. e ≡ n) (Fewer d) want

gathering_quiet : (B : ℕ → Bytes → Type 0) (n s : ℕ) (sofar : Bytes) → Writes B (gathering s n sofar)
gathering_quiet B zero s sofar = tt
gathering_quiet B (suc n) s sofar = (tt, ends (λ b. gathering_quiet B n (s + 1) (sofar ++ b)))
  where
    ends : ((b : Bytes) → Writes B (gathering (s + 1) n (sofar ++ b))) → (t : Told Refusal Bytes) → Writes B (onward t (λ b. gathering (s + 1) n (sofar ++ b)))
    ends more (good b) = more b
    ends more (refused r) = tt

gathers_good : (n s : ℕ) (sofar : Bytes) {d e : Disk} {b : Bytes} → Runs one (gathering s n sofar) d (good b) e → (b ≡ gathered (image d) s n sofar) × (e ≡ d)
gathers_good zero s sofar r = let o = run_over r in let same : _ ≡ sofar = cc in (same, o.1)
gathers_good (suc n) s sofar {d} {e} {b} r = by (λ q. gathers_good n (s + 1) (sofar ++ image d s) q) (went r)
  where
    by : (Runs one (gathering (s + 1) n (sofar ++ image d s)) d (good b) e → (b ≡ gathered (image d) (s + 1) n (sofar ++ image d s)) × (e ≡ d)) → Went {B = Bytes} one tt (reads 512 s) (λ b. gathering (s + 1) n (sofar ++ b)) d (good b) e → (b ≡ gathered (image d) s (suc n) sofar) × (e ≡ d)
    by more (went_on f is q) = more q
    by more (left_in f is a y) = not_good a
    by more (was_refused f m p is a y) = not_good a

-- n sectors read
pub reads_range : {d e : Disk} {t : Told Refusal Bytes} (n s : ℕ) → s + n ≤ d.count → Readable d → d.on ≡ true → Runs one (gathering s n []) d t e → Asked d (gathered (image d) s n []) d t e
reads_range {d} {e} {t} n s inside long on r = by (fares (gathering_fair d.count n s [] inside) long on r)
  where
    by : Fared t e → Asked d (gathered (image d) s n []) d t e
    by (fine b is up here) = let g = gathers_good n s [] (subst (λ x. Runs one (gathering s n []) d x e) is r) in one_good (is ∙ ap good g.0) g.1
    by (lost p is off) = one_off p is off (quiet_fewer (λ B. gathering_quiet B n s []) r)

-- one sector read
pub reads_one : {d e : Disk} {t : Told Refusal Bytes} (s : ℕ) → s < d.count → Readable d → d.on ≡ true → Runs one (only_call (reads 512 s)) d t e → Asked d (image d s) d t e
reads_one {d} {e} {t} s here long on r = reads_range 1 s (omega arith) long on (subst (λ p. Runs one p d t e) same r)
  where
    agree : (t : Told Refusal Bytes) → onward t (λ b. done (good b)) ≡ onward t (λ b. gathering (s + 1) 0 ([] ++ b))
    agree (good b) = refl
    agree (refused r) = refl

    same : only_call (reads 512 s) ≡ gathering s 1 []
    same = λ i. call tt (reads 512 s) (λ t. agree t i)

-- WRITES

-- what n sectors from s on may hold besides what they held
abbrev pub Gains : Disk → ℕ → ℕ → Bytes → ℕ → Bytes → Type 0
Gains d s n bytes t b = Has (possibilities (d.cells t)) b ⊎ ((i : ℕ) × (i < n) × (t ≡ s + i) × (b ≡ part bytes i))

-- n sectors from s on read as the parts, and all else as before; nothing else is gained
pub record Spread (d : Disk) (s n : ℕ) (bytes : Bytes) (e : Disk) : Type 0 where
  pub on : e.on ≡ true
  pub long : Readable e
  pub here : (i : ℕ) → i < n → image e (s + i) ≡ part bytes i
  pub else : (u : ℕ) → ((i : ℕ) → i < n → u ≡ s + i → ⊥) → image e u ≡ image d u
  pub gains : Within (Gains d s n bytes) e

-- they are written; or the device went
abbrev pub DidWrite : Disk → ℕ → ℕ → Bytes → Told Refusal (Unit {0}) → Disk → Type 0
DidWrite d s n bytes = OnOne (Spread d s n bytes) (Within (Gains d s n bytes)) (tt {0})

-- n sectors written
pub writes_range : {d e : Disk} {t : Told Refusal (Unit {0})} (n s : ℕ) (bytes : Bytes) → s + n ≤ d.count → length bytes ≡ 512 * n → Readable d → d.on ≡ true → Runs one (spreading s n bytes) d t e → DidWrite d s n bytes t e
writes_range {d} {e} {t} n s bytes inside size long on r = by (fares (spreading_fair d.count n s bytes inside size) long on r)
  where
    gains : Within (Gains d s n bytes) e
    gains = run_within (Gains d s n bytes) (spreading_writes (Gains d s n bytes) n s bytes (λ i l. inr (i, l, refl, refl))) r (λ u b has. inl has)

    by : Fared t e → DidWrite d s n bytes t e
    by (fine (tt) is up here) = let q = subst (λ x. Runs one (spreading s n bytes) d x e) is r in one_good is (record { on = up; long = here; here = spread_here n s bytes q; else = spread_elsewhere n s bytes q; gains = gains })
    by (lost p is off) = one_off p is off gains

-- what sector s may hold besides what it held
abbrev pub GainsOne : Disk → ℕ → Bytes → ℕ → Bytes → Type 0
GainsOne d s bytes t b = Has (possibilities (d.cells t)) b ⊎ ((t ≡ s) × (bytes ≡ b))

-- sector s reads as the bytes, and all else as before; nothing else is gained
pub record PutOne (d : Disk) (s : ℕ) (bytes : Bytes) (e : Disk) : Type 0 where
  pub on : e.on ≡ true
  pub here : image e s ≡ bytes
  pub else : (u : ℕ) → (u ≡ s → ⊥) → image e u ≡ image d u
  pub gains : Within (GainsOne d s bytes) e

-- it is written; or the device went
abbrev pub DidPut : Disk → ℕ → Bytes → Told Refusal Bytes → Disk → Type 0
DidPut d s bytes = OnOne (PutOne d s bytes) (Within (GainsOne d s bytes)) []

pub writes_one : {d e : Disk} {t : Told Refusal Bytes} (s : ℕ) (bytes : Bytes) → s < d.count → length bytes ≡ 512 → Readable d → d.on ≡ true → Runs one (only_call (writes s bytes)) d t e → DidPut d s bytes t e
writes_one {d} {e} {t} s bytes here size long on r = by (fares (asks_fair d.count (writes s bytes) (λ b. done (good b)) (size, here) (λ b _. tt)) long on r)
  where
    gains : Within (GainsOne d s bytes) e
    gains = run_within (GainsOne d s bytes) (only_writes (GainsOne d s bytes) (writes s bytes) (inr (refl, refl))) r (λ u b has. inl has)

    put_is : (a : Bytes) → t ≡ good a → e.on ≡ true → Went {B = Bytes} one tt (writes s bytes) (λ b. done (good b)) d t e → DidPut d s bytes t e
    put_is a is up (went_on f w q) =
        let o = run_over q in
        one_good o.0 (record { on = up; here = ap (λ y. image y s) o.1 ∙ put_here d s bytes f; else = λ u ne. ap (λ y. image y u) o.1 ∙ put_elsewhere d s bytes f u ne; gains = gains })
    put_is a is up (left_in f w x y) = not_good (sym is ∙ x)
    put_is a is up (was_refused f n p w x y) = not_good (sym is ∙ x)

    by : Fared t e → DidPut d s bytes t e
    by (fine a is up here) = put_is a is up (went r)
    by (lost p is off) = one_off p is off gains

-- FLUSHES

-- a flush: each sector has what it reads alone; or the device went
pub flushes_one : {d e : Disk} {t : Told Refusal Bytes} → Readable d → d.on ≡ true → Runs one (only_call flushes) d t e → Asked d [] (settled d) t e
flushes_one {d} {e} {t} long on r = by (fares (asks_fair d.count flushes (λ b. done (good b)) tt (λ b _. tt)) long on r)
  where
    settles : (a : Bytes) → t ≡ good a → Went {B = Bytes} one tt flushes (λ b. done (good b)) d t e → Asked d [] (settled d) t e
    settles a is (went_on f w q) = let o = run_over q in one_good o.0 o.1
    settles a is (left_in f w x y) = not_good (sym is ∙ x)
    settles a is (was_refused f n p w x y) = not_good (sym is ∙ x)

    by : Fared t e → Asked d [] (settled d) t e
    by (fine a is up here) = settles a is (went r)
    by (lost p is off) = one_off p is off (quiet_fewer (λ B. only_writes B flushes tt) r)
