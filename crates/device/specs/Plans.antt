-- The device calls that code makes, in their order, up to the first refusal: a tree, since what comes next may go by each answer.
use Rattle.std.specs.Prelude.{◌≡◌, ℕ, zero, suc, ◌+◌, ◌/◌, ◌%◌, cond, List, [], ◌∷◌, ◌++◌, length, take, drop, replicate, ◌==◌, refl}
use Rattle.device.specs.Disk.{Bytes, Disk, Fate, Op, reads, writes, way, Told, good, refused, Refusal, refusal, told_by, after_by}

-- a plan ends with an answer, or calls a device and goes on by what it is told; W names the devices
pub data Plan (W A : Type 0) : Type 0 where
  done : A → Plan W A
  call : W → Op → (Told Refusal Bytes → Plan W A) → Plan W A

-- some devices together, S: one of them, and all of them with one changed
pub record World (W S : Type 0) : Type 0 where
  pub get : W → S → Disk
  pub set : W → S → Disk → S
  pub get_set : (x : W) (s : S) (d : Disk) → get x (set x s d) ≡ d
  pub set_set : (x : W) (s : S) (d e : Disk) → set x (set x s d) e ≡ set x s e
  pub set_get : (x : W) (s : S) → set x s (get x s) ≡ s

-- how a run ends; it is astray where it has a fate too many or too few
pub data Ended (S A : Type 0) : Type 0 where
  ended : A → S → Ended S A
  astray : Ended S A

-- a plan carried out, with one fate for each call
abbrev pub run : {W S A : Type 0} → World W S → Plan W A → List Fate → S → Ended S A
run w (done a) [] s = ended a s
run w (done a) (f ∷ fs) s = astray
run w (call x o k) [] s = astray
run w (call x o k) (f ∷ fs) s = run w (k (told_by (way o (w.get x s) f) o (w.get x s))) fs (w.set x s (after_by (way o (w.get x s) f) o (w.get x s) f))

-- plan p, begun at s, ends with answer a at e: by some fates of its calls, and by nothing else that is free
pub record Runs {W S A : Type 0} (w : World W S) (p : Plan W A) (s : S) (a : A) (e : S) : Type 0 where
  pub fates : List Fate
  pub comes : run w p fates s ≡ ended a e

-- ONE PLAN AFTER ANOTHER

-- p, then g of its answer
abbrev pub bind : {W A B : Type 0} → Plan W A → (A → Plan W B) → Plan W B
bind (done a) g = g a
bind (call x o k) g = call x o (λ t. bind (k t) g)

-- what `?` does: a refusal ends the plan
abbrev pub onward : {W F A B : Type 0} → Told F A → (A → Plan W (Told F B)) → Plan W (Told F B)
onward (good a) k = k a
onward (refused f) k = done (refused f)

-- p, then k where it was good
abbrev pub then : {W F A B : Type 0} → Plan W (Told F A) → (A → Plan W (Told F B)) → Plan W (Told F B)
then {W} {F} {A} {B} p k = bind p (λ t. onward t k)

-- an answer as the layer above gives it: a refusal is passed up
abbrev pub raised : {F G A : Type 0} → (F → G) → Told F A → Told G A
raised up (good a) = good a
raised up (refused f) = refused (up f)

-- a plan, with its refusal passed up
abbrev pub lifted : {W F G A : Type 0} → (F → G) → Plan W (Told F A) → Plan W (Told G A)
lifted {W} {F} {G} {A} up p = bind p (λ t. done (raised up t))

-- a device call, then k where it was good; a refusal is passed up
abbrev pub step : {W F B : Type 0} → (Refusal → F) → W → Op → (Bytes → Plan W (Told F B)) → Plan W (Told F B)
step up x o k = call x o (λ t. onward (raised up t) k)

-- ONE DEVICE, AND TWO

-- one device alone
abbrev pub one : World (Unit {0}) Disk
one = record { get = λ _ d. d; set = λ _ _ d. d; get_set = λ _ _ _. refl; set_set = λ _ _ _ _. refl; set_get = λ _ _. refl }

-- the two devices of a pair
pub data Side : Type 0 where
  origin : Side
  cow : Side

-- the disks of an origin and its COW device
pub record Disks : Type 0 where
  pub origin : Disk
  pub cow : Disk

-- the two by name
abbrev pub pair : Disk → Disk → Disks
pair o c = record { origin = o; cow = c }

-- one of the two
abbrev pub side : Side → Disks → Disk
side origin s = s.origin
side cow s = s.cow

-- both, with one of them changed
abbrev pub with_side : Side → Disks → Disk → Disks
with_side origin s d = pair d s.cow
with_side cow s d = pair s.origin d

pub side_with : (x : Side) (s : Disks) (d : Disk) → side x (with_side x s d) ≡ d
side_with origin s d = refl
side_with cow s d = refl

pub with_with : (x : Side) (s : Disks) (d e : Disk) → with_side x (with_side x s d) e ≡ with_side x s e
with_with origin s d e = refl
with_with cow s d e = refl

pub with_same : (x : Side) (s : Disks) → with_side x s (side x s) ≡ s
with_same origin s = refl
with_same cow s = refl

-- two devices together
abbrev pub both : World Side Disks
both = record { get = side; set = with_side; get_set = side_with; set_set = with_with; set_get = with_same }

-- a plan of one device, at one of several
abbrev pub on : {W A : Type 0} → W → Plan (Unit {0}) A → Plan W A
on x (done a) = done a
on x (call u o k) = call x o (λ t. on x (k t))

-- RANGES OF SECTORS, ASCENDING

-- a plan of one device that answers nothing, or a refusal
abbrev pub Steps : Type 0
Steps = Plan (Unit {0}) (Told Refusal (Unit {0}))

-- zeros over n sectors from s on
abbrev pub zeroing : ℕ → ℕ → Steps
zeroing s zero = done (good tt)
zeroing s (suc n) = call tt (writes s (replicate 512 0)) (λ t. onward t (λ _. zeroing (s + 1) n))

-- the bytes into n sectors from s on
abbrev pub spreading : ℕ → ℕ → Bytes → Steps
spreading s zero bytes = done (good tt)
spreading s (suc n) bytes = call tt (writes s (take 512 bytes)) (λ t. onward t (λ _. spreading (s + 1) n (drop 512 bytes)))

-- the bytes of n sectors from s on, after what is there already
abbrev pub gathering : ℕ → ℕ → Bytes → Plan (Unit {0}) (Told Refusal Bytes)
gathering s zero sofar = done (good sofar)
gathering s (suc n) sofar = call tt (reads 512 s) (λ t. onward t (λ b. gathering (s + 1) n (sofar ++ b)))

-- BUFFERS

-- an answer, and the buffer that was read into
pub record Filled : Type 0 where
  pub answer : Told Refusal (Unit {0})
  pub buffer : Bytes

-- n sectors from s on into a buffer that is filled as far as front; a refusal leaves the rest of it as it was
abbrev pub filling : ℕ → ℕ → Bytes → Bytes → Plan (Unit {0}) Filled
filling s zero front rest = done (record { answer = good tt; buffer = front ++ rest })
filling s (suc n) front rest =
    call tt (reads 512 s)
    (λ t. elim t [ good b ↦ filling (s + 1) n (front ++ b) (drop 512 rest) | refused f ↦ done (record { answer = refused f; buffer = front ++ rest }) ])

-- sectors from s on into the whole of a buffer, which is refused untouched where it is no whole number of sectors
abbrev pub reading_into : ℕ → Bytes → Plan (Unit {0}) Filled
reading_into s buffer =
    cond (length buffer % 512 == 0) (filling s (length buffer / 512) [] buffer) (done (record { answer = refused (refusal 1 0); buffer = buffer }))

-- the whole of a buffer into sectors from s on, likewise
abbrev pub writing_from : ℕ → Bytes → Steps
writing_from s bytes = cond (length bytes % 512 == 0) (spreading s (length bytes / 512) bytes) (done (refused (refusal 1 0)))
