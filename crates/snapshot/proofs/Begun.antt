-- The calls of a pair past their tests.
use Rattle.std.proofs.Common.{◌≡◌, ℕ, ◌/◌, Bool, true, false, not, List, [], ◌∷◌, Some, None, Option, IsErrAnd, Ok, Err, Result, refl, ap, sym, ◌∙◌, subst, eqb, eqb-true}
use Rattle.device.specs.declared.fault.DeviceFault.{DeviceFault}
use Rattle.device.specs.Disk.{Bytes, Disk, Told, Refusal, good, refused, refusal, reads, Called}
use Rattle.device.specs.Answers.{number, where_at}
use Rattle.device.specs.Plans.{Plan, done, Runs, bind, onward, raised, lifted, one, on, Side, origin, cow, both, Disks, pair}
use Rattle.device.proofs.Steps.{Comes, same, stay, ◌⨾◌, called, ends_as}
use Rattle.layout.specs.declared.chunk.ChunkSize.{ChunkSize}
use Rattle.layout.specs.Chunks.{sectors}
use Rattle.layout.specs.declared.exception.Exception.{Exception}
use Rattle.exceptions.specs.Table.{lookup}
use Rattle.store.specs.declared.fault.StoreFault.{StoreFault}
use Rattle.store.specs.Answers.{numbers as store_numbers}
use Rattle.store.specs.Refusals.{StoreRefusal, up}
use Rattle.store.specs.Steps.{copy_read, in_chunks, shape_of, flushing, finished}
use Rattle.history.specs.Faults.{Fault, passed_up, store_up, pair_fault, flush}
use Rattle.history.specs.Steps.{sizes, Memory, serving, Mode, plain, Outcome, Ground, ground, giving, after, carry, view_steps, view_reading, guarded, test, first, sector_length, not_stopped, opened, on_origin, view_tests, origin_read_tests, view_read_tests}
use Rattle.history.specs.History.{Reply, nothing, Answer, Result as Answered, contents, replied, as_call, read_view, plan_of}
use Rattle.snapshot.specs.declared.fault.Fault.{Fault as CodeFault}
use Rattle.snapshot.specs.declared.fault.Fault.TheVariants.{Origin, Store}
use Rattle.snapshot.specs.declared.state.Held.{Held}
use Rattle.snapshot.specs.declared.state.Held.TheVariants.{Closed, Open, Invalid}
use Rattle.snapshot.specs.Answers.{numbers, told}
use Rattle.snapshot.specs.Pairs.{memory}
use Rattle.snapshot.proofs.OnBoth.{stored, after_ran, emptied, flushed}

-- no test refused
pub begun : {A : Type 0} (f : A → Reply) (m : Memory) (mode : Mode) {t : Option Fault} (p : Plan Side (Outcome A)) → None ≡ t → as_call f mode (guarded m t p) ≡ as_call f mode p
begun f m mode p none = ap (λ t. as_call f mode (guarded m t p)) (sym none)

-- WHAT TESTS THAT REFUSE NOTHING SAY

passes : (b : Bool) (f : Fault) (rest : List (Option Fault)) → None ≡ first (test b f ∷ rest) → (b ≡ false) × (None ≡ first rest)
passes true f rest h = cc
passes false f rest h = (refl, h)

sized : (n : ℕ) (rest : List (Option Fault)) → None ≡ first (sector_length n ∷ rest) → (n ≡ 512) × (None ≡ first rest)
sized n rest h = let x = passes (not (eqb n 512)) (pair_fault 1) rest h in (long (eqb n 512) refl x.0, x.1)
  where
    long : (b : Bool) → eqb n 512 ≡ b → not b ≡ false → n ≡ 512
    long true is h = eqb-true n 512 is
    long false is h = cc

-- a later test that refuses leaves no good answer
pub barred : {X : Type 0} (b : Bool) (f y : Fault) → None ≡ first (test b f ∷ Some y ∷ []) → X
barred true f y h = cc
barred false f y h = cc

pub served : (g : Ground) (held : Held) (size : ChunkSize) (table : List Exception) (s : ℕ) → None ≡ first (view_tests g (memory held size table) s) → held ≡ Open
served g Closed size table s h = barred g.stopped (pair_fault 5) (pair_fault 4) h
served g Open size table s h = refl
served g Invalid size table s h = barred g.stopped (pair_fault 5) (pair_fault 6) h

-- of an origin read: its buffer is 512 bytes
pub origin_long : (g : Ground) (m : Memory) (s n : ℕ) → None ≡ origin_read_tests g m s n → n ≡ 512
origin_long g m s n h = (sized n (not_stopped g ∷ opened m ∷ on_origin g s ∷ []) h).0

-- of a snapshot read: its buffer is 512 bytes, and the pair is open
pub view_opens : (g : Ground) (held : Held) (size : ChunkSize) (table : List Exception) (s n : ℕ) → None ≡ view_read_tests g (memory held size table) s n → (n ≡ 512) × (held ≡ Open)
view_opens g held size table s n h = let x = sized n (view_tests g (memory held size table) s) h in (x.0, served g held size table s x.1)

-- WHAT A DEVICE AND THE STORE ANSWER

pub read_as : {n s : ℕ} {d e : Disk} {t : Told Refusal Bytes} → n ≡ 512 → Called (reads n s) d t e → Called (reads 512 s) d t e
read_as {s = s} {d = d} {e = e} {t = t} is c = subst (λ n. Called (reads n s) d t e) is c

-- what `?` returns where the origin refused with y
pub origin_passed : {A B : Type 0} (r : Result A CodeFault) (b : B) (y : DeviceFault) → IsErrAnd r (λ x. x ≡ Origin y) → told r b ≡ refused (passed_up origin (refusal (number y) (where_at y)))
origin_passed (Ok a) b y h = absurd h
origin_passed (Err x) b y h = ap (λ z. refused (numbers z)) h

-- and where the store did
pub store_passed : {A B : Type 0} (r : Result A CodeFault) (b : B) (y : StoreFault) → IsErrAnd r (λ x. x ≡ Store y) → told r b ≡ refused (store_up (store_numbers y))
store_passed (Ok a) b y h = absurd h
store_passed (Err x) b y h = ap (λ z. refused (numbers z)) h

-- A SNAPSHOT READ

-- the chunk that was looked up is the sector's own
pub looked : (table : List Exception) (s : ℕ) {n c : ℕ} {size x : ChunkSize} {found k : Option ℕ} → found ≡ lookup table n → n ≡ s / c → c ≡ sectors x → x ≡ size → found ≡ k → lookup table (s / sectors size) ≡ k
looked table s by at width same is = ap (lookup table) (sym (at ∙ ap (λ n. s / n) (width ∙ ap sectors same))) ∙ sym by ∙ is

-- the sector read in the copy at chunk k
pub copied : (d : Disks) (size : ChunkSize) (k s : ℕ) {n : ℕ} {e : Disk} {t : Told StoreRefusal Bytes} → n ≡ 512 → Runs one (copy_read (in_chunks d.cow size) k s n) d.cow t e → Runs both (view_steps (ground d) size s (Some k)) d (raised store_up t) (pair d.origin e)
copied d size k s {e = e} {t = t} long r = stored (copy_read (shape_of (sizes d) size) k s 512) (subst (λ n. Runs one (copy_read (in_chunks d.cow size) k s n) d.cow t e) long r)

module _ (d : Disks) (held : Held) (size : ChunkSize) (table : List Exception) (s n : ℕ) where
  abbrev steps : Option ℕ → Plan Side Answered
  steps k = as_call contents plain (after (serving size table) (view_steps (ground d) size s k) (λ b. giving (serving size table) b))

  pub viewed : (k : Option ℕ) {t : Told Fault Bytes} {e : Disks} {a : Answer} {m : Memory} → None ≡ view_read_tests (ground d) (memory held size table) s n → lookup table (s / sectors size) ≡ k → (n ≡ 512 → Runs both (view_steps (ground d) size s k) d t e) → a ≡ replied contents t → m ≡ memory held size table → Runs both (plan_of (ground d) (memory held size table) plain (read_view s n)) d (record { answer = a; memory = m; mode = plain }) e
  viewed k {t} {e} {a} {m} tests looked go is kept =
      let opens = view_opens (ground d) held size table s n tests in
      ends_as (λ i. record { answer = is i; memory = (kept ∙ ap (λ h. memory h size table) opens.1) i; mode = plain })
      (same (begun contents (memory held size table) plain (view_reading (ground d) (memory held size table) s) tests)
      ⨾ same (ap (λ h. as_call contents plain (view_reading (ground d) (memory h size table) s)) opens.1)
      ⨾ same (ap steps looked)
      ⨾ after_ran contents plain (serving size table) (view_steps (ground d) size s k) (λ b. giving (serving size table) b) (go opens.0)
      ⨾ finished t e)
    where
      finished : (t : Told Fault Bytes) (e : Disks) → Comes both (as_call contents plain (carry (serving size table) (λ b. giving (serving size table) b) t)) e (done (record { answer = replied contents t; memory = serving size table; mode = plain })) e
      finished (good b) e = stay
      finished (refused f) e = stay

-- A FLUSH

-- what a flush answers at last
abbrev pub flush_ends : Memory → Told Fault (Unit {0}) → Plan Side Answered
flush_ends m t = done (record { answer = replied (λ _. nothing) t; memory = m; mode = plain })

-- the COW device flushed at last
pub flushed_last : {m : Memory} {d : Disks} {e : Disk} {t : Told StoreRefusal (Unit {0})} → Runs one (lifted up (flushing finished)) d.cow t e → Comes both (as_call {A = Unit {0}} (λ _. nothing) plain (after m (flush cow) (λ _. giving m tt))) d (flush_ends m (raised store_up t)) (pair d.origin e)
flushed_last {m} {d} {e} {t} r =
    let f = flushed r in
    called f.done ⨾ by f.answer ⨾ same (ap (λ x. flush_ends m (raised store_up x)) (sym f.told))
  where
    by : (v : Told Refusal Bytes) → Comes both (as_call {A = Unit {0}} (λ _. nothing) plain (bind (bind (on cow (onward v (λ b. done (good b)))) (λ t. done (raised (passed_up cow) t))) (carry m (λ _. giving m tt)))) (pair d.origin e) (flush_ends m (raised store_up (raised up (emptied v)))) (pair d.origin e)
    by (good b) = stay
    by (refused f) = stay
