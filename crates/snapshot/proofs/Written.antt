-- The steps of writes.
use Rattle.std.proofs.Common.{◌≡◌, ℕ, ◌*◌, ◌/◌, ◌≤◌, Bool, true, false, eqb, List, [], ◌∷◌, length, take, replicate, Some, None, Option, is_some, IsErrAnd, Ok, Err, Result, refl, sym, ap, ◌∙◌, subst, subst₂, arith, length-take-le}
use Rattle.std.proofs.lemmas.Bool.{eq-eqb, cond-true}
use Rattle.device.specs.Disk.{Bytes, Disk, Told, Refusal, good, refused}
use Rattle.device.specs.Plans.{Plan, done, Runs, bind, then, onward, raised, lifted, one, both, Side, origin, cow, Disks, pair, side, with_side, gathering, spreading, reading_into}
use Rattle.device.proofs.Steps.{Comes, same, stay, ◌⨾◌, ran, led, ends, bind_bind}
use Rattle.device.proofs.Gathers.{handed, read_gathers}
use Rattle.layout.specs.Chunks.{sectors}
use Rattle.layout.specs.declared.chunk.ChunkSize.{ChunkSize}
use Rattle.layout.specs.declared.exception.Exception.{Exception}
use Rattle.exceptions.specs.Table.{lookup}
use Rattle.recovery.proofs.Finds.{sectors_within}
use Rattle.store.specs.Refusals.{StoreRefusal, up}
use Rattle.store.specs.Steps.{shaped, shape_of, in_chunks, enter, at_chunk, chunk_write, spoiling}
use Rattle.history.specs.Faults.{Fault, passed_up, store_up, pair_fault, Moves, at_side, in_store}
use Rattle.history.specs.Steps.{work_bytes, sizes, Memory, closed, serving, invalid, plain, Outcome, Ground, ground, after, carry, giving, copying, next_free, first, sector_length, work_length, not_stopped, opened, on_origin, origin_put, origin_diverging, origin_served, origin_writing, origin_write_tests}
use Rattle.history.specs.History.{as_call, resulted, plan_of, became_invalid, write_origin}
use Rattle.snapshot.specs.declared.fault.Fault.{Fault as CodeFault}
use Rattle.snapshot.specs.declared.state.Held.{Held}
use Rattle.snapshot.specs.declared.state.Held.TheVariants.{Open}
use Rattle.snapshot.specs.declared.state.OriginWrite.{OriginWrite}
use Rattle.snapshot.specs.Answers.{numbers, wrote}
use Rattle.snapshot.specs.Pairs.{memory, wiped}
use Rattle.snapshot.specs.Ways.{wiped_with, place_tests, way_diverging, way_served, making_way}
use Rattle.snapshot.proofs.Begun.{begun, barred}
use Rattle.snapshot.proofs.Opened.{zeroed}
use Rattle.snapshot.proofs.OnBoth.{ran_on, stored, at_cow}

-- steps at one device
pub at_one : {A : Type 0} (x : Side) (p : Plan (Unit {0}) (Told Refusal A)) {s : Disks} {t : Told Refusal A} {e : Disk} → Runs one p (side x s) t e → Runs both (at_side x p) s (raised (passed_up x) t) (with_side x s e)
at_one x p r = ends (ran (λ u. done (raised (passed_up x) u)) (ran_on x r))

-- COPYING THE CHUNK OF SECTOR s TO PLACE p, WITH n SECTORS TO A CHUNK

module _ (d : Disks) (size : ChunkSize) (table : List Exception) (s p n : ℕ) (same_n : n ≡ sectors size) where
  abbrev k : ℕ
  k = s / sectors size

  abbrev enters : Moves (List Exception)
  enters = in_store (enter (shape_of (sizes d) size) table k)

  abbrev writes_chunk : Bytes → Moves (Unit {0})
  writes_chunk bytes = in_store (at_chunk (shape_of (sizes d) size) p (spreading (p * sectors size) (sectors size) bytes))

  pub copy_read_by : (buffer : Bytes) {b : Bytes} {u : Told Refusal (Unit {0})} {o : Disk} → length buffer ≡ 512 * n → Runs one (reading_into (s / n * n) buffer) d.origin (record { answer = u; buffer = b }) o → Comes both (copying (ground d) size table k p) d (onward (raised (passed_up origin) (handed u b)) (λ bytes. then (writes_chunk bytes) (λ _. enters))) (pair o d.cow)
  copy_read_by buffer {b} {u} {o} long r =
      let gathered = subst (λ m. Runs one (gathering (s / m * m) m []) d.origin (handed u b) o) same_n (read_gathers (s / n * n) buffer n long r) in
      ran (λ t. onward t (λ bytes. then (writes_chunk bytes) (λ _. enters))) (at_one origin (gathering (k * sectors size) (sectors size) []) gathered)

  pub copy_put_by : (bytes : Bytes) {t : Told StoreRefusal (Unit {0})} {o c : Disk} → length bytes ≡ 512 * n → Runs one (chunk_write (in_chunks d.cow size) p bytes) d.cow t c → Comes both (then (writes_chunk bytes) (λ _. enters)) (pair o d.cow) (onward (raised store_up t) (λ _. enters)) (pair o c)
  copy_put_by bytes {t} {o} {c} long r =
      let whole = cond-true (eqb (length bytes) (512 * sectors size)) _ _ (eq-eqb _ _ (long ∙ ap (λ m. 512 * m) same_n)) in
      ran (λ t. onward t (λ _. enters)) (stored (at_chunk (shape_of (sizes d) size) p (spreading (p * sectors size) (sectors size) bytes)) (subst (λ q. Runs one q d.cow t c) whole r))

  pub copy_enter_by : {a j : ℕ} {z : ChunkSize} {es : List Exception} {t : Told StoreRefusal (List Exception)} {o c e : Disk} → a ≡ o.count → o.count ≡ d.origin.count → c.count ≡ d.cow.count → z ≡ size → es ≡ table → j ≡ s / n → Runs one (enter (shaped (a / n) c.count z) es j) c t e → Comes both enters (pair o c) (done (raised store_up t)) (pair o e)
  copy_enter_by {t = t} {c = c} {e = e} on_a on_o on_c on_z on_es on_j r =
      let olds = on_a ∙ on_o in
      let at = on_j ∙ ap (λ m. s / m) same_n in
      led (stored (enter (shape_of (sizes d) size) table k) (subst (λ q. Runs one q c t e) (λ i. enter (shaped (olds i / same_n i) (on_c i) (on_z i)) (on_es i) (at i)) r))

-- as much of a work buffer as a chunk takes
pub slice_long : (size : ChunkSize) (work : Bytes) {n : ℕ} → length work ≡ work_bytes → n ≡ sectors size → length (take (512 * n) work) ≡ 512 * n
slice_long size work {n} long is =
    let few : n ≤ 16 = subst (λ m. m ≤ 16) (sym is) (sectors_within size).1 in
    length-take-le (512 * n) work (omega (arith, long, few))

-- AN ORIGIN WRITE

-- its last step, by what was done before it
abbrev pub put_by : ℕ → Bytes → Outcome Bool → Plan Side (Outcome Bool)
put_by s bytes o = carry o.memory (λ became. origin_put o.memory s bytes became) o.answer

module _ (g : Ground) (s : ℕ) (bytes : Bytes) where
  put_carried : {A : Type 0} (m : Memory) (n : A → Memory) (became : Bool) (p : Moves A) → after m p (λ a. origin_put (n a) s bytes became) ≡ bind (after m p (λ a. giving (n a) became)) (put_by s bytes)
  put_carried {A} m n became p = (λ i. bind p (λ t. by t i)) ∙ sym (bind_bind p (carry m (λ a. giving (n a) became)) (put_by s bytes))
    where
      by : (t : Told Fault A) → carry m (λ a. origin_put (n a) s bytes became) t ≡ bind (carry m (λ a. giving (n a) became) t) (put_by s bytes)
      by (good a) = refl
      by (refused f) = refl

  put_after : (m : Memory) → None ≡ place_tests g m s → origin_writing g m s bytes ≡ bind (making_way g m s) (put_by s bytes)
  put_after closed h = barred g.stopped (pair_fault 5) (pair_fault 4) h
  put_after invalid h = refl
  put_after (serving size table) h = copy_or_not (lookup table (s / sectors size))
    where
      room_or_not : (o : Option ℕ) → origin_diverging g size table s bytes o ≡ bind (way_diverging g size table s o) (put_by s bytes)
      room_or_not None = put_carried (serving size table) (λ _. invalid) true (at_side cow (spoiling (sectors size)))
      room_or_not (Some p) = put_carried (serving size table) (λ more. serving size more) false (copying g size table (s / sectors size) p)

      copy_or_not : (o : Option ℕ) → origin_served g size table s bytes o ≡ bind (way_served g size table s o) (put_by s bytes)
      copy_or_not None = room_or_not (next_free g size table)
      copy_or_not (Some p) = refl

pub way_made : (d : Disks) (m : Memory) (s : ℕ) (bytes : Bytes) (n : ℕ) {o : Outcome Bool} {e : Disks} → length bytes ≡ 512 → n ≡ work_bytes → None ≡ place_tests (ground d) m s → Runs both (making_way (ground d) m s) d o e → Comes both (plan_of (ground d) m plain (write_origin s bytes n)) d (as_call became_invalid plain (put_by s bytes o)) e
way_made d m s bytes n whole long fits r =
    let tests : None ≡ origin_write_tests (ground d) m s bytes n = subst₂ (λ x y. None ≡ first (sector_length x ∷ work_length y ∷ not_stopped (ground d) ∷ opened m ∷ on_origin (ground d) s ∷ [])) (sym whole) (sym long) fits in
    same (begun became_invalid m plain (origin_writing (ground d) m s bytes) tests)
    ⨾ same (ap (as_call became_invalid plain) (put_after (ground d) s bytes m fits))
    ⨾ same (bind_bind (making_way (ground d) m s) (put_by s bytes) (λ o. done (resulted became_invalid plain o)))
    ⨾ ran (λ o. as_call became_invalid plain (put_by s bytes o)) r

-- WHAT IS DONE BEFORE IT

module _ (d : Disks) (size : ChunkSize) (table : List Exception) (s : ℕ) (none : lookup table (s / sectors size) ≡ None) where
  diverges : (o : Option ℕ) → next_free (ground d) size table ≡ o → making_way (ground d) (serving size table) s ≡ way_diverging (ground d) size table s o
  diverges o is = ap (way_served (ground d) size table s) none ∙ ap (way_diverging (ground d) size table s) is

  -- what copying for a write leaves
  abbrev pub copy_leaves : Told Fault (List Exception) → Outcome Bool
  copy_leaves (good more) = record { answer = good false; memory = serving size more }
  copy_leaves (refused f) = record { answer = refused f; memory = serving size table }

  abbrev pub spoil_leaves : Told StoreRefusal (Unit {0}) → Outcome Bool
  spoil_leaves (good x) = record { answer = good true; memory = invalid }
  spoil_leaves (refused f) = record { answer = refused (store_up f); memory = serving size table }

  pub way_copied : (p : ℕ) {t : Told Fault (List Exception)} {e : Disks} → next_free (ground d) size table ≡ Some p → Runs both (copying (ground d) size table (s / sectors size) p) d t e → Runs both (making_way (ground d) (serving size table) s) d (copy_leaves t) e
  way_copied p {t} {e} is r = ends (same (diverges (Some p) is) ⨾ ran (carry (serving size table) (λ more. giving (serving size more) false)) r ⨾ last t)
    where
      last : (t : Told Fault (List Exception)) → Comes both (carry (serving size table) (λ more. giving (serving size more) false) t) e (done (copy_leaves t)) e
      last (good more) = stay
      last (refused f) = stay

  pub way_spoilt : {t : Told StoreRefusal (Unit {0})} {e : Disk} → next_free (ground d) size table ≡ None → Runs one (lifted up (spoiling (sectors size))) d.cow t e → Runs both (making_way (ground d) (serving size table) s) d (spoil_leaves t) (pair d.origin e)
  way_spoilt {t} {e} is r = ends (same (diverges None is) ⨾ ran (carry (serving size table) (λ _. giving invalid true)) (at_cow (spoiling (sectors size)) r) ⨾ last t)
    where
      last : (t : Told StoreRefusal (Unit {0})) → Comes both (carry (serving size table) (λ _. giving invalid true) (raised store_up t)) (pair d.origin e) (done (spoil_leaves t)) (pair d.origin e)
      last (good x) = stay
      last (refused f) = stay

-- an option that is not some
pub absent : {A : Type 0} (o : Option A) → is_some o ≡ false → o ≡ None
absent None h = refl
absent (Some x) h = cc

-- what `?` returns of an origin write
pub wrote_as : (r : Result OriginWrite CodeFault) (f : CodeFault) → IsErrAnd r (λ x. x ≡ f) → wrote r ≡ refused (numbers f)
wrote_as (Ok w) f h = absurd h
wrote_as (Err x) f h = ap (λ z. refused (numbers z)) h

-- what holds of an open pair, of one that was found open
pub while_open : (d : Disks) {held : Held} (size : ChunkSize) (table : List Exception) (s : ℕ) {o : Outcome Bool} {e : Disks} → held ≡ Open → Runs both (making_way (ground d) (serving size table) s) d o e → Runs both (making_way (ground d) (memory held size table) s) d o e
while_open d size table s {o} {e} is r = subst (λ h. Runs both (making_way (ground d) (memory h size table) s) d o e) (sym is) r

-- a work buffer that was zeroed whole, of a call with a sector's bytes
pub zeroed_with : (bytes work : Bytes) {n : ℕ} {x : Bytes} → x ≡ replicate n 0 → n ≡ length work → length bytes ≡ 512 → length work ≡ work_bytes → x ≡ wiped_with bytes work
zeroed_with bytes work zeros kept whole long = zeroed work zeros kept long ∙ sym (cond-true (eqb (length bytes) 512) (wiped work) work (eq-eqb _ _ whole))
