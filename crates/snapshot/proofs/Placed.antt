-- The steps of a snapshot write.
use Rattle.std.proofs.Common.{◌≡◌, ℕ, ◌/◌, List, ◌∷◌, length, Some, None, Option, IsErrAnd, Ok, Err, Result, refl, sym, ap, ◌∙◌, subst, subst₂}
use Rattle.device.specs.Disk.{Bytes, Disk, Told, good, refused}
use Rattle.device.specs.Plans.{Plan, done, Runs, bind, one, both, Side, Disks, pair, raised}
use Rattle.device.proofs.Steps.{Comes, same, stay, ◌⨾◌, ran, ends, bind_bind}
use Rattle.layout.specs.Chunks.{sectors}
use Rattle.layout.specs.declared.chunk.ChunkSize.{ChunkSize}
use Rattle.layout.specs.declared.exception.Exception.{Exception}
use Rattle.exceptions.specs.Table.{lookup}
use Rattle.store.specs.Refusals.{StoreRefusal}
use Rattle.store.specs.Steps.{shaped, shape_of, copy_write}
use Rattle.history.specs.Faults.{Fault, store_up, Moves, in_store}
use Rattle.history.specs.Steps.{work_bytes, sizes, Memory, closed, serving, invalid, plain, Outcome, Ground, ground, after, carry, giving, while_serving, copying, next_free, first, sector_length, work_length, view_tests, copy_put, snapshot_diverging, snapshot_served, snapshot_writing, snapshot_write_tests}
use Rattle.history.specs.History.{as_call, resulted, replied, plan_of, nothing, write_snapshot}
use Rattle.snapshot.specs.declared.fault.Fault.{Fault as CodeFault}
use Rattle.snapshot.specs.declared.state.Held.{Held}
use Rattle.snapshot.specs.declared.state.Held.TheVariants.{Open}
use Rattle.snapshot.specs.Answers.{numbers, gave, answered}
use Rattle.snapshot.specs.Pairs.{memory}
use Rattle.snapshot.specs.Ways.{placing_free, placing_served, placing}
use Rattle.snapshot.proofs.Begun.{begun}
use Rattle.snapshot.proofs.OnBoth.{stored, after_ran, emptied}

-- WHERE THE COPY STANDS

module _ (d : Disks) (size : ChunkSize) (table : List Exception) (s : ℕ) (none : lookup table (s / sectors size) ≡ None) where
  -- what copying for it leaves
  abbrev pub place_leaves : ℕ → Told Fault (List Exception) → Outcome ℕ
  place_leaves p (good more) = record { answer = good p; memory = serving size more }
  place_leaves p (refused f) = record { answer = refused f; memory = serving size table }

  pub place_copied : (p : ℕ) {t : Told Fault (List Exception)} {e : Disks} → next_free (ground d) size table ≡ Some p → Runs both (copying (ground d) size table (s / sectors size) p) d t e → Runs both (placing (ground d) (serving size table) s) d (place_leaves p t) e
  place_copied p {t} {e} is r =
      ends
      (same (ap (placing_served (ground d) size table s) none ∙ ap (placing_free (ground d) size table s) is)
      ⨾ ran (carry (serving size table) (λ more. giving (serving size more) p)) r ⨾ last t)
    where
      last : (t : Told Fault (List Exception)) → Comes both (carry (serving size table) (λ more. giving (serving size more) p) t) e (done (place_leaves p t)) e
      last (good more) = stay
      last (refused f) = stay

-- what holds of an open pair, of one that was found open
pub placing_open : (d : Disks) {held : Held} (size : ChunkSize) (table : List Exception) (s : ℕ) {o : Outcome ℕ} {e : Disks} → held ≡ Open → Runs both (placing (ground d) (serving size table) s) d o e → Runs both (placing (ground d) (memory held size table) s) d o e
placing_open d size table s {o} {e} is r = subst (λ h. Runs both (placing (ground d) (memory h size table) s) d o e) (sym is) r

-- what `?` returns of it
pub gave_as : {A : Type 0} (r : Result A CodeFault) (f : CodeFault) → IsErrAnd r (λ x. x ≡ f) → gave r ≡ refused (numbers f)
gave_as (Ok a) f h = absurd h
gave_as (Err x) f h = ap (λ z. refused (numbers z)) h

pub answered_as : (r : Result (Unit {0}) CodeFault) (f : CodeFault) → IsErrAnd r (λ x. x ≡ f) → answered r ≡ refused (numbers f)
answered_as (Ok a) f h = absurd h
answered_as (Err x) f h = ap (λ z. refused (numbers z)) h

-- THE WRITE

-- its last step, by what was done before it
abbrev pub put_copy : Ground → ℕ → Bytes → Outcome ℕ → Plan Side (Outcome (Unit {0}))
put_copy g s bytes o = carry o.memory (λ p. while_serving o.memory (λ size table. copy_put g size table s bytes p)) o.answer

module _ (g : Ground) (s : ℕ) (bytes : Bytes) where
  put_placed : (size : ChunkSize) (table : List Exception) (p : ℕ) (q : Moves (List Exception)) → after (serving size table) q (λ more. copy_put g size more s bytes p) ≡ bind (after (serving size table) q (λ more. giving (serving size more) p)) (put_copy g s bytes)
  put_placed size table p q = (λ i. bind q (λ t. by t i)) ∙ sym (bind_bind q (carry (serving size table) (λ more. giving (serving size more) p)) (put_copy g s bytes))
    where
      by : (t : Told Fault (List Exception)) → carry (serving size table) (λ more. copy_put g size more s bytes p) t ≡ bind (carry (serving size table) (λ more. giving (serving size more) p) t) (put_copy g s bytes)
      by (good a) = refl
      by (refused f) = refl

  place_after : (m : Memory) → snapshot_writing g m s bytes ≡ bind (placing g m s) (put_copy g s bytes)
  place_after closed = refl
  place_after invalid = refl
  place_after (serving size table) = copy_or_not (lookup table (s / sectors size))
    where
      room_or_not : (o : Option ℕ) → snapshot_diverging g size table s bytes o ≡ bind (placing_free g size table s o) (put_copy g s bytes)
      room_or_not None = refl
      room_or_not (Some p) = put_placed size table p (copying g size table (s / sectors size) p)

      copy_or_not : (o : Option ℕ) → snapshot_served g size table s bytes o ≡ bind (placing_served g size table s o) (put_copy g s bytes)
      copy_or_not None = room_or_not (next_free g size table)
      copy_or_not (Some p) = refl

pub placed : (d : Disks) (m : Memory) (s : ℕ) (bytes : Bytes) (n : ℕ) {o : Outcome ℕ} {e : Disks} → length bytes ≡ 512 → n ≡ work_bytes → None ≡ first (view_tests (ground d) m s) → Runs both (placing (ground d) m s) d o e → Comes both (plan_of (ground d) m plain (write_snapshot s bytes n)) d (as_call (λ _. nothing) plain (put_copy (ground d) s bytes o)) e
placed d m s bytes n whole long fits r =
    let tests : None ≡ snapshot_write_tests (ground d) m s bytes n = subst₂ (λ x y. None ≡ first (sector_length x ∷ work_length y ∷ view_tests (ground d) m s)) (sym whole) (sym long) fits in
    same (begun (λ _. nothing) m plain (snapshot_writing (ground d) m s bytes) tests)
    ⨾ same (ap (as_call (λ _. nothing) plain) (place_after (ground d) s bytes m))
    ⨾ same (bind_bind (placing (ground d) m s) (put_copy (ground d) s bytes) (λ o. done (resulted (λ _. nothing) plain o)))
    ⨾ ran (λ o. as_call (λ _. nothing) plain (put_copy (ground d) s bytes o)) r

-- the write to the copy at p, once it is there
pub put_there : (d : Disks) {held : Held} (size : ChunkSize) (table : List Exception) (s p : ℕ) (bytes : Bytes) {o c e : Disk} {t : Told StoreRefusal Bytes} → held ≡ Open → c.count ≡ d.cow.count → Runs one (copy_write (shaped 0 c.count size) p s bytes) c t e → Comes both (as_call (λ _. nothing) plain (put_copy (ground d) s bytes (record { answer = good p; memory = memory held size table }))) (pair o c) (done (record { answer = replied (λ _. nothing) (raised store_up (emptied t)); memory = serving size table; mode = plain })) (pair o e)
put_there d size table s p bytes {o} {c} {e} {t} is count r =
    let run = stored (copy_write (shape_of (sizes d) size) p s bytes) (subst (λ n. Runs one (copy_write (shaped 0 n size) p s bytes) c t e) count r) in
    same (ap (λ h. as_call (λ _. nothing) plain (put_copy (ground d) s bytes (record { answer = good p; memory = memory h size table }))) is)
    ⨾ after_ran (λ _. nothing) plain (serving size table) (in_store (copy_write (shape_of (sizes d) size) p s bytes)) (λ _. giving (serving size table) tt) run
    ⨾ last t
  where
    last : (t : Told StoreRefusal Bytes) → Comes both (as_call {A = Unit {0}} (λ _. nothing) plain (carry (serving size table) (λ _. giving (serving size table) tt) (raised store_up t))) (pair o e) (done (record { answer = replied (λ _. nothing) (raised store_up (emptied t)); memory = serving size table; mode = plain })) (pair o e)
    last (good b) = stay
    last (refused f) = stay
