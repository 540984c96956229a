-- The steps of making and of opening.
use Rattle.std.proofs.Common.{◌≡◌, ℕ, Bool, true, false, not, inl, eqb, length, replicate, List, [], Some, None, Option, Ok, refl, sym, ap, ◌∙◌, subst, subst₂}
use Rattle.std.proofs.lemmas.Bool.{eq-eqb, cond-true}
use Rattle.std.specs.Option.{ok_or}
use Rattle.device.specs.Disk.{Whole, Bytes, Disk, flushes, Told, Refusal, good, refused, Called}
use Rattle.device.specs.Plans.{Plan, World, done, Runs, then, raised, lifted, one, both, Side, origin, cow, Disks, pair}
use Rattle.device.proofs.Steps.{Comes, same, stay, ◌⨾◌, called, ran, ends}
use Rattle.layout.specs.Chunks.{sectors, chunk_size}
use Rattle.layout.specs.declared.chunk.ChunkSize.{ChunkSize}
use Rattle.layout.specs.declared.exception.Exception.{Exception}
use Rattle.store.specs.Image.{Sizes, well_shaped}
use Rattle.recovery.specs.Standing.{Lies}
use Rattle.recovery.specs.Breaks.{AfterMaking}
use Rattle.recovery.proofs.Calls.{make_leaves}
use Rattle.recovery.proofs.Stand.{standing_lies}
use Rattle.store.specs.Refusals.{StoreRefusal, up}
use Rattle.store.specs.Steps.{Contents, making, opening}
use Rattle.history.specs.Faults.{Fault, passed_up, store_up, pair_fault, flush, at_side, in_store}
use Rattle.history.specs.Steps.{work_bytes, sizes, Memory, closed, plain, serving, Outcome, Ground, ground, guarded, after, carry, giving, open_tests, make_tests, test, shape, make, make_sized}
use Rattle.snapshot.specs.declared.state.Held.{Held}
use Rattle.snapshot.specs.declared.state.Held.TheVariants.{Closed, Open, Invalid}
use Rattle.history.specs.History.{Result, nothing, as_call, plan_of, reopen}
use Rattle.history.proofs.Safe.{crash_safe}
use Rattle.snapshot.specs.Pairs.{memory, wiped, Kept, LeftOfMaking}
use Rattle.snapshot.proofs.Begun.{barred, begun}
use Rattle.snapshot.proofs.OnBoth.{at_cow, stored, after_ran}

-- tests that ask for a closed pair find one
pub closes : (g : Ground) (held : Held) (size : ChunkSize) (table : List Exception) → None ≡ make_tests g (memory held size table) → held ≡ Closed
closes g Closed size table h = refl
closes g Open size table h = barred g.stopped (pair_fault 5) (pair_fault 4) h
closes g Invalid size table h = barred g.stopped (pair_fault 5) (pair_fault 4) h

-- what making answers, by what the origin or the store answered
abbrev pub origin_refuses : Memory → Refusal → Outcome (Unit {0})
origin_refuses m f = record { answer = refused (passed_up origin f); memory = m }

abbrev pub store_answers : Memory → ChunkSize → Told StoreRefusal (Unit {0}) → Outcome (Unit {0})
store_answers m size (good x) = record { answer = good tt; memory = serving size [] }
store_answers m size (refused f) = record { answer = refused (store_up f); memory = m }

module _ (d : Disks) (m : Memory) (c : ℕ) (size : ChunkSize) (fresh : None ≡ make_tests (ground d) m) (is : chunk_size c ≡ Some size) (fits : None ≡ shape (ground d) (sectors size)) where
  sized : make (ground d) m c ≡ make_sized (ground d) m (Some size)
  sized = ap (λ t. guarded m t (make_sized (ground d) m (chunk_size c))) (sym fresh) ∙ ap (make_sized (ground d) m) is

  abbrev steps : Option Fault → Plan Side (Outcome (Unit {0}))
  steps t = guarded m t (after m (then (flush origin) (λ _. at_side cow (making (sectors size)))) (λ _. giving (serving size []) tt))

  pub unflushed : {f : Refusal} {o : Disk} → Called flushes d.origin (refused f) o → Runs both (make (ground d) m c) d (origin_refuses m f) (pair o d.cow)
  unflushed first = ends (same (sized ∙ ap steps (sym fits)) ⨾ called first)

  pub made_both : {b : Bytes} {o e : Disk} {t : Told StoreRefusal (Unit {0})} → Called flushes d.origin (good b) o → Runs one (lifted up (making (sectors size))) d.cow t e → Runs both (make (ground d) m c) d (store_answers m size t) (pair o e)
  made_both {t = t} first r = ends (same (sized ∙ ap steps (sym fits)) ⨾ called first ⨾ ran (carry m (λ _. giving (serving size []) tt)) (at_cow (making (sectors size)) r) ⨾ last t)
    where
      last : {s : Disks} (t : Told StoreRefusal (Unit {0})) → Comes both (carry m (λ _. giving (serving size []) tt) (raised store_up t)) s (done (store_answers m size t)) s
      last (good x) = stay
      last (refused f) = stay

-- WHAT A POWER CUT LEAVES OF A MAKING

-- of a device that it did not reach
pub left_alone : (c : ℕ) (z : Sizes) (d : Disk) → LeftOfMaking c z d d
left_alone c z d size after is cut = inl cut.one_of

fitting : (b : Bool) (f : Fault) → None ≡ test (not b) f → b ≡ true
fitting true f h = refl
fitting false f h = cc

some_is : {A : Type 0} {x y : A} → Some x ≡ Some y → x ≡ y
some_is h = cc

-- of one that it did
pub left_of_making : (d : Disks) (c : ℕ) (size : ChunkSize) {t : Told StoreRefusal (Unit {0})} {e : Disk} → chunk_size c ≡ Some size → None ≡ shape (ground d) (sectors size) → Runs one (lifted up (making (sectors size))) d.cow t e → LeftOfMaking c (ground d).size d.cow e
left_of_making d c size {t} {e} chose fits r other after is cut =
    let z = sizes d in
    let well = fitting (well_shaped z (sectors size)) (pair_fault 9) fits in
    subst (λ x. AfterMaking Lies z x d.cow after) (some_is (sym chose ∙ is)) (make_leaves standing_lies z size d.cow e after t well r cut)

-- the size of chunks that was chosen
pub chosen : {A F : Type 0} {x : A} (o : Option A) (f : F) → Ok x ≡ ok_or o f → o ≡ Some x
chosen None f h = cc
chosen (Some y) f h = cc

pub ending_as : {W S A : Type 0} {w : World W S} {p : Plan W A} {s e : S} {a b : A} → a ≡ b → Runs w p s b e → Runs w p s a e
ending_as {w = w} {p = p} {s = s} {e = e} is r = subst (λ x. Runs w p s x e) (sym is) r

-- a making that was good begins what keeps the promise
pub kept : (c : ℕ) (d e : Disks) (m n : Memory) → Whole d.origin → Whole d.cow → m ≡ closed → Runs both (make (ground d) m c) d (record { answer = good tt; memory = n }) e → Kept c d (record { disks = e; memory = n; mode = plain })
kept c d e m n wo wc is r =
    let x = crash_safe c d (record { disks = e; memory = n; mode = plain }) wo wc (record { ran = subst (λ y. Runs both (make (ground d) y c) d (record { answer = good tt; memory = n }) e) is r; pair = refl }) in
    (x.0, x.1, x.2, x.3)

-- OPENING

-- a closed pair remembers nothing
pub forgets : {held : Held} (a b : ChunkSize) (s t : List Exception) → held ≡ Closed → memory held a s ≡ memory held b t
forgets a b s t is = ap (λ h. memory h a s) is ∙ sym (ap (λ h. memory h b t) is)

-- a work buffer that was zeroed whole
pub zeroed : (bytes : Bytes) {n : ℕ} {x : Bytes} → x ≡ replicate n 0 → n ≡ length bytes → length bytes ≡ work_bytes → x ≡ wiped bytes
zeroed bytes {x = x} zeros kept long =
    let all : x ≡ replicate work_bytes 0 = zeros ∙ ap (λ n. replicate n 0) (kept ∙ long) in
    all ∙ sym (cond-true (eqb (length bytes) work_bytes) _ _ (eq-eqb _ _ long))

-- what opening answers, by what the store answered
abbrev pub open_ends : Memory → Told StoreRefusal Contents → Result
open_ends m (good o) = record { answer = good nothing; memory = serving o.size o.table; mode = plain }
open_ends m (refused f) = record { answer = refused (store_up f); memory = m; mode = plain }

pub reopened : (d : Disks) (m : Memory) (n : ℕ) {z : ℕ} {t : Told StoreRefusal Contents} {e : Disk} → n ≡ work_bytes → z ≡ d.origin.count → None ≡ make_tests (ground d) m → Runs one (opening (record { origin = z; cow = d.cow.count }) n) d.cow t e → Runs both (plan_of (ground d) m plain (reopen n)) d (open_ends m t) (pair d.origin e)
reopened d m n {t = t} {e = e} long here fresh r =
    let tests : None ≡ open_tests (ground d) m n = subst (λ n. None ≡ open_tests (ground d) m n) (sym long) fresh in
    let run = stored (opening (sizes d) work_bytes) (subst₂ (λ n z. Runs one (opening (record { origin = z; cow = d.cow.count }) n) d.cow t e) long here r) in
    ends (same (begun (λ _. nothing) m plain steps tests) ⨾ after_ran {B = Unit {0}} (λ _. nothing) plain m (in_store (opening (sizes d) work_bytes)) (λ o. giving (serving o.size o.table) tt) run ⨾ last t)
  where
    steps : Plan Side (Outcome (Unit {0}))
    steps = after m (in_store (opening (sizes d) work_bytes)) (λ o. giving (serving o.size o.table) tt)

    last : (t : Told StoreRefusal Contents) → Comes both (as_call {A = Unit {0}} (λ _. nothing) plain (carry m (λ o. giving (serving o.size o.table) tt) (raised store_up t))) (pair d.origin e) (done (open_ends m t)) (pair d.origin e)
    last (good o) = stay
    last (refused f) = stay
