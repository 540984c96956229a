-- Calls that write only the header and areas keep the data sectors.
use Rattle.std.proofs.Common.{◌≡◌, ℕ, zero, suc, ◌+◌, ◌*◌, ◌/◌, ◌%◌, ◌<◌, eqb, Bool, true, false, not, List, [], ◌∷◌, sym, refl, ap, ◌∙◌, subst, mod-lt, mul_comm, arith}
use lib.Arith.{digits_div, digits_mod}
use Rattle.std.specs.List.{ContainsAt as Has}
use Rattle.std.proofs.lemmas.Bool.{and_parts, true≢false, eq-eqb, ne_eqb, not_from_true, cond-false}
use Rattle.device.specs.Disk.{Bytes, Cell, Disk, Fate, possibilities, Op, reads, writes, flushes, Way, passes, leaves, refuses, way, told_by, after_by, Told, good, refused, Refusal}
use Rattle.device.specs.Plans.{Plan, done, call, run, ended, Runs, one, Steps, onward, then, zeroing}
use Rattle.device.proofs.Steps.{never}
use Rattle.layout.specs.declared.exception.Exception.{Exception}
use Rattle.layout.specs.Chunks.{per_area, area_chunk, area_start, area_place, is_area, is_data}
use Rattle.layout.specs.Entries.{pic}
use Rattle.layout.specs.Headers.{header}
use Rattle.exceptions.specs.Table.{fills_area}
use Rattle.store.specs.Scanning.{Ending}
use Rattle.store.specs.Steps.{finished, flushing, storing, making, spoiling, preparing, entering, unwinding, dropping, cleaning}
use Rattle.recovery.specs.Readings.{image}
use Rattle.recovery.specs.Data.{IsData, DataKept}
use Rattle.recovery.proofs.Allowed.{Allowed, Writes, on_good, run_within, then_writes, cleaning_writes}
use Rattle.recovery.proofs.Enters.{zeroing_writes, storing_writes}
use Rattle.recovery.proofs.Zeros.{put_elsewhere}

-- WHERE DATA IS NOT

pub header_no_data : (c : ℕ) → 0 < c → IsData c 0 → ⊥
header_no_data c some h = true≢false (sym h ∙ ap (is_data c) (let none : 0 / c ≡ 0 = (let z : 0 ≡ 0 * c + 0 = omega (arith, mul_comm 0 c) in ap (λ n. n / c) z) ∙ digits_div 0 some in none))

pub area_no_data : (c a q : ℕ) → q < c → IsData c (area_start c a + q) → ⊥
area_no_data c a q l h =
    let chunk : (area_start c a + q) / c ≡ area_chunk c a = digits_div (area_chunk c a) l in
    let rest : area_chunk c a % (per_area c + 1) ≡ 1 = ap (λ n. n % (per_area c + 1)) (let z : area_chunk c a ≡ a * (per_area c + 1) + 1 = omega (arith, mul_comm a (per_area c + 1)) in z) ∙ digits_mod a (omega arith) in
    let area : not (is_area c (area_chunk c a)) ≡ false = not_from_true _ (eq-eqb _ _ rest) in
    true≢false (sym (and_parts _ (not (is_area c (area_chunk c a))) (ap (is_data c) (sym chunk) ∙ h)).1 ∙ area)

pub place_no_data : (c j : ℕ) → 0 < c → IsData c (area_place c j) → ⊥
place_no_data c j some h = area_no_data c (j / c) (j % c) (mod-lt j some) h

-- WHAT A RUN KEEPS

-- other sectors than s
abbrev pub Elsewhere : ℕ → ℕ → Bytes → Type 0
Elsewhere s t b = t ≡ s → ⊥

-- one call that does not write sector s
step_reads : (s : ℕ) (w : Way) (o : Op) (d : Disk) (f : Fate) → Allowed (Elsewhere s) o → image (after_by w o d f) s ≡ image d s
step_reads s passes (reads len t) d f ok = refl
step_reads s passes (writes t bytes) d f ok = put_elsewhere d t bytes f s (λ is. ok (sym is))
step_reads s passes flushes d f ok = refl
step_reads s leaves (reads len t) d f ok = refl
step_reads s leaves (writes t bytes) d f ok = ap (λ (c : Cell). c.latest) (cond-false (eqb s t) _ _ (ne_eqb s t (λ is. ok (sym is))))
step_reads s leaves flushes d f ok = refl
step_reads s (refuses n p) o d f ok = refl

-- a sector that a plan does not write reads the same
pub run_reads : {X : Type 0} (s : ℕ) (p : Plan (Unit {0}) X) (fs : List Fate) (d e : Disk) (x : X) → Writes (Elsewhere s) p → run one p fs d ≡ ended x e → image e s ≡ image d s
run_reads s (done y) [] d e x ok h = let same : d ≡ e = cc in ap (λ y. image y s) (sym same)
run_reads s (done y) (f ∷ fs) d e x ok h = never h
run_reads s (call u o k) [] d e x ok h = never h
run_reads s (call u o k) (f ∷ fs) d e x ok h =
    let w = way o d f in
    run_reads s (k (told_by w o d)) fs (after_by w o d f) e x (ok.1 _) h ∙ step_reads s w o d f ok.0

-- a plan that writes no data sector
abbrev pub Quiet : {X : Type 0} → ℕ → Plan (Unit {0}) X → Type 1
Quiet c p = (A : ℕ → Bytes → Type 0) → ((s : ℕ) (b : Bytes) → (IsData c s → ⊥) → A s b) → Writes A p

pub quiet_keeps : {X : Type 0} (c : ℕ) (p : Plan (Unit {0}) X) (x : X) (d e : Disk) → Quiet c p → Runs one p d x e → DataKept c d e
quiet_keeps c p x d e quiet r = record {
  possible = λ s b is has. run_within (λ s b. IsData c s → Has (possibilities (d.cells s)) b) (quiet (λ s b. IsData c s → Has (possibilities (d.cells s)) b) (λ s b no is. absurd (no is))) r (λ s b has _. has) s b has is;
  reads = λ s is on. run_reads s p r.fates d e x (quiet (Elsewhere s) (λ t b no same. no (subst (IsData c) (sym same) is))) r.comes;
}

pub kept_same : (c : ℕ) (d e : Disk) → e.cells ≡ d.cells → DataKept c d e
kept_same c d e is = record {
  possible = λ s b _ has. subst (λ y. Has (possibilities (y s)) b) is has;
  reads = λ s _ _. ap (λ y. (y s).latest) is;
}

-- THE PLANS

module _ (c : ℕ) (some : 0 < c) where
  header_quiet : (bytes : Bytes) → Quiet c (storing 0 bytes)
  header_quiet bytes A ok = storing_writes A 0 bytes (ok 0 bytes (header_no_data c some))

  area_quiet : (a : ℕ) → Quiet c (zeroing (area_start c a) c)
  area_quiet a A ok = zeroing_writes A c (area_start c a) (λ i l. ok _ _ (area_no_data c a i l))

  -- a plan after steps that were good
  then_quiet : (p q : Steps) → Quiet c p → Quiet c q → Quiet c (then p (λ _. q))
  then_quiet p q first rest A ok = then_writes A p (λ t. onward t (λ _. q)) (first A ok) after
    where
      after : (t : Told Refusal (Unit {0})) → Writes A (onward t (λ _. q))
      after (good u) = rest A ok
      after (refused f) = tt

  flush_quiet : (q : Steps) → Quiet c q → Quiet c (flushing q)
  flush_quiet q rest A ok = (tt, on_good A (λ _. q) (λ _. rest A ok))

  pub making_quiet : Quiet c (making c)
  making_quiet A ok = (
    ok 0 _ (header_no_data c some),
    on_good A (λ _. flushing (then (zeroing (area_start c 0) c) (λ _. flushing (storing 0 (header true c)))))
        (λ _. flush_quiet _ (then_quiet (zeroing (area_start c 0) c) (flushing (storing 0 (header true c))) (area_quiet 0) (flush_quiet _ (header_quiet (header true c)))) A ok),
  )

  pub spoiling_quiet : Quiet c (spoiling c)
  spoiling_quiet = header_quiet (header false c)

  pub preparing_quiet : (b : Bool) (a : ℕ) → Quiet c (preparing b c a)
  preparing_quiet true a A ok = area_quiet a A ok
  preparing_quiet false a A ok = tt

  pub entry_quiet : (list : List Exception) (n : ℕ) → Quiet c (storing (area_place c (n / 32)) (pic list (n / 32)))
  entry_quiet list n A ok = storing_writes A _ _ (ok _ _ (place_no_data c (n / 32) some))

  pub entering_quiet : (list : List Exception) (n : ℕ) → Quiet c (entering c list n)
  entering_quiet list n =
      then_quiet (preparing (fills_area c n) c (n / per_area c + 1)) (flushing (storing (area_place c (n / 32)) (pic list (n / 32)))) (preparing_quiet (fills_area c n) _)
      (flush_quiet _ (entry_quiet list n))

  unwinding_quiet : (list : List Exception) (j n : ℕ) → Quiet c (unwinding c list j n)
  unwinding_quiet list j zero A ok = tt
  unwinding_quiet list j (suc n) A ok = (ok _ _ (place_no_data c (j + n) some), on_good A (λ _. unwinding c list j n) (λ _. unwinding_quiet list j n A ok))

  pub dropping_quiet : (list : List Exception) (n : ℕ) → Quiet c (dropping c list n)
  dropping_quiet list n = then_quiet (unwinding c list _ _) (flushing finished) (unwinding_quiet list _ _) (flush_quiet finished (λ A ok. tt))

  pub cleaning_quiet : (x : Ending) → x.place < per_area c → Quiet c (cleaning c x)
  cleaning_quiet x inside A ok =
      let q = x.place / 32 in
      cleaning_writes A c x (λ i l. let at : area_start c x.area + q + i ≡ area_start c x.area + (q + i) = omega arith in ok _ _ (λ is. area_no_data c x.area (q + i) (omega arith) (subst (IsData c) at is)))
