-- What every write of a plan may leave, every run of it leaves: good, refused or broken off.
use Rattle.std.proofs.Common.{◌≡◌, ℕ, zero, suc, ◌+◌, ◌-◌, ◌*◌, ◌/◌, ◌<◌, Bool, cond, eqb, ◌⊎◌, List, [], ◌∷◌, take, drop, sym, ap, ◌∙◌, subst, inl, inr, ⊎_elim, arith, drop-drop}
use Rattle.std.specs.List.{ContainsAt as Has}
use Rattle.std.proofs.ByRecursion.{has_push_cases}
use Rattle.std.proofs.lemmas.Bool.{eq-eqb, ne_eqb, cond-true, cond-false, cases_eq, cases_Bool}
use Rattle.device.specs.Disk.{Bytes, Cell, possibilities, kept, thin, torn, Disk, Fate, Op, reads, writes, flushes, Way, passes, leaves, refuses, way, carried, Told, good, refused, Refusal, told_by, after_by, Cut}
use Rattle.device.specs.Plans.{Plan, done, call, ended, run, Runs, one, Steps, bind, onward, then, spreading}
use Rattle.device.proofs.Possible.{kept_has, last_has}
use Rattle.device.proofs.Ruled.{torn_tears}
use Rattle.device.proofs.Steps.{never}
use Rattle.device.proofs.Uses.{Went, went_on, left_in, was_refused, went}
use Rattle.layout.specs.Chunks.{area_start}
use Rattle.store.specs.Image.{all_zero, cleaned}
use Rattle.store.specs.Scanning.{Ending}
use Rattle.store.specs.Steps.{finished, flushing, cleaning}
use Rattle.recovery.specs.Readings.{image}
use Rattle.recovery.specs.Standing.{Within}
use Rattle.recovery.proofs.Gathered.{part}

module _ (A : ℕ → Bytes → Type 0) where
  -- a write puts what is allowed
  abbrev pub Allowed : Op → Type 0
  Allowed (reads len s) = Unit {0}
  Allowed (writes s b) = A s b
  Allowed flushes = Unit {0}

  -- a sector whose possibilities are allowed
  abbrev pub CellWithin : ℕ → Cell → Type 0
  CellWithin s c = (b : Bytes) → Has (possibilities c) b → A s b

  thin_within : (s : ℕ) (c : Cell) (places : List ℕ) → CellWithin s c → CellWithin s (thin c places)
  thin_within s c places h b has = ⊎_elim (λ k. h b (kept_has c places b k)) (λ is. subst (A s) is (h c.latest (last_has c))) (has_push_cases (kept c places) c.latest b has)

  put_within : (s t : ℕ) (c : Cell) (places : List ℕ) (bytes : Bytes) → A s bytes → CellWithin t c → CellWithin t (record { older = kept c places; latest = cond (eqb t s) bytes c.latest })
  put_within s t c places bytes new h b has =
      let latest : A t (cond (eqb t s) bytes c.latest) =
      ⊎_elim (λ e. subst (A t) (sym (cond-true (eqb t s) _ _ (eq-eqb t s e))) (subst (λ u. A u bytes) (sym e) new)) (λ ne. subst (A t) (sym (cond-false (eqb t s) _ _ (ne_eqb t s ne))) (h c.latest (last_has c))) (cases_eq t s) in
      ⊎_elim (λ k. h b (kept_has c places b k)) (λ is. subst (A t) is latest) (has_push_cases (kept c places) (cond (eqb t s) bytes c.latest) b has)

  torn_within : (s : ℕ) (c : Cell) (bytes : Bytes) (took : Bool) (places : List ℕ) (last : ℕ) → A s bytes → CellWithin s c → CellWithin s (torn c bytes took places last)
  torn_within s c bytes took places last new h b has = ⊎_elim (h b) (λ is. subst (A s) is new) ((torn_tears c bytes took places last).none_else b has)

  struck_within : (s t : ℕ) (d : Disk) (bytes : Bytes) (f : Fate) → A s bytes → Within A d → CellWithin t (cond (eqb t s) (torn (d.cells s) bytes f.took (f.keeps s) f.last) (thin (d.cells t) (f.keeps t)))
  struck_within s t d bytes f new h =
      ⊎_elim
      (λ e. subst (CellWithin t) (sym (cond-true (eqb t s) _ _ (eq-eqb t s e))) (subst (λ u. CellWithin u (torn (d.cells s) bytes f.took (f.keeps s) f.last)) (sym e) (torn_within s (d.cells s) bytes f.took (f.keeps s) f.last new (h s))))
      (λ ne. subst (CellWithin t) (sym (cond-false (eqb t s) _ _ (ne_eqb t s ne))) (thin_within t (d.cells t) (f.keeps t) (h t)))
      (cases_eq t s)

  pub by_way : (w : Way) (o : Op) (d : Disk) (f : Fate) → Allowed o → Within A d → Within A (after_by w o d f)
  by_way passes (reads len s) d f ok h = h
  by_way passes (writes s bytes) d f ok h = λ t. put_within s t (d.cells t) (f.keeps t) bytes ok (h t)
  by_way passes flushes d f ok h = λ t b has. thin_within t (d.cells t) [] (h t) b has
  by_way leaves (reads len s) d f ok h = h
  by_way leaves (writes s bytes) d f ok h = λ t. struck_within s t d bytes f ok h
  by_way leaves flushes d f ok h = λ t. thin_within t (d.cells t) (f.keeps t) (h t)
  by_way (refuses n p) o d f ok h = h

  -- one call and then the rest, or it broke off there
  pub call_step : (o : Op) (p : Steps) {d e : Disk} {t : Told Refusal (Unit {0})} → Allowed o → Within A d → Runs one (call tt o (λ t. onward t (λ _. p))) d t e → ((f : Fate) × Runs one p (carried o d f) t e × Within A (carried o d f)) ⊎ Within A e
  call_step o p {d} {e} {t} ok w r = by (went r)
    where
      by : Went {B = Unit {0}} one tt o (λ _. p) d t e → ((f : Fate) × Runs one p (carried o d f) t e × Within A (carried o d f)) ⊎ Within A e
      by (went_on f is q) = inl (f, q, by_way passes o d f ok w)
      by (left_in f is a y) = inr (subst (Within A) (sym y) (by_way leaves o d f ok w))
      by (was_refused f n p is a y) = inr (subst (Within A) (sym y) w)

  -- all writes of a plan are allowed
  abbrev pub Writes : {X : Type 0} → Plan (Unit {0}) X → Type 0
  Writes (done x) = Unit {0}
  Writes (call u o k) = Allowed o × ((t : Told Refusal Bytes) → Writes (k t))

  pub run_within : {X : Type 0} {p : Plan (Unit {0}) X} {d e : Disk} {x : X} → Writes p → Runs one p d x e → Within A d → Within A e
  run_within {X} {p} {d} {e} {x} ok r = go p r.fates d ok r.comes
    where
      go : (p : Plan (Unit {0}) X) (fs : List Fate) (d : Disk) → Writes p → run one p fs d ≡ ended x e → Within A d → Within A e
      go (done y) [] d ok h w = let same : d ≡ e = cc in subst (Within A) same w
      go (done y) (f ∷ fs) d ok h w = never h
      go (call u o k) [] d ok h w = never h
      go (call u o k) (f ∷ fs) d ok h w = go (k (told_by (way o d f) o d)) fs (after_by (way o d f) o d f) (ok.1 _) h (by_way (way o d f) o d f ok.0 w)

  -- a plan that goes on where a call was good
  pub on_good : (p : Bytes → Steps) → ((b : Bytes) → Writes (p b)) → (t : Told Refusal Bytes) → Writes (onward t p)
  on_good p ok (good b) = ok b
  on_good p ok (refused r) = tt

  -- one plan after another
  pub then_writes : {X Y : Type 0} (p : Plan (Unit {0}) X) (g : X → Plan (Unit {0}) Y) → Writes p → ((x : X) → Writes (g x)) → Writes (bind p g)
  then_writes (done x) g ok on = on x
  then_writes (call u o k) g ok on = (ok.0, λ t. then_writes (k t) g (ok.1 t) on)

  -- bytes over n sectors
  pub spreading_writes : (n s : ℕ) (bytes : Bytes) → ((i : ℕ) → i < n → A (s + i) (part bytes i)) → Writes (spreading s n bytes)
  spreading_writes zero s bytes ok = tt
  spreading_writes (suc n) s bytes ok =
      let here = subst (λ t. A t (take 512 bytes)) (let z : s + 0 ≡ s = omega arith in z) (ok 0 (omega arith)) in
      let later : (i : ℕ) → i < n → A ((s + 1) + i) (part (drop 512 bytes) i) = λ i h.
      let at : s + suc i ≡ (s + 1) + i = omega arith in
      let next : drop (512 * suc i) bytes ≡ drop (512 * i) (drop 512 bytes) = (let z : 512 * suc i ≡ 512 + 512 * i = omega arith in ap (λ k. drop k bytes) z) ∙ sym (drop-drop (512 * i) 512 bytes) in
      subst (λ t. A t (part (drop 512 bytes) i)) at (subst (A (s + suc i)) (ap (take 512) next) (ok (suc i) (omega arith))) in
      (here, on_good (λ _. spreading (s + 1) n (drop 512 bytes)) (λ _. spreading_writes n (s + 1) (drop 512 bytes) later))

  -- steps and then a flush
  pub flushed_writes : (p : Steps) → Writes p → Writes (then p (λ _. flushing finished))
  flushed_writes p ok = then_writes p (λ t. onward t (λ _. flushing finished)) ok after
    where
      after : (t : Told Refusal (Unit {0})) → Writes (onward t (λ _. flushing finished))
      after (good u) = (tt, on_good (λ _. finished) (λ _. tt))
      after (refused r) = tt

  -- a cleaning
  pub cleaning_writes : (c : ℕ) (x : Ending) → ((i : ℕ) → i < c - x.place / 32 → A (area_start c x.area + x.place / 32 + i) (part (drop (512 * (x.place / 32)) (cleaned x.bytes x.place)) i)) → Writes (cleaning c x)
  cleaning_writes c x ok =
      let zeros = all_zero (drop (16 * x.place) x.bytes) in
      let rest = drop (512 * (x.place / 32)) (cleaned x.bytes x.place) in
      ⊎_elim
      (λ z. subst Writes (sym (cond-true zeros _ _ z)) tt)
      (λ nz. subst Writes (sym (cond-false zeros _ _ nz)) (flushed_writes (spreading (area_start c x.area + x.place / 32) (c - x.place / 32) rest) (spreading_writes (c - x.place / 32) _ rest ok)))
      (cases_Bool zeros)

  -- a power cut leaves what is allowed
  pub cut_within : {d after : Disk} → Within A d → Cut d after → (s : ℕ) → A s (image after s)
  cut_within h cut s = h s _ (cut.one_of s)
