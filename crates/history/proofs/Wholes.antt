-- What every run keeps: the number of sectors, and their length.
use Rattle.std.proofs.Common.{◌≡◌, ℕ, ◌^◌, ◌<◌, eqb, length, sym, refl, ◌∙◌, subst, ⊎_elim}
use Rattle.std.proofs.lemmas.Bool.{cases_Bool, eqb-true, cond-false}
use Rattle.device.specs.Disk.{Bytes, Disk, Fate, Op, reads, writes, flushes, Way, passes, leaves, refuses, way, after_by, Whole}
use Rattle.device.specs.Plans.{Plan, Runs, both, Side, origin, cow, Disks, side, with_side}
use Rattle.device.proofs.Uses.{keeps}
use Rattle.recovery.proofs.Allowed.{Allowed, by_way}
use Rattle.history.specs.Steps.{sizes}
use Rattle.history.proofs.Invariant.{Wholes}

pub same_count : (w : Way) (o : Op) (d : Disk) (f : Fate) → (after_by w o d f).count ≡ d.count
same_count passes (reads l s) d f = refl
same_count passes (writes s b) d f = refl
same_count passes flushes d f = refl
same_count leaves (reads l s) d f = refl
same_count leaves (writes s b) d f = refl
same_count leaves flushes d f = refl
same_count (refuses n p) o d f = refl

-- a sector that is on the device has 512 bytes
abbrev LongAt : ℕ → ℕ → Bytes → Type 0
LongAt n s b = s < n → length b ≡ 512

-- a call that is not refused for its length
whole_by : (w : Way) (o : Op) (d : Disk) (f : Fate) → Allowed (LongAt d.count) o → Whole d → Whole (after_by w o d f)
whole_by w o d f ok h = record {
  some = subst (λ n. 0 < n) (sym (same_count w o d f)) h.some;
  few = subst (λ n. n < 2 ^ 32) (sym (same_count w o d f)) h.few;
  long = λ s b l has. by_way (LongAt d.count) w o d f ok (λ s b has l. h.long s b l has) s b has (subst (λ n. s < n) (same_count w o d f) l);
}

whole_call : (o : Op) (d : Disk) (f : Fate) → Whole d → Whole (after_by (way o d f) o d f)
whole_call (reads len s) d f h = whole_by _ (reads len s) d f tt h
whole_call (writes s b) d f h =
    ⊎_elim
    (λ long. whole_by _ (writes s b) d f (λ _. eqb-true (length b) 512 long) h)
    (λ short. subst (λ w. Whole (after_by w (writes s b) d f)) (sym (cond-false (eqb (length b) 512) _ _ short)) h)
    (cases_Bool (eqb (length b) 512))
whole_call flushes d f h = whole_by _ flushes d f tt h

wholes_call : (x : Side) (o : Op) (s : Disks) (f : Fate) → Wholes s → Wholes (with_side x s (after_by (way o (side x s) f) o (side x s) f))
wholes_call origin o s f h = record { origin = whole_call o s.origin f h.origin; cow = h.cow }
wholes_call cow o s f h = record { origin = h.origin; cow = whole_call o s.cow f h.cow }

sizes_call : (s : Disks) (x : Side) (o : Op) (y : Disks) (f : Fate) → sizes y ≡ sizes s → sizes (with_side x y (after_by (way o (side x y) f) o (side x y) f)) ≡ sizes s
sizes_call s origin o y f h = (λ i. record { origin = same_count (way o y.origin f) o y.origin f i; cow = y.cow.count }) ∙ h
sizes_call s cow o y f h = (λ i. record { origin = y.origin.count; cow = same_count (way o y.cow f) o y.cow f i }) ∙ h

module _ {A : Type 0} {p : Plan Side A} {s e : Disks} {a : A} where
  pub wholes_stay : Runs both p s a e → Wholes s → Wholes e
  wholes_stay r h = keeps Wholes wholes_call r h

  pub sizes_stay : Runs both p s a e → sizes e ≡ sizes s
  sizes_stay r = keeps (λ y. sizes y ≡ sizes s) (sizes_call s) r refl
