-- A call of a fuse, passed on or held back, is a call of a device.
use Rattle.std.specs.Prelude.{◌≡◌, ℕ, suc, Bool, true, false, cond, ◌&&◌, List, [], ◌∷◌, map, length, get_or, ◌==◌, nat_eq, nat_lt, Option, None, Some, is_some, slice_index_or, refl}
use Rattle.std.proofs.Math.ListN.{get_or-eq_default}
use Rattle.std.proofs.Common.{sym, ap, ap₂, ◌∙◌, subst, ⊎_elim, arith}
use Rattle.std.proofs.lemmas.Bool.{eq-eqb, ne_eqb, cond-true, cond-false, cases_eq}
use Rattle.device.specs.Disk.{Bytes, Cell, Disk, Fate, thin, torn, Op, reads, writes, flushes, place, Way, leaves, at_sector, tests, refuses, stands, Told, Refusal, refusal, good, refused, told_by, after_by, Called, Whole, calm}
use Rattle.device.specs.Fuse.{fused, passes_on, spent, blown_by, Burnt}
use Rattle.device.specs.Ways.{goes_by}

pub fused_whole : (d : Disk) (left : Option ℕ) → Whole d → Whole (fused d left)
fused_whole d left w = record { some = w.some; few = w.few; long = w.long }

-- A FATE THAT LOSES NOTHING

-- the places of a list
abbrev places : {A : Type 0} → List A → List ℕ
places [] = []
places (x ∷ xs) = 0 ∷ map suc (places xs)

shifted : {A : Type 0} (x : A) (xs : List A) (d : A) (ps : List ℕ) → map (λ p. get_or (x ∷ xs) p d) (map suc ps) ≡ map (λ p. get_or xs p d) ps
shifted x xs d [] = refl
shifted x xs d (p ∷ ps) = ap (λ l. slice_index_or xs p d ∷ l) (shifted x xs d ps)

all_kept : {A : Type 0} (xs : List A) (d : A) → map (λ p. get_or xs p d) (places xs) ≡ xs
all_kept [] d = refl
all_kept (x ∷ xs) d = ap (λ l. x ∷ l) (shifted x xs d (places xs) ∙ all_kept xs d)

-- goes, takes nothing and loses nothing; s is the sector that a write names
abbrev pub unharmed : (ℕ → Cell) → ℕ → Fate
unharmed cells s = record { goes = true; took = false; keeps = λ t. places (cells t).older; last = length (cells s).older }

thin_all : (c : Cell) → c ≡ thin c (places c.older)
thin_all c = λ i. record { older = sym (all_kept c.older c.latest) i; latest = c.latest }

torn_all : (c : Cell) (bytes : Bytes) → c ≡ torn c bytes false (places c.older) (length c.older)
torn_all c bytes = λ i. record { older = sym (all_kept c.older c.latest) i; latest = sym (get_or-eq_default c.older c.latest {n = length c.older} (omega arith)) i }

module _ (n : ℕ) (cells : ℕ → Cell) where
  -- a device with these sectors, on or gone
  abbrev pub device : Bool → Disk
  device on = record { count = n; cells = cells; on = on }

  struck_all : (s : ℕ) (bytes : Bytes) (t : ℕ) → cells t ≡ cond (t == s) (torn (cells s) bytes false ((unharmed cells s).keeps s) (unharmed cells s).last) (thin (cells t) ((unharmed cells s).keeps t))
  struck_all s bytes t =
      ⊎_elim
      (λ e. ap cells e ∙ torn_all (cells s) bytes ∙ sym (cond-true (t == s) _ _ (eq-eqb t s e)))
      (λ ne. thin_all (cells t) ∙ sym (cond-false (t == s) _ _ (ne_eqb t s ne)))
      (cases_eq t s)

  pub gone_in_write : (s : ℕ) (bytes : Bytes) → device false ≡ after_by leaves (writes s bytes) (device true) (unharmed cells s)
  gone_in_write s bytes = λ i. record { count = n; cells = λ t. struck_all s bytes t i; on = false }

  pub gone_in_flush : device false ≡ after_by leaves flushes (device true) (unharmed cells 0)
  gone_in_flush = λ i. record { count = n; cells = λ t. thin_all (cells t) i; on = false }

-- THE FUSE BLOWS

-- a call at a fuse that passes nothing on: gone already, or going without a trace
pub record Blown (o : Op) (d : Disk) (left : Option ℕ) : Type 0 where
  pub fate : Fate
  pub w : Way
  pub is : stands o (fused d left).on fate ≡ w
  pub answer : refused (refusal 3 (place o)) ≡ told_by w o (fused d left)
  pub after : fused d None ≡ after_by w o (fused d left) fate

blown_way : (o : Op) (n : ℕ) (cells : ℕ → Cell) (on : Bool) (left : Option ℕ) → device n cells false ≡ after_by leaves o (device n cells true) (unharmed cells (place o)) → Blown o (device n cells on) left
blown_way o n cells on None h = record { fate = calm; w = refuses 3 (place o); is = refl; answer = refl; after = refl }
blown_way o n cells false (Some k) h = record { fate = calm; w = refuses 3 (place o); is = refl; answer = refl; after = refl }
blown_way o n cells true (Some k) h = record { fate = unharmed cells (place o); w = leaves; is = refl; answer = refl; after = h }

pub vanishes : (o : Op) (d : Disk) (left : Option ℕ) → Blown o d left
vanishes (reads len s) d left = blown_way (reads len s) d.count d.cells d.on left refl
vanishes (writes s bytes) d left = blown_way (writes s bytes) d.count d.cells d.on left (gone_in_write d.count d.cells s bytes)
vanishes flushes d left = blown_way flushes d.count d.cells d.on left (gone_in_flush d.count d.cells)

-- A CALL OF A FUSE IS A CALL OF A DEVICE

-- the tests of a call pass, or they refuse it, and not because the device is gone
data Tests (o : Op) (d : Disk) : Type 0 where
  pass : ((w : Way) → tests o d w ≡ w) → Tests o d
  stop : (n p : ℕ) → nat_eq n 3 ≡ false → ((w : Way) → tests o d w ≡ refuses n p) → Tests o d

at_sector_tests : (o : Op) (d : Disk) (len s : ℕ) → ((w : Way) → tests o d w ≡ at_sector len s d w) → Tests o d
at_sector_tests o d len s = go (len == 512) (nat_lt s d.count)
  where
    go : (x y : Bool) → ((w : Way) → tests o d w ≡ cond x (cond y w (refuses 2 s)) (refuses 1 0)) → Tests o d
    go true true h = pass h
    go true false h = stop 2 s refl h
    go false y h = stop 1 0 refl h

tests_of : (o : Op) (d : Disk) → Tests o d
tests_of (reads len s) d = at_sector_tests _ d len s (λ w. refl)
tests_of (writes s bytes) d = at_sector_tests _ d (length bytes) s (λ w. refl)
tests_of flushes d = pass (λ w. refl)

-- the same of the device in front of it
fused_tests : (o : Op) (d : Disk) (left : Option ℕ) (w : Way) → tests o (fused d left) w ≡ tests o d w
fused_tests (reads len s) d left w = refl
fused_tests (writes s bytes) d left w = refl
fused_tests flushes d left w = refl

-- a fuse that passes a call on has not blown in it
still_whole : (o : Op) (k : ℕ) (t : Told Refusal Bytes) → is_some (spent o (Some k) t) ≡ true
still_whole (reads len s) k t = refl
still_whole (writes s bytes) k (good a) = refl
still_whole (writes s bytes) k (refused r) = refl
still_whole flushes k (good a) = refl
still_whole flushes k (refused r) = refl

module _ {o : Op} (left : Option ℕ) {left' : Option ℕ} {d d' : Disk} {t : Told Refusal Bytes} where
  held_called : t ≡ told_by (tests o d (refuses 3 (place o))) o d → left' ≡ blown_by left t → d' ≡ d → Called o (fused d left) t (fused d' left')
  held_called is blown same = go (tests_of o d)
    where
      after : {r : Refusal} → t ≡ refused r → fused d' left' ≡ fused d (cond (r.number == 3) None left)
      after e = ap₂ fused same (blown ∙ ap (blown_by left) e)

      go : Tests o d → Called o (fused d left) t (fused d' left')
      go (pass h) =
          let x = vanishes o d left in
          let e : t ≡ refused (refusal 3 (place o)) = is ∙ ap (λ w. told_by w o d) (h _) in
          goes_by x.fate x.w (fused_tests o d left _ ∙ h _ ∙ x.is) (e ∙ x.answer) (after e ∙ x.after)
      go (stop n p early h) =
          let e : t ≡ refused (refusal n p) = is ∙ ap (λ w. told_by w o d) (h _) in
          goes_by calm (refuses n p) (fused_tests o d left _ ∙ h _) e (after e ∙ ap (fused d) (cond-false (n == 3) None left early))

  passed_called : (k : ℕ) → left ≡ Some k → Called o d t d' → left' ≡ spent o left t → Called o (fused d left) t (fused d' left')
  passed_called k some c less =
      let good : is_some left' ≡ true = ap is_some (less ∙ ap (λ l. spent o l t) some) ∙ still_whole o k t in
      let after : d' ≡ fused d' left' = sym (ap (λ b. record { count = d'.count; cells = d'.cells; on = b && d'.on }) good) in
      subst (λ x. Called o x t (fused d' left')) (sym (ap (fused d) some)) (subst (Called o d t) after c)

pub burnt_called : {o : Op} {left left' : Option ℕ} {d d' : Disk} {t : Told Refusal Bytes} → Burnt o left d t left' d' → Called o (fused d left) t (fused d' left')
burnt_called {o} {left} {left'} {d} {d'} {t} b = go left refl (passes_on o left) refl
  where
    held : passes_on o left ≡ false → Called o (fused d left) t (fused d' left')
    held dead = let h = b.held dead in held_called left h.0 h.1 h.2

    go : (l : Option ℕ) → left ≡ l → (p : Bool) → passes_on o left ≡ p → Called o (fused d left) t (fused d' left')
    go None e p h = held (ap (passes_on o) e)
    go (Some k) e false h = held h
    go (Some k) e true h = let c = b.passed h in passed_called left k e c.0 c.1
