-- What a call does to the view, and to what the view is owed and may show.
use Rattle.std.proofs.Common.{◌≡◌, ℕ, zero, suc, ◌<◌, Bool, true, false, cond, ◌&&◌, ◌||◌, eqb, ◌⊎◌, List, [], ◌∷◌, length, get_or, sym, refl, ap, subst, inl, inr, ⊎_elim, arith}
use Rattle.std.specs.List.{ContainsAt as Has, AllByRecursion}
use Rattle.std.proofs.ByRecursion.{All-map, all-has, has_push_cases}
use Rattle.std.proofs.lemmas.Bool.{cases_eq, both_ways, eq-eqb, ne_eqb, eqb-true, and_from, not_from_false, cond-true, cond-false, cond_both}
use Rattle.device.specs.Disk.{Bytes, Cell, possibilities}
use Rattle.device.proofs.Possible.{last_has}
use Rattle.device.specs.Sectors.{only as the_only}
use Rattle.history.specs.History.{Call, write_origin, write_snapshot, write_merging, flush_all, step_merge, End, completed}
use Rattle.history.specs.Machine.{Plain, added, perhaps, settled_cell, changed, diverged_at, can_diverge, finds_full, run_length, voided, diverge, with_diverged, on_origin, on_view, on_both, ready, merged_partly, flushed, performed, up_to, broken_off}
use Rattle.history.specs.Promise.{Kind, writes_view, writes_origin, flushes, uses_snapshot, apart, kind, is_flush, completes, begins, Last, Perhaps}

-- a type by a test
pub when_true : (b : Bool) (X Y : Type 0) → b ≡ true → X → cond b X Y
when_true true X Y is x = x
when_true false X Y is x = absurd (both_ways _ refl is)

pub when_false : (b : Bool) (X Y : Type 0) → b ≡ false → Y → cond b X Y
when_false true X Y is y = absurd (both_ways _ is refl)
when_false false X Y is y = y

-- CELLS

-- a change of a cell lets no other bytes be possible but some
abbrev Gains : Bytes → (Cell → Cell) → Type 0
Gains b f = (k : Cell) (y : Bytes) → Has (possibilities (f k)) y → Has (possibilities k) y ⊎ (b ≡ y)

added_gains : (b : Bytes) → Gains b (added b)
added_gains b k y h = has_push_cases (possibilities k) b y h

has_cons_cases : (x : Bytes) (xs : List Bytes) (y : Bytes) → Has (x ∷ xs) y → (x ≡ y) ⊎ Has xs y
has_cons_cases x xs y h = go h.0 h.1 h.2
  where
    go : (k : ℕ) → k < length (x ∷ xs) → ((d : Bytes) → get_or (x ∷ xs) k d ≡ y) → (x ≡ y) ⊎ Has xs y
    go zero l at = inl (at x)
    go (suc k) l at = inr (k, omega arith, at)

perhaps_gains : (b : Bytes) → Gains b (perhaps b)
perhaps_gains b k y h = ⊎_elim inr inl (has_cons_cases b (possibilities k) y h)

settled_had : (k : Cell) (y : Bytes) → Has (possibilities (settled_cell k)) y → Has (possibilities k) y
settled_had k y h = subst (Has (possibilities k)) (the_only h) (last_has k)

-- WHAT A CALL MAY COME TO

-- the bytes that a call may add at a sector of the view
abbrev pub Adds : Kind → ℕ → Bytes → Type 0
Adds (writes_view t b) s y = (s ≡ t) × (b ≡ y)
Adds (writes_origin t) s y = ⊥
Adds flushes s y = ⊥
Adds uses_snapshot s y = ⊥
Adds apart s y = ⊥

-- the call finds the store full
abbrev pub Spoils : Plain → Kind → Type 0
Spoils p (writes_view t b) = ⊥
Spoils p (writes_origin s) = finds_full p s ≡ true
Spoils p flushes = ⊥
Spoils p uses_snapshot = ⊥
Spoils p apart = ⊥

-- the view gains at most what the call adds; it stays void, and becomes so only where the call finds the store full
pub record Comes (p : Plain) (k : Kind) (came : Plain) : Type 0 where
  pub same_size : came.size ≡ p.size
  pub within : (s : ℕ) (y : Bytes) → Has (possibilities (came.view s)) y → Has (possibilities (p.view s)) y ⊎ Adds k s y
  pub stays : p.void ≡ true → came.void ≡ true
  pub voids : came.void ≡ true → (p.void ≡ true) ⊎ Spoils p k

module _ (p : Plain) (k : Kind) where
  comes_same : Comes p k p
  comes_same = record { same_size = refl; within = λ s y h. inl h; stays = λ v. v; voids = λ v. inl v }

  onto_origin : (f : Cell → Cell) (s : ℕ) (q : Plain) → Comes p k q → Comes p k (on_origin f s q)
  onto_origin f s q x = record { same_size = x.same_size; within = x.within; stays = x.stays; voids = x.voids }

  comes_diverged : (s : ℕ) → Comes p k (diverge p s)
  comes_diverged s =
      cond_both (diverged_at p s) p (with_diverged p _) (Comes p k)
      (λ _. comes_same)
      (λ _. record { same_size = refl; within = λ s y h. inl h; stays = λ v. v; voids = λ v. inl v })

  comes_merged : (r j : ℕ) → Comes p k (merged_partly r j p)
  comes_merged r j = record {
    same_size = refl;
    within = λ s y. cond_both _ (settled_cell (p.view s)) (p.view s) (λ x. Has (possibilities x) y → Has (possibilities (p.view s)) y ⊎ Adds k s y) (λ _ h. inl (settled_had (p.view s) y h)) (λ _ h. inl h);
    stays = λ v. v;
    voids = λ v. inl v;
  }

  comes_flushed : Comes p k (flushed p)
  comes_flushed = record { same_size = refl; within = λ s y h. inl (settled_had (p.view s) y h); stays = λ v. v; voids = λ v. inl v }

-- for an origin write
comes_ready : (p : Plain) (s : ℕ) → Comes p (writes_origin s) (ready p s)
comes_ready p s =
    let C = Comes p (writes_origin s) in
    cond_both p.void p _ C (λ _. comes_same p _) (λ valid.
    cond_both (diverged_at p s) p _ C (λ _. comes_same p _) (λ shared.
    cond_both (can_diverge p) (diverge p s) (voided p) C (λ _. comes_diverged p _ s) (λ full.
    record { same_size = refl; within = λ s y h. inl h; stays = λ v. refl; voids = λ v. inr (and_from _ _ (not_from_false _ valid) (and_from _ _ (not_from_false _ shared) (not_from_false _ full))) })))

-- for a write to the view
onto_view : (p : Plain) (t : ℕ) (b : Bytes) (f : Cell → Cell) → Gains b f → (q : Plain) → Comes p (writes_view t b) q → Comes p (writes_view t b) (on_view f t q)
onto_view p t b f gains q x = record {
  same_size = x.same_size;
  within = λ s y. cond_both (eqb s t) (f (q.view s)) (q.view s) (λ k. Has (possibilities k) y → Has (possibilities (p.view s)) y ⊎ Adds (writes_view t b) s y) (λ here h. ⊎_elim (x.within s y) (λ is. inr (eqb-true s t here, is)) (gains (q.view s) y h)) (λ _ h. x.within s y h);
  stays = x.stays;
  voids = x.voids;
}

onto_both : (p : Plain) (t : ℕ) (b : Bytes) (f : Cell → Cell) → Gains b f → Comes p (writes_view t b) (on_both f t p)
onto_both p t b f gains =
    let seen = onto_view p t b f gains p (comes_same p _) in
    cond_both (diverged_at p t) (on_view f t p) (on_origin f t (on_view f t p)) (Comes p (writes_view t b)) (λ _. seen) (λ _. onto_origin p _ f t (on_view f t p) seen)

-- what a completed call comes to
pub comes_performed : (p : Plain) (c : Call) → Comes p (kind c) (performed p c)
comes_performed p (write_origin s b w) = onto_origin p _ (added b) s (ready p s) (comes_ready p s)
comes_performed p (write_snapshot s b w) = onto_view p s b (added b) (added_gains b) (diverge p s) (comes_diverged p _ s)
comes_performed p (write_merging s b) = onto_both p s b (added b) (added_gains b)
comes_performed p flush_all = comes_flushed p _
comes_performed p (step_merge w) = comes_merged p _ _ _
comes_performed p c = comes_same p _

all_of : {X : Type 0} (P : X → Type 0) → ((x : X) → P x) → (xs : List X) → AllByRecursion P xs
all_of P h [] = tt
all_of P h (x ∷ xs) = (h x, all_of P h xs)

-- what a call under way may come to
broken_all : (p : Plain) (c : Call) → AllByRecursion (Comes p (kind c)) (broken_off p c)
broken_all p (write_origin s b w) =
    cond_both (p.void || diverged_at p s) _ _ (AllByRecursion (Comes p (writes_origin s)))
    (λ _. (onto_origin p _ (perhaps b) s p (comes_same p _), tt))
    (λ _. (comes_same p _, (onto_origin p _ (perhaps b) s (ready p s) (comes_ready p s), tt)))
broken_all p (write_snapshot s b w) =
    cond_both (diverged_at p s) _ _ (AllByRecursion (Comes p (writes_view s b)))
    (λ _. (onto_view p s b (perhaps b) (perhaps_gains b) p (comes_same p _), tt))
    (λ _.
    cond_both (can_diverge p) _ _ (AllByRecursion (Comes p (writes_view s b)))
    (λ _. (comes_same p _, (onto_view p s b (perhaps b) (perhaps_gains b) (diverge p s) (comes_diverged p _ s), tt)))
    (λ _. (comes_same p _, tt)))
broken_all p (write_merging s b) = (onto_both p s b (perhaps b) (perhaps_gains b), tt)
broken_all p (step_merge w) = All-map (Comes p uses_snapshot) (λ j. merged_partly (run_length p) j p) (up_to (run_length p)) (all_of _ (λ j. comes_merged p _ (run_length p) j) (up_to (run_length p)))
broken_all p c = (comes_same p _, tt)

pub comes_broken : (p : Plain) (c : Call) (came : Plain) → Has (broken_off p c) came → Comes p (kind c) came
comes_broken p c came h = all-has (Comes p (kind c)) (broken_off p c) came (broken_all p c) h

-- CANDIDATES AND WHAT IS OWED

-- what was possible stays so
pub perhaps_old : (k : Kind) (e : End) (s : ℕ) (P : Bytes → Type 0) (Q : Type 0) → Q → Perhaps k e s P Q
perhaps_old (writes_view t b) e s P Q q = go (begins e && eqb t s)
  where
    go : (x : Bool) → cond x (P b ⊎ Q) Q
    go true = inr q
    go false = q
perhaps_old k e s P Q q = q

-- the bytes of a write that began are possible
pub perhaps_from : (k : Kind) (e : End) (s : ℕ) (y : Bytes) (Q : Type 0) → begins e ≡ true → Q ⊎ Adds k s y → Perhaps k e s (λ z. y ≡ z) Q
perhaps_from (writes_view t b) e s y Q on (inl q) = perhaps_old (writes_view t b) e s (λ z. y ≡ z) Q q
perhaps_from (writes_view t b) e s y Q on (inr new) = when_true _ _ _ (and_from _ _ on (eq-eqb t s (sym new.0))) (inl (sym new.1))
perhaps_from k e s y Q on (inl q) = q
perhaps_from k e s y Q on (inr new) = absurd new

-- a call that is not completed leaves what is owed
pub last_old : (k : Kind) (e : End) (s : ℕ) (P : Bytes → Type 0) (Q : Type 0) → completes e ≡ false → Q → Last k e s P Q
last_old (writes_view t b) e s P Q stop q = when_false _ _ _ (ap (λ x. x && eqb t s) stop) q
last_old k e s P Q stop q = q

module _ (Q : Bytes → Type 0) (s : ℕ) where
  last_changed : (t : ℕ) (b : Bytes) (cells : ℕ → Cell) → Q (cells s).latest → cond (eqb t s) ((changed (added b) t cells s).latest ≡ b) (Q (changed (added b) t cells s).latest)
  last_changed t b cells q =
      ⊎_elim
      (λ e. when_true _ _ _ (eq-eqb t s e) (ap (λ k. k.latest) (cond-true (eqb s t) (added b (cells s)) (cells s) (eq-eqb s t (sym e)))))
      (λ ne. when_false _ _ _ (ne_eqb t s ne) (subst (λ k. Q k.latest) (sym (cond-false (eqb s t) (added b (cells s)) (cells s) (ne_eqb s t (λ e. ne (sym e))))) q))
      (cases_eq t s)

  -- a completed call that does not write to the view leaves what is owed, and one that does leaves its bytes
  pub last_performed : (p : Plain) (c : Call) → Q (p.view s).latest → Last (kind c) completed s (λ y. ((performed p c).view s).latest ≡ y) (Q ((performed p c).view s).latest)
  last_performed p (write_origin t b w) q =
      let P : Plain → Type 0 = λ x. Q (x.view s).latest in
      cond_both p.void p _ P (λ _. q) (λ _. cond_both (diverged_at p t) p _ P (λ _. q) (λ _. cond_both (can_diverge p) (diverge p t) (voided p) P (λ _. cond_both (diverged_at p t) p (with_diverged p _) P (λ _. q) (λ _. q)) (λ _. q)))
  last_performed p (write_snapshot t b w) q = last_changed t b (diverge p t).view (cond_both (diverged_at p t) p (with_diverged p _) (λ x. Q (x.view s).latest) (λ _. q) (λ _. q))
  last_performed p (write_merging t b) q =
      let r = last_changed t b p.view q in
      cond_both (diverged_at p t) (on_view (added b) t p) (on_origin (added b) t (on_view (added b) t p)) (λ x. cond (eqb t s) ((x.view s).latest ≡ b) (Q (x.view s).latest)) (λ _. r) (λ _. r)
  last_performed p (step_merge w) q = cond_both _ (settled_cell (p.view s)) (p.view s) (λ k. Q k.latest) (λ _. q) (λ _. q)
  last_performed p c q = q

-- a flush leaves one possibility
pub flush_settles : (p : Plain) (c : Call) → is_flush (kind c) ≡ true → (s : ℕ) → ((performed p c).view s).older ≡ []
flush_settles p flush_all is s = refl
flush_settles p c is s = absurd (both_ways _ refl is)
