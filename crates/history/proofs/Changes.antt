-- One sector written, on the devices and on the machine's disks.
use Rattle.std.proofs.Common.{◌≡◌, ℕ, ◌<◌, true, false, eqb, [], ◌∷◌, Some, None, Option, sym, refl, ap, ◌∙◌, subst, ⊎_elim}
use Rattle.std.specs.List.{ContainsAt as Has}
use Rattle.std.proofs.ByRecursion.{has_push, has_append_left, has_append_right}
use Rattle.std.proofs.lemmas.Bool.{eq-eqb, ne_eqb, cond-true, cond-false, cases_eq, true≢false, and_from}
use Rattle.device.specs.Disk.{Bytes, Cell, Disk, possibilities}
use Rattle.device.specs.Plans.{origin, Disks, with_side}
use Rattle.exceptions.specs.Table.{lookup}
use Rattle.recovery.specs.Readings.{image, found}
use Rattle.recovery.specs.Standing.{Within}
use Rattle.history.specs.Steps.{sizes}
use Rattle.history.specs.Machine.{Plain, added, perhaps, changed, chunk_of, diverged_at, table_of, on_origin, on_view, reads_at, Agrees}
use Rattle.history.proofs.Invariant.{Covers}
use Rattle.history.proofs.Moves.{GainsOne}
use Rattle.history.proofs.Spots.{uncopied, reads_origin, reads_copy}

-- CELLS

-- a change that keeps all possibilities and adds one
pub record Widens (f : Cell → Cell) (b : Bytes) : Type 0 where
  pub grows : (k : Cell) (x : Bytes) → Has (possibilities k) x → Has (possibilities (f k)) x
  pub takes : (k : Cell) → Has (possibilities (f k)) b

pub added_widens : (b : Bytes) → Widens (added b) b
added_widens b = record { grows = λ k x has. has_append_left (possibilities k) (b ∷ []) x has; takes = λ k. has_push (possibilities k) b }

pub perhaps_widens : (b : Bytes) → Widens (perhaps b) b
perhaps_widens b = record { grows = λ k x has. has_append_right (b ∷ []) (possibilities k) x has; takes = λ k. has_append_left (b ∷ []) (possibilities k) b (has_push [] b) }

module _ (f : Cell → Cell) (s : ℕ) (cells : ℕ → Cell) where
  pub changed_here : (t : ℕ) → t ≡ s → changed f s cells t ≡ f (cells t)
  changed_here t is = cond-true (eqb t s) _ _ (eq-eqb t s is)

  pub changed_else : (t : ℕ) → (t ≡ s → ⊥) → changed f s cells t ≡ cells t
  changed_else t ne = cond-false (eqb t s) _ _ (ne_eqb t s ne)

  -- nothing is lost, and the bytes are there
  pub changed_grows : (b : Bytes) → Widens f b → (t : ℕ) (x : Bytes) → Has (possibilities (cells t)) x → Has (possibilities (changed f s cells t)) x
  changed_grows b w t x has =
      ⊎_elim
      (λ is. subst (λ k. Has (possibilities k) x) (sym (changed_here t is)) (w.grows (cells t) x has))
      (λ ne. subst (λ k. Has (possibilities k) x) (sym (changed_else t ne)) has)
      (cases_eq t s)

  pub changed_takes : (b : Bytes) → Widens f b → (t : ℕ) → t ≡ s → Has (possibilities (changed f s cells t)) b
  changed_takes b w t is = subst (λ k. Has (possibilities k) b) (sym (changed_here t is)) (w.takes (cells t))

-- a sector whose chunk has diverged is another than one whose chunk has not
pub apart : (p : Plain) (s t : ℕ) → diverged_at p s ≡ true → diverged_at p t ≡ false → t ≡ s → ⊥
apart p s t inside outside is = true≢false (sym inside ∙ ap (diverged_at p) (sym is) ∙ outside)

-- THE ORIGIN

module _ (p : Plain) (d : Disks) (w : Disk) (s : ℕ) (b : Bytes) (same : w.count ≡ d.origin.count) (gains : Within (GainsOne d.origin s b) w) where
  origin_gains : (f : Cell → Cell) → Widens f b → Covers p d → (t : ℕ) (x : Bytes) → t < p.size.origin → Has (possibilities (w.cells t)) x → Has (possibilities (changed f s p.origin t)) x
  origin_gains f wide c t x l has =
      ⊎_elim
      (λ old. changed_grows f s p.origin b wide t x (c.origin t x l old))
      (λ new. subst (Has (possibilities (changed f s p.origin t))) new.1 (changed_takes f s p.origin b wide t new.0))
      (gains t x has)

  resized : Covers p d → sizes (with_side origin d w) ≡ p.size
  resized c = (λ i. record { origin = same i; cow = d.cow.count }) ∙ c.sectors

  -- a write to the origin where the chunk has a copy, or the view is void
  pub origin_covers : (f : Cell → Cell) → Widens f b → (p.void ≡ false → diverged_at p s ≡ true) → Covers p d → Covers (on_origin f s p) (with_side origin d w)
  origin_covers f wide div c = record {
    sectors = resized c;
    origin = origin_gains f wide c;
    shared = λ v t l out. c.shared v t l out ∙ sym (changed_else f s p.origin t (apart p s t (div v) out));
    valid = λ v. let k = c.valid v in record { listed = k.listed; lists = k.lists; copies = k.copies };
    spoiled = c.spoiled;
  }

  -- a write through the view to the origin, where the chunk has no copy
  pub shared_covers : (f : Cell → Cell) → Widens f b → Covers p d → Covers (on_origin f s (on_view f s p)) (with_side origin d w)
  shared_covers f wide c = record {
    sectors = resized c;
    origin = origin_gains f wide c;
    shared = λ v t l out.
        ⊎_elim
        (λ is. changed_here f s p.view t is ∙ ap f (c.shared v t l out) ∙ sym (changed_here f s p.origin t is))
        (λ ne. changed_else f s p.view t ne ∙ c.shared v t l out ∙ sym (changed_else f s p.origin t ne))
        (cases_eq t s);
    valid = λ v.
        let k = c.valid v in
        record { listed = k.listed; lists = k.lists; copies = λ t x y l is has. changed_grows f s p.view b wide t y (k.copies t x y l is has) };
    spoiled = c.spoiled;
  }

  module _ (here : image w s ≡ b) (else : (t : ℕ) → (t ≡ s → ⊥) → image w t ≡ image d.origin t) (on : w.on ≡ true) (up : d.cow.on ≡ true) (a : Agrees p d) where
    read_there : (t : ℕ) → t < p.size.origin → image w t ≡ (changed (added b) s p.origin t).latest
    read_there t l =
        ⊎_elim
        (λ is. ap (image w) is ∙ here ∙ sym (ap (λ k. k.latest) (changed_here (added b) s p.origin t is)))
        (λ ne. else t ne ∙ a.origin t l ∙ sym (ap (λ k. k.latest) (changed_else (added b) s p.origin t ne)))
        (cases_eq t s)

    sized : sizes (with_side origin d w) ≡ p.size
    sized = (λ i. record { origin = same i; cow = d.cow.count }) ∙ a.sectors

    finds_same : found (sizes (with_side origin d w)) (image d.cow) ≡ found (sizes d) (image d.cow)
    finds_same = ap (λ z. found z (image d.cow)) (sized ∙ sym a.sectors)

    -- what the view reads where a sector of the origin was written
    view_by : (t : ℕ) (v : Bytes) → (lookup (table_of p) (chunk_of p t) ≡ None → image w t ≡ v) → reads_at d p.chunk (table_of p) t ≡ v → reads_at (with_side origin d w) p.chunk (table_of p) t ≡ v
    view_by t v none was = by (lookup (table_of p) (chunk_of p t)) refl
      where
        by : (o : Option ℕ) → lookup (table_of p) (chunk_of p t) ≡ o → reads_at (with_side origin d w) p.chunk (table_of p) t ≡ v
        by None is = reads_origin p t (with_side origin d w) is ∙ none is
        by (Some k) is = reads_copy p t (with_side origin d w) k is ∙ sym (reads_copy p t d k is) ∙ was

    pub origin_agrees : (p.void ≡ false → diverged_at p s ≡ true) → Agrees (on_origin (added b) s p) (with_side origin d w)
    origin_agrees div = record {
      on = and_from _ _ on up;
      sectors = sized;
      origin = read_there;
      opens = λ v. finds_same ∙ a.opens v;
      view = λ v t l. view_by t (p.view t).latest (λ none. else t (λ is. differs v t none is) ∙ sym (reads_origin p t d none) ∙ a.view v t l) (a.view v t l);
      spoiled = λ v. finds_same ∙ a.spoiled v;
    }
      where
        differs : p.void ≡ false → (t : ℕ) → lookup (table_of p) (chunk_of p t) ≡ None → t ≡ s → ⊥
        differs v t none is = apart p s t (div v) (uncopied p t none) is

    pub shared_agrees : lookup (table_of p) (chunk_of p s) ≡ None → Agrees (on_origin (added b) s (on_view (added b) s p)) (with_side origin d w)
    shared_agrees none = record {
      on = and_from _ _ on up;
      sectors = sized;
      origin = read_there;
      opens = λ v. finds_same ∙ a.opens v;
      view = λ v t l.
          ⊎_elim
          (λ is. reads_origin p t (with_side origin d w) (ap (λ u. lookup (table_of p) (chunk_of p u)) is ∙ none) ∙ ap (image w) is ∙ here ∙ sym (ap (λ k. k.latest) (changed_here (added b) s p.view t is)))
          (λ ne. view_by t (p.view t).latest (λ none. else t ne ∙ sym (reads_origin p t d none) ∙ a.view v t l) (a.view v t l) ∙ sym (ap (λ k. k.latest) (changed_else (added b) s p.view t ne)))
          (cases_eq t s);
      spoiled = λ v. finds_same ∙ a.spoiled v;
    }
