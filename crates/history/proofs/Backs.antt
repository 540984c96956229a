-- Chunks copied back from the COW device to the origin.
use Rattle.std.proofs.Common.{◌≡◌, ℕ, ◌+◌, ◌-◌, ◌*◌, ◌/◌, ◌%◌, ◌<◌, ◌≤◌, true, false, ltb, ◌⊎◌, List, [], ◌∷◌, ◌++◌, length, drop, Some, sym, refl, ap, ◌∙◌, subst, inl, inr, ⊎_elim, append_assoc, append-nil, mod-lt, div-add-mod', arith}
use lib.Arith.{digits_div, digits_mod}
use Rattle.std.specs.List.{ContainsAt as Has, AllByRecursion}
use Rattle.std.proofs.ByRecursion.{All-from_get_or, All-drop}
use Rattle.std.proofs.lemmas.Bool.{false≢true, cond-true, lt-ltb, or_left, or_right, or_cases, or_parts, eqb-true, eqb-false, eq-eqb, cases_eq}
use Rattle.device.specs.Disk.{Bytes, Disk, possibilities, Told, good, refused}
use Rattle.device.specs.Plans.{done, Runs, both, origin, cow, Disks, with_side, then, gathering, spreading}
use Rattle.device.proofs.Uses.{over as run_over}
use Rattle.layout.specs.declared.exception.Exception.{Exception}
use Rattle.layout.specs.Chunks.{sectors, per_area, in_copy}
use Rattle.layout.specs.Entries.{nothing}
use Rattle.exceptions.specs.Table.{lookup, the_run}
use Rattle.recovery.specs.Readings.{image, gathered}
use Rattle.recovery.specs.Standing.{Within}
use Rattle.recovery.proofs.Finds.{sectors_within}
use Rattle.store.specs.Steps.{shape_of, at_chunk}
use Rattle.recovery.proofs.Gathered.{part, Long, length_gathered, part_gathered}
use Rattle.history.specs.Faults.{Fault, fault, Moves, at_side, in_store}
use Rattle.history.specs.Steps.{sizes, ground, serving, chunk_put, copying_back}
use Rattle.history.specs.Machine.{Plain, has_chunk, chunk_of, place_of, placed, table_of, run_length}
use Rattle.history.proofs.Ends.{Up}
use Rattle.history.proofs.Fairs.{chunk_on}
use Rattle.history.proofs.Invariant.{Fewer, fewer_refl}
use Rattle.history.proofs.Moves.{Gains, Spread}
use Rattle.history.proofs.Partly.{table_length}
use Rattle.history.proofs.Placing.{placed_drop, has_chunk_more}
use Rattle.history.proofs.Sides.{Live, WentOff, live, live_origin, reads_chunk, asked_then, Spreads, spread_off, spread_on, spreads_then}
use Rattle.history.proofs.Spots.{reads_copy}
use Rattle.history.proofs.Tables.{found_append, listed_lookup, item_lookup}
use Rattle.history.proofs.Through.{at_copy}

-- a sector by its chunk and its place there
in_chunk : (c s k : ℕ) → s / c ≡ k → s ≡ k * c + s % c
in_chunk c s k is = sym (div-add-mod' s c) ∙ ap (λ x. x * c + s % c) is

-- COPYING BACK

-- what a sector of the origin may hold meanwhile: what it may have held, or, of chunks copied back, what the view reads
abbrev Either : Plain → List ℕ → ℕ → Bytes → Type 0
Either p ks s b = Has (possibilities (p.origin s)) b ⊎ ((has_chunk ks (chunk_of p s) ≡ true) × ((p.view s).latest ≡ b))

abbrev pub May : Plain → List ℕ → Disk → Type 0
May p ks o = (s : ℕ) (b : Bytes) → s < p.size.origin → Has (possibilities (o.cells s)) b → Either p ks s b

-- some chunks are copied back
pub record Copied (p : Plain) (ks : List ℕ) (d m : Disks) : Type 0 where
  pub cow : m.cow ≡ d.cow
  pub size : sizes m ≡ p.size
  pub live : Live m
  pub back : (s : ℕ) → s < p.size.origin → has_chunk ks (chunk_of p s) ≡ true → image m.origin s ≡ (p.view s).latest
  pub same : (s : ℕ) → s < p.size.origin → has_chunk ks (chunk_of p s) ≡ false → image m.origin s ≡ (p.origin s).latest
  pub possible : May p ks m.origin

-- copying back comes to that, or a device went
pub data Copying (p : Plain) (ks : List ℕ) (d : Disks) (t : Told Fault (Unit {0})) (e : Disks) : Type 0 where
  copied_all : t ≡ good tt → Copied p ks d e → Copying p ks d t e
  copied_off : WentOff t e → Fewer d.cow e.cow → May p ks e.origin → Copying p ks d t e

-- more chunks allow more
may_more : (p : Plain) (js ks : List ℕ) (o : Disk) → May p js o → May p (js ++ ks) o
may_more p js ks o h s b l has = ⊎_elim inl (λ x. inr (found_append (λ n. n) (chunk_of p s) js ks ∙ or_left _ _ x.0, x.1)) (h s b l has)

module _ (p : Plain) (d : Disks) (v : p.void ≡ false) (up : Up p (serving p.chunk (table_of p)) d) where
  abbrev c : ℕ
  c = sectors p.chunk

  some : 0 < c
  some = (sectors_within p.chunk).0

  -- a copy reads as the view
  pub copy_reads : (s k : ℕ) → s < p.size.origin → lookup (table_of p) (chunk_of p s) ≡ Some k → image d.cow (in_copy c k s) ≡ (p.view s).latest
  copy_reads s k l is = sym (reads_copy p s d k is) ∙ up.agrees.view v s l

  -- one chunk
  module _ (js : List ℕ) (k q : ℕ) (is : lookup (table_of p) k ≡ Some q) {m : Disks} (before : Copied p js d m) where
    abbrev bytes : Bytes
    bytes = gathered (image m.cow) (q * c) c []

    on : (k * c + c ≤ m.origin.count) × (q * c + c ≤ m.cow.count)
    on =
        let l = listed_lookup p.size p.chunk (table_of p) (up.covers.valid v).listed k q is in
        (subst (λ n. k * c + c ≤ n.origin) (sym before.size) (chunk_on p.chunk p.size.origin k l.0), subst (λ n. q * c + c ≤ n.cow) (sym before.size) (chunk_on p.chunk p.size.cow q l.2))

    long : Long (image m.cow) (q * c) c
    long i l = before.live.long cow (q * c + i) (let h = on.1 in omega arith)

    -- its parts are what the view reads
    reads_part : (s i : ℕ) → s < p.size.origin → i < c → s ≡ k * c + i → (chunk_of p s ≡ k) × (part bytes i ≡ (p.view s).latest)
    reads_part s i l inside at =
        let chunk : chunk_of p s ≡ k = ap (λ n. n / c) at ∙ digits_div k inside in
        let place : s % c ≡ i = ap (λ n. n % c) at ∙ digits_mod k inside in
        (chunk, part_gathered (image m.cow) c (q * c) i long inside ∙ ap (λ n. image m.cow (q * c + n)) (sym place) ∙ ap (λ y. image y (in_copy c q s)) before.cow ∙ copy_reads s q l (ap (lookup (table_of p)) chunk ∙ is))

    sector_else : (s : ℕ) → s < p.size.origin → (chunk_of p s ≡ k → ⊥) → (i : ℕ) → i < c → s ≡ k * c + i → ⊥
    sector_else s l ne i inside at = ne (reads_part s i l inside at).0

    gains_may : (w : Disk) → Within (Gains m.origin (k * c) c bytes) w → May p (js ++ (k ∷ [])) w
    gains_may w gains s b l has =
        ⊎_elim
        (may_more p js (k ∷ []) m.origin before.possible s b l)
        (λ x. let r = reads_part s x.0 l x.1 x.2 in inr (has_chunk_more js k (chunk_of p s) ∙ or_right _ _ (eq-eqb _ _ (sym r.0)), sym (x.3 ∙ r.1)))
        (gains s b has)

    copied_one : (w : Disk) → w.count ≡ m.origin.count → Spread m.origin (k * c) c bytes w → Copied p (js ++ (k ∷ [])) d (with_side origin m w)
    copied_one w size g = record {
      cow = before.cow;
      size = (λ i. record { origin = size i; cow = m.cow.count }) ∙ before.size;
      live = live_origin w before.live g.on g.long;
      back = λ s l h. ⊎_elim (λ eq. copied s l eq) (λ ne. g.else s (sector_else s l ne) ∙ before.back s l (⊎_elim (λ y. y) (λ y. absurd (ne (sym (eqb-true _ _ y)))) (or_cases _ _ (sym (has_chunk_more js k (chunk_of p s)) ∙ h)))) (cases_eq (chunk_of p s) k);
      same = λ s l h. let parts = or_parts _ _ (sym (has_chunk_more js k (chunk_of p s)) ∙ h) in g.else s (sector_else s l (λ eq. eqb-false _ _ parts.1 (sym eq))) ∙ before.same s l parts.0;
      possible = gains_may w g.gains;
    }
      where
        copied : (s : ℕ) → s < p.size.origin → chunk_of p s ≡ k → image w s ≡ (p.view s).latest
        copied s l eq =
            let at = in_chunk c s k eq in
            let inside = mod-lt s some in
            ap (image w) at ∙ g.here (s % c) inside ∙ (reads_part s (s % c) l inside at).1

    -- one turn of the copying, and then the rest; or a device went
    turn : (more : Moves (Unit {0})) {t : Told Fault (Unit {0})} {e : Disks} → Runs both (then (at_side cow (gathering (q * c) c [])) (λ b. then (at_side origin (spreading (k * c) c b)) (λ _. more))) m t e → (WentOff t e × Fewer d.cow e.cow × May p (js ++ (k ∷ [])) e.origin) ⊎ ((mid : Disks) × Copied p (js ++ (k ∷ [])) d mid × Runs both more mid t e)
    turn more {t} {e} r =
        ⊎_elim
        (λ x. inl (x.0, subst (λ y. Fewer y e.cow) before.cow x.1.cow, λ s b l has. may_more p js (k ∷ []) m.origin before.possible s b l (x.1.origin.possible s b has)))
        (λ z. by (spreads_then origin c (k * c) bytes more before.live on.0 (length_gathered (image m.cow) c (q * c) long) z))
        (asked_then (at_side cow (gathering (q * c) c [])) (λ b. then (at_side origin (spreading (k * c) c b)) (λ _. more)) (λ u y z. reads_chunk cow c (q * c) before.live on.1 z) r)
      where
        by : Spreads origin m (k * c) c bytes more t e → (WentOff t e × Fewer d.cow e.cow × May p (js ++ (k ∷ [])) e.origin) ⊎ ((mid : Disks) × Copied p (js ++ (k ∷ [])) d mid × Runs both more mid t e)
        by (spread_off w size off left gains) = inl (off, subst (λ y. Fewer d.cow y.cow) (sym left) (subst (Fewer d.cow) (sym before.cow) fewer_refl), subst (λ y. May p (js ++ (k ∷ [])) y.origin) (sym left) (gains_may w gains))
        by (spread_on w size g run rest) = inr (with_side origin m w, copied_one w size g, rest)

  -- an exception's copy is where it says
  abbrev Known : Exception → Type 0
  Known x = lookup (table_of p) x.old ≡ Some x.new

  -- the tests of a turn pass
  turn_is : (k q : ℕ) → lookup (table_of p) k ≡ Some q → (more : Moves (Unit {0})) → then (in_store (at_chunk (shape_of (sizes d) p.chunk) q (gathering (q * c) c []))) (λ b. then (chunk_put (ground d) p.chunk k b) (λ _. more)) ≡ then (at_side cow (gathering (q * c) c [])) (λ b. then (at_side origin (spreading (k * c) c b)) (λ _. more))
  turn_is k q is more =
      let listed = (up.covers.valid v).listed in
      let here : k < (sizes d).origin / c = subst (λ z. k < z.origin / c) (sym up.agrees.sectors) (listed_lookup p.size p.chunk (table_of p) listed k q is).0 in
      let old = at_copy p.size p.chunk (table_of p) listed d up.agrees.sectors k q is (gathering (q * c) c []) in
      λ i. then (old i) (λ b. then (cond-true (ltb k ((sizes d).origin / c)) (at_side origin (spreading (k * c) c b)) (done (refused (fault 2 3 0 k 0))) (lt-ltb _ _ here) i) (λ _. more))

  -- all of them
  pub copies_back : (ks : List ℕ) (i : ℕ) (js : List ℕ) → AllByRecursion Known (placed (per_area c) i ks) → {m e : Disks} {t : Told Fault (Unit {0})} → Copied p js d m → Runs both (copying_back (ground d) p.chunk (placed (per_area c) i ks)) m t e → Copying p (js ++ ks) d t e
  copies_back [] i js known {m} {e} before r = copied_all (run_over r).0 (subst (Copied p (js ++ []) d) (sym (run_over r).1) (subst (λ l. Copied p l d m) (sym (append-nil js)) before))
  copies_back (k ∷ ks) i js known {m} {e} {t} before r =
      subst (λ l. Copying p l d t e) (append_assoc js (k ∷ []) ks)
      (⊎_elim
      (λ x. copied_off x.0 x.1 (may_more p (js ++ (k ∷ [])) ks e.origin x.2))
      (λ x. copies_back ks (i + 1) (js ++ (k ∷ [])) known.1 x.1 x.2)
      (turn js k (place_of (per_area c) i) known.0 before (copying_back (ground d) p.chunk (placed (per_area c) (i + 1) ks)) (subst (λ q. Runs both q m t e) (turn_is k (place_of (per_area c) i) known.0 _) r)))

  none_copied : Copied p [] d d
  none_copied = record {
    cow = refl;
    size = up.agrees.sectors;
    live = live up.agrees.on up.whole;
    back = λ s l h. absurd (false≢true h);
    same = λ s l h. up.agrees.origin s l;
    possible = λ s b l has. inl (up.covers.origin s b l has);
  }

  -- the chunks of the last run
  pub run_back : {t : Told Fault (Unit {0})} {e : Disks} → Runs both (copying_back (ground d) p.chunk (the_run c (table_of p))) d t e → Copying p (drop (length p.diverged - run_length p) p.diverged) d t e
  run_back {t} {e} r =
      let n = length p.diverged - run_length p in
      let same : the_run c (table_of p) ≡ placed (per_area c) (0 + n) (drop n p.diverged) = ap (λ k. drop (k - run_length p) (table_of p)) (table_length p) ∙ sym (placed_drop (per_area c) 0 n p.diverged) in
      let known : AllByRecursion Known (table_of p) = All-from_get_or Known (table_of p) nothing (item_lookup p.size p.chunk (table_of p) (up.covers.valid v).listed) in
      copies_back (drop n p.diverged) (0 + n) [] (subst (AllByRecursion Known) (sym (placed_drop (per_area c) 0 n p.diverged)) (All-drop Known n (table_of p) known)) none_copied (subst (λ l. Runs both (copying_back (ground d) p.chunk l) d t e) same r)
