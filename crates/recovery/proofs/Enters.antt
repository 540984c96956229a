-- Entering an exception, wherever it breaks off.
use Rattle.std.proofs.Common.{◌≡◌, ℕ, zero, suc, ◌+◌, ◌*◌, ◌/◌, ◌%◌, ◌<◌, ◌≤◌, Bool, true, false, ◌⊎◌, List, length, replicate, sym, refl, ap, ◌∙◌, subst, inl, inr, ⊎_elim, le_refl, mod-lt, mul_assoc, arith}
use Rattle.std.proofs.lemmas.Bool.{eq-eqb, cases_eq, cases_lt}
use Rattle.device.specs.Disk.{Bytes, Disk, flushes, put, settled, Told, good, refused, Refusal}
use Rattle.device.specs.Plans.{Plan, Runs, one, onward, zeroing}
use Rattle.device.proofs.Uses.{over as run_over, halves}
use Rattle.device.proofs.Possible.{last_has}
use Rattle.device.specs.Sectors.{only}
use Rattle.layout.specs.declared.chunk.ChunkSize.{ChunkSize}
use Rattle.layout.specs.declared.exception.Exception.{Exception}
use Rattle.layout.specs.Chunks.{sectors, per_area, area_start, area_place}
use Rattle.layout.specs.Entries.{pic}
use Rattle.exceptions.specs.Table.{fills_area}
use Rattle.store.specs.Image.{Sizes}
use Rattle.store.specs.Steps.{shape_of, finished, flushing, storing, preparing}
use Rattle.recovery.specs.Readings.{Image, image}
use Rattle.recovery.specs.Standing.{Within, ValidHeader, Standing, Presence, StandingShows}
use Rattle.recovery.specs.Breaks.{more, EnteringLeaves, EnteringStands}
use Rattle.recovery.proofs.Allowed.{Writes, on_good, run_within, call_step, cut_within}
use Rattle.recovery.proofs.Finds.{sectors_within}
use Rattle.recovery.proofs.Pictures.{pic_past, length_more, pic_more}
use Rattle.recovery.proofs.Places.{same_sector, same_area, not_header, placed, placed_at, beyond, fills_mod, fills_div}
use Rattle.recovery.proofs.Zeros.{zeros_read, settled_single, put_here, flushed_good, stored_good, then_good}

-- zeros over n sectors
pub zeroing_writes : (A : ℕ → Bytes → Type 0) (n s : ℕ) → ((i : ℕ) → i < n → A (s + i) (replicate 512 0)) → Writes A (zeroing s n)
zeroing_writes A zero s ok = tt
zeroing_writes A (suc n) s ok =
    let here = subst (λ t. A t (replicate 512 0)) (let z : s + 0 ≡ s = omega arith in z) (ok 0 (omega arith)) in
    let later : (i : ℕ) → i < n → A ((s + 1) + i) (replicate 512 0) = λ i h. subst (λ t. A t (replicate 512 0)) (let z : s + suc i ≡ (s + 1) + i = omega arith in z) (ok (suc i) (omega arith)) in
    (here, on_good A (λ _. zeroing (s + 1) n) (λ _. zeroing_writes A n (s + 1) later))

-- one sector, made to last
pub storing_writes : (A : ℕ → Bytes → Type 0) (s : ℕ) (bytes : Bytes) → A s bytes → Writes A (storing s bytes)
storing_writes A s bytes ok = (ok, on_good A (λ _. flushing finished) (λ _. (tt, on_good A (λ _. finished) (λ _. tt))))

module _ (z : Sizes) (size : ChunkSize) (es : List Exception) (x : Exception) where
  -- with the entry under way, a sector is as it was or as it will be
  record Between (at : ℕ) (b : Bytes) : Type 0 where
    head : at ≡ 0 → ValidHeader size b
    areas : (a q : ℕ) → q < sectors size → per_area (sectors size) * a ≤ length (more es x) → at ≡ area_start (sectors size) a + q → (b ≡ pic es (sectors size * a + q)) ⊎ (b ≡ pic (more es x) (sectors size * a + q))

  some : 0 < sectors size
  some = (sectors_within size).0

  -- the next area is none of the list's
  next_free : (i : ℕ) → i < sectors size → Standing (shape_of z size) es (area_start (sectors size) (length es / per_area (sectors size) + 1) + i) (replicate 512 0)
  next_free i h = record {
    head = λ e. absurd (not_header (sectors size) _ i h e);
    areas = λ a q l le e. absurd (beyond (per_area (sectors size)) (length es) a (let s = some in omega arith) (same_area (sectors size) _ i a q h l e) le);
  }

  pub preparing_writes : (b : Bool) → Writes (Standing (shape_of z size) es) (preparing b (sectors size) (length es / per_area (sectors size) + 1))
  preparing_writes true = zeroing_writes _ (sectors size) _ next_free
  preparing_writes false = tt

  -- the sector of the new entry
  abbrev entry_sector : ℕ
  entry_sector = area_place (sectors size) (length es / 32)

  entry_in_list : per_area (sectors size) * (length es / 32 / sectors size) ≤ length es
  entry_in_list =
      let flat = mul_assoc 32 (sectors size) (length es / 32 / sectors size) in
      let whole = placed (sectors size) (length es / 32) some in
      omega arith

  -- a list that has its picture in that sector stands, where all else is as it was or as it will be
  resolved : (m : Image) (list : List Exception) → length list ≤ length (more es x) → ((j : ℕ) → (j ≡ length es / 32 → ⊥) → (pic es j ≡ pic list j) × (pic (more es x) j ≡ pic list j)) → m entry_sector ≡ pic list (length es / 32) → ((s : ℕ) → Between s (m s)) → (s : ℕ) → Standing (shape_of z size) list s (m s)
  resolved m list few alike here all s = record {
    head = (all s).head;
    areas = λ a q l le is.
        ⊎_elim
        (λ e. ap m (is ∙ placed_at (sectors size) a q (length es / 32) l e) ∙ here ∙ ap (pic list) (sym e))
        (λ ne. ⊎_elim (λ old. old ∙ (alike _ ne).0) (λ new. new ∙ (alike _ ne).1) ((all s).areas a q l (omega arith) is))
        (cases_eq (sectors size * a + q) (length es / 32));
  }

  -- whatever is chosen there, one of the two lists stands
  between_stands : (m : Image) → ((s : ℕ) → Between s (m s)) → ((s : ℕ) → Standing (shape_of z size) es s (m s)) ⊎ ((s : ℕ) → Standing (shape_of z size) (more es x) s (m s))
  between_stands m all =
      let j = length es / 32 in
      let at : sectors size * (j / sectors size) + j % sectors size ≡ j = placed (sectors size) j some in
      let longer = length_more es x in
      ⊎_elim
      (λ e. inl (resolved m es (omega arith) (λ k ne. (refl, pic_more es x k ne)) (e ∙ ap (pic es) at) all))
      (λ e. inr (resolved m (more es x) (omega arith) (λ k ne. (sym (pic_more es x k ne), refl)) (e ∙ ap (pic (more es x)) at) all))
      ((all (area_place (sectors size) j)).areas (j / sectors size) (j % sectors size) (mod-lt j some) (let h = entry_in_list in omega arith) refl)

  -- after the first flush the list stands with one possibility a sector, and the next area has zeros where the list is to reach it
  settled_between : (mid : Disk) → Within (Standing (shape_of z size) es) mid → ((a i : ℕ) → per_area (sectors size) * a ≡ length es + 1 → i < sectors size → image mid (area_start (sectors size) a + i) ≡ replicate 512 0) → Within Between (settled mid)
  settled_between mid stand zeros s b has =
      let is : image mid s ≡ b = only has in
      let here = stand s (image mid s) (last_has (mid.cells s)) in
      record {
        head = λ e. subst (ValidHeader size) is (here.head e);
        areas = λ a q l le at.
            ⊎_elim
            (λ inside. inl (sym is ∙ here.areas a q l (omega arith) at))
            (λ outside.
            let flat = mul_assoc 32 (sectors size) a in
            let longer = length_more es x in
            let last : per_area (sectors size) * a ≡ length es + 1 = omega arith in
            inr (sym is ∙ ap (image mid) at ∙ zeros a q last l ∙ sym (pic_past (more es x) (sectors size * a + q) (omega arith))))
            (cases_lt (per_area (sectors size) * a) (length es + 1));
      }

  -- zeros over the next area, where the new entry fills its own
  zeros_next : {d mid : Disk} → Runs one (preparing (fills_area (sectors size) (length es)) (sectors size) (length es / per_area (sectors size) + 1)) d (good tt) mid → (a i : ℕ) → per_area (sectors size) * a ≡ length es + 1 → i < sectors size → image mid (area_start (sectors size) a + i) ≡ replicate 512 0
  zeros_next {d} {mid} r a i is l =
      let s = some in
      let e = per_area (sectors size) in
      let fills : fills_area (sectors size) (length es) ≡ true = eq-eqb _ _ (fills_mod e a (length es) (omega arith) is) in
      let next : length es / e + 1 ≡ a = fills_div e a (length es) (omega arith) is in
      let run = subst (λ b. Runs one (preparing b (sectors size) (length es / e + 1)) d (good tt) mid) fills r in
      ap (λ k. image mid (area_start (sectors size) k + i)) (sym next) ∙ zeros_read (sectors size) _ run i l

  entry_between : Between (area_place (sectors size) (length es / 32)) (pic (more es x) (length es / 32))
  entry_between = record {
    head = λ e. absurd (not_header (sectors size) _ _ (mod-lt (length es / 32) some) e);
    areas = λ a q l le at.
        let j = length es / 32 in
        let area = same_area (sectors size) (j / sectors size) (j % sectors size) a q (mod-lt j some) l at in
        let sector = same_sector (sectors size) (j / sectors size) (j % sectors size) a q (mod-lt j some) l at in
        inr (ap (pic (more es x)) (sym (placed (sectors size) j some) ∙ (λ i. sectors size * area i + sector i)));
  }

pub entering_leaves : {There : Presence} → StandingShows There → EnteringLeaves There
entering_leaves {There} shows z size es x d e after t stands listed r cut =
    let h = halves (preparing (fills_area c (length es)) c (length es / per_area c + 1)) (λ t. onward t (λ _. rest)) r in
    by h.mid h.between h.first h.rest
  where
    c : ℕ
    c = sectors size

    rest : Plan (Unit {0}) (Told Refusal (Unit {0}))
    rest = flushing (storing (area_place c (length es / 32)) (pic (more es x) (length es / 32)))

    Answer : Type 0
    Answer = There z size es (image after) ⊎ There z size (more es x) (image after)

    old : Within (Standing (shape_of z size) es) e → Answer
    old w = inl (shows z size es (image after) stands.listed (cut_within _ w cut))

    flushed : (mid : Disk) → Within (Standing (shape_of z size) es) mid → ((a i : ℕ) → per_area c * a ≡ length es + 1 → i < c → image mid (area_start c a + i) ≡ replicate 512 0) → Runs one rest mid t e → Answer
    flushed mid w zeros q =
        ⊎_elim
        (λ s.
        let within = run_within (Between z size es x) (storing_writes _ _ _ (entry_between z size es x)) s.1 (settled_between z size es x mid w zeros) in
        ⊎_elim (λ was. inl (shows z size es (image after) stands.listed was)) (λ new. inr (shows z size (more es x) (image after) listed new)) (between_stands z size es x (image after) (cut_within _ within cut)))
        old
        (call_step _ flushes (storing (area_place c (length es / 32)) (pic (more es x) (length es / 32))) tt w q)

    by : (told : Told Refusal (Unit {0})) (mid : Disk) → Runs one (preparing (fills_area c (length es)) c (length es / per_area c + 1)) d told mid → Runs one (onward told (λ _. rest)) mid t e → Answer
    by (refused f) mid first q = old (subst (Within _) (sym (run_over q).1) (run_within _ (preparing_writes z size es x (fills_area c (length es))) first stands.sectors))
    by (good u) mid first q = flushed mid (run_within _ (preparing_writes z size es x (fills_area c (length es))) first stands.sectors) (zeros_next z size es x first) q

pub entering_stands : EnteringStands
entering_stands z size es x d e stands listed r =
    let a = then_good (preparing (fills_area (sectors size) (length es)) (sectors size) _) (λ _. flushing (storing (area_place (sectors size) (length es / 32)) (pic (more es x) (length es / 32)))) r in
    let mid = a.1 in
    let w = run_within _ (preparing_writes z size es x (fills_area (sectors size) (length es))) a.2 stands.sectors in
    let between = settled_between z size es x mid w (zeros_next z size es x a.2) in
    let s = stored_good (flushed_good a.3) in
    let all : (t : ℕ) → Between z size es x t (image e t) = λ t. run_within (Between z size es x) (storing_writes _ _ _ (entry_between z size es x)) (flushed_good a.3) between t _ (last_has (e.cells t)) in
    let read : image e (area_place (sectors size) (length es / 32)) ≡ pic (more es x) (length es / 32) = ap (λ y. image y (area_place (sectors size) (length es / 32))) s.1 ∙ put_here (settled mid) _ _ s.0 in
    let standing = resolved z size es x (image e) (more es x) (le_refl _) (λ k ne. (sym (pic_more es x k ne), refl)) read all in
    record { listed = listed; single = λ b has. settled_single (put (settled mid) (area_place (sectors size) (length es / 32)) (pic (more es x) (length es / 32)) s.0) 0 b s.1 has; sectors = λ t b has. subst (Standing (shape_of z size) (more es x) t) (settled_single (put (settled mid) (area_place (sectors size) (length es / 32)) (pic (more es x) (length es / 32)) s.0) t b s.1 has) (standing t) }
