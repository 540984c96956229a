-- Making a store.
use Rattle.std.proofs.Common.{◌≡◌, ℕ, ◌+◌, ◌*◌, ◌<◌, ◌≤◌, true, ◌⊎◌, [], replicate, sym, refl, ap, ◌∙◌, subst, inl, inr, ⊎_elim, mul-le-mul_right, arith}
use Rattle.std.specs.List.{ContainsAt as Has}
use Rattle.std.proofs.lemmas.Bool.{cases_eq}
use Rattle.device.specs.Disk.{Bytes, Disk, Fate, possibilities, writes, flushes, put, settled, Told, good, refused, Refusal, Cut}
use Rattle.device.specs.Plans.{Runs, one, Steps, onward, then, zeroing}
use Rattle.device.proofs.Possible.{last_has}
use Rattle.device.specs.Sectors.{only}
use Rattle.device.proofs.Uses.{over as run_over, halves}
use Rattle.layout.specs.declared.chunk.ChunkSize.{ChunkSize}
use Rattle.layout.specs.Chunks.{sectors, per_area, area_start}
use Rattle.layout.specs.Headers.{header, header_read}
use Rattle.layout.proofs.Back.{header_back}
use Rattle.store.specs.Image.{Sizes, well_shaped, header_found}
use Rattle.store.specs.Scanning.{most_areas}
use Rattle.store.specs.Steps.{shape_of, flushing, storing, making}
use Rattle.recovery.specs.Readings.{image, scanned, next}
use Rattle.recovery.specs.Standing.{Within, Standing, Listed, Presence, StandingShows}
use Rattle.recovery.specs.Breaks.{AfterMaking, MakingLeaves, MakingStands}
use Rattle.recovery.proofs.Allowed.{Writes, run_within, call_step, cut_within}
use Rattle.recovery.proofs.Enters.{zeroing_writes, storing_writes}
use Rattle.recovery.proofs.Finds.{sectors_within, sound_none}
use Rattle.recovery.proofs.Pictures.{pic_past}
use Rattle.recovery.proofs.Places.{not_header}
use Rattle.recovery.proofs.Zeros.{zeros_read, settled_single, put_here, put_elsewhere, flushed_good, written_good, stored_good, then_good}

-- an opening takes an empty list
pub listed_none : (z : Sizes) (size : ChunkSize) → well_shaped z (sectors size) ≡ true → Listed z size []
listed_none z size shape = record {
  shape = shape;
  sound = sound_none (shape_of z size);
  fits = tt;
}

-- the only area of an empty list is the first
first_area : (c a : ℕ) → 0 < c → per_area c * a ≤ 0 → a ≡ 0
first_area c a some h = let le : 1 * a ≤ per_area c * a = mul-le-mul_right a (omega arith) in omega arith

pub making_stands : MakingStands
making_stands z size d e shape r =
    let c = sectors size in
    let a = flushed_good (written_good r).1 in
    let b = then_good (zeroing (area_start c 0) c) (λ _. flushing (storing 0 (header true c))) a in
    let mid = b.1 in
    let s = stored_good (flushed_good b.3) in
    let last = put (settled mid) 0 (header true c) s.0 in
    let standing : (t : ℕ) → Standing (shape_of z size) [] t (image last t) = λ t. record {
      head = λ is. ap header_read (ap (image last) is ∙ put_here (settled mid) 0 (header true c) s.0) ∙ header_back true size;
      areas = λ k q l le at.
          let none = first_area c k (sectors_within size).0 le in
          let there : t ≡ area_start c 0 + q = at ∙ ap (λ i. area_start c i + q) none in
          put_elsewhere (settled mid) 0 (header true c) s.0 t (λ is. not_header c k q l (sym at ∙ is)) ∙ ap (image mid) there ∙ zeros_read c (area_start c 0) b.2 q l ∙ sym (pic_past [] (c * k + q) (omega arith));
    } in
    record { listed = listed_none z size shape; single = λ x has. settled_single last 0 x s.1 has; sectors = λ t x has. subst (Standing (shape_of z size) [] t) (ap (λ y. image y t) (sym s.1) ∙ settled_single last t x s.1 has) (standing t) }

-- BROKEN OFF

module _ {There : Presence} (shows : StandingShows There) (z : Sizes) (size : ChunkSize) (shape : well_shaped z (sectors size) ≡ true) (d after : Disk) where
  abbrev c : ℕ
  c = sectors size

  abbrev blank : Bytes
  blank = replicate 512 0

  no_store : image after 0 ≡ blank → AfterMaking There z size d after
  no_store is = inr (inl (ap (λ b. next (header_found z b) (λ size. next (scanned (shape_of z size) (image after) most_areas 0 []) (λ e. good (record { size = size; table = e.table })))) is))

  -- before the first flush: as it was, or zeros in the first sector
  abbrev First : ℕ → Bytes → Type 0
  First s b = Has (possibilities (d.cells s)) b ⊎ ((s ≡ 0) × (b ≡ blank))

  first_left : {e : Disk} → Within First e → Cut e after → AfterMaking There z size d after
  first_left w cut =
      let all = cut_within First w cut in
      ⊎_elim
      (λ former. inl (λ s. ⊎_elim (λ e. subst (λ t. Has (possibilities (d.cells t)) (image after t)) (sym e) former) (λ ne. ⊎_elim (λ h. h) (λ zero. absurd (ne zero.0)) (all s)) (cases_eq s 0)))
      (λ zero. no_store zero.1)
      (all 0)

  -- then: zeros in the first sector
  abbrev Second : ℕ → Bytes → Type 0
  Second s b = s ≡ 0 → b ≡ blank

  second_left : {e : Disk} → Within Second e → Cut e after → AfterMaking There z size d after
  second_left w cut = no_store (cut_within Second w cut 0 refl)

  second_begins : (f : Fate) → Within Second (settled (put d 0 blank f))
  second_begins f s b has is = sym (only has) ∙ ap (image (put d 0 blank f)) is ∙ put_here d 0 blank f

  -- last: zeros in the first area, and the header or zeros in the first sector
  record Third (s : ℕ) (b : Bytes) : Type 0 where
    head : s ≡ 0 → (b ≡ blank) ⊎ (b ≡ header true c)
    area : (q : ℕ) → q < c → s ≡ area_start c 0 + q → b ≡ blank

  third_left : {e : Disk} → Within Third e → Cut e after → AfterMaking There z size d after
  third_left w cut =
      let all = cut_within Third w cut in
      ⊎_elim
      no_store
      (λ new. inr (inr (shows z size [] (image after) (listed_none z size shape) (λ t. record {
        head = λ is. ap header_read (ap (image after) is ∙ new) ∙ header_back true size;
        areas = λ k q l le at. (all t).area q l (at ∙ ap (λ i. area_start c i + q) (first_area c k (sectors_within size).0 le)) ∙ sym (pic_past [] (c * k + q) (omega arith));
      }))))
      ((all 0).head refl)

  third_begins : {m mid : Disk} → Within Second mid → Runs one (zeroing (area_start c 0) c) m (good tt) mid → Within Third (settled mid)
  third_begins {m} {mid} w r s b has = record {
    head = λ is. inl (sym (only has) ∙ w s (image mid s) (last_has (mid.cells s)) is);
    area = λ q l at. sym (only has) ∙ ap (image mid) at ∙ zeros_read c (area_start c 0) r q l;
  }

  header_third : Third 0 (header true c)
  header_third = record { head = λ _. inr refl; area = λ q l at. absurd (not_header c 0 q l (sym at)) }

  -- the three parts in turn
  abbrev last_part : Steps
  last_part = flushing (storing 0 (header true c))

  third_part : {mid e : Disk} {t : Told Refusal (Unit {0})} → Within Second mid → Within Third (settled mid) → Runs one last_part mid t e → Cut e after → AfterMaking There z size d after
  third_part w begins r cut = ⊎_elim (λ q. third_left (run_within Third (storing_writes Third 0 (header true c) header_third) q.1 begins) cut) (λ h. second_left h cut) (call_step Second flushes (storing 0 (header true c)) tt w r)

  zeros_second : Writes Second (zeroing (area_start c 0) c)
  zeros_second = zeroing_writes Second c (area_start c 0) (λ i l is. absurd (not_header c 0 i l is))

  second_part : {m e : Disk} {t : Told Refusal (Unit {0})} → Within Second m → Runs one (then (zeroing (area_start c 0) c) (λ _. last_part)) m t e → Cut e after → AfterMaking There z size d after
  second_part {m} {e} {t} w r cut = let h = halves (zeroing (area_start c 0) c) (λ u. onward u (λ _. last_part)) r in by h.mid h.between h.first h.rest
    where
      by : (u : Told Refusal (Unit {0})) (mid : Disk) → Runs one (zeroing (area_start c 0) c) m u mid → Runs one (onward u (λ _. last_part)) mid t e → AfterMaking There z size d after
      by (good tt) mid first q = let w' = run_within Second zeros_second first w in third_part w' (third_begins w' first) q cut
      by (refused f) mid first q = second_left (subst (Within Second) (sym (run_over q).1) (run_within Second zeros_second first w)) cut

  first_part : {e : Disk} {t : Told Refusal (Unit {0})} → Runs one (making c) d t e → Cut e after → AfterMaking There z size d after
  first_part r cut =
      ⊎_elim
      (λ a. ⊎_elim (λ q. second_part (second_begins a.0) q.1 cut) (λ h. first_left h cut) (call_step First flushes (then (zeroing (area_start c 0) c) (λ _. last_part)) tt a.2 a.1))
      (λ h. first_left h cut)
      (call_step First (writes 0 blank) (flushing (then (zeroing (area_start c 0) c) (λ _. last_part))) (inr (refl, refl)) (λ s b has. inl has) r)

pub making_leaves : {There : Presence} → StandingShows There → MakingLeaves making There
making_leaves shows z size d e after t shape r cut = first_part shows z size shape d after r cut
