-- A run of an opening by what the sectors read.
use Rattle.std.proofs.Common.{◌≡◌, ℕ, zero, suc, ◌+◌, ◌<◌, ◌⊎◌, List, [], ◌++◌, sym, refl, ap, ◌∙◌, subst, subst₂, inl, inr, arith}
use Rattle.device.specs.Disk.{Bytes, Disk, reads, Told, good, refused, Refusal, refusal}
use Rattle.device.specs.Plans.{Plan, done, call, Runs, bind, onward, raised, one, gathering}
use Rattle.device.proofs.Steps.{bind_bind}
use Rattle.device.proofs.Uses.{Went, went_on, left_in, was_refused, went as went_one, over as run_over, halves}
use Rattle.device.specs.Ways.{way_here}
use Rattle.layout.specs.declared.exception.Exception.{Exception}
use Rattle.layout.specs.declared.chunk.ChunkSize.{ChunkSize}
use Rattle.layout.specs.Chunks.{sectors, per_area, area_start}
use Rattle.store.specs.declared.shape.Shape.{Shape}
use Rattle.store.specs.Image.{Sizes, header_found}
use Rattle.store.specs.Judge.{width}
use Rattle.store.specs.Refusals.{StoreRefusal, up, doing}
use Rattle.store.specs.Scanning.{Parsed, full, over, many, wrong, parsed, Ending, concluded, most_areas, scanning}
use Rattle.store.specs.Steps.{Contents, shape_of, cleaning, loading, heading, opening}
use Rattle.recovery.specs.Readings.{Image, image, gathered, area_bytes, scanned, next, found, Own, OpeningFinds, OpeningRefused}
use Rattle.recovery.proofs.Calls.{Did, went, broke, did}
use Rattle.recovery.proofs.Gone.{Gone, refused_gone, left_gone}
use Rattle.recovery.proofs.Owned.{refused_own, left_own, run_own, cleaning_upright}

-- an answer x that leaves e: what is due, with no change, or the device's own refusal, which changes no sector; it is gone
-- then, if the sectors to read are on the device
data Due {A : Type 0} (On : Type 0) (d : Disk) (due : A) (no_answer : Refusal → A) (x : A) (e : Disk) : Type 0 where
  given : x ≡ due → e ≡ d → Due On d due no_answer x e
  stopped : (r : Refusal) → Own r e → x ≡ no_answer r → e.cells ≡ d.cells → (On → Gone r e) → Due On d due no_answer x e

-- the same of more sectors
wider : {A On On' : Type 0} {d : Disk} {due : A} {no_answer : Refusal → A} {x : A} {e : Disk} → (On' → On) → Due On d due no_answer x e → Due On' d due no_answer x e
wider h (given is same) = given is same
wider h (stopped r own is same gone) = stopped r own is same (λ on. gone (h on))

-- n sectors from s on are on the device
abbrev pub RangeOn : Disk → ℕ → ℕ → Type 0
RangeOn d s n = (q : ℕ) → q < n → s + q < d.count

pub range_first : (d : Disk) (s n : ℕ) → RangeOn d s (suc n) → s < d.count
range_first d s n on = let h = on 0 (omega arith) in omega arith

pub range_rest : (d : Disk) (s n : ℕ) → RangeOn d s (suc n) → RangeOn d (s + 1) n
range_rest d s n on = λ q l. let h = on (suc q) (omega arith) in omega arith

-- one read and then the rest
read_then : (n s : ℕ) (sofar : Bytes) {d e : Disk} {t : Told Refusal Bytes} → (Runs one (gathering (s + 1) n (sofar ++ image d s)) d t e → Due (RangeOn d (s + 1) n) d (good (gathered (image d) (s + 1) n (sofar ++ image d s))) refused t e) → Went {B = Bytes} one tt (reads 512 s) (λ b. gathering (s + 1) n (sofar ++ b)) d t e → Due (RangeOn d s (suc n)) d (good (gathered (image d) s (suc n) sofar)) refused t e
read_then n s sofar {d} on (went_on f is r) = wider (range_rest d s n) (on r)
read_then n s sofar {d} on (left_in f is a y) = stopped (refusal 3 s) (subst (Own (refusal 3 s)) (sym y) (left_own (reads 512 s) d f)) a (ap (λ z. z.cells) y) (λ _. left_gone (reads 512 s) d f y)
read_then n s sofar {d} {e} on (was_refused f m p is a y) =
    stopped (refusal m p) (subst (Own (refusal m p)) (sym y) (refused_own (reads 512 s) d f m p is)) a (ap (λ z. z.cells) y) (λ here. subst (Gone (refusal m p)) (sym y) (refused_gone (reads 512 s) d f m p (λ w. way_here 512 s d w refl (range_first d s n here)) is))

gathers : (n s : ℕ) (sofar : Bytes) {d e : Disk} {t : Told Refusal Bytes} → Runs one (gathering s n sofar) d t e → Due (RangeOn d s n) d (good (gathered (image d) s n sofar)) refused t e
gathers zero s sofar r = let q = run_over r in given q.0 q.1
gathers (suc n) s sofar {d} r = read_then n s sofar (λ r'. gathers n (s + 1) (sofar ++ image d s) r') (went_one r)

-- a refusal of the device, as the store passes it up
abbrev upward : {A : Type 0} → Refusal → Told StoreRefusal A
upward r = refused (up r)

-- what is asked of the list after a full area
abbrev pub IfFull : Parsed → (List Exception → Type 0) → Type 0
IfFull (full es) k = k es
IfFull (over es p) k = Unit {0}
IfFull many k = Unit {0}
IfFull (wrong p) k = Unit {0}

-- the areas that a scan reads are on the device
unfoldable pub ScanOn : Shape → Disk → ℕ → ℕ → List Exception → Type 0
ScanOn s d zero a es = Unit {0}
ScanOn s d (suc n) a es = RangeOn d (area_start (width s) a) (width s) × IfFull (parsed s a (area_bytes s (image d) a) (per_area (width s)) 0 es) (ScanOn s d n (a + 1))

-- one area and then the rest
module _ (n : ℕ) (s : Shape) (a : ℕ) {d e : Disk} {x : Told StoreRefusal Ending} (on : (es : List Exception) → Runs one (scanning s n (a + 1) es) d x e → Due (ScanOn s d n (a + 1) es) d (scanned s (image d) n (a + 1) es) upward x e) where
  by_entries : (bytes : Bytes) (p : Parsed) → Runs one (concluded done a bytes p (scanning s n (a + 1))) d x e → Due (IfFull p (ScanOn s d n (a + 1))) d (concluded (λ t. t) a bytes p (scanned s (image d) n (a + 1))) upward x e
  by_entries bytes (full es) r = on es r
  by_entries bytes (over es k) r = let q = run_over r in given q.0 q.1
  by_entries bytes many r = let q = run_over r in given q.0 q.1
  by_entries bytes (wrong k) r = let q = run_over r in given q.0 q.1

  abbrev rest : List Exception → Told Refusal Bytes → Plan (Unit {0}) (Told StoreRefusal Ending)
  rest es t = onward (raised up t) (λ bytes. concluded done a bytes (parsed s a bytes (per_area (width s)) 0 es) (scanning s n (a + 1)))

  read_area : (es : List Exception) {t : Told Refusal Bytes} {e' : Disk} → Due (RangeOn d (area_start (width s) a) (width s)) d (good (area_bytes s (image d) a)) refused t e' → Runs one (rest es t) e' x e → Due (ScanOn s d (suc n) a es) d (concluded (λ t. t) a (area_bytes s (image d) a) (parsed s a (area_bytes s (image d) a) (per_area (width s)) 0 es) (scanned s (image d) n (a + 1))) upward x e
  unfolding ScanOn
  read_area es {t} {e'} (given is same) r =
      wider (λ h. h.1) (by_entries (area_bytes s (image d) a) (parsed s a (area_bytes s (image d) a) (per_area (width s)) 0 es) (subst₂ (λ t z. Runs one (rest es t) z x e) is same r))
  read_area es {t} {e'} (stopped f own is same gone) r =
      let q = run_over (subst (λ t. Runs one (rest es t) e' x e) is r) in
      stopped f (subst (Own f) (sym q.1) own) q.0 (ap (λ z. z.cells) q.1 ∙ same) (λ h. subst (Gone f) (sym q.1) (gone h.0))

scans : (n : ℕ) (s : Shape) (a : ℕ) (es : List Exception) {d e : Disk} {x : Told StoreRefusal Ending} → Runs one (scanning s n a es) d x e → Due (ScanOn s d n a es) d (scanned s (image d) n a es) upward x e
unfolding scanning scanned
scans zero s a es r = let q = run_over r in given q.0 q.1
scans (suc n) s a es r =
    let h = halves (gathering (area_start (width s) a) (width s) []) (λ t. onward (raised up t) (λ bytes. concluded done a bytes (parsed s a bytes (per_area (width s)) 0 es) (scanning s n (a + 1)))) r in
    read_area n s a (λ es' r'. scans n s (a + 1) es' r') es (gathers (width s) (area_start (width s) a) [] h.first) h.rest

-- OPENING

abbrev told_header : Sizes → Told Refusal Bytes → Plan (Unit {0}) (Told StoreRefusal ChunkSize)
told_header z t = onward (raised up t) (λ h. done (header_found z h))

one_sector : (z : Sizes) → heading z ≡ bind (gathering 0 1 []) (told_header z)
one_sector z = λ i. call tt (reads 512 0) (λ t. agree t i)
  where
    agree : (t : Told Refusal Bytes) → told_header z t ≡ bind (onward t (λ b. done (good b))) (told_header z)
    agree (good b) = refl
    agree (refused f) = refl

-- the header: what its sector reads
headed : (z : Sizes) {d e : Disk} {t : Told StoreRefusal ChunkSize} → Runs one (heading z) d t e → Due (0 < d.count) d (header_found z (image d 0)) upward t e
headed z {d} {e} {t} r =
    let h = halves (gathering 0 1 []) (told_header z) (subst (λ p. Runs one p d t e) (one_sector z) r) in
    by (gathers 1 0 [] h.first) h.rest
  where
    by : {b : Told Refusal Bytes} {m : Disk} → Due (RangeOn d 0 1) d (good (image d 0)) refused b m → Runs one (told_header z b) m t e → Due (0 < d.count) d (header_found z (image d 0)) upward t e
    by {b} {m} (given is same) q =
        let o = run_over (subst₂ (λ x y. Runs one (told_header z x) y t e) is same q) in
        given o.0 o.1
    by {b} {m} (stopped f own is same gone) q =
        let o = run_over (subst (λ x. Runs one (told_header z x) m t e) is q) in
        stopped f (subst (Own f) (sym o.1) own) o.0 (ap (λ y. y.cells) o.1 ∙ same) (λ some. subst (Gone f) (sym o.1) (gone (λ k l. omega arith)))

-- all sectors that an opening reads are on the device
pub record Reached (z : Sizes) (d : Disk) : Type 0 where
  pub header : 0 < d.count
  pub areas : (size : ChunkSize) → header_found z (image d 0) ≡ good size → ScanOn (shape_of z size) d most_areas 0 []

-- an opening: the device refused a read, the image was refused, or a list was found and the cleaning ran
pub data Outcome (z : Sizes) (d : Disk) (t : Told StoreRefusal Contents) (e : Disk) : Type 0 where
  unread : (f : Refusal) → Own f e → t ≡ refused (up f) → e.cells ≡ d.cells → (Reached z d → Gone f e) → Outcome z d t e
  declined : (f : StoreRefusal) → found z (image d) ≡ refused f → t ≡ refused f → e ≡ d → Outcome z d t e
  ran : (size : ChunkSize) (x : Ending) → header_found z (image d 0) ≡ good size → scanned (shape_of z size) (image d) most_areas 0 [] ≡ good x → Did {A = Contents} (cleaning (sectors size) x) (record { size = size; table = x.table }) t d e → Outcome z d t e

-- what is found is known from the header and the scan
pub found_by : (z : Sizes) (m : Image) (size : ChunkSize) (v : Told StoreRefusal Ending) → header_found z (m 0) ≡ good size → scanned (shape_of z size) m most_areas 0 [] ≡ v → found z m ≡ next v (λ e. good (record { size = size; table = e.table }))
found_by z m size v head scan =
    ap (λ u. next {B = Contents} u (λ size. next (scanned (shape_of z size) m most_areas 0 []) (λ e. good (record { size = size; table = e.table })))) head ∙ ap (λ u. next {B = Contents} u (λ e. good (record { size = size; table = e.table }))) scan

-- what follows the loading
abbrev loaded : Shape → Told StoreRefusal (List Exception) → Plan (Unit {0}) (Told StoreRefusal Contents)
loaded s u = onward u (λ table. done (good (record { size = s.size; table = table })))

-- what follows the scan
abbrev cleans : ℕ → Told StoreRefusal Ending → Plan (Unit {0}) (Told StoreRefusal (List Exception))
cleans c v = onward v (λ x. doing (cleaning c x) (λ _. done (good x.table)))

module _ (z : Sizes) (size : ChunkSize) (d : Disk) (head : header_found z (image d 0) ≡ good size) where
  -- the cleaning, and then the answer
  answers : (x : Ending) {u : Told StoreRefusal (List Exception)} {t : Told StoreRefusal Contents} {mid e : Disk} → scanned (shape_of z size) (image d) most_areas 0 [] ≡ good x → Did (cleaning (sectors size) x) x.table u d mid → Runs one (loaded (shape_of z size) u) mid t e → Outcome z d t e
  answers x {u} {t} {mid} {e} scan (went run is) q =
      let o = run_over (subst (λ u. Runs one (loaded (shape_of z size) u) mid t e) is q) in
      ran size x head scan (went (subst (λ y. Runs one (cleaning (sectors size) x) d (good tt) y) (sym o.1) run) o.0)
  answers x {u} {t} {mid} {e} scan (broke f run is) q =
      let o = run_over (subst (λ u. Runs one (loaded (shape_of z size) u) mid t e) is q) in
      ran size x head scan (broke f (subst (λ y. Runs one (cleaning (sectors size) x) d (refused f) y) (sym o.1) run) o.0)

  told : (v : Told StoreRefusal Ending) {u : Told StoreRefusal (List Exception)} {t : Told StoreRefusal Contents} {mid e : Disk} → scanned (shape_of z size) (image d) most_areas 0 [] ≡ v → Runs one (cleans (sectors size) v) d u mid → Runs one (loaded (shape_of z size) u) mid t e → Outcome z d t e
  told (good x) {u} {t} {mid} scan r q = answers x scan (did (cleaning (sectors size) x) x.table u d mid r) q
  told (refused f) {u} {t} {mid} {e} scan r q =
      let a = run_over r in
      let o = run_over (subst (λ u. Runs one (loaded (shape_of z size) u) mid t e) a.0 q) in
      declined f (found_by z (image d) size (refused f) head scan) o.0 (o.1 ∙ a.1)

  loads : {t : Told StoreRefusal Contents} {e : Disk} → Runs one (bind (loading (shape_of z size)) (loaded (shape_of z size))) d t e → Outcome z d t e
  loads {t} {e} r =
      let h = halves (loading s) (loaded s) r in
      let g = halves (scanning s most_areas 0 []) (cleans (sectors size)) h.first in
      by (scans most_areas s 0 [] g.first) g.rest h.rest
    where
      s : Shape
      s = shape_of z size

      by : {v : Told StoreRefusal Ending} {u : Told StoreRefusal (List Exception)} {m mid : Disk} → Due (ScanOn s d most_areas 0 []) d (scanned s (image d) most_areas 0 []) upward v m → Runs one (cleans (sectors size) v) m u mid → Runs one (loaded s u) mid t e → Outcome z d t e
      by {v} {u} {m} {mid} (given is same) r q = told (scanned s (image d) most_areas 0 []) refl (subst₂ (λ v y. Runs one (cleans (sectors size) v) y u mid) is same r) q
      by {v} {u} {m} {mid} (stopped f own is same gone) r q =
          let a = run_over (subst (λ v. Runs one (cleans (sectors size) v) m u mid) is r) in
          let o = run_over (subst (λ u. Runs one (loaded s u) mid t e) a.0 q) in
          unread f (subst (Own f) (sym (o.1 ∙ a.1)) own) o.0 (ap (λ y. y.cells) (o.1 ∙ a.1) ∙ same) (λ on. subst (Gone f) (sym (o.1 ∙ a.1)) (gone (on.areas size head)))

pub outcome : (z : Sizes) (d e : Disk) (t : Told StoreRefusal Contents) → Runs one (opening z 8192) d t e → Outcome z d t e
outcome z d e t r = let h = halves (heading z) after (subst (λ p. Runs one p d t e) (bind_bind (heading z) _ _) r) in by (headed z h.first) h.rest
  where
    after : Told StoreRefusal ChunkSize → Plan (Unit {0}) (Told StoreRefusal Contents)
    after u = bind (onward u (λ size. done (good (shape_of z size)))) (λ v. onward v (λ s. bind (loading s) (loaded s)))

    sized : (u : Told StoreRefusal ChunkSize) → header_found z (image d 0) ≡ u → Runs one (after u) d t e → Outcome z d t e
    sized (good size) is q = loads z size d is q
    sized (refused f) is q =
        let o = run_over q in
        declined f (ap (λ u. next {B = Contents} u (λ size. next (scanned (shape_of z size) (image d) most_areas 0 []) (λ e. good (record { size = size; table = e.table })))) is) o.0 o.1

    by : {u : Told StoreRefusal ChunkSize} {m : Disk} → Due (0 < d.count) d (header_found z (image d 0)) upward u m → Runs one (after u) m t e → Outcome z d t e
    by {u} {m} (given is same) q = sized (header_found z (image d 0)) refl (subst₂ (λ u y. Runs one (after u) y t e) is same q)
    by {u} {m} (stopped f own is same gone) q =
        let o = run_over (subst (λ u. Runs one (after u) m t e) is q) in
        unread f (subst (Own f) (sym o.1) own) o.0 (ap (λ y. y.cells) o.1 ∙ same) (λ on. subst (Gone f) (sym o.1) (gone on.header))

pub opening_finds : OpeningFinds
opening_finds z d e t r = by (outcome z d e t r)
  where
    by : Outcome z d t e → (t ≡ found z (image d)) ⊎ ((f : Refusal) × Own f e × (t ≡ refused (up f)))
    by (unread f own is same gone) = inr (f, own, is)
    by (declined f none is same) = inl (is ∙ sym none)
    by (ran size x head scan (went run is)) = inl (is ∙ sym (found_by z (image d) size _ head scan))
    by (ran size x head scan (broke f run is)) = inr (f, run_own (cleaning (sectors size) x) (cleaning_upright (sectors size) x) run.fates d e f run.comes, is)

pub opening_refused : OpeningRefused
opening_refused z d e t f no_list r = by (outcome z d e t r)
  where
    by : Outcome z d t e → e.cells ≡ d.cells
    by (unread r own is same gone) = same
    by (declined g is answer same) = ap (λ y. y.cells) same
    by (ran size x head scan h) = cc (found_by z (image d) size (good x) head scan)

-- an opening that is good answers what is found
pub good_finds : (z : Sizes) (d e : Disk) (c : Contents) → Runs one (opening z 8192) d (good c) e → found z (image d) ≡ good c
good_finds z d e c r = by (outcome z d e (good c) r)
  where
    by : Outcome z d (good c) e → found z (image d) ≡ good c
    by (unread f own is same gone) = cc
    by (declined f none is same) = cc
    by (ran size x head scan (went run is)) = found_by z (image d) size (good x) head scan ∙ sym is
    by (ran size x head scan (broke f run is)) = cc
