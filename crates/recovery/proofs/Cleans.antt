-- Opening, wherever it breaks off: the same list is found again.
use Rattle.std.proofs.Common.{◌≡◌, ℕ, ◌+◌, ◌*◌, ◌<◌, ◌≤◌, true, List, [], ◌∷◌, ◌++◌, length, sym, refl, ap, ◌∙◌, subst, subst₂, ⊎_elim, arith}
use Rattle.std.specs.List.{ContainsAt as Has}
use Rattle.std.proofs.lemmas.Bool.{cases_Bool, cond-true, cond-false}
use Rattle.device.specs.Disk.{Bytes, Disk, possibilities, Told, good, refused, Refusal, Cut}
use Rattle.device.specs.Plans.{Runs, one}
use Rattle.device.specs.Sectors.{only}
use Rattle.layout.specs.declared.chunk.ChunkSize.{ChunkSize}
use Rattle.layout.specs.declared.exception.Exception.{Exception}
use Rattle.layout.specs.declared.header.Header.{Header}
use Rattle.layout.specs.Chunks.{sectors, per_area, area_start}
use Rattle.layout.specs.Headers.{header_read}
use Rattle.store.specs.Image.{Sizes, well_shaped, header_judged, header_found}
use Rattle.store.specs.Judge.{width}
use Rattle.store.specs.Refusals.{StoreRefusal, up}
use Rattle.store.specs.Scanning.{Ending, most_areas}
use Rattle.store.specs.Steps.{Contents, shape_of, cleaning, opening}
use Rattle.recovery.specs.Readings.{Image, image, scanned, next}
use Rattle.recovery.specs.Standing.{Within, ValidHeader, Finds, Legible}
use Rattle.recovery.specs.Breaks.{Sure, CutSure, OpeningBreaks, OpeningLies}
use Rattle.recovery.proofs.Again.{End, end_of, scanned_again}
use Rattle.recovery.proofs.Allowed.{Writes, run_within, cut_within}
use Rattle.recovery.proofs.Calls.{Did, same_answer, did_run}
use Rattle.recovery.proofs.Learns.{Learnt, learnt_none, scanned_fine, area_sector_on}
use Rattle.recovery.proofs.Legible.{gathered_small, cleaning_small}
use Rattle.recovery.proofs.Opens.{Outcome, unread as not_read, declined, ran, outcome, found_by}
use Rattle.recovery.proofs.Sectors.{Small}
use Rattle.recovery.proofs.Tidies.{Tidy, tidy_before, tidy_keeps, cleaning_tidies}

-- what is found comes from the header and the scan
pub record Parts (z : Sizes) (size : ChunkSize) (es : List Exception) (m : Image) : Type 0 where
  pub head : header_found z (m 0) ≡ good size
  pub ending : Ending
  pub list : ending.table ≡ es
  pub scan : scanned (shape_of z size) m most_areas 0 [] ≡ good ending

pub parts : (z : Sizes) (size : ChunkSize) (es : List Exception) (m : Image) → Finds z size es m → Parts z size es m
parts z size es m h = by_head (header_found z (m 0)) refl h
  where
    by_scan : (size' : ChunkSize) → header_found z (m 0) ≡ good size' → (v : Told StoreRefusal Ending) → scanned (shape_of z size') m most_areas 0 [] ≡ v → next {B = Contents} v (λ e. good (record { size = size'; table = e.table })) ≡ good (record { size = size; table = es }) → Parts z size es m
    by_scan size' head (good x) is g =
        let same : size' ≡ size = ap (λ c. c.size) (same_answer g) in
        let list : x.table ≡ es = ap (λ c. c.table) (same_answer g) in
        record { head = head ∙ ap good same; ending = x; list = list; scan = ap (λ k. scanned (shape_of z k) m most_areas 0 []) (sym same) ∙ is }
    by_scan size' head (refused f) is g = cc

    by_head : (u : Told StoreRefusal ChunkSize) → header_found z (m 0) ≡ u → next {B = Contents} u (λ size. next (scanned (shape_of z size) m most_areas 0 []) (λ e. good (record { size = size; table = e.table }))) ≡ good (record { size = size; table = es }) → Parts z size es m
    by_head (good size') is g = by_scan size' is (scanned (shape_of z size') m most_areas 0 []) refl g
    by_head (refused f) is g = cc

-- a header that was taken
pub record Taken (z : Sizes) (size : ChunkSize) (b : Bytes) : Type 0 where
  pub shape : well_shaped z (sectors size) ≡ true
  pub valid : ValidHeader size b

pub taken : (z : Sizes) (size : ChunkSize) (b : Bytes) → header_found z b ≡ good size → Taken z size b
taken z size b h = by (header_read b) refl h
  where
    by : (v : Told ℕ Header) → header_read b ≡ v → header_judged z v ≡ good size → Taken z size b
    by (refused n) is g = cc
    by (good k) is g =
        ⊎_elim
        (λ shaped.
        ⊎_elim
        (λ valid.
        let same : k.size ≡ size = same_answer (sym (cond-true k.valid _ _ valid) ∙ sym (cond-true (well_shaped z (sectors k.size)) _ _ shaped) ∙ g) in
        record { shape = subst (λ c. well_shaped z (sectors c) ≡ true) same shaped; valid = is ∙ (λ i. good (record { valid = valid i; size = same i })) })
        (λ invalid. cc (sym (cond-false k.valid _ _ invalid) ∙ sym (cond-true (well_shaped z (sectors k.size)) _ _ shaped) ∙ g))
        (cases_Bool k.valid))
        (λ misshaped. cc (sym (cond-false (well_shaped z (sectors k.size)) _ _ misshaped) ∙ g))
        (cases_Bool (well_shaped z (sectors k.size)))

-- what an opening that finds a list knows of it
pub record Known (z : Sizes) (size : ChunkSize) (es : List Exception) (d : Disk) (x : Ending) : Type 0 where
  pub header : Taken z size (image d 0)
  pub learnt : Learnt (shape_of z size) (image d) es
  pub count : length es ≡ per_area (sectors size) * x.area + x.place
  pub ends : End (shape_of z size) (image d) 0 x
  pub on : (a q : ℕ) → per_area (sectors size) * a ≤ length es → q < sectors size → area_start (sectors size) a + q < d.count

pub known : (z : Sizes) (size : ChunkSize) (es : List Exception) (d : Disk) → z.cow ≡ d.count → (p : Parts z size es (image d)) → Known z size es d p.ending
known z size es d same p =
    let s = shape_of z size in
    let fine = scanned_fine s (image d) p.ending most_areas 0 [] (omega arith) (learnt_none s (image d)) p.scan in
    let learnt = subst (Learnt s (image d)) p.list fine.0 in
    let header = taken z size (image d 0) p.head in
    record {
      header = header;
      learnt = learnt;
      count = ap length (sym p.list) ∙ fine.1;
      ends = end_of s (image d) most_areas 0 [] p.ending p.scan;
      on = λ a q h l. subst (λ n. area_start (sectors size) a + q < n) same (area_sector_on z size es header.shape learnt.sound a q h l);
    }

-- an opening that finds a header and a list: a read was refused, or the cleaning ran
pub data Opened (z : Sizes) (size : ChunkSize) (x : Ending) (t : Told StoreRefusal Contents) (d e : Disk) : Type 0 where
  unread : (f : Refusal) → t ≡ refused (up f) → e.cells ≡ d.cells → Opened z size x t d e
  cleaned : Did {A = Contents} (cleaning (sectors size) x) (record { size = size; table = x.table }) t d e → Opened z size x t d e

pub opened : (z : Sizes) (size : ChunkSize) (x : Ending) (d : Disk) → header_found z (image d 0) ≡ good size → scanned (shape_of z size) (image d) most_areas 0 [] ≡ good x → (t : Told StoreRefusal Contents) (e : Disk) → Runs one (opening z 8192) d t e → Opened z size x t d e
opened z size x d head scan t e r = by (outcome z d e t r)
  where
    by : Outcome z d t e → Opened z size x t d e
    by (not_read f own is same gone) = unread f is same
    by (declined f none is same) = cc (found_by z (image d) size (good x) head scan)
    by (ran size' x' head' scan' h) =
        let alike : size' ≡ size = same_answer (sym head' ∙ head) in
        let ends : x' ≡ x = same_answer (sym scan' ∙ ap (λ c. scanned (shape_of z c) (image d) most_areas 0 []) alike ∙ scan) in
        subst₂ (λ c y. Opened z c y t d e) alike ends (cleaned h)

-- an opening leaves what its cleaning may write, and else nothing new
opened_within : (A : ℕ → Bytes → Type 0) (z : Sizes) (size : ChunkSize) (x : Ending) (t : Told StoreRefusal Contents) (d e : Disk) → Writes A (cleaning (sectors size) x) → Within A d → Opened z size x t d e → Within A e
opened_within A z size x t d e ok before (unread f is same) = subst (λ c. (k : ℕ) (b : Bytes) → Has (possibilities (c k)) b → A k b) (sym same) before
opened_within A z size x t d e ok before (cleaned h) = run_within A ok (did_run h).1 before

-- where each sector has one possibility, what it reads decides
sure_within : (A : ℕ → Bytes → Type 0) (d : Disk) → Sure d → ((at : ℕ) → A at (image d at)) → Within A d
sure_within A d sure h at b has = subst (A at) (only (subst (λ o. Has (o ++ ((d.cells at).latest ∷ [])) b) (sure.single at) has)) (h at)

-- in the areas of a list, bytes
abbrev LegibleAt : ChunkSize → List Exception → ℕ → Bytes → Type 0
LegibleAt size es at b = (a q : ℕ) → q < sectors size → per_area (sectors size) * a ≤ length es → at ≡ area_start (sectors size) a + q → Small b

-- what is left of an opening that breaks off
module _ (z : Sizes) (size : ChunkSize) (es : List Exception) (d e after : Disk) (t : Told StoreRefusal Contents) (same : z.cow ≡ d.count) (sure : Sure d) (finds : Finds z size es (image d)) (r : Runs one (opening z 8192) d t e) (cut : Cut e after) where
  p : Parts z size es (image d)
  p = parts z size es (image d) finds

  found_again : Finds z size es (image after)
  found_again =
      let s = shape_of z size in
      let x = p.ending in
      let k = known z size es d same p in
      let ends = k.ends in
      let long : (q : ℕ) → q < width s → length (image d (area_start (width s) x.area + q)) ≡ 512 = λ q l. sure.long _ (k.on x.area q (omega (arith, k.count)) l) in
      let ran = opened z size x d p.head p.scan t e r in
      let all = cut_within (Tidy s (image d) x) (opened_within (Tidy s (image d) x) z size x t d e (cleaning_tidies s (image d) x ends long) (sure_within (Tidy s (image d) x) d sure (tidy_before s (image d) x ends long)) ran) cut in
      let again = scanned_again s (image d) (image after) x (tidy_keeps s (image d) x ends long (image after) all) most_areas 0 [] p.scan in
      let head : header_found z (image after 0) ≡ good size = ap (header_found z) ((all 0).head refl) ∙ p.head in
      found_by z (image after) size _ head again ∙ ap (λ l. good (record { size = size; table = l })) p.list

  still_legible : Legible size es (image d) → Legible size es (image after)
  still_legible bytes =
      let x = p.ending in
      let k = known z size es d same p in
      let ran = opened z size x d p.head p.scan t e r in
      let small : Small x.bytes = subst Small (sym k.ends.bytes) (gathered_small (image d) (sectors size) (area_start (sectors size) x.area) [] tt (λ q l. bytes x.area q l (omega (arith, k.count)))) in
      let legible = cut_within (LegibleAt size es) (opened_within (LegibleAt size es) z size x t d e (cleaning_small (LegibleAt size es) (λ at b h a q l le is. h) (sectors size) x small) (sure_within (LegibleAt size es) d sure (λ at a q l le is. subst (λ t. Small (image d t)) (sym is) (bytes a q l le))) ran) cut in
      λ a q l le. legible _ a q l le refl

pub opening_breaks : OpeningBreaks
opening_breaks z size es d e after t same sure finds r cut = found_again z size es d e after t same sure finds r cut

pub opening_lies : OpeningLies
opening_lies z size es d e after t same sure lies r cut = record {
  finds = found_again z size es d e after t same sure lies.finds r cut;
  bytes = still_legible z size es d e after t same sure lies.finds r cut lies.bytes;
}

pub cut_sure : CutSure
cut_sure d after whole cut = record { single = cut.single; long = λ s l. whole.long s (image after s) (subst (λ n. s < n) cut.same_count l) (cut.one_of s) }
