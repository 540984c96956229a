-- Spoiling a store, wherever it breaks off.
use Rattle.std.proofs.Common.{◌≡◌, ℕ, ◌+◌, ◌*◌, ◌<◌, ◌≤◌, true, false, ◌⊎◌, List, [], length, sym, refl, ap, ◌∙◌, subst, inl, inr, ⊎_elim}
use Rattle.std.proofs.lemmas.Bool.{cond-true}
use Rattle.device.specs.Disk.{Bytes, good, refused}
use Rattle.layout.specs.declared.chunk.ChunkSize.{ChunkSize}
use Rattle.layout.specs.declared.exception.Exception.{Exception}
use Rattle.layout.specs.Chunks.{sectors, per_area, area_start}
use Rattle.layout.specs.Entries.{pic}
use Rattle.layout.specs.Headers.{header}
use Rattle.layout.proofs.Back.{header_back}
use Rattle.store.specs.Image.{Sizes, well_shaped, header_judged, header_found}
use Rattle.store.specs.Refusals.{because}
use Rattle.store.specs.Scanning.{most_areas}
use Rattle.store.specs.Steps.{shape_of, spoiling}
use Rattle.recovery.specs.Readings.{Image, image, scanned, next, found}
use Rattle.recovery.specs.Standing.{Within, ValidHeader, Presence, StandingShows}
use Rattle.recovery.specs.Breaks.{SpoilingLeaves}
use Rattle.recovery.proofs.Allowed.{run_within, cut_within}
use Rattle.recovery.proofs.Enters.{storing_writes}
use Rattle.recovery.proofs.Places.{not_header}

-- under way, the header is valid or not, and the areas stay
record Spoiled (z : Sizes) (size : ChunkSize) (es : List Exception) (at : ℕ) (b : Bytes) : Type 0 where
  head : at ≡ 0 → ValidHeader size b ⊎ (b ≡ header false (sectors size))
  areas : (a q : ℕ) → q < sectors size → per_area (sectors size) * a ≤ length es → at ≡ area_start (sectors size) a + q → b ≡ pic es (sectors size * a + q)

invalid_header : (z : Sizes) (size : ChunkSize) → well_shaped z (sectors size) ≡ true → header_found z (header false (sectors size)) ≡ refused (because 6 0 0)
invalid_header z size shape = ap (header_judged z) (header_back false size) ∙ cond-true (well_shaped z (sectors size)) _ _ shape

pub invalid_opens : (z : Sizes) (size : ChunkSize) (m : Image) → well_shaped z (sectors size) ≡ true → m 0 ≡ header false (sectors size) → found z m ≡ refused (because 6 0 0)
invalid_opens z size m shape is =
    ap (λ t. next t (λ size. next (scanned (shape_of z size) m most_areas 0 []) (λ e. good (record { size = size; table = e.table })))) (ap (header_found z) is ∙ invalid_header z size shape)

pub spoiling_leaves : {There : Presence} → StandingShows There → SpoilingLeaves spoiling There
spoiling_leaves shows z size es d e after t stands r cut =
    let writes : Spoiled z size es 0 (header false (sectors size)) = record { head = λ _. inr refl; areas = λ a q l le is. absurd (not_header (sectors size) a q l (sym is)) } in
    let before : Within (Spoiled z size es) d = λ s b has. let here = stands.sectors s b has in record { head = λ is. inl (here.head is); areas = here.areas } in
    let all = cut_within (Spoiled z size es) (run_within (Spoiled z size es) (storing_writes (Spoiled z size es) 0 (header false (sectors size)) writes) r before) cut in
    ⊎_elim
    (λ valid. inl (shows z size es (image after) stands.listed (λ s. record { head = λ is. subst (λ t. ValidHeader size (image after t)) (sym is) valid; areas = (all s).areas })))
    (λ invalid. inr (invalid_opens z size (image after) stands.listed.shape invalid))
    ((all 0).head refl)
