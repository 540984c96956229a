-- What stands is found.
use Rattle.std.proofs.Common.{◌≡◌, ◌+◌, ◌*◌, true, List, [], sym, refl, ap, ◌∙◌, subst}
use Rattle.std.proofs.lemmas.Bool.{cond-true}
use Rattle.device.specs.Disk.{good}
use Rattle.device.proofs.Possible.{last_has}
use Rattle.layout.specs.declared.chunk.ChunkSize.{ChunkSize}
use Rattle.layout.specs.declared.exception.Exception.{Exception}
use Rattle.layout.specs.Chunks.{sectors, area_start}
use Rattle.store.specs.Image.{Sizes, well_shaped, header_judged, header_found}
use Rattle.store.specs.Scanning.{most_areas}
use Rattle.store.specs.Steps.{shape_of}
use Rattle.recovery.specs.Readings.{Image, image, scanned, next}
use Rattle.recovery.specs.Holding.{FoundAgain, Pictured}
use Rattle.recovery.specs.Standing.{ValidHeader, Finds, StandingOpens, StandingLies, StandingAlone}
use Rattle.recovery.proofs.Finds.{finds_what_it_holds}
use Rattle.recovery.proofs.Legible.{pic_small}
use Rattle.recovery.proofs.Sectors.{Small}
use Rattle.recovery.proofs.Sheets.{pictures_hold}

-- a list that the areas hold is found under a valid header
pub held_opens : (z : Sizes) (size : ChunkSize) (es : List Exception) (m : Image) → well_shaped z (sectors size) ≡ true → ValidHeader size (m 0) → FoundAgain (shape_of z size) m es → Finds z size es m
held_opens z size es m shape head again =
    let s = shape_of z size in
    let headed : header_found z (m 0) ≡ good size = ap (header_judged z) head ∙ cond-true (well_shaped z (sectors size)) _ _ shape in
    ap (λ t. next t (λ size. next (scanned (shape_of z size) m most_areas 0 []) (λ e. good (record { size = size; table = e.table })))) headed
    ∙ ap (λ t. next t (λ e. good (record { size = size; table = e.table }))) again.answer

pub standing_lies : StandingLies
standing_lies z size es m listed stand =
    let s = shape_of z size in
    let pictured : Pictured s m es = record { sectors = λ a q h le. (stand _).areas a q h le refl } in
    record {
      finds = held_opens z size es m listed.shape ((stand 0).head refl) (finds_what_it_holds s m es (pictures_hold s m es listed.fits pictured) listed.sound);
      bytes = λ a q l le. subst Small (sym ((stand _).areas a q l le refl)) (pic_small es (sectors size * a + q));
    }

pub standing_opens : StandingOpens
standing_opens z size es m listed stand = (standing_lies z size es m listed stand).finds

pub standing_alone : StandingAlone
standing_alone z size es d stands = record {
  head = λ b has. sym (stands.single b has);
  areas = λ a q b l le has.
      let s = area_start (sectors size) a + q in
      (stands.sectors s b has).areas a q l le refl ∙ sym ((stands.sectors s (image d s) (last_has (d.cells s))).areas a q l le refl);
}
