-- The store's calls and its data sectors.
use Rattle.std.proofs.Common.{◌≡◌, ℕ, ◌<◌, ◌⊎◌, List, [], ◌∷◌, length, sym, refl, ap, ◌∙◌, subst, inl, inr}
use Rattle.std.specs.List.{ContainsAt as Has}
use Rattle.device.specs.Disk.{Bytes, Disk, possibilities, Told, good, Refusal}
use Rattle.device.specs.Plans.{Plan, Runs, one}
use Rattle.device.proofs.Possible.{last_has}
use Rattle.device.proofs.Uses.{over as run_over}
use Rattle.layout.specs.declared.chunk.ChunkSize.{ChunkSize}
use Rattle.layout.specs.declared.exception.Exception.{Exception}
use Rattle.layout.specs.Chunks.{sectors, per_area, in_copy}
use Rattle.exceptions.specs.Table.{without_run}
use Rattle.store.specs.declared.shape.Shape.{Shape}
use Rattle.store.specs.Image.{Sizes}
use Rattle.store.specs.Judge.{width}
use Rattle.store.specs.Refusals.{StoreRefusal}
use Rattle.store.specs.Scanning.{Ending, most_areas}
use Rattle.store.specs.Steps.{Contents, shape_of, finished, flushing, making, spoiling, dropping, drop_run, data_read, data_write, copy_read, copy_write, chunk_read, chunk_write}
use Rattle.recovery.specs.Readings.{image}
use Rattle.recovery.specs.Standing.{Within, Standing, Stands}
use Rattle.recovery.specs.Data.{IsData, DataKept, CallsKeepData, DataCallsKeepList, new_in_sector, new_in_chunk, Written, WrittenWell, DataWrites}
use Rattle.recovery.proofs.Again.{end_of}
use Rattle.recovery.proofs.Allowed.{Writes, run_within}
use Rattle.recovery.proofs.Calls.{Did, did, did_run, Entered, declined, tried, entered, lifts}
use Rattle.recovery.proofs.Cleans.{parts, Opened, unread, cleaned, opened}
use Rattle.recovery.proofs.DataCalls.{chunk_data, flush_writes, data_read_writes, data_write_writes, copy_read_writes, copy_write_writes, chunk_read_writes, chunk_write_writes, data_write_good, copy_write_good, chunk_write_good}
use Rattle.recovery.proofs.Finds.{sectors_within}
use Rattle.recovery.proofs.Keeps.{Quiet, quiet_keeps, kept_same, Elsewhere, run_reads, header_no_data, area_no_data, making_quiet, spoiling_quiet, entering_quiet, dropping_quiet, cleaning_quiet}

-- steps on the device that write no data
did_keeps : {A : Type 0} (c : ℕ) (p : Plan (Unit {0}) (Told Refusal (Unit {0}))) (a : A) (t : Told StoreRefusal A) (d e : Disk) → Quiet c p → Did p a t d e → DataKept c d e
did_keeps c p a t d e quiet h = let u = did_run h in quiet_keeps c p u.0 d e quiet u.1

entered_keeps : (z : Sizes) (size : ChunkSize) (es : List Exception) (old : ℕ) (d e : Disk) (t : Told StoreRefusal (List Exception)) → Entered z size es old t d e → DataKept (sectors size) d e
entered_keeps z size es old d e t (declined f is same) = kept_same (sectors size) d e (ap (λ y. y.cells) same)
entered_keeps z size es old d e t (tried p free inside is h) = did_keeps (sectors size) _ _ t d e (entering_quiet (sectors size) (sectors_within size).0 _ _) h

opened_keeps : (z : Sizes) (size : ChunkSize) (x : Ending) (t : Told StoreRefusal Contents) (d e : Disk) → x.place < per_area (sectors size) → Opened z size x t d e → DataKept (sectors size) d e
opened_keeps z size x t d e inside (unread f is same) = kept_same (sectors size) d e same
opened_keeps z size x t d e inside (cleaned h) = did_keeps (sectors size) _ _ t d e (cleaning_quiet (sectors size) (sectors_within size).0 x inside) h

drop_keeps : (size : ChunkSize) (es : List Exception) (d e : Disk) (t : Told StoreRefusal (List Exception)) → Runs one (drop_run (sectors size) es) d t e → DataKept (sectors size) d e
drop_keeps size [] d e t r = kept_same (sectors size) d e (ap (λ y. y.cells) (run_over r).1)
drop_keeps size (x ∷ xs) d e t r =
    let c = sectors size in
    did_keeps c _ _ t d e (dropping_quiet c (sectors_within size).0 _ _) (did (dropping c (without_run c (x ∷ xs)) (length (x ∷ xs))) (without_run c (x ∷ xs)) t d e r)

pub calls_keep_data : CallsKeepData
calls_keep_data = record {
  making = λ size d e t r. did_keeps (sectors size) _ _ t d e (making_quiet (sectors size) (sectors_within size).0) (lifts (making (sectors size)) t d e r);
  spoiling = λ size d e t r. did_keeps (sectors size) _ _ t d e (spoiling_quiet (sectors size) (sectors_within size).0) (lifts (spoiling (sectors size)) t d e r);
  entering = λ z size es old d e t r. entered_keeps z size es old d e t (entered z size es old t d e r);
  dropping = drop_keeps;
  opening = λ z size es d e t finds r.
      let p = parts z size es (image d) finds in
      opened_keeps z size p.ending t d e (end_of (shape_of z size) (image d) most_areas 0 [] p.ending p.scan).inside (opened z size p.ending d p.head p.scan t e r);
  reading = λ s at len d e t r. quiet_keeps (width s) (data_read s at len) t d e (λ A ok. data_read_writes A s at len) r;
  copy_reading = λ s k at len d e t r. quiet_keeps (width s) (copy_read s k at len) t d e (λ A ok. copy_read_writes A s k at len) r;
  chunk_reading = λ s k buffer d e t r. quiet_keeps (width s) (chunk_read s k buffer) t d e (λ A ok. chunk_read_writes A s k buffer) r;
  flush = λ c d e t r. did_keeps {A = Unit {0}} c (flushing finished) tt t d e (λ A ok. flush_writes A) (lifts (flushing finished) t d e r);
}

-- DATA CALLS

-- any bytes may stand in a data sector
pub data_free : (z : Sizes) (size : ChunkSize) (es : List Exception) (s : ℕ) (b : Bytes) → IsData (sectors size) s → Standing (shape_of z size) es s b
data_free z size es s b is = record {
  head = λ zero. absurd (header_no_data (sectors size) (sectors_within size).0 (subst (IsData (sectors size)) zero is));
  areas = λ a q l le at. absurd (area_no_data (sectors size) a q l (subst (IsData (sectors size)) at is));
}

-- steps that write nothing but data
abbrev OnlyData : {X : Type 0} → ℕ → Plan (Unit {0}) X → Type 1
OnlyData c p = (A : ℕ → Bytes → Type 0) → ((s : ℕ) (b : Bytes) → IsData c s → A s b) → Writes A p

-- the header is the one that was
abbrev HeaderStays : Disk → ℕ → Bytes → Type 0
HeaderStays d s b = s ≡ 0 → b ≡ image d 0

still_stands : {X : Type 0} (z : Sizes) (size : ChunkSize) (es : List Exception) (p : Plan (Unit {0}) X) (x : X) (d e : Disk) → OnlyData (sectors size) p → Stands z size es d → Runs one p d x e → Stands z size es e
still_stands z size es p x d e only stands r =
    let header_free : (s : ℕ) (b : Bytes) → IsData (sectors size) s → HeaderStays d s b = λ s b is zero. absurd (header_no_data (sectors size) (sectors_within size).0 (subst (IsData (sectors size)) zero is)) in
    let begins : Within (HeaderStays d) d = λ s b has zero. sym (stands.single b (subst (λ t. Has (possibilities (d.cells t)) b) zero has)) in
    let same = run_within (HeaderStays d) (only (HeaderStays d) header_free) r begins in
    record {
      listed = stands.listed;
      sectors = run_within (Standing (shape_of z size) es) (only (Standing (shape_of z size) es) (data_free z size es)) r stands.sectors;
      single = λ b has. same 0 (image e 0) (last_has (e.cells 0)) refl ∙ sym (same 0 b has refl);
    }

flush_stands : (z : Sizes) (size : ChunkSize) (es : List Exception) (d e : Disk) (t : Told StoreRefusal (Unit {0})) → Stands z size es d → Did {A = Unit {0}} (flushing finished) tt t d e → Stands z size es e
flush_stands z size es d e t stands h = still_stands z size es (flushing finished) _ d e (λ A ok. flush_writes A) stands (did_run h).1

pub data_calls_keep_list : DataCallsKeepList
data_calls_keep_list = record {
  reading = λ z s es at len d e t stands r. still_stands z s.size es (data_read s at len) t d e (λ A ok. data_read_writes A s at len) stands r;
  writing = λ z s es at bytes d e t stands r. still_stands z s.size es (data_write s at bytes) t d e (λ A ok. data_write_writes A s at bytes (ok at bytes)) stands r;
  copy_reading = λ z s es k at len d e t stands r. still_stands z s.size es (copy_read s k at len) t d e (λ A ok. copy_read_writes A s k at len) stands r;
  copy_writing = λ z s es k at bytes d e t stands r. still_stands z s.size es (copy_write s k at bytes) t d e (λ A ok. copy_write_writes A s k at bytes (ok _ bytes)) stands r;
  chunk_reading = λ z s es k buffer d e t stands r. still_stands z s.size es (chunk_read s k buffer) t d e (λ A ok. chunk_read_writes A s k buffer) stands r;
  chunk_writing = λ z s es k bytes d e t stands r. still_stands z s.size es (chunk_write s k bytes) t d e (λ A ok. chunk_write_writes A s k bytes (λ i l is. ok _ _ is)) stands r;
  flush = λ z size es d e t stands r. flush_stands z size es d e t stands (lifts (flushing finished) t d e r);
}

-- WHAT A DATA WRITE DOES

-- all that a plan writes is among the bytes New
abbrev Puts : {X : Type 0} → (ℕ → Bytes → Type 0) → Plan (Unit {0}) X → Type 1
Puts New p = (A : ℕ → Bytes → Type 0) → ((s : ℕ) (b : Bytes) → New s b → A s b) → Writes A p

written : {X : Type 0} (New : ℕ → Bytes → Type 0) (p : Plan (Unit {0}) X) (x : X) (d e : Disk) → Puts New p → Runs one p d x e → Written New d e
written New p x d e puts r = record {
  possible = run_within (λ s b. Has (possibilities (d.cells s)) b ⊎ New s b) (puts _ (λ s b. inr)) r (λ s b. inl);
  others = λ s none. run_reads s p r.fates d e x (puts (Elsewhere s) (λ t b new same. none b (subst (λ u. New u b) same new))) r.comes;
}

-- a write at one sector puts its bytes there
only_there : {X : Type 0} (s : ℕ) (bytes : Bytes) (p : Plan (Unit {0}) X) → ((A : ℕ → Bytes → Type 0) → A s bytes → Writes A p) → Puts (new_in_sector s bytes) p
only_there s bytes p writes A ok = writes A (ok s bytes (refl, refl))

-- and reads them back
read_there : (c s : ℕ) (bytes : Bytes) {d e : Disk} → Written (new_in_sector s bytes) d e → IsData c s → image e s ≡ bytes → WrittenWell c (new_in_sector s bytes) d e
read_there c s bytes {d} {e} within there here = record {
  within = within;
  place = λ t b new. subst (IsData c) (sym new.0) there;
  reads = λ t b new. ap (image e) new.0 ∙ here ∙ sym new.1;
}

pub data_writes : DataWrites
data_writes = record {
  writing = λ s at bytes d e t r. data_put s at bytes d e t r;
  written = λ s at bytes d e r. let g = data_write_good s at bytes r in read_there (width s) at bytes (data_put s at bytes d e (good tt) r) g.0 g.1;
  copy_writing = λ s k at bytes d e t r. copy_put s k at bytes d e t r;
  copy_written = λ s k at bytes x d e r. let g = copy_write_good s k at bytes x r in read_there (width s) _ bytes (copy_put s k at bytes d e (good x) r) g.0 g.1;
  chunk_writing = λ s k bytes d e t r. chunk_put s k bytes d e t r;
  chunk_written = λ s k bytes d e r.
      let g = chunk_write_good s k bytes r in
      record {
        within = chunk_put s k bytes d e (good tt) r;
        place = λ t b new. subst (IsData (width s)) (sym new.2) (chunk_data s k new.0 new.1 g.0);
        reads = λ t b new. ap (image e) new.2 ∙ g.1 new.0 new.1 ∙ sym new.3;
      };
}
  where
    data_put : (s : Shape) (at : ℕ) (bytes : Bytes) (d e : Disk) (t : Told StoreRefusal (Unit {0})) → Runs one (data_write s at bytes) d t e → Written (new_in_sector at bytes) d e
    data_put s at bytes d e t r = written _ _ t d e (only_there at bytes (data_write s at bytes) (λ A ok. data_write_writes A s at bytes (λ is. ok))) r

    copy_put : (s : Shape) (k at : ℕ) (bytes : Bytes) (d e : Disk) (t : Told StoreRefusal Bytes) → Runs one (copy_write s k at bytes) d t e → Written (new_in_sector (in_copy (width s) k at) bytes) d e
    copy_put s k at bytes d e t r = written _ _ t d e (only_there (in_copy (width s) k at) bytes (copy_write s k at bytes) (λ A ok. copy_write_writes A s k at bytes (λ is. ok))) r

    chunk_put : (s : Shape) (k : ℕ) (bytes : Bytes) (d e : Disk) (t : Told StoreRefusal (Unit {0})) → Runs one (chunk_write s k bytes) d t e → Written (new_in_chunk (width s) k bytes) d e
    chunk_put s k bytes d e t r = written _ _ t d e (λ A ok. chunk_write_writes A s k bytes (λ i l is. ok _ _ (i, l, refl, refl))) r
