-- The store's calls past their tests.
use Rattle.std.proofs.Common.{◌≡◌, ℕ, ◌+◌, ◌-◌, ◌*◌, ◌/◌, ◌%◌, ◌^◌, ◌<◌, ◌≤◌, Bool, true, false, cond, not, ◌&&◌, ◌||◌, eqb, ltb, List, [], ◌∷◌, ◌++◌, length, take, is_some, is_ok, Ok, Result, leb, Some, None, Option, sym, refl, ap, ◌∙◌, subst, ap₂, subst₂, arith, ltb-true, lt-ltb, length-append}
use borrow.Author.Tests.{not-true, eqb-false}
use Rattle.std.proofs.lemmas.Bool.{and_parts, and_from, eq-eqb, lt-leb, cond-true, cond-false}
use Rattle.device.specs.Disk.{Bytes, Disk, Op, Told, Refusal, good, refused}
use Rattle.device.specs.Plans.{Runs, one, done, bind, raised, lifted, spreading, reading_into, writing_from}
use Rattle.device.proofs.Gathers.{writes_spread}
use Rattle.layout.specs.declared.exception.Exception.{Exception}
use Rattle.exceptions.specs.Table.{entries_at_most, new_at, lookup, has_old, next_place, fills_area, has_room, room, last_run, without_run}
use Rattle.exceptions.specs.declared.fault.TableFault.{TableFault}
use Rattle.exceptions.specs.Table.{push_test}
use Rattle.layout.specs.Chunks.{per_area, area_chunk, in_copy}
use Rattle.store.specs.declared.shape.Shape.{Shape}
use Rattle.store.specs.Judge.{width, on_data}
use Rattle.store.specs.Refusals.{StoreRefusal, because, up, doing}
use Rattle.store.specs.Steps.{entering, dropping, entered_at, enter, drop_run, only_call, at_chunk, chunk_read, chunk_write}

-- a table takes one more exception where it is not full, and both numbers have 32 bits
pub taken : (table : List Exception) (x : Exception) {list : List Exception} {r : Result (Unit {0}) TableFault} → list ≡ cond (is_ok r) (table ++ (x ∷ [])) table → r ≡ push_test table x → leb entries_at_most (length table) ≡ false → x.old < 2 ^ 32 → x.new < 2 ^ 32 → list ≡ table ++ (x ∷ [])
taken table x {r = r} is answer room old new =
    let good : r ≡ Ok tt = answer ∙ cond-false _ _ _ room ∙ cond-true _ _ _ (and_from _ _ (lt-ltb _ _ old) (lt-ltb _ _ new)) in
    is ∙ cond-true (is_ok r) _ _ (ap is_ok good)

looked : (table : List Exception) (o : Option ℕ) → is_some (new_at table o) ≡ is_some o
looked table None = refl
looked table (Some i) = refl

-- what a place stands for
pub record Roomy (c chunks : ℕ) (table : List Exception) (p : ℕ) : Type 0 where
  pub place : p < chunks
  pub few : length table ≡ entries_at_most → ⊥

pub roomy : (c chunks : ℕ) (table : List Exception) (p : ℕ) → room entries_at_most c chunks table ≡ Some p → Roomy c chunks table p
roomy c chunks table p is = go (has_room entries_at_most c chunks (length table) (next_place c table)) refl is
  where
    go : (b : Bool) → has_room entries_at_most c chunks (length table) (next_place c table) ≡ b → cond b (Some (next_place c table)) None ≡ Some p → Roomy c chunks table p
    go true h e =
        let same : next_place c table ≡ p = cc in
        let parts = and_parts (ltb (next_place c table) chunks) _ h in
        let rest = and_parts (not (fills_area c (length table) && not (ltb (area_chunk c (length table / per_area c + 1)) chunks))) (not (eqb (length table) entries_at_most)) parts.1 in
        record { place = subst (λ q. q < chunks) same (ltb-true _ _ parts.0); few = eqb-false _ _ (not-true _ rest.1) }
    go false h e = absurd (let z : ◌≡◌ {A = ℕ} 0 1 = cc in omega arith)

module _ (s : Shape) (table : List Exception) (old p : ℕ) where
  -- the list with the new exception
  abbrev pub longer : List Exception
  longer = table ++ (record { old = old; new = p } ∷ [])

  pub enter_on : is_some (lookup table old) ≡ false → old < s.olds → room entries_at_most (width s) s.chunks table ≡ Some p → enter s table old ≡ doing (entering (width s) longer (length table)) (λ _. done (good longer))
  enter_on none here is =
      let absent : has_old table old ≡ false = sym (looked table _) ∙ none in
      cond-false _ _ _ (ap₂ (λ x y. x || not y) absent (lt-ltb old s.olds here)) ∙ ap (entered_at (width s) table old) is

  -- the new exception is pushed: there is room, and its numbers have 32 bits
  pub pushed : {list : List Exception} {r : Result (Unit {0}) TableFault} (count : ℕ) → list ≡ cond (is_ok r) longer table → r ≡ push_test table (record { old = old; new = p }) → length table ≤ entries_at_most → old < 2 ^ 32 → s.chunks ≤ count → count < 2 ^ 32 → Roomy (width s) s.chunks table p → list ≡ longer
  pushed count is answer few low fits small roomy_there =
      let below : length table < 2048 = omega (arith, roomy_there.few) in
      let new : p < 2 ^ 32 = omega (arith, roomy_there.place) in
      taken table (record { old = old; new = p }) is answer (lt-leb _ _ below) low new

  -- the steps of entering it, with the list written another way
  pub entered : {list : List Exception} {d e : Disk} {t : Told Refusal (Unit {0})} → list ≡ longer → Runs one (entering (width s) list (length list - 1)) d t e → Runs one (entering (width s) longer (length table)) d t e
  entered {list} {d} {e} {t} is r =
      let count : length longer - 1 ≡ length table = ap (λ n. n - 1) (length-append table _) ∙ omega arith in
      subst₂ (λ l n. Runs one (entering (width s) l n) d t e) is (ap (λ l. length l - 1) is ∙ count) r

-- the steps of dropping, with what is kept written another way
pub dropped : (c : ℕ) (table : List Exception) {left : ℕ} {d e : Disk} {t : Told Refusal (Unit {0})} → left ≡ length table - last_run c table → Runs one (dropping c (take left table) (length table)) d t e → Runs one (dropping c (without_run c table) (length table)) d t e
dropped c table {d = d} {e = e} {t = t} is r = subst (λ k. Runs one (dropping c (take k table) (length table)) d t e) is r

pub drop_on : (c : ℕ) (table : List Exception) → 0 < length table → drop_run c table ≡ doing (dropping c (without_run c table) (length table)) (λ _. done (good (without_run c table)))
drop_on c [] h = absurd (omega arith)
drop_on c (x ∷ xs) h = refl

-- DATA CHUNKS

-- the first sector of a data chunk, or why there is none
abbrev pub first_of : Shape → ℕ → Told StoreRefusal ℕ
first_of s k = cond (on_data s k) (good (k * width s)) (refused (because 2 k 0))

-- what is chosen for a data chunk, whose first sector is n
module _ (s : Shape) (k n : ℕ) (start : good n ≡ first_of s k) where
  chosen : {X : Type 0} (x y : X) → cond (on_data s k) x y ≡ x
  chosen {X} x y = go (on_data s k) start
    where
      go : (b : Bool) → good n ≡ cond b (good (k * width s)) (refused (because 2 k 0)) → cond b x y ≡ x
      go true h = refl
      go false h = absurd (let z : ◌≡◌ {A = ℕ} 0 1 = cc in omega arith)

  first_is : k * width s ≡ n
  first_is = let h = start ∙ chosen (good (k * width s)) (refused (because 2 k 0)) in cc

  -- one sector of a copy there
  pub copy_on : (sector c : ℕ) (o : ℕ → Op) → c ≡ width s → at_chunk s k (only_call (o (in_copy (width s) k sector))) ≡ lifted up (only_call (o (n + sector % c)))
  copy_on sector c o is = chosen (lifted up (only_call (o (in_copy (width s) k sector)))) _ ∙ ap₂ (λ a b. lifted up (only_call (o (a + sector % b)))) first_is (sym is)

  pub read_on : (buffer : Bytes) → length buffer ≡ 512 * width s → chunk_read s k buffer ≡ bind (reading_into n buffer) (λ f. done (raised up f.answer, f.buffer))
  read_on buffer long =
      cond-true (eqb (length buffer) (512 * width s)) _ _ (eq-eqb _ _ long) ∙ chosen _ _ ∙ ap (λ a. bind (reading_into a buffer) (λ f. done (raised up f.answer, f.buffer))) first_is

  pub write_on : (bytes : Bytes) → length bytes ≡ 512 * width s → chunk_write s k bytes ≡ lifted up (writing_from n bytes)
  write_on bytes long =
      cond-true (eqb (length bytes) (512 * width s)) _ _ (eq-eqb _ _ long) ∙ chosen _ _ ∙ ap (λ a. lifted up (spreading a (width s) bytes)) first_is ∙ ap (lifted up) (sym (writes_spread n bytes (width s) long))

-- what is chosen where there is no data chunk
module _ (s : Shape) (k : ℕ) {f : StoreRefusal} (none : refused f ≡ first_of s k) where
  refused_there : {X : Type 0} (x : X) (y : StoreRefusal → X) → cond (on_data s k) x (y (because 2 k 0)) ≡ y f
  refused_there {X} x y = go (on_data s k) none
    where
      go : (b : Bool) → refused f ≡ cond b (good (k * width s)) (refused (because 2 k 0)) → cond b x (y (because 2 k 0)) ≡ y f
      go true h = absurd (let z : ◌≡◌ {A = ℕ} 0 1 = cc in omega arith)
      go false h = let same : because 2 k 0 ≡ f = cc in ap y same

  pub read_off : (buffer : Bytes) → length buffer ≡ 512 * width s → chunk_read s k buffer ≡ done (refused f, buffer)
  read_off buffer long = cond-true (eqb (length buffer) (512 * width s)) _ _ (eq-eqb _ _ long) ∙ refused_there _ (λ r. done (refused r, buffer))

  pub write_off : (bytes : Bytes) → length bytes ≡ 512 * width s → chunk_write s k bytes ≡ done (refused f)
  write_off bytes long = cond-true (eqb (length bytes) (512 * width s)) _ _ (eq-eqb _ _ long) ∙ refused_there _ (λ r. done (refused r))
