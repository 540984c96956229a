-- A scan of other readings finds the same list, where the entries up to its end are the same.
use Rattle.std.proofs.Common.{◌≡◌, ℕ, zero, suc, ◌+◌, ◌<◌, ◌≤◌, cond, eqb, leb, List, [], ◌∷◌, ◌++◌, length, sym, refl, ap, ◌∙◌, ap₂, ⊎_elim, arith}
use Rattle.std.proofs.lemmas.Bool.{cases_Bool, eqb-true, eq-eqb, cond-true, cond-false}
use Rattle.device.specs.Disk.{Bytes, good}
use Rattle.layout.specs.declared.exception.Exception.{Exception}
use Rattle.layout.specs.Chunks.{per_area, area_start}
use Rattle.layout.specs.Entries.{nth_entry}
use Rattle.exceptions.specs.Table.{entries_at_most}
use Rattle.store.specs.declared.shape.Shape.{Shape}
use Rattle.store.specs.Judge.{width, damaged}
use Rattle.store.specs.Scanning.{Parsed, full, over, many, wrong, judged, parsed, Ending, ending, concluded}
use Rattle.recovery.specs.Readings.{Image, gathered, area_bytes, scanned}

-- an entry ends the list, or it passes every test and the end comes later
data Judgement (s : Shape) (a k : ℕ) (es : List Exception) (x : Exception) (next : Parsed) (es' : List Exception) (p : ℕ) : Type 0 where
  ends : x.new ≡ 0 → es ≡ es' → k ≡ p → Judgement s a k es x next es' p
  goes : ((n : Parsed) → judged s a k es x n ≡ n) → next ≡ over es' p → Judgement s a k es x next es' p

judgement : (s : Shape) (a k : ℕ) (es : List Exception) (x : Exception) (next : Parsed) (es' : List Exception) (p : ℕ) → judged s a k es x next ≡ over es' p → Judgement s a k es x next es' p
judgement s a k es x next es' p h =
    ⊎_elim
    (λ z.
    let is : over es k ≡ over es' p = sym (cond-true (eqb x.new 0) _ _ z) ∙ h in
    let list : es ≡ es' = cc in
    let place : k ≡ p = cc in
    ends (eqb-true _ _ z) list place)
    (λ nz.
    let skip : (n : Parsed) → judged s a k es x n ≡ cond (leb entries_at_most (length es)) many (cond (damaged s a k es x) (wrong k) n) = λ n. cond-false (eqb x.new 0) _ _ nz in
    ⊎_elim
    (λ m.
    let is : many ≡ over es' p = sym (cond-true (leb entries_at_most (length es)) _ _ m) ∙ sym (skip next) ∙ h in
    cc)
    (λ few.
    let on : (n : Parsed) → judged s a k es x n ≡ cond (damaged s a k es x) (wrong k) n = λ n. skip n ∙ cond-false (leb entries_at_most (length es)) _ _ few in
    ⊎_elim
    (λ bad.
    let is : wrong k ≡ over es' p = sym (cond-true (damaged s a k es x) _ _ bad) ∙ sym (on next) ∙ h in
    cc)
    (λ fine.
    let pass : (n : Parsed) → judged s a k es x n ≡ n = λ n. on n ∙ cond-false (damaged s a k es x) _ _ fine in
    goes pass (sym (pass next) ∙ h))
    (cases_Bool (damaged s a k es x)))
    (cases_Bool (leb entries_at_most (length es))))
    (cases_Bool (eqb x.new 0))

-- where the entries of an area come to an end: not before place k, inside the area, at an end entry
pub record Place (bytes : Bytes) (n k p : ℕ) : Type 0 where
  pub from : k ≤ p
  pub inside : p < k + n
  pub ends : (nth_entry bytes p).new ≡ 0

pub place_of : (s : Shape) (a : ℕ) (bytes : Bytes) (n k : ℕ) (es : List Exception) (es' : List Exception) (p : ℕ) → parsed s a bytes n k es ≡ over es' p → Place bytes n k p
place_of s a bytes zero k es es' p h = cc
place_of s a bytes (suc n) k es es' p h = by (λ l is. place_of s a bytes n (k + 1) l es' p is) (judgement s a k es (nth_entry bytes k) _ es' p h)
  where
    by : ((l : List Exception) → parsed s a bytes n (k + 1) l ≡ over es' p → Place bytes n (k + 1) p) → Judgement s a k es (nth_entry bytes k) (parsed s a bytes n (k + 1) (es ++ (nth_entry bytes k ∷ []))) es' p → Place bytes (suc n) k p
    by on (ends z list place) = record { from = omega arith; inside = omega arith; ends = ap (λ i. (nth_entry bytes i).new) (sym place) ∙ z }
    by on (goes pass next) =
        let r = on _ next in
        record { from = omega (arith, r.from); inside = omega (arith, r.inside); ends = r.ends }

-- other bytes with the same entries before the end, and an end entry there
pub parsed_again : (s : Shape) (a : ℕ) (bytes other : Bytes) (n k : ℕ) (es es' : List Exception) (p : ℕ) → parsed s a bytes n k es ≡ over es' p → ((i : ℕ) → i < p → nth_entry other i ≡ nth_entry bytes i) → (nth_entry other p).new ≡ 0 → parsed s a other n k es ≡ over es' p
parsed_again s a bytes other zero k es es' p h same end = h
parsed_again s a bytes other (suc n) k es es' p h same end = by (λ l is. parsed_again s a bytes other n (k + 1) l es' p is same end) (judgement s a k es (nth_entry bytes k) _ es' p h)
  where
    by : ((l : List Exception) → parsed s a bytes n (k + 1) l ≡ over es' p → parsed s a other n (k + 1) l ≡ over es' p) → Judgement s a k es (nth_entry bytes k) (parsed s a bytes n (k + 1) (es ++ (nth_entry bytes k ∷ []))) es' p → parsed s a other (suc n) k es ≡ over es' p
    by on (ends z list place) = cond-true (eqb (nth_entry other k).new 0) _ _ (eq-eqb _ _ (ap (λ i. (nth_entry other i).new) place ∙ end)) ∙ ap₂ over list place
    by on (goes pass next) =
        let later = place_of s a bytes n (k + 1) _ es' p next in
        let here = same k (omega (arith, later.from)) in
        ap (λ x. judged s a k es x (parsed s a other n (k + 1) (es ++ (x ∷ [])))) here ∙ pass _ ∙ on _ next

-- the same readings of an area are the same bytes
gathered_same : (m m' : Image) (n s : ℕ) (sofar : Bytes) → ((q : ℕ) → q < n → m' (s + q) ≡ m (s + q)) → gathered m' s n sofar ≡ gathered m s n sofar
gathered_same m m' zero s sofar same = refl
gathered_same m m' (suc n) s sofar same =
    let first : m' s ≡ m s = (let at : s ≡ s + 0 = omega arith in ap m' at) ∙ same 0 (omega arith) ∙ (let at : s + 0 ≡ s = omega arith in ap m at) in
    let next : (q : ℕ) → q < n → m' ((s + 1) + q) ≡ m ((s + 1) + q) = λ q l. (let at : (s + 1) + q ≡ s + suc q = omega arith in ap m' at ∙ same (suc q) (omega arith) ∙ ap m (sym at)) in
    ap (λ b. gathered m' (s + 1) n (sofar ++ b)) first ∙ gathered_same m m' n (s + 1) (sofar ++ m s) next

-- readings that keep a list up to its end: areas before it are the same, and in its own area the entries up to the end entry
pub record Keeps (s : Shape) (m m' : Image) (x : Ending) : Type 0 where
  pub before : (a q : ℕ) → a < x.area → q < width s → m' (area_start (width s) a + q) ≡ m (area_start (width s) a + q)
  pub entries : (k : ℕ) → k < x.place → nth_entry (area_bytes s m' x.area) k ≡ nth_entry (area_bytes s m x.area) k
  pub end : (nth_entry (area_bytes s m' x.area) x.place).new ≡ 0

-- where a scan ends: not before its area, in the bytes of the area, inside it at an end entry
pub record End (s : Shape) (m : Image) (a : ℕ) (x : Ending) : Type 0 where
  pub from : a ≤ x.area
  pub bytes : x.bytes ≡ area_bytes s m x.area
  pub inside : x.place < per_area (width s)
  pub ends : (nth_entry (area_bytes s m x.area) x.place).new ≡ 0

module _ (s : Shape) (m : Image) where
  pub end_of : (n a : ℕ) (es : List Exception) (x : Ending) → scanned s m n a es ≡ good x → End s m a x
  unfolding scanned
  end_of zero a es x h = cc
  end_of (suc n) a es x h = by (λ l is. end_of n (a + 1) l x is) (parsed s a (area_bytes s m a) (per_area (width s)) 0 es) refl h
    where
      by : ((l : List Exception) → scanned s m n (a + 1) l ≡ good x → End s m (a + 1) x) → (p : Parsed) → parsed s a (area_bytes s m a) (per_area (width s)) 0 es ≡ p → concluded (λ t. t) a (area_bytes s m a) p (scanned s m n (a + 1)) ≡ good x → End s m a x
      by on (full es') is g = let r = on es' g in record { from = omega (arith, r.from); bytes = r.bytes; inside = r.inside; ends = r.ends }
      by on (over es' k) is g =
          let area : a ≡ x.area = cc in
          let place : k ≡ x.place = cc in
          let bytes : area_bytes s m a ≡ x.bytes = cc in
          let r = place_of s a (area_bytes s m a) (per_area (width s)) 0 es es' k is in
          record {
            from = omega arith;
            bytes = sym bytes ∙ ap (area_bytes s m) area;
            inside = omega (arith, r.inside);
            ends = (λ i. (nth_entry (area_bytes s m (sym area i)) (sym place i)).new) ∙ r.ends;
          }
      by on many is g = cc
      by on (wrong k) is g = cc

  module _ (m' : Image) (x : Ending) (keeps : Keeps s m m' x) where
    pub scanned_again : (n a : ℕ) (es : List Exception) → scanned s m n a es ≡ good x → scanned s m' n a es ≡ good (ending x.table x.area x.place (area_bytes s m' x.area))
    unfolding scanned
    scanned_again zero a es h = cc
    scanned_again (suc n) a es h = by (λ l is. scanned_again n (a + 1) l is) (parsed s a (area_bytes s m a) (per_area (width s)) 0 es) refl h
      where
        by : ((l : List Exception) → scanned s m n (a + 1) l ≡ good x → scanned s m' n (a + 1) l ≡ good (ending x.table x.area x.place (area_bytes s m' x.area))) → (p : Parsed) → parsed s a (area_bytes s m a) (per_area (width s)) 0 es ≡ p → concluded (λ t. t) a (area_bytes s m a) p (scanned s m n (a + 1)) ≡ good x → scanned s m' (suc n) a es ≡ good (ending x.table x.area x.place (area_bytes s m' x.area))
        by on (full es') is g =
            let later = end_of n (a + 1) es' x g in
            let same : area_bytes s m' a ≡ area_bytes s m a = gathered_same m m' (width s) (area_start (width s) a) [] (λ q l. keeps.before a q (omega (arith, later.from)) l) in
            ap (λ b. concluded (λ t. t) a b (parsed s a b (per_area (width s)) 0 es) (scanned s m' n (a + 1))) same
            ∙ ap (λ p. concluded (λ t. t) a (area_bytes s m a) p (scanned s m' n (a + 1))) is
            ∙ on es' g
        by on (over es' k) is g =
            let area : a ≡ x.area = cc in
            let place : k ≡ x.place = cc in
            let list : es' ≡ x.table = cc in
            let entries : (i : ℕ) → i < k → nth_entry (area_bytes s m' a) i ≡ nth_entry (area_bytes s m a) i = λ i l. ap (λ a. nth_entry (area_bytes s m' a) i) area ∙ keeps.entries i (omega arith) ∙ ap (λ a. nth_entry (area_bytes s m a) i) (sym area) in
            let end : (nth_entry (area_bytes s m' a) k).new ≡ 0 = (λ i. (nth_entry (area_bytes s m' (area i)) (place i)).new) ∙ keeps.end in
            ap (λ p. concluded (λ t. t) a (area_bytes s m' a) p (scanned s m' n (a + 1))) (parsed_again s a (area_bytes s m a) (area_bytes s m' a) (per_area (width s)) 0 es es' k is entries end)
            ∙ (λ i. good (ending (list i) (area i) (place i) (area_bytes s m' (area i))))
        by on many is g = cc
        by on (wrong k) is g = cc
