-- What the sectors hold is found.
use Rattle.std.proofs.Common.{◌≡◌, ℕ, zero, suc, ◌+◌, ◌-◌, ◌*◌, ◌<◌, ◌≤◌, eqb, leb, List, [], ◌∷◌, ◌++◌, length, take, sym, refl, ap, ◌∙◌, ⊎_elim, mul-le-mul, mul-add, arith}
use Rattle.std.proofs.lemmas.List.{take_more, take_all, length-take-le}
use Rattle.std.proofs.lemmas.Bool.{eq-eqb, ne_eqb, lt-leb, cond-true, cond-false, cases_lt}
use Rattle.device.specs.Disk.{good}
use Rattle.layout.specs.declared.exception.Exception.{Exception}
use Rattle.layout.specs.declared.chunk.ChunkSize.{ChunkSize}
use Rattle.layout.specs.declared.chunk.ChunkSize.TheVariants.{One, Two, Four, Eight, Sixteen}
use Rattle.layout.specs.Chunks.{sectors, per_area}
use Rattle.layout.specs.Entries.{nothing, nth_entry}
use Rattle.store.specs.declared.shape.Shape.{Shape}
use Rattle.store.specs.Judge.{width, damaged}
use Rattle.store.specs.Scanning.{full, over, parsed, concluded, ending}
use Rattle.recovery.specs.Readings.{Image, area_bytes, scanned}
use Rattle.recovery.specs.Holding.{Holds, Sound, FindsWhatItHolds}

-- a chunk has from 1 to 16 sectors
pub sectors_within : (size : ChunkSize) → (1 ≤ sectors size) × (sectors size ≤ 16)
sectors_within One = omega arith
sectors_within Two = omega arith
sectors_within Four = omega arith
sectors_within Eight = omega arith
sectors_within Sixteen = omega arith

pub sound_none : (s : Shape) → Sound s []
sound_none s = record { few = omega arith; some = λ i h _. absurd (omega arith); whole = λ a k inside h. absurd (omega arith) }

module _ (s : Shape) (m : Image) (es : List Exception) (h : Holds s m es) (ok : Sound s es) where
  -- the entries of area a from place k on, where the list ends inside the area
  ends_inside : (a n k : ℕ) → n + k ≡ per_area (width s) → per_area (width s) * a + k ≤ length es → length es < per_area (width s) * a + per_area (width s) → parsed s a (area_bytes s m a) n k (take (per_area (width s) * a + k) es) ≡ over es (length es - per_area (width s) * a)
  ends_inside a zero k sum below inside = absurd (omega arith)
  ends_inside a (suc n) k sum below inside =
      let bytes = area_bytes s m a in
      let i = per_area (width s) * a + k in
      let e = nth_entry bytes k in
      let next = parsed s a bytes n (k + 1) (take i es ++ (e ∷ [])) in
      ⊎_elim
      (λ l.
      let is = h.entries a k (omega arith) l in
      let size : length (take i es) ≡ i = length-take-le i es (omega arith) in
      let more : take i es ++ (e ∷ []) ≡ take (per_area (width s) * a + (k + 1)) es = ap (λ x. take i es ++ (x ∷ [])) is ∙ sym (take_more es i nothing l) ∙ ap (λ n. take n es) (let step : i + 1 ≡ per_area (width s) * a + (k + 1) = omega arith in step) in
      cond-false (eqb e.new 0) _ _ (ne_eqb _ _ (λ z. ok.some i l (ap (λ x. x.new) (sym is) ∙ z)))
      ∙ cond-false (leb 2048 (length (take i es))) _ _ (lt-leb 2048 _ (omega (arith, ok.few)))
      ∙ cond-false (damaged s a k (take i es) e) _ _ (ap (damaged s a k (take i es)) is ∙ ok.whole a k (omega arith) l)
      ∙ ap (parsed s a bytes n (k + 1)) more
      ∙ ends_inside a n (k + 1) (omega arith) (omega arith) inside)
      (λ g.
      let at : i ≡ length es = omega arith in
      let rest : k ≡ length es - per_area (width s) * a = omega arith in
      cond-true (eqb e.new 0) _ _ (eq-eqb _ _ (h.end a k (omega arith) at)) ∙ ap (λ l. over l k) (take_all i es g) ∙ ap (over es) rest)
      (cases_lt i (length es))

  -- the same, where the list goes on past the area
  goes_on : (a n k : ℕ) → n + k ≡ per_area (width s) → per_area (width s) * a + per_area (width s) ≤ length es → parsed s a (area_bytes s m a) n k (take (per_area (width s) * a + k) es) ≡ full (take (per_area (width s) * a + per_area (width s)) es)
  goes_on a zero k sum past = let all : k ≡ per_area (width s) = omega arith in ap (λ n. full (take (per_area (width s) * a + n) es)) all
  goes_on a (suc n) k sum past =
      let bytes = area_bytes s m a in
      let i = per_area (width s) * a + k in
      let e = nth_entry bytes k in
      let l : i < length es = omega arith in
      let is = h.entries a k (omega arith) l in
      let size : length (take i es) ≡ i = length-take-le i es (omega arith) in
      let more : take i es ++ (e ∷ []) ≡ take (per_area (width s) * a + (k + 1)) es = ap (λ x. take i es ++ (x ∷ [])) is ∙ sym (take_more es i nothing l) ∙ ap (λ n. take n es) (let step : i + 1 ≡ per_area (width s) * a + (k + 1) = omega arith in step) in
      cond-false (eqb e.new 0) _ _ (ne_eqb _ _ (λ z. ok.some i l (ap (λ x. x.new) (sym is) ∙ z)))
      ∙ cond-false (leb 2048 (length (take i es))) _ _ (lt-leb 2048 _ (omega (arith, ok.few)))
      ∙ cond-false (damaged s a k (take i es) e) _ _ (ap (damaged s a k (take i es)) is ∙ ok.whole a k (omega arith) l)
      ∙ ap (parsed s a bytes n (k + 1)) more
      ∙ goes_on a n (k + 1) (omega arith) past

  -- where a scan from area a on ends
  pub record Ends (n a : ℕ) : Type 0 where
    pub area : ℕ
    pub place : ℕ
    pub inside : place < per_area (width s)
    pub is : per_area (width s) * area + place ≡ length es
    pub answer : scanned s m n a (take (per_area (width s) * a) es) ≡ good (ending es area place (area_bytes s m area))

  areas : (n a : ℕ) → a + n ≡ 65 → per_area (width s) * a ≤ length es → Ends n a
  unfolding scanned
  areas zero a sum below =
      let some = sectors_within s.size in
      absurd (omega (arith, mul-le-mul {n₁ = 32} {m₁ = 65} {n₂ = per_area (width s)} {m₂ = a} (omega arith) (omega arith), ok.few))
  areas (suc n) a sum below =
      let bytes = area_bytes s m a in
      let start : per_area (width s) * a ≡ per_area (width s) * a + 0 = omega arith in
      let begin : parsed s a bytes (per_area (width s)) 0 (take (per_area (width s) * a) es) ≡ parsed s a bytes (per_area (width s)) 0 (take (per_area (width s) * a + 0) es) = ap (λ n. parsed s a bytes (per_area (width s)) 0 (take n es)) start in
      ⊎_elim
      (λ l.
      record {
        area = a;
        place = length es - per_area (width s) * a;
        inside = omega arith;
        is = omega arith;
        answer = ap (λ p. concluded (λ t. t) a bytes p (scanned s m n (a + 1))) (begin ∙ ends_inside a (per_area (width s)) 0 (omega arith) (omega arith) l);
      })
      (λ g.
      let next : per_area (width s) * a + per_area (width s) ≡ per_area (width s) * (a + 1) = omega (arith, mul-add (per_area (width s)) a 1) in
      let r = areas n (a + 1) (omega arith) (omega arith) in
      record {
        area = r.area;
        place = r.place;
        inside = r.inside;
        is = r.is;
        answer = ap (λ p. concluded (λ t. t) a bytes p (scanned s m n (a + 1))) (begin ∙ goes_on a (per_area (width s)) 0 (omega arith) g ∙ ap (λ n. full (take n es)) next) ∙ r.answer;
      })
      (cases_lt (length es) (per_area (width s) * a + per_area (width s)))

pub finds_what_it_holds : FindsWhatItHolds
finds_what_it_holds s m es h ok =
    let r = areas s m es h ok 65 0 refl (omega arith) in
    record { area = r.area; place = r.place; inside = r.inside; is = r.is; answer = ap (λ n. scanned s m 65 0 (take n es)) (let none : 0 ≡ per_area (width s) * 0 = omega arith in none) ∙ r.answer }
