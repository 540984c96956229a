-- A buffer that was filled holds what was gathered.
use Rattle.std.proofs.Common.{◌≡◌, ℕ, zero, suc, ◌+◌, ◌*◌, ◌/◌, ◌%◌, List, [], ◌∷◌, ◌++◌, length, drop, sym, refl, ap, ◌∙◌, subst, ap₂, append-nil, arith, length-drop}
use Rattle.std.proofs.lemmas.List.{nil_from_length}
use Rattle.device.specs.Disk.{Bytes, Disk, Fate, reads, way, Told, good, refused, Refusal, told_by, after_by}
use Rattle.device.specs.Plans.{Plan, done, ended, run, Runs, one, onward, gathering, spreading, Filled, filling, reading_into, writing_from}
use Rattle.device.proofs.Loops.{reading_whole, writing_whole}
use Rattle.device.proofs.Steps.{never}

-- an answer, with the buffer that a good one filled
abbrev pub handed : Told Refusal (Unit {0}) → Bytes → Told Refusal Bytes
handed (good u) b = good b
handed (refused r) b = refused r

-- the same of what a plan answers
abbrev pub handed_by : Filled → Told Refusal Bytes
handed_by f = handed f.answer f.buffer

ended_as : {f g : Filled} {d e : Disk} → ended g d ≡ ended f e → (t : Told Refusal Bytes) → t ≡ handed_by g → ended t d ≡ ended (handed_by f) e
ended_as {f} {g} {d} {e} h t is = let a : g ≡ f = cc in let b : d ≡ e = cc in ap (λ x. ended x d) is ∙ ap₂ (λ x y. ended (handed_by x) y) a b

over_at : (t : Told Refusal Bytes) (g : Filled) (fs : List Fate) (d : Disk) {f : Filled} {e : Disk} → t ≡ handed_by g → run one (done g) fs d ≡ ended f e → run one (done t) fs d ≡ ended (handed_by f) e
over_at t g [] d is h = ended_as h t is
over_at t g (x ∷ fs) d is h = never h

gathers : (n : ℕ) (s : ℕ) (front rest : Bytes) → length rest ≡ 512 * n → (fs : List Fate) (d : Disk) {f : Filled} {e : Disk} → run one (filling s n front rest) fs d ≡ ended f e → run one (gathering s n front) fs d ≡ ended (handed_by f) e
gathers zero s front rest long fs d h =
    let none : rest ≡ [] = nil_from_length rest (omega arith) in
    over_at (good front) (record { answer = good tt; buffer = front ++ rest }) fs d (ap good (sym (ap (λ r. front ++ r) none ∙ append-nil front))) h
gathers (suc n) s front rest long [] d h = never h
gathers (suc n) s front rest long (x ∷ fs) d {f} {e} h = by (told_by (way (reads 512 s) d x) (reads 512 s) d) fs (after_by (way (reads 512 s) d x) (reads 512 s) d x) (λ b fs d k. gathers n (s + 1) (front ++ b) (drop 512 rest) (simp length-drop (omega arith)) fs d k) h
  where
    by : (t : Told Refusal Bytes) (fs : List Fate) (d : Disk) → ((b : Bytes) (fs : List Fate) (d : Disk) → run one (filling (s + 1) n (front ++ b) (drop 512 rest)) fs d ≡ ended f e → run one (gathering (s + 1) n (front ++ b)) fs d ≡ ended (handed_by f) e) → run one (elim t as (λ _. Plan (Unit {0}) Filled) [ good b ↦ filling (s + 1) n (front ++ b) (drop 512 rest) | refused r ↦ done (record { answer = refused r; buffer = front ++ rest }) ]) fs d ≡ ended f e → run one (onward t (λ b. gathering (s + 1) n (front ++ b))) fs d ≡ ended (handed_by f) e
    by (good b) fs d on h = on b fs d h
    by (refused r) fs d on h = over_at (refused r) (record { answer = refused r; buffer = front ++ rest }) fs d refl h

-- what reading into a buffer of n sectors answers
pub read_gathers : (s : ℕ) (buffer : Bytes) {d e : Disk} {f : Filled} (n : ℕ) → length buffer ≡ 512 * n → Runs one (reading_into s buffer) d f e → Runs one (gathering s n []) d (handed_by f) e
read_gathers s buffer {d} {e} {f} n long r =
    let whole : length buffer % 512 ≡ 0 = omega arith in
    let count : length buffer / 512 ≡ n = omega arith in
    let plan : reading_into s buffer ≡ filling s n [] buffer = reading_whole s buffer whole ∙ ap (λ k. filling s k [] buffer) count in
    record { fates = r.fates; comes = gathers n s [] buffer long r.fates d (subst (λ p. run one p r.fates d ≡ ended f e) plan r.comes) }

-- writing a buffer of n sectors
pub writes_spread : (s : ℕ) (bytes : Bytes) (n : ℕ) → length bytes ≡ 512 * n → writing_from s bytes ≡ spreading s n bytes
writes_spread s bytes n long =
    let whole : length bytes % 512 ≡ 0 = omega arith in
    let count : length bytes / 512 ≡ n = omega arith in
    writing_whole s bytes whole ∙ ap (λ k. spreading s k bytes) count
