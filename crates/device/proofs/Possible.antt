-- The possibilities at some places of a sector's list, and the places of some possibilities.
use Rattle.std.proofs.Common.{◌≡◌, ℕ, zero, suc, ◌⊎◌, List, [], ◌∷◌, ◌++◌, length, get_or, sym, refl, ◌∙◌, subst, ap₂, ⊎_elim}
use lib.ListN.{get_or-eq_default}
use Rattle.std.specs.List.{ContainsAt as Has, AllByRecursion}
use Rattle.std.proofs.ByRecursion.{All-map, all-has, All-weaker, all_has_itself, has_get_or, has_append_left, has_push}
use Rattle.std.proofs.lemmas.Bool.{cases_lt}
use Rattle.device.specs.Disk.{Bytes, Cell, possibilities, at, kept, grown}

pub last_has : (c : Cell) → Has (possibilities c) c.latest
last_has c = has_push c.older c.latest

pub at_has : (c : Cell) (p : ℕ) → Has (possibilities c) (at c p)
at_has c p =
    ⊎_elim
    (λ h. has_append_left c.older (c.latest ∷ []) (at c p) (has_get_or c.older p c.latest h))
    (λ h. subst (Has (possibilities c)) (sym (get_or-eq_default c.older c.latest h)) (last_has c))
    (cases_lt p (length c.older))

-- what is kept was possible
pub kept_has : (c : Cell) (places : List ℕ) (b : Bytes) → Has (kept c places) b → Has (possibilities c) b
kept_has c places b = all-has (Has (possibilities c)) (kept c places) b (All-map (Has (possibilities c)) (at c) places (All-weaker (Has places) (λ p. Has (possibilities c) (at c p)) (λ p _. at_has c p) places (all_has_itself places)))

get_d_push : {X : Type 0} (xs : List X) (d : X) (k : ℕ) → get_or xs k d ≡ get_or (xs ++ d ∷ []) k d
get_d_push [] d zero = refl
get_d_push [] d (suc k) = refl
get_d_push (x ∷ xs) d zero = refl
get_d_push (x ∷ xs) d (suc k) = get_d_push xs d k

-- what is possible has a place
pub place_of : (c : Cell) (b : Bytes) → Has (possibilities c) b → (p : ℕ) × (at c p ≡ b)
place_of c b h = (h.0, get_d_push c.older c.latest h.0 ∙ h.2 c.latest)

places_of_all : (c : Cell) (xs : List Bytes) → AllByRecursion (Has (possibilities c)) xs → (ps : List ℕ) × (kept c ps ≡ xs)
places_of_all c [] h = ([], refl)
places_of_all c (x ∷ xs) h =
    let p = place_of c x h.0 in
    let ps = places_of_all c xs h.1 in
    (p.0 ∷ ps.0, ap₂ (λ y ys. y ∷ ys) p.1 ps.1)

-- and so has each of several
pub places_of : (c : Cell) (xs : List Bytes) → ((b : Bytes) → Has xs b → Has (possibilities c) b) → (ps : List ℕ) × (kept c ps ≡ xs)
places_of c xs h = places_of_all c xs (All-weaker (Has xs) (Has (possibilities c)) h xs (all_has_itself xs))

-- what was possible, or was taken
pub in_grown : (c : Cell) (bytes b : Bytes) → Has (possibilities c) b ⊎ (bytes ≡ b) → Has (possibilities (grown c bytes)) b
in_grown c bytes b = ⊎_elim (has_append_left (possibilities c) (bytes ∷ []) b) (λ is. subst (Has (possibilities (grown c bytes))) is (has_push (possibilities c) bytes))
