-- The calls that keep the rules are those that have a fate.
use Rattle.std.proofs.Common.{◌≡◌, ℕ, ◌<◌, Bool, true, false, cond, eqb, ltb, ◌⊎◌, List, [], ◌∷◌, length, sym, refl, ap, ◌∙◌, subst, inl, inr, ⊎_elim, arith}
use Rattle.std.specs.List.{ContainsAt as Has}
use Rattle.std.proofs.ByRecursion.{has_push_cases, has_append_left}
use Rattle.std.proofs.lemmas.Bool.{eq-eqb, ne_eqb, le-ltb, cond-true, cond-false, cases_eq, cases_lt}
use Rattle.device.specs.Disk.{Bytes, Cell, possibilities, kept, at, thin, grown, torn, Disk, Fate, Op, reads, writes, flushes, place, tests, Way, passes, leaves, refuses, way, carried, broken, Told, Refusal, good, told_by, after_by, Called, calm}
use Rattle.device.specs.Rules.{Keeps, Tears, Left, Lost, Given, Good, Goes, Long, Here, Refuses, Obeys}
use Rattle.device.specs.Ways.{way_here, goes_by}
use Rattle.device.proofs.Possible.{kept_has, at_has, last_has, place_of, places_of, in_grown}

-- THE TESTS

long_or_not : (o : Op) → Long o ⊎ (Long o → ⊥)
long_or_not (reads len s) = cases_eq len 512
long_or_not (writes s bytes) = cases_eq (length bytes) 512
long_or_not flushes = inl tt

on_or_off : (s n : ℕ) → (s < n) ⊎ (s < n → ⊥)
on_or_off s n = ⊎_elim inl (λ ge. inr (λ lt. omega arith)) (cases_lt s n)

here_or_not : (o : Op) (d : Disk) → Here o d ⊎ (Here o d → ⊥)
here_or_not (reads len s) d = on_or_off s d.count
here_or_not (writes s bytes) d = on_or_off s d.count
here_or_not flushes d = inl tt

module _ (d : Disk) (w : Way) where
  tests_length : (o : Op) → (Long o → ⊥) → tests o d w ≡ refuses 1 0
  tests_length (reads len s) h = cond-false (eqb len 512) _ _ (ne_eqb len 512 h)
  tests_length (writes s bytes) h = cond-false (eqb (length bytes) 512) _ _ (ne_eqb (length bytes) 512 h)
  tests_length flushes h = absurd (h tt)

  off_device : (len s : ℕ) → len ≡ 512 → (s < d.count → ⊥) → cond (eqb len 512) (cond (ltb s d.count) w (refuses 2 s)) (refuses 1 0) ≡ refuses 2 s
  off_device len s e h = cond-true (eqb len 512) _ _ (eq-eqb len 512 e) ∙ cond-false (ltb s d.count) _ _ (le-ltb s d.count (omega arith))

  tests_place : (o : Op) → Long o → (Here o d → ⊥) → tests o d w ≡ refuses 2 (place o)
  tests_place (reads len s) e h = off_device len s e h
  tests_place (writes s bytes) e h = off_device (length bytes) s e h
  tests_place flushes e h = absurd (h tt)

  tests_here : (o : Op) → Long o → Here o d → tests o d w ≡ w
  tests_here (reads len s) e h = way_here len s d w e h
  tests_here (writes s bytes) e h = way_here (length bytes) s d w e h
  tests_here flushes e h = refl

-- A FATE KEEPS THE RULES

pub torn_tears : (c : Cell) (bytes : Bytes) (took : Bool) (places : List ℕ) (last : ℕ) → Tears bytes c (torn c bytes took places last)
torn_tears c bytes took places last = record { none_else = λ b h. from_offered took b (in_offered took b h) }
  where
    in_offered : (took : Bool) (b : Bytes) → Has (possibilities (torn c bytes took places last)) b → Has (possibilities (cond took (grown c bytes) c)) b
    in_offered took b h =
        let offered = cond took (grown c bytes) c in
        ⊎_elim (kept_has offered places b) (λ is. subst (Has (possibilities offered)) is (at_has offered last)) (has_push_cases (kept offered places) (at offered last) b h)

    from_offered : (took : Bool) (b : Bytes) → Has (possibilities (cond took (grown c bytes) c)) b → Has (possibilities c) b ⊎ (bytes ≡ b)
    from_offered true b h = has_push_cases (possibilities c) bytes b h
    from_offered false b h = inl h

left_by : (o : Op) (d : Disk) (f : Fate) → Left o d (carried o d f)
left_by (reads len s) d f = record { count = refl; sector = λ u. refl }
left_by (writes s bytes) d f = record {
  count = refl;
  sector = λ u. (
    λ e. record { last = cond-true (eqb u s) _ _ (eq-eqb u s e); none_new = kept_has (d.cells u) (f.keeps u) },
    λ ne. record { last = cond-false (eqb u s) _ _ (ne_eqb u s ne); none_new = kept_has (d.cells u) (f.keeps u) },
  );
}
left_by flushes d f = record { count = refl; sector = λ u. record { last = refl; alone = refl } }

lost_by : (o : Op) (d : Disk) (f : Fate) → Lost o d (broken o d f)
lost_by (reads len s) d f = record { count = refl; sector = λ u. refl }
lost_by (writes s bytes) d f = record {
  count = refl;
  sector = λ u. (
    λ e.
        let there = torn (d.cells s) bytes f.took (f.keeps s) f.last in
        subst (Tears bytes (d.cells u)) (sym (cond-true (eqb u s) _ _ (eq-eqb u s e)))
        (subst (λ v. Tears bytes (d.cells v) there) (sym e) (torn_tears (d.cells s) bytes f.took (f.keeps s) f.last)),
    λ ne. subst (Keeps (d.cells u)) (sym (cond-false (eqb u s) _ _ (ne_eqb u s ne))) (record { last = refl; none_new = kept_has (d.cells u) (f.keeps u) }),
  );
}
lost_by flushes d f = record { count = refl; sector = λ u. record { last = refl; none_new = kept_has (d.cells u) (f.keeps u) } }

gives : (o : Op) (d : Disk) → (b : Bytes) × (told_by passes o d ≡ good b) × Given o d b
gives (reads len s) d = ((d.cells s).latest, refl, refl)
gives (writes s bytes) d = ([], refl, refl)
gives flushes d = ([], refl, refl)

still_on : (o : Op) (d : Disk) (f : Fate) → (carried o d f).on ≡ d.on
still_on (reads len s) d f = refl
still_on (writes s bytes) d f = refl
still_on flushes d f = refl

now_off : (o : Op) (d : Disk) (f : Fate) → (broken o d f).on ≡ false
now_off (reads len s) d f = refl
now_off (writes s bytes) d f = refl
now_off flushes d f = refl

module _ {o : Op} {d : Disk} {t : Told Refusal Bytes} {e : Disk} where
  by_way : (c : Called o d t e) {w : Way} → way o d c.fate ≡ w → (t ≡ told_by w o d) × (e ≡ after_by w o d c.fate)
  by_way c is = (c.answer ∙ ap (λ v. told_by v o d) is, c.after ∙ ap (λ v. after_by v o d c.fate) is)

  good_or_gone : (c : Called o d t e) → Long o → Here o d → d.on ≡ true → Good o d t e ⊎ Goes o d t e
  good_or_gone c long here on = go c.fate.goes refl
    where
      is_on : way o d c.fate ≡ cond c.fate.goes leaves passes
      is_on = tests_here d _ o long here ∙ cond-true d.on _ _ on

      go : (b : Bool) → c.fate.goes ≡ b → Good o d t e ⊎ Goes o d t e
      go false stays =
          let x = by_way c (is_on ∙ ap (λ b. cond b leaves passes) stays) in
          let g = gives o d in
          inl (record { gives = g.0; answer = x.0 ∙ g.1; given = g.2; stays = ap (λ y. y.on) x.1 ∙ still_on o d c.fate ∙ on; left = subst (Left o d) (sym x.1) (left_by o d c.fate) })
      go true goes =
          let x = by_way c (is_on ∙ ap (λ b. cond b leaves passes) goes) in
          inr (record { answer = x.0; gone = ap (λ y. y.on) x.1 ∙ now_off o d c.fate; lost = subst (Lost o d) (sym x.1) (lost_by o d c.fate) })

  pub ruled : Called o d t e → Obeys o d t e
  ruled c = record {
    for_length = λ h. by_way c (tests_length d _ o h);
    for_place = λ long h. by_way c (tests_place d _ o long h);
    for_gone = λ long here off. by_way c (tests_here d _ o long here ∙ cond-false d.on _ _ off);
    otherwise = good_or_gone c;
  }

-- THE RULES LEAVE A FATE

module _ (d e : Disk) where
  -- a good call
  kept_on : (o : Op) → Left o d e → e.on ≡ d.on → (f : Fate) × (f.goes ≡ false) × (e ≡ carried o d f)
  kept_on (reads len s) l on = (calm, refl, (λ i. record { count = l.count i; cells = λ u. l.sector u i; on = on i }))
  kept_on (writes s bytes) l on =
      let ps : (u : ℕ) → (ps : List ℕ) × (kept (d.cells u) ps ≡ (e.cells u).older) =
      λ u. places_of (d.cells u) (e.cells u).older (⊎_elim (λ is. ((l.sector u).0 is).none_new) (λ ne. ((l.sector u).1 ne).none_new) (cases_eq u s)) in
      let latest : (u : ℕ) → (e.cells u).latest ≡ cond (eqb u s) bytes (d.cells u).latest =
      λ u. ⊎_elim (λ is. ((l.sector u).0 is).last ∙ sym (cond-true (eqb u s) _ _ (eq-eqb u s is))) (λ ne. ((l.sector u).1 ne).last ∙ sym (cond-false (eqb u s) _ _ (ne_eqb u s ne))) (cases_eq u s) in (
        record { goes = false; took = false; keeps = λ u. (ps u).0; last = 0 },
        refl,
        (λ i. record { count = l.count i; cells = λ u. record { older = sym (ps u).1 i; latest = latest u i }; on = on i }),
      )
  kept_on flushes l on = (calm, refl, (λ i. record { count = l.count i; cells = λ u. record { older = (l.sector u).alone i; latest = (l.sector u).last i }; on = on i }))

  -- the places that a sector keeps where a write to s was under way: in the list with the bytes at s, and else in its own
  record Piece (s : ℕ) (bytes : Bytes) (u : ℕ) : Type 0 where
    places : List ℕ
    at_s : u ≡ s → kept (grown (d.cells u) bytes) places ≡ (e.cells u).older
    elsewhere : (u ≡ s → ⊥) → kept (d.cells u) places ≡ (e.cells u).older

  piece : (s : ℕ) (bytes : Bytes) → Lost (writes s bytes) d e → (u : ℕ) → Piece s bytes u
  piece s bytes l u =
      ⊎_elim
      (λ is.
      let tears = (l.sector u).0 is in
      let ps = places_of (grown (d.cells u) bytes) (e.cells u).older (λ b h. in_grown (d.cells u) bytes b (tears.none_else b (has_append_left (e.cells u).older ((e.cells u).latest ∷ []) b h))) in
      record { places = ps.0; at_s = λ _. ps.1; elsewhere = λ ne. absurd (ne is) })
      (λ ne.
      let ps = places_of (d.cells u) (e.cells u).older ((l.sector u).1 ne).none_new in
      record { places = ps.0; at_s = λ is. absurd (ne is); elsewhere = λ _. ps.1 })
      (cases_eq u s)

  -- a call inside which the device goes
  gone_off : (o : Op) → Lost o d e → e.on ≡ false → (f : Fate) × (f.goes ≡ true) × (e ≡ broken o d f)
  gone_off (reads len s) l off = (record { goes = true; took = false; keeps = λ _. []; last = 0 }, refl, (λ i. record { count = l.count i; cells = λ u. l.sector u i; on = off i }))
  gone_off (writes s bytes) l off =
      let pieces = piece s bytes l in
      let offered = grown (d.cells s) bytes in
      let last = place_of offered (e.cells s).latest (in_grown (d.cells s) bytes _ (((l.sector s).0 refl).none_else (e.cells s).latest (last_has (e.cells s)))) in
      let f : Fate = record { goes = true; took = true; keeps = λ u. (pieces u).places; last = last.0 } in
      let there : e.cells s ≡ torn (d.cells s) bytes true (f.keeps s) f.last = λ i. record { older = sym ((pieces s).at_s refl) i; latest = sym last.1 i } in
      let else : (u : ℕ) → (u ≡ s → ⊥) → e.cells u ≡ thin (d.cells u) (f.keeps u) = λ u ne i. record { older = sym ((pieces u).elsewhere ne) i; latest = ((l.sector u).1 ne).last i } in
      let cell : (u : ℕ) → e.cells u ≡ cond (eqb u s) (torn (d.cells s) bytes true (f.keeps s) f.last) (thin (d.cells u) (f.keeps u)) =
      λ u. ⊎_elim (λ is. ap e.cells is ∙ there ∙ sym (cond-true (eqb u s) _ _ (eq-eqb u s is))) (λ ne. else u ne ∙ sym (cond-false (eqb u s) _ _ (ne_eqb u s ne))) (cases_eq u s) in
      (f, refl, (λ i. record { count = l.count i; cells = λ u. cell u i; on = off i }))
  gone_off flushes l off =
      let ps : (u : ℕ) → (ps : List ℕ) × (kept (d.cells u) ps ≡ (e.cells u).older) = λ u. places_of (d.cells u) (e.cells u).older (l.sector u).none_new in (
        record { goes = true; took = false; keeps = λ u. (ps u).0; last = 0 },
        refl,
        (λ i. record { count = l.count i; cells = λ u. record { older = sym (ps u).1 i; latest = (l.sector u).last i }; on = off i }),
      )

given_is : (o : Op) (d : Disk) (b : Bytes) → Given o d b → good b ≡ told_by passes o d
given_is (reads len s) d b h = ap good h
given_is (writes s bytes) d b h = ap good h
given_is flushes d b h = ap good h

module _ {o : Op} {d : Disk} {t : Told Refusal Bytes} {e : Disk} where
  refused_way : (n p : ℕ) → way o d calm ≡ refuses n p → Refuses n p d t e → Called o d t e
  refused_way n p is r = goes_by calm (refuses n p) is r.0 r.1

  pub fated : Obeys o d t e → Called o d t e
  fated r = ⊎_elim (λ long. ⊎_elim (here long) (λ h. refused_way 2 (place o) (tests_place d _ o long h) (r.for_place long h)) (here_or_not o d)) (λ h. refused_way 1 0 (tests_length d _ o h) (r.for_length h)) (long_or_not o)
    where
      here : Long o → Here o d → Called o d t e
      here long at = go d.on refl
        where
          way_on : (f : Fate) → d.on ≡ true → way o d f ≡ cond f.goes leaves passes
          way_on f on = tests_here d _ o long at ∙ cond-true d.on _ _ on

          was_good : d.on ≡ true → Good o d t e → Called o d t e
          was_good on g =
              let x = kept_on d e o g.left (g.stays ∙ sym on) in
              goes_by x.0 passes (way_on x.0 on ∙ cond-false x.0.goes _ _ x.1) (g.answer ∙ given_is o d g.gives g.given) x.2

          went : d.on ≡ true → Goes o d t e → Called o d t e
          went on g =
              let x = gone_off d e o g.lost g.gone in
              goes_by x.0 leaves (way_on x.0 on ∙ cond-true x.0.goes _ _ x.1) g.answer x.2

          go : (b : Bool) → d.on ≡ b → Called o d t e
          go true on = ⊎_elim (was_good on) (went on) (r.otherwise long at on)
          go false off = refused_way 3 (place o) (tests_here d _ o long at ∙ cond-false d.on _ _ off) (r.for_gone long at off)
