-- A power cut, and a pair put together anew.
use Rattle.std.proofs.Common.{◌≡◌, ℕ, ◌^◌, ◌<◌, true, false, cond, [], ◌∷◌, None, sym, refl, ap, ◌∙◌, subst, inl, inr, ⊎_elim}
use Rattle.std.specs.List.{ContainsAt as Has}
use Rattle.std.proofs.ByRecursion.{has_push}
use Rattle.std.proofs.lemmas.Bool.{cases_Bool, and_from, cond-true, cond-false}
use Rattle.device.specs.Disk.{Bytes, Disk, possibilities, Whole, Cut}
use Rattle.device.specs.Plans.{Disks}
use Rattle.device.proofs.Possible.{last_has}
use Rattle.recovery.specs.Breaks.{Sure}
use Rattle.recovery.specs.Readings.{image}
use Rattle.history.specs.Steps.{plain}
use Rattle.history.specs.History.{Situation, PowerCut, Rejoined}
use Rattle.history.specs.Machine.{Plain, Machine, only, diverged_at, table_of, cut_short, fresh, reads_at, Pinned, Cuts, Agrees}
use Rattle.history.proofs.Invariant.{Covers, Wholes, CutBoth, On, Off, Inv, covers_fewer, cut_fewer, single_is, image_chosen, Shares}
use Rattle.history.proofs.Spots.{no_copy, a_copy, reads_origin, reads_copy}

-- each sector of the view as it reads once reopened; of a void view, something that is possible
abbrev left_view : Plain → Disks → ℕ → Bytes
left_view p e s = cond p.void (cond (diverged_at p s) (p.view s).latest (image e.origin s)) (reads_at e p.chunk (table_of p) s)

-- the machine's disks as a power cut leaves them
abbrev left_plain : Plain → Disks → Plain
left_plain p e = record {
  size = p.size;
  chunk = p.chunk;
  origin = λ s. only (image e.origin s);
  view = λ s. only (left_view p e s);
  diverged = p.diverged;
  void = p.void;
}

module _ (p : Plain) (d e : Disks) (cut : CutBoth d e) (c : Covers p e) where
  view_here : p.void ≡ false → (s : ℕ) → left_view p e s ≡ reads_at e p.chunk (table_of p) s
  view_here v s = cond-false p.void _ _ v

  view_void : p.void ≡ true → (s : ℕ) → left_view p e s ≡ cond (diverged_at p s) (p.view s).latest (image e.origin s)
  view_void v s = cond-true p.void _ _ v

  -- the choice is one that the machine allows
  view_in : (s : ℕ) → s < p.size.origin → diverged_at p s ≡ true → Has (possibilities (p.view s)) (left_view p e s)
  view_in s l div =
      ⊎_elim
      (λ v. subst (Has (possibilities (p.view s))) (sym (view_void v s ∙ cond-true (diverged_at p s) _ _ div)) (last_has (p.view s)))
      (λ v.
      let k = a_copy p s div in
      subst (Has (possibilities (p.view s))) (sym (view_here v s ∙ reads_copy p s e k.0 k.1)) ((c.valid v).copies s k.0 _ l k.1 (last_has (e.cow.cells _))))
      (cases_Bool p.void)

  view_out : (s : ℕ) → diverged_at p s ≡ false → left_view p e s ≡ image e.origin s
  view_out s div =
      ⊎_elim
      (λ v. view_void v s ∙ cond-false (diverged_at p s) _ _ div)
      (λ v. view_here v s ∙ reads_origin p s e (no_copy p s div))
      (cases_Bool p.void)

  pub left_pinned : Pinned p (left_plain p e)
  left_pinned = record {
    same_size = refl;
    same_chunk = refl;
    same_diverged = refl;
    same_void = refl;
    origin_single = λ s. refl;
    view_single = λ s. refl;
    origin_one_of = λ s l. c.origin s _ l (last_has (e.origin.cells s));
    view_diverged = view_in;
    view_shared = λ s l div. ap only (view_out s div);
  }

  pub left_covers : Covers (left_plain p e) e
  left_covers = record {
    sectors = c.sectors;
    origin = λ s b l has. subst (Has ((only (image e.origin s)).latest ∷ [])) (single_is (cut.origin.single s) has) (has_push [] _);
    shared = λ v s l div. ap only (view_out s div);
    valid = λ v.
        let k = c.valid v in
        record {
          listed = k.listed;
          lists = k.lists;
          copies = λ s x b l is has. subst (Has (left_view p e s ∷ [])) (view_here v s ∙ reads_copy p s e x is ∙ single_is (cut.cow.single _) has) (has_push [] _);
        };
    spoiled = c.spoiled;
  }

  pub left_agrees : Agrees (left_plain p e) e
  left_agrees = record {
    on = and_from _ _ cut.origin.runs cut.cow.runs;
    sectors = c.sectors;
    origin = λ s l. refl;
    opens = λ v. ap (λ z. Rattle.recovery.specs.Readings.found z (image e.cow)) c.sectors ∙ ((c.valid v).lists (image e.cow) (image_chosen e.cow)).finds;
    view = λ v s l. sym (view_here v s);
    spoiled = λ v. ap (λ z. Rattle.recovery.specs.Readings.found z (image e.cow)) c.sectors ∙ c.spoiled v (image e.cow) (image_chosen e.cow);
  }

-- a power cut leaves a whole device whole, with one possibility a sector
cut_whole : {d e : Disk} → Cut d e → Whole d → Whole e
cut_whole {d} {e} c w = record {
  some = subst (λ n. 0 < n) (sym c.same_count) w.some;
  few = subst (λ n. n < 2 ^ 32) (sym c.same_count) w.few;
  long = λ s b l has. w.long s b (subst (λ n. s < n) c.same_count l) ((cut_fewer c).possible s b has);
}

cut_sure : {d e : Disk} → Cut d e → Whole d → Sure e
cut_sure {d} {e} c w = record { single = c.single; long = λ s l. (cut_whole c w).long s _ l (last_has (e.cells s)) }

-- the machine after a power cut
abbrev after_cut : Plain → Disks → Machine
after_cut p e = record { plain = left_plain p e; opened = false; mode = plain; pending = None }

module _ (m : Machine) (w after : Situation) (cut : PowerCut w after) where
  both_cut : CutBoth w.disks after.disks
  both_cut = record { origin = cut.origin; cow = cut.cow }

  come : (p : Plain) → Has (cut_short m.plain m.pending) p → Wholes w.disks → Covers p after.disks → (e : Machine) × (x : Cuts m e) × On e after × Shares x.came
  come p among whole c = (
    after_cut p after.disks,
    record { came = p; among = among; pinned = left_pinned p w.disks after.disks both_cut c; fresh_pair = refl },
    record {
      idle = refl;
      mode = ap (λ y. y.mode) cut.fresh;
      memory = ap (λ y. y.memory) cut.fresh;
      whole = record { origin = cut_whole cut.origin whole.origin; cow = cut_whole cut.cow whole.cow };
      agrees = left_agrees p w.disks after.disks both_cut c;
      covers = left_covers p w.disks after.disks both_cut c;
      ready = λ v. inr (refl, cut_sure cut.cow whole.cow);
    },
    λ s v l div. c.shared v s l div,
  )

  pub cut_step : Inv m w → (e : Machine) × (x : Cuts m e) × On e after × Shares x.came
  cut_step (inl on) =
      come m.plain (subst (λ o. Has (cut_short m.plain o) m.plain) (sym on.idle) (has_push [] m.plain)) on.whole
      (covers_fewer on.covers (cut_fewer cut.origin) (cut_fewer cut.cow))
  cut_step (inr off) = let x = off.survives after.disks both_cut in come x.0 x.1 off.whole x.2

-- a pair put together anew
pub again : (m : Machine) (w after : Situation) → Inv m w → Rejoined w after → Inv (fresh m) after
again m w after (inl on) is = inl (subst (On (fresh m)) (sym is) (record {
  idle = on.idle;
  mode = refl;
  memory = refl;
  whole = on.whole;
  agrees = on.agrees;
  covers = on.covers;
  ready = λ v. ⊎_elim inl (λ x. inr (refl, x.1)) (on.ready v);
}))
again m w after (inr off) is = inr (subst (Off (fresh m)) (sym is) (record {
  call = off.call;
  waits = off.waits;
  mode = refl;
  whole = off.whole;
  sectors = off.sectors;
  gone = off.gone;
  survives = off.survives;
}))
