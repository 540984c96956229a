use Rattle.std.proofs.Common.{◌*◌, take, drop, ◌∙◌}
use Rattle.std.proofs.lemmas.List.{length_push}
use Rattle.std.proofs.lemmas.Iterator.Consumers.{YieldsList-turn, YieldsList-end}
use Rattle.layout.proofs.Areas.{numbered, entries_more, entries_all}
use Rattle.layout.proofs.area.picture.Goals as goal

pub loop-k-preserved : goal.loop-k-preserved
loop-k-preserved c =
    let items = numbered c.args.es.now (32 * c.args.j) 32 _ _ c.get.ensures.lookup c.unwrap_or_default-rest.ensures (cc) (cc) cc in
    let turn = YieldsList-turn items c.loop-k.yielded _ c.loop-k.yielded_by _ _ (c.in-Some.k, c.in-Some.e) c.in-Some.is c.next.ensures.steps in
    entries_more (take 32 (drop (32 * c.args.j) c.args.es.now)) _ _ c.in-Some.k c.in-Some.e.now turn (length_push c.loop-k.yielded _) c.loop-k.invariant (c.copy_from_slice.ensures.after ∙ c.to_bytes.ensures)

pub returns : goal.returns
returns c =
    let items = numbered c.args.es.now (32 * c.args.j) 32 _ _ c.get.ensures.lookup c.unwrap_or_default-rest.ensures (cc) (cc) cc in
    let end = YieldsList-end items c.loop-k.yielded _ c.loop-k.yielded_by _ _ c.in-None.is c.next.ensures.steps in
    entries_all (take 32 (drop (32 * c.args.j) c.args.es.now)) _ end.1 c.loop-k.invariant
