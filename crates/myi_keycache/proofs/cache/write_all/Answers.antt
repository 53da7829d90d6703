use Rattle.std.proofs.Common.{◌≡◌, ◌<◌, ℕ, Err, length, refl, sym, ap, subst, ◌∙◌, arith}
use Rattle.std.specs.Prelude.{is_some}
use Rattle.std.proofs.lemmas.Result.{err_from_is_err_and}
use Rattle.std.proofs.lemmas.List.{length-map}
use Rattle.std.proofs.lemmas.Option.{slice_get_read}
use Rattle.myi_keycache.specs.declared.blocks.PageName.{PageName}
use Rattle.myi_keycache.specs.declared.setup.CacheFault.{CacheFault}
use Rattle.myi_keycache.specs.declared.setup.Counters.{Counters}
use Rattle.myi_keycache.specs.Kept.{unwritten_count}
use Rattle.myi_keycache.specs.Order.{Order, contents_of}
use Rattle.myi_keycache.proofs.OrderLemmas.{split}
use Rattle.myi_keycache.proofs.HitLemmas.{index_within}
use Rattle.myi_keycache.proofs.NameLemmas.{place_in, indexed, indexed_all, indexed_at, indexed_sorted, name_placed}
use Rattle.myi_keycache.proofs.CacheLemmas.{stay_same, stay_then, nothing_only, only_then}
use Rattle.myi_keycache.proofs.FlushLemmas.{writing_start, writing_next, writing_done, writing_stops, one_written, one_fewer, still_written, OneWritten}
use Rattle.myi_keycache.proofs.TurnLemmas.{turning_start, turning_next, turning_next_page, flush_done, flush_stopped, flush_refused, not_counted}
use Rattle.myi_keycache.proofs.cache.write_all.Goals as goal

pub loop-i-init : goal.loop-i-init
loop-i-init g c = record {
  stay = stay_same c.args.blocks.now;
  writes = nothing_only _ _ c.args.name.now c.args.blocks.now c.args.counters.now c.requires.writes refl;
  writing = writing_start c.args.blocks.now (indexed c.args.blocks.now.pages c.in_ok-found.found.items) (indexed_all c.args.blocks.now.pages c.in_ok-found.found.items c.in_ok-found.ensures.ordered.differ c.in_ok-found.ensures.all);
  turning = turning_start _ c.args.name.now c.args.blocks.now c.args.counters.now (indexed c.args.blocks.now.pages c.in_ok-found.found.items) (indexed_all c.args.blocks.now.pages c.in_ok-found.found.items c.in_ok-found.ensures.ordered.differ c.in_ok-found.ensures.all) c.requires.writes;
  quiet = λ all. refl;
  small = c.requires.writes;
  faults = omega arith;
  reads = refl;
}

pub write_page-requires-clause-kept : goal.write_page-requires-clause-kept
write_page-requires-clause-kept g c κs inside =
    let within : c.loop-i.i < length c.in_ok-found.found.items = omega (arith, c.loop-i-test.true, c.len-i-end.ensures, c.in_ok-found.found.ok.0) in
    let lt : c.loop-i.i < length (indexed c.args.blocks.now.pages c.in_ok-found.found.items) = omega (arith, within, length-map {B = ℕ × ℕ} c.in_ok-found.found.items (λ (n : PageName). (n.at, place_in c.args.blocks.now.pages n))) in
    let at = slice_get_read c.in_ok-found.found.items (length c.in_ok-found.found.items) c.loop-i.i c.index.result.now refl within c.index.ensures in
    let place = c.loop-i.invariant.stay.named c.index.result.now.at c.index.result.now.size ∙ name_placed c.args.blocks.now.pages c.in_ok-found.found.items c.loop-i.i c.index.result.now c.in_ok-found.ensures.ordered.differ c.in_ok-found.ensures.all at in
    ap is_some place

pub loop-i-preserved : goal.loop-i-preserved
loop-i-preserved g c =
    let within : c.loop-i.i < length c.in_ok-found.found.items = omega (arith, c.loop-i-test.true, c.len-i-end.ensures, c.in_ok-found.found.ok.0) in
    let lt : c.loop-i.i < length (indexed c.args.blocks.now.pages c.in_ok-found.found.items) = omega (arith, within, length-map {B = ℕ × ℕ} c.in_ok-found.found.items (λ (n : PageName). (n.at, place_in c.args.blocks.now.pages n))) in
    let at = slice_get_read c.in_ok-found.found.items (length c.in_ok-found.found.items) c.loop-i.i c.index.result.now refl within c.index.ensures in
    let got = indexed_at c.args.blocks.now.pages c.in_ok-found.found.items c.loop-i.i c.index.result.now at in
    let place = c.loop-i.invariant.stay.named c.index.result.now.at c.index.result.now.size ∙ name_placed c.args.blocks.now.pages c.in_ok-found.found.items c.loop-i.i c.index.result.now c.in_ok-found.ensures.ordered.differ c.in_ok-found.ensures.all at in
    let k : ℕ = place_in c.args.blocks.now.pages c.index.result.now in
    let h = c.in_ok-write_page.ensures in
    let s = split c.loop-i.blocks.pages k (index_within c.index.result.now.at c.index.result.now.size c.loop-i.blocks.pages k place) in
    let one = one_written c.loop-i.blocks c.write_page.new.blocks k s (h.ok k place s) in
    let i = c.loop-i.invariant in
    let counted = ap (λ (k : Counters). k.writes) h.writes.counters in
    record {
      stay = stay_then _ _ _ i.stay h.stay;
      writes = only_then _ _ _ c.args.name.now c.args.blocks.now c.loop-i.blocks c.write_page.new.blocks _ _ _ i.writing.fewer (one_fewer _ _ _ one) (λ all p n u. all p n (i.stay.unwritten p n u)) i.writes h.writes;
      writing = writing_next c.args.blocks.now c.loop-i.blocks c.write_page.new.blocks (indexed c.args.blocks.now.pages c.in_ok-found.found.items) c.loop-i.i lt i.writing (subst (λ (f : ℕ × ℕ). OneWritten (contents_of c.loop-i.blocks.pages) (contents_of c.write_page.new.blocks.pages) f.1) (sym got) one);
      turning = turning_next _ _ _ c.args.name.now c.args.blocks.now c.loop-i.blocks c.write_page.new.blocks c.args.counters.now c.loop-i.counters c.write_page.new.counters (indexed c.args.blocks.now.pages c.in_ok-found.found.items) c.loop-i.i (c.index.result.now.at, k) _ lt got i.turning one (h.one k place) (h.counted k place);
      quiet = λ all. absurd (all _ _ (turning_next_page _ _ c.args.name.now c.args.blocks.now c.loop-i.blocks c.args.counters.now c.loop-i.counters (indexed c.args.blocks.now.pages c.in_ok-found.found.items) c.loop-i.i lt i.turning).was);
      small = omega (arith, counted);
      faults = omega (arith, i.faults, h.cause.later);
      reads = h.reads ∙ i.reads;
    }

pub returns-in_err-write_page-clause-in_order : goal.returns-in_err-write_page-clause-in_order
returns-in_err-write_page-clause-in_order g c =
    let within : c.loop-i.i < length c.in_ok-found.found.items = omega (arith, c.loop-i-test.true, c.len-i-end.ensures, c.in_ok-found.found.ok.0) in
    let lt : c.loop-i.i < length (indexed c.args.blocks.now.pages c.in_ok-found.found.items) = omega (arith, within, length-map {B = ℕ × ℕ} c.in_ok-found.found.items (λ (n : PageName). (n.at, place_in c.args.blocks.now.pages n))) in
    let fault : CacheFault = c.in_err-write_page.field-0.0 in
    let e = err_from_is_err_and c.from_residual-in_err-write_page.result c.from_residual-in_err-write_page.ensures.1 in
    let same : c.from_residual-in_err-write_page.result ≡ Err fault = e.1 ∙ ap Err e.2 in
    rw same (writing_stops c.args.blocks.now c.write_page.new.blocks (indexed c.args.blocks.now.pages c.in_ok-found.found.items) c.loop-i.i lt (indexed_sorted c.args.blocks.now.pages c.in_ok-found.found.items c.in_ok-found.ensures.sorted)
    (still_written c.args.blocks.now c.loop-i.blocks c.write_page.new.blocks (indexed c.args.blocks.now.pages c.in_ok-found.found.items) c.loop-i.i c.in_err-write_page.ensures.err c.loop-i.invariant.writing))

pub returns-in_err-write_page-clause-writes : goal.returns-in_err-write_page-clause-writes
returns-in_err-write_page-clause-writes g c =
    let i = c.loop-i.invariant in
    let h = c.in_err-write_page.ensures in
    let k = ap (λ (o : Order). unwritten_count (contents_of o.pages)) h.err in
    only_then _ _ _ c.args.name.now c.args.blocks.now c.loop-i.blocks c.write_page.new.blocks _ _ _ i.writing.fewer (omega (arith, k)) (λ all p n u. all p n (i.stay.unwritten p n u)) i.writes h.writes

pub returns-clause-written : goal.returns-clause-written
returns-clause-written g c = writing_done c.args.blocks.now c.loop-i.blocks (indexed c.args.blocks.now.pages c.in_ok-found.found.items) c.loop-i.i (omega (arith, c.loop-i-test.false, c.len-i-end.ensures, c.in_ok-found.found.ok.0, length-map {B = ℕ × ℕ} c.in_ok-found.found.items (λ (n : PageName). (n.at, place_in c.args.blocks.now.pages n)))) c.loop-i.invariant.writing

pub returns-in_err-found-clause-turns : goal.returns-in_err-found-clause-turns
returns-in_err-found-clause-turns g c =
    let e = err_from_is_err_and c.from_residual.result c.from_residual.ensures.1 in
    rw e.1 (flush_refused _ c.args.name.now c.args.blocks.now c.args.counters.now e.0 c.requires.writes)

pub returns-in_err-write_page-clause-turns : goal.returns-in_err-write_page-clause-turns
returns-in_err-write_page-clause-turns g c =
    let within : c.loop-i.i < length c.in_ok-found.found.items = omega (arith, c.loop-i-test.true, c.len-i-end.ensures, c.in_ok-found.found.ok.0) in
    let lt : c.loop-i.i < length (indexed c.args.blocks.now.pages c.in_ok-found.found.items) = omega (arith, within, length-map {B = ℕ × ℕ} c.in_ok-found.found.items (λ (n : PageName). (n.at, place_in c.args.blocks.now.pages n))) in
    let at = slice_get_read c.in_ok-found.found.items (length c.in_ok-found.found.items) c.loop-i.i c.index.result.now refl within c.index.ensures in
    let got = indexed_at c.args.blocks.now.pages c.in_ok-found.found.items c.loop-i.i c.index.result.now at in
    let place = c.loop-i.invariant.stay.named c.index.result.now.at c.index.result.now.size ∙ name_placed c.args.blocks.now.pages c.in_ok-found.found.items c.loop-i.i c.index.result.now c.in_ok-found.ensures.ordered.differ c.in_ok-found.ensures.all at in
    let fault : CacheFault = c.in_err-write_page.field-0.0 in
    let e = err_from_is_err_and c.from_residual-in_err-write_page.result c.from_residual-in_err-write_page.ensures.1 in
    let same : c.from_residual-in_err-write_page.result ≡ Err fault = e.1 ∙ ap Err e.2 in
    let h = c.in_err-write_page.ensures in
    let i = c.loop-i.invariant in
    let counted = not_counted c.args.name.now c.loop-i.blocks c.write_page.new.blocks c.loop-i.counters c.write_page.new.counters h.err i.small h.writes.counters in
    rw same (flush_stopped _ _ _ c.args.name.now c.args.blocks.now c.loop-i.blocks c.write_page.new.blocks c.args.counters.now c.loop-i.counters c.write_page.new.counters (indexed c.args.blocks.now.pages c.in_ok-found.found.items) c.loop-i.i (c.index.result.now.at, place_in c.args.blocks.now.pages c.index.result.now) fault lt got (indexed_all c.args.blocks.now.pages c.in_ok-found.found.items c.in_ok-found.ensures.ordered.differ c.in_ok-found.ensures.all) (indexed_sorted c.args.blocks.now.pages c.in_ok-found.found.items c.in_ok-found.ensures.sorted) i.writing.covers i.turning h.err counted (h.one (place_in c.args.blocks.now.pages c.index.result.now) place))

pub returns-in_err-write_page-clause-quiet : goal.returns-in_err-write_page-clause-quiet
returns-in_err-write_page-clause-quiet g c all =
    let within : c.loop-i.i < length c.in_ok-found.found.items = omega (arith, c.loop-i-test.true, c.len-i-end.ensures, c.in_ok-found.found.ok.0) in
    let lt : c.loop-i.i < length (indexed c.args.blocks.now.pages c.in_ok-found.found.items) = omega (arith, within, length-map {B = ℕ × ℕ} c.in_ok-found.found.items (λ (n : PageName). (n.at, place_in c.args.blocks.now.pages n))) in
    absurd (all _ _ (turning_next_page _ _ c.args.name.now c.args.blocks.now c.loop-i.blocks c.args.counters.now c.loop-i.counters (indexed c.args.blocks.now.pages c.in_ok-found.found.items) c.loop-i.i lt c.loop-i.invariant.turning).was)

pub returns-clause-turns : goal.returns-clause-turns
returns-clause-turns g c =
    flush_done _ _ c.args.name.now c.args.blocks.now c.loop-i.blocks c.args.counters.now c.loop-i.counters (indexed c.args.blocks.now.pages c.in_ok-found.found.items) c.loop-i.i tt (omega (arith, c.loop-i-test.false, c.len-i-end.ensures, c.in_ok-found.found.ok.0, length-map {B = ℕ × ℕ} c.in_ok-found.found.items (λ (n : PageName). (n.at, place_in c.args.blocks.now.pages n)))) (indexed_all c.args.blocks.now.pages c.in_ok-found.found.items c.in_ok-found.ensures.ordered.differ c.in_ok-found.ensures.all) (indexed_sorted c.args.blocks.now.pages c.in_ok-found.found.items c.in_ok-found.ensures.sorted) c.loop-i.invariant.writing.covers c.loop-i.invariant.turning
