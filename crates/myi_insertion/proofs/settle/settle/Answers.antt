use Rattle.std.proofs.Common.{◌≡◌, ℕ, suc, ◌+◌, ◌-◌, ◌≤◌, Bool, not, List, ◌∷◌, ◌++◌, length, get_or, take, drop, refl, sym, ap, subst, ◌∙◌, arith, inl, inr}
use Rattle.std.proofs.lemmas.List.{length-drop, length-take, take_all}
use Rattle.myi_base.specs.Holding.{OthersStay}
use Rattle.myi_base.proofs.CallerLemmas.{told_same, told_then}
use Rattle.myi_keylist.specs.declared.pair.Pair.{Pair}
use Rattle.myi_keypage.specs.Fitting.{used_length}
use Rattle.myi_btree.specs.Nodes.{entries_of}
use Rattle.myi_btree.specs.Walk.{node_with}
use Rattle.myi_btree.specs.Building.{IsWritten}
use Rattle.myi_search.proofs.CallerLemmas.{counts_none, counts_on}
use Rattle.myi_btree.specs.CachedTrees.{node_lent}
use Rattle.myi_insertion.specs.Written.{CanWrite, IsCut, page_node}
use Rattle.myi_insertion.specs.Halves.{UseHalf}
use Rattle.myi_insertion.proofs.KeptLaws.{half_behind, last_page}
use Rattle.myi_insertion.specs.Steps.{Settling}
use Rattle.myi_insertion.proofs.PageLaws.{no_pair}
use Rattle.myi_insertion.proofs.WriteLaws.{can_be_written}
use Rattle.myi_insertion.proofs.SplitLaws.{halved, if_some, if_none, set_aside, behind_it, whole_buffer, sides_more, sides_end, sides_none}
use Rattle.myi_insertion.proofs.CachedSettling.{Writes, settling_start, settling_step, settling_end}
use Rattle.myi_insertion.proofs.settle.settle.Goals as goal

pub rest-init : goal.rest-init
rest-init g c =
    let place = c.args.setup.place in
    let kids : c.deref-children.result.now ≡ c.args.page.now.children.items = c.deref-children.ensures.value in
    record {
      some = c.requires.page.some;
      total = c.len-total.ensures;
      can = subst (λ (cs : List ℕ). CanWrite place.rec_ref c.args.page.now.pairs cs) (sym kids) c.requires.page;
      node = ap not c.is_empty-node.ensures;
      whole = c.requires.whole;
      at_is = c.requires.at;
      buffer = sym c.in_ok-buffer.buffer.ok.0 ∙ c.in_ok-buffer.ensures.len;
      filled = inl (c.new-strip.ensures.places, refl, kids);
      sides = sides_none place.rec_ref c.args.at c.new-strip.result.places.items c.new-strip.result.separators c.new-strip.ensures.places c.new-strip.ensures.separators;
      told = λ m held height xs below stand can.
          let start = settling_start place c.args.cache.now m (g.F.Files.holds c.args.files.now) c.args.room.now c.args.at height xs c.args.page.now.pairs c.args.page.now.children.items below held stand can in
          rw (c.new-strip.ensures.places, c.new-strip.ensures.separators, kids) start;
      others = told_same (g.F.Files.holds c.args.files.now) (g.F.Files.holds c.args.files.now) (OthersStay c.args.cache.now.name) refl (λ m held q other. refl);
      name = refl;
      counted = counts_none c.args.cache.now;
      later = omega arith;
      reads = omega arith;
    }

pub overflow_add-count : goal.overflow_add-count
overflow_add-count g c =
    let cut : IsCut c.args.setup.place (not c.is_empty-node.result) (drop c.rest.start c.args.page.now.pairs) c.in-Some.count = if_some c.in_ok-count.field-0 c.in-Some.count (IsCut c.args.setup.place (not c.is_empty-node.result) (drop c.rest.start c.args.page.now.pairs)) c.in-Some.is c.in_ok-count.ensures.some in
    omega (arith, cut.1, length-drop c.rest.start c.args.page.now.pairs, c.len-total.ensures)

pub put_chunk-requires-clause-page : goal.put_chunk-requires-clause-page
put_chunk-requires-clause-page g c = λ κs lives.
    let i = c.rest.invariant in
    let left : List Pair = drop c.rest.start c.args.page.now.pairs in
    let cut : IsCut c.args.setup.place (not c.is_empty-node.result) left c.in-Some.count = if_some c.in_ok-count.field-0 c.in-Some.count (IsCut c.args.setup.place (not c.is_empty-node.result) left) c.in-Some.is c.in_ok-count.ensures.some in
    (halved c.args.setup.place (not c.is_empty-node.result) left c.rest.children.now c.children_at.result.0.now c.children_at.result.1.now c.in-Some.count c.requires.placed i.can i.node cut c.children_at.ensures.front c.children_at.ensures.back).page

pub overflow_add-start : goal.overflow_add-start
overflow_add-start g c =
    let cut : IsCut c.args.setup.place (not c.is_empty-node.result) (drop c.rest.start c.args.page.now.pairs) c.in-Some.count = if_some c.in_ok-count.field-0 c.in-Some.count (IsCut c.args.setup.place (not c.is_empty-node.result) (drop c.rest.start c.args.page.now.pairs)) c.in-Some.is c.in_ok-count.ensures.some in
    omega (arith, cut.1, length-drop c.rest.start c.args.page.now.pairs, c.len-total.ensures)

pub overflow_add-start-in-Some : goal.overflow_add-start-in-Some
overflow_add-start-in-Some g c =
    let cut : IsCut c.args.setup.place (not c.is_empty-node.result) (drop c.rest.start c.args.page.now.pairs) c.in-Some.count = if_some c.in_ok-count.field-0 c.in-Some.count (IsCut c.args.setup.place (not c.is_empty-node.result) (drop c.rest.start c.args.page.now.pairs)) c.in-Some.is c.in_ok-count.ensures.some in
    omega (arith, cut.1, length-drop c.rest.start c.args.page.now.pairs, c.len-total.ensures)

pub overflow_add-start-in-Some-2 : goal.overflow_add-start-in-Some-2
overflow_add-start-in-Some-2 g c =
    let cut : IsCut c.args.setup.place (not c.is_empty-node.result) (drop c.rest.start c.args.page.now.pairs) c.in-Some.count = if_some c.in_ok-count.field-0 c.in-Some.count (IsCut c.args.setup.place (not c.is_empty-node.result) (drop c.rest.start c.args.page.now.pairs)) c.in-Some.is c.in_ok-count.ensures.some in
    omega (arith, cut.1, length-drop c.rest.start c.args.page.now.pairs, c.len-total.ensures)

pub rest-preserved : goal.rest-preserved
rest-preserved g c =
    let place = c.args.setup.place in
    let i = c.rest.invariant in
    let pairs : List Pair = c.args.page.now.pairs in
    let left : List Pair = drop c.rest.start pairs in
    let n : ℕ = c.in-Some.count in
    let cut : IsCut place (not c.is_empty-node.result) left n = if_some c.in_ok-count.field-0 n (IsCut place (not c.is_empty-node.result) left) c.in-Some.is c.in_ok-count.ensures.some in
    let h = halved place (not c.is_empty-node.result) left c.rest.children.now c.children_at.result.0.now c.children_at.result.1.now n c.requires.placed i.can i.node cut c.children_at.ensures.front c.children_at.ensures.back in
    let s : Pair = get_or pairs (c.rest.start + n) no_pair in
    let rest : List Pair = drop (c.rest.start + (n + 1)) pairs in
    let behind : drop (suc n) left ≡ rest = behind_it pairs c.rest.start n in
    let whole : left ≡ take n left ++ s ∷ rest = set_aside pairs c.rest.start n no_pair cut.1 in
    let len : length (take n left) ≡ n = omega (arith, length-take n left, cut.1) in
    let front : UseHalf place (not c.is_empty-node.result) left (take n left) = if_some c.in_ok-count.field-0 n (λ (k : ℕ). UseHalf place (not c.is_empty-node.result) left (take k left)) c.in-Some.is c.in_ok-count.ensures.front in
    record {
      some = omega (arith, cut.1, length-drop c.rest.start pairs);
      total = i.total;
      can = subst (λ (ps : List Pair). CanWrite place.rec_ref ps c.children_at.result.1.now) behind h.can;
      node = h.flag;
      whole = c.take_page.ensures.whole c.requires.placed.whole i.whole;
      at_is = c.in_ok-at.ensures.place c.requires.placed.whole i.whole;
      buffer = whole_buffer c.put_chunk.new.page c.rest.buffer.items c.rest.buffer.len c.rest.buffer.ok.0 (c.put_chunk.ensures.long ∙ sym i.buffer) ∙ i.buffer;
      filled = inr (half_behind place (not c.is_empty-node.result) c.rest.start pairs (drop (suc n) left) rest behind (if_some c.in_ok-count.field-0 n (λ (k : ℕ). UseHalf place (not c.is_empty-node.result) left (drop (suc k) left)) c.in-Some.is c.in_ok-count.ensures.back));
      sides = sides_more place.rec_ref c.args.at c.rest.at c.in_ok-at.at c.rest.start n c.rest.strip.places.items c.push.new.self.places.items c.rest.strip.separators c.push.new.self.separators pairs c.rest.children.now no_pair i.sides i.at_is i.can cut.1 c.in_ok-push.ensures.places (c.in_ok-push.ensures.separators no_pair);
      told = λ m held height xs below stand can.
          let t = i.told m held height xs below stand can in
          let t2 = subst (λ (ps : List Pair). Settling place c.args.cache.now m (c.args.at ∷ below) c.args.room.now (g.F.Files.holds c.rest.files) c.rest.cache c.rest.room c.rest.at height xs c.rest.strip.places.items c.rest.strip.separators ps c.rest.children.now) whole t in
          rw (c.in_ok-push.ensures.places, c.in_ok-push.ensures.separators no_pair)
          (settling_step place c.args.cache.now m (c.args.at ∷ below) c.args.room.now (g.F.Files.holds c.rest.files) (g.F.Files.holds c.put_chunk.new.files) c.rest.cache c.put_chunk.new.cache c.rest.room c.take_page.new.room c.rest.at c.in_ok-at.at height xs c.rest.strip.places.items c.rest.strip.separators (take n left) s rest c.rest.children.now c.children_at.result.0.now c.children_at.result.1.now
          (let l = c.requires.placed.least in omega arith) can t2 (h.first_is ∙ ap (λ (k : ℕ). take (suc k) c.rest.children.now) (sym len)) (h.others_is ∙ ap (λ (k : ℕ). drop (suc k) c.rest.children.now) (sym len)) c.in_ok-put_chunk.ensures.wrote c.in_ok-at.ensures.taken
          (subst (λ (b : Bool). UseHalf place b (take n left ++ s ∷ rest) (take n left)) h.front_flag (subst (λ (ps : List Pair). UseHalf place (not c.is_empty-node.result) ps (take n left)) whole front)));
      others = told_then (g.F.Files.holds c.args.files.now) (g.F.Files.holds c.rest.files) (g.F.Files.holds c.put_chunk.new.files) _ _ _ i.others c.put_chunk.ensures.others (λ m n k before after q other. after q (λ e. other (e ∙ i.name)) ∙ before q other);
      name = c.put_chunk.ensures.name ∙ i.name;
      counted = counts_on c.args.cache.now c.rest.cache c.put_chunk.new.cache i.counted c.put_chunk.ensures.counted;
      later = omega (arith, i.later, c.put_chunk.ensures.cause.later);
      reads = omega (arith, i.reads, c.put_chunk.ensures.reads);
    }

pub put_chunk-requires-2-clause-page : goal.put_chunk-requires-2-clause-page
put_chunk-requires-2-clause-page g c = λ κs lives.
    let place = c.args.setup.place in
    let i = c.rest.invariant in
    let left : List Pair = drop c.rest.start c.args.page.now.pairs in
    let all : take (c.len-total.result - c.rest.start) left ≡ left = take_all (c.len-total.result - c.rest.start) left (omega (arith, length-drop c.rest.start c.args.page.now.pairs, i.total)) in
    let fits = if_none c.in_ok-count.field-0 (used_length place.rec_ref (not c.is_empty-node.result) (entries_of left) ≤ place.block_length) c.in_default.is c.in_ok-count.ensures.all in
    subst (λ (ps : List Pair). IsWritten place (node_with ps c.rest.children.now)) (sym all) (can_be_written place (not c.is_empty-node.result) left c.rest.children.now c.requires.placed i.can i.node fits)

pub returns-clause-settles : goal.returns-clause-settles
returns-clause-settles g c = λ m held height xs below stand can.
    let place = c.args.setup.place in
    let i = c.rest.invariant in
    let left : List Pair = drop c.rest.start c.args.page.now.pairs in
    let all : take (c.len-total.result - c.rest.start) left ≡ left = take_all (c.len-total.result - c.rest.start) left (omega (arith, length-drop c.rest.start c.args.page.now.pairs, i.total)) in
    let writes = subst (λ (ps : List Pair). Writes place c.rest.cache (g.F.Files.holds c.rest.files) (g.F.Files.holds c.put_chunk-2.new.files) c.put_chunk-2.new.cache c.rest.at (node_with ps c.rest.children.now)) all c.in_ok-put_chunk-2.ensures.wrote in
    settling_end place c.args.cache.now m c.args.at below c.args.room.now (g.F.Files.holds c.rest.files) (g.F.Files.holds c.put_chunk-2.new.files) c.rest.cache c.put_chunk-2.new.cache c.rest.room c.rest.at height xs c.rest.strip.places.items c.rest.strip.separators left c.rest.children.now c.push-2.new.self.items (page_node c.args.page.now)
    (let l = c.requires.placed.least in omega arith) can (i.told m held height xs below stand can) c.in_ok-push-2.ensures.items writes
    (last_page place (node_lent place c.args.cache.now m) height c.args.page.now.pairs c.args.page.now.children.items xs below (not c.is_empty-node.result) c.rest.start c.rest.children.now c.rest.strip.places.items c.push-2.new.self.items c.rest.at c.args.at stand i.filled i.sides.first_is c.in_ok-push-2.ensures.items i.node)

pub returns-clause-shape : goal.returns-clause-shape
returns-clause-shape g c = sides_end c.args.setup.place.rec_ref c.args.at c.rest.at c.rest.strip.places.items c.push-2.new.self.items c.rest.strip.separators c.rest.invariant.sides c.rest.invariant.at_is c.in_ok-push-2.ensures.items
