use Rattle.std.proofs.Common.{◌≡◌, ℕ, ◌+◌, ◌-◌, ◌<◌, List, [], length, take, inl, sym, subst, ◌∙◌, arith}
use Rattle.std.proofs.lemmas.Bool.{eqb-true, eqb-false}
use Rattle.std.proofs.lemmas.Result.{err_from_is_err_and}
use Rattle.myi_keylist.specs.declared.pair.Pair.{Pair}
use Rattle.myi_btree.specs.CachedTrees.{node_lent}
use Rattle.myi_insertion.specs.Written.{page_node}
use Rattle.myi_insertion.proofs.LoadLaws.{got, can_get, if_err, others_on, cause_on, cause_ok}
use Rattle.myi_btree.specs.declared.fault.TreeFault.TheVariants.{File}
use Rattle.myi_search.proofs.CallerLemmas.{counts_on}
use Rattle.myi_insertion.proofs.PageLaws.{no_pair}
use Rattle.myi_insertion.proofs.SplitLaws.{nil_of}
use Rattle.myi_insertion.proofs.PuttingLaws.{in_root, no_root, child_is}
use Rattle.myi_insertion.proofs.RemovalLaws.{TakesLast, NeverLast, last_of_leaf, last_of_node, leaf_holds, one_holds, never_last_below, never_last_closes}
use Rattle.myi_insertion.specs.Damage.{goes_last, AreNeighbours}
use Rattle.myi_insertion.proofs.DamageLaws.{can_ask, goes_by_all, halts_behind_all, goes_into, lacks_here, beside_here, near_up}
use Rattle.myi_insertion.proofs.removal.+without_last.Goals as goal

pub returns-in_err-page-clause-never : goal.returns-in_err-page-clause-never
returns-in_err-page-clause-never g t c =
    let place = c.args.setup.place in
    let e = err_from_is_err_and c.from_residual.result c.from_residual.ensures.1 in
    if_err c.from_residual.result e.0 _ e.1
    (λ p d m held h w walk can. no_root (node_lent place c.args.cache.now m) h c.args.at w walk
    ((c.in_err-page.ensures.damaged p (sym e.2 ∙ d)).1 m held (can_get place c.args.cache.now m w.pages c.args.room.now c.args.at can (in_root (node_lent place c.args.cache.now m) h c.args.at w walk))))

pub returns-then-is_empty-clause-opened : goal.returns-then-is_empty-clause-opened
returns-then-is_empty-clause-opened g t c =
    let place = c.args.setup.place in
    let ps : List Pair = c.in_ok-page.page.pairs in
    let cs : List ℕ = c.in_ok-page.page.children.items in
    let none : cs ≡ [] = nil_of cs (sym c.in_ok-page.page.children.ok.0 ∙ eqb-true _ _ (sym c.is_empty.ensures ∙ c.if-is_empty.true)) in
    let i : ℕ = c.len-count.result - 1 in
    let n : i + 1 ≡ length ps = omega (arith, c.len-count.ensures, c.in_ok-page.ensures.written.some) in
    last_of_leaf place c.args.cache.now (g.F.Files.holds c.args.files.now) (g.F.Files.holds c.load.new.files) c.load.new.cache c.args.at i ps c.in_ok-left.left.pairs cs c.in_ok-left.left.children.items c.in_ok-last.last c.args.room.now
    (let l = c.requires.placed.least in omega arith)
    (λ m held pages room can here. got place c.args.cache.now m pages room (g.F.Files.holds c.args.files.now) (g.F.Files.holds c.load.new.files) c.load.new.cache c.args.at (page_node c.in_ok-page.page) c.requires.placed held c.in_ok-page.ensures.node c.load.ensures.stays c.load.ensures.added c.load.ensures.others c.load.ensures.name can here)
    c.in_ok-page.ensures.written.branches none n (c.in_ok-last.ensures no_pair) c.in_ok-left.ensures.pairs c.in_ok-left.ensures.children

pub returns-then-is_empty-clause-shape : goal.returns-then-is_empty-clause-shape
returns-then-is_empty-clause-shape g t c =
    leaf_holds c.args.setup.place.rec_ref (c.len-count.result - 1) c.in_ok-page.page.pairs c.in_ok-left.left.pairs c.in_ok-page.page.children.items c.in_ok-left.left.children.items c.in_ok-page.ensures.written c.in_ok-left.ensures.pairs c.in_ok-left.ensures.children

pub returns-then-is_empty-clause-one : goal.returns-then-is_empty-clause-one
returns-then-is_empty-clause-one g t c =
    one_holds c.args.setup.place.rec_ref (c.len-count.result - 1) c.in_ok-page.page.pairs c.in_ok-page.page.children.items c.in_ok-last.last c.in_ok-page.ensures.written (omega (arith, c.len-count.ensures, c.in_ok-page.ensures.written.some)) (c.in_ok-last.ensures no_pair)

pub returns-in_err-inner-clause-never : goal.returns-in_err-inner-clause-never
returns-in_err-inner-clause-never g t c =
    let place = c.args.setup.place in
    let ps : List Pair = c.in_ok-page.page.pairs in
    let cs : List ℕ = c.in_ok-page.page.children.items in
    let i : ℕ = c.len-count.result in
    let some : 0 < length cs = let ne = eqb-false _ _ (sym c.is_empty.ensures ∙ c.if-is_empty.false) in omega (arith, ne, c.in_ok-page.page.children.ok.0) in
    let e = err_from_is_err_and c.from_residual-in_err-inner.result c.from_residual-in_err-inner.ensures.1 in
    if_err c.from_residual-in_err-inner.result e.0 _ e.1
    (λ p d. never_last_below place c.args.cache.now (g.F.Files.holds c.args.files.now) (g.F.Files.holds c.load.new.files) c.load.new.cache c.args.at i ps cs c.args.room.now (let l = c.requires.placed.least in omega arith)
    (λ m held pages room can here. got place c.args.cache.now m pages room (g.F.Files.holds c.args.files.now) (g.F.Files.holds c.load.new.files) c.load.new.cache c.args.at (page_node c.in_ok-page.page) c.requires.placed held c.in_ok-page.ensures.node c.load.ensures.stays c.load.ensures.added c.load.ensures.others c.load.ensures.name can here)
    c.in_ok-page.ensures.written.branches some (omega (arith, c.len-count.ensures))
    (subst (λ (n : ℕ). NeverLast place c.load.new.cache (g.F.Files.holds c.load.new.files) c.args.room.now n) (child_is ps cs i c.index-child.result.now c.in_ok-page.ensures.written.branches some (omega (arith, c.len-count.ensures)) c.index-child.ensures) (c.in_err-inner.ensures.never p (sym e.2 ∙ d))))

pub returns-in_err-left-2-clause-never : goal.returns-in_err-left-2-clause-never
returns-in_err-left-2-clause-never g t c =
    let place = c.args.setup.place in
    let ps : List Pair = c.in_ok-page.page.pairs in
    let cs : List ℕ = c.in_ok-page.page.children.items in
    let i : ℕ = c.len-count.result in
    let some : 0 < length cs = let ne = eqb-false _ _ (sym c.is_empty.ensures ∙ c.if-is_empty.false) in omega (arith, ne, c.in_ok-page.page.children.ok.0) in
    let inner = c.in_ok-inner.inner in
    let e = err_from_is_err_and c.from_residual-in_err-left-2.result c.from_residual-in_err-left-2.ensures.1 in
    if_err c.from_residual-in_err-left-2.result e.0 _ e.1
    (λ p d. never_last_closes place c.args.cache.now (g.F.Files.holds c.args.files.now) (g.F.Files.holds c.load.new.files) (g.F.Files.holds c.without_last.new.files) c.load.new.cache c.without_last.new.cache c.args.at i ps cs inner.pairs inner.children.items c.in_ok-inner.last c.args.room.now c.without_last.new.room
    (let l = c.requires.placed.least in omega arith)
    (λ m held pages room can here. got place c.args.cache.now m pages room (g.F.Files.holds c.args.files.now) (g.F.Files.holds c.load.new.files) c.load.new.cache c.args.at (page_node c.in_ok-page.page) c.requires.placed held c.in_ok-page.ensures.node c.load.ensures.stays c.load.ensures.added c.load.ensures.others c.load.ensures.name can here)
    c.in_ok-page.ensures.written.branches some (omega (arith, c.len-count.ensures))
    (subst (λ (n : ℕ). TakesLast place c.load.new.cache (g.F.Files.holds c.load.new.files) c.args.room.now n (g.F.Files.holds c.without_last.new.files) c.without_last.new.cache c.without_last.new.room inner.pairs inner.children.items c.in_ok-inner.last)
    (child_is ps cs i c.index-child.result.now c.in_ok-page.ensures.written.branches some (omega (arith, c.len-count.ensures)) c.index-child.ensures) c.in_ok-inner.ensures.opened)
    (c.in_err-left-2.ensures.never p (sym e.2 ∙ d)))

pub returns-clause-opened : goal.returns-clause-opened
returns-clause-opened g t c =
    let place = c.args.setup.place in
    let ps : List Pair = c.in_ok-page.page.pairs in
    let cs : List ℕ = c.in_ok-page.page.children.items in
    let i : ℕ = c.len-count.result in
    let some : 0 < length cs = let ne = eqb-false _ _ (sym c.is_empty.ensures ∙ c.if-is_empty.false) in omega (arith, ne, c.in_ok-page.page.children.ok.0) in
    let inner = c.in_ok-inner.inner in
    let left = c.in_ok-left-2.left in
    last_of_node place c.args.cache.now (g.F.Files.holds c.args.files.now) (g.F.Files.holds c.load.new.files) (g.F.Files.holds c.without_last.new.files) (g.F.Files.holds c.write_child.new.files) c.load.new.cache c.without_last.new.cache c.write_child.new.cache c.args.at i ps left.pairs cs left.children.items inner.pairs inner.children.items c.in_ok-inner.last c.args.room.now c.without_last.new.room c.write_child.new.room
    (let l = c.requires.placed.least in omega arith)
    (λ m held pages room can here. got place c.args.cache.now m pages room (g.F.Files.holds c.args.files.now) (g.F.Files.holds c.load.new.files) c.load.new.cache c.args.at (page_node c.in_ok-page.page) c.requires.placed held c.in_ok-page.ensures.node c.load.ensures.stays c.load.ensures.added c.load.ensures.others c.load.ensures.name can here)
    c.in_ok-page.ensures.written.branches some c.len-count.ensures
    (subst (λ (n : ℕ). TakesLast place c.load.new.cache (g.F.Files.holds c.load.new.files) c.args.room.now n (g.F.Files.holds c.without_last.new.files) c.without_last.new.cache c.without_last.new.room inner.pairs inner.children.items c.in_ok-inner.last)
    (child_is ps cs i c.index-child.result.now c.in_ok-page.ensures.written.branches some (omega (arith, c.len-count.ensures)) c.index-child.ensures) c.in_ok-inner.ensures.opened)
    c.in_ok-left-2.ensures.written

pub returns-clause-shape : goal.returns-clause-shape
returns-clause-shape g t c = c.in_ok-left-2.ensures.shape

pub returns-clause-one : goal.returns-clause-one
returns-clause-one g t c = c.in_ok-inner.ensures.one

pub returns-in_err-page-clause-damaged : goal.returns-in_err-page-clause-damaged
returns-in_err-page-clause-damaged g t c =
    let place = c.args.setup.place in
    let e = err_from_is_err_and c.from_residual.result c.from_residual.ensures.1 in
    if_err c.from_residual.result e.0 _ e.1
    (λ p d m held file.
    let missed = c.in_err-page.ensures.damaged p (sym e.2 ∙ d) in
    inl (lacks_here (node_lent place c.args.cache.now m) goes_last c.args.at p missed.0 (missed.1 m held (can_ask c.args.cache.now m c.args.at place.block_length file))))

pub returns-in_err-inner-clause-damaged : goal.returns-in_err-inner-clause-damaged
returns-in_err-inner-clause-damaged g t c =
    let place = c.args.setup.place in
    let ps : List Pair = c.in_ok-page.page.pairs in
    let cs : List ℕ = c.in_ok-page.page.children.items in
    let i : ℕ = c.len-count.result in
    let some : 0 < length cs = let ne = eqb-false _ _ (sym c.is_empty.ensures ∙ c.if-is_empty.false) in omega (arith, ne, c.in_ok-page.page.children.ok.0) in
    let child = child_is ps cs i c.index-child.result.now c.in_ok-page.ensures.written.branches some (omega (arith, c.len-count.ensures)) c.index-child.ensures in
    let e = err_from_is_err_and c.from_residual-in_err-inner.result c.from_residual-in_err-inner.ensures.1 in
    if_err c.from_residual-in_err-inner.result e.0 _ e.1
    (λ q d m held file.
    let n = c.load.ensures.shown.told m held in
    let shows = n.2 file in
    near_up (node_lent place c.load.new.cache n.0) (node_lent place c.args.cache.now m) goes_last c.args.at c.index-child.result.now q shows.shown
    (goes_into (node_lent place c.args.cache.now m) goes_last c.args.at i c.index-child.result.now ps cs (c.in_ok-page.ensures.node m held (can_ask c.args.cache.now m c.args.at place.block_length file)) c.in_ok-page.ensures.written.branches some (omega (arith, c.len-count.ensures))
    (goes_by_all (take i ps)) (halts_behind_all ps i (omega (arith, c.len-count.ensures))) child)
    (c.in_err-inner.ensures.damaged q (sym e.2 ∙ d) n.0 n.1 shows.file))

pub returns-in_err-left-2-clause-damaged : goal.returns-in_err-left-2-clause-damaged
returns-in_err-left-2-clause-damaged g t c =
    let place = c.args.setup.place in
    let ps : List Pair = c.in_ok-page.page.pairs in
    let cs : List ℕ = c.in_ok-page.page.children.items in
    let i : ℕ = c.len-count.result in
    let some : 0 < length cs = let ne = eqb-false _ _ (sym c.is_empty.ensures ∙ c.if-is_empty.false) in omega (arith, ne, c.in_ok-page.page.children.ok.0) in
    let child = child_is ps cs i c.index-child.result.now c.in_ok-page.ensures.written.branches some (omega (arith, c.len-count.ensures)) c.index-child.ensures in
    let e = err_from_is_err_and c.from_residual-in_err-left-2.result c.from_residual-in_err-left-2.ensures.1 in
    if_err c.from_residual-in_err-left-2.result e.0 _ e.1
    (λ q d m held file. beside_here (node_lent place c.args.cache.now m) goes_last c.args.at c.index-child.result.now q ps cs (c.in_ok-page.ensures.node m held (can_ask c.args.cache.now m c.args.at place.block_length file))
    (goes_into (node_lent place c.args.cache.now m) goes_last c.args.at i c.index-child.result.now ps cs (c.in_ok-page.ensures.node m held (can_ask c.args.cache.now m c.args.at place.block_length file)) c.in_ok-page.ensures.written.branches some (omega (arith, c.len-count.ensures))
    (goes_by_all (take i ps)) (halts_behind_all ps i (omega (arith, c.len-count.ensures))) child)
    (subst (λ (k : ℕ). AreNeighbours k q cs) (sym child) (c.in_err-left-2.ensures.beside q (sym e.2 ∙ d))))

pub write_child-requires-clause-pending : goal.write_child-requires-clause-pending
write_child-requires-clause-pending g t c κs within =
    let some : 0 < length c.in_ok-page.page.children.items = let ne = eqb-false _ _ (sym c.is_empty.ensures ∙ c.if-is_empty.false) in omega (arith, ne, c.in_ok-page.page.children.ok.0) in
    record { page = c.in_ok-page.ensures.written; some = some; inside = omega (arith, c.len-count.ensures); inner = c.in_ok-inner.ensures.shape }

pub returns-in_err-left-2-clause-others : goal.returns-in_err-left-2-clause-others
returns-in_err-left-2-clause-others g t c =
    others_on (g.F.Files.holds c.args.files.now) (g.F.Files.holds c.without_last.new.files) (g.F.Files.holds c.write_child.new.files) c.args.cache.now.name c.without_last.new.cache.name (c.without_last.ensures.name ∙ c.load.ensures.name) (others_on (g.F.Files.holds c.args.files.now) (g.F.Files.holds c.load.new.files) (g.F.Files.holds c.without_last.new.files) c.args.cache.now.name c.load.new.cache.name c.load.ensures.name c.load.ensures.others c.without_last.ensures.others) c.write_child.ensures.others

pub returns-in_err-left-2-clause-counted : goal.returns-in_err-left-2-clause-counted
returns-in_err-left-2-clause-counted g t c = counts_on c.args.cache.now c.without_last.new.cache c.write_child.new.cache (counts_on c.args.cache.now c.load.new.cache c.without_last.new.cache c.load.ensures.counted c.without_last.ensures.counted) c.write_child.ensures.counted

pub returns-clause-others : goal.returns-clause-others
returns-clause-others g t c =
    others_on (g.F.Files.holds c.args.files.now) (g.F.Files.holds c.without_last.new.files) (g.F.Files.holds c.write_child.new.files) c.args.cache.now.name c.without_last.new.cache.name (c.without_last.ensures.name ∙ c.load.ensures.name) (others_on (g.F.Files.holds c.args.files.now) (g.F.Files.holds c.load.new.files) (g.F.Files.holds c.without_last.new.files) c.args.cache.now.name c.load.new.cache.name c.load.ensures.name c.load.ensures.others c.without_last.ensures.others) c.write_child.ensures.others

pub returns-clause-counted : goal.returns-clause-counted
returns-clause-counted g t c = counts_on c.args.cache.now c.without_last.new.cache c.write_child.new.cache (counts_on c.args.cache.now c.load.new.cache c.without_last.new.cache c.load.ensures.counted c.without_last.ensures.counted) c.write_child.ensures.counted

pub returns-in_err-left-2-clause-cause : goal.returns-in_err-left-2-clause-cause
returns-in_err-left-2-clause-cause g t c =
    let e = err_from_is_err_and c.from_residual-in_err-left-2.result c.from_residual-in_err-left-2.ensures.1 in
    cause_on File _ e.0 (g.F.Files.faults c.args.files.now) (g.F.Files.faults c.without_last.new.files) (g.F.Files.faults c.write_child.new.files) c.from_residual-in_err-left-2.result e.1 e.2 (omega (arith, c.load.ensures.cause.later, c.without_last.ensures.cause.later)) c.in_err-left-2.ensures.cause

pub returns-clause-cause : goal.returns-clause-cause
returns-clause-cause g t c = cause_ok File (g.F.Files.faults c.args.files.now) (g.F.Files.faults c.write_child.new.files) _ (omega (arith, c.load.ensures.cause.later, c.without_last.ensures.cause.later, c.write_child.ensures.cause.later))
