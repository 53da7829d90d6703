use Rattle.std.proofs.Common.{◌≡◌, ℕ, ◌<◌, true, false, List, [], length, take, drop, get_or, inl, refl, sym, ap, subst, ◌∙◌, arith}
use Rattle.std.proofs.lemmas.Bool.{eqb-true, eqb-false}
use Rattle.std.proofs.lemmas.Result.{err_from_is_err_and}
use Rattle.myi_base.specs.Holding.{OthersStay}
use Rattle.myi_base.proofs.CallerLemmas.{told_then}
use Rattle.myi_keys.specs.Comparing.{key_front}
use Rattle.myi_keylist.specs.declared.pair.Pair.{Pair}
use Rattle.myi_keylist.specs.PairOrder.{pair_with}
use Rattle.myi_btree.specs.CachedTrees.{node_lent, ReadsOnly}
use Rattle.myi_search.proofs.CallerLemmas.{counts_on, reads_on}
use Rattle.myi_insertion.specs.declared.page.PageData.{PageData}
use Rattle.myi_insertion.specs.Written.{page_node}
use Rattle.myi_insertion.specs.Ordered.{AreBefore, BeginsBehind, begins_with}
use Rattle.myi_insertion.proofs.LoadLaws.{got, can_get, if_err, others_on, cause_on, cause_ok}
use Rattle.myi_btree.specs.declared.fault.TreeFault.TheVariants.{File}
use Rattle.myi_insertion.proofs.PageLaws.{pair_again, is_code_of, begins_inside}
use Rattle.myi_insertion.proofs.SplitLaws.{nil_of, if_some, if_none}
use Rattle.myi_insertion.proofs.PuttingLaws.{in_root, no_root, child_is, Never, never_below}
use Rattle.myi_insertion.proofs.RemovalLaws.{TakesLast, NeverLast, TakesPair, SeeksPair, pair_in_leaf, none_in_leaf, pair_below, pair_in_node, none_below, other_holds, other_inside, never_last_below, never_found_closes, never_pair_closes}
use Rattle.myi_insertion.specs.Damage.{goes_behind, AreNeighbours}
use Rattle.myi_insertion.proofs.DamageLaws.{can_ask, halts_behind, goes_into, lacks_here, beside_here, found_here, pair_up}
use Rattle.myi_insertion.proofs.removal.+without_pair.Goals as goal

pub returns-in_err-page-clause-never : goal.returns-in_err-page-clause-never
returns-in_err-page-clause-never g t c =
    let place = c.args.task.now.setup.place in
    let e = err_from_is_err_and c.from_residual.result c.from_residual.ensures.1 in
    if_err c.from_residual.result e.0 _ e.1
    (λ p d m held h w walk can sorted. no_root (node_lent place c.args.cache.now m) h c.args.at w walk
    ((c.in_err-page.ensures.damaged p (sym e.2 ∙ d)).1 m held (can_get place c.args.cache.now m w.pages c.args.room.now c.args.at can (in_root (node_lent place c.args.cache.now m) h c.args.at w walk))))

pub place_of-i-requires : goal.place_of-i-requires
place_of-i-requires g t c = is_code_of c.code-code.result.now c.args.task.now.pair.now c.code-code.ensures.key c.code-code.ensures.value

pub is_at-found-requires : goal.is_at-found-requires
is_at-found-requires g t c = is_code_of c.code-code.result.now c.args.task.now.pair.now c.code-code.ensures.key c.code-code.ensures.value

pub returns-then-not-found-clause-sought : goal.returns-then-not-found-clause-sought
returns-then-not-found-clause-sought g t c =
    let place = c.args.task.now.setup.place in
    let p : Pair = c.args.task.now.pair.now in
    let same : pair_with (key_front c.code-code.result.now) p.row ≡ p = pair_again c.code-code.result.now p.row p c.code-code.ensures.key c.code-code.ensures.value refl in
    let ps : List Pair = c.in_ok-page.page.pairs in
    let cs : List ℕ = c.in_ok-page.page.children.items in
    let i : ℕ = c.place_of-i.result in
    let none : cs ≡ [] = nil_of cs (sym c.in_ok-page.page.children.ok.0 ∙ eqb-true _ _ (sym c.is_empty.ensures ∙ c.if-is_empty.true)) in
    let missed : begins_with p (drop i ps) ≡ false = ap (λ (q : Pair). begins_with q (drop i ps)) (sym same) ∙ sym c.is_at-found.ensures ∙ c.if-not-found.true in
    none_in_leaf p place c.args.cache.now (g.F.Files.holds c.args.files.now) (g.F.Files.holds c.load.new.files) c.load.new.cache c.args.at i ps cs c.args.room.now
    (let l = c.requires.placed.least in omega arith)
    (λ m held pages room can here. got place c.args.cache.now m pages room (g.F.Files.holds c.args.files.now) (g.F.Files.holds c.load.new.files) c.load.new.cache c.args.at (page_node c.in_ok-page.page) c.requires.placed held c.in_ok-page.ensures.node c.load.ensures.stays c.load.ensures.added c.load.ensures.others c.load.ensures.name can here)
    c.in_ok-page.ensures.written.branches none (subst (λ (q : Pair). AreBefore q (take i ps)) same c.place_of-i.ensures.before) (subst (λ (q : Pair). BeginsBehind q (drop i ps)) same c.place_of-i.ensures.behind) missed

pub returns-then-is_empty-clause-taken : goal.returns-then-is_empty-clause-taken
returns-then-is_empty-clause-taken g t c =
    let place = c.args.task.now.setup.place in
    let p : Pair = c.args.task.now.pair.now in
    let same : pair_with (key_front c.code-code.result.now) p.row ≡ p = pair_again c.code-code.result.now p.row p c.code-code.ensures.key c.code-code.ensures.value refl in
    let ps : List Pair = c.in_ok-page.page.pairs in
    let cs : List ℕ = c.in_ok-page.page.children.items in
    let i : ℕ = c.place_of-i.result in
    let none : cs ≡ [] = nil_of cs (sym c.in_ok-page.page.children.ok.0 ∙ eqb-true _ _ (sym c.is_empty.ensures ∙ c.if-is_empty.true)) in
    let found : begins_with p (drop i ps) ≡ true = ap (λ (q : Pair). begins_with q (drop i ps)) (sym same) ∙ sym c.is_at-found.ensures ∙ c.if-not-found.false in
    pair_in_leaf p place c.args.cache.now (g.F.Files.holds c.args.files.now) (g.F.Files.holds c.load.new.files) c.load.new.cache c.args.at i ps c.in_ok-leaf.leaf.pairs cs c.in_ok-leaf.leaf.children.items c.args.room.now
    (let l = c.requires.placed.least in omega arith)
    (λ m held pages room can here. got place c.args.cache.now m pages room (g.F.Files.holds c.args.files.now) (g.F.Files.holds c.load.new.files) c.load.new.cache c.args.at (page_node c.in_ok-page.page) c.requires.placed held c.in_ok-page.ensures.node c.load.ensures.stays c.load.ensures.added c.load.ensures.others c.load.ensures.name can here)
    c.in_ok-page.ensures.written.branches none found c.in_ok-leaf.ensures.pairs c.in_ok-leaf.ensures.children

pub returns-in_err-inner-clause-never : goal.returns-in_err-inner-clause-never
returns-in_err-inner-clause-never g t c =
    let place = c.args.task.now.setup.place in
    let p : Pair = c.args.task.now.pair.now in
    let same : pair_with (key_front c.code-code.result.now) p.row ≡ p = pair_again c.code-code.result.now p.row p c.code-code.ensures.key c.code-code.ensures.value refl in
    let ps : List Pair = c.in_ok-page.page.pairs in
    let cs : List ℕ = c.in_ok-page.page.children.items in
    let i : ℕ = c.place_of-i.result in
    let some : 0 < length cs = let ne = eqb-false _ _ (sym c.is_empty.ensures ∙ c.if-is_empty.false) in omega (arith, ne, c.in_ok-page.page.children.ok.0) in
    let child : c.index-child.result.now ≡ get_or cs i 0 = child_is ps cs i c.index-child.result.now c.in_ok-page.ensures.written.branches some c.place_of-i.ensures.inside c.index-child.ensures in
    let e = err_from_is_err_and c.from_residual-in_err-inner.result c.from_residual-in_err-inner.ensures.1 in
    if_err c.from_residual-in_err-inner.result e.0 _ e.1
    (λ q d m held h w walk can sorted. never_last_below place c.args.cache.now (g.F.Files.holds c.args.files.now) (g.F.Files.holds c.load.new.files) c.load.new.cache c.args.at i ps cs c.args.room.now (let l = c.requires.placed.least in omega arith)
    (λ m held pages room can here. got place c.args.cache.now m pages room (g.F.Files.holds c.args.files.now) (g.F.Files.holds c.load.new.files) c.load.new.cache c.args.at (page_node c.in_ok-page.page) c.requires.placed held c.in_ok-page.ensures.node c.load.ensures.stays c.load.ensures.added c.load.ensures.others c.load.ensures.name can here)
    c.in_ok-page.ensures.written.branches some c.place_of-i.ensures.inside
    (subst (λ (n : ℕ). NeverLast place c.load.new.cache (g.F.Files.holds c.load.new.files) c.args.room.now n) child (c.in_err-inner.ensures.never q (sym e.2 ∙ d))) m held h w walk can)

pub write_child-requires-clause-pending : goal.write_child-requires-clause-pending
write_child-requires-clause-pending g t c κs within =
    let place = c.args.task.now.setup.place in
    let p : Pair = c.args.task.now.pair.now in
    let same : pair_with (key_front c.code-code.result.now) p.row ≡ p = pair_again c.code-code.result.now p.row p c.code-code.ensures.key c.code-code.ensures.value refl in
    let ps : List Pair = c.in_ok-page.page.pairs in
    let cs : List ℕ = c.in_ok-page.page.children.items in
    let i : ℕ = c.place_of-i.result in
    let some : 0 < length cs = let ne = eqb-false _ _ (sym c.is_empty.ensures ∙ c.if-is_empty.false) in omega (arith, ne, c.in_ok-page.page.children.ok.0) in
    let found : begins_with p (drop i ps) ≡ true = ap (λ (q : Pair). begins_with q (drop i ps)) (sym same) ∙ sym c.is_at-found.ensures ∙ c.if-found.true in
    let lt : i < length ps = begins_inside p ps i found in
    record {
      page = other_holds place.rec_ref i ps c.in_ok-node.node.pairs cs c.in_ok-node.node.children.items c.in_ok-inner.last c.in_ok-page.ensures.written lt c.in_ok-inner.ensures.one c.in_ok-node.ensures.pairs c.in_ok-node.ensures.children;
      some = subst (λ (t : List ℕ). 0 < length t) (sym c.in_ok-node.ensures.children) some;
      inside = other_inside place.rec_ref i ps c.in_ok-node.node.pairs c.in_ok-inner.last lt c.in_ok-inner.ensures.one c.in_ok-node.ensures.pairs;
      inner = c.in_ok-inner.ensures.shape;
    }

pub returns-in_err-made-clause-never : goal.returns-in_err-made-clause-never
returns-in_err-made-clause-never g t c =
    let place = c.args.task.now.setup.place in
    let p : Pair = c.args.task.now.pair.now in
    let same : pair_with (key_front c.code-code.result.now) p.row ≡ p = pair_again c.code-code.result.now p.row p c.code-code.ensures.key c.code-code.ensures.value refl in
    let ps : List Pair = c.in_ok-page.page.pairs in
    let cs : List ℕ = c.in_ok-page.page.children.items in
    let i : ℕ = c.place_of-i.result in
    let some : 0 < length cs = let ne = eqb-false _ _ (sym c.is_empty.ensures ∙ c.if-is_empty.false) in omega (arith, ne, c.in_ok-page.page.children.ok.0) in
    let child : c.index-child.result.now ≡ get_or cs i 0 = child_is ps cs i c.index-child.result.now c.in_ok-page.ensures.written.branches some c.place_of-i.ensures.inside c.index-child.ensures in
    let found : begins_with p (drop i ps) ≡ true = ap (λ (q : Pair). begins_with q (drop i ps)) (sym same) ∙ sym c.is_at-found.ensures ∙ c.if-found.true in
    let inner = c.in_ok-inner.inner in
    let e = err_from_is_err_and c.from_residual-in_err-made.result c.from_residual-in_err-made.ensures.1 in
    if_err c.from_residual-in_err-made.result e.0 _ e.1
    (λ q d m held h w walk can sorted. never_found_closes p place c.args.cache.now (g.F.Files.holds c.args.files.now) (g.F.Files.holds c.load.new.files) (g.F.Files.holds c.without_last.new.files) c.load.new.cache c.without_last.new.cache c.args.at i ps c.in_ok-node.node.pairs cs c.in_ok-node.node.children.items inner.pairs inner.children.items c.in_ok-inner.last c.args.room.now c.without_last.new.room
    (let l = c.requires.placed.least in omega arith)
    (λ m held pages room can here. got place c.args.cache.now m pages room (g.F.Files.holds c.args.files.now) (g.F.Files.holds c.load.new.files) c.load.new.cache c.args.at (page_node c.in_ok-page.page) c.requires.placed held c.in_ok-page.ensures.node c.load.ensures.stays c.load.ensures.added c.load.ensures.others c.load.ensures.name can here)
    c.in_ok-page.ensures.written.branches some c.place_of-i.ensures.inside found (subst (λ (n : ℕ). TakesLast place c.load.new.cache (g.F.Files.holds c.load.new.files) c.args.room.now n (g.F.Files.holds c.without_last.new.files) c.without_last.new.cache c.without_last.new.room inner.pairs inner.children.items c.in_ok-inner.last) child c.in_ok-inner.ensures.opened)
    c.in_ok-inner.ensures.one.one c.in_ok-node.ensures.pairs c.in_ok-node.ensures.children (c.in_err-made.ensures.never q (sym e.2 ∙ d)) m held h w walk can)

pub returns-then-found-clause-taken : goal.returns-then-found-clause-taken
returns-then-found-clause-taken g t c =
    let place = c.args.task.now.setup.place in
    let p : Pair = c.args.task.now.pair.now in
    let same : pair_with (key_front c.code-code.result.now) p.row ≡ p = pair_again c.code-code.result.now p.row p c.code-code.ensures.key c.code-code.ensures.value refl in
    let ps : List Pair = c.in_ok-page.page.pairs in
    let cs : List ℕ = c.in_ok-page.page.children.items in
    let i : ℕ = c.place_of-i.result in
    let some : 0 < length cs = let ne = eqb-false _ _ (sym c.is_empty.ensures ∙ c.if-is_empty.false) in omega (arith, ne, c.in_ok-page.page.children.ok.0) in
    let child : c.index-child.result.now ≡ get_or cs i 0 = child_is ps cs i c.index-child.result.now c.in_ok-page.ensures.written.branches some c.place_of-i.ensures.inside c.index-child.ensures in
    let found : begins_with p (drop i ps) ≡ true = ap (λ (q : Pair). begins_with q (drop i ps)) (sym same) ∙ sym c.is_at-found.ensures ∙ c.if-found.true in
    let inner = c.in_ok-inner.inner in
    let made = c.in_ok-made.made in
    pair_in_node p place c.args.cache.now (g.F.Files.holds c.args.files.now) (g.F.Files.holds c.load.new.files) (g.F.Files.holds c.without_last.new.files) (g.F.Files.holds c.write_child.new.files) c.load.new.cache c.without_last.new.cache c.write_child.new.cache c.args.at i ps c.in_ok-node.node.pairs made.pairs cs c.in_ok-node.node.children.items made.children.items inner.pairs inner.children.items c.in_ok-inner.last c.args.room.now c.without_last.new.room c.write_child.new.room
    (let l = c.requires.placed.least in omega arith)
    (λ m held pages room can here. got place c.args.cache.now m pages room (g.F.Files.holds c.args.files.now) (g.F.Files.holds c.load.new.files) c.load.new.cache c.args.at (page_node c.in_ok-page.page) c.requires.placed held c.in_ok-page.ensures.node c.load.ensures.stays c.load.ensures.added c.load.ensures.others c.load.ensures.name can here)
    c.in_ok-page.ensures.written.branches some c.place_of-i.ensures.inside found (subst (λ (n : ℕ). TakesLast place c.load.new.cache (g.F.Files.holds c.load.new.files) c.args.room.now n (g.F.Files.holds c.without_last.new.files) c.without_last.new.cache c.without_last.new.room inner.pairs inner.children.items c.in_ok-inner.last) child c.in_ok-inner.ensures.opened)
    c.in_ok-inner.ensures.one.one c.in_ok-node.ensures.pairs c.in_ok-node.ensures.children c.in_ok-made.ensures.written

pub returns-then-found-clause-others : goal.returns-then-found-clause-others
returns-then-found-clause-others g t c =
    let one = told_then (g.F.Files.holds c.args.files.now) (g.F.Files.holds c.load.new.files) (g.F.Files.holds c.without_last.new.files) (OthersStay c.args.cache.now.name) (OthersStay c.load.new.cache.name) (OthersStay c.args.cache.now.name) c.load.ensures.others c.without_last.ensures.others
    (λ m n k before after q other. after q (λ e. other (e ∙ c.load.ensures.name)) ∙ before q other) in
    told_then (g.F.Files.holds c.args.files.now) (g.F.Files.holds c.without_last.new.files) (g.F.Files.holds c.write_child.new.files) (OthersStay c.args.cache.now.name) (OthersStay c.without_last.new.cache.name) (OthersStay c.args.cache.now.name) one c.write_child.ensures.others
    (λ m n k before after q other. after q (λ e. other (e ∙ c.without_last.ensures.name ∙ c.load.ensures.name)) ∙ before q other)

pub returns-in_err-taken-clause-never : goal.returns-in_err-taken-clause-never
returns-in_err-taken-clause-never g t c =
    let place = c.args.task.now.setup.place in
    let p : Pair = c.args.task.now.pair.now in
    let same : pair_with (key_front c.code-code.result.now) p.row ≡ p = pair_again c.code-code.result.now p.row p c.code-code.ensures.key c.code-code.ensures.value refl in
    let ps : List Pair = c.in_ok-page.page.pairs in
    let cs : List ℕ = c.in_ok-page.page.children.items in
    let i : ℕ = c.place_of-i.result in
    let some : 0 < length cs = let ne = eqb-false _ _ (sym c.is_empty.ensures ∙ c.if-is_empty.false) in omega (arith, ne, c.in_ok-page.page.children.ok.0) in
    let child : c.index-child.result.now ≡ get_or cs i 0 = child_is ps cs i c.index-child.result.now c.in_ok-page.ensures.written.branches some c.place_of-i.ensures.inside c.index-child.ensures in
    let e = err_from_is_err_and c.from_residual-in_err-taken.result c.from_residual-in_err-taken.ensures.1 in
    if_err c.from_residual-in_err-taken.result e.0 _ e.1
    (λ q d. never_below place c.args.cache.now (g.F.Files.holds c.args.files.now) (g.F.Files.holds c.load.new.files) c.load.new.cache c.args.at i ps cs c.args.room.now (let l = c.requires.placed.least in omega arith)
    (λ m held pages room can here. got place c.args.cache.now m pages room (g.F.Files.holds c.args.files.now) (g.F.Files.holds c.load.new.files) c.load.new.cache c.args.at (page_node c.in_ok-page.page) c.requires.placed held c.in_ok-page.ensures.node c.load.ensures.stays c.load.ensures.added c.load.ensures.others c.load.ensures.name can here)
    c.in_ok-page.ensures.written.branches some c.place_of-i.ensures.inside
    (subst (λ (n : ℕ). Never place c.load.new.cache (g.F.Files.holds c.load.new.files) c.args.room.now n) child (c.in_err-taken.ensures.never q (sym e.2 ∙ d))))

pub returns-in_default-clause-sought : goal.returns-in_default-clause-sought
returns-in_default-clause-sought g t c =
    let place = c.args.task.now.setup.place in
    let p : Pair = c.args.task.now.pair.now in
    let same : pair_with (key_front c.code-code.result.now) p.row ≡ p = pair_again c.code-code.result.now p.row p c.code-code.ensures.key c.code-code.ensures.value refl in
    let ps : List Pair = c.in_ok-page.page.pairs in
    let cs : List ℕ = c.in_ok-page.page.children.items in
    let i : ℕ = c.place_of-i.result in
    let some : 0 < length cs = let ne = eqb-false _ _ (sym c.is_empty.ensures ∙ c.if-is_empty.false) in omega (arith, ne, c.in_ok-page.page.children.ok.0) in
    let child : c.index-child.result.now ≡ get_or cs i 0 = child_is ps cs i c.index-child.result.now c.in_ok-page.ensures.written.branches some c.place_of-i.ensures.inside c.index-child.ensures in
    let missed : begins_with p (drop i ps) ≡ false = ap (λ (q : Pair). begins_with q (drop i ps)) (sym same) ∙ sym c.is_at-found.ensures ∙ c.if-found.false in
    none_below p place c.args.cache.now (g.F.Files.holds c.args.files.now) (g.F.Files.holds c.load.new.files) (g.F.Files.holds c.without_pair-2.new.files) c.load.new.cache c.without_pair-2.new.cache c.args.at i ps cs c.args.room.now
    (let l = c.requires.placed.least in omega arith)
    (λ m held pages room can here. got place c.args.cache.now m pages room (g.F.Files.holds c.args.files.now) (g.F.Files.holds c.load.new.files) c.load.new.cache c.args.at (page_node c.in_ok-page.page) c.requires.placed held c.in_ok-page.ensures.node c.load.ensures.stays c.load.ensures.added c.load.ensures.others c.load.ensures.name can here)
    c.in_ok-page.ensures.written.branches some c.place_of-i.ensures.inside (subst (λ (q : Pair). AreBefore q (take i ps)) same c.place_of-i.ensures.before) (subst (λ (q : Pair). BeginsBehind q (drop i ps)) same c.place_of-i.ensures.behind) missed
    (subst (λ (n : ℕ). SeeksPair p place c.load.new.cache (g.F.Files.holds c.load.new.files) c.args.room.now n (g.F.Files.holds c.without_pair-2.new.files) c.without_pair-2.new.cache) child (if_none c.in_ok-taken.taken (SeeksPair p place c.load.new.cache (g.F.Files.holds c.load.new.files) c.args.room.now c.index-child.result.now (g.F.Files.holds c.without_pair-2.new.files) c.without_pair-2.new.cache) c.in_default.is c.in_ok-taken.ensures.sought))

pub returns-in_err-left-clause-never : goal.returns-in_err-left-clause-never
returns-in_err-left-clause-never g t c =
    let place = c.args.task.now.setup.place in
    let p : Pair = c.args.task.now.pair.now in
    let same : pair_with (key_front c.code-code.result.now) p.row ≡ p = pair_again c.code-code.result.now p.row p c.code-code.ensures.key c.code-code.ensures.value refl in
    let ps : List Pair = c.in_ok-page.page.pairs in
    let cs : List ℕ = c.in_ok-page.page.children.items in
    let i : ℕ = c.place_of-i.result in
    let some : 0 < length cs = let ne = eqb-false _ _ (sym c.is_empty.ensures ∙ c.if-is_empty.false) in omega (arith, ne, c.in_ok-page.page.children.ok.0) in
    let child : c.index-child.result.now ≡ get_or cs i 0 = child_is ps cs i c.index-child.result.now c.in_ok-page.ensures.written.branches some c.place_of-i.ensures.inside c.index-child.ensures in
    let inner = c.in-Some.inner in
    let e = err_from_is_err_and c.from_residual-in_err-left.result c.from_residual-in_err-left.ensures.1 in
    if_err c.from_residual-in_err-left.result e.0 _ e.1
    (λ q d. never_pair_closes p place c.args.cache.now (g.F.Files.holds c.args.files.now) (g.F.Files.holds c.load.new.files) (g.F.Files.holds c.without_pair-2.new.files) c.load.new.cache c.without_pair-2.new.cache c.args.at i ps cs inner.pairs inner.children.items c.args.room.now c.without_pair-2.new.room
    (let l = c.requires.placed.least in omega arith)
    (λ m held pages room can here. got place c.args.cache.now m pages room (g.F.Files.holds c.args.files.now) (g.F.Files.holds c.load.new.files) c.load.new.cache c.args.at (page_node c.in_ok-page.page) c.requires.placed held c.in_ok-page.ensures.node c.load.ensures.stays c.load.ensures.added c.load.ensures.others c.load.ensures.name can here)
    c.in_ok-page.ensures.written.branches some c.place_of-i.ensures.inside (subst (λ (n : ℕ). TakesPair p place c.load.new.cache (g.F.Files.holds c.load.new.files) c.args.room.now n (g.F.Files.holds c.without_pair-2.new.files) c.without_pair-2.new.cache c.without_pair-2.new.room inner.pairs inner.children.items) child (if_some c.in_ok-taken.taken inner (λ (page : PageData). TakesPair p place c.load.new.cache (g.F.Files.holds c.load.new.files) c.args.room.now c.index-child.result.now (g.F.Files.holds c.without_pair-2.new.files) c.without_pair-2.new.cache c.without_pair-2.new.room page.pairs page.children.items) c.in-Some.is c.in_ok-taken.ensures.taken))
    (c.in_err-left.ensures.never q (sym e.2 ∙ d)))

pub returns-clause-taken : goal.returns-clause-taken
returns-clause-taken g t c =
    let place = c.args.task.now.setup.place in
    let p : Pair = c.args.task.now.pair.now in
    let same : pair_with (key_front c.code-code.result.now) p.row ≡ p = pair_again c.code-code.result.now p.row p c.code-code.ensures.key c.code-code.ensures.value refl in
    let ps : List Pair = c.in_ok-page.page.pairs in
    let cs : List ℕ = c.in_ok-page.page.children.items in
    let i : ℕ = c.place_of-i.result in
    let some : 0 < length cs = let ne = eqb-false _ _ (sym c.is_empty.ensures ∙ c.if-is_empty.false) in omega (arith, ne, c.in_ok-page.page.children.ok.0) in
    let child : c.index-child.result.now ≡ get_or cs i 0 = child_is ps cs i c.index-child.result.now c.in_ok-page.ensures.written.branches some c.place_of-i.ensures.inside c.index-child.ensures in
    let inner = c.in-Some.inner in
    let left = c.in_ok-left.left in
    pair_below p place c.args.cache.now (g.F.Files.holds c.args.files.now) (g.F.Files.holds c.load.new.files) (g.F.Files.holds c.without_pair-2.new.files) (g.F.Files.holds c.write_child-2.new.files) c.load.new.cache c.without_pair-2.new.cache c.write_child-2.new.cache c.args.at i ps left.pairs cs left.children.items inner.pairs inner.children.items c.args.room.now c.without_pair-2.new.room c.write_child-2.new.room
    (let l = c.requires.placed.least in omega arith)
    (λ m held pages room can here. got place c.args.cache.now m pages room (g.F.Files.holds c.args.files.now) (g.F.Files.holds c.load.new.files) c.load.new.cache c.args.at (page_node c.in_ok-page.page) c.requires.placed held c.in_ok-page.ensures.node c.load.ensures.stays c.load.ensures.added c.load.ensures.others c.load.ensures.name can here)
    c.in_ok-page.ensures.written.branches some c.place_of-i.ensures.inside (subst (λ (n : ℕ). TakesPair p place c.load.new.cache (g.F.Files.holds c.load.new.files) c.args.room.now n (g.F.Files.holds c.without_pair-2.new.files) c.without_pair-2.new.cache c.without_pair-2.new.room inner.pairs inner.children.items) child (if_some c.in_ok-taken.taken inner (λ (page : PageData). TakesPair p place c.load.new.cache (g.F.Files.holds c.load.new.files) c.args.room.now c.index-child.result.now (g.F.Files.holds c.without_pair-2.new.files) c.without_pair-2.new.cache c.without_pair-2.new.room page.pairs page.children.items) c.in-Some.is c.in_ok-taken.ensures.taken)) c.in_ok-left.ensures.written

pub returns-in_err-page-clause-damaged : goal.returns-in_err-page-clause-damaged
returns-in_err-page-clause-damaged g t c =
    let place = c.args.task.now.setup.place in
    let e = err_from_is_err_and c.from_residual.result c.from_residual.ensures.1 in
    if_err c.from_residual.result e.0 _ e.1
    (λ p d m held file.
    let missed = c.in_err-page.ensures.damaged p (sym e.2 ∙ d) in
    inl (inl (lacks_here (node_lent place c.args.cache.now m) (goes_behind c.args.task.now.pair.now) c.args.at p missed.0 (missed.1 m held (can_ask c.args.cache.now m c.args.at place.block_length file)))))

pub returns-in_err-inner-clause-damaged : goal.returns-in_err-inner-clause-damaged
returns-in_err-inner-clause-damaged g t c =
    let place = c.args.task.now.setup.place in
    let p : Pair = c.args.task.now.pair.now in
    let same : pair_with (key_front c.code-code.result.now) p.row ≡ p = pair_again c.code-code.result.now p.row p c.code-code.ensures.key c.code-code.ensures.value refl in
    let ps : List Pair = c.in_ok-page.page.pairs in
    let cs : List ℕ = c.in_ok-page.page.children.items in
    let i : ℕ = c.place_of-i.result in
    let some : 0 < length cs = let ne = eqb-false _ _ (sym c.is_empty.ensures ∙ c.if-is_empty.false) in omega (arith, ne, c.in_ok-page.page.children.ok.0) in
    let child : c.index-child.result.now ≡ get_or cs i 0 = child_is ps cs i c.index-child.result.now c.in_ok-page.ensures.written.branches some c.place_of-i.ensures.inside c.index-child.ensures in
    let found : begins_with p (drop i ps) ≡ true = ap (λ (q : Pair). begins_with q (drop i ps)) (sym same) ∙ sym c.is_at-found.ensures ∙ c.if-found.true in
    let e = err_from_is_err_and c.from_residual-in_err-inner.result c.from_residual-in_err-inner.ensures.1 in
    if_err c.from_residual-in_err-inner.result e.0 _ e.1
    (λ q d m held file.
    let n = c.load.ensures.shown.told m held in
    let shows = n.2 file in
    found_here (node_lent place c.load.new.cache n.0) (node_lent place c.args.cache.now m) p c.args.at i c.index-child.result.now q ps cs shows.shown (c.in_ok-page.ensures.node m held (can_ask c.args.cache.now m c.args.at place.block_length file))
    (goes_into (node_lent place c.args.cache.now m) (goes_behind p) c.args.at i c.index-child.result.now ps cs (c.in_ok-page.ensures.node m held (can_ask c.args.cache.now m c.args.at place.block_length file)) c.in_ok-page.ensures.written.branches some c.place_of-i.ensures.inside
    (subst (λ (q : Pair). AreBefore q (take i ps)) same c.place_of-i.ensures.before) (halts_behind p (drop i ps) (subst (λ (q : Pair). BeginsBehind q (drop i ps)) same c.place_of-i.ensures.behind)) child)
    found (c.in_err-inner.ensures.damaged q (sym e.2 ∙ d) n.0 n.1 shows.file))

pub returns-in_err-made-clause-damaged : goal.returns-in_err-made-clause-damaged
returns-in_err-made-clause-damaged g t c =
    let place = c.args.task.now.setup.place in
    let p : Pair = c.args.task.now.pair.now in
    let same : pair_with (key_front c.code-code.result.now) p.row ≡ p = pair_again c.code-code.result.now p.row p c.code-code.ensures.key c.code-code.ensures.value refl in
    let ps : List Pair = c.in_ok-page.page.pairs in
    let cs : List ℕ = c.in_ok-page.page.children.items in
    let i : ℕ = c.place_of-i.result in
    let some : 0 < length cs = let ne = eqb-false _ _ (sym c.is_empty.ensures ∙ c.if-is_empty.false) in omega (arith, ne, c.in_ok-page.page.children.ok.0) in
    let child : c.index-child.result.now ≡ get_or cs i 0 = child_is ps cs i c.index-child.result.now c.in_ok-page.ensures.written.branches some c.place_of-i.ensures.inside c.index-child.ensures in
    let e = err_from_is_err_and c.from_residual-in_err-made.result c.from_residual-in_err-made.ensures.1 in
    if_err c.from_residual-in_err-made.result e.0 _ e.1
    (λ q d m held file. inl (beside_here (node_lent place c.args.cache.now m) (goes_behind p) c.args.at c.index-child.result.now q ps cs (c.in_ok-page.ensures.node m held (can_ask c.args.cache.now m c.args.at place.block_length file))
    (goes_into (node_lent place c.args.cache.now m) (goes_behind p) c.args.at i c.index-child.result.now ps cs (c.in_ok-page.ensures.node m held (can_ask c.args.cache.now m c.args.at place.block_length file)) c.in_ok-page.ensures.written.branches some c.place_of-i.ensures.inside
    (subst (λ (q : Pair). AreBefore q (take i ps)) same c.place_of-i.ensures.before) (halts_behind p (drop i ps) (subst (λ (q : Pair). BeginsBehind q (drop i ps)) same c.place_of-i.ensures.behind)) child)
    (subst (λ (k : ℕ). AreNeighbours k q cs) (sym child) (subst (λ (t : List ℕ). AreNeighbours (get_or t i 0) q t) c.in_ok-node.ensures.children (c.in_err-made.ensures.beside q (sym e.2 ∙ d))))))

pub returns-in_err-taken-clause-damaged : goal.returns-in_err-taken-clause-damaged
returns-in_err-taken-clause-damaged g t c =
    let place = c.args.task.now.setup.place in
    let p : Pair = c.args.task.now.pair.now in
    let same : pair_with (key_front c.code-code.result.now) p.row ≡ p = pair_again c.code-code.result.now p.row p c.code-code.ensures.key c.code-code.ensures.value refl in
    let ps : List Pair = c.in_ok-page.page.pairs in
    let cs : List ℕ = c.in_ok-page.page.children.items in
    let i : ℕ = c.place_of-i.result in
    let some : 0 < length cs = let ne = eqb-false _ _ (sym c.is_empty.ensures ∙ c.if-is_empty.false) in omega (arith, ne, c.in_ok-page.page.children.ok.0) in
    let child : c.index-child.result.now ≡ get_or cs i 0 = child_is ps cs i c.index-child.result.now c.in_ok-page.ensures.written.branches some c.place_of-i.ensures.inside c.index-child.ensures in
    let e = err_from_is_err_and c.from_residual-in_err-taken.result c.from_residual-in_err-taken.ensures.1 in
    if_err c.from_residual-in_err-taken.result e.0 _ e.1
    (λ q d m held file.
    let n = c.load.ensures.shown.told m held in
    let shows = n.2 file in
    pair_up (node_lent place c.load.new.cache n.0) (node_lent place c.args.cache.now m) p c.args.at c.index-child.result.now q shows.shown
    (goes_into (node_lent place c.args.cache.now m) (goes_behind p) c.args.at i c.index-child.result.now ps cs (c.in_ok-page.ensures.node m held (can_ask c.args.cache.now m c.args.at place.block_length file)) c.in_ok-page.ensures.written.branches some c.place_of-i.ensures.inside
    (subst (λ (q : Pair). AreBefore q (take i ps)) same c.place_of-i.ensures.before) (halts_behind p (drop i ps) (subst (λ (q : Pair). BeginsBehind q (drop i ps)) same c.place_of-i.ensures.behind)) child)
    (c.in_err-taken.ensures.damaged q (sym e.2 ∙ d) n.0 n.1 shows.file))

pub returns-in_err-left-clause-damaged : goal.returns-in_err-left-clause-damaged
returns-in_err-left-clause-damaged g t c =
    let place = c.args.task.now.setup.place in
    let p : Pair = c.args.task.now.pair.now in
    let same : pair_with (key_front c.code-code.result.now) p.row ≡ p = pair_again c.code-code.result.now p.row p c.code-code.ensures.key c.code-code.ensures.value refl in
    let ps : List Pair = c.in_ok-page.page.pairs in
    let cs : List ℕ = c.in_ok-page.page.children.items in
    let i : ℕ = c.place_of-i.result in
    let some : 0 < length cs = let ne = eqb-false _ _ (sym c.is_empty.ensures ∙ c.if-is_empty.false) in omega (arith, ne, c.in_ok-page.page.children.ok.0) in
    let child : c.index-child.result.now ≡ get_or cs i 0 = child_is ps cs i c.index-child.result.now c.in_ok-page.ensures.written.branches some c.place_of-i.ensures.inside c.index-child.ensures in
    let e = err_from_is_err_and c.from_residual-in_err-left.result c.from_residual-in_err-left.ensures.1 in
    if_err c.from_residual-in_err-left.result e.0 _ e.1
    (λ q d m held file. inl (beside_here (node_lent place c.args.cache.now m) (goes_behind p) c.args.at c.index-child.result.now q ps cs (c.in_ok-page.ensures.node m held (can_ask c.args.cache.now m c.args.at place.block_length file))
    (goes_into (node_lent place c.args.cache.now m) (goes_behind p) c.args.at i c.index-child.result.now ps cs (c.in_ok-page.ensures.node m held (can_ask c.args.cache.now m c.args.at place.block_length file)) c.in_ok-page.ensures.written.branches some c.place_of-i.ensures.inside
    (subst (λ (q : Pair). AreBefore q (take i ps)) same c.place_of-i.ensures.before) (halts_behind p (drop i ps) (subst (λ (q : Pair). BeginsBehind q (drop i ps)) same c.place_of-i.ensures.behind)) child)
    (subst (λ (k : ℕ). AreNeighbours k q cs) (sym child) (c.in_err-left.ensures.beside q (sym e.2 ∙ d)))))

pub returns-in_err-made-clause-others : goal.returns-in_err-made-clause-others
returns-in_err-made-clause-others g t c =
    let one = told_then (g.F.Files.holds c.args.files.now) (g.F.Files.holds c.load.new.files) (g.F.Files.holds c.without_last.new.files) (OthersStay c.args.cache.now.name) (OthersStay c.load.new.cache.name) (OthersStay c.args.cache.now.name) c.load.ensures.others c.without_last.ensures.others
    (λ m n k before after q other. after q (λ e. other (e ∙ c.load.ensures.name)) ∙ before q other) in
    told_then (g.F.Files.holds c.args.files.now) (g.F.Files.holds c.without_last.new.files) (g.F.Files.holds c.write_child.new.files) (OthersStay c.args.cache.now.name) (OthersStay c.without_last.new.cache.name) (OthersStay c.args.cache.now.name) one c.write_child.ensures.others
    (λ m n k before after q other. after q (λ e. other (e ∙ c.without_last.ensures.name ∙ c.load.ensures.name)) ∙ before q other)

pub returns-in_default-clause-quiet : goal.returns-in_default-clause-quiet
returns-in_default-clause-quiet g t c =
    reads_on (g.F.Files.holds c.args.files.now) (g.F.Files.holds c.load.new.files) (g.F.Files.holds c.without_pair-2.new.files) c.args.cache.now c.load.new.cache c.without_pair-2.new.cache c.load.ensures.cache
    (if_none c.in_ok-taken.taken (ReadsOnly (g.F.Files.holds c.load.new.files) (g.F.Files.holds c.without_pair-2.new.files) c.load.new.cache c.without_pair-2.new.cache) c.in_default.is c.in_ok-taken.ensures.quiet)

pub returns-in_err-node-clause-others : goal.returns-in_err-node-clause-others
returns-in_err-node-clause-others g t c =
    others_on (g.F.Files.holds c.args.files.now) (g.F.Files.holds c.load.new.files) (g.F.Files.holds c.without_last.new.files) c.args.cache.now.name c.load.new.cache.name c.load.ensures.name c.load.ensures.others c.without_last.ensures.others

pub returns-in_err-node-clause-counted : goal.returns-in_err-node-clause-counted
returns-in_err-node-clause-counted g t c = counts_on c.args.cache.now c.load.new.cache c.without_last.new.cache c.load.ensures.counted c.without_last.ensures.counted

pub returns-in_err-made-clause-counted : goal.returns-in_err-made-clause-counted
returns-in_err-made-clause-counted g t c = counts_on c.args.cache.now c.without_last.new.cache c.write_child.new.cache (counts_on c.args.cache.now c.load.new.cache c.without_last.new.cache c.load.ensures.counted c.without_last.ensures.counted) c.write_child.ensures.counted

pub returns-in_err-made-clause-cause : goal.returns-in_err-made-clause-cause
returns-in_err-made-clause-cause g t c =
    let e = err_from_is_err_and c.from_residual-in_err-made.result c.from_residual-in_err-made.ensures.1 in
    cause_on File _ e.0 (g.F.Files.faults c.args.files.now) (g.F.Files.faults c.without_last.new.files) (g.F.Files.faults c.write_child.new.files) c.from_residual-in_err-made.result e.1 e.2 (omega (arith, c.load.ensures.cause.later, c.without_last.ensures.cause.later)) c.in_err-made.ensures.cause

pub returns-then-found-clause-counted : goal.returns-then-found-clause-counted
returns-then-found-clause-counted g t c = counts_on c.args.cache.now c.without_last.new.cache c.write_child.new.cache (counts_on c.args.cache.now c.load.new.cache c.without_last.new.cache c.load.ensures.counted c.without_last.ensures.counted) c.write_child.ensures.counted

pub returns-then-found-clause-cause : goal.returns-then-found-clause-cause
returns-then-found-clause-cause g t c = cause_ok File (g.F.Files.faults c.args.files.now) (g.F.Files.faults c.write_child.new.files) _ (omega (arith, c.load.ensures.cause.later, c.without_last.ensures.cause.later, c.write_child.ensures.cause.later))

pub returns-in_err-left-clause-others : goal.returns-in_err-left-clause-others
returns-in_err-left-clause-others g t c =
    others_on (g.F.Files.holds c.args.files.now) (g.F.Files.holds c.without_pair-2.new.files) (g.F.Files.holds c.write_child-2.new.files) c.args.cache.now.name c.without_pair-2.new.cache.name (c.without_pair-2.ensures.name ∙ c.load.ensures.name) (others_on (g.F.Files.holds c.args.files.now) (g.F.Files.holds c.load.new.files) (g.F.Files.holds c.without_pair-2.new.files) c.args.cache.now.name c.load.new.cache.name c.load.ensures.name c.load.ensures.others c.without_pair-2.ensures.others) c.write_child-2.ensures.others

pub returns-in_err-left-clause-counted : goal.returns-in_err-left-clause-counted
returns-in_err-left-clause-counted g t c = counts_on c.args.cache.now c.without_pair-2.new.cache c.write_child-2.new.cache (counts_on c.args.cache.now c.load.new.cache c.without_pair-2.new.cache c.load.ensures.counted c.without_pair-2.ensures.counted) c.write_child-2.ensures.counted

pub returns-in_err-left-clause-cause : goal.returns-in_err-left-clause-cause
returns-in_err-left-clause-cause g t c =
    let e = err_from_is_err_and c.from_residual-in_err-left.result c.from_residual-in_err-left.ensures.1 in
    cause_on File _ e.0 (g.F.Files.faults c.args.files.now) (g.F.Files.faults c.without_pair-2.new.files) (g.F.Files.faults c.write_child-2.new.files) c.from_residual-in_err-left.result e.1 e.2 (omega (arith, c.load.ensures.cause.later, c.without_pair-2.ensures.cause.later)) c.in_err-left.ensures.cause

pub returns-clause-others : goal.returns-clause-others
returns-clause-others g t c =
    others_on (g.F.Files.holds c.args.files.now) (g.F.Files.holds c.without_pair-2.new.files) (g.F.Files.holds c.write_child-2.new.files) c.args.cache.now.name c.without_pair-2.new.cache.name (c.without_pair-2.ensures.name ∙ c.load.ensures.name) (others_on (g.F.Files.holds c.args.files.now) (g.F.Files.holds c.load.new.files) (g.F.Files.holds c.without_pair-2.new.files) c.args.cache.now.name c.load.new.cache.name c.load.ensures.name c.load.ensures.others c.without_pair-2.ensures.others) c.write_child-2.ensures.others

pub returns-clause-counted : goal.returns-clause-counted
returns-clause-counted g t c = counts_on c.args.cache.now c.without_pair-2.new.cache c.write_child-2.new.cache (counts_on c.args.cache.now c.load.new.cache c.without_pair-2.new.cache c.load.ensures.counted c.without_pair-2.ensures.counted) c.write_child-2.ensures.counted
