use Rattle.std.proofs.Common.{◌≡◌, ℕ, suc, eqb, ◌+◌, List, ◌++◌, length, take, drop, get_or, sym, ap, ◌∙◌, arith}
use Rattle.std.proofs.lemmas.Result.{err_from_is_err_and}
use Rattle.myi_keylist.specs.declared.pair.Pair.{Pair}
use Rattle.myi_insertion.specs.Written.{page_node}
use Rattle.myi_insertion.proofs.LoadLaws.{got, if_err, same_place}
use Rattle.myi_insertion.proofs.PageLaws.{no_pair}
use Rattle.myi_insertion.proofs.RemovalLaws.{branching, beside_stands, beside_joint, beside_holds, joint_holds, joint_written, never_beside, never_uneven, same_flag, other_flag, given_child, place_whole}
use Rattle.myi_insertion.proofs.DamageLaws.{neighbours, beside_at}
use Rattle.myi_insertion.proofs.removal.join_child.Goals as goal

pub returns-in_err-other-clause-never : goal.returns-in_err-other-clause-never
returns-in_err-other-clause-never g c =
    let place = c.args.setup.place in
    let p = c.args.pending.now in
    let cs : List ℕ = p.page.now.children.items in
    let can = c.requires.pending in
    let e = err_from_is_err_and c.from_residual.result c.from_residual.ensures.1 in
    if_err c.from_residual.result e.0 _ e.1
    (λ q d. never_beside place c.args.cache.now (g.F.Files.holds c.args.files.now) p.i c.place_beside-beside.result p.page.now.pairs cs p.inner.now.pairs p.inner.now.children.items c.args.room.now
    (beside_stands p.i c.place_beside-beside.result p.page.now.pairs cs p.inner.now.pairs p.inner.now.children.items (branching place.rec_ref p.page.now.pairs cs can.page can.some) can.inside can.page.some
    (λ e. c.place_beside-beside.ensures.first e ∙ ap (λ (t : List ℕ). get_or t 1 0) c.deref.ensures.value) (λ k e. c.place_beside-beside.ensures.second k e ∙ ap (λ (t : List ℕ). get_or t k 0) c.deref.ensures.value))
    (c.in_err-other.ensures.damaged q (sym e.2 ∙ d)).1)

pub returns-then-is_empty-clause-never : goal.returns-then-is_empty-clause-never
returns-then-is_empty-clause-never g c = λ q damaged.
    let place = c.args.setup.place in
    let p = c.args.pending.now in
    let cs : List ℕ = p.page.now.children.items in
    let can = c.requires.pending in
    let other = c.in_ok-other.other in
    never_uneven place c.args.cache.now (g.F.Files.holds c.args.files.now) (g.F.Files.holds c.load.new.files) c.load.new.cache p.i c.place_beside-beside.result p.page.now.pairs cs p.inner.now.pairs p.inner.now.children.items other.pairs other.children.items c.args.room.now
    (λ m held pages room can here. got place c.args.cache.now m pages room (g.F.Files.holds c.args.files.now) (g.F.Files.holds c.load.new.files) c.load.new.cache c.place_beside-beside.result (page_node other) c.requires.placed held c.in_ok-other.ensures.node c.load.ensures.stays c.load.ensures.added c.load.ensures.others c.load.ensures.name can here)
    c.in_ok-other.ensures.written.branches
    (beside_stands p.i c.place_beside-beside.result p.page.now.pairs cs p.inner.now.pairs p.inner.now.children.items (branching place.rec_ref p.page.now.pairs cs can.page can.some) can.inside can.page.some
    (λ e. c.place_beside-beside.ensures.first e ∙ ap (λ (t : List ℕ). get_or t 1 0) c.deref.ensures.value) (λ k e. c.place_beside-beside.ensures.second k e ∙ ap (λ (t : List ℕ). get_or t k 0) c.deref.ensures.value))
    (λ even. other_flag c.is_empty.result c.is_empty-2.result c.if-is_empty.true (c.is_empty.ensures ∙ ap (λ (n : ℕ). eqb n 0) other.children.ok.0 ∙ even ∙ sym (c.is_empty-2.ensures ∙ ap (λ (n : ℕ). eqb n 0) p.inner.now.children.ok.0)))

pub settle-requires-clause-page : goal.settle-requires-clause-page
settle-requires-clause-page g c = λ κs lives.
    let place = c.args.setup.place in
    let p = c.args.pending.now in
    let can = c.requires.pending in
    let other = c.in_ok-other.other in
    let even : eqb (length other.children.items) 0 ≡ eqb (length p.inner.now.children.items) 0 = ap (λ (n : ℕ). eqb n 0) (sym other.children.ok.0) ∙ sym c.is_empty.ensures ∙ same_flag c.is_empty.result c.is_empty-2.result c.if-is_empty.false ∙ c.is_empty-2.ensures ∙ ap (λ (n : ℕ). eqb n 0) p.inner.now.children.ok.0 in
    beside_holds place.rec_ref p.i c.saturating_sub-left.result p.page.now.pairs p.page.now.children.items p.inner.now.pairs p.inner.now.children.items other.pairs other.children.items c.in_ok-joined.joined.pairs c.in_ok-joined.joined.children.items
    can.page can.inside c.saturating_sub-left.ensures can.inner c.in_ok-other.ensures.written even (c.in_ok-joined.ensures.first no_pair, c.in_ok-joined.ensures.second no_pair)

pub returns-clause-written : goal.returns-clause-written
returns-clause-written g c =
    let place = c.args.setup.place in
    let p = c.args.pending.now in
    let cs : List ℕ = p.page.now.children.items in
    let ps : List Pair = p.page.now.pairs in
    let can = c.requires.pending in
    let other = c.in_ok-other.other in
    let left : ℕ = c.saturating_sub-left.result in
    let count : length cs ≡ suc (length ps) = branching place.rec_ref ps cs can.page can.some in
    let first = λ (e : p.i ≡ 0). c.place_beside-beside.ensures.first e ∙ ap (λ (t : List ℕ). get_or t 1 0) c.deref.ensures.value in
    let second = λ (k : ℕ) (e : p.i ≡ suc k). c.place_beside-beside.ensures.second k e ∙ ap (λ (t : List ℕ). get_or t k 0) c.deref.ensures.value in
    joint_written place c.args.cache.now (g.F.Files.holds c.args.files.now) (g.F.Files.holds c.load.new.files) (g.F.Files.holds c.settle.new.files) c.load.new.cache c.settle.new.cache p.i left c.place_beside-beside.result ps c.in_ok-made.made.pairs cs c.in_ok-made.made.children.items p.inner.now.pairs p.inner.now.children.items other.pairs other.children.items c.in_ok-joined.joined.pairs c.in_ok-joined.joined.children.items c.in_ok-strip.strip.places.items c.in_ok-strip.strip.separators c.args.room.now c.settle.new.room c.give_page.new.room
    (let l = c.requires.placed.least in omega arith)
    (λ m held pages room can here. got place c.args.cache.now m pages room (g.F.Files.holds c.args.files.now) (g.F.Files.holds c.load.new.files) c.load.new.cache c.place_beside-beside.result (page_node other) c.requires.placed held c.in_ok-other.ensures.node c.load.ensures.stays c.load.ensures.added c.load.ensures.others c.load.ensures.name can here)
    (beside_stands p.i c.place_beside-beside.result ps cs p.inner.now.pairs p.inner.now.children.items count can.inside can.page.some first second)
    (beside_joint p.i left c.place_beside-beside.result ps cs p.inner.now.pairs p.inner.now.children.items other.pairs other.children.items c.in_ok-joined.joined.pairs c.in_ok-joined.joined.children.items count can.inside can.page.some c.saturating_sub-left.ensures first second
    (c.in_ok-joined.ensures.first no_pair, c.in_ok-joined.ensures.second no_pair) c.requires.empty c.in_ok-other.ensures.written.branches)
    c.in_ok-strip.ensures.settles (given_child place.block_length p.i cs c.index.result.now c.settle.new.room c.give_page.new.room (omega (arith, can.inside, count)) c.index.ensures c.in_ok-give_page.ensures.given) c.in_ok-made.ensures.pairs
    (c.in_ok-made.ensures.children ∙ ap (λ (t : List ℕ). (take left cs ++ t) ++ drop (left + 2) cs) c.deref-2.ensures.value)

pub returns-clause-shape : goal.returns-clause-shape
returns-clause-shape g c =
    let p = c.args.pending.now in
    let cs : List ℕ = p.page.now.children.items in
    let can = c.requires.pending in
    let left : ℕ = c.saturating_sub-left.result in
    joint_holds c.args.setup.place.rec_ref left c.place_beside-beside.result p.page.now.pairs c.in_ok-made.made.pairs cs c.in_ok-made.made.children.items c.in_ok-strip.strip.places.items c.in_ok-strip.strip.separators can.page can.some
    (let k = can.page.some in omega (arith, can.inside, c.saturating_sub-left.ensures)) c.in_ok-strip.ensures.shape c.in_ok-made.ensures.pairs (c.in_ok-made.ensures.children ∙ ap (λ (t : List ℕ). (take left cs ++ t) ++ drop (left + 2) cs) c.deref-2.ensures.value)

pub returns-clause-whole : goal.returns-clause-whole
returns-clause-whole g c =
    let p = c.args.pending.now in
    let can = c.requires.pending in
    c.give_page.ensures.whole (place_whole p.i p.page.now.children.items c.index.result.now can.page.places (omega (arith, can.inside, branching c.args.setup.place.rec_ref p.page.now.pairs p.page.now.children.items can.page can.some)) c.index.ensures) c.settle.ensures.whole

pub returns-in_err-give_page-clause-whole : goal.returns-in_err-give_page-clause-whole
returns-in_err-give_page-clause-whole g c =
    let p = c.args.pending.now in
    let can = c.requires.pending in
    c.give_page.ensures.whole (place_whole p.i p.page.now.children.items c.index.result.now can.page.places (omega (arith, can.inside, branching c.args.setup.place.rec_ref p.page.now.pairs p.page.now.children.items can.page can.some)) c.index.ensures) c.settle.ensures.whole

pub returns-in_err-made-clause-whole : goal.returns-in_err-made-clause-whole
returns-in_err-made-clause-whole g c =
    let p = c.args.pending.now in
    let can = c.requires.pending in
    c.give_page.ensures.whole (place_whole p.i p.page.now.children.items c.index.result.now can.page.places (omega (arith, can.inside, branching c.args.setup.place.rec_ref p.page.now.pairs p.page.now.children.items can.page can.some)) c.index.ensures) c.settle.ensures.whole

pub returns-in_err-other-clause-beside : goal.returns-in_err-other-clause-beside
returns-in_err-other-clause-beside g c =
    let p = c.args.pending.now in
    let cs : List ℕ = p.page.now.children.items in
    let can = c.requires.pending in
    let e = err_from_is_err_and c.from_residual.result c.from_residual.ensures.1 in
    if_err c.from_residual.result e.0 _ e.1
    (λ q d. beside_at p.i c.place_beside-beside.result q cs (c.in_err-other.ensures.damaged q (sym e.2 ∙ d)).0
    (neighbours p.i c.place_beside-beside.result p.page.now.pairs cs can.page.branches can.some can.page.some can.inside
    (λ e. c.place_beside-beside.ensures.first e ∙ ap (λ (t : List ℕ). get_or t 1 0) c.deref.ensures.value) (λ k e. c.place_beside-beside.ensures.second k e ∙ ap (λ (t : List ℕ). get_or t k 0) c.deref.ensures.value)))

pub returns-then-is_empty-clause-beside : goal.returns-then-is_empty-clause-beside
returns-then-is_empty-clause-beside g c = λ q damaged.
    let p = c.args.pending.now in
    let cs : List ℕ = p.page.now.children.items in
    let can = c.requires.pending in
    beside_at p.i c.place_beside-beside.result q cs (same_place c.place_beside-beside.result q damaged)
    (neighbours p.i c.place_beside-beside.result p.page.now.pairs cs can.page.branches can.some can.page.some can.inside
    (λ e. c.place_beside-beside.ensures.first e ∙ ap (λ (t : List ℕ). get_or t 1 0) c.deref.ensures.value) (λ k e. c.place_beside-beside.ensures.second k e ∙ ap (λ (t : List ℕ). get_or t k 0) c.deref.ensures.value))
