use Rattle.std.proofs.Common.{◌≡◌, ℕ, ◌+◌, ◌<◌, List, [], ◌∷◌, ◌++◌, Some, None, length, get_or, take, drop, refl, sym, ap, subst, ◌∙◌, arith, inl, inr}
use Rattle.std.specs.Prelude.{is_some}
use Rattle.myi_base.specs.Holding.{OthersStay}
use Rattle.myi_base.proofs.CallerLemmas.{told_then}
use Rattle.myi_keylist.specs.declared.pair.Pair.{Pair}
use Rattle.myi_insertion.specs.Spots.{with_pair}
use Rattle.std.proofs.lemmas.Result.{err_from_is_err_and}
use Rattle.myi_btree.specs.Walk.{node_with}
use Rattle.myi_btree.specs.Nodes.{node_in}
use Rattle.myi_btree.specs.CachedTrees.{node_lent}
use Rattle.myi_insertion.proofs.LoadLaws.{got, can_get, if_err, not_damaged, others_on, cause_on, cause_ok}
use Rattle.myi_btree.specs.declared.fault.TreeFault.TheVariants.{File}
use Rattle.myi_search.proofs.CallerLemmas.{counts_on}
use Rattle.myi_insertion.proofs.SplitLaws.{strip_written}
use Rattle.myi_insertion.proofs.PuttingLaws.{Inserts, into_leaf, into_node, in_root, no_root, Never, never_below}
use Rattle.myi_insertion.specs.Written.{IsStripOf}
use Rattle.myi_insertion.proofs.SameNode.{into_same}
use Rattle.myi_insertion.specs.Damage.{goes_behind}
use Rattle.myi_insertion.proofs.DamageLaws.{can_ask, halts_behind, goes_into, lacks_up, lacks_here}
use Rattle.myi_insertion.proofs.SpotLaws.{spot_leaf, spot_node, same_node, node_there}
use Rattle.myi_insertion.proofs.insertion.+insert_at.Goals as goal

pub returns-in_default-clause-stands : goal.returns-in_default-clause-stands
returns-in_default-clause-stands g t c = λ m held h w walk can sorted.
    let place = c.args.task.now.setup.place in
    let p : Pair = c.args.task.now.pair.now in
    let e : node_lent place c.args.cache.now m c.args.at ≡ node_in place.rec_ref c.in_ok-page.page.bytes.items = c.in_ok-page.ensures.node m held (can_get place c.args.cache.now m w.pages c.args.room.now c.args.at can (in_root (node_lent place c.args.cache.now m) h c.args.at w walk)) in
    let r = c.in_ok-page.ensures.spot (node_there place.rec_ref c.in_ok-page.page.bytes.items (λ none. no_root (node_lent place c.args.cache.now m) h c.args.at w walk (e ∙ none))) in
    let i : ℕ = c.in_ok-page.page.spot.index in
    let none : r.children ≡ [] = spot_leaf place.rec_ref c.in_ok-page.page.bytes.items p c.in_ok-page.page.spot r c.in_default.is in
    let leaf = r.stands ∙ ap (λ (cs : List ℕ). Some (node_with r.pairs cs)) none in
    (into_leaf c.entries_fit.ensures.part place p c.args.cache.now (g.F.Files.holds c.args.files.now) (g.F.Files.holds c.pass.new.files) (g.F.Files.holds c.put_leaf.new.files) c.pass.new.cache c.put_leaf.new.cache c.args.at i r.pairs (with_pair i p r.pairs) r.children [] c.in_ok-strip.strip.places.items c.in_ok-strip.strip.separators c.args.room.now c.put_leaf.new.room
    (let l = c.requires.placed.least in omega arith)
    (λ m held pages room can here. got place c.args.cache.now m pages room (g.F.Files.holds c.args.files.now) (g.F.Files.holds c.pass.new.files) c.pass.new.cache c.args.at (node_with r.pairs r.children) c.requires.placed held (λ m held can. c.in_ok-page.ensures.node m held can ∙ r.stands) c.pass.ensures.stays c.pass.ensures.added c.pass.ensures.others c.pass.ensures.name can here)
    r.written.branches none r.before r.behind refl refl
    (λ m held height xs below stand can. c.in_ok-strip.ensures.settles m held r.pairs leaf height xs below stand can))
    m held h w walk can sorted

pub with_strip-requires-clause-inside : goal.with_strip-requires-clause-inside
with_strip-requires-clause-inside g t c =
    let r = c.in_ok-page.ensures.spot (ap is_some (sym c.in_ok-node.ensures.node)) in
    let same = same_node c.in_ok-node.node.pairs r.pairs c.in_ok-node.node.children.items r.children _ c.in_ok-node.ensures.node r.stands in
    omega (arith, r.inside, ap length same.0)

pub with_strip-requires-clause-child : goal.with_strip-requires-clause-child
with_strip-requires-clause-child g t c =
    let place = c.args.task.now.setup.place in
    let r = c.in_ok-page.ensures.spot (ap is_some (sym c.in_ok-node.ensures.node)) in
    let same = same_node c.in_ok-node.node.pairs r.pairs c.in_ok-node.node.children.items r.children _ c.in_ok-node.ensures.node r.stands in
    let next = spot_node place.rec_ref c.in_ok-page.page.bytes.items c.args.task.now.pair.now c.in_ok-page.page.spot c.in-Some.child r c.in-Some.is in
    omega (arith, next.0, ap length same.1)

pub settle-requires-clause-page : goal.settle-requires-clause-page
settle-requires-clause-page g t c = λ κs lives.
    let place = c.args.task.now.setup.place in
    let r = c.in_ok-page.ensures.spot (ap is_some (sym c.in_ok-node.ensures.node)) in
    let i : ℕ = c.in_ok-page.page.spot.index in
    let node = c.in_ok-node.node in
    let same = same_node node.pairs r.pairs node.children.items r.children _ c.in_ok-node.ensures.node r.stands in
    let next = spot_node place.rec_ref c.in_ok-page.page.bytes.items c.args.task.now.pair.now c.in_ok-page.page.spot c.in-Some.child r c.in-Some.is in
    strip_written place.rec_ref i c.in-Some.child node.pairs c.in_ok-grown.grown.pairs node.children.items c.in_ok-grown.grown.children.items c.in-Ok.strip.places.items c.in-Ok.strip.separators
    c.in_ok-node.ensures.written (omega (arith, r.inside, ap length same.0)) (omega (arith, next.0, ap length same.1)) c.in-Ok.ensures.shape c.in_ok-grown.ensures.pairs
    (c.in_ok-grown.ensures.children ∙ ap (λ (t : List ℕ). (take i node.children.items ++ t) ++ drop (i + 1) node.children.items) c.deref.ensures.value)

pub returns-clause-stands : goal.returns-clause-stands
returns-clause-stands g t c =
    let place = c.args.task.now.setup.place in
    let p : Pair = c.args.task.now.pair.now in
    let r = c.in_ok-page.ensures.spot (ap is_some (sym c.in_ok-node.ensures.node)) in
    let i : ℕ = c.in_ok-page.page.spot.index in
    let node = c.in_ok-node.node in
    let same = same_node node.pairs r.pairs node.children.items r.children _ c.in_ok-node.ensures.node r.stands in
    let next = spot_node place.rec_ref c.in_ok-page.page.bytes.items p c.in_ok-page.page.spot c.in-Some.child r c.in-Some.is in
    into_node c.entries_fit.ensures.part place p c.args.cache.now (g.F.Files.holds c.args.files.now) (g.F.Files.holds c.pass.new.files) (g.F.Files.holds c.insert_at.new.files) (g.F.Files.holds c.settle.new.files) c.pass.new.cache c.insert_at.new.cache c.settle.new.cache c.args.at i r.pairs c.in_ok-grown.grown.pairs r.children c.in_ok-grown.grown.children.items c.in-Ok.strip.places.items c.in_ok-made.made.places.items c.in-Ok.strip.separators c.in_ok-made.made.separators c.args.room.now c.insert_at.new.room c.settle.new.room
    (let l = c.requires.placed.least in omega arith)
    (λ m held pages room can here. got place c.args.cache.now m pages room (g.F.Files.holds c.args.files.now) (g.F.Files.holds c.pass.new.files) c.pass.new.cache c.args.at (node_with r.pairs r.children) c.requires.placed held (λ m held can. c.in_ok-page.ensures.node m held can ∙ r.stands) c.pass.ensures.stays c.pass.ensures.added c.pass.ensures.others c.pass.ensures.name can here)
    r.written.branches (omega (arith, next.0)) r.inside r.before r.behind
    (subst (λ (n : ℕ). Inserts place p c.pass.new.cache (g.F.Files.holds c.pass.new.files) c.args.room.now n (g.F.Files.holds c.insert_at.new.files) c.insert_at.new.cache c.insert_at.new.room c.in-Ok.strip.places.items c.in-Ok.strip.separators) next.1 c.in-Ok.ensures.stands)
    (c.in_ok-grown.ensures.pairs ∙ ap (λ (t : List Pair). (take i t ++ c.in-Ok.strip.separators) ++ drop i t) same.0)
    (c.in_ok-grown.ensures.children ∙ ap (λ (t : List ℕ). (take i node.children.items ++ t) ++ drop (i + 1) node.children.items) c.deref.ensures.value ∙ ap (λ (t : List ℕ). (take i t ++ c.in-Ok.strip.places.items) ++ drop (i + 1) t) same.1)
    c.in_ok-made.ensures.settles

pub returns-in_err-page-clause-never : goal.returns-in_err-page-clause-never
returns-in_err-page-clause-never g t c =
    let place = c.args.task.now.setup.place in
    let e = err_from_is_err_and c.from_residual.result c.from_residual.ensures.1 in
    if_err c.from_residual.result e.0 _ e.1
    (λ p d m held h w walk can sorted. no_root (node_lent place c.args.cache.now m) h c.args.at w walk
    ((c.in_err-page.ensures.damaged p (sym e.2 ∙ d)).1 m held (can_get place c.args.cache.now m w.pages c.args.room.now c.args.at can (in_root (node_lent place c.args.cache.now m) h c.args.at w walk))))

pub returns-in-Err-clause-never : goal.returns-in-Err-clause-never
returns-in-Err-clause-never g t c = λ p d m held h w walk can sorted.
    let place = c.args.task.now.setup.place in
    let i : ℕ = c.in_ok-page.page.spot.index in
    let e : node_lent place c.args.cache.now m c.args.at ≡ node_in place.rec_ref c.in_ok-page.page.bytes.items = c.in_ok-page.ensures.node m held (can_get place c.args.cache.now m w.pages c.args.room.now c.args.at can (in_root (node_lent place c.args.cache.now m) h c.args.at w walk)) in
    let there = λ (none : node_in place.rec_ref c.in_ok-page.page.bytes.items ≡ None). no_root (node_lent place c.args.cache.now m) h c.args.at w walk (e ∙ none) in
    let r = c.in_ok-page.ensures.spot (node_there place.rec_ref c.in_ok-page.page.bytes.items there) in
    let next = spot_node place.rec_ref c.in_ok-page.page.bytes.items c.args.task.now.pair.now c.in_ok-page.page.spot c.in-Some.child r c.in-Some.is in
    elim (c.fault_from.ensures.damaged p d) [
      | inl here ↦ there here.1
      | inr below ↦ never_below place c.args.cache.now (g.F.Files.holds c.args.files.now) (g.F.Files.holds c.pass.new.files) c.pass.new.cache c.args.at i r.pairs r.children c.args.room.now (let l = c.requires.placed.least in omega arith)
          (λ m held pages room can here. got place c.args.cache.now m pages room (g.F.Files.holds c.args.files.now) (g.F.Files.holds c.pass.new.files) c.pass.new.cache c.args.at (node_with r.pairs r.children) c.requires.placed held (λ m held can. c.in_ok-page.ensures.node m held can ∙ r.stands) c.pass.ensures.stays c.pass.ensures.added c.pass.ensures.others c.pass.ensures.name can here)
          r.written.branches (omega (arith, next.0)) r.inside
          (subst (λ (n : ℕ). Never place c.pass.new.cache (g.F.Files.holds c.pass.new.files) c.args.room.now n) next.1 (c.in-Err.ensures.never p below.0)) m held h w walk can sorted
    ]

pub returns-in_err-page-clause-damaged : goal.returns-in_err-page-clause-damaged
returns-in_err-page-clause-damaged g t c =
    let place = c.args.task.now.setup.place in
    let e = err_from_is_err_and c.from_residual.result c.from_residual.ensures.1 in
    if_err c.from_residual.result e.0 _ e.1
    (λ p d m held file.
    let missed = c.in_err-page.ensures.damaged p (sym e.2 ∙ d) in
    lacks_here (node_lent place c.args.cache.now m) (goes_behind c.args.task.now.pair.now) c.args.at p missed.0 (missed.1 m held (can_ask c.args.cache.now m c.args.at place.block_length file)))

pub returns-in-Err-clause-damaged : goal.returns-in-Err-clause-damaged
returns-in-Err-clause-damaged g t c = λ q d m held file.
    let place = c.args.task.now.setup.place in
    let p : Pair = c.args.task.now.pair.now in
    let i : ℕ = c.in_ok-page.page.spot.index in
    let e = c.in_ok-page.ensures.node m held (can_ask c.args.cache.now m c.args.at place.block_length file) in
    elim (c.fault_from.ensures.damaged q d) [
      | inl here ↦ lacks_here (node_lent place c.args.cache.now m) (goes_behind p) c.args.at q here.0 (e ∙ here.1)
      | inr below ↦
          let r = c.in_ok-page.ensures.spot below.1 in
          let next = spot_node place.rec_ref c.in_ok-page.page.bytes.items p c.in_ok-page.page.spot c.in-Some.child r c.in-Some.is in
          let n = c.pass.ensures.shown.told m held in
          let shows = n.2 file in
          lacks_up (node_lent place c.pass.new.cache n.0) (node_lent place c.args.cache.now m) (goes_behind p) c.args.at c.in-Some.child q shows.shown
          (goes_into (node_lent place c.args.cache.now m) (goes_behind p) c.args.at i c.in-Some.child r.pairs r.children (e ∙ r.stands) r.written.branches (omega (arith, next.0)) r.inside
          r.before (halts_behind p (drop i r.pairs) r.behind) next.1)
          (c.in-Err.ensures.damaged q below.0 n.0 n.1 shows.file)
    ]

pub returns-then-len-eq1-clause-stands : goal.returns-then-len-eq1-clause-stands
returns-then-len-eq1-clause-stands g t c = λ m held h w walk can sorted.
    let place = c.args.task.now.setup.place in
    let p : Pair = c.args.task.now.pair.now in
    let e : node_lent place c.args.cache.now m c.args.at ≡ node_in place.rec_ref c.in_ok-page.page.bytes.items = c.in_ok-page.ensures.node m held (can_get place c.args.cache.now m w.pages c.args.room.now c.args.at can (in_root (node_lent place c.args.cache.now m) h c.args.at w walk)) in
    let r = c.in_ok-page.ensures.spot (node_there place.rec_ref c.in_ok-page.page.bytes.items (λ none. no_root (node_lent place c.args.cache.now m) h c.args.at w walk (e ∙ none))) in
    let i : ℕ = c.in_ok-page.page.spot.index in
    let next = spot_node place.rec_ref c.in_ok-page.page.bytes.items p c.in_ok-page.page.spot c.in-Some.child r c.in-Some.is in
    (into_same place p c.args.cache.now (g.F.Files.holds c.args.files.now) (g.F.Files.holds c.pass.new.files) (g.F.Files.holds c.insert_at.new.files) c.pass.new.cache c.insert_at.new.cache c.args.at i r.pairs r.children c.in-Ok.strip.places.items c.in_ok-same.same.places.items c.in-Ok.strip.separators c.in_ok-same.same.separators c.args.room.now c.insert_at.new.room
    (let l = c.requires.placed.least in omega arith)
    (λ m held pages room can here. got place c.args.cache.now m pages room (g.F.Files.holds c.args.files.now) (g.F.Files.holds c.pass.new.files) c.pass.new.cache c.args.at (node_with r.pairs r.children) c.requires.placed held (λ m held can. c.in_ok-page.ensures.node m held can ∙ r.stands) c.pass.ensures.stays c.pass.ensures.added c.pass.ensures.others c.pass.ensures.name can here)
    r.written.branches (omega (arith, next.0)) r.inside r.before r.behind
    (subst (λ (n : ℕ). Inserts place p c.pass.new.cache (g.F.Files.holds c.pass.new.files) c.args.room.now n (g.F.Files.holds c.insert_at.new.files) c.insert_at.new.cache c.insert_at.new.room c.in-Ok.strip.places.items c.in-Ok.strip.separators) next.1 c.in-Ok.ensures.stands)
    (subst (λ (n : ℕ). IsStripOf place.rec_ref n c.in-Ok.strip.places.items c.in-Ok.strip.separators) next.1 c.in-Ok.ensures.shape)
    (omega arith) c.in_ok-same.ensures.places c.in_ok-same.ensures.separators)
    m held h w walk can sorted

pub returns-clause-others : goal.returns-clause-others
returns-clause-others g t c =
    let one = told_then (g.F.Files.holds c.args.files.now) (g.F.Files.holds c.pass.new.files) (g.F.Files.holds c.insert_at.new.files) (OthersStay c.args.cache.now.name) (OthersStay c.pass.new.cache.name) (OthersStay c.args.cache.now.name) c.pass.ensures.others c.insert_at.ensures.others
    (λ m n k before after q other. after q (λ e. other (e ∙ c.pass.ensures.name)) ∙ before q other) in
    told_then (g.F.Files.holds c.args.files.now) (g.F.Files.holds c.insert_at.new.files) (g.F.Files.holds c.settle.new.files) (OthersStay c.args.cache.now.name) (OthersStay c.insert_at.new.cache.name) (OthersStay c.args.cache.now.name) one c.settle.ensures.others
    (λ m n k before after q other. after q (λ e. other (e ∙ c.insert_at.ensures.name ∙ c.pass.ensures.name)) ∙ before q other)

pub returns-in_err-strip-clause-others : goal.returns-in_err-strip-clause-others
returns-in_err-strip-clause-others g t c =
    others_on (g.F.Files.holds c.args.files.now) (g.F.Files.holds c.pass.new.files) (g.F.Files.holds c.put_leaf.new.files) c.args.cache.now.name c.pass.new.cache.name c.pass.ensures.name c.pass.ensures.others c.put_leaf.ensures.others

pub returns-in_default-clause-others : goal.returns-in_default-clause-others
returns-in_default-clause-others g t c =
    others_on (g.F.Files.holds c.args.files.now) (g.F.Files.holds c.pass.new.files) (g.F.Files.holds c.put_leaf.new.files) c.args.cache.now.name c.pass.new.cache.name c.pass.ensures.name c.pass.ensures.others c.put_leaf.ensures.others

pub returns-in_err-same-clause-others : goal.returns-in_err-same-clause-others
returns-in_err-same-clause-others g t c =
    others_on (g.F.Files.holds c.args.files.now) (g.F.Files.holds c.pass.new.files) (g.F.Files.holds c.insert_at.new.files) c.args.cache.now.name c.pass.new.cache.name c.pass.ensures.name c.pass.ensures.others c.insert_at.ensures.others

pub returns-then-len-eq1-clause-others : goal.returns-then-len-eq1-clause-others
returns-then-len-eq1-clause-others g t c =
    others_on (g.F.Files.holds c.args.files.now) (g.F.Files.holds c.pass.new.files) (g.F.Files.holds c.insert_at.new.files) c.args.cache.now.name c.pass.new.cache.name c.pass.ensures.name c.pass.ensures.others c.insert_at.ensures.others

pub returns-in_err-grown-clause-others : goal.returns-in_err-grown-clause-others
returns-in_err-grown-clause-others g t c =
    others_on (g.F.Files.holds c.args.files.now) (g.F.Files.holds c.pass.new.files) (g.F.Files.holds c.insert_at.new.files) c.args.cache.now.name c.pass.new.cache.name c.pass.ensures.name c.pass.ensures.others c.insert_at.ensures.others

pub returns-in_err-made-clause-others : goal.returns-in_err-made-clause-others
returns-in_err-made-clause-others g t c =
    others_on (g.F.Files.holds c.args.files.now) (g.F.Files.holds c.insert_at.new.files) (g.F.Files.holds c.settle.new.files) c.args.cache.now.name c.insert_at.new.cache.name (c.insert_at.ensures.name ∙ c.pass.ensures.name) (others_on (g.F.Files.holds c.args.files.now) (g.F.Files.holds c.pass.new.files) (g.F.Files.holds c.insert_at.new.files) c.args.cache.now.name c.pass.new.cache.name c.pass.ensures.name c.pass.ensures.others c.insert_at.ensures.others) c.settle.ensures.others

pub returns-in_err-strip-clause-counted : goal.returns-in_err-strip-clause-counted
returns-in_err-strip-clause-counted g t c = counts_on c.args.cache.now c.pass.new.cache c.put_leaf.new.cache c.pass.ensures.counted c.put_leaf.ensures.counted

pub returns-in_default-clause-counted : goal.returns-in_default-clause-counted
returns-in_default-clause-counted g t c = counts_on c.args.cache.now c.pass.new.cache c.put_leaf.new.cache c.pass.ensures.counted c.put_leaf.ensures.counted

pub returns-then-len-eq1-clause-counted : goal.returns-then-len-eq1-clause-counted
returns-then-len-eq1-clause-counted g t c = counts_on c.args.cache.now c.pass.new.cache c.insert_at.new.cache c.pass.ensures.counted c.insert_at.ensures.counted

pub returns-in_err-grown-clause-counted : goal.returns-in_err-grown-clause-counted
returns-in_err-grown-clause-counted g t c = counts_on c.args.cache.now c.pass.new.cache c.insert_at.new.cache c.pass.ensures.counted c.insert_at.ensures.counted

pub returns-in_err-made-clause-counted : goal.returns-in_err-made-clause-counted
returns-in_err-made-clause-counted g t c = counts_on c.args.cache.now c.insert_at.new.cache c.settle.new.cache (counts_on c.args.cache.now c.pass.new.cache c.insert_at.new.cache c.pass.ensures.counted c.insert_at.ensures.counted) c.settle.ensures.counted

pub returns-clause-counted : goal.returns-clause-counted
returns-clause-counted g t c = counts_on c.args.cache.now c.insert_at.new.cache c.settle.new.cache (counts_on c.args.cache.now c.pass.new.cache c.insert_at.new.cache c.pass.ensures.counted c.insert_at.ensures.counted) c.settle.ensures.counted

pub returns-in_err-made-clause-cause : goal.returns-in_err-made-clause-cause
returns-in_err-made-clause-cause g t c =
    let e = err_from_is_err_and c.from_residual-in_err-made.result c.from_residual-in_err-made.ensures.1 in
    cause_on File _ e.0 (g.F.Files.faults c.args.files.now) (g.F.Files.faults c.insert_at.new.files) (g.F.Files.faults c.settle.new.files) c.from_residual-in_err-made.result e.1 e.2 (omega (arith, c.pass.ensures.cause.later, c.insert_at.ensures.cause.later)) c.in_err-made.ensures.cause

pub returns-clause-cause : goal.returns-clause-cause
returns-clause-cause g t c = cause_ok File (g.F.Files.faults c.args.files.now) (g.F.Files.faults c.settle.new.files) _ (omega (arith, c.pass.ensures.cause.later, c.insert_at.ensures.cause.later, c.settle.ensures.cause.later))

pub returns-in_err-made-clause-never : goal.returns-in_err-made-clause-never
returns-in_err-made-clause-never g t c =
    let e = err_from_is_err_and c.from_residual-in_err-made.result c.from_residual-in_err-made.ensures.1 in
    if_err c.from_residual-in_err-made.result e.0 _ e.1 (λ p d. absurd (not_damaged _ e.0 p c.in_err-made.ensures.faults (sym e.2) d))

pub returns-in_err-made-clause-damaged : goal.returns-in_err-made-clause-damaged
returns-in_err-made-clause-damaged g t c =
    let e = err_from_is_err_and c.from_residual-in_err-made.result c.from_residual-in_err-made.ensures.1 in
    if_err c.from_residual-in_err-made.result e.0 _ e.1 (λ p d. absurd (not_damaged _ e.0 p c.in_err-made.ensures.faults (sym e.2) d))

pub returns-in_err-strip-clause-never : goal.returns-in_err-strip-clause-never
returns-in_err-strip-clause-never g t c =
    let place = c.args.task.now.setup.place in
    let e = err_from_is_err_and c.from_residual-in_err-strip.result c.from_residual-in_err-strip.ensures.1 in
    if_err c.from_residual-in_err-strip.result e.0 _ e.1
    (λ p d m held h w walk can sorted. no_root (node_lent place c.args.cache.now m) h c.args.at w walk
    (c.in_ok-page.ensures.node m held (can_get place c.args.cache.now m w.pages c.args.room.now c.args.at can (in_root (node_lent place c.args.cache.now m) h c.args.at w walk)) ∙ (c.in_err-strip.ensures.damaged p (sym e.2 ∙ d)).1))

pub returns-in_err-strip-clause-damaged : goal.returns-in_err-strip-clause-damaged
returns-in_err-strip-clause-damaged g t c =
    let place = c.args.task.now.setup.place in
    let e = err_from_is_err_and c.from_residual-in_err-strip.result c.from_residual-in_err-strip.ensures.1 in
    if_err c.from_residual-in_err-strip.result e.0 _ e.1
    (λ p d m held file.
    let missed = c.in_err-strip.ensures.damaged p (sym e.2 ∙ d) in
    lacks_here (node_lent place c.args.cache.now m) (goes_behind c.args.task.now.pair.now) c.args.at p missed.0 (c.in_ok-page.ensures.node m held (can_ask c.args.cache.now m c.args.at place.block_length file) ∙ missed.1))

pub returns-in_err-node-clause-never : goal.returns-in_err-node-clause-never
returns-in_err-node-clause-never g t c =
    let place = c.args.task.now.setup.place in
    let e = err_from_is_err_and c.from_residual-in_err-node.result c.from_residual-in_err-node.ensures.1 in
    if_err c.from_residual-in_err-node.result e.0 _ e.1
    (λ p d m held h w walk can sorted. no_root (node_lent place c.args.cache.now m) h c.args.at w walk
    (c.in_ok-page.ensures.node m held (can_get place c.args.cache.now m w.pages c.args.room.now c.args.at can (in_root (node_lent place c.args.cache.now m) h c.args.at w walk)) ∙ (c.in_err-node.ensures.damaged p (sym e.2 ∙ d)).1))

pub returns-in_err-node-clause-damaged : goal.returns-in_err-node-clause-damaged
returns-in_err-node-clause-damaged g t c =
    let place = c.args.task.now.setup.place in
    let e = err_from_is_err_and c.from_residual-in_err-node.result c.from_residual-in_err-node.ensures.1 in
    if_err c.from_residual-in_err-node.result e.0 _ e.1
    (λ p d m held file.
    let missed = c.in_err-node.ensures.damaged p (sym e.2 ∙ d) in
    lacks_here (node_lent place c.args.cache.now m) (goes_behind c.args.task.now.pair.now) c.args.at p missed.0 (c.in_ok-page.ensures.node m held (can_ask c.args.cache.now m c.args.at place.block_length file) ∙ missed.1))

pub returns-in_err-node-clause-others : goal.returns-in_err-node-clause-others
returns-in_err-node-clause-others g t c =
    others_on (g.F.Files.holds c.args.files.now) (g.F.Files.holds c.pass.new.files) (g.F.Files.holds c.insert_at.new.files) c.args.cache.now.name c.pass.new.cache.name c.pass.ensures.name c.pass.ensures.others c.insert_at.ensures.others

pub returns-in_err-node-clause-counted : goal.returns-in_err-node-clause-counted
returns-in_err-node-clause-counted g t c = counts_on c.args.cache.now c.pass.new.cache c.insert_at.new.cache c.pass.ensures.counted c.insert_at.ensures.counted

pub returns-in-Err-clause-others : goal.returns-in-Err-clause-others
returns-in-Err-clause-others g t c =
    others_on (g.F.Files.holds c.args.files.now) (g.F.Files.holds c.pass.new.files) (g.F.Files.holds c.insert_at.new.files) c.args.cache.now.name c.pass.new.cache.name c.pass.ensures.name c.pass.ensures.others c.insert_at.ensures.others

pub returns-in-Err-clause-counted : goal.returns-in-Err-clause-counted
returns-in-Err-clause-counted g t c = counts_on c.args.cache.now c.pass.new.cache c.insert_at.new.cache c.pass.ensures.counted c.insert_at.ensures.counted
