use Rattle.std.proofs.Common.{Vec, Global, Option, ◌≡◌, ◌+◌, ◌-◌, ◌<◌, ◌≤◌, ℕ, Some, None, List, [], ◌∷◌, ◌++◌, length, take, drop, get_or, set, refl, sym, ap, subst, ◌∙◌, inr, arith}
use Rattle.std.specs.Prelude.{option_map, unwrap_or}
use Rattle.std.specs.List.{AllByRecursion}
use Rattle.std.proofs.lemmas.Bool.{eqb-true, eqb-false}
use Rattle.std.proofs.lemmas.List.{length-set, take_more_set, drop-set-lt, take_all}
use Rattle.std.proofs.lemmas.Result.{err_from_is_err_and}
use Rattle.myi_base.specs.Numbers.{AreBytes}
use Rattle.myi_base.specs.Holding.{Told, OthersStay, bytes_of}
use Rattle.myi_keypage.specs.Children.{with_children, CanTake}
use Rattle.myi_base.proofs.CallerLemmas.{told_same, told_then, told_back}
use Rattle.myi_keypage.specs.Page.{Page, IsPlace, page_bytes}
use Rattle.myi_keypage.specs.Views.{page_in}
use Rattle.myi_btree.specs.Nodes.{node_in}
use Rattle.myi_treecopy.specs.declared.fault.CopyFault.TheVariants.{File}
use Rattle.myi_treecopy.specs.Copying.{old_nodes, NoTreeWithin}
use Rattle.myi_treecopy.specs.Turns.{CopiesChildren}
use Rattle.myi_treecopy.proofs.PageLaws.{can_take, changed_page, node_changed, children_there, nothing_there, whole_buffer}
use Rattle.myi_treecopy.proofs.BytesLaws.{whole_bytes}
use Rattle.myi_treecopy.proofs.StepLaws.{begin, step, no_child, whole_tree, no_page, no_room, no_level, ends_before, if_err, cause_on, lacks, lacks_on, some_page, none_page, next_same, parts_at, one_more_taken, all_more, part_others}
use Rattle.myi_treecopy.proofs.copy.+lay.Goals.{else-levels-eq0-via-then-levels-eq0+else-not-is_empty, else-levels-eq0-via-else-levels-eq0}
use Rattle.myi_treecopy.proofs.copy.+lay.Goals as goal

pub returns-in_err-page-clause-never : goal.returns-in_err-page-clause-never
returns-in_err-page-clause-never g t c =
    let e = err_from_is_err_and c.from_residual.result c.from_residual.ensures.1 in
    if_err c.from_residual.result e.0 _ e.1
    (lacks c.args.at (λ m. g.F.Files.holds c.args.files.now ≡ Some m → old_nodes c.args.tree.now m c.args.at ≡ None) _ _ _ e.2 c.in_err-page.ensures.damaged
    (λ m none held. no_page c.args.tree.now c.args.levels c.args.at c.args.start m (none held)))

pub returns-in_default-clause-never : goal.returns-in_default-clause-never
returns-in_default-clause-never g t c =
    inr (
      c.args.at,
      refl,
      λ m held. no_page c.args.tree.now c.args.levels c.args.at c.args.start m
          (nothing_there c.args.tree.now.place.rec_ref c.args.tree.now.place.block_length c.args.at (bytes_of c.args.tree.now.old.now m) c.in_ok-page.page.items c.in_ok-page.ensures.whole (c.in_ok-page.ensures.bytes m held)
          (none_page (page_in c.args.tree.now.place.rec_ref c.in_ok-page.page.items)
          (sym (ap (option_map (λ (v : Vec ℕ Global). v.items)) c.in_default.is) ∙ c.in_ok-children.ensures ∙ ap (λ xs. option_map (λ (p : Page). p.children) (page_in c.args.tree.now.place.rec_ref xs)) c.deref-2.ensures.value))),
    )

pub returns-in_err-end-clause-never : goal.returns-in_err-end-clause-never
returns-in_err-end-clause-never g t c =
    let e = err_from_is_err_and c.from_residual-in_err-end.result c.from_residual-in_err-end.ensures.1 in
    if_err c.from_residual-in_err-end.result e.0 _ e.1
    (inr (c.args.at, e.2 ∙ c.in_err-end.ensures.damaged, λ m held. no_room c.args.tree.now c.args.levels c.args.at c.args.start m c.in_err-end.ensures.past))

pub loop-i-init : goal.loop-i-init
loop-i-init g t c =
    let first : ℕ = c.args.start + c.args.tree.now.place.block_length in
    record {
      rest = refl;
      count = refl;
      places = tt;
      aligned = omega (arith, c.in_ok-end.ensures.place, c.requires.whole, c.requires.made.placed.whole);
      low = omega (arith, c.in_ok-end.ensures.place);
      inside = c.in_ok-end.ensures.inside;
      later = c.read.ensures.cause.later;
      laid = subst (λ e. Told (g.F.Files.holds c.args.files.now) (g.F.Files.holds c.read.new.files) (CopiesChildren c.args.tree.now first e [] [])) (sym c.in_ok-end.ensures.place)
          (told_same (g.F.Files.holds c.args.files.now) (g.F.Files.holds c.read.new.files) (CopiesChildren c.args.tree.now first first [] []) c.read.ensures.holds (λ m held. begin c.args.tree.now c.args.start first m m refl (omega arith) (c.requires.short m held)));
    }

pub lay-requires-clause-whole : goal.lay-requires-clause-whole
lay-requires-clause-whole g t c κs within = c.loop-i.invariant.aligned

pub lay-requires-clause-short : goal.lay-requires-clause-short
lay-requires-clause-short g t c κs within = λ n is.
    let b = told_back (g.F.Files.holds c.args.files.now) (g.F.Files.holds c.loop-i.files) _ n c.loop-i.invariant.laid is in
    ends_before c.args.tree.now (c.args.start + c.args.tree.now.place.block_length) c.loop-i.end (take c.loop-i.i c.in-Some.children.items) (take c.loop-i.i c.loop-i.children.items) b.0 n b.2

pub returns-in_err-end-2-clause-others : goal.returns-in_err-end-2-clause-others
returns-in_err-end-2-clause-others g t c =
    told_then (g.F.Files.holds c.args.files.now) (g.F.Files.holds c.loop-i.files) (g.F.Files.holds c.lay.new.files) _ (OthersStay c.args.tree.now.new.now) (OthersStay c.args.tree.now.new.now) c.loop-i.invariant.laid c.lay.ensures.others
    (λ m n k l o q other. o q other ∙ l.others q other)

pub returns-in_err-end-2-clause-never : goal.returns-in_err-end-2-clause-never
returns-in_err-end-2-clause-never g t c =
    let tree = c.args.tree.now in
    let i : ℕ = c.loop-i.i in
    let cs : List ℕ = c.in-Some.children.items in
    let first : ℕ = c.args.start + tree.place.block_length in
    let xs : List ℕ = c.loop-i.children.items in
    let inv = c.loop-i.invariant in
    let lt : i < length xs = omega (arith, c.loop-i-test.true, c.loop-i.auto.i-end, c.len-i-end.ensures, c.in-Some.children.ok.0, inv.count) in
    let same = next_same i c.index-child.result.now xs cs inv.count lt inv.rest in
    let child : c.index-child.result.now ≡ get_or cs i c.index-child.result.now = c.index-child.ensures ∙ same.0 in
    let shown : Some cs ≡ option_map (λ (p : Page). p.children) (page_in tree.place.rec_ref c.in_ok-page.page.items) =
    sym (ap (option_map (λ (v : Vec ℕ Global). v.items)) c.in-Some.is) ∙ c.in_ok-children.ensures ∙ ap (λ ys. option_map (λ (p : Page). p.children) (page_in tree.place.rec_ref ys)) c.deref-2.ensures.value in
    let p = some_page (page_in tree.place.rec_ref c.in_ok-page.page.items) cs shown in
    let level : c.args.levels - 1 + 1 ≡ c.args.levels =
    elim c.else-levels-eq0.branch as (λ _. c.args.levels - 1 + 1 ≡ c.args.levels) [
      | else-levels-eq0-via-then-levels-eq0+else-not-is_empty w ↦ omega (arith, eqb-true _ _ (sym w.is_empty.ensures ∙ w.if-not-is_empty.false), c.in-Some.children.ok.0, lt, inv.count)
      | else-levels-eq0-via-else-levels-eq0 w ↦ omega (arith, w.if-levels-eq0.false)
    ] in
    let e = err_from_is_err_and c.from_residual-in_err-end-2.result c.from_residual-in_err-end-2.ensures.1 in
    if_err c.from_residual-in_err-end-2.result e.0 _ e.1
    (lacks_on (λ n. g.F.Files.holds c.loop-i.files ≡ Some n → NoTreeWithin tree (c.args.levels - 1) c.index-child.result.now c.loop-i.end n) _ _ _ e.2 c.in_err-end-2.ensures.never
    (λ no_tree m held.
    let l = c.loop-i.invariant.laid.told m held in
    no_child tree c.args.levels (c.args.levels - 1) c.args.at c.args.start first c.loop-i.end c.index-child.result.now (take i cs) (drop (i + 1) cs) (take i c.loop-i.children.items) m l.0 c.requires.made.apart refl
    (λ node there. children_there tree.place.rec_ref tree.place.block_length c.args.at (bytes_of tree.old.now m) c.in_ok-page.page.items p.0 node c.in_ok-page.ensures.whole (c.in_ok-page.ensures.bytes m held) p.1 there ∙ p.2 ∙ parts_at i c.index-child.result.now cs (omega (arith, lt, inv.count)) ∙ ap (λ x. take i cs ++ x ∷ drop (i + 1) cs) (sym child))
    l.2 (no_tree l.0 l.1) level))

pub returns-in_err-end-2-clause-cause : goal.returns-in_err-end-2-clause-cause
returns-in_err-end-2-clause-cause g t c =
    let e = err_from_is_err_and c.from_residual-in_err-end-2.result c.from_residual-in_err-end-2.ensures.1 in
    cause_on File _ e.0 (g.F.Files.faults c.args.files.now) (g.F.Files.faults c.loop-i.files) (g.F.Files.faults c.lay.new.files) c.from_residual-in_err-end-2.result e.1 e.2 c.loop-i.invariant.later c.in_err-end-2.ensures.cause

pub loop-i-preserved : goal.loop-i-preserved
loop-i-preserved g t c =
    let tree = c.args.tree.now in
    let i : ℕ = c.loop-i.i in
    let cs : List ℕ = c.in-Some.children.items in
    let end : ℕ = c.loop-i.end in
    let first : ℕ = c.args.start + tree.place.block_length in
    let xs : List ℕ = c.loop-i.children.items in
    let inv = c.loop-i.invariant in
    let lt : i < length xs = omega (arith, c.loop-i-test.true, c.loop-i.auto.i-end, c.len-i-end.ensures, c.in-Some.children.ok.0, inv.count) in
    let same = next_same i c.index-child.result.now xs cs inv.count lt inv.rest in
    let child : c.index-child.result.now ≡ get_or cs i c.index-child.result.now = c.index-child.ensures ∙ same.0 in
    record {
      rest = drop-set-lt (i + 1) xs i end (omega arith) ∙ same.1;
      count = length-set xs i end ∙ inv.count;
      places = subst (AllByRecursion IsPlace) (sym (take_more_set xs i end lt)) (all_more (take i xs) end inv.places (inv.aligned, omega (arith, inv.inside, c.type_inv.tree)));
      aligned = c.in_ok-end-2.ensures.place;
      low = omega (arith, c.in_ok-end-2.ensures.some, inv.low);
      inside = c.in_ok-end-2.ensures.inside;
      later = omega (arith, inv.later, c.lay.ensures.cause.later);
      laid = told_then (g.F.Files.holds c.args.files.now) (g.F.Files.holds c.loop-i.files) (g.F.Files.holds c.lay.new.files) _ _ _ inv.laid c.in_ok-end-2.ensures.copies
          (λ m n k l s. subst (λ ps. CopiesChildren tree first c.in_ok-end-2.end ps (take (i + 1) (set xs i end)) m k) (ap (λ x. take i cs ++ x ∷ []) child ∙ sym (one_more_taken i c.index-child.result.now cs (omega (arith, lt, inv.count))))
          (subst (λ ps. CopiesChildren tree first c.in_ok-end-2.end (take i cs ++ c.index-child.result.now ∷ []) ps m k) (sym (take_more_set xs i end lt))
          (step c.walks_depend_on_their_pages.ensures tree first end c.in_ok-end-2.end c.index-child.result.now (take i cs) (take i xs) m n k c.requires.made.apart l s)));
    }

pub put_children-requires-clause-page : goal.put_children-requires-clause-page
put_children-requires-clause-page g t c =
    let tree = c.args.tree.now in
    let cs : List ℕ = c.in-Some.children.items in
    let inv = c.loop-i.invariant in
    let shown : Some cs ≡ option_map (λ (p : Page). p.children) (page_in tree.place.rec_ref c.in_ok-page.page.items) =
    sym (ap (option_map (λ (v : Vec ℕ Global). v.items)) c.in-Some.is) ∙ c.in_ok-children.ensures ∙ ap (λ ys. option_map (λ (p : Page). p.children) (page_in tree.place.rec_ref ys)) c.deref-2.ensures.value in
    let p = some_page (page_in tree.place.rec_ref c.in_ok-page.page.items) cs shown in
    let all : AllByRecursion IsPlace c.loop-i.children.items = subst (AllByRecursion IsPlace) (take_all c.loop-i.i c.loop-i.children.items (omega (arith, c.loop-i-test.false, c.loop-i.auto.i-end, c.len-i-end.ensures, c.in-Some.children.ok.0, inv.count))) inv.places in
    let is = c.pages_read_back.ensures.page tree.place.rec_ref c.in_ok-page.page.items p.0 (subst AreBytes c.deref.ensures.value c.slices_are_bytes.ensures) p.1 in
    (p.0, is.text.0, subst (λ ns. CanTake tree.place.rec_ref ns p.0) (sym c.deref-3.ensures.value) (can_take tree.place.rec_ref c.in_ok-page.page.items c.loop-i.children.items p.0 is (inv.count ∙ ap length (sym p.2)) all), c.deref_mut.ensures.value ∙ is.text.1)

pub returns-in_err-write_at-clause-others : goal.returns-in_err-write_at-clause-others
returns-in_err-write_at-clause-others g t c =
    told_then (g.F.Files.holds c.args.files.now) (g.F.Files.holds c.loop-i.files) (g.F.Files.holds c.write_at.new.self) _ _ (OthersStay c.args.tree.now.new.now) c.loop-i.invariant.laid c.in_err-write_at.ensures.err
    (λ m n k l s q other. part_others c.args.tree.now.new.now c.args.start _ n k s q other ∙ l.others q other)

pub returns-clause-copies : goal.returns-clause-copies
returns-clause-copies g t c =
    let tree = c.args.tree.now in
    let cs : List ℕ = c.in-Some.children.items in
    let inv = c.loop-i.invariant in
    let page : List ℕ = c.in_ok-page.page.items in
    let new : List ℕ = c.put_children.new.page in
    let first : ℕ = c.args.start + tree.place.block_length in
    let shown : Some cs ≡ option_map (λ (p : Page). p.children) (page_in tree.place.rec_ref c.in_ok-page.page.items) =
    sym (ap (option_map (λ (v : Vec ℕ Global). v.items)) c.in-Some.is) ∙ c.in_ok-children.ensures ∙ ap (λ ys. option_map (λ (p : Page). p.children) (page_in tree.place.rec_ref ys)) c.deref-2.ensures.value in
    let p = some_page (page_in tree.place.rec_ref c.in_ok-page.page.items) cs shown in
    let over : length c.loop-i.children.items ≤ c.loop-i.i = omega (arith, c.loop-i-test.false, c.loop-i.auto.i-end, c.len-i-end.ensures, c.in-Some.children.ok.0, inv.count) in
    let all : AllByRecursion IsPlace c.loop-i.children.items = subst (AllByRecursion IsPlace) (take_all c.loop-i.i c.loop-i.children.items over) inv.places in
    let is = c.pages_read_back.ensures.page tree.place.rec_ref page p.0 (subst AreBytes c.deref.ensures.value c.slices_are_bytes.ensures) p.1 in
    let long : length page ≡ tree.place.block_length = c.in_ok-page.ensures.long in
    let plen : length page ≡ c.in_ok-page.page.len = sym c.in_ok-page.page.ok.0 in
    let newlen : length new ≡ c.in_ok-page.page.len = c.put_children.ensures.long ∙ ap length c.deref_mut.ensures.value ∙ plen in
    let newis : c.deref-4.result.now ≡ new = c.deref-4.ensures.value ∙ whole_buffer c.in_ok-page.page.len new page newlen plen in
    let same : length c.loop-i.children.items ≡ length p.0.children = inv.count ∙ ap length (sym p.2) in
    let can = subst (λ ns. CanTake tree.place.rec_ref ns p.0) (sym c.deref-3.ensures.value) (can_take tree.place.rec_ref page c.loop-i.children.items p.0 is same all) in
    let text = c.put_children.ensures.text p.0 is.text.0 can (c.deref_mut.ensures.value ∙ is.text.1) in
    let changed : page_in tree.place.rec_ref new ≡ Some (with_children c.loop-i.children.items p.0) =
    ap (page_in tree.place.rec_ref) (text ∙ ap (λ ns. page_bytes tree.place.rec_ref (with_children ns p.0) ++ is.text.0) c.deref-3.ensures.value)
    ∙ changed_page tree.place.rec_ref page c.loop-i.children.items is.text.0 p.0 is (omega (arith, long, c.requires.made.placed.most)) same all (λ q qis. c.entries_fit.ensures.inside tree.place.rec_ref page q qis) (c.entries_fit.ensures.writable tree.place.rec_ref) (c.pages_read_back.ensures.written tree.place.rec_ref) in
    record {
      told = λ m held.
          let a = inv.laid.told m held in
          let b = c.in_ok-write_at.ensures.ok.told a.0 a.1 in
          let l = subst (λ ns. CopiesChildren tree first c.loop-i.end ns c.loop-i.children.items m a.0) (take_all c.loop-i.i cs (omega (arith, over, inv.count)))
          (subst (λ ns. CopiesChildren tree first c.loop-i.end (take c.loop-i.i cs) ns m a.0) (take_all c.loop-i.i c.loop-i.children.items over) a.2) in (
            b.0,
            b.1,
            whole_tree c.walks_depend_on_their_pages.ensures tree c.args.at c.args.start first c.loop-i.end cs c.loop-i.children.items c.deref-4.result.now m a.0 b.0 refl c.requires.whole (ap length newis ∙ newlen ∙ sym plen ∙ long)
                (λ node there. (children_there tree.place.rec_ref tree.place.block_length c.args.at (bytes_of tree.old.now m) page p.0 node c.in_ok-page.ensures.whole (c.in_ok-page.ensures.bytes m held) p.1 there ∙ p.2, ap (node_in tree.place.rec_ref) newis ∙ node_changed tree.place.rec_ref tree.place.block_length c.args.at (bytes_of tree.old.now m) page new c.loop-i.children.items p.0 node c.in_ok-page.ensures.whole (c.in_ok-page.ensures.bytes m held) p.1 there changed))
                inv.count (c.requires.short m held) inv.low l
                (whole_bytes tree c.args.at c.args.start first c.loop-i.end cs c.loop-i.children.items page c.deref-4.result.now is.text.0 p.0 m a.0 b.0 refl (ap length newis ∙ newlen ∙ sym plen ∙ long) record { there = c.in_ok-page.ensures.bytes m held; is = p.1; text = is.text.1 } p.2 inv.count
                (newis ∙ text ∙ ap (λ ns. page_bytes tree.place.rec_ref (with_children ns p.0) ++ is.text.0) c.deref-3.ensures.value)
                (λ node there. children_there tree.place.rec_ref tree.place.block_length c.args.at (bytes_of tree.old.now m) page p.0 node c.in_ok-page.ensures.whole (c.in_ok-page.ensures.bytes m held) p.1 there ∙ p.2)
                l (ap (λ (o : Option (List ℕ)). unwrap_or o []) b.2.here))
                b.2,
          );
      untold = λ none. c.in_ok-write_at.ensures.ok.untold (inv.laid.untold none);
    }

pub returns-clause-others : goal.returns-clause-others
returns-clause-others g t c =
    told_then (g.F.Files.holds c.args.files.now) (g.F.Files.holds c.loop-i.files) (g.F.Files.holds c.write_at.new.self) _ _ (OthersStay c.args.tree.now.new.now) c.loop-i.invariant.laid c.in_ok-write_at.ensures.ok
    (λ m n k l s q other. s.others q other ∙ l.others q other)

pub returns-then-not-is_empty-clause-never : goal.returns-then-not-is_empty-clause-never
returns-then-not-is_empty-clause-never g t c =
    let tree = c.args.tree.now in
    let cs : List ℕ = c.in-Some.children.items in
    let shown : Some cs ≡ option_map (λ (p : Page). p.children) (page_in tree.place.rec_ref c.in_ok-page.page.items) =
    sym (ap (option_map (λ (v : Vec ℕ Global). v.items)) c.in-Some.is) ∙ c.in_ok-children.ensures ∙ ap (λ ys. option_map (λ (p : Page). p.children) (page_in tree.place.rec_ref ys)) c.deref-2.ensures.value in
    let p = some_page (page_in tree.place.rec_ref c.in_ok-page.page.items) cs shown in
    inr (
      c.args.at,
      refl,
      λ m held. no_level tree c.args.levels c.args.at c.args.start m c.if-levels-eq0.true
          (λ node there.
          let kids = children_there tree.place.rec_ref tree.place.block_length c.args.at (bytes_of tree.old.now m) c.in_ok-page.page.items p.0 node c.in_ok-page.ensures.whole (c.in_ok-page.ensures.bytes m held) p.1 there ∙ p.2 in
          omega (arith, ap (λ (xs : List ℕ). length xs) kids, eqb-false _ _ (sym c.is_empty.ensures ∙ c.if-not-is_empty.true), c.in-Some.children.ok.0)),
    )
