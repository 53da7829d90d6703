use Rattle.std.proofs.Common.{◌≡◌, ◌+◌, ◌-◌, ℕ, length, take, drop, ap, ◌∙◌, arith}
use Rattle.std.proofs.lemmas.List.{length-take, length-drop}
use Rattle.myi_btree.specs.Nodes.{page_of_node}
use Rattle.myi_btree.proofs.MoveLaws.{put_is, page_at, all_moved}
use Rattle.myi_btree.proofs.laid.shift_pages.Goals as goal

pub slice_bounds-shift_page-end : goal.slice_bounds-shift_page-end
slice_bounds-shift_page-end c =
    let r = c.requires.pages in
    let p = page_at c.args.place c.args.by c.pages.pages c.pages.at r.0 (c.pages.invariant.left r.0 r.1 r.2) c.pages-test.true in
    omega (arith, p.room)

pub shift_page-requires-clause-page : goal.shift_page-requires-clause-page
shift_page-requires-clause-page c =
    let r = c.requires.pages in
    let p = page_at c.args.place c.args.by c.pages.pages c.pages.at r.0 (c.pages.invariant.left r.0 r.1 r.2) c.pages-test.true in
    let size : c.pages.at + c.args.place.block_length - c.pages.at ≡ c.args.place.block_length = omega arith in
    (page_of_node p.node, p.rest, p.can, ap (λ (n : ℕ). take n (drop c.pages.at c.pages.pages)) size ∙ p.here)

pub pages-preserved : goal.pages-preserved
pages-preserved c = record {
  left = λ stored movable is.
      let p = page_at c.args.place c.args.by c.pages.pages c.pages.at stored (c.pages.invariant.left stored movable is) c.pages-test.true in
      let size : c.pages.at + c.args.place.block_length - c.pages.at ≡ c.args.place.block_length = omega arith in
      let long : length c.shift_page.new.page ≡ c.args.place.block_length =
      c.shift_page.ensures.long ∙ ap (λ (n : ℕ). length (take n (drop c.pages.at c.pages.pages))) size ∙ omega (arith, length-take c.args.place.block_length (drop c.pages.at c.pages.pages), length-drop c.pages.at c.pages.pages, p.room) in
      let page = c.shift_page.ensures.text (page_of_node p.node) p.rest p.can (ap (λ (n : ℕ). take n (drop c.pages.at c.pages.pages)) size ∙ p.here) in
      p.then c.shift_page.new.page _ page long (put_is c.pages.at (c.pages.at + c.args.place.block_length - c.pages.at) (c.pages.at + c.args.place.block_length) c.pages.pages c.shift_page.new.page (omega arith) p.room (omega (arith, long)));
}

pub returns : goal.returns
returns c = λ stored movable is. all_moved c.args.place c.args.by c.pages.pages c.pages.at stored c.requires.placed.least (c.pages.invariant.left stored movable is) (omega (arith, c.pages-test.false))
