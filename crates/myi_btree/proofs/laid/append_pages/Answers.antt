use Rattle.std.proofs.Common.{◌≡◌, ◌+◌, ◌*◌, ◌++◌, ◌∷◌, [], ℕ, List, length, append-nil, append_assoc, refl, sym, ap, subst, ◌∙◌, arith}
use Rattle.myi_btree.specs.declared.place.Place.{Place}
use Rattle.myi_btree.specs.Walk.{Node}
use Rattle.myi_btree.specs.Building.{laid_at, page_for, pages_bytes}
use Rattle.myi_btree.specs.Laying.{GivesNext}
use Rattle.myi_btree.proofs.LayingLaws.{whole_buffer, end_on, none_left, bytes_more}
use Rattle.myi_btree.proofs.laid.append_pages.Goals as goal

pub pages-init : goal.pages-init
pages-init c = record {
  written = [];
  left = laid_at c.args.setup.place 0 c.args.pairs.now;
  all = refl;
  comes = c.new-laying.ensures.comes;
  same = c.new-laying.ensures.setup;
  end = omega (arith, c.new-laying.ensures.end);
  buffer = sym c.in_ok-page.page.ok.0 ∙ c.in_ok-page.ensures.len;
  bytes = sym (append-nil c.args.pages.now.items);
}

pub pages-smaller : goal.pages-smaller
pages-smaller c =
    let i = c.pages.invariant in
    let next = subst (λ x. GivesNext c.pages.laying c.next_page.new.page x c.next_page.new.self i.left) c.in-Some.is (c.in_ok-next_page.ensures.next i.left i.comes) in
    next.2

pub pages-preserved : goal.pages-preserved
pages-preserved c =
    let i = c.pages.invariant in
    let place = c.args.setup.place in
    let next = subst (λ x. GivesNext c.pages.laying c.next_page.new.page x c.next_page.new.self i.left) c.in-Some.is (c.in_ok-next_page.ensures.next i.left i.comes) in
    let same : c.pages.laying.setup.place ≡ place = ap (λ s. s.place) i.same in
    let long : length c.next_page.new.page ≡ place.block_length = c.next_page.ensures.long ∙ ap (λ (p : Place). p.block_length) same in
    let whole = whole_buffer c.next_page.new.page c.pages.page.items c.pages.page.len c.pages.page.ok.0 (long ∙ sym i.buffer) in
    let node : Node = next.3.0 in
    let page : c.deref.result.now ≡ page_for place node = c.deref.ensures.value ∙ whole ∙ next.3.3 ∙ ap (λ (p : Place). page_for p node) same in
    record {
      written = i.written ++ node ∷ [];
      left = next.3.1;
      all = i.all ∙ ap (λ (t : List Node). i.written ++ t) next.3.2 ∙ sym (append_assoc i.written (node ∷ []) next.3.1);
      comes = next.3.4;
      same = c.next_page.ensures.setup ∙ i.same;
      end = end_on place.block_length c.pages.laying.end c.next_page.new.self.end i.written node i.end (next.1 ∙ ap (λ (n : ℕ). n + c.pages.laying.setup.place.block_length) next.0 ∙ ap (λ (p : Place). c.pages.laying.end + p.block_length) same);
      buffer = ap length whole ∙ long;
      bytes = c.in_ok-extend_from_slice.ensures.items ∙ ap (λ (t : List ℕ). t ++ c.deref.result.now) i.bytes ∙ bytes_more place c.args.pages.now.items i.written node c.deref.result.now page;
    }

pub returns-clause-end : goal.returns-clause-end
returns-clause-end c =
    let i = c.pages.invariant in
    let none = none_left c.pages.laying c.next_page.new.page c.in_ok-next_page.field-0 c.next_page.new.self i.left c.in_default.not-Some (c.in_ok-next_page.ensures.next i.left i.comes) in
    let whole : laid_at c.args.setup.place 0 c.args.pairs.now ≡ i.written = i.all ∙ ap (λ (t : List Node). i.written ++ t) none.0 ∙ append-nil i.written in
    c.end.ensures ∙ none.1 ∙ i.end ∙ ap (λ (t : List Node). c.args.setup.place.block_length * length t) (sym whole)

pub returns-clause-pages : goal.returns-clause-pages
returns-clause-pages c =
    let i = c.pages.invariant in
    let none = none_left c.pages.laying c.next_page.new.page c.in_ok-next_page.field-0 c.next_page.new.self i.left c.in_default.not-Some (c.in_ok-next_page.ensures.next i.left i.comes) in
    let whole : laid_at c.args.setup.place 0 c.args.pairs.now ≡ i.written = i.all ∙ ap (λ (t : List Node). i.written ++ t) none.0 ∙ append-nil i.written in
    i.bytes ∙ ap (λ (t : List Node). c.args.pages.now.items ++ pages_bytes c.args.setup.place t) (sym whole)
