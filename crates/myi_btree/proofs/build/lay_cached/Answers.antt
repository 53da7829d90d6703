use Rattle.std.proofs.Common.{◌≡◌, ◌+◌, ◌*◌, ◌++◌, ◌∷◌, [], ℕ, List, length, append-nil, append_assoc, refl, sym, ap, subst, ◌∙◌, arith}
use Rattle.myi_btree.specs.declared.place.Place.{Place}
use Rattle.myi_btree.specs.Walk.{Node}
use Rattle.myi_btree.specs.Building.{laid_at, page_for}
use Rattle.myi_btree.specs.CachePuts.{telling}
use Rattle.myi_btree.specs.Laying.{GivesNext}
use Rattle.myi_btree.proofs.BodyLaws.{on_err}
use Rattle.myi_btree.proofs.LayingLaws.{whole_buffer, end_more, none_left}
use Rattle.myi_btree.proofs.CachePutLaws.{LaidIn, start, step, not_put}
use Rattle.myi_btree.proofs.build.lay_cached.Goals as goal

pub pages-init : goal.pages-init
pages-init g c = record {
  written = [];
  left = laid_at c.args.setup.place c.args.first c.args.pairs.now;
  all = refl;
  comes = c.new-laying.ensures.comes;
  same = c.new-laying.ensures.setup;
  end = omega (arith, c.new-laying.ensures.end);
  buffer = sym c.in_ok-page.page.ok.0 ∙ c.in_ok-page.ensures.len;
  laid = start c.args.setup.place c.args.first _ c.args.cache.now;
}

pub pages-smaller : goal.pages-smaller
pages-smaller g c =
    let i = c.pages.invariant in
    let next = subst (λ x. GivesNext c.pages.laying c.next_page.new.page x c.next_page.new.self i.left) c.in-Some.is (c.in_ok-at.ensures.next i.left i.comes) in
    next.2

pub pages-preserved : goal.pages-preserved
pages-preserved g c =
    let i = c.pages.invariant in
    let place = c.args.setup.place in
    let at : ℕ = c.in-Some.at in
    let next = subst (λ x. GivesNext c.pages.laying c.next_page.new.page x c.next_page.new.self i.left) c.in-Some.is (c.in_ok-at.ensures.next i.left i.comes) in
    let same : c.pages.laying.setup.place ≡ place = ap (λ s. s.place) i.same in
    let at_is : at ≡ c.args.first + place.block_length * length i.written = next.0 ∙ i.end in
    let long : length c.next_page.new.page ≡ place.block_length = c.next_page.ensures.long ∙ ap (λ (p : Place). p.block_length) same in
    let whole = whole_buffer c.next_page.new.page c.pages.page.items c.pages.page.len c.pages.page.ok.0 (long ∙ sym i.buffer) in
    let bytes : c.deref.result.now ≡ c.next_page.new.page = c.deref.ensures.value ∙ whole in
    let node : Node = next.3.0 in
    let page : c.deref.result.now ≡ page_for place node = bytes ∙ next.3.3 ∙ ap (λ (p : Place). page_for p node) same in
    record {
      written = i.written ++ node ∷ [];
      left = next.3.1;
      all = i.all ∙ ap (λ (t : List Node). i.written ++ t) next.3.2 ∙ sym (append_assoc i.written (node ∷ []) next.3.1);
      comes = next.3.4;
      same = c.next_page.ensures.setup ∙ i.same;
      end = end_more place.block_length c.args.first at c.next_page.new.self.end i.written node at_is (next.1 ∙ ap (λ (p : Place). at + p.block_length) same);
      buffer = ap length whole ∙ long;
      laid = step place c.args.first at i.written node c.deref.result.now _ _ _ c.args.cache.now c.pages.cache c.put_bytes.new.cache at_is page (ap length bytes ∙ long) i.laid c.in_ok-put_bytes.ensures.ok;
    }

pub returns-in_err-put_bytes-clause-refused : goal.returns-in_err-put_bytes-clause-refused
returns-in_err-put_bytes-clause-refused g c =
    let i = c.pages.invariant in
    let place = c.args.setup.place in
    let at : ℕ = c.in-Some.at in
    let next = subst (λ x. GivesNext c.pages.laying c.next_page.new.page x c.next_page.new.self i.left) c.in-Some.is (c.in_ok-at.ensures.next i.left i.comes) in
    let same : c.pages.laying.setup.place ≡ place = ap (λ s. s.place) i.same in
    let at_is : at ≡ c.args.first + place.block_length * length i.written = next.0 ∙ i.end in
    let long : length c.next_page.new.page ≡ place.block_length = c.next_page.ensures.long ∙ ap (λ (p : Place). p.block_length) same in
    let whole = whole_buffer c.next_page.new.page c.pages.page.items c.pages.page.len c.pages.page.ok.0 (long ∙ sym i.buffer) in
    let bytes : c.deref.result.now ≡ c.next_page.new.page = c.deref.ensures.value ∙ whole in
    let stop = not_put place c.args.first at i.written c.deref.result.now c.in_err-put_bytes.field-0.0 _ _ _ c.args.cache.now c.pages.cache c.put_bytes.new.cache at_is (ap length bytes ∙ long) i.laid c.in_err-put_bytes.ensures.err in
    on_err c.from_residual-in_err-put_bytes.result stop.refused

pub returns-in_err-put_bytes-clause-puts : goal.returns-in_err-put_bytes-clause-puts
returns-in_err-put_bytes-clause-puts g c =
    let i = c.pages.invariant in
    let place = c.args.setup.place in
    let at : ℕ = c.in-Some.at in
    let next = subst (λ x. GivesNext c.pages.laying c.next_page.new.page x c.next_page.new.self i.left) c.in-Some.is (c.in_ok-at.ensures.next i.left i.comes) in
    let same : c.pages.laying.setup.place ≡ place = ap (λ s. s.place) i.same in
    let at_is : at ≡ c.args.first + place.block_length * length i.written = next.0 ∙ i.end in
    let long : length c.next_page.new.page ≡ place.block_length = c.next_page.ensures.long ∙ ap (λ (p : Place). p.block_length) same in
    let whole = whole_buffer c.next_page.new.page c.pages.page.items c.pages.page.len c.pages.page.ok.0 (long ∙ sym i.buffer) in
    let bytes : c.deref.result.now ≡ c.next_page.new.page = c.deref.ensures.value ∙ whole in
    let stop = not_put place c.args.first at i.written c.deref.result.now c.in_err-put_bytes.field-0.0 _ _ _ c.args.cache.now c.pages.cache c.put_bytes.new.cache at_is (ap length bytes ∙ long) i.laid c.in_err-put_bytes.ensures.err in
    stop.gone.puts

pub returns-in_err-put_bytes-clause-only : goal.returns-in_err-put_bytes-clause-only
returns-in_err-put_bytes-clause-only g c =
    let i = c.pages.invariant in
    let place = c.args.setup.place in
    let at : ℕ = c.in-Some.at in
    let next = subst (λ x. GivesNext c.pages.laying c.next_page.new.page x c.next_page.new.self i.left) c.in-Some.is (c.in_ok-at.ensures.next i.left i.comes) in
    let same : c.pages.laying.setup.place ≡ place = ap (λ s. s.place) i.same in
    let at_is : at ≡ c.args.first + place.block_length * length i.written = next.0 ∙ i.end in
    let long : length c.next_page.new.page ≡ place.block_length = c.next_page.ensures.long ∙ ap (λ (p : Place). p.block_length) same in
    let whole = whole_buffer c.next_page.new.page c.pages.page.items c.pages.page.len c.pages.page.ok.0 (long ∙ sym i.buffer) in
    let bytes : c.deref.result.now ≡ c.next_page.new.page = c.deref.ensures.value ∙ whole in
    let stop = not_put place c.args.first at i.written c.deref.result.now c.in_err-put_bytes.field-0.0 _ _ _ c.args.cache.now c.pages.cache c.put_bytes.new.cache at_is (ap length bytes ∙ long) i.laid c.in_err-put_bytes.ensures.err in
    stop.gone.only

pub returns-clause-end : goal.returns-clause-end
returns-clause-end g c =
    let i = c.pages.invariant in
    let none = none_left c.pages.laying c.next_page.new.page c.in_ok-at.field-0 c.next_page.new.self i.left c.in_default.not-Some (c.in_ok-at.ensures.next i.left i.comes) in
    let whole : laid_at c.args.setup.place c.args.first c.args.pairs.now ≡ i.written = i.all ∙ ap (λ (t : List Node). i.written ++ t) none.0 ∙ append-nil i.written in
    c.end.ensures ∙ none.1 ∙ i.end ∙ ap (λ (t : List Node). c.args.first + c.args.setup.place.block_length * length t) (sym whole)

pub returns-clause-laid : goal.returns-clause-laid
returns-clause-laid g c =
    let i = c.pages.invariant in
    let none = none_left c.pages.laying c.next_page.new.page c.in_ok-at.field-0 c.next_page.new.self i.left c.in_default.not-Some (c.in_ok-at.ensures.next i.left i.comes) in
    let whole : laid_at c.args.setup.place c.args.first c.args.pairs.now ≡ i.written = i.all ∙ ap (λ (t : List Node). i.written ++ t) none.0 ∙ append-nil i.written in
    let laid = subst (λ (t : List Node). LaidIn c.args.setup.place c.args.first t (telling (g.F.Files.holds c.args.files.now) (g.F.Files.faults c.args.files.now) (g.F.Files.reads c.args.files.now)) c.args.cache.now
    (telling (g.F.Files.holds c.pages.files) (g.F.Files.faults c.pages.files) (g.F.Files.reads c.pages.files)) c.pages.cache) (sym whole) i.laid in
    laid.told

pub returns-clause-counted : goal.returns-clause-counted
returns-clause-counted g c =
    let i = c.pages.invariant in
    let none = none_left c.pages.laying c.next_page.new.page c.in_ok-at.field-0 c.next_page.new.self i.left c.in_default.not-Some (c.in_ok-at.ensures.next i.left i.comes) in
    let whole : laid_at c.args.setup.place c.args.first c.args.pairs.now ≡ i.written = i.all ∙ ap (λ (t : List Node). i.written ++ t) none.0 ∙ append-nil i.written in
    let laid = subst (λ (t : List Node). LaidIn c.args.setup.place c.args.first t (telling (g.F.Files.holds c.args.files.now) (g.F.Files.faults c.args.files.now) (g.F.Files.reads c.args.files.now)) c.args.cache.now
    (telling (g.F.Files.holds c.pages.files) (g.F.Files.faults c.pages.files) (g.F.Files.reads c.pages.files)) c.pages.cache) (sym whole) i.laid in
    laid.counted
