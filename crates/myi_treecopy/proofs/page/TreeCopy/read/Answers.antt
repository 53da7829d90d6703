use Rattle.std.proofs.Common.{◌≡◌, ℕ, Some, List, length, refl, sym, ap, ◌∙◌, inr, arith}
use Rattle.myi_base.specs.Holding.{bytes_of}
use Rattle.myi_treecopy.proofs.PageLaws.{odd_place, short_page, filled_page, whole_buffer}
use Rattle.myi_treecopy.proofs.page.TreeCopy.read.Goals as goal
use Rattle.myi_treecopy.proofs.page.TreeCopy.read.Goals.{then-at-ne0-via-then-at-ne0, then-at-ne0-via-else-at-ne0+then-count-len}

pub returns-then-at-ne0-clause-damaged : goal.returns-then-at-ne0-clause-damaged
returns-then-at-ne0-clause-damaged g c = inr (
  refl,
  λ m is.
      let long : length c.in_ok-page.page.items ≡ c.args.self.now.place.block_length = sym c.in_ok-page.page.ok.0 ∙ c.in_ok-page.ensures.len in
      let into : length c.deref_mut.result.now ≡ c.args.self.now.place.block_length = ap length c.deref_mut.ensures.value ∙ long in
      elim c.then-at-ne0.branch [
        | then-at-ne0-via-then-at-ne0 w ↦ odd_place c.args.self.now.place.rec_ref c.args.self.now.place.block_length c.args.at (bytes_of c.args.self.now.old.now m) w.if-at-ne0.true
        | then-at-ne0-via-else-at-ne0+then-count-len w ↦ short_page c.args.self.now.place.rec_ref c.args.self.now.place.block_length c.args.at (bytes_of c.args.self.now.old.now m) c.deref_mut.result.now c.in_ok-count.count (c.in_ok-count.ensures.told m is) into (omega (arith, w.if-count-len.true, w.len.ensures, into, c.read_at.auto.into, c.deref_mut.ensures.len))
      ],
)

pub returns-clause-bytes : goal.returns-clause-bytes
returns-clause-bytes g c = λ m is.
    let xs : List ℕ = bytes_of c.args.self.now.old.now m in
    let block : ℕ = c.args.self.now.place.block_length in
    let long : length c.in_ok-page.page.items ≡ block = sym c.in_ok-page.page.ok.0 ∙ c.in_ok-page.ensures.len in
    let into : length c.deref_mut.result.now ≡ block = ap length c.deref_mut.ensures.value ∙ long in
    filled_page block c.args.at xs c.deref_mut.result.now c.read_at.new.into c.in_ok-count.count (c.in_ok-count.ensures.told m is) into (omega (arith, c.if-count-len.false, c.len.ensures, into)) (c.in_ok-count.ensures.bytes m is)
    ∙ ap (λ ys. Some ys) (sym (whole_buffer c.in_ok-page.page.len c.read_at.new.into c.in_ok-page.page.items (omega (arith, c.read_at.auto.into, into, c.in_ok-page.ensures.len)) (omega (arith, long, c.in_ok-page.ensures.len))))
