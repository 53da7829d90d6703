use Rattle.std.proofs.Common.{true, false, ap, refl, sym, subst, ◌∙◌, arith}
use Rattle.std.proofs.lemmas.Bool.{le-leb, lt-leb}
use Rattle.myi_keycache.specs.Counts.{raised}
use Rattle.myi_keycache.specs.Kept.{KeptPage}
use Rattle.myi_keycache.specs.Order.{Order, IsOrdered}
use Rattle.myi_keycache.proofs.OrderLemmas.{goes_hot_is, goes_hot_hot, and_is}
use Rattle.myi_keycache.proofs.SlotLemmas.{named_there, named_found, same_place, at_index, holds_changed}
use Rattle.myi_keycache.proofs.MoveLemmas.{side, marked, hit_hot_order, hit_warm_order}
use Rattle.myi_keycache.proofs.blocks.Blocks.count_hit.Goals.{then-block-ge-HITS_TO_BE_HOT, else-block-ge-HITS_TO_BE_HOT}
use Rattle.myi_keycache.proofs.blocks.Blocks.count_hit.Goals as goal

pub unwrap-index-requires : goal.unwrap-index-requires
unwrap-index-requires c =
    named_there c.self.inside.setup c.self.inside.pages.entries c.self.inside.lists c.self.inside.accesses c.args.name c.args.self.now c.self.view_is c.self.invariant c.get_index_of.result c.get_index_of.ensures.index c.requires

pub is_hot-hot-requires : goal.is_hot-hot-requires
is_hot-hot-requires c =
    let f = named_found c.self.inside.setup c.self.inside.pages.entries c.self.inside.lists c.self.inside.accesses c.args.name c.unwrap-index.result c.self.invariant c.get_index_of.result c.get_index_of.ensures.index c.unwrap-index.ensures in
    (side c.self.inside.pages.entries c.self.inside.lists c.unwrap-index.result f.i f.placed).on

pub invariant_of-self : goal.invariant_of-self
invariant_of-self c =
    let f = named_found c.self.inside.setup c.self.inside.pages.entries c.self.inside.lists c.self.inside.accesses c.args.name c.unwrap-index.result c.self.invariant c.get_index_of.result c.get_index_of.ensures.index c.unwrap-index.ensures in
    holds_changed c.self.inside.setup c.self.inside.pages.entries c.self.inside.lists c.self.inside.accesses _ c.unwrap-index.result f.i (_) (_) c.self.invariant f.placed c.index_mut-block.ensures.value (refl)

pub invariant_of-self-2 : goal.invariant_of-self-2
invariant_of-self-2 c =
    let f = named_found c.self.inside.setup c.self.inside.pages.entries c.self.inside.lists c.self.inside.accesses c.args.name c.unwrap-index.result c.self.invariant c.get_index_of.result c.get_index_of.ensures.index c.unwrap-index.ensures in
    holds_changed c.self.inside.setup c.self.inside.pages.entries c.self.inside.lists c.self.inside.accesses _ c.unwrap-index.result f.i (_) (_) c.self.invariant f.placed c.index_mut-block.ensures.value (refl)

pub returns-then-hot : goal.returns-then-hot
returns-then-hot c =
    record {
      warm = (subst IsOrdered c.self.view_is c.self.invariant.ordered).warm;
      page = λ i at s.
          let p = same_place c.self.inside.pages.entries c.self.inside.lists c.self.inside.setup c.self.inside.accesses c.args.name.at c.args.name.size c.unwrap-index.result c.args.self.now c.self.view_is (named_found c.self.inside.setup c.self.inside.pages.entries c.self.inside.lists c.self.inside.accesses c.args.name c.unwrap-index.result c.self.invariant c.get_index_of.result c.get_index_of.ensures.index c.unwrap-index.ensures) i at in
          let le = (marked c.self.inside.pages.entries c.self.inside.lists c.unwrap-index.result i c.is_hot-hot.result p c.is_hot-hot.ensures.warm c.is_hot-hot.ensures.hot).0 c.if-hot.true in
          hit_hot_order c.self.inside.setup c.self.inside.pages.entries c.self.inside.lists c.self.inside.accesses _ c.unwrap-index.result i c.index_mut-block.result.now c.args.self.now c.self.view_is c.self.invariant p c.index_mut-block.ensures.value c.saturating_add-self-inside.ensures le s;
      hot = λ i at s.
          let p = same_place c.self.inside.pages.entries c.self.inside.lists c.self.inside.setup c.self.inside.accesses c.args.name.at c.args.name.size c.unwrap-index.result c.args.self.now c.self.view_is (named_found c.self.inside.setup c.self.inside.pages.entries c.self.inside.lists c.self.inside.accesses c.args.name c.unwrap-index.result c.self.invariant c.get_index_of.result c.get_index_of.ensures.index c.unwrap-index.ensures) i at in
          let le = (marked c.self.inside.pages.entries c.self.inside.lists c.unwrap-index.result i c.is_hot-hot.result p c.is_hot-hot.ensures.warm c.is_hot-hot.ensures.hot).0 c.if-hot.true in
          let w = ap (λ (o : Order). o.warm) c.self.view_is in
          goes_hot_hot c.args.self.now i s.page (omega (arith, w, le));
    }

pub returns : goal.returns
returns c =
    record {
      warm = (subst IsOrdered c.self.view_is c.self.invariant.ordered).warm;
      page = λ i at s.
          let p = same_place c.self.inside.pages.entries c.self.inside.lists c.self.inside.setup c.self.inside.accesses c.args.name.at c.args.name.size c.unwrap-index.result c.args.self.now c.self.view_is (named_found c.self.inside.setup c.self.inside.pages.entries c.self.inside.lists c.self.inside.accesses c.args.name c.unwrap-index.result c.self.invariant c.get_index_of.result c.get_index_of.ensures.index c.unwrap-index.ensures) i at in
          let lt = (marked c.self.inside.pages.entries c.self.inside.lists c.unwrap-index.result i c.is_hot-hot.result p c.is_hot-hot.ensures.warm c.is_hot-hot.ensures.hot).1 c.if-hot.false in
          hit_warm_order c.self.inside.setup c.self.inside.pages.entries c.self.inside.lists c.self.inside.accesses _ c.saturating_add-block.result c.unwrap-index.result i c.index_mut-block.result.now c.args.self.now c.self.view_is c.self.invariant p c.index_mut-block.ensures.value c.saturating_add-self-inside.ensures c.saturating_add-block.ensures lt s;
      hot = λ i at s.
          let p = same_place c.self.inside.pages.entries c.self.inside.lists c.self.inside.setup c.self.inside.accesses c.args.name.at c.args.name.size c.unwrap-index.result c.args.self.now c.self.view_is (named_found c.self.inside.setup c.self.inside.pages.entries c.self.inside.lists c.self.inside.accesses c.args.name c.unwrap-index.result c.self.invariant c.get_index_of.result c.get_index_of.ensures.index c.unwrap-index.ensures) i at in
          let lt = (marked c.self.inside.pages.entries c.self.inside.lists c.unwrap-index.result i c.is_hot-hot.result p c.is_hot-hot.ensures.warm c.is_hot-hot.ensures.hot).1 c.if-hot.false in
          let w = ap (λ (o : Order). o.warm) c.self.view_is in
          let h = ap (λ (k : KeptPage). k.hits) (at_index c.self.inside.setup c.self.inside.pages.entries c.self.inside.lists c.self.inside.accesses c.args.name.at c.args.name.size c.unwrap-index.result c.args.self.now (c.index_mut-block.result.now) c.self.view_is (named_found c.self.inside.setup c.self.inside.pages.entries c.self.inside.lists c.self.inside.accesses c.args.name c.unwrap-index.result c.self.invariant c.get_index_of.result c.get_index_of.ensures.index c.unwrap-index.ensures) c.index_mut-block.ensures.value i at s).page in
          goes_hot_is c.args.self.now i s.page c.saturating_add-block.result c.keeps_share-share.result c.if-block-ge-HITS_TO_BE_HOT.result
          (omega (arith, w, lt)) (c.saturating_add-block.ensures ∙ ap (raised 1) (sym h)) c.keeps_share-share.ensures
          (elim c.if-block-ge-HITS_TO_BE_HOT.branch [
            | then-block-ge-HITS_TO_BE_HOT w ↦ and_is c.saturating_add-block.result c.keeps_share-share.result c.if-block-ge-HITS_TO_BE_HOT.result true (le-leb 3 c.saturating_add-block.result w.if-block-ge-HITS_TO_BE_HOT.true) w.result-is
            | else-block-ge-HITS_TO_BE_HOT w ↦ and_is c.saturating_add-block.result c.keeps_share-share.result c.if-block-ge-HITS_TO_BE_HOT.result false (lt-leb 3 c.saturating_add-block.result w.if-block-ge-HITS_TO_BE_HOT.false) (w.result-is ∙ lt-leb 3 c.saturating_add-block.result w.if-block-ge-HITS_TO_BE_HOT.false)
          ]);
    }
