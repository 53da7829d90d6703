use Rattle.std.proofs.Common.{◌≡◌, ◌+◌, ◌<◌, ◌≤◌, ◌^◌, ◌++◌, ◌∷◌, [], ℕ, suc, List, length, get_or, drop, refl, sym, ap, ◌∙◌, arith, inl, inr}
use Rattle.std.proofs.lemmas.Bool.{cases_lt}
use Rattle.std.proofs.lemmas.List.{length-append, length-drop}
use Rattle.myi_keylist.specs.declared.pair.Pair.{Pair}
use Rattle.myi_keylist.specs.PairOrder.{pair_with}
use Rattle.myi_btree.specs.declared.laying.Laying.{Laying}
use Rattle.myi_btree.specs.Laying.{level_pairs, pairs_left, children_left, left_count, next_node}
use Rattle.myi_btree.proofs.BodyLaws.{behind}
use Rattle.myi_btree.proofs.LayingLaws.{page_comes, root_comes, level_comes, level_pairs_same, above_pairs, same_comes}
use Rattle.myi_btree.proofs.laying.Laying.next_page.Goals as goal

pub returns-in_ok-set_aside-clause-next : goal.returns-in_ok-set_aside-clause-next
returns-in_ok-set_aside-clause-next c = λ nodes to_come. elim to_come [
  | inl none ↦ absurd (c.if-left-eq0.false (c.count_left-left.ensures ∙ ap length none.0))
  | inr comes ↦
      let o : Laying = c.args.self.now in
      let m : Laying = c.add_place.new.self in
      let n : Laying = c.set_aside.new.self in
      let place = o.setup.place in
      let count : ℕ = c.write_next-count.result in
      let d : Pair = pair_with [] 0 in
      let lt : count < length (pairs_left o) = omega (arith, c.if-count-left.true, c.count_left-left.ensures) in
      let small : o.end + place.block_length < 2 ^ 64 = omega (arith, c.in_ok-at.ensures.small, c.in_ok-at.ensures.end) in
      let b = page_comes place o.end (pairs_left o) (children_left o) o.level.separators o.level.places.items nodes count d c.requires.placed comes c.write_next-count.ensures.count lt small in
      let level : level_pairs m.pairs.now m.below ≡ level_pairs o.pairs.now o.below = level_pairs_same o m c.add_place.ensures.pairs c.add_place.ensures.below in
      let level_now : level_pairs n.pairs.now n.below ≡ level_pairs o.pairs.now o.below = level_pairs_same m n c.set_aside.ensures.pairs c.set_aside.ensures.below ∙ level in
      let start : n.start ≡ o.start + (count + 1) = c.in_ok-set_aside.ensures.start ∙ ap (λ (t : ℕ). t + (count + 1)) c.add_place.ensures.start in
      let left : pairs_left n ≡ drop (suc count) (pairs_left o) = ap (λ (t : List Pair). drop n.start t) level_now ∙ sym (behind (level_pairs o.pairs.now o.below) o.start count n.start start) in
      let mid : pairs_left m ≡ pairs_left o = ap (λ (t : List Pair). drop m.start t) level ∙ ap (λ (t : ℕ). drop t (level_pairs o.pairs.now o.below)) c.add_place.ensures.start in
      let below : n.below ≡ o.below = c.set_aside.ensures.below ∙ c.add_place.ensures.below in
      let children : children_left n ≡ drop (suc count) (children_left o) = ap (λ v. drop n.start v.places.items) below ∙ sym (behind o.below.places.items o.start count n.start start) in
      let aside : n.level.separators ≡ o.level.separators ++ get_or (pairs_left o) count d ∷ [] =
      c.in_ok-set_aside.ensures.separators d ∙ ap (λ (t : List Pair). t ++ get_or (pairs_left m) count d ∷ []) c.add_place.ensures.separators ∙ ap (λ (t : List Pair). o.level.separators ++ get_or t count d ∷ []) mid in
      let places : n.level.places.items ≡ o.level.places.items ++ o.end ∷ [] = ap (λ v. v.items) c.set_aside.ensures.places ∙ c.in_ok-at.ensures.places in
      let end : n.end ≡ o.end + place.block_length = c.set_aside.ensures.end ∙ c.in_ok-at.ensures.end in
      let at_end : n.end ≡ c.in_ok-at.at + place.block_length = omega (arith, end, c.in_ok-at.ensures.at) in
      let setup = ap (λ v. v.place) (c.set_aside.ensures.setup ∙ c.add_place.ensures.setup) in
      let fewer : left_count n < left_count o = omega (arith, ap length aside, length-append o.level.separators (get_or (pairs_left o) count d ∷ []), ap length left, length-drop (suc count) (pairs_left o), c.write_next-count.ensures.count.some) in
      (c.in_ok-at.ensures.at, at_end, fewer, (next_node o count, b.rest, b.is, c.write_next-count.ensures.page, inr (same_comes _ _ _ _ _ _ _ _ _ _ _ _ _ setup end left children aside places b.comes)))
]

pub returns-else-count-left-clause-next : goal.returns-else-count-left-clause-next
returns-else-count-left-clause-next c = λ nodes to_come. elim to_come [
  | inl none ↦ absurd (c.if-left-eq0.false (c.count_left-left.ensures ∙ ap length none.0))
  | inr comes ↦
      let o : Laying = c.args.self.now in
      let m : Laying = c.add_place.new.self in
      let n : Laying = c.end_level.new.self in
      let place = o.setup.place in
      let count : ℕ = c.write_next-count.result in
      let le : length (pairs_left o) ≤ count = omega (arith, c.if-count-left.false, c.count_left-left.ensures) in
      let some : 0 < length (pairs_left o) = comes.can.some in
      let small : o.end + place.block_length < 2 ^ 64 = omega (arith, c.in_ok-at.ensures.small, c.in_ok-at.ensures.end) in
      let places : m.level.places.items ≡ o.level.places.items ++ o.end ∷ [] = c.in_ok-at.ensures.places in
      let more : length m.level.places.items ≡ length o.level.places.items + 1 = ap length places ∙ length-append o.level.places.items (o.end ∷ []) in
      let end : n.end ≡ o.end + place.block_length = c.end_level.ensures.end ∙ c.in_ok-at.ensures.end in
      let at_end : n.end ≡ c.in_ok-at.at + place.block_length = omega (arith, end, c.in_ok-at.ensures.at) in
      let setup = ap (λ v. v.place) (c.end_level.ensures.setup ∙ c.add_place.ensures.setup) in
      elim (cases_lt 0 (length o.level.places.items)) [
        | inl above ↦
            let up = c.end_level.ensures.up (omega (arith, more)) in
            let b = level_comes place o.end (pairs_left o) (children_left o) o.level.separators o.level.places.items nodes count c.requires.placed comes c.write_next-count.ensures.count le above small in
            let pairs : level_pairs n.pairs.now n.below ≡ o.level.separators =
            ap (λ v. level_pairs n.pairs.now v) up.0 ∙ above_pairs n.pairs.now m.level (omega (arith, more)) ∙ c.add_place.ensures.separators in
            let left : pairs_left n ≡ o.level.separators = ap (λ (t : ℕ). drop t (level_pairs n.pairs.now n.below)) up.1 ∙ pairs in
            let children : children_left n ≡ o.level.places.items ++ o.end ∷ [] = ap (λ (t : ℕ). drop t n.below.places.items) up.1 ∙ ap (λ v. v.places.items) up.0 ∙ places in
            let fewer : left_count n < left_count o = omega (arith, ap length up.2, ap length left) in
            (c.in_ok-at.ensures.at, at_end, fewer, (next_node o count, b.rest, b.is, c.write_next-count.ensures.page, inr (same_comes _ _ _ _ _ _ _ _ _ _ _ _ _ setup end left children up.2 up.3 b.comes)))
        | inr root ↦
            let none : length o.level.places.items ≡ 0 = omega arith in
            let done = c.end_level.ensures.done (omega (arith, more)) in
            let is = root_comes place o.end (pairs_left o) (children_left o) o.level.separators o.level.places.items nodes count comes c.write_next-count.ensures.count le none in
            let aside : n.level.separators ≡ o.level.separators = ap (λ v. v.separators) done.1 ∙ c.add_place.ensures.separators in
            let fewer : left_count n < left_count o = omega (arith, ap length aside, comes.count, ap length done.0) in
            (c.in_ok-at.ensures.at, at_end, fewer, (next_node o count, [], is, c.write_next-count.ensures.page, inl (done.0, refl)))
      ]
]
