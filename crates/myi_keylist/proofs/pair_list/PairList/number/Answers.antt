use Rattle.std.proofs.Common.{◌≡◌, ◌<◌, ◌≤◌, ◌⊎◌, inl, inr, arith, length}
use Rattle.myi_keylist.proofs.NumberLaws.{one_numbered, all_numbered, next_few}
use Rattle.myi_keylist.proofs.pair_list.PairList.number.Goals.{then-number-last, else-number-last}
use Rattle.myi_keylist.proofs.pair_list.PairList.number.Goals as goal

pub loop-i-preserved : goal.loop-i-preserved
loop-i-preserved c =
    let last = c.loop-i.last in
    let number = c.next_number-number.result in
    let next = c.if-number-last.last in
    let greatest : ((c.loop-i.last < c.next_number-number.result) × (c.if-number-last.last ≡ c.next_number-number.result)) ⊎ ((c.next_number-number.result ≤ c.loop-i.last) × (c.if-number-last.last ≡ c.loop-i.last)) =
    elim c.if-number-last.branch [ then-number-last w ↦ inl (omega (arith, w.if-number-last), omega (arith, w.last-is)) | else-number-last w ↦ inr (omega (arith, w.if-number-last), omega (arith, w.last-is)) ] in
    let both = next_few c.args.self.now c.args.taken last c.loop-i.i number next c.next_number-number.ensures greatest c.loop-i.invariant.above c.loop-i.invariant.few in
    record {
      above = both.0;
      few = both.1;
      long = omega (arith, c.loop-i.invariant.long);
      numbers = λ key is.
          one_numbered key c.args.self.now c.loop-i.column c.write_number.new.column (length c.args.column.now) c.args.taken last c.loop-i.i c.row.result number next is (omega (arith, c.loop-i.invariant.long)) (omega arith) c.loop-i.invariant.above
          c.next_number-number.ensures c.row.ensures c.write_number.ensures greatest (c.loop-i.invariant.numbers key is);
    }

pub returns-clause-column : goal.returns-clause-column
returns-clause-column c = λ key is.
    all_numbered key c.args.self.now c.loop-i.column (length c.args.column.now) c.args.taken c.loop-i.last c.loop-i.i is (omega (arith, c.loop-i.invariant.long)) (omega arith) c.loop-i.invariant.above (c.loop-i.invariant.numbers key is)
