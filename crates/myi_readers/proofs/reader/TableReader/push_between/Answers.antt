use Rattle.std.proofs.Common.{◌≡◌, ◌<◌, ◌++◌, ◌∷◌, ℕ, List, All, length, sym, ap, subst, ◌∙◌}
use Rattle.std.specs.Map.Iter.{deref_pair}
use Rattle.std.specs.BTreeMap.Range.{range_contains, entries_between}
use Rattle.std.proofs.lemmas.List.Elements.{All-head, All-tail, All-filter}
use Rattle.std.proofs.lemmas.Map.Iter.{rest_more, rest_all}
use Rattle.myi_keylist.specs.declared.pair.Pair.{Pair}
use Rattle.myi_keylist.specs.PairOrder.{pair_cmp}
use Rattle.myi_readers.specs.declared.reader.TableReader.{TableReader}
use Rattle.myi_readers.specs.Reader.{rows_known}
use Rattle.myi_readers.specs.Indexes.{entry_rows}
use Rattle.myi_readers.proofs.IndexLemmas.{entry_more, entry_last}
use Rattle.myi_readers.proofs.reader.TableReader.push_between.Goals as goal

pub loop-pair-init : goal.loop-pair-init
loop-pair-init c =
    let r : TableReader = c.args.self.now in
    let bounds = c.args.bounds in
    let all : List (Pair × ℕ) = c.args.keys.now.places in
    let is : c.into_iter-pair-iterator.result ≡ entries_between pair_cmp bounds.0 bounds.1 all = c.into_iter-pair-iterator.ensures.into_iter_gives ∙ c.between-pair-items.ensures in
    record {
      there = subst (All (λ (e : Pair × ℕ). e.0.row < length (rows_known r))) (sym is) (All-filter (λ (e : Pair × ℕ). range_contains pair_cmp bounds.0 bounds.1 e.0) (λ (e : Pair × ℕ). e.0.row < length (rows_known r)) all c.requires.there);
      rows = ap (λ (l : List (Pair × ℕ)). c.args.found.now.items ++ entry_rows r.defs (rows_known r) c.args.below l) is;
    }

pub push_entry-requires-clause-there : goal.push_entry-requires-clause-there
push_entry-requires-clause-there c =
    let r : TableReader = c.args.self.now in
    let e : Pair × ℕ = (c.in-Some.pair.now, c.in-Some.at.now) in
    let more : c.loop-pair.pair-iterator ≡ e ∷ c.next.new.self = rest_more deref_pair c.loop-pair.pair-iterator c.next.new.self c.next.result (c.in-Some.pair, c.in-Some.at) c.in-Some.is c.next.ensures.steps in
    All-head (λ (e : Pair × ℕ). e.0.row < length (rows_known r)) e c.next.new.self (subst (All (λ (e : Pair × ℕ). e.0.row < length (rows_known r))) more c.loop-pair.invariant.there)

pub loop-pair-preserved : goal.loop-pair-preserved
loop-pair-preserved c =
    let r : TableReader = c.args.self.now in
    let e : Pair × ℕ = (c.in-Some.pair.now, c.in-Some.at.now) in
    let more : c.loop-pair.pair-iterator ≡ e ∷ c.next.new.self = rest_more deref_pair c.loop-pair.pair-iterator c.next.new.self c.next.result (c.in-Some.pair, c.in-Some.at) c.in-Some.is c.next.ensures.steps in
    record {
      there = All-tail (λ (e : Pair × ℕ). e.0.row < length (rows_known r)) e c.next.new.self (subst (All (λ (e : Pair × ℕ). e.0.row < length (rows_known r))) more c.loop-pair.invariant.there);
      rows = entry_more r.defs (rows_known r) c.args.below e c.loop-pair.pair-iterator c.next.new.self c.loop-pair.found.items c.push_entry.new.found.items _ more c.in_ok-push_entry.ensures c.loop-pair.invariant.rows;
    }

pub returns : goal.returns
returns c =
    let r : TableReader = c.args.self.now in
    entry_last r.defs (rows_known r) c.args.below c.loop-pair.pair-iterator c.loop-pair.found.items _ (rest_all deref_pair c.loop-pair.pair-iterator c.next.new.self c.next.result c.in-None.is c.next.ensures.steps) c.loop-pair.invariant.rows
