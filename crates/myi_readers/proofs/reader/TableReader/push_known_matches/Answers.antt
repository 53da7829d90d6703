use Rattle.std.proofs.Common.{◌≡◌, ◌<◌, ◌++◌, ℕ, suc, length, sym, ap, subst, ◌∙◌, arith}
use Rattle.std.specs.declared.ops.Bound.{Bound}
use Rattle.std.specs.Range.Bound.{IsForward}
use Rattle.std.specs.BTreeMap.Range.{IsLeBy, IsLtBy, entries_between}
use Rattle.std.proofs.lemmas.List.Elements.{All-weaker}
use Rattle.myi_keylist.specs.declared.pair.Pair.{Pair}
use Rattle.myi_keylist.specs.PairOrder.{pair_cmp}
use Rattle.myi_readers.specs.declared.reader.TableReader.{TableReader}
use Rattle.myi_readers.specs.declared.known_keys.KnownKeys.{KnownKeys}
use Rattle.myi_readers.specs.Reader.{rows_known}
use Rattle.myi_readers.specs.Indexes.{IsIndexOf, from_key, entry_rows}
use Rattle.myi_readers.proofs.IndexLemmas.{entries_below, forward, range_read, none_read}
use Rattle.myi_readers.proofs.reader.TableReader.push_known_matches.Goals as goal

pub returns-then-are_crossed : goal.returns-then-are_crossed
returns-then-are_crossed c =
    let r : TableReader = c.args.self.now in
    let range = c.args.range.now in
    none_read r.defs (suc range.key) r.rows.rows.file.counts.length c.args.below (rows_known r) range.from range.to c.args.found.now.items (sym c.are_crossed.ensures ∙ c.if-are_crossed.true)

pub push_between-requires-clause-there : goal.push_between-requires-clause-there
push_between-requires-clause-there c =
    let r : TableReader = c.args.self.now in
    let k : ℕ = c.args.range.now.key in
    let x : KnownKeys = c.index.result.now in
    let lt : k < length r.index.items = let keys = c.requires.ready.indexed.keys in omega (arith, keys, c.requires.key) in
    let is : IsIndexOf r.defs (suc k) r.rows.rows.file.counts.length (rows_known r) x = subst (IsIndexOf r.defs (suc k) r.rows.rows.file.counts.length (rows_known r)) (sym c.index.ensures) (c.requires.ready.indexed.each k x lt) in
    let whole : x.count ≡ length (rows_known r) = ap (λ (y : KnownKeys). y.count) c.index.ensures ∙ c.requires.whole x in
    All-weaker (λ (e : Pair × ℕ). e.0.row < x.count) (λ (e : Pair × ℕ). e.0.row < length (rows_known r)) (λ e low. omega (arith, low, whole)) x.places (entries_below r.defs (suc k) r.rows.rows.file.counts.length (rows_known r) x is)

pub push_between-requires-clause-forward : goal.push_between-requires-clause-forward
push_between-requires-clause-forward c =
    let range = c.args.range.now in
    subst (λ (b : Bound Pair). IsForward (IsLeBy pair_cmp) (IsLtBy pair_cmp) b c.in_ok-to.to) (sym c.in_ok-from.ensures) (subst (λ (b : Bound Pair). IsForward (IsLeBy pair_cmp) (IsLtBy pair_cmp) (from_key range.from) b) (sym c.in_ok-to.ensures) (forward range.from range.to (sym c.are_crossed.ensures ∙ c.if-are_crossed.false)))

pub returns : goal.returns
returns c =
    let r : TableReader = c.args.self.now in
    let range = c.args.range.now in
    let k : ℕ = range.key in
    let x : KnownKeys = c.index.result.now in
    let lt : k < length r.index.items = let keys = c.requires.ready.indexed.keys in omega (arith, keys, c.requires.key) in
    let is : IsIndexOf r.defs (suc k) r.rows.rows.file.counts.length (rows_known r) x = subst (IsIndexOf r.defs (suc k) r.rows.rows.file.counts.length (rows_known r)) (sym c.index.ensures) (c.requires.ready.indexed.each k x lt) in
    let whole : x.count ≡ length (rows_known r) = ap (λ (y : KnownKeys). y.count) c.index.ensures ∙ c.requires.whole x in
    range_read r.defs (suc k) r.rows.rows.file.counts.length c.args.below (rows_known r) x range.from range.to c.args.found.now.items c.push_between.new.found.items is whole c.requires.few (omega (arith, c.ranges.below.fits))
    (c.in_ok-push_between.ensures ∙ ap (λ (b : Bound Pair). c.args.found.now.items ++ entry_rows r.defs (rows_known r) c.args.below (entries_between pair_cmp b c.in_ok-to.to x.places)) c.in_ok-from.ensures
    ∙ ap (λ (b : Bound Pair). c.args.found.now.items ++ entry_rows r.defs (rows_known r) c.args.below (entries_between pair_cmp (from_key range.from) b x.places)) c.in_ok-to.ensures)
