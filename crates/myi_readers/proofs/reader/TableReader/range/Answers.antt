use Rattle.std.proofs.Common.{◌<◌, ℕ, suc, List, ◌++◌, nat_lt, length, refl, sym, ap, subst, ◌∙◌}
use Rattle.std.specs.Prelude.{filter, IsPermutation}
use Rattle.std.proofs.lemmas.List.Sorted.{IsPermutation-trans}
use Rattle.myi_defs.specs.declared.types.Defs.{Defs}
use Rattle.myi_pack.specs.Packed.{Values}
use Rattle.myi_slots.specs.SlotFile.{SlotFile}
use Rattle.myi_state.specs.Sound.{IsState}
use Rattle.myi_keyedrows.specs.KeyedRows.{HoldTable}
use Rattle.myi_readers.specs.declared.reader.TableReader.{TableReader}
use Rattle.myi_readers.specs.declared.keyed_row.KeyedRow.{KeyedRow}
use Rattle.myi_readers.specs.KeyedRows.{all_keyed}
use Rattle.myi_readers.specs.Matches.{known_matches}
use Rattle.myi_readers.specs.Reader.{rows_known}
use Rattle.myi_readers.proofs.ScanLemmas.{file_ends}
use Rattle.myi_readers.proofs.MatchLemmas.{seen_matching}
use Rattle.myi_readers.proofs.ReaderLemmas.{reader_again, same_again, index_same}
use Rattle.myi_readers.proofs.reader.TableReader.range.Goals as goal

pub returns-clause-rows : goal.returns-clause-rows
returns-clause-rows g c = λ m held own base h known are.
    let r : TableReader = c.args.self.now in
    let range = c.args.range.now in
    let snap = c.args.snap.now in
    let k : ℕ = suc range.key in
    let file = c.base_matches.ensures.left.file in
    let state : IsState r.defs base = subst (λ (d : Defs). IsState d base) c.requires.ready.defs h.table.state in
    let finds = c.in_ok-found.ensures.found m held own base h in
    let answers = finds.answers in
    let first : List KeyedRow = c.keep_before.new.found.items in
    let later : TableReader → List KeyedRow = λ (t : TableReader). known_matches t range snap.length in
    let half : TableReader = record r { rows = c.base_matches.new.rows } in
    let moved : IsPermutation (first ++ later half) c.push_known_matches.new.found.items = subst (λ (t : TableReader). IsPermutation (first ++ later t) c.push_known_matches.new.found.items) c.index_known.ensures.same c.in_ok-push_known_matches.ensures in
    seen_matching r.defs base known (rows_known r) c.base_matches.new.rows.rows.file.counts.length snap range answers.found first (first ++ later half) c.sort.new.self.items c.in_ok-rows.rows.items c.requires.ready.sound state are.packed are.fit
    (ap (λ (f : SlotFile). f.counts.length) file ∙ file_ends r.rows own base m h) answers.matching
    (c.keep_before.ensures ∙ ap (filter (λ (x : KeyedRow). nat_lt x.pair.row snap.length)) (finds.keyed ∙ ap (λ (l : List (ℕ × Values)). all_keyed r.defs k l) answers.rows))
    refl (IsPermutation-trans (first ++ later half) c.push_known_matches.new.found.items c.sort.new.self.items moved c.sort.ensures.permutation) c.in_ok-sort.ensures.sorted c.in_ok-rows.ensures

pub returns-clause-few : goal.returns-clause-few
returns-clause-few g c = λ m held own base h.
    let answers = (c.in_ok-found.ensures.found m held own base h).answers in record { found = answers.found; matching = answers.matching; few = answers.few }

pub index_known-requires-clause-ready : goal.index_known-requires-clause-ready
index_known-requires-clause-ready g c = reader_again c.args.self.now c.base_matches.new.rows c.requires.ready c.base_matches.ensures.left c.base_matches.ensures.name c.base_matches.ensures.written

pub index_known-requires-clause-key : goal.index_known-requires-clause-key
index_known-requires-clause-key g c = subst (λ (n : ℕ). c.args.range.now.key < n) c.requires.ready.keys c.requires.key

pub push_known_matches-requires-clause-key : goal.push_known_matches-requires-clause-key
push_known_matches-requires-clause-key g c = subst (λ (t : TableReader). c.args.range.now.key < length t.defs.keys) (sym c.index_known.ensures.same) (subst (λ (n : ℕ). c.args.range.now.key < n) c.requires.ready.keys c.requires.key)

pub returns-clause-same : goal.returns-clause-same
returns-clause-same g c = index_same c.args.self.now c.base_matches.new.rows c.index_known.new.self c.index_known.ensures.same c.base_matches.ensures.left

pub returns-clause-known : goal.returns-clause-known
returns-clause-known g c = ap (λ (t : TableReader). t.known) c.index_known.ensures.same

pub returns-clause-seat : goal.returns-clause-seat
returns-clause-seat g c = ap (λ (t : TableReader). t.seat) c.index_known.ensures.same

pub returns-clause-still : goal.returns-clause-still
returns-clause-still g c = λ m held own base h. subst (λ (t : TableReader). HoldTable t.rows own base m) (sym c.index_known.ensures.same) (c.base_matches.ensures.still m held own base h)

pub returns-in_err-index_known-clause-same : goal.returns-in_err-index_known-clause-same
returns-in_err-index_known-clause-same g c = index_same c.args.self.now c.base_matches.new.rows c.index_known.new.self c.index_known.ensures.same c.base_matches.ensures.left

pub returns-in_err-index_known-clause-known : goal.returns-in_err-index_known-clause-known
returns-in_err-index_known-clause-known g c = ap (λ (t : TableReader). t.known) c.index_known.ensures.same

pub returns-in_err-index_known-clause-seat : goal.returns-in_err-index_known-clause-seat
returns-in_err-index_known-clause-seat g c = ap (λ (t : TableReader). t.seat) c.index_known.ensures.same

pub returns-in_err-index_known-clause-still : goal.returns-in_err-index_known-clause-still
returns-in_err-index_known-clause-still g c = λ m held own base h. subst (λ (t : TableReader). HoldTable t.rows own base m) (sym c.index_known.ensures.same) (c.base_matches.ensures.still m held own base h)

pub returns-in_err-push_known_matches-clause-same : goal.returns-in_err-push_known_matches-clause-same
returns-in_err-push_known_matches-clause-same g c = index_same c.args.self.now c.base_matches.new.rows c.index_known.new.self c.index_known.ensures.same c.base_matches.ensures.left

pub returns-in_err-push_known_matches-clause-known : goal.returns-in_err-push_known_matches-clause-known
returns-in_err-push_known_matches-clause-known g c = ap (λ (t : TableReader). t.known) c.index_known.ensures.same

pub returns-in_err-push_known_matches-clause-seat : goal.returns-in_err-push_known_matches-clause-seat
returns-in_err-push_known_matches-clause-seat g c = ap (λ (t : TableReader). t.seat) c.index_known.ensures.same

pub returns-in_err-push_known_matches-clause-still : goal.returns-in_err-push_known_matches-clause-still
returns-in_err-push_known_matches-clause-still g c = λ m held own base h. subst (λ (t : TableReader). HoldTable t.rows own base m) (sym c.index_known.ensures.same) (c.base_matches.ensures.still m held own base h)

pub returns-in_err-sort-clause-same : goal.returns-in_err-sort-clause-same
returns-in_err-sort-clause-same g c = index_same c.args.self.now c.base_matches.new.rows c.index_known.new.self c.index_known.ensures.same c.base_matches.ensures.left

pub returns-in_err-sort-clause-known : goal.returns-in_err-sort-clause-known
returns-in_err-sort-clause-known g c = ap (λ (t : TableReader). t.known) c.index_known.ensures.same

pub returns-in_err-sort-clause-seat : goal.returns-in_err-sort-clause-seat
returns-in_err-sort-clause-seat g c = ap (λ (t : TableReader). t.seat) c.index_known.ensures.same

pub returns-in_err-sort-clause-still : goal.returns-in_err-sort-clause-still
returns-in_err-sort-clause-still g c = λ m held own base h. subst (λ (t : TableReader). HoldTable t.rows own base m) (sym c.index_known.ensures.same) (c.base_matches.ensures.still m held own base h)

pub returns-in_err-rows-clause-same : goal.returns-in_err-rows-clause-same
returns-in_err-rows-clause-same g c = index_same c.args.self.now c.base_matches.new.rows c.index_known.new.self c.index_known.ensures.same c.base_matches.ensures.left

pub returns-in_err-rows-clause-known : goal.returns-in_err-rows-clause-known
returns-in_err-rows-clause-known g c = ap (λ (t : TableReader). t.known) c.index_known.ensures.same

pub returns-in_err-rows-clause-seat : goal.returns-in_err-rows-clause-seat
returns-in_err-rows-clause-seat g c = ap (λ (t : TableReader). t.seat) c.index_known.ensures.same

pub returns-in_err-rows-clause-still : goal.returns-in_err-rows-clause-still
returns-in_err-rows-clause-still g c = λ m held own base h. subst (λ (t : TableReader). HoldTable t.rows own base m) (sym c.index_known.ensures.same) (c.base_matches.ensures.still m held own base h)

pub returns-in_err-found-clause-ready : goal.returns-in_err-found-clause-ready
returns-in_err-found-clause-ready g c = reader_again c.args.self.now c.base_matches.new.rows c.requires.ready c.base_matches.ensures.left c.base_matches.ensures.name c.base_matches.ensures.written

pub returns-in_err-found-clause-same : goal.returns-in_err-found-clause-same
returns-in_err-found-clause-same g c = same_again c.args.self.now c.base_matches.new.rows c.base_matches.ensures.left
