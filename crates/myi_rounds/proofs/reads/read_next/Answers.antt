use Rattle.std.proofs.Common.{◌≡◌, ◌∙◌, Some, sym, ap, subst}
use Rattle.myi_adapters.specs.TwoReaders.{told_by}
use Rattle.myi_state.specs.Sound.{IsState}
use Rattle.myi_keyedrows.specs.declared.keyed_rows.KeyedRows.{KeyedRows}
use Rattle.myi_keyedrows.specs.KeyedRows.{HoldTable}
use Rattle.myi_rounds.proofs.FindLemmas.{on_ok_by}
use Rattle.myi_rounds.proofs.ReaderLemmas.{on_lock, on_then, base_state, base_end}
use Rattle.myi_rounds.proofs.SaidLemmas.{next_then, next_now}
use Rattle.myi_rounds.proofs.reads.read_next.Goals as goal

pub returns-in-Some-clause-said : goal.returns-in-Some-clause-said
returns-in-Some-clause-said g c =
    let r = c.args.reader.now.table in
    on_ok_by c.read.result
    (λ says m held own base h steps x at said.
    next_then c.args.lines.now r c.read.new.reader.table base c.args.taken c.in-Some.snap c.args.line steps x c.args.texts.now c.read.new.texts c.in-Some.is at c.read.ensures.on.same c.read.ensures.on.more c.requires.ready.sound (base_state r own base m c.requires.ready h) (says m held own base h) said)
    c.read.ensures.said

pub returns-in-None-clause-said : goal.returns-in-None-clause-said
returns-in-None-clause-said g c =
    let shows = g.R.FileReader.holds in
    let r = c.args.reader.now.table in
    let p = c.lock-snap.new.self.table in
    let lock = c.lock-snap.ensures in
    let on = c.read-in-None.ensures.on in
    on_ok_by c.read-in-None.result
    (λ says m held own base h steps x at said.
    let there : told_by shows c.lock-snap.new.self.files ≡ Some m = ap (told_by shows) lock.files ∙ held in
    let stands : HoldTable p.rows own base m = subst (λ (k : KeyedRows). HoldTable k own base m) (sym lock.rows) h in
    let state : IsState p.defs base = base_state p own base m lock.ready stands in
    next_now c.args.lines.now r p c.read-in-None.new.reader.table base c.args.taken c.lock-snap.result c.args.line steps x c.args.texts.now c.read-in-None.new.texts c.in-None.is at lock.same lock.more on.same on.more lock.ready.sound state
    (λ rows are small. lock.taken base rows are (base_end r own base m h) small) lock.number (says m there own base stands) said)
    c.read-in-None.ensures.said

pub returns-in-None-clause-on : goal.returns-in-None-clause-on
returns-in-None-clause-on g c =
    let lock = c.lock-snap.ensures in
    on_then g.R.FileReader.holds c.args.reader.now c.lock-snap.new.self c.read-in-None.new.reader (on_lock g.R.FileReader.holds c.args.reader.now c.lock-snap.new.self lock.same lock.ready lock.more lock.files lock.rows) c.read-in-None.ensures.on
