use Rattle.std.proofs.Common.{ℕ, None, sym, ap, ◌∙◌}
use Rattle.indexmap.specs.IndexMap.{get}
use Rattle.myi_keys.specs.Limits.{is_complete}
use Rattle.myi_inserter.specs.declared.unique_key.UniqueKey.{UniqueKey}
use Rattle.myi_inserter.specs.declared.inserter.TableInserter.{TableInserter}
use Rattle.myi_inserter.specs.UniqueKeys.{is_same}
use Rattle.myi_inserter.proofs.InsertLemmas.{searched, held_either, some_first, is_none, ends_there, state_of}
use Rattle.myi_inserter.proofs.inserter.TableInserter.holder.Goals as goal

pub base_holder-requires-clause-sound : goal.base_holder-requires-clause-sound
base_holder-requires-clause-sound g c κs within = c.requires.ready.1.sound

pub base_holder-requires-clause-defs : goal.base_holder-requires-clause-defs
base_holder-requires-clause-defs g c κs within = c.requires.ready.1.defs

pub base_holder-requires-clause-each : goal.base_holder-requires-clause-each
base_holder-requires-clause-each g c κs within = c.requires.ready.1.keys

pub base_holder-requires-clause-written : goal.base_holder-requires-clause-written
base_holder-requires-clause-written g c κs within = c.requires.ready.1.written

pub returns-in_err-held-clause-searched : goal.returns-in_err-held-clause-searched
returns-in_err-held-clause-searched g c = searched c.args.self.now c.base_holder.new.rows c.in_err-held.ensures.left c.in_err-held.ensures.written

pub returns-then-is_some-clause-searched : goal.returns-then-is_some-clause-searched
returns-then-is_some-clause-searched g c = searched c.args.self.now c.base_holder.new.rows c.in_ok-held.ensures.left c.in_ok-held.ensures.written

pub returns-clause-searched : goal.returns-clause-searched
returns-clause-searched g c = searched c.args.self.now c.base_holder.new.rows c.in_ok-held.ensures.left c.in_ok-held.ensures.written

pub returns-then-is_some-clause-held : goal.returns-then-is_some-clause-held
returns-then-is_some-clause-held g c = λ m told own base h rows is values key unique whole.
    let i : TableInserter = c.args.self.now in
    let n : ℕ = c.args.key.now.number in
    let one = c.in_ok-held.ensures.held m told own base h values key unique whole in
    some_first c.in_ok-held.held _ (sym c.is_some.ensures ∙ c.if-is_some.true) ∙ sym (held_either i base rows values n c.in_ok-held.held is (state_of i own base m rows is h) (ends_there i own base m h) (sym one))

pub returns-clause-held : goal.returns-clause-held
returns-clause-held g c = λ m told own base h rows is values key unique whole.
    let i : TableInserter = c.args.self.now in
    let n : ℕ = c.args.key.now.number in
    let one = c.in_ok-held.ensures.held m told own base h values key unique whole in
    let none = is_none c.in_ok-held.held (sym c.is_some.ensures ∙ c.if-is_some.false) in
    c.copied.ensures ∙ c.get.ensures.value ∙ ap (get is_same i.put) key ∙ is.found n values c.requires.number unique (ap is_complete (sym (ap (λ (u : UniqueKey). u.key) key)) ∙ whole)
    ∙ sym (held_either i base rows values n None is (state_of i own base m rows is h) (ends_there i own base m h) (sym one ∙ none))
