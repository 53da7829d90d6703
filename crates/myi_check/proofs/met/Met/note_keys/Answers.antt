use Rattle.std.proofs.Common.{◌∙◌, List, length, refl, ap}
use Rattle.myi_keylist.specs.declared.pair.Pair.{Pair}
use Rattle.myi_rowkeys.specs.TableKeys.{row_keys}
use Rattle.myi_rowkeys.specs.RowLists.{with_pairs}
use Rattle.myi_check.proofs.MetLemmas.{length-with}
use Rattle.myi_defs.proofs.CallerLemmas.{sound}
use Rattle.myi_pack.proofs.CallerLemmas.{row-fits}
use Rattle.myi_check.proofs.met.Met.note_keys.Goals as goal

pub view_packed-row-requires-clause-sound : goal.view_packed-row-requires-clause-sound
view_packed-row-requires-clause-sound c = sound c.args.defs.now c.requires.defs

pub pointer-requires : goal.pointer-requires
pointer-requires c = sound c.args.defs.now c.requires.defs

pub push-requires-clause-sound : goal.push-requires-clause-sound
push-requires-clause-sound c = sound c.args.defs.now c.requires.defs

pub push-requires-clause-row : goal.push-requires-clause-row
push-requires-clause-row c = row-fits c.args.defs.now c.view_packed-row.result c.args.bytes.now (sound c.args.defs.now c.requires.defs) c.view_packed-row.ensures.packs (λ _. c.requires.few)

pub returns : goal.returns
returns c = record {
  with_keys = refl;
  together = refl;
  row_bytes = refl;
  keys = λ on. (c.view_packed-row.result, c.view_packed-row.ensures.found, c.in_ok-push.ensures ∙ ap (λ at. with_pairs at (row_keys c.args.defs.now c.view_packed-row.result) c.args.self.now.keys) c.pointer.ensures);
  lists = ap (λ (ls : List (List Pair)). length ls) c.in_ok-push.ensures ∙ length-with _ (row_keys c.args.defs.now c.view_packed-row.result) c.args.self.now.keys;
  records = refl;
  places = refl;
  split = refl;
  held = refl;
  frees = record { frees = refl; deleted = refl; empty = refl };
}
