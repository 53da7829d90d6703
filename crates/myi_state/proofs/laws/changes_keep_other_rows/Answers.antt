use Rattle.myi_state.proofs.KeptLemmas.{others-stay, inserted-there, appended-there, updated-there, deleted-gone, update-place}
use Rattle.myi_state.proofs.laws.changes_keep_other_rows.Goals as goal

pub returns : goal.returns
returns c = record { others = others-stay; inserted = inserted-there; appended = appended-there; updated = updated-there; deleted = deleted-gone; place = update-place }
