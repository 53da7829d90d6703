use Rattle.myi_state.proofs.CallerLemmas.{found-is}
use Rattle.myi_tablestate.proofs.PairLemmas.{inserted_listed, appended_listed, deleted_listed, listed_has, updated_listed, updated_same}
use Rattle.std.proofs.Common.{List, [], ◌∷◌}
use Rattle.std.specs.List.{AllByRecursion}
use Rattle.myi_state.specs.State.{StoredRow}
use Rattle.myi_tablestate.proofs.laws.key_lists_follow.Goals as goal

units : (rows : List StoredRow) → AllByRecursion (λ (r : StoredRow). Unit {0}) rows
units [] = tt
units (r ∷ rows) = (tt, units rows)

pub returns : goal.returns
returns c = record {
  inserted = λ d s k values sound i. inserted_listed d s k values;
  appended = λ d s k values sound i. appended_listed d s k values;
  deleted = λ d s k at r sound i found. deleted_listed d s k at r found;
  there = λ d s k at r sound i found. listed_has d k at s.rows r found;
  updated = λ d s k at values r sound i found. updated_listed d s k at values r found;
  same = λ d s k at values r sound i found same. updated_same d s k at values r found (found-is (λ r. Unit {0}) at s.rows r found (units s.rows)).1 same;
}
