-- What upper crates cite.
use Rattle.std.proofs.Common.{◌≡◌, List, [], ◌∷◌, Option, Some}
use Rattle.myi_base.specs.Holding.{Holding}
use Rattle.myi_state.specs.State.{TableState}
use Rattle.myi_table.specs.Table.{OpenTable}
use Rattle.myi_merge.specs.Merged.{HoldEach, AreKept, AreWhole}
pub use Rattle.myi_merge.proofs.FitLemmas.{fits_like}
pub use Rattle.myi_merge.proofs.FrameLemmas.{as_many, keep_but, kinds_apart}
pub use Rattle.myi_merge.proofs.TableLemmas.{hold_get, like_at}

-- tables that are kept, and of which none is broken, stand for states
pub hold_states : (told : Option Holding) (ts : List OpenTable) (m : Holding) → AreKept told ts → AreWhole ts → told ≡ Some m → (ss : List TableState) × HoldEach ts ss m
hold_states told [] m kept whole held = ([], tt)
hold_states told (t ∷ ts) m kept whole held =
    let one = kept.0 whole.0 m held in
    let more = hold_states told ts m kept.1 whole.1 held in
    (one.0 ∷ more.0, (one.1, more.1))
