use Rattle.std.proofs.Common.{◌<◌, ◌^◌, ℕ, List, length, sym, subst, arith}
use Rattle.myi_readers.proofs.SeenLemmas.{packed_known}
use Rattle.myi_readers.proofs.ReaderLemmas.{index_as_known}
use Rattle.myi_readers.proofs.reader.TableReader.index_known.Goals as goal

pub read_on-requires-clause-index : goal.read_on-requires-clause-index
read_on-requires-clause-index c = index_as_known c.args.self.now c.args.key c.index_mut.result.now c.requires.ready (omega (arith, c.requires.key)) (sym c.index_mut.ensures.value)

pub returns-clause-few : goal.returns-clause-few
returns-clause-few c = subst (λ (l : List (List ℕ)). length l < 2 ^ 64) (packed_known c.args.self.now c.requires.ready) c.in_ok-read_on.ensures.few
