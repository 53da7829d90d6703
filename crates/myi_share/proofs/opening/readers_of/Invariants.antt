use Rattle.std.proofs.Common.{◌≡◌, ◌≤◌, All, length, vec_len}
use Rattle.myi_adapters.specs.TwoReaders.{told_by}
use Rattle.myi_tail.specs.Seats.{TailId, IsNew}
use Rattle.myi_share.specs.Sharing.{IsReaderOf}
use Rattle.myi_share.proofs.opening.readers_of.Given as goal

abbrev pub invariant-loop-seat : goal.invariant-loop-seat
invariant-loop-seat g l =
    (goal.iterator-loop-seat g).can_next l.seat-iterator
    × (goal.iterator-loop-seat g).is_finite l.seat-iterator
    × (g.F.Files.holds l.files ≡ g.F.Files.holds l.fn.files)
    × (g.F.Files.faults l.fn.files ≤ g.F.Files.faults l.files)
    × (vec_len l.readers ≡ length l.yielded)
    × ((tail : TailId) → All (IsNew tail) l.fn.seats.items → All (λ r. IsReaderOf (record { table = l.table; tail = tail; number = l.number }) (g.F.Files.holds l.fn.files) (told_by g.F.Reader.FileReader.holds r.files) r.table × IsNew tail r.table.seat) l.readers.items)
