use Rattle.std.proofs.Common.{◌≡◌, ◌≤◌, ◌<◌, ◌^◌, ℕ, length}
use Rattle.std.specs.Prelude.{slice_index}
use Rattle.myi_base.specs.Holding.{IfTold, bytes_of}
use Rattle.myi_pair.specs.Clean.{next_deleted}
use Rattle.myi_window.specs.Excerpt.{StandsIn}
use Rattle.myi_check.specs.ListWalk.{unit_in, place_of, OfRows}
use Rattle.myi_check.proofs.whole_list.next_numbers.Given as goal

-- the numbers are those of the blocks so far
abbrev pub invariant-loop-index : goal.invariant-loop-index
invariant-loop-index g l = record {
  holds : g.F.Files.holds l.files ≡ g.F.Files.holds l.fn.files;
  faults : g.F.Files.faults l.fn.files ≤ g.F.Files.faults l.files;
  stands : IfTold (g.F.Files.holds l.fn.files) (λ m. StandsIn l.heads.window (bytes_of l.rows m));
  long : length l.numbers.items ≡ l.index;
  within : (k : ℕ) → k < length l.numbers.items → slice_index l.numbers.items k < 2 ^ 31;
  unit : l.unit ≡ unit_in l.defs;
  next : IfTold (g.F.Files.holds l.fn.files) (λ m. OfRows l.defs l.end l.deleted (λ rows. (k : ℕ) → k < length l.numbers.items → next_deleted l.defs rows (slice_index l.deleted k) ≡ place_of (unit_in l.defs) (slice_index l.numbers.items k)) (bytes_of l.rows m));
}
