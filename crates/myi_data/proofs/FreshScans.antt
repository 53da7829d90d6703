-- A scan of which nothing was read, and what a change of other files leaves of a scan.
use Rattle.std.proofs.Common.{◌≡◌, ◌≤◌, ℕ, Bool, List, [], length, take, Option, Some, None, Result, Ok, Err, refl, sym, ap, subst, arith}
use Rattle.myi_base.specs.Holding.{Holding, IfTold, bytes_of}
use Rattle.myi_defs.specs.declared.types.RowFormat.{RowFormat}
use Rattle.myi_defs.specs.declared.types.RowFormat.TheVariants.{Static, Dynamic}
use Rattle.myi_defs.specs.declared.types.Defs.{Defs}
use Rattle.myi_chain.specs.Readable as chains
use Rattle.myi_chain.specs.ScanModel.{fresh_scan, scanned}
use Rattle.myi_chain.proofs.CallerLemmas.{scan_ended}
use Rattle.myi_window.specs.Excerpt.{StandsIn}
use Rattle.myi_data.specs.Readable.{packs, items_at, items_by, items_in}
use Rattle.myi_chain.specs.declared.piece.Wanted.{Wanted}
use Rattle.myi_chain.specs.declared.piece.Item.{Item}
use Rattle.myi_chain.specs.declared.piece.ScanFault.{ScanFault}
use Rattle.myi_data.specs.Scanning.{TableScan, left_by, items_ahead, IsAsKnown, AfterTable}
use Rattle.myi_defs.specs.Sound.{IsSound}
use Rattle.myi_data.proofs.SlotLaws.{drop_none}
use Rattle.myi_data.proofs.NextSlotLemmas.{end_left}

all_left : (f : RowFormat) (d : Defs) (extend : Bool) (x : List ℕ) → left_by f d extend 0 [] x ≡ items_by f d extend x
unfolding chains.items_in
all_left Static d extend x = ap (items_at (packs d) d.slot_length 0) (drop_none x)
all_left Dynamic d extend x = refl

pub fresh_ahead : (name : List ℕ) (d : Defs) (extend : Bool) (end : ℕ) (m : Holding) → items_ahead (fresh_scan name d extend end) m ≡ items_in d extend (take end (bytes_of name m))
unfolding items_in
fresh_ahead name d extend end m = all_left d.format d extend (take end (bytes_of name m))

pub fresh_known : (name : List ℕ) (d : Defs) (extend : Bool) (end : ℕ) (m : Holding) → (d.format ≡ Dynamic → end ≤ length (bytes_of name m)) → IsAsKnown (fresh_scan name d extend end) m
fresh_known name d extend end m long = record { kept = refl; long = long }

-- at its end a scan has nothing ahead
pub ahead_ended : (s : TableScan) (m : Holding) → IsSound s.test → s.end ≤ s.place → items_ahead s m ≡ []
ahead_ended s m sound order = by s.test.format refl
  where
    by : (f : RowFormat) → s.test.format ≡ f → left_by f s.test s.extend s.place s.used (scanned s m) ≡ []
    by Static e = end_left (packs s.test) s.test.slot_length s.end s.place (bytes_of s.name m) (omega (arith, sound.slot_pointer e)) order
    by Dynamic e = scan_ended packs s m order

pub ahead_same : (s : TableScan) (m n : Holding) → bytes_of s.name n ≡ bytes_of s.name m → items_ahead s n ≡ items_ahead s m
ahead_same s m n same = ap (λ (x : List ℕ). left_by s.test.format s.test s.extend s.place s.used (take s.end x)) same

pub known_same : (s : TableScan) (m n : Holding) → bytes_of s.name n ≡ bytes_of s.name m → IsAsKnown s m → IsAsKnown s n
known_same s m n same current = record {
  kept = subst (λ (x : List ℕ). StandsIn s.kept x) (sym same) current.kept;
  long = λ e. subst (λ (x : List ℕ). s.end ≤ length x) (sym same) (current.long e);
}

-- whatever a call answers, the file is then as the scan knows it
pub after_known : (wanted : Wanted) (h : Option Holding) (old new : TableScan) (r : Result (Option Item) ScanFault) → AfterTable wanted h old r new → IfTold h (IsAsKnown new)
after_known wanted h old new (Err e) l = l.0.current
after_known wanted h old new (Ok None) l = l.0.current
after_known wanted h old new (Ok (Some found)) l = l.0.current
