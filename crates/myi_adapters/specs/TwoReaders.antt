-- What two readers of files tell together.
use Rattle.std.specs.Prelude.{◌≡◌, ◌==◌, ℕ, Bool, true, false, not, ◌&&◌, if◌then◌else◌, List, [], length, Option, Some, None, unwrap_or, string_bytes, refl}
use Rattle.std.proofs.Common.{lit<}
use Rattle.std.specs.Str.{bytes_eq}
use Rattle.myi_base.specs.Numbers.{AreBytes}
use Rattle.myi_base.specs.Holding.{Holding, HoldsBytes}
use Rattle.myi_adapters.specs.declared.reader_files.ReaderFiles.{ReaderFiles}
use Rattle.myi_io.specs.Counts.{raised}
use Rattle.myi_io.specs.Told.{same_told}

-- two files by their names
abbrev pub two_files : List ℕ → List ℕ → List ℕ → List ℕ → Holding
two_files a x b y q = if bytes_eq q a then Some x else if bytes_eq q b then Some y else None

-- two files are told where both are, the names differ, and the lengths are those that were kept
abbrev pub two_told : List ℕ → ℕ → Option (List ℕ) → List ℕ → ℕ → Option (List ℕ) → Option Holding
two_told a m None b n y = None
two_told a m (Some x) b n None = None
two_told a m (Some x) b n (Some y) =
    if not (bytes_eq a b) && (length x == m) && (length y == n) then Some (two_files a x b y) else None

-- what two readers tell together, by what each one does
abbrev pub told_by : {R : Type 0} → (R → Option (List ℕ)) → ReaderFiles R → Option Holding
told_by shows s = two_told (string_bytes s.rows.name) s.rows.length (shows s.rows.reader) (string_bytes s.index.name) s.index.length (shows s.index.reader)

-- the length that was kept of the file of a name, and none where the name is neither of two
abbrev pub kept_length : {R : Type 0} → ReaderFiles R → List ℕ → Option ℕ
kept_length s q = if bytes_eq q (string_bytes s.rows.name) then Some s.rows.length else if bytes_eq q (string_bytes s.index.name) then Some s.index.length else None

-- where something is told it is bytes

chosen : (c d : Bool) (x y : List ℕ) → AreBytes x → AreBytes y → AreBytes (unwrap_or (if c then Some x else if d then Some y else None) [])
chosen true d x y p q = p
chosen false true x y p q = q
chosen false false x y p q = λ i. lit< tt

two_bytes : (a x b y : List ℕ) → AreBytes x → AreBytes y → HoldsBytes (two_files a x b y)
two_bytes a x b y p q name = chosen (bytes_eq name a) (bytes_eq name b) x y p q

either : (c : Bool) (m n : Holding) → HoldsBytes m → (if c then Some m else None) ≡ Some n → HoldsBytes n
either true m n bytes e = same_told m n bytes e
either false m n bytes e = absurd cc

pub two_told_bytes : (a : List ℕ) (k : ℕ) (x : Option (List ℕ)) (b : List ℕ) (n : ℕ) (y : Option (List ℕ)) (m : Holding) → ((z : List ℕ) → x ≡ Some z → AreBytes z) → ((z : List ℕ) → y ≡ Some z → AreBytes z) → two_told a k x b n y ≡ Some m → HoldsBytes m
two_told_bytes a k None b n y m p q e = absurd cc
two_told_bytes a k (Some x) b n None m p q e = absurd cc
two_told_bytes a k (Some x) b n (Some y) m p q e = either (not (bytes_eq a b) && (length x == k) && (length y == n)) (two_files a x b y) m (two_bytes a x b y (p x refl) (q y refl)) e

-- the same readers with one changing call more that was refused
abbrev pub refusing : {R : Type 0} → ReaderFiles R → ReaderFiles R
refusing s = record s { refused = raised s.refused }
