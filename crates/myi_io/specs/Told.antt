-- Where something is told it is bytes: the laws of files and of readers at what they hold.
use Rattle.std.specs.Prelude.{◌≡◌, ℕ, List, Option, Some, None, refl}
use Rattle.std.specs.Option.{option_map}
use Rattle.std.proofs.Common.{subst}
use Rattle.myi_base.specs.Numbers.{AreBytes}
use Rattle.myi_base.specs.Holding.{Holding, HoldsBytes, IfTold}

pub same_bytes : (x y : List ℕ) → AreBytes x → Some x ≡ Some y → AreBytes y
same_bytes x y bytes e =
    let same : x ≡ y = cc in
    subst AreBytes same bytes

pub same_told : (m n : Holding) → HoldsBytes m → Some m ≡ Some n → HoldsBytes n
same_told m n bytes e =
    let same : m ≡ n = cc in
    subst HoldsBytes same bytes

-- what is told is bytes after a change that keeps bytes
pub shown_bytes : (f : Holding → Holding) (o : Option Holding) → ((m : Holding) → HoldsBytes m → HoldsBytes (f m)) → IfTold o HoldsBytes → IfTold (option_map f o) HoldsBytes
shown_bytes f None each bytes = λ m told. absurd cc
shown_bytes f (Some n) each bytes = λ m told. same_told (f n) m (each n (bytes n refl)) told
