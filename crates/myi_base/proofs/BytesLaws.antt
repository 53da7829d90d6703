-- Lists of bytes: their parts, and what is made of them.
use Rattle.std.proofs.Common.{ℕ, zero, suc, List, [], ◌∷◌, ◌++◌, take, drop, lit<}
use Rattle.std.specs.Prelude.{replicate}
use Rattle.myi_base.specs.Numbers.{AreBytes}

pub bytes-take : (n : ℕ) (x : List ℕ) → AreBytes x → AreBytes (take n x)
bytes-take zero x bytes i = lit< tt
bytes-take (suc n) [] bytes i = lit< tt
bytes-take (suc n) (b ∷ x) bytes zero = bytes zero
bytes-take (suc n) (b ∷ x) bytes (suc i) = bytes-take n x (λ j. bytes (suc j)) i

pub bytes-drop : (n : ℕ) (x : List ℕ) → AreBytes x → AreBytes (drop n x)
bytes-drop zero x bytes i = bytes i
bytes-drop (suc n) [] bytes i = bytes i
bytes-drop (suc n) (b ∷ x) bytes i = bytes-drop n x (λ j. bytes (suc j)) i

pub bytes-none : AreBytes []
bytes-none i = lit< tt

pub bytes-append : (x y : List ℕ) → AreBytes x → AreBytes y → AreBytes (x ++ y)
bytes-append [] y left right i = right i
bytes-append (b ∷ x) y left right zero = left zero
bytes-append (b ∷ x) y left right (suc i) = bytes-append x y (λ j. left (suc j)) right i

pub bytes-zeros : (n : ℕ) → AreBytes (replicate n 0)
bytes-zeros zero i = lit< tt
bytes-zeros (suc n) zero = lit< tt
bytes-zeros (suc n) (suc i) = bytes-zeros n i
