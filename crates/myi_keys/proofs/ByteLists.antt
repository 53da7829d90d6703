-- Lists whose items are bytes.
use Rattle.std.proofs.Common.{ℕ, zero, suc, ◌<◌, List, [], ◌∷◌, ◌++◌, map, reverse, sym, subst, lit<}
use Rattle.std.proofs.lemmas.Grind.{reverse_onto}
use Rattle.myi_base.specs.Numbers.{AreBytes}

pub no_bytes : AreBytes []
no_bytes i = lit< tt

pub bytes-cons : (b : ℕ) (x : List ℕ) → b < 256 → AreBytes x → AreBytes (b ∷ x)
bytes-cons b x is bytes zero = is
bytes-cons b x is bytes (suc i) = bytes i

pub bytes-append : (x y : List ℕ) → AreBytes x → AreBytes y → AreBytes (x ++ y)
bytes-append [] y left right i = right i
bytes-append (b ∷ x) y left right zero = left 0
bytes-append (b ∷ x) y left right (suc i) = bytes-append x y (λ j. left (suc j)) right i

pub bytes-reverse : (x : List ℕ) → AreBytes x → AreBytes (reverse x)
bytes-reverse [] bytes = no_bytes
bytes-reverse (b ∷ x) bytes =
    subst (λ (y : List ℕ). AreBytes y) (sym (reverse_onto x b [])) (bytes-append (reverse x) (b ∷ []) (bytes-reverse x (λ i. bytes (suc i))) (bytes-cons b [] (bytes 0) no_bytes))

pub bytes-map : (f : ℕ → ℕ) (x : List ℕ) → ((b : ℕ) → b < 256 → f b < 256) → AreBytes x → AreBytes (map f x)
bytes-map f [] byte bytes i = lit< tt
bytes-map f (b ∷ x) byte bytes zero = byte b (bytes 0)
bytes-map f (b ∷ x) byte bytes (suc i) = bytes-map f x byte (λ j. bytes (suc j)) i
