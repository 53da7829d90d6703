-- Codes are bytes, and how long they are.
use Rattle.std.proofs.Common.{◌≡◌, ℕ, ◌+◌, ◌/◌, ◌%◌, ◌<◌, ◌≤◌, cond, List, [], ◌∷◌, length, arith, lit<, inl, inr, ltb}
use Rattle.std.specs.Prelude.{All}
use Rattle.std.specs.List.{AllByRecursion}
use Rattle.std.proofs.lemmas.Bool.{cases_lt, lt-ltb, le-ltb}
use Rattle.std.proofs.lemmas.List.{length-append}
use Rattle.std.proofs.lemmas.List.Elements.{recursion_from_All}
use Rattle.myi_base.specs.Numbers.{AreBytes}
use Rattle.myi_keys.specs.declared.values.KeySeg.{KeySeg}
use Rattle.myi_keys.specs.declared.values.KeySeg.TheVariants.{Absent, Weights}
use Rattle.myi_keys.specs.Codes.{number_code, seg_code, key_code, HasBytes}
use Rattle.myi_keys.specs.Limits.{IsSeg, IsKey}
use Rattle.myi_keys.proofs.ByteLists.{bytes-append, bytes-cons, no_bytes}

number_bytes : (n : ℕ) → n < 65536 → AreBytes (number_code n)
number_bytes n few = elim (cases_lt n 255) [
  | inl small ↦ rw (lt-ltb n 255 small) (bytes-cons n [] (omega arith) no_bytes)
  | inr large ↦ rw (le-ltb n 255 large) (bytes-cons 255 (n / 256 ∷ n % 256 ∷ []) (lit< tt) (bytes-cons (n / 256) (n % 256 ∷ []) (omega arith) (bytes-cons (n % 256) [] (omega arith) no_bytes)))
]

seg_bytes : (seg : KeySeg) → IsSeg seg → HasBytes seg → AreBytes (seg_code seg)
seg_bytes Absent is bytes = bytes-cons 0 [] (lit< tt) no_bytes
seg_bytes (Weights w) is bytes = bytes-append (number_code (length w + 1)) w (number_bytes (length w + 1) (omega arith)) bytes

segs_bytes : (key : List KeySeg) → AllByRecursion IsSeg key → AllByRecursion HasBytes key → AreBytes (key_code key)
segs_bytes [] are bytes = no_bytes
segs_bytes (seg ∷ key) are bytes = bytes-append (seg_code seg) (key_code key) (seg_bytes seg are.0 bytes.0) (segs_bytes key are.1 bytes.1)

pub key_bytes : (key : List KeySeg) → IsKey key → All HasBytes key → AreBytes (key_code key)
key_bytes key is bytes = segs_bytes key (recursion_from_All IsSeg key is.1) (recursion_from_All HasBytes key bytes)

number_short : (n : ℕ) → n < 255 → length (number_code n) ≡ 1
number_short n small = rw (lt-ltb n 255 small) (omega arith)

number_wide : (n : ℕ) → 255 ≤ n → length (number_code n) ≡ 3
number_wide n large = rw (le-ltb n 255 large) (omega arith)

pub seg_size : (most : ℕ) (weights : List ℕ) → length weights ≤ most → length (seg_code (Weights weights)) ≤ cond (ltb most 254) (most + 1) (most + 3)
seg_size most weights few =
    let whole = length-append (number_code (length weights + 1)) weights in
    elim (cases_lt most 254) [
      | inl small ↦ rw (lt-ltb most 254 small) (omega (arith, whole, number_short (length weights + 1) (omega arith)))
      | inr large ↦ rw (le-ltb most 254 large) (elim (cases_lt (length weights + 1) 255) [
        | inl short ↦ omega (arith, whole, number_short (length weights + 1) short)
        | inr wide ↦ omega (arith, whole, number_wide (length weights + 1) wide)
      ])
    ]
