-- What the answer of a reading says, clause by clause.
use Rattle.std.proofs.Common.{◌≡◌, ◌≢◌, ℕ, Result, Ok, Err, List, refl, sym, ap, ◌∙◌}
use Rattle.std.proofs.lemmas.List.Elements.{All-from_recursion, recursion_from_All}
use Rattle.myi_base.specs.Numbers.{AreBytes}
use Rattle.myi_keys.specs.declared.values.KeySeg.{KeySeg}
use Rattle.myi_keys.specs.declared.codes.KeyFault.{KeyFault}
use Rattle.myi_keys.specs.declared.codes.KeyFault.TheVariants.{Short, Spelling, TooLong, Memory}
use Rattle.myi_keys.specs.Codes.{key_code}
use Rattle.myi_keys.specs.Limits.{IsSeg, IsKey}
use Rattle.myi_keys.specs.Decoding.{key_at, Fails}
use Rattle.myi_keys.specs.Faults.{BreaksOff}
use Rattle.myi_keys.proofs.Readings.{segs_take, segs_again}
use Rattle.myi_keys.proofs.Breaks.{breaks_off, breaks_read}

-- a reading that fails so has this fault, unless it is want of memory
pub read_fault : (f : KeyFault) (read : Result (List KeySeg) KeyFault) → Fails f read → f ≢ Memory → read ≡ Err f
read_fault Short read fails other = fails
read_fault Spelling read fails other = fails
read_fault TooLong read fails other = fails
read_fault Memory read fails other = absurd (other refl)

-- a fault that is not want of memory, also inside an answer
pub other_fault : (f : KeyFault) → ◌≢◌ {A = Result (List KeySeg) KeyFault} (Err f) (Err Memory) → f ≢ Memory
other_fault f other = λ same. other (ap (λ (k : KeyFault). Err k) same)

pub key_taken : (bytes : List ℕ) (key : List KeySeg) → AreBytes bytes → key_at bytes ≡ Ok key → (bytes ≡ key_code key) × IsKey key
key_taken bytes key fits e =
    let taken = segs_take 16 bytes key fits e in
    (taken.0, (taken.1, All-from_recursion IsSeg key taken.2))

pub key_again : (bytes : List ℕ) (key : List KeySeg) → IsKey key → bytes ≡ key_code key → key_at bytes ≡ Ok key
key_again bytes key is e = ap key_at e ∙ segs_again 16 key is.0 (recursion_from_All IsSeg key is.1)

pub err_read : (bytes : List ℕ) (f : KeyFault) → Fails f (key_at bytes) → (key : List KeySeg) → IsKey key → bytes ≡ key_code key → ◌≢◌ {A = Result (List KeySeg) KeyFault} (Err f) (Err Memory) → ◌≡◌ {A = Result (List KeySeg) KeyFault} (Err f) (Ok key)
err_read bytes f fails key is e other = sym (read_fault f (key_at bytes) fails (other_fault f other)) ∙ key_again bytes key is e

pub err_broken : (bytes : List ℕ) (f : KeyFault) → AreBytes bytes → Fails f (key_at bytes) → f ≢ Memory → BreaksOff f bytes
err_broken bytes f fits fails other = breaks_off bytes f fits (read_fault f (key_at bytes) fails other)

pub err_breaks : (bytes : List ℕ) (f : KeyFault) → Fails f (key_at bytes) → (fault : KeyFault) → BreaksOff fault bytes → ◌≢◌ {A = Result (List KeySeg) KeyFault} (Err f) (Err Memory) → ◌≡◌ {A = Result (List KeySeg) KeyFault} (Err f) (Err fault)
err_breaks bytes f fails fault broken other = sym (read_fault f (key_at bytes) fails (other_fault f other)) ∙ breaks_read bytes fault broken

pub err_exact : (bytes : List ℕ) (f : KeyFault) → Fails f (key_at bytes) → ◌≢◌ {A = Result (List KeySeg) KeyFault} (Err f) (Err Memory) → ◌≡◌ {A = Result (List KeySeg) KeyFault} (Err f) (key_at bytes)
err_exact bytes f fails other = sym (read_fault f (key_at bytes) fails (other_fault f other))
