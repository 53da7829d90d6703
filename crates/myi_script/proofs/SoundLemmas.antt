-- What sound definitions say of keys and their segments.
use Rattle.std.proofs.Common.{◌≡◌, ℕ, zero, suc, ◌+◌, ◌-◌, ◌<◌, ◌≤◌, false, List, [], ◌∷◌, length, get_or, refl, arith, subst, All}
use Rattle.std.proofs.lemmas.List.Elements.{All-get_or, All-nil, All-cons}
use Rattle.std.proofs.lemmas.List.Sums.{sum_by-cons}
use Rattle.std.specs.Prelude.{sum_by}
use Rattle.myi_defs.specs.declared.types.Segment.{Segment}
use Rattle.myi_defs.specs.declared.types.Key.{Key}
use Rattle.myi_defs.specs.declared.types.Defs.{Defs}
use Rattle.myi_defs.specs.Sound.{IsSoundSegment, IsSoundKey, IsSound}
use Rattle.myi_script.specs.Grammar.{segments_from, segments_of}
use Rattle.myi_script.proofs.LineLemmas.{HaveSegments}

pub from_get : (ks : List Key) (i : ℕ) (k : Key) → i < length ks → segments_from ks i ≡ (get_or ks i k).segments
from_get [] i k l = absurd (omega arith)
from_get (x ∷ xs) zero k l = refl
from_get (x ∷ xs) (suc i) k l = from_get xs i k (omega arith)

no_key : Key
no_key = record { unique = false; block_length = 0; segments = [] }

pub have_segments : (d : Defs) → IsSound d → HaveSegments d
have_segments d s k low high =
    let i : k - 1 < length d.keys = omega arith in
    let h = All-get_or (IsSoundKey d.fields d.rec_ref) d.keys (k - 1) no_key i s.keys_sound in
    rw (from_get d.keys (k - 1) no_key i) h.some_segments

-- the segments of a key that there is are few, short and sound
pub record Segments (d : Defs) (ss : List Segment) : Type 0 where
  pub sound : All (IsSoundSegment d.fields) ss
  pub short : All (λ s. s.length ≤ 1000) ss
  pub few : length ss ≤ 16

each_short : (ss : List Segment) → sum_by (λ s. s.length) ss ≤ 1000 → All (λ s. s.length ≤ 1000) ss
each_short [] h = All-nil (λ s. s.length ≤ 1000)
each_short (x ∷ xs) h =
    let total : x.length + sum_by (λ s. s.length) xs ≤ 1000 = let P : ℕ → Type 0 = λ q. q ≤ 1000 in subst P (sum_by-cons (λ s. s.length) x xs) h in
    All-cons (λ s. s.length ≤ 1000) x xs (omega (arith, total)) (each_short xs (omega (arith, total)))

pub segments_sound : (d : Defs) (k : ℕ) (any : Key) → IsSound d → 0 < k → k ≤ length d.keys → Segments d (get_or d.keys (k - 1) any).segments
segments_sound d k any s low high =
    let h = All-get_or (IsSoundKey d.fields d.rec_ref) d.keys (k - 1) any (omega arith) s.keys_sound in
    record { sound = h.segments; short = each_short (get_or d.keys (k - 1) any).segments h.short; few = h.few_segments }

pub segments_are : (d : Defs) (k : ℕ) (any : Key) → 0 < k → k ≤ length d.keys → segments_of d k ≡ (get_or d.keys (k - 1) any).segments
segments_are d k any low high = from_get d.keys (k - 1) any (omega arith)
