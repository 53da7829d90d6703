-- The header of an empty table is the one with the empty state.
use Rattle.std.proofs.Common.{◌≡◌, ℕ, zero, suc, ◌+◌, ◌-◌, ◌*◌, ◌^◌, ◌<◌, Option, None, List, [], ◌∷◌, ◌++◌, length, take, drop, map, replicate, Ok, refl, sym, ap, subst, ◌∙◌, arith, append_assoc}
use Rattle.std.proofs.lemmas.List.{take_at, drop_at, length-append, length-replicate, replicate-append-replicate}
use Rattle.std.proofs.lemmas.List.Elements.{All-replicate}
use Rattle.myi_base.specs.Numbers.{AreBytes, num_at, num_bytes, pointer_number}
use Rattle.myi_base.specs.Items.{spelling, Fit}
use Rattle.myi_base.proofs.CallerLemmas.{num-below, bytes-drop}
use Rattle.myi_defs.specs.declared.types.Defs.{Defs}
use Rattle.myi_defs.specs.declared.header.Front.{Front}
use Rattle.myi_defs.specs.Layout.{mark, first_page, all_keys}
use Rattle.myi_defs.specs.Header.{front}
use Rattle.myi_defs.specs.Sound.{IsSound}
use Rattle.myi_defs.specs.ReadDefs.{read_defs, AreDefs}
use Rattle.myi_defs.specs.EmptyTable as empties
use Rattle.myi_defs.proofs.CallerLemmas.{sound, are_defs, printed-again}
use Rattle.myi_header.specs.Parts.{part}
use Rattle.myi_header.specs.Layout.{layout_of, page_sizes, key_parts, first_page_of}
use Rattle.myi_header.specs.StateOf.{IsPlace, read_state}
use Rattle.myi_header.specs.HeaderOf.{count_widths, counts, root_bytes, middle_length, state_bytes, IsStored, header_of}
use Rattle.myi_header.specs.EmptyState.{empty_state}
use Rattle.myi_header.proofs.PrintLaws.{base_is}
use Rattle.myi_header.proofs.HeaderLaws.{header-read}

abbrev zeros : ℕ → List ℕ
zeros n = replicate n 0

abbrev nulls : ℕ → List ℕ
nulls n = replicate (8 * n) 255

-- numbers of 0 and pointers to nothing in bytes

zeros_8 : num_bytes 8 0 ≡ zeros 8
unfolding num_bytes
zeros_8 = refl

null_8 : num_bytes 8 (pointer_number None) ≡ replicate 8 255
unfolding num_bytes
null_8 = refl

front_28 : (x : List ℕ) → num_bytes 2 0 ++ (num_bytes 1 0 ++ (num_bytes 1 0 ++ (num_bytes 8 0 ++ (num_bytes 8 0 ++ (num_bytes 8 0 ++ x))))) ≡ zeros 28 ++ x
unfolding num_bytes
front_28 x = refl

back_32 : num_bytes 8 0 ++ (num_bytes 8 0 ++ (num_bytes 8 0 ++ (num_bytes 8 0 ++ []))) ≡ zeros 32
unfolding num_bytes
back_32 = refl

counts_spelled : (end : ℕ) → spelling count_widths (0 ∷ 0 ∷ 0 ∷ 0 ∷ 0 ∷ 0 ∷ pointer_number None ∷ end ∷ 0 ∷ 0 ∷ 0 ∷ 0 ∷ []) ≡ zeros 28 ++ (replicate 8 255 ++ (num_bytes 8 end ++ zeros 32))
counts_spelled end =
    front_28 (spelling (8 ∷ 8 ∷ 8 ∷ 8 ∷ 8 ∷ 8 ∷ []) (pointer_number None ∷ end ∷ 0 ∷ 0 ∷ 0 ∷ 0 ∷ []))
    ∙ ap (λ b. zeros 28 ++ (b ++ (num_bytes 8 end ++ spelling (8 ∷ 8 ∷ 8 ∷ 8 ∷ []) (0 ∷ 0 ∷ 0 ∷ 0 ∷ [])))) null_8
    ∙ ap (λ b. zeros 28 ++ (replicate 8 255 ++ (num_bytes 8 end ++ b))) back_32

roots_spelled : (keys : ℕ) → root_bytes (replicate keys None) ≡ nulls keys
roots_spelled zero = refl
roots_spelled (suc keys) =
    ap (λ b. b ++ root_bytes (replicate keys None)) null_8
    ∙ ap (λ b. replicate 8 255 ++ b) (roots_spelled keys)
    ∙ replicate-append-replicate 8 (8 * keys) 255
    ∙ ap (λ n. replicate n 255) (let e : 8 + 8 * keys ≡ 8 * suc keys = omega arith in e)

-- the bytes that are kept, by their places

record Kept (p q m : ℕ) (rest : List ℕ) : Type 0 where
  pub front : take 24 rest ≡ zeros 24
  pub middle : part 24 m rest ≡ nulls p ++ zeros 12
  pub created : part (24 + m) 8 rest ≡ zeros 8
  pub back : drop (32 + m) rest ≡ zeros (16 + 4 * q)

kept_by : (p q m : ℕ) → m ≡ 8 * p + 12 → Kept p q m (zeros 24 ++ (nulls p ++ zeros (36 + 4 * q)))
kept_by p q m is =
    let N : List ℕ = nulls p in
    let Z : List ℕ = zeros (16 + 4 * q) in
    let A : List ℕ = N ++ zeros 12 in
    let rest : List ℕ = zeros 24 ++ (N ++ zeros (36 + 4 * q)) in
    let split : zeros (36 + 4 * q) ≡ zeros 12 ++ (zeros 8 ++ Z) = ap (λ n. zeros n) (let e : 36 + 4 * q ≡ 20 + (16 + 4 * q) = omega arith in e) ∙ sym (replicate-append-replicate 20 (16 + 4 * q) 0) in
    let whole : rest ≡ zeros 24 ++ (A ++ (zeros 8 ++ Z)) = ap (λ (z : List ℕ). zeros 24 ++ (N ++ z)) split ∙ ap (λ (z : List ℕ). zeros 24 ++ z) (sym (append_assoc N (zeros 12) (zeros 8 ++ Z))) in
    let long : length A ≡ m = length-append N (zeros 12) ∙ omega (arith, length-replicate {A = ℕ} (8 * p) 255, is) in
    let d1 : drop 24 rest ≡ A ++ (zeros 8 ++ Z) = ap (drop 24) whole in
    let upto : rest ≡ (zeros 24 ++ A) ++ (zeros 8 ++ Z) = whole ∙ sym (append_assoc (zeros 24) A (zeros 8 ++ Z)) in
    let count : length (zeros 24 ++ A) ≡ 24 + m = length-append (zeros 24) A ∙ omega (arith, long) in
    let d2 : drop (24 + m) rest ≡ zeros 8 ++ Z = ap (drop (24 + m)) upto ∙ drop_at (zeros 24 ++ A) (zeros 8 ++ Z) (24 + m) count in
    let past : rest ≡ ((zeros 24 ++ A) ++ zeros 8) ++ Z = upto ∙ sym (append_assoc (zeros 24 ++ A) (zeros 8) Z) in
    let end : length ((zeros 24 ++ A) ++ zeros 8) ≡ 32 + m = length-append (zeros 24 ++ A) (zeros 8) ∙ omega (arith, count) in
    record {
      front = refl;
      middle = ap (take m) d1 ∙ take_at A (zeros 8 ++ Z) m long;
      created = ap (take 8) d2;
      back = ap (drop (32 + m)) past ∙ drop_at ((zeros 24 ++ A) ++ zeros 8) Z (32 + m) end;
    }

-- the state in bytes

state_spelled : (d : Defs) → state_bytes (layout_of d) (empty_state d) ≡ zeros 28 ++ (replicate 8 255 ++ (num_bytes 8 (first_page_of d) ++ (zeros 56 ++ (nulls (length d.keys + page_sizes d) ++ (zeros 12 ++ (num_bytes 8 (all_keys (length d.keys)) ++ zeros (32 + 4 * key_parts d)))))))
unfolding state_bytes
state_spelled d =
    let l = layout_of d in
    let m = middle_length l in
    let k : ℕ = length d.keys in
    let p : ℕ = page_sizes d in
    let q : ℕ = key_parts d in
    let end : ℕ = first_page_of d in
    let K : List ℕ = num_bytes 8 (all_keys k) in
    let rest : List ℕ = zeros 24 ++ (nulls p ++ zeros (36 + 4 * q)) in
    let kept : Kept p q m rest = kept_by p q m (omega arith) in
    let C : List ℕ = spelling count_widths (counts (empty_state d)) in
    let E : List ℕ = num_bytes 8 end in
    ap (λ c. c ++ (take 24 rest ++ (root_bytes (replicate k None) ++ (part 24 m rest ++ (K ++ (part (24 + m) 8 rest ++ (num_bytes 8 0 ++ drop (32 + m) rest))))))) (counts_spelled end)
    ∙ ap (λ f. (zeros 28 ++ (replicate 8 255 ++ (E ++ zeros 32))) ++ (f ++ (root_bytes (replicate k None) ++ (part 24 m rest ++ (K ++ (part (24 + m) 8 rest ++ (num_bytes 8 0 ++ drop (32 + m) rest))))))) kept.front
    ∙ ap (λ r. (zeros 28 ++ (replicate 8 255 ++ (E ++ zeros 32))) ++ (zeros 24 ++ (r ++ (part 24 m rest ++ (K ++ (part (24 + m) 8 rest ++ (num_bytes 8 0 ++ drop (32 + m) rest))))))) (roots_spelled k)
    ∙ ap (λ r. (zeros 28 ++ (replicate 8 255 ++ (E ++ zeros 32))) ++ (zeros 24 ++ (nulls k ++ (r ++ (K ++ (part (24 + m) 8 rest ++ (num_bytes 8 0 ++ drop (32 + m) rest))))))) kept.middle
    ∙ ap (λ r. (zeros 28 ++ (replicate 8 255 ++ (E ++ zeros 32))) ++ (zeros 24 ++ (nulls k ++ ((nulls p ++ zeros 12) ++ (K ++ (r ++ (num_bytes 8 0 ++ drop (32 + m) rest))))))) kept.created
    ∙ ap (λ r. (zeros 28 ++ (replicate 8 255 ++ (E ++ zeros 32))) ++ (zeros 24 ++ (nulls k ++ ((nulls p ++ zeros 12) ++ (K ++ (zeros 8 ++ (r ++ drop (32 + m) rest))))))) zeros_8
    ∙ ap (λ r. (zeros 28 ++ (replicate 8 255 ++ (E ++ zeros 32))) ++ (zeros 24 ++ (nulls k ++ ((nulls p ++ zeros 12) ++ (K ++ (zeros 8 ++ (zeros 8 ++ r))))))) kept.back
    ∙ joined E (nulls k) (nulls p) K (zeros (16 + 4 * q))
    ∙ ap (λ n. zeros 28 ++ (replicate 8 255 ++ (E ++ (zeros 56 ++ (n ++ (zeros 12 ++ (K ++ (zeros 16 ++ zeros (16 + 4 * q))))))))) (replicate-append-replicate (8 * k) (8 * p) 255 ∙ ap (λ n. replicate n 255) (let e : 8 * k + 8 * p ≡ 8 * (k + p) = omega arith in e))
    ∙ ap (λ z. zeros 28 ++ (replicate 8 255 ++ (E ++ (zeros 56 ++ (nulls (k + p) ++ (zeros 12 ++ (K ++ z))))))) (replicate-append-replicate 16 (16 + 4 * q) 0 ∙ ap (λ n. zeros n) (let e : 16 + (16 + 4 * q) ≡ 32 + 4 * q = omega arith in e))
  where
    joined : (E N P K Z : List ℕ) → (zeros 28 ++ (replicate 8 255 ++ (E ++ zeros 32))) ++ (zeros 24 ++ (N ++ ((P ++ zeros 12) ++ (K ++ (zeros 8 ++ (zeros 8 ++ Z))))))
        ≡ zeros 28 ++ (replicate 8 255 ++ (E ++ (zeros 56 ++ ((N ++ P) ++ (zeros 12 ++ (K ++ (zeros 16 ++ Z)))))))
    joined E N P K Z =
        ap (λ t. zeros 28 ++ (replicate 8 255 ++ t)) (append_assoc E (zeros 32) (zeros 24 ++ (N ++ ((P ++ zeros 12) ++ (K ++ (zeros 8 ++ (zeros 8 ++ Z))))))
        ∙ ap (λ t. E ++ (zeros 56 ++ t)) (ap (λ t. N ++ t) (append_assoc P (zeros 12) (K ++ (zeros 16 ++ Z))) ∙ sym (append_assoc N P (zeros 12 ++ (K ++ (zeros 16 ++ Z))))))

-- the header

abbrev header_by : Front → List ℕ → List ℕ
header_by f x = empties.front_bytes x ++ (empties.empty_state f (first_page (length x)) ++ (empties.base_bytes f.base_pos x ++ (mark ++ (drop (f.base_pos + 100) x ++ empties.zeros (first_page (length x) - length x)))))

empty_by : (k p q end : ℕ) (f : Front) → f.keys ≡ k → f.page_sizes ≡ p → f.key_parts ≡ q → empties.empty_state f end ≡ zeros 28 ++ (replicate 8 255 ++ (num_bytes 8 end ++ (zeros 56 ++ (nulls (k + p) ++ (zeros 12 ++ (num_bytes 8 (all_keys k) ++ zeros (32 + 4 * q)))))))
unfolding empties.empty_state empties.zeros empties.nulls
empty_by k p q end f ek ep eq = rw (ek, ep, eq) refl

pub empty-header : (d : Defs) → IsSound d → empties.empty_header d.raw ≡ header_of d (empty_state d)
unfolding empties.empty_header empties.front_bytes empties.base_bytes empties.zeros front header_of
empty-header d s =
    let x : List ℕ = d.raw in
    let f : Front = front x in
    let b = (layout_of d).base in
    let place : f.base_pos ≡ b = sym (base_is d s) in
    let state : empties.empty_state f (first_page_of d) ≡ state_bytes (layout_of d) (empty_state d) = empty_by (length d.keys) (page_sizes d) (key_parts d) (first_page_of d) f s.keys refl refl ∙ sym (state_spelled d) in
    ap (λ t. take 24 x ++ (t ++ (take 94 (drop f.base_pos x) ++ (mark ++ (drop (f.base_pos + 100) x ++ zeros (first_page_of d - length x)))))) state
    ∙ ap (λ at. take 24 x ++ (state_bytes (layout_of d) (empty_state d) ++ (take 94 (drop at x) ++ (mark ++ (drop (at + 100) x ++ zeros (first_page_of d - length x)))))) place

-- the empty state is one that a header can hold

roots_fit : (keys : ℕ) → Fit (map (λ (r : Option ℕ). 8) (replicate keys None)) (map pointer_number (replicate keys None))
roots_fit zero = tt
roots_fit (suc keys) = (omega arith, roots_fit keys)

all_keys_fit : (keys : ℕ) → all_keys keys < 256 ^ 8
unfolding all_keys
all_keys_fit keys = omega arith

held : (d : Defs) → IsSound d → AreBytes d.raw → IsStored d (empty_state d)
held d s bytes =
    let short : num_at 6 2 d.raw < 256 ^ 2 = num-below 2 (drop 6 d.raw) (bytes-drop 6 d.raw bytes) in
    let N : List ℕ = nulls (page_sizes d) in
    let Z : List ℕ = zeros (36 + 4 * key_parts d) in
    record {
      roots = length-replicate (length d.keys) None;
      rest = length-append (zeros 24) (N ++ Z) ∙ omega (arith, length-append N Z, length-replicate {A = ℕ} (8 * page_sizes d) 255, length-replicate {A = ℕ} (36 + 4 * key_parts d) 0);
      dellink = λ e. cc;
      places = All-replicate IsPlace (length d.keys) None (λ e. cc);
      fits = record {
        counts = (omega arith, (omega arith, (omega arith, (omega arith, (omega arith, (omega arith, (omega arith, (omega (arith, s.header), (omega arith, (omega arith, (omega arith, (omega arith, tt))))))))))));
        roots = roots_fit (length d.keys);
        key_map = all_keys_fit (length d.keys);
        recover_time = omega arith;
      };
    }

pub empty-read : (d : Defs) → IsSound d → AreBytes d.raw → read_state d (empties.empty_header d.raw) ≡ Ok (empty_state d)
empty-read d s bytes =
    let whole : empties.empty_header d.raw ≡ header_of d (empty_state d) ++ [] = empty-header d s ∙ sym (append_nil (header_of d (empty_state d))) in
    subst (λ x. read_state d x ≡ Ok (empty_state d)) (sym whole) (header-read d (empty_state d) [] s (held d s bytes))
  where
    append_nil : (x : List ℕ) → x ++ [] ≡ x
    append_nil [] = refl
    append_nil (b ∷ x) = ap (λ y. b ∷ y) (append_nil x)

pub empty-again : (d again : Defs) → AreDefs d → AreBytes again.raw → read_defs (empties.empty_header d.raw) ≡ Ok again → read_state again (empties.empty_header d.raw) ≡ Ok (empty_state again)
empty-again d again are bytes read =
    let same : empties.empty_header again.raw ≡ empties.empty_header d.raw = printed-again d again are read in
    subst (λ x. read_state again x ≡ Ok (empty_state again)) same (empty-read again (sound again (are_defs (empties.empty_header d.raw) again read)) bytes)
