-- The header with a state, at the front of any file: how long it is, and what is read of it.
use Rattle.std.proofs.Common.{◌≡◌, ℕ, ◌+◌, ◌-◌, ◌*◌, ◌≤◌, true, zero, suc, Option, List, [], ◌∷◌, ◌++◌, length, take, drop, map, replicate, get_or, bytes_eq, Ok, refl, ap, ◌∙◌, arith, append_assoc, length-append}
use Rattle.std.proofs.lemmas.Bool.{le-ltb}
use Rattle.std.proofs.lemmas.List.{take-append-le, drop-append-le, drop-take, take-take, length-take-le, length-drop, length-replicate}
use Rattle.myi_base.specs.Numbers.{num_at, num_bytes, pointer_of, pointer_number}
use Rattle.myi_base.specs.Items.{numbers, spelling, total_width}
use Rattle.myi_base.proofs.CallerLemmas.{length-num_bytes}
use Rattle.myi_base.proofs.CallerLemmas.{numbers-take}
use Rattle.myi_defs.specs.declared.types.Defs.{Defs}
use Rattle.myi_defs.specs.Sound.{IsSound}
use Rattle.myi_defs.specs.Elsewhere.{AgreeOutsideState}
use Rattle.myi_defs.specs.declared.layout.Layout.{Layout}
use Rattle.myi_header.specs.declared.state.State.{State}
use Rattle.myi_header.specs.Parts.{part}
use Rattle.myi_header.specs.Layout.{layout_of, first_page_of}
use Rattle.myi_defs.specs.Layout.{mark}
use Rattle.myi_header.specs.StateOf.{rest_length, roots_in, rest_at, state_of, has_mark, read_state}
use Rattle.myi_header.specs.HeaderOf.{count_widths, counts, root_bytes, middle_length, state_bytes, IsStored, header_of}
use Rattle.myi_header.proofs.PrintLaws.{base_is, past_raw, state_again, printed}

-- how long a header is, whatever its numbers are

spelled_long : (ws vs : List ℕ) → length vs ≡ length ws → length (spelling ws vs) ≡ total_width ws
spelled_long [] vs same = refl
spelled_long (w ∷ ws) [] same = absurd (omega arith)
spelled_long (w ∷ ws) (v ∷ vs) same = length-append (num_bytes w v) (spelling ws vs) ∙ omega (arith, length-num_bytes w v, spelled_long ws vs (omega arith))

roots_long : (roots : List (Option ℕ)) → length (root_bytes roots) ≡ 8 * length roots
roots_long [] = refl
roots_long (r ∷ roots) = length-append (num_bytes 8 (pointer_number r)) (root_bytes roots) ∙ omega (arith, length-num_bytes 8 (pointer_number r), roots_long roots)

state_long : (l : Layout) (s : State) → 32 + middle_length l ≤ length s.rest → length (state_bytes l s) ≡ 92 + 8 * length s.roots + length s.rest
unfolding state_bytes
state_long l s long =
    let m = middle_length l in
    let C = spelling count_widths (counts s) in
    let Rest0 = take 24 s.rest in
    let Rt = root_bytes s.roots in
    let Rest1 = part 24 m s.rest in
    let K = num_bytes 8 s.key_map in
    let Rest2 = part (24 + m) 8 s.rest in
    let T = num_bytes 8 s.recover_time in
    let Rest3 = drop (32 + m) s.rest in
    omega (
      arith,
      spelled_long count_widths (counts s) refl,
      length-take-le 24 s.rest (omega arith),
      length-take-le m (drop 24 s.rest) (omega (arith, length-drop 24 s.rest)),
      length-take-le 8 (drop (24 + m) s.rest) (omega (arith, length-drop (24 + m) s.rest)),
      length-drop (32 + m) s.rest,
      roots_long s.roots,
      length-num_bytes 8 s.key_map,
      length-num_bytes 8 s.recover_time,
      length-append C (Rest0 ++ (Rt ++ (Rest1 ++ (K ++ (Rest2 ++ (T ++ Rest3)))))),
      length-append Rest0 (Rt ++ (Rest1 ++ (K ++ (Rest2 ++ (T ++ Rest3))))),
      length-append Rt (Rest1 ++ (K ++ (Rest2 ++ (T ++ Rest3)))),
      length-append Rest1 (K ++ (Rest2 ++ (T ++ Rest3))),
      length-append K (Rest2 ++ (T ++ Rest3)),
      length-append Rest2 (T ++ Rest3),
      length-append T Rest3,
    )

pub header-long : (d : Defs) (s : State) → IsSound d → length s.roots ≡ length d.keys → length s.rest ≡ rest_length d → length (header_of d s) ≡ first_page_of d
unfolding header_of
header-long d s sound roots rest =
    let b = (layout_of d).base in
    let is = base_is d sound in
    let inside = sound.base_inside in
    let F = take 24 d.raw in
    let S = state_bytes (layout_of d) s in
    let M = part b 94 d.raw in
    let E = drop (b + 100) d.raw in
    let Z : List ℕ = replicate (first_page_of d - length d.raw) 0 in
    omega (
      arith,
      is,
      inside,
      roots,
      rest,
      past_raw d,
      length-take-le 24 d.raw (omega arith),
      state_long (layout_of d) s (omega (arith, rest)),
      length-take-le 94 (drop b d.raw) (omega (arith, length-drop b d.raw)),
      length-drop (b + 100) d.raw,
      length-replicate {A = ℕ} (first_page_of d - length d.raw) 0,
      length-append F (S ++ (M ++ (mark ++ (E ++ Z)))),
      length-append S (M ++ (mark ++ (E ++ Z))),
      length-append M (mark ++ (E ++ Z)),
      length-append mark (E ++ Z),
      length-append E Z,
    )

-- a header at the front of a longer file

front_part : (at n : ℕ) (h t : List ℕ) → at + n ≤ length h → take n (drop at (h ++ t)) ≡ take n (drop at h)
front_part at n h t inside =
    ap (take n) (drop-append-le at h t (omega arith)) ∙ take-append-le n (drop at h) t (omega (arith, length-drop at h))

agree_longer : (raw h t : List ℕ) → num_at 12 2 raw + 100 ≤ length h → num_at 6 2 raw ≤ length h → AgreeOutsideState raw h → AgreeOutsideState raw (h ++ t)
agree_longer raw h t base inside same = record {
  long = omega (arith, length-append h t, same.long);
  front = take-append-le 24 h t (omega arith) ∙ same.front;
  base = front_part (num_at 12 2 raw) 94 h t (omega arith) ∙ same.base;
  back = ap (drop (num_at 12 2 raw + 100)) (take-append-le (num_at 6 2 raw) h t inside) ∙ same.back;
}

mark_longer : (d : Defs) (h t : List ℕ) → (layout_of d).base + 100 ≤ length h → has_mark d h ≡ true → has_mark d (h ++ t) ≡ true
unfolding has_mark
mark_longer d h t inside is = ap (λ b. bytes_eq b mark) (front_part ((layout_of d).base + 94) 6 h t (omega arith)) ∙ is

regrouped : (a b c t : List ℕ) → (a ++ (b ++ c)) ++ t ≡ a ++ (b ++ (c ++ t))
regrouped a b c t = append_assoc a (b ++ c) t ∙ ap (λ xs. a ++ xs) (append_assoc b c t)

pub header-state : (d : Defs) (s : State) (more : List ℕ) → IsSound d → IsStored d s → state_of d (header_of d s ++ more) ≡ s
unfolding header_of
header-state d s more sound is =
    let b = (layout_of d).base in
    let F = take 24 d.raw in
    let S = state_bytes (layout_of d) s in
    let B : List ℕ = part b 94 d.raw ++ (mark ++ (drop (b + 100) d.raw ++ replicate (first_page_of d - length d.raw) 0)) in
    let first : length F ≡ 24 = length-take-le 24 d.raw (omega (arith, sound.base_inside)) in
    state_again d s (header_of d s ++ more) F (B ++ more) first is.roots is.rest is.dellink is.places is.fits (regrouped F S B more)

pub header-marked : (d : Defs) (s : State) (more : List ℕ) → IsSound d → IsStored d s → has_mark d (header_of d s ++ more) ≡ true
header-marked d s more sound is =
    mark_longer d (header_of d s) more (omega (arith, base_is d sound, header-long d s sound is.roots is.rest, past_raw d, sound.base_inside)) (printed d s sound is.roots is.rest is.dellink is.places is.fits).marked

pub header-elsewhere : (d : Defs) (s : State) (more : List ℕ) → IsSound d → IsStored d s → AgreeOutsideState d.raw (header_of d s ++ more)
header-elsewhere d s more sound is =
    let long = header-long d s sound is.roots is.rest in
    agree_longer d.raw (header_of d s) more (omega (arith, long, past_raw d, sound.base_inside)) (omega (arith, long, past_raw d, sound.header)) (printed d s sound is.roots is.rest is.dellink is.places is.fits).elsewhere

pub header-read : (d : Defs) (s : State) (more : List ℕ) → IsSound d → IsStored d s → read_state d (header_of d s ++ more) ≡ Ok s
unfolding read_state
header-read d s more sound is =
    let h : List ℕ = header_of d s in
    let long : length d.raw ≤ length (h ++ more) = omega (arith, header-long d s sound is.roots is.rest, past_raw d, length-append h more) in
    rw (le-ltb (length (h ++ more)) (length d.raw) long, header-marked d s more sound is) (ap Ok (header-state d s more sound is))

-- what is read of a header rests on its own bytes

number-take : (at w n : ℕ) (x : List ℕ) → at + w ≤ n → num_at at w (take n x) ≡ num_at at w x
number-take at w n x inside =
    let one = numbers-take at n (w ∷ []) (take n x) x (omega arith) (take-take n n x (omega arith)) in
    cc

part-take : (at k n : ℕ) (x : List ℕ) → at + k ≤ n → part at k (take n x) ≡ part at k x
part-take at k n x inside =
    let split : n ≡ at + (n - at) = omega arith in
    ap (λ m. take k (drop at (take m x))) split ∙ ap (take k) (drop-take at (n - at) x) ∙ take-take k (n - at) (drop at x) (omega arith)

root_widths : (keys : ℕ) → total_width (replicate keys 8) ≡ 8 * keys
root_widths zero = refl
root_widths (suc keys) = omega (arith, root_widths keys)

rest-take : (l : Layout) (n : ℕ) (x : List ℕ) → 124 ≤ n → l.key_del ≤ l.key_map → l.key_map + 16 ≤ n → l.recover_time + 8 ≤ l.base → l.base ≤ n → rest_at l (take n x) ≡ rest_at l x
rest-take l n x room order map time base =
    let a = part-take 100 24 n x (omega arith) in
    let b = part-take l.key_del (l.key_map - l.key_del) n x (omega arith) in
    let c = part-take (l.key_map + 8) 8 n x (omega arith) in
    let e = part-take (l.recover_time + 8) (l.base - (l.recover_time + 8)) n x (omega arith) in
    rw (a, b, c, e) refl

pub state-take : (d : Defs) (n : ℕ) (x : List ℕ) → IsSound d → length d.raw ≤ n → state_of d (take n x) ≡ state_of d x
unfolding state_of
state-take d n x sound long =
    let l = layout_of d in
    let is = base_is d sound in
    let inside = sound.base_inside in
    let same : take n (take n x) ≡ take n x = take-take n n x (omega arith) in
    let ns : numbers 24 count_widths (take n x) ≡ numbers 24 count_widths x = numbers-take 24 n count_widths (take n x) x (omega arith) same in
    let ws : List ℕ = replicate (length d.keys) 8 in
    let roots : roots_in (length d.keys) (take n x) ≡ roots_in (length d.keys) x = ap (map pointer_of) (numbers-take 124 n ws (take n x) x (omega (arith, root_widths (length d.keys))) same) in
    let key_map = number-take l.key_map 8 n x (omega arith) in
    let recover_time = number-take l.recover_time 8 n x (omega arith) in
    let rest = rest-take l n x (omega arith) (omega arith) (omega arith) (omega arith) (omega arith) in
    λ i. record {
      open_count = ap (λ (xs : List ℕ). get_or xs 0 0) ns i;
      changed = ap (λ (xs : List ℕ). get_or xs 1 0) ns i;
      sortkey = ap (λ (xs : List ℕ). get_or xs 2 0) ns i;
      records = ap (λ (xs : List ℕ). get_or xs 3 0) ns i;
      del = ap (λ (xs : List ℕ). get_or xs 4 0) ns i;
      split = ap (λ (xs : List ℕ). get_or xs 5 0) ns i;
      dellink = ap (λ (xs : List ℕ). pointer_of (get_or xs 6 0)) ns i;
      key_file_length = ap (λ (xs : List ℕ). get_or xs 7 0) ns i;
      data_file_length = ap (λ (xs : List ℕ). get_or xs 8 0) ns i;
      empty = ap (λ (xs : List ℕ). get_or xs 9 0) ns i;
      key_empty = ap (λ (xs : List ℕ). get_or xs 10 0) ns i;
      auto_increment = ap (λ (xs : List ℕ). get_or xs 11 0) ns i;
      roots = roots i;
      key_map = key_map i;
      recover_time = recover_time i;
      rest = rest i;
    }

part_long : (at n : ℕ) (x : List ℕ) → at + n ≤ length x → length (part at n x) ≡ n
part_long at n x inside = length-take-le n (drop at x) (omega (arith, length-drop at x))

pub state-rest : (d : Defs) (x : List ℕ) → IsSound d → length d.raw ≤ length x → length (state_of d x).rest ≡ rest_length d
unfolding state_of
state-rest d x sound long =
    let l = layout_of d in
    let is = base_is d sound in
    let inside = sound.base_inside in
    let A = part 100 24 x in
    let B = part l.key_del (l.key_map - l.key_del) x in
    let C = part (l.key_map + 8) 8 x in
    let D = part (l.recover_time + 8) (l.base - (l.recover_time + 8)) x in
    omega (
      arith,
      part_long 100 24 x (omega arith),
      part_long l.key_del (l.key_map - l.key_del) x (omega arith),
      part_long (l.key_map + 8) 8 x (omega arith),
      part_long (l.recover_time + 8) (l.base - (l.recover_time + 8)) x (omega arith),
      length-append A (B ++ (C ++ D)),
      length-append B (C ++ D),
      length-append C D,
    )
