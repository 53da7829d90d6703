-- What is printed has the length of a header, and its state is read again.
use Rattle.std.proofs.Common.{◌≡◌, ℕ, ◌+◌, ◌-◌, ◌*◌, ◌^◌, ◌<◌, ◌≤◌, List, [], ◌∷◌, ◌++◌, length, take, drop, get_or, Option, Some, None, refl, sym, ap, subst, ◌∙◌, arith, append_assoc, length-append}
use Rattle.std.specs.Prelude.{map, replicate, All, true}
use Rattle.std.specs.List.{AllByRecursion}
use Rattle.std.proofs.lemmas.List.Elements.{recursion_from_All}
use Rattle.myi_defs.specs.declared.types.Defs.{Defs}
use Rattle.myi_defs.specs.Sound.{IsSound}
use Rattle.myi_defs.specs.Elsewhere.{AgreeOutsideState}
use Rattle.myi_header.specs.Layout.{layout_of, first_page_of}
use Rattle.std.proofs.lemmas.List.{take_at, drop_at, drop-drop, drop-take, take_all, take-append-drop, length-take-le, length-drop, length-replicate}
use Rattle.myi_base.specs.Numbers.{num, num_at, num_bytes, pointer_of, pointer_number}
use Rattle.myi_base.specs.Items.{numbers, spelling, Fit}
use Rattle.myi_base.proofs.CallerLemmas.{num-num_bytes, length-num_bytes}
use Rattle.myi_base.proofs.CallerLemmas.{length-spelling}
use Rattle.myi_header.specs.declared.state.State.{State}
use Rattle.myi_defs.specs.declared.layout.Layout.{Layout}
use Rattle.myi_header.specs.Parts.{part}
use Rattle.myi_defs.specs.Layout.{mark}
use Rattle.myi_header.specs.StateOf.{IsPlace, rest_length, roots_in, rest_at, state_of, has_mark}
use Rattle.myi_header.specs.HeaderOf.{count_widths, counts, root_bytes, middle_length, state_bytes, FitsWidths, header_of}

-- each root fits eight bytes
abbrev pub FitRoots : List (Option ℕ) → Type 0
FitRoots roots = Fit (map (λ r. 8) roots) (map pointer_number roots)

length-root_bytes : (roots : List (Option ℕ)) → length (root_bytes roots) ≡ 8 * length roots
length-root_bytes [] = refl
length-root_bytes (r ∷ roots) =
    length-append (num_bytes 8 (pointer_number r)) (root_bytes roots) ∙ omega (arith, length-num_bytes 8 (pointer_number r), length-root_bytes roots)

pub length-state_bytes : (l : Layout) (s : State) → 32 + middle_length l ≤ length s.rest → FitsWidths s → length (state_bytes l s) ≡ 92 + 8 * length s.roots + length s.rest
unfolding state_bytes
length-state_bytes l s long fits =
    let m = middle_length l in
    let first = length-spelling count_widths (counts s) fits.counts in
    let front = length-take-le 24 s.rest (omega arith) in
    let middle = length-take-le m (drop 24 s.rest) (omega (arith, length-drop 24 s.rest)) in
    let created = length-take-le 8 (drop (24 + m) s.rest) (omega (arith, length-drop (24 + m) s.rest)) in
    let end = length-drop (32 + m) s.rest in
    let C = spelling count_widths (counts s) in
    let Rest0 = take 24 s.rest in
    let Rt = root_bytes s.roots in
    let Rest1 = part 24 m s.rest in
    let K = num_bytes 8 s.key_map in
    let Rest2 = part (24 + m) 8 s.rest in
    let T = num_bytes 8 s.recover_time in
    let Rest3 = drop (32 + m) s.rest in
    omega (
      arith,
      first,
      front,
      middle,
      created,
      end,
      length-root_bytes s.roots,
      length-num_bytes 8 s.key_map,
      length-num_bytes 8 s.recover_time,
      length-append C (Rest0 ++ (Rt ++ (Rest1 ++ (K ++ (Rest2 ++ (T ++ Rest3)))))),
      length-append Rest0 (Rt ++ (Rest1 ++ (K ++ (Rest2 ++ (T ++ Rest3))))),
      length-append Rt (Rest1 ++ (K ++ (Rest2 ++ (T ++ Rest3)))),
      length-append Rest1 (K ++ (Rest2 ++ (T ++ Rest3))),
      length-append K (Rest2 ++ (T ++ Rest3)),
      length-append Rest2 (T ++ Rest3),
      length-append T Rest3,
    )

-- what stands behind a part that is at a place
pub behind : (n k j : ℕ) (x p q : List ℕ) → drop n x ≡ p ++ q → length p ≡ k → j ≡ n + k → drop j x ≡ q
behind n k j x p q at long sum =
    ap (λ i. drop i x) sum ∙ sym (drop-drop k n x) ∙ ap (drop k) at ∙ drop_at p q k long

pub here : (n k : ℕ) (x p q : List ℕ) → drop n x ≡ p ++ q → length p ≡ k → part n k x ≡ p
here n k x p q at long = ap (take k) at ∙ take_at p q k long

pub number : (n v : ℕ) (x q : List ℕ) → drop n x ≡ num_bytes 8 v ++ q → v < 256 ^ 8 → num_at n 8 x ≡ v
number n v x q at fits = ap (num 8) at ∙ num-num_bytes 8 v q fits

pub pointer_again : (p : Option ℕ) → IsPlace p → pointer_of (pointer_number p) ≡ p
pointer_again None place = refl
pointer_again (Some n) place = grind arith

widths_same : (roots : List (Option ℕ)) → map {B = ℕ} (λ r. 8) roots ≡ replicate (length roots) 8
widths_same [] = refl
widths_same (r ∷ roots) = ap (λ (ws : List ℕ). 8 ∷ ws) (widths_same roots)

pointers_again : (roots : List (Option ℕ)) → AllByRecursion IsPlace roots → map pointer_of (map pointer_number roots) ≡ roots
pointers_again [] places = refl
pointers_again (r ∷ roots) places = ap (λ p. p ∷ map pointer_of (map pointer_number roots)) (pointer_again r places.0) ∙ ap (λ ps. r ∷ ps) (pointers_again roots places.1)

-- eight parts, appended one after the other
pub appended8 : (o0 o1 o2 o3 o4 o5 o6 o7 o8 a b c d e f g h : List ℕ) → o1 ≡ o0 ++ a → o2 ≡ o1 ++ b → o3 ≡ o2 ++ c → o4 ≡ o3 ++ d → o5 ≡ o4 ++ e → o6 ≡ o5 ++ f → o7 ≡ o6 ++ g → o8 ≡ o7 ++ h → o8 ≡ o0 ++ (a ++ (b ++ (c ++ (d ++ (e ++ (f ++ (g ++ h)))))))
appended8 o0 o1 o2 o3 o4 o5 o6 o7 o8 a b c d e f g h e1 e2 e3 e4 e5 e6 e7 e8 = rw (e8, e7, e6, e5, e4, e3, e2, e1) (simp append_assoc)

-- the parts of a state, appended one after the other
pub appended_state : (l : Layout) (s : State) (rest : List ℕ) (roots : List (Option ℕ)) (o0 o1 o2 o3 o4 o5 o6 o7 o8 : List ℕ) → rest ≡ s.rest → roots ≡ s.roots → o1 ≡ o0 ++ spelling count_widths (counts s) → o2 ≡ o1 ++ take 24 rest → o3 ≡ o2 ++ root_bytes roots → o4 ≡ o3 ++ part 24 (middle_length l) rest → o5 ≡ o4 ++ num_bytes 8 s.key_map → o6 ≡ o5 ++ part (24 + middle_length l) 8 rest → o7 ≡ o6 ++ num_bytes 8 s.recover_time → o8 ≡ o7 ++ drop (32 + middle_length l) rest → o8 ≡ o0 ++ state_bytes l s
unfolding state_bytes
appended_state l s rest roots o0 o1 o2 o3 o4 o5 o6 o7 o8 er eo e1 e2 e3 e4 e5 e6 e7 e8 =
    let all = appended8 o0 o1 o2 o3 o4 o5 o6 o7 o8 _ _ _ _ _ _ _ _ e1 e2 e3 e4 e5 e6 e7 e8 in
    rw (er, eo) at all

-- five parts, appended to nothing
pub appended5 : (o1 o2 o3 o4 o5 a b c d e : List ℕ) → o1 ≡ [] ++ a → o2 ≡ o1 ++ b → o3 ≡ o2 ++ c → o4 ≡ o3 ++ d → o5 ≡ o4 ++ e → o5 ≡ a ++ (b ++ (c ++ (d ++ e)))
appended5 o1 o2 o3 o4 o5 a b c d e e1 e2 e3 e4 e5 = rw (e5, e4, e3, e2, e1) (simp append_assoc)

with_end : (a b c d e z : List ℕ) → (a ++ (b ++ (c ++ (d ++ e)))) ++ z ≡ a ++ (b ++ (c ++ (d ++ (e ++ z))))
with_end a b c d e z = simp append_assoc

flattened : (o a b c d e f g h z : List ℕ) → o ++ ((a ++ (b ++ (c ++ (d ++ (e ++ (f ++ (g ++ h))))))) ++ z) ≡ o ++ (a ++ (b ++ (c ++ (d ++ (e ++ (f ++ (g ++ (h ++ z))))))))
flattened o a b c d e f g h z = simp append_assoc

rejoined : (a b c : ℕ) (xs : List ℕ) → take a xs ++ (take b (drop a xs) ++ (take c (drop (a + b) xs) ++ drop (a + b + c) xs)) ≡ xs
rejoined a b c xs =
    let third : take c (drop (a + b) xs) ++ drop (a + b + c) xs ≡ drop (a + b) xs =
    ap (λ ys. take c (drop (a + b) xs) ++ ys) (sym (drop-drop c (a + b) xs)) ∙ take-append-drop c (drop (a + b) xs) in
    let second : take b (drop a xs) ++ drop (a + b) xs ≡ drop a xs =
    ap (λ ys. take b (drop a xs) ++ ys) (sym (drop-drop b a xs)) ∙ take-append-drop b (drop a xs) in
    ap (λ ys. take a xs ++ (take b (drop a xs) ++ ys)) third ∙ ap (λ ys. take a xs ++ ys) second ∙ take-append-drop a xs

-- The places of a state's parts in a header whose first 24 bytes are F, and behind whose state B stands.
pub record Placed (x C Rest0 Rt Rest1 K Rest2 T Rest3 B : List ℕ) (l : Layout) : Type 0 where
  pub counts : drop 24 x ≡ C ++ (Rest0 ++ (Rt ++ (Rest1 ++ (K ++ (Rest2 ++ (T ++ (Rest3 ++ B)))))))
  pub front_rest : part 100 24 x ≡ Rest0
  pub roots : drop 124 x ≡ Rt ++ (Rest1 ++ (K ++ (Rest2 ++ (T ++ (Rest3 ++ B)))))
  pub middle_rest : part l.key_del (l.key_map - l.key_del) x ≡ Rest1
  pub key_map : drop l.key_map x ≡ K ++ (Rest2 ++ (T ++ (Rest3 ++ B)))
  pub created : part (l.key_map + 8) 8 x ≡ Rest2
  pub recover_time : drop l.recover_time x ≡ T ++ (Rest3 ++ B)
  pub end_rest : part (l.recover_time + 8) (l.base - (l.recover_time + 8)) x ≡ Rest3

pub placed : (x F C Rest0 Rt Rest1 K Rest2 T Rest3 B : List ℕ) (l : Layout) → x ≡ F ++ (C ++ (Rest0 ++ (Rt ++ (Rest1 ++ (K ++ (Rest2 ++ (T ++ (Rest3 ++ B))))))))
    → length F ≡ 24 → length C ≡ 76 → length Rest0 ≡ 24 → 124 + length Rt ≡ l.key_del → l.key_del + length Rest1 ≡ l.key_map → length K ≡ 8 → length Rest2 ≡ 8 → length T ≡ 8 → l.recover_time ≡ l.key_map + 16 → l.recover_time + 8 + length Rest3 ≡ l.base
    → Placed x C Rest0 Rt Rest1 K Rest2 T Rest3 B l
placed x F C Rest0 Rt Rest1 K Rest2 T Rest3 B l flat f c r0 rt r1 k r2 t times r3 =
    let S8 : List ℕ = Rest3 ++ B in
    let S7 : List ℕ = T ++ S8 in
    let S6 : List ℕ = Rest2 ++ S7 in
    let S5 : List ℕ = K ++ S6 in
    let S4 : List ℕ = Rest1 ++ S5 in
    let S3 : List ℕ = Rt ++ S4 in
    let S2 : List ℕ = Rest0 ++ S3 in
    let d1 : drop 24 x ≡ C ++ S2 = ap (drop 24) flat ∙ drop_at F (C ++ S2) 24 f in
    let d2 : drop 100 x ≡ S2 = behind 24 76 100 x C S2 d1 c refl in
    let d3 : drop 124 x ≡ S3 = behind 100 24 124 x Rest0 S3 d2 r0 refl in
    let d4 : drop l.key_del x ≡ S4 = behind 124 (length Rt) l.key_del x Rt S4 d3 refl (sym rt) in
    let d5 : drop l.key_map x ≡ S5 = behind l.key_del (length Rest1) l.key_map x Rest1 S5 d4 refl (sym r1) in
    let d6 : drop (l.key_map + 8) x ≡ S6 = behind l.key_map 8 (l.key_map + 8) x K S6 d5 k refl in
    let d7 : drop l.recover_time x ≡ S7 = behind (l.key_map + 8) 8 l.recover_time x Rest2 S7 d6 r2 (omega (arith, times)) in
    let d8 : drop (l.recover_time + 8) x ≡ S8 = behind l.recover_time 8 (l.recover_time + 8) x T S8 d7 t refl in
    record {
      counts = d1;
      front_rest = here 100 24 x Rest0 S3 d2 r0;
      roots = d3;
      middle_rest = here l.key_del (l.key_map - l.key_del) x Rest1 S5 d4 (omega (arith, r1));
      key_map = d5;
      created = here (l.key_map + 8) 8 x Rest2 S7 d6 r2;
      recover_time = d7;
      end_rest = here (l.recover_time + 8) (l.base - (l.recover_time + 8)) x Rest3 B d8 (omega (arith, r3));
    }

-- numbers that are spelled at a place are read there
numbers_at : (at : ℕ) (ws vs x q : List ℕ) → drop at x ≡ spelling ws vs ++ q → Fit ws vs → numbers at ws x ≡ vs
numbers_at at [] [] x q is fit = refl
numbers_at at [] (v ∷ vs) x q is fit = absurd fit
numbers_at at (w ∷ ws) [] x q is fit = absurd fit
numbers_at at (w ∷ ws) (v ∷ vs) x q is fit =
    let first : drop at x ≡ num_bytes w v ++ (spelling ws vs ++ q) = is ∙ append_assoc (num_bytes w v) (spelling ws vs) q in
    let rest : numbers (at + w) ws x ≡ vs = numbers_at (at + w) ws vs x q (behind at w (at + w) x (num_bytes w v) (spelling ws vs ++ q) first (length-num_bytes w v) refl) fit.1 in
    ap (λ n. n ∷ numbers (at + w) ws x) (ap (num w) first ∙ num-num_bytes w v (spelling ws vs ++ q) fit.0) ∙ ap (λ ns. v ∷ ns) rest

roots_again : (d : Defs) (s : State) (x q : List ℕ) → length s.roots ≡ length d.keys → All IsPlace s.roots → FitsWidths s → drop 124 x ≡ root_bytes s.roots ++ q → roots_in (length d.keys) x ≡ s.roots
roots_again d s x q count places fits at =
    let widths : replicate (length d.keys) 8 ≡ map {B = ℕ} (λ r. 8) s.roots = ap (λ n. replicate n 8) (sym count) ∙ sym (widths_same s.roots) in
    ap (λ ws. map pointer_of (numbers 124 ws x)) widths
    ∙ ap (map pointer_of) (numbers_at 124 (map (λ r. 8) s.roots) (map pointer_number s.roots) x q at fits.roots)
    ∙ pointers_again s.roots (recursion_from_All IsPlace s.roots places)

rest_again : (x : List ℕ) (l : Layout) (rest Rest0 Rest1 Rest2 Rest3 : List ℕ) → part 100 24 x ≡ Rest0 → part l.key_del (l.key_map - l.key_del) x ≡ Rest1 → part (l.key_map + 8) 8 x ≡ Rest2 → part (l.recover_time + 8) (l.base - (l.recover_time + 8)) x ≡ Rest3 → Rest0 ++ (Rest1 ++ (Rest2 ++ Rest3)) ≡ rest → rest_at l x ≡ rest
rest_again x l rest Rest0 Rest1 Rest2 Rest3 e0 e1 e2 e3 whole = rw (e0, e1, e2, e3) whole

state_is : (d : Defs) (s : State) (x : List ℕ) → numbers 24 count_widths x ≡ counts s → roots_in (length d.keys) x ≡ s.roots → IsPlace s.dellink → num_at (layout_of d).key_map 8 x ≡ s.key_map → num_at (layout_of d).recover_time 8 x ≡ s.recover_time → rest_at (layout_of d) x ≡ s.rest → state_of d x ≡ s
unfolding state_of
state_is d s x n roots link key_map recover_time rest = λ i. record {
  open_count = ap (λ (xs : List ℕ). get_or xs 0 0) n i;
  changed = ap (λ (xs : List ℕ). get_or xs 1 0) n i;
  sortkey = ap (λ (xs : List ℕ). get_or xs 2 0) n i;
  records = ap (λ (xs : List ℕ). get_or xs 3 0) n i;
  del = ap (λ (xs : List ℕ). get_or xs 4 0) n i;
  split = ap (λ (xs : List ℕ). get_or xs 5 0) n i;
  dellink = (ap (λ (xs : List ℕ). pointer_of (get_or xs 6 0)) n ∙ pointer_again s.dellink link) i;
  key_file_length = ap (λ (xs : List ℕ). get_or xs 7 0) n i;
  data_file_length = ap (λ (xs : List ℕ). get_or xs 8 0) n i;
  empty = ap (λ (xs : List ℕ). get_or xs 9 0) n i;
  key_empty = ap (λ (xs : List ℕ). get_or xs 10 0) n i;
  auto_increment = ap (λ (xs : List ℕ). get_or xs 11 0) n i;
  roots = roots i;
  key_map = key_map i;
  recover_time = recover_time i;
  rest = rest i;
}

-- The state that stands in a header behind its first 24 bytes is read again.
pub state_again : (d : Defs) (s : State) (x F B : List ℕ) → length F ≡ 24 → length s.roots ≡ length d.keys → length s.rest ≡ rest_length d → IsPlace s.dellink → All IsPlace s.roots → FitsWidths s
    → x ≡ F ++ (state_bytes (layout_of d) s ++ B) → state_of d x ≡ s
unfolding state_of state_bytes
state_again d s x F B front roots rest link places fits is =
    let l = layout_of d in
    let m = middle_length l in
    let C = spelling count_widths (counts s) in
    let Rest0 = take 24 s.rest in
    let Rt = root_bytes s.roots in
    let Rest1 = part 24 m s.rest in
    let K = num_bytes 8 s.key_map in
    let Rest2 = part (24 + m) 8 s.rest in
    let T = num_bytes 8 s.recover_time in
    let Rest3 = drop (32 + m) s.rest in
    let flat : x ≡ F ++ (C ++ (Rest0 ++ (Rt ++ (Rest1 ++ (K ++ (Rest2 ++ (T ++ (Rest3 ++ B)))))))) = is ∙ flattened F C Rest0 Rt Rest1 K Rest2 T Rest3 B in
    let root_length = length-root_bytes s.roots in
    let p : Placed x C Rest0 Rt Rest1 K Rest2 T Rest3 B l = placed x F C Rest0 Rt Rest1 K Rest2 T Rest3 B l flat front
    (length-spelling count_widths (counts s) fits.counts)
    (length-take-le 24 s.rest (omega arith))
    (omega (arith, root_length, roots))
    (let long = length-take-le m (drop 24 s.rest) (omega (arith, length-drop 24 s.rest)) in omega (arith, long))
    (length-num_bytes 8 s.key_map)
    (length-take-le 8 (drop (24 + m) s.rest) (omega (arith, length-drop (24 + m) s.rest)))
    (length-num_bytes 8 s.recover_time)
    refl
    (let long = length-drop (32 + m) s.rest in omega (arith, long, rest)) in
    let numbers_again : numbers 24 count_widths x ≡ counts s = numbers_at 24 count_widths (counts s) x (Rest0 ++ (Rt ++ (Rest1 ++ (K ++ (Rest2 ++ (T ++ (Rest3 ++ B))))))) p.counts fits.counts in
    state_is d s x numbers_again (roots_again d s x (Rest1 ++ (K ++ (Rest2 ++ (T ++ (Rest3 ++ B))))) roots places fits p.roots) link
    (number l.key_map s.key_map x (Rest2 ++ (T ++ (Rest3 ++ B))) p.key_map fits.key_map)
    (number l.recover_time s.recover_time x (Rest3 ++ B) p.recover_time fits.recover_time)
    (rest_again x l s.rest Rest0 Rest1 Rest2 Rest3 p.front_rest p.middle_rest p.created p.end_rest (ap (λ n. take 24 s.rest ++ (part 24 m s.rest ++ (part (24 + m) 8 s.rest ++ drop n s.rest))) (let e : 32 + m ≡ 24 + m + 8 = omega arith in e) ∙ rejoined 24 m 8 s.rest))

-- a header without the zeros behind it
pub front_of : Defs → State → List ℕ
front_of d s =
    take 24 d.raw ++ (state_bytes (layout_of d) s ++ (part (layout_of d).base 94 d.raw ++ (mark ++ drop ((layout_of d).base + 100) d.raw)))

pub front_appended : (d : Defs) (s : State) (l : Layout) (raw o0 o1 o2 o3 o4 o5 : List ℕ) → l ≡ layout_of d → raw ≡ d.raw → o0 ≡ [] → o1 ≡ o0 ++ take 24 raw → o2 ≡ o1 ++ state_bytes l s → o3 ≡ o2 ++ part l.base 94 raw → o4 ≡ o3 ++ mark → o5 ≡ o4 ++ drop (l.base + 100) raw → o5 ≡ front_of d s
unfolding front_of
front_appended d s l raw o0 o1 o2 o3 o4 o5 el er e0 e1 e2 e3 e4 e5 =
    let all = appended5 o1 o2 o3 o4 o5 _ _ _ _ _ (e1 ∙ ap (λ o. o ++ take 24 raw) e0) e2 e3 e4 e5 in
    let P : Layout → List ℕ → Type 0 = λ m r. o5 ≡ take 24 r ++ (state_bytes m s ++ (part m.base 94 r ++ (mark ++ drop (m.base + 100) r))) in
    subst (λ r. P (layout_of d) r) er (subst (λ m. P m raw) el all)

pub header_is : (d : Defs) (s : State) → header_of d s ≡ front_of d s ++ replicate (first_page_of d - length d.raw) 0
unfolding header_of front_of
header_is d s = sym (with_end (take 24 d.raw) (state_bytes (layout_of d) s) (part (layout_of d).base 94 d.raw) mark (drop ((layout_of d).base + 100) d.raw) (replicate (first_page_of d - length d.raw) 0))

-- what a header that was printed shows
pub record IsPrinted (d : Defs) (s : State) (x : List ℕ) : Type 0 where
  pub read : state_of d x ≡ s
  pub marked : has_mark d x ≡ true
  pub elsewhere : AgreeOutsideState d.raw x
  pub long : length x ≡ first_page_of d

drop_of_take : (n m : ℕ) (x e z : List ℕ) → drop n x ≡ e ++ z → m ≡ n + length e → drop n (take m x) ≡ e
drop_of_take n m x e z at sum = ap (λ k. drop n (take k x)) sum ∙ drop-take n (length e) x ∙ ap (take (length e)) at ∙ take_at e z (length e) refl

back_again : (b n m : ℕ) (x raw : List ℕ) → b ≡ n → length raw ≡ m → drop (b + 100) (take (length raw) x) ≡ drop (b + 100) raw → drop (n + 100) (take m x) ≡ drop (n + 100) (take m raw)
back_again b n m x raw eb em same =
    let here : drop (b + 100) (take m x) ≡ drop (b + 100) raw = subst (λ k. drop (b + 100) (take k x) ≡ drop (b + 100) raw) em same in
    let whole : take m raw ≡ raw = take_all m raw (omega (arith, em)) in
    subst (λ k. drop (k + 100) (take m x) ≡ drop (k + 100) (take m raw)) eb (here ∙ ap (drop (b + 100)) (sym whole))

pub base_is : (d : Defs) → IsSound d → (layout_of d).base ≡ num_at 12 2 d.raw
base_is d sound = omega (arith, sound.base)

pub length-front_of : (d : Defs) (s : State) → IsSound d → length s.roots ≡ length d.keys → length s.rest ≡ rest_length d → FitsWidths s → length (front_of d s) ≡ length d.raw
unfolding front_of
length-front_of d s sound roots rest fits =
    let b = (layout_of d).base in
    let is = base_is d sound in
    let inside = sound.base_inside in
    let first = length-take-le 24 d.raw (omega arith) in
    let state = length-state_bytes (layout_of d) s (omega (arith, rest)) fits in
    let middle = length-take-le 94 (drop b d.raw) (omega (arith, length-drop b d.raw)) in
    let end = length-drop (b + 100) d.raw in
    omega (
      arith,
      first,
      state,
      middle,
      end,
      roots,
      rest,
      is,
      inside,
      length-append (take 24 d.raw) (state_bytes (layout_of d) s ++ (part b 94 d.raw ++ (mark ++ drop (b + 100) d.raw))),
      length-append (state_bytes (layout_of d) s) (part b 94 d.raw ++ (mark ++ drop (b + 100) d.raw)),
      length-append (part b 94 d.raw) (mark ++ drop (b + 100) d.raw),
      length-append mark (drop (b + 100) d.raw),
    )

pub past_raw : (d : Defs) → length d.raw ≤ first_page_of d
past_raw d = omega arith

pub printed : (d : Defs) (s : State) → IsSound d → length s.roots ≡ length d.keys → length s.rest ≡ rest_length d → IsPlace s.dellink → All IsPlace s.roots → FitsWidths s → IsPrinted d s (header_of d s)
unfolding header_of has_mark
printed d s sound roots rest link places fits =
    let l = layout_of d in
    let Z = replicate (first_page_of d - length d.raw) 0 in
    let F = take 24 d.raw in
    let S = state_bytes l s in
    let M = part l.base 94 d.raw in
    let E = drop (l.base + 100) d.raw in
    let x = header_of d s in
    let is = base_is d sound in
    let inside = sound.base_inside in
    let first : length F ≡ 24 = length-take-le 24 d.raw (omega arith) in
    let state = length-state_bytes l s (omega (arith, rest)) fits in
    let middle : length M ≡ 94 = length-take-le 94 (drop l.base d.raw) (omega (arith, length-drop l.base d.raw)) in
    let d1 : drop 24 x ≡ S ++ (M ++ (mark ++ (E ++ Z))) = drop_at F (S ++ (M ++ (mark ++ (E ++ Z)))) 24 first in
    let d2 : drop l.base x ≡ M ++ (mark ++ (E ++ Z)) = behind 24 (length S) l.base x S (M ++ (mark ++ (E ++ Z))) d1 refl (omega (arith, state, roots, rest)) in
    let d3 : drop (l.base + 94) x ≡ mark ++ (E ++ Z) = behind l.base 94 (l.base + 94) x M (mark ++ (E ++ Z)) d2 middle refl in
    let d4 : drop (l.base + 100) x ≡ E ++ Z = behind (l.base + 94) 6 (l.base + 100) x mark (E ++ Z) d3 refl (omega arith) in
    let whole : length x ≡ first_page_of d = ap length (header_is d s) ∙ length-append (front_of d s) Z ∙ omega (arith, length-front_of d s sound roots rest fits, length-replicate {A = ℕ} (first_page_of d - length d.raw) 0, past_raw d) in
    let n = num_at 12 2 d.raw in
    let front_end : drop (l.base + 100) (take (length d.raw) x) ≡ E = drop_of_take (l.base + 100) (length d.raw) x E Z d4 (omega (arith, length-drop (l.base + 100) d.raw)) in
    record {
      read = state_again d s x F (M ++ (mark ++ (E ++ Z))) first roots rest link places fits refl;
      marked = rw (here (l.base + 94) 6 x mark (E ++ Z) d3 refl) refl;
      elsewhere = record {
        long = omega (arith, whole, past_raw d, sound.header);
        front = take_at F (S ++ (M ++ (mark ++ (E ++ Z)))) 24 first;
        base = subst (λ b. take 94 (drop b x) ≡ take 94 (drop b d.raw)) is (here l.base 94 x M (mark ++ (E ++ Z)) d2 middle);
        back = back_again l.base n (num_at 6 2 d.raw) x d.raw is sound.header front_end;
      };
      long = whole;
    }

pub filled : (d : Defs) (s : State) (front whole : List ℕ) (n : ℕ) → front ≡ front_of d s → whole ≡ front ++ replicate n 0 → n ≡ first_page_of d - length d.raw → whole ≡ header_of d s
filled d s front whole n is more count =
    more ∙ ap (λ k. front ++ replicate k 0) count ∙ ap (λ ys. ys ++ replicate (first_page_of d - length d.raw) 0) is ∙ sym (header_is d s)
