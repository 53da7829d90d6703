-- Places in groups: what stays when the lists grow, and the place at an index.
use Rattle.std.proofs.Common.{◌≡◌, ◌⊎◌, inl, inr, ℕ, zero, suc, ◌+◌, ◌*◌, ◌-◌, ◌≤◌, ◌<◌, List, [], ◌∷◌, ◌++◌, length, take, drop, map, get_or, refl, sym, ap, subst, ◌∙◌, arith}
use Rattle.std.specs.List.{AllByRecursion, sum}
use Rattle.std.proofs.lemmas.List.{append-nil, append_assoc, length-append, length-drop, length-map, length-take-le, length_push, take-append-le, take_all, drop-append-le, drop_at, get_or_append_left, get_or-append_right, get_or-take, get_or-drop, get_or-map}
use Rattle.std.proofs.lemmas.List.Sums.{sum_by-cons}
use Rattle.std.proofs.lemmas.Bool.{cases_lt}
use Rattle.myi_placelist.specs.declared.groups.Group.{Group}
use Rattle.myi_placelist.specs.declared.groups.Group.TheVariants.{Close, Near, Far}
use Rattle.myi_placelist.specs.Groups.{AreClose, steps_of, places_behind, IsNear, lows_of, places_at, places_in, IsWithin, AreGrouped, Extends}

-- ---- the lists grow

part_more : (n s : ℕ) (xs ys : List ℕ) → s + n ≤ length xs → take n (drop s (xs ++ ys)) ≡ take n (drop s xs)
part_more n s xs ys within =
    ap (λ (zs : List ℕ). take n zs) (drop-append-le s xs ys (omega (arith, within))) ∙ take-append-le n (drop s xs) ys (omega (arith, within, length-drop s xs))

at_more : (steps ones near more far others : List ℕ) (g : Group) → IsWithin steps near far g → places_at (steps ++ ones) (near ++ more) (far ++ others) g ≡ places_at steps near far g
at_more steps ones near more far others (Close base start) w = ap (λ (ss : List ℕ). places_behind base ss) (part_more 64 start steps ones w.0)
at_more steps ones near more far others (Near base start) w = ap (λ (ls : List ℕ). map (λ (low : ℕ). base + low) ls) (part_more 64 start near more w.0)
at_more steps ones near more far others (Far start) w = part_more 64 start far others w

within_more : (steps ones near more far others : List ℕ) (g : Group) → IsWithin steps near far g → IsWithin (steps ++ ones) (near ++ more) (far ++ others) g
within_more steps ones near more far others (Close base start) w = (omega (arith, w.0, length-append steps ones), w.1)
within_more steps ones near more far others (Near base start) w = (omega (arith, w.0, length-append near more), w.1)
within_more steps ones near more far others (Far start) w = omega (arith, w, length-append far others)

all_more : (steps ones near more far others : List ℕ) (gs : List Group) → AllByRecursion (IsWithin steps near far) gs → AllByRecursion (IsWithin (steps ++ ones) (near ++ more) (far ++ others)) gs
all_more steps ones near more far others [] all = tt
all_more steps ones near more far others (g ∷ gs) all = (within_more steps ones near more far others g all.0, all_more steps ones near more far others gs all.1)

in_more : (steps ones near more far others : List ℕ) (gs : List Group) → AllByRecursion (IsWithin steps near far) gs → places_in (steps ++ ones) (near ++ more) (far ++ others) gs ≡ places_in steps near far gs
in_more steps ones near more far others [] all = refl
in_more steps ones near more far others (g ∷ gs) all =
    ap (λ (ps : List ℕ). ps ++ places_in (steps ++ ones) (near ++ more) (far ++ others) gs) (at_more steps ones near more far others g all.0)
    ∙ ap (λ (ps : List ℕ). places_at steps near far g ++ ps) (in_more steps ones near more far others gs all.1)

-- each of the lists grows
pub record Grow (steps near far s n f : List ℕ) : Type 0 where
  pub ones : Extends steps s
  pub lows : Extends near n
  pub places : Extends far f

pub grown_within : (steps near far s n f : List ℕ) (gs : List Group) → Grow steps near far s n f → AllByRecursion (IsWithin steps near far) gs → AllByRecursion (IsWithin s n f) gs
grown_within steps near far s n f gs g all =
    subst (λ (zs : List ℕ). AllByRecursion (IsWithin zs n f) gs) (sym g.ones.1)
    (subst (λ (xs : List ℕ). AllByRecursion (IsWithin (steps ++ g.ones.0) xs f) gs) (sym g.lows.1)
    (subst (λ (ys : List ℕ). AllByRecursion (IsWithin (steps ++ g.ones.0) (near ++ g.lows.0) ys) gs) (sym g.places.1)
    (all_more steps g.ones.0 near g.lows.0 far g.places.0 gs all)))

pub grown_places : (steps near far s n f : List ℕ) (gs : List Group) → Grow steps near far s n f → AllByRecursion (IsWithin steps near far) gs → places_in s n f gs ≡ places_in steps near far gs
grown_places steps near far s n f gs g all =
    ap (λ (zs : List ℕ). places_in zs n f gs) g.ones.1 ∙ ap (λ (xs : List ℕ). places_in (steps ++ g.ones.0) xs f gs) g.lows.1
    ∙ ap (λ (ys : List ℕ). places_in (steps ++ g.ones.0) (near ++ g.lows.0) ys gs) g.places.1 ∙ in_more steps g.ones.0 near g.lows.0 far g.places.0 gs all

-- nothing but the lists changed
pub grown_groups : (steps near far s n f latest : List ℕ) (gs : List Group) (count : ℕ) → Grow steps near far s n f → AreGrouped steps near far gs latest count → AreGrouped s n f gs latest count
grown_groups steps near far s n f latest gs count g is = record { within = grown_within steps near far s n f gs g is.within; many = is.many }

pub grown_view : (steps near far s n f latest : List ℕ) (gs : List Group) (count : ℕ) → Grow steps near far s n f → AreGrouped steps near far gs latest count → places_in s n f gs ++ latest ≡ places_in steps near far gs ++ latest
grown_view steps near far s n f latest gs count g is = ap (λ (ps : List ℕ). ps ++ latest) (grown_places steps near far s n f gs g is.within)

-- ---- one group more

all_push : (P : Group → Type 0) (gs : List Group) (g : Group) → AllByRecursion P gs → P g → AllByRecursion P (gs ++ g ∷ [])
all_push P [] g all is = (is, tt)
all_push P (h ∷ gs) g all is = (all.0, all_push P gs g all.1 is)

in_push : (steps near far : List ℕ) (gs : List Group) (g : Group) → places_in steps near far (gs ++ g ∷ []) ≡ places_in steps near far gs ++ places_at steps near far g
in_push steps near far [] g = append-nil (places_at steps near far g)
in_push steps near far (h ∷ gs) g =
    ap (λ (ps : List ℕ). places_at steps near far h ++ ps) (in_push steps near far gs g) ∙ sym (append_assoc (places_at steps near far h) (places_in steps near far gs) (places_at steps near far g))

pub closed_groups : (steps near far s n f latest none : List ℕ) (gs hs : List Group) (g : Group) (count : ℕ) → Grow steps near far s n f → AreGrouped steps near far gs latest count → length latest ≡ 64 → IsWithin s n f g → hs ≡ gs ++ g ∷ [] → none ≡ [] → AreGrouped s n f hs none count
closed_groups steps near far s n f latest none gs hs g count grow is long within one nil = record {
  within = subst (λ (xs : List Group). AllByRecursion (IsWithin s n f) xs) (sym one) (all_push (IsWithin s n f) gs g (grown_within steps near far s n f gs grow is.within) within);
  many = omega (arith, is.many, long, ap length one, length_push gs g, ap length nil);
}

pub closed_view : (steps near far s n f latest none : List ℕ) (gs hs : List Group) (g : Group) (count : ℕ) → Grow steps near far s n f → AreGrouped steps near far gs latest count → places_at s n f g ≡ latest → hs ≡ gs ++ g ∷ [] → none ≡ [] → places_in s n f hs ++ none ≡ places_in steps near far gs ++ latest
closed_view steps near far s n f latest none gs hs g count grow is same one nil =
    ap (λ (xs : List ℕ). places_in s n f hs ++ xs) nil ∙ append-nil (places_in s n f hs) ∙ ap (λ (xs : List Group). places_in s n f xs) one
    ∙ in_push s n f gs g ∙ ap (λ (xs : List ℕ). places_in s n f gs ++ xs) same ∙ ap (λ (xs : List ℕ). xs ++ latest) (grown_places steps near far s n f gs grow is.within)

-- ---- what a new group has

behind_steps : (base : ℕ) (ps : List ℕ) → AreClose base ps → places_behind base (steps_of base ps) ≡ ps
behind_steps base [] close = refl
behind_steps base (p ∷ ps) close =
    let first : base + (p - base) ≡ p = omega (arith, close.0) in
    ap (λ (q : ℕ). q ∷ places_behind q (steps_of p ps)) first ∙ ap (λ (qs : List ℕ). p ∷ qs) (behind_steps p ps close.2)

steps_length : (base : ℕ) (ps : List ℕ) → length (steps_of base ps) ≡ length ps
steps_length base [] = refl
steps_length base (p ∷ ps) = ap suc (steps_length p ps)

pub near_places : (base : ℕ) (old places : List ℕ) → length places ≡ 64 → AllByRecursion (IsNear base) places → map (λ (low : ℕ). base + low) (take 64 (drop (length old) (old ++ lows_of base places))) ≡ places
near_places base old places long near =
    ap (λ (ls : List ℕ). map (λ (low : ℕ). base + low) (take 64 ls)) (drop_at old (lows_of base places) (length old) refl)
    ∙ ap (λ (ls : List ℕ). map (λ (low : ℕ). base + low) ls) (take_all 64 (lows_of base places) (omega (arith, long, length-map places (λ (p : ℕ). p - base))))
    ∙ back places near
  where
    back : (ps : List ℕ) → AllByRecursion (IsNear base) ps → map (λ (low : ℕ). base + low) (lows_of base ps) ≡ ps
    back [] all = refl
    back (p ∷ ps) all =
        let first : base + (p - base) ≡ p = omega (arith, all.0.0) in
        ap (λ (q : ℕ). q ∷ map (λ (low : ℕ). base + low) (lows_of base ps)) first ∙ ap (λ (qs : List ℕ). p ∷ qs) (back ps all.1)

pub far_places : (old places : List ℕ) → length places ≡ 64 → take 64 (drop (length old) (old ++ places)) ≡ places
far_places old places long = ap (λ (ps : List ℕ). take 64 ps) (drop_at old places (length old) refl) ∙ take_all 64 places (omega (arith, long))

-- ---- the place at an index

behind_length : (base : ℕ) (ss : List ℕ) → length (places_behind base ss) ≡ length ss
behind_length base [] = refl
behind_length base (s ∷ ss) = ap suc (behind_length (base + s) ss)

at_length : (steps near far : List ℕ) (g : Group) → IsWithin steps near far g → length (places_at steps near far g) ≡ 64
at_length steps near far (Close base start) w = behind_length base (take 64 (drop start steps)) ∙ length-take-le 64 (drop start steps) (omega (arith, w.0, length-drop start steps))
at_length steps near far (Near base start) w = length-map (take 64 (drop start near)) (λ (low : ℕ). base + low) ∙ length-take-le 64 (drop start near) (omega (arith, w.0, length-drop start near))
at_length steps near far (Far start) w = length-take-le 64 (drop start far) (omega (arith, w, length-drop start far))

pub in_length : (steps near far : List ℕ) (gs : List Group) → AllByRecursion (IsWithin steps near far) gs → length (places_in steps near far gs) ≡ 64 * length gs
in_length steps near far [] all = omega arith
in_length steps near far (g ∷ gs) all = omega (arith, length-append (places_at steps near far g) (places_in steps near far gs), at_length steps near far g all.0, in_length steps near far gs all.1)

at_in : (steps near far : List ℕ) (gs : List Group) (q r i : ℕ) (h : Group) → AllByRecursion (IsWithin steps near far) gs → q < length gs → r < 64 → i ≡ 64 * q + r → get_or (places_in steps near far gs) i 0 ≡ get_or (places_at steps near far (get_or gs q h)) r 0
at_in steps near far [] q r i h all lt small is = absurd (omega (arith, lt))
at_in steps near far (g ∷ gs) zero r i h all lt small is =
    let same : i ≡ r = omega (arith, is) in
    get_or_append_left (places_at steps near far g) (places_in steps near far gs) 0 i (omega (arith, same, small, at_length steps near far g all.0)) ∙ ap (λ (n : ℕ). get_or (places_at steps near far g) n 0) same
at_in steps near far (g ∷ gs) (suc q) r i h all lt small is =
    get_or-append_right (places_at steps near far g) (places_in steps near far gs) 64 i 0 (at_length steps near far g all.0) (omega (arith, is)) ∙ at_in steps near far gs q r (i - 64) h all.1 (omega (arith, lt)) small (omega (arith, is))

pub group_within : (steps near far : List ℕ) (gs : List Group) (q : ℕ) (h : Group) → AllByRecursion (IsWithin steps near far) gs → q < length gs → h ≡ get_or gs q h → IsWithin steps near far h
group_within steps near far gs q h all lt at = subst (IsWithin steps near far) (sym at) (by gs q all lt)
  where
    by : (xs : List Group) (k : ℕ) → AllByRecursion (IsWithin steps near far) xs → k < length xs → IsWithin steps near far (get_or xs k h)
    by [] k all lt = absurd (omega (arith, lt))
    by (x ∷ xs) zero all lt = all.0
    by (x ∷ xs) (suc k) all lt = by xs k all.1 (omega (arith, lt))

pub grouped_at : (steps near far latest : List ℕ) (gs : List Group) (q r i : ℕ) (h : Group) (x : ℕ) → AllByRecursion (IsWithin steps near far) gs → q < length gs → r < 64 → i ≡ 64 * q + r → h ≡ get_or gs q h → x ≡ get_or (places_at steps near far h) r 0 → x ≡ get_or (places_in steps near far gs ++ latest) i 0
grouped_at steps near far latest gs q r i h x all lt small is at here =
    here ∙ ap (λ (g : Group). get_or (places_at steps near far g) r 0) at ∙ sym (at_in steps near far gs q r i h all lt small is)
    ∙ sym (get_or_append_left (places_in steps near far gs) latest 0 i (omega (arith, is, small, lt, in_length steps near far gs all)))

pub latest_at : (steps near far latest : List ℕ) (gs : List Group) (i x : ℕ) → AllByRecursion (IsWithin steps near far) gs → 64 * length gs ≤ i → x ≡ get_or latest (i - 64 * length gs) 0 → x ≡ get_or (places_in steps near far gs ++ latest) i 0
latest_at steps near far latest gs i x all le here = here ∙ sym (get_or-append_right (places_in steps near far gs) latest (64 * length gs) i 0 (in_length steps near far gs all) le)

pub view_length : (steps near far latest : List ℕ) (gs : List Group) (count : ℕ) → AreGrouped steps near far gs latest count → count ≡ length (places_in steps near far gs ++ latest)
view_length steps near far latest gs count is = omega (arith, is.many, length-append (places_in steps near far gs) latest, in_length steps near far gs is.within)

-- a place of a group in the list of steps
sum_cons : (s : ℕ) (ss : List ℕ) → sum (s ∷ ss) ≡ s + sum ss
sum_cons s ss = sum_by-cons (λ (x : ℕ). x) s ss

behind_at : (base r : ℕ) (ss : List ℕ) → r < length ss → get_or (places_behind base ss) r 0 ≡ base + sum (take (suc r) ss)
behind_at base r [] lt = absurd (omega (arith, lt))
behind_at base zero (s ∷ ss) lt = omega (arith, sum_cons s [])
behind_at base (suc r) (s ∷ ss) lt =
    let more = behind_at (base + s) r ss (omega (arith, lt)) in
    more ∙ omega (arith, sum_cons s (take (suc r) ss))

pub behind_next : (base i : ℕ) (ss : List ℕ) → i < length ss → get_or (places_behind base ss) i 0 ≡ get_or (base ∷ places_behind base ss) i 0 + get_or ss i 0
behind_next base i [] lt = absurd (omega (arith, lt))
behind_next base zero (s ∷ ss) lt = refl
behind_next base (suc i) (s ∷ ss) lt = behind_next (base + s) i ss (omega (arith, lt))

-- one place more was passed
pub next_place : (ps : List ℕ) (base i at step : ℕ) → get_or ps i 0 ≡ get_or (base ∷ ps) i 0 + step → at ≡ get_or (base ∷ ps) i 0 → at + step ≡ get_or (base ∷ ps) (i + 1) 0
next_place ps base i at step next is = ap (λ (n : ℕ). n + step) is ∙ sym next ∙ ap (λ (j : ℕ). get_or (base ∷ ps) j 0) (one i)
  where
    one : (n : ℕ) → suc n ≡ n + 1
    one n = omega arith

pub one_more_below : (ps : List ℕ) (i x : ℕ) → ((k : ℕ) → k < i → get_or ps k 0 < x) → get_or ps i 0 < x → (k : ℕ) → k < i + 1 → get_or ps k 0 < x
one_more_below ps i x before here k lt = by (cases_lt k i)
  where
    by : (k < i) ⊎ (i ≤ k) → get_or ps k 0 < x
    by (inl less) = before k less
    by (inr at) = let same : i ≡ k = omega (arith, at, lt) in subst (λ (j : ℕ). get_or ps j 0 < x) same here

pub close_at : (base start r : ℕ) (steps : List ℕ) → start + 64 ≤ length steps → r < 64 → base + sum (take (suc r) (drop start steps)) ≡ get_or (places_behind base (take 64 (drop start steps))) r 0
close_at base start r steps within small =
    let all = take 64 (drop start steps) in
    let long : length all ≡ 64 = length-take-le 64 (drop start steps) (omega (arith, within, length-drop start steps)) in
    ap (λ (ss : List ℕ). base + sum ss) (sym (less (suc r) 64 (drop start steps) (omega (arith, small)))) ∙ sym (behind_at base r all (omega (arith, long, small)))
  where
    less : (n m : ℕ) (xs : List ℕ) → n ≤ m → take n (take m xs) ≡ take n xs
    less zero m xs le = refl
    less (suc n) zero xs le = absurd (omega (arith, le))
    less (suc n) (suc m) [] le = refl
    less (suc n) (suc m) (x ∷ xs) le = ap (λ (ys : List ℕ). x ∷ ys) (less n m xs (omega (arith, le)))

-- a place of a group in the near list
pub near_at : (base start r : ℕ) (near : List ℕ) → start + 64 ≤ length near → r < 64 → base + get_or near (start + r) 0 ≡ get_or (map (λ (low : ℕ). base + low) (take 64 (drop start near))) r 0
near_at base start r near within small =
    let part = take 64 (drop start near) in
    let long : length part ≡ 64 = length-take-le 64 (drop start near) (omega (arith, within, length-drop start near)) in
    ap (λ (n : ℕ). base + n) (sym (get_or-take 64 (drop start near) r 0 small ∙ get_or-drop start near r 0)) ∙ sym (get_or-map (λ (low : ℕ). base + low) part r 0 0 (omega (arith, long, small)))

pub far_at : (start r : ℕ) (far : List ℕ) → r < 64 → get_or far (start + r) 0 ≡ get_or (take 64 (drop start far)) r 0
far_at start r far small = sym (get_or-take 64 (drop start far) r 0 small ∙ get_or-drop start far r 0)

-- ---- what the functions do to the lists

pub close_first : (base : ℕ) (left behind : List ℕ) (p : ℕ) → left ≡ p ∷ behind → AreClose base left → (base ≤ p) × (p < base + 256) × AreClose p behind
close_first base left behind p is all = subst (λ (ps : List ℕ). AreClose base ps) is all

pub close_all : (base : ℕ) (left behind : List ℕ) (p : ℕ) → left ≡ p ∷ behind → base ≤ p → p < base + 256 → AreClose p behind → AreClose base left
close_all base left behind p is low high all = subst (λ (ps : List ℕ). AreClose base ps) (sym is) (low, high, all)

pub near_first : (base : ℕ) (left behind : List ℕ) (p : ℕ) → left ≡ p ∷ behind → AllByRecursion (IsNear base) left → IsNear base p × AllByRecursion (IsNear base) behind
near_first base left behind p is all = subst (λ (ps : List ℕ). AllByRecursion (IsNear base) ps) is all

pub near_all : (base : ℕ) (left behind : List ℕ) (p : ℕ) → left ≡ p ∷ behind → IsNear base p → AllByRecursion (IsNear base) behind → AllByRecursion (IsNear base) left
near_all base left behind p is first all = subst (λ (ps : List ℕ). AllByRecursion (IsNear base) ps) (sym is) (first, all)

pub extends_by : (old new more : List ℕ) → new ≡ old ++ more → Extends old new
extends_by old new more e = (more, e)

pub extends_push : (old now new : List ℕ) (x : ℕ) → Extends old now → new ≡ now ++ x ∷ [] → Extends old new
extends_push old now new x ext e = (ext.0 ++ x ∷ [], e ∙ ap (λ (xs : List ℕ). xs ++ x ∷ []) ext.1 ∙ append_assoc old ext.0 (x ∷ []))

-- what is pushed and what is left are all
pub pushed_step : (base : ℕ) (now new left behind : List ℕ) (p step : ℕ) (all : List ℕ) → left ≡ p ∷ behind → step ≡ p - base → new ≡ now ++ step ∷ [] → now ++ steps_of base left ≡ all → new ++ steps_of p behind ≡ all
pushed_step base now new left behind p step all is value e was =
    ap (λ (xs : List ℕ). xs ++ steps_of p behind) (e ∙ ap (λ (n : ℕ). now ++ n ∷ []) value) ∙ append_assoc now ((p - base) ∷ []) (steps_of p behind)
    ∙ ap (λ (ps : List ℕ). now ++ steps_of base ps) (sym is) ∙ was

pub pushed_low : (base : ℕ) (now new left behind : List ℕ) (p low : ℕ) (all : List ℕ) → left ≡ p ∷ behind → low ≡ p - base → new ≡ now ++ low ∷ [] → now ++ lows_of base left ≡ all → new ++ lows_of base behind ≡ all
pushed_low base now new left behind p low all is value e was =
    ap (λ (xs : List ℕ). xs ++ lows_of base behind) (e ∙ ap (λ (n : ℕ). now ++ n ∷ []) value) ∙ append_assoc now ((p - base) ∷ []) (lows_of base behind)
    ∙ ap (λ (ps : List ℕ). now ++ lows_of base ps) (sym is) ∙ was

pub close_placed : (base start : ℕ) (old new places : List ℕ) → start ≡ length old → new ≡ old ++ steps_of base places → length places ≡ 64 → AreClose base places → places_behind base (take 64 (drop start new)) ≡ places
close_placed base start old new places at is long close =
    ap (λ (n : ℕ). places_behind base (take 64 (drop n new))) at ∙ ap (λ (ns : List ℕ). places_behind base (take 64 (drop (length old) ns))) is
    ∙ ap (λ (ss : List ℕ). places_behind base (take 64 ss)) (drop_at old (steps_of base places) (length old) refl)
    ∙ ap (λ (ss : List ℕ). places_behind base ss) (take_all 64 (steps_of base places) (omega (arith, long, steps_length base places)))
    ∙ behind_steps base places close

pub close_inside : (base start : ℕ) (old new places : List ℕ) → start ≡ length old → new ≡ old ++ steps_of base places → length places ≡ 64 → start + 64 ≤ length new
close_inside base start old new places at is long = omega (arith, at, ap length is, length-append old (steps_of base places), steps_length base places, long)

pub near_placed : (base start : ℕ) (old new places : List ℕ) → start ≡ length old → new ≡ old ++ lows_of base places → length places ≡ 64 → AllByRecursion (IsNear base) places → map (λ (low : ℕ). base + low) (take 64 (drop start new)) ≡ places
near_placed base start old new places at is long near =
    ap (λ (n : ℕ). map (λ (low : ℕ). base + low) (take 64 (drop n new))) at ∙ ap (λ (ns : List ℕ). map (λ (low : ℕ). base + low) (take 64 (drop (length old) ns))) is ∙ near_places base old places long near

pub near_inside : (base start : ℕ) (old new places : List ℕ) → start ≡ length old → new ≡ old ++ lows_of base places → length places ≡ 64 → start + 64 ≤ length new
near_inside base start old new places at is long = omega (arith, at, ap length is, length-append old (lows_of base places), length-map places (λ (p : ℕ). p - base), long)

pub far_placed : (start : ℕ) (old new places : List ℕ) → start ≡ length old → new ≡ old ++ places → length places ≡ 64 → take 64 (drop start new) ≡ places
far_placed start old new places at is long = ap (λ (n : ℕ). take 64 (drop n new)) at ∙ ap (λ (ns : List ℕ). take 64 (drop (length old) ns)) is ∙ far_places old places long

pub far_inside : (start : ℕ) (old new places : List ℕ) → start ≡ length old → new ≡ old ++ places → length places ≡ 64 → start + 64 ≤ length new
far_inside start old new places at is long = omega (arith, at, ap length is, length-append old places, long)
