-- A page of a walk whose pages stand at rising places stands before its children.
use Rattle.std.proofs.Common.{◌≡◌, ℕ, zero, suc, ◌+◌, ◌<◌, Option, Some, List, [], ◌∷◌, ◌++◌, sym, subst, ◌∙◌, arith}
use Rattle.std.specs.List.{AllByRecursion, flat_map}
use Rattle.std.proofs.lemmas.Option.{same_Some}
use Rattle.myi_btree.specs.Walk.{◌>>=◌, Places, Walked, each, walk_of}
use Rattle.myi_btree.specs.LaidPages.{places_from}
use Rattle.myi_btree.proofs.CallerLemmas.{bind_some}
use Rattle.myi_treecopy.proofs.CallerLemmas.{some_node, of_node, of_leaf, leaf_walk}
use Rattle.myi_sortindex.specs.Sorting.{StandsFirst}

abbrev pages_of : List Walked → List ℕ
pages_of ws = flat_map (λ (w : Walked). w.pages) ws

-- each place is below those behind it
abbrev pub AreRising : List ℕ → Type 0
AreRising [] = Unit {0}
AreRising (p ∷ ps) = AllByRecursion (λ q. p < q) ps × AreRising ps

-- ---- parts of a list

all_first : (P : ℕ → Type 0) (xs ys : List ℕ) → AllByRecursion P (xs ++ ys) → AllByRecursion P xs
all_first P [] ys all = tt
all_first P (x ∷ xs) ys all = (all.0, all_first P xs ys all.1)

all_second : (P : ℕ → Type 0) (xs ys : List ℕ) → AllByRecursion P (xs ++ ys) → AllByRecursion P ys
all_second P [] ys all = all
all_second P (x ∷ xs) ys all = all_second P xs ys all.1

pub all_both : (P : ℕ → Type 0) (xs ys : List ℕ) → AllByRecursion P xs → AllByRecursion P ys → AllByRecursion P (xs ++ ys)
all_both P [] ys one other = other
all_both P (x ∷ xs) ys one other = (one.0, all_both P xs ys one.1 other)

rising_first : (xs ys : List ℕ) → AreRising (xs ++ ys) → AreRising xs
rising_first [] ys rising = tt
rising_first (x ∷ xs) ys rising = (all_first (λ q. x < q) xs ys rising.0, rising_first xs ys rising.1)

rising_second : (xs ys : List ℕ) → AreRising (xs ++ ys) → AreRising ys
rising_second [] ys rising = rising
rising_second (x ∷ xs) ys rising = rising_second xs ys rising.1

-- ---- places one behind the other rise

all_above : (low n block first : ℕ) → low < first → AllByRecursion (λ q. low < q) (places_from n block first)
all_above low zero block first less = tt
all_above low (suc n) block first less = (less, all_above low n block (first + block) (omega (arith, less)))

pub places_rise : (n block first : ℕ) → 0 < block → AreRising (places_from n block first)
places_rise zero block first some = tt
places_rise (suc n) block first some = (all_above first n block (first + block) (omega (arith, some)), places_rise n block (first + block) some)

-- ---- the pages of walks

-- a walk begins with its own page
begins : (P : ℕ → Type 0) (read : Places) (height at : ℕ) (w : Walked) → walk_of read height at ≡ Some w → AllByRecursion P w.pages → P at
begins P read zero at w walk all =
    let s = some_node read 0 at w walk in
    let is = same_Some _ w (sym (leaf_walk read at s.0 s.1 (of_leaf read at s.0 w s.1 walk)) ∙ walk) in
    let one : AllByRecursion P (at ∷ []) = subst (λ (v : Walked). AllByRecursion P v.pages) (sym is) all in
    one.0
begins P read (suc height) at w walk all =
    let s = some_node read (suc height) at w walk in
    let o = of_node read height at s.0 w s.1 walk in
    let one : AllByRecursion P (at ∷ pages_of o.0) = subst (λ (v : Walked). AllByRecursion P v.pages) o.2 all in
    one.0

-- what holds of the pages of walks holds of the places that these walks begin at
begin_all : (P : ℕ → Type 0) (read : Places) (height : ℕ) (cs : List ℕ) (ws : List Walked) → each (walk_of read height) cs ≡ Some ws → AllByRecursion P (pages_of ws) → AllByRecursion P cs
begin_all P read height [] ws e all = tt
begin_all P read height (c ∷ cs) ws e all =
    let a = bind_some (walk_of read height c) (λ y. each (walk_of read height) cs >>= λ ys. Some (y ∷ ys)) ws e in
    let b = bind_some (each (walk_of read height) cs) (λ ys. Some (a.0 ∷ ys)) ws a.2 in
    let both : AllByRecursion P (a.0.pages ++ pages_of b.0) = subst (λ (vs : List Walked). AllByRecursion P (pages_of vs)) (sym (same_Some (a.0 ∷ b.0) ws b.2)) all in
    (begins P read height c a.0 a.1 (all_first P a.0.pages (pages_of b.0) both), begin_all P read height cs b.0 b.1 (all_second P a.0.pages (pages_of b.0) both))

-- what holds of the pages of each walk where they rise holds of those of all
all_of_each : (P : ℕ → Type 0) (f : ℕ → Option Walked) → ((c : ℕ) (v : Walked) → f c ≡ Some v → AreRising v.pages → AllByRecursion P v.pages) → (cs : List ℕ) (ws : List Walked) → each f cs ≡ Some ws → AreRising (pages_of ws) → AllByRecursion P (pages_of ws)
all_of_each P f one [] ws e rising = subst (λ (vs : List Walked). AllByRecursion P (pages_of vs)) (same_Some [] ws e) tt
all_of_each P f one (c ∷ cs) ws e rising =
    let a = bind_some (f c) (λ y. each f cs >>= λ ys. Some (y ∷ ys)) ws e in
    let b = bind_some (each f cs) (λ ys. Some (a.0 ∷ ys)) ws a.2 in
    let is = same_Some (a.0 ∷ b.0) ws b.2 in
    let both : AreRising (a.0.pages ++ pages_of b.0) = subst (λ (vs : List Walked). AreRising (pages_of vs)) (sym is) rising in
    subst (λ (vs : List Walked). AllByRecursion P (pages_of vs)) is
    (all_both P a.0.pages (pages_of b.0) (one c a.0 a.1 (rising_first a.0.pages (pages_of b.0) both)) (all_of_each P f one cs b.0 b.1 (rising_second a.0.pages (pages_of b.0) both)))

-- the page of a walk stands before its children
page_first : (read : Places) (height at : ℕ) (w : Walked) → walk_of read height at ≡ Some w → AreRising w.pages → StandsFirst read at
page_first read zero at w walk rising = λ node there. subst (λ cs. AllByRecursion (λ child. at < child) cs) (sym (of_leaf read at node w there walk)) tt
page_first read (suc height) at w walk rising = λ node there.
    let o = of_node read height at node w there walk in
    let parts : AreRising (at ∷ pages_of o.0) = subst (λ (v : Walked). AreRising v.pages) o.2 rising in
    begin_all (λ child. at < child) read height node.children o.0 o.1 parts.0

pub pages_first : (read : Places) (height at : ℕ) (w : Walked) → walk_of read height at ≡ Some w → AreRising w.pages → AllByRecursion (StandsFirst read) w.pages
pages_first read zero at w walk rising =
    let s = some_node read 0 at w walk in
    let is = same_Some _ w (sym (leaf_walk read at s.0 s.1 (of_leaf read at s.0 w s.1 walk)) ∙ walk) in
    subst (λ (v : Walked). AllByRecursion (StandsFirst read) v.pages) is (page_first read 0 at w walk rising, tt)
pages_first read (suc height) at w walk rising =
    let s = some_node read (suc height) at w walk in
    let o = of_node read height at s.0 w s.1 walk in
    let parts : AreRising (at ∷ pages_of o.0) = subst (λ (v : Walked). AreRising v.pages) o.2 rising in
    subst (λ (v : Walked). AllByRecursion (StandsFirst read) v.pages) (sym o.2)
    (page_first read (suc height) at w walk rising, all_of_each (StandsFirst read) (walk_of read height) (λ c v e. pages_first read height c v e) s.0.children o.0 o.1 parts.1)
