-- What a read of a file gives.
use Rattle.std.proofs.Common.{◌≡◌, ◌∙◌, ℕ, ◌+◌, ◌-◌, ◌^◌, ◌<◌, ◌≤◌, true, List, [], ◌++◌, length, take, drop, min, Option, Some, sym, ap, subst, arith}
use Rattle.std.specs.Prelude.{MatchOption}
use Rattle.std.proofs.lemmas.List.{append-nil, length-take-le, length-drop, drop_all}
use Rattle.myi_defs.specs.declared.types.Defs.{Defs}
use Rattle.myi_defs.specs.Sound.{IsSound}
use Rattle.myi_pack.specs.Packed.{Values, Packs}
use Rattle.myi_pack.specs.Spelling.{fits}
use Rattle.myi_pack.proofs.CallerLemmas.{row-fits}

-- what a view of few bytes shows fits
pub view-fits : (d : Defs) (o : Option Values) (row : Values) (b : List ℕ) → IsSound d → length b < 2 ^ 32 → o ≡ Some row → MatchOption o ((r : Values) → Packs d r b → ⊥) (λ r. Packs d r b) → fits d row ≡ true
view-fits d o row b sound few e packs = row-fits d row b sound (subst (λ (q : Option Values). MatchOption q ((r : Values) → Packs d r b → ⊥) (λ r. Packs d r b)) e packs) (λ dynamic. few)

-- where a read of these bytes gives fewer, the file ends before
pub read-short : (old d : List ℕ) (at count : ℕ) → length old ≡ 20 → count < 20 → count ≡ min (length old) (length (drop at d)) → length d < at + 20
read-short old d at count size few given = omega (arith, given, few, size, length-drop at d)

pub filled-behind : (start at count k : ℕ) (into new post d : List ℕ) → start ≤ length into → k ≡ length into - start → at + length into ≤ start + length d → post ≡ [] → count ≡ min (length (take k (drop start into))) (length (drop at d)) → new ≡ take (length (take k (drop start into))) (drop at d) ++ drop (length (drop at d)) (take k (drop start into))
    → (start + count ≡ length into) × (take start into ++ (new ++ post) ≡ take start into ++ take count (drop at d))
filled-behind start at count k into new post d inside size long none told bytes =
    let rest : length (drop start into) ≡ length into - start = length-drop start into in
    let mid : length (take k (drop start into)) ≡ k = length-take-le k (drop start into) (omega arith) in
    let file : length (drop at d) ≡ length d - at = length-drop at d in
    let all : count ≡ k = omega (arith, told, mid, file) in
    let tail : drop (length (drop at d)) (take k (drop start into)) ≡ [] = drop_all (length (drop at d)) (take k (drop start into)) (omega arith) in
    let is : new ≡ take count (drop at d) = bytes ∙ ap (λ (ys : List ℕ). take (length (take k (drop start into))) (drop at d) ++ ys) tail ∙ append-nil (take (length (take k (drop start into))) (drop at d)) ∙ ap (λ n. take n (drop at d)) (mid ∙ sym all) in
    (omega (arith, all), ap (λ (ys : List ℕ). take start into ++ (new ++ ys)) none ∙ ap (λ (ys : List ℕ). take start into ++ ys) (append-nil new ∙ is))
