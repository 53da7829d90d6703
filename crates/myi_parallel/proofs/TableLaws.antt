-- The trees that workers lay are those of a table's keys.
use Rattle.std.proofs.Common.{◌≡◌, ◌∙◌, ℕ, zero, suc, ◌+◌, ◌<◌, ◌≤◌, List, [], ◌∷◌, ◌++◌, length, get_or, refl, sym, ap, subst, arith}
use Rattle.std.specs.Prelude.{All}
use Rattle.std.specs.List.{AllByRecursion}
use Rattle.std.proofs.lemmas.List.Elements.{All-from_recursion}
use Rattle.myi_defs.specs.declared.types.Defs.{Defs}
use Rattle.myi_defs.specs.Sound.{IsSound}
use Rattle.myi_keylist.specs.declared.pair.Pair.{Pair}
use Rattle.myi_keylist.specs.PairOrder.{sorted}
use Rattle.myi_btree.specs.declared.laid.Laid.{Laid}
use Rattle.myi_btree.specs.Sizes.{IsPlaced, AreSized}
use Rattle.myi_pair.specs.Trees.{place_of}
use Rattle.myi_pair.proofs.CallerLemmas.{placed}
use Rattle.myi_repair.specs.declared.gathering.Gathered.{Gathered}
use Rattle.myi_repair.specs.Sized.{AreSizedPairs}
use Rattle.myi_repair.specs.LaidInMemory.{IsLaid, AreTreesOf}
use Rattle.myi_parallel.specs.declared.workers.KeyPairs.{KeyPairs}
use Rattle.myi_parallel.specs.KeyPairs.{asked_from, keys_from}
use Rattle.myi_parallel.specs.LaidTrees.{AreLaid}
use Rattle.myi_parallel.proofs.SortLaws.{sorted_all}

-- one more key
pub keys_more : (d : Defs) (number : ℕ) (lists : List (List Pair)) (pairs : List Pair) (key : KeyPairs) → key ≡ record { place = place_of d (number + length lists); pairs = pairs } → keys_from d number (lists ++ pairs ∷ []) ≡ keys_from d number lists ++ key ∷ []
keys_more d number [] pairs key is =
    let first : number + 0 ≡ number = omega arith in
    ap (λ k. k ∷ []) (sym (is ∙ ap (λ n. record { place = place_of d n; pairs = pairs }) first))
keys_more d number (ps ∷ lists) pairs key is =
    let next : number + suc (length lists) ≡ number + 1 + length lists = omega arith in
    ap (λ l. record { place = place_of d number; pairs = ps } ∷ l) (keys_more d (number + 1) lists pairs key (is ∙ ap (λ n. record { place = place_of d n; pairs = pairs }) next))

pub length-keys_from : (d : Defs) (number : ℕ) (lists : List (List Pair)) → length (keys_from d number lists) ≡ length lists
length-keys_from d number [] = refl
length-keys_from d number (ps ∷ lists) = ap suc (length-keys_from d (number + 1) lists)

-- each can be laid

placed_from : (d : Defs) (number : ℕ) (lists : List (List Pair)) → IsSound d → 0 < number → number + length lists ≤ length d.keys + 1 → AllByRecursion (λ (k : KeyPairs). IsPlaced k.place) (keys_from d number lists)
placed_from d number [] s some few = tt
placed_from d number (ps ∷ lists) s some few = (placed d s number (omega (arith, some), omega (arith, few)), placed_from d (number + 1) lists s (omega arith) (omega (arith, few)))

pub keys_placed : (d : Defs) (lists : List (List Pair)) → IsSound d → length lists ≡ length d.keys → All (λ (k : KeyPairs). IsPlaced k.place) (keys_from d 1 lists)
keys_placed d lists s all = All-from_recursion (λ (k : KeyPairs). IsPlaced k.place) (keys_from d 1 lists) (placed_from d 1 lists s (omega arith) (omega (arith, all)))

sized_from : (d : Defs) (number : ℕ) (lists : List (List Pair)) → ((k : ℕ) → k < length lists → AreSized (place_of d (number + k)) (get_or lists k [])) → AllByRecursion (λ (k : KeyPairs). AreSized k.place k.pairs) (keys_from d number lists)
sized_from d number [] each = tt
sized_from d number (ps ∷ lists) each =
    let first : number + 0 ≡ number = omega arith in (
      subst (λ n. AreSized (place_of d n) ps) first (each 0 (omega arith)),
      sized_from d (number + 1) lists (λ k inside. let next : number + suc k ≡ number + 1 + k = omega arith in subst (λ n. AreSized (place_of d n) (get_or lists k [])) next (each (suc k) (omega (arith, inside)))),
    )

pub keys_sized : (d : Defs) (lists : List (List Pair)) → AreSizedPairs d lists → All (λ (k : KeyPairs). AreSized k.place k.pairs) (keys_from d 1 lists)
keys_sized d lists are = All-from_recursion (λ (k : KeyPairs). AreSized k.place k.pairs) (keys_from d 1 lists) (sized_from d 1 lists (λ k inside. let next : k + 1 ≡ 1 + k = omega arith in subst (λ n. AreSized (place_of d n) (get_or lists k [])) next (are.sized k (omega (arith, inside, are.all)))))

-- and what was laid is the tree of each

laid_count : (d : Defs) (asked number : ℕ) (lists : List (List Pair)) (laid : List Laid) → AreLaid (asked_from asked (keys_from d number lists)) laid → length laid ≡ length lists
laid_count d asked number [] [] are = refl
laid_count d asked number [] (l ∷ ls) are = absurd are
laid_count d asked number (ps ∷ lists) [] are = absurd are
laid_count d asked number (ps ∷ lists) (l ∷ ls) are = ap suc (laid_count d (asked + 1) (number + 1) lists ls are.1)

laid_each : (d : Defs) (asked number : ℕ) (lists : List (List Pair)) (laid : List Laid) → AreLaid (asked_from asked (keys_from d number lists)) laid → (k : ℕ) → k < length lists → (tree : Laid) → tree ≡ get_or laid k tree → IsLaid (place_of d (number + k)) (sorted (get_or lists k [])) tree
laid_each d asked number [] laid are k inside tree is = absurd (omega (arith, inside))
laid_each d asked number (ps ∷ lists) [] are k inside tree is = absurd are
laid_each d asked number (ps ∷ lists) (l ∷ ls) are zero inside tree is =
    let first : number ≡ number + 0 = omega arith in
    subst (λ n. IsLaid (place_of d n) (sorted ps) tree) first (subst (IsLaid (place_of d number) (sorted ps)) (sym is) are.0)
laid_each d asked number (ps ∷ lists) (l ∷ ls) are (suc k) inside tree is =
    let next : number + 1 + k ≡ number + suc k = omega arith in
    subst (λ n. IsLaid (place_of d n) (sorted (get_or lists k [])) tree) next (laid_each d (asked + 1) (number + 1) lists ls are.1 k (omega (arith, inside)) tree is)

pub trees_of_keys : (d : Defs) (lists : List (List Pair)) (laid : List Laid) → IsSound d → AreSizedPairs d lists → AreLaid (asked_from 1 (keys_from d 1 lists)) laid → AreTreesOf d lists laid
trees_of_keys d lists laid s sized are = record {
  all = sized.all;
  count = laid_count d 1 1 lists laid are;
  each = λ k inside tree is.
      let key : k < length d.keys = omega (arith, inside, sized.all) in
      let number : 1 + k ≡ k + 1 = omega arith in
      record {
        placed = placed d s (k + 1) (omega arith, omega (arith, key));
        sized = sorted_all _ (get_or lists k []) (sized.sized k key);
        keys = sorted_all _ (get_or lists k []) (sized.keys k key);
        laid = subst (λ n. IsLaid (place_of d n) (sorted (get_or lists k [])) tree) number (laid_each d 1 1 lists laid are k inside tree is);
      };
}

-- what was gathered, and what is left of it once the pairs were handed over

abbrev pub without_pairs : Gathered → Gathered
without_pairs g = record g { pairs = [] }

pub defs_left : (old new : Gathered) → new ≡ without_pairs old → new.defs ≡ old.defs
defs_left old new left = ap (λ (h : Gathered). h.defs) left

pub report_left : (old new : Gathered) → new ≡ without_pairs old → new.report ≡ old.report
report_left old new left = ap (λ (h : Gathered). h.report) left

pub whole_left : (old new : Gathered) → new ≡ without_pairs old → record new { pairs = old.pairs } ≡ old
whole_left old new left = ap (λ (h : Gathered). record h { pairs = old.pairs }) left
