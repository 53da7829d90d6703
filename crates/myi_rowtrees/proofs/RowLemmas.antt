-- The lists of all keys, where the list of each follows the rows.
use Rattle.std.proofs.Common.{◌≡◌, ℕ, List, [], ◌∷◌, map, refl, ap, ◌∙◌}
use Rattle.myi_defs.specs.declared.types.Defs.{Defs}
use Rattle.myi_pack.specs.Packed.{Values}
use Rattle.myi_keylist.specs.declared.pair.Pair.{Pair}
use Rattle.myi_keylist.specs.PairOrder.{pair_with, put_pair}
use Rattle.myi_insertion.specs.Removal.{without_pair}
use Rattle.myi_data.specs.Keys.{key_of}
use Rattle.myi_state.specs.State.{StoredRow}
use Rattle.myi_tablestate.specs.Listed.{listed}
use Rattle.myi_rowtrees.specs.RowLists.{put_each, take_each}

abbrev pairs_by : Defs → Values → ℕ → List ℕ → List Pair
pairs_by d values pointer ks = map (λ k. pair_with (key_of d k values) pointer) ks

abbrev lists_by : Defs → List StoredRow → List ℕ → List (List Pair)
lists_by d rows ks = map (λ k. listed d k rows) ks

pub each_put : (d : Defs) (values : Values) (pointer : ℕ) (rows new : List StoredRow) (ks : List ℕ) → ((k : ℕ) → listed d k new ≡ put_pair (pair_with (key_of d k values) pointer) (listed d k rows)) → lists_by d new ks ≡ put_each (pairs_by d values pointer ks) (lists_by d rows ks)
each_put d values pointer rows new [] follows = refl
each_put d values pointer rows new (k ∷ ks) follows =
    ap (λ (xs : List Pair). xs ∷ lists_by d new ks) (follows k) ∙ ap (λ (ls : List (List Pair)). put_pair (pair_with (key_of d k values) pointer) (listed d k rows) ∷ ls) (each_put d values pointer rows new ks follows)

pub each_taken : (d : Defs) (values : Values) (pointer : ℕ) (rows new : List StoredRow) (ks : List ℕ) → ((k : ℕ) → listed d k new ≡ without_pair (pair_with (key_of d k values) pointer) (listed d k rows)) → lists_by d new ks ≡ take_each (pairs_by d values pointer ks) (lists_by d rows ks)
each_taken d values pointer rows new [] follows = refl
each_taken d values pointer rows new (k ∷ ks) follows =
    ap (λ (xs : List Pair). xs ∷ lists_by d new ks) (follows k) ∙ ap (λ (ls : List (List Pair)). without_pair (pair_with (key_of d k values) pointer) (listed d k rows) ∷ ls) (each_taken d values pointer rows new ks follows)

pub each_moved : (d : Defs) (values was : Values) (pointer old : ℕ) (rows new : List StoredRow) (ks : List ℕ) → ((k : ℕ) → listed d k new ≡ put_pair (pair_with (key_of d k values) pointer) (without_pair (pair_with (key_of d k was) old) (listed d k rows)))
    → lists_by d new ks ≡ put_each (pairs_by d values pointer ks) (take_each (pairs_by d was old ks) (lists_by d rows ks))
each_moved d values was pointer old rows new [] follows = refl
each_moved d values was pointer old rows new (k ∷ ks) follows =
    ap (λ (xs : List Pair). xs ∷ lists_by d new ks) (follows k) ∙ ap (λ (ls : List (List Pair)). put_pair (pair_with (key_of d k values) pointer) (without_pair (pair_with (key_of d k was) old) (listed d k rows)) ∷ ls) (each_moved d values was pointer old rows new ks follows)
