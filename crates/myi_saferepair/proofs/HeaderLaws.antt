-- The header of the new index file shows the state that was written into it.
use Rattle.std.proofs.Common.{◌≡◌, ℕ, ◌-◌, ◌^◌, ◌<◌, ◌≤◌, Option, List, [], ◌∷◌, length, map, drop, arith, pow_pos, pow_mono}
use Rattle.std.specs.List.{AllByRecursion}
use Rattle.std.proofs.lemmas.List.Elements.{All-from_recursion}
use Rattle.myi_base.specs.Numbers.{AreBytes, pointer_number}
use Rattle.myi_base.specs.Items.{Fit}
use Rattle.myi_base.proofs.CallerLemmas.{num-below, bytes-drop}
use Rattle.myi_defs.specs.declared.types.Defs.{Defs}
use Rattle.myi_defs.specs.Sound.{IsSound}
use Rattle.myi_header.specs.declared.state.State.{State}
use Rattle.myi_header.specs.StateOf.{IsPlace, state_of}
use Rattle.myi_header.specs.HeaderOf.{FitsWidths, IsStored}
use Rattle.myi_pair.specs.RebuiltBytes.{new_state}
use Rattle.myi_pair.proofs.CallerLemmas.{new_rest}
use Rattle.myi_saferepair.specs.Filling.{RootFits}

roots_fit : (roots : List (Option ℕ)) → AllByRecursion RootFits roots → Fit (map (λ r. 8) roots) (map pointer_number roots)
roots_fit [] fit = tt
roots_fit (r ∷ roots) fit = (fit.0.1, roots_fit roots fit.1)

pub roots_places : (roots : List (Option ℕ)) → AllByRecursion RootFits roots → AllByRecursion IsPlace roots
roots_places [] fit = tt
roots_places (r ∷ roots) fit = (fit.0.0, roots_places roots fit.1)

key_map_fits : (keys : ℕ) → keys ≤ 64 → 2 ^ keys - 1 < 256 ^ 8
key_map_fits keys few = let below : 2 ^ keys ≤ 2 ^ 64 = pow_mono few in omega (arith, below, pow_pos keys)

-- what the state is made of, and that its numbers fit
pub record AreFew (d : Defs) (rows blocks data_length index_length now : ℕ) (roots : List (Option ℕ)) : Type 0 where
  pub raw : AreBytes d.raw
  pub few_rows : rows < 256 ^ 8
  pub few_blocks : blocks < 256 ^ 8
  pub short_data : data_length < 256 ^ 8
  pub short_index : index_length < 256 ^ 8
  pub early : now < 256 ^ 8
  pub count : length roots ≡ length d.keys
  pub fit : AllByRecursion RootFits roots

abbrev pub made_state : Defs → ℕ → ℕ → ℕ → ℕ → ℕ → List (Option ℕ) → State
made_state d rows blocks data_length index_length now roots = new_state d (state_of d d.raw) rows blocks data_length roots index_length now

numbers_fit : (d : Defs) (rows blocks data_length index_length now : ℕ) (roots : List (Option ℕ)) → IsSound d → AreFew d rows blocks data_length index_length now roots → FitsWidths (made_state d rows blocks data_length index_length now roots)
unfolding state_of
numbers_fit d rows blocks data_length index_length now roots s few = record {
  counts = (
    omega arith,
    (
      omega arith,
      (
        num-below 1 (drop 27 d.raw) (bytes-drop 27 d.raw few.raw),
        (
          few.few_rows,
          (
            omega arith,
            (
              few.few_blocks,
              (
                omega arith,
                (few.short_index, (few.short_data, (omega arith, (omega arith, (num-below 8 (drop 92 d.raw) (bytes-drop 92 d.raw few.raw), tt))))),
              ),
            ),
          ),
        ),
      ),
    ),
  );
  roots = roots_fit roots few.fit;
  key_map = key_map_fits (length d.keys) s.few_keys;
  recover_time = few.early;
}

-- the state can be stored
pub stored : (d : Defs) (rows blocks data_length index_length now : ℕ) (roots : List (Option ℕ)) → IsSound d → AreFew d rows blocks data_length index_length now roots → IsStored d (made_state d rows blocks data_length index_length now roots)
stored d rows blocks data_length index_length now roots s few = record {
  roots = few.count;
  rest = new_rest d s;
  dellink = λ e. cc;
  places = All-from_recursion IsPlace roots (roots_places roots few.fit);
  fits = numbers_fit d rows blocks data_length index_length now roots s few;
}
