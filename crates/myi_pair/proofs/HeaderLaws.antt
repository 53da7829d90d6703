-- The header of a new index file: what stands in it.
use Rattle.std.proofs.Common.{◌≡◌, ℕ, ◌+◌, ◌-◌, ◌*◌, ◌^◌, ◌<◌, ◌≤◌, true, Option, List, [], ◌∷◌, ◌++◌, length, map, take, drop, replicate, ◌∙◌, arith, length-append, length-drop, pow_pos, pow_mono}
use Rattle.std.specs.List.{AllByRecursion}
use Rattle.std.proofs.lemmas.List.{length-take-le, length-replicate}
use Rattle.std.proofs.lemmas.List.Elements.{All-from_recursion}
use Rattle.myi_base.specs.Numbers.{AreBytes, pointer_number}
use Rattle.myi_base.specs.Items.{Fit}
use Rattle.myi_base.proofs.CallerLemmas.{num-below, bytes-drop}
use Rattle.myi_defs.specs.declared.types.Defs.{Defs}
use Rattle.myi_defs.specs.Sound.{IsSound}
use Rattle.myi_defs.specs.Elsewhere.{AgreeOutsideState}
use Rattle.myi_header.specs.declared.state.State.{State}
use Rattle.myi_header.specs.Layout.{page_sizes}
use Rattle.myi_header.specs.StateOf.{IsPlace, rest_length, state_of, has_mark}
use Rattle.myi_header.specs.HeaderOf.{FitsWidths, IsStored, header_of}
use Rattle.myi_header.proofs.CallerLemmas.{header-state, header-marked, header-elsewhere, state-rest}
use Rattle.myi_pair.specs.RebuiltBytes.{without_free_pages, new_state}

-- the bytes of a state that are kept

pub emptied_long : (d : Defs) (rest : List ℕ) → 24 + 8 * page_sizes d ≤ length rest → length (without_free_pages d rest) ≡ length rest
emptied_long d rest long =
    let n = 8 * page_sizes d in
    let free : List ℕ = replicate n 255 in
    omega (
      arith,
      length-take-le 24 rest (omega arith),
      length-replicate {A = ℕ} n 255,
      length-drop (24 + n) rest,
      length-append (take 24 rest) (free ++ drop (24 + n) rest),
      length-append free (drop (24 + n) rest),
    )

pub new_rest : (d : Defs) → IsSound d → length (without_free_pages d (state_of d d.raw).rest) ≡ rest_length d
new_rest d s =
    let long = state-rest d d.raw s (omega arith) in
    emptied_long d (state_of d d.raw).rest (omega (arith, long)) ∙ long

-- the numbers fit

abbrev pub RootFits : Option ℕ → Type 0
RootFits root = IsPlace root × (pointer_number root < 256 ^ 8)

roots_fit : (roots : List (Option ℕ)) → AllByRecursion RootFits roots → Fit (map (λ r. 8) roots) (map pointer_number roots)
roots_fit [] fit = tt
roots_fit (r ∷ roots) fit = (fit.0.1, roots_fit roots fit.1)

pub roots_places : (roots : List (Option ℕ)) → AllByRecursion RootFits roots → AllByRecursion IsPlace roots
roots_places [] fit = tt
roots_places (r ∷ roots) fit = (fit.0.0, roots_places roots fit.1)

key_map_fits : (keys : ℕ) → keys ≤ 64 → 2 ^ keys - 1 < 256 ^ 8
key_map_fits keys few = let below : 2 ^ keys ≤ 2 ^ 64 = pow_mono few in omega (arith, below, pow_pos keys)

-- what a state after a repair is made of, and that its numbers fit
pub record AreFew (d : Defs) (rows blocks data_length index_length now : ℕ) (roots : List (Option ℕ)) : Type 0 where
  pub raw : AreBytes d.raw
  pub few_rows : rows < 256 ^ 8
  pub few_blocks : blocks < 256 ^ 8
  pub short_data : data_length < 256 ^ 8
  pub short_index : index_length < 256 ^ 8
  pub early : now < 256 ^ 8
  pub count : length roots ≡ length d.keys
  pub fit : AllByRecursion RootFits roots

abbrev pub repaired : Defs → ℕ → ℕ → ℕ → ℕ → ℕ → List (Option ℕ) → State
repaired d rows blocks data_length index_length now roots = new_state d (state_of d d.raw) rows blocks data_length roots index_length now

pub numbers_fit : (d : Defs) (rows blocks data_length index_length now : ℕ) (roots : List (Option ℕ)) → IsSound d → AreFew d rows blocks data_length index_length now roots → FitsWidths (repaired d rows blocks data_length index_length now roots)
unfolding state_of
numbers_fit d rows blocks data_length index_length now roots s few = record {
  counts = (
    omega arith,
    (
      omega arith,
      (
        num-below 1 (drop 27 d.raw) (bytes-drop 27 d.raw few.raw),
        (
          few.few_rows,
          (
            omega arith,
            (
              few.few_blocks,
              (
                omega arith,
                (few.short_index, (few.short_data, (omega arith, (omega arith, (num-below 8 (drop 92 d.raw) (bytes-drop 92 d.raw few.raw), tt))))),
              ),
            ),
          ),
        ),
      ),
    ),
  );
  roots = roots_fit roots few.fit;
  key_map = key_map_fits (length d.keys) s.few_keys;
  recover_time = few.early;
}

-- the state can be held
pub held : (d : Defs) (rows blocks data_length index_length now : ℕ) (roots : List (Option ℕ)) → IsSound d → AreFew d rows blocks data_length index_length now roots → IsStored d (repaired d rows blocks data_length index_length now roots)
held d rows blocks data_length index_length now roots s few = record {
  roots = few.count;
  rest = new_rest d s;
  dellink = λ e. cc;
  places = All-from_recursion IsPlace roots (roots_places roots few.fit);
  fits = numbers_fit d rows blocks data_length index_length now roots s few;
}

-- what a new index file shows
pub record IsNewIndex (d : Defs) (s : State) (x : List ℕ) : Type 0 where
  pub state : state_of d x ≡ s
  pub marked : has_mark d x ≡ true
  pub elsewhere : AgreeOutsideState d.raw x

pub new_header : (d : Defs) (rows blocks data_length index_length now : ℕ) (roots : List (Option ℕ)) (t : List ℕ) → IsSound d → AreFew d rows blocks data_length index_length now roots
    → IsNewIndex d (repaired d rows blocks data_length index_length now roots) (header_of d (repaired d rows blocks data_length index_length now roots) ++ t)
new_header d rows blocks data_length index_length now roots t s few =
    let state : State = repaired d rows blocks data_length index_length now roots in
    let is : IsStored d state = held d rows blocks data_length index_length now roots s few in
    record { state = header-state d state t s is; marked = header-marked d state t s is; elsewhere = header-elsewhere d state t s is }
