-- After a call the two files can still be closed.
use Rattle.std.proofs.Common.{◌≡◌, ℕ, ◌+◌, ◌<◌, Bool, true, false, Option, Some, None, Ok, refl, sym, ap, ◌∙◌, arith}
use Rattle.std.specs.Prelude.{option_map}
use Rattle.myi_base.specs.Holding.{Holding}
use Rattle.myi_defs.specs.declared.types.Defs.{Defs}
use Rattle.myi_defs.specs.Addressable.{is_addressable}
use Rattle.myi_header.specs.Layout.{first_page_of}
use Rattle.myi_state.specs.State.{TableState}
use Rattle.myi_state.specs.Changes.{Change, Changed, Refusal, accepted, if_long, lacks_row, lacks_room}
use Rattle.myi_keytrees.proofs.CallerLemmas.{counted}
use Rattle.myi_tablestate.specs.Keyed.{KeyedRefusal, without_keys, by_holder, lacks_key, first_of_three, keyed_refusal, keyed_step_by, keyed_step}
use Rattle.myi_rowtrees.specs.RowLists.{lists_of}
use Rattle.myi_keyedrows.specs.declared.keyed_rows.KeyedRows.{KeyedRows}
use Rattle.myi_keyedrows.specs.KeyedRows.{defs_of, HoldThen, IsSameTable}
use Rattle.myi_keyedrows.specs.Files.{HoldFiles}

none_last : (a b c : Option KeyedRefusal) → first_of_three a b c ≡ None → c ≡ None
none_last (Some r) b c none = absurd cc
none_last None (Some r) c none = absurd cc
none_last None None c none = none

none_before : (o : Option Refusal) → option_map without_keys o ≡ None → o ≡ None
none_before None none = refl
none_before (Some r) none = absurd cc

not_long : (b : Bool) → if_long b ≡ None → b ≡ true
not_long true none = refl
not_long false none = absurd cc

by_refusal : (d : Defs) (s : TableState) (done : Changed) (at : ℕ) (o : Option KeyedRefusal) → (keyed_step_by s done o).reply ≡ Ok at → (o ≡ None → is_addressable d done.state.space.end ≡ true) → is_addressable d (keyed_step_by s done o).state.space.end ≡ true
by_refusal d s done at None is free = free refl
by_refusal d s done at (Some r) is free = absurd cc

pub step_reached : (d : Defs) (s : TableState) (c : Change) (at : ℕ) → (keyed_step d s c).reply ≡ Ok at → is_addressable d (keyed_step d s c).state.space.end ≡ true
unfolding keyed_step keyed_refusal
step_reached d s c at is = by_refusal d s (accepted d s c) at (keyed_refusal d s c) is (λ none. not_long (is_addressable d (accepted d s c).state.space.end) (none_before (lacks_room d s c) (none_last (option_map without_keys (lacks_row s c)) (option_map by_holder (lacks_key d s c)) (option_map without_keys (lacks_room d s c)) none)))

pub still_files : (k new : KeyedRows) (lost : ℕ) (own : ℕ → ℕ) (s t : TableState) (m : Holding) (next : Option Holding) → HoldFiles k lost own s m → IsSameTable k new → is_addressable (defs_of k) t.space.end ≡ true → (then : HoldThen k m own next new t) → HoldFiles new lost own t then.now
still_files k new lost own s t m next hold same reached then = record {
  table = then.table;
  reached = ap (λ (d : Defs). is_addressable d t.space.end) same.defs ∙ reached;
  behind = λ x low. hold.behind x (let e = ap first_page_of same.defs in omega (arith, low, e));
  counted =
      let e = ap first_page_of same.defs in
      let c = counted k.trees new.trees m then.now own (lists_of (defs_of k) s.rows) (lists_of (defs_of new) t.rows) hold.table.trees then.table.trees in
      let was = hold.counted in
      omega (arith, e, c, was);
}
