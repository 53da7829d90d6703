-- What a map finds by complete keys, once those of one more row are noted.
use Rattle.std.proofs.Common.{◌≡◌, ◌≢◌, ℕ, zero, suc, ◌+◌, ◌<◌, ◌≤◌, Bool, true, false, cond, ◌||◌, ◌&&◌, List, [], ◌∷◌, ◌++◌, length, map, filter, Option, Some, None, refl, sym, ap, ◌∙◌, arith, nat_lt}
use Rattle.std.proofs.lemmas.Bool.{ltb-true, ltb-false}
use Rattle.std.specs.Ordering.{is_eq}
use Rattle.std.specs.declared.cmp.Ordering.{Ordering}
use Rattle.std.specs.declared.cmp.Ordering.TheVariants.{Less, Equal, Greater}
use Rattle.indexmap.specs.IndexMap.{IndexMap, get}
use Rattle.myi_defs.specs.declared.types.Defs.{Defs}
use Rattle.myi_pack.specs.Packed.{Values}
use Rattle.myi_keys.specs.declared.values.KeySeg.{KeySeg}
use Rattle.myi_keys.specs.Limits.{is_complete}
use Rattle.myi_keys.specs.Order.{key_cmp}
use Rattle.myi_keys.specs.OrderLaws.{key_exact, key_equal}
use Rattle.myi_data.specs.Keys.{IsKeyNumber, key_of}
use Rattle.myi_rowkeys.specs.TableKeys.{numbers_from, key_numbers, is_unique}
use Rattle.myi_state.specs.State.{StoredRow}
use Rattle.myi_pair.specs.FirstRows.{repeats_key}
use Rattle.myi_tablestate.specs.Keyed.{holder}
use Rattle.myi_inserter.specs.declared.unique_key.UniqueKey.{UniqueKey}
use Rattle.myi_inserter.specs.UniqueKeys.{key_in, may_not_repeat, unique_keys, is_same, Finds, FindsNone}
use Rattle.myi_inserter.specs.Putting.{has_key, FindsMore}
use Rattle.myi_inserter.specs.KeyLaws.{same_is, is_the_same}
use Rattle.myi_inserter.proofs.PutLemmas.{or_else, holder_both}

-- ---- the complete keys of a row

equal_is : (a b : List KeySeg) → is_eq (key_cmp a b) ≡ true → a ≡ b
equal_is a b same = key_exact a b (level (key_cmp a b) same)
  where
    level : (o : Ordering) → is_eq o ≡ true → o ≡ Equal
    level Less e = absurd cc
    level Equal e = refl
    level Greater e = absurd cc

-- a key of a row is noted where its number is among these
above_it : (a b : ℕ) → a ≤ b → a ≢ b → suc a ≤ b
above_it a b le differ = by (nat_lt a b) refl
  where
    by : (c : Bool) → nat_lt a b ≡ c → suc a ≤ b
    by true e = let lt : a < b = ltb-true a b e in omega (arith, lt)
    by false e = let ge : b ≤ a = ltb-false a b e in absurd (differ (omega (arith, le, ge)))

key_there : (d : Defs) (row : Values) (q : UniqueKey) (low n : ℕ) → q ≡ key_in d row q.number → may_not_repeat d row q.number ≡ true → low ≤ q.number → q.number < low + n
    → has_key q (map (key_in d row) (filter (may_not_repeat d row) (numbers_from low n))) ≡ true
key_there d row q low zero is may above below = absurd (omega (arith, above, below))
key_there d row q low (suc n) is may above below = by (may_not_repeat d row low) refl (key_there d row q (suc low) n is may)
  where
    rest : List UniqueKey
    rest = map (key_in d row) (filter (may_not_repeat d row) (numbers_from (suc low) n))

    here : low ≡ q.number → key_in d row low ≡ q
    here e = ap (key_in d row) e ∙ sym is

    by_first : (b : Bool) → is_same (key_in d row low) q ≡ b → (low ≢ q.number → has_key q rest ≡ true) → (b || has_key q rest) ≡ true
    by_first true e more = refl
    by_first false e more = more (λ same. let wrong : ◌≡◌ {A = Bool} true false = sym (is_the_same (key_in d row low) q (here same)) ∙ e in absurd cc)

    by : (b : Bool) → may_not_repeat d row low ≡ b → (suc low ≤ q.number → q.number < suc low + n → has_key q rest ≡ true) → has_key q (map (key_in d row) (cond b (low ∷ filter (may_not_repeat d row) (numbers_from (suc low) n)) (filter (may_not_repeat d row) (numbers_from (suc low) n)))) ≡ true
    by true e more = by_first (is_same (key_in d row low) q) refl (λ differ. more (above_it low q.number above differ) (omega (arith, below)))
    by false e more = more (above_it low q.number above (λ same. let wrong : ◌≡◌ {A = Bool} true false = sym may ∙ ap (may_not_repeat d row) (sym same) ∙ e in absurd cc)) (omega (arith, below))

-- and no other key is
not_there : (d : Defs) (row : Values) (q : UniqueKey) (ks : List ℕ) → q ≢ key_in d row q.number → has_key q (map (key_in d row) ks) ≡ false
not_there d row q [] differ = refl
not_there d row q (k ∷ ks) differ = by (is_same (key_in d row k) q) refl (not_there d row q ks differ)
  where
    by : (b : Bool) → is_same (key_in d row k) q ≡ b → has_key q (map (key_in d row) ks) ≡ false → (b || has_key q (map (key_in d row) ks)) ≡ false
    by true e more =
        let is : key_in d row k ≡ q = same_is (key_in d row k) q e in
        let number : k ≡ q.number = ap (λ (u : UniqueKey). u.number) is in
        absurd (differ (sym is ∙ ap (key_in d row) number))
    by false e more = more

-- ---- one more row

none_at : {S : Type 0} (found : IndexMap UniqueKey ℕ S) (q : UniqueKey) (keys : List UniqueKey) → FindsNone found keys → has_key q keys ≡ true → get is_same found q ≡ None
none_at found q [] none has = absurd cc
none_at {S} found q (x ∷ xs) none has = by (is_same x q) refl has (none_at found q xs none.1)
  where
    by : (b : Bool) → is_same x q ≡ b → (b || has_key q xs) ≡ true → (has_key q xs ≡ true → get is_same found q ≡ None) → get is_same found q ≡ None
    by true e h more = ap (get is_same found) (sym (same_is x q e)) ∙ none.0
    by false e h more = more h

and_is : (a b : Bool) → a ≡ true → b ≡ true → (a && b) ≡ true
and_is true b one two = two
and_is false b one two = absurd cc

-- the row that is noted has the key exactly where it repeats it
pub one_found : (d : Defs) (values : Values) (k : ℕ) (r : StoredRow) → IsKeyNumber d k → is_unique d k ≡ true → is_complete (key_of d k values) ≡ true
    → cond (has_key (key_in d values k) (unique_keys d r.values)) (Some r.at) None ≡ holder d values k (r ∷ [])
one_found d values k r number unique whole = by (is_eq (key_cmp (key_of d k values) (key_of d k r.values))) refl
  where
    q : UniqueKey
    q = key_in d values k

    repeats : (b : Bool) → is_eq (key_cmp (key_of d k values) (key_of d k r.values)) ≡ b → repeats_key d values r.values k ≡ b
    repeats b e =
        ap (λ (u : Bool). u && (is_complete (key_of d k values) && is_eq (key_cmp (key_of d k values) (key_of d k r.values)))) unique
        ∙ ap (λ (u : Bool). u && is_eq (key_cmp (key_of d k values) (key_of d k r.values))) whole ∙ e

    by : (b : Bool) → is_eq (key_cmp (key_of d k values) (key_of d k r.values)) ≡ b → cond (has_key (key_in d values k) (unique_keys d r.values)) (Some r.at) None ≡ holder d values k (r ∷ [])
    by true e =
        let same : key_of d k values ≡ key_of d k r.values = equal_is (key_of d k values) (key_of d k r.values) e in
        let is : q ≡ key_in d r.values k = ap (λ (key : List KeySeg). record { number = k; key = key }) same in
        let may : may_not_repeat d r.values k ≡ true = and_is (is_unique d k) (is_complete (key_of d k r.values)) unique (ap is_complete (sym same) ∙ whole) in
        let there : has_key q (unique_keys d r.values) ≡ true = key_there d r.values q 1 (length d.keys) is may number.0 (omega (arith, number.1)) in
        ap (λ (h : Bool). cond h (Some r.at) None) there ∙ sym (ap (λ (h : Bool). cond h (Some r.at) None) (repeats true e))
    by false e =
        let differ : q ≢ key_in d r.values k = λ is. (let keys : key_of d k values ≡ key_of d k r.values = ap (λ (u : UniqueKey). u.key) is in
        let wrong : ◌≡◌ {A = Bool} true false = sym (ap is_eq (key_equal (key_of d k values) (key_of d k r.values) keys)) ∙ e in absurd cc) in
        let absent : has_key q (unique_keys d r.values) ≡ false = not_there d r.values q (filter (may_not_repeat d r.values) (key_numbers d)) differ in
        ap (λ (h : Bool). cond h (Some r.at) None) absent ∙ sym (ap (λ (h : Bool). cond h (Some r.at) None) (repeats false e))

or_none : (o : Option ℕ) → o ≡ or_else o None
or_none None = refl
or_none (Some at) = refl

combined : (b : Bool) (at : ℕ) (found held one : Option ℕ) → found ≡ held → cond b (Some at) None ≡ one → (b ≡ true → found ≡ None) → cond b (Some at) found ≡ or_else held one
combined true at found held one same is none = is ∙ ap (λ (h : Option ℕ). or_else h one) (sym (none refl) ∙ same)
combined false at found held one same is none = same ∙ or_none held ∙ ap (or_else held) is

pub found_more : {S : Type 0} (d : Defs) (old new : IndexMap UniqueKey ℕ S) (rows : List StoredRow) (r : StoredRow) (keys : List UniqueKey) → Finds d old rows → keys ≡ unique_keys d r.values → FindsNone old keys
    → FindsMore old new keys r.at → Finds d new (rows ++ r ∷ [])
found_more d old new rows r keys found are none put = λ k values number unique whole.
    let q : UniqueKey = key_in d values k in
    let here : cond (has_key q keys) (Some r.at) None ≡ holder d values k (r ∷ []) = ap (λ (l : List UniqueKey). cond (has_key q l) (Some r.at) None) are ∙ one_found d values k r number unique whole in
    put q ∙ combined (has_key q keys) r.at (get is_same old q) (holder d values k rows) (holder d values k (r ∷ [])) (found k values number unique whole) here (λ has. none_at old q keys none has) ∙ sym (holder_both d values k rows (r ∷ []))
