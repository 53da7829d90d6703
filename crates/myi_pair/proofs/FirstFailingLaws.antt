-- What is told of each section is the first thing there that is not as it should be.
use Rattle.std.proofs.Common.{◌≡◌, ◌↔◌, ◌≢◌, ℕ, zero, suc, ◌+◌, ◌-◌, ◌<◌, ◌≤◌, ◌⊎◌, inl, inr, Bool, true, false, cond, ◌&&◌, ◌||◌, eqb, not, min, List, [], ◌∷◌, ◌++◌, length, length-append, map, Option, Some, None, refl, sym, ap, subst, ◌∙◌, arith, append_assoc, append-nil, IsPermutation}
use Rattle.std.specs.Prelude.{slice_index_or, IsSorted}
use Rattle.std.specs.Option.{option_map, option_to_list}
use Rattle.std.specs.List.{AllByRecursion, Contains, list_any, flat_map}
use Rattle.std.specs.Ordering.{is_eq, is_lt}
use Rattle.std.proofs.lemmas.Bool.{and_parts, or_left, or_right, eqb-true, eq-eqb, cases_lt}
use Rattle.std.proofs.lemmas.List.{get_or_append_left}
use Rattle.std.proofs.lemmas.List.Elements.{Contains-append_cases}
use Rattle.std.proofs.lemmas.List.Sorted.{IsPermutation-refl, IsPermutation-trans, IsPermutation-append, Contains-permutation}
use Rattle.myi_base.specs.Ranges.{Range}
use Rattle.myi_defs.specs.declared.types.Defs.{Defs}
use Rattle.myi_defs.specs.Sound.{IsSound}
use Rattle.myi_defs.specs.Addressable.{is_addressable}
use Rattle.myi_header.specs.Layout.{first_page_of}
use Rattle.myi_header.specs.StateOf.{state_of, has_mark}
use Rattle.myi_keys.specs.declared.values.KeySeg.{KeySeg}
use Rattle.myi_keylist.specs.declared.pair.Pair.{Pair}
use Rattle.myi_keylist.specs.PairOrder.{pair_cmp}
use Rattle.myi_keylist.specs.Repeats.{is_same_key, has_repeat, AreApart, keys_of}
use Rattle.myi_keylist.proofs.CallerLemmas.{sorted_sorted, sorted_is, apart}
use Rattle.myi_chain.specs.Meeting.{ranges_of}
use Rattle.myi_data.specs.Readable.{readable, deleted}
use Rattle.myi_data.specs.Keys.{IsKeyNumber}
use Rattle.myi_btree.specs.Walk.{Walked, content}
use Rattle.myi_btree.specs.Events.{Event, page, pair, bad, first_bad, walked_in}
use Rattle.myi_pair.specs.declared.finding.HeaderItem.{HeaderItem}
use Rattle.myi_pair.specs.declared.finding.HeaderItem.TheVariants.{Mark, Records, Del, Split, KeyFileLength, DataFileLength, Empty, KeyEmpty}
use Rattle.myi_pair.specs.declared.finding.Finding.{Finding}
use Rattle.myi_pair.specs.declared.finding.Finding.TheVariants as finding
use Rattle.myi_pair.specs.FirstRows.{key_numbers, is_unique}
use Rattle.myi_pair.specs.KeyList.{PlacedRow, pairs_of, key_list}
use Rattle.myi_pair.specs.Trees.{all_pages, total}
use Rattle.myi_pair.specs.Clean.{covers, next_deleted, NamesBefore, Follows, placed_row}
use Rattle.myi_pair.specs.FirstBad.{first_failed, without, least_of, least, link_bad, list_bad, repeats_last, pair_bad, walk_bad, first_gap}
use Rattle.myi_pair.specs.Findings.{met_in, KeyWalk, key_walk, key_walks, all_walks, all_walk, page_bytes, header_tests, header_bad, names_before, deleted_places, deleted_bad, key_bad, held, rows_bad, key_findings, keys_bad, told, findings}
use Rattle.myi_pair.specs.FirstFailing.{IsFirst, Differs, items_before, ComesBefore, Passes, IsListSoFar, IsBadPlace, IsFirstInList, IsMetSoFar, IsFirstMet, IsWholeTree, BelongsToNothing, IsToldOf}
use Rattle.myi_pair.proofs.FirstBadLaws.{pair_exact, pair_itself, taken_out, length_out, Fresh, walk_none}
use Rattle.myi_pair.proofs.DistinctLaws.{fresh_none, none_fresh, plain_fresh, apart_none}
use Rattle.myi_pair.proofs.FoundLaws.{block_some, tree_found, found_tree, walk_in, IsWhole, walks_found, found_walks, bytes_over, walks_all, whole_all, none_key, all_inside, as_many_roots, true_names, names_true}

-- ---- the header

-- a test says whether something fails
abbrev Tells : Bool → Type 0 → Type 0
Tells true F = F → ⊥
Tells false F = F

tells_equal : (a b : ℕ) → Tells (eqb a b) (a ≢ b)
tells_equal a b = by (eqb a b) refl
  where
    by : (t : Bool) → eqb a b ≡ t → Tells t (a ≢ b)
    by true is = λ never. never (eqb-true a b is)
    by false is = λ e. let same = eq-eqb a b e in absurd cc

tells_mark : (b : Bool) → Tells b (b ≡ false)
tells_mark true = λ e. absurd cc
tells_mark false = refl

module _ (F : HeaderItem → Type 0) where
  abbrev Numbered : ℕ → List (HeaderItem × Bool) → Type 0
  Numbered n [] = Unit {0}
  Numbered n (t ∷ ts) = (items_before t.0 ≡ n) × Numbered (suc n) ts

  abbrev FirstIn : List (HeaderItem × Bool) → Option HeaderItem → Type 0
  FirstIn ts None = AllByRecursion (λ (t : HeaderItem × Bool). F t.0 → ⊥) ts
  FirstIn ts (Some a) = F a × AllByRecursion (λ (t : HeaderItem × Bool). ComesBefore t.0 a → F t.0 → ⊥) ts

  later : (a : HeaderItem) (n : ℕ) (ts : List (HeaderItem × Bool)) → items_before a ≤ n → Numbered n ts → AllByRecursion (λ (t : HeaderItem × Bool). ComesBefore t.0 a → F t.0 → ⊥) ts
  later a n [] le numbered = tt
  later a n (t ∷ ts) le numbered = (λ lt f. absurd (omega (arith, lt, le, numbered.0)), later a (suc n) ts (omega (arith, le)) numbered.1)

  first_in : (n : ℕ) (ts : List (HeaderItem × Bool)) → AllByRecursion (λ (t : HeaderItem × Bool). Tells t.1 (F t.0)) ts → Numbered n ts → FirstIn ts (first_failed ts)
  first_in n [] tells numbered = tt
  first_in n (t ∷ ts) tells numbered = by t.1 tells.0 (first_failed ts) (first_in (suc n) ts tells.1 numbered.1)
    where
      by : (b : Bool) → Tells b (F t.0) → (o : Option HeaderItem) → FirstIn ts o → FirstIn (t ∷ ts) (cond b o (Some t.0))
      by true never None more = (never, more)
      by true never (Some a) more = (more.0, (λ lt f. never f, more.1))
      by false f o more = (f, (λ lt g. absurd (omega (arith, lt)), later t.0 (suc n) ts (omega (arith, numbered.0)) numbered.1))

tells_room : (d : Defs) (rows x : List ℕ) → IsSound d → Tells (not (all_walk (all_walks d x)) || eqb (state_of d x).key_empty (length x - first_page_of d - page_bytes d (all_walks d x))) (Differs d rows x KeyEmpty)
unfolding all_walks
tells_room d rows x s = by (all_walk walks) refl
  where
    busy : List Range
    busy = (0, first_page_of d) ∷ []

    walks : List KeyWalk
    walks = key_walks d x busy (key_numbers d) (state_of d x).roots

    left : ℕ → ℕ
    left n = length x - first_page_of d - n

    by : (b : Bool) → all_walk walks ≡ b → Tells (not b || eqb (state_of d x).key_empty (left (page_bytes d walks))) (Differs d rows x KeyEmpty)
    by false is = λ differs.
        let f = found_walks d x busy (key_numbers d) (state_of d x).roots differs.0 s (all_inside d) differs.1 in
        let whole = walks_all walks f.0 in
        absurd cc
    by true is = here (eqb (state_of d x).key_empty (left (page_bytes d walks))) refl
      where
        whole : AllByRecursion IsWhole walks
        whole = whole_all walks is

        bytes : page_bytes d walks ≡ total (all_pages d (key_numbers d) (map walk_in walks))
        bytes = bytes_over d x busy (key_numbers d) (state_of d x).roots whole

        here : (c : Bool) → eqb (state_of d x).key_empty (left (page_bytes d walks)) ≡ c → Tells c (Differs d rows x KeyEmpty)
        here true e = λ differs.
            let f = found_walks d x busy (key_numbers d) (state_of d x).roots differs.0 s (all_inside d) differs.1 in
            differs.2 (eqb-true _ _ e ∙ ap left bytes ∙ ap (λ (ws : List Walked). left (total (all_pages d (key_numbers d) ws))) (sym f.1))
        here false e = (
          map walk_in walks,
          walks_found d x busy (key_numbers d) (state_of d x).roots s (all_inside d) (as_many_roots d x) whole,
          λ same. let again = eq-eqb (state_of d x).key_empty (left (page_bytes d walks)) (same ∙ ap left (sym bytes)) in absurd cc,
        )

each_item : (d : Defs) (rows x : List ℕ) (P : HeaderItem → Type 0) → AllByRecursion (λ (t : HeaderItem × Bool). P t.0) (header_tests d (state_of d x) rows x) → (item : HeaderItem) → P item
each_item d rows x P all Mark = all.0
each_item d rows x P all Records = all.1.0
each_item d rows x P all Del = all.1.1.0
each_item d rows x P all Split = all.1.1.1.0
each_item d rows x P all KeyFileLength = all.1.1.1.1.0
each_item d rows x P all DataFileLength = all.1.1.1.1.1.0
each_item d rows x P all Empty = all.1.1.1.1.1.1.0
each_item d rows x P all KeyEmpty = all.1.1.1.1.1.1.1.0

pub header_first : (d : Defs) (rows x : List ℕ) → IsSound d → IsFirst ComesBefore (Differs d rows x) (header_bad d rows x)
unfolding header_bad
header_first d rows x s = out (first_failed tests) (first_in (Differs d rows x) 0 tests tells (refl, (refl, (refl, (refl, (refl, (refl, (refl, (refl, tt)))))))))
  where
    tests : List (HeaderItem × Bool)
    tests = header_tests d (state_of d x) rows x

    tells : AllByRecursion (λ (t : HeaderItem × Bool). Tells t.1 (Differs d rows x t.0)) tests
    tells =
        (tells_mark (has_mark d x), (tells_equal _ _, (tells_equal _ _, (tells_equal _ _, (tells_equal _ _, (tells_equal _ _, (tells_equal _ _, (tells_room d rows x s, tt))))))))

    out : (o : Option HeaderItem) → FirstIn (Differs d rows x) tests o → IsFirst ComesBefore (Differs d rows x) o
    out None all = each_item d rows x (λ item. Differs d rows x item → ⊥) all
    out (Some a) all = (all.0, each_item d rows x (λ item. ComesBefore item a → Differs d rows x item → ⊥) all.1)

-- ---- the list of deleted blocks

among : (p : ℕ) (xs : List ℕ) → Contains xs p ⊎ (Contains xs p → ⊥)
among p [] = inr (λ c. absurd (omega (arith, c.1)))
among p (x ∷ xs) = by (eqb x p) refl (among p xs)
  where
    off : eqb x p ≡ false → (Contains xs p → ⊥) → (k : ℕ) → k < length (x ∷ xs) → slice_index_or (x ∷ xs) k p ≡ p → ⊥
    off is never zero lt e = let same = eq-eqb x p e in absurd cc
    off is never (suc k) lt e = never (k, omega (arith, lt), e)

    by : (b : Bool) → eqb x p ≡ b → Contains xs p ⊎ (Contains xs p → ⊥) → Contains (x ∷ xs) p ⊎ (Contains (x ∷ xs) p → ⊥)
    by true is more = inl (0, omega arith, eqb-true x p is)
    by false is (inl c) = inl (suc c.0, omega (arith, c.1), c.2)
    by false is (inr never) = inr (λ c. off is never c.0 c.1 c.2)

not_among : (p : ℕ) (xs : List ℕ) → without p xs ≡ None → Contains xs p → ⊥
not_among p xs e c = at c.0 xs e c.1 c.2
  where
    at : (k : ℕ) (ys : List ℕ) → without p ys ≡ None → k < length ys → slice_index_or ys k p ≡ p → ⊥
    at k [] e lt is = absurd (omega (arith, lt))
    at k (y ∷ ys) e lt is = by (eqb y p) refl (without p ys) refl k lt is e (λ j f. at j ys f)
      where
        by : (b : Bool) → eqb y p ≡ b → (o : Option (List ℕ)) → without p ys ≡ o → (j : ℕ) → j < length (y ∷ ys) → slice_index_or (y ∷ ys) j p ≡ p → cond b (Some ys) (option_map (λ rest. y ∷ rest) o) ≡ None
            → ((i : ℕ) → without p ys ≡ None → i < length ys → slice_index_or ys i p ≡ p → ⊥) → ⊥
        by true same o f j lt is e ih = absurd cc
        by false same (Some rest) f j lt is e ih = absurd cc
        by false same None f zero lt is e ih = let again = eq-eqb y p is in absurd cc
        by false same None f (suc j) lt is e ih = ih j f (omega (arith, lt)) is

min_low : (a b : ℕ) → (min a b ≤ a) × (min a b ≤ b)
min_low a b = (omega arith, omega arith)

min_one : (a b : ℕ) → (min a b ≡ a) ⊎ (min a b ≡ b)
min_one a b = by (cases_lt a b)
  where
    by : (a < b) ⊎ (b ≤ a) → (min a b ≡ a) ⊎ (min a b ≡ b)
    by (inl lt) = inl (omega arith)
    by (inr le) = inr (omega arith)

least_low : (p : ℕ) (qs : List ℕ) → (least_of p qs ≤ p) × AllByRecursion (λ q. least_of p qs ≤ q) qs
least_low p [] = (omega arith, tt)
least_low p (q ∷ qs) = let m = min_low p q in let k = least_low (min p q) qs in (omega (arith, k.0, m.0), (omega (arith, k.0, m.1), k.1))

least_among : (p : ℕ) (qs : List ℕ) → (least_of p qs ≡ p) ⊎ Contains qs (least_of p qs)
least_among p [] = inl refl
least_among p (q ∷ qs) = by (min_one p q) (least_among (min p q) qs)
  where
    by : (min p q ≡ p) ⊎ (min p q ≡ q) → (least_of (min p q) qs ≡ min p q) ⊎ Contains qs (least_of (min p q) qs) → (least_of (min p q) qs ≡ p) ⊎ Contains (q ∷ qs) (least_of (min p q) qs)
    by m (inr c) = inr (suc c.0, omega (arith, c.1), c.2)
    by (inl one) (inl e) = inl (e ∙ one)
    by (inr other) (inl e) = inr (0, omega arith, sym (e ∙ other))

least_there : (p : ℕ) (qs : List ℕ) → Contains (p ∷ qs) (least_of p qs)
least_there p qs = by (least_among p qs)
  where
    by : (least_of p qs ≡ p) ⊎ Contains qs (least_of p qs) → Contains (p ∷ qs) (least_of p qs)
    by (inl e) = (0, omega arith, sym e)
    by (inr c) = (suc c.0, omega (arith, c.1), c.2)

module _ (d : Defs) (rows : List ℕ) (head : Option ℕ) where
  passes_more : (before at : Option ℕ) (ps : List ℕ) (last : Option ℕ) (p : ℕ) → Passes d rows before at ps last (Some p) → NamesBefore d rows p last → Passes d rows before at (ps ++ p ∷ []) (Some p) (next_deleted d rows p)
  passes_more before at [] last p h names = (h.1, subst (λ (b : Option ℕ). NamesBefore d rows p b) (sym h.0) names, (refl, refl))
  passes_more before at (q ∷ ps) last p h names = (h.0, h.1, passes_more (Some q) (next_deleted d rows q) ps last p h.2 names)

  passes_follow : (before at : Option ℕ) (ps : List ℕ) (last : Option ℕ) → Passes d rows before at ps last None → Follows d rows before at ps
  passes_follow before at [] last h = h.1
  passes_follow before at (p ∷ ps) last h = (h.0, h.1, passes_follow (Some p) (next_deleted d rows p) ps last h.2)

  not_left : (met left : List ℕ) (last : Option ℕ) (p : ℕ) → IsPermutation (deleted_places d rows) (met ++ left) → (Contains left p → ⊥) → IsBadPlace d rows met last p
  not_left met left last p parts never = by (among p (deleted_places d rows))
    where
      here : Contains met p ⊎ Contains left p → IsBadPlace d rows met last p
      here (inl c) = inr (inl c)
      here (inr c) = absurd (never c)

      by : Contains (deleted_places d rows) p ⊎ (Contains (deleted_places d rows) p → ⊥) → IsBadPlace d rows met last p
      by (inr none) = inl none
      by (inl c) = here (Contains-append_cases met left p (Contains-permutation (deleted_places d rows) (met ++ left) p parts c))

  at_end : (met left : List ℕ) (last : Option ℕ) → IsListSoFar d rows head met left last None → IsFirstInList d rows head (least left)
  at_end met [] last s = (met, subst (λ (ps : List ℕ). IsPermutation (deleted_places d rows) ps) (append-nil met) s.parts, passes_follow None head met last s.passes)
  at_end met (p ∷ ps) last s =
      let k = least_low p ps in
      inr (record { met = met; left = p ∷ ps; last = last; so_far = s; among = least_there p ps; lowest = (k.0, k.1) })

  at_none : (n : ℕ) (met left : List ℕ) (last : Option ℕ) → IsListSoFar d rows head met left last None → IsFirstInList d rows head (list_bad (next_deleted d rows) (names_before d rows) n left last None)
  at_none zero met left last s = at_end met left last s
  at_none (suc n) met left last s = at_end met left last s

  one_more : (met left others : List ℕ) (last : Option ℕ) (p : ℕ) → IsListSoFar d rows head met left last (Some p) → without p left ≡ Some others → names_before d rows p last ≡ true → IsListSoFar d rows head (met ++ p ∷ []) others (Some p) (next_deleted d rows p)
  one_more met left others last p s out named = record {
    passes = passes_more None head met last p s.passes (names_true d.format rows p last named);
    parts = subst (λ (ps : List ℕ). IsPermutation (deleted_places d rows) ps) (sym (append_assoc met (p ∷ []) others))
        (IsPermutation-trans (deleted_places d rows) (met ++ left) (met ++ (p ∷ others)) s.parts (IsPermutation-append met met left (p ∷ others) (IsPermutation-refl met) (taken_out p left others out)));
  }

  list_first : (n : ℕ) (met left : List ℕ) (last next : Option ℕ) → length left ≡ n → IsListSoFar d rows head met left last next → IsFirstInList d rows head (list_bad (next_deleted d rows) (names_before d rows) n left last next)
  list_first n met left last None long s = at_none n met left last s
  list_first zero met left last (Some p) long s =
      inl (record { met = met; left = left; last = last; so_far = s; bad = not_left met left last p s.parts (λ c. absurd (omega (arith, c.1, long))) })
  list_first (suc n) met left last (Some p) long s = by (without p left) refl (λ others out named. list_first n (met ++ p ∷ []) others (Some p) (next_deleted d rows p) (omega (arith, long, length_out p left others out)) (one_more met left others last p s out named))
    where
      go : List ℕ → Option ℕ
      go others = list_bad (next_deleted d rows) (names_before d rows) n others (Some p) (next_deleted d rows p)

      named_by : (others : List ℕ) → (b : Bool) → names_before d rows p last ≡ b → (names_before d rows p last ≡ true → IsFirstInList d rows head (go others)) → IsFirstInList d rows head (cond b (go others) (Some p))
      named_by others true is more = more is
      named_by others false is more =
          inl (record { met = met; left = left; last = last; so_far = s; bad = inr (inr (λ names. let named = true_names d.format rows p last names in absurd cc)) })

      by : (o : Option (List ℕ)) → without p left ≡ o → ((others : List ℕ) → without p left ≡ Some others → names_before d rows p last ≡ true → IsFirstInList d rows head (go others))
          → IsFirstInList d rows head (link_bad p (names_before d rows p last) go o)
      by None out more = inl (record { met = met; left = left; last = last; so_far = s; bad = not_left met left last p s.parts (not_among p left out) })
      by (Some others) out more = named_by others (names_before d rows p last) refl (more others out)

pub deleted_first : (d : Defs) (rows x : List ℕ) → IsFirstInList d rows (state_of d x).dellink (deleted_bad d rows x)
unfolding deleted_bad
deleted_first d rows x =
    list_first d rows (state_of d x).dellink (length (deleted d rows)) [] (deleted_places d rows) None (state_of d x).dellink (length-places (deleted d rows)) (record { passes = (refl, refl); parts = IsPermutation-refl (deleted_places d rows) })
  where
    length-places : (rs : List Range) → length (map (λ (a : Range). a.0) rs) ≡ length rs
    length-places [] = refl
    length-places (r ∷ rs) = ap suc (length-places rs)

-- ---- the trees

abbrev shown : List Event → List Pair
shown met = content (walked_in met)

shown_more : (met : List Event) (e : Event) → shown (met ++ e ∷ []) ≡ shown met ++ shown (e ∷ [])
shown_more [] e = refl
shown_more (page at ∷ met) e = shown_more met e
shown_more (bad at ∷ met) e = shown_more met e
shown_more (pair p at ∷ met) e = ap (λ (ps : List Pair). p ∷ ps) (shown_more met e)

none_more : (met : List Event) (e : Event) → first_bad met ≡ None → first_bad (e ∷ []) ≡ None → first_bad (met ++ e ∷ []) ≡ None
none_more [] e none one = one
none_more (page at ∷ met) e none one = none_more met e none one
none_more (pair p at ∷ met) e none one = none_more met e none one
none_more (bad at ∷ met) e none one = absurd cc

-- the key of the last of some pairs, behind one before them
abbrev key_behind : Option (List KeySeg) → List Pair → Option (List KeySeg)
key_behind last [] = last
key_behind last (p ∷ ps) = key_behind (Some p.key) ps

behind_more : (last : Option (List KeySeg)) (ps : List Pair) (p : Pair) → key_behind last (ps ++ p ∷ []) ≡ Some p.key
behind_more last [] p = refl
behind_more last (q ∷ ps) p = behind_more (Some q.key) ps p

fresh_more : (unique : Bool) (last : Option (List KeySeg)) (ps : List Pair) (p : Pair) → Fresh unique last ps → (unique && repeats_last (key_behind last ps) p.key) ≡ false → Fresh unique last (ps ++ p ∷ [])
fresh_more unique last [] p fresh never = (never, tt)
fresh_more unique last (q ∷ ps) p fresh never = (fresh.0, fresh_more unique (Some q.key) ps p fresh.1 never)

second_of : (last : Option (List KeySeg)) (ps : List Pair) (key : List KeySeg) → repeats_last (key_behind last ps) key ≡ true → (repeats_last last key ≡ true) ⊎ (list_any (λ other. is_same_key other key) (keys_of ps) ≡ true)
second_of last [] key e = inl e
second_of last (p ∷ ps) key e = by (second_of (Some p.key) ps key e)
  where
    by : (is_same_key p.key key ≡ true) ⊎ (list_any (λ other. is_same_key other key) (keys_of ps) ≡ true) → (repeats_last last key ≡ true) ⊎ (list_any (λ other. is_same_key other key) (keys_of (p ∷ ps)) ≡ true)
    by (inl here) = inr (or_left (is_same_key p.key key) (list_any (λ other. is_same_key other key) (keys_of ps)) here)
    by (inr there) = inr (or_right (is_same_key p.key key) (list_any (λ other. is_same_key other key) (keys_of ps)) there)

second_in : (ps : List Pair) (key : List KeySeg) → repeats_last (key_behind None ps) key ≡ true → list_any (λ other. is_same_key other key) (keys_of ps) ≡ true
second_in ps key e = by (second_of None ps key e)
  where
    by : (false ≡ true) ⊎ (list_any (λ other. is_same_key other key) (keys_of ps) ≡ true) → list_any (λ other. is_same_key other key) (keys_of ps) ≡ true
    by (inl never) = absurd cc
    by (inr there) = there

-- the front of a list in order is in order
front_sorted : (front left : List Pair) → IsSorted pair_cmp (front ++ left) → IsSorted pair_cmp front
front_sorted front left order = λ k e low lt.
    let here = get_or_append_left front left e k (omega (arith, lt)) in
    let next = get_or_append_left front left e (k + 1) lt in
    subst (λ (p : Pair). is_lt (pair_cmp (slice_index_or front (k + 1) e) p) ≡ false) here
    (subst (λ (p : Pair). is_lt (pair_cmp p (slice_index_or (front ++ left) k e)) ≡ false) next (order k e low (omega (arith, lt, length-append front left))))

front_apart : (front left : List Pair) → IsSorted pair_cmp (front ++ left) → Fresh true None front → AreApart [] (keys_of front)
front_apart front left order fresh =
    apart front (subst (λ (ps : List Pair). has_repeat ps ≡ false) (sorted_is front front (IsPermutation-refl front) (front_sorted front left order)) (fresh_none None front fresh))

module _ (unique : Bool) (list : List Pair) (order : IsSorted pair_cmp list) where
  record SoFar (met : List Event) (left : List Pair) (last : Option (List KeySeg)) : Type 0 where
    pub none : first_bad met ≡ None
    pub pairs : list ≡ shown met ++ left
    pub fresh : Fresh unique None (shown met)
    pub behind : last ≡ key_behind None (shown met)

  so_met : (met : List Event) (left : List Pair) (last : Option (List KeySeg)) → SoFar met left last → IsMetSoFar unique list met left
  so_met met left last s = record {
    none = s.none;
    pairs = s.pairs;
    apart = λ is. front_apart (shown met) left (subst (λ (ps : List Pair). IsSorted pair_cmp ps) s.pairs order) (subst (λ (b : Bool). Fresh b None (shown met)) is s.fresh);
  }

  page_more : (met : List Event) (left : List Pair) (last : Option (List KeySeg)) (at : ℕ) → SoFar met left last → SoFar (met ++ page at ∷ []) left last
  page_more met left last at s =
      let same : shown (met ++ page at ∷ []) ≡ shown met = shown_more met (page at) ∙ append-nil (shown met) in
      record {
        none = none_more met (page at) s.none refl;
        pairs = s.pairs ∙ ap (λ (ps : List Pair). ps ++ left) (sym same);
        fresh = subst (λ (ps : List Pair). Fresh unique None ps) (sym same) s.fresh;
        behind = s.behind ∙ ap (key_behind None) (sym same);
      }

  pair_more : (met : List Event) (p q : Pair) (left : List Pair) (last : Option (List KeySeg)) (at : ℕ) → SoFar met (q ∷ left) last → p ≡ q → (unique && repeats_last last p.key) ≡ false → SoFar (met ++ pair p at ∷ []) left (Some p.key)
  pair_more met p q left last at s is never =
      let more : shown (met ++ pair p at ∷ []) ≡ shown met ++ p ∷ [] = shown_more met (pair p at) in
      let front : list ≡ (shown met ++ p ∷ []) ++ left = s.pairs ∙ ap (λ (r : Pair). shown met ++ r ∷ left) (sym is) ∙ sym (append_assoc (shown met) (p ∷ []) left) in
      record {
        none = none_more met (pair p at) s.none refl;
        pairs = front ∙ ap (λ (ps : List Pair). ps ++ left) (sym more);
        fresh = subst (λ (ps : List Pair). Fresh unique None ps) (sym more) (fresh_more unique None (shown met) p s.fresh (subst (λ (l : Option (List KeySeg)). (unique && repeats_last l p.key) ≡ false) s.behind never));
        behind = sym (behind_more None (shown met) p) ∙ ap (key_behind None) (sym more);
      }

  at_pair : (all es met : List Event) (p : Pair) (at : ℕ) (last : Option (List KeySeg)) (go : List Pair → Option ℕ) → all ≡ met ++ pair p at ∷ es
      → ((qs : List Pair) → SoFar (met ++ pair p at ∷ []) qs (Some p.key) → IsFirstMet unique list all (go qs)) → (left : List Pair) → SoFar met left last → IsFirstMet unique list all (pair_bad unique last p at go left)
  at_pair all es met p at last go is more [] s =
      inl (record { met = met; event = pair p at; more = es; left = []; is = is; so_far = so_met met [] last s; bad = inl (λ others e. absurd cc); place = refl })
  at_pair all es met p at last go is more (q ∷ qs) s = by (is_eq (pair_cmp p q)) refl (unique && repeats_last last p.key) refl
    where
      by : (b : Bool) → is_eq (pair_cmp p q) ≡ b → (c : Bool) → (unique && repeats_last last p.key) ≡ c → IsFirstMet unique list all (cond (b && not c) (go qs) (Some at))
      by true same false never = more qs (pair_more met p q qs last at s (pair_exact p q same) never)
      by true same true repeat =
          let both = and_parts unique (repeats_last last p.key) repeat in
          inl (record {
            met = met;
            event = pair p at;
            more = es;
            left = q ∷ qs;
            is = is;
            so_far = so_met met (q ∷ qs) last s;
            bad = inr (both.0, second_in (shown met) p.key (ap (λ (l : Option (List KeySeg)). repeats_last l p.key) (sym s.behind) ∙ both.1));
            place = refl;
          })
      by false same c repeat =
          inl (record {
            met = met;
            event = pair p at;
            more = es;
            left = q ∷ qs;
            is = is;
            so_far = so_met met (q ∷ qs) last s;
            bad = inl (λ others e. let first : q ≡ p = cc in let itself = ap (λ (r : Pair). is_eq (pair_cmp p r)) first ∙ pair_itself p in absurd cc);
            place = refl;
          })

  first_met : (all es met : List Event) (left : List Pair) (last : Option (List KeySeg)) → all ≡ met ++ es → SoFar met left last → IsFirstMet unique list all (walk_bad unique last left es)
  first_met all [] met [] last is s = subst (λ (es : List Event). IsMetSoFar unique list es []) (sym (is ∙ append-nil met)) (so_met met [] last s)
  first_met all [] met (p ∷ ps) last is s =
      inr (record { left = p ∷ ps; so_far = subst (λ (es : List Event). IsMetSoFar unique list es (p ∷ ps)) (sym (is ∙ append-nil met)) (so_met met (p ∷ ps) last s); some = omega arith; place = refl })
  first_met all (page at ∷ es) met left last is s = first_met all es (met ++ page at ∷ []) left last (is ∙ sym (append_assoc met (page at ∷ []) es)) (page_more met left last at s)
  first_met all (bad at ∷ es) met left last is s = inl (record { met = met; event = bad at; more = es; left = left; is = is; so_far = so_met met left last s; bad = tt; place = refl })
  first_met all (pair p at ∷ es) met left last is s =
      at_pair all es met p at last (λ qs. walk_bad unique (Some p.key) qs es) is (λ qs t. first_met all es (met ++ pair p at ∷ []) qs (Some p.key) (is ∙ sym (append_assoc met (pair p at ∷ []) es)) t) left s

list_order : (d : Defs) (k : ℕ) (rows : List PlacedRow) → IsSorted pair_cmp (key_list d k rows)
unfolding key_list
list_order d k rows = sorted_sorted (pairs_of d k rows)

pub key_first : (d : Defs) (rows : List PlacedRow) (w : KeyWalk) → IsFirstMet (is_unique d w.key) (key_list d w.key rows) w.events (key_bad d rows w)
key_first d rows w = first_met (is_unique d w.key) (key_list d w.key rows) (list_order d w.key rows) w.events w.events [] (key_list d w.key rows) None refl (record { none = refl; pairs = refl; fresh = tt; behind = refl })

-- a sorted list in which no complete key is met twice

list_apart : (list : List Pair) → IsSorted pair_cmp list → Fresh true None list → AreApart [] (keys_of list)
list_apart list order fresh = front_apart list [] (subst (λ (ps : List Pair). IsSorted pair_cmp ps) (sym (append-nil list)) order) fresh

list_fresh : (unique : Bool) (list : List Pair) → IsSorted pair_cmp list → (unique ≡ true → AreApart [] (keys_of list)) → Fresh unique None list
list_fresh false list order are = plain_fresh None list
list_fresh true list order are =
    none_fresh list (subst (λ (ps : List Pair). has_repeat ps ≡ false) (sym (sorted_is list list (IsPermutation-refl list) order)) (apart_none list (are refl)))

whole_tree : (d : Defs) (k : ℕ) (x : List ℕ) (rows : List PlacedRow) (root : Option ℕ) (busy : List Range) → IsSound d → IsKeyNumber d k → key_bad d rows (key_walk k (met_in d k x root busy)) ≡ None → IsWholeTree d k x rows root busy
whole_tree d k x rows root busy s inside e =
    let m = walk_none (is_unique d k) (met_in d k x root busy) None (key_list d k rows) e in
    record {
      walk = walked_in (met_in d k x root busy);
      apart = tree_found d k x root busy (block_some d k s inside) m.none;
      list = m.met;
      distinct = λ is. list_apart (key_list d k rows) (list_order d k rows) (subst (λ (b : Bool). Fresh b None (key_list d k rows)) is m.fresh);
    }

tree_whole : (d : Defs) (k : ℕ) (x : List ℕ) (rows : List PlacedRow) (root : Option ℕ) (busy : List Range) → IsSound d → IsKeyNumber d k → IsWholeTree d k x rows root busy → key_bad d rows (key_walk k (met_in d k x root busy)) ≡ None
tree_whole d k x rows root busy s inside t =
    let m = found_tree d k x root busy t.walk (block_some d k s inside) t.apart in
    none_key d rows (key_walk k (met_in d k x root busy)) (m.none, ap content m.is ∙ t.list) (list_fresh (is_unique d k) (key_list d k rows) (list_order d k rows) t.distinct)

pub tree_first : (d : Defs) (k : ℕ) (x : List ℕ) (rows : List PlacedRow) (root : Option ℕ) (busy : List Range) → IsSound d → IsKeyNumber d k → (key_bad d rows (key_walk k (met_in d k x root busy)) ≡ None) ↔ IsWholeTree d k x rows root busy
tree_first d k x rows root busy s inside = (whole_tree d k x rows root busy s inside, tree_whole d k x rows root busy s inside)

-- ---- the bytes of the data file

module _ (rs : List Range) where
  abbrev GapIs : ℕ → ℕ → Option ℕ → Type 0
  GapIs p n None = (q : ℕ) → p ≤ q → q < p + n → list_any (covers q) rs ≡ true
  GapIs p n (Some a) = (p ≤ a) × (a < p + n) × (list_any (covers a) rs ≡ false) × ((q : ℕ) → p ≤ q → q < a → list_any (covers q) rs ≡ true)

  gap_is : (n p : ℕ) → GapIs p n (first_gap n p rs)
  gap_is zero p = λ q le lt. absurd (omega arith)
  gap_is (suc n) p = by (list_any (covers p) rs) refl (first_gap n (suc p) rs) (gap_is n (suc p))
    where
      past : (q : ℕ) → p ≤ q → list_any (covers p) rs ≡ true → (p < q) ⊎ (q ≤ p) → (p < q → list_any (covers q) rs ≡ true) → list_any (covers q) rs ≡ true
      past q le here (inl far) more = more far
      past q le here (inr near) more = let same : p ≡ q = omega arith in subst (λ (r : ℕ). list_any (covers r) rs ≡ true) same here

      by : (b : Bool) → list_any (covers p) rs ≡ b → (o : Option ℕ) → GapIs (suc p) n o → GapIs p (suc n) (cond b o (Some p))
      by true is None more = λ q le lt. past q le is (cases_lt p q) (λ far. more q far (omega (arith, lt)))
      by true is (Some a) (low, high, never, all) = (omega (arith, low), omega (arith, high), never, λ q le lt. past q le is (cases_lt p q) (λ far. all q far lt))
      by false is o more = (omega arith, omega arith, is, λ q le lt. absurd (omega (arith, le, lt)))

held_all : (d : Defs) (rows : List ℕ) → is_addressable d (length rows) ≡ true → held d rows ≡ ranges_of (readable d false rows) ++ deleted d rows
held_all d rows is = ap (λ (b : Bool). cond b (ranges_of (readable d false rows) ++ deleted d rows) []) is

not_held : (d : Defs) (rows : List ℕ) (p : ℕ) → BelongsToNothing d rows p → list_any (covers p) (held d rows) ≡ false
not_held d rows p none = by (is_addressable d (length rows)) refl
  where
    by : (b : Bool) → is_addressable d (length rows) ≡ b → list_any (covers p) (held d rows) ≡ false
    by true is = ap (λ (rs : List Range). list_any (covers p) rs) (held_all d rows is) ∙ none.1 is
    by false is =
        let empty : held d rows ≡ [] = ap (λ (b : Bool). cond b (ranges_of (readable d false rows) ++ deleted d rows) []) is in
        ap (λ (rs : List Range). list_any (covers p) rs) empty

pub bytes_first : (d : Defs) (rows : List ℕ) → IsFirst (λ p q. p < q) (BelongsToNothing d rows) (rows_bad d rows)
unfolding rows_bad
bytes_first d rows = by (first_gap (length rows) 0 (held d rows)) (gap_is (held d rows) (length rows) 0)
  where
    by : (o : Option ℕ) → GapIs (held d rows) 0 (length rows) o → IsFirst (λ p q. p < q) (BelongsToNothing d rows) o
    by None all = λ p none. let here = all p (omega arith) (omega (arith, none.0)) in let off = not_held d rows p none in absurd cc
    by (Some a) (low, high, never, all) = (
      (omega (arith, high), λ is. ap (λ (rs : List Range). list_any (covers a) rs) (sym (held_all d rows is)) ∙ never),
      λ p lt none. let here = all p (omega arith) lt in let off = not_held d rows p none in absurd cc,
    )

-- ---- what is told

of_option : {A B : Type 0} (f : A → B) (o : Option A) (y : B) → Contains (map f (option_to_list o)) y → (x : A) × (o ≡ Some x) × (y ≡ f x)
of_option f None y c = absurd (omega (arith, c.1))
of_option {A} {B} f (Some x) y (k, lt, is) = (x, refl, at k lt is)
  where
    at : (j : ℕ) → j < 1 → slice_index_or (f x ∷ []) j y ≡ y → y ≡ f x
    at zero lt is = sym is
    at (suc j) lt is = absurd (omega (arith, lt))

of_list : {A B : Type 0} (g : A → List B) (xs : List A) (y : B) → Contains (flat_map g xs) y → (x : A) × Contains xs x × Contains (g x) y
of_list g [] y c = absurd (omega (arith, c.1))
of_list {A} {B} g (x ∷ xs) y c = by (Contains-append_cases (g x) (flat_map g xs) y c) (of_list g xs y)
  where
    by : Contains (g x) y ⊎ Contains (flat_map g xs) y → (Contains (flat_map g xs) y → (z : A) × Contains xs z × Contains (g z) y) → (z : A) × Contains (x ∷ xs) z × Contains (g z) y
    by (inl here) more = (x, (0, omega arith, refl), here)
    by (inr there) more = let k = more there in (k.0, (suc k.1.0, omega (arith, k.1.1), k.1.2), k.2)

module _ (d : Defs) (rows x : List ℕ) (s : IsSound d) where
  placed_rows : List PlacedRow
  placed_rows = map (placed_row d) (readable d false rows)

  told_header : (f : Finding) → Contains (map (λ item. finding.Header item) (option_to_list (header_bad d rows x))) f → IsToldOf d rows x f
  told_header f c =
      let k = of_option (λ (item : HeaderItem). finding.Header item) (header_bad d rows x) f c in
      subst (IsToldOf d rows x) (sym k.2) (subst (λ (o : Option HeaderItem). IsFirst ComesBefore (Differs d rows x) o) k.1 (header_first d rows x s))

  told_deleted : (f : Finding) → Contains (map (λ at. finding.Deleted (told at)) (option_to_list (deleted_bad d rows x))) f → IsToldOf d rows x f
  told_deleted f c =
      let k = of_option (λ at. finding.Deleted (told at)) (deleted_bad d rows x) f c in
      subst (IsToldOf d rows x) (sym k.2) (k.0, subst (λ (o : Option ℕ). IsFirstInList d rows (state_of d x).dellink o) k.1 (deleted_first d rows x), refl)

  told_rows : (f : Finding) → Contains (map (λ at. finding.Rows at) (option_to_list (rows_bad d rows))) f → IsToldOf d rows x f
  told_rows f c =
      let k = of_option (λ at. finding.Rows at) (rows_bad d rows) f c in
      subst (IsToldOf d rows x) (sym k.2) (subst (λ (o : Option ℕ). IsFirst (λ p q. p < q) (BelongsToNothing d rows) o) k.1 (bytes_first d rows))

  told_key : (f : Finding) → has_mark d x ≡ true → Contains (flat_map (key_findings d placed_rows) (all_walks d x)) f → IsToldOf d rows x f
  unfolding placed_rows
  told_key f mark c =
      let k = of_list (key_findings d placed_rows) (all_walks d x) f c in
      let w : KeyWalk = k.0 in
      let o = of_option (λ at. finding.Key w.key at) (key_bad d placed_rows w) f k.2 in
      subst (IsToldOf d rows x) (sym o.2) (mark, w, k.1, refl, subst (λ (b : Option ℕ). IsFirstMet (is_unique d w.key) (key_list d w.key placed_rows) w.events b) o.1 (key_first d placed_rows w))

  told_keys : (f : Finding) → Contains (keys_bad d rows x) f → IsToldOf d rows x f
  unfolding keys_bad placed_rows
  told_keys f c = by (has_mark d x) refl c
    where
      by : (b : Bool) → has_mark d x ≡ b → Contains (cond b (flat_map (key_findings d placed_rows) (all_walks d x)) []) f → IsToldOf d rows x f
      by true mark c = told_key f mark c
      by false mark c = absurd (omega (arith, c.1))

  pub told_first : (f : Finding) → Contains (findings d rows x) f → IsToldOf d rows x f
  unfolding findings
  told_first f c = by (Contains-append_cases header _ f c)
    where
      header : List Finding
      header = map (λ item. finding.Header item) (option_to_list (header_bad d rows x))

      listed : List Finding
      listed = map (λ at. finding.Deleted (told at)) (option_to_list (deleted_bad d rows x))

      bytes : List Finding
      bytes = map (λ at. finding.Rows at) (option_to_list (rows_bad d rows))

      last : Contains (keys_bad d rows x) f ⊎ Contains bytes f → IsToldOf d rows x f
      last (inl key) = told_keys f key
      last (inr byte) = told_rows f byte

      next : Contains listed f ⊎ Contains (keys_bad d rows x ++ bytes) f → IsToldOf d rows x f
      next (inl place) = told_deleted f place
      next (inr more) = last (Contains-append_cases (keys_bad d rows x) bytes f more)

      by : Contains header f ⊎ Contains (listed ++ (keys_bad d rows x ++ bytes)) f → IsToldOf d rows x f
      by (inl item) = told_header f item
      by (inr more) = next (Contains-append_cases listed (keys_bad d rows x ++ bytes) f more)
