-- What is found of all trees, one tree after the other.
use Rattle.std.proofs.Common.{◌≡◌, ℕ, suc, ◌+◌, ◌-◌, ◌^◌, ◌<◌, ◌||◌, ◌&&◌, Bool, true, false, not, cond, leb, Option, Some, None, List, [], ◌∷◌, ◌++◌, length, map, drop, append_assoc, append-nil, refl, sym, ap, subst, ◌∙◌, arith}
use Rattle.std.specs.Prelude.{is_none, get_or, All}
use Rattle.std.specs.Option.{option_to_list}
use Rattle.std.specs.List.{list_all, flat_map}
use Rattle.std.proofs.lemmas.Bool.{lt-leb}
use Rattle.std.proofs.lemmas.List.{drop_more, get_or_default}
use Rattle.std.proofs.lemmas.List.Elements.{All-push}
use Rattle.std.proofs.lemmas.List.Sums.{sum_by-cons}
use Rattle.myi_base.specs.Ranges.{Range, are_apart, is_apart}
use Rattle.myi_defs.specs.declared.types.Defs.{Defs}
use Rattle.myi_header.specs.Layout.{first_page_of}
use Rattle.myi_header.specs.StateOf.{state_of}
use Rattle.myi_keylist.specs.declared.pair.Pair.{Pair}
use Rattle.myi_keylist.specs.PairOrder.{sorted}
use Rattle.myi_btree.specs.Sizes.{IsPlaced}
use Rattle.myi_btree.specs.Visit.{page_range}
use Rattle.myi_btree.specs.Events.{Event, first_bad, pages_in}
use Rattle.myi_btree.specs.Used.{up_to_used}
use Rattle.myi_rowkeys.proofs.CallerLemmas.{mapped_at}
use Rattle.myi_pair.specs.declared.finding.Finding.{Finding}
use Rattle.myi_pair.specs.declared.finding.Finding.TheVariants as finding
use Rattle.myi_pair.specs.FirstRows.{numbers_from, key_numbers, is_unique}
use Rattle.myi_pair.specs.KeyList.{PlacedRow, pairs_of, key_list}
use Rattle.myi_pair.specs.Trees.{block_of_key, place_of, total}
use Rattle.myi_pair.specs.FirstBad.{walk_bad}
use Rattle.myi_pair.specs.Findings.{KeyWalk, key_walk, key_walks, all_walks, all_walk, walk_pages, met_in, page_bytes, key_findings, told}
use Rattle.myi_check.specs.declared.busy.TreePages.{TreePages}
use Rattle.myi_check.specs.declared.busy.BusyPages.{BusyPages}
use Rattle.myi_check.specs.declared.walks.TreeKey.{TreeKey}
use Rattle.myi_check.specs.declared.walks.TreeWalk.{TreeWalk}
use Rattle.myi_check.specs.declared.keys.KeysFound.{KeysFound}
use Rattle.myi_check.specs.declared.keys.KeysSoFar.{KeysSoFar}
use Rattle.myi_check.specs.WalksBusy.{misses, is_free, AreBusy, HasBytes}
use Rattle.myi_check.specs.Walks.{bad_with, bytes_met, Shows, ShowsApart, events_in}
use Rattle.myi_check.specs.Keys.{HasKeys, rooted_place, tree_key, walks_left, tree_if, AddsMet, Adds, HasSoFar}

-- ---- the walk of a tree is added

all_append : {A : Type 0} (test : A → Bool) (xs ys : List A) → list_all test (xs ++ ys) ≡ (list_all test xs && list_all test ys)
all_append test [] ys = refl
all_append test (x ∷ xs) ys = ap (λ (b : Bool). test x && b) (all_append test xs ys) ∙ and_assoc (test x) (list_all test xs) (list_all test ys)
  where
    and_assoc : (a b c : Bool) → (a && (b && c)) ≡ ((a && b) && c)
    and_assoc true b c = refl
    and_assoc false b c = refl

all_map : {A B : Type 0} (test : B → Bool) (f : A → B) (xs : List A) → list_all test (map f xs) ≡ list_all (λ x. test (f x)) xs
all_map test f [] = refl
all_map test f (x ∷ xs) = ap (λ (b : Bool). test (f x) && b) (all_map test f xs)

and_three : (a b c : Bool) → ((a && b) && (c && true)) ≡ (a && (b && (c && true)))
and_three true b c = refl
and_three false b c = refl

and_end : (b : Bool) → (b && true) ≡ b
and_end true = refl
and_end false = refl

-- the pages of a tree with a walk are busy behind it
busy_more : (block : ℕ) (met : List Event) (walk : TreeWalk) (ranges : List Range) (old new : BusyPages) → new.first_page ≡ old.first_page → new.trees.items ≡ old.trees.items ++ record { block_length = block; places = walk.places } ∷ []
    → ((test : ℕ → Bool) → list_all test (pages_in met) ≡ (list_all test walk.places.keys && true)) → AreBusy ranges old → AreBusy (ranges ++ map (page_range block) (pages_in met)) new
busy_more block met walk ranges old new first trees places are = λ at len some.
    let tree : TreePages = record { block_length = block; places = walk.places } in
    let own : list_all (are_apart (at, at + len)) (map (page_range block) (pages_in met)) ≡ (misses at len tree && true) = all_map (are_apart (at, at + len)) (page_range block) (pages_in met) ∙ places (λ p. are_apart (at, at + len) (p, p + block)) in
    let now : is_free new at len ≡ (leb old.first_page at && (list_all (misses at len) old.trees.items && (misses at len tree && true))) =
    ap (λ n. leb n at && list_all (misses at len) new.trees.items) first ∙ ap (λ b. leb old.first_page at && b) (ap (list_all (misses at len)) trees ∙ all_append (misses at len) old.trees.items (tree ∷ [])) in
    all_append (are_apart (at, at + len)) ranges (map (page_range block) (pages_in met))
    ∙ both (is_apart (at, at + len) ranges) (is_free old at len) (list_all (are_apart (at, at + len)) (map (page_range block) (pages_in met))) (misses at len tree && true) (are at len some) own
    ∙ and_three (leb old.first_page at) (list_all (misses at len) old.trees.items) (misses at len tree) ∙ sym now
  where
    both : (a b c d : Bool) → a ≡ b → c ≡ d → (a && c) ≡ (b && d)
    both a b c d e f = rw (e, f) refl

pages_are : (block : ℕ) (es : List Event) (b : Bool) → is_none (first_bad es) ≡ b → walk_pages block es ≡ cond b (map (page_range block) (pages_in es)) []
pages_are block es b e = rw e refl

told_same : (a b c d : ℕ) → a ≡ told (b + c) → told d ≡ told (c + 0) → told a ≡ told (b + d)
told_same a b c d e f = omega (arith, e, f)

pub record Added (block : ℕ) (walk : TreeWalk) (bad : Option ℕ) (old new : KeysSoFar) : Type 0 where
  pub findings : new.findings.items ≡ old.findings.items ++ map (λ at. finding.Key old.number at) (option_to_list bad)
  pub walks : new.walks ≡ (old.walks && not walk.is_cut)
  pub bytes : new.page_bytes ≡ cond walk.is_cut old.page_bytes (told (old.page_bytes + walk.bytes))
  pub first : new.busy.first_page ≡ old.busy.first_page
  pub trees : new.busy.trees.items ≡ old.busy.trees.items ++ tree_if walk block

pub adds : (key : TreeKey) (list : List Pair) (es : List Event) (walk : TreeWalk) (bad : Option ℕ) (old new : KeysSoFar) → Added key.place.block_length walk bad old new → bad ≡ bad_with key.unique list walk.met [] → ShowsApart key list old.busy walk es [] → Adds key list es old new
adds key list es walk bad old new a is shows = λ ranges are. by ranges are (shows ranges are) walk.is_cut refl
  where
    by : (ranges : List Range) → AreBusy ranges old.busy → Shows key.unique key.place.block_length list walk (up_to_used key.place.block_length ranges es) [] → (cut : Bool) → walk.is_cut ≡ cut → AddsMet key list (up_to_used key.place.block_length ranges es) ranges old new
    by ranges are s true cut =
        let block = key.place.block_length in
        let met = up_to_used block ranges es in
        let off : is_none (first_bad met) ≡ false = s.whole ∙ ap (λ (b : Bool). not b && true) cut in
        let none : walk_pages block met ≡ [] = pages_are block met false off in
        let trees : new.busy.trees.items ≡ old.busy.trees.items = a.trees ∙ ap (λ (b : Bool). old.busy.trees.items ++ cond b [] (record { block_length = block; places = walk.places } ∷ [])) cut ∙ append-nil old.busy.trees.items in
        record {
          findings = a.findings ∙ ap (λ (o : Option ℕ). old.findings.items ++ map (λ at. finding.Key old.number at) (option_to_list o)) (is ∙ sym s.bad);
          walks = a.walks ∙ ap (λ (b : Bool). old.walks && b) (ap not cut ∙ sym off);
          bytes = ap told (a.bytes ∙ ap (λ (b : Bool). cond b old.page_bytes (told (old.page_bytes + walk.bytes))) cut) ∙ ap told (let e : old.page_bytes ≡ old.page_bytes + 0 = omega arith in e) ∙ ap (λ (t : List Range). told (old.page_bytes + total t)) (sym none);
          busy = λ at len some. ap (λ (t : List Range). is_apart (at, at + len) (ranges ++ t)) none ∙ ap (is_apart (at, at + len)) (append-nil ranges) ∙ are at len some
              ∙ sym (ap (λ n. leb n at && list_all (misses at len) new.busy.trees.items) a.first ∙ ap (λ (t : List TreePages). leb old.busy.first_page at && list_all (misses at len) t) trees);
        }
    by ranges are s false cut =
        let block = key.place.block_length in
        let met = up_to_used block ranges es in
        let on : is_none (first_bad met) ≡ true = s.whole ∙ ap (λ (b : Bool). not b && true) cut in
        let pages : walk_pages block met ≡ map (page_range block) (pages_in met) = pages_are block met true on in
        let trees : new.busy.trees.items ≡ old.busy.trees.items ++ record { block_length = block; places = walk.places } ∷ [] = a.trees ∙ ap (λ (b : Bool). old.busy.trees.items ++ cond b [] (record { block_length = block; places = walk.places } ∷ [])) cut in
        record {
          findings = a.findings ∙ ap (λ (o : Option ℕ). old.findings.items ++ map (λ at. finding.Key old.number at) (option_to_list o)) (is ∙ sym s.bad);
          walks = a.walks ∙ ap (λ (b : Bool). old.walks && b) (ap not cut ∙ sym on);
          bytes = told_same new.page_bytes old.page_bytes walk.bytes (bytes_met block met) (a.bytes ∙ ap (λ (b : Bool). cond b old.page_bytes (told (old.page_bytes + walk.bytes))) cut) (s.bytes cut) ∙ ap (λ (t : List Range). told (old.page_bytes + total t)) (sym pages);
          busy = subst (λ (t : List Range). AreBusy (ranges ++ t) new.busy) (sym pages) (busy_more block met walk ranges old.busy new.busy a.first trees (s.places cut) are);
        }

-- the pages of all trees have bytes
pub sized_more : (walk : TreeWalk) (block : ℕ) (items new : List TreePages) → 0 < block → new ≡ items ++ tree_if walk block → All HasBytes items → All HasBytes new
sized_more walk block items new some e all = by walk.is_cut refl
  where
    by : (cut : Bool) → walk.is_cut ≡ cut → All HasBytes new
    by true cut = subst (All HasBytes) (sym (e ∙ ap (λ (b : Bool). items ++ cond b [] (record { block_length = block; places = walk.places } ∷ [])) cut ∙ append-nil items)) all
    by false cut = subst (All HasBytes) (sym (e ∙ ap (λ (b : Bool). items ++ cond b [] (record { block_length = block; places = walk.places } ∷ [])) cut)) (All-push HasBytes items (record { block_length = block; places = walk.places }) all some)

-- ---- the next key

-- how the pages of a key are made does not rest on its root
pub rooted : (d : Defs) (k : ℕ) (root : Option ℕ) → IsPlaced (place_of d k) → IsPlaced (rooted_place d k root)
rooted d k root p = record { whole = p.whole; least = p.least; most = p.most; wide = p.wide; narrow = p.narrow }

numbers_more : (k n m : ℕ) → n ≡ suc m → numbers_from k n ≡ k ∷ numbers_from (suc k) m
numbers_more k n m e = rw e refl

left_more : (d : Defs) (x : List ℕ) (ranges : List Range) (i : ℕ) (root : Option ℕ) → i < length d.keys → i < length (state_of d x).roots → get_or (state_of d x).roots i root ≡ root
    → walks_left d x ranges i ≡ key_walk (suc i) (met_in d (suc i) x root ranges) ∷ walks_left d x (ranges ++ walk_pages (block_of_key d (suc i)) (met_in d (suc i) x root ranges)) (suc i)
left_more d x ranges i root inside rooted is =
    let ks = numbers_more (suc i) (length d.keys - i) (length d.keys - suc i) (omega (arith, inside)) in
    let rs : drop i (state_of d x).roots ≡ root ∷ drop (i + 1) (state_of d x).roots = drop_more (state_of d x).roots i root rooted ∙ ap (λ (r : Option ℕ). r ∷ drop (i + 1) (state_of d x).roots) is in
    ap (λ (t : List ℕ). key_walks d x ranges t (drop i (state_of d x).roots)) ks
    ∙ ap (λ (t : List (Option ℕ)). key_walks d x ranges (suc i ∷ numbers_from (suc (suc i)) (length d.keys - suc i)) t) rs
    ∙ ap (λ n. key_walk (suc i) (met_in d (suc i) x root ranges) ∷ key_walks d x (ranges ++ walk_pages (block_of_key d (suc i)) (met_in d (suc i) x root ranges)) (numbers_from (suc (suc i)) (length d.keys - suc i)) (drop n (state_of d x).roots)) (let e : i + 1 ≡ suc i = omega arith in e)

told_on : (a f t r n : ℕ) → told a ≡ told (f + (t + r)) → told n ≡ told (f + t) → told a ≡ told (n + r)
told_on a f t r n e g = omega (arith, e, g)

and_on : (a b c d : Bool) → a ≡ (b && (c && d)) → (e : Bool) → e ≡ (b && c) → a ≡ (e && d)
and_on a true c d is e same = is ∙ ap (λ (x : Bool). x && d) (sym same)
and_on a false c d is e same = is ∙ ap (λ (x : Bool). x && d) (sym same)

bad_of : (d : Defs) (rows : List PlacedRow) (k : ℕ) (es : List Event) (list : List Pair) → list ≡ sorted (pairs_of d k rows) → key_findings d rows (key_walk k es) ≡ map (λ at. finding.Key k at) (option_to_list (walk_bad (is_unique d k) None list es))
unfolding key_list
bad_of d rows k es list e = rw e refl

pub found_next : (d : Defs) (x : List ℕ) (rows : List PlacedRow) (i : ℕ) (root : Option ℕ) (list : List Pair) (old new : KeysSoFar) → i < length d.keys → i < length (state_of d x).roots → get_or (state_of d x).roots i root ≡ root → list ≡ sorted (pairs_of d (suc i) rows) → old.number ≡ suc i
    → Adds (tree_key d (suc i) root) list (events_in (rooted_place d (suc i) root) x) old new → HasSoFar d x rows i old → HasSoFar d x rows (suc i) new
found_next d x rows i root list old new inside rooted is listed number add was =
    let block = block_of_key d (suc i) in
    let ranges = was.ranges in
    let met = met_in d (suc i) x root ranges in
    let a : AddsMet (tree_key d (suc i) root) list met ranges old new = add ranges was.busy in
    let w = key_walk (suc i) met in
    let rest = walks_left d x (ranges ++ walk_pages block met) (suc i) in
    let left : walks_left d x ranges i ≡ w ∷ rest = left_more d x ranges i root inside rooted is in
    let own : new.findings.items ≡ old.findings.items ++ key_findings d rows w = a.findings ∙ ap (λ n. old.findings.items ++ map (λ at. finding.Key n at) (option_to_list (walk_bad (is_unique d (suc i)) None list met))) number ∙ ap (λ (t : List Finding). old.findings.items ++ t) (sym (bad_of d rows (suc i) met list listed)) in
    record {
      ranges = ranges ++ walk_pages block met;
      busy = a.busy;
      findings = was.findings ∙ ap (λ (t : List KeyWalk). old.findings.items ++ flat_map (key_findings d rows) t) left ∙ sym (append_assoc old.findings.items (key_findings d rows w) (flat_map (key_findings d rows) rest)) ∙ ap (λ (t : List Finding). t ++ flat_map (key_findings d rows) rest) (sym own);
      walks = and_on (all_walk (all_walks d x)) old.walks (is_none (first_bad met)) (all_walk rest) (was.walks ∙ ap (λ (t : List KeyWalk). old.walks && all_walk t) left) new.walks a.walks;
      bytes = told_on (page_bytes d (all_walks d x)) old.page_bytes (total (walk_pages block met)) (page_bytes d rest) new.page_bytes
          (was.bytes ∙ ap (λ (t : List KeyWalk). told (old.page_bytes + page_bytes d t)) left ∙ ap (λ n. told (old.page_bytes + n)) (sum_by-cons (λ (w : KeyWalk). total (walk_pages (block_of_key d w.key) w.events)) w rest)) a.bytes;
    }

-- ---- the first key, and the last

all_left : (d : Defs) (x : List ℕ) → walks_left d x ((0, first_page_of d) ∷ []) 0 ≡ all_walks d x
unfolding all_walks
all_left d x = ap (λ n. key_walks d x ((0, first_page_of d) ∷ []) (numbers_from 1 n) (state_of d x).roots) (let e : length d.keys - 0 ≡ length d.keys = omega arith in e)

pub found_first : (d : Defs) (x : List ℕ) (rows : List PlacedRow) (found : KeysSoFar) → found.findings.items ≡ [] → found.busy.first_page ≡ first_page_of d → found.busy.trees.items ≡ [] → found.walks ≡ true → found.page_bytes ≡ 0 → HasSoFar d x rows 0 found
found_first d x rows found none first empty walks zero = record {
  ranges = (0, first_page_of d) ∷ [];
  busy = λ at len some.
      let off : leb (at + len) 0 ≡ false = lt-leb _ _ (omega (arith, some)) in
      ap (λ (b : Bool). (b || leb (first_page_of d) at) && true) off
      ∙ sym (ap (λ (t : List TreePages). leb found.busy.first_page at && list_all (misses at len) t) empty ∙ ap (λ n. leb n at && true) first);
  findings = ap (flat_map (key_findings d rows)) (sym (all_left d x)) ∙ ap (λ (t : List Finding). t ++ flat_map (key_findings d rows) (walks_left d x ((0, first_page_of d) ∷ []) 0)) (sym none);
  walks = ap all_walk (sym (all_left d x)) ∙ ap (λ (b : Bool). b && all_walk (walks_left d x ((0, first_page_of d) ∷ []) 0)) (sym walks);
  bytes = ap (λ (t : List KeyWalk). told (page_bytes d t)) (sym (all_left d x)) ∙ ap told (let k : page_bytes d (walks_left d x ((0, first_page_of d) ∷ []) 0) ≡ found.page_bytes + page_bytes d (walks_left d x ((0, first_page_of d) ∷ []) 0) = omega (arith, zero) in k);
}

no_numbers : (k n : ℕ) → n ≡ 0 → numbers_from k n ≡ []
no_numbers k n e = rw e refl

none_left : (d : Defs) (x : List ℕ) (ranges : List Range) (i : ℕ) → i ≡ length d.keys → walks_left d x ranges i ≡ []
none_left d x ranges i all = ap (λ (t : List ℕ). key_walks d x ranges t (drop i (state_of d x).roots)) (no_numbers (suc i) (length d.keys - i) (omega (arith, all)))

pub found_all : (d : Defs) (x : List ℕ) (rows : List PlacedRow) (i : ℕ) (found : KeysSoFar) (r : KeysFound) → i ≡ length d.keys → found.page_bytes < 2 ^ 64 → r.findings.items ≡ found.findings.items → r.page_bytes ≡ cond found.walks (Some found.page_bytes) None → HasSoFar d x rows i found → HasKeys d x rows r
found_all d x rows i found r all fits findings bytes was =
    let left = none_left d x was.ranges i all in
    let walks : all_walk (all_walks d x) ≡ found.walks = was.walks ∙ ap (λ (t : List KeyWalk). found.walks && all_walk t) left ∙ and_end found.walks in
    let sum : told (page_bytes d (all_walks d x)) ≡ found.page_bytes = was.bytes ∙ ap (λ (t : List KeyWalk). told (found.page_bytes + page_bytes d t)) left ∙ low found.page_bytes fits in
    record {
      findings = findings ∙ sym (was.findings ∙ ap (λ (t : List KeyWalk). found.findings.items ++ flat_map (key_findings d rows) t) left ∙ append-nil found.findings.items);
      page_bytes = bytes ∙ sym (ap (λ (b : Bool). cond b (Some (told (page_bytes d (all_walks d x)))) None) walks ∙ ap (λ n. cond found.walks (Some n) None) sum);
    }
  where
    low : (n : ℕ) → n < 2 ^ 64 → told (n + 0) ≡ n
    low n fits = omega (arith, fits)

-- the pairs of a key are the list at its place
pub list_is : (d : Defs) (rows : List PlacedRow) (items lists : List (List Pair)) (i : ℕ) (ps : List Pair) → items ≡ lists → lists ≡ map (λ k. pairs_of d k rows) (key_numbers d) → i < length d.keys → ps ≡ get_or items i ps → ps ≡ pairs_of d (suc i) rows
list_is d rows items lists i ps same are inside is =
    is ∙ ap (λ (t : List (List Pair)). get_or t i ps) (same ∙ are) ∙ mapped_at (λ k. pairs_of d k rows) 1 (length d.keys) i ps inside ∙ ap (λ k. pairs_of d k rows) (let e : 1 + i ≡ suc i = omega arith in e)

pub none_sized : (items : List TreePages) → items ≡ [] → All HasBytes items
none_sized items e = subst (All HasBytes) (sym e) (λ k d lt. absurd (omega arith))

-- the next key by its place among the keys
pub key_next : (d : Defs) (x : List ℕ) (rows : List PlacedRow) (i : ℕ) (roots : List (Option ℕ)) (other : Option ℕ) (key : TreeKey) (ps : List Pair) (old new : KeysSoFar) → i < length d.keys → length roots ≡ length d.keys → roots ≡ (state_of d x).roots → old.number ≡ i + 1
    → key ≡ tree_key d old.number (get_or roots (old.number - 1) other) → ps ≡ pairs_of d (suc i) rows → Adds key (sorted ps) (events_in key.place x) old new → HasSoFar d x rows i old → HasSoFar d x rows (suc i) new
key_next d x rows i roots other key ps old new inside long same number e listed add was =
    let next : old.number ≡ suc i = omega (arith, number) in
    let root = get_or roots i other in
    let is : key ≡ tree_key d (suc i) root = e ∙ ap (λ n. tree_key d n (get_or roots (n - 1) other)) next ∙ ap (λ n. tree_key d (suc i) (get_or roots n other)) (let f : suc i - 1 ≡ i = omega arith in f) in
    let rooted : i < length (state_of d x).roots = omega (arith, inside, long, ap length same) in
    let there : get_or (state_of d x).roots i root ≡ root = ap (λ (t : List (Option ℕ)). get_or t i root) (sym same) ∙ get_or_default roots i root other (omega (arith, inside, long)) in
    found_next d x rows i root (sorted ps) old new inside rooted there (ap sorted listed) next (subst (λ (k : TreeKey). Adds k (sorted ps) (events_in k.place x) old new) is add) was
