-- What a search gathers of a leaf, and what a cursor reads of it.
use Rattle.std.proofs.Common.{◌≡◌, ℕ, zero, suc, ◌+◌, ◌-◌, ◌<◌, ◌≤◌, Bool, true, false, cond, Option, Some, None, List, [], ◌∷◌, ◌++◌, length, get_or, drop, refl, sym, ap, subst, ◌∙◌, append_assoc, append-nil, arith, inl, inr}
use Rattle.std.specs.Prelude.{IfSome, IsSorted, slice_index_or}
use Rattle.std.specs.List.{AllByRecursion, slice_get}
use Rattle.std.specs.List.Sorted.{IsStrictlySortedBy}
use Rattle.std.specs.Option.{option_or, option_to_list}
use Rattle.std.specs.Ordering.{is_lt, is_le, ordering_reverse}
use Rattle.std.specs.declared.cmp.Ordering.TheVariants.{Less}
use Rattle.std.proofs.Math.Seq.{drop-cons}
use Rattle.std.proofs.lemmas.Cmp.{tied_itself}
use Rattle.std.proofs.lemmas.List.{drop_all}
use Rattle.myi_keys.specs.declared.values.KeySeg.{KeySeg}
use Rattle.myi_keys.specs.Limits.{IsKey}
use Rattle.myi_keys.specs.Codes.{key_code}
use Rattle.myi_keys.specs.Comparing.{key_front, IsCode}
use Rattle.myi_keys.proofs.CallerLemmas.{front_again, code_is}
use Rattle.myi_keylist.specs.declared.pair.Pair.{Pair}
use Rattle.myi_keylist.specs.PairOrder.{pair_with, pair_cmp}
use Rattle.myi_keylist.proofs.CallerLemmas.{pair_total}
use Rattle.myi_btree.specs.Walk.{Node, Places, Walked, walk_of, content, AreNodes}
use Rattle.myi_search.specs.Path.{is_up_to, next_child}
use Rattle.myi_search.specs.Passing.{first_kept, IsParted}
use Rattle.myi_search.specs.Seeking.{Enters}
use Rattle.myi_search.specs.Least.{IsLeastAbove}
use Rattle.myi_search.specs.Cursor.{CursorAt, from_kept, StandsIn, Advances}
use Rattle.myi_search.specs.Runs.{pair_before, GathersLeaf, IsRun, IsAhead, RunsIn, IsFound}
use Rattle.myi_search.proofs.TreeLaws.{Test, Chosen, in_leaf, in_node}
use Rattle.myi_search.proofs.LeastLaws.{least_above}

-- ---- pairs that are kept

pub first_from : (test : Test) (pairs : List Pair) → first_kept test pairs ≡ slice_get (from_kept test pairs) 0
first_from test [] = refl
first_from test (p ∷ ps) = by (test p) (first_from test ps)
  where
    by : (b : Bool) → first_kept test ps ≡ slice_get (from_kept test ps) 0 → cond b (first_kept test ps) (Some p) ≡ slice_get (cond b (from_kept test ps) (p ∷ ps)) 0
    by true e = e
    by false e = refl

first_is_kept : (test : Test) (pairs : List Pair) → IfSome (first_kept test pairs) (λ p. test p ≡ false)
first_is_kept test [] = tt
first_is_kept test (p ∷ ps) = by (test p) refl (first_is_kept test ps)
  where
    by : (b : Bool) → test p ≡ b → IfSome (first_kept test ps) (λ p. test p ≡ false) → IfSome (cond b (first_kept test ps) (Some p)) (λ p. test p ≡ false)
    by true is again = again
    by false is again = is

or_kept : (P : Pair → Type 0) (a b : Option Pair) → IfSome a P → IfSome b P → IfSome (option_or a b) P
or_kept P None b x y = y
or_kept P (Some p) b x y = x

or_parts : (a b : Option Pair) → option_or a b ≡ None → (a ≡ None) × (b ≡ None)
or_parts None b e = (refl, e)
or_parts (Some p) b e = absurd cc

never_none : (test : Test) (xs : List Pair) (p : Pair) → test p ≡ false → from_kept test (xs ++ p ∷ []) ≡ [] → ⊥
never_none test [] p off e = by (test p) off e
  where
    by : (b : Bool) → b ≡ false → cond b [] (p ∷ []) ≡ [] → ⊥
    by true k f = cc
    by false k f = cc
never_none test (x ∷ xs) p off e = by (test x) e (never_none test xs p off)
  where
    by : (b : Bool) → cond b (from_kept test (xs ++ p ∷ [])) (x ∷ (xs ++ p ∷ [])) ≡ [] → (from_kept test (xs ++ p ∷ []) ≡ [] → ⊥) → ⊥
    by true f again = again f
    by false f again = cc

none_left : (test : Test) (xs : List Pair) (o : Option Pair) → IfSome o (λ p. test p ≡ false) → from_kept test (xs ++ option_to_list o) ≡ [] → o ≡ None
none_left test xs None kept e = refl
none_left test xs (Some p) kept e = absurd (never_none test xs p kept e)

-- ---- down the tree

pub ahead_start : (read : Places) (test : Test) (h at : ℕ) (w : Walked) (best : Option Pair) → best ≡ None → walk_of read h at ≡ Some w → IsParted test (content w) → IsAhead read test w at best
ahead_start read test h at w best none walk parted = subst (λ (b : Option Pair). IsAhead read test w at b) (sym none) (record {
  level = h;
  part = w;
  walks = walk;
  parted = parted;
  kept = tt;
  rest = [];
  is = ap (from_kept test) (sym (append-nil (content w))) ∙ sym (append-nil (from_kept test (content w ++ [])));
  none = λ e. refl;
})

pub runs_more : (read : Places) (test : Test) (w : Walked) (at : ℕ) (child : Option ℕ) (old new : Option Pair) (run : List Pair) → AreNodes read → IsAhead read test w at old → Enters test (read at) child old new → GathersLeaf (read at) old run → RunsIn read test w child new run
runs_more read test w at child old new run nodes b e g = by b.level b.walks
  where
    by : (level : ℕ) → walk_of read level at ≡ Some b.part → RunsIn read test w child new run
    by zero walk =
        let leaf = in_leaf read test at b.part e.node walk e.stands in
        let all : content b.part ++ option_to_list old ≡ run = ap (λ (ps : List Pair). ps ++ option_to_list old) leaf.1 ∙ sym (g e.node e.stands leaf.2) in
        subst (λ (c : Option ℕ). RunsIn read test w c new run) (sym leaf.0 ∙ e.next) (record {
          rest = b.rest;
          is = b.is ∙ ap (λ (ps : List Pair). from_kept test ps ++ b.rest) all;
          none = λ empty. b.none (none_left test (content b.part) old b.kept (ap (from_kept test) all ∙ empty));
        })
    by (suc l) walk =
        let first : Option Pair = first_kept test e.node.pairs in
        let k : Chosen read test l (next_child test e.node.pairs e.node.children) first (content b.part) = in_node read test l at b.part e.node walk e.stands (nodes at e.node e.stands) in
        let f = k.ahead b.parted old in
        subst (λ (c : Option ℕ). RunsIn read test w c new run) (sym k.is ∙ e.next) (subst (λ (o : Option Pair). IsAhead read test w k.at o) (sym e.best) (record {
          level = l;
          part = k.part;
          walks = k.walks;
          parted = k.parted b.parted;
          kept = or_kept (λ p. test p ≡ false) first old (first_is_kept test e.node.pairs) b.kept;
          rest = f.rest ++ b.rest;
          is = b.is ∙ ap (λ (ps : List Pair). ps ++ b.rest) f.is ∙ append_assoc (from_kept test (content k.part ++ option_to_list (option_or first old))) f.rest b.rest;
          none = λ none. let n = or_parts first old none in ap (λ (ps : List Pair). ps ++ b.rest) (f.none n.0) ∙ b.none n.1;
        }))

-- what was gathered has all that is left
pub run_found : (test : Test) (pairs run : List Pair) (i : ℕ) → IsRun test pairs run → from_kept test run ≡ drop i run → IsFound test pairs (Some (run, i))
run_found test pairs run i r e = (r.rest, r.is ∙ ap (λ (ps : List Pair). ps ++ r.rest) e)

pub run_none : (test : Test) (pairs run : List Pair) → IsRun test pairs run → from_kept test run ≡ [] → IsFound test pairs None
run_none test pairs run r e = r.is ∙ ap (λ (ps : List Pair). ps ++ r.rest) e ∙ r.none e

-- without a tree nothing is left
pub no_run : (test : Test) (pairs run : List Pair) → pairs ≡ [] → run ≡ [] → IsRun test pairs run
no_run test pairs run e f = record { rest = []; is = ap (from_kept test) e ∙ sym (ap (λ (ps : List Pair). from_kept test ps ++ []) f); none = λ n. refl }

-- ---- the next pair

not_less : (p q : Pair) → pair_cmp p q ≡ Less → is_lt (pair_cmp q p) ≡ false
not_less p q less = ap is_lt (pair_total.antisymm q p ∙ ap ordering_reverse less)

pub in_order : (xs : List Pair) → IsStrictlySortedBy pair_cmp xs → IsSorted pair_cmp xs
unfolding IsStrictlySortedBy
in_order [] s = λ k d low lt. absurd (omega arith)
in_order (p ∷ []) s = λ k d low lt. absurd (omega arith)
in_order (p ∷ q ∷ xs) s = λ k d low lt. by (in_order (q ∷ xs) s.1) k d lt
  where
    by : IsSorted pair_cmp (q ∷ xs) → (k : ℕ) (d : Pair) → k + 1 < length (p ∷ q ∷ xs) → is_lt (pair_cmp (slice_index_or (p ∷ q ∷ xs) (k + 1) d) (slice_index_or (p ∷ q ∷ xs) k d)) ≡ false
    by rest zero d lt = not_less p q s.0.0
    by rest (suc k) d lt =
        let next : suc k + 1 ≡ suc (k + 1) = omega arith in
        subst (λ (n : ℕ). is_lt (pair_cmp (slice_index_or (p ∷ q ∷ xs) n d) (slice_index_or (p ∷ q ∷ xs) (suc k) d)) ≡ false) (sym next) (rest k d (omega arith) (omega arith))

all_kept : (p : Pair) (xs : List Pair) → AllByRecursion (λ r. pair_cmp p r ≡ Less) xs → from_kept (is_up_to (Some p)) xs ≡ xs
all_kept p [] h = refl
all_kept p (x ∷ xs) h =
    let off : is_le (pair_cmp x p) ≡ false = ap is_le (pair_total.antisymm x p ∙ ap ordering_reverse h.0) in
    rw off refl

head_in : (test : Test) (P : Pair → Type 0) (xs : List Pair) (p : Pair) (more : List Pair) → AllByRecursion P xs → from_kept test xs ≡ p ∷ more → P p
head_in test P [] p more all e = absurd cc
head_in test P (x ∷ xs) p more all e = by (test x) e (head_in test P xs p more all.1)
  where
    by : (b : Bool) → cond b (from_kept test xs) (x ∷ xs) ≡ p ∷ more → (from_kept test xs ≡ p ∷ more → P p) → P p
    by true f again = again f
    by false f again = let same : x ≡ p = cc in subst P same all.0

next_behind : (last : Option Pair) (pairs : List Pair) (p : Pair) (more : List Pair) → IsStrictlySortedBy pair_cmp pairs → from_kept (is_up_to last) pairs ≡ p ∷ more → from_kept (is_up_to (Some p)) pairs ≡ more
unfolding IsStrictlySortedBy
next_behind last [] p more s e = absurd cc
next_behind last (q ∷ qs) p more s e = by (is_up_to last q) e (next_behind last qs p more s.1)
  where
    by : (b : Bool) → cond b (from_kept (is_up_to last) qs) (q ∷ qs) ≡ p ∷ more → (from_kept (is_up_to last) qs ≡ p ∷ more → from_kept (is_up_to (Some p)) qs ≡ more) → from_kept (is_up_to (Some p)) (q ∷ qs) ≡ more
    by true f again =
        let less : pair_cmp q p ≡ Less = head_in (is_up_to last) (λ r. pair_cmp q r ≡ Less) qs p more s.0 f in
        let passed : is_le (pair_cmp q p) ≡ true = ap is_le less in
        rw passed (again f)
    by false f again =
        let same : q ≡ p = cc in
        let others : qs ≡ more = cc in
        let passed : is_le (pair_cmp q p) ≡ true = ap (λ (r : Pair). is_le (pair_cmp q r)) (sym same) ∙ ap is_le (tied_itself pair_total q) in
        let all : from_kept (is_up_to (Some q)) qs ≡ qs = all_kept q qs s.0 in
        rw passed (ap (λ (r : Pair). from_kept (is_up_to (Some r)) qs) (sym same) ∙ all ∙ others)

pub goes_on : (pairs : List Pair) (old new : CursorAt) (p : Pair) (rest : List Pair) → IsStrictlySortedBy pair_cmp pairs → new.last ≡ Some p → from_kept (is_up_to old.last) pairs ≡ (p ∷ new.ahead) ++ rest → Advances pairs old new true
goes_on pairs old new p rest s is e = (
  p,
  is,
  least_above old.last pairs (Some p) (in_order pairs s) (sym (first_from (is_up_to old.last) pairs ∙ ap (λ (ps : List Pair). slice_get ps 0) e)),
  (rest, ap (λ (l : Option Pair). from_kept (is_up_to l) pairs) is ∙ next_behind old.last pairs p (new.ahead ++ rest) s e),
)

pub ends_here : (pairs : List Pair) (old new : CursorAt) → IsStrictlySortedBy pair_cmp pairs → new ≡ old → from_kept (is_up_to old.last) pairs ≡ [] → Advances pairs old new false
ends_here pairs old new s same e = (least_above old.last pairs None (in_order pairs s) (sym (first_from (is_up_to old.last) pairs ∙ ap (λ (ps : List Pair). slice_get ps 0) e)), same)

-- ---- by places in a list

pub pair_there : (n : ℕ) (ps : List Pair) (d : Pair) → n < length ps → pair_before (n + 1) ps ≡ Some (get_or ps n d)
pair_there n ps d lt = let one : n + 1 ≡ suc n = omega arith in ap (λ (k : ℕ). pair_before k ps) one ∙ by n ps lt
  where
    by : (n : ℕ) (ps : List Pair) → n < length ps → slice_get ps n ≡ Some (get_or ps n d)
    by n [] lt = absurd (omega arith)
    by zero (p ∷ ps) lt = refl
    by (suc n) (p ∷ ps) lt = by n ps (omega arith)

pub drop_there : (n : ℕ) (ps : List Pair) (d : Pair) → n < length ps → drop n ps ≡ get_or ps n d ∷ drop (n + 1) ps
drop_there n ps d lt = let one : suc n ≡ n + 1 = omega arith in drop-cons ps n d lt ∙ ap (λ (k : ℕ). get_or ps n d ∷ drop k ps) one

-- the cursor goes on in what it has read
pub goes_in : (pairs ps : List Pair) (n : ℕ) (d : Pair) → n < length ps → IsStrictlySortedBy pair_cmp pairs → StandsIn pairs (record { last = pair_before n ps; ahead = drop n ps })
    → Advances pairs (record { last = pair_before n ps; ahead = drop n ps }) (record { last = pair_before (n + 1) ps; ahead = drop (n + 1) ps }) true
goes_in pairs ps n d lt s st = goes_on pairs (record { last = pair_before n ps; ahead = drop n ps }) (record { last = pair_before (n + 1) ps; ahead = drop (n + 1) ps }) (get_or ps n d) st.0 s (pair_there n ps d lt)
    (st.1 ∙ ap (λ (t : List Pair). t ++ st.0) (drop_there n ps d lt))

-- the cursor goes on in what it reads
pub goes_to : (pairs run : List Pair) (old : CursorAt) (i : ℕ) (d : Pair) → i < length run → IsStrictlySortedBy pair_cmp pairs → IsFound (is_up_to old.last) pairs (Some (run, i)) → Advances pairs old (record { last = pair_before (i + 1) run; ahead = drop (i + 1) run }) true
goes_to pairs run old i d lt s f = goes_on pairs old (record { last = pair_before (i + 1) run; ahead = drop (i + 1) run }) (get_or run i d) f.0 s (pair_there i run d lt)
    (f.1 ∙ ap (λ (t : List Pair). t ++ f.0) (drop_there i run d lt))

-- the first that is kept, where those before it are passed by
pub passed_more : (test : Test) (pairs : List Pair) (i : ℕ) (d : Pair) → i < length pairs → from_kept test pairs ≡ from_kept test (drop i pairs) → test (get_or pairs i d) ≡ true → from_kept test pairs ≡ from_kept test (drop (i + 1) pairs)
passed_more test pairs i d lt e is = e ∙ ap (from_kept test) (drop_there i pairs d lt) ∙ by_it
  where
    by_it : from_kept test (get_or pairs i d ∷ drop (i + 1) pairs) ≡ from_kept test (drop (i + 1) pairs)
    by_it = rw is refl

pub kept_here : (test : Test) (pairs : List Pair) (i : ℕ) (d : Pair) → i < length pairs → from_kept test pairs ≡ from_kept test (drop i pairs) → test (get_or pairs i d) ≡ false → from_kept test pairs ≡ drop i pairs
kept_here test pairs i d lt e is = e ∙ ap (from_kept test) (drop_there i pairs d lt) ∙ by_it ∙ sym (drop_there i pairs d lt)
  where
    by_it : from_kept test (get_or pairs i d ∷ drop (i + 1) pairs) ≡ get_or pairs i d ∷ drop (i + 1) pairs
    by_it = rw is refl

-- ---- the pair that a cursor stands behind

pub pair_at : (n : ℕ) (ps : List Pair) (d : Pair) → 0 < n → n ≤ length ps → pair_before n ps ≡ Some (get_or ps (n - 1) d)
pair_at zero ps d some le = absurd (omega arith)
pair_at (suc n) ps d some le =
    let one : suc n - 1 ≡ n = omega arith in
    let two : suc n ≡ n + 1 = omega arith in
    ap (λ (k : ℕ). pair_before k ps) two ∙ pair_there n ps d (omega (arith, le)) ∙ ap (λ (k : ℕ). Some (get_or ps k d)) (sym one)

pub no_pair : Pair
no_pair = pair_with [] 0

pub pair_read : (code : List ℕ) (row : ℕ) (p : Pair) → IsKey p.key → code ≡ key_code p.key → row ≡ p.row → pair_with (key_front code) row ≡ p
pair_read code row p is e f = ap (λ (k : List KeySeg). pair_with k row) (ap key_front e ∙ front_again p.key is) ∙ ap (λ (r : ℕ). pair_with p.key r) f

pub code_read : (code : List ℕ) (p : Pair) → IsKey p.key → code ≡ key_code p.key → IsCode code
code_read code p is e = (code_is code p.key is e).0

-- where nothing is ahead no more is to be read
pub none_ahead : (n : ℕ) (ps : List Pair) → length ps ≤ n → drop n ps ≡ []
none_ahead n ps le = drop_all n ps le

pub some_ahead : {A : Type 0} (n : ℕ) (ps : List Pair) → n < length ps → drop n ps ≡ [] → A
some_ahead n ps lt e = let k : [] ≡ get_or ps n no_pair ∷ drop (n + 1) ps = sym e ∙ drop_there n ps no_pair lt in absurd cc

pub last_read : (n : ℕ) (ps : List Pair) (code : List ℕ) (row : ℕ) → 0 < n → n ≤ length ps → IsKey (get_or ps (n - 1) no_pair).key → code ≡ key_code (get_or ps (n - 1) no_pair).key → row ≡ (get_or ps (n - 1) no_pair).row → Some (pair_with (key_front code) row) ≡ pair_before n ps
last_read n ps code row some le is e f = ap Some (pair_read code row (get_or ps (n - 1) no_pair) is e f) ∙ sym (pair_at n ps no_pair some le)

pub behind_one : (ps : List Pair) (p : Pair) → ps ≡ p ∷ [] → ◌≡◌ {A = CursorAt} (record { last = pair_before 1 ps; ahead = drop 1 ps }) (record { last = Some p; ahead = [] })
behind_one ps p e = ap (λ (t : List Pair). record { last = pair_before 1 t; ahead = drop 1 t }) e
