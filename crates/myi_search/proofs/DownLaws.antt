-- Going down a tree, page by page, and what that says of the tree.
use Rattle.std.proofs.Common.{◌≡◌, ℕ, zero, suc, ◌+◌, ◌≤◌, Bool, true, false, Option, Some, None, List, [], ◌∷◌, ◌++◌, length, refl, sym, ap, subst, ◌∙◌, arith, inl, inr, length-append}
use Rattle.std.specs.List.{list_all, AllByRecursion}
use Rattle.std.specs.Option.{option_or, option_to_list}
use Rattle.std.proofs.lemmas.Bool.{and_parts, and_from}
use Rattle.myi_base.specs.Holding.{Holding}
use Rattle.myi_keycache.specs.Kept.{AddsOnly}
use Rattle.myi_keycache.specs.Caching.{pages_of, Caching}
use Rattle.myi_keylist.specs.declared.pair.Pair.{Pair}
use Rattle.myi_btree.specs.declared.place.Place.{Place}
use Rattle.myi_btree.specs.Walk.{Node, Places, Walked, walk_of, content, AreNodes}
use Rattle.myi_btree.specs.CachedTrees.{is_among}
use Rattle.myi_btree.specs.Serving.{View, nodes_at, Serves, CanAsk}
use Rattle.myi_search.specs.Path.{next_child, HasNext, Comes}
use Rattle.myi_search.specs.Passing.{first_kept}
use Rattle.myi_search.specs.Seeking.{Enters, IsHigher, Below, InTree, OnPath, Went, Going, Ends, Stops, Asked}
use Rattle.myi_search.proofs.Lists.{all_end, each_end, each_of, in_all, different_end, among_before, among_here}
use Rattle.myi_search.proofs.Serving.{lent_shape}
use Rattle.myi_search.proofs.TreeLaws.{Test, or_none, or_or, Chosen, in_leaf, in_node, has_page, one_height}
use Rattle.myi_search.proofs.PathLaws.{leads_more, path_named, next_is}

-- ---- before the first page

pub start_going : (place : Place) (test : Test) (v : View) (told : Option Holding) (cache : Caching) (root : ℕ) (best : Option Pair) → best ≡ None → CanAsk place v told cache root → Going place test v told cache root [] (Some root) best
start_going place test v told cache root best none k = record {
  went = record { serves = k.serves; named = λ t closed here. refl; few = λ h w walk. omega arith };
  asked = and_from (v.asked root) true k.asked refl;
  path = record { leads = refl; once = tt };
  tree = λ h w walk. record {
    level = h;
    part = w;
    walks = walk;
    sum = omega arith;
    higher = tt;
    keeps = λ parted. (parted, ap (option_or (first_kept test (content w))) none ∙ or_none (first_kept test (content w)));
  };
}

-- ---- a page was gone into

higher_more : (read : Places) (l : ℕ) (place : ℕ) → IsHigher read (suc l) place → IsHigher read l place
higher_more read l place (more, w, lt, walk) = (more, w, omega (arith, lt), walk)

-- the tree below the page is that of the child that is next, or the page is a leaf of it
tree_more : (read : Places) (test : Test) (h : ℕ) (w : Walked) (seen : List ℕ) (at : ℕ) (child : Option ℕ) (old new : Option Pair) → AreNodes read → Below read test h w seen at old → Enters test (read at) child old new → InTree read test h w (seen ++ at ∷ []) child new
tree_more read test h w seen at child old new nodes b e = by b.level b.walks b.sum b.higher
  where
    long : length (seen ++ at ∷ []) ≡ length seen + 1
    long = length-append seen (at ∷ [])

    by : (level : ℕ) → walk_of read level at ≡ Some b.part → length seen + level ≡ h → AllByRecursion (IsHigher read level) seen → InTree read test h w (seen ++ at ∷ []) child new
    by zero walk sum higher =
        let leaf = in_leaf read test at b.part e.node walk e.stands in
        subst (λ (c : Option ℕ). InTree read test h w (seen ++ at ∷ []) c new) (sym leaf.0 ∙ e.next) (record {
          sum = omega (arith, long, sum);
          keeps = λ parted. e.best ∙ ap (λ (ps : List Pair). option_or (first_kept test ps) old) (sym leaf.1) ∙ (b.keeps parted).1;
        })
    by (suc l) walk sum higher =
        let k : Chosen read test l (next_child test e.node.pairs e.node.children) (first_kept test e.node.pairs) (content b.part) = in_node read test l at b.part e.node walk e.stands (nodes at e.node e.stands) in
        subst (λ (c : Option ℕ). InTree read test h w (seen ++ at ∷ []) c new) (sym k.is ∙ e.next) (record {
          level = l;
          part = k.part;
          walks = k.walks;
          sum = omega (arith, long, sum);
          higher = each_end (IsHigher read l) seen at (each_of (IsHigher read (suc l)) (IsHigher read l) seen (higher_more read l) higher) (suc l, b.part, omega arith, walk);
          keeps = λ parted.
              let was = b.keeps parted in (
                k.parted was.0,
                ap (option_or (first_kept test (content k.part))) e.best ∙ sym (or_or (first_kept test (content k.part)) (first_kept test e.node.pairs) old)
                    ∙ ap (λ (o : Option Pair). option_or o old) (sym (k.first was.0)) ∙ was.1,
              );
        })

path_more : (read : Places) (test : Test) (root : ℕ) (seen : List ℕ) (at : ℕ) (child : Option ℕ) → Comes read test root seen at → is_among seen at ≡ false → HasNext read test at child → OnPath read test root (seen ++ at ∷ []) child
path_more read test root seen at None comes off next = (seen, at, comes, off, next)
path_more read test root seen at (Some child) comes off next = record { leads = leads_more read test root seen at child comes.leads next; once = different_end seen at comes.once off }

asked_more : (asked : ℕ → Bool) (test : Test) (node : Node) (child : Option ℕ) → list_all asked node.children ≡ true → next_child test node.pairs node.children ≡ child → list_all asked (option_to_list child) ≡ true
asked_more asked test node None all e = refl
asked_more asked test node (Some child) all e = and_from (asked child) true (next_is test asked node.pairs node.children child e all) refl

pub asked_at : (asked : ℕ → Bool) (at : ℕ) → list_all asked (option_to_list (Some at)) ≡ true → asked at ≡ true
asked_at asked at e = (and_parts (asked at) true e).0

pub can_go : (place : Place) (test : Test) (v : View) (told : Option Holding) (cache : Caching) (root : ℕ) (seen : List ℕ) (at : ℕ) (best : Option Pair) → Going place test v told cache root seen (Some at) best → CanAsk place v told cache at
can_go place test v told cache root seen at best k = record { serves = k.went.serves; asked = asked_at v.asked at k.asked }

-- also where the page was none
pub went_more : (place : Place) (test : Test) (v : View) (told next : Option Holding) (old new : Caching) (root : ℕ) (seen : List ℕ) (at : ℕ) (best : Option Pair) → Going place test v told old root seen (Some at) best → Serves place v next new
    → Went place v next new root (seen ++ at ∷ [])
went_more place test v told next old new root seen at best k serves = record {
  serves = serves;
  named = λ t closed here. let all = path_named (nodes_at place v) test t root seen at closed here k.path.leads in all_end t seen at all.0 all.1;
  few = λ h w walk. let b : Below (nodes_at place v) test h w seen at best = k.tree h w walk in omega (arith, length-append seen (at ∷ []), b.sum);
}

pub going_more : (place : Place) (test : Test) (v : View) (told next : Option Holding) (old new : Caching) (root : ℕ) (seen : List ℕ) (at : ℕ) (child : Option ℕ) (best better : Option Pair) → Going place test v told old root seen (Some at) best → is_among seen at ≡ false
    → Enters test (nodes_at place v at) child best better → Serves place v next new → Going place test v next new root (seen ++ at ∷ []) child better
going_more place test v told next old new root seen at child best better k off e serves =
    let asks = can_go place test v told old root seen at best k in
    record {
      went = went_more place test v told next old new root seen at best k serves;
      asked = asked_more v.asked test e.node child (asks.serves.closed at e.node asks.asked e.stands) e.next;
      path = path_more (nodes_at place v) test root seen at child k.path off (record { node = e.node; stands = e.stands; next = e.next });
      tree = λ h w walk. tree_more (nodes_at place v) test h w seen at child best better (lent_shape place v.first v.start) (k.tree h w walk) e;
    }

-- ---- the end

pub going_ends : (place : Place) (test : Test) (v : View) (told : Option Holding) (cache : Caching) (root : ℕ) (seen : List ℕ) (best : Option Pair) → Going place test v told cache root seen None best → Ends place test v root best
going_ends place test v told cache root seen best k = record { arrives = k.path; keeps = λ h w walk parted. (k.tree h w walk).keeps parted }

pub stops_none : (place : Place) (test : Test) (v : View) (told : Option Holding) (cache : Caching) (root : ℕ) (seen : List ℕ) (at : ℕ) (best : Option Pair) → Going place test v told cache root seen (Some at) best → nodes_at place v at ≡ None → Stops place test v root at
stops_none place test v told cache root seen at best k none = record {
  stopped = (seen, k.path, inl none);
  never = λ h w walk.
      let b : Below (nodes_at place v) test h w seen at best = k.tree h w walk in
      let page = has_page (nodes_at place v) b.level at b.part b.walks in
      let e : None ≡ Some page.0 = sym none ∙ page.1 in cc;
}

pub stops_met : (place : Place) (test : Test) (v : View) (told : Option Holding) (cache : Caching) (root : ℕ) (seen : List ℕ) (at : ℕ) (best : Option Pair) → Going place test v told cache root seen (Some at) best → is_among seen at ≡ true → Stops place test v root at
stops_met place test v told cache root seen at best k met = record {
  stopped = (seen, k.path, inr met);
  never = λ h w walk.
      let b : Below (nodes_at place v) test h w seen at best = k.tree h w walk in
      let up : IsHigher (nodes_at place v) b.level at = in_all (IsHigher (nodes_at place v) b.level) seen at b.higher met in
      let same : b.level ≡ up.0 = one_height (nodes_at place v) b.level up.0 at b.part up.1 b.walks up.3 in
      omega (arith, same, up.2);
}

-- ---- one page more was asked for

pub asked_one : (place : Place) (old mid new : Caching) (before between after : ℕ) (seen : List ℕ) (at : ℕ) → Asked place old mid before between seen → new.counters.read_requests ≤ mid.counters.read_requests + 1 → after ≤ between + 1 → AddsOnly at place.block_length (pages_of mid) (pages_of new)
    → Asked place old new before after (seen ++ at ∷ [])
asked_one place old mid new before between after seen at a requests once adds = record {
  requests = omega (arith, a.requests, requests, length-append seen (at ∷ []));
  reads = omega (arith, a.reads, once, length-append seen (at ∷ []));
  added = λ p n kept. elim (adds p n kept) [
    | inl was ↦ elim (a.added p n was) [
      | inl first ↦ inl first
      | inr one ↦ inr (one.0, among_before seen at p one.1)
    ]
    | inr now ↦ inr (now.1, subst (λ (q : ℕ). is_among (seen ++ at ∷ []) q ≡ true) (sym now.0) (among_here seen at))
  ];
}
