-- Laying the trees below a page, one after the other, and then the page.
use Rattle.std.proofs.Common.{◌≡◌, ◌≢◌, ◌⊎◌, inl, inr, ℕ, zero, suc, ◌+◌, ◌-◌, ◌*◌, ◌%◌, ◌^◌, ◌<◌, ◌≤◌, Bool, cond, eqb, Option, Some, None, List, [], ◌∷◌, ◌++◌, length, take, drop, refl, sym, ap, subst, ◌∙◌, arith, suc-mul}
use Rattle.std.specs.Prelude.{option_map, unwrap_or, Result, Ok, Err, IfErr}
use Rattle.std.proofs.Common.{get_or}
use Rattle.myi_base.specs.Causes.{HasCause}
use Rattle.myi_keypage.specs.Page.{Page, IsPlace}
use Rattle.myi_treecopy.specs.declared.fault.CopyFault.{CopyFault}
use Rattle.std.specs.List.{AllByRecursion}
use Rattle.std.proofs.lemmas.Bool.{cases_lt}
use Rattle.std.proofs.lemmas.List.{take_all, drop_all, drop_more, take_more, take-append-drop}
use Rattle.std.proofs.lemmas.Option.{same_Some}
use Rattle.myi_base.specs.Holding.{Holding, bytes_of, overwritten, OthersStay, Sets, WritesPart}
use Rattle.myi_keycache.specs.Lent.{bytes_at}
use Rattle.myi_btree.specs.Walk.{◌>>=◌, Node, node_with, Places, Walked, each, walk_of, Agree, AreNodes}
use Rattle.myi_btree.specs.LaidPages.{places_from}
use Rattle.myi_btree.specs.Nodes.{node_at, node_in}
use Rattle.myi_btree.specs.Sizes.{IsPlaced}
use Rattle.myi_treecopy.specs.declared.page.TreeCopy.{TreeCopy}
use Rattle.myi_treecopy.specs.Copying.{StandsAnew}
use Rattle.myi_treecopy.specs.LaidBytes.{all_laid, beginnings, tree_laid}
use Rattle.myi_treecopy.specs.Copying.{old_nodes, new_nodes, laying, Copies, EndsBefore, NoTree, NoTreeWithin, IsDamage, CutsOff, CutsOrLacks}
use Rattle.myi_treecopy.specs.Turns.{pages_of, StandInTurn, CopiesChildren}
use Rattle.myi_treecopy.proofs.TurnLaws.{Frame, no_tree, one_more, above_trees, alone, of_node, of_leaf, some_node, some_pages, leaf_pages, each_parts, each_long, trees_stay, many_pages}
use Rattle.myi_treecopy.proofs.BytesLaws.{all_laid_more, beginnings_more, dropped_more, reached}
use Rattle.myi_treecopy.proofs.FileLaws.{places_kept, places_behind, kept_on, written_long, written_kept, written_there}

-- the old file stays, so its nodes do
same_old : (t : TreeCopy) (m n : Holding) → t.old.now ≢ t.new.now → OthersStay t.new.now m n → old_nodes t n ≡ old_nodes t m
same_old t m n apart others = ap (λ (o : Option (List ℕ)). node_at t.place.rec_ref t.place.block_length (unwrap_or o [])) (others t.old.now apart)

-- ---- the trees below a page

pub begin : (t : TreeCopy) (start first : ℕ) (m n : Holding) → n ≡ m → start ≤ first → EndsBefore t start m → CopiesChildren t first first [] [] m n
begin t start first m n same low short =
    subst (λ (k : Holding). CopiesChildren t first first [] [] m k) (sym same) record {
      long = inr (refl, refl, omega (arith, short, low));
      kept = take_all (length (bytes_of t.new.now m)) (bytes_of t.new.now m) (omega arith);
      others = λ q other. refl;
      ends = λ height ws e. subst (λ (vs : List Walked). first ≡ first + t.place.block_length * length (pages_of vs)) (same_Some [] ws e) (let z : first ≡ first + t.place.block_length * 0 = omega arith in z);
      bytes = λ height ws e. drop_all first (bytes_of t.new.now m) (omega (arith, short, low));
      begins = λ height ws e. refl;
      anew = λ height ws e. subst (λ (vs : List Walked). StandInTurn t.place.block_length (old_nodes t m) (new_nodes t m) height first [] vs) (same_Some [] ws e) (no_tree t.place.block_length (old_nodes t m) (new_nodes t m) height first);
    }

nil_walks : (read : Places) (height : ℕ) (former : List ℕ) (ws : List Walked) → former ≡ [] → each (walk_of read height) former ≡ Some ws → ws ≡ []
nil_walks read height former ws none e = sym (same_Some [] ws (sym (ap (each (walk_of read height)) none) ∙ e))

-- the trees so far stay where more is written behind it
trees_agree : Frame → (t : TreeCopy) (first end height : ℕ) (former places : List ℕ) (m n k : Holding) → (l : CopiesChildren t first end former places m n) → take (length (bytes_of t.new.now n)) (bytes_of t.new.now k) ≡ bytes_of t.new.now n
    → (ws : List Walked) (e : each (walk_of (old_nodes t m) height) former ≡ Some ws) → Agree (new_nodes t n) (new_nodes t k) (places_from (length (pages_of ws)) t.place.block_length first)
trees_agree frame t first end height former places m n k l kept ws e = by l.long
  where
    by : (length (bytes_of t.new.now n) ≡ end) ⊎ ((former ≡ []) × (end ≡ first) × (length (bytes_of t.new.now n) ≤ end)) → Agree (new_nodes t n) (new_nodes t k) (places_from (length (pages_of ws)) t.place.block_length first)
    by (inl long) = places_kept t.place.rec_ref t.place.block_length (length (pages_of ws)) first (bytes_of t.new.now n) (bytes_of t.new.now k) kept (omega (arith, long, l.ends height ws e))
    by (inr few) = subst (λ (vs : List Walked). Agree (new_nodes t n) (new_nodes t k) (places_from (length (pages_of vs)) t.place.block_length first)) (sym (nil_walks (old_nodes t m) height former ws few.0 e)) tt

pub step : Frame → (t : TreeCopy) (first end last child : ℕ) (former places : List ℕ) (m n k : Holding) → t.old.now ≢ t.new.now → CopiesChildren t first end former places m n → Copies t child end last n k
    → CopiesChildren t first last (former ++ child ∷ []) (places ++ end ∷ []) m k
step frame t first end last child former places m n k apart l s = record {
  long = inl s.long;
  kept = kept_on (bytes_of t.new.now m) (bytes_of t.new.now n) (bytes_of t.new.now k) l.kept s.kept;
  others = λ q other. s.others q other ∙ l.others q other;
  ends = λ height ws e.
      let p = each_parts (walk_of (old_nodes t m) height) former child [] ws e in
      let here = subst (λ (read : Places). walk_of read height child ≡ Some p.1) (sym (same_old t m n apart l.others)) p.4 in
      let one = l.ends height p.0 p.3 in
      let two = s.ends height p.1 here in
      let count = ap (λ (vs : List Walked). length (pages_of vs)) p.6 ∙ each_long p.0 p.1 p.2 in
      let none : p.2 ≡ [] = nil_walks (old_nodes t m) height [] p.2 refl p.5 in
      let rest = ap (λ (vs : List Walked). length (pages_of vs)) none in
      two ∙ sum t.place.block_length first end (length (pages_of p.0)) (length p.1.pages) (length (pages_of p.2)) (length (pages_of ws)) one count rest;
  bytes = λ height ws e.
      let p = each_parts (walk_of (old_nodes t m) height) former child [] ws e in
      (more height p.0 p.1 p.3 p.4).0;
  begins = λ height ws e.
      let p = each_parts (walk_of (old_nodes t m) height) former child [] ws e in
      (more height p.0 p.1 p.3 p.4).1;
  anew = λ height ws e.
      let p = each_parts (walk_of (old_nodes t m) height) former child [] ws e in
      let none : p.2 ≡ [] = nil_walks (old_nodes t m) height [] p.2 refl p.5 in
      let whole : ws ≡ p.0 ++ p.1 ∷ [] = p.6 ∙ ap (λ vs. p.0 ++ p.1 ∷ vs) none in
      let here = subst (λ (read : Places). walk_of read height child ≡ Some p.1) (sym (same_old t m n apart l.others)) p.4 in
      let before = l.anew height p.0 p.3 in
      let agree = subst (λ ps. Agree (new_nodes t n) (new_nodes t k) ps) (sym before.laid) (trees_agree frame t first end height former places m n k l s.kept p.0 p.3) in
      let one = subst (λ (read : Places). StandsAnew t.place.block_length read (new_nodes t k) height end p.1) (same_old t m n apart l.others) (s.anew height p.1 here) in
      subst (λ (vs : List Walked). StandInTurn t.place.block_length (old_nodes t m) (new_nodes t k) height first (places ++ end ∷ []) vs) (sym whole)
      (one_more frame t.place.block_length (old_nodes t m) (new_nodes t n) (new_nodes t k) height first end places p.0 p.1 before agree (l.ends height p.0 p.3) one);
}
  where
    same_laying : (height : ℕ) → laying t n height ≡ laying t m height
    same_laying height = ap (λ (o : Option (List ℕ)). tree_laid t.place.rec_ref t.place.block_length (unwrap_or o []) height) (l.others t.old.now apart)

    more : (height : ℕ) (ws : List Walked) (w : Walked) → each (walk_of (old_nodes t m) height) former ≡ Some ws → walk_of (old_nodes t m) height child ≡ Some w
        → (drop first (bytes_of t.new.now k) ≡ all_laid (laying t m height) (former ++ child ∷ []) first) × (places ++ end ∷ [] ≡ beginnings (laying t m height) (former ++ child ∷ []) first)
    more height ws w walks walk =
        let lay = laying t m height in
        let here = subst (λ (read : Places). walk_of read height child ≡ Some w) (sym (same_old t m n apart l.others)) walk in
        let one : drop end (bytes_of t.new.now k) ≡ lay child end = s.bytes height w here ∙ ap (λ (f : ℕ → ℕ → List ℕ). f child end) (same_laying height) in
        let at : end ≡ first + length (all_laid lay former first) = from_here height ws walks in
        let whole = dropped height ws walks in (
          whole ∙ ap (λ ys. all_laid lay former first ++ ys) (one ∙ ap (lay child) at) ∙ sym (all_laid_more lay former child first),
          ap (λ ns. ns ++ end ∷ []) (l.begins height ws walks) ∙ ap (λ e. beginnings lay former first ++ e ∷ []) at ∙ sym (beginnings_more lay former child first),
        )
      where
        from_here : (height : ℕ) (ws : List Walked) → each (walk_of (old_nodes t m) height) former ≡ Some ws → end ≡ first + length (all_laid (laying t m height) former first)
        from_here height ws walks = by l.long
          where
            by : (length (bytes_of t.new.now n) ≡ end) ⊎ ((former ≡ []) × (end ≡ first) × (length (bytes_of t.new.now n) ≤ end)) → end ≡ first + length (all_laid (laying t m height) former first)
            by (inl long) = reached first end (bytes_of t.new.now n) (all_laid (laying t m height) former first) long (omega (arith, l.ends height ws walks)) (l.bytes height ws walks)
            by (inr few) = few.1 ∙ (let e : first ≡ first + 0 = omega arith in e) ∙ ap (λ cs. first + length (all_laid (laying t m height) cs first)) (sym few.0)

        dropped : (height : ℕ) (ws : List Walked) → each (walk_of (old_nodes t m) height) former ≡ Some ws → drop first (bytes_of t.new.now k) ≡ all_laid (laying t m height) former first ++ drop end (bytes_of t.new.now k)
        dropped height ws walks = by l.long
          where
            by : (length (bytes_of t.new.now n) ≡ end) ⊎ ((former ≡ []) × (end ≡ first) × (length (bytes_of t.new.now n) ≤ end)) → drop first (bytes_of t.new.now k) ≡ all_laid (laying t m height) former first ++ drop end (bytes_of t.new.now k)
            by (inl long) = dropped_more first end (bytes_of t.new.now n) (bytes_of t.new.now k) s.kept long (omega (arith, l.ends height ws walks)) ∙ ap (λ ys. ys ++ drop end (bytes_of t.new.now k)) (l.bytes height ws walks)
            by (inr few) = ap (λ e. drop e (bytes_of t.new.now k)) (sym few.1) ∙ ap (λ cs. all_laid (laying t m height) cs first ++ drop end (bytes_of t.new.now k)) (sym few.0)

    sum : (block first end a b c d : ℕ) → end ≡ first + block * a → d ≡ a + b + c → c ≡ 0 → end + block * b ≡ first + block * d
    sum block first end a b c d one count rest = let e : d ≡ a + b = omega (arith, count, rest) in ap (λ n. n + block * b) one ∙ (let f : first + block * a + block * b ≡ first + block * (a + b) = omega arith in f) ∙ ap (λ n. first + block * n) (sym e)

-- ---- where a tree cannot be laid

pub no_child : (t : TreeCopy) (levels below at start first end child : ℕ) (former rest places : List ℕ) (m n : Holding) → t.old.now ≢ t.new.now → first ≡ start + t.place.block_length → ((node : Node) → old_nodes t m at ≡ Some node → node.children ≡ former ++ child ∷ rest)
    → CopiesChildren t first end former places m n → NoTreeWithin t below child end n → below + 1 ≡ levels → NoTreeWithin t levels at start m
no_child t levels below at start first end child former rest places m n apart is kids l lacks next zero w low walk fits =
    let s = some_node (old_nodes t m) 0 at w walk in
    absurd (some_left former child rest (sym (kids s.0 s.1) ∙ of_leaf (old_nodes t m) at s.0 w s.1 walk))
  where
    some_left : (xs : List ℕ) (x : ℕ) (ys : List ℕ) → xs ++ x ∷ ys ≡ [] → ⊥
    some_left [] x ys e = cc
    some_left (z ∷ xs) x ys e = cc
no_child t levels below at start first end child former rest places m n apart is kids l lacks next (suc height) w low walk fits =
    let s = some_node (old_nodes t m) (suc height) at w walk in
    let o = of_node (old_nodes t m) height at s.0 w s.1 walk in
    let p = each_parts (walk_of (old_nodes t m) height) former child rest o.0 (ap (each (walk_of (old_nodes t m) height)) (sym (kids s.0 s.1)) ∙ o.1) in
    let here = subst (λ (read : Places). walk_of read height child ≡ Some p.1) (sym (same_old t m n apart l.others)) p.4 in
    let one = l.ends height p.0 p.3 in
    let count = ap (λ (vs : List Walked). length (pages_of vs)) p.6 ∙ each_long p.0 p.1 p.2 in
    let pages : length w.pages ≡ suc (length (pages_of o.0)) = ap (λ (v : Walked). length v.pages) o.2 in
    lacks height p.1 (omega (arith, low, next)) here (few t.place.block_length start first end t.limit (length (pages_of p.0)) (length p.1.pages) (length (pages_of p.2)) (length (pages_of o.0)) (length w.pages) is one count pages fits)
  where
    few : (block start first end limit a b c d e : ℕ) → first ≡ start + block → end ≡ first + block * a → d ≡ a + b + c → e ≡ suc d → start + block * e ≤ limit → end + block * b ≤ limit
    few block start first end limit a b c d e is one count pages fits =
        let whole : block * e ≡ block + (block * a + block * b + block * c) = ap (λ n. block * n) (pages ∙ ap suc count) ∙ (let f : block * suc (a + b + c) ≡ block + (block * a + block * b + block * c) = omega arith in f) in
        omega (arith, whole, fits, is, one)

-- ---- the page above them

node_page : (t : TreeCopy) (start : ℕ) (x page : List ℕ) (node : Node) → start % 1024 ≡ 0 → length page ≡ t.place.block_length → node_in t.place.rec_ref page ≡ Some node
    → node_at t.place.rec_ref t.place.block_length (overwritten start page x) start ≡ Some node
unfolding node_at
node_page t start x page node whole long is =
    ap (λ (b : Bool). cond b (bytes_at (overwritten start page x) start t.place.block_length >>= node_in t.place.rec_ref) None) (ap (λ n. eqb n 0) whole)
    ∙ ap (λ (o : Option (List ℕ)). o >>= node_in t.place.rec_ref) (written_there start t.place.block_length page x long) ∙ is

pub whole_tree : Frame → (t : TreeCopy) (at start first end : ℕ) (kids places page : List ℕ) (m n k : Holding) → first ≡ start + t.place.block_length → start % 1024 ≡ 0 → length page ≡ t.place.block_length
    → ((node : Node) → old_nodes t m at ≡ Some node → (node.children ≡ kids) × (node_in t.place.rec_ref page ≡ Some (node_with node.pairs places))) → length places ≡ length kids → EndsBefore t start m → first ≤ end
    → CopiesChildren t first end kids places m n → ((height : ℕ) (w : Walked) → walk_of (old_nodes t m) height at ≡ Some w → drop start (bytes_of t.new.now k) ≡ laying t m height at start) → Sets t.new.now (overwritten start page (bytes_of t.new.now n)) n k → Copies t at start end m k
whole_tree frame t at start first end kids places page m n k is whole pagelong has same short low l bytes sets = record {
  long = long;
  kept = ap (take (length (bytes_of t.new.now m))) now ∙ written_kept start page (bytes_of t.new.now m) (bytes_of t.new.now n) l.kept (omega (arith, short));
  others = λ q other. sets.others q other ∙ l.others q other;
  ends = ends;
  bytes = bytes;
  anew = anew;
}
  where
    now : bytes_of t.new.now k ≡ overwritten start page (bytes_of t.new.now n)
    now = ap (λ (o : Option (List ℕ)). unwrap_or o []) sets.here

    long : length (bytes_of t.new.now k) ≡ end
    long = ap (λ (ys : List ℕ). length ys) now ∙ written_long start page (bytes_of t.new.now n) ∙ by l.long
      where
        by : (length (bytes_of t.new.now n) ≡ end) ⊎ ((kids ≡ []) × (end ≡ first) × (length (bytes_of t.new.now n) ≤ end)) → start + length page + (length (bytes_of t.new.now n) - (start + length page)) ≡ end
        by (inl e) = omega (arith, e, pagelong, is, low)
        by (inr e) = omega (arith, e.1, e.2, pagelong, is)

    here : (node : Node) → old_nodes t m at ≡ Some node → new_nodes t k start ≡ Some (node_with node.pairs places)
    here node there = ap (λ (ys : List ℕ). node_at t.place.rec_ref t.place.block_length ys start) now ∙ node_page t start (bytes_of t.new.now n) page (node_with node.pairs places) whole pagelong (has node there).1

    none_of : (xs : List ℕ) → length xs ≡ 0 → xs ≡ []
    none_of [] e = refl
    none_of (x ∷ xs) e = absurd (omega (arith, e))

    ends : (height : ℕ) (w : Walked) → walk_of (old_nodes t m) height at ≡ Some w → end ≡ start + t.place.block_length * length w.pages
    ends zero w walk =
        let s = some_node (old_nodes t m) 0 at w walk in
        let none = sym (has s.0 s.1).0 ∙ of_leaf (old_nodes t m) at s.0 w s.1 walk in
        let one = leaf_pages (old_nodes t m) at s.0 w s.1 walk in
        let z = l.ends 0 [] (ap (each (walk_of (old_nodes t m) 0)) none) in
        let zero_is : end ≡ first = z ∙ (let f : first + t.place.block_length * 0 ≡ first = omega arith in f) in
        zero_is ∙ is ∙ (let f : start + t.place.block_length ≡ start + t.place.block_length * 1 = omega arith in f) ∙ ap (λ n. start + t.place.block_length * n) (sym one)
    ends (suc height) w walk =
        let s = some_node (old_nodes t m) (suc height) at w walk in
        let o = of_node (old_nodes t m) height at s.0 w s.1 walk in
        let e = l.ends height o.0 (ap (each (walk_of (old_nodes t m) height)) (sym (has s.0 s.1).0) ∙ o.1) in
        let pages : length w.pages ≡ suc (length (pages_of o.0)) = ap (λ (v : Walked). length v.pages) o.2 in
        e ∙ ap (λ n. n + t.place.block_length * length (pages_of o.0)) is ∙ (let f : start + t.place.block_length + t.place.block_length * length (pages_of o.0) ≡ start + t.place.block_length * suc (length (pages_of o.0)) = omega arith in f) ∙ ap (λ n. start + t.place.block_length * n) (sym pages)

    anew : (height : ℕ) (w : Walked) → walk_of (old_nodes t m) height at ≡ Some w → StandsAnew t.place.block_length (old_nodes t m) (new_nodes t k) height start w
    anew zero w walk =
        let s = some_node (old_nodes t m) 0 at w walk in
        let none = of_leaf (old_nodes t m) at s.0 w s.1 walk in
        let nowhere : places ≡ [] = none_of places (same ∙ ap (λ (cs : List ℕ). length cs) (sym (has s.0 s.1).0 ∙ none)) in
        (alone t.place.block_length (old_nodes t m) (new_nodes t k) at start s.0 w s.1 none (here s.0 s.1 ∙ ap (λ cs. Some (node_with s.0.pairs cs)) nowhere) walk).0
    anew (suc height) w walk =
        let s = some_node (old_nodes t m) (suc height) at w walk in
        let o = of_node (old_nodes t m) height at s.0 w s.1 walk in
        let kids_are = (has s.0 s.1).0 in
        let behind : Agree (new_nodes t n) (new_nodes t k) (places_from (length (pages_of o.0)) t.place.block_length first) =
        subst (λ ys. Agree (new_nodes t n) (node_at t.place.rec_ref t.place.block_length ys) (places_from (length (pages_of o.0)) t.place.block_length first)) (sym now)
        (places_behind t.place.rec_ref t.place.block_length (length (pages_of o.0)) first start page (bytes_of t.new.now n) (omega (arith, pagelong, is))) in
        let stays = trees_stay frame t.place.block_length (old_nodes t m) (new_nodes t n) (new_nodes t k) height first places o.0 (l.anew height o.0 (ap (each (walk_of (old_nodes t m) height)) (sym kids_are) ∙ o.1)) behind in
        let placed = subst (λ p. StandInTurn t.place.block_length (old_nodes t m) (new_nodes t k) height p places o.0) is stays in
        subst (λ (v : Walked). StandsAnew t.place.block_length (old_nodes t m) (new_nodes t k) (suc height) start v) (sym o.2)
        (above_trees t.place.block_length (old_nodes t m) (new_nodes t k) height at start s.0 places o.0 s.1 (omega (arith, same, ap (λ (cs : List ℕ). length cs) kids_are, o.3)) placed (here s.0 s.1))

-- no tree stands where no page stands, or where its first page has no room
pub no_page : (t : TreeCopy) (levels at start : ℕ) (m : Holding) → old_nodes t m at ≡ None → NoTreeWithin t levels at start m
no_page t levels at start m none height w low walk fits = let s = some_node (old_nodes t m) height at w walk in absurd (let e : None ≡ Some s.0 = sym none ∙ s.1 in cc)

pub no_room : (t : TreeCopy) (levels at start : ℕ) (m : Holding) → t.limit < start + t.place.block_length → NoTreeWithin t levels at start m
no_room t levels at start m past height w low walk fits =
    let some = some_pages (old_nodes t m) height at w walk in
    let more : t.place.block_length ≤ t.place.block_length * length w.pages = (let e : t.place.block_length * length w.pages ≡ t.place.block_length * some.0 + t.place.block_length = ap (λ n. t.place.block_length * n) some.1 ∙ (let f : t.place.block_length * suc some.0 ≡ t.place.block_length * some.0 + t.place.block_length = omega arith in f) in omega (arith, e)) in
    omega (arith, past, fits, more)

-- no tree of no level below its root stands where a page has children
pub no_level : (t : TreeCopy) (levels at start : ℕ) (m : Holding) → levels ≡ 0 → ((node : Node) → old_nodes t m at ≡ Some node → 0 < length node.children) → NoTreeWithin t levels at start m
no_level t levels at start m none some zero w low walk fits =
    let s = some_node (old_nodes t m) 0 at w walk in
    omega (arith, some s.0 s.1, ap (λ (cs : List ℕ). length cs) (of_leaf (old_nodes t m) at s.0 w s.1 walk))
no_level t levels at start m none some (suc height) w low walk fits = omega (arith, low, none)

-- a tree whose leaves stand 65 levels or more below its root has more pages than there are places
pub no_tree_of_any : (t : TreeCopy) (at start : ℕ) (m : Holding) → ((rec_ref block : ℕ) (x : List ℕ) → AreNodes (node_at rec_ref block x)) → IsPlaced t.place → t.limit < 2 ^ 64 → NoTreeWithin t 64 at start m → NoTree t at start m
no_tree_of_any t at start m nodes placed room within height w walk fits = by (cases_lt 64 height)
  where
    more_times : (a b : ℕ) → 0 < a → b ≤ a * b
    more_times zero b low = absurd (omega (arith, low))
    more_times (suc a) b low = let e : suc a * b ≡ a * b + b = suc-mul a b in omega (arith, e)

    by : (64 < height) ⊎ (height ≤ 64) → ⊥
    by (inr low) = within height w low walk fits
    by (inl high) =
        let many = many_pages (old_nodes t m) 64 height at w (nodes t.place.rec_ref t.place.block_length (bytes_of t.old.now m)) (omega (arith, high)) walk in
        let least : length w.pages ≤ t.place.block_length * length w.pages = more_times t.place.block_length (length w.pages) (omega (arith, placed.least)) in
        omega (arith, many, least, fits, room)

-- ---- what the call says of it

pub ends_before : (t : TreeCopy) (first end : ℕ) (former places : List ℕ) (m n : Holding) → CopiesChildren t first end former places m n → EndsBefore t end n
ends_before t first end former places m n l = by l.long
  where
    by : (length (bytes_of t.new.now n) ≡ end) ⊎ ((former ≡ []) × (end ≡ first) × (length (bytes_of t.new.now n) ≤ end)) → EndsBefore t end n
    by (inl e) = omega (arith, e)
    by (inr e) = e.2

-- an error is what a part of the call answered
pub if_err : {T : Type 0} (r : Result T CopyFault) (x : CopyFault) (P : CopyFault → Type 0) → r ≡ Err x → P x → IfErr r P
if_err r x P e h = rw e h

pub cause_on : {T U : Type 0} (failed x y : CopyFault) (a b d : ℕ) (r : Result U CopyFault) → r ≡ Err y → y ≡ x → a ≤ b → HasCause {T = T} {E = CopyFault} failed b d (Err x) → HasCause {T = U} {E = CopyFault} failed a d r
cause_on failed x y a b d r is same le h = record {
  later = let l = h.later in omega (arith, l, le);
  cause = λ e.
      let k : Err y ≡ Err failed = sym is ∙ e in
      let f : y ≡ failed = cc in
      let up = h.cause (ap Err (sym same ∙ f)) in
      omega (arith, up, le);
}

pub cause_ok : {T : Type 0} (failed : CopyFault) (a d : ℕ) (x : T) → a ≤ d → HasCause {T = T} {E = CopyFault} failed a d (Ok x)
cause_ok told a d x le = record { later = le; cause = λ e. absurd cc }

-- where a part lacks a page, no tree stands there
pub lacks : (at : ℕ) (P Q : Holding → Type 0) (f e : CopyFault) → e ≡ f → CutsOff f ⊎ (IsDamage at f × ((m : Holding) → P m)) → ((m : Holding) → P m → Q m) → CutsOrLacks Q e
lacks at P Q f e same (inl cut) more = inl (subst CutsOff (sym same) cut)
lacks at P Q f e same (inr d) more = inr (at, same ∙ d.0, λ m. more m (d.1 m))

pub lacks_on : (P Q : Holding → Type 0) (f e : CopyFault) → e ≡ f → CutsOrLacks P f → (((m : Holding) → P m) → (m : Holding) → Q m) → CutsOrLacks Q e
lacks_on P Q f e same (inl cut) more = inl (subst CutsOff (sym same) cut)
lacks_on P Q f e same (inr d) more = inr (d.0, same ∙ d.1, more d.2)

-- the same of each holding, where one follows from the other
pub never_more : {T : Type 0} (r : Result T CopyFault) (P Q : Holding → Type 0) → ((m : Holding) → P m → Q m) → IfErr r (CutsOrLacks P) → IfErr r (CutsOrLacks Q)
never_more (Ok x) P Q more is = tt
never_more (Err f) P Q more (inl cut) = inl cut
never_more (Err f) P Q more (inr d) = inr (d.0, d.1, λ m. more m (d.2 m))

-- ---- the children of a page, as a list

pub some_page : (o : Option Page) (cs : List ℕ) → Some cs ≡ option_map (λ (p : Page). p.children) o → (p : Page) × (o ≡ Some p) × (p.children ≡ cs)
some_page None cs e = absurd cc
some_page (Some p) cs e = (p, refl, sym (same_Some cs p.children e))

pub none_page : (o : Option Page) → None ≡ option_map (λ (p : Page). p.children) o → o ≡ None
none_page None e = refl
none_page (Some p) e = absurd cc

pub heads : {A : Type 0} (x y : A) (xs ys : List A) → x ∷ xs ≡ y ∷ ys → (x ≡ y) × (xs ≡ ys)
heads x y xs ys e = (cc, cc)

pub next_same : (i d : ℕ) (xs ys : List ℕ) → length xs ≡ length ys → i < length xs → drop i xs ≡ drop i ys → (get_or xs i d ≡ get_or ys i d) × (drop (i + 1) xs ≡ drop (i + 1) ys)
next_same i d xs ys long lt same = heads (get_or xs i d) (get_or ys i d) (drop (i + 1) xs) (drop (i + 1) ys) (sym (drop_more xs i d lt) ∙ same ∙ drop_more ys i d (omega (arith, long, lt)))

pub parts_at : (i d : ℕ) (xs : List ℕ) → i < length xs → xs ≡ take i xs ++ get_or xs i d ∷ drop (i + 1) xs
parts_at i d xs lt = sym (take-append-drop i xs) ∙ ap (λ ys. take i xs ++ ys) (drop_more xs i d lt)

pub one_more_taken : (i d : ℕ) (xs : List ℕ) → i < length xs → take (i + 1) xs ≡ take i xs ++ get_or xs i d ∷ []
one_more_taken i d xs lt = take_more xs i d lt

pub all_more : (xs : List ℕ) (x : ℕ) → AllByRecursion IsPlace xs → IsPlace x → AllByRecursion IsPlace (xs ++ x ∷ [])
all_more [] x all is = (is, tt)
all_more (y ∷ xs) x all is = (all.0, all_more xs x all.1 is)

-- a write that was cut off leaves the other files
pub part_others : (name : List ℕ) (at : ℕ) (bytes : List ℕ) (m n : Holding) → WritesPart name at bytes m n → OthersStay name m n
part_others name at bytes m n (inl same) q other = ap (λ (h : Holding). h q) same
part_others name at bytes m n (inr w) q other = w.2.others q other
