-- Levels above a tree's height change nothing in how it is laid.
use Rattle.std.proofs.Common.{◌≡◌, ◌⊎◌, inl, inr, ℕ, zero, suc, ◌+◌, ◌*◌, ◌^◌, ◌%◌, ◌<◌, ◌≤◌, Bool, true, false, cond, eqb, Option, Some, None, List, [], ◌∷◌, ◌++◌, length, take, drop, refl, sym, ap, ◌∙◌, append-nil, suc-mul, arith}
use Rattle.std.specs.Prelude.{Result, Ok, Err, IfOk, OnOk}
use Rattle.std.specs.List.{AllByRecursion}
use Rattle.std.proofs.lemmas.Bool.{cases_lt}
use Rattle.std.proofs.lemmas.List.{drop_at}
use Rattle.std.proofs.lemmas.Option.{same_Some}
use Rattle.myi_base.specs.Numbers.{AreBytes}
use Rattle.myi_base.specs.Holding.{Holding, HoldsBytes, IfTold, Told, bytes_of}
use Rattle.myi_base.proofs.CallerLemmas.{bytes-take, bytes-drop, told_more}
use Rattle.myi_keypage.specs.Page.{Page, page_with, page_bytes, IsPage}
use Rattle.myi_keypage.specs.Children.{with_children}
use Rattle.myi_keypage.specs.Views.{page_in}
use Rattle.myi_keycache.specs.Lent.{bytes_at}
use Rattle.myi_btree.specs.Sizes.{IsPlaced}
use Rattle.myi_btree.specs.Walk.{◌>>=◌, Node, node_with, Walked, each, walk_of, AreNodes}
use Rattle.myi_btree.specs.Nodes.{node_at, node_in, pair_in}
use Rattle.myi_btree.proofs.CallerLemmas.{bind_some}
use Rattle.myi_treecopy.specs.declared.fault.CopyFault.{CopyFault}
use Rattle.myi_treecopy.specs.declared.page.TreeCopy.{TreeCopy}
use Rattle.myi_treecopy.specs.Copying.{Copies, LaysWhole}
use Rattle.myi_treecopy.specs.LaidBytes.{Laying, all_laid, beginnings, with_places, page_laid, tree_laid, most_levels, whole_tree}
use Rattle.myi_treecopy.proofs.TurnLaws.{some_node, of_node, of_leaf, many_pages}
use Rattle.myi_treecopy.proofs.BytesLaws.{bytes_taken}

-- what pages of bytes are
abbrev pub PagesAre : Type 0
PagesAre = (rec_ref : ℕ) (x : List ℕ) (p : Page) → AreBytes x → page_in rec_ref x ≡ Some p → IsPage rec_ref x p

-- ---- the page of a node

-- the bytes at a place, as a page with these children
record HasPage (rec_ref block at : ℕ) (x children : List ℕ) : Type 0 where
  pub page : Page
  pub is : page_in rec_ref (take block (drop at x)) ≡ Some page
  pub same : page.children ≡ children

page_of : (rec_ref : ℕ) (bytes : List ℕ) (node : Node) → node_in rec_ref bytes ≡ Some node → (p : Page) × (page_in rec_ref bytes ≡ Some p) × (p.children ≡ node.children)
unfolding node_in
page_of rec_ref bytes node is =
    let a = bind_some (page_in rec_ref bytes) (λ p. each pair_in p.entries >>= λ pairs. Some (node_with pairs p.children)) node is in
    let b = bind_some (each pair_in a.0.entries) (λ pairs. Some (node_with pairs a.0.children)) node a.2 in
    (a.0, a.1, ap (λ (n : Node). n.children) (same_Some (node_with b.0 a.0.children) node b.2))

by_test : (b : Bool) (o : Option Node) (node : Node) → cond b o None ≡ Some node → o ≡ Some node
by_test true o node e = e
by_test false o node e = absurd cc

has_page : (rec_ref block at : ℕ) (x : List ℕ) (node : Node) → node_at rec_ref block x at ≡ Some node → HasPage rec_ref block at x node.children
unfolding node_at
has_page rec_ref block at x node is =
    let a = bind_some (bytes_at x at block) (node_in rec_ref) node (by_test (eqb (at % 1024) 0) (bytes_at x at block >>= node_in rec_ref) node is) in
    let p = page_of rec_ref a.0 node a.2 in
    record { page = p.0; is = ap (page_in rec_ref) (bytes_taken x a.0 at block a.1) ∙ p.1; same = p.2 }

-- ---- pages whose children are laid alike

abbrev LaysAlike : Laying → Laying → ℕ → Type 0
LaysAlike one two at = (start : ℕ) → one at start ≡ two at start

all_alike : (one two : Laying) (cs : List ℕ) (first : ℕ) → AllByRecursion (LaysAlike one two) cs → (all_laid one cs first ≡ all_laid two cs first) × (beginnings one cs first ≡ beginnings two cs first)
all_alike one two [] first same = (refl, refl)
all_alike one two (c ∷ cs) first same =
    let next : first + length (one c first) ≡ first + length (two c first) = ap (λ (ys : List ℕ). first + length ys) (same.0 first) in
    let others = all_alike one two cs (first + length (two c first)) same.1 in (
      ap (λ ys. ys ++ all_laid one cs (first + length (one c first))) (same.0 first) ∙ ap (λ n. two c first ++ all_laid one cs n) next ∙ ap (λ ys. two c first ++ ys) others.0,
      ap (λ n. first ∷ beginnings one cs n) next ∙ ap (λ ns. first ∷ ns) others.1,
    )

each_alike : (one two : Laying) (f : ℕ → Option Walked) → ((c : ℕ) (v : Walked) → f c ≡ Some v → LaysAlike one two c) → (cs : List ℕ) (ws : List Walked) → each f cs ≡ Some ws → AllByRecursion (LaysAlike one two) cs
each_alike one two f alike [] ws e = tt
each_alike one two f alike (c ∷ cs) ws e =
    let a = bind_some (f c) (λ y. each f cs >>= λ ys. Some (y ∷ ys)) ws e in
    let b = bind_some (each f cs) (λ ys. Some (a.0 ∷ ys)) ws a.2 in
    (alike c a.0 a.1, each_alike one two f alike cs b.0 b.1)

-- a page without children is laid as it stands
alone_laid : (rec_ref block : ℕ) (lay : Laying) (bytes rest : List ℕ) (p : Page) (start : ℕ) → bytes ≡ page_bytes rec_ref p ++ rest → p.children ≡ [] → page_laid rec_ref block lay bytes (Some p) start ≡ bytes
alone_laid rec_ref block lay bytes rest p start text none =
    ap (λ cs. with_places rec_ref bytes p (beginnings lay cs (start + block)) ++ all_laid lay cs (start + block)) none
    ∙ append-nil (with_places rec_ref bytes p [])
    ∙ ap (λ ys. page_bytes rec_ref (with_children [] p) ++ ys) (ap (drop (length (page_bytes rec_ref p))) text ∙ drop_at (page_bytes rec_ref p) rest (length (page_bytes rec_ref p)) refl)
    ∙ ap (λ cs. page_bytes rec_ref (page_with p.entries cs) ++ rest) (sym none)
    ∙ sym text

-- a page is laid alike where what stands below it is
page_alike : (rec_ref block : ℕ) (one two : Laying) (bytes : List ℕ) (p : Page) (start : ℕ) → AllByRecursion (LaysAlike one two) p.children → page_laid rec_ref block one bytes (Some p) start ≡ page_laid rec_ref block two bytes (Some p) start
page_alike rec_ref block one two bytes p start same =
    let both = all_alike one two p.children (start + block) same in
    ap (λ ns. with_places rec_ref bytes p ns ++ all_laid one p.children (start + block)) both.1 ∙ ap (λ ys. with_places rec_ref bytes p (beginnings two p.children (start + block)) ++ ys) both.0

-- ---- levels above the height

pub same_levels : PagesAre → (rec_ref block : ℕ) (x : List ℕ) → AreBytes x → (height at : ℕ) (w : Walked) → walk_of (node_at rec_ref block x) height at ≡ Some w
    → (levels start : ℕ) → height ≤ levels → tree_laid rec_ref block x levels at start ≡ tree_laid rec_ref block x height at start
same_levels pages rec_ref block x bytes zero at w walk zero start few = refl
same_levels pages rec_ref block x bytes zero at w walk (suc levels) start few =
    let s = some_node (node_at rec_ref block x) 0 at w walk in
    let p = has_page rec_ref block at x s.0 s.1 in
    let is = pages rec_ref (take block (drop at x)) p.page (bytes-take block (drop at x) (bytes-drop at x bytes)) p.is in
    ap (λ q. page_laid rec_ref block (tree_laid rec_ref block x levels) (take block (drop at x)) q start) p.is
    ∙ alone_laid rec_ref block (tree_laid rec_ref block x levels) (take block (drop at x)) is.text.0 p.page start is.text.1 (p.same ∙ of_leaf (node_at rec_ref block x) at s.0 w s.1 walk)
same_levels pages rec_ref block x bytes (suc height) at w walk zero start few = absurd (omega (arith, few))
same_levels pages rec_ref block x bytes (suc height) at w walk (suc levels) start few =
    let s = some_node (node_at rec_ref block x) (suc height) at w walk in
    let o = of_node (node_at rec_ref block x) height at s.0 w s.1 walk in
    let p = has_page rec_ref block at x s.0 s.1 in
    let one : Laying = tree_laid rec_ref block x levels in
    let two : Laying = tree_laid rec_ref block x height in
    let below = each_alike one two (walk_of (node_at rec_ref block x) height) (λ c v e first. same_levels pages rec_ref block x bytes height c v e levels first (omega (arith, few))) p.page.children o.0 (ap (each (walk_of (node_at rec_ref block x) height)) p.same ∙ o.1) in
    ap (λ q. page_laid rec_ref block one (take block (drop at x)) q start) p.is
    ∙ page_alike rec_ref block one two (take block (drop at x)) p.page start below
    ∙ ap (λ q. page_laid rec_ref block two (take block (drop at x)) q start) (sym p.is)

-- ---- a tree whose pages have room

-- it has no more levels than trees may have
few_levels : (rec_ref block : ℕ) (x : List ℕ) (height at : ℕ) (w : Walked) → AreNodes (node_at rec_ref block x) → 0 < block → block * length w.pages < 2 ^ 64 → walk_of (node_at rec_ref block x) height at ≡ Some w → height ≤ most_levels
unfolding most_levels
few_levels rec_ref block x height at w nodes some room walk = by (cases_lt 64 height)
  where
    more_times : (a b : ℕ) → 0 < a → b ≤ a * b
    more_times zero b low = absurd (omega (arith, low))
    more_times (suc a) b low = let e : suc a * b ≡ a * b + b = suc-mul a b in omega (arith, e)

    by : (64 < height) ⊎ (height ≤ 64) → height ≤ 64
    by (inr low) = low
    by (inl high) =
        let many = many_pages (node_at rec_ref block x) 64 height at w nodes (omega (arith, high)) walk in
        absurd (omega (arith, many, more_times block (length w.pages) some, room))

-- it is laid with the most levels as with its own
pub laid_whole : PagesAre → (rec_ref block : ℕ) (x : List ℕ) → AreNodes (node_at rec_ref block x) → AreBytes x → 0 < block → (height at : ℕ) (w : Walked) → block * length w.pages < 2 ^ 64 → walk_of (node_at rec_ref block x) height at ≡ Some w
    → (start : ℕ) → tree_laid rec_ref block x height at start ≡ whole_tree rec_ref block x at start
unfolding whole_tree
laid_whole pages rec_ref block x nodes bytes some height at w room walk start =
    let few = few_levels rec_ref block x height at w nodes some room walk in
    sym (same_levels pages rec_ref block x bytes height at w walk most_levels start few)

-- a copy of it has these bytes
copied_whole : PagesAre → ((rec_ref block : ℕ) (x : List ℕ) → AreNodes (node_at rec_ref block x)) → (t : TreeCopy) (at start end : ℕ) (m n : Holding) → IsPlaced t.place → t.limit < 2 ^ 64 → HoldsBytes m → end ≤ t.limit → Copies t at start end m n → LaysWhole t at start m n
copied_whole pages nodes t at start end m n placed limit bytes low s height w walk =
    s.bytes height w walk
    ∙ laid_whole pages t.place.rec_ref t.place.block_length (bytes_of t.old.now m) (nodes t.place.rec_ref t.place.block_length (bytes_of t.old.now m)) (bytes t.old.now) (omega (arith, placed.least)) height at w
    (omega (arith, s.ends height w walk, low, limit)) walk start

pub ok_whole : PagesAre → ((rec_ref block : ℕ) (x : List ℕ) → AreNodes (node_at rec_ref block x)) → (r : Result ℕ CopyFault) (t : TreeCopy) (at start : ℕ) (old new : Option Holding) → IsPlaced t.place → t.limit < 2 ^ 64 → IfTold old HoldsBytes → IfOk r (λ end. end ≤ t.limit)
    → IfOk r (λ end. Told old new (Copies t at start end)) → OnOk r (Told old new (LaysWhole t at start))
ok_whole pages nodes (Ok end) t at start old new placed limit bytes low copies =
    told_more old new (Copies t at start end) (LaysWhole t at start) copies (λ m n held s. copied_whole pages nodes t at start end m n placed limit (bytes m held) low s)
ok_whole pages nodes (Err f) t at start old new placed limit bytes low copies = tt
