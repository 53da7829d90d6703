-- The bytes of trees that are laid one behind the other, and of the page above them.
use Rattle.std.proofs.Common.{◌≡◌, ◌⊎◌, inl, inr, ℕ, zero, suc, ◌+◌, ◌-◌, ◌<◌, ◌≤◌, Bool, true, false, cond, nat_le, Option, Some, None, List, [], ◌∷◌, ◌++◌, length, take, drop, refl, sym, ap, subst, ◌∙◌, append_assoc, append-nil, length-append, arith}
use Rattle.std.specs.Prelude.{unwrap_or}
use Rattle.std.proofs.lemmas.List.{drop_all, drop_at, drop-append-le, length-drop, take-append-drop}
use Rattle.myi_base.specs.Holding.{Holding, bytes_of, overwritten}
use Rattle.myi_btree.specs.Walk.{Node, Places, Walked, each, walk_of}
use Rattle.myi_keypage.specs.Page.{Page, page_with, page_bytes}
use Rattle.myi_keypage.specs.Children.{with_children}
use Rattle.myi_keypage.specs.Views.{page_in}
use Rattle.myi_keycache.specs.Lent.{bytes_at}
use Rattle.myi_treecopy.specs.declared.page.TreeCopy.{TreeCopy}
use Rattle.myi_treecopy.specs.LaidBytes.{Laying, all_laid, beginnings, with_places, page_laid, tree_laid}
use Rattle.myi_treecopy.specs.Copying.{old_nodes, laying}
use Rattle.myi_treecopy.specs.Turns.{CopiesChildren}
use Rattle.myi_treecopy.proofs.TurnLaws.{some_node, of_node, of_leaf}
use Rattle.myi_treecopy.proofs.FileLaws.{written_from}

-- ---- one tree more

pub all_laid_more : (lay : Laying) (cs : List ℕ) (c first : ℕ) → all_laid lay (cs ++ c ∷ []) first ≡ all_laid lay cs first ++ lay c (first + length (all_laid lay cs first))
all_laid_more lay [] c first = append-nil (lay c first) ∙ ap (lay c) (let e : first ≡ first + 0 = omega arith in e)
all_laid_more lay (d ∷ cs) c first =
    ap (λ ys. lay d first ++ ys) (all_laid_more lay cs c (first + length (lay d first)))
    ∙ sym (append_assoc (lay d first) (all_laid lay cs (first + length (lay d first))) (lay c (first + length (lay d first) + length (all_laid lay cs (first + length (lay d first))))))
    ∙ ap (λ n. all_laid lay (d ∷ cs) first ++ lay c n) (let e : first + length (lay d first) + length (all_laid lay cs (first + length (lay d first))) ≡ first + length (all_laid lay (d ∷ cs) first) = omega (arith, length-append (lay d first) (all_laid lay cs (first + length (lay d first)))) in e)

pub beginnings_more : (lay : Laying) (cs : List ℕ) (c first : ℕ) → beginnings lay (cs ++ c ∷ []) first ≡ beginnings lay cs first ++ (first + length (all_laid lay cs first)) ∷ []
beginnings_more lay [] c first = ap (λ n. n ∷ []) (let e : first ≡ first + 0 = omega arith in e)
beginnings_more lay (d ∷ cs) c first =
    ap (λ ns. first ∷ ns) (beginnings_more lay cs c (first + length (lay d first)))
    ∙ ap (λ n. beginnings lay (d ∷ cs) first ++ n ∷ []) (let e : first + length (lay d first) + length (all_laid lay cs (first + length (lay d first))) ≡ first + length (all_laid lay (d ∷ cs) first) = omega (arith, length-append (lay d first) (all_laid lay cs (first + length (lay d first)))) in e)

-- what stands from a place on, where more was written behind it
pub dropped_more : (first end : ℕ) (xs ys : List ℕ) → take (length xs) ys ≡ xs → length xs ≡ end → first ≤ end → drop first ys ≡ drop first xs ++ drop end ys
dropped_more first end xs ys kept long low =
    ap (drop first) (sym (take-append-drop (length xs) ys) ∙ ap (λ zs. zs ++ drop (length xs) ys) kept ∙ ap (λ n. xs ++ drop n ys) long)
    ∙ drop-append-le first xs (drop end ys) (omega (arith, long, low))

-- the trees so far reach up to here
pub reached : (first end : ℕ) (xs laid : List ℕ) → length xs ≡ end → first ≤ end → drop first xs ≡ laid → end ≡ first + length laid
reached first end xs laid long low is = let n : length laid ≡ length xs - first = ap (λ ys. length ys) (sym is) ∙ length-drop first xs in omega (arith, n, long, low)

-- ---- a page and what stands below it

pub bytes_taken : (xs page : List ℕ) (at block : ℕ) → bytes_at xs at block ≡ Some page → take block (drop at xs) ≡ page
unfolding bytes_at
bytes_taken xs page at block is = by _ is
  where
    by : (b : _) → ◌≡◌ {A = Option (List ℕ)} (cond b (Some (take block (drop at xs))) None) (Some page) → take block (drop at xs) ≡ page
    by true e = cc
    by false e = absurd cc

none_of : (xs : List ℕ) → length xs ≡ 0 → xs ≡ []
none_of [] e = refl
none_of (x ∷ xs) e = absurd (omega (arith, e))

-- a page that was written with other places, its own bytes behind it
places_put : (rec_ref : ℕ) (old new rest places : List ℕ) (p : Page) → old ≡ page_bytes rec_ref p ++ rest → new ≡ page_bytes rec_ref (with_children places p) ++ rest → new ≡ with_places rec_ref old p places
places_put rec_ref old new rest places p is text =
    text ∙ ap (λ ys. page_bytes rec_ref (with_children places p) ++ ys) (sym (ap (drop (length (page_bytes rec_ref p))) is ∙ drop_at (page_bytes rec_ref p) rest (length (page_bytes rec_ref p)) refl))

-- a page without children stays
leaf_put : (rec_ref : ℕ) (old new rest places : List ℕ) (p : Page) → old ≡ page_bytes rec_ref p ++ rest → new ≡ page_bytes rec_ref (with_children places p) ++ rest → p.children ≡ [] → places ≡ [] → new ≡ old
leaf_put rec_ref old new rest places p is text none nowhere =
    text ∙ ap (λ cs. page_bytes rec_ref (page_with p.entries cs) ++ rest) (nowhere ∙ sym none) ∙ sym is

-- what a page is read as
pub record IsOldPage (t : TreeCopy) (at : ℕ) (old rest : List ℕ) (p : Page) (m : Holding) : Type 0 where
  pub there : bytes_at (bytes_of t.old.now m) at t.place.block_length ≡ Some old
  pub is : page_in t.place.rec_ref old ≡ Some p
  pub text : old ≡ page_bytes t.place.rec_ref p ++ rest

pub whole_bytes : (t : TreeCopy) (at start first end : ℕ) (kids places old new rest : List ℕ) (p : Page) (m n k : Holding) → first ≡ start + t.place.block_length → length new ≡ t.place.block_length → IsOldPage t at old rest p m → p.children ≡ kids → length places ≡ length kids
    → new ≡ page_bytes t.place.rec_ref (with_children places p) ++ rest → ((node : Node) → old_nodes t m at ≡ Some node → node.children ≡ kids) → CopiesChildren t first end kids places m n → bytes_of t.new.now k ≡ overwritten start new (bytes_of t.new.now n)
    → (height : ℕ) (w : Walked) → walk_of (old_nodes t m) height at ≡ Some w → drop start (bytes_of t.new.now k) ≡ laying t m height at start
whole_bytes t at start first end kids places old new rest p m n k is long page of_page same text has l now = by
  where
    r : ℕ
    r = t.place.rec_ref

    block : ℕ
    block = t.place.block_length

    there : drop start (bytes_of t.new.now k) ≡ new ++ drop first (bytes_of t.new.now n)
    there = ap (drop start) now ∙ written_from start new (bytes_of t.new.now n) ∙ ap (λ e. new ++ drop e (bytes_of t.new.now n)) (ap (λ e. start + e) long ∙ sym is)

    taken : take block (drop at (bytes_of t.old.now m)) ≡ old
    taken = bytes_taken (bytes_of t.old.now m) old at block page.there

    by : (height : ℕ) (w : Walked) → walk_of (old_nodes t m) height at ≡ Some w → drop start (bytes_of t.new.now k) ≡ laying t m height at start
    by zero w walk =
        let s = some_node (old_nodes t m) 0 at w walk in
        let none : kids ≡ [] = sym (has s.0 s.1) ∙ of_leaf (old_nodes t m) at s.0 w s.1 walk in
        let nowhere : places ≡ [] = none_of places (same ∙ ap (λ (cs : List ℕ). length cs) none) in
        let nothing : drop first (bytes_of t.new.now n) ≡ [] = l.bytes 0 [] (ap (each (walk_of (old_nodes t m) 0)) none) ∙ ap (λ cs. all_laid (laying t m 0) cs first) none in
        there ∙ ap (λ ys. new ++ ys) nothing ∙ append-nil new ∙ leaf_put r old new rest places p page.text text (of_page ∙ none) nowhere ∙ sym taken
    by (suc height) w walk =
        let s = some_node (old_nodes t m) (suc height) at w walk in
        let o = of_node (old_nodes t m) height at s.0 w s.1 walk in
        let walks = ap (each (walk_of (old_nodes t m) height)) (sym (has s.0 s.1)) ∙ o.1 in
        let lay : Laying = laying t m height in
        let put : new ≡ with_places r old p (beginnings lay p.children (start + block)) =
        places_put r old new rest places p page.text text ∙ ap (with_places r old p) (l.begins height o.0 walks ∙ ap (λ e. beginnings lay kids e) is ∙ ap (λ cs. beginnings lay cs (start + block)) (sym of_page)) in
        let below : drop first (bytes_of t.new.now n) ≡ all_laid lay p.children (start + block) = l.bytes height o.0 walks ∙ ap (λ e. all_laid lay kids e) is ∙ ap (λ cs. all_laid lay cs (start + block)) (sym of_page) in
        there ∙ ap (λ ys. ys ++ drop first (bytes_of t.new.now n)) put ∙ ap (λ ys. with_places r old p (beginnings lay p.children (start + block)) ++ ys) below
        ∙ ap (λ q. page_laid r block lay old q start) (sym page.is)
        ∙ ap (λ ys. page_laid r block lay ys (page_in r ys) start) (sym taken)
