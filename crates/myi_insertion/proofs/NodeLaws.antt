-- A page of which one tree became others.
use Rattle.std.proofs.Common.{◌≡◌, ℕ, suc, ◌+◌, ◌≤◌, Some, List, ◌∷◌, ◌++◌, ap, arith}
use Rattle.std.specs.List.{AllByRecursion}
use Rattle.myi_btree.specs.Walk.{Places, Walked, walk_of}
use Rattle.myi_btree.specs.declared.place.Room.{Room}
use Rattle.myi_keylist.specs.declared.pair.Pair.{Pair}
use Rattle.myi_insertion.specs.Strips.{IsStrip, StandFor}
use Rattle.myi_insertion.specs.Covers.{within, cover, stock, AreClear, StillStands, Trades, Grows}
use Rattle.myi_insertion.proofs.FrameLaws.{same_walk}
use Rattle.myi_insertion.proofs.StripLaws.{Parts, whole}
use Rattle.myi_insertion.proofs.SettleLaws.{cover-append, spares_still, spares_then, left_frame, right_frame}

pub with_strip : (block : ℕ) (old mid : Places) (h at : ℕ) (cs ds es : List ℕ) (ps qs rs xs : List Pair) (pages : List ℕ) (r0 r1 : Room) (part : Parts old h cs ds es ps qs rs xs pages) → AreClear block (at ∷ pages) r0
    → (ds2 : List ℕ) (qs2 y2 : List Pair) (b2 : List ℕ) → IsStrip mid h ds2 qs2 y2 b2 → Trades block old mid part.b r0 r1 b2
    → StandFor mid (suc h) ((ps ++ qs2) ++ rs) ((cs ++ ds2) ++ es) ((part.x ++ y2) ++ part.z) ((part.a ++ b2) ++ part.c)
with_strip block old mid h at cs ds es ps qs rs xs pages r0 r1 part clear ds2 qs2 y2 b2 strip t =
    let all : (x : ℕ) → within at block x + (cover block part.a x + cover block part.b x + cover block part.c x) + stock r0 x ≤ 1 = λ x.
    let k = clear x in let e = ap (λ (t : List ℕ). cover block t x) part.pages_are in omega (arith, cover-append block (part.a ++ part.b) part.c x, cover-append block part.a part.b x) in
    let left : AllByRecursion (StillStands old mid) part.a = spares_still block old mid (λ x. cover block part.b x + stock r0 x) part.a t.spares (λ x. let k = all x in omega arith) in
    let right : AllByRecursion (StillStands old mid) part.c = spares_still block old mid (λ x. cover block part.b x + stock r0 x) part.c t.spares (λ x. let k = all x in omega arith) in
    whole mid h cs ds2 es ps qs2 rs part.x y2 part.z part.a b2 part.c (left_frame old mid h cs ps part.x part.a part.left left) strip (right_frame old mid h es rs part.z part.c part.right right)

-- a change of some of the pages of a tree is one of all
pub parts_trade : (block : ℕ) (old mid : Places) (at : ℕ) (pages a b b2 c : List ℕ) (r0 r1 : Room) → pages ≡ (a ++ b) ++ c → Trades block old mid b r0 r1 b2 → Trades block old mid (at ∷ pages) r0 r1 (at ∷ ((a ++ b2) ++ c))
parts_trade block old mid at pages a b b2 c r0 r1 is t =
    let before : (x : ℕ) → cover block pages x ≡ cover block a x + cover block b x + cover block c x = λ x.
    let e = ap (λ (t : List ℕ). cover block t x) is in omega (arith, cover-append block (a ++ b) c x, cover-append block a b x) in
    let after : (x : ℕ) → cover block ((a ++ b2) ++ c) x ≡ cover block a x + cover block b2 x + cover block c x = λ x.
    omega (arith, cover-append block (a ++ b2) c x, cover-append block a b2 x) in
    record {
      balance = λ x. let p = before x in let q = after x in let b = t.balance x in omega arith;
      spares = λ p off. t.spares p (λ x. let k = off x in let b = before x in omega arith);
    }

-- changes follow one another
pub trades_then : (block : ℕ) (old mid new : Places) (olds mids news : List ℕ) (r0 r1 r2 : Room) → Trades block old mid olds r0 r1 mids → Trades block mid new mids r1 r2 news → Trades block old new olds r0 r2 news
trades_then block old mid new olds mids news r0 r1 r2 t u = record {
  balance = λ x. let a = t.balance x in let b = u.balance x in omega arith;
  spares = spares_then block old mid new (λ x. cover block olds x + stock r0 x) (λ x. cover block mids x + stock r1 x) t.spares u.spares (λ x. let b = t.balance x in omega arith);
}

pub grows_then : (block : ℕ) (old mid new : Places) (h : ℕ) (xs : List Pair) (olds mids : List ℕ) (r0 r1 r2 : Room) (sp : List ℕ) (ss : List Pair) → Trades block old mid olds r0 r1 mids → Grows block mid new h xs mids r1 r2 sp ss → Grows block old new h xs olds r0 r2 sp ss
grows_then block old mid new h xs olds mids r0 r1 r2 sp ss t g = record { pages = g.pages; strip = g.strip; trades = trades_then block old mid new olds mids g.pages r0 r1 r2 t g.trades }

-- after a change pages and room are as clear of one another as before, and other trees still stand
pub trades_clear : (block : ℕ) (old new : Places) (olds news : List ℕ) (r0 r1 : Room) → Trades block old new olds r0 r1 news → AreClear block olds r0 → AreClear block news r1
trades_clear block old new olds news r0 r1 t clear = λ x. let a = t.balance x in let k = clear x in omega arith

pub trades_others : (block : ℕ) (old new : Places) (olds news : List ℕ) (r0 r1 : Room) (h at : ℕ) (w : Walked) → Trades block old new olds r0 r1 news → walk_of old h at ≡ Some w → ((x : ℕ) → cover block w.pages x + (cover block olds x + stock r0 x) ≤ 1) → walk_of new h at ≡ Some w
trades_others block old new olds news r0 r1 h at w t e off = same_walk old new h at w e (spares_still block old new (λ x. cover block olds x + stock r0 x) w.pages t.spares off)
