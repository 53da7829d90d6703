-- What pages that are put one behind the other into a key cache come to.
use Rattle.std.proofs.Common.{◌≡◌, ℕ, ◌+◌, ◌*◌, ◌≤◌, List, [], ◌∷◌, ◌++◌, length, refl, sym, ap, subst, ◌∙◌, arith, inr}
use Rattle.myi_base.specs.Causes.{Rose}
use Rattle.myi_base.specs.Holding.{Told}
use Rattle.myi_keycache.specs.Caching.{Caching}
use Rattle.myi_btree.specs.declared.fault.TreeFault.{TreeFault}
use Rattle.myi_btree.specs.declared.fault.TreeFault.TheVariants.{File, Memory}
use Rattle.myi_btree.specs.declared.place.Place.{Place}
use Rattle.myi_btree.specs.Walk.{Node}
use Rattle.myi_btree.specs.Faults.{IsFileOrMemory}
use Rattle.myi_btree.specs.Building.{page_for, MayLay, NotLaid, LaysOnly, PutsOnly, CountsPuts}
use Rattle.myi_btree.specs.CachePuts.{Telling, PutsAnyhow, CachePuts, CacheRefuses}
use Rattle.myi_btree.proofs.PutLaws.{told_start, told_next, told_refused, told_spares, puts_none, puts_on, lays_still, lays_put, lays_then, counts_both}

-- what holds after some puts, whatever the last answer
pub record GoneOn (place : Place) (first : ℕ) (o : Telling) (s : Caching) (p : Telling) (t : Caching) : Type 0 where
  pub name : t.name ≡ s.name
  pub puts : PutsOnly s t
  pub only : LaysOnly o.holds p.holds place.block_length first s t
  pub later : o.faults ≤ p.faults
  pub reads : p.reads ≡ o.reads

-- the pages of these nodes were laid
pub record LaidIn (place : Place) (first : ℕ) (nodes : List Node) (o : Telling) (s : Caching) (p : Telling) (t : Caching) : Type 0 where
  pub told : Told o.holds p.holds (MayLay place first nodes s t)
  pub counted : CountsPuts (length nodes) s t
  pub gone : GoneOn place first o s p t

-- some were laid, and then there was a fault
pub record StoppedIn (place : Place) (first : ℕ) (fault : TreeFault) (o : Telling) (s : Caching) (p : Telling) (t : Caching) : Type 0 where
  pub refused : Told o.holds p.holds (NotLaid first s t)
  pub faults : IsFileOrMemory fault
  pub cause : fault ≡ File → Rose o.faults p.faults
  pub gone : GoneOn place first o s p t

goes_on : (place : Place) (first at len : ℕ) (o q p : Telling) (s u t : Caching) → first ≤ at → len ≡ place.block_length → GoneOn place first o s q u → PutsAnyhow at len q u p t → GoneOn place first o s p t
goes_on place first at len o q p s u t le is g a = record {
  name = a.name ∙ g.name;
  puts = puts_on s u t g.puts a.only;
  only = lays_then o.holds q.holds p.holds place.block_length first at s u t le g.name g.only (lays_put q.holds p.holds place.block_length len at u t is a.others a.added);
  later = omega (arith, g.later, a.later);
  reads = a.reads ∙ g.reads;
}

pub start : (place : Place) (first : ℕ) (o : Telling) (s : Caching) → LaidIn place first [] o s o s
start place first o s = record {
  told = told_start o.holds place first s;
  counted = omega arith;
  gone = record { name = refl; puts = puts_none s; only = lays_still o.holds o.holds place.block_length first s refl; later = omega arith; reads = refl };
}

pub step : (place : Place) (first at : ℕ) (done : List Node) (node : Node) (page : List ℕ) (o q p : Telling) (s u t : Caching) → at ≡ first + place.block_length * length done → page ≡ page_for place node → length page ≡ place.block_length
    → LaidIn place first done o s q u → CachePuts at page q u p t → LaidIn place first (done ++ node ∷ []) o s p t
step place first at done node page o q p s u t e is long laid put0 =
    let put : CachePuts at (page_for place node) q u p t = subst (λ (x : List ℕ). CachePuts at x q u p t) is put0 in
    let len : length (page_for place node) ≡ place.block_length = ap length (sym is) ∙ long in
    record {
      told = told_next o.holds q.holds p.holds place first at done node s u t len (sym e) laid.gone.name laid.told put.put put.anyhow.added;
      counted = counts_both done (node ∷ []) s u t laid.counted put.counted;
      gone = goes_on place first at (length (page_for place node)) o q p s u t (omega (arith, e)) len laid.gone put.anyhow;
    }

-- a fault of the pages, behind those that were laid
pub no_page : (place : Place) (first : ℕ) (nodes : List Node) (fault : TreeFault) (o p : Telling) (s t : Caching) → fault ≡ Memory → LaidIn place first nodes o s p t → StoppedIn place first fault o s p t
no_page place first nodes fault o p s t memory laid = record {
  refused = told_spares o.holds p.holds place first nodes s t laid.told;
  faults = inr memory;
  cause = λ file. absurd (differ file);
  gone = laid.gone;
}
  where
    differ : fault ≡ File → ⊥
    differ f = let k : ◌≡◌ {A = TreeFault} File Memory = sym f ∙ memory in cc

-- a put that was refused, behind those that were laid
pub not_put : (place : Place) (first at : ℕ) (nodes : List Node) (page : List ℕ) (fault : TreeFault) (o q p : Telling) (s u t : Caching) → at ≡ first + place.block_length * length nodes → length page ≡ place.block_length
    → LaidIn place first nodes o s q u → CacheRefuses at page fault q u p t → StoppedIn place first fault o s p t
not_put place first at nodes page fault o q p s u t e len laid refused = record {
  refused = told_refused o.holds q.holds p.holds place first nodes s u t laid.gone.name laid.told refused.not;
  faults = refused.faults;
  cause = λ file. let k = refused.cause file in omega (arith, k, laid.gone.later);
  gone = goes_on place first at (length page) o q p s u t (omega (arith, e)) len laid.gone refused.anyhow;
}
