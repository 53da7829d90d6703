-- A scan of blocks, seen as a scan of a dynamic table.
use Rattle.std.proofs.Common.{◌≡◌, ◌∙◌, ◌∷◌, List, Option, Some, None, Result, Ok, Err, refl, sym, ap, subst}
use Rattle.myi_base.specs.Holding.{Holding}
use Rattle.myi_defs.specs.declared.types.RowFormat.{RowFormat}
use Rattle.myi_defs.specs.declared.types.RowFormat.TheVariants.{Static, Dynamic}
use Rattle.myi_defs.specs.declared.types.Defs.{Defs}
use Rattle.myi_chain.specs.declared.piece.Wanted.{Wanted}
use Rattle.myi_chain.specs.declared.piece.Item.{Item as Answer}
use Rattle.myi_chain.specs.declared.piece.Item.TheVariants as item
use Rattle.myi_chain.specs.declared.piece.ScanFault.{ScanFault}
use Rattle.myi_chain.specs.Readable.{Item}
use Rattle.myi_chain.specs.ScanModel.{scanned, ArePassed, PassesTo}
use Rattle.myi_chain.specs.ScanModel as blocks
use Rattle.myi_data.specs.Readable.{packs}
use Rattle.myi_data.specs.Scanning.{TableScan, left_by, items_ahead, IsAsKnown, IsOfTable, FindsInTable, AfterTable}

module _ (h : Option Holding) (old : TableScan) (dynamic : old.test.format ≡ Dynamic) where
  format_of : (s : TableScan) → s.test ≡ old.test → s.test.format ≡ Dynamic
  format_of s is = ap (λ (d : Defs). d.format) is ∙ dynamic

  same_items : (s : TableScan) → s.test ≡ old.test → (m : Holding) → blocks.items_left packs s m ≡ items_ahead s m
  same_items s is m = ap (λ (f : RowFormat). left_by f s.test s.extend s.place s.used (scanned s m)) (sym (format_of s is))

  known_of : (s : TableScan) → s.test ≡ old.test → (m : Holding) → blocks.IsCurrent s m → IsAsKnown s m
  known_of s is m c = record { kept = c.kept; long = λ e. c.long }

  pub known_to : (m : Holding) → IsAsKnown old m → blocks.IsCurrent old m
  known_to m c = record { kept = c.kept; long = c.long dynamic }

  -- what a call leaves of blocks is what it leaves of the table
  pub after_of : (wanted : Wanted) (r : Result (Option Answer) ScanFault) (new : TableScan) → blocks.After packs wanted h old r new → AfterTable wanted h old r new
  after_of wanted (Err e) new (k, goes) = (
    record {
      same = k.same;
      place = k.place;
      used = k.used;
      within = k.within;
      falls = k.falls;
      whole = k.whole;
      blocks = k.blocks;
      told = λ m held. sym (same_items new k.same.test m) ∙ k.told m held ∙ same_items old refl m;
      current = λ m held. known_of new k.same.test m (k.current m held);
    },
    λ e. goes,
  )
  after_of wanted (Ok None) new (k, goes) = (
    record {
      same = k.same;
      later = k.later;
      ended = k.ended;
      falls = k.falls;
      whole = k.whole;
      blocks = k.blocks;
      told = λ m held. (subst (ArePassed wanted) (same_items old refl m) (k.told m held).0, sym (same_items new k.same.test m) ∙ (k.told m held).1);
      current = λ m held. known_of new k.same.test m (k.current m held);
    },
    λ e. goes,
  )
  after_of wanted (Ok (Some found)) new (k, goes) = (
    record {
      same = k.same;
      rises = k.rises;
      between = k.between;
      within = k.within;
      falls = k.falls;
      whole = k.whole;
      stands = k.stands;
      told = λ m held.
          let t = k.told m held in
          record {
            first = t.first;
            next = subst (λ (is : List Item). PassesTo wanted (items_ahead old m) (t.first ∷ is)) (same_items new k.same.test m) (subst (λ (is : List Item). PassesTo wanted is (t.first ∷ blocks.items_left packs new m)) (same_items old refl m) t.next);
            is = t.is;
          };
      current = λ m held. known_of new k.same.test m (k.current m held);
    },
    λ e. goes,
  )

  pub no_static : {P : Type 0} → old.test.format ≡ Static → P
  no_static e = absurd (none (sym e ∙ dynamic))
    where
      none : Static ≡ Dynamic → ⊥
      none e = absurd cc

  -- nothing is said of slots
  of_table : (found : Answer) → blocks.Passes (packs old.test) found → IsOfTable old found
  of_table (item.Row at p) is = (is, λ e. no_static e)
  of_table (item.Free at size) is = (is, λ e. no_static e)

  -- what a call answers of blocks it answers of the table
  pub says_of : (wanted : Wanted) (r : Result (Option Answer) ScanFault) → blocks.Finds packs wanted h old r → FindsInTable wanted h old r
  says_of wanted (Err e) is = record { packs = tt; meant = tt; counted = tt; never = λ memory. (dynamic, is.never memory); failing = is.failing }
  says_of wanted (Ok None) is = record { packs = tt; meant = tt; counted = tt; never = tt; failing = tt }
  says_of wanted (Ok (Some found)) is = record { packs = of_table found is.packs; meant = is.meant; counted = is.counted; never = tt; failing = tt }
