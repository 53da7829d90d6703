use Rattle.std.proofs.Common.{◌≡◌, ◌∙◌, refl, sym, ap, subst, arith, Some, None, Ok, Err, take, [], ◌∷◌, inl, inr}
use Rattle.std.specs.Prelude.{option_to_list}
use Rattle.std.proofs.lemmas.Result.{err_from_is_err_and}
use Rattle.myi_base.specs.Holding.{bytes_of}
use Rattle.myi_io.specs.declared.files.FileErr.TheVariants as file
use Rattle.myi_base.proofs.CallerLemmas.{ok_not_err}
use Rattle.myi_chain.specs.Pieces.{piece_bytes}
use Rattle.myi_chain.specs.declared.piece.ScanFault.TheVariants as fault
use Rattle.myi_data.specs.Readable.{packs}
use Rattle.myi_data.specs.NextSlot.{IsNext, IsPlaced, IsHeld}
use Rattle.myi_chain.specs.declared.piece.Item.TheVariants as item
use Rattle.myi_data.specs.Scanning.{AfterTable}
use Rattle.myi_data.proofs.ScanLaws.{went, slot_scan, row_answered, free_answered, ended, kept, some_ahead, row_packs, row_long, row_slot, free_slot, free_meant}
use Rattle.myi_data.proofs.slots.SlotScan.next_wanted.Goals as goal

pub returns-in_default : goal.returns-in_default
returns-in_default g c =
    let i = c.self.inside in
    let h = g.F.Files.holds c.args.files.now in
    let name = c.as_str.result.now in
    let v = c.next_slot.new.bytes.held in
    let to = c.next_slot.new.place in
    let size = c.slot_length-size.result in
    let found = c.in_ok-slot.ensures in
    let k = went h c.args.self.now name _ i.test i.extend i.end i.place to (option_to_list i.last) i.bytes.held v size c.as_str.ensures.value c.self.view_is c.self.invariant.0 c.self.invariant.1 c.slot_length-size.ensures found.within c.self.invariant.5 found.inside c.requires found.stands in
    let last = subst (IsPlaced c.args.wanted size i.place to i.end) c.in_default.is found.placed in (
      (refl, λ _. tt, subst (λ n. AfterTable c.args.wanted h c.args.self.now (Ok None) (slot_scan n i.test i.extend i.end to (option_to_list i.last) v)) c.as_str.ensures.value (ended h c.args.self.now name i.test i.extend i.end i.place to (option_to_list i.last) i.bytes.held v size k c.args.wanted c.self.invariant.3 last (λ m held stood. subst (IsNext c.args.wanted (packs i.test) size (take i.end (bytes_of name m)) i.place to) c.in_default.is (found.found m held stood)))),
      record {
        says = record { packs = tt; meant = tt; counted = tt; never = tt; failing = tt };
        holds = found.holds;
        cause = record { later = found.cause.later; cause = λ e. absurd (ok_not_err e) };
        after = tt;
      },
    )

pub returns-in-Row : goal.returns-in-Row
returns-in-Row g c =
    let i = c.self.inside in
    let h = g.F.Files.holds c.args.files.now in
    let name = c.as_str.result.now in
    let v = c.next_slot.new.bytes.held in
    let to = c.next_slot.new.place in
    let size = c.slot_length-size.result in
    let found = c.in_ok-slot.ensures in
    let k = went h c.args.self.now name _ i.test i.extend i.end i.place to (option_to_list i.last) i.bytes.held v size c.as_str.ensures.value c.self.view_is c.self.invariant.0 c.self.invariant.1 c.slot_length-size.ensures found.within c.self.invariant.5 found.inside c.requires found.stands in
    let at = c.in-Row.at in
    let is = c.in-Some.is ∙ ap Some c.in-Row.is in
    let placed = subst (IsPlaced c.args.wanted size i.place to i.end) is found.placed in
    let whole = subst (IsHeld (packs i.test) size v) is found.held in
    let slot = c.slot_at.ensures.shown in (
      (refl, λ _. tt, subst (λ n. AfterTable c.args.wanted h c.args.self.now (Ok (Some (item.Row at c.slot_at.result))) (slot_scan n i.test i.extend i.end to ((at, size) ∷ []) v)) c.as_str.ensures.value (row_answered h c.args.self.now name i.test i.extend i.end i.place to (option_to_list i.last) i.bytes.held v size k c.args.wanted at c.slot_at.result placed whole.0 slot c.slot_at.ensures.form (λ m held stood. subst (IsNext c.args.wanted (packs i.test) size (take i.end (bytes_of name m)) i.place to) is (found.found m held stood)))),
      record {
        says = record {
          packs = (
            row_packs h c.args.self.now name i.test i.extend i.end i.place to (option_to_list i.last) i.bytes.held v size k (piece_bytes c.slot_at.result) at slot whole.1,
            row_slot h c.args.self.now name i.test i.extend i.end i.place to (option_to_list i.last) i.bytes.held v size k at c.slot_at.result placed whole.0 slot,
          );
          meant = tt;
          counted = omega (arith, row_long h c.args.self.now name i.test i.extend i.end i.place to (option_to_list i.last) i.bytes.held v size k at c.slot_at.result whole.0 slot);
          never = tt;
          failing = tt;
        };
        holds = found.holds;
        cause = record { later = found.cause.later; cause = λ e. absurd (ok_not_err e) };
        after = tt;
      },
    )

pub returns-in-Free : goal.returns-in-Free
returns-in-Free g c =
    let i = c.self.inside in
    let h = g.F.Files.holds c.args.files.now in
    let name = c.as_str.result.now in
    let v = c.next_slot.new.bytes.held in
    let to = c.next_slot.new.place in
    let size = c.slot_length-size.result in
    let found = c.in_ok-slot.ensures in
    let k = went h c.args.self.now name _ i.test i.extend i.end i.place to (option_to_list i.last) i.bytes.held v size c.as_str.ensures.value c.self.view_is c.self.invariant.0 c.self.invariant.1 c.slot_length-size.ensures found.within c.self.invariant.5 found.inside c.requires found.stands in
    let at = c.in-Free.at in
    let is = c.in-Some.is ∙ ap Some c.in-Free.is in
    let placed = subst (IsPlaced c.args.wanted size i.place to i.end) is found.placed in (
      (refl, λ _. tt, subst (λ n. AfterTable c.args.wanted h c.args.self.now (Ok (Some (item.Free at size))) (slot_scan n i.test i.extend i.end to (option_to_list i.last) v)) c.as_str.ensures.value (free_answered h c.args.self.now name i.test i.extend i.end i.place to (option_to_list i.last) i.bytes.held v size k c.args.wanted at placed.0 (λ m held stood. subst (IsNext c.args.wanted (packs i.test) size (take i.end (bytes_of name m)) i.place to) is (found.found m held stood)))),
      record {
        says = record {
          packs = (tt, free_slot h c.args.self.now name i.test i.extend i.end i.place to (option_to_list i.last) i.bytes.held v size k at placed.0);
          meant = free_meant c.args.wanted at size placed.1;
          counted = tt;
          never = tt;
          failing = tt;
        };
        holds = found.holds;
        cause = record { later = found.cause.later; cause = λ e. absurd (ok_not_err e) };
        after = tt;
      },
    )

pub returns-in_err-slot : goal.returns-in_err-slot
returns-in_err-slot g c =
    let i = c.self.inside in
    let h = g.F.Files.holds c.args.files.now in
    let name = c.as_str.result.now in
    let v = c.next_slot.new.bytes.held in
    let to = c.next_slot.new.place in
    let size = c.slot_length-size.result in
    let found = c.in_err-slot.ensures in
    let k = went h c.args.self.now name _ i.test i.extend i.end i.place to (option_to_list i.last) i.bytes.held v size c.as_str.ensures.value c.self.view_is c.self.invariant.0 c.self.invariant.1 c.slot_length-size.ensures found.within c.self.invariant.5 found.inside c.requires found.stands in
    let e = err_from_is_err_and c.from_residual.result c.from_residual.ensures.1 in
    let handed : e.0 ≡ fault.File = elim e.2 [
      | inl is ↦ is.1
      | inr is ↦ let none : file.Memory ≡ file.Failed = sym is.0 ∙ found.failed in absurd cc
    ] in
    let same : c.from_residual.result ≡ Err fault.File = e.1 ∙ ap Err handed in
    rw same (
      (refl, λ _. tt, subst (λ n. AfterTable c.args.wanted h c.args.self.now (Err fault.File) (slot_scan n i.test i.extend i.end to (option_to_list i.last) v)) c.as_str.ensures.value (kept h c.args.self.now name i.test i.extend i.end i.place to (option_to_list i.last) i.bytes.held v size k c.args.wanted found.err)),
      record {
        says = record {
          packs = tt;
          meant = tt;
          counted = tt;
          never = λ e. absurd cc;
          failing = some_ahead h c.args.self.now name i.test i.extend i.end i.place to (option_to_list i.last) i.bytes.held v size k found.failing;
        };
        holds = found.holds;
        cause = record { later = found.cause.later; cause = λ _. found.cause.cause (ap Err found.failed) };
        after = tt;
      },
    )
