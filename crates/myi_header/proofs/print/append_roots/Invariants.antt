use Rattle.std.proofs.Common.{◌≡◌, ◌++◌, drop}
use Rattle.myi_header.specs.HeaderOf.{root_bytes}
use Rattle.myi_header.proofs.PrintLaws.{FitRoots}
use Rattle.myi_header.proofs.print.append_roots.Given as goal

abbrev pub invariant-loop-root : goal.invariant-loop-root
invariant-loop-root l = record {
  bytes : l.out.items ++ root_bytes (drop l.root-index l.roots) ≡ l.initial.out.items ++ root_bytes l.roots;
  fits : FitRoots (drop l.root-index l.roots) → FitRoots l.roots;
}
