use Rattle.std.proofs.Common.{arith, subst}
use Rattle.std.proofs.lemmas.Map.Text.{text_keys}
use Rattle.myi_base.specs.Numbers.{AreBytes}
use Rattle.myi_memfiles.specs.Stored.{held, given}
use Rattle.myi_memfiles.proofs.StoredLaws.{given_push}
use Rattle.myi_memfiles.proofs.BytesLaws.{given_bytes, alike}
use Rattle.myi_memfiles.proofs.memory.stored.Goals as goal

pub loop-name-preserved-in_ok-insert : goal.loop-name-preserved-in_ok-insert
loop-name-preserved-in_ok-insert c = record {
  same = λ q. grind (arith, text_keys, given_push, c.loop-name.invariant.same q);
  bytes = given_bytes c.loop-name.yielded (c.in-Some.name, c.in-Some.bytes) (subst AreBytes c.deref.ensures.value c.slices_are_bytes.ensures) c.loop-name.invariant.bytes;
}

pub loop-name-preserved : goal.loop-name-preserved
loop-name-preserved c = record {
  same = λ q. grind (arith, text_keys, given_push, c.loop-name.invariant.same q);
  bytes = given_bytes c.loop-name.yielded (c.in-Some.name, c.in-Some.bytes) (subst AreBytes c.deref.ensures.value c.slices_are_bytes.ensures) c.loop-name.invariant.bytes;
}

pub returns-clause-bytes : goal.returns-clause-bytes
returns-clause-bytes c = alike (held c.loop-name.stored) (given c.loop-name.yielded) c.loop-name.invariant.same c.loop-name.invariant.bytes
