use Rattle.myi_frames.proofs.CallerLemmas.{length-block, length-block-naming, block-joined}
use Rattle.myi_frames.proofs.WriteLemmas.{bytes-block, bytes-deleted_head, block-seen, block-overwritten, deleted-overwritten, length-deleted_head}
use Rattle.myi_frames.proofs.laws.written_blocks_read_back.Goals as goal

pub returns : goal.returns
returns c = record {
  length = length-block;
  naming = length-block-naming;
  bytes = bytes-block;
  joined = block-joined;
  seen = block-seen;
  overwritten = block-overwritten;
  deleted = deleted-overwritten;
  deleted_length = length-deleted_head;
  deleted_bytes = bytes-deleted_head;
}
