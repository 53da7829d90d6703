use Rattle.myi_keys.proofs.CallerLemmas.{one_key, key_read}
use Rattle.myi_keys.proofs.Decoded.{key_taken}
use Rattle.myi_keys.proofs.laws.codes_read_back.Goals as goal

pub returns : goal.returns
returns c = record {
  once = one_key;
  read = key_read;
  written = λ bytes key fits e. (key_taken bytes key fits e).0;
  limits = λ bytes key fits e. (key_taken bytes key fits e).1;
}
