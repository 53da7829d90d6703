use Rattle.myi_insertion.proofs.CachedLaws.{exchange_then, exchange_part, exchange_can, can_put, exchange_trades}
use Rattle.myi_insertion.proofs.laws.cached_changes_follow.Goals as goal

pub returns-clause-follow : goal.returns-clause-follow
returns-clause-follow c = λ place a b d m n k olds mids news before between after some others f g. exchange_then place a m olds before b n mids between d k news after some others f g

pub returns-clause-part : goal.returns-clause-part
returns-clause-part c = λ place old new m n front olds news back before after given f. exchange_part place old m front olds back before new n news after given f

pub returns-clause-still : goal.returns-clause-still
returns-clause-still c = λ place old new m n olds news before after given pos can f. exchange_can place old m olds before new n news after given pos can f

pub returns-clause-put : goal.returns-clause-put
returns-clause-put c = can_put

pub returns-clause-trades : goal.returns-clause-trades
returns-clause-trades c = λ place old new m n olds news before after given pos f. exchange_trades place old m olds before new n news after given pos f
