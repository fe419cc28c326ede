-- What `search` is handed at the needs of the code. Assumes nothing.
use borrow.Author.Rules.{rules}
use Rattle.heads.proofs.Loops.{without_is, part_within, literal_tested, literal-lowest}
use Rattle.heads.proofs.Reaching.{try_end, try_start, try_none, try_hit, try_miss, try_less, try_within}

pub ruleset words = (without_is, part_within, literal_tested, literal-lowest, rules)

pub ruleset tries = (try_end, try_start, try_none, try_hit, try_miss, try_less, try_within, rules)
