use Rattle.std.proofs.Common.{rules}
use Rattle.trees.proofs.Starting.{copied_front}
use Rattle.trees.proofs.copy.Goals as goal

pub returns : goal.returns
returns c = copied_front c.requires.counts_len_bound c.requires.left_value (search rules)
