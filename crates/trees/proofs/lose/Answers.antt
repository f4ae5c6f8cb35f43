-- `trees::lose` takes pointers off what is left of a block.
use Rattle.trees.specs.Release.{none, fewer, last}
use Rattle.trees.proofs.lose.Goals as goal

pub returns-then-count-eq0 : goal.returns-then-count-eq0
returns-then-count-eq0 c = none c.if-count-eq0.true

pub returns-then-rest-ne0 : goal.returns-then-rest-ne0
returns-then-rest-ne0 c = fewer c.if-count-eq0.false c.if-rest-ne0.true

pub returns : goal.returns
returns c = search last
