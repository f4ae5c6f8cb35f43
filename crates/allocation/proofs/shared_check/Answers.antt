-- `allocation::shared_check` finds what the shared checks of the rule find, each refusal by the tests before it.
use Rattle.card.specs.Card.{allocated}
use Rattle.card.specs.Lent.{shared_card}
use Rattle.checks.specs.CheckedLaws.{checks_refused, checks_passed}
use Rattle.access.proofs.Blocks.{access_there}
use Rattle.allocation.proofs.Shared.{bad_operand, reference_missing, root_reference, reference_shut, too_few_blocks, shared_passes}
use Rattle.allocation.proofs.shared_check.Goals as goal

pub returns-then-bad_operands : goal.returns-then-bad_operands
returns-then-bad_operands c = search (checks_refused, bad_operand)

pub returns-then-missing : goal.returns-then-missing
returns-then-missing c = search (checks_refused, reference_missing)

pub returns-then-root_at_host : goal.returns-then-root_at_host
returns-then-root_at_host c = search (checks_refused, root_reference)

pub admits-requires : goal.admits-requires
unfolding allocated
admits-requires c = let a = c.args in let k = shared_card a.card in search (access_there {c = k})

pub returns-then-not-admits : goal.returns-then-not-admits
returns-then-not-admits c = search (checks_refused, reference_shut)

pub returns-then-count_free-count : goal.returns-then-count_free-count
returns-then-count_free-count c = search (checks_refused, too_few_blocks)

pub returns : goal.returns
returns c = search (checks_passed, shared_passes)
