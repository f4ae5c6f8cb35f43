-- `linking::removal_check` finds what the checks find that DELETE and DELETE_TREE have in common, each refusal by the tests before it.
use Rattle.card.specs.Card.{allocated}
use Rattle.card.specs.Lent.{shared_card}
use Rattle.checks.specs.CheckedLaws.{checks_refused, checks_passed}
use Rattle.access.proofs.Blocks.{access_there}
use Rattle.linking.proofs.Deleting.{source_missing, destination_missing, root_source, source_shut, no_pointer, removal_passes}
use Rattle.linking.proofs.removal_check.Goals as goal

pub returns-then-missing : goal.returns-then-missing
returns-then-missing c = search (checks_refused, source_missing)

pub returns-then-missing-2 : goal.returns-then-missing-2
returns-then-missing-2 c = search (checks_refused, destination_missing)

pub returns-then-root_at_host : goal.returns-then-root_at_host
returns-then-root_at_host c = search (checks_refused, root_source)

pub admits-requires : goal.admits-requires
unfolding allocated
admits-requires c = let a = c.args in let k = shared_card a.card in access_there {c = k} _ c.requires c.missing.ensures c.if-missing.false

pub returns-then-not-admits : goal.returns-then-not-admits
returns-then-not-admits c = search (checks_refused, source_shut)

pub returns-then-multiplicity-eq0 : goal.returns-then-multiplicity-eq0
returns-then-multiplicity-eq0 c = search (checks_refused, no_pointer)

pub returns : goal.returns
returns c = checks_passed _ (search removal_passes)
