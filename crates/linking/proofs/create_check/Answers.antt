-- `linking::create_check` finds what the checks of the rule find, each refusal by the tests before it.
use Rattle.card.specs.Card.{allocated}
use Rattle.card.specs.Lent.{shared_card}
use Rattle.checks.specs.CheckedLaws.{check_refused, check_passed}
use Rattle.access.proofs.Blocks.{access_there}
use Rattle.tables.specs.InUseLaws.{sound_sorted, sound_paired}
use Rattle.linking.proofs.Creating.{create_source_missing, create_destination_missing, root_end, create_source_shut, destination_shut, cannot_point, SixPassed, six_passed, no_place, create_passes}
use Rattle.linking.proofs.create_check.Goals as goal
use Rattle.linking.proofs.create_check.Goals.{Else-o-times}

passed_from_if6 : (c : Else-o-times)
    → let a = c.args in
    SixPassed a.port (shared_card a.card) a.o c.multiplicity-times.result
passed_from_if6 c = search six_passed

pub returns-then-missing : goal.returns-then-missing
returns-then-missing c = search (check_refused, create_source_missing)

pub returns-then-missing-2 : goal.returns-then-missing-2
returns-then-missing-2 c = search (check_refused, create_destination_missing)

pub returns-then-to-card : goal.returns-then-to-card
returns-then-to-card c = search (check_refused, root_end)

pub admits-requires : goal.admits-requires
unfolding allocated
admits-requires c = let a = c.args in let k = shared_card a.card in access_there {c = k} _ c.requires c.missing.ensures c.if-missing.false

pub returns-then-not-admits : goal.returns-then-not-admits
returns-then-not-admits c = search (check_refused, create_source_shut)

pub admits-requires-2 : goal.admits-requires-2
unfolding allocated
admits-requires-2 c = let a = c.args in let k = shared_card a.card in access_there {c = k} _ c.requires c.missing-2.ensures c.if-missing-2.false

pub returns-then-not-admits-2 : goal.returns-then-not-admits-2
returns-then-not-admits-2 c = search (check_refused, destination_shut)

pub multiplicity-times-requires : goal.multiplicity-times-requires
multiplicity-times-requires c = let a = c.args in let k = shared_card a.card in record { sorted = sound_sorted {c = k} c.requires; paired = sound_paired {c = k} c.requires }

pub returns-then-o-times : goal.returns-then-o-times
returns-then-o-times c = search (check_refused, cannot_point)

pub returns-then-times-card : goal.returns-then-times-card
returns-then-times-card c = let a = c.args in let k = shared_card a.card in
    check_refused _ k _ (no_place a.port k a.o (passed_from_if6 (goal.at.returns-then-times-card c).Else-o-times) c.requires c.if-times-card.true)

pub returns : goal.returns
returns c = let a = c.args in let k = shared_card a.card in
    check_passed _ k _ (create_passes a.port k a.o (passed_from_if6 (goal.at.returns c).Else-o-times) c.requires c.if-times-card.false)
