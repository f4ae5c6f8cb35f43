-- `removal::tree_check` finds what the checks of the rule find: those in common with DELETE, and then 15, of the blocks that are freed.
use native.Mathlib.Omega.{arith}
use Rattle.card.specs.Lent.{shared_card}
use Rattle.std.proofs.lemmas.Result.{err_from_is_err_and}
use Rattle.checks.specs.CheckedLaws.{refused_checks, passed_checks}
use Rattle.linking.proofs.Deleting.{removal_there}
use Rattle.removal.specs.TreeChecked.{refuses, frees}
use Rattle.removal.proofs.Deleting.{refused_before, has_write_key, tree_passes}
use Rattle.removal.proofs.tree_check.Goals as goal

pub freed_with-requires : goal.freed_with-requires
freed_with-requires c = let a = c.args in let k = shared_card a.card in record { sound_card = c.requires.sound_card; destination_value = removal_there a.port k a.o (passed_checks _ c.removal_check.ensures c.in_ok-removal_check.was); none_reached = c.requires.none_reached }

pub some_write_key-requires : goal.some_write_key-requires
some_write_key-requires c = record { blocks_in_bounds = omega (arith, c.requires.sound_card.shaped.has_lengths.flags); blocks_bound = c.requires.sound_card.shaped.in_ranges.blocks_high }

pub returns-then-some_write_key : goal.returns-then-some_write_key
returns-then-some_write_key c = let a = c.args in let k = shared_card a.card in refuses (has_write_key a.port k a.o (passed_checks _ c.removal_check.ensures c.in_ok-removal_check.was) c.freed_with.ensures c.some_write_key.ensures c.if-some_write_key.true)

pub returns-in_err-removal_check : goal.returns-in_err-removal_check
returns-in_err-removal_check c =
    let a = c.args in
    let k = shared_card a.card in
    let p = err_from_is_err_and c.from_residual.result c.from_residual.ensures.1 in
    rw (p.1, p.2) (refuses (refused_before a.port k a.o (refused_checks _ c.removal_check.ensures c.in_err-removal_check.was)))

pub returns : goal.returns
returns c = let a = c.args in let k = shared_card a.card in frees (tree_passes a.port k a.o (passed_checks _ c.removal_check.ensures c.in_ok-removal_check.was) c.freed_with.ensures c.some_write_key.ensures c.if-some_write_key.false) c.freed_with.ensures
