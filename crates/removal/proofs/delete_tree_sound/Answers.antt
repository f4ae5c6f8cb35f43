-- `removal::delete_tree_sound` is the rule on an audited card, by what its checks find.
use Rattle.card.specs.Lent.{lent_card}
use Rattle.card.specs.Session.{perform_sound}
use Rattle.laws.specs.LentLaws.{shown_card}
use Rattle.laws.specs.PromisesLaws.{is_refused}
use Rattle.std.proofs.lemmas.Result.{err_from_is_err_and}
use Rattle.removal.proofs.Deleting.{found_refused, found_passes, found_freed, droppable, freeable, tree_deleted}
use Rattle.removal.proofs.delete_tree_sound.Goals as goal

pub tree_check-requires-clause-sound_card : goal.tree_check-requires-clause-sound_card
tree_check-requires-clause-sound_card c = rw (shown_card c.shared.ensures) c.requires

pub drop_pointers-requires : goal.drop_pointers-requires
drop_pointers-requires c = let a = c.args in let k = lent_card a.card.now in droppable a.port k a.o c.requires (found_passes a.port k a.o (rw (shown_card c.shared.ensures) at c.tree_check.ensures) c.in_ok-count.was)

pub free_marked-requires : goal.free_marked-requires
free_marked-requires c = let a = c.args in let k = lent_card a.card.now in let all = freeable a.port k a.o c.requires _ c.drop_pointers.ensures.drops in record { blocks_bound = c.requires.shaped.in_ranges.blocks_high; blocks_in_bounds = all.0; blocks_in_bounds_2 = all.1.0; blocks_in_bounds_3 = all.1.1 }

pub returns-in_err-count-clause-performs : goal.returns-in_err-count-clause-performs
unfolding perform_sound
returns-in_err-count-clause-performs c =
    let a = c.args in
    let k = lent_card a.card.now in
    let p = err_from_is_err_and c.from_residual.result c.from_residual.ensures.1 in
    rw (p.1, p.2) (is_refused k _ _ (found_refused a.port k a.o (rw (shown_card c.shared.ensures) at c.tree_check.ensures) c.in_err-count.was))

pub returns-clause-performs : goal.returns-clause-performs
returns-clause-performs c = let a = c.args in let k = lent_card a.card.now in tree_deleted a.port k a.o (found_passes a.port k a.o (rw (shown_card c.shared.ensures) at c.tree_check.ensures) c.in_ok-count.was) (found_freed a.port k a.o (rw (shown_card c.shared.ensures) at c.tree_check.ensures) c.in_ok-count.was) c.drop_pointers.ensures.drops (c.free_marked.ensures _ _ _ _ _)
