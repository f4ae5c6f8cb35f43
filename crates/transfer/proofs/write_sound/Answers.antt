-- `transfer::write_sound` is WRITE on an audited card.
use native.Mathlib.Omega.{arith}
use mathlib.Core.Path.{ap, refl, sym}
use mathlib.Core.Bool.{not}
use Rattle.card.specs.Plan.{here, later, out_after, places_after}
use Rattle.card.specs.Calls.{write_plan}
use Rattle.card.specs.Session.{plan, perform_sound}
use Rattle.laws.specs.LentLaws.{shown_card}
use Rattle.laws.specs.PromisesLaws.{is_refused, is_done}
use Rattle.access.proofs.Blocks.{missing_shown, missing_told, access_there, closed_told, windows_low}
use Rattle.transfer.proofs.Parts.{right_size, lies, lent_size, put_block}
use Rattle.transfer.proofs.Stored.{block_stored}
use Rattle.transfer.proofs.write_sound.Goals as goal

pub returns-then-input-bytes-clause-performs : goal.returns-then-input-bytes-clause-performs
unfolding perform_sound plan write_plan
returns-then-input-bytes-clause-performs c = is_refused _ _ _ (here c.if-input-bytes.true)

pub returns-then-missing-clause-performs : goal.returns-then-missing-clause-performs
unfolding perform_sound plan write_plan
returns-then-missing-clause-performs c =
    is_refused _ _ _ (later c.if-input-bytes.false (here (missing_told _ _ (missing_shown c.shared-view.ensures _ c.missing.ensures) c.if-missing.true)))

pub admits-requires : goal.admits-requires
admits-requires c = rw (shown_card c.shared-view.ensures) (access_there _ c.requires (missing_shown c.shared-view.ensures _ c.missing.ensures) c.if-missing.false)

pub returns-then-not-admits-clause-performs : goal.returns-then-not-admits-clause-performs
unfolding perform_sound plan write_plan
returns-then-not-admits-clause-performs c =
    is_refused _ _ _
    (later c.if-input-bytes.false
    (later (missing_told _ _ (missing_shown c.shared-view.ensures _ c.missing.ensures) c.if-missing.false)
    (here (closed_told _ _ _ _ _ (rw (shown_card c.shared-view.ensures) at c.admits.ensures) (ap not c.if-not-admits.true)))))

pub overflow_mul-at : goal.overflow_mul-at
overflow_mul-at c = omega (arith, lies _ c.requires (missing_shown c.shared-view.ensures _ c.missing.ensures) c.if-missing.false)

pub overflow_add-end : goal.overflow_add-end
overflow_add-end c = omega (arith, lies _ c.requires (missing_shown c.shared-view.ensures _ c.missing.ensures) c.if-missing.false)

pub slice_bounds-copy-end : goal.slice_bounds-copy-end
slice_bounds-copy-end c = omega (arith, lies _ c.requires (missing_shown c.shared-view.ensures _ c.missing.ensures) c.if-missing.false)

pub copy-requires : goal.copy-requires
copy-requires c = sym (lent_size _ (lies _ c.requires (missing_shown c.shared-view.ensures _ c.missing.ensures) c.if-missing.false) (right_size _ c.if-input-bytes.false))

pub open_window-requires : goal.open_window-requires
open_window-requires c = windows_low _ c.requires (missing_shown c.shared-view.ensures _ c.missing.ensures) c.if-missing.false

pub returns-clause-performs : goal.returns-clause-performs
unfolding perform_sound plan write_plan out_after places_after
returns-clause-performs c = let a = c.args in
    is_done _ _ _ (
      c.if-input-bytes.false,
      (missing_told _ _ (missing_shown c.shared-view.ensures _ c.missing.ensures) c.if-missing.false, (closed_told _ _ _ _ _ (rw (shown_card c.shared-view.ensures) at c.admits.ensures) (ap not c.if-not-admits.false), tt)),
    )
    (block_stored _ _ _ _ a.input.now c.open_window.ensures (put_block a.card.now.info.bytes a.card.now.contents.now a.o.block a.input.now c.copy.ensures (right_size _ c.if-input-bytes.false)))
    refl
    refl
