-- `keys::renew_sound` is RENEW on an audited card.
use mathlib.Core.Path.{refl}
use Rattle.card.specs.Plan.{here, later, out_after, places_after}
use Rattle.card.specs.Calls.{renew_plan}
use Rattle.card.specs.Session.{plan, perform_sound}
use Rattle.laws.specs.LentLaws.{shown_card}
use Rattle.laws.specs.PromisesLaws.{is_refused, is_done}
use Rattle.access.proofs.Blocks.{missing_shown, missing_told, access_there, windows_low}
use Rattle.keys.proofs.RenewAccess.{unopened_holds, unopened_fails}
use Rattle.keys.proofs.Changed.{renewed}
use Rattle.std.proofs.Common.{ap}
use mathlib.Core.Bool.{not}
use Rattle.keys.proofs.renew_sound.Goals as goal

pub returns-then-o-clause-performs : goal.returns-then-o-clause-performs
unfolding perform_sound plan renew_plan
returns-then-o-clause-performs c = λ port. is_refused _ _ _ (here c.if-o.true)

pub returns-then-missing-clause-performs : goal.returns-then-missing-clause-performs
unfolding perform_sound plan renew_plan
returns-then-missing-clause-performs c = λ port. search (is_refused, later, here, missing_told, missing_shown)

pub opens-requires : goal.opens-requires
opens-requires c = rw (shown_card c.shared-view.ensures) (access_there _ c.requires (missing_shown c.shared-view.ensures _ c.missing.ensures) c.if-missing.false)

pub returns-then-not-opens-clause-performs : goal.returns-then-not-opens-clause-performs
unfolding perform_sound plan renew_plan
returns-then-not-opens-clause-performs c = λ port. is_refused _ _ _ (later c.if-o.false (later (search (missing_told, missing_shown)) (here (unopened_holds _ _ _ _ _ c.mode_of-mode.ensures (rw (shown_card c.shared-view.ensures) at c.opens.ensures) (ap not c.if-not-opens.true)))))

pub set_window-requires : goal.set_window-requires
set_window-requires c = windows_low _ c.requires (missing_shown c.shared-view.ensures _ c.missing.ensures) c.if-missing.false

pub returns-clause-performs : goal.returns-clause-performs
unfolding perform_sound plan renew_plan out_after places_after
returns-clause-performs c = λ port. is_done _ _ _ (c.if-o.false, (missing_told _ _ (missing_shown c.shared-view.ensures _ c.missing.ensures) c.if-missing.false, (unopened_fails _ _ _ _ _ c.mode_of-mode.ensures (rw (shown_card c.shared-view.ensures) at c.opens.ensures) (ap not c.if-not-opens.false), tt))) (renewed _ _ _ _ c.mode_of-mode.ensures c.set_window.ensures) refl refl
