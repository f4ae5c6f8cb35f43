-- `keys::force_sound` is FORCE on an audited card.
use mathlib.Core.Path.{refl}
use Rattle.card.specs.Plan.{here, out_after, places_after}
use Rattle.card.specs.Calls.{force_plan}
use Rattle.card.specs.Session.{plan, perform_sound}
use Rattle.laws.specs.PromisesLaws.{is_refused, is_done}
use Rattle.keys.proofs.Changed.{closes_windows}
use Rattle.access.proofs.Blocks.{missing_shown, missing_told, windows_there}
use Rattle.keys.proofs.force_sound.Goals as goal

pub returns-then-missing-clause-performs : goal.returns-then-missing-clause-performs
unfolding perform_sound plan force_plan
returns-then-missing-clause-performs c = λ port. search (is_refused, here, missing_told, missing_shown)

pub close_windows-requires : goal.close_windows-requires
close_windows-requires c = windows_there _ c.requires (missing_shown c.shared-view.ensures _ c.missing.ensures) c.if-missing.false

pub returns-clause-performs : goal.returns-clause-performs
unfolding perform_sound plan force_plan out_after places_after
returns-clause-performs c = λ port. is_done _ _ _ (search (missing_told, missing_shown), tt) (closes_windows _ _ c.close_windows.ensures) refl refl
