-- `keys::key_sound` is KEY_READ or KEY_WRITE on an audited card, by the mode.
use mathlib.Core.Path.{refl}
use Rattle.card.specs.Plan.{here, later, out_after, places_after}
use Rattle.card.specs.Calls.{key_plan}
use Rattle.laws.specs.LentLaws.{shown_card}
use Rattle.laws.specs.PromisesLaws.{is_refused, is_done}
use Rattle.access.proofs.Blocks.{missing_shown, missing_told, root_told, access_there, closed_told, flag_there, keys_there, windows_there}
use Rattle.keys.proofs.Keys.{key_judged}
use Rattle.keys.proofs.Changed.{replaces_key}
use Rattle.std.proofs.Common.{ap}
use mathlib.Core.Bool.{not}
use Rattle.keys.proofs.key_sound.Goals as goal

pub returns-then-missing-clause-performs : goal.returns-then-missing-clause-performs
unfolding key_plan
returns-then-missing-clause-performs c = search (key_judged, is_refused, here, missing_told, missing_shown)

pub returns-then-root_at_host-clause-performs : goal.returns-then-root_at_host-clause-performs
unfolding key_plan
returns-then-root_at_host-clause-performs c = search (key_judged, is_refused, later, missing_told, here, root_told, missing_shown)

pub admits-requires : goal.admits-requires
admits-requires c = rw (shown_card c.shared-view.ensures) (access_there _ c.requires (missing_shown c.shared-view.ensures _ c.missing.ensures) c.if-missing.false)

pub returns-then-not-admits-clause-performs : goal.returns-then-not-admits-clause-performs
unfolding key_plan
returns-then-not-admits-clause-performs c =
    key_judged _ _ c.args.mode c.args.o
    (is_refused _ _ _
    (later (missing_told _ _ (missing_shown c.shared-view.ensures _ c.missing.ensures) c.if-missing.false)
    (later (root_told _ _ _ c.root_at_host.ensures c.if-root_at_host.false)
    (here (closed_told _ _ _ _ _ (rw (shown_card c.shared-view.ensures) at c.admits.ensures) (ap not c.if-not-admits.true))))))

pub bounds-card-block : goal.bounds-card-block
bounds-card-block c = flag_there _ c.requires (missing_shown c.shared-view.ensures _ c.missing.ensures) c.if-missing.false

pub bounds-card-block-2 : goal.bounds-card-block-2
bounds-card-block-2 c = flag_there _ c.requires (missing_shown c.shared-view.ensures _ c.missing.ensures) c.if-missing.false

pub replace_key-requires : goal.replace_key-requires
replace_key-requires c = keys_there _ c.requires (missing_shown c.shared-view.ensures _ c.missing.ensures) c.if-missing.false

pub close_windows-requires : goal.close_windows-requires
close_windows-requires c = windows_there _ c.requires (missing_shown c.shared-view.ensures _ c.missing.ensures) c.if-missing.false

pub returns-clause-performs : goal.returns-clause-performs
unfolding key_plan out_after places_after
returns-clause-performs c = key_judged _ _ c.args.mode c.args.o (is_done _ _ _ (missing_told _ _ (missing_shown c.shared-view.ensures _ c.missing.ensures) c.if-missing.false, (root_told _ _ _ c.root_at_host.ensures c.if-root_at_host.false, (closed_told _ _ _ _ _ (rw (shown_card c.shared-view.ensures) at c.admits.ensures) (ap not c.if-not-admits.false), tt))) (replaces_key _ _ _ _ c.keyed_flags.ensures c.replace_key.ensures c.close_windows.ensures) refl refl)
