-- `access::opens` meets its contract, one way out for each credential and paragraph.
use mathlib.Core.Path.{refl}
use Rattle.access.proofs.Answers.{nothing_opens, reference_refused, reference_opens, key_opens_law, keyless_refused}
use Rattle.access.proofs.opens.Goals as goal

pub returns-then-keyed-root : goal.returns-then-keyed-root
returns-then-keyed-root c = search reference_refused

pub returns-then-keyed : goal.returns-then-keyed
returns-then-keyed c = key_opens_law _ _ _ c.has_key-keyed.ensures c.in-Key.is c.if-keyed.true (c.key_opens.ensures _ refl refl)

pub returns-in-Nothing : goal.returns-in-Nothing
returns-in-Nothing c = nothing_opens _ _ _ c.has_key-keyed.ensures c.in-Nothing.is

pub returns-else-keyed-root : goal.returns-else-keyed-root
returns-else-keyed-root c = search reference_opens

pub returns-else-keyed : goal.returns-else-keyed
returns-else-keyed c = search keyless_refused
