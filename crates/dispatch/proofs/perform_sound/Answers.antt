-- `dispatch::perform_sound` meets its contract: each arm by one law.
use Rattle.laws.specs.BuffersLaws.{with_read, with_write, with_alloc, with_alloc_contig, with_create, with_delete, with_delete_tree, with_key, with_renew, with_force, with_free, with_tick, with_audit, with_rent, with_sweep}
use Rattle.laws.specs.LentLaws.{shown_card}
use Rattle.card.specs.declared.Mode.TheVariants.{Reading, Writing}
use Rattle.dispatch.proofs.perform_sound.Goals as goal

pub returns-in-Read-clause-performs : goal.returns-in-Read-clause-performs
returns-in-Read-clause-performs c = search with_read

pub returns-in-Write-clause-performs : goal.returns-in-Write-clause-performs
returns-in-Write-clause-performs c = search with_write

pub returns-in-Alloc-clause-performs : goal.returns-in-Alloc-clause-performs
returns-in-Alloc-clause-performs c = search with_alloc

pub returns-in-AllocContig-clause-performs : goal.returns-in-AllocContig-clause-performs
returns-in-AllocContig-clause-performs c = search with_alloc_contig

pub returns-in-Create-clause-performs : goal.returns-in-Create-clause-performs
returns-in-Create-clause-performs c = search with_create

pub returns-in-Delete-clause-performs : goal.returns-in-Delete-clause-performs
returns-in-Delete-clause-performs c = search with_delete

pub returns-in-DeleteTree-clause-performs : goal.returns-in-DeleteTree-clause-performs
returns-in-DeleteTree-clause-performs c = search with_delete_tree

pub returns-in-KeyRead-clause-performs : goal.returns-in-KeyRead-clause-performs
returns-in-KeyRead-clause-performs c = with_key c.args.port _ c.args.input.now c.args.out.now c.args.places.now c.args.call Reading _ c.in-KeyRead.is
    c.key_sound.ensures.performs

pub returns-in-KeyWrite-clause-performs : goal.returns-in-KeyWrite-clause-performs
returns-in-KeyWrite-clause-performs c = with_key c.args.port _ c.args.input.now c.args.out.now c.args.places.now c.args.call Writing _ c.in-KeyWrite.is
    c.key_sound-in-KeyWrite.ensures.performs

pub returns-in-Renew-clause-performs : goal.returns-in-Renew-clause-performs
returns-in-Renew-clause-performs c = with_renew c.args.port _ c.args.input.now c.args.out.now c.args.places.now c.args.call c.in-Renew.is
    (c.renew_sound.ensures.performs c.args.port)

pub returns-in-Force-clause-performs : goal.returns-in-Force-clause-performs
returns-in-Force-clause-performs c = with_force c.args.port _ c.args.input.now c.args.out.now c.args.places.now c.args.call c.in-Force.is
    (c.force_sound.ensures.performs c.args.port)

pub returns-in-Free-clause-performs : goal.returns-in-Free-clause-performs
returns-in-Free-clause-performs c = with_free c.args.port _ c.args.input.now c.args.out.now c.args.places.now c.args.call c.in-Free.is
    (rw (shown_card c.shared.ensures) at c.free_sound.ensures c.args.port)

pub returns-in-Tick-clause-performs : goal.returns-in-Tick-clause-performs
returns-in-Tick-clause-performs c = with_tick c.args.port _ c.args.input.now c.args.out.now c.args.places.now c.args.call c.in-Tick.is
    (c.tick_sound.ensures.performs c.args.port)

pub returns-in-Rent-clause-performs : goal.returns-in-Rent-clause-performs
returns-in-Rent-clause-performs c = with_rent c.args.port _ c.args.input.now c.args.out.now c.args.places.now c.args.call c.in-Rent.is
    (rw (shown_card c.shared-in-Rent.ensures) at c.rent_sound.ensures c.args.port)

pub returns-in-Sweep-clause-performs : goal.returns-in-Sweep-clause-performs
returns-in-Sweep-clause-performs c = with_sweep c.args.port _ c.args.input.now c.args.out.now c.args.places.now c.args.call c.in-Sweep.is
    (c.sweep_sound.ensures.performs c.args.port)

pub returns-in-Audit-clause-performs : goal.returns-in-Audit-clause-performs
returns-in-Audit-clause-performs c = search with_audit
