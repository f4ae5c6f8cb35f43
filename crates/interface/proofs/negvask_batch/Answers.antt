-- `interface::negvask_batch` meets its contract.
use mathlib.Core.Path.{◌≡◌, sym}
use Rattle.interface.specs.Batch.{batch_state}
use Rattle.interface.specs.BatchLaws.{batch_nowhere, batch_refused, batch_served}
use Rattle.interface.proofs.negvask_batch.Goals as goal

pub returns-in_default : goal.returns-in_default
returns-in_default c = batch_nowhere c.args.port (batch_state c.args.info.now c.args.flags.now c.args.keys.now c.args.counts.now c.args.pointers.now c.args.multiplicities.now c.args.windows.now c.args.contents.now c.args.answers.now c.args.records.now c.args.read.now c.args.written.now) c.args.input.now c.wire_of.ensures c.in_default.is

pub returns-then-info-ne-RECORD_LENGTH : goal.returns-then-info-ne-RECORD_LENGTH
returns-then-info-ne-RECORD_LENGTH c = batch_refused c.args.port (batch_state c.args.info.now c.args.flags.now c.args.keys.now c.args.counts.now c.args.pointers.now c.args.multiplicities.now c.args.windows.now c.args.contents.now c.args.answers.now c.args.records.now c.args.read.now c.args.written.now) c.args.input.now c.wire_of.ensures c.in-Some.is c.if-info-ne-RECORD_LENGTH.true

pub store-requires : goal.store-requires
store-requires c = c.if-info-ne-RECORD_LENGTH.false

-- What the card holds at the end its lenders find.
pub returns : goal.returns
returns c =
    let k = c.serve-part.new.card in
    let same = c.serve-part.ensures.same in
    let flags : _ ≡ k.flags.now = c.flags-1.given.1.1 (sym same.0) in
    let keys : _ ≡ k.keys.now = c.keys-1.given.1.1 (sym same.1) in
    let counts : _ ≡ k.counts.now = c.counts-1.given.1.1 (sym same.2) in
    let pointers : _ ≡ k.pointers.now = c.pointers-1.given.1.1 (sym same.3) in
    let multiplicities : _ ≡ k.multiplicities.now = c.multiplicities-1.given.1.1 (sym same.4) in
    let windows : _ ≡ k.windows.now = c.windows-1.given.1.1 (sym same.5) in
    let contents : _ ≡ k.contents.now = c.contents-1.given.1.1 (sym same.6) in
    rw (flags, keys, counts, pointers, multiplicities, windows, contents)
    (batch_served c.args.port c.args.info.now _ _ _ _ _ _ _ c.args.answers.now c.args.records.now c.args.read.now c.args.written.now c.args.input.now _ _ _ _ _ _ _ _ c.wire_of.ensures c.in-Some.is c.if-info-ne-RECORD_LENGTH.false c.load.ensures c.serve-part.ensures.plays c.store.ensures c.stop_number.ensures)
