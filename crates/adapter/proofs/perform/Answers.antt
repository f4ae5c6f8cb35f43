-- `adapter::perform` meets its contract.
use Rattle.adapter.specs.EffectsLaws.{effect_bad, effect_record, effect_called}
use mathlib.Core.Path.{◌≡◌, sym}
use Rattle.adapter.proofs.perform.Goals as goal

pub returns-in_default : goal.returns-in_default
returns-in_default c = search effect_bad

pub returns-then-info-ne-RECORD_LENGTH : goal.returns-then-info-ne-RECORD_LENGTH
returns-then-info-ne-RECORD_LENGTH c = search effect_record

pub settle-requires : goal.settle-requires
settle-requires c = c.if-info-ne-RECORD_LENGTH.false

-- What the card holds at the end its lenders find.
pub returns : goal.returns
returns c =
    let k = c.perform-answer.new.card in
    let same = c.perform-answer.ensures.same in
    let flags : _ ≡ k.flags.now = c.flags-1.given.1.1 (sym same.0) in
    let keys : _ ≡ k.keys.now = c.keys-1.given.1.1 (sym same.1) in
    let counts : _ ≡ k.counts.now = c.counts-1.given.1.1 (sym same.2) in
    let pointers : _ ≡ k.pointers.now = c.pointers-1.given.1.1 (sym same.3) in
    let multiplicities : _ ≡ k.multiplicities.now = c.multiplicities-1.given.1.1 (sym same.4) in
    let windows : _ ≡ k.windows.now = c.windows-1.given.1.1 (sym same.5) in
    let contents : _ ≡ k.contents.now = c.contents-1.given.1.1 (sym same.6) in
    rw (flags, keys, counts, pointers, multiplicities, windows, contents)
    (effect_called c.args.input.now c.args.out.now c.args.places.now c.args.value.now c.args.info.now _ _ _ _ _ _ _ _ _ _ _ _ _ _ _ c.in-Ok.is c.if-info-ne-RECORD_LENGTH.false c.load.ensures c.perform-answer.ensures.performs c.settle.ensures.stored c.settle.ensures.number c.settle.ensures.result)
