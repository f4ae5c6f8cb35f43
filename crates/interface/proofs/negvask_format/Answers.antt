-- `interface::negvask_format` meets its contract.
use mathlib.Core.Path.{◌≡◌, refl, sym}
use mathlib.Core.List.{[]}
use Rattle.card.specs.Calls.{format}
use Rattle.adapter.specs.EffectsLaws.{rule_record, rule_done}
use Rattle.interface.proofs.negvask_format.Goals as goal

pub returns-then-info-ne-RECORD_LENGTH : goal.returns-then-info-ne-RECORD_LENGTH
returns-then-info-ne-RECORD_LENGTH c = (rule_record (format c.args.blocks c.args.roots c.args.bytes) [] 0 c.args.info.now _ c.if-info-ne-RECORD_LENGTH.true).does

-- What the card holds at the end its lenders find.
pub returns : goal.returns
returns c =
    let k = c.format-answer.new.card in
    let same = c.format-answer.ensures.same in
    let flags : _ ≡ k.flags.now = c.flags-1.given.1.1 (sym same.0) in
    let keys : _ ≡ k.keys.now = c.keys-1.given.1.1 (sym same.1) in
    let counts : _ ≡ k.counts.now = c.counts-1.given.1.1 (sym same.2) in
    let pointers : _ ≡ k.pointers.now = c.pointers-1.given.1.1 (sym same.3) in
    let multiplicities : _ ≡ k.multiplicities.now = c.multiplicities-1.given.1.1 (sym same.4) in
    let windows : _ ≡ k.windows.now = c.windows-1.given.1.1 (sym same.5) in
    let contents : _ ≡ k.contents.now = c.contents-1.given.1.1 (sym same.6) in
    rw (flags, keys, counts, pointers, multiplicities, windows, contents)
    (rule_done (format c.args.blocks c.args.roots c.args.bytes) [] 0 c.args.info.now _ _ _ _ _ _ _ _ _ _ _ _ _ _ _
    c.if-info-ne-RECORD_LENGTH.false c.load.ensures c.format-answer.ensures.performs c.settle.ensures.stored c.settle.ensures.number refl
    ).does
