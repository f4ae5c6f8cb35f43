-- `lines::filled_by` meets its contract.
use mathlib.Core.Path.{◌≡◌, refl}
use Rattle.card.specs.declared.Call.{Call}
use Rattle.card.specs.declared.Call.TheVariants.{Read, Write, Alloc, AllocContig, Create, Delete, DeleteTree, KeyRead, KeyWrite, Renew, Force, Free, Tick, Audit, Rent, Sweep}
use Rattle.lines.specs.Replied.{filled_by}
use Rattle.lines.specs.declared.Filled.TheVariants.{Neither}
use Rattle.card.specs.declared.TransferOperands.{TransferOperands}
use Rattle.card.specs.declared.AllocOperands.{AllocOperands}
use Rattle.lines.proofs.filled_by.Goals as goal

-- A call but READ, ALLOC and ALLOC_CONTIG fills neither buffer.
fills_neither : (call : Call)
    → ((o : TransferOperands) → call ≡ Read o → ⊥) → ((o : AllocOperands) → call ≡ Alloc o → ⊥) → ((o : AllocOperands) → call ≡ AllocContig o → ⊥)
    → Neither ≡ filled_by call
fills_neither (Read o) f g h = absurd (f o refl)
fills_neither (Write o) f g h = refl
fills_neither (Alloc o) f g h = absurd (g o refl)
fills_neither (AllocContig o) f g h = absurd (h o refl)
fills_neither (Create o) f g h = refl
fills_neither (Delete o) f g h = refl
fills_neither (DeleteTree o) f g h = refl
fills_neither (KeyRead o) f g h = refl
fills_neither (KeyWrite o) f g h = refl
fills_neither (Renew o) f g h = refl
fills_neither (Force o) f g h = refl
fills_neither Free f g h = refl
fills_neither (Tick o) f g h = refl
fills_neither Audit f g h = refl
fills_neither (Rent o) f g h = refl
fills_neither (Sweep o) f g h = refl

pub returns-in-Alloc : goal.returns-in-Alloc
returns-in-Alloc c = rw c.in-Alloc.is

pub returns-in-AllocContig : goal.returns-in-AllocContig
returns-in-AllocContig c = rw c.in-AllocContig.is

pub returns-in_default : goal.returns-in_default
returns-in_default c = fills_neither c.args.call c.in_default.not-Read c.in_default.not-Alloc c.in_default.not-AllocContig
