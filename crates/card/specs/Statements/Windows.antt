-- What moves the end of a window. A host's READ, WRITE or RENEW of the block, done by an interval that is not 0, sets it: by the request 2026-04 to the
-- later of its present end and T + interval. FORCE, a key change and freeing set it to 0, and so shorten it. Nothing else moves it.
use Rattle.std.specs.Prelude.{ℕ, ◌+◌, max, ◌≤◌, true, false, ◌⊎◌, ◌≡◌}
use Rattle.card.specs.Card.{Public, Card, allocated, window_end}
use Rattle.card.specs.Plan.{Result}
use Rattle.card.specs.Calls.{is_done, window_after, mode_of}
use Rattle.card.specs.Session.{Request, port_of, perform}
use Rattle.card.specs.declared.Port.{Port}
use Rattle.card.specs.declared.Port.TheVariants.{Host}
use Rattle.card.specs.declared.Mode.{Mode}
use Rattle.card.specs.declared.Mode.TheVariants.{Reading, Writing}
use Rattle.card.specs.Answers.{Done}
use Rattle.card.specs.declared.Call.{Call}
use Rattle.card.specs.declared.Call.TheVariants.{Renew, Force, Read, Write, KeyRead, KeyWrite}
use Rattle.card.specs.declared.ForceOperands.{ForceOperands}
use Rattle.card.specs.declared.KeyOperands.{KeyOperands}
use Rattle.card.specs.declared.TransferOperands.{TransferOperands}
use Rattle.card.specs.declared.RenewOperands.{RenewOperands}

-- The calls that set the window of a block for a mode, by an interval.
pub data SetsWindow : Call → Mode → ℕ → ℕ → Type 0 where
  by_read : (o : TransferOperands) → SetsWindow (Read o) Reading o.block o.interval
  by_write : (o : TransferOperands) → SetsWindow (Write o) Writing o.block o.interval
  by_renew : (o : RenewOperands) → SetsWindow (Renew o) (mode_of o.mode) o.block o.interval

-- The call, judged as a host's and done with this result, sets the window by its interval.
pub record SetBy (port : Port) (c : Card) (call : Call) (result : Result) (m : Mode) (b : ℕ) : Type 0 where
  pub at_host : port_of port call ≡ Host
  pub answer : result.answer ≡ Done
  pub interval : ℕ
  pub sets : SetsWindow call m b interval
  pub end : window_end result.after.public m b ≡ window_after c.public m b interval

-- On any card, at either port: a window that a call leaves with another end than it had, and not 0, is set by that call.
abbrev pub WindowSetBy : Type 0
WindowSetBy =
    (port : Port) (c : Card) (q : Request) (m : Mode) (b : ℕ)
    → (window_end (perform port c q).after.public m b ≡ window_end c.public m b → ⊥)
    → (window_end (perform port c q).after.public m b ≡ 0 → ⊥)
    → SetBy port c q.call (perform port c q) m b

-- "A window's end becomes the later of its present end and T + interval. READ, WRITE and RENEW all take this up": whichever of them is done for a host,
-- by an interval that is not 0.
abbrev pub WindowLater : Type 0
WindowLater =
    (port : Port) (c : Card) (q : Request) (m : Mode) (b interval : ℕ) → SetsWindow q.call m b interval → port_of port q.call ≡ Host
    → (interval ≡ 0 → ⊥)
    → is_done (perform port c q).answer ≡ true
    → window_end (perform port c q).after.public m b ≡ max (window_end c.public m b) (c.public.info.time + interval)

-- "An interval of 0 still leaves it": READ and WRITE leave every window as it was, at either port; RENEW, which refuses it, too.
abbrev pub IntervalZeroKept : Type 0
IntervalZeroKept =
    (port : Port) (c : Card) (q : Request) (m : Mode) (b interval : ℕ) → SetsWindow q.call m b interval → interval ≡ 0
    → (perform port c q).after.public.windows ≡ c.public.windows

-- "only FORCE, a key change, freeing and FORMAT shorten a window": what does so to the windows of block b, from the public part p to q. FORMAT is no call
-- of either port.
pub data Shortens (p q : Public) (b : ℕ) : Call → Type 0 where
  by_force : (o : ForceOperands) → o.block ≡ b → Shortens p q b (Force o)
  by_key_read : (o : KeyOperands) → o.block ≡ b → Shortens p q b (KeyRead o)
  by_key_write : (o : KeyOperands) → o.block ≡ b → Shortens p q b (KeyWrite o)
  by_freeing : {call : Call} → allocated p b ≡ true → allocated q b ≡ false → Shortens p q b call

-- On any card, at either port, whatever the call and its answer, no window of any block ends sooner than before, but by FORCE or a key change of that
-- block, or because the block is freed.
abbrev pub WindowsKept : Type 0
WindowsKept =
    (port : Port) (c : Card) (q : Request) (m : Mode) (b : ℕ)
    → (window_end c.public m b ≤ window_end (perform port c q).after.public m b)
    ⊎ Shortens c.public (perform port c q).after.public b q.call
