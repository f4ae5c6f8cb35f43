-- Laws of what a play has come to: a turn by what was found in the input.
use Rattle.std.specs.Prelude.{ℕ, ◌≤◌, ◌≡◌, refl, List, length, drop, Err, Some, None}
use Rattle.std.proofs.Common.{ap, ◌∙◌, subst, arith}
use Rattle.card.specs.Card.{Card}
use Rattle.card.specs.declared.Port.{Port}
use Rattle.decoding.specs.Decode.{ended, refused, decode}
use Rattle.lines.specs.WrittenLaws.{written_none}
use Rattle.input.specs.Play.{Turn, halted, fault}
use Rattle.input.specs.Found.{Found, NothingIs, FoundIs}
use Rattle.input.specs.Played.{WroteIs, TurnIs}
use Rattle.input.specs.declared.Stop.{Stop}
use Rattle.input.specs.declared.Stop.TheVariants.{Ended, Short, Refused, Full}

-- ---- a turn, by what was found

module _ (wire : Port) (want : Turn) (room : ℕ) (c : Card) (input : List ℕ) (from : ℕ) (fits : from ≤ length input) (before : List ℕ) (at : ℕ) where
  -- Nothing is changed or written.
  pub turn_halted : (stop : Stop) → want ≡ halted stop c (drop from input) → TurnIs want room (Some stop) c input from before at before at
  turn_halted stop e = rw e (record { stops = refl; leaves = refl; rests = refl; within = fits; writes = written_none before at; short = omega arith })

  -- No whole record was found.
  module _ (at_end : decode wire (drop from input) ≡ ended → want ≡ halted Ended c (drop from input)) (at_fault : decode wire (drop from input) ≡ refused → want ≡ halted (fault wire (drop from input)) c (drop from input)) where
    nothing_turned : (stop : Stop) → NothingIs wire (drop from input) stop → TurnIs want room (Some stop) c input from before at before at
    nothing_turned Ended h = turn_halted Ended (at_end h)
    nothing_turned Short h = turn_halted Short (at_fault h.0 ∙ ap (λ (s : Stop). halted s c (drop from input)) h.1)
    nothing_turned Refused h = turn_halted Refused (at_fault h.0 ∙ ap (λ (s : Stop). halted s c (drop from input)) h.1)
    nothing_turned Full h = absurd h

    pub turn_nothing : {found : Found} {stop : Stop} → FoundIs wire input from found → found ≡ Err stop → TurnIs want room (Some stop) c input from before at before at
    turn_nothing {stop = stop} f e = nothing_turned stop (subst (FoundIs wire input from) e f)

  -- A whole record was found, and its call was made.
  pub turn_whole : {made : Card} {bytes : List ℕ} {small next : ℕ} {after : Card} {to : List ℕ} {behind : ℕ} → want ≡ record { stop = None; output = bytes; after = made; left = drop next input }
      → next ≤ length input → small ≤ room → WroteIs made bytes small after before at to behind → TurnIs want room None after input next before at to behind
  turn_whole {bytes = bytes} {small} e h k w =
      let short : length bytes ≤ room = omega (arith, w.short) in
      rw e (record { stops = refl; leaves = w.leaves; rests = refl; within = h; writes = w.writes; short = short })
