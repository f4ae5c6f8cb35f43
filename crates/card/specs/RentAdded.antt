-- 2026-08: what calls add to the total, told by the calls, their answers and the cards before them.
use Rattle.std.specs.Prelude.{ℕ, ◌+◌, cond, List, [], ◌∷◌}
use Rattle.card.specs.Card.{Card}
use Rattle.card.specs.Rent.{rent_for}
use Rattle.card.specs.Calls.{is_done}
use Rattle.card.specs.Session.{Sent, performed, traits}

-- "Each TICK of n adds n × the allocated non-root blocks": those of the card that it finds, and nothing if it is refused. Other calls last no seconds.
unfoldable pub added : Card → Sent → ℕ
added c s = cond (is_done (performed c s).answer) (rent_for c.public (traits s.request.call).seconds) 0

-- The same of a list of calls at either port, each on the card that the one before left, added up.
unfoldable pub added_in_all : Card → List Sent → ℕ
added_in_all c [] = 0
added_in_all c (s ∷ ss) = added c s + added_in_all (performed c s).after ss
