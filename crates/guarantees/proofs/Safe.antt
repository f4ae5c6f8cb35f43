-- What the rules guarantee of every call, at either port and on any card, in one record.
use Rattle.card.specs.Card.{Card}
use Rattle.card.specs.Session.{Sent}
use Rattle.card.specs.Statements.Safe.{SafeCall}
use Rattle.guarantees.proofs.Sound.{done_sound}
use Rattle.guarantees.proofs.Unchanged.{refusal_unchanged}
use Rattle.guarantees.proofs.Untouched.{untouched}

pub safe_call : (c : Card) (s : Sent) → SafeCall c s
safe_call c s = record {
  refusal_unchanged = refusal_unchanged s.port c s.request;
  keeps_sound = done_sound s.port c s.request;
  free_untouched = untouched s.port c s.request;
}
