-- The calls that were performed are the first of those that the bytes hold.
use Rattle.std.specs.Prelude.{ℕ, ◌≡◌, refl, List, [], ◌∷◌, ◌++◌, map, length, take}
use Rattle.std.proofs.Common.{sym, ap, ap₂, ◌∙◌, zero-add}
use Rattle.card.specs.Card.{Card}
use Rattle.card.specs.Session.{Sent, after_all}
use Rattle.input.specs.Play.{Play}
use Rattle.input.specs.Arrivals.{Arrived, arrivals, sent_with}
use Rattle.input.specs.Performed.{Manner, PerformedBy}

front : (f : Arrived → Sent) (made behind : List Arrived) → take (length made) (map f (made ++ behind)) ≡ map f made
front f [] behind = refl
front f (a ∷ made) behind = ap (λ (ss : List Sent). f a ∷ ss) (front f made behind)

-- The card that is left is the one that the first of the calls leave, as many as are counted.
pub left_by_performed : {m : Manner} {c : Card} {xs : List ℕ} {room : ℕ} {p : Play} → PerformedBy m 0 c xs room p
    → p.after ≡ after_all c (take p.records (map (sent_with (m.size c.public.info.bytes)) (arrivals m.wire xs).records))
left_by_performed {m} {c} q =
    let send : Arrived → Sent = sent_with (m.size c.public.info.bytes) in
    q.leaves
    ∙ ap (after_all c) (sym (ap₂ (λ (n : ℕ) (held : List Arrived). take n (map send held)) (q.counts ∙ zero-add (length q.made)) q.held ∙ front send q.made q.behind))
