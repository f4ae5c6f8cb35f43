-- What the checks of DELETE_TREE find.
use Rattle.std.specs.Prelude.{ℕ, List, [], Result, Ok, Err}
use Rattle.card.specs.Card.{Card}
use Rattle.card.specs.Session.{Request, request}
use Rattle.card.specs.declared.Port.{Port}
use Rattle.card.specs.declared.Refusal.{Refusal}
use Rattle.card.specs.declared.Call.TheVariants.{DeleteTree}
use Rattle.card.specs.declared.DeleteOperands.{DeleteOperands}
use Rattle.checks.specs.Checked.{Refuses, Passes}
use Rattle.trees.specs.Freed.{Freed}

abbrev pub tree_request : DeleteOperands → Request
tree_request o = request (DeleteTree o) [] [] []

-- The call's refusal, or how many blocks are freed, which are then marked.
pub data TreeFound (port : Port) (c : Card) (o : DeleteOperands) (marks : List ℕ) : Result ℕ Refusal → Type 0 where
  refuses : {r : Refusal} → Refuses port c (tree_request o) r → TreeFound port c o marks (Err r)
  frees : {count : ℕ} → Passes port c (tree_request o) → Freed c.public o.source o.destination marks count → TreeFound port c o marks (Ok count)
