-- What a call answers: a refusal, done with no result, or done with one number.
use Rattle.std.specs.Prelude.{ℕ, Option, Some, None, Result, Ok, Err}
use Rattle.card.specs.declared.Refusal.{Refusal}

abbrev pub Answer : Type 0
Answer = Result (Option ℕ) Refusal

abbrev pub Refused : Refusal → Answer
Refused r = Err r

abbrev pub Done : Answer
Done = Ok None

abbrev pub Value : ℕ → Answer
Value v = Ok (Some v)
