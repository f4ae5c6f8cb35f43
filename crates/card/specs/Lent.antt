-- A card on lent tables: what a contract says of one, with a word for each table.
use Rattle.std.specs.Prelude.{ℕ, List, [], ◌≡◌}
use Rattle.card.specs.Card.{Card, card}
use Rattle.card.specs.Plan.{Result}
use Rattle.card.specs.Promises.{Is}
use Rattle.card.specs.declared.Info.{Info}
use Rattle.card.specs.declared.LentCard.{LentCard}
use Rattle.card.specs.declared.SharedCard.{SharedCard}
use Rattle.card.specs.Answers.{Answer}

-- What a lent value is at a function's entry and at its exit.
pub record Held (A : Type 0) : Type 0 where
  pub entry : A
  pub exit : A

-- One that is lent shared is the same at both.
abbrev pub kept : {A : Type 0} → A → Held A
kept now = record { entry = now; exit = now }

-- One that is lent to be changed.
abbrev pub changed : {A : Type 0} → A → A → Held A
changed old new = record { entry = old; exit = new }

-- A lent slice.
abbrev pub Lent : Type 0
Lent = Held (List ℕ)

abbrev pub LentNumber : Type 0
LentNumber = Held ℕ

-- The card on tables that hold so much.
abbrev pub lent : Info → List ℕ → List ℕ → List ℕ → List ℕ → List ℕ → List ℕ → List ℕ → Card
lent info flags keys counts pointers multiplicities windows contents = card info flags keys counts pointers multiplicities windows contents

abbrev pub at_entry : Info → Lent → Lent → Lent → Lent → Lent → Lent → Lent → Card
at_entry info flags keys counts pointers multiplicities windows contents =
    lent info flags.entry keys.entry counts.entry pointers.entry multiplicities.entry windows.entry contents.entry

abbrev pub at_exit : Info → Lent → Lent → Lent → Lent → Lent → Lent → Lent → Card
at_exit info flags keys counts pointers multiplicities windows contents =
    lent info flags.exit keys.exit counts.exit pointers.exit multiplicities.exit windows.exit contents.exit

-- The card on the tables that are lent.
abbrev pub lent_card : LentCard → Card
lent_card t = card t.info t.flags.now t.keys.now t.counts.now t.pointers.now t.multiplicities.now t.windows.now t.contents.now

abbrev pub shared_card : SharedCard → Card
shared_card t = card t.info t.flags.now t.keys.now t.counts.now t.pointers.now t.multiplicities.now t.windows.now t.contents.now

-- What is lent to be read is what the card's tables hold.
pub record Shows (s : SharedCard) (t : LentCard) : Type 0 where
  pub info : s.info ≡ t.info
  pub flags : s.flags.now ≡ t.flags.now
  pub keys : s.keys.now ≡ t.keys.now
  pub counts : s.counts.now ≡ t.counts.now
  pub pointers : s.pointers.now ≡ t.pointers.now
  pub multiplicities : s.multiplicities.now ≡ t.multiplicities.now
  pub windows : s.windows.now ≡ t.windows.now
  pub contents : s.contents.now ≡ t.contents.now

-- The tables are those that were lent before: what is stored in them their lender finds.
abbrev pub SameTables : LentCard → LentCard → Type 0
SameTables t u =
    (u.flags.ghost_name ≡ t.flags.ghost_name)
    × (u.keys.ghost_name ≡ t.keys.ghost_name)
    × (u.counts.ghost_name ≡ t.counts.ghost_name)
    × (u.pointers.ghost_name ≡ t.pointers.ghost_name)
    × (u.multiplicities.ghost_name ≡ t.multiplicities.ghost_name)
    × (u.windows.ghost_name ≡ t.windows.ghost_name)
    × (u.contents.ghost_name ≡ t.contents.ghost_name)

-- What a function answers and leaves, its buffers among it, is what the rule makes of the card at its entry.
abbrev pub Performs : (Card → Result) → LentCard → LentCard → Answer → List ℕ → List ℕ → Type 0
Performs rule old new answer out places = Is (rule (lent_card old)) answer (lent_card new) out places

-- The same of one that changes nothing of the card and is lent no buffer.
abbrev pub Keeps : (Card → Result) → LentCard → Answer → Type 0
Keeps rule card answer = Is (rule (lent_card card)) answer (lent_card card) [] []
