-- The loop over the pieces of an input: what it has reached, and what one piece more makes of it.
use Prim.Native.Nat.{ℕ, ◌+◌, ◌≤◌, ◌<◌}
use mathlib.Core.Path.{◌≡◌, refl, sym, ap, ◌∙◌}
use mathlib.Core.Bool.{Bool, true, false, ◌&&◌, ◌||◌}
use mathlib.Core.List.{List, [], ◌∷◌, ◌++◌, append-nil}
use native.Mathlib.Omega.{arith}
use lib.Dec.{ltb}
use lib.ListN.{length, take, length-append}
use lib.Seq.{length-take-le}
use borrow.Author.Tests.{ltb-true, ltb-false}
use Rattle.card.specs.Card.{Card}
use Rattle.card.specs.Lent.{SameTables, lent_card}
use Rattle.laws.specs.ListsLaws.{and_left, and_right, or_false_left, or_false_right}
use Rattle.card.specs.declared.LentCard.{LentCard}
use Rattle.input.specs.Play.{Play, play}
use Rattle.input.specs.declared.Stop.{Stop}
use Rattle.cardplay.specs.Progress.{is_full, ProgressIs}
use Rattle.cardplay.specs.Pieces.{Pieces}
use Rattle.cardplay.proofs.PiecesLaws.{pieces_read, pieces_played}
use Rattle.cardplay.proofs.PlayLonger.{PlaysNothing, play_halted}

-- The loop's invariant: the tables are those that were lent, the buffers keep their lengths, and the play has come so far.
pub record PiecesLoop (before now : LentCard) (buffer output : List ℕ) (stop : Stop) (records filled : ℕ) (wrote on : Bool) : Type 0 where
  pub same : SameTables before now
  pub size_buffer : length buffer ≡ 65536
  pub size_output : length output ≡ 65536
  pub within : filled ≤ length buffer
  pub pieces : Pieces (lent_card before) records (lent_card now) (take filled buffer)
  pub halts : on ≡ false → wrote ≡ true → PlaysNothing stop records (lent_card now) (take filled buffer)

-- ---- one piece more

no_bytes : (xs : List ℕ) → length xs ≤ 0 → xs ≡ []
no_bytes [] h = refl
no_bytes (x ∷ xs) h = absurd (omega arith)

module _ (n : ℕ) (c : Card) (xs : List ℕ) (small : ℕ) {stop : Stop} {records : ℕ} {after : Card} {buffer : List ℕ} {filled : ℕ} {before to : List ℕ} {wrote on : Bool}
    (t : ProgressIs (play n c xs small) stop records after buffer filled before to wrote on) where
  abbrev piece : Play
  piece = play n c xs small

  pub pieces_more : {c₀ : Card} → Pieces c₀ n c xs → Pieces c₀ records after (take filled buffer)
  pieces_more s = rw (t.counts, t.leaves, t.rests) (pieces_read (pieces_played s small) t.more)

  -- Where the play does not go on, nothing more has been read.
  pub pieces_halt : on ≡ false → wrote ≡ true → PlaysNothing stop records after (take filled buffer)
  pieces_halt o w =
      let idle : (is_full stop || ltb (length piece.left) filled) ≡ false = sym (ap (λ (b : Bool). b && (is_full stop || ltb (length piece.left) filled)) w) ∙ sym t.goes ∙ o in
      let unread : ltb (length piece.left) filled ≡ false = or_false_right (is_full stop) (ltb (length piece.left) filled) idle in
      let long : length piece.left + length t.more ≡ length (take filled buffer) = sym (ap length t.rests ∙ length-append piece.left t.more) in
      let nothing : t.more ≡ [] = no_bytes t.more (omega (arith, long, length-take-le filled buffer t.within, ltb-false (length piece.left) filled unread)) in
      let same : take filled buffer ≡ piece.left = t.rests ∙ ap (λ (ys : List ℕ). piece.left ++ ys) nothing ∙ append-nil piece.left in
      rw (t.counts, t.leaves, same, t.stops) (play_halted n c xs small (ap is_full (sym t.stops) ∙ or_false_left (is_full stop) (ltb (length piece.left) filled) idle))

-- ---- the loop's test

pub going : (on : Bool) (turns records limit : ℕ) → ((on && ltb 0 turns) && ltb records limit) ≡ true → (0 < turns) × (records < limit)
going on turns records limit e =
    let counting : (on && ltb 0 turns) ≡ true = and_left (on && ltb 0 turns) (ltb records limit) e in
    (ltb-true 0 turns (and_right on (ltb 0 turns) counting), ltb-true records limit (and_right (on && ltb 0 turns) (ltb records limit) e))
