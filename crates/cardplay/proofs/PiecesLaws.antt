-- Laws of an input played in pieces: each piece that is read or played takes it on, and in the end it is the play of the whole input.
use Prim.Native.Nat.{ℕ, ◌+◌, ◌-◌, ◌≤◌}
use mathlib.Core.Path.{◌≡◌, sym, ap, ◌∙◌, subst}
use mathlib.Core.Bool.{Bool, true, false}
use mathlib.Core.List.{List, [], ◌++◌, append_assoc, append-nil}
use native.Mathlib.Omega.{arith}
use native.Mathlib.Nat.{sub-zero}
use lib.ListN.{length, length-append}
use Rattle.card.specs.Card.{Card}
use Rattle.lines.specs.Lines.{line_room, last_line}
use Rattle.input.specs.Play.{Play, output_before, play, end_number, transcript}
use Rattle.input.specs.declared.Stop.{Stop}
use Rattle.cardplay.specs.Pieces.{Pieces, PlayedWhole, PlayedInPieces}
use Rattle.cardplay.proofs.PlayLonger.{PlaysNothing, output_output, play_longer}

-- ---- piece by piece

pub pieces_none : (c₀ : Card) → Pieces c₀ 0 c₀ []
pieces_none c₀ = record { input = []; output = []; total = λ more room h. ap (play 0 c₀ more) (sym (sub-zero room)) }

module _ {c₀ : Card} {records : ℕ} {c : Card} {left : List ℕ} (s : Pieces c₀ records c left) where
  pub pieces_read : (ys : List ℕ) → Pieces c₀ records c (left ++ ys)
  pieces_read ys = record {
    input = s.input ++ ys;
    output = s.output;
    total = λ more room h.
        ap (λ (zs : List ℕ). play 0 c₀ zs room) (append_assoc s.input ys more)
        ∙ s.total (ys ++ more) room h
        ∙ ap (λ (zs : List ℕ). output_before s.output (play records c zs (room - length s.output))) (sym (append_assoc left ys more));
  }

  pub pieces_played : (small : ℕ) → let p : Play = play records c left small in Pieces c₀ p.records p.after p.left
  pieces_played small =
      let p : Play = play records c left small in
      let long : length (s.output ++ p.output) ≡ length s.output + length p.output = length-append s.output p.output in
      record {
        input = s.input;
        output = s.output ++ p.output;
        total = λ more room h.
            s.total more room (omega arith)
            ∙ ap (output_before s.output) (play_longer records c left small more (room - length s.output) (omega arith))
            ∙ output_output s.output p.output room p.records p.after (p.left ++ more);
      }

  module _ {stop : Stop} (halts : PlaysNothing stop records c left) where
    ends : (room : ℕ) → length s.output + line_room ≤ room → play 0 c₀ s.input room ≡ record { stop = stop; output = s.output; records = records; after = c; left = left }
    ends room h =
        ap (λ (zs : List ℕ). play 0 c₀ zs room) (sym (append-nil s.input))
        ∙ s.total [] room h
        ∙ ap (λ (zs : List ℕ). output_before s.output (play records c zs (room - length s.output))) (append-nil left)
        ∙ ap (output_before s.output) (halts (room - length s.output) (omega arith))
        ∙ ap (λ (ls : List ℕ). record { stop = stop; output = ls; records = records; after = c; left = left }) (append-nil s.output)

    -- What was written is the whole play of what was read.
    pub pieces_whole : PlayedWhole c₀ stop records c
    unfolding transcript
    pieces_whole = record {
      input = s.input;
      output = s.output;
      left = left;
      plays = ends;
      writes = λ room h. ap (λ (p : Play). p.output ++ last_line p.records (end_number p.stop)) (ends room h);
    }

-- ---- its end

pub played_in_pieces : {c₀ : Card} {stop : Stop} {records : ℕ} {after : Card} {left : List ℕ} {wrote on : Bool} → Pieces c₀ records after left → (on ≡ false → wrote ≡ true → PlaysNothing stop records after left)
    → PlayedInPieces c₀ stop records after wrote on
played_in_pieces {left = left} s h = record { left = left; pieces = s; whole = λ o w. pieces_whole s (h o w) }

-- The same from an equal card.
pub pieces_from : {c d : Card} {stop : Stop} {records : ℕ} {after : Card} {wrote on : Bool} → c ≡ d → PlayedInPieces c stop records after wrote on → PlayedInPieces d stop records after wrote on
pieces_from {stop = stop} {records} {after} {wrote} {on} e s = subst (λ (x : Card). PlayedInPieces x stop records after wrote on) e s
